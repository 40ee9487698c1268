-- The skeleton of a node made as a graph of its own: places found by binary search.
use Rattle.std.proofs.Common.{◌≡◌, ℕ, ◌<◌, ◌≤◌, inl, inr, true, List, length, get_or, None, Ok, Err, refl, sym, ap, ◌∙◌, subst, arith}
use Rattle.std.specs.List.Sorted.{IsBinarySearchResult}
use Rattle.std.specs.Ordering.{nat_cmp}
use Rattle.std.proofs.lemmas.Bool.{cases_eq}
use Rattle.std.proofs.lemmas.List.Sorted.{searched}
use Rattle.permutations.specs.Members.{is_member, place_of}
use Rattle.multigraph.specs.Graph.{Multigraph, IsWithinLimits}
use Rattle.multigraph.specs.Part.{Rises, IsPlace}
use Rattle.multigraph.proofs.Places.{rises-once, place-missed}
use Rattle.pair_split.specs.Tutte.{Node, node_at}
use Rattle.pair_split.specs.declared.components.Item.{Item}
use Rattle.skeletons.specs.Items.{IsBlockTree}
use Rattle.skeletons.proofs.NodeItems.{nth_item}
use Rattle.permutations.proofs.Places.{place-below, place-holds}
use Rattle.skeleton_runs.proofs.NodeFits.{item-first, item-second}
use Rattle.skeleton_runs.proofs.SkeletonGraph.{skeleton-limits}

-- along a rising list no number falls
rises-weak : (l : List ℕ) → Rises l → (i j : ℕ) → i ≤ j → j < length l → get_or l i 0 ≤ get_or l j 0
rises-weak l r i j le lt = elim (cases_eq i j) [
  | inl e ↦ omega (arith, ap (λ (k : ℕ). get_or l k 0) e)
  | inr n ↦ omega (arith, r i j (omega (arith, le, n)) lt)
]

-- a search that ends at the number ends at its place
pub place-there : (l : List ℕ) (x i : ℕ) → Rises l → is_member x l ≡ true → IsBinarySearchResult (λ y. nat_cmp y x) l (Ok i) → i ≡ place_of l x
place-there l x i r m h =
    let s = searched l x (Ok i) h (rises-weak l r) in
    rises-once l r i (place_of l x) s.0 (place-below l x m) (s.1 ∙ sym (place-holds l x m))

-- a member is found
pub place-not_missed : (l : List ℕ) (x i : ℕ) → Rises l → is_member x l ≡ true → IsBinarySearchResult (λ y. nat_cmp y x) l (Err i) → ⊥
place-not_missed l x i r m h =
    let p : IsPlace l x None = place-missed l x i r h in
    p.none.0 refl (place_of l x) (place-below l x m) (place-holds l x m)

module _ (g : Multigraph) (nodes : List Node) (b : IsBlockTree g nodes) (k : ℕ) (d : k < length nodes) where
  -- the vertices of a node are few, and rise
  pub vertices-few : IsWithinLimits g → length (node_at nodes k).vertices ≤ 20000
  vertices-few limits = (skeleton-limits g nodes b k d limits).few_vertices

  pub vertices-rise : (vertices : List ℕ) → vertices ≡ (node_at nodes k).vertices → Rises vertices
  vertices-rise vertices e = subst Rises (sym e) (b.tree.in_order.vertices_rise k d)

  -- the ends of an item are among them
  pub ends-held : (items : List Item) (i : ℕ) → items ≡ (node_at nodes k).items → i < length items
      → (is_member (nth_item items i).a (node_at nodes k).vertices ≡ true) × (is_member (nth_item items i).b (node_at nodes k).vertices ≡ true)
  ends-held items i e l =
      let m : i < length (node_at nodes k).items = subst (λ (z : List Item). i < length z) e l in (
        ap (λ (z : List Item). is_member (nth_item z i).a (node_at nodes k).vertices) e ∙ item-first g nodes b.tree k i d m,
        ap (λ (z : List Item). is_member (nth_item z i).b (node_at nodes k).vertices) e ∙ item-second g nodes b.tree k i d m,
      )
