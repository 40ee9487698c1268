-- The face steps of a skeleton, told by what follows its items.
use Rattle.std.proofs.Common.{◌≡◌, ℕ, ◌+◌, ◌*◌, ◌<◌, ◌==◌, if◌then◌else◌, inl, inr, Bool, true, List, [], ◌∷◌, ◌++◌, length, slice_index_or, refl, sym, ap, ◌∙◌, subst, arith, eq-eqb, eqb-true}
use Rattle.std.proofs.lemmas.Bool.{cases_eq, or_left, or_right}
use Rattle.std.proofs.lemmas.List.{get_or_push, get_or_append_left}
use Rattle.permutations.specs.Members.{place_of}
use Rattle.permutations.proofs.Relation.{same-tests}
use Rattle.permutations.proofs.Successor.{successor-member}
use Rattle.multigraph.specs.Graph.{Multigraph, ends_of}
use Rattle.rotations.specs.Rotation.{order_at}
use Rattle.faces.specs.Euler.{dart_from}
use Rattle.faces.proofs.DartLemmas.{onward}
use Rattle.pair_split.specs.Tutte.{Node, node_at, node_item}
use Rattle.skeletons.specs.Items.{has_vertex, IsBlockTree}
use Rattle.skeletons.specs.Families.{skeleton_graph, system_at, AreSkeletonSystems}
use Rattle.skeletons.proofs.NodeItems.{item-vertex}
use Rattle.skeletons.proofs.Places.{round-item, item-round}
use Rattle.skeleton_runs.proofs.NodeFits.{item-first}
use Rattle.skeleton_runs.proofs.SkeletonGraph.{place-once, graph-ends}
use Rattle.skel_compose.specs.Followers.{IsItemEnd, item_place, row_at, follower, HasFollowers}

-- what is read from the table is what follows
pub next-is : (nodes : List Node) (table : List (List ℕ)) (k i v : ℕ) → IsItemEnd nodes k i v → (place x : ℕ) → place ≡ item_place nodes k i v → x ≡ slice_index_or (row_at table k) place 0
    → (family : List (List (List ℕ))) → HasFollowers nodes family table → x ≡ follower nodes family k i v
next-is nodes table k i v m place x p e family h = e ∙ ap (λ z. slice_index_or (row_at table k) z 0) p ∙ h k i v m

module _ (g : Multigraph) (nodes : List Node) (b : IsBlockTree g nodes) (k : ℕ) (dk : k < length nodes) where
  abbrev vertices : List ℕ
  vertices = (node_at nodes k).vertices

  -- the dart of an item that leaves one of its ends, in the node and in the skeleton
  pub place-dart : (j v : ℕ) → j < length (node_at nodes k).items → has_vertex nodes k v ≡ true → item_place nodes k j v ≡ dart_from (skeleton_graph nodes k) (place_of (node_at nodes k).vertices v) j
  place-dart j v l h = ap (λ (t : Bool). if t then 2 * j else 2 * j + 1)
      (same-tests ((node_item nodes k j).a == v) (place_of vertices (node_item nodes k j).a == place_of vertices v)
      (λ t. eq-eqb (place_of vertices (node_item nodes k j).a) (place_of vertices v) (ap (place_of vertices) (eqb-true (node_item nodes k j).a v t)))
      (λ t. eq-eqb (node_item nodes k j).a v (place-once vertices (node_item nodes k j).a v (item-first g nodes b.tree k j dk l) h (eqb-true (place_of vertices (node_item nodes k j).a) (place_of vertices v) t)))
      ∙ sym (ap (λ (z : ℕ × ℕ). z.0 == place_of vertices v) (graph-ends g nodes b k dk j l)))

  -- both ends of an item
  pub ends-item : (i : ℕ) → i < length (node_at nodes k).items → IsItemEnd nodes k i (node_item nodes k i).a × IsItemEnd nodes k i (node_item nodes k i).b
  ends-item i l = (
    record { is_node = dk; is_item = l; end = or_left ((node_item nodes k i).a == (node_item nodes k i).a) ((node_item nodes k i).b == (node_item nodes k i).a) (eq-eqb (node_item nodes k i).a (node_item nodes k i).a refl) },
    record { is_node = dk; is_item = l; end = or_right ((node_item nodes k i).a == (node_item nodes k i).b) ((node_item nodes k i).b == (node_item nodes k i).b) (eq-eqb (node_item nodes k i).b (node_item nodes k i).b refl) },
  )

  module _ (family : List (List (List ℕ))) (f : AreSkeletonSystems nodes family) (i v : ℕ) (m : IsItemEnd nodes k i v) where
    has : has_vertex nodes k v ≡ true
    has = item-vertex g nodes b.tree k v i dk m.is_item m.end

    -- what follows an item is an item
    pub follower-in : follower nodes family k i v < length (node_at nodes k).items
    follower-in = (round-item g nodes b.tree k dk (system_at family k) v (follower nodes family k i v) (f.systems k dk) has
        (successor-member (order_at (system_at family k) (place_of (node_at nodes k).vertices v)) i (item-round g nodes b.tree k dk (system_at family k) v i (f.systems k dk) has m.is_item m.end))).0

    -- and its dart is the one by which a face continues
    pub follower-dart : (x : ℕ) → x ≡ follower nodes family k i v → item_place nodes k x v ≡ dart_from (skeleton_graph nodes k) (place_of (node_at nodes k).vertices v) (follower nodes family k i v)
    follower-dart x e = ap (λ z. item_place nodes k z v) e ∙ place-dart (follower nodes family k i v) v follower-in has

  -- the steps over both ends of an item
  module _ (family : List (List (List ℕ))) (i x v : ℕ) (l : i < length (node_at nodes k).items) (e : x ≡ dart_from (skeleton_graph nodes k) (place_of (node_at nodes k).vertices v) (follower nodes family k i v)) where
    pub over-second : v ≡ (node_item nodes k i).b → x ≡ onward (skeleton_graph nodes k) (system_at family k) (ends_of (skeleton_graph nodes k) i).1 i
    over-second q = e ∙ ap (λ z. dart_from (skeleton_graph nodes k) (place_of vertices z) (follower nodes family k i z)) q ∙ sym (ap (λ (p : ℕ × ℕ). onward (skeleton_graph nodes k) (system_at family k) p.1 i) (graph-ends g nodes b k dk i l))

    pub over-first : v ≡ (node_item nodes k i).a → x ≡ onward (skeleton_graph nodes k) (system_at family k) (ends_of (skeleton_graph nodes k) i).0 i
    over-first q = e ∙ ap (λ z. dart_from (skeleton_graph nodes k) (place_of vertices z) (follower nodes family k i z)) q ∙ sym (ap (λ (p : ℕ × ℕ). onward (skeleton_graph nodes k) (system_at family k) p.0 i) (graph-ends g nodes b k dk i l))

-- the steps of one node more
pub steps-push : (IsRow : ℕ → List ℕ → Type 0) (rows new : List (List ℕ)) (row : List ℕ) (k : ℕ) → length rows ≡ k → ((j : ℕ) → j < k → IsRow j (row_at rows j)) → new ≡ rows ++ row ∷ [] → IsRow k row → (j : ℕ) → j < k + 1 → IsRow j (row_at new j)
steps-push IsRow rows new row k number old e is j l = elim (cases_eq j k) [
  | inl q ↦ subst (λ z. IsRow z (row_at new z)) (sym q) (subst (IsRow k) (sym (ap (λ (z : List (List ℕ)). row_at z k) e ∙ get_or_push rows row [] k number)) is)
  | inr n ↦ let m : j < k = omega (arith, l, n) in
      subst (IsRow j) (sym (ap (λ (z : List (List ℕ)). row_at z j) e ∙ get_or_append_left rows (row ∷ []) [] j (omega (arith, m, number)))) (old j m)
]
