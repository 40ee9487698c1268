-- Items found by binary search, and the homes of edges.
use Rattle.std.proofs.Common.{◌≡◌, ℕ, ◌+◌, ◌<◌, ◌≤◌, inl, inr, true, Result, Ok, Err, IfOk, IfErr, List, [], length, slice_set, map, sym, ap, ◌∙◌, subst, arith}
use Rattle.std.specs.List.Sorted.{IsSearchInRange, IsBinarySearchResult, IsNonDecreasingBy}
use Rattle.std.specs.Ordering.{nat_cmp, ordering_index}
use Rattle.std.proofs.lemmas.Cmp.{ranked}
use Rattle.std.proofs.lemmas.List.Sorted.{IsNonDecreasingBy-from_default}
use Rattle.std.proofs.lemmas.Bool.Decides.{nat_tests}
use Rattle.std.proofs.lemmas.Bool.{cases_eq, cases_lt}
use Rattle.std.proofs.lemmas.List.{get_or-set_same, get_or-set_other, length-set}
use Rattle.permutations.specs.Members.{is_member, place_of}
use Rattle.multigraph.specs.Part.{Rises}
use Rattle.multigraph.specs.Graph.{Multigraph, edge_count, max_edges, IsWithinLimits}
use Rattle.rotations.specs.Rotation.{order_at}
use Rattle.faces.proofs.MapLists.{successor-map}
use Rattle.pair_split.proofs.Links.{stands-in}
use Rattle.permutations.specs.Cyclic.{successor}
use Rattle.permutations.proofs.Successor.{successor-member}
use Rattle.pair_split.specs.Tutte.{Node, components, node_at, node_item, IsTutte}
use Rattle.pair_split.specs.declared.components.Item.{Item}
use Rattle.pair_split.specs.declared.components.What.TheVariants.{Real}
use Rattle.skeletons.specs.Items.{item_key, ends_item, has_vertex, IsBlockTree}
use Rattle.skeletons.specs.Families.{system_at, AreSkeletonSystems, keys_in}
use Rattle.skeletons.proofs.NodeItems.{no_item, nth_item, node-in, stands-of, item-of, keys-once, item-vertex}
use Rattle.skeletons.proofs.Places.{round-item, item-round}
use Rattle.skeleton_runs.proofs.SkeletonGraph.{skeleton-limits, graph-edges}
use Rattle.skel_compose.specs.Homes.{home_at, IsHome, HasHomes}
use Rattle.skel_compose.proofs.Back.{items-rise}

-- a binary search by key, among items in increasing order of their keys, one of which has the key
module _ (items : List Item) (key : ℕ) (r : Rises (map item_key items)) where
  -- the comparisons with the key rise along the list
  comparisons-rise : IsNonDecreasingBy (λ (item : Item). ordering_index (nat_cmp item.key key)) items
  comparisons-rise = IsNonDecreasingBy-from_default (λ (item : Item). ordering_index (nat_cmp item.key key)) items no_item (λ i j le within. weak i j (at-most i j le within))
    where
      at-most : (i j : ℕ) → i ≤ j → j < length items → (nth_item items i).key ≤ (nth_item items j).key
      at-most i j le within = elim (cases_eq i j) [
        | inl same ↦ omega (arith, ap (λ z. (nth_item items z).key) same)
        | inr other ↦ omega (arith, items-rise items r i j (omega (arith, le, other)) within)
      ]

      weak : (i j : ℕ) → (nth_item items i).key ≤ (nth_item items j).key → ordering_index (nat_cmp (nth_item items i).key key) ≤ ordering_index (nat_cmp (nth_item items j).key key)
      weak i j le = grind (arith, nat_tests)

  -- it ends at that item
  pub searched : (answer : Result ℕ ℕ) → IsSearchInRange answer (length items) → IsBinarySearchResult (λ (item : Item). nat_cmp item.key key) items answer → (i : ℕ) × (i < length items) × ((nth_item items i).key ≡ key)
      → IfOk answer (λ place. (place < length items) × ((nth_item items place).key ≡ key)) × IfErr answer (λ place. ⊥)
  searched (Ok place) within equal held = ((within, ranked _ key _ (sym (equal no_item))), tt)
  searched (Err place) within parted held = (
    tt,
    elim (cases_lt held.0 place) [
      | inl l ↦ let less : (nth_item items held.0).key < key = ranked _ key _ (sym ((parted comparisons-rise).0 held.0 no_item (omega arith) l)) in omega (arith, less, held.2)
      | inr l ↦ let more : key < (nth_item items held.0).key = ranked _ key _ (sym ((parted comparisons-rise).1 held.0 no_item l held.1)) in omega (arith, more, held.2)
    ],
  )

-- an item as it is read from its list
pub is-home : (nodes : List Node) (k i e : ℕ) (items : List Item) → items ≡ (node_at nodes k).items → i < length items → (nth_item items i).what ≡ Real e → IsHome nodes k i e
is-home nodes k i e items q l w = record { is_item = subst (λ (z : List Item). i < length z) q l; is_edge = sym (ap (λ (z : List Item). (nth_item z i).what) q) ∙ w }

module _ (g : Multigraph) (nodes : List Node) (b : IsBlockTree g nodes) (k : ℕ) (d : k < length nodes) where
  -- the items of a node are few
  pub items-few : IsWithinLimits g → length (node_at nodes k).items ≤ max_edges
  items-few limits = subst (λ n. n ≤ max_edges) (graph-edges g nodes b k d) (skeleton-limits g nodes b k d limits).few_edges

  module _ (family : List (List (List ℕ))) (f : AreSkeletonSystems nodes family) (v i : ℕ) (l : i < length (node_at nodes k).items) (end : ends_item v (node_item nodes k i) ≡ true) where
    abbrev order : List ℕ
    order = order_at (system_at family k) (place_of (node_at nodes k).vertices v)

    has : has_vertex nodes k v ≡ true
    has = item-vertex g nodes b.tree k v i d l end

    -- has the item
    pub order-has : is_member i (order_at (system_at family k) (place_of (node_at nodes k).vertices v)) ≡ true
    order-has = item-round g nodes b.tree k d (system_at family k) v i (f.systems k d) has l end

    -- and what follows it
    pub behind-is : (x : ℕ) → x ≡ successor (order_at (system_at family k) (place_of (node_at nodes k).vertices v)) i
        → (x < length (node_at nodes k).items) × (ends_item v (node_item nodes k x) ≡ true) × ((node_item nodes k x).key ≡ successor (keys_in nodes family k v) (node_item nodes k i).key)
    behind-is x e = (
      subst (λ z. z < length (node_at nodes k).items) (sym e) there.0,
      subst (λ z. ends_item v (node_item nodes k z) ≡ true) (sym e) there.1,
      ap (λ z. (node_item nodes k z).key) e ∙ sym (successor-map (λ z. (node_item nodes k z).key) order i (λ z m q.
          keys-once g nodes b.tree k z i (round-item g nodes b.tree k d (system_at family k) v z (f.systems k d) has m).0 l q)),
    )
      where
        there : (successor order i < length (node_at nodes k).items) × (ends_item v (node_item nodes k (successor order i)) ≡ true)
        there = round-item g nodes b.tree k d (system_at family k) v (successor order i) (f.systems k d) has (successor-member order i order-has)

module _ (g : Multigraph) (nodes : List Node) (t : IsTutte g nodes) where
  -- the edge of an item is one of the block
  home-edge : (k i e : ℕ) → IsHome nodes k i e → e < edge_count g
  home-edge k i e h = (t.split.covers.edges e k i (stands-of g nodes t k i (Real e) h.is_item h.is_edge)).0

  -- so it has a place in the list
  pub home-below : (k i e n : ℕ) → n ≡ edge_count g → IsHome nodes k i e → e < n
  home-below k i e n q h = subst (λ z. e < z) (sym q) (home-edge k i e h)

  -- one item is an edge
  home-once : (k i j h e : ℕ) → IsHome nodes k i e → IsHome nodes j h e → (k ≡ j) × (i ≡ h)
  home-once k i j h e a b = t.split.covers.once e k i j h (stands-of g nodes t k i (Real e) a.is_item a.is_edge) (stands-of g nodes t j h (Real e) b.is_item b.is_edge)

  -- one home more
  pub homes-more : (k n x : ℕ) (homes : List (ℕ × ℕ)) → HasHomes g nodes k n homes → IsHome nodes k n x → HasHomes g nodes k (n + 1) (slice_set homes x (k, n))
  homes-more k n x homes h w = record {
    each = length-set homes x (k, n) ∙ h.each;
    before = λ j i e l y. elim (cases_eq e x) [
      | inl q ↦ absurd (omega (arith, l, (home-once j i k n e y (subst (λ z. IsHome nodes k n z) (sym q) w)).0))
      | inr q ↦ get_or-set_other homes x e (k, n) (0, 0) q ∙ h.before j i e l y
    ];
    here = λ i e l y. elim (cases_eq e x) [
      | inl q ↦ ap (λ z. home_at (slice_set homes x (k, n)) z) q ∙ get_or-set_same homes x (k, n) (0, 0) (home-below k n x (length homes) h.each w)
          ∙ ap (λ z. (k, z)) (sym (home-once k i k n e y (subst (λ z. IsHome nodes k n z) (sym q) w)).1)
      | inr q ↦ elim (cases_lt i n) [
        | inl a ↦ get_or-set_other homes x e (k, n) (0, 0) q ∙ h.here i e a y
        | inr a ↦ let s : i ≡ n = omega (arith, l, a) in absurd (q (real-same e x (sym (ap (λ z. (node_item nodes k z).what) s ∙ w.is_edge) ∙ y.is_edge)))
      ]
    ];
  }
    where
      real-same : (e x : ℕ) → Real x ≡ Real e → e ≡ x
      real-same e x q = grind (arith, q)

  -- an item that is no edge
  pub homes-pass : (k n : ℕ) (homes : List (ℕ × ℕ)) → HasHomes g nodes k n homes → ((e : ℕ) → (node_item nodes k n).what ≡ Real e → ⊥) → HasHomes g nodes k (n + 1) homes
  homes-pass k n homes h none = record {
    each = h.each;
    before = h.before;
    here = λ i e l y. elim (cases_lt i n) [
      | inl a ↦ h.here i e a y
      | inr a ↦ let s : i ≡ n = omega (arith, l, a) in absurd (none e (ap (λ z. (node_item nodes k z).what) (sym s) ∙ y.is_edge))
    ];
  }

  -- the home of an edge
  pub home-is : (homes : List (ℕ × ℕ)) (e : ℕ) → HasHomes g nodes (length nodes) 0 homes → e < edge_count g → (k i : ℕ) × (k < length nodes) × IsHome nodes k i e × (home_at homes e ≡ (k, i))
  home-is homes e h l =
      let w = t.split.covers.present e l in
      let m = item-of g nodes t w.0 w.1 (Real e) w.2 in
      let d : w.0 < length nodes = node-in g nodes t w.0 (stands-in (components nodes) w.0 w.1 (Real e) w.2) in
      let y : IsHome nodes w.0 w.1 e = record { is_item = m.0; is_edge = m.1 } in
      (w.0, w.1, d, y, h.before w.0 w.1 e d y)
