-- The order of components, as the code makes it: a slice of each component's pieces, and places read with other defaults.
use Rattle.std.proofs.Common.{◌≡◌, ℕ, ◌+◌, ◌<◌, ◌≤◌, List, [], length, slice_index_or, sym, ap, ◌∙◌, subst, arith}
use Rattle.std.proofs.lemmas.List.{get_or_default}
use Rattle.pair_split.specs.Split.{component_at, items_of, IsTree, AreLinked}
use Rattle.pair_split.specs.declared.components.Piece.{Piece}
use Rattle.pair_split.specs.declared.components.Comp.{Comp}
use Rattle.pair_split.proofs.Subtrees.{link-in}
use Rattle.pair_split.proofs.Rerooted.{rerooted, rerooted-root}
use Rattle.permutations.proofs.Arrangements.{member-at}
use Rattle.spqr_tree.specs.Keys.{parent_at, AreWithin, AddsChildren, IsOrder, AreOrdered}
use Rattle.spqr_tree.proofs.OrderSteps.{order-few, order-grows, order-ends}
use Rattle.spqr_tree.specs.Absent.{absent}

-- the pieces of a component that is read at its place
pub items-same : (comps : List Comp) (k : ℕ) (comp : Comp) (pieces : List Piece) → k < length comps → pieces ≡ (slice_index_or comps k comp).items → pieces ≡ items_of comps k
items-same comps k comp pieces l e = e ∙ ap (λ (c : Comp). c.items) (get_or_default comps k comp (component_at [] 0) l)

-- their links lead to components
pub items-within : (comps : List Comp) (a : AreLinked comps) (k : ℕ) (comp : Comp) (pieces : List Piece) (n : ℕ) → k < length comps → pieces ≡ (slice_index_or comps k comp).items → n ≡ length comps → AreWithin pieces n
items-within comps a k comp pieces n l e s = subst (λ (z : List Piece). AreWithin z n) (sym (items-same comps k comp pieces l e)) (λ i j b q. omega (arith, s, link-in comps a k j (i, (b, q))))

-- what was put on the list stays on it when there is nothing to do
pub order-past : (comps : List Comp) (t : IsTree comps) (parents order : List ℕ) (i : ℕ) → length order ≤ i → IsOrder comps t parents order i → IsOrder comps t parents order (i + 1)
order-past comps t parents order i p o = record {
  places = o.places;
  root = o.root;
  none = o.none;
  distinct = o.distinct;
  within = o.within;
  parent = o.parent;
  before = λ x m n. let w = o.before x m n in (w.0, omega (arith, w.1), w.2, w.3);
  after = λ q j b l. o.after q j (omega (arith, p, l)) l;
}

module _ (comps : List Comp) (a : AreLinked comps) (few : length comps < absent) (root : ℕ) (within : root < length comps) (parents order : List ℕ) (i : ℕ) (inv : (t : IsTree comps) → t.root ≡ root → IsOrder comps t parents order i) where
  own : IsOrder comps (rerooted comps a root within) parents order i
  own = inv (rerooted comps a root within) (rerooted-root comps a root within)

  -- what stands on the list is a component
  pub order-in : (k : ℕ) → i < length order → k ≡ slice_index_or order i k → k < length comps
  order-in k l e = let same : k ≡ slice_index_or order i 0 = e ∙ get_or_default order i k 0 l in subst (λ z. z < length comps) (sym same) (own.within (slice_index_or order i 0) (member-at order i 0 l))

  pub order-places : length parents ≡ length comps
  order-places = own.places

  -- the children of one more are put on it
  pub order-next : (k : ℕ) (comp : Comp) (pieces : List Piece) (next_parents next_order : List ℕ) → i < length order → k ≡ slice_index_or order i k → pieces ≡ (slice_index_or comps k comp).items
      → AddsChildren k (parent_at parents k) pieces parents order next_parents next_order → (t : IsTree comps) → t.root ≡ root → IsOrder comps t next_parents next_order (i + 1)
  order-next k comp pieces next_parents next_order l e f c t r =
      let same : k ≡ slice_index_or order i 0 = e ∙ get_or_default order i k 0 l in
      let items : AddsChildren k (parent_at parents k) (items_of comps k) parents order next_parents next_order = subst (λ (z : List Piece). AddsChildren k (parent_at parents k) z parents order next_parents next_order) (items-same comps k comp pieces (order-in k l e) f) c in
      order-grows comps a (omega (arith, few)) t parents order i (inv t r) l next_parents next_order
      (subst (λ z. AddsChildren z (parent_at parents z) (items_of comps z) parents order next_parents next_order) same items)

  -- at last all components are on it
  pub order-done : length comps ≤ i → AreOrdered comps root parents order
  order-done d = order-ends comps a (omega (arith, few)) root within parents order i own (omega (arith, d, order-few comps (rerooted comps a root within) parents order i own))
