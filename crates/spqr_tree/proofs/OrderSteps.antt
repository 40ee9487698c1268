-- Putting components on a list, each behind its parent: the children of one component more.
use Rattle.std.proofs.Common.{◌≡◌, ◌≢◌, ℕ, ◌+◌, ◌<◌, ◌≤◌, inl, inr, Bool, true, false, cond, List, ◌++◌, length, slice_index_or, refl, sym, ap, ◌∙◌, subst, arith}
use Rattle.std.proofs.lemmas.Bool.{cases_eq, cases_lt, false_from_ne_true}
use Rattle.std.proofs.lemmas.List.{length-append, get_or_append_left, get_or-append-add}
use Rattle.permutations.specs.Members.{is_member}
use Rattle.permutations.proofs.Members.{member-append_left, member-append_cases, distinct-append}
use Rattle.permutations.proofs.Arrangements.{member-at, count-list}
use Rattle.permutations.proofs.Count.{count-within}
use Rattle.permutations.proofs.Relation.{same-tests}
use Rattle.permutations.proofs.Places.{same-place, place-of}
use Rattle.pair_split.specs.Split.{items_of, is_beyond, LinksTo, IsTree, AreLinked}
use Rattle.pair_split.specs.declared.components.Comp.{Comp}
use Rattle.pair_split.proofs.Subtrees.{link-in}
use Rattle.pair_split.proofs.TreeSides.{link-from, link-back, beyond-some}
use Rattle.pair_split.proofs.Rerooted.{rerooted, rerooted-root, rerooted-parent}
use Rattle.spqr_tree.specs.Keys.{parent_at, children, AddsChildren, IsOrder, AreOrdered}
use Rattle.spqr_tree.proofs.Children.{children-is, children-has, children-distinct}
use Rattle.pair_split.proofs.LinkSides.{whole}
use Rattle.spqr_tree.specs.Absent.{absent}

-- there are no more on the list than components
pub order-few : (comps : List Comp) (t : IsTree comps) (parents order : List ℕ) (i : ℕ) → IsOrder comps t parents order i → length order ≤ length comps
order-few comps t parents order i o = omega (arith, count-list (length comps) (λ x. is_member x order) order o.distinct o.within (λ x l. refl), count-within (length comps) (λ x. is_member x order))

module _ (comps : List Comp) (a : AreLinked comps) (few : length comps ≤ absent) (t : IsTree comps) (parents order : List ℕ) (i : ℕ) (o : IsOrder comps t parents order i) (l : i < length order) where
  -- the component whose children are put on the list
  abbrev k : ℕ
  k = slice_index_or order i 0

  abbrev new : List ℕ
  new = children (parent_at parents k) (items_of comps k)

  k-on : is_member k order ≡ true
  k-on = member-at order i 0 l

  -- a link that is not to the parent leads to a child
  child-up : (j : ℕ) → LinksTo comps k j → j ≢ parent_at parents k → (j ≢ t.root) × (t.parent j ≡ k)
  child-up j s n = elim (t.linked k j s) [
    | inl h ↦ absurd (n (sym h.1 ∙ sym (o.parent k k-on h.0)))
    | inr h ↦ h
  ]

  -- and each child has such a link
  child-down : (j : ℕ) → j < length comps → j ≢ t.root → t.parent j ≡ k → LinksTo comps k j × (j ≢ parent_at parents k)
  child-down j b n e = (
    subst (λ z. LinksTo comps z j) e (link-back comps a j (t.parent j) (t.to_parent j b n)),
    elim (cases_eq k t.root) [
      | inl r ↦ λ q. omega (arith, b, few, q, ap (parent_at parents) r, o.none)
      | inr m ↦ λ q. omega (arith, t.rank_falls k (o.within k k-on) m, t.rank_falls j b n, ap t.rank e, ap t.rank (q ∙ o.parent k k-on m))
    ],
  )

  in-new : (x : ℕ) → is_member x new ≡ true → (x ≢ t.root) × (t.parent x ≡ k) × (x < length comps)
  in-new x m =
      let w = children-is (parent_at parents k) (items_of comps k) x m in
      let s : LinksTo comps k x = (w.0, (w.1, w.2)) in
      let u = child-up x s w.3 in
      (u.0, u.1, link-in comps a k x s)

  -- no child is on the list yet
  fresh : (x : ℕ) → is_member x order ≡ true → is_member x new ≡ false
  fresh x h = false_from_ne_true (is_member x new) (λ m.
      let u = in-new x m in
      let w = o.before x h u.0 in
      omega (arith, w.1, same-place order w.0 i o.distinct w.2 l (w.3 ∙ u.1)))

  module _ (next_parents next_order : List ℕ) (c : AddsChildren k (parent_at parents k) (items_of comps k) parents order next_parents next_order) where
    noted-old : (x : ℕ) → is_member x new ≡ false → parent_at next_parents x ≡ parent_at parents x
    noted-old x h = c.noted x ∙ ap (λ (b : Bool). cond b k (parent_at parents x)) h

    noted-new : (x : ℕ) → is_member x new ≡ true → parent_at next_parents x ≡ k
    noted-new x h = c.noted x ∙ ap (λ (b : Bool). cond b k (parent_at parents x)) h

    longer : length (order ++ new) ≡ length order + length new
    longer = length-append order new

    before-new : (x : ℕ) → is_member x (order ++ new) ≡ true → x ≢ t.root → (h : ℕ) × (h < i + 1) × (h < length (order ++ new)) × (slice_index_or (order ++ new) h 0 ≡ t.parent x)
    before-new x m n = elim (member-append_cases x order new m) [
      | inl y ↦ let w = o.before x y n in (w.0, omega (arith, w.1), omega (arith, w.2, longer), get_or_append_left order new 0 w.0 w.2 ∙ w.3)
      | inr y ↦ (i, omega arith, omega (arith, l, longer), get_or_append_left order new 0 i l ∙ sym (in-new x y).1)
    ]

    after-new : (q j : ℕ) → q < i + 1 → q < length (order ++ new) → j < length comps → j ≢ t.root → t.parent j ≡ slice_index_or (order ++ new) q 0
        → (h : ℕ) × (q < h) × (h < length (order ++ new)) × (slice_index_or (order ++ new) h 0 ≡ j)
    after-new q j b y z n e =
        let on : q < length order = omega (arith, b, l) in
        let old : t.parent j ≡ slice_index_or order q 0 = e ∙ get_or_append_left order new 0 q on in
        elim (cases_lt q i) [
          | inl u ↦ let w = o.after q j u on z n old in (w.0, w.1, omega (arith, w.2, longer), get_or_append_left order new 0 w.0 w.2 ∙ w.3)
          | inr u ↦
              let s : q ≡ i = omega (arith, b, u) in
              let d = child-down j z n (old ∙ ap (λ x. slice_index_or order x 0) s) in
              let w = place-of new j (children-has (parent_at parents k) (items_of comps k) (d.0).0 j ((d.0).1).0 ((d.0).1).1 d.1) in
              (length order + w.0, omega (arith, on), omega (arith, w.1, longer), subst (λ z. slice_index_or (order ++ new) (length order + w.0) 0 ≡ z) w.2 (get_or-append-add order new w.0 0))
        ]

    grown : IsOrder comps t next_parents (order ++ new) (i + 1)
    grown = record {
      places = c.number ∙ o.places;
      root = member-append_left t.root order new o.root;
      none = noted-old t.root (false_from_ne_true (is_member t.root new) (λ m. (in-new t.root m).0 refl)) ∙ o.none;
      distinct = distinct-append order new o.distinct (children-distinct (parent_at parents k) (items_of comps k) (λ u v j x y p q. a.once k j u v (x, p) (y, q))) fresh;
      within = λ x m. elim (member-append_cases x order new m) [ inl y ↦ o.within x y | inr y ↦ (in-new x y).2 ];
      parent = λ x m n. elim (member-append_cases x order new m) [ inl y ↦ noted-old x (fresh x y) ∙ o.parent x y n | inr y ↦ noted-new x y ∙ sym (in-new x y).1 ];
      before = before-new;
      after = after-new;
    }

    pub order-grows : IsOrder comps t next_parents next_order (i + 1)
    order-grows = subst (λ (z : List ℕ). IsOrder comps t next_parents z (i + 1)) (sym c.listed) grown

-- where the children of all on the list are on it, all components are on it
module _ (comps : List Comp) (a : AreLinked comps) (few : length comps ≤ absent) (r : ℕ) (root_in : r < length comps) (parents order : List ℕ) (i : ℕ) (o : IsOrder comps (rerooted comps a r root_in) parents order i) (done : length order ≤ i) where
  abbrev tree : IsTree comps
  tree = rerooted comps a r root_in

  along : (x y : ℕ) → LinksTo comps x y → is_member x order ≡ true → is_member y order ≡ true
  along x y s m = elim (tree.linked x y s) [
    | inl h ↦ let w = o.before x m h.0 in subst (λ z. is_member z order ≡ true) (w.3 ∙ h.1) (member-at order w.0 0 w.2)
    | inr h ↦
        let q = place-of order x m in
        let w = o.after q.0 y (omega (arith, done, q.1)) q.1 (link-in comps a x y s) h.0 (h.1 ∙ sym q.2) in
        subst (λ z. is_member z order ≡ true) w.3 (member-at order w.0 0 w.2)
  ]

  all-on : (x : ℕ) → x < length comps → is_member x order ≡ true
  all-on x l = whole comps a (λ z. is_member z order) (λ u v s. same-tests (is_member u order) (is_member v order) (along u v s) (along v u (link-back comps a u v s))) x tree.root l tree.root_in ∙ o.root

  down : (k j : ℕ) → LinksTo comps k j → parent_at parents k ≢ j → (j ≢ tree.root) × (tree.parent j ≡ k)
  down k j s n = elim (tree.linked k j s) [
    | inl h ↦ absurd (n (o.parent k (all-on k (link-from comps a k j s)) h.0 ∙ h.1))
    | inr h ↦ h
  ]

  up : (k j : ℕ) → LinksTo comps k j → parent_at parents k ≡ j → is_beyond comps k j r ≡ true
  up k j s e =
      let n : k ≢ tree.root = λ q. omega (arith, few, link-in comps a k j s, e, ap (parent_at parents) q, o.none) in
      let w = beyond-some comps a k r (link-from comps a k j s) root_in (λ q. n (sym q ∙ sym (rerooted-root comps a r root_in))) in
      subst (λ z. is_beyond comps k z r ≡ true) (sym (rerooted-parent comps a r root_in k w.0 w.1 w.2).1 ∙ sym (o.parent k (all-on k (link-from comps a k j s)) n) ∙ e) w.2

  pub order-ends : AreOrdered comps r parents order
  order-ends = record {
    places = o.places;
    within = λ q l. o.within (slice_index_or order q 0) (member-at order q 0 l);
    all = λ k l. place-of order k (all-on k l);
    down = λ k j s n. let d = down k j s n in o.parent j (all-on j (link-in comps a k j s)) d.0 ∙ d.1;
    after = λ q j l s n. let d = down (slice_index_or order q 0) j s n in o.after q j (omega (arith, done, l)) l (link-in comps a (slice_index_or order q 0) j s) d.0 d.1;
    up = up;
  }
