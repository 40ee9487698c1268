-- A list in which each node is after its parent is an order of the tree, where the parents are those of the tree.
use Rattle.std.proofs.Common.{◌≡◌, ◌≢◌, ℕ, ◌<◌, inl, inr, true, not, List, length, slice_index_or, sym, ap, ◌∙◌, subst, arith}
use Rattle.std.proofs.lemmas.Bool.{cases_eq}
use Rattle.permutations.specs.Members.{is_member}
use Rattle.permutations.proofs.Places.{place-of, same-place}
use Rattle.pair_split.specs.Split.{is_beyond, LinksTo, IsTree, AreLinked}
use Rattle.pair_split.specs.declared.components.Comp.{Comp}
use Rattle.pair_split.proofs.Subtrees.{link-in, below-root, side-above}
use Rattle.pair_split.proofs.TreeSides.{link-from}
use Rattle.spqr_tree.specs.Absent.{absent}
use Rattle.spqr_tree.specs.Keys.{parent_at, AreOrdered}
use Rattle.skel_decompose.specs.Ways.{IsFalling, AreDown}

-- the parents are those of the tree
pub record AreParents (comps : List Comp) (t : IsTree comps) (parents : List ℕ) : Type 0 where
  pub number : length parents ≡ length comps
  pub each : (k : ℕ) → k < length comps → k ≢ t.root → parent_at parents k ≡ t.parent k
  pub end : parent_at parents t.root ≡ absent

module _ (comps : List Comp) (a : AreLinked comps) (few : length comps < absent) (parents : List ℕ) (p : AreParents comps a.tree parents) where
  abbrev t : IsTree comps
  t = a.tree

  -- they have lower ranks
  pub falling : IsFalling parents t.rank
  falling x l n = (
    subst (λ z. z < length parents) (sym same) (subst (λ z. t.parent x < z) (sym p.number) (t.parent_in x inside apart)),
    subst (λ z. t.rank z < t.rank x) (sym same) (t.rank_falls x inside apart),
  )
    where
      inside : x < length comps
      inside = subst (λ z. x < z) p.number l

      apart : x ≢ t.root
      apart q = n (ap (parent_at parents) q ∙ p.end)

      same : parent_at parents x ≡ t.parent x
      same = p.each x inside apart

  -- of two linked nodes one is the other's parent
  down : (k j : ℕ) → LinksTo comps k j → parent_at parents k ≢ j → parent_at parents j ≡ k
  down k j m n = elim (t.linked k j m) [
    | inl q ↦ absurd (n (p.each k (link-from comps a k j m) q.0 ∙ q.1))
    | inr q ↦ p.each j (link-in comps a k j m) q.0 ∙ q.1
  ]

  -- the root is beyond the link to the parent
  up : (k j : ℕ) → LinksTo comps k j → parent_at parents k ≡ j → is_beyond comps k j t.root ≡ true
  up k j m e = elim (cases_eq k t.root) [
    | inl q ↦ absurd (far (sym e ∙ ap (parent_at parents) q ∙ p.end))
    | inr n ↦ subst (λ z. is_beyond comps k z t.root ≡ true) (sym (p.each k l n) ∙ e) (side-above comps a k t.root l n t.root_in ∙ ap not (below-root comps a k (λ z. n (sym z))))
  ]
    where
      l : k < length comps
      l = link-from comps a k j m

      far : j ≡ absent → ⊥
      far q = omega (arith, q, few, link-in comps a k j m)

  pub ordered : (order : List ℕ) → AreDown parents order → ((k : ℕ) → k < length comps → is_member k order ≡ true) → AreOrdered comps t.root parents order
  ordered order d all = record {
    places = p.number;
    within = λ q l. subst (λ z. slice_index_or order q 0 < z) p.number (d.within q l);
    all = λ k l. place-of order k (all k l);
    down = down;
    after = after;
    up = up;
  }
    where
      after : (q j : ℕ) → q < length order → LinksTo comps (slice_index_or order q 0) j → parent_at parents (slice_index_or order q 0) ≢ j → (h : ℕ) × (q < h) × (h < length order) × (slice_index_or order h 0 ≡ j)
      after q j l m n =
          let w = place-of order j (all j (link-in comps a (slice_index_or order q 0) j m)) in
          let e : parent_at parents (slice_index_or order w.0 0) ≡ slice_index_or order q 0 = ap (parent_at parents) w.2 ∙ down (slice_index_or order q 0) j m n in
          elim (d.after w.0 w.1) [
            | inl o ↦ absurd (far (sym e ∙ o))
            | inr v ↦
                let same : v.0 ≡ q = same-place order v.0 q d.distinct (omega (arith, v.1, w.1)) l (v.2 ∙ e) in
                (w.0, omega (arith, same, v.1), w.1, w.2)
          ]
        where
          far : slice_index_or order q 0 ≡ absent → ⊥
          far o = omega (arith, o, few, link-from comps a (slice_index_or order q 0) j m)
