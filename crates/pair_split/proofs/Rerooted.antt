-- The tree of the links with another root: each component's parent is the one of its links beyond which the root is.
use Rattle.std.proofs.Common.{◌≡◌, ◌≢◌, ℕ, ◌<◌, ◌≤◌, ◌⊎◌, ◌==◌, inl, inr, true, cond, List, length, refl, sym, ap, ◌∙◌, arith}
use Rattle.std.proofs.lemmas.Bool.{cases_Bool, cases_eq, cases_lt, both_ways, eq-eqb, ne_eqb, not_from_true, not_from_false}
use Rattle.permutations.specs.Count.{count}
use Rattle.permutations.proofs.Count.{count-positive, count-same}
use Rattle.pair_split.specs.Split.{is_beyond, LinksTo, IsTree, AreLinked}
use Rattle.pair_split.specs.declared.components.Comp.{Comp}
use Rattle.pair_split.proofs.Subtrees.{link-in}
use Rattle.pair_split.proofs.TreeSides.{link-from, link-back, beyond-other, beyond-far, beyond-near, beyond-apart, beyond-some}

module _ (comps : List Comp) (a : AreLinked comps) (r : ℕ) (root_in : r < length comps) where
  -- the neighbour beyond whose link the root is
  toward-at : (x : ℕ) → (x < length comps) ⊎ (length comps ≤ x) → (x ≡ r) ⊎ (x ≢ r) → ℕ
  toward-at x (inl l) (inl e) = x
  toward-at x (inl l) (inr n) = (beyond-some comps a x r l root_in (λ e. n (sym e))).0
  toward-at x (inr l) h = x

  abbrev toward : ℕ → ℕ
  toward x = toward-at x (cases_lt x (length comps)) (cases_eq x r)

  toward-at-is : (x : ℕ) (h : (x < length comps) ⊎ (length comps ≤ x)) (k : (x ≡ r) ⊎ (x ≢ r)) → x < length comps → x ≢ r → LinksTo comps x (toward-at x h k) × (is_beyond comps x (toward-at x h k) r ≡ true)
  unfolding toward-at
  toward-at-is x (inl l) (inl e) b n = absurd (n e)
  toward-at-is x (inl l) (inr m) b n = let w = beyond-some comps a x r l root_in (λ e. m (sym e)) in (w.1, w.2)
  toward-at-is x (inr l) h b n = absurd (omega (arith, l, b))

  toward-is : (x : ℕ) → x < length comps → x ≢ r → LinksTo comps x (toward x) × (is_beyond comps x (toward x) r ≡ true)
  toward-is x l n = toward-at-is x (cases_lt x (length comps)) (cases_eq x r) l n

  -- it is the only one
  toward-only : (x y : ℕ) → LinksTo comps x y → is_beyond comps x y r ≡ true → (x ≢ r) × (toward x ≡ y)
  toward-only x y l b = (
    n,
    elim (cases_eq (toward x) y) [
      | inl e ↦ e
      | inr m ↦ absurd (both_ways (is_beyond comps x y r) (beyond-apart comps a x (toward x) y r w.0 l m w.1) b)
    ],
  )
    where
      n : x ≢ r
      n e = both_ways (is_beyond comps x y x) (beyond-near comps a x y l) (ap (is_beyond comps x y) e ∙ b)

      w : LinksTo comps x (toward x) × (is_beyond comps x (toward x) r ≡ true)
      w = toward-is x (link-from comps a x y l) n

  -- how many components are on the side of the root
  rank : ℕ → ℕ
  rank x = cond (x == r) 0 (count (length comps) (is_beyond comps x (toward x)))

  rank-root : (x : ℕ) → x ≡ r → rank x ≡ 0
  unfolding rank
  rank-root x e = rw (eq-eqb x r e) refl

  rank-other : (x : ℕ) → x ≢ r → rank x ≡ count (length comps) (is_beyond comps x (toward x))
  unfolding rank
  rank-other x n = rw (ne_eqb x r n) refl

  -- what is beyond the next step towards the root is beyond this one
  onward : (x : ℕ) → x < length comps → x ≢ r → toward x ≢ r → (c : ℕ) → c < length comps → is_beyond comps (toward x) (toward (toward x)) c ≡ true → is_beyond comps x (toward x) c ≡ true
  onward x l n m c b h =
      let y = toward-is x l n in
      let z = toward-is (toward x) (link-in comps a x (toward x) y.0) m in
      let back : LinksTo comps (toward x) x = link-back comps a x (toward x) y.0 in
      let apart : toward (toward x) ≢ x = λ e. both_ways (is_beyond comps x (toward x) r)
      (beyond-other comps a x (toward x) r y.0 root_in ∙ not_from_true (is_beyond comps (toward x) x r) (ap (λ w. is_beyond comps (toward x) w r) (sym e) ∙ z.1)) y.1 in
      beyond-other comps a x (toward x) c y.0 b ∙ not_from_false (is_beyond comps (toward x) x c) (beyond-apart comps a (toward x) (toward (toward x)) x c z.0 back apart h)

  rank-falls : (x : ℕ) → x < length comps → x ≢ r → rank (toward x) < rank x
  rank-falls x l n =
      let y = toward-is x l n in
      let j-in : toward x < length comps = link-in comps a x (toward x) y.0 in
      elim (cases_eq (toward x) r) [
        | inl e ↦ omega (arith, rank-root (toward x) e, rank-other x n, count-positive (length comps) (is_beyond comps x (toward x)) (toward x) j-in (beyond-far comps a x (toward x)))
        | inr m ↦ elim (cases_lt (count (length comps) (is_beyond comps (toward x) (toward (toward x)))) (count (length comps) (is_beyond comps x (toward x)))) [
          | inl k ↦ omega (arith, k, rank-other x n, rank-other (toward x) m)
          | inr k ↦
              let same = count-same (length comps) (is_beyond comps (toward x) (toward (toward x))) (is_beyond comps x (toward x)) (onward x l n m) k (toward x) j-in in
              absurd (both_ways (is_beyond comps (toward x) (toward (toward x)) (toward x)) (beyond-near comps a (toward x) (toward (toward x)) (toward-is (toward x) j-in m).0) (same ∙ beyond-far comps a x (toward x)))
        ]
      ]

  -- the tree with the root r
  pub rerooted : IsTree comps
  rerooted = record {
    root = r;
    parent = toward;
    rank = rank;
    root_in = root_in;
    parent_in = λ x l n. link-in comps a x (toward x) (toward-is x l n).0;
    rank_falls = rank-falls;
    to_parent = λ x l n. (toward-is x l n).0;
    linked = λ x y l. elim (cases_Bool (is_beyond comps x y r)) [
      | inl b ↦ inl (toward-only x y l b)
      | inr b ↦ inr (toward-only y x (link-back comps a x y l) (beyond-other comps a y x r (link-back comps a x y l) root_in ∙ not_from_false (is_beyond comps x y r) b))
    ];
  }

  -- its root is r
  pub rerooted-root : rerooted.root ≡ r
  unfolding rerooted
  rerooted-root = refl

  -- the parent is the neighbour beyond whose link the root is
  pub rerooted-parent : (x y : ℕ) → LinksTo comps x y → is_beyond comps x y r ≡ true → (x ≢ r) × (rerooted.parent x ≡ y)
  unfolding rerooted
  rerooted-parent x y l b = toward-only x y l b
