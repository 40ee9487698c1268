use Rattle.std.proofs.Common.{◌≡◌, ◌<◌, ℕ, List, sym, subst, arith, inl, inr, take, get_or}
use Rattle.std.proofs.lemmas.Bool.{cases_lt}
use Rattle.arrangements.specs.Options.{follower}
use Rattle.arrangements.specs.Prefixes.{HasGreater, NoneGreater}
use Rattle.arrangements.proofs.Made.{built-take}
use Rattle.arrangements.proofs.making.last_greater.Goals as goal
use Rattle.arrangements.proofs.making.last_greater.Goals.{then-may_be_greater+then-i-gt0, else-may_be_greater, else-may_be_greater-via-then-may_be_greater+else-i-gt0, else-may_be_greater-via-else-may_be_greater}

-- one place more
pub loop-i-preserved : goal.loop-i-preserved
loop-i-preserved c =
    let l : List ℕ = c.args.list.now in
    let i : ℕ = c.loop-i.i in
    let edges : List ℕ = c.args.tables.now.edges in
    record {
      noted = c.lay.ensures.noted;
      count = omega (arith, c.unopened_below-count.ensures.within, c.loop-i.invariant.count);
      opened = λ p g h. c.lay.ensures.opened (get_or c.args.tables.now.ranks p 0) (elim (cases_lt p c.loop-i.count) [
        | inl below ↦ c.unopened_below-count.ensures.opened p g below
        | inr above ↦ c.loop-i.invariant.opened p above h
      ]);
      within = λ h. elim c.if-may_be_greater.branch [
        | then-may_be_greater+then-i-gt0 w ↦ omega (arith, w.last-is)
        | else-may_be_greater w ↦ let q : c.loop-i.last < i = c.loop-i.invariant.within (omega (arith, h, w.last-is)) in omega (arith, q, w.last-is)
      ];
      greater = λ h block order a b. elim c.if-may_be_greater.branch [
        | then-may_be_greater+then-i-gt0 w ↦ subst (λ (n : ℕ). HasGreater block (follower block order) edges (take n l) (get_or l n 0)) (sym w.last-is)
            (c.may_be_greater.ensures.some (take i l) c.loop-i.invariant.noted w.if-may_be_greater.true block order a (built-take block (follower block order) edges l i b))
        | else-may_be_greater w ↦ subst (λ (n : ℕ). HasGreater block (follower block order) edges (take n l) (get_or l n 0)) (sym w.last-is) (c.loop-i.invariant.greater (omega (arith, h, w.last-is)) block order a b)
      ];
      none = λ block order a b j g h. elim (cases_lt j i) [
        | inl before ↦ elim c.if-may_be_greater.branch [
          | then-may_be_greater+then-i-gt0 w ↦ absurd (omega (arith, w.last-is, g, before))
          | else-may_be_greater w ↦ c.loop-i.invariant.none block order a b j (omega (arith, g, w.last-is)) before
        ]
        | inr after ↦
            let e : i ≡ j = omega (arith, after, h) in
            elim c.if-may_be_greater.branch [
              | then-may_be_greater+then-i-gt0 w ↦ absurd (omega (arith, w.last-is, g, e))
              | else-may_be_greater w ↦ elim w.else-may_be_greater.branch [
                | else-may_be_greater-via-then-may_be_greater+else-i-gt0 v ↦ absurd (omega (arith, v.if-i-gt0.false, g, e))
                | else-may_be_greater-via-else-may_be_greater v ↦ subst (λ (n : ℕ). NoneGreater block (follower block order) edges (take n l) (get_or l n 0)) e
                    (c.may_be_greater.ensures.none (take i l) c.loop-i.invariant.noted v.if-may_be_greater.false block order a (built-take block (follower block order) edges l i b))
              ]
            ]
      ];
    }
