use Rattle.std.proofs.Common.{◌≡◌, ℕ, ◌+◌, ◌-◌, ◌<◌, ◌≤◌, false, length, sym, ◌∙◌, subst, arith, inl, inr}
use Rattle.std.proofs.lemmas.Bool.{cases_eq}
use Rattle.skeletons.specs.Lists.{IsRank}
use Rattle.skel_embed.specs.Block.{BlockState, lock_at}
use Rattle.embed_enum.specs.Digits.{radix_at, digit_at, number_to}
use Rattle.embed_enum.specs.Changes.{IsMoved, node_digit, AreReset, IsNumbered}
use Rattle.embed_enum.proofs.States.{state-length}
use Rattle.embed_enum.proofs.Walks.{next-number, last-number, list-after, rank-after, rank-is}
use Rattle.embed_enum.proofs.walking.next.Goals as goal

-- the number goes one up
numbered : (old here mid new : BlockState) (k : ℕ) → here ≡ old → 0 < k → k ≤ length old.tree → (lock_at here.locks (k - 1) ≡ false) × IsMoved here mid (k - 1) (node_digit here (k - 1) + 1)
    → AreReset mid new (k - 1 + 1) (length mid.tree)
    → ((j : ℕ) → k ≤ j → j < length old.tree → digit_at old.tree (lock_at old.locks) old.rotation j + 1 ≡ radix_at old.tree (lock_at old.locks) j)
    → IsNumbered old new (number_to (length old.tree) (radix_at old.tree (lock_at old.locks)) (digit_at old.tree (lock_at old.locks) old.rotation) + 1)
numbered old here mid new k e p w m r last =
    let n : (lock_at old.locks (k - 1) ≡ false) × IsMoved old mid (k - 1) (node_digit old (k - 1) + 1) = subst (λ (s : BlockState). (lock_at s.locks (k - 1) ≡ false) × IsMoved s mid (k - 1) (node_digit s (k - 1) + 1)) e m in
    next-number old mid new (k - 1) (omega (arith, p, w)) n.0 n.1 r (λ j a b. last j (omega (arith, a, p)) b)

pub returns-then-step_open-clause-next : goal.returns-then-step_open-clause-next
returns-then-step_open-clause-next c = λ l i m k t.
    let old : BlockState = c.args.p.now in
    let n = numbered old c.loop-k.p c.step_open.new.p c.first_from.new.p c.loop-k.k c.loop-k.invariant.same c.loop-k-test.true c.loop-k.invariant.within (c.step_open.ensures.next c.if-step_open.true) c.first_from.ensures c.loop-k.invariant.last in
    let e = rank-is old c.belongs.ensures l i m k in
    subst (λ z. IsRank l c.first_from.new.p.rotation (z + 1)) (sym e) (rank-after old c.first_from.new.p c.belongs.ensures c.belongs-then-step_open.ensures
    (number_to (length old.tree) (radix_at old.tree (lock_at old.locks)) (digit_at old.tree (lock_at old.locks) old.rotation) + 1) n l m)

pub returns-then-step_open-clause-list : goal.returns-then-step_open-clause-list
returns-then-step_open-clause-list c = λ l m.
    let old : BlockState = c.args.p.now in
    let n = numbered old c.loop-k.p c.step_open.new.p c.first_from.new.p c.loop-k.k c.loop-k.invariant.same c.loop-k-test.true c.loop-k.invariant.within (c.step_open.ensures.next c.if-step_open.true) c.first_from.ensures c.loop-k.invariant.last in
    list-after old c.first_from.new.p n.rest n.kept l m

pub loop-k-preserved : goal.loop-k-preserved
loop-k-preserved c =
    let old : BlockState = c.args.p.now in
    let f = c.step_open.ensures.last c.if-step_open.false in
    let d : digit_at old.tree (lock_at old.locks) old.rotation (c.loop-k.k - 1) + 1 ≡ radix_at old.tree (lock_at old.locks) (c.loop-k.k - 1) =
    subst (λ (s : BlockState). digit_at s.tree (lock_at s.locks) s.rotation (c.loop-k.k - 1) + 1 ≡ radix_at s.tree (lock_at s.locks) (c.loop-k.k - 1)) c.loop-k.invariant.same f.1 in
    record {
      same = f.0 ∙ c.loop-k.invariant.same;
      within = omega (arith, c.loop-k.invariant.within);
      last = λ j a b. elim (cases_eq j (c.loop-k.k - 1)) [
        | inl e ↦ subst (λ z. digit_at old.tree (lock_at old.locks) old.rotation z + 1 ≡ radix_at old.tree (lock_at old.locks) z) (sym e) d
        | inr n ↦ c.loop-k.invariant.last j (omega (arith, a, n)) b
      ];
    }

pub returns-clause-last : goal.returns-clause-last
returns-clause-last c = λ l i m k t.
    let old : BlockState = c.args.p.now in
    omega (
      arith,
      rank-is old c.belongs.ensures l i m k,
      state-length old c.belongs.ensures l m,
      last-number old (λ j b. c.loop-k.invariant.last j (omega (arith, c.loop-k-test.false)) b),
    )
