use Rattle.std.proofs.Common.{◌≡◌, ℕ, length, subst, arith}
use Rattle.arrangements.specs.Crossings.{IsPassed}
use Rattle.arrangements.proofs.RankPasses.{passed-found, passed-none}
use Rattle.arrangements.proofs.crossings.crossed.Goals as goal

-- some rank was met in two gaps
pub returns-then-pass-met-clause-least : goal.returns-then-pass-met-clause-least
returns-then-pass-met-clause-least c =
    let e : c.loop-i.i ≡ length c.args.ranks.now = omega (arith, c.loop-i-test.false, c.loop-i.auto.i-end) in
    passed-found c.args.rank c.args.ranks.now c.loop-i.met c.loop-i.pass.before c.loop-i.pass.least
    (subst (λ (z : ℕ). IsPassed c.args.rank c.args.ranks.now c.loop-i.met z c.loop-i.pass.before c.loop-i.pass.least) e c.loop-i.invariant.passed)
    c.if-pass-met.true

-- none was
pub returns-else-pass-met-clause-least : goal.returns-else-pass-met-clause-least
returns-else-pass-met-clause-least c =
    let e : c.loop-i.i ≡ length c.args.ranks.now = omega (arith, c.loop-i-test.false, c.loop-i.auto.i-end) in
    passed-none c.args.rank c.args.ranks.now c.loop-i.met c.loop-i.pass.before c.loop-i.pass.least
    (subst (λ (z : ℕ). IsPassed c.args.rank c.args.ranks.now c.loop-i.met z c.loop-i.pass.before c.loop-i.pass.least) e c.loop-i.invariant.passed)
    (λ i h. omega (arith, c.requires.below i h, c.loop-i.invariant.size))
    (omega (arith, c.if-pass-met.false))
