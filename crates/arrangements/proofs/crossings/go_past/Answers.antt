use Rattle.std.proofs.Common.{inl, inr, slice_index, refl, arith}
use Rattle.arrangements.proofs.RankPasses.{before-bound, gap-here, passed-first, passed-again, passed-other}
use Rattle.arrangements.proofs.crossings.go_past.Goals as goal
use Rattle.arrangements.proofs.crossings.go_past.Goals.{then-pass-total, else-pass-total, then-first-gap-via-then-first-gap, then-first-gap-via-else-first-gap+then-other-pass}

-- there are no more edges than places
pub overflow_add-result : goal.overflow_add-result
overflow_add-result c = omega (arith, c.requires.passed.count, before-bound c.args.rank c.args.ranks.now c.args.i (omega (arith, c.requires.place)), c.requires.place, c.requires.few)

-- met for the first time
pub returns-then-first-clause-passed : goal.returns-then-first-clause-passed
returns-then-first-clause-passed c =
    passed-first c.args.rank c.args.ranks.now c.args.met.now c.args.i c.args.pass.before c.args.pass.least c.requires.place c.requires.passed
    (slice_index c.args.ranks.now c.args.i) c.if-pass-total.gap refl c.if-other-rank.false
    (gap-here c.args.rank c.args.ranks.now c.args.i c.args.pass.before c.args.total c.if-pass-total.gap c.requires.passed.count c.requires.total (elim c.if-pass-total.branch [
      | then-pass-total w ↦ inl (w.if-pass-total.true, w.gap-is)
      | else-pass-total w ↦ inr (w.if-pass-total.false, w.gap-is)
    ]))
    c.requires.few c.requires.below c.if-first.true

-- met before, in the same gap, or of a rank that can't be the least
pub returns-then-first-gap-clause-passed : goal.returns-then-first-gap-clause-passed
returns-then-first-gap-clause-passed c =
    passed-again c.args.rank c.args.ranks.now c.args.met.now c.args.i c.args.pass.before c.args.pass.least c.requires.place c.requires.passed
    (slice_index c.args.ranks.now c.args.i) c.if-pass-total.gap refl c.if-other-rank.false
    (gap-here c.args.rank c.args.ranks.now c.args.i c.args.pass.before c.args.total c.if-pass-total.gap c.requires.passed.count c.requires.total (elim c.if-pass-total.branch [
      | then-pass-total w ↦ inl (w.if-pass-total.true, w.gap-is)
      | else-pass-total w ↦ inr (w.if-pass-total.false, w.gap-is)
    ]))
    c.if-first.false
    (elim c.then-first-gap.branch [
      | then-first-gap-via-then-first-gap w ↦ inl w.if-first-gap.true
      | then-first-gap-via-else-first-gap+then-other-pass w ↦ inr (omega (arith, w.if-other-pass.true))
    ])

-- met before in another gap
pub returns-clause-passed : goal.returns-clause-passed
returns-clause-passed c =
    passed-other c.args.rank c.args.ranks.now c.args.met.now c.args.i c.args.pass.before c.args.pass.least c.requires.place c.requires.passed
    (slice_index c.args.ranks.now c.args.i) c.if-pass-total.gap refl c.if-other-rank.false
    (gap-here c.args.rank c.args.ranks.now c.args.i c.args.pass.before c.args.total c.if-pass-total.gap c.requires.passed.count c.requires.total (elim c.if-pass-total.branch [
      | then-pass-total w ↦ inl (w.if-pass-total.true, w.gap-is)
      | else-pass-total w ↦ inr (w.if-pass-total.false, w.gap-is)
    ]))
    c.requires.below c.if-first.false c.if-first-gap.false (omega (arith, c.if-other-pass.false))
