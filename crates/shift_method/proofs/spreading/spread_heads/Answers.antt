use Rattle.std.proofs.Common.{◌+◌, ◌-◌, ℕ, length, take, drop, slice_index, slice_set, arith, sym, ap, subst}
use Rattle.shift_method.proofs.Writes.{AreWritten, inner-at, written-step, written-inner, written-others}
use Rattle.shift_method.proofs.spreading.spread_heads.Goals as goal

pub offset-requires : goal.offset-requires
offset-requires c = omega (arith, c.requires.sizes.offsets, c.requires.heads_within (slice_index (take (length c.heads-heads.result.now - 1 - 1) (drop 1 c.heads-heads.result.now)) c.loop-v.v-index) (inner-at c.heads-heads.result.now c.args.removal.now.1 c.heads-heads.ensures c.requires.two c.loop-v.v-index c.loop-v-test.true))

pub overflow_add-x : goal.overflow_add-x
overflow_add-x c =
    omega (
      arith,
      c.requires.room,
      c.requires.fits (slice_index (take (length c.heads-heads.result.now - 1 - 1) (drop 1 c.heads-heads.result.now)) c.loop-v.v-index) (inner-at c.heads-heads.result.now c.args.removal.now.1 c.heads-heads.ensures c.requires.two c.loop-v.v-index c.loop-v-test.true),
      c.half.ensures,
      c.offset.ensures,
      ap (slice_index c.args.x.now) c.vertex-w.ensures,
      ap (slice_index c.args.shape.now.half) c.vertex-w.ensures,
    )

pub bounds-x-v : goal.bounds-x-v
bounds-x-v c = omega (arith, c.loop-v.invariant.size, c.requires.heads_within (slice_index (take (length c.heads-heads.result.now - 1 - 1) (drop 1 c.heads-heads.result.now)) c.loop-v.v-index) (inner-at c.heads-heads.result.now c.args.removal.now.1 c.heads-heads.ensures c.requires.two c.loop-v.v-index c.loop-v-test.true))

pub loop-v-preserved : goal.loop-v-preserved
loop-v-preserved c =
    subst (λ (o : ℕ). AreWritten (take (length c.heads-heads.result.now - 1 - 1) (drop 1 c.heads-heads.result.now)) c.args.x.now c.args.shape.now.offset (slice_index c.args.x.now c.vertex-w.result - c.half.result) (c.loop-v.v-index + 1)
    (slice_set c.loop-v.x (slice_index (take (length c.heads-heads.result.now - 1 - 1) (drop 1 c.heads-heads.result.now)) c.loop-v.v-index) (slice_index c.args.x.now c.vertex-w.result - c.half.result + o))) (sym c.offset.ensures)
    (written-step (take (length c.heads-heads.result.now - 1 - 1) (drop 1 c.heads-heads.result.now)) c.args.x.now c.args.shape.now.offset (slice_index c.args.x.now c.vertex-w.result - c.half.result) c.loop-v.v-index c.loop-v.x c.loop-v-test.true
    (omega (arith, c.loop-v.invariant.size, c.requires.heads_within (slice_index (take (length c.heads-heads.result.now - 1 - 1) (drop 1 c.heads-heads.result.now)) c.loop-v.v-index) (inner-at c.heads-heads.result.now c.args.removal.now.1 c.heads-heads.ensures c.requires.two c.loop-v.v-index c.loop-v-test.true))) c.loop-v.invariant)

pub returns-clause-inner : goal.returns-clause-inner
returns-clause-inner c = λ v j. omega (
  arith,
  c.requires.room,
  c.half.ensures,
  ap (slice_index c.args.x.now) c.vertex-w.ensures,
  ap (slice_index c.args.shape.now.half) c.vertex-w.ensures,
  written-inner c.heads-heads.result.now c.args.removal.now.1 c.args.x.now c.args.shape.now.offset (slice_index c.args.x.now c.vertex-w.result - c.half.result) c.loop-v.v-index c.loop-v.x c.heads-heads.ensures c.requires.two
      (omega (arith, c.loop-v-test.false)) c.loop-v.invariant v j,
)

pub returns-clause-others : goal.returns-clause-others
returns-clause-others c =
    written-others c.heads-heads.result.now c.args.removal.now.1 c.args.x.now c.args.shape.now.offset (slice_index c.args.x.now c.vertex-w.result - c.half.result) c.loop-v.v-index c.loop-v.x c.heads-heads.ensures c.requires.two c.loop-v.invariant
