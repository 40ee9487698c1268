use Rattle.std.proofs.Common.{◌≡◌, ◌<◌, ◌+◌, ◌-◌, ◌/◌, ℕ, List, true, length, take, drop, slice_index, arith, refl, sym, ap, ◌∙◌, subst}
use Rattle.std.proofs.Math.ListN.{length-set}
use Rattle.permutations.specs.Members.{is_member}
use Rattle.shift_method.specs.Shapes.{ShapeState, last_of, total}
use Rattle.shift_method.proofs.Writes.{tail-is}
use Rattle.shift_method.proofs.Fitting.{widened-length, first-below, rest-below, end-below, gaps-small, width-small, sum-small, sum-more, half-less, width-told, half-told, placed-told}
use Rattle.shift_method.proofs.shape.Shape.place.Goals as goal

pub height-left-requires : goal.height-left-requires
height-left-requires c = let k = c.requires.stack in omega (arith, k.1.heights, first-below k.0 c.args.self.now c.args.vertex c.args.heads.now k.1 k.2 k.3)

pub height-right-requires : goal.height-right-requires
height-right-requires c =
    let k = c.requires.stack in
    subst (λ (l : List ℕ). last_of l < length c.args.self.now.height) (sym (tail-is c.args.heads.now)) (omega (arith, k.1.heights, end-below k.0 c.args.self.now c.args.vertex c.args.heads.now k.1 k.2 k.3))

pub widen-requires-clause-within : goal.widen-requires-clause-within
widen-requires-clause-within c =
    let k = c.requires.stack in
    λ v i. omega (arith, k.1.gaps, rest-below k.0 c.args.self.now c.args.vertex c.args.heads.now k.1 k.2 k.3 v (subst (λ (l : List ℕ). is_member v l ≡ true) (tail-is c.args.heads.now) i))

pub widen-requires-clause-fits : goal.widen-requires-clause-fits
widen-requires-clause-fits c =
    let k = c.requires.stack in
    λ v i. gaps-small k.0 c.args.self.now c.args.vertex c.args.heads.now k.1 k.2 k.3 v (subst (λ (l : List ℕ). is_member v l ≡ true) (tail-is c.args.heads.now) i)

pub cover-width-requires-clause-gap_within : goal.cover-width-requires-clause-gap_within
cover-width-requires-clause-gap_within c =
    let k = c.requires.stack in
    λ v i. omega (
      arith,
      k.1.gaps,
      ap (λ (s : ShapeState). length s.gap) c.widen.ensures,
      widened-length c.args.self.now.gap (take (length c.args.heads.now - 1) (drop 1 c.args.heads.now)),
      rest-below k.0 c.args.self.now c.args.vertex c.args.heads.now k.1 k.2 k.3 v (subst (λ (l : List ℕ). is_member v l ≡ true) (tail-is c.args.heads.now) i),
    )

pub cover-width-requires-clause-offset_within : goal.cover-width-requires-clause-offset_within
cover-width-requires-clause-offset_within c =
    let k = c.requires.stack in
    λ v i. omega (
      arith,
      k.1.offsets,
      ap (λ (s : ShapeState). length s.offset) c.widen.ensures,
      rest-below k.0 c.args.self.now c.args.vertex c.args.heads.now k.1 k.2 k.3 v (subst (λ (l : List ℕ). is_member v l ≡ true) (tail-is c.args.heads.now) i),
    )

pub cover-width-requires-clause-fits : goal.cover-width-requires-clause-fits
cover-width-requires-clause-fits c =
    let k = c.requires.stack in
    subst (λ (w : ℕ). w < 4294967296) (sym (width-told c.args.self.now c.widen.new.self c.args.heads.now (take (length c.args.heads.now - 1) (drop 1 c.args.heads.now))
    (total (slice_index c.widen.new.self.gap) (take (length c.args.heads.now - 1) (drop 1 c.args.heads.now))) (tail-is c.args.heads.now) c.widen.ensures refl))
    (width-small k.0 c.args.self.now c.args.vertex c.args.heads.now k.1 k.2 k.3)

pub overflow_add-half : goal.overflow_add-half
overflow_add-half c =
    let k = c.requires.stack in
    omega (arith, sum-small k.0 c.args.self.now c.args.vertex c.args.heads.now k.1 k.2 k.3, width-told c.args.self.now c.widen.new.self c.args.heads.now (take (length c.args.heads.now - 1) (drop 1 c.args.heads.now)) c.cover-width.result (tail-is c.args.heads.now) c.widen.ensures c.cover-width.ensures.sum, (c.height-right.ensures ∙ ap (λ (l : List ℕ). slice_index c.args.self.now.height (last_of l)) (tail-is c.args.heads.now)))

pub overflow_sub-half : goal.overflow_sub-half
overflow_sub-half c =
    let k = c.requires.stack in
    omega (arith, sum-more k.0 c.args.self.now c.args.vertex c.args.heads.now k.1 k.2 k.3, width-told c.args.self.now c.widen.new.self c.args.heads.now (take (length c.args.heads.now - 1) (drop 1 c.args.heads.now)) c.cover-width.result (tail-is c.args.heads.now) c.widen.ensures c.cover-width.ensures.sum, (c.height-right.ensures ∙ ap (λ (l : List ℕ). slice_index c.args.self.now.height (last_of l)) (tail-is c.args.heads.now)), c.height-left.ensures)

pub overflow_sub-width : goal.overflow_sub-width
overflow_sub-width c =
    let k = c.requires.stack in
    omega (arith, half-less k.0 c.args.self.now c.args.vertex c.args.heads.now k.1 k.2 k.3, width-told c.args.self.now c.widen.new.self c.args.heads.now (take (length c.args.heads.now - 1) (drop 1 c.args.heads.now)) c.cover-width.result (tail-is c.args.heads.now) c.widen.ensures c.cover-width.ensures.sum, half-told c.args.self.now c.args.heads.now (take (length c.args.heads.now - 1) (drop 1 c.args.heads.now)) c.cover-width.result c.height-right.result c.height-left.result (tail-is c.args.heads.now) (width-told c.args.self.now c.widen.new.self c.args.heads.now (take (length c.args.heads.now - 1) (drop 1 c.args.heads.now)) c.cover-width.result (tail-is c.args.heads.now) c.widen.ensures c.cover-width.ensures.sum) c.height-right.ensures c.height-left.ensures)

pub set_gap-requires : goal.set_gap-requires
set_gap-requires c =
    let k = c.requires.stack in
    let end : last_of (take (length c.args.heads.now - 1) (drop 1 c.args.heads.now)) < k.0 = subst (λ (l : List ℕ). last_of l < k.0) (sym (tail-is c.args.heads.now)) (end-below k.0 c.args.self.now c.args.vertex c.args.heads.now k.1 k.2 k.3) in
    omega (
      arith,
      end,
      k.1.gaps,
      ap (λ (s : ShapeState). length s.gap) c.raise.ensures,
      length-set c.cover-width.new.self.gap c.args.vertex ((c.cover-width.result + c.height-right.result - c.height-left.result) / 2),
      ap (λ (s : ShapeState). length s.gap) c.cover-width.ensures.offset,
      ap (λ (s : ShapeState). length s.gap) c.widen.ensures,
      widened-length c.args.self.now.gap (take (length c.args.heads.now - 1) (drop 1 c.args.heads.now)),
    )

pub returns : goal.returns
returns c =
    placed-told c.args.self.now c.widen.new.self c.cover-width.new.self c.raise.new.self c.set_gap.new.self c.args.vertex c.args.heads.now (take (length c.args.heads.now - 1) (drop 1 c.args.heads.now))
    c.cover-width.result ((c.cover-width.result + c.height-right.result - c.height-left.result) / 2) c.height-left.result (tail-is c.args.heads.now) c.widen.ensures c.cover-width.ensures.offset
    (width-told c.args.self.now c.widen.new.self c.args.heads.now (take (length c.args.heads.now - 1) (drop 1 c.args.heads.now)) c.cover-width.result (tail-is c.args.heads.now) c.widen.ensures c.cover-width.ensures.sum)
    (half-told c.args.self.now c.args.heads.now (take (length c.args.heads.now - 1) (drop 1 c.args.heads.now)) c.cover-width.result c.height-right.result c.height-left.result (tail-is c.args.heads.now) (width-told c.args.self.now c.widen.new.self c.args.heads.now (take (length c.args.heads.now - 1) (drop 1 c.args.heads.now)) c.cover-width.result (tail-is c.args.heads.now) c.widen.ensures c.cover-width.ensures.sum) c.height-right.ensures c.height-left.ensures)
    c.height-left.ensures c.raise.ensures c.set_gap.ensures
