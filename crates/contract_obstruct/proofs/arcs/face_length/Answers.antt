use Rattle.std.proofs.Common.{◌+◌, ◌==◌, length, sym, ap, ◌∙◌, arith}
use Rattle.std.proofs.lemmas.Bool.{eq-eqb}
use Rattle.permutations.specs.Permutation.{iterate}
use Rattle.permutations.proofs.Search.{least-is, least-none, none-some}
use Rattle.contract_obstruct.specs.Arcs.{along}
use Rattle.contract_obstruct.proofs.arcs.face_length.Goals as goal

pub returns-then-at-dart : goal.returns-then-at-dart
returns-then-at-dart c =
    let f = along c.args.next.now in
    let d = c.args.dart in
    ap (λ z. z + 1) (sym (least-is (length c.args.next.now) (λ k. iterate f (k + 1) d == d) c.loop-passed.passed c.loop-passed-test.true
    (eq-eqb (iterate f (c.loop-passed.passed + 1) d) d (sym c.loop-passed.invariant.0 ∙ c.if-at-dart.true)) c.loop-passed.invariant.1))

pub returns : goal.returns
returns c =
    let f = along c.args.next.now in
    let d = c.args.dart in
    ap (λ z. z + 1) (sym (least-none (length c.args.next.now) (λ k. iterate f (k + 1) d == d)
    (none-some (length c.args.next.now) (λ k. iterate f (k + 1) d == d) (λ j l. c.loop-passed.invariant.1 j (omega (arith, l, c.loop-passed-test.false))))))
