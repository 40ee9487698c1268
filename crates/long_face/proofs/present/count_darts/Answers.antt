use Rattle.std.proofs.Common.{◌≡◌, ◌<◌, ◌==◌, length, ◌∙◌, sym, subst, arith}
use Rattle.std.proofs.lemmas.List.{get_or_default}
use Rattle.permutations.proofs.Count.{count-within}
use Rattle.face_weights.specs.Numbers.{number_at}
use Rattle.face_weights.specs.Sums.{weight_in}
use Rattle.long_face.proofs.present.count_darts.Goals as goal

pub overflow_add-index_mut : goal.overflow_add-index_mut
overflow_add-index_mut c =
    let d = c.loop-d.d in
    let t = number_at c.args.numbers.now d in
    let l : d < length c.args.numbers.now = omega (arith, c.loop-d-test.true, c.loop-d.auto.d-end) in
    let m : t < length c.args.numbers.now = c.requires.within d l in
    let value : c.index_mut.result.now ≡ weight_in c.loop-d.counts.items t = c.index_mut.ensures.value ∙ get_or_default c.loop-d.counts.items t c.index_mut.result.now 0 (subst (λ n. t < n) (sym c.loop-d.invariant.0) m) in
    omega (arith, value, c.loop-d.invariant.1 t m, count-within d (λ y. t == number_at c.args.numbers.now y), l, c.requires.few)
