use Rattle.std.proofs.Common.{◌≡◌, ◌<◌, ◌++◌, ◌∙◌, ℕ, List, [], length, take, slice_index_or, sym, ap, arith}
use Rattle.std.specs.List.{concat}
use Rattle.std.proofs.lemmas.List.{take_all}
use Rattle.skel_embed.specs.Block.{choices_by}
use Rattle.skel_embed.proofs.Flat.{concat-next}
use Rattle.skel_embed.proofs.KeptKeys.{choices-by_at, choices-by_many}
use Rattle.skel_embed.proofs.choosing.choices_by_walks.Goals as goal

pub loop-k-preserved : goal.loop-k-preserved
loop-k-preserved c =
    let lists = choices_by c.args.t.now c.args.r.now in
    let k = c.loop-k.k in
    let h : k < length c.args.t.now = omega (arith, c.loop-k-test.true, c.node_count-k-end.ensures) in
    let l : k < length lists = omega (arith, h, choices-by_many c.args.t.now c.args.r.now) in
    let item : c.deref.result.now ≡ slice_index_or lists k [] = c.deref.ensures.value ∙ c.in_ok-list.ensures {u = tt} ∙ sym (choices-by_at c.args.t.now c.args.r.now k h) in
    c.in_ok-extend_from_slice.ensures.items ∙ ap (λ (z : List ℕ). z ++ c.deref.result.now) c.loop-k.invariant ∙ ap (λ (z : List ℕ). concat (take k lists) ++ z) item ∙ sym (concat-next lists k l)

pub returns : goal.returns
returns c =
    let lists = choices_by c.args.t.now c.args.r.now in
    c.loop-k.invariant ∙ ap concat (take_all c.loop-k.k lists (omega (arith, c.loop-k-test.false, c.node_count-k-end.ensures, choices-by_many c.args.t.now c.args.r.now)))
