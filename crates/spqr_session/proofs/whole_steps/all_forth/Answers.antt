use Rattle.std.proofs.Common.{ℕ, ◌++◌, List, map, take, slice_index_or, sym, ap, ◌∙◌}
use Rattle.std.proofs.lemmas.List.{take_more}
use Rattle.skeletons.specs.Moves.{Move}
use Rattle.whole_embed.specs.Cuts.{blocks_in}
use Rattle.spqr_session.specs.History.{as_pairs}
use Rattle.spqr_session.specs.WholeSteps.{moves_forth, pairs_of}
use Rattle.spqr_session.proofs.WholesFirst.{pairs-more}
use Rattle.permutations.proofs.Arrangements.{member-at}
use Rattle.spqr_session.proofs.whole_steps.all_forth.Goals as goal

pub forth_of-requires-clause-fits : goal.forth_of-requires-clause-fits
forth_of-requires-clause-fits c = c.requires.fits (slice_index_or c.args.numbers.now c.loop-b.b-index 0) (member-at c.args.numbers.now c.loop-b.b-index 0 c.loop-b-test.true)

pub forth_of-requires-clause-within : goal.forth_of-requires-clause-within
forth_of-requires-clause-within c = c.requires.within (slice_index_or c.args.numbers.now c.loop-b.b-index 0) (member-at c.args.numbers.now c.loop-b.b-index 0 c.loop-b-test.true)

pub loop-b-preserved : goal.loop-b-preserved
loop-b-preserved c =
    let numbers = c.args.numbers.now in
    let i : ℕ = c.loop-b.b-index in
    let b : ℕ = slice_index_or numbers i 0 in
    let of_block : ℕ → List Move = moves_forth c.args.blocks.now (blocks_in c.args.all.now) in
    pairs-more of_block (take i numbers) b (as_pairs c.loop-b.list.items) (as_pairs c.push_moves.new.list.items) c.loop-b.invariant
    (c.in_ok-push_moves.ensures {u = tt} ∙ ap (λ (z : List Move). as_pairs c.loop-b.list.items ++ map (λ (m : Move). (b, m)) z) (c.in_ok-moves.ensures {u = tt}))
    ∙ ap (pairs_of of_block) (sym (take_more numbers i 0 c.loop-b-test.true))
