use Rattle.std.proofs.Common.{◌∙◌, arith}
use Rattle.split_comp.proofs.Begins.{numbers-noted}
use Rattle.split_comp.proofs.tree.note_numbers.Goals as goal

pub returns-clause-vertices : goal.returns-clause-vertices
returns-clause-vertices g c = numbers-noted c.args.g.now c.args.palm.now c.loop-v.vertex c.requires.tree (c.loop-v.auto.vertex ∙ c.requires.places) (λ v l. c.loop-v.invariant.0 v (omega (arith, l, c.loop-v-test.false, c.vertex_count-v-end.ensures.value)))
