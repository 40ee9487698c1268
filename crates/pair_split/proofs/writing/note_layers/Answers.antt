use Rattle.std.proofs.Common.{◌+◌, List, length, sym, subst, ap, ◌∙◌, arith}
use Rattle.pair_split.specs.Bridges.{family_of, HaveNamesBelow}
use Rattle.pair_split.specs.declared.family.NamedEdge.{NamedEdge}
use Rattle.pair_split.specs.declared.splitting.Finished.{Finished}
use Rattle.pair_split.proofs.WritingSteps.{read-finished, layer-finished, layer-last, finished-names, last-names, ups-more, ups-all}
use Rattle.pair_split.proofs.CountedParts.{total-more, total-all}
use Rattle.pair_split.proofs.writing.note_layers.Goals as goal

pub note_layer-requires : goal.note_layer-requires
note_layer-requires g c = subst (λ (edges : List NamedEdge). HaveNamesBelow (c.args.m + length c.loop-k.ups) edges)
    (sym (c.as_slice.ensures ∙ ap (λ (finished : Finished). finished.edges) (read-finished c.args.parts.now c.loop-k.k c.index-parts-k.result c.loop-k-test.true c.index-parts-k.is)))
    (finished-names c.args.m c.args.parts.now c.args.current.now c.requires.listed c.loop-k.k (length c.loop-k.ups) c.loop-k-test.true (c.loop-k.auto.ups ∙ c.requires.number))

pub loop-k-preserved : goal.loop-k-preserved
loop-k-preserved g c = (
  ups-more c.args.m c.args.parts.now c.args.current.now c.requires.listed c.loop-k.k c.as_slice.result.now c.loop-k.ups c.note_layer.new.ups
      (layer-finished c.args.parts.now c.args.current.now c.loop-k.k c.loop-k-test.true ∙ ap family_of (sym (c.as_slice.ensures ∙ ap (λ (finished : Finished). finished.edges) (read-finished c.args.parts.now c.loop-k.k c.index-parts-k.result c.loop-k-test.true c.index-parts-k.is))))
      c.loop-k.invariant.0 (c.note_layer.ensures.noted, c.note_layer.ensures.kept),
  omega (arith, c.tick.ensures, c.note_layer.ensures.cost, c.loop-k.invariant.1, ap length c.as_slice.ensures, total-more c.args.parts.now c.loop-k.k c.index-parts-k.result c.loop-k-test.true c.index-parts-k.is),
)

pub note_layer-requires-2 : goal.note_layer-requires-2
note_layer-requires-2 g c = last-names c.args.m c.args.parts.now c.args.current.now c.requires.listed (length c.loop-k.ups) (c.loop-k.auto.ups ∙ c.requires.number)

pub returns-clause-ups : goal.returns-clause-ups
returns-clause-ups g c = ups-all c.args.m c.args.parts.now c.args.current.now c.requires.listed c.note_layer-2.new.ups
    (ups-more c.args.m c.args.parts.now c.args.current.now c.requires.listed (length c.args.parts.now) c.args.current.now c.loop-k.ups c.note_layer-2.new.ups (layer-last c.args.parts.now c.args.current.now) (λ k entry n l. c.loop-k.invariant.0 k entry n (omega (arith, l, c.loop-k-test.false))) (c.note_layer-2.ensures.noted, c.note_layer-2.ensures.kept))

pub returns-clause-cost : goal.returns-clause-cost
returns-clause-cost g c = omega (arith, c.note_layer-2.ensures.cost, c.loop-k.invariant.1, c.loop-k-test.false, total-all c.args.parts.now c.loop-k.k c.loop-k-test.false)
