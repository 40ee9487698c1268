-- A pair is no deeper than the document; the text of the marked document, which is well formed, spells it.
use Rattle.std.proofs.Common.{◌≡◌, ℕ, List, map, arith, ap, sym, subst}
use Rattle.gml_text.specs.Document.{Document, depth}
use Rattle.gml_text.specs.Grammar.{Spells}
use Rattle.gml_text.specs.Layout.{written}
use Rattle.gml_text.specs.declared.document.Pair.{Pair}
use Rattle.gml_text.proofs.Lines.{depth-pair}
use Rattle.gml_text.proofs.Written.{written_spells}
use Rattle.gml_graph.specs.Marked.{marked, marked_unless}
use Rattle.gml_graph.proofs.MarkedForm.{marked_well_formed}
use Rattle.gml_graph.proofs.MarkedSteps.{nothing_added, unless-empty}
use Rattle.gml_graph.proofs.marking.write_marked.Goals as goal

pub write_document_pair-requires : goal.write_document_pair-requires
write_document_pair-requires c =
    omega (
      arith,
      c.pairs-pair-items.ensures.well_formed.depth,
      ap depth c.pairs-pair-items.ensures.pairs,
      depth-pair c.pairs-pair-items.result.now c.loop-pair.pair-index c.pair-item.result c.loop-pair-test.true c.pair-item.is,
    )

pub returns-clause-spelled : goal.returns-clause-spelled
returns-clause-spelled c quotable =
    let pairs : List Pair = c.pairs-pair-items.result.now in
    let texts : List (List ℕ) = map (λ text. text.items) c.args.texts.now in
    let whole : Document = marked texts c.args.d.now in
    let is : c.loop-pair.out.items ≡ written whole =
    nothing_added 0 (marked_unless c.loop-pair.found texts) pairs c.loop-pair.pair-index c.loop-pair.out.items (written whole) c.loop-pair-test.false (unless-empty c.loop-pair.found texts) c.loop-pair.invariant in
    subst (λ (text : List ℕ). Spells text whole) (sym is) (written_spells whole (marked_well_formed texts c.args.d.now quotable c.pairs-pair-items.ensures.well_formed))
