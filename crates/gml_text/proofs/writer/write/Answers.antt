-- What is written spells the document.
use Rattle.std.proofs.Common.{◌≡◌, ◌++◌, sym, subst, ◌∙◌, ap, List, ℕ}
use Rattle.gml_text.specs.Grammar.{Spells}
use Rattle.gml_text.specs.Layout.{lines, written}
use Rattle.gml_text.proofs.Written.{written_spells}
use Rattle.gml_text.proofs.writer.write.Goals as goal

pub returns-clause-spelled : goal.returns-clause-spelled
returns-clause-spelled c =
    let e : c.write_pairs.new.out.items ≡ written c.args.d.now =
    c.in_ok-write_pairs.ensures ∙ ap (λ (xs : List ℕ). xs ++ lines 0 c.top.result.now) c.new-out.ensures.items ∙ ap (lines 0) c.top.ensures.pairs in
    subst (λ (text : List ℕ). Spells text c.args.d.now) (sym e) (written_spells c.args.d.now c.top.ensures.well_formed)
