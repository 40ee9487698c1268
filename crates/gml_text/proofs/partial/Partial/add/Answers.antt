-- The pairs with one more at their end.
use Rattle.std.proofs.Common.{refl, ap, ◌∙◌}
use Rattle.gml_text.specs.Pairs.{document_of}
use Rattle.gml_text.proofs.Documents.{document_of-push}
use Rattle.gml_text.proofs.partial.Partial.add.Goals as goal

pub returns : goal.returns
returns c =
    record {
      frames = refl;
      pairs = ap document_of c.in_ok-push.ensures.items ∙ document_of-push c.args.self.now.pairs.items (record { key = c.args.key; value = c.args.value });
    }
