-- The open lists with one more at their end.
use Rattle.std.proofs.Common.{ap, ◌∙◌, List, [], ◌∷◌}
use Rattle.gml_text.specs.Pairs.{document_of}
use Rattle.gml_text.specs.Partial.{frames_onto}
use Rattle.gml_text.specs.declared.partial.OpenList.{OpenList}
use Rattle.gml_text.proofs.Frames.{frames_onto-push}
use Rattle.gml_text.proofs.partial.Partial.open.Goals as goal

pub returns : goal.returns
returns c =
    record {
      frames =
          ap (λ (os : List OpenList). frames_onto os []) c.in_ok-push.ensures.items
          ∙ frames_onto-push c.args.self.now.open_lists.items (record { before = c.replace-before.result; key = c.args.key }) []
          ∙ ap (λ v. record { before = document_of v.items; key = c.args.key } ∷ frames_onto c.args.self.now.open_lists.items []) c.replace-before.ensures.value;
      pairs = ap (λ v. document_of v.items) c.replace-before.ensures.after ∙ ap document_of c.new.ensures.items;
    }
