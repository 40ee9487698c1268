-- The list that was opened last leaves the open ones, and joins the pairs before it.
use Rattle.std.proofs.Common.{◌≡◌, ap, ◌∙◌, List, []}
use Rattle.gml_text.specs.Document.{append, list, empty}
use Rattle.gml_text.specs.Pairs.{document_of}
use Rattle.gml_text.specs.Partial.{frames_onto}
use Rattle.gml_text.specs.declared.partial.OpenList.{OpenList}
use Rattle.gml_text.specs.declared.document.Value.TheVariants.{List as Inner}
use Rattle.gml_text.proofs.Frames.{frames_onto-push}
use Rattle.gml_text.proofs.Documents.{document_of-push}
use Rattle.gml_text.proofs.partial.Partial.close.Goals as goal

pub returns-in_ok-push-in-Some : goal.returns-in_ok-push-in-Some
returns-in_ok-push-in-Some c =
    let inner : c.of.result ≡ document_of c.args.self.now.pairs.items = c.of.ensures ∙ ap document_of c.shrink_to_fit.ensures.items ∙ ap (λ v. document_of v.items) c.replace-inner.ensures.value in
    record {
      frame = record { before = document_of c.in-Some.field-0.before.items; key = c.in-Some.field-0.key };
      frames =
          ap (λ (os : List OpenList). frames_onto os []) c.in-Some.ensures.items
          ∙ frames_onto-push c.pop.new.self.items c.in-Some.field-0 [];
      pairs =
          ap document_of c.in_ok-push-in-Some.ensures.items
          ∙ document_of-push c.replace-inner.new.dest.items (record { key = c.in-Some.field-0.key; value = Inner c.of.result })
          ∙ ap (λ v. append (document_of v.items) (list c.in-Some.field-0.key c.of.result empty)) c.replace-inner.ensures.after
          ∙ ap (λ d. append (document_of c.in-Some.field-0.before.items) (list c.in-Some.field-0.key d empty)) inner;
    }
