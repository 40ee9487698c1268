-- The last step tells the document, or that there is none.
use Rattle.std.proofs.Common.{◌≡◌, ℕ, ◌∙◌, ap, sym, subst, List, Option, Ok, Err, Bor, arith}
use Rattle.gml_text.specs.Document.{Document}
use Rattle.gml_text.specs.Pairs.{document_of}
use Rattle.gml_text.specs.Grammar.{Spells}
use Rattle.gml_text.specs.WellFormed.{IsWellFormed}
use Rattle.gml_text.specs.Partial.{pairs_of, Stepped}
use Rattle.gml_text.specs.declared.partial.Stop.{Stop}
use Rattle.gml_text.proofs.ReadDocument.{read_more, read_all, read_breaks, spells_well_formed, fault_is}
use Rattle.gml_text.proofs.reader.read.Goals as goal

pub items-preserved : goal.items-preserved
items-preserved c =
    read_more c.args.bytes.now c.items.rest.now c.in-Some.behind.now c.items.partial c.step.new.self c.items.invariant
    (subst (λ (next : Option (Bor (List ℕ))). Stepped c.items.partial c.items.rest.now (Ok next) c.step.new.self) c.in-Some.is c.in-Ok.ensures)

pub of-requires : goal.of-requires
of-requires c =
    let over = subst (λ (next : Option (Bor (List ℕ))). Stepped c.items.partial c.items.rest.now (Ok next) c.step.new.self) c.in-None.is c.in-Ok.ensures in
    let same : document_of c.into_pairs.result.items ≡ pairs_of c.items.partial = c.into_pairs.ensures ∙ ap pairs_of over.1 in
    subst (λ (d : Document). IsWellFormed d) (sym same)
    (spells_well_formed c.args.bytes.now (pairs_of c.items.partial) (read_all c.args.bytes.now c.items.rest.now c.items.partial c.items.invariant over.0))

pub returns-in-None-clause-spelled : goal.returns-in-None-clause-spelled
returns-in-None-clause-spelled c =
    let over = subst (λ (next : Option (Bor (List ℕ))). Stepped c.items.partial c.items.rest.now (Ok next) c.step.new.self) c.in-None.is c.in-Ok.ensures in
    let same : c.of.result ≡ pairs_of c.items.partial = c.of.ensures ∙ c.into_pairs.ensures ∙ ap pairs_of over.1 in
    subst (λ (d : Document). Spells c.args.bytes.now d) (sym same) (read_all c.args.bytes.now c.items.rest.now c.items.partial c.items.invariant over.0)

pub returns-in-Fault-clause-fault : goal.returns-in-Fault-clause-fault
returns-in-Fault-clause-fault c =
    let refused = subst (λ (stop : Stop). Stepped c.items.partial c.items.rest.now (Err stop) c.step.new.self) c.in-Fault.is c.in-Err.ensures in
    fault_is c.args.bytes.now c.in-Fault.left c.fault.result
    (read_breaks c.args.bytes.now c.items.rest.now c.items.partial c.in-Fault.left c.items.invariant refused.0)
    (omega (arith, refused.1, c.items.invariant.shorter))
    c.fault.ensures
