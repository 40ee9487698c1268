-- The laws are their lemmas.
use Rattle.gml_graph.proofs.MarkedForm.{marked_well_formed}
use Rattle.gml_graph.proofs.MarkedLaw.{start_text-put, marked_start}
use Rattle.gml_graph.proofs.NumberTexts.{lists_quotable}
use Rattle.gml_graph.proofs.laws.marked_documents.Goals as goal

pub returns : goal.returns
returns c = record { well_formed = marked_well_formed; text = start_text-put; quotable = lists_quotable; start = marked_start }
