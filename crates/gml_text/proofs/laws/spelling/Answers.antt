use Rattle.gml_text.proofs.OneDocument.{document_one}
use Rattle.gml_text.proofs.ReadDocument.{spells_well_formed}
use Rattle.gml_text.proofs.Written.{written_spells}
use Rattle.gml_text.proofs.laws.spelling.Goals as goal

pub returns : goal.returns
returns c = record { one = document_one; well_formed = spells_well_formed; written = written_spells }
