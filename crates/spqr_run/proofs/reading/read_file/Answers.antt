use Rattle.spqr_run.specs.Reading.{IsFileReason, told_file}
use Rattle.spqr_run.specs.declared.reading.FileFault.TheVariants.{Failed}
use Rattle.spqr_run.proofs.Files.{some_any}
use Rattle.spqr_run.proofs.reading.read_file.Goals as goal

pub returns-in-Err-clause-bytes : goal.returns-in-Err-clause-bytes
returns-in-Err-clause-bytes g c = some_any (told_file (g.S.Shelf.files c.args.shelf.now) c.args.name.now) (λ bytes. IsFileReason c.args.limit bytes Failed) (λ bytes. tt)
