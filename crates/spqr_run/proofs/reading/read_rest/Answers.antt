use Rattle.std.proofs.Common.{arith}
use Rattle.std.proofs.lemmas.Result.{err_from_is_err_and}
use Rattle.spqr_run.proofs.Files.{failed_any}
use Rattle.spqr_run.proofs.Pieces.{longer_taken}
use Rattle.spqr_run.proofs.reading.read_rest.Goals as goal

pub returns-in_err-read_piece-clause-bytes : goal.returns-in_err-read_piece-clause-bytes
returns-in_err-read_piece-clause-bytes g c =
    let p = err_from_is_err_and c.from_residual-in_err-read_piece.result c.from_residual-in_err-read_piece.ensures.1 in
    rw (p.1, p.2) (failed_any (g.S.Shelf.left c.args.shelf.now) c.args.limit _ _ _ c.in_err-read_piece.ensures.piece)

pub returns-clause-bytes : goal.returns-clause-bytes
returns-clause-bytes g c =
    longer_taken c.args.limit (g.S.Shelf.left c.args.shelf.now) (g.S.Shelf.left c.loop-shelf.shelf) c.loop-shelf.bytes.items c.loop-shelf.invariant.taken (omega (arith, c.loop-shelf-test.false, c.len.ensures, c.loop-shelf.bytes.ok.0))
