use Rattle.std.proofs.Common.{◌≡◌, ◌+◌, ◌-◌, vec_len}
use Rattle.spqr_run.proofs.Pieces.{TakenSoFar}
use Rattle.spqr_run.proofs.reading.read_rest.Given as goal

abbrev pub invariant-loop-shelf : goal.invariant-loop-shelf
invariant-loop-shelf g l = record {
  taken : TakenSoFar l.limit (g.S.Shelf.left l.fn.shelf) (g.S.Shelf.left l.shelf) l.bytes.items;
  room : vec_len l.room ≡ 65536;
  files : g.S.Shelf.files l.shelf ≡ g.S.Shelf.files l.fn.shelf;
  opens : g.S.Shelf.opens l.shelf ≡ g.S.Shelf.opens l.fn.shelf;
  faults : g.S.Shelf.faults l.shelf ≡ g.S.Shelf.faults l.fn.shelf;
}

abbrev pub decreases-loop-shelf : goal.decreases-loop-shelf
decreases-loop-shelf g l = l.limit + 1 - vec_len l.bytes
