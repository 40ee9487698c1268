use Rattle.std.proofs.Common.{◌≡◌, length}
use Rattle.graph_paths.specs.Listing.{AreListed}
use Rattle.block_obstruct.specs.Towards.{AreReached}
use Rattle.block_obstruct.proofs.towards.reach.Given as goal

abbrev pub invariant-loop-q : goal.invariant-loop-q
invariant-loop-q l = record {
  listed : AreListed l.marks l.notes l.list.items;
  size : length l.marks ≡ length l.fn.tree;
  reached : AreReached l.fn.tree l.fn.k l.notes l.list.items l.q;
}
