use Rattle.std.proofs.Common.{◌≡◌, length}
use Rattle.graph_paths.specs.Listing.{AreListed}
use Rattle.graph_paths.specs.Search.{IsSearch}
use Rattle.graph_paths.proofs.search.explore.Given as goal

abbrev pub invariant-loop-q : goal.invariant-loop-q
invariant-loop-q l = record {
  listed : AreListed l.marks l.notes l.list.items;
  size : length l.marks ≡ l.fn.g.vertex_count;
  search : IsSearch l.fn.g l.fn.root l.notes l.list.items l.q;
}
