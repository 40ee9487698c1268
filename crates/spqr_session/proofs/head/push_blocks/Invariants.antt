use Rattle.std.proofs.Common.{◌≡◌, ◌++◌, map, take}
use Rattle.spqr_session.specs.Embedded.{view_tree, view_certificate}
use Rattle.spqr_session.specs.Head.{block_lines, numbered}
use Rattle.spqr_session.proofs.head.push_blocks.Given as goal

abbrev pub invariant-loop-b : goal.invariant-loop-b
invariant-loop-b l = l.out.items ≡ l.fn.out.items ++ numbered (block_lines (map view_tree l.embedded) (map view_certificate l.embedded)) 0 (take l.b l.blocks.blocks)
