use Rattle.std.proofs.Common.{◌≡◌, ◌++◌, take}
use Rattle.spqr_script.specs.Head.{vertex_text}
use Rattle.spqr_session.specs.Head.{numbered}
use Rattle.spqr_session.proofs.head.push_vertices.Given as goal

abbrev pub invariant-loop-v : goal.invariant-loop-v
invariant-loop-v l = l.out.items ≡ l.fn.out.items ++ numbered vertex_text 0 (take l.v l.ids)
