use Rattle.std.proofs.Common.{◌≡◌, ◌++◌, map, take}
use Rattle.std.specs.List.{concat}
use Rattle.spqr_script.specs.Head.{cut_text}
use Rattle.spqr_session.proofs.head.push_cuts.Given as goal

abbrev pub invariant-loop-v : goal.invariant-loop-v
invariant-loop-v l = l.out.items ≡ l.fn.out.items ++ concat (take l.v-index (map cut_text l.cut_vertices))
