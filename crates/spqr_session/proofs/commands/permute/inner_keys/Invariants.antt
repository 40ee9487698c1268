use Rattle.std.proofs.Common.{◌≡◌, take}
use Rattle.spqr_session.specs.Commands.Permute.{inner_edges}
use Rattle.spqr_session.proofs.commands.permute.inner_keys.Given as goal

abbrev pub invariant-loop-key : goal.invariant-loop-key
invariant-loop-key l = l.own.items ≡ inner_edges l.block.tree (take l.key-index l.keys)
