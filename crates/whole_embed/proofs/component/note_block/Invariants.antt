use Rattle.std.proofs.Common.{◌≡◌, length, take}
use Rattle.whole_embed.specs.Frames.{AreNoted}
use Rattle.whole_embed.proofs.component.note_block.Given as goal

abbrev pub invariant-loop-edge : goal.invariant-loop-edge
invariant-loop-edge l = AreNoted (take l.edge-index l.edges) l.b l.initial.table l.table × (length l.table ≡ length l.initial.table)
