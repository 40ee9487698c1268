use Rattle.whole_embed.specs.Cuts.{blocks_in}
use Rattle.whole_convert.specs.Led.{is_marked}
use Rattle.whole_convert.proofs.FrameTables.{AreThen}
use Rattle.whole_convert.proofs.cut_lists.cuts_then.Given as goal

abbrev pub invariant-loop-i : goal.invariant-loop-i
invariant-loop-i l = AreThen l.cuts.component (blocks_in l.new) (is_marked l.marks) l.cuts.lists l.after l.i
