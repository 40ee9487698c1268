use Rattle.skeletons.specs.Choices.{choice}
use Rattle.embed_enum.proofs.Reaches.{ArePlaced}
use Rattle.embed_enum.proofs.reaching.numbered_order.Given as goal

abbrev pub invariant-loop-i : goal.invariant-loop-i
invariant-loop-i l = ArePlaced (choice l.p.tree l.p.rotation l.k) l.keys.items l.items l.i l.left l.factor l.number
