use Rattle.skel_embed.specs.Members.{HaveFirst}
use Rattle.skel_embed.proofs.members.members_of.Given as goal

abbrev pub invariant-loop-k : goal.invariant-loop-k
invariant-loop-k g l = HaveFirst l.tree l.k l.table l.keys.items l.ends.items
