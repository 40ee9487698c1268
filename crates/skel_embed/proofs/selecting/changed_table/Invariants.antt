use Rattle.skel_embed.specs.Selected.{HaveChoices}
use Rattle.skel_embed.proofs.selecting.changed_table.Given as goal

abbrev pub invariant-loop-k : goal.invariant-loop-k
invariant-loop-k l = HaveChoices l.tree l.new l.k l.changed
