use Rattle.std.proofs.Common.{List, map, length, sym, subst}
use Rattle.whole_embed.specs.declared.members.Member.{Member}
use Rattle.spqr_session.specs.Embedded.{view_entry}
use Rattle.spqr_session.specs.Scene.{setting_on}
use Rattle.spqr_session.specs.Wholes.{AreMembersOf, IsFirstComponent}
use Rattle.spqr_session.proofs.wholes.first_component.Goals as goal

pub first_cuts-requires-clause-members : goal.first_cuts-requires-clause-members
first_cuts-requires-clause-members c = subst (AreMembersOf c.args.blocks.now (length c.args.blocks.now)) (sym c.deref.ensures.value) (c.in_ok-all.ensures {u = tt})

pub returns : goal.returns
returns c = subst (λ (l : List Member). IsFirstComponent (setting_on c.args.scene.now c.args.blocks.now) (map view_entry c.args.blocks.now) c.args.c c.in_ok-cuts.cuts l) c.deref.ensures.value (c.in_ok-cuts.ensures {u = tt})
