-- The rings follow the reversed orders.
use Rattle.rotations.proofs.Calls.{call-mirrored}
use Rattle.rotations.proofs.system.Rotation.mirror.Goals as goal

pub returns : goal.returns
returns c = (call-mirrored c.self.inside.frame.value.tails.items c.self.inside.nodes c.self.inside.frame.value.rings.items c.self.invariant c.args.self.now c.self.view_is c.reverse_all.new.self c.reverse_all.ensures).mirrored

pub invariant_of-self : goal.invariant_of-self
invariant_of-self c = (call-mirrored c.self.inside.frame.value.tails.items c.self.inside.nodes c.self.inside.frame.value.rings.items c.self.invariant c.args.self.now c.self.view_is c.reverse_all.new.self c.reverse_all.ensures).kept
