use Rattle.rotations.proofs.Calls.{shown}
use Rattle.rotations.proofs.system.Rotation.rings.Goals as goal

pub returns : goal.returns
returns c = (c.self.inside.frame.value.tails.items, shown c.self.inside.frame.value.tails.items c.self.inside.nodes c.self.inside.frame.value.rings.items c.self.invariant c.args.self.now c.self.view_is)
