use Rattle.std.proofs.Common.{◌<◌, ℕ, List, length, sym, ap, ◌∙◌, arith}
use Rattle.rotations.specs.Entries.{entry}
use Rattle.rotations.proofs.Zipped.{zipped-length, zipped-entry}
use Rattle.rotations.proofs.entries.Lists.edges.Goals as goal

pub at-requires : goal.at-requires
at-requires c = omega (arith, c.requires, c.self.invariant.1, zipped-length c.self.inside.vertices.items c.self.inside.lists c.self.invariant.1, ap length c.self.view_is)

pub returns : goal.returns
returns c =
    let vertices = c.self.inside.vertices.items in
    let within : c.args.i < length vertices = omega (arith, c.requires, zipped-length vertices c.self.inside.lists c.self.invariant.1, ap length c.self.view_is) in
    c.at.ensures ∙ sym (ap (λ (p : ℕ × List ℕ). p.1) (zipped-entry vertices c.self.inside.lists c.self.invariant.1 c.args.i within))
    ∙ ap (λ (l : List (ℕ × List ℕ)). (entry l c.args.i).1) c.self.view_is
