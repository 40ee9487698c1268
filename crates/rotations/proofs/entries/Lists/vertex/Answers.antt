use Rattle.std.proofs.Common.{◌<◌, ℕ, List, length, sym, ap, ◌∙◌, arith}
use Rattle.std.proofs.lemmas.List.{get_or_read}
use Rattle.rotations.specs.Entries.{entry}
use Rattle.rotations.proofs.Zipped.{zipped-length, zipped-entry}
use Rattle.rotations.proofs.entries.Lists.vertex.Goals as goal

pub index-requires : goal.index-requires
index-requires c = omega (arith, c.requires, c.self.inside.vertices.ok.0, zipped-length c.self.inside.vertices.items c.self.inside.lists c.self.invariant.1, ap length c.self.view_is)

pub returns : goal.returns
returns c =
    let vertices = c.self.inside.vertices.items in
    let within : c.args.i < length vertices = omega (arith, c.requires, zipped-length vertices c.self.inside.lists c.self.invariant.1, ap length c.self.view_is) in
    get_or_read vertices c.args.i c.index.result.now within c.index.ensures 0 ∙ sym (ap (λ (p : ℕ × List ℕ). p.0) (zipped-entry vertices c.self.inside.lists c.self.invariant.1 c.args.i within))
    ∙ ap (λ (l : List (ℕ × List ℕ)). (entry l c.args.i).0) c.self.view_is
