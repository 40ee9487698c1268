use Rattle.std.proofs.Common.{List, subst, arith}
use Rattle.multigraph.specs.Flat.{AreFlat}
use Rattle.multigraph.proofs.Flat.{ends-count}
use Rattle.multigraph.proofs.flat_lists.FlatLists.len.Goals as goal

pub returns : goal.returns
returns g c =
    let f : AreFlat c.args.self.now c.self.inside.values.items c.self.inside.ends.items = subst (λ (z : List (List g.row.T.Denot)). AreFlat z c.self.inside.values.items c.self.inside.ends.items) c.self.view_is c.self.invariant in
    omega (arith, c.len.ensures, c.self.inside.ends.ok.0, ends-count c.args.self.now c.self.inside.values.items c.self.inside.ends.items f)
