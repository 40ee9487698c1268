use Rattle.std.proofs.Common.{◌-◌, List, take, drop, ap, ◌∙◌, subst}
use Rattle.multigraph.specs.Flat.{AreFlat}
use Rattle.multigraph.proofs.Flat.{piece-of}
use Rattle.multigraph.proofs.flat_lists.FlatLists.at.Goals as goal

pub returns : goal.returns
returns g c =
    let f : AreFlat c.args.self.now c.self.inside.values.items c.self.inside.ends.items = subst (λ (z : List (List g.row.T.Denot)). AreFlat z c.self.inside.values.items c.self.inside.ends.items) c.self.view_is c.self.invariant in
    ap (λ (z : List g.row.T.Denot). take (c.bounds-start.result.1 - c.bounds-start.result.0) (drop c.bounds-start.result.0 z)) c.deref.ensures.value
    ∙ piece-of c.args.self.now c.self.inside.values.items c.self.inside.ends.items f c.args.k c.requires c.bounds-start.result.0 c.bounds-start.result.1 c.bounds-start.ensures.start c.bounds-start.ensures.end
