use Rattle.std.proofs.Common.{◌≡◌, ◌<◌, ◌+◌, ◌-◌, List, length, ap, ◌∙◌, subst, arith}
use Rattle.std.proofs.lemmas.List.{get_or_read}
use Rattle.multigraph.specs.Flat.{start_at, AreFlat}
use Rattle.multigraph.proofs.Flat.{ends-count, end-is}
use Rattle.multigraph.proofs.flat_lists.FlatLists.start.Goals as goal

pub index-requires : goal.index-requires
index-requires g c =
    let f : AreFlat c.args.self.now c.self.inside.values.items c.self.inside.ends.items = subst (λ (z : List (List g.row.T.Denot)). AreFlat z c.self.inside.values.items c.self.inside.ends.items) c.self.view_is c.self.invariant in
    omega (arith, c.self.inside.ends.ok.0, ends-count c.args.self.now c.self.inside.values.items c.self.inside.ends.items f, c.requires)

pub returns : goal.returns
returns g c =
    let f : AreFlat c.args.self.now c.self.inside.values.items c.self.inside.ends.items = subst (λ (z : List (List g.row.T.Denot)). AreFlat z c.self.inside.values.items c.self.inside.ends.items) c.self.view_is c.self.invariant in
    let n : c.args.k - 1 < length c.args.self.now = omega (arith, c.requires) in
    let m : c.args.k - 1 < length c.self.inside.ends.items = omega (arith, ends-count c.args.self.now c.self.inside.values.items c.self.inside.ends.items f, c.requires) in
    let p : (c.args.k - 1) + 1 ≡ c.args.k = omega (arith, c.if-k-eq0.false) in
    get_or_read c.self.inside.ends.items (c.args.k - 1) c.index.result.now m c.index.ensures 0 ∙ end-is c.args.self.now c.self.inside.values.items c.self.inside.ends.items f (c.args.k - 1) n ∙ ap (start_at c.args.self.now) p
