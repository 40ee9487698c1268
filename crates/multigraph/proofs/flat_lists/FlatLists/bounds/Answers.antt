use Rattle.std.proofs.Common.{◌≡◌, ◌<◌, ◌+◌, List, length, ap, ◌∙◌, subst, arith}
use Rattle.std.proofs.lemmas.List.{get_or_read}
use Rattle.multigraph.specs.Flat.{start_at, AreFlat}
use Rattle.multigraph.proofs.Flat.{ends-count, end-is, start-within, start-grows}
use Rattle.multigraph.proofs.flat_lists.FlatLists.bounds.Goals as goal

pub index-requires : goal.index-requires
index-requires g c =
    let f : AreFlat c.args.self.now c.self.inside.values.items c.self.inside.ends.items = subst (λ (z : List (List g.row.T.Denot)). AreFlat z c.self.inside.values.items c.self.inside.ends.items) c.self.view_is c.self.invariant in
    omega (arith, c.self.inside.ends.ok.0, ends-count c.args.self.now c.self.inside.values.items c.self.inside.ends.items f, c.requires)

pub returns-clause-end : goal.returns-clause-end
returns-clause-end g c =
    let f : AreFlat c.args.self.now c.self.inside.values.items c.self.inside.ends.items = subst (λ (z : List (List g.row.T.Denot)). AreFlat z c.self.inside.values.items c.self.inside.ends.items) c.self.view_is c.self.invariant in
    let m : c.args.k < length c.self.inside.ends.items = omega (arith, ends-count c.args.self.now c.self.inside.values.items c.self.inside.ends.items f, c.requires) in
    let end : c.index.result.now ≡ start_at c.args.self.now (c.args.k + 1) = get_or_read c.self.inside.ends.items c.args.k c.index.result.now m c.index.ensures 0 ∙ end-is c.args.self.now c.self.inside.values.items c.self.inside.ends.items f c.args.k c.requires in
    end

pub returns-clause-order : goal.returns-clause-order
returns-clause-order g c =
    let f : AreFlat c.args.self.now c.self.inside.values.items c.self.inside.ends.items = subst (λ (z : List (List g.row.T.Denot)). AreFlat z c.self.inside.values.items c.self.inside.ends.items) c.self.view_is c.self.invariant in
    let m : c.args.k < length c.self.inside.ends.items = omega (arith, ends-count c.args.self.now c.self.inside.values.items c.self.inside.ends.items f, c.requires) in
    let end : c.index.result.now ≡ start_at c.args.self.now (c.args.k + 1) = get_or_read c.self.inside.ends.items c.args.k c.index.result.now m c.index.ensures 0 ∙ end-is c.args.self.now c.self.inside.values.items c.self.inside.ends.items f c.args.k c.requires in
    omega (arith, end, c.start.ensures, start-grows c.args.self.now c.self.inside.values.items c.self.inside.ends.items f c.args.k c.requires)

pub returns-clause-within : goal.returns-clause-within
returns-clause-within g c =
    let f : AreFlat c.args.self.now c.self.inside.values.items c.self.inside.ends.items = subst (λ (z : List (List g.row.T.Denot)). AreFlat z c.self.inside.values.items c.self.inside.ends.items) c.self.view_is c.self.invariant in
    let m : c.args.k < length c.self.inside.ends.items = omega (arith, ends-count c.args.self.now c.self.inside.values.items c.self.inside.ends.items f, c.requires) in
    let end : c.index.result.now ≡ start_at c.args.self.now (c.args.k + 1) = get_or_read c.self.inside.ends.items c.args.k c.index.result.now m c.index.ensures 0 ∙ end-is c.args.self.now c.self.inside.values.items c.self.inside.ends.items f c.args.k c.requires in
    omega (arith, end, start-within c.args.self.now c.self.inside.values.items c.self.inside.ends.items f c.args.k c.requires, ap length f.values_are)
