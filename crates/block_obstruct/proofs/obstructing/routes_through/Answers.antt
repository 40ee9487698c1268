-- The group of each item is a rising list of edges with a path between the item's ends, and the path that is found is one of it.
use Rattle.std.proofs.Common.{◌≡◌, ℕ, ◌+◌, ◌<◌, true, List, [], length, slice_index, slice_index_or, ap, ◌∙◌, sym, subst, arith}
use Rattle.std.proofs.lemmas.List.{get_or_read}
use Rattle.permutations.specs.Members.{is_member}
use Rattle.multigraph.specs.Graph.{edge_count}
use Rattle.multigraph.specs.Part.{Rises}
use Rattle.graph_theory.specs.Path.{IsPath}
use Rattle.pair_split.specs.Tutte.{node_at}
use Rattle.pair_split.specs.declared.components.Item.{Item}
use Rattle.block_obstruct.specs.Towards.{item_in}
use Rattle.block_obstruct.specs.Groups.{AreItemRoutes}
use Rattle.block_obstruct.proofs.ItemRoutes.{routes-more, group-rises, group-below, group-path, route-right, path-of}
use Rattle.block_obstruct.proofs.obstructing.routes_through.Goals as goal

pub path_along-requires-clause-increasing : goal.path_along-requires-clause-increasing
path_along-requires-clause-increasing c =
    let l = subst (λ (z : List Item). c.loop-i.i < length z) c.items-items.ensures c.loop-i-test.true in
    let b : c.loop-i.i < length c.args.groups.now = omega (arith, c.requires.groups.2.counted, c.loop-i-test.true, ap (λ (z : List Item). length z) c.items-items.ensures) in
    let e : c.as_slice.result.now ≡ slice_index_or c.args.groups.now c.loop-i.i [] = c.as_slice.ensures ∙ get_or_read c.args.groups.now c.loop-i.i c.index-groups-i.result b c.index-groups-i.is [] in
    subst (λ (z : List ℕ). Rises z) (sym e)
    (group-rises c.args.g.now c.args.tree.now c.requires.block c.args.k c.requires.node c.requires.groups.0 c.args.groups.now c.requires.groups.1 c.requires.groups.2 c.loop-i.i l)

pub path_along-requires-clause-within : goal.path_along-requires-clause-within
path_along-requires-clause-within c =
    let l = subst (λ (z : List Item). c.loop-i.i < length z) c.items-items.ensures c.loop-i-test.true in
    let b : c.loop-i.i < length c.args.groups.now = omega (arith, c.requires.groups.2.counted, c.loop-i-test.true, ap (λ (z : List Item). length z) c.items-items.ensures) in
    let e : c.as_slice.result.now ≡ slice_index_or c.args.groups.now c.loop-i.i [] = c.as_slice.ensures ∙ get_or_read c.args.groups.now c.loop-i.i c.index-groups-i.result b c.index-groups-i.is [] in
    subst (λ (z : List ℕ). (i : ℕ) → i < length z → slice_index z i < edge_count c.args.g.now) (sym e)
    (group-below c.args.g.now c.args.tree.now c.requires.block c.args.k c.requires.node c.requires.groups.0 c.args.groups.now c.requires.groups.1 c.requires.groups.2 c.loop-i.i l)

pub path_along-requires-clause-path : goal.path_along-requires-clause-path
path_along-requires-clause-path c =
    let l = subst (λ (z : List Item). c.loop-i.i < length z) c.items-items.ensures c.loop-i-test.true in
    let b : c.loop-i.i < length c.args.groups.now = omega (arith, c.requires.groups.2.counted, c.loop-i-test.true, ap (λ (z : List Item). length z) c.items-items.ensures) in
    let e : c.as_slice.result.now ≡ slice_index_or c.args.groups.now c.loop-i.i [] = c.as_slice.ensures ∙ get_or_read c.args.groups.now c.loop-i.i c.index-groups-i.result b c.index-groups-i.is [] in
    path-of c.args.g.now c.as_slice.result.now (slice_index_or c.args.groups.now c.loop-i.i []) c.items-items.result.now (node_at c.args.tree.now c.args.k).items c.loop-i.i e c.items-items.ensures
    (group-path c.args.g.now c.args.tree.now c.requires.block c.args.k c.requires.node c.requires.groups.0 c.args.groups.now c.requires.groups.1 c.requires.groups.2 c.loop-i.i l)

pub loop-i-preserved : goal.loop-i-preserved
loop-i-preserved c =
    let nodes = c.args.tree.now in
    let i = c.loop-i.i in
    let b : c.loop-i.i < length c.args.groups.now = omega (arith, c.requires.groups.2.counted, c.loop-i-test.true, ap (λ (z : List Item). length z) c.items-items.ensures) in
    let e : c.as_slice.result.now ≡ slice_index_or c.args.groups.now c.loop-i.i [] = c.as_slice.ensures ∙ get_or_read c.args.groups.now c.loop-i.i c.index-groups-i.result b c.index-groups-i.is [] in
    let l = subst (λ (z : List Item). c.loop-i.i < length z) c.items-items.ensures c.loop-i-test.true in
    subst (λ (z : List (List ℕ)). AreItemRoutes c.args.g.now c.args.tree.now c.args.k (c.loop-i.i + 1) z) (sym c.in_ok-push.ensures.items)
    (routes-more c.args.g.now nodes c.args.k i c.loop-i.routes.items c.in_ok-route.route c.loop-i.invariant
    (route-right c.args.g.now nodes c.requires.block c.args.k c.requires.node c.requires.groups.0 c.args.groups.now c.requires.groups.1 c.requires.groups.2 i l c.in_ok-route.route
    (subst (λ (z : List Item). IsPath c.args.g.now (item_in z c.loop-i.i).a c.in_ok-route.route (item_in z c.loop-i.i).b) c.items-items.ensures c.in_ok-route.ensures.path)
    (λ x m. subst (λ (z : List ℕ). is_member x z ≡ true) e (c.in_ok-route.ensures.among x m))))

pub bounds-groups-i : goal.bounds-groups-i
bounds-groups-i c = omega (arith, c.requires.groups.2.counted, c.loop-i-test.true, ap (λ (z : List Item). length z) c.items-items.ensures)

pub returns : goal.returns
returns c =
    let all : c.loop-i.i ≡ length (node_at c.args.tree.now c.args.k).items = omega (arith, c.loop-i-test.false, c.loop-i.auto.i-end, ap (λ (z : List Item). length z) c.items-items.ensures) in
    subst (λ (z : ℕ). AreItemRoutes c.args.g.now c.args.tree.now c.args.k z c.loop-i.routes.items) all c.loop-i.invariant
