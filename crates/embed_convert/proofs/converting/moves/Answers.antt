use Rattle.std.proofs.Common.{◌≡◌, List, length, map, sym, ap, ◌∙◌, subst, arith}
use Rattle.std.specs.Prelude.{option_to_list}
use Rattle.std.proofs.lemmas.List.{map-append}
use Rattle.multigraph.specs.Graph.{Multigraph}
use Rattle.faces.specs.Euler.{IsPlaneSystem}
use Rattle.skeletons.specs.Moves.{Move, Lead, moves_below, moves_between}
use Rattle.skeleton_choices.proofs.Reached.{lead}
use Rattle.skel_embed.specs.Values.{as_move}
use Rattle.embed_convert.proofs.Between.{moves-more}
use Rattle.embed_convert.proofs.converting.moves.Goals as goal

pub loop-k-preserved : goal.loop-k-preserved
loop-k-preserved c =
    ap (map as_move) (c.in_ok-add.ensures {u = tt}) ∙ map-append as_move c.loop-k.list.items (option_to_list c.in_ok-move_of.field-0)
    ∙ moves-more c.args.p.now.tree c.args.p.now.rotation c.args.q.now.rotation c.loop-k.k (map as_move c.loop-k.list.items) (map as_move (option_to_list c.in_ok-move_of.field-0)) c.loop-k.invariant (c.in_ok-move_of.ensures {u = tt})

pub returns-clause-lead : goal.returns-clause-lead
returns-clause-lead c =
    let p = c.belongs.ensures in
    let q : IsPlaneSystem c.args.p.now.graph c.args.q.now.rotation = subst (λ (z : Multigraph). IsPlaneSystem z c.args.q.now.rotation) c.requires.graph c.belongs-2.ensures.plane in
    let e : c.loop-k.k ≡ length c.args.p.now.tree = omega (arith, c.loop-k-test.false, c.loop-k.auto.k-end, c.node_count-k-end.ensures, ap length c.tree.ensures.value) in
    let same : moves_between c.args.p.now.tree c.args.p.now.rotation c.args.q.now.rotation ≡ map as_move c.loop-k.list.items =
    sym (c.loop-k.invariant ∙ ap (moves_below c.args.p.now.tree c.args.p.now.rotation c.args.q.now.rotation) e) in
    subst (λ (z : List Move). Lead c.args.p.now.graph c.args.p.now.tree (IsPlaneSystem c.args.p.now.graph) z c.args.p.now.rotation c.args.q.now.rotation) same
    (lead c.args.p.now.graph c.args.p.now.tree c.args.p.now.rotation c.args.q.now.rotation p.block p.plane q)
