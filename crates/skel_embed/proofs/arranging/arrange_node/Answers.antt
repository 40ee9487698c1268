use Rattle.std.proofs.Common.{◌≡◌, ◌+◌, ◌<◌, ◌-◌, ℕ, List, length, reverse, slice_index_or, sym, ap, ◌∙◌, arith, subst}
use Rattle.std.proofs.lemmas.List.Sorted.{IsPermutation-trans, IsPermutation-reverse}
use Rattle.permutations.proofs.Places.{first-at}
use Rattle.permutations.proofs.Turned.{IsTurn-permutation, IsTurn-reverse, IsTurn-sym}
use Rattle.rotations.specs.Rotation.{order_at}
use Rattle.rotations.specs.Runs.{IsKeptElsewhere}
use Rattle.pair_split.specs.Tutte.{group, node_at}
use Rattle.skeletons.specs.Items.{node_keys, least_vertex, greatest_vertex}
use Rattle.skeletons.specs.Moves.{AreRegrouped}
use Rattle.skeletons.proofs.Vertices.{vertex-in, least-has, greatest-has}
use Rattle.skel_embed.specs.Arranged.{from_place, HasGroupsOf}
use Rattle.skel_embed.proofs.ArrangeSteps.{keys-turned, place-turn}
use Rattle.skel_embed.proofs.BondMoves.{has-groups, last-place, after-least, both-arranged}
use Rattle.skel_embed.proofs.KeptLists.{member-filled}
use Rattle.skel_embed.proofs.arranging.arrange_node.Goals as goal

pub bounds-vertices-0 : goal.bounds-vertices-0
bounds-vertices-0 c = omega (arith, ap length c.vertices-vertices.ensures, member-filled (node_at c.args.t.now c.args.k).vertices (least_vertex c.args.t.now c.args.k) (least-has c.args.g.now c.args.t.now c.requires.block c.args.k c.requires.node.0))

pub bounds-vertices-0-2 : goal.bounds-vertices-0-2
bounds-vertices-0-2 c = omega (arith, ap length c.vertices-vertices.ensures, member-filled (node_at c.args.t.now c.args.k).vertices (least_vertex c.args.t.now c.args.k) (least-has c.args.g.now c.args.t.now c.requires.block c.args.k c.requires.node.0))

pub arrange_round-requires-clause-vertex : goal.arrange_round-requires-clause-vertex
arrange_round-requires-clause-vertex c =
    let e : slice_index_or c.vertices-vertices.result.now 0 0 ≡ least_vertex c.args.t.now c.args.k = ap (λ (z : List ℕ). slice_index_or z 0 0) c.vertices-vertices.ensures ∙ first-at (node_at c.args.t.now c.args.k).vertices in
    subst (λ z. z < c.args.g.now.vertex_count) (sym e) (vertex-in c.args.g.now c.args.t.now c.requires.block c.args.k (least_vertex c.args.t.now c.args.k) (least-has c.args.g.now c.args.t.now c.requires.block c.args.k c.requires.node.0))

pub arrange_round-requires-clause-groups : goal.arrange_round-requires-clause-groups
arrange_round-requires-clause-groups c =
    let e : slice_index_or c.vertices-vertices.result.now 0 0 ≡ least_vertex c.args.t.now c.args.k = ap (λ (z : List ℕ). slice_index_or z 0 0) c.vertices-vertices.ensures ∙ first-at (node_at c.args.t.now c.args.k).vertices in
    let keys = c.args.keys.now in
    let end = c.place_of_most-end.result in
    subst (λ z. HasGroupsOf (group c.args.t.now c.args.k) (order_at c.args.r.now z) (from_place (end + 1) keys)) (sym e)
    (has-groups c.args.g.now c.args.t.now c.requires.block c.args.r.now c.requires.plane c.args.k c.requires.node (least_vertex c.args.t.now c.args.k) (from_place (end + 1) keys) (least-has c.args.g.now c.args.t.now c.requires.block c.args.k c.requires.node.0)
    (IsPermutation-trans (node_keys c.args.t.now c.args.k) keys (from_place (end + 1) keys) c.requires.arrangement (IsTurn-permutation keys (from_place (end + 1) keys) (place-turn (end + 1) keys))))

pub overflow_sub-vertices : goal.overflow_sub-vertices
overflow_sub-vertices c = omega (arith, ap length c.vertices-vertices.ensures, member-filled (node_at c.args.t.now c.args.k).vertices (least_vertex c.args.t.now c.args.k) (least-has c.args.g.now c.args.t.now c.requires.block c.args.k c.requires.node.0))

pub bounds-vertices-vertices : goal.bounds-vertices-vertices
bounds-vertices-vertices c = omega (arith, ap length c.vertices-vertices.ensures, member-filled (node_at c.args.t.now c.args.k).vertices (least_vertex c.args.t.now c.args.k) (least-has c.args.g.now c.args.t.now c.requires.block c.args.k c.requires.node.0))

pub arrange_round-requires-2-clause-vertex : goal.arrange_round-requires-2-clause-vertex
arrange_round-requires-2-clause-vertex c =
    let items = c.vertices-vertices.result.now in
    let f : slice_index_or items (length items - 1) 0 ≡ greatest_vertex c.args.t.now c.args.k = ap (λ (z : List ℕ). slice_index_or z (length z - 1) 0) c.vertices-vertices.ensures ∙ last-place (node_at c.args.t.now c.args.k).vertices in
    subst (λ z. z < c.args.g.now.vertex_count) (sym f) (vertex-in c.args.g.now c.args.t.now c.requires.block c.args.k (greatest_vertex c.args.t.now c.args.k) (greatest-has c.args.g.now c.args.t.now c.requires.block c.args.k c.requires.node.0))

pub arrange_round-requires-2-clause-groups : goal.arrange_round-requires-2-clause-groups
arrange_round-requires-2-clause-groups c =
    let items = c.vertices-vertices.result.now in
    let keys = c.args.keys.now in
    let end = c.place_of_most-end.result in
    let back : List ℕ = reverse (from_place end keys) in
    let e : slice_index_or items 0 0 ≡ least_vertex c.args.t.now c.args.k = ap (λ (z : List ℕ). slice_index_or z 0 0) c.vertices-vertices.ensures ∙ first-at (node_at c.args.t.now c.args.k).vertices in
    let f : slice_index_or items (length items - 1) 0 ≡ greatest_vertex c.args.t.now c.args.k = ap (λ (z : List ℕ). slice_index_or z (length z - 1) 0) c.vertices-vertices.ensures ∙ last-place (node_at c.args.t.now c.args.k).vertices in
    subst (λ z. HasGroupsOf (group c.args.t.now c.args.k) (order_at c.arrange_round.new.r z) back) (sym f)
    (subst (λ (z : List ℕ). HasGroupsOf (group c.args.t.now c.args.k) z back)
    (sym (after-least c.args.g.now c.args.t.now c.requires.block c.args.r.now c.requires.plane c.args.k c.requires.node c.arrange_round.new.r (subst (IsKeptElsewhere c.args.r.now c.arrange_round.new.r) e c.arrange_round.ensures.elsewhere)))
    (has-groups c.args.g.now c.args.t.now c.requires.block c.args.r.now c.requires.plane c.args.k c.requires.node (greatest_vertex c.args.t.now c.args.k) back (greatest-has c.args.g.now c.args.t.now c.requires.block c.args.k c.requires.node.0)
    (IsPermutation-trans (node_keys c.args.t.now c.args.k) keys back c.requires.arrangement
    (IsPermutation-trans keys (from_place end keys) back (IsTurn-permutation keys (from_place end keys) (place-turn end keys)) (IsPermutation-reverse (from_place end keys))))))

pub returns : goal.returns
returns c =
    let items = c.vertices-vertices.result.now in
    let keys = c.args.keys.now in
    let end = c.place_of_most-end.result in
    let m = c.arrange_round.new.r in
    let q = c.arrange_round-2.new.r in
    let key = group c.args.t.now c.args.k in
    let e : slice_index_or items 0 0 ≡ least_vertex c.args.t.now c.args.k = ap (λ (z : List ℕ). slice_index_or z 0 0) c.vertices-vertices.ensures ∙ first-at (node_at c.args.t.now c.args.k).vertices in
    let f : slice_index_or items (length items - 1) 0 ≡ greatest_vertex c.args.t.now c.args.k = ap (λ (z : List ℕ). slice_index_or z (length z - 1) 0) c.vertices-vertices.ensures ∙ last-place (node_at c.args.t.now c.args.k).vertices in
    both-arranged c.args.g.now c.args.t.now c.requires.block c.args.r.now c.requires.plane c.args.k c.requires.node m q keys c.requires.arrangement
    (subst (IsKeptElsewhere c.args.r.now m) e c.arrange_round.ensures.elsewhere)
    (subst (IsKeptElsewhere m q) f c.arrange_round-2.ensures.elsewhere)
    c.arrange_round-2.ensures.system
    (subst (λ z. AreRegrouped key (order_at c.args.r.now z) keys (order_at m z)) e
    (keys-turned key (order_at c.args.r.now (slice_index_or items 0 0)) (from_place (end + 1) keys) keys (order_at m (slice_index_or items 0 0)) (IsTurn-sym keys (from_place (end + 1) keys) (place-turn (end + 1) keys)) c.arrange_round.ensures.arranged))
    (subst (λ z. AreRegrouped key (order_at m z) (reverse keys) (order_at q z)) f
    (keys-turned key (order_at m (slice_index_or items (length items - 1) 0)) (reverse (from_place end keys)) (reverse keys) (order_at q (slice_index_or items (length items - 1) 0))
    (IsTurn-reverse (from_place end keys) keys (IsTurn-sym keys (from_place end keys) (place-turn end keys))) c.arrange_round-2.ensures.arranged))

pub place_of_most-end-requires-clause-some : goal.place_of_most-end-requires-clause-some
place_of_most-end-requires-clause-some c =
    omega (arith, (has-groups c.args.g.now c.args.t.now c.requires.block c.args.r.now c.requires.plane c.args.k c.requires.node (least_vertex c.args.t.now c.args.k) c.args.keys.now (least-has c.args.g.now c.args.t.now c.requires.block c.args.k c.requires.node.0) c.requires.arrangement).two)
