use Rattle.std.proofs.Common.{◌≡◌, ◌<◌, ◌-◌, ℕ, List, length, slice_index_or, sym, ap, ◌∙◌, arith, subst}
use Rattle.permutations.proofs.Places.{first-at}
use Rattle.rotations.specs.Rotation.{order_at}
use Rattle.rotations.specs.Runs.{IsKeptElsewhere}
use Rattle.pair_split.specs.Tutte.{group, node_at}
use Rattle.skeletons.specs.Items.{least_vertex, greatest_vertex}
use Rattle.skeletons.proofs.Vertices.{vertex-in, least-has, greatest-has}
use Rattle.skel_embed.specs.Exchanges.{AreExchanged, HasKeys}
use Rattle.skel_embed.proofs.BondMoves.{has-keys, last-place, after-least, both-poles}
use Rattle.skel_embed.proofs.KeptLists.{member-filled}
use Rattle.skel_embed.proofs.exchanging.exchange_node.Goals as goal

pub bounds-vertices-0 : goal.bounds-vertices-0
bounds-vertices-0 c = omega (arith, ap length c.vertices-vertices.ensures, member-filled (node_at c.args.t.now c.args.k).vertices (least_vertex c.args.t.now c.args.k) (least-has c.args.g.now c.args.t.now c.requires.block c.args.k c.requires.node.0))

pub exchange_round-requires-clause-vertex : goal.exchange_round-requires-clause-vertex
exchange_round-requires-clause-vertex c =
    let e : slice_index_or c.vertices-vertices.result.now 0 0 ≡ least_vertex c.args.t.now c.args.k = ap (λ (z : List ℕ). slice_index_or z 0 0) c.vertices-vertices.ensures ∙ first-at (node_at c.args.t.now c.args.k).vertices in
    subst (λ z. z < c.args.g.now.vertex_count) (sym e) (vertex-in c.args.g.now c.args.t.now c.requires.block c.args.k (least_vertex c.args.t.now c.args.k) (least-has c.args.g.now c.args.t.now c.requires.block c.args.k c.requires.node.0))

pub exchange_round-requires-clause-keys : goal.exchange_round-requires-clause-keys
exchange_round-requires-clause-keys c =
    let e : slice_index_or c.vertices-vertices.result.now 0 0 ≡ least_vertex c.args.t.now c.args.k = ap (λ (z : List ℕ). slice_index_or z 0 0) c.vertices-vertices.ensures ∙ first-at (node_at c.args.t.now c.args.k).vertices in
    subst (λ z. HasKeys (group c.args.t.now c.args.k) (order_at c.args.r.now z) c.args.a c.args.b) (sym e)
    (has-keys c.args.g.now c.args.t.now c.requires.block c.args.r.now c.requires.plane c.args.k c.requires.node (least_vertex c.args.t.now c.args.k) c.args.a c.args.b (least-has c.args.g.now c.args.t.now c.requires.block c.args.k c.requires.node.0) c.requires.first c.requires.second)

pub overflow_sub-vertices : goal.overflow_sub-vertices
overflow_sub-vertices c = omega (arith, ap length c.vertices-vertices.ensures, member-filled (node_at c.args.t.now c.args.k).vertices (least_vertex c.args.t.now c.args.k) (least-has c.args.g.now c.args.t.now c.requires.block c.args.k c.requires.node.0))

pub bounds-vertices-vertices : goal.bounds-vertices-vertices
bounds-vertices-vertices c = omega (arith, ap length c.vertices-vertices.ensures, member-filled (node_at c.args.t.now c.args.k).vertices (least_vertex c.args.t.now c.args.k) (least-has c.args.g.now c.args.t.now c.requires.block c.args.k c.requires.node.0))

pub exchange_round-requires-2-clause-vertex : goal.exchange_round-requires-2-clause-vertex
exchange_round-requires-2-clause-vertex c =
    let items = c.vertices-vertices.result.now in
    let f : slice_index_or items (length items - 1) 0 ≡ greatest_vertex c.args.t.now c.args.k = ap (λ (z : List ℕ). slice_index_or z (length z - 1) 0) c.vertices-vertices.ensures ∙ last-place (node_at c.args.t.now c.args.k).vertices in
    subst (λ z. z < c.args.g.now.vertex_count) (sym f) (vertex-in c.args.g.now c.args.t.now c.requires.block c.args.k (greatest_vertex c.args.t.now c.args.k) (greatest-has c.args.g.now c.args.t.now c.requires.block c.args.k c.requires.node.0))

pub exchange_round-requires-2-clause-keys : goal.exchange_round-requires-2-clause-keys
exchange_round-requires-2-clause-keys c =
    let items = c.vertices-vertices.result.now in
    let e : slice_index_or items 0 0 ≡ least_vertex c.args.t.now c.args.k = ap (λ (z : List ℕ). slice_index_or z 0 0) c.vertices-vertices.ensures ∙ first-at (node_at c.args.t.now c.args.k).vertices in
    let f : slice_index_or items (length items - 1) 0 ≡ greatest_vertex c.args.t.now c.args.k = ap (λ (z : List ℕ). slice_index_or z (length z - 1) 0) c.vertices-vertices.ensures ∙ last-place (node_at c.args.t.now c.args.k).vertices in
    subst (λ z. HasKeys (group c.args.t.now c.args.k) (order_at c.exchange_round.new.r z) c.args.a c.args.b) (sym f)
    (subst (λ (z : List ℕ). HasKeys (group c.args.t.now c.args.k) z c.args.a c.args.b)
    (sym (after-least c.args.g.now c.args.t.now c.requires.block c.args.r.now c.requires.plane c.args.k c.requires.node c.exchange_round.new.r (subst (IsKeptElsewhere c.args.r.now c.exchange_round.new.r) e c.exchange_round.ensures.elsewhere)))
    (has-keys c.args.g.now c.args.t.now c.requires.block c.args.r.now c.requires.plane c.args.k c.requires.node (greatest_vertex c.args.t.now c.args.k) c.args.a c.args.b (greatest-has c.args.g.now c.args.t.now c.requires.block c.args.k c.requires.node.0) c.requires.first c.requires.second))

pub returns : goal.returns
returns c =
    let items = c.vertices-vertices.result.now in
    let m = c.exchange_round.new.r in
    let q = c.exchange_round-2.new.r in
    let key = group c.args.t.now c.args.k in
    let e : slice_index_or items 0 0 ≡ least_vertex c.args.t.now c.args.k = ap (λ (z : List ℕ). slice_index_or z 0 0) c.vertices-vertices.ensures ∙ first-at (node_at c.args.t.now c.args.k).vertices in
    let f : slice_index_or items (length items - 1) 0 ≡ greatest_vertex c.args.t.now c.args.k = ap (λ (z : List ℕ). slice_index_or z (length z - 1) 0) c.vertices-vertices.ensures ∙ last-place (node_at c.args.t.now c.args.k).vertices in
    both-poles c.args.g.now c.args.t.now c.requires.block c.args.r.now c.requires.plane c.args.k c.requires.node m q c.args.a c.args.b
    (subst (IsKeptElsewhere c.args.r.now m) e c.exchange_round.ensures.elsewhere)
    (subst (IsKeptElsewhere m q) f c.exchange_round-2.ensures.elsewhere)
    c.exchange_round-2.ensures.system
    (subst (λ z. AreExchanged key c.args.a c.args.b (order_at c.args.r.now z) (order_at m z)) e c.exchange_round.ensures.exchanged)
    (subst (λ z. AreExchanged key c.args.a c.args.b (order_at m z) (order_at q z)) f c.exchange_round-2.ensures.exchanged)
