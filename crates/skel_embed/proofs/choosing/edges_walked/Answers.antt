use Rattle.std.proofs.Common.{◌≡◌, ◌<◌, ℕ, List, length, slice_index_or, sym, ap, ◌∙◌, subst, arith}
use Rattle.permutations.proofs.Places.{first-at}
use Rattle.pair_split.specs.Tutte.{node_at}
use Rattle.skeletons.specs.Items.{least_vertex}
use Rattle.skeletons.proofs.Vertices.{vertex-in, least-has}
use Rattle.skel_embed.proofs.KeptLists.{member-filled}
use Rattle.skel_embed.proofs.choosing.edges_walked.Goals as goal

pub bounds-vertices-0 : goal.bounds-vertices-0
bounds-vertices-0 c =
    let l : c.loop-k.k < length c.args.t.now = omega (arith, c.loop-k-test.true, c.node_count-k-end.ensures) in
    omega (arith, ap length c.vertices.ensures, member-filled (node_at c.args.t.now c.loop-k.k).vertices (least_vertex c.args.t.now c.loop-k.k) (least-has c.args.g.now c.args.t.now c.requires c.loop-k.k l))

pub degree-requires : goal.degree-requires
degree-requires c =
    let l : c.loop-k.k < length c.args.t.now = omega (arith, c.loop-k-test.true, c.node_count-k-end.ensures) in
    let e : slice_index_or c.vertices.result.now 0 0 ≡ least_vertex c.args.t.now c.loop-k.k = ap (λ (z : List ℕ). slice_index_or z 0 0) c.vertices.ensures ∙ first-at (node_at c.args.t.now c.loop-k.k).vertices in
    subst (λ z. z < c.args.g.now.vertex_count) (sym e) (vertex-in c.args.g.now c.args.t.now c.requires c.loop-k.k (least_vertex c.args.t.now c.loop-k.k) (least-has c.args.g.now c.args.t.now c.requires c.loop-k.k l))
