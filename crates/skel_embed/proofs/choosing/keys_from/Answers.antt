use Rattle.std.proofs.Common.{◌≡◌, ℕ, true, List, length, slice_index_or, refl, sym, ap, ◌∙◌, subst, arith}
use Rattle.permutations.specs.Cyclic.{turned, first_or}
use Rattle.permutations.specs.Members.{is_member}
use Rattle.permutations.proofs.Places.{first-at}
use Rattle.pair_split.specs.Tutte.{node_at}
use Rattle.skeletons.specs.Items.{has_vertex, least_vertex}
use Rattle.skeletons.proofs.Vertices.{least-has}
use Rattle.skel_embed.specs.Taken.{runs_met}
use Rattle.skel_embed.proofs.KeptLists.{member-filled}
use Rattle.skel_embed.proofs.RunKeys.{choice-from}
use Rattle.skel_embed.proofs.choosing.keys_from.Goals as goal

pub bounds-vertices-0 : goal.bounds-vertices-0
bounds-vertices-0 c = omega (arith, ap length c.vertices.ensures, member-filled (node_at c.args.t.now c.args.k).vertices (least_vertex c.args.t.now c.args.k) (least-has c.args.g.now c.args.t.now c.requires.block c.args.k c.requires.node))

pub keys_of_runs-requires-clause-vertex : goal.keys_of_runs-requires-clause-vertex
keys_of_runs-requires-clause-vertex c =
    let e : slice_index_or c.vertices.result.now 0 0 ≡ least_vertex c.args.t.now c.args.k = ap (λ (z : List ℕ). slice_index_or z 0 0) c.vertices.ensures ∙ first-at (node_at c.args.t.now c.args.k).vertices in
    subst (λ z. has_vertex c.args.t.now c.args.k z ≡ true) (sym e) (least-has c.args.g.now c.args.t.now c.requires.block c.args.k c.requires.node)

pub bounds-old-0 : goal.bounds-old-0
bounds-old-0 c =
    let q = c.requires.old in
    (choice-from c.args.g.now c.args.t.now c.requires.block c.args.r.now q.0 c.requires.plane q.1 c.args.k c.requires.node c.args.old.now (node_at c.args.t.now c.args.k).kind refl c.requires.kind q.2).0

pub begin_with-requires : goal.begin_with-requires
begin_with-requires c =
    let q = c.requires.old in
    let w = choice-from c.args.g.now c.args.t.now c.requires.block c.args.r.now q.0 c.requires.plane q.1 c.args.k c.requires.node c.args.old.now (node_at c.args.t.now c.args.k).kind refl c.requires.kind q.2 in
    let e : slice_index_or c.vertices.result.now 0 0 ≡ least_vertex c.args.t.now c.args.k = ap (λ (z : List ℕ). slice_index_or z 0 0) c.vertices.ensures ∙ first-at (node_at c.args.t.now c.args.k).vertices in
    ap (λ z. is_member z c.in_ok-keys.keys.items) (first-at c.args.old.now) ∙ ap (is_member (first_or 0 c.args.old.now)) (c.in_ok-keys.ensures {u = tt} ∙ ap (runs_met c.args.t.now c.args.r.now c.args.k) e) ∙ w.1

pub returns : goal.returns
returns c =
    let q = c.requires.old in
    let w = choice-from c.args.g.now c.args.t.now c.requires.block c.args.r.now q.0 c.requires.plane q.1 c.args.k c.requires.node c.args.old.now (node_at c.args.t.now c.args.k).kind refl c.requires.kind q.2 in
    let e : slice_index_or c.vertices.result.now 0 0 ≡ least_vertex c.args.t.now c.args.k = ap (λ (z : List ℕ). slice_index_or z 0 0) c.vertices.ensures ∙ first-at (node_at c.args.t.now c.args.k).vertices in
    c.begin_with.ensures ∙ ap (turned c.in_ok-keys.keys.items) (first-at c.args.old.now)
    ∙ ap (λ (z : List ℕ). turned z (first_or 0 c.args.old.now)) (c.in_ok-keys.ensures {u = tt} ∙ ap (runs_met c.args.t.now c.args.r.now c.args.k) e) ∙ w.2
