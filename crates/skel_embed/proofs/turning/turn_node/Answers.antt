use Rattle.std.proofs.Common.{◌≡◌, ℕ, true, List, slice_index_or, refl, sym, ap, ◌∙◌, subst}
use Rattle.permutations.specs.Members.{is_member, is_distinct}
use Rattle.permutations.proofs.Arrangements.{member-at}
use Rattle.pair_split.specs.Tutte.{group}
use Rattle.skeletons.specs.Items.{has_vertex}
use Rattle.skeletons.proofs.Vertices.{vertex-in, vertices-once}
use Rattle.skel_embed.specs.Steps.{StandInTwoRuns}
use Rattle.skel_embed.proofs.TurnSteps.{turned-more, next-new}
use Rattle.skel_embed.proofs.turning.turn_node.Goals as goal

pub turn_round-requires-clause-vertex : goal.turn_round-requires-clause-vertex
turn_round-requires-clause-vertex c = vertex-in c.args.g.now c.args.t.now c.requires.block c.args.k (slice_index_or c.vertices-v-items.result.now c.loop-v.v-index 0)
    (subst (λ (z : List ℕ). is_member (slice_index_or c.vertices-v-items.result.now c.loop-v.v-index 0) z ≡ true) c.vertices-v-items.ensures (member-at c.vertices-v-items.result.now c.loop-v.v-index 0 c.loop-v-test.true))

pub turn_round-requires-clause-runs : goal.turn_round-requires-clause-runs
turn_round-requires-clause-runs c =
    let items = c.vertices-v-items.result.now in
    let v = slice_index_or items c.loop-v.v-index 0 in
    let h : has_vertex c.args.t.now c.args.k v ≡ true = subst (λ (z : List ℕ). is_member v z ≡ true) c.vertices-v-items.ensures (member-at items c.loop-v.v-index 0 c.loop-v-test.true) in
    let once = ap is_distinct c.vertices-v-items.ensures ∙ vertices-once c.args.g.now c.args.t.now c.requires.block c.args.k c.requires.node in
    subst (StandInTwoRuns (group c.args.t.now c.args.k)) (sym (c.loop-v.invariant.others v (next-new items c.loop-v.v-index once c.loop-v-test.true))) (c.requires.runs v h)

pub loop-v-preserved : goal.loop-v-preserved
loop-v-preserved c =
    let items = c.vertices-v-items.result.now in
    turned-more c.args.g.now c.args.t.now c.args.k c.args.r.now c.loop-v.r c.turn_round.new.r items c.loop-v.v-index (slice_index_or items c.loop-v.v-index 0)
    (ap is_distinct c.vertices-v-items.ensures ∙ vertices-once c.args.g.now c.args.t.now c.requires.block c.args.k c.requires.node) c.loop-v-test.true refl
    c.loop-v.invariant c.turn_round.ensures.system c.turn_round.ensures.turned c.turn_round.ensures.elsewhere
