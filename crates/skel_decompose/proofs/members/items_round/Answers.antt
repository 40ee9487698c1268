use Rattle.std.proofs.Common.{◌<◌, ◌∙◌, ℕ, List, length, get_or, slice_index_or, sym, ap, subst, arith}
use Rattle.permutations.specs.Cyclic.{successor}
use Rattle.multigraph.specs.Graph.{Multigraph, incident_edges}
use Rattle.rotations.specs.Rotation.{order_at}
use Rattle.skeletons.specs.Families.{skeleton_graph, system_at}
use Rattle.skel_compose.proofs.Rounds.{round-more}
use Rattle.skel_decompose.proofs.Gathered.{some-item, items-start, item-around, item-next}
use Rattle.skel_compose.specs.Followers.{row_at}
use Rattle.skel_decompose.proofs.Entries.{entry-place}
use Rattle.skel_decompose.proofs.members.items_round.Goals as goal

pub bounds-incident-0 : goal.bounds-incident-0
bounds-incident-0 c = omega (
  arith,
  ap length c.incident.ensures.value,
  ap (λ (z : Multigraph). length (incident_edges z c.args.p)) c.requires.skeleton,
  some-item c.requires.block.0 c.args.tree.now c.requires.block.1 c.args.k c.args.p c.requires.node c.requires.place,
)

-- the first item
pub loop-turn-init : goal.loop-turn-init
loop-turn-init c = λ family f h.
    items-start c.requires.block.0 c.args.tree.now c.requires.block.1 c.args.k c.args.p c.requires.node c.requires.place family f (get_or c.incident.result.now 0 0) c.clear.new.self.items c.clear.ensures.items
    (ap (λ (z : List ℕ). get_or z 0 0) c.incident.ensures.value ∙ ap (λ (z : Multigraph). get_or (incident_edges z c.args.p) 0 0) c.requires.skeleton)

pub item_place-requires-clause-item : goal.item_place-requires-clause-item
item_place-requires-clause-item c = (item-around c.requires.block.0 c.args.tree.now c.requires.block.1 c.args.k c.args.p c.requires.node c.requires.place c.requires.family.0 c.requires.family.1 c.loop-turn.i (get_or c.vertices.result.now c.args.p 0)
    (ap (λ (z : List ℕ). get_or z c.args.p 0) c.vertices.ensures) (c.loop-turn.invariant c.requires.family.0 c.requires.family.1 c.requires.family.2).1).is_item

-- its place is in the row
pub number-i-requires-clause-list : goal.number-i-requires-clause-list
number-i-requires-clause-list c = subst (λ n. c.args.k < n) (sym c.requires.table.each) c.requires.node

pub number-i-requires-clause-place : goal.number-i-requires-clause-place
number-i-requires-clause-place c =
    let m = item-around c.requires.block.0 c.args.tree.now c.requires.block.1 c.args.k c.args.p c.requires.node c.requires.place c.requires.family.0 c.requires.family.1 c.loop-turn.i (get_or c.vertices.result.now c.args.p 0)
    (ap (λ (z : List ℕ). get_or z c.args.p 0) c.vertices.ensures) (c.loop-turn.invariant c.requires.family.0 c.requires.family.1 c.requires.family.2).1 in
    entry-place c.args.tree.now c.args.table.now c.requires.table c.args.k c.loop-turn.i (get_or c.vertices.result.now c.args.p 0) 0 m c.item_place.result c.item_place.ensures

-- one item more
pub loop-turn-preserved : goal.loop-turn-preserved
loop-turn-preserved c = λ family f h.
    let n = item-next c.requires.block.0 c.args.tree.now c.requires.block.1 c.args.k c.args.p c.requires.node c.requires.place family f c.args.table.now h c.loop-turn.i (get_or c.vertices.result.now c.args.p 0) c.number-i.result
    (ap (λ (z : List ℕ). get_or z c.args.p 0) c.vertices.ensures) (c.loop-turn.invariant family f h).1
    (c.number-i.ensures ∙ ap (λ z. slice_index_or (row_at c.args.table.now c.args.k) z 0) c.item_place.ensures) in (
      round-more (successor (order_at (system_at family c.args.k) c.args.p)) c.loop-turn.items.items (order_at (system_at family c.args.k) c.args.p) c.push.new.self.items (length (incident_edges (skeleton_graph c.args.tree.now c.args.k) c.args.p)) c.loop-turn._turn c.loop-turn.i c.number-i.result
          c.in_ok-push.ensures.items n.0 (omega (arith, c.loop-turn-test.true, c.degree-turn-end.ensures, ap (λ (z : Multigraph). length (incident_edges z c.args.p)) c.requires.skeleton)) (c.loop-turn.invariant family f h).0,
      n.1,
    )
