-- The search begins with the nodes next to node k, goes on from each node on the list, and reaches all.
use Rattle.std.proofs.Common.{◌≡◌, ◌≢◌, ◌∙◌, ℕ, ◌<◌, ◌≤◌, List, length, refl, sym, subst, arith}
use Rattle.pair_split.specs.Tutte.{node_at}
use Rattle.pair_split.specs.declared.components.Item.{Item}
use Rattle.pair_split.specs.declared.components.What.TheVariants.{Link}
use Rattle.graph_paths.specs.Listing.{note_of, Grows}
use Rattle.block_obstruct.specs.Towards.{HaveItem, IsItem, LeadBelow}
use Rattle.graph_paths.proofs.Listed.{listed-few}
use Rattle.graph_paths.proofs.SearchSteps.{read-at, read-member}
use Rattle.block_obstruct.proofs.TowardsNodes.{links-below, reached-begin, reached-next, reached-past, reached-all}
use Rattle.block_obstruct.proofs.towards.reach.Goals as goal
use Rattle.block_obstruct.proofs.towards.reach.Goals.{then-q-len+in_ok-spread, else-q-len}

pub begin-requires-clause-below : goal.begin-requires-clause-below
begin-requires-clause-below c = subst (λ (z : List Item). LeadBelow z (length c.args.marks.now)) (sym c.items.ensures)
    (links-below c.requires.tree.0 c.args.tree.now c.requires.tree.1 c.args.k c.args.k (length c.args.marks.now) c.requires.size)

pub loop-q-init : goal.loop-q-init
loop-q-init c =
    let nodes = c.args.tree.now in
    record {
      listed = c.in_ok-begin.ensures.listed;
      size = c.in_ok-begin.ensures.size ∙ c.requires.size;
      reached = reached-begin c.requires.tree.0 nodes c.requires.tree.1 c.args.k c.begin.new.notes c.begin.new.list.items c.args.notes.now
          (subst (λ (z : List ℕ). Grows (λ y m. IsItem (node_at nodes c.args.k).items m (Link y)) z c.args.notes.now c.begin.new.list.items c.begin.new.notes) c.requires.empty
          (subst (λ (z : List Item). Grows (λ y m. IsItem z m (Link y)) c.args.list.now.items c.args.notes.now c.begin.new.list.items c.begin.new.notes) c.items.ensures c.in_ok-begin.ensures.grows))
          (λ h w. c.in_ok-begin.ensures.met h (subst (λ (z : List Item). HaveItem z (Link h)) (sym c.items.ensures) w));
    }

pub bounds-notes-x : goal.bounds-notes-x
bounds-notes-x c =
    let b : c.loop-q.q < length c.loop-q.list.items = omega (arith, c.if-q-len.true, c.len.ensures) in
    omega (arith, c.loop-q.invariant.listed.within c.index-x.result.now (read-member c.loop-q.list.items c.loop-q.q c.index-x.result.now b c.index-x.ensures), c.loop-q.invariant.listed.notes_each)

pub items-requires-then-q-len : goal.items-requires-then-q-len
items-requires-then-q-len c =
    let b : c.loop-q.q < length c.loop-q.list.items = omega (arith, c.if-q-len.true, c.len.ensures) in
    omega (arith, c.loop-q.invariant.listed.within c.index-x.result.now (read-member c.loop-q.list.items c.loop-q.q c.index-x.result.now b c.index-x.ensures), c.loop-q.invariant.size)

pub spread-requires-clause-below : goal.spread-requires-clause-below
spread-requires-clause-below c = subst (λ (z : List Item). LeadBelow z (length c.loop-q.marks)) (sym c.items-then-q-len.ensures)
    (links-below c.requires.tree.0 c.args.tree.now c.requires.tree.1 c.args.k c.index-x.result.now (length c.loop-q.marks) c.loop-q.invariant.size)

pub loop-q-preserved : goal.loop-q-preserved
loop-q-preserved c = elim c.if-q-len.branch [
  | then-q-len+in_ok-spread w ↦
      let nodes = c.args.tree.now in
      let x = w.index-x.result.now in
      let b : c.loop-q.q < length c.loop-q.list.items = omega (arith, w.if-q-len.true, c.len.ensures) in
      rw (w.marks-is, w.notes-is, w.list-is) (record {
        listed = w.in_ok-spread.ensures.listed;
        size = w.in_ok-spread.ensures.size ∙ c.loop-q.invariant.size;
        reached = reached-next c.requires.tree.0 nodes c.requires.tree.1 c.args.k c.loop-q.notes c.loop-q.list.items w.spread.new.notes w.spread.new.list.items c.loop-q.q x (note_of c.loop-q.notes x)
            b (read-at c.loop-q.list.items c.loop-q.q x b w.index-x.ensures) refl c.loop-q.invariant.reached
            (subst (λ (z : List Item). Grows (λ y m. (m ≡ note_of c.loop-q.notes x) × (y ≢ c.args.k) × HaveItem z (Link y)) c.loop-q.list.items c.loop-q.notes w.spread.new.list.items w.spread.new.notes) w.items-then-q-len.ensures w.in_ok-spread.ensures.grows)
            (λ h v n. w.in_ok-spread.ensures.met h (subst (λ (z : List Item). HaveItem z (Link h)) (sym w.items-then-q-len.ensures) v) n);
      })
  | else-q-len w ↦
      let b : length c.loop-q.list.items ≤ c.loop-q.q = omega (arith, w.if-q-len.false, c.len.ensures) in
      rw (w.marks-is, w.notes-is, w.list-is) (record {
        listed = c.loop-q.invariant.listed;
        size = c.loop-q.invariant.size;
        reached = reached-past c.requires.tree.0 c.args.tree.now c.requires.tree.1 c.args.k c.loop-q.notes c.loop-q.list.items c.loop-q.q b c.loop-q.invariant.reached;
      })
]

pub returns : goal.returns
returns c =
    let few : length c.loop-q.list.items ≤ c.loop-q.q = omega (arith, listed-few c.loop-q.marks c.loop-q.notes c.loop-q.list.items c.loop-q.invariant.listed, c.loop-q.invariant.size, c.loop-q-test.false, c.node_count-q-end.ensures) in
    λ x l n. reached-all c.requires.tree.0 c.args.tree.now c.requires.tree.1 c.args.k c.loop-q.notes c.loop-q.list.items c.loop-q.q c.requires.node few c.loop-q.invariant.reached x l n
