-- The edges of each node in turn: those of node k, and those of another node.
use Rattle.std.proofs.Common.{◌≡◌, ◌∙◌, ℕ, ◌<◌, inl, inr, List, length, sym, subst, arith}
use Rattle.pair_split.specs.Tutte.{node_at}
use Rattle.pair_split.specs.declared.components.Item.{Item}
use Rattle.pair_split.specs.declared.components.What.TheVariants.{Real}
use Rattle.graph_paths.specs.Listing.{note_of}
use Rattle.block_obstruct.specs.Towards.{HaveItem, IsItem}
use Rattle.block_obstruct.specs.Groups.{IsInGroup, AreNoted}
use Rattle.block_obstruct.proofs.GroupsOfEdges.{edge-below, own-right, far-right, noted-next}
use Rattle.block_obstruct.proofs.groups.note_all.Goals as goal
use Rattle.block_obstruct.proofs.groups.note_all.Goals.{then-x-k, else-x-k}

pub note_own-requires-clause-within : goal.note_own-requires-clause-within
note_own-requires-clause-within c = λ e h. edge-below c.requires.tree.0 c.args.tree.now c.requires.tree.1 c.args.k c.loop-x.x (length c.loop-x.notes) (c.loop-x.invariant.size ∙ sym c.requires.tree.2) e
    (subst (λ (z : List Item). HaveItem z (Real e)) c.items-items.ensures h)

pub note_far-requires : goal.note_far-requires
note_far-requires c = record {
  within = λ e h. edge-below c.requires.tree.0 c.args.tree.now c.requires.tree.1 c.args.k c.loop-x.x (length c.loop-x.notes) (c.loop-x.invariant.size ∙ sym c.requires.tree.2) e
      (subst (λ (z : List Item). HaveItem z (Real e)) c.items-items.ensures h);
}

pub loop-x-preserved : goal.loop-x-preserved
loop-x-preserved c = elim c.if-x-k.branch [
  | then-x-k w ↦
      let nodes = c.args.tree.now in
      let new = w.note_own.new.notes in
      rw w.notes-is (record {
        size = w.note_own.ensures.size ∙ c.loop-x.invariant.size;
        noted = noted-next c.requires.tree.0 nodes c.requires.tree.1 c.args.k c.loop-x.x c.loop-x.notes new c.loop-x.invariant.noted
            (λ e. elim (w.note_own.ensures.kept e) [ inl q ↦ inl q | inr h ↦ inr (subst (λ (z : List Item). HaveItem z (Real e)) c.items-items.ensures h) ])
            (λ e h. own-right c.requires.tree.0 nodes c.requires.tree.1 c.args.k (note_of new e) e
            (subst (λ (z : ℕ). IsItem (node_at nodes z).items (note_of new e) (Real e)) w.if-x-k.true
            (subst (λ (z : List Item). IsItem z (note_of new e) (Real e)) c.items-items.ensures
            (w.note_own.ensures.noted e (subst (λ (z : List Item). HaveItem z (Real e)) (sym c.items-items.ensures) h)))));
      })
  | else-x-k w ↦
      let nodes = c.args.tree.now in
      let new = w.note_far.new.notes in
      let x_in : c.loop-x.x < length c.args.tree.now = omega (arith, c.loop-x-test.true, c.node_count-x-end.ensures) in
      rw w.notes-is (record {
        size = w.note_far.ensures.size ∙ c.loop-x.invariant.size;
        noted = noted-next c.requires.tree.0 nodes c.requires.tree.1 c.args.k c.loop-x.x c.loop-x.notes new c.loop-x.invariant.noted
            (λ e. elim (w.note_far.ensures.kept e) [ inl q ↦ inl q | inr h ↦ inr (subst (λ (z : List Item). HaveItem z (Real e)) c.items-items.ensures h) ])
            (λ e h. subst (λ (z : ℕ). IsInGroup nodes c.args.k e z) (sym (w.note_far.ensures.noted e (subst (λ (z : List Item). HaveItem z (Real e)) (sym c.items-items.ensures) h)))
            (far-right c.requires.tree.0 nodes c.requires.tree.1 c.args.k c.loop-x.x (note_of c.args.leading.now c.loop-x.x) e (c.requires.towards c.loop-x.x x_in w.if-x-k.false) h));
      })
]

pub returns : goal.returns
returns c =
    let all : c.loop-x.x ≡ length c.args.tree.now = omega (arith, c.loop-x-test.false, c.loop-x.auto.x-end, c.node_count-x-end.ensures) in
    record { noted = subst (λ (z : ℕ). AreNoted c.args.tree.now c.args.k z c.loop-x.notes) all c.loop-x.invariant.noted }
