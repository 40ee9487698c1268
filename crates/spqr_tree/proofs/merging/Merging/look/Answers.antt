use Rattle.std.proofs.Common.{◌<◌, [], refl, length, ◌∙◌, sym, subst}
use Rattle.std.proofs.lemmas.Bool.{true≢false}
use Rattle.pair_split.specs.Split.{items_of}
use Rattle.pair_split.specs.declared.components.Kind.TheVariants.{B}
use Rattle.spqr_tree.proofs.OrderCode.{items-within}
use Rattle.spqr_tree.specs.Merging.{IsAbsorbed, IsMerging}
use Rattle.spqr_tree.proofs.MergingSteps.{same-link, link-within, taken-merges, taken-falls, done-merges}
use Rattle.spqr_tree.proofs.merging.Merging.look.Goals as goal
use Rattle.spqr_tree.proofs.merging.Merging.look.Goals.{in-Link+else-is_absorbed, in_default}

-- a link leads to a component
pub is_absorbed-requires : goal.is_absorbed-requires
is_absorbed-requires g c = (c.requires.1.live, subst (λ z. c.in-Link.d < z) (sym c.requires.1.places) (link-within g.comps c.requires.0 c.args.kind c.args.self.now c.args.piece c.requires.1 c.in-Link.d c.in-Link.is))

pub absorb-requires : goal.absorb-requires
absorb-requires g c = (
  subst (λ z. c.in-Link.d < z) (sym c.requires.1.places) (link-within g.comps c.requires.0 c.args.kind c.args.self.now c.args.piece c.requires.1 c.in-Link.d c.in-Link.is),
  (c.requires.1.live, ((c.is_absorbed.ensures.0 c.if-is_absorbed.true).1, (items-within g.comps c.requires.0.1.linked c.in-Link.d (record { kind = B; items = [] }) (items_of g.comps c.in-Link.d) (length c.args.self.now.lead) (link-within g.comps c.requires.0 c.args.kind c.args.self.now c.args.piece c.requires.1 c.in-Link.d c.in-Link.is) refl c.requires.1.places, c.requires.1.few))),
)

-- a component is taken into the group in work
pub returns-then-is_absorbed-clause-merging : goal.returns-then-is_absorbed-clause-merging
returns-then-is_absorbed-clause-merging g c = taken-merges g.comps c.requires.0 c.args.kind c.args.self.now c.args.piece c.requires.1 c.in-Link.d c.in-Link.is (c.is_absorbed.ensures.0 c.if-is_absorbed.true) c.absorb.new.self c.in_ok-absorb.ensures

-- and fewer pieces are left
pub returns-then-is_absorbed-clause-falls : goal.returns-then-is_absorbed-clause-falls
returns-then-is_absorbed-clause-falls g c = taken-falls g.comps c.requires.0 c.args.kind c.args.self.now c.args.piece c.requires.1 c.in-Link.d c.in-Link.is (c.is_absorbed.ensures.0 c.if-is_absorbed.true) c.absorb.new.self c.in_ok-absorb.ensures

-- a piece that leads to no such component is done
pub returns-clause-merging : goal.returns-clause-merging
returns-clause-merging g c = subst (IsMerging g.comps c.args.kind) (sym c.in_ok-keep.ensures) (done-merges g.comps c.requires.0 c.args.kind c.args.self.now c.args.piece c.requires.1 (elim c.match-piece.branch [
  | in-Link+else-is_absorbed w ↦ λ d e a. true≢false (sym (w.is_absorbed.ensures.1 (subst (IsAbsorbed g.comps c.args.self.now.lead c.args.kind) (same-link d w.in-Link.d (sym e ∙ w.in-Link.is)) a)) ∙ w.if-is_absorbed.false)
  | in_default w ↦ λ d e a. w.in_default.not-Link d e
]))
