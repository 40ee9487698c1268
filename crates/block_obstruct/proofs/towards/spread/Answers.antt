-- The link of one item more: the node where it leads is put on the list, unless it is node k.
use Rattle.std.proofs.Common.{◌≡◌, ◌≢◌, ◌∙◌, length, refl, sym, arith}
use Rattle.pair_split.specs.declared.components.What.TheVariants.{Link}
use Rattle.block_obstruct.specs.Towards.{item_in, HaveItem}
use Rattle.graph_paths.proofs.Loops.{steps-none, steps-more, steps-skip}
use Rattle.block_obstruct.proofs.Loops.{link-once}
use Rattle.block_obstruct.proofs.towards.spread.Goals as goal
use Rattle.block_obstruct.proofs.towards.spread.Goals.{in-Link+then-h-k+in_ok-add_once, in-Link+else-h-k, in_default}

pub loop-item-init : goal.loop-item-init
loop-item-init c = steps-none (λ y m. (m ≡ c.args.note) × (y ≢ c.args.k) × HaveItem c.args.items.now (Link y)) (λ i h. ((item_in c.args.items.now i).what ≡ Link h) × (h ≢ c.args.k)) (length c.args.marks.now) c.args.marks.now c.args.notes.now c.args.list.now.items c.requires.listed refl

pub add_once-requires-clause-listed : goal.add_once-requires-clause-listed
add_once-requires-clause-listed c = c.loop-item.invariant.listed

pub add_once-requires-clause-within : goal.add_once-requires-clause-within
add_once-requires-clause-within c = omega (arith, c.loop-item.invariant.size_is, c.requires.below c.in-Link.h (c.loop-item.item-index, c.loop-item-test.true, c.in-Link.is))

pub loop-item-preserved : goal.loop-item-preserved
loop-item-preserved c = elim c.match-item.branch [
  | in-Link+then-h-k+in_ok-add_once w ↦ rw (w.marks-is, w.notes-is, w.list-is)
      (steps-more (λ y m. (m ≡ c.args.note) × (y ≢ c.args.k) × HaveItem c.args.items.now (Link y)) (λ i h. ((item_in c.args.items.now i).what ≡ Link h) × (h ≢ c.args.k)) c.loop-item.item-index (length c.args.marks.now) c.args.notes.now c.args.list.now.items
      c.loop-item.marks c.loop-item.notes c.loop-item.list.items w.add_once.new.marks w.add_once.new.notes w.add_once.new.list.items w.in-Link.h c.args.note c.loop-item.invariant
      w.in_ok-add_once.ensures.listed w.in_ok-add_once.ensures.size w.in_ok-add_once.ensures.grows w.in_ok-add_once.ensures.held (refl, w.if-h-k.true, (c.loop-item.item-index, c.loop-item-test.true, w.in-Link.is)) (λ h q. link-once w.in-Link.h h (sym w.in-Link.is ∙ q.0)))
  | in-Link+else-h-k w ↦ rw (w.marks-is, w.notes-is, w.list-is)
      (steps-skip (λ y m. (m ≡ c.args.note) × (y ≢ c.args.k) × HaveItem c.args.items.now (Link y)) (λ i h. ((item_in c.args.items.now i).what ≡ Link h) × (h ≢ c.args.k)) c.loop-item.item-index (length c.args.marks.now) c.args.notes.now c.args.list.now.items
      c.loop-item.marks c.loop-item.notes c.loop-item.list.items c.loop-item.invariant (λ h q. q.1 (sym (link-once w.in-Link.h h (sym w.in-Link.is ∙ q.0)) ∙ w.if-h-k.false)))
  | in_default w ↦ rw (w.marks-is, w.notes-is, w.list-is)
      (steps-skip (λ y m. (m ≡ c.args.note) × (y ≢ c.args.k) × HaveItem c.args.items.now (Link y)) (λ i h. ((item_in c.args.items.now i).what ≡ Link h) × (h ≢ c.args.k)) c.loop-item.item-index (length c.args.marks.now) c.args.notes.now c.args.list.now.items
      c.loop-item.marks c.loop-item.notes c.loop-item.list.items c.loop-item.invariant (λ h q. w.in_default.not-Link h q.0))
]

pub returns-clause-met : goal.returns-clause-met
returns-clause-met c = λ h w n. c.loop-item.invariant.met w.0 h (omega (arith, w.1, c.loop-item-test.false)) (w.2, n)
