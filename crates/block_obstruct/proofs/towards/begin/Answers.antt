-- The link at one place more: the node where it leads is put on the list, with this place.
use Rattle.std.proofs.Common.{◌≡◌, ◌∙◌, length, refl, sym, arith}
use Rattle.pair_split.specs.declared.components.What.TheVariants.{Link}
use Rattle.block_obstruct.specs.Towards.{item_in, IsItem}
use Rattle.graph_paths.proofs.Loops.{steps-none, steps-more, steps-skip}
use Rattle.block_obstruct.proofs.Loops.{link-once}
use Rattle.block_obstruct.proofs.towards.begin.Goals as goal
use Rattle.block_obstruct.proofs.towards.begin.Goals.{in-Link+in_ok-add_once, in_default}

pub loop-i-init : goal.loop-i-init
loop-i-init c = steps-none (λ y m. IsItem c.args.items.now m (Link y)) (λ i h. (item_in c.args.items.now i).what ≡ Link h) (length c.args.marks.now) c.args.marks.now c.args.notes.now c.args.list.now.items c.requires.listed refl

pub add_once-requires-clause-listed : goal.add_once-requires-clause-listed
add_once-requires-clause-listed c = c.loop-i.invariant.listed

pub add_once-requires-clause-within : goal.add_once-requires-clause-within
add_once-requires-clause-within c = omega (arith, c.loop-i.invariant.size_is, c.requires.below c.in-Link.j (c.loop-i.i, c.loop-i-test.true, c.in-Link.is))

pub loop-i-preserved : goal.loop-i-preserved
loop-i-preserved c = elim c.match-item.branch [
  | in-Link+in_ok-add_once w ↦ rw (w.marks-is, w.notes-is, w.list-is)
      (steps-more (λ y m. IsItem c.args.items.now m (Link y)) (λ i h. (item_in c.args.items.now i).what ≡ Link h) c.loop-i.i (length c.args.marks.now) c.args.notes.now c.args.list.now.items
      c.loop-i.marks c.loop-i.notes c.loop-i.list.items w.add_once.new.marks w.add_once.new.notes w.add_once.new.list.items w.in-Link.j c.loop-i.i c.loop-i.invariant
      w.in_ok-add_once.ensures.listed w.in_ok-add_once.ensures.size w.in_ok-add_once.ensures.grows w.in_ok-add_once.ensures.held (c.loop-i-test.true, w.in-Link.is) (λ h q. link-once w.in-Link.j h (sym w.in-Link.is ∙ q)))
  | in_default w ↦ rw (w.marks-is, w.notes-is, w.list-is)
      (steps-skip (λ y m. IsItem c.args.items.now m (Link y)) (λ i h. (item_in c.args.items.now i).what ≡ Link h) c.loop-i.i (length c.args.marks.now) c.args.notes.now c.args.list.now.items
      c.loop-i.marks c.loop-i.notes c.loop-i.list.items c.loop-i.invariant (λ h q. w.in_default.not-Link h q))
]

pub returns-clause-met : goal.returns-clause-met
returns-clause-met c = λ h w. c.loop-i.invariant.met w.0 h (omega (arith, w.1, c.loop-i-test.false)) w.2
