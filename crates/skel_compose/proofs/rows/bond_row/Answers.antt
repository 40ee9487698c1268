use Rattle.std.proofs.Common.{◌≡◌, ◌∙◌, ◌*◌, slice_index_or, refl, arith}
use Rattle.std.proofs.lemmas.List.{length-set}
use Rattle.permutations.specs.Cyclic.{successor}
use Rattle.skel_compose.proofs.BondRows.{next-inside, next-round, turns-start, first-within, second-within, turns-more, turns-done}
use Rattle.skel_compose.proofs.rows.bond_row.Goals.{then-i-items, else-i-items}
use Rattle.skel_compose.proofs.rows.bond_row.Goals as goal

pub loop-i-init : goal.loop-i-init
loop-i-init c = turns-start c.args.items.now c.requires.once c.requires.below c.resize.new.self.items (omega (arith, c.in_ok-resize.ensures.len, c.resize.new.self.ok.0))

pub index_mut-requires : goal.index_mut-requires
index_mut-requires c =
    let items = c.args.items.now in
    let x = slice_index_or items c.loop-i.i 0 in
    let e = first-within items c.requires.once c.requires.below c.loop-i.i x (successor items x) c.loop-i.row.items c.loop-i-test.true refl refl c.loop-i.invariant in
    omega (arith, e, c.loop-i.row.ok.0)

pub index_mut-requires-in-loop-i : goal.index_mut-requires-in-loop-i
index_mut-requires-in-loop-i c =
    let items = c.args.items.now in
    let i = c.loop-i.i in
    let x = slice_index_or items i 0 in
    let y : c.if-i-items.next ≡ successor items x = elim c.if-i-items.branch [
      | then-i-items w ↦ w.next-is ∙ next-inside items i c.requires.once w.if-i-items.true
      | else-i-items w ↦ w.next-is ∙ next-round items i c.requires.once (omega (arith, w.if-i-items.false, c.loop-i-test.true))
    ] in
    let e = second-within items c.requires.once c.requires.below i x c.if-i-items.next c.loop-i.row.items c.loop-i-test.true refl y c.loop-i.invariant in
    omega (arith, e, c.loop-i.row.ok.0, length-set c.loop-i.row.items (2 * x) c.if-i-items.next)

-- one item more
pub loop-i-preserved : goal.loop-i-preserved
loop-i-preserved c =
    let items = c.args.items.now in
    let i = c.loop-i.i in
    let x = slice_index_or items i 0 in
    let y : c.if-i-items.next ≡ successor items x = elim c.if-i-items.branch [
      | then-i-items w ↦ w.next-is ∙ next-inside items i c.requires.once w.if-i-items.true
      | else-i-items w ↦ w.next-is ∙ next-round items i c.requires.once (omega (arith, w.if-i-items.false, c.loop-i-test.true))
    ] in
    turns-more items c.requires.once c.requires.below i x c.if-i-items.next c.loop-i.row.items c.loop-i-test.true refl y c.loop-i.invariant _ refl

pub returns : goal.returns
returns c = turns-done c.args.items.now c.requires.once c.requires.below c.loop-i.i c.loop-i.row.items c.loop-i-test.false c.loop-i.invariant
