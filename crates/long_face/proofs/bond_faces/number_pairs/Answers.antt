use Rattle.std.proofs.Common.{slice_index_or, ◌∙◌, arith}
use Rattle.permutations.proofs.Arrangements.{member-at}
use Rattle.long_face.proofs.BondNumbers.{order-once, order-long, item-of_key, none-written, written-more, all-written, key-after}
use Rattle.long_face.proofs.bond_faces.number_pairs.Goals as goal

-- the first key is that of an item
pub item_with_key-here-requires-clause-held : goal.item_with_key-here-requires-clause-held
item_with_key-here-requires-clause-held c =
    let keys = c.args.keys.now in
    item-of_key c.args.items.now c.requires.rising keys c.requires.all (slice_index_or keys 0 0) (member-at keys 0 0 (omega (arith, c.requires.some, order-long c.args.items.now c.requires.rising keys c.requires.all)))

pub loop-place-init : goal.loop-place-init
loop-place-init c = (none-written c.args.items.now c.requires.rising c.args.keys.now c.requires.all c.args.numbers.now c.requires.places, c.item_with_key-here.ensures.within, λ l. c.item_with_key-here.ensures.key)

-- one item more
pub loop-place-preserved : goal.loop-place-preserved
loop-place-preserved c =
    let items = c.args.items.now in
    let keys = c.args.keys.now in
    let q = c.loop-place.place in
    let once = order-once items c.requires.rising keys c.requires.all in
    let is = c.loop-place.invariant.2 c.loop-place-test.true in
    let next = c.item_after-next.ensures in (
      written-more items c.requires.rising keys c.requires.all q c.loop-place.numbers c.loop-place.invariant.0 c.loop-place-test.true c.loop-place.here c.item_after-next.result c.loop-place.invariant.1 next.within is next.key,
      next.within,
      λ l. next.key ∙ key-after keys q once c.loop-place-test.true (λ e. omega (arith, e, l)),
    )

pub returns : goal.returns
returns c = all-written c.args.items.now c.requires.rising c.args.keys.now c.requires.all c.loop-place.place c.loop-place.numbers (omega (arith, c.loop-place-test.false)) c.loop-place.invariant.0

pub bounds-keys-0 : goal.bounds-keys-0
bounds-keys-0 c = omega (arith, c.requires.some, order-long c.args.items.now c.requires.rising c.args.keys.now c.requires.all)
