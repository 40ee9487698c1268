use Rattle.std.proofs.Common.{◌≡◌, true, slice_index_or, sym, ◌∙◌, subst, arith}
use Rattle.permutations.specs.Cyclic.{successor}
use Rattle.permutations.specs.Members.{is_member}
use Rattle.permutations.proofs.Arrangements.{member-at}
use Rattle.permutations.proofs.Successor.{successor-member}
use Rattle.long_face.proofs.BondNumbers.{order-once, item-of_key, key-after, key-after_last}
use Rattle.long_face.proofs.bond_faces.item_after.Goals.{then-next-keys, else-next-keys}
use Rattle.long_face.proofs.bond_faces.item_after.Goals as goal

-- the key is the one that follows
pub item_with_key-requires-clause-held : goal.item_with_key-requires-clause-held
item_with_key-requires-clause-held c =
    let items = c.args.items.now in
    let keys = c.args.keys.now in
    let at = slice_index_or keys c.args.place 0 in
    let once = order-once items c.requires.rising keys c.requires.all in
    let e : c.if-next-keys.key ≡ successor keys at = elim c.if-next-keys.branch [
      | then-next-keys w ↦ w.key-is ∙ sym (key-after_last keys c.args.place once c.requires.place (omega (arith, w.if-next-keys.true)))
      | else-next-keys w ↦ w.key-is ∙ sym (key-after keys c.args.place once c.requires.place (λ q. omega (arith, q, w.if-next-keys.false)))
    ] in
    item-of_key items c.requires.rising keys c.requires.all c.if-next-keys.key (subst (λ z. is_member z keys ≡ true) (sym e) (successor-member keys at (member-at keys c.args.place 0 c.requires.place)))

pub returns-clause-key : goal.returns-clause-key
returns-clause-key c =
    let keys = c.args.keys.now in
    let once = order-once c.args.items.now c.requires.rising keys c.requires.all in
    c.item_with_key.ensures.key ∙ elim c.if-next-keys.branch [
      | then-next-keys w ↦ w.key-is ∙ sym (key-after_last keys c.args.place once c.requires.place (omega (arith, w.if-next-keys.true)))
      | else-next-keys w ↦ w.key-is ∙ sym (key-after keys c.args.place once c.requires.place (λ q. omega (arith, q, w.if-next-keys.false)))
    ]

pub bounds-keys-0 : goal.bounds-keys-0
bounds-keys-0 c = omega (arith, c.requires.place)
