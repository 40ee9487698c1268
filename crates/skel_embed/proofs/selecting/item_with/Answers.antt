use Rattle.std.proofs.Common.{arith}
use Rattle.skel_embed.proofs.Selected.{item-held, item-place}
use Rattle.skel_embed.proofs.selecting.item_with.Goals as goal

pub item_with_key-requires-clause-few : goal.item_with_key-requires-clause-few
item_with_key-requires-clause-few c = omega (arith, c.requires.few)

-- one has the key
pub item_with_key-requires-clause-held : goal.item_with_key-requires-clause-held
item_with_key-requires-clause-held c = item-held c.args.items.now c.args.key c.requires.held

pub returns : goal.returns
returns c = item-place c.args.items.now c.args.key c.requires.rises c.item_with_key.result c.item_with_key.ensures.within c.item_with_key.ensures.key
