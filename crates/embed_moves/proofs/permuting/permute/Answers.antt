use Rattle.std.proofs.Common.{List, map, ap, ◌∙◌}
use Rattle.permutations.specs.Members.{is_distinct}
use Rattle.pair_split.specs.declared.components.Item.{Item}
use Rattle.pair_split.specs.Tutte.{Node}
use Rattle.skeletons.specs.Items.{item_key, node_keys}
use Rattle.embed_moves.proofs.Arranging.{keys-differ}
use Rattle.embed_moves.proofs.permuting.permute.Goals as goal

pub is_arrangement-requires : goal.is_arrangement-requires
is_arrangement-requires c = ap (λ (z : List Item). is_distinct (map item_key z)) c.items.ensures ∙ ap (λ (z : List Node). is_distinct (node_keys z c.args.k)) c.tree-2.ensures.value ∙ keys-differ c.args.p.now c.tree.ensures.state c.args.k c.requires
