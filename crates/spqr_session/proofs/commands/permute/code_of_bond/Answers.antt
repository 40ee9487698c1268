use Rattle.std.proofs.Common.{◌≡◌, List, map, sym, ap, ◌∙◌, subst}
use Rattle.multigraph.specs.Part.{Rises, IsNumbered}
use Rattle.pair_split.specs.Tutte.{Node, node_at}
use Rattle.pair_split.specs.declared.components.Item.{Item}
use Rattle.skeletons.specs.Items.{item_key, node_keys}
use Rattle.spqr_session.specs.Commands.Permute.{inner_edges}
use Rattle.spqr_session.proofs.PermuteVerdicts.{test-right, test-wrong, seen-tree, own-rises, keys-right, keys-wrong, order-refused, bond-verdict}
use Rattle.spqr_session.proofs.commands.permute.code_of_bond.Goals as goal

-- the tree's own keys rise
pub are_arranged-requires : goal.are_arranged-requires
are_arranged-requires c =
    let v = c.args.block.now in
    subst (λ (items : List Item). Rises (map item_key items)) (sym (c.items.ensures ∙ ap (λ (nodes : List Node). (node_at nodes c.args.k).items) c.tree.ensures))
    (own-rises v c.args.k (subst IsNumbered c.part.ensures c.graph.ensures.numbered) (seen-tree v c.outcome.result.now c.outcome.ensures.view c.outcome.ensures.right) c.requires.node)

-- code 4
pub returns-then-not-branch : goal.returns-then-not-branch
returns-then-not-branch c =
    let v = c.args.block.now in
    let own : map item_key c.items.result.now ≡ node_keys v.tree.nodes c.args.k = ap (map item_key) (c.items.ensures ∙ ap (λ (nodes : List Node). (node_at nodes c.args.k).items) c.tree.ensures) in
    let wrong = test-wrong c.in_ok-are_arranged.field-0 (map item_key c.items.result.now) c.deref.result.now (node_keys v.tree.nodes c.args.k) (inner_edges v.tree c.args.keys.now) c.in_ok-are_arranged.ensures own (c.deref.ensures.value ∙ c.in_ok-own.ensures) c.if-not-branch.true in
    order-refused v c.args.k c.args.keys.now c.requires.node c.requires.kind
    (keys-wrong v c.args.k (subst IsNumbered c.part.ensures c.graph.ensures.numbered) (seen-tree v c.outcome.result.now c.outcome.ensures.view c.outcome.ensures.right) c.requires.node c.args.keys.now wrong)

-- codes 5 and 12
pub returns : goal.returns
returns c =
    let v = c.args.block.now in
    let own : map item_key c.items.result.now ≡ node_keys v.tree.nodes c.args.k = ap (map item_key) (c.items.ensures ∙ ap (λ (nodes : List Node). (node_at nodes c.args.k).items) c.tree.ensures) in
    let right = test-right c.in_ok-are_arranged.field-0 (map item_key c.items.result.now) c.deref.result.now (node_keys v.tree.nodes c.args.k) (inner_edges v.tree c.args.keys.now) c.in_ok-are_arranged.ensures own (c.deref.ensures.value ∙ c.in_ok-own.ensures) c.if-not-branch.false in
    let good = keys-right v c.args.k (subst IsNumbered c.part.ensures c.graph.ensures.numbered) (seen-tree v c.outcome.result.now c.outcome.ensures.view c.outcome.ensures.right) c.requires.node c.args.keys.now right in
    bond-verdict v c.args.k c.args.keys.now c.requires.node c.requires.kind good right c.code_of_move.result c.code_of_move.ensures
