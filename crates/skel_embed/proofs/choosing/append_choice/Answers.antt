use Rattle.std.proofs.Common.{◌≡◌, ◌<◌, ◌++◌, ◌∙◌, ℕ, inl, inr, true, IfOk, List, length, map, sym, ap, subst, arith}
use Rattle.permutations.specs.Members.{is_member}
use Rattle.rotations.specs.Rotation.{order_at}
use Rattle.pair_split.specs.declared.components.Item.{Item}
use Rattle.skeletons.proofs.NodeItems.{nth_item}
use Rattle.skel_embed.proofs.First.{low-in, low-is, item-in, choice-keys}
use Rattle.skel_embed.proofs.choosing.append_choice.Goals as goal

pub append_round-requires-clause-vertex : goal.append_round-requires-clause-vertex
append_round-requires-clause-vertex c = omega (arith, c.requires.system.vertices, low-in c.requires.block.0 c.args.tree.now c.requires.block.1 c.args.k c.requires.node)

pub append_round-requires-clause-within : goal.append_round-requires-clause-within
append_round-requires-clause-within c = λ i m. subst (λ (z : List Item). i < length z) (sym c.items.ensures)
    (item-in c.requires.block.0 c.args.tree.now c.requires.block.1 c.args.k c.requires.node c.args.member.now c.requires.system i (subst (λ z. is_member i (order_at c.args.member.now z) ≡ true) (sym (low-is c.requires.block.0 c.args.tree.now c.requires.block.1 c.args.k c.requires.node)) m))

pub returns-in-P : goal.returns-in-P
returns-in-P c = subst (λ (z : List ℕ). IfOk c.append_round.result (λ x. c.append_round.new.keys.items ≡ c.args.keys.now.items ++ z))
    (choice-keys c.requires.block.0 c.args.tree.now c.requires.block.1 c.args.k c.requires.node c.args.member.now c.requires.system (map (λ i. (nth_item c.items.result.now i).key) (order_at c.args.member.now 0))
    (elim c.in-P.is [ inl q ↦ inl (sym c.kind.ensures ∙ q) | inr q ↦ inr (sym c.kind.ensures ∙ q) ])
    (ap (λ (z : List Item). map (λ i. (nth_item z i).key) (order_at c.args.member.now 0)) c.items.ensures))
    c.append_round.ensures
