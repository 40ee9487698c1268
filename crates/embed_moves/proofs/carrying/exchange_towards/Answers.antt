use Rattle.std.proofs.Common.{◌≡◌, ◌<◌, true, List, length, slice_index_or, arith, sym, ◌∙◌}
use Rattle.std.proofs.lemmas.List.Sorted.{length_permutation}
use Rattle.permutations.specs.Members.{is_member}
use Rattle.permutations.proofs.Arrangements.{permutation-member, member-at}
use Rattle.pair_split.specs.Tutte.{Node}
use Rattle.pair_split.specs.declared.components.Kind.TheVariants.{P}
use Rattle.skeletons.specs.Items.{node_keys}
use Rattle.skeletons.specs.Moves.{IsNodeOfKind}
use Rattle.embed_moves.proofs.Near.{tree-kept, keeps-same, keeps-then}
use Rattle.embed_moves.proofs.carrying.exchange_towards.Goals as goal

pub exchange_at-requires-clause-node : goal.exchange_at-requires-clause-node
exchange_at-requires-clause-node c = tree-kept (λ (t : List Node). IsNodeOfKind t c.args.k P) c.args.p.now c.loop-i.p c.args.k c.loop-i.invariant c.requires.node

pub exchange_at-requires-clause-place : goal.exchange_at-requires-clause-place
exchange_at-requires-clause-place c = tree-kept (λ (t : List Node). c.loop-i.i < length (node_keys t c.args.k)) c.args.p.now c.loop-i.p c.args.k c.loop-i.invariant
    (omega (arith, c.loop-i-test.true, length_permutation (node_keys c.args.p.now.tree c.args.k) c.args.keys.now c.requires.arrangement))

pub exchange_at-requires-clause-key : goal.exchange_at-requires-clause-key
exchange_at-requires-clause-key c = tree-kept (λ (t : List Node). is_member (slice_index_or c.args.keys.now c.loop-i.i 0) (node_keys t c.args.k) ≡ true) c.args.p.now c.loop-i.p c.args.k c.loop-i.invariant
    (sym (permutation-member (node_keys c.args.p.now.tree c.args.k) c.args.keys.now (slice_index_or c.args.keys.now c.loop-i.i 0) c.requires.arrangement) ∙ member-at c.args.keys.now c.loop-i.i 0 c.loop-i-test.true)

pub loop-i-init : goal.loop-i-init
loop-i-init c = keeps-same c.args.p.now c.args.k

pub loop-i-preserved : goal.loop-i-preserved
loop-i-preserved c = keeps-then c.args.p.now c.loop-i.p c.exchange_at.new.p c.args.k c.loop-i.invariant c.exchange_at.ensures
