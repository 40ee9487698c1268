use Rattle.std.proofs.Common.{◌≡◌, true, List, map, slice_index_or, refl, sym, ◌∙◌, subst}
use Rattle.std.proofs.lemmas.Bool.{true≢false, both_ways}
use Rattle.std.proofs.lemmas.List.{length-map, take_all}
use Rattle.std.proofs.lemmas.List.Sorted.{length_permutation}
use Rattle.permutations.specs.Members.{is_member}
use Rattle.rotations.proofs.Arrangements.{permutation-member}
use Rattle.pair_split.specs.declared.components.Item.{Item}
use Rattle.pair_split.specs.declared.components.What.TheVariants.{Real}
use Rattle.skeletons.specs.Items.{item_key}
use Rattle.embed_moves.proofs.Arranging.{arrangement-is, keys-more, item-key_in}
use Rattle.embed_moves.proofs.permuting.is_arrangement.Goals as goal

abbrev blank : Item
blank = record { key = 0; a = 0; b = 0; what = Real 0 }

pub returns-then-items-keys : goal.returns-then-items-keys
returns-then-items-keys c = (λ t. absurd (true≢false (sym t)), λ p. absurd (c.if-items-keys.true (sym (length-map c.args.items.now item_key) ∙ sym (length_permutation (map item_key c.args.items.now) c.args.keys.now p))))

pub returns-then-not-has_key : goal.returns-then-not-has_key
returns-then-not-has_key c = (
  λ t. absurd (true≢false (sym t)),
  λ p. absurd (both_ways (is_member (item_key (slice_index_or c.args.items.now c.loop-item.item-index blank)) c.args.keys.now) (sym c.has_key.ensures ∙ c.if-not-has_key.true)
      (permutation-member (map item_key c.args.items.now) c.args.keys.now (item_key (slice_index_or c.args.items.now c.loop-item.item-index blank)) p (item-key_in c.args.items.now c.loop-item.item-index blank c.loop-item-test.true))),
)

pub loop-item-preserved : goal.loop-item-preserved
loop-item-preserved c = keys-more c.args.items.now c.args.keys.now c.loop-item.item-index blank c.loop-item-test.true c.loop-item.invariant (sym c.has_key.ensures ∙ c.if-not-has_key.false)

pub returns : goal.returns
returns c = (
  λ t. arrangement-is (map item_key c.args.items.now) c.args.keys.now c.requires (length-map c.args.items.now item_key ∙ c.if-items-keys.false)
      (λ x m. c.loop-item.invariant x (subst (λ (z : List Item). is_member x (map item_key z) ≡ true) (sym (take_all c.loop-item.item-index c.args.items.now c.loop-item-test.false)) m)),
  λ p. refl,
)
