use Rattle.std.proofs.Common.{ℕ, List, length, slice_index_or, sym, ap, ◌∙◌, arith}
use Rattle.std.proofs.lemmas.Bool.{eqb-true, eqb-false}
use Rattle.std.proofs.lemmas.List.Sorted.{length_permutation}
use Rattle.permutations.specs.Cyclic.{turned}
use Rattle.permutations.specs.Members.{is_member}
use Rattle.skel_embed.proofs.KeptLists.{arranged-least, arranged-first, arranged-none}
use Rattle.skel_embed.proofs.kept.arrange.Goals as goal

pub returns-then-is_empty : goal.returns-then-is_empty
returns-then-is_empty c = arranged-none c.args.keys.now c.args.order.now (eqb-true (length c.args.keys.now) 0 (sym c.is_empty.ensures ∙ c.if-is_empty.true)) c.requires.arrangement

pub copy_from_slice-requires : goal.copy_from_slice-requires
copy_from_slice-requires c = sym (length_permutation c.args.keys.now c.args.order.now c.requires.arrangement)

pub turn_to-requires : goal.turn_to-requires
turn_to-requires c =
    let old = c.args.keys.now in
    ap (is_member (slice_index_or old 0 0)) c.copy_from_slice.ensures.after ∙ arranged-first old c.args.order.now (omega (arith, eqb-false (length old) 0 (sym c.is_empty.ensures ∙ c.if-is_empty.false))) c.requires.arrangement

pub returns : goal.returns
returns c =
    let old = c.args.keys.now in
    c.turn_to.ensures ∙ ap (λ (z : List ℕ). turned z (slice_index_or old 0 0)) c.copy_from_slice.ensures.after ∙ arranged-least old c.args.order.now c.requires.written (omega (arith, eqb-false (length old) 0 (sym c.is_empty.ensures ∙ c.if-is_empty.false))) c.requires.arrangement
