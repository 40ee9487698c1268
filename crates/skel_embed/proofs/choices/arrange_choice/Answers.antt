use Rattle.std.proofs.Common.{◌≡◌, ℕ, ◌-◌, List, [], ◌++◌, length, take, drop, slice_index_or, slice_set, sym, ap, ◌∙◌, subst, IsPermutation}
use Rattle.std.proofs.lemmas.List.{with_items_is}
use Rattle.permutations.specs.Cyclic.{from_least}
use Rattle.skel_embed.specs.Flat.{lists_in}
use Rattle.skel_embed.proofs.Flat.{lent-piece, lent-length, lent-again, lent-put}
use Rattle.skel_embed.proofs.KeptLists.{arranged-length}
use Rattle.skel_embed.proofs.choices.arrange_choice.Goals as goal

pub arrange-requires-clause-written : goal.arrange-requires-clause-written
arrange-requires-clause-written c =
    let keys = c.args.keys.now.items in
    let m = c.deref_mut.result.now in
    let ends = c.args.ends.now in
    let k = c.args.k in
    let s = c.bounds-start.result.0 in
    let e = c.bounds-start.result.1 in
    let told : c.of.result ≡ lists_in keys ends = c.of.ensures ∙ ap (λ (z : List ℕ). lists_in z ends) c.as_slice.ensures.value in
    let piece : take (e - s) (drop s m) ≡ slice_index_or (lists_in keys ends) k [] = lent-piece keys m ends c.requires.flat c.deref_mut.ensures.value c.of.result told k c.requires.node s e c.bounds-start.ensures.start c.bounds-start.ensures.end in
    ap from_least piece ∙ c.requires.written ∙ sym piece

pub arrange-requires-clause-arrangement : goal.arrange-requires-clause-arrangement
arrange-requires-clause-arrangement c =
    let keys = c.args.keys.now.items in
    let m = c.deref_mut.result.now in
    let ends = c.args.ends.now in
    let k = c.args.k in
    let s = c.bounds-start.result.0 in
    let e = c.bounds-start.result.1 in
    let told : c.of.result ≡ lists_in keys ends = c.of.ensures ∙ ap (λ (z : List ℕ). lists_in z ends) c.as_slice.ensures.value in
    let piece : take (e - s) (drop s m) ≡ slice_index_or (lists_in keys ends) k [] = lent-piece keys m ends c.requires.flat c.deref_mut.ensures.value c.of.result told k c.requires.node s e c.bounds-start.ensures.start c.bounds-start.ensures.end in
    subst (λ (z : List ℕ). IsPermutation z c.args.order.now) (sym piece) c.requires.arrangement

pub returns-clause-flat : goal.returns-clause-flat
returns-clause-flat c =
    let keys = c.args.keys.now.items in
    let m = c.deref_mut.result.now in
    let ends = c.args.ends.now in
    let k = c.args.k in
    let s = c.bounds-start.result.0 in
    let e = c.bounds-start.result.1 in
    let told : c.of.result ≡ lists_in keys ends = c.of.ensures ∙ ap (λ (z : List ℕ). lists_in z ends) c.as_slice.ensures.value in
    let y = c.arrange.new.keys in
    let same : length y ≡ length (slice_index_or (lists_in keys ends) k []) = ap length c.arrange.ensures ∙ arranged-length (slice_index_or (lists_in keys ends) k []) c.args.order.now c.requires.arrangement in
    let x = take s m ++ (y ++ drop (e - s) (drop s m)) in
    let w = with_items_is c.args.keys.now x (lent-length keys m ends c.requires.flat c.deref_mut.ensures.value c.of.result told k c.requires.node s e c.bounds-start.ensures.start c.bounds-start.ensures.end y same ∙ c.deref_mut.ensures.len) in
    lent-again keys m ends c.requires.flat c.deref_mut.ensures.value c.of.result told k c.requires.node s e c.bounds-start.ensures.start c.bounds-start.ensures.end y same _ w

pub returns-clause-arranged : goal.returns-clause-arranged
returns-clause-arranged c =
    let keys = c.args.keys.now.items in
    let m = c.deref_mut.result.now in
    let ends = c.args.ends.now in
    let k = c.args.k in
    let s = c.bounds-start.result.0 in
    let e = c.bounds-start.result.1 in
    let told : c.of.result ≡ lists_in keys ends = c.of.ensures ∙ ap (λ (z : List ℕ). lists_in z ends) c.as_slice.ensures.value in
    let y = c.arrange.new.keys in
    let same : length y ≡ length (slice_index_or (lists_in keys ends) k []) = ap length c.arrange.ensures ∙ arranged-length (slice_index_or (lists_in keys ends) k []) c.args.order.now c.requires.arrangement in
    let x = take s m ++ (y ++ drop (e - s) (drop s m)) in
    let w = with_items_is c.args.keys.now x (lent-length keys m ends c.requires.flat c.deref_mut.ensures.value c.of.result told k c.requires.node s e c.bounds-start.ensures.start c.bounds-start.ensures.end y same ∙ c.deref_mut.ensures.len) in
    lent-put keys m ends c.requires.flat c.deref_mut.ensures.value c.of.result told k c.requires.node s e c.bounds-start.ensures.start c.bounds-start.ensures.end y same _ w ∙ ap (slice_set (lists_in keys ends) k) c.arrange.ensures
