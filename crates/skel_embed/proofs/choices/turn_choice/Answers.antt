use Rattle.std.proofs.Common.{◌≡◌, ℕ, ◌-◌, List, [], ◌++◌, length, take, drop, slice_index_or, slice_set, sym, ap, ◌∙◌}
use Rattle.std.proofs.lemmas.List.{with_items_is}
use Rattle.permutations.specs.Cyclic.{from_least}
use Rattle.permutations.specs.Members.{is_distinct}
use Rattle.skel_embed.specs.Exchanges.{turned_choice}
use Rattle.skel_embed.specs.Flat.{lists_in}
use Rattle.skel_embed.proofs.Flat.{lent-piece, lent-length, lent-again, lent-put}
use Rattle.skel_embed.proofs.KeptLists.{turned-length}
use Rattle.skel_embed.proofs.choices.turn_choice.Goals as goal

pub turn_round-requires-clause-once : goal.turn_round-requires-clause-once
turn_round-requires-clause-once c =
    let keys = c.args.keys.now.items in
    let m = c.deref_mut.result.now in
    let ends = c.args.ends.now in
    let k = c.args.k in
    let s = c.bounds-start.result.0 in
    let e = c.bounds-start.result.1 in
    let told : c.of.result ≡ lists_in keys ends = c.of.ensures ∙ ap (λ (z : List ℕ). lists_in z ends) c.as_slice.ensures.value in
    let piece : take (e - s) (drop s m) ≡ slice_index_or (lists_in keys ends) k [] = lent-piece keys m ends c.requires.flat c.deref_mut.ensures.value c.of.result told k c.requires.node s e c.bounds-start.ensures.start c.bounds-start.ensures.end in
    ap is_distinct piece ∙ c.requires.once

pub turn_round-requires-clause-written : goal.turn_round-requires-clause-written
turn_round-requires-clause-written c =
    let keys = c.args.keys.now.items in
    let m = c.deref_mut.result.now in
    let ends = c.args.ends.now in
    let k = c.args.k in
    let s = c.bounds-start.result.0 in
    let e = c.bounds-start.result.1 in
    let told : c.of.result ≡ lists_in keys ends = c.of.ensures ∙ ap (λ (z : List ℕ). lists_in z ends) c.as_slice.ensures.value in
    let piece : take (e - s) (drop s m) ≡ slice_index_or (lists_in keys ends) k [] = lent-piece keys m ends c.requires.flat c.deref_mut.ensures.value c.of.result told k c.requires.node s e c.bounds-start.ensures.start c.bounds-start.ensures.end in
    ap from_least piece ∙ c.requires.written ∙ sym piece

pub returns-clause-flat : goal.returns-clause-flat
returns-clause-flat c =
    let keys = c.args.keys.now.items in
    let m = c.deref_mut.result.now in
    let ends = c.args.ends.now in
    let k = c.args.k in
    let s = c.bounds-start.result.0 in
    let e = c.bounds-start.result.1 in
    let told : c.of.result ≡ lists_in keys ends = c.of.ensures ∙ ap (λ (z : List ℕ). lists_in z ends) c.as_slice.ensures.value in
    let piece : take (e - s) (drop s m) ≡ slice_index_or (lists_in keys ends) k [] = lent-piece keys m ends c.requires.flat c.deref_mut.ensures.value c.of.result told k c.requires.node s e c.bounds-start.ensures.start c.bounds-start.ensures.end in
    let y = c.turn_round.new.keys in
    let is : y ≡ turned_choice (slice_index_or (lists_in keys ends) k []) = c.turn_round.ensures ∙ ap (λ (z : List ℕ). turned_choice z) piece in
    let same : length y ≡ length (slice_index_or (lists_in keys ends) k []) = ap length is ∙ turned-length (slice_index_or (lists_in keys ends) k []) in
    let x = take s m ++ (y ++ drop (e - s) (drop s m)) in
    let w = with_items_is c.args.keys.now x (lent-length keys m ends c.requires.flat c.deref_mut.ensures.value c.of.result told k c.requires.node s e c.bounds-start.ensures.start c.bounds-start.ensures.end y same ∙ c.deref_mut.ensures.len) in
    lent-again keys m ends c.requires.flat c.deref_mut.ensures.value c.of.result told k c.requires.node s e c.bounds-start.ensures.start c.bounds-start.ensures.end y same _ w

pub returns-clause-turned : goal.returns-clause-turned
returns-clause-turned c =
    let keys = c.args.keys.now.items in
    let m = c.deref_mut.result.now in
    let ends = c.args.ends.now in
    let k = c.args.k in
    let s = c.bounds-start.result.0 in
    let e = c.bounds-start.result.1 in
    let told : c.of.result ≡ lists_in keys ends = c.of.ensures ∙ ap (λ (z : List ℕ). lists_in z ends) c.as_slice.ensures.value in
    let piece : take (e - s) (drop s m) ≡ slice_index_or (lists_in keys ends) k [] = lent-piece keys m ends c.requires.flat c.deref_mut.ensures.value c.of.result told k c.requires.node s e c.bounds-start.ensures.start c.bounds-start.ensures.end in
    let y = c.turn_round.new.keys in
    let is : y ≡ turned_choice (slice_index_or (lists_in keys ends) k []) = c.turn_round.ensures ∙ ap (λ (z : List ℕ). turned_choice z) piece in
    let same : length y ≡ length (slice_index_or (lists_in keys ends) k []) = ap length is ∙ turned-length (slice_index_or (lists_in keys ends) k []) in
    let x = take s m ++ (y ++ drop (e - s) (drop s m)) in
    let w = with_items_is c.args.keys.now x (lent-length keys m ends c.requires.flat c.deref_mut.ensures.value c.of.result told k c.requires.node s e c.bounds-start.ensures.start c.bounds-start.ensures.end y same ∙ c.deref_mut.ensures.len) in
    lent-put keys m ends c.requires.flat c.deref_mut.ensures.value c.of.result told k c.requires.node s e c.bounds-start.ensures.start c.bounds-start.ensures.end y same _ w ∙ ap (slice_set (lists_in keys ends) k) is
