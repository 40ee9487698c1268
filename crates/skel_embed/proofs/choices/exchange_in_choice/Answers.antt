use Rattle.std.proofs.Common.{◌≡◌, ℕ, ◌-◌, List, [], ◌++◌, length, take, drop, slice_index_or, slice_set, sym, ap, ◌∙◌}
use Rattle.std.proofs.lemmas.List.{with_items_is}
use Rattle.permutations.specs.Cyclic.{from_least}
use Rattle.permutations.specs.Members.{is_member, is_distinct}
use Rattle.skel_embed.specs.Exchanges.{exchanged}
use Rattle.skel_embed.specs.Flat.{lists_in}
use Rattle.skel_embed.proofs.Flat.{lent-piece, lent-length, lent-again, lent-put}
use Rattle.skel_embed.proofs.KeptLists.{exchanged-length}
use Rattle.skel_embed.proofs.choices.exchange_in_choice.Goals as goal

pub exchange-requires-clause-once : goal.exchange-requires-clause-once
exchange-requires-clause-once c =
    let keys = c.args.keys.now.items in
    let m = c.deref_mut.result.now in
    let ends = c.args.ends.now in
    let k = c.args.k in
    let s = c.bounds-start.result.0 in
    let e = c.bounds-start.result.1 in
    let told : c.of.result ≡ lists_in keys ends = c.of.ensures ∙ ap (λ (z : List ℕ). lists_in z ends) c.as_slice.ensures.value in
    let piece : take (e - s) (drop s m) ≡ slice_index_or (lists_in keys ends) k [] = lent-piece keys m ends c.requires.flat c.deref_mut.ensures.value c.of.result told k c.requires.node s e c.bounds-start.ensures.start c.bounds-start.ensures.end in
    ap is_distinct piece ∙ c.requires.once

pub exchange-requires-clause-written : goal.exchange-requires-clause-written
exchange-requires-clause-written c =
    let keys = c.args.keys.now.items in
    let m = c.deref_mut.result.now in
    let ends = c.args.ends.now in
    let k = c.args.k in
    let s = c.bounds-start.result.0 in
    let e = c.bounds-start.result.1 in
    let told : c.of.result ≡ lists_in keys ends = c.of.ensures ∙ ap (λ (z : List ℕ). lists_in z ends) c.as_slice.ensures.value in
    let piece : take (e - s) (drop s m) ≡ slice_index_or (lists_in keys ends) k [] = lent-piece keys m ends c.requires.flat c.deref_mut.ensures.value c.of.result told k c.requires.node s e c.bounds-start.ensures.start c.bounds-start.ensures.end in
    ap from_least piece ∙ c.requires.written ∙ sym piece

pub exchange-requires-clause-first : goal.exchange-requires-clause-first
exchange-requires-clause-first c =
    let keys = c.args.keys.now.items in
    let m = c.deref_mut.result.now in
    let ends = c.args.ends.now in
    let k = c.args.k in
    let s = c.bounds-start.result.0 in
    let e = c.bounds-start.result.1 in
    let told : c.of.result ≡ lists_in keys ends = c.of.ensures ∙ ap (λ (z : List ℕ). lists_in z ends) c.as_slice.ensures.value in
    let piece : take (e - s) (drop s m) ≡ slice_index_or (lists_in keys ends) k [] = lent-piece keys m ends c.requires.flat c.deref_mut.ensures.value c.of.result told k c.requires.node s e c.bounds-start.ensures.start c.bounds-start.ensures.end in
    ap (is_member c.args.a) piece ∙ c.requires.first

pub exchange-requires-clause-second : goal.exchange-requires-clause-second
exchange-requires-clause-second c =
    let keys = c.args.keys.now.items in
    let m = c.deref_mut.result.now in
    let ends = c.args.ends.now in
    let k = c.args.k in
    let s = c.bounds-start.result.0 in
    let e = c.bounds-start.result.1 in
    let told : c.of.result ≡ lists_in keys ends = c.of.ensures ∙ ap (λ (z : List ℕ). lists_in z ends) c.as_slice.ensures.value in
    let piece : take (e - s) (drop s m) ≡ slice_index_or (lists_in keys ends) k [] = lent-piece keys m ends c.requires.flat c.deref_mut.ensures.value c.of.result told k c.requires.node s e c.bounds-start.ensures.start c.bounds-start.ensures.end in
    ap (is_member c.args.b) piece ∙ c.requires.second

pub returns-clause-flat : goal.returns-clause-flat
returns-clause-flat c =
    let keys = c.args.keys.now.items in
    let m = c.deref_mut.result.now in
    let ends = c.args.ends.now in
    let k = c.args.k in
    let s = c.bounds-start.result.0 in
    let e = c.bounds-start.result.1 in
    let told : c.of.result ≡ lists_in keys ends = c.of.ensures ∙ ap (λ (z : List ℕ). lists_in z ends) c.as_slice.ensures.value in
    let piece : take (e - s) (drop s m) ≡ slice_index_or (lists_in keys ends) k [] = lent-piece keys m ends c.requires.flat c.deref_mut.ensures.value c.of.result told k c.requires.node s e c.bounds-start.ensures.start c.bounds-start.ensures.end in
    let y = c.exchange.new.keys in
    let is : y ≡ from_least (exchanged c.args.a c.args.b (slice_index_or (lists_in keys ends) k [])) = c.exchange.ensures ∙ ap (λ (z : List ℕ). from_least (exchanged c.args.a c.args.b z)) piece in
    let same : length y ≡ length (slice_index_or (lists_in keys ends) k []) = ap length is ∙ exchanged-length c.args.a c.args.b (slice_index_or (lists_in keys ends) k []) in
    let x = take s m ++ (y ++ drop (e - s) (drop s m)) in
    let w = with_items_is c.args.keys.now x (lent-length keys m ends c.requires.flat c.deref_mut.ensures.value c.of.result told k c.requires.node s e c.bounds-start.ensures.start c.bounds-start.ensures.end y same ∙ c.deref_mut.ensures.len) in
    lent-again keys m ends c.requires.flat c.deref_mut.ensures.value c.of.result told k c.requires.node s e c.bounds-start.ensures.start c.bounds-start.ensures.end y same _ w

pub returns-clause-exchanged : goal.returns-clause-exchanged
returns-clause-exchanged c =
    let keys = c.args.keys.now.items in
    let m = c.deref_mut.result.now in
    let ends = c.args.ends.now in
    let k = c.args.k in
    let s = c.bounds-start.result.0 in
    let e = c.bounds-start.result.1 in
    let told : c.of.result ≡ lists_in keys ends = c.of.ensures ∙ ap (λ (z : List ℕ). lists_in z ends) c.as_slice.ensures.value in
    let piece : take (e - s) (drop s m) ≡ slice_index_or (lists_in keys ends) k [] = lent-piece keys m ends c.requires.flat c.deref_mut.ensures.value c.of.result told k c.requires.node s e c.bounds-start.ensures.start c.bounds-start.ensures.end in
    let y = c.exchange.new.keys in
    let is : y ≡ from_least (exchanged c.args.a c.args.b (slice_index_or (lists_in keys ends) k [])) = c.exchange.ensures ∙ ap (λ (z : List ℕ). from_least (exchanged c.args.a c.args.b z)) piece in
    let same : length y ≡ length (slice_index_or (lists_in keys ends) k []) = ap length is ∙ exchanged-length c.args.a c.args.b (slice_index_or (lists_in keys ends) k []) in
    let x = take s m ++ (y ++ drop (e - s) (drop s m)) in
    let w = with_items_is c.args.keys.now x (lent-length keys m ends c.requires.flat c.deref_mut.ensures.value c.of.result told k c.requires.node s e c.bounds-start.ensures.start c.bounds-start.ensures.end y same ∙ c.deref_mut.ensures.len) in
    lent-put keys m ends c.requires.flat c.deref_mut.ensures.value c.of.result told k c.requires.node s e c.bounds-start.ensures.start c.bounds-start.ensures.end y same _ w ∙ ap (slice_set (lists_in keys ends) k) is
