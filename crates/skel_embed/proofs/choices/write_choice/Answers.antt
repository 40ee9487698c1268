use Rattle.std.proofs.Common.{◌≡◌, ℕ, ◌-◌, List, [], ◌++◌, length, take, drop, slice_index_or, slice_set, sym, ap, ◌∙◌}
use Rattle.std.proofs.lemmas.List.{length-map, with_items_is}
use Rattle.skel_embed.specs.Flat.{lists_in}
use Rattle.skel_embed.proofs.Flat.{lent-piece, lent-length, lent-again, lent-put}
use Rattle.skeletons.specs.Items.{item_key}
use Rattle.skel_embed.proofs.choices.write_choice.Goals as goal

pub write_keys-requires : goal.write_keys-requires
write_keys-requires c =
    let keys = c.args.keys.now.items in
    let m = c.deref_mut.result.now in
    let ends = c.args.ends.now in
    let k = c.args.k in
    let s = c.bounds-start.result.0 in
    let e = c.bounds-start.result.1 in
    let told : c.of.result ≡ lists_in keys ends = c.of.ensures ∙ ap (λ (z : List ℕ). lists_in z ends) c.as_slice.ensures.value in
    let piece : take (e - s) (drop s m) ≡ slice_index_or (lists_in keys ends) k [] = lent-piece keys m ends c.requires.flat c.deref_mut.ensures.value c.of.result told k c.requires.node s e c.bounds-start.ensures.start c.bounds-start.ensures.end in
    ap length piece ∙ c.requires.number

pub returns-clause-flat : goal.returns-clause-flat
returns-clause-flat c =
    let keys = c.args.keys.now.items in
    let m = c.deref_mut.result.now in
    let ends = c.args.ends.now in
    let k = c.args.k in
    let s = c.bounds-start.result.0 in
    let e = c.bounds-start.result.1 in
    let told : c.of.result ≡ lists_in keys ends = c.of.ensures ∙ ap (λ (z : List ℕ). lists_in z ends) c.as_slice.ensures.value in
    let y = c.write_keys.new.keys in
    let same : length y ≡ length (slice_index_or (lists_in keys ends) k []) = ap length c.write_keys.ensures ∙ length-map c.args.items.now item_key ∙ sym c.requires.number in
    let x = take s m ++ (y ++ drop (e - s) (drop s m)) in
    let w = with_items_is c.args.keys.now x (lent-length keys m ends c.requires.flat c.deref_mut.ensures.value c.of.result told k c.requires.node s e c.bounds-start.ensures.start c.bounds-start.ensures.end y same ∙ c.deref_mut.ensures.len) in
    lent-again keys m ends c.requires.flat c.deref_mut.ensures.value c.of.result told k c.requires.node s e c.bounds-start.ensures.start c.bounds-start.ensures.end y same _ w

pub returns-clause-written : goal.returns-clause-written
returns-clause-written c =
    let keys = c.args.keys.now.items in
    let m = c.deref_mut.result.now in
    let ends = c.args.ends.now in
    let k = c.args.k in
    let s = c.bounds-start.result.0 in
    let e = c.bounds-start.result.1 in
    let told : c.of.result ≡ lists_in keys ends = c.of.ensures ∙ ap (λ (z : List ℕ). lists_in z ends) c.as_slice.ensures.value in
    let y = c.write_keys.new.keys in
    let same : length y ≡ length (slice_index_or (lists_in keys ends) k []) = ap length c.write_keys.ensures ∙ length-map c.args.items.now item_key ∙ sym c.requires.number in
    let x = take s m ++ (y ++ drop (e - s) (drop s m)) in
    let w = with_items_is c.args.keys.now x (lent-length keys m ends c.requires.flat c.deref_mut.ensures.value c.of.result told k c.requires.node s e c.bounds-start.ensures.start c.bounds-start.ensures.end y same ∙ c.deref_mut.ensures.len) in
    lent-put keys m ends c.requires.flat c.deref_mut.ensures.value c.of.result told k c.requires.node s e c.bounds-start.ensures.start c.bounds-start.ensures.end y same _ w ∙ ap (slice_set (lists_in keys ends) k) c.write_keys.ensures
