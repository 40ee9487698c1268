use Rattle.std.proofs.Common.{◌∙◌, ◌++◌, ◌∷◌, ℕ, List, [], map, take, slice_index_or, sym, ap, arith}
use Rattle.std.proofs.lemmas.List.{map-append, take_all, take_more}
use Rattle.permutations.specs.Members.{place_of}
use Rattle.permutations.proofs.Arrangements.{member-at}
use Rattle.skeletons.specs.Items.{item_key}
use Rattle.skel_embed.proofs.selecting.items_with.Goals as goal

pub loop-i-init : goal.loop-i-init
loop-i-init c = c.in_ok-numbers.ensures.items

pub item_with-requires-clause-held : goal.item_with-requires-clause-held
item_with-requires-clause-held c = c.requires.held (slice_index_or c.args.keys.now c.loop-i.i 0) (member-at c.args.keys.now c.loop-i.i 0 c.loop-i-test.true)

pub loop-i-preserved : goal.loop-i-preserved
loop-i-preserved c =
    let place = place_of (map item_key c.args.items.now) in
    let keys = c.args.keys.now in
    let i = c.loop-i.i in
    c.in_ok-push.ensures.items ∙ ap (λ (z : List ℕ). z ++ c.item_with.result ∷ []) c.loop-i.invariant ∙ ap (λ z. map place (take i keys) ++ z ∷ []) c.item_with.ensures
    ∙ sym (ap (map place) (take_more keys i 0 c.loop-i-test.true) ∙ map-append place (take i keys) (slice_index_or keys i 0 ∷ []))

pub returns : goal.returns
returns c = c.loop-i.invariant ∙ ap (map (place_of (map item_key c.args.items.now))) (take_all c.loop-i.i c.args.keys.now (omega (arith, c.loop-i-test.false)))
