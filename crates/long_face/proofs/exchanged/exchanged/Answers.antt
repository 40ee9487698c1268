use Rattle.std.proofs.Common.{◌≡◌, ℕ, true, List, slice_index_or, sym, ap, ◌∙◌, subst}
use Rattle.permutations.specs.Cyclic.{turned}
use Rattle.permutations.specs.Members.{is_member}
use Rattle.permutations.proofs.Places.{first-at}
use Rattle.skel_embed.specs.Exchanges.{exchanged, StandsAt}
use Rattle.skel_embed.proofs.KeptLists.{turned-at, exchanged-first, exchanged-least}
use Rattle.long_face.proofs.exchanged.exchanged.Goals as goal

pub place_of-place-requires : goal.place_of-place-requires
place_of-place-requires c = subst (λ (z : List ℕ). is_member (slice_index_or c.args.keys.now 0 0) z ≡ true) (sym (c.deref.ensures.value ∙ c.in_ok-copy.ensures {u = tt}))
    (exchanged-first c.args.a c.args.b c.args.keys.now c.requires.first c.requires.second)

pub returns : goal.returns
returns c =
    let keys = c.args.keys.now in
    let key = slice_index_or keys 0 0 in
    c.rotate_left.ensures.items
    ∙ turned-at c.in_ok-copy.copy.items c.place_of-place.result key (subst (λ (z : List ℕ). StandsAt z c.place_of-place.result key) c.deref.ensures.value c.place_of-place.ensures)
    ∙ ap (λ (z : List ℕ). turned z key) (c.in_ok-copy.ensures {u = tt}) ∙ ap (turned (exchanged c.args.a c.args.b keys)) (first-at keys)
    ∙ exchanged-least c.args.a c.args.b keys c.requires.written c.requires.first c.requires.second
