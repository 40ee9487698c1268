use Rattle.std.proofs.Common.{◌≡◌, ℕ, List, slice_index_or, ap, ◌∙◌}
use Rattle.permutations.specs.Cyclic.{first_or, turned}
use Rattle.permutations.specs.Members.{is_member}
use Rattle.permutations.proofs.Places.{first-at}
use Rattle.skel_embed.specs.Exchanges.{exchanged}
use Rattle.skel_embed.proofs.KeptLists.{exchanged-least, exchanged-first}
use Rattle.skel_embed.proofs.kept.exchange.Goals as goal

pub turn_to-requires : goal.turn_to-requires
turn_to-requires c =
    let old = c.args.keys.now in
    ap (is_member (slice_index_or old 0 0)) c.exchange_all.ensures ∙ exchanged-first c.args.a c.args.b old c.requires.first c.requires.second

pub returns : goal.returns
returns c =
    let old = c.args.keys.now in
    let least : slice_index_or old 0 0 ≡ first_or 0 old = first-at old in
    c.turn_to.ensures ∙ ap (λ (z : List ℕ). turned z (slice_index_or old 0 0)) c.exchange_all.ensures
    ∙ ap (turned (exchanged c.args.a c.args.b old)) least ∙ exchanged-least c.args.a c.args.b old c.requires.written c.requires.first c.requires.second
