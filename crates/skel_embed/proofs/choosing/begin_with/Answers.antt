use Rattle.std.proofs.Common.{ℕ, List, ◌∙◌, subst}
use Rattle.skel_embed.specs.Exchanges.{StandsAt}
use Rattle.skel_embed.proofs.KeptLists.{turned-at}
use Rattle.skel_embed.proofs.choosing.begin_with.Goals as goal

pub returns : goal.returns
returns c = c.rotate_left.ensures.items ∙ turned-at c.args.keys.now.items c.place_of.result c.args.first
    (subst (λ (z : List ℕ). StandsAt z c.place_of.result c.args.first) c.deref.ensures.value c.place_of.ensures)
