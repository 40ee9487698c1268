use Rattle.std.proofs.Common.{ℕ, List, subst}
use Rattle.skel_embed.specs.Flat.{AreFlat}
use Rattle.skel_embed.proofs.Flat.{piece-of}
use Rattle.skel_embed.proofs.choices.Choices.at.Goals as goal

pub returns : goal.returns
returns c =
    let f : AreFlat c.args.self.now c.self.inside.keys.now c.self.inside.ends.now = subst (λ (z : List (List ℕ)). AreFlat z c.self.inside.keys.now c.self.inside.ends.now) c.self.view_is c.self.invariant in
    piece-of c.args.self.now c.self.inside.keys.now c.self.inside.ends.now f c.args.k c.requires c.bounds-start.result.0 c.bounds-start.result.1 c.bounds-start.ensures.start c.bounds-start.ensures.end
