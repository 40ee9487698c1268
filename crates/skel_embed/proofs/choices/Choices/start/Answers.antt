use Rattle.std.proofs.Common.{◌≡◌, ◌<◌, ℕ, ◌+◌, ◌-◌, List, length, ap, ◌∙◌, subst, arith}
use Rattle.skel_embed.specs.Flat.{start_at, AreFlat}
use Rattle.skel_embed.proofs.Flat.{ends-count, end-is}
use Rattle.skel_embed.proofs.choices.Choices.start.Goals as goal

pub end_at-requires : goal.end_at-requires
end_at-requires c =
    let lists = c.args.self.now in
    let keys = c.self.inside.keys.now in
    let ends = c.self.inside.ends.now in
    let f : AreFlat lists keys ends = subst (λ (z : List (List ℕ)). AreFlat z c.self.inside.keys.now c.self.inside.ends.now) c.self.view_is c.self.invariant in
    omega (arith, ends-count lists keys ends f, c.requires)

pub returns : goal.returns
returns c =
    let lists = c.args.self.now in
    let keys = c.self.inside.keys.now in
    let ends = c.self.inside.ends.now in
    let f : AreFlat lists keys ends = subst (λ (z : List (List ℕ)). AreFlat z c.self.inside.keys.now c.self.inside.ends.now) c.self.view_is c.self.invariant in
    let n : c.args.k - 1 < length lists = omega (arith, c.requires) in
    let p : (c.args.k - 1) + 1 ≡ c.args.k = omega (arith, c.if-k-eq0.false) in
    c.end_at.ensures ∙ end-is lists keys ends f (c.args.k - 1) n ∙ ap (start_at lists) p
