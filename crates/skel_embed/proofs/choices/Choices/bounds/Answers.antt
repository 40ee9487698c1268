use Rattle.std.proofs.Common.{◌∙◌, ℕ, List, length, ap, subst, arith}
use Rattle.skel_embed.specs.Flat.{AreFlat}
use Rattle.skel_embed.proofs.Flat.{ends-count, end-is, start-within, start-grows}
use Rattle.skel_embed.proofs.choices.Choices.bounds.Goals as goal

pub end_at-requires : goal.end_at-requires
end_at-requires c =
    let lists = c.args.self.now in
    let keys = c.self.inside.keys.now in
    let ends = c.self.inside.ends.now in
    let f : AreFlat lists keys ends = subst (λ (z : List (List ℕ)). AreFlat z c.self.inside.keys.now c.self.inside.ends.now) c.self.view_is c.self.invariant in
    omega (arith, ends-count lists keys ends f, c.requires)

pub returns-clause-end : goal.returns-clause-end
returns-clause-end c =
    let lists = c.args.self.now in
    let keys = c.self.inside.keys.now in
    let ends = c.self.inside.ends.now in
    let f : AreFlat lists keys ends = subst (λ (z : List (List ℕ)). AreFlat z c.self.inside.keys.now c.self.inside.ends.now) c.self.view_is c.self.invariant in
    c.end_at.ensures ∙ end-is lists keys ends f c.args.k c.requires

pub returns-clause-order : goal.returns-clause-order
returns-clause-order c =
    let lists = c.args.self.now in
    let keys = c.self.inside.keys.now in
    let ends = c.self.inside.ends.now in
    let f : AreFlat lists keys ends = subst (λ (z : List (List ℕ)). AreFlat z c.self.inside.keys.now c.self.inside.ends.now) c.self.view_is c.self.invariant in
    omega (arith, c.start.ensures, c.end_at.ensures, end-is lists keys ends f c.args.k c.requires, start-grows lists keys ends f c.args.k c.requires)

pub returns-clause-within : goal.returns-clause-within
returns-clause-within c =
    let lists = c.args.self.now in
    let keys = c.self.inside.keys.now in
    let ends = c.self.inside.ends.now in
    let f : AreFlat lists keys ends = subst (λ (z : List (List ℕ)). AreFlat z c.self.inside.keys.now c.self.inside.ends.now) c.self.view_is c.self.invariant in
    omega (arith, c.end_at.ensures, end-is lists keys ends f c.args.k c.requires, start-within lists keys ends f c.args.k c.requires, ap length f.keys_are)
