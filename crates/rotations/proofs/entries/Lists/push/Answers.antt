use Rattle.std.proofs.Common.{◌≡◌, ◌∷◌, ◌++◌, [], ℕ, true, List, length, sym, ap, ap₂, ◌∙◌, subst, length-append, arith}
use Rattle.std.specs.List.{zip}
use Rattle.rotations.specs.Entries.{IsRising, IsAbove}
use Rattle.rotations.proofs.Rising.{rising-pushed}
use Rattle.rotations.proofs.Zipped.{zipped-more}
use Rattle.rotations.proofs.entries.Lists.push.Goals as goal

-- the entries rise as before, and the new one is above the last
pub invariant_of-self-2 : goal.invariant_of-self-2
invariant_of-self-2 c =
    let vertices = c.self.inside.vertices.items in
    let lists = c.self.inside.lists in
    let v = c.args.v in
    let list = c.args.edges.now in
    let first : c.push_reserved.new.self.items ≡ vertices ++ v ∷ [] = c.push_reserved.ensures.items ∙ ap (λ (vs : List ℕ). vs ++ v ∷ []) c.in_ok-reserve.ensures.items in
    let more : zip c.push_reserved.new.self.items c.push.new.self ≡ zip vertices lists ++ (v, list) ∷ [] = ap₂ (λ (vs : List ℕ) (ls : List (List ℕ)). zip vs ls) first c.in_ok-push.ensures ∙ zipped-more vertices lists v list c.self.invariant.1 in (
      subst IsRising (sym more) (rising-pushed true (zip vertices lists) v list c.self.invariant.0 (subst (λ (l : List (ℕ × List ℕ)). IsAbove l v) (sym c.self.view_is) c.requires)),
      omega (arith, ap length first, ap length c.in_ok-push.ensures, length-append vertices (v ∷ []), length-append lists (list ∷ []), c.self.invariant.1),
    )

pub returns : goal.returns
returns c =
    let vertices = c.self.inside.vertices.items in
    let lists = c.self.inside.lists in
    let v = c.args.v in
    let list = c.args.edges.now in
    let first : c.push_reserved.new.self.items ≡ vertices ++ v ∷ [] = c.push_reserved.ensures.items ∙ ap (λ (vs : List ℕ). vs ++ v ∷ []) c.in_ok-reserve.ensures.items in
    ap₂ (λ (vs : List ℕ) (ls : List (List ℕ)). zip vs ls) first c.in_ok-push.ensures ∙ zipped-more vertices lists v list c.self.invariant.1
    ∙ ap (λ (l : List (ℕ × List ℕ)). l ++ (v, list) ∷ []) c.self.view_is
