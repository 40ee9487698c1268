use Rattle.std.proofs.Common.{◌≡◌, ◌+◌, ◌++◌, [], ◌∷◌, ℕ, List, slice_index, sym, ap, ◌∙◌, subst, arith}
use Rattle.std.proofs.lemmas.Grind.{get_or_default_zero}
use Rattle.arrangements.specs.Groups.{AreGroups}
use Rattle.arrangements.proofs.Grouped.{groups-opened}
use Rattle.arrangements.proofs.groups.Groups.open.Goals as goal

-- the new group is on top
pub returns-clause-hold : goal.returns-clause-hold
returns-clause-hold c =
    let a = c.args in let g = a.self.now in
    let last : slice_index g.last.items (slice_index a.ranks.now a.i) ≡ c.index.result.now =
    sym (c.index.ensures ∙ get_or_default_zero g.last.items (slice_index a.ranks.now a.i) c.index.result.now (omega (arith, c.requires.below, c.requires.room.last_each))) in
    subst (λ (z : List ℕ). AreGroups a.ranks.now g.first.items g.last.items z c.push_reserved-2.new.self.items g.noted.items (a.i + 1)) (sym c.push_reserved.ensures.items)
    (subst (λ (z : List ℕ). AreGroups a.ranks.now g.first.items g.last.items (g.starts.items ++ a.i ∷ []) z g.noted.items (a.i + 1)) (ap (λ (z : ℕ). g.ends.items ++ z ∷ []) last ∙ sym c.push_reserved-2.ensures.items)
    (groups-opened a.ranks.now g.first.items g.last.items g.starts.items g.ends.items g.noted.items a.i c.requires.ends c.requires.place c.requires.hold c.requires.begins))
