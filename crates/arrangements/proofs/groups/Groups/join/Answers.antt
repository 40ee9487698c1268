use Rattle.std.proofs.Common.{◌≡◌, ◌+◌, ◌-◌, ◌<◌, ◌≤◌, ℕ, Bool, true, List, ◌++◌, length, take, drop, slice_index, slice_set, sym, ap, ◌∙◌, subst, arith}
use Rattle.std.proofs.lemmas.List.{take_at}
use Rattle.std.proofs.lemmas.Grind.{get_or_default_zero}
use Rattle.arrangements.specs.Groups.{AreGroups, is_noted}
use Rattle.arrangements.proofs.Grouped.{group-left, joined-alone, joined-with}
use Rattle.arrangements.proofs.groups.Groups.join.Goals as goal

-- its group is on top
pub returns-then-count-len-clause-hold : goal.returns-then-count-len-clause-hold
returns-then-count-len-clause-hold c =
    let a = c.args in let g = a.self.now in let count = c.begun_until-count.result in
    let first : c.index.result.now ≡ slice_index g.first.items (slice_index a.ranks.now a.i) =
    c.index.ensures ∙ get_or_default_zero g.first.items (slice_index a.ranks.now a.i) c.index.result.now (omega (arith, c.requires.below a.i c.requires.place, c.requires.room.first_each)) in
    let within : count ≤ length g.starts.items = subst (λ (l : List ℕ). count ≤ length l) c.deref.ensures.value c.begun_until-count.ensures.within in
    let later : (k : ℕ) → count ≤ k → k < length g.starts.items → slice_index g.first.items (slice_index a.ranks.now a.i) < slice_index g.starts.items k =
    subst (λ (p : List ℕ × ℕ). (k : ℕ) → count ≤ k → k < length p.0 → p.1 < slice_index p.0 k) (λ j. (c.deref.ensures.value j, first j)) c.begun_until-count.ensures.later in
    let top : (k : ℕ) → count ≡ k + 1 → slice_index g.starts.items k ≤ slice_index g.first.items (slice_index a.ranks.now a.i) =
    subst (λ (p : List ℕ × ℕ). (k : ℕ) → count ≡ k + 1 → slice_index p.0 k ≤ p.1) (λ j. (c.deref.ensures.value j, first j)) c.begun_until-count.ensures.top in
    joined-alone a.ranks.now g.first.items g.last.items g.starts.items g.ends.items g.noted.items a.i count c.requires.ends c.requires.place c.requires.hold c.requires.begun within later top (omega (arith, c.if-count-len.true, g.starts.ok.0))

-- a group is left
pub overflow_sub-count : goal.overflow_sub-count
overflow_sub-count c =
    let a = c.args in let g = a.self.now in let count = c.begun_until-count.result in
    let first : c.index.result.now ≡ slice_index g.first.items (slice_index a.ranks.now a.i) =
    c.index.ensures ∙ get_or_default_zero g.first.items (slice_index a.ranks.now a.i) c.index.result.now (omega (arith, c.requires.below a.i c.requires.place, c.requires.room.first_each)) in
    let within : count ≤ length g.starts.items = subst (λ (l : List ℕ). count ≤ length l) c.deref.ensures.value c.begun_until-count.ensures.within in
    let later : (k : ℕ) → count ≤ k → k < length g.starts.items → slice_index g.first.items (slice_index a.ranks.now a.i) < slice_index g.starts.items k =
    subst (λ (p : List ℕ × ℕ). (k : ℕ) → count ≤ k → k < length p.0 → p.1 < slice_index p.0 k) (λ j. (c.deref.ensures.value j, first j)) c.begun_until-count.ensures.later in
    let top : (k : ℕ) → count ≡ k + 1 → slice_index g.starts.items k ≤ slice_index g.first.items (slice_index a.ranks.now a.i) =
    subst (λ (p : List ℕ × ℕ). (k : ℕ) → count ≡ k + 1 → slice_index p.0 k ≤ p.1) (λ j. (c.deref.ensures.value j, first j)) c.begun_until-count.ensures.top in
    group-left a.ranks.now g.first.items g.last.items g.starts.items g.ends.items g.noted.items a.i count c.requires.ends c.requires.place c.requires.hold c.requires.begun within later top

pub overflow_sub-count-2 : goal.overflow_sub-count-2
overflow_sub-count-2 c =
    let a = c.args in let g = a.self.now in let count = c.begun_until-count.result in
    let first : c.index.result.now ≡ slice_index g.first.items (slice_index a.ranks.now a.i) =
    c.index.ensures ∙ get_or_default_zero g.first.items (slice_index a.ranks.now a.i) c.index.result.now (omega (arith, c.requires.below a.i c.requires.place, c.requires.room.first_each)) in
    let within : count ≤ length g.starts.items = subst (λ (l : List ℕ). count ≤ length l) c.deref.ensures.value c.begun_until-count.ensures.within in
    let later : (k : ℕ) → count ≤ k → k < length g.starts.items → slice_index g.first.items (slice_index a.ranks.now a.i) < slice_index g.starts.items k =
    subst (λ (p : List ℕ × ℕ). (k : ℕ) → count ≤ k → k < length p.0 → p.1 < slice_index p.0 k) (λ j. (c.deref.ensures.value j, first j)) c.begun_until-count.ensures.later in
    let top : (k : ℕ) → count ≡ k + 1 → slice_index g.starts.items k ≤ slice_index g.first.items (slice_index a.ranks.now a.i) =
    subst (λ (p : List ℕ × ℕ). (k : ℕ) → count ≡ k + 1 → slice_index p.0 k ≤ p.1) (λ j. (c.deref.ensures.value j, first j)) c.begun_until-count.ensures.top in
    group-left a.ranks.now g.first.items g.last.items g.starts.items g.ends.items g.noted.items a.i count c.requires.ends c.requires.place c.requires.hold c.requires.begun within later top

-- the groups above join its own
pub returns-clause-hold : goal.returns-clause-hold
returns-clause-hold c =
    let a = c.args in let g = a.self.now in let count = c.begun_until-count.result in
    let first : c.index.result.now ≡ slice_index g.first.items (slice_index a.ranks.now a.i) =
    c.index.ensures ∙ get_or_default_zero g.first.items (slice_index a.ranks.now a.i) c.index.result.now (omega (arith, c.requires.below a.i c.requires.place, c.requires.room.first_each)) in
    let within : count ≤ length g.starts.items = subst (λ (l : List ℕ). count ≤ length l) c.deref.ensures.value c.begun_until-count.ensures.within in
    let later : (k : ℕ) → count ≤ k → k < length g.starts.items → slice_index g.first.items (slice_index a.ranks.now a.i) < slice_index g.starts.items k =
    subst (λ (p : List ℕ × ℕ). (k : ℕ) → count ≤ k → k < length p.0 → p.1 < slice_index p.0 k) (λ j. (c.deref.ensures.value j, first j)) c.begun_until-count.ensures.later in
    let top : (k : ℕ) → count ≡ k + 1 → slice_index g.starts.items k ≤ slice_index g.first.items (slice_index a.ranks.now a.i) =
    subst (λ (p : List ℕ × ℕ). (k : ℕ) → count ≡ k + 1 → slice_index p.0 k ≤ p.1) (λ j. (c.deref.ensures.value j, first j)) c.begun_until-count.ensures.top in
    let rank = slice_index a.ranks.now a.i in let marks = c.note_starts.new.noted in let end = c.greatest_from-end.result in
    let size : length marks ≡ length g.noted.items = c.note_starts.ensures.size ∙ ap length c.deref_mut.ensures.value in
    let same : marks ≡ take g.noted.len (marks ++ drop (length marks) g.noted.items) = sym (take_at marks (drop (length marks) g.noted.items) g.noted.len (size ∙ sym g.noted.ok.0)) in
    subst (λ (p : List ℕ × List ℕ × List Bool). AreGroups a.ranks.now g.first.items g.last.items p.0 (slice_set p.1 (count - 1) end) (slice_set p.2 rank true) (a.i + 1))
    (λ j. (sym c.truncate.ensures.items j, sym c.truncate-2.ensures.items j, same j))
    (joined-with a.ranks.now g.first.items g.last.items g.starts.items g.ends.items g.noted.items a.i count c.requires.ends c.requires.place c.requires.hold c.requires.begun within later top end marks
    (omega (arith, c.if-count-len.false, within, g.starts.ok.0)) (omega (arith, size, c.requires.room.noted_each, c.requires.below a.i c.requires.place))
    (subst (λ (l : List ℕ). (k : ℕ) → count - 1 ≤ k → k < length l → slice_index l k ≤ end) c.deref-2.ensures.value c.greatest_from-end.ensures)
    (subst (λ (l : List ℕ). (k : ℕ) → count ≤ k → k < length l → is_noted marks (slice_index a.ranks.now (slice_index l k)) ≡ true) c.deref-3.ensures.value c.note_starts.ensures.noted)
    (subst (λ (l : List Bool). (r : ℕ) → is_noted l r ≡ true → is_noted marks r ≡ true) c.deref_mut.ensures.value c.note_starts.ensures.kept))
