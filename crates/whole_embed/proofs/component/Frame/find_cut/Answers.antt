use Rattle.std.proofs.Common.{subst, ◌≡◌, true, false, List, ℕ, Ok, Err}
use Rattle.std.specs.List.Sorted.{IsBinarySearchResult}
use Rattle.std.specs.Ordering.{nat_cmp}
use Rattle.permutations.specs.Members.{is_member, place_of}
use Rattle.whole_embed.proofs.Searching.{found-place, missed-place}
use Rattle.whole_embed.proofs.component.Frame.find_cut.Goals as goal

-- the search found the vertex
pub returns-in-Ok : goal.returns-in-Ok
returns-in-Ok c =
    let e : c.self.inside.cuts.items ≡ c.args.self.now.cuts = cc in
    subst (λ (l : List ℕ). (is_member c.args.v l ≡ true) × (c.in-Ok.i ≡ place_of l c.args.v)) e
    (found-place c.self.inside.cuts.items c.args.v c.in-Ok.i c.self.invariant.cuts_rise (subst (λ (l : List ℕ). IsBinarySearchResult (λ y. nat_cmp y c.args.v) l (Ok c.in-Ok.i)) c.deref.ensures.value c.in-Ok.ensures.position))

-- it ended beside it
pub returns-in-Err : goal.returns-in-Err
returns-in-Err c =
    let e : c.self.inside.cuts.items ≡ c.args.self.now.cuts = cc in
    subst (λ (l : List ℕ). is_member c.args.v l ≡ false) e
    (missed-place c.self.inside.cuts.items c.args.v c.in-Err.field-0 c.self.invariant.cuts_rise (subst (λ (l : List ℕ). IsBinarySearchResult (λ y. nat_cmp y c.args.v) l (Err c.in-Err.field-0)) c.deref.ensures.value c.in-Err.ensures.position))
