use Rattle.std.proofs.Common.{subst, ◌≡◌, true, false, List, ℕ, Ok, Err}
use Rattle.std.specs.List.Sorted.{IsBinarySearchResult}
use Rattle.std.specs.Ordering.{nat_cmp}
use Rattle.permutations.specs.Members.{is_member, place_of}
use Rattle.arrangements.proofs.Noted.{place-is, place-missed}
use Rattle.arrangements.proofs.tables.Tables.find.Goals as goal

-- the search found the edge
pub returns-in-Ok : goal.returns-in-Ok
returns-in-Ok c =
    let e : c.self.inside.edges.items ≡ c.args.self.now.edges = cc in
    subst (λ (l : List ℕ). (is_member c.args.edge l ≡ true) × (c.in-Ok.place ≡ place_of l c.args.edge)) e
    (place-is c.self.inside.edges.items c.args.edge c.in-Ok.place c.self.invariant.rise (subst (λ (l : List ℕ). IsBinarySearchResult (λ y. nat_cmp y c.args.edge) l (Ok c.in-Ok.place)) c.deref.ensures.value c.in-Ok.ensures.position))

-- it ended beside it
pub returns-in-Err : goal.returns-in-Err
returns-in-Err c =
    let e : c.self.inside.edges.items ≡ c.args.self.now.edges = cc in
    subst (λ (l : List ℕ). is_member c.args.edge l ≡ false) e
    (place-missed c.self.inside.edges.items c.args.edge c.in-Err.field-0 c.self.invariant.rise (subst (λ (l : List ℕ). IsBinarySearchResult (λ y. nat_cmp y c.args.edge) l (Err c.in-Err.field-0)) c.deref.ensures.value c.in-Err.ensures.position))
