use Rattle.std.proofs.Common.{◌≡◌, ◌<◌, ℕ, false, List, refl, sym, ap, ◌∙◌, subst, length, take, get_or}
use Rattle.std.proofs.lemmas.Bool.{both_ways}
use Rattle.permutations.proofs.Places.{place-below, place-holds}
use Rattle.arrangements.specs.Options.{follower, is_option}
use Rattle.arrangements.proofs.Made.{built-next}
use Rattle.arrangements.proofs.Walked.{not-full}
use Rattle.arrangements.proofs.making.is_built.Goals as goal

-- a number is no edge
pub returns-in_default-clause-exact : goal.returns-in_default-clause-exact
returns-in_default-clause-exact c = λ block order a. (
  λ e. absurd (both_ways false refl e),
  λ f. absurd (not-full block order c.args.tables.now.edges c.args.list.now c.loop-i.i a.orders c.loop-i-test.true c.in_default.ensures f),
)

-- it is an edge
pub may_come-requires-clause-place : goal.may_come-requires-clause-place
may_come-requires-clause-place c =
    subst (λ (p : ℕ). p < length c.args.tables.now.edges) (sym c.in-Some.ensures.1) (place-below c.args.tables.now.edges (get_or c.args.list.now c.loop-i.i 0) c.in-Some.ensures.0)

-- which may not come
pub returns-then-not-may_come-clause-exact : goal.returns-then-not-may_come-clause-exact
returns-then-not-may_come-clause-exact c = λ block order a.
    let l : List ℕ = c.args.list.now in
    let edges : List ℕ = c.args.tables.now.edges in
    let here : get_or edges c.in-Some.place 0 ≡ get_or l c.loop-i.i 0 = ap (λ (p : ℕ). get_or edges p 0) c.in-Some.ensures.1 ∙ place-holds edges (get_or l c.loop-i.i 0) c.in-Some.ensures.0 in
    let w = c.may_come.ensures (take c.loop-i.i l) c.loop-i.invariant.noted block order a (c.loop-i.invariant.built block order a) in (
      λ e. absurd (both_ways false refl e),
      λ f. absurd (both_ways c.may_come.result c.if-not-may_come.true (w ∙ ap (is_option block (follower block order) edges (take c.loop-i.i l)) here ∙ f.built c.loop-i.i c.loop-i-test.true)),
    )

-- which may come
pub loop-i-preserved : goal.loop-i-preserved
loop-i-preserved c =
    let l : List ℕ = c.args.list.now in
    let edges : List ℕ = c.args.tables.now.edges in
    let here : get_or edges c.in-Some.place 0 ≡ get_or l c.loop-i.i 0 = ap (λ (p : ℕ). get_or edges p 0) c.in-Some.ensures.1 ∙ place-holds edges (get_or l c.loop-i.i 0) c.in-Some.ensures.0 in
    record {
      noted = c.lay.ensures.noted;
      built = λ block order a.
          let w = c.may_come.ensures (take c.loop-i.i l) c.loop-i.invariant.noted block order a (c.loop-i.invariant.built block order a) in
          built-next block (follower block order) edges l c.loop-i.i c.loop-i-test.true (c.loop-i.invariant.built block order a)
          (ap (is_option block (follower block order) edges (take c.loop-i.i l)) (sym here) ∙ sym w ∙ c.if-not-may_come.false);
    }
