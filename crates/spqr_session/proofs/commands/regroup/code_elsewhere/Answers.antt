use Rattle.std.proofs.Common.{List, ℕ, IsPermutation, inl, inr, refl, sym, subst}
use Rattle.std.proofs.lemmas.Bool.{both_ways}
use Rattle.multigraph.specs.Part.{Rises}
use Rattle.multigraph.proofs.Incident.{incident-rises}
use Rattle.spqr_session.proofs.commands.regroup.code_elsewhere.Goals as goal

pub is_ordering-requires : goal.is_ordering-requires
is_ordering-requires c = subst Rises (sym c.incident.ensures.value) (λ i j l m. incident-rises c.args.graph.now c.args.v i j 0 l m)

pub returns-then-same : goal.returns-then-same
returns-then-same c = let is = c.in_ok-same.ensures {u = tt} in
    inr (subst (λ (l : List ℕ). IsPermutation l c.args.edges.now) c.incident.ensures.value (is.0 c.if-same.true), refl)

pub returns : goal.returns
returns c = let is = c.in_ok-same.ensures {u = tt} in
    inl (λ p. both_ways c.in_ok-same.same c.if-same.false (is.1 (subst (λ (l : List ℕ). IsPermutation l c.args.edges.now) (sym c.incident.ensures.value) p)), refl)
