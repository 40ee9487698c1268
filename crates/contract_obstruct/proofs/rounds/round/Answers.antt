use Rattle.std.proofs.Common.{◌≡◌, ◌<◌, ℕ, List, length, slice_index, sym, ap, ◌∙◌, subst, arith}
use Rattle.std.proofs.lemmas.Bool.{eqb-true, eqb-false}
use Rattle.permutations.specs.Cyclic.{first_or}
use Rattle.permutations.proofs.Places.{first-at}
use Rattle.multigraph.specs.Graph.{Multigraph, edge_count, incident_edges}
use Rattle.multigraph.proofs.Incident.{incident_at-edge}
use Rattle.permutations.specs.Ring.{turns}
use Rattle.faces.specs.Euler.{dart_from}
use Rattle.faces.proofs.DartLemmas.{dart_from-below}
use Rattle.contract_obstruct.proofs.Orders.{steps-in}
use Rattle.contract_obstruct.proofs.Orders.{turns-order, order-none}
use Rattle.contract_obstruct.proofs.rounds.round.Goals as goal

-- the first edge at a vertex that has one
first-in : (g : Multigraph) (v : ℕ) (l : List ℕ) → l ≡ incident_edges g v → (length l ≡ 0 → ⊥) → slice_index l 0 < edge_count g
first-in g v l e n = subst (λ (k : List ℕ). slice_index k 0 < edge_count g) (sym e) (incident_at-edge g v 0 0 (subst (λ (k : List ℕ). 0 < length k) e (omega (arith, n))))

pub returns-then-is_empty : goal.returns-then-is_empty
returns-then-is_empty c = λ s a. c.new.ensures.items ∙ sym (order-none c.args.g.now s c.args.next.now a c.args.v c.requires.vertex
    (ap length (sym c.incident-incident.ensures.value) ∙ eqb-true (length c.incident-incident.result.now) 0 (sym c.is_empty.ensures ∙ c.if-is_empty.true)))

pub dart_from-requires : goal.dart_from-requires
dart_from-requires c = first-in c.args.g.now c.args.v c.incident-incident.result.now c.incident-incident.ensures.value (eqb-false (length c.incident-incident.result.now) 0 (sym c.is_empty.ensures ∙ c.if-is_empty.false))

pub turns-requires-clause-start : goal.turns-requires-clause-start
turns-requires-clause-start c = subst (λ z. z < length c.args.next.now) (sym c.dart_from.ensures) (subst (λ n. dart_from c.args.g.now c.args.v (slice_index c.incident-incident.result.now 0) < n) (sym c.requires.steps.are_steps.each)
    (dart_from-below c.args.g.now c.args.v (slice_index c.incident-incident.result.now 0)
    (first-in c.args.g.now c.args.v c.incident-incident.result.now c.incident-incident.ensures.value (eqb-false (length c.incident-incident.result.now) 0 (sym c.is_empty.ensures ∙ c.if-is_empty.false)))))

pub turns-requires-clause-within : goal.turns-requires-clause-within
turns-requires-clause-within c = subst (λ n. (d : ℕ) → d < n → slice_index c.args.next.now d < n) (sym c.requires.steps.are_steps.each)
    (steps-in c.args.g.now c.incident-incident.ensures.graph c.requires.steps.system c.args.next.now c.requires.steps.are_steps)

pub returns : goal.returns
returns c = λ s a. c.in_ok-edges.ensures
    ∙ (ap (λ d. turns c.args.next.now d c.degree.result) (c.dart_from.ensures ∙ ap (dart_from c.args.g.now c.args.v) (ap (λ (l : List ℕ). slice_index l 0) c.incident-incident.ensures.value ∙ first-at (incident_edges c.args.g.now c.args.v)))
    ∙ (ap (turns c.args.next.now (dart_from c.args.g.now c.args.v (first_or 0 (incident_edges c.args.g.now c.args.v)))) c.degree.ensures
    ∙ turns-order c.args.g.now s c.args.next.now a c.args.v c.requires.vertex))
