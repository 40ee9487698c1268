-- The two nodes of each edge leave its two ends, in whatever graph the cyclic orders are a rotation system of.
use Rattle.std.proofs.Common.{◌≡◌, ◌≢◌, ℕ, ◌+◌, ◌-◌, ◌*◌, ◌/◌, ◌<◌, ◌⊎◌, true, List, length, get_or, sym, ap, ◌∙◌, subst, inl, inr, arith}
use Rattle.std.proofs.lemmas.Bool.{cases_lt}
use Rattle.permutations.specs.Members.{is_member}
use Rattle.permutations.proofs.Arrangements.{contains-from_member}
use Rattle.multigraph.specs.Graph.{Multigraph, IsGraph, edge_count, ends_of, incident_edges}
use Rattle.multigraph.proofs.OtherEnd.{is_end-first, is_end-second}
use Rattle.rotations.specs.Rotation.{order_at, IsRotationSystem}
use Rattle.rotations.specs.Rings.{dart_at, LeaveEnds}
use Rattle.rotations.proofs.Membership.{incident-member, member-edge}
use Rattle.rotations.proofs.Arrangements.{permutation-member, permutation-member_back}
use Rattle.rotations.proofs.Darts.{dart-cases}
use Rattle.rotations.proofs.Steps.{order-vertex}

module _ (g : Multigraph) (r : List (List ℕ)) (tails : List ℕ) (ok : IsGraph g) (s : IsRotationSystem g r)
    (there : (v e : ℕ) → is_member e (order_at r v) ≡ true → 2 * e + 1 < length tails)
    (leaves : (v e : ℕ) → is_member e (order_at r v) ≡ true → get_or tails (dart_at tails v e) 0 ≡ v)
    (each : (d : ℕ) → d < length tails → is_member (d / 2) (order_at r (get_or tails d 0)) ≡ true) where
  -- an edge stands round both its ends
  first-round : (e : ℕ) → e < edge_count g → is_member e (order_at r (ends_of g e).0) ≡ true
  first-round e l = permutation-member (incident_edges g (ends_of g e).0) (order_at r (ends_of g e).0) e (s.orders (ends_of g e).0 (ok.first_in e l)).arranged
      (incident-member g (ends_of g e).0 e l (is_end-first g e))

  second-round : (e : ℕ) → e < edge_count g → is_member e (order_at r (ends_of g e).1) ≡ true
  second-round e l = permutation-member (incident_edges g (ends_of g e).1) (order_at r (ends_of g e).1) e (s.orders (ends_of g e).1 (ok.second_in e l)).arranged
      (incident-member g (ends_of g e).1 e l (is_end-second g e))

  -- what stands round a vertex is an edge
  round-edge : (v e : ℕ) → is_member e (order_at r v) ≡ true → e < edge_count g
  round-edge v e m =
      let within : v < g.vertex_count = subst (λ (n : ℕ). v < n) s.vertices (order-vertex r v e (contains-from_member (order_at r v) e m)) in
      member-edge g v e (permutation-member_back (incident_edges g v) (order_at r v) e (s.orders v within).arranged m)

  -- the node that leaves the first end is one of the two, and the other one leaves the second
  apart : (e a b : ℕ) → a ≢ b → get_or tails (dart_at tails a e) 0 ≡ a → get_or tails (dart_at tails b e) 0 ≡ b
      → ((get_or tails (2 * e) 0 ≡ a) × (get_or tails (2 * e + 1) 0 ≡ b)) ⊎ ((get_or tails (2 * e) 0 ≡ b) × (get_or tails (2 * e + 1) 0 ≡ a))
  apart e a b other at_a at_b = elim (dart-cases tails a e) [
    | inl c ↦ elim (dart-cases tails b e) [
      | inl d ↦ absurd (other (sym c.1 ∙ d.1))
      | inr d ↦ inl (c.1, sym (ap (λ (k : ℕ). get_or tails k 0) d.0) ∙ at_b)
    ]
    | inr c ↦ elim (dart-cases tails b e) [
      | inl d ↦ inr (d.1, sym (ap (λ (k : ℕ). get_or tails k 0) c.0) ∙ at_a)
      | inr d ↦ absurd (other (sym at_a ∙ ap (λ (k : ℕ). get_or tails k 0) (c.0 ∙ sym d.0) ∙ at_b))
    ]
  ]

  -- as many nodes as twice the edges
  many : length tails ≡ 2 * edge_count g
  many = elim (cases_lt (2 * edge_count g) (length tails)) [
    | inl more ↦ absurd (omega (arith, more, round-edge (get_or tails (2 * edge_count g) 0) (2 * edge_count g / 2) (each (2 * edge_count g) more)))
    | inr few ↦ elim (cases_lt 0 (edge_count g)) [
      | inl some ↦
          let last : ℕ = edge_count g - 1 in
          let l : last < edge_count g = omega (arith, some) in
          omega (arith, few, some, there (ends_of g last).0 last (first-round last l))
      | inr none ↦ omega (arith, few, none)
    ]
  ]

  pub leave-ends : LeaveEnds g tails
  leave-ends = record {
    count = many;
    ends = λ e l. apart e (ends_of g e).0 (ends_of g e).1 (ok.no_loop e l) (leaves (ends_of g e).0 e (first-round e l)) (leaves (ends_of g e).1 e (second-round e l));
  }
