-- The dart of an edge at a vertex.
use Rattle.std.proofs.Common.{◌≡◌, ◌≢◌, ℕ, ◌+◌, ◌*◌, ◌/◌, ◌<◌, ◌⊎◌, true, eqb, List, get_or, sym, ap, ◌∙◌, inl, inr, arith}
use Rattle.std.proofs.lemmas.Bool.{cases_eq, eq-eqb, ne_eqb, cond-true, cond-false}
use Rattle.permutations.specs.Members.{is_member, is_distinct}
use Rattle.multigraph.specs.Graph.{Multigraph, incident_edges}
use Rattle.multigraph.proofs.OtherEnd.{is_end-cases}
use Rattle.rotations.specs.Rings.{dart_at, AreTails, StandRound}
use Rattle.rotations.proofs.Membership.{member-edge, member-end}

-- it is one of the two darts of its edge
pub dart-cases : (tails : List ℕ) (v e : ℕ) → ((dart_at tails v e ≡ 2 * e) × (get_or tails (2 * e) 0 ≡ v)) ⊎ ((dart_at tails v e ≡ 2 * e + 1) × (get_or tails (2 * e) 0 ≢ v))
dart-cases tails v e = elim (cases_eq (get_or tails (2 * e) 0) v) [
  | inl same ↦ inl (cond-true (eqb (get_or tails (2 * e) 0) v) (2 * e) (2 * e + 1) (eq-eqb (get_or tails (2 * e) 0) v same), same)
  | inr apart ↦ inr (cond-false (eqb (get_or tails (2 * e) 0) v) (2 * e) (2 * e + 1) (ne_eqb (get_or tails (2 * e) 0) v apart), apart)
]

-- its half is its edge
pub dart-edge : (tails : List ℕ) (v e : ℕ) → dart_at tails v e / 2 ≡ e
dart-edge tails v e = elim (dart-cases tails v e) [ inl c ↦ omega (arith, c.0) | inr c ↦ omega (arith, c.0) ]

-- it is below a bound that both darts of its edge are below
pub dart-in : (tails : List ℕ) (v e n : ℕ) → 2 * e + 1 < n → dart_at tails v e < n
dart-in tails v e n l = elim (dart-cases tails v e) [ inl c ↦ omega (arith, c.0) | inr c ↦ omega (arith, c.0) ]

-- edges with one dart are equal
pub dart-injective : (tails : List ℕ) (v e f : ℕ) → dart_at tails v e ≡ dart_at tails v f → e ≡ f
dart-injective tails v e f same = sym (dart-edge tails v e) ∙ (ap (λ (d : ℕ). d / 2) same ∙ dart-edge tails v f)

-- the dart of an edge at v leaves v
pub dart-tail : (g : Multigraph) (tails : List ℕ) (v e : ℕ) → AreTails g tails → is_member e (incident_edges g v) ≡ true → get_or tails (dart_at tails v e) 0 ≡ v
dart-tail g tails v e t m = elim (dart-cases tails v e) [
  | inl c ↦ ap (λ (d : ℕ). get_or tails d 0) c.0 ∙ c.1
  | inr c ↦ elim (is_end-cases g v e (member-end g v e m)) [
    | inl first ↦ absurd (c.1 (t.first e (member-edge g v e m) ∙ first))
    | inr second ↦ ap (λ (d : ℕ). get_or tails d 0) c.0 ∙ (t.second e (member-edge g v e m) ∙ second)
  ]
]

-- edges at v, each once, stand round v
pub stand_round : (g : Multigraph) (tails : List ℕ) (v : ℕ) (order : List ℕ) → AreTails g tails → is_distinct order ≡ true → ((e : ℕ) → is_member e order ≡ true → is_member e (incident_edges g v) ≡ true) → StandRound tails v order
stand_round g tails v order t once at_v = record {
  distinct = once;
  darts = λ e m. omega (arith, t.long, member-edge g v e (at_v e m));
  tail = λ e m. dart-tail g tails v e t (at_v e m);
}
