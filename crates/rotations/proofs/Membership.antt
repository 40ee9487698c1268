-- Membership as a test and as a place, and the edges at a vertex by that test.
use Rattle.std.proofs.Common.{◌≡◌, ℕ, zero, suc, ◌<◌, Bool, true, false, cond, List, [], ◌∷◌, ◌++◌, refl, sym, ◌∙◌, subst, inl, inr, arith, get_or, ◌≤◌, length, ap}
use Rattle.std.specs.List.{filter, Contains}
use Rattle.std.proofs.lemmas.Bool.{cases_Bool, false_from_ne_true, cases_eq, true≢false}
use Rattle.permutations.specs.Members.{is_member, is_distinct}
use Rattle.permutations.specs.Cyclic.{first_or}
use Rattle.permutations.proofs.Members.{distinct-append, no_member-cons}
use Rattle.permutations.proofs.Arrangements.{contains-from_member, member-at}
use Rattle.permutations.proofs.Places.{place-of, first-at}
use Rattle.multigraph.specs.Graph.{Multigraph, edge_count, is_end, is_edge_at, numbers_below, incident_edges}
use Rattle.multigraph.proofs.Below.{filter_below-suc, filter_below-only}
use Rattle.multigraph.proofs.OtherEnd.{edge_at-parts, edge_at-from}
use Rattle.multigraph.proofs.Incident.{incident-has, incident-edge, incident-end, incident-rises}

-- what a list contains is a member
pub member-from_contains : (xs : List ℕ) (x : ℕ) → Contains xs x → is_member x xs ≡ true
member-from_contains xs x c = subst (λ (y : ℕ). is_member y xs ≡ true) c.2 (member-at xs c.0 x c.1)

-- of the numbers below n that pass a test none stands there twice
pub distinct-filter_below : (p : ℕ → Bool) (n : ℕ) → is_distinct (filter p (numbers_below n)) ≡ true
distinct-filter_below p zero = refl
distinct-filter_below p (suc n) = subst (λ (l : List ℕ). is_distinct l ≡ true) (sym (filter_below-suc p n)) (elim (cases_Bool (p n)) [
  | inl e ↦ subst (λ (b : Bool). is_distinct (filter p (numbers_below n) ++ cond b (n ∷ []) []) ≡ true) (sym e)
      (distinct-append (filter p (numbers_below n)) (n ∷ []) (distinct-filter_below p n) refl (λ z m. no_member-cons z n [] (apart z m) refl))
  | inr e ↦ subst (λ (b : Bool). is_distinct (filter p (numbers_below n) ++ cond b (n ∷ []) []) ≡ true) (sym e)
      (distinct-append (filter p (numbers_below n)) [] (distinct-filter_below p n) refl (λ z m. refl))
])
  where
    apart : (z : ℕ) → is_member z (filter p (numbers_below n)) ≡ true → n ≡ z → ⊥
    apart z m e = omega (arith, (filter_below-only p n z (contains-from_member (filter p (numbers_below n)) z m)).0)

-- no edge stands twice among those at a vertex
pub incident-distinct : (g : Multigraph) (v : ℕ) → is_distinct (incident_edges g v) ≡ true
incident-distinct g v = distinct-filter_below (is_end g v) (edge_count g)

-- an edge that has v as an end is a member of those at v
pub incident-member : (g : Multigraph) (v e : ℕ) → e < edge_count g → is_end g v e ≡ true → is_member e (incident_edges g v) ≡ true
incident-member g v e l h = member-from_contains (incident_edges g v) e (incident-has g v e l h)

-- a member of the edges at v is an edge
pub member-edge : (g : Multigraph) (v e : ℕ) → is_member e (incident_edges g v) ≡ true → e < edge_count g
member-edge g v e m = incident-edge g v e (contains-from_member (incident_edges g v) e m)

-- a member of the edges at v has v as an end
pub member-end : (g : Multigraph) (v e : ℕ) → is_member e (incident_edges g v) ≡ true → is_end g v e ≡ true
member-end g v e m = incident-end g v e (contains-from_member (incident_edges g v) e m)

-- what is no edge at v is none of those at v
pub is_edge_at-no : (g : Multigraph) (v e : ℕ) → is_edge_at g v e ≡ false → is_member e (incident_edges g v) ≡ false
is_edge_at-no g v e h = false_from_ne_true (is_member e (incident_edges g v))
    (λ m. absurd (true≢false (sym (edge_at-from g v e (member-edge g v e m) (member-end g v e m)) ∙ h)))

-- an edge at v is one of those at v
pub is_edge_at-member : (g : Multigraph) (v e : ℕ) → is_edge_at g v e ≡ true → is_member e (incident_edges g v) ≡ true
is_edge_at-member g v e h = let p = edge_at-parts g v e h in incident-member g v e p.0 p.1

-- the first edge at a vertex is the least
pub incident-least : (g : Multigraph) (v e : ℕ) → is_member e (incident_edges g v) ≡ true → first_or 0 (incident_edges g v) ≤ e
incident-least g v e m =
    let w = place-of (incident_edges g v) e m in
    let inside : w.0 < length (incident_edges g v) = w.1 in
    let here : get_or (incident_edges g v) w.0 0 ≡ e = w.2 in
    elim (cases_eq w.0 0) [
      | inl z ↦
          let first : get_or (incident_edges g v) 0 0 ≡ e = ap (λ (k : ℕ). get_or (incident_edges g v) k 0) (sym z) ∙ here in
          omega (arith, first-at (incident_edges g v), first)
      | inr n ↦
          let rises : get_or (incident_edges g v) 0 0 < get_or (incident_edges g v) w.0 0 = incident-rises g v 0 w.0 0 (omega (arith, n)) inside in
          omega (arith, first-at (incident_edges g v), here, rises)
    ]
