-- Tests that make runs and rotation systems, so that examples compute.
use Rattle.std.proofs.Common.{◌≡◌, ℕ, zero, suc, ◌<◌, ◌==◌, ◌&&◌, inl, inr, Bool, true, false, not, List, [], ◌∷◌, length, sym, subst, arith, All}
use Rattle.std.proofs.lemmas.Bool.{cases_eq, and_parts, eqb-true, true≢false, not-true}
use Rattle.std.proofs.lemmas.List.Elements.{All-nil, All-cons}
use Rattle.permutations.specs.Cyclic.{first_or}
use Rattle.permutations.specs.Members.{is_member, is_distinct}
use Rattle.permutations.specs.Runs.{IsGroup}
use Rattle.permutations.proofs.Arrangements.{permutation-from_members}
use Rattle.permutations.proofs.Members.{member-cases}
use Rattle.permutations.proofs.Relation.{same-tests}
use Rattle.multigraph.specs.Graph.{Multigraph, incident_edges}
use Rattle.rotations.specs.Rotation.{order_at, IsCyclicOrder, IsRotationSystem}
use Rattle.rotations.proofs.Membership.{incident-distinct}

-- whether all members have the key
abbrev pub all_keyed : (ℕ → ℕ) → ℕ → List ℕ → Bool
all_keyed key k [] = true
all_keyed key k (x ∷ l) = (key x == k) && all_keyed key k l

-- whether these are groups
abbrev pub are_groups : (ℕ → ℕ) → List (ℕ × List ℕ) → Bool
are_groups key [] = true
are_groups key (g ∷ gs) = (not (length g.1 == 0) && all_keyed key g.0 g.1) && are_groups key gs

keyed : (key : ℕ → ℕ) (k : ℕ) (l : List ℕ) → all_keyed key k l ≡ true → (x : ℕ) → is_member x l ≡ true → key x ≡ k
keyed key k [] h x m = absurd (true≢false (sym m))
keyed key k (y ∷ l) h x m =
    let p = and_parts (key y == k) (all_keyed key k l) h in
    elim (member-cases x y l m) [ inl e ↦ subst (λ z. key z ≡ k) e (eqb-true (key y) k p.0) | inr n ↦ keyed key k l p.1 x n ]

pub groups-computed : (key : ℕ → ℕ) (gs : List (ℕ × List ℕ)) → are_groups key gs ≡ true → All (IsGroup key) gs
groups-computed key [] h = All-nil (IsGroup key)
groups-computed key (g ∷ gs) h =
    let p = and_parts (not (length g.1 == 0) && all_keyed key g.0 g.1) (are_groups key gs) h in
    let q = and_parts (not (length g.1 == 0)) (all_keyed key g.0 g.1) p.0 in
    All-cons (IsGroup key) g gs (record { filled = some g.1 (not-true (length g.1 == 0) q.0); same_key = keyed key g.0 g.1 q.1 }) (groups-computed key gs p.1)
  where
    some : (l : List ℕ) → (length l == 0) ≡ false → 0 < length l
    some [] n = absurd (true≢false n)
    some (x ∷ l) n = omega arith

-- whether all members of the one list are members of the other
abbrev pub is_within : List ℕ → List ℕ → Bool
is_within [] m = true
is_within (x ∷ l) m = is_member x m && is_within l m

within : (l m : List ℕ) → is_within l m ≡ true → (x : ℕ) → is_member x l ≡ true → is_member x m ≡ true
within [] m h x n = absurd (true≢false (sym n))
within (y ∷ l) m h x n =
    let p = and_parts (is_member y m) (is_within l m) h in
    elim (member-cases x y l n) [ inl e ↦ subst (λ z. is_member z m ≡ true) e p.0 | inr i ↦ within l m p.1 x i ]

-- whether the orders at the vertices below n are cyclic orders of their edges
abbrev pub are_orders : Multigraph → List (List ℕ) → ℕ → Bool
are_orders g r zero = true
are_orders g r (suc n) = ((is_distinct (order_at r n) && is_within (order_at r n) (incident_edges g n)) && (is_within (incident_edges g n) (order_at r n) && (first_or 0 (order_at r n) == first_or 0 (incident_edges g n)))) && are_orders g r n

orders : (g : Multigraph) (r : List (List ℕ)) (n : ℕ) → are_orders g r n ≡ true → (v : ℕ) → v < n → IsCyclicOrder (incident_edges g v) (order_at r v)
orders g r zero h v l = absurd (omega (arith, l))
orders g r (suc n) h v l =
    let p = and_parts ((is_distinct (order_at r n) && is_within (order_at r n) (incident_edges g n)) && (is_within (incident_edges g n) (order_at r n) && (first_or 0 (order_at r n) == first_or 0 (incident_edges g n)))) (are_orders g r n) h in
    elim (cases_eq v n) [
      | inr d ↦ orders g r n p.1 v (omega (arith, l, d))
      | inl e ↦
          let q = and_parts (is_distinct (order_at r n) && is_within (order_at r n) (incident_edges g n)) (is_within (incident_edges g n) (order_at r n) && (first_or 0 (order_at r n) == first_or 0 (incident_edges g n))) p.0 in
          let a = and_parts (is_distinct (order_at r n)) (is_within (order_at r n) (incident_edges g n)) q.0 in
          let c = and_parts (is_within (incident_edges g n) (order_at r n)) (first_or 0 (order_at r n) == first_or 0 (incident_edges g n)) q.1 in
          subst (λ z. IsCyclicOrder (incident_edges g z) (order_at r z)) (sym e) (record {
            arranged = permutation-from_members (incident_edges g n) (order_at r n) (incident-distinct g n) a.0 (λ z. same-tests (is_member z (incident_edges g n)) (is_member z (order_at r n)) (within (incident_edges g n) (order_at r n) c.0 z) (within (order_at r n) (incident_edges g n) a.1 z));
            least_first = eqb-true (first_or 0 (order_at r n)) (first_or 0 (incident_edges g n)) c.1;
          })
    ]

pub system-computed : (g : Multigraph) (r : List (List ℕ)) → length r ≡ g.vertex_count → are_orders g r g.vertex_count ≡ true → IsRotationSystem g r
system-computed g r e h = record { vertices = e; orders = orders g r g.vertex_count h }

-- what holds of four values holds of each of them
pub of-four : (Q : ℕ → Type 0) (a b c d : ℕ) → Q a → Q b → Q c → Q d → (v : ℕ) → is_member v (a ∷ b ∷ c ∷ d ∷ []) ≡ true → Q v
of-four Q a b c d qa qb qc qd v m = elim (member-cases v a (b ∷ c ∷ d ∷ []) m) [
  | inl e ↦ subst Q e qa
  | inr m ↦ elim (member-cases v b (c ∷ d ∷ []) m) [
    | inl e ↦ subst Q e qb
    | inr m ↦ elim (member-cases v c (d ∷ []) m) [
      | inl e ↦ subst Q e qc
      | inr m ↦ elim (member-cases v d [] m) [ inl e ↦ subst Q e qd | inr n ↦ absurd (true≢false (sym n)) ]
    ]
  ]
]
