-- The lists of the map of a rotation system are this rotation system.
use Rattle.std.proofs.Common.{◌≡◌, ◌∙◌, ℕ, zero, suc, ◌+◌, ◌/◌, ◌<◌, ◌==◌, inl, inr, true, List, [], ◌∷◌, ◌++◌, length, get_or, slice_index, IsPermutation, refl, sym, ap, subst, arith}
use Rattle.std.proofs.lemmas.Bool.{cases_lt, eq-eqb, ne_eqb, cond-true, cond-false, both_ways}
use Rattle.std.proofs.lemmas.List.{same_lists, length-append, append-nil, get_or_default, get_or_append_left, get_or_push}
use Rattle.std.proofs.lemmas.Grind.{same_number_lists}
use Rattle.permutations.specs.Cyclic.{first_or, successor_from, turned}
use Rattle.permutations.specs.Permutation.{iterate}
use Rattle.permutations.specs.Members.{is_member, is_distinct}
use Rattle.permutations.proofs.Arrangements.{length-from_members, member-at, permutation-member}
use Rattle.permutations.proofs.Members.{member-head, distinct-head, distinct-tail}
use Rattle.permutations.proofs.Turned.{turned-cut}
use Rattle.multigraph.specs.Graph.{Multigraph, incident_edges, IsGraph}
use Rattle.multigraph.proofs.DartEnds.{dart_from-edge, dart_from-below}
use Rattle.rotations.specs.Rotation.{order_at, IsRotationSystem}
use Rattle.rotations.specs.Entries.{entry, list_at}
use Rattle.rotations.specs.Given.{IsBad, given_order}
use Rattle.rotations.proofs.Cursor.{list_at-found}
use Rattle.rotations.proofs.Membership.{incident-distinct, member-edge, member-end}
use Rattle.faces.specs.Euler.{dart_from, dart_count}
use Rattle.faces.specs.Maps.{dart_after}
use Rattle.faces.proofs.DartLemmas.{order-distinct, member-incident}
use Rattle.faces.proofs.MapSteps.{after-dart_from}
use Rattle.path_rotation.specs.Finish.{ArePassed, AreListed}

-- where nothing is to be passed, the first dart is any
pub passed-any : (next : List ℕ) (first other count : ℕ) (edges : List ℕ) → (0 < count → first ≡ other) → ArePassed next first count edges → ArePassed next other count edges
passed-any next first other count edges e p = record {
  long = p.long;
  each = λ i l. p.each i l ∙ ap (λ (d : ℕ). iterate (slice_index next) i d / 2) (e (omega (arith, l)));
}

-- one list more
pub listed-more : (g : Multigraph) (next : List ℕ) (n : ℕ) (lists : List (ℕ × List ℕ)) (edges : List ℕ) → AreListed g next n lists
    → ArePassed next (dart_from g n (first_or 0 (incident_edges g n))) (length (incident_edges g n)) edges → AreListed g next (n + 1) (lists ++ (n, edges) ∷ [])
listed-more g next n lists edges a p = record {
  long = length-append lists ((n, edges) ∷ []) ∙ ap (λ (k : ℕ). k + 1) a.long;
  vertex = λ v l. elim (cases_lt v n) [
    | inl b ↦ ap (λ (x : ℕ × List ℕ). x.0) (old v b) ∙ a.vertex v b
    | inr b ↦ let s : v ≡ n = omega arith in subst (λ (k : ℕ). (entry (lists ++ (n, edges) ∷ []) k).0 ≡ k) (sym s) (ap (λ (x : ℕ × List ℕ). x.0) last)
  ];
  edges = λ v l. elim (cases_lt v n) [
    | inl b ↦ subst (λ (x : ℕ × List ℕ). ArePassed next (dart_from g v (first_or 0 (incident_edges g v))) (length (incident_edges g v)) x.1) (sym (old v b)) (a.edges v b)
    | inr b ↦
        let s : v ≡ n = omega arith in
        subst (λ (k : ℕ). ArePassed next (dart_from g k (first_or 0 (incident_edges g k))) (length (incident_edges g k)) (entry (lists ++ (n, edges) ∷ []) k).1) (sym s)
        (subst (λ (x : ℕ × List ℕ). ArePassed next (dart_from g n (first_or 0 (incident_edges g n))) (length (incident_edges g n)) x.1) (sym last) p)
  ];
}
  where
    old : (v : ℕ) → v < n → entry (lists ++ (n, edges) ∷ []) v ≡ entry lists v
    old v b = get_or_append_left lists ((n, edges) ∷ []) (0, []) v (omega (arith, b, a.long))

    last : entry (lists ++ (n, edges) ∷ []) n ≡ (n, edges)
    last = get_or_push lists (n, edges) (0, []) n a.long

-- turned to its first member a list stays as it is
turned-first : (l : List ℕ) → turned l (first_or 0 l) ≡ l
turned-first [] = refl
turned-first (x ∷ l) = turned-cut [] x l refl ∙ ap (λ (k : List ℕ). x ∷ k) (append-nil l)

-- the member that follows the one at place i, if this is not the last
successor-next : (z : ℕ) (l : List ℕ) (i : ℕ) → is_distinct l ≡ true → suc i < length l → successor_from z l (get_or l i 0) ≡ get_or l (suc i) 0
successor-next z [] i d l = absurd (omega arith)
successor-next z (y ∷ []) i d l = absurd (omega arith)
successor-next z (y ∷ x ∷ ys) zero d l = cond-true (y == y) x (successor_from z (x ∷ ys) y) (eq-eqb y y refl)
successor-next z (y ∷ x ∷ ys) (suc i) d l =
    cond-false (y == get_or (x ∷ ys) i 0) x (successor_from z (x ∷ ys) (get_or (x ∷ ys) i 0)) (ne_eqb y (get_or (x ∷ ys) i 0) apart)
    ∙ successor-next z (x ∷ ys) i (distinct-tail y (x ∷ ys) d) (omega arith)
  where
    apart : y ≡ get_or (x ∷ ys) i 0 → ⊥
    apart e = both_ways (is_member y (x ∷ ys)) (distinct-head y (x ∷ ys) d) (subst (λ (k : ℕ). is_member k (x ∷ ys) ≡ true) (sym e) (member-at (x ∷ ys) i 0 (omega arith)))

-- the first of some members is a member
first-in : (l : List ℕ) → 0 < length l → is_member (first_or 0 l) l ≡ true
first-in [] h = absurd (omega arith)
first-in (x ∷ l) h = member-head x l

-- the dart of the least edge at a vertex
pub least-below : (g : Multigraph) (v : ℕ) → 0 < length (incident_edges g v) → dart_from g v (first_or 0 (incident_edges g v)) < dart_count g
least-below g v h = dart_from-below g v (first_or 0 (incident_edges g v)) (member-edge g v (first_or 0 (incident_edges g v)) (first-in (incident_edges g v) h))

module _ (g : Multigraph) (ok : IsGraph g) (r : List (List ℕ)) (s : IsRotationSystem g r) (next : List ℕ) (same : (d : ℕ) → d < dart_count g → dart_after g r d ≡ slice_index next d) where
  -- as many edges are around a vertex as are at it
  order-long : (v : ℕ) → v < g.vertex_count → length (order_at r v) ≡ length (incident_edges g v)
  order-long v l = length-from_members (order_at r v) (incident_edges g v) (order-distinct g r v s l) (incident-distinct g v) same-members
    where
      same-members : (e : ℕ) → is_member e (order_at r v) ≡ is_member e (incident_edges g v)
      same-members e = permutation-member (incident_edges g v) (order_at r v) e (s.orders v l).arranged

  -- the darts from that of the least edge on are those around the vertex
  goes : (v : ℕ) → v < g.vertex_count → (i : ℕ) → i < length (order_at r v) → iterate (slice_index next) i (dart_from g v (first_or 0 (incident_edges g v))) ≡ dart_from g v (slice_index (order_at r v) i)
  goes v l zero b = ap (dart_from g v) (sym (s.orders v l).least_first ∙ first-at (order_at r v))
    where
      first-at : (k : List ℕ) → first_or 0 k ≡ slice_index k 0
      first-at [] = refl
      first-at (x ∷ k) = refl
  goes v l (suc i) b =
      ap (slice_index next) (goes v l i here) ∙ sym (same (dart_from g v e) (dart_from-below g v e (member-edge g v e at))) ∙ after-dart_from g r v e (member-end g v e at)
      ∙ ap (dart_from g v) (successor-next (first_or e (order_at r v)) (order_at r v) i (order-distinct g r v s l) b)
    where
      e : ℕ
      e = slice_index (order_at r v) i

      here : i < length (order_at r v)
      here = omega arith

      at : is_member e (incident_edges g v) ≡ true
      at = member-incident g r v e s l (member-at (order_at r v) i 0 here)

  -- so they are its list
  around : (v : ℕ) → v < g.vertex_count → (edges : List ℕ) → ArePassed next (dart_from g v (first_or 0 (incident_edges g v))) (length (incident_edges g v)) edges → edges ≡ order_at r v
  around v l edges p = same_number_lists edges (order_at r v) (p.long ∙ sym (order-long v l)) (λ i b.
      let c : i < length (order_at r v) = omega (arith, b, p.long, order-long v l) in
      p.each i (omega (arith, b, p.long)) ∙ ap (λ (d : ℕ). d / 2) (goes v l i c) ∙ dart_from-edge g v (slice_index (order_at r v) i))

  module _ (lists : List (ℕ × List ℕ)) (a : AreListed g next g.vertex_count lists) where
    listed : (v : ℕ) → v < g.vertex_count → list_at lists v ≡ order_at r v
    listed v l = list_at-found lists v v (omega (arith, l, a.long)) (λ i b e. omega (arith, a.vertex i (omega arith), b, e)) (a.vertex v l) ∙ around v l (entry lists v).1 (a.edges v l)

    -- no vertex is bad
    pub none-bad : (v : ℕ) → IsBad g lists v → ⊥
    none-bad v b = elim b [
      | inl h ↦ h.1 (subst (λ (k : List ℕ). IsPermutation (incident_edges g v) k) (sym (listed v h.0)) (s.orders v h.0).arranged)
      | inr h ↦ omega (arith, h.0, h.1.1, h.1.2, a.long, a.vertex h.1.0 (omega (arith, h.1.1, a.long)))
    ]

    -- and the rotation system that is made is this one
    pub same-system : (q : List (List ℕ)) → IsRotationSystem g q → ((v : ℕ) → v < g.vertex_count → order_at q v ≡ given_order g lists v) → q ≡ r
    same-system q t e = same_lists q r (t.vertices ∙ sym s.vertices) (λ v d l.
        let b : v < g.vertex_count = omega (arith, l, t.vertices) in
        default q v d l ∙ e v b ∙ ap (λ (k : List ℕ). turned k (first_or 0 (incident_edges g v))) (listed v b) ∙ ap (turned (order_at r v)) (sym (s.orders v b).least_first) ∙ turned-first (order_at r v)
        ∙ sym (default r v d (omega (arith, l, t.vertices, s.vertices))))
      where
        default : (x : List (List ℕ)) (v : ℕ) (d : List ℕ) → v < length x → get_or x v d ≡ order_at x v
        default x v d l = get_or_default x v d [] l
