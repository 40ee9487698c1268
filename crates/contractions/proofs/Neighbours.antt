-- The neighbours of a vertex of a triconnected graph: at least three, and one in each component that is left without it and
-- two others.
use Rattle.std.proofs.Common.{◌≡◌, ◌≢◌, ℕ, ◌+◌, ◌<◌, ◌≤◌, inl, inr, Bool, true, false, not, ◌&&◌, ◌==◌, List, [], ◌∷◌, length, get_or, refl, sym, ap, ◌∙◌, subst, arith, Contains}
use Rattle.std.proofs.lemmas.Bool.{cases_Bool, cases_eq, both_ways, and_parts, and_from, eq-eqb, eqb-true, not-true, not_from_false}
use Rattle.std.proofs.lemmas.List.{get_or_default}
use Rattle.permutations.specs.Count.{some}
use Rattle.permutations.specs.Members.{is_member}
use Rattle.permutations.specs.Relation.{connected}
use Rattle.permutations.proofs.Search.{some-witness, some-none}
use Rattle.permutations.proofs.Relation.{connected-reflexive, connected-transitive}
use Rattle.multigraph.specs.Graph.{Multigraph, edge_count, is_end, other_end, incident_edges, IsGraph}
use Rattle.multigraph.proofs.OtherEnd.{other_end-differs, other_end-is_end, other_end-twice}
use Rattle.multigraph.proofs.Incident.{incident-has}
use Rattle.graph_theory.specs.Triconnected.{ends_without, IsTriconnected}
use Rattle.graph_theory.proofs.Triconnected.{four-vertices}
use Rattle.graph_theory.proofs.Removed.{closed-without, kept-without, step-without}
use Rattle.contractions.proofs.Outside.{outside, out-two, out-three, two-out, three-out}

-- a vertex that is connected with another one has an edge to a vertex that is not removed
pub edge-without : (g : Multigraph) (removed : List ℕ) (v w : ℕ) → connected (ends_without g removed) v w ≡ true → v ≢ w
    → (e : ℕ) × (e < edge_count g) × (is_end g v e ≡ true) × (is_member (other_end g e v) removed ≡ false)
edge-without g removed v w c n = elim (cases_Bool (some (edge_count g) leads)) [
  | inl t ↦
      let r : (e : ℕ) × (e < edge_count g) × (leads e ≡ true) = some-witness (edge_count g) leads t in
      let p = and_parts (is_end g v r.0) (not (is_member (other_end g r.0 v) removed)) r.2 in
      (r.0, r.1, p.0, not-true (is_member (other_end g r.0 v) removed) p.1)
  | inr f ↦ absurd (n (sym (eqb-true w v (sym (closed-without g removed (λ u. u == v) (stays f) v w c) ∙ eq-eqb v v refl))))
]
  where
    leads : ℕ → Bool
    leads e = is_end g v e && not (is_member (other_end g e v) removed)

    stays : some (edge_count g) leads ≡ false → (e p : ℕ) → e < edge_count g → is_end g p e ≡ true → is_member p removed ≡ false → is_member (other_end g e p) removed ≡ false → (p == v) ≡ true → (other_end g e p == v) ≡ true
    stays f e p l h a b t = absurd (both_ways (leads e) (some-none (edge_count g) leads f e l)
        (subst (λ (q : ℕ). (is_end g q e && not (is_member (other_end g e q) removed)) ≡ true) (eqb-true p v t) (and_from (is_end g p e) (not (is_member (other_end g e p) removed)) h (not_from_false (is_member (other_end g e p) removed) b))))

-- for each number another one than v, such that who differs from it and from v differs from the number
beside : (v a : ℕ) → (b : ℕ) × (b ≢ v) × ((q : ℕ) → q ≢ v → b ≢ q → q ≢ a)
beside v a = elim (cases_eq a v) [ inl e ↦ (v + 1, (λ s. omega arith), λ q n m s. n (s ∙ e)) | inr n ↦ (a, n, λ q o m s. m (sym s)) ]

-- each vertex of a triconnected graph has a neighbour other than two given ones
pub neighbour : (g : Multigraph) → IsGraph g → IsTriconnected g → (v a b : ℕ) → v < g.vertex_count
    → (e : ℕ) × (e < edge_count g) × (is_end g v e ≡ true) × (other_end g e v ≢ a) × (other_end g e v ≢ b)
neighbour g i t v a b l =
    let c : (c : ℕ) × (c ≢ v) × ((q : ℕ) → q ≢ v → c ≢ q → q ≢ a) = beside v a in
    let d : (d : ℕ) × (d ≢ v) × ((q : ℕ) → q ≢ v → d ≢ q → q ≢ b) = beside v b in
    let w = outside g.vertex_count (v ∷ c.0 ∷ d.0 ∷ []) (omega (arith, four-vertices g t)) in
    let o = three-out v c.0 d.0 w.0 w.2 in
    let e = edge-without g (c.0 ∷ d.0 ∷ []) v w.0 (t.stays_connected c.0 d.0 v w.0 l w.1 (out-two c.0 d.0 v c.1 d.1) (out-two c.0 d.0 w.0 o.1 o.2)) o.0 in
    let n : other_end g e.0 v ≢ v = other_end-differs g e.0 v i e.1 e.2 in
    let p = two-out c.0 d.0 (other_end g e.0 v) e.3 in
    (e.0, e.1, e.2, c.2 (other_end g e.0 v) n p.0, d.2 (other_end g e.0 v) n p.1)

-- three edges at a vertex, with three different other ends
pub record ThreeNeighbours (g : Multigraph) (v : ℕ) : Type 0 where
  pub first : ℕ
  pub second : ℕ
  pub third : ℕ
  pub first_edge : first < edge_count g
  pub second_edge : second < edge_count g
  pub third_edge : third < edge_count g
  pub first_end : is_end g v first ≡ true
  pub second_end : is_end g v second ≡ true
  pub third_end : is_end g v third ≡ true
  pub first_second : other_end g first v ≢ other_end g second v
  pub first_third : other_end g first v ≢ other_end g third v
  pub second_third : other_end g second v ≢ other_end g third v

-- each vertex of a triconnected graph has three different neighbours
pub three_neighbours : (g : Multigraph) → IsGraph g → IsTriconnected g → (v : ℕ) → v < g.vertex_count → ThreeNeighbours g v
three_neighbours g i t v l =
    let e = neighbour g i t v v v l in
    let f = neighbour g i t v (other_end g e.0 v) (other_end g e.0 v) l in
    let h = neighbour g i t v (other_end g e.0 v) (other_end g f.0 v) l in
    record {
      first = e.0;
      second = f.0;
      third = h.0;
      first_edge = e.1;
      second_edge = f.1;
      third_edge = h.1;
      first_end = e.2;
      second_end = f.2;
      third_end = h.2;
      first_second = λ s. f.3 (sym s);
      first_third = λ s. h.3 (sym s);
      second_third = λ s. h.4 (sym s);
    }

-- different members of a list stand at different places
places-apart : (xs : List ℕ) (x y : ℕ) → x ≢ y → (c : Contains xs x) → (d : Contains xs y) → c.0 ≢ d.0
places-apart xs x y n c d s = n (sym c.2 ∙ (get_or_default xs c.0 x y c.1 ∙ (ap (λ (k : ℕ). get_or xs k y) s ∙ d.2)))

-- each vertex of a triconnected graph has at least three edges
pub incident-three : (g : Multigraph) → IsGraph g → IsTriconnected g → (v : ℕ) → v < g.vertex_count → 3 ≤ length (incident_edges g v)
incident-three g i t v l =
    let n = three_neighbours g i t v l in
    let a : Contains (incident_edges g v) n.first = incident-has g v n.first n.first_edge n.first_end in
    let b : Contains (incident_edges g v) n.second = incident-has g v n.second n.second_edge n.second_end in
    let c : Contains (incident_edges g v) n.third = incident-has g v n.third n.third_edge n.third_end in
    omega (
      arith,
      a.1,
      b.1,
      c.1,
      places-apart (incident_edges g v) n.first n.second (λ s. n.first_second (ap (λ (e : ℕ). other_end g e v) s)) a b,
      places-apart (incident_edges g v) n.first n.third (λ s. n.first_third (ap (λ (e : ℕ). other_end g e v) s)) a c,
      places-apart (incident_edges g v) n.second n.third (λ s. n.second_third (ap (λ (e : ℕ). other_end g e v) s)) b c,
    )

-- in a triconnected graph a third vertex has a neighbour in each component that is left without it and two others
pub attach : (g : Multigraph) → IsGraph g → IsTriconnected g → (x y z u : ℕ) → z < g.vertex_count → u < g.vertex_count → z ≢ x → z ≢ y → is_member u (x ∷ y ∷ z ∷ []) ≡ false
    → (f : ℕ) × (f < edge_count g) × (is_end g z f ≡ true) × (connected (ends_without g (x ∷ y ∷ z ∷ [])) u (other_end g f z) ≡ true)
attach g i t x y z u lz lu zx zy uo = elim (cases_Bool (some (edge_count g) leads)) [
  | inl y ↦
      let r : (f : ℕ) × (f < edge_count g) × (leads f ≡ true) = some-witness (edge_count g) leads y in
      let p = and_parts (is_end g z r.0) (reached (other_end g r.0 z)) r.2 in
      (r.0, r.1, p.0, p.1)
  | inr n ↦
      let o = three-out x y z u uo in
      absurd (left z (sym (closed-without g (x ∷ y ∷ []) reached (stays n) u z
      (t.stays_connected x y u z lu lz (out-two x y u o.0 o.1) (out-two x y z (λ s. zx (sym s)) (λ s. zy (sym s)))))
      ∙ connected-reflexive links u) refl)
]
  where
    links : List (ℕ × ℕ)
    links = ends_without g (x ∷ y ∷ z ∷ [])

    reached : ℕ → Bool
    reached = connected links u

    leads : ℕ → Bool
    leads f = is_end g z f && reached (other_end g f z)

    left : (w : ℕ) → reached w ≡ true → w ≢ z
    left w c s = let o = three-out x y z w (kept-without g (x ∷ y ∷ z ∷ []) u w uo c) in o.2 (sym s)

    stays : some (edge_count g) leads ≡ false → (e p : ℕ) → e < edge_count g → is_end g p e ≡ true → is_member p (x ∷ y ∷ []) ≡ false → is_member (other_end g e p) (x ∷ y ∷ []) ≡ false
        → reached p ≡ true → reached (other_end g e p) ≡ true
    stays n e p l h a b c =
        let oa = two-out x y p a in
        let ob = two-out x y (other_end g e p) b in
        elim (cases_eq (other_end g e p) z) [
          | inl s ↦ absurd (both_ways (leads e) (some-none (edge_count g) leads n e l)
              (and_from (is_end g z e) (reached (other_end g e z))
              (subst (λ (q : ℕ). is_end g q e ≡ true) s (other_end-is_end g e p))
              (subst (λ (q : ℕ). reached (other_end g e q) ≡ true) s (subst (λ (q : ℕ). reached q ≡ true) (sym (other_end-twice g e p i l h)) c))))
          | inr s ↦ connected-transitive links u p (other_end g e p) c (step-without g (x ∷ y ∷ z ∷ []) e p l h
              (out-three x y z p oa.0 oa.1 (λ d. left p c (sym d))) (out-three x y z (other_end g e p) ob.0 ob.1 (λ d. s (sym d))))
        ]
