-- The tests of connection without some vertices and of contractible edges say what they are named for.
use Rattle.std.proofs.Common.{◌≡◌, ◌≢◌, ℕ, ◌<◌, ◌≤◌, ◌↔◌, inl, inr, Bool, true, false, not, ◌&&◌, ◌||◌, ◌==◌, List, [], ◌∷◌, subst, arith}
use Rattle.std.proofs.lemmas.Bool.{cases_Bool, cases_lt, both_ways, and_parts, and_from, ne_eqb, eqb-false, not-true, not-false, not_from_false, true_from_ne_false}
use Rattle.permutations.specs.Count.{some}
use Rattle.permutations.specs.Members.{is_member}
use Rattle.permutations.specs.Relation.{connected}
use Rattle.permutations.proofs.Search.{some-witness, some-none}
use Rattle.permutations.proofs.Relation.{connected-reflexive, connected-symmetric, connected-transitive}
use Rattle.multigraph.specs.Graph.{Multigraph, edge_count, ends_of, IsGraph}
use Rattle.graph_theory.specs.Triconnected.{ends_without, IsConnectedWithout, IsTriconnected}
use Rattle.contractions.specs.Contraction.{IsContractible, is_connected_without, is_contractible}
use Rattle.graph_theory.proofs.Removed.{least-without, link-without, same-without}
use Rattle.contractions.proofs.Outside.{out-two, out-three, two-out, three-out}

-- two vertices that are left, not connected
pub record TwoApart (g : Multigraph) (removed : List ℕ) : Type 0 where
  pub first : ℕ
  pub second : ℕ
  pub first_in : first < g.vertex_count
  pub second_in : second < g.vertex_count
  pub first_left : is_member first removed ≡ false
  pub second_left : is_member second removed ≡ false
  pub apart : connected (ends_without g removed) first second ≡ false

-- where the test fails there are two such vertices
pub connected_without-fails : (g : Multigraph) (removed : List ℕ) → is_connected_without g removed ≡ false → TwoApart g removed
unfolding is_connected_without
connected_without-fails g removed h = made (some-witness g.vertex_count (λ u. some g.vertex_count (parts u)) (not-false (some g.vertex_count (λ u. some g.vertex_count (parts u))) h))
  where
    parts : ℕ → ℕ → Bool
    parts u v = not (is_member u removed) && (not (is_member v removed) && not (connected (ends_without g removed) u v))

    made : (u : ℕ) × (u < g.vertex_count) × (some g.vertex_count (parts u) ≡ true) → TwoApart g removed
    made w =
        let r : (v : ℕ) × (v < g.vertex_count) × (parts w.0 v ≡ true) = some-witness g.vertex_count (parts w.0) w.2 in
        let p = and_parts (not (is_member w.0 removed)) (not (is_member r.0 removed) && not (connected (ends_without g removed) w.0 r.0)) r.2 in
        let q = and_parts (not (is_member r.0 removed)) (not (connected (ends_without g removed) w.0 r.0)) p.1 in
        record {
          first = w.0;
          second = r.0;
          first_in = w.1;
          second_in = r.1;
          first_left = not-true (is_member w.0 removed) p.0;
          second_left = not-true (is_member r.0 removed) q.0;
          apart = not-true (connected (ends_without g removed) w.0 r.0) q.1;
        }

-- where the test passes the others stay connected
pub connected_without-true : (g : Multigraph) (removed : List ℕ) → is_connected_without g removed ≡ true → IsConnectedWithout g removed
unfolding is_connected_without
connected_without-true g removed h u v l m a b = true_from_ne_false (connected (ends_without g removed) u v) (λ f.
    both_ways (parts u v)
    (some-none g.vertex_count (parts u) (some-none g.vertex_count (λ w. some g.vertex_count (parts w)) (not-true (some g.vertex_count (λ w. some g.vertex_count (parts w))) h) u l) v m)
    (and_from (not (is_member u removed)) (not (is_member v removed) && not (connected (ends_without g removed) u v)) (not_from_false (is_member u removed) a)
    (and_from (not (is_member v removed)) (not (connected (ends_without g removed) u v)) (not_from_false (is_member v removed) b) (not_from_false (connected (ends_without g removed) u v) f))))
  where
    parts : ℕ → ℕ → Bool
    parts w z = not (is_member w removed) && (not (is_member z removed) && not (connected (ends_without g removed) w z))

-- where the others stay connected the test passes
pub connected_without-from : (g : Multigraph) (removed : List ℕ) → IsConnectedWithout g removed → is_connected_without g removed ≡ true
connected_without-from g removed h = true_from_ne_false (is_connected_without g removed) (λ f.
    let w : TwoApart g removed = connected_without-fails g removed f in
    both_ways (connected (ends_without g removed) w.first w.second) w.apart (h w.first w.second w.first_in w.second_in w.first_left w.second_left))

-- where the test of an edge fails there is a vertex without which, and the two ends, the others do not stay connected
pub contractible-fails : (g : Multigraph) (x y : ℕ) → is_contractible g x y ≡ false
    → (z : ℕ) × (z < g.vertex_count) × (z ≢ x) × (z ≢ y) × (is_connected_without g (x ∷ y ∷ z ∷ []) ≡ false)
unfolding is_contractible
contractible-fails g x y h =
    let w : (z : ℕ) × (z < g.vertex_count) × (parts z ≡ true) = some-witness g.vertex_count parts (not-false (some g.vertex_count parts) h) in
    let p = and_parts (not (w.0 == x)) (not (w.0 == y) && not (is_connected_without g (x ∷ y ∷ w.0 ∷ []))) w.2 in
    let q = and_parts (not (w.0 == y)) (not (is_connected_without g (x ∷ y ∷ w.0 ∷ []))) p.1 in (
      w.0,
      w.1,
      eqb-false w.0 x (not-true (w.0 == x) p.0),
      eqb-false w.0 y (not-true (w.0 == y) q.0),
      not-true (is_connected_without g (x ∷ y ∷ w.0 ∷ [])) q.1,
    )
  where
    parts : ℕ → Bool
    parts z = not (z == x) && (not (z == y) && not (is_connected_without g (x ∷ y ∷ z ∷ [])))

-- where it passes, the others stay connected without the two ends and any third vertex
contractible-vertex : (g : Multigraph) (x y z : ℕ) → is_contractible g x y ≡ true → z < g.vertex_count → z ≢ x → z ≢ y → is_connected_without g (x ∷ y ∷ z ∷ []) ≡ true
unfolding is_contractible
contractible-vertex g x y z h l m n = true_from_ne_false (is_connected_without g (x ∷ y ∷ z ∷ [])) (λ f.
    both_ways (parts z) (some-none g.vertex_count parts (not-true (some g.vertex_count parts) h) z l)
    (and_from (not (z == x)) (not (z == y) && not (is_connected_without g (x ∷ y ∷ z ∷ []))) (not_from_false (z == x) (ne_eqb z x m))
    (and_from (not (z == y)) (not (is_connected_without g (x ∷ y ∷ z ∷ []))) (not_from_false (z == y) (ne_eqb z y n)) (not_from_false (is_connected_without g (x ∷ y ∷ z ∷ [])) f))))
  where
    parts : ℕ → Bool
    parts w = not (w == x) && (not (w == y) && not (is_connected_without g (x ∷ y ∷ w ∷ [])))

-- a number that is no vertex may be removed besides two
no_vertex-without : (g : Multigraph) → IsGraph g → (x y z : ℕ) → g.vertex_count ≤ z → IsConnectedWithout g (x ∷ y ∷ []) → IsConnectedWithout g (x ∷ y ∷ z ∷ [])
no_vertex-without g i x y z k h u v l m a b =
    let p = three-out x y z u a in
    let q = three-out x y z v b in
    least-without g (x ∷ y ∷ []) (λ w s. connected links w s ≡ true) (connected-reflexive links) (connected-symmetric links) (connected-transitive links) step
    u v (h u v l m (out-two x y u p.0 p.1) (out-two x y v q.0 q.1))
  where
    links : List (ℕ × ℕ)
    links = ends_without g (x ∷ y ∷ z ∷ [])

    out : (w : ℕ) → w < g.vertex_count → is_member w (x ∷ y ∷ []) ≡ false → is_member w (x ∷ y ∷ z ∷ []) ≡ false
    out w n c = let p = two-out x y w c in out-three x y z w p.0 p.1 (λ s. omega arith)

    step : (e : ℕ) → e < edge_count g → is_member (ends_of g e).0 (x ∷ y ∷ []) ≡ false → is_member (ends_of g e).1 (x ∷ y ∷ []) ≡ false → connected links (ends_of g e).0 (ends_of g e).1 ≡ true
    step e n c d = link-without g (x ∷ y ∷ z ∷ []) e n (out (ends_of g e).0 (i.first_in e n) c) (out (ends_of g e).1 (i.second_in e n) d)

-- in a triconnected graph an edge that passes the test may be contracted
pub contractible-true : (g : Multigraph) → IsGraph g → IsTriconnected g → (x y : ℕ) → is_contractible g x y ≡ true → IsContractible g x y
contractible-true g i t x y h z m n = elim (cases_lt z g.vertex_count) [
  | inl l ↦ connected_without-true g (x ∷ y ∷ z ∷ []) (contractible-vertex g x y z h l m n)
  | inr ge ↦ no_vertex-without g i x y z ge (t.stays_connected x y)
]

-- an edge that may be contracted passes the test
pub contractible-from : (g : Multigraph) (x y : ℕ) → IsContractible g x y → is_contractible g x y ≡ true
contractible-from g x y h = true_from_ne_false (is_contractible g x y) (λ f.
    let w = contractible-fails g x y f in
    both_ways (is_connected_without g (x ∷ y ∷ w.0 ∷ [])) w.4 (connected_without-from g (x ∷ y ∷ w.0 ∷ []) (h w.0 w.2 w.3)))

-- so the test is exact
pub contractible-exact : (g : Multigraph) → IsGraph g → IsTriconnected g → (x y : ℕ) → (is_contractible g x y ≡ true) ↔ IsContractible g x y
contractible-exact g i t x y = (contractible-true g i t x y, contractible-from g x y)

-- the two ends of an edge that may be contracted, named the other way round
pub contractible-turned : (g : Multigraph) (x y : ℕ) → IsContractible g x y → IsContractible g y x
contractible-turned g x y h z m n u v l k a b =
    let p = three-out y x z u a in
    let q = three-out y x z v b in
    subst (λ (links : List (ℕ × ℕ)). connected links u v ≡ true) (same-without g (x ∷ y ∷ z ∷ []) (y ∷ x ∷ z ∷ []) (λ w. turned (x == w) (y == w) (is_member w (z ∷ []))))
    (h z n m u v l k (out-three x y z u p.1 p.0 p.2) (out-three x y z v q.1 q.0 q.2))
  where
    turned : (a b c : Bool) → (a || (b || c)) ≡ (b || (a || c))
    turned a b c = grind (arith, cases_Bool a, cases_Bool b)
