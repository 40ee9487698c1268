-- The changes of maps, computed on the complete graph with four vertices and on a bond of four edges.
use Rattle.std.proofs.Common.{◌≡◌, ℕ, ◌/◌, ◌<◌, Bool, true, false, not, ◌||◌, ◌==◌, ltb, List, [], ◌∷◌, cond, refl, ap, ◌∙◌, arith, eqb-true}
use Rattle.std.proofs.lemmas.Bool.{eqb-false, ne_eqb, not-false}
use Rattle.permutations.specs.Count.{some}
use Rattle.permutations.specs.Exchange.{swapped, exchange, unlink, restricted}
use Rattle.permutations.specs.Permutation.{reaches}
use Rattle.permutations.proofs.Search.{some-none}
use Rattle.permutations.proofs.Computed.{permutes-computed}
use Rattle.permutations.proofs.Iterates.{orbit-reaches}
use Rattle.permutations.proofs.Orbits.{agrees-test}
use Rattle.dart_maps.specs.Map.{twin, IsMap, same_vertex, face_count}
use Rattle.dart_maps.specs.Changes.{dropped, inserted, contracted, glued}
use Rattle.dart_maps.specs.Order.{MetInTurn, MetInOrder}
use Rattle.dart_maps.specs.Path.{IsThin, smoothed}
use Rattle.dart_maps.specs.Flip.{IsFlip}
use Rattle.dart_maps.proofs.Examples.{table, k4}
use Rattle.dart_maps.proofs.Flip.{flip-faces}

-- the first eight numbers of a function
first_eight : (ℕ → ℕ) → List ℕ
first_eight f = f 0 ∷ f 1 ∷ f 2 ∷ f 3 ∷ f 4 ∷ f 5 ∷ f 6 ∷ f 7 ∷ []

-- the complete graph without edge 5, from 2 to 3: its darts 10 and 11 are alone, and 7 is followed by 3, 5 by 9
k4-dropped : dropped 10 k4 10 ∷ dropped 10 k4 11 ∷ dropped 10 k4 7 ∷ dropped 10 k4 5 ∷ [] ≡ 10 ∷ 11 ∷ 3 ∷ 9 ∷ []
unfolding k4 unlink twin
k4-dropped = refl

-- put in again behind 7 and behind 5, edge 5 stands where it stood
k4-inserted : inserted 10 7 5 (dropped 10 k4) 7 ∷ inserted 10 7 5 (dropped 10 k4) 10 ∷ inserted 10 7 5 (dropped 10 k4) 5 ∷ inserted 10 7 5 (dropped 10 k4) 11 ∷ [] ≡ 10 ∷ 3 ∷ 11 ∷ 9 ∷ []
unfolding k4 unlink exchange swapped twin
k4-inserted = refl

-- the restriction to the other edges is the same
k4-restricted : restricted 12 (λ d. not (d / 2 == 5)) k4 10 ∷ restricted 12 (λ d. not (d / 2 == 5)) k4 11 ∷ restricted 12 (λ d. not (d / 2 == 5)) k4 7 ∷ restricted 12 (λ d. not (d / 2 == 5)) k4 5 ∷ [] ≡ 10 ∷ 11 ∷ 3 ∷ 9 ∷ []
unfolding k4 restricted
k4-restricted = refl

-- edge 0, from 0 to 1, contracted: the vertex that is left has the darts 2, 4, 8, 6 in this order
k4-contracted : contracted 0 k4 0 ∷ contracted 0 k4 1 ∷ contracted 0 k4 2 ∷ contracted 0 k4 4 ∷ contracted 0 k4 8 ∷ contracted 0 k4 6 ∷ [] ≡ 0 ∷ 1 ∷ 4 ∷ 8 ∷ 6 ∷ 2 ∷ []
unfolding k4 contracted twin
k4-contracted = refl

-- three darts of a vertex, in turn
k4-turn : MetInTurn 6 k4 0 2 4
unfolding k4 restricted
k4-turn = record { darts = (omega arith, omega arith, omega arith); different = eqb-false 0 2 refl; first = refl; second = refl; third = refl }

-- two bonds of three edges, with the darts 0 to 5 and 6 to 11
bonds : ℕ → ℕ
bonds = table (2 ∷ 5 ∷ 4 ∷ 1 ∷ 0 ∷ 3 ∷ 8 ∷ 11 ∷ 10 ∷ 7 ∷ 6 ∷ 9 ∷ [])

-- glued along edge 0 of the one and edge 3 of the other: 2, 4, 8, 10 round the one vertex, 5, 3, 11, 9 round the other
bonds-glued : glued 0 6 bonds 2 ∷ glued 0 6 bonds 4 ∷ glued 0 6 bonds 8 ∷ glued 0 6 bonds 10 ∷ glued 0 6 bonds 5 ∷ glued 0 6 bonds 3 ∷ glued 0 6 bonds 11 ∷ glued 0 6 bonds 9 ∷ [] ≡ 4 ∷ 8 ∷ 10 ∷ 2 ∷ 3 ∷ 11 ∷ 9 ∷ 5 ∷ []
unfolding bonds glued twin
bonds-glued = refl

-- four edges between two vertices: 0, 2, 4, 6 round the one and 1, 7, 5, 3 round the other
bond4 : ℕ → ℕ
bond4 = table (2 ∷ 7 ∷ 4 ∷ 1 ∷ 6 ∷ 3 ∷ 0 ∷ 5 ∷ [])

-- the inverse
bond4_back : ℕ → ℕ
bond4_back = table (6 ∷ 3 ∷ 0 ∷ 5 ∷ 2 ∷ 7 ∷ 4 ∷ 1 ∷ [])

-- it is a map
bond4-map : IsMap 4 bond4 bond4_back
unfolding bond4 bond4_back
bond4-map = permutes-computed 8 bond4 bond4_back refl

-- four darts of a vertex, in order
bond4-order : MetInOrder 4 bond4 0 2 4 6
unfolding bond4 restricted
bond4-order = record { darts = (omega arith, omega arith, omega arith, omega arith); different = eqb-false 0 4 refl; first = refl; second = refl; third = refl; fourth = refl }

-- edges 0 and 1 turned over: they are met in the opposite order at both vertices
bond4_flipped : ℕ → ℕ
bond4_flipped = table (4 ∷ 3 ∷ 0 ∷ 7 ∷ 6 ∷ 1 ∷ 2 ∷ 5 ∷ [])

-- the part: edges 0 and 1
front_edges : ℕ → Bool
front_edges d = ltb d 4

-- a test that holds of each number below n
below : (n : ℕ) (t : ℕ → Bool) → some n (λ d. not (t d)) ≡ false → (d : ℕ) → d < n → t d ≡ true
below n t h d l = not-false (t d) (some-none n (λ c. not (t c)) h d l)

-- an equation that a test tells where two others fail
tells : (x y : Bool) (a b : ℕ) → (x || (y || (a == b))) ≡ true → x ≡ false → y ≡ false → a ≡ b
tells x y a b h i j = eqb-true a b (grind arith)

-- an agreement that a test tells at a number that is none of four
agrees : (d a b p q : ℕ) (x y : Bool) → ((((d == a) || (d == b)) || ((d == p) || (d == q))) || cond x y (not y)) ≡ true → (d ≡ a → ⊥) → (d ≡ b → ⊥) → (d ≡ p → ⊥) → (d ≡ q → ⊥) → x ≡ y
agrees d a b p q x y h i j k l = agrees-test x y (rw (ne_eqb d a i, ne_eqb d b j, ne_eqb d p k, ne_eqb d q l) at h)

-- darts of one vertex, computed
bond4-vertex : (c d : ℕ) → c < 8 → reaches 8 bond4 c d ≡ true → same_vertex 4 bond4 c d ≡ true
bond4-vertex c d l h = orbit-reaches 8 bond4 bond4_back bond4-map c d l ∙ h

-- the run of the front edges at each vertex ends with 2 and with 1, and begins behind 6 and behind 5
bond4-flip : IsFlip 4 bond4 bond4_flipped front_edges 2 6 1 5
unfolding bond4 bond4_flipped front_edges twin
bond4-flip = record {
  first_run = record { last_dart = omega arith; dart_before = omega arith; last_inside = refl; leaves = refl; before_outside = refl; enters = refl; one_vertex = bond4-vertex 2 6 (omega arith) refl };
  second_run = record { last_dart = omega arith; dart_before = omega arith; last_inside = refl; leaves = refl; before_outside = refl; enters = refl; one_vertex = bond4-vertex 1 5 (omega arith) refl };
  two_vertices = orbit-reaches 8 bond4 bond4_back bond4-map 2 1 (omega arith) ∙ refl;
  whole_edges = λ d l. agrees-test (front_edges (twin d)) (front_edges d) (below 8 (λ c. cond (front_edges (twin c)) (front_edges c) (not (front_edges c))) refl d l);
  no_other_runs = λ d l i j k o. agrees d 2 6 1 5 (front_edges (bond4 d)) (front_edges d) (below 8 (λ c. (((c == 2) || (c == 6)) || ((c == 1) || (c == 5))) || cond (front_edges (bond4 c)) (front_edges c) (not (front_edges c))) refl d l) i j k o;
  outside_stays = λ d l i j. tells (front_edges d) (front_edges (bond4 d)) (bond4_flipped d) (bond4 d) (below 8 (λ c. front_edges c || (front_edges (bond4 c) || (bond4_flipped c == bond4 c))) refl d l) i j;
  inside_turns = λ d l i j. tells (not (front_edges d)) (not (front_edges (bond4 d))) (bond4_flipped (bond4 d)) d (below 8 (λ c. not (front_edges c) || (not (front_edges (bond4 c)) || (bond4_flipped (bond4 c) == c))) refl d l) (ap not i) (ap not j);
  first_begins = refl;
  first_ends = refl;
  second_begins = refl;
  second_ends = refl;
}

-- so the flipped bond has as many faces
bond4-flip-faces : face_count 4 bond4_flipped ≡ face_count 4 bond4
bond4-flip-faces = flip-faces 4 bond4 bond4_back bond4_flipped bond4-map front_edges 2 6 1 5 bond4-flip

-- an edge 0, then a path along edges 1 and 2 over two vertices with two darts each, and edge 3 from its end on: smoothed,
-- dart 1 takes the place of dart 5, which arrives at the end
path3 : ℕ → ℕ
path3 = table (0 ∷ 2 ∷ 1 ∷ 4 ∷ 3 ∷ 6 ∷ 5 ∷ 7 ∷ [])

-- the darts that arrive, 1 and 3, are followed by those that go on, 2 and 4
path3-thin : IsThin path3 1 (2 ∷ 4 ∷ [])
unfolding path3 twin
path3-thin = (refl, refl, (refl, refl, tt))

-- smoothed
path3-smoothed : first_eight (smoothed 1 (2 ∷ 4 ∷ []) path3) ≡ 0 ∷ 6 ∷ 2 ∷ 3 ∷ 4 ∷ 5 ∷ 1 ∷ 7 ∷ []
unfolding path3 twin smoothed first_eight
path3-smoothed = refl
