-- A wheel of four spokes with an edge of its rim contracted, and a plane rotation system of it before and after, computed.
use Rattle.std.proofs.Common.{◌≡◌, ℕ, ◌<◌, ◌⊎◌, inl, inr, Bool, true, false, not, ◌||◌, ◌==◌, List, [], ◌∷◌, refl, arith, eqb-true}
use Rattle.std.proofs.lemmas.Bool.{both_ways, not-false, eq-eqb, ne_eqb, or_cases}
use Rattle.permutations.specs.Count.{some}
use Rattle.permutations.specs.Exchange.{restricted}
use Rattle.permutations.proofs.Search.{some-none}
use Rattle.multigraph.specs.Graph.{Multigraph}
use Rattle.contractions.specs.Contraction.{are_adjacent}
use Rattle.contractions.specs.Contracted.{contracted as contracted_graph, contracted_edge}
use Rattle.dart_maps.specs.Map.{twin}
use Rattle.dart_maps.specs.Changes.{contracted}
use Rattle.faces.specs.Euler.{tail, dart_count, dart_from, face_count}
use Rattle.faces.specs.Maps.{dart_after}
use Rattle.planarity.specs.Expansion.{moved, stays, IsContractedSystem, FallsInRuns}

-- the rim 0, 1, 2, 3, and the hub 4
abbrev pub wheel : Multigraph
wheel = record { vertex_count = 5; ends = (0, 1) ∷ (1, 2) ∷ (2, 3) ∷ (3, 0) ∷ (4, 0) ∷ (4, 1) ∷ (4, 2) ∷ (4, 3) ∷ [] }

-- it drawn with the hub inside the rim
abbrev pub wheel_orders : List (List ℕ)
wheel_orders = (0 ∷ 4 ∷ 3 ∷ []) ∷ (0 ∷ 1 ∷ 5 ∷ []) ∷ (1 ∷ 2 ∷ 6 ∷ []) ∷ (2 ∷ 3 ∷ 7 ∷ []) ∷ (4 ∷ 5 ∷ 6 ∷ 7 ∷ []) ∷ []

-- the complete graph on four vertices, with vertex 3 inside the triangle of the others
abbrev pub four : Multigraph
four = record { vertex_count = 4; ends = (0, 1) ∷ (1, 2) ∷ (2, 0) ∷ (3, 0) ∷ (3, 1) ∷ (3, 2) ∷ [] }

abbrev pub four_orders : List (List ℕ)
four_orders = (0 ∷ 3 ∷ 2 ∷ []) ∷ (0 ∷ 1 ∷ 4 ∷ []) ∷ (1 ∷ 2 ∷ 5 ∷ []) ∷ (3 ∷ 4 ∷ 5 ∷ []) ∷ []

-- it is the wheel with its edge 0, between 0 and 1, contracted
is_four : contracted_graph wheel 0 0 1 ≡ four
is_four = refl

-- the edges of the wheel that it has
abbrev pub edge : ℕ → ℕ
edge = contracted_edge wheel 0 0 1

-- dart 7 of it, from the merged vertex to the hub, is dart 9 of the wheel, from 0 to the hub
moved-seven : moved edge 7 ≡ 9
unfolding moved
moved-seven = refl

-- the darts of the contracted edge stay, those of the spoke that becomes parallel do not
stays-contracted : stays wheel 0 0 1 1 ≡ true
unfolding stays
stays-contracted = refl

stays-parallel : stays wheel 0 0 1 10 ≡ false
unfolding stays
stays-parallel = refl

-- the wheel has five faces, and is plane with five vertices and eight edges; the other graph has four
wheel-faces : face_count wheel wheel_orders ≡ 5
wheel-faces = refl

four-faces : face_count four four_orders ≡ 4
four-faces = refl

-- numbers that differ by computation are not equal
pub differ : (a b : ℕ) → (a == b) ≡ false → a ≡ b → ⊥
differ a b n e = both_ways (a == b) n (eq-eqb a b e)

-- what no number below n fails holds of each
each : (n : ℕ) (t : ℕ → Bool) → some n (λ d. not (t d)) ≡ false → (d : ℕ) → d < n → t d ≡ true
each n t h d l = not-false (t d) (some-none n (λ c. not (t c)) h d l)

-- whether the law of a contracted rotation system holds at dart d
follows_at : List (List ℕ) → ℕ → Bool
follows_at s d = moved edge (dart_after four s d) == contracted (dart_from wheel 0 0) (restricted (dart_count wheel) (stays wheel 0 0 1) (dart_after wheel wheel_orders)) (moved edge d)

-- the one goes round as the other does with the edge contracted
is_contracted : IsContractedSystem wheel four 0 0 1 edge wheel_orders four_orders
unfolding follows_at moved stays restricted contracted twin
is_contracted d l = eqb-true (moved edge (dart_after four four_orders d))
    (contracted (dart_from wheel 0 0) (restricted (dart_count wheel) (stays wheel 0 0 1) (dart_after wheel wheel_orders)) (moved edge d))
    (each 12 (follows_at four_orders) refl d l)

-- its mirror image does not: behind the dart from 0 to 2 comes that to 3, and not that to the hub
not_contracted : IsContractedSystem wheel four 0 0 1 edge wheel_orders ((0 ∷ 2 ∷ 3 ∷ []) ∷ (0 ∷ 4 ∷ 1 ∷ []) ∷ (1 ∷ 5 ∷ 2 ∷ []) ∷ (3 ∷ 5 ∷ 4 ∷ []) ∷ []) → ⊥
unfolding moved stays restricted contracted twin
not_contracted h = differ 7 9 refl (h 0 (omega arith))

-- of three tests one of which passes the third does, where the first two do not
third : (a b c : Bool) → ((not a || b) || c) ≡ true → a ≡ true → b ≡ false → c ≡ true
third a b c h p q = grind arith

-- whether dart d does not leave v in the wheel, or is the last of its run, or is followed by one that leaves v
runs_on : ℕ → (ℕ → Bool) → ℕ → Bool
runs_on v is_last d = (not (tail wheel (moved edge d) == v) || is_last d) || (tail wheel (moved edge (dart_after four four_orders d)) == v)

-- where this holds of all darts, those that leave v stand together
runs : (v : ℕ) (is_last : ℕ → Bool) → some 12 (λ d. not (runs_on v is_last d)) ≡ false → (d : ℕ) → d < 12 → tail wheel (moved edge d) ≡ v → is_last d ≡ false → tail wheel (moved edge (dart_after four four_orders d)) ≡ v
unfolding runs_on
runs v is_last h d l t n = eqb-true (tail wheel (moved edge (dart_after four four_orders d))) v
    (third (tail wheel (moved edge d) == v) (is_last d) (tail wheel (moved edge (dart_after four four_orders d)) == v) (each 12 (runs_on v is_last) h d l) (eq-eqb (tail wheel (moved edge d)) v t) n)

-- whether dart d does not leave 0 in the wheel, or leads to no neighbour of 1, or is dart 7 or dart 5
is_outer : ℕ → Bool
is_outer d = (not (tail wheel (moved edge d) == 0) || not (are_adjacent wheel 1 (tail wheel (twin (moved edge d))))) || ((d == 7) || (d == 5))

-- round the merged vertex the darts of 0 are 7 and 5, that of 1 is dart 0; and the hub, the common neighbour, is the first of
-- the one run
falls : FallsInRuns wheel four 0 1 edge four_orders 7 5
unfolding moved twin runs_on is_outer
falls = record {
  first_dart = omega arith;
  last_dart = omega arith;
  first_leaves = refl;
  last_leaves = refl;
  two = λ e. absurd (omega arith);
  before_first = refl;
  after_last = refl;
  run_of_x = λ d l t n. runs 0 (λ c. c == 5) refl d l t (ne_eqb d 5 n);
  run_of_y = λ d l t n. runs 1 (λ c. dart_after four four_orders c == 7) refl d l t (ne_eqb (dart_after four four_orders d) 7 n);
  common = outer;
}
  where
    outer : (d : ℕ) → d < 12 → tail wheel (moved edge d) ≡ 0 → are_adjacent wheel 1 (tail wheel (twin (moved edge d))) ≡ true → (d ≡ 7) ⊎ (d ≡ 5)
    outer d l t j = elim (or_cases (d == 7) (d == 5) (third (tail wheel (moved edge d) == 0) (not (are_adjacent wheel 1 (tail wheel (twin (moved edge d))))) ((d == 7) || (d == 5)) (each 12 is_outer refl d l) (eq-eqb (tail wheel (moved edge d)) 0 t) (rw j refl))) [
      | inl e ↦ inl (eqb-true d 7 e)
      | inr e ↦ inr (eqb-true d 5 e)
    ]

-- from 5 to 7 there is no such run: before dart 5 comes dart 7, which leaves 0 and not 1
not_falls : FallsInRuns wheel four 0 1 edge four_orders 5 7 → ⊥
unfolding moved
not_falls h = differ 0 1 refl h.before_first
