-- Small maps, computed: the complete graph on four vertices in the plane, two crossing loops, a bond of three edges.
use Rattle.std.proofs.Common.{◌≡◌, ℕ, ◌+◌, ◌*◌, ◌<◌, inl, inr, Bool, true, false, not, ◌&&◌, ◌||◌, ◌==◌, ltb, List, [], ◌∷◌, get_or, refl, sym, ◌∙◌, subst, arith, eqb-true, ltb-true, lt-ltb, le-ltb}
use Rattle.std.proofs.lemmas.Bool.{cases_lt, and_parts, or_cases, not-false}
use Rattle.permutations.specs.Count.{some}
use Rattle.permutations.specs.Relation.{leads}
use Rattle.permutations.proofs.Count.{count-ext}
use Rattle.permutations.proofs.Search.{some-none}
use Rattle.permutations.proofs.Leaders.{leads-from, not-leads}
use Rattle.permutations.proofs.Computed.{permutes-computed, orbit-count-computed}
use Rattle.dart_maps.specs.Map.{twin, face, IsMap, same_component, vertex_count, face_count, component_count, IsPlane}
use Rattle.dart_maps.proofs.Darts.{face-permutes}
use Rattle.dart_maps.proofs.Components.{component-equivalence, component-next, component-twin}
use Rattle.dart_maps.proofs.Bond.{count-under}

-- the function that a table tells
abbrev pub table : List ℕ → ℕ → ℕ
table l x = get_or l x 0

-- whether each of a list of darts is followed or has its twin as the next of the list
abbrev is_trail : ℕ → (ℕ → ℕ) → ℕ → List ℕ → Bool
is_trail m next d [] = true
is_trail m next d (c ∷ l) = (ltb d (2 * m) && ((next d == c) || (twin d == c))) && is_trail m next c l

-- whether a dart is on the list
abbrev on_trail : ℕ → List ℕ → Bool
on_trail c [] = false
on_trail c (d ∷ l) = (d == c) || on_trail c l

-- one step of a trail
trail-step : (m : ℕ) (next : ℕ → ℕ) (d c : ℕ) → (ltb d (2 * m) && ((next d == c) || (twin d == c))) ≡ true → same_component m next d c ≡ true
trail-step m next d c h = let w = and_parts (ltb d (2 * m)) ((next d == c) || (twin d == c)) h in let l : d < 2 * m = ltb-true d (2 * m) w.0 in
    elim (or_cases (next d == c) (twin d == c) w.1) [
      | inl e ↦ subst (λ (z : ℕ). same_component m next d z ≡ true) (eqb-true (next d) c e) (component-next m next d l)
      | inr e ↦ subst (λ (z : ℕ). same_component m next d z ≡ true) (eqb-true (twin d) c e) (component-twin m next d l)
    ]

-- all darts of a trail are in one component
trail : (m : ℕ) (next : ℕ → ℕ) (d c : ℕ) (l : List ℕ) → is_trail m next d l ≡ true → on_trail c (d ∷ l) ≡ true → same_component m next d c ≡ true
trail m next d c [] t h = elim (or_cases (d == c) false h) [
  | inl e ↦ subst (λ (z : ℕ). same_component m next d z ≡ true) (eqb-true d c e) ((component-equivalence m next).reflexive d)
  | inr e ↦ absurd (refute e)
]
  where
    refute : false ≡ true → ⊥
    refute e = grind arith
trail m next d c (b ∷ l) t h = elim (or_cases (d == c) (on_trail c (b ∷ l)) h) [
  | inl e ↦ subst (λ (z : ℕ). same_component m next d z ≡ true) (eqb-true d c e) ((component-equivalence m next).reflexive d)
  | inr e ↦ let w = and_parts (ltb d (2 * m) && ((next d == b) || (twin d == b))) (is_trail m next b l) t in
      (component-equivalence m next).transitive d b c (trail-step m next d b w.0) (trail m next b c l w.1 e)
]

-- a map with a trail through all darts has one component
one-component : (m : ℕ) (next : ℕ → ℕ) (l : List ℕ) → 0 < m → is_trail m next 0 l ≡ true → some (2 * m) (λ c. not (on_trail c (0 ∷ l))) ≡ false → component_count m next ≡ 1
one-component m next l k t h = count-ext (2 * m) (leads (same_component m next)) (λ d. ltb d 1) (λ d j. elim (cases_lt d 1) [
  | inl i ↦ leads-from (same_component m next) d (λ y o. absurd (omega arith)) ∙ sym (lt-ltb d 1 i)
  | inr i ↦ not-leads (same_component m next) d 0 (omega arith) (trail m next 0 d l t (not-false (on_trail d (0 ∷ l)) (some-none (2 * m) (λ c. not (on_trail c (0 ∷ l))) h d j))) ∙ sym (le-ltb d 1 i)
]) ∙ count-under (2 * m) 1 (omega arith)

-- the complete graph on four vertices: edges 0-1, 0-2, 0-3, 1-2, 1-3, 2-3, drawn without crossings
unfoldable pub k4 : ℕ → ℕ
k4 = table (2 ∷ 8 ∷ 4 ∷ 7 ∷ 0 ∷ 11 ∷ 1 ∷ 10 ∷ 6 ∷ 5 ∷ 3 ∷ 9 ∷ [])

-- its inverse
k4_back : ℕ → ℕ
k4_back = table (4 ∷ 6 ∷ 0 ∷ 10 ∷ 2 ∷ 9 ∷ 8 ∷ 3 ∷ 1 ∷ 11 ∷ 7 ∷ 5 ∷ [])

-- it is a map
k4-map : IsMap 6 k4 k4_back
unfolding k4 k4_back
k4-map = permutes-computed 12 k4 k4_back refl

-- it has four vertices
k4-vertices : vertex_count 6 k4 ≡ 4
unfolding k4 k4_back
k4-vertices = orbit-count-computed 12 k4 k4_back k4-map ∙ refl

-- four faces
k4-faces : face_count 6 k4 ≡ 4
unfolding k4 k4_back twin
k4-faces = orbit-count-computed 12 (face k4) (λ d. twin (k4_back d)) (face-permutes 6 k4 k4_back k4-map) ∙ refl

-- one component
k4-components : component_count 6 k4 ≡ 1
unfolding k4 twin
k4-components = one-component 6 k4 (2 ∷ 4 ∷ 5 ∷ 11 ∷ 9 ∷ 8 ∷ 6 ∷ 1 ∷ 8 ∷ 6 ∷ 7 ∷ 10 ∷ 3 ∷ []) (omega arith) refl refl

-- so it is plane: 4 + 4 = 6 + 2
k4-plane : IsPlane 6 k4
k4-plane = omega (arith, k4-vertices, k4-faces, k4-components)

-- two loops at one vertex that cross there
crossed_loops : ℕ → ℕ
crossed_loops = table (2 ∷ 3 ∷ 1 ∷ 0 ∷ [])

-- the inverse
crossed_loops_back : ℕ → ℕ
crossed_loops_back = table (3 ∷ 2 ∷ 0 ∷ 1 ∷ [])

-- it is a map
loops-map : IsMap 2 crossed_loops crossed_loops_back
unfolding crossed_loops crossed_loops_back
loops-map = permutes-computed 4 crossed_loops crossed_loops_back refl

-- with one vertex, one face and one component: it wants two for Euler's sum, so it is drawn on a torus
loops-defect : vertex_count 2 crossed_loops + face_count 2 crossed_loops + 2 ≡ 2 + 2 * component_count 2 crossed_loops
unfolding crossed_loops crossed_loops_back twin
loops-defect = omega (arith, v, f, c)
  where
    v : vertex_count 2 crossed_loops ≡ 1
    v = orbit-count-computed 4 crossed_loops crossed_loops_back loops-map ∙ refl

    f : face_count 2 crossed_loops ≡ 1
    f = orbit-count-computed 4 (face crossed_loops) (λ d. twin (crossed_loops_back d)) (face-permutes 2 crossed_loops crossed_loops_back loops-map) ∙ refl

    c : component_count 2 crossed_loops ≡ 1
    c = one-component 2 crossed_loops (2 ∷ 1 ∷ 3 ∷ []) (omega arith) refl refl

-- three edges between two vertices, in opposite orders at the two
bond : ℕ → ℕ
bond = table (2 ∷ 5 ∷ 4 ∷ 1 ∷ 0 ∷ 3 ∷ [])

-- the inverse
bond_back : ℕ → ℕ
bond_back = table (4 ∷ 3 ∷ 0 ∷ 5 ∷ 2 ∷ 1 ∷ [])

-- it is a map
bond-map : IsMap 3 bond bond_back
unfolding bond bond_back
bond-map = permutes-computed 6 bond bond_back refl

-- with two vertices and three faces: it is plane
bond-is-plane : IsPlane 3 bond
unfolding bond bond_back twin
bond-is-plane = omega (arith, v, f, c)
  where
    v : vertex_count 3 bond ≡ 2
    v = orbit-count-computed 6 bond bond_back bond-map ∙ refl

    f : face_count 3 bond ≡ 3
    f = orbit-count-computed 6 (face bond) (λ d. twin (bond_back d)) (face-permutes 3 bond bond_back bond-map) ∙ refl

    c : component_count 3 bond ≡ 1
    c = one-component 3 bond (2 ∷ 4 ∷ 5 ∷ 3 ∷ 1 ∷ []) (omega arith) refl refl
