-- The darts of a graph with an edge contracted, as darts of the graph.
use Rattle.std.proofs.Common.{◌≡◌, ℕ, ◌*◌, ◌/◌, ◌%◌, ◌<◌, ◌⊎◌, inl, inr, true, false, not, ◌||◌, ◌==◌, sym, ap, ◌∙◌, arith}
use Rattle.std.proofs.lemmas.Bool.{false_from_ne_true, cases_Bool, cases_eq, both_ways, and_parts, not-true, eq-eqb, ne_eqb, or_left, or_right, or_from}
use Rattle.permutations.proofs.Search.{some-from}
use Rattle.multigraph.specs.Graph.{Multigraph, IsGraph, edge_count, ends_of, other_end}
use Rattle.contractions.specs.Contraction.{is_kept, IsContraction}
use Rattle.dart_maps.specs.Map.{twin}
use Rattle.dart_maps.proofs.Darts.{twin-cases, twin-edge, edge-twin}
use Rattle.faces.specs.Euler.{tail, dart_from, dart_count}
use Rattle.faces.proofs.DartLemmas.{dart-edge, tail-even, tail-odd, dart_from-edge, dart_from-below, dart_from-tail}
use Rattle.faces.proofs.MapSteps.{tail-twin}
use Rattle.faces.proofs.MapParts.{place, place-edge}
use Rattle.planarity.specs.Expansion.{moved, stays}
use Rattle.planarity.proofs.SimpleDarts.{tail-other}

-- a dart keeps its side when its edge takes another number
pub moved-edge : (edge : ℕ → ℕ) (d : ℕ) → moved edge d / 2 ≡ edge (d / 2)
unfolding moved
moved-edge edge d = omega arith

pub moved-end : (edge : ℕ → ℕ) (d : ℕ) → moved edge d % 2 ≡ d % 2
unfolding moved
moved-end edge d = omega arith

pub moved-below : (edge : ℕ → ℕ) (d n : ℕ) → edge (d / 2) < n → moved edge d < 2 * n
unfolding moved
moved-below edge d n l = omega arith

-- numbers that lead back lead darts back
pub moved-back : (edge back : ℕ → ℕ) (d : ℕ) → edge (back (d / 2)) ≡ d / 2 → moved edge (moved back d) ≡ d
moved-back edge back d h =
    let halves : edge (moved back d / 2) ≡ d / 2 = ap edge (moved-edge back d) ∙ h in
    omega (arith, halves, moved-edge edge (moved back d), moved-end edge (moved back d), moved-end back d)

-- twins go to twins
pub moved-twin : (edge : ℕ → ℕ) (d : ℕ) → moved edge (twin d) ≡ twin (moved edge d)
moved-twin edge d = elim (twin-cases d) [
  | inl a ↦ elim (twin-cases (moved edge d)) [
    | inl b ↦ omega (arith, a.0, a.1, b.0, b.1, halves, moved-edge edge d, moved-edge edge (twin d), moved-end edge d, moved-end edge (twin d))
    | inr b ↦ omega (arith, a.0, a.1, b.0, b.1, halves, moved-edge edge d, moved-edge edge (twin d), moved-end edge d, moved-end edge (twin d))
  ]
  | inr a ↦ elim (twin-cases (moved edge d)) [
    | inl b ↦ omega (arith, a.0, a.1, b.0, b.1, halves, moved-edge edge d, moved-edge edge (twin d), moved-end edge d, moved-end edge (twin d))
    | inr b ↦ omega (arith, a.0, a.1, b.0, b.1, halves, moved-edge edge d, moved-edge edge (twin d), moved-end edge d, moved-end edge (twin d))
  ]
]
  where
    halves : edge (twin d / 2) ≡ edge (d / 2)
    halves = ap edge (twin-edge d)

-- what stays
pub stays-edge : (g : Multigraph) (e x y d : ℕ) → d / 2 ≡ e → stays g e x y d ≡ true
unfolding stays
stays-edge g e x y d q = or_left (d / 2 == e) (is_kept g e x y (d / 2)) (eq-eqb (d / 2) e q)

pub stays-kept : (g : Multigraph) (e x y d : ℕ) → is_kept g e x y (d / 2) ≡ true → stays g e x y d ≡ true
unfolding stays
stays-kept g e x y d q = or_right (d / 2 == e) (is_kept g e x y (d / 2)) q

pub stays-not : (g : Multigraph) (e x y d : ℕ) → (d / 2 ≡ e → ⊥) → is_kept g e x y (d / 2) ≡ false → stays g e x y d ≡ false
unfolding stays
stays-not g e x y d n q = or_from (d / 2 == e) (is_kept g e x y (d / 2)) (ne_eqb (d / 2) e n) q

pub stays-off : (g : Multigraph) (e x y d : ℕ) → stays g e x y d ≡ true → (d / 2 ≡ e → ⊥) → is_kept g e x y (d / 2) ≡ true
unfolding stays
stays-off g e x y d h n = elim (cases_Bool (is_kept g e x y (d / 2))) [
  | inl t ↦ t
  | inr t ↦ absurd (both_ways ((d / 2 == e) || is_kept g e x y (d / 2)) (or_from (d / 2 == e) (is_kept g e x y (d / 2)) (ne_eqb (d / 2) e n) t) h)
]

-- what does not stay is of another edge, which is not kept
pub stays-gone : (g : Multigraph) (e x y d : ℕ) → stays g e x y d ≡ false → (d / 2 ≡ e → ⊥) × (is_kept g e x y (d / 2) ≡ false)
stays-gone g e x y d h = (
  λ q. both_ways (stays g e x y d) h (stays-edge g e x y d q),
  false_from_ne_true (is_kept g e x y (d / 2)) (λ t. both_ways (stays g e x y d) h (stays-kept g e x y d t)),
)

-- both darts of an edge stay, or neither
pub stays-twin : (g : Multigraph) (e x y d : ℕ) → stays g e x y (twin d) ≡ stays g e x y d
unfolding stays
stays-twin g e x y d = ap (λ f. (f == e) || is_kept g e x y f) (twin-edge d)

-- the contracted edge itself is not kept
pub contracted-not_kept : (g : Multigraph) (e x y f : ℕ) → is_kept g e x y f ≡ true → f ≡ e → ⊥
contracted-not_kept g e x y f h q = both_ways (f == e) (not-true (f == e) (and_parts (not (f == e)) _ h).0) (eq-eqb f e q)

-- a graph and the graph with an edge contracted
module _ (g h : Multigraph) (e x y : ℕ) (edge vertex : ℕ → ℕ) (ok : IsGraph g) (con : IsContraction g h e x y edge vertex) where
  pub middle-below : dart_from g x e < dart_count g
  middle-below = dart_from-below g x e con.edge_in

  pub middle-tail : tail g (dart_from g x e) ≡ x
  middle-tail = dart_from-tail g x e con.first_end

  pub middle-twin : tail g (twin (dart_from g x e)) ≡ y
  middle-twin = tail-twin g (dart_from g x e) ok middle-below ∙ ap (λ f. other_end g f (tail g (dart_from g x e))) (dart_from-edge g x e) ∙ ap (other_end g e) middle-tail ∙ con.second_end

  -- each dart of it is that one or its twin
  pub middle-cases : (d : ℕ) → d / 2 ≡ e → (d ≡ dart_from g x e) ⊎ (d ≡ twin (dart_from g x e))
  middle-cases d q = edge-twin d (dart_from g x e) (q ∙ sym (dart_from-edge g x e))

  -- no other dart is
  pub middle-not : (d : ℕ) → (d / 2 ≡ e → ⊥) → (d ≡ dart_from g x e → ⊥) × (d ≡ twin (dart_from g x e) → ⊥)
  middle-not d n = (
    λ q. n (ap (λ z. z / 2) q ∙ dart_from-edge g x e),
    λ q. n (ap (λ z. z / 2) q ∙ twin-edge (dart_from g x e) ∙ dart_from-edge g x e),
  )

  -- and the ends of the edge are different
  pub ends-differ : x ≡ y → ⊥
  ends-differ q = tail-other g (dart_from g x e) ok middle-below (middle-twin ∙ sym q ∙ sym middle-tail)

  -- a dart of the contracted graph is one of a kept edge
  pub moved-in : (d : ℕ) → d < dart_count h → moved edge d < dart_count g
  moved-in d l = moved-below edge d (edge_count g) (con.edges (d / 2) (dart-edge h d l))

  pub moved-kept : (d : ℕ) → d < dart_count h → is_kept g e x y (moved edge d / 2) ≡ true
  moved-kept d l = ap (is_kept g e x y) (moved-edge edge d) ∙ con.edges_kept (d / 2) (dart-edge h d l)

  -- and leaves what has become of its vertex
  pub moved-tail : (d : ℕ) → d < dart_count h → tail h d ≡ vertex (tail g (moved edge d))
  moved-tail d l = elim (cases_eq (d % 2) 0) [
    | inl q ↦ tail-even h d q ∙ con.first_ends (d / 2) (dart-edge h d l) ∙ ap (λ f. vertex (ends_of g f).0) (sym (moved-edge edge d)) ∙ ap vertex (sym (tail-even g (moved edge d) (moved-end edge d ∙ q)))
    | inr n ↦ tail-odd h d n ∙ con.second_ends (d / 2) (dart-edge h d l) ∙ ap (λ f. vertex (ends_of g f).1) (sym (moved-edge edge d)) ∙ ap vertex (sym (tail-odd g (moved edge d) (λ q. n (sym (moved-end edge d) ∙ q))))
  ]

  -- each kept edge has its number in the contracted graph
  pub place-kept : (f : ℕ) → f < edge_count g → is_kept g e x y f ≡ true → (place h edge f < edge_count h) × (edge (place h edge f) ≡ f)
  place-kept f l k =
      let w = con.edges_met f l k in
      place-edge h edge f (some-from (edge_count h) (λ i. edge i == f) w.0 w.1 (eq-eqb (edge w.0) f w.2))

  -- so each dart of a kept edge is a dart of the contracted graph
  pub placed-in : (d : ℕ) → d < dart_count g → is_kept g e x y (d / 2) ≡ true → moved (place h edge) d < dart_count h
  placed-in d l k = moved-below (place h edge) d (edge_count h) (place-kept (d / 2) (dart-edge g d l) k).0

  pub placed-back : (d : ℕ) → d < dart_count g → is_kept g e x y (d / 2) ≡ true → moved edge (moved (place h edge) d) ≡ d
  placed-back d l k = moved-back edge (place h edge) d (place-kept (d / 2) (dart-edge g d l) k).1

  pub back-placed : (d : ℕ) → d < dart_count h → moved (place h edge) (moved edge d) ≡ d
  back-placed d l = moved-back (place h edge) edge d (con.edges_once (place h edge (edge (d / 2))) (d / 2) w.0 (dart-edge h d l) w.1)
    where
      w : (place h edge (edge (d / 2)) < edge_count h) × (edge (place h edge (edge (d / 2))) ≡ edge (d / 2))
      w = place-kept (edge (d / 2)) (con.edges (d / 2) (dart-edge h d l)) (con.edges_kept (d / 2) (dart-edge h d l))
