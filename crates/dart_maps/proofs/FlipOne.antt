-- Turning over a part that meets the rest at one vertex, or nowhere.
use Rattle.std.proofs.Common.{◌≡◌, ℕ, ◌*◌, ◌<◌, inl, inr, Bool, true, false, sym, ap, ◌∙◌, subst, subst₂, le_of_eq, arith}
use Rattle.std.proofs.lemmas.Bool.{cases_Bool, cases_eq, both_ways}
use Rattle.permutations.specs.Relation.{IsEquivalence}
use Rattle.permutations.specs.Permutation.{orbit_count}
use Rattle.permutations.specs.Exchange.{exchange}
use Rattle.permutations.proofs.Relation.{same-tests}
use Rattle.permutations.proofs.Permutations.{exchange-left, exchange-right, exchange-other, exchange-twice}
use Rattle.permutations.proofs.Orbits.{orbit-least, orbit-equivalence, orbit-step, orbit-ext, orbit-count-ext}
use Rattle.permutations.proofs.Transpositions.{exchange-count-join}
use Rattle.dart_maps.specs.Map.{twin, face, IsMap, same_vertex, same_component, vertex_count, face_count}
use Rattle.dart_maps.proofs.Darts.{twin-below}
use Rattle.dart_maps.proofs.Components.{vertex-component, component-finer}
use Rattle.permutations.proofs.Classes.{class_count-same}
use Rattle.permutations.proofs.TurnedOver.{turned_over, turned-keeps, turned-outside, turned-inside, turned-permutes, turned-orbit}
use Rattle.dart_maps.specs.Flip.{IsRun, IsFlipAtOne, IsFlipAlone}
use Rattle.dart_maps.proofs.Steps.{back_after, step-map, faces-joined}
use Rattle.dart_maps.proofs.TurnOver.{turned-faces, turned-vertices}
use Rattle.dart_maps.proofs.FlipCounts.{test-apart}

-- a map and the map with whole components turned over
module _ (m : ℕ) (f g h : ℕ → ℕ) (e : IsMap m f g) (t : ℕ → Bool) (z : IsFlipAlone m f h t) where
  -- the flipped map is the map turned over
  alone-turned : (d : ℕ) → d < 2 * m → h d ≡ turned_over t f g d
  alone-turned d l = elim (cases_Bool (t d)) [
    | inl k ↦ ap h (sym (e.forth_back d l)) ∙ z.inside_turns (g d) (e.back d l) (sym (z.no_runs (g d) (e.back d l)) ∙ ap t (e.forth_back d l) ∙ k) ∙ sym (turned-inside t f g d k)
    | inr k ↦ z.outside_stays d l k ∙ sym (turned-outside t f g d k)
  ]

  -- it has the same vertices
  pub alone-vertex : (c d : ℕ) → same_vertex m h c d ≡ same_vertex m f c d
  alone-vertex c d = orbit-ext (2 * m) h (turned_over t f g) alone-turned c d ∙ turned-orbit (2 * m) f g e t (z.no_runs) c d

  -- as many faces
  pub alone-faces : face_count m h ≡ face_count m f
  alone-faces = orbit-count-ext (2 * m) (face h) (face (turned_over t f g)) (λ d l. alone-turned (twin d) (twin-below m d l)) ∙ turned-faces m f g e t (z.no_runs) (z.whole_edges)

  -- the same components
  pub alone-component : (c d : ℕ) → same_component m h c d ≡ same_component m f c d
  alone-component c d = same-tests (same_component m h c d) (same_component m f c d)
      (component-finer m h f (λ u l. vertex-component m f u (h u) (sym (alone-vertex u (h u)) ∙ orbit-step (2 * m) h u l)) c d)
      (component-finer m f h (λ u l. vertex-component m h u (f u) (alone-vertex u (f u) ∙ orbit-step (2 * m) f u l)) c d)

-- a map and the map with a part turned over that stands in one run
module _ (m : ℕ) (f g h : ℕ → ℕ) (e : IsMap m f g) (t : ℕ → Bool) (a b : ℕ) (z : IsFlipAtOne m f h t a b) where
  -- the run
  abbrev x : IsRun m f t a b
  x = z.run

  -- the relation of vertices
  v : IsEquivalence (same_vertex m f)
  v = orbit-equivalence (2 * m) f

  -- inside and outside differ
  inside-outside : (c d : ℕ) → t c ≡ true → t d ≡ false → c ≡ d → ⊥
  inside-outside c d i o k = both_ways (t d) o (subst (λ (w : ℕ). t w ≡ true) k i)

  -- the map with the vertex cut
  abbrev cut : ℕ → ℕ
  cut = exchange a b f

  -- its inverse
  abbrev cut_back : ℕ → ℕ
  cut_back = back_after a b g

  -- it is a map
  cut-map : IsMap m (exchange a b f) (back_after a b g)
  cut-map = step-map m f g e a b (x.last_dart) (x.dart_before)

  -- its steps keep the part
  cut-keeps : (d : ℕ) → d < 2 * m → t (exchange a b f d) ≡ t d
  cut-keeps d l = elim (cases_eq d a) [
    | inl i ↦ ap (λ (w : ℕ). t (cut w)) i ∙ ap t (exchange-left a b f) ∙ x.enters ∙ sym (ap t i ∙ x.last_inside)
    | inr i ↦ elim (cases_eq d b) [
      | inl j ↦ ap (λ (w : ℕ). t (cut w)) j ∙ ap t (exchange-right a b f) ∙ x.leaves ∙ sym (ap t j ∙ x.before_outside)
      | inr j ↦ ap t (exchange-other a b f d i j) ∙ z.no_other_runs d l i j
    ]
  ]

  -- the cut map with the part turned over
  abbrev over : ℕ → ℕ
  over = turned_over t (exchange a b f) (back_after a b g)

  -- its inverse
  abbrev over_back : ℕ → ℕ
  over_back = turned_over t (back_after a b g) (exchange a b f)

  -- it is a map, and its steps keep the part
  over-map : IsMap m over over_back
  over-map = turned-permutes (2 * m) cut cut_back cut-map t cut-keeps

  -- its steps keep the part
  over-keeps : (d : ℕ) → d < 2 * m → t (over d) ≡ t d
  over-keeps = turned-keeps (2 * m) cut cut_back cut-map t cut-keeps

  -- the first dart of the run
  first : f b < 2 * m
  first = e.forth b (x.dart_before)

  -- what the map turned over does at the run's ends
  over-first : over (f b) ≡ a
  over-first = turned-inside t cut cut_back (f b) (x.enters) ∙ ap cut_back (sym (exchange-left a b f)) ∙ cut-map.back_forth a (x.last_dart)

  -- at the dart before the run
  over-b : over b ≡ f a
  over-b = turned-outside t cut cut_back b (x.before_outside) ∙ exchange-right a b f

  -- the dart before an inner dart of the run
  module _ (d : ℕ) (l : d < 2 * m) (i : d ≡ f b → ⊥) (k : t d ≡ true) where
    -- the step from it leads to the dart
    there : f (g d) ≡ d
    there = e.forth_back d l

    -- it is neither a nor b
    na : g d ≡ a → ⊥
    na s = inside-outside d (f a) k (x.leaves) (sym there ∙ ap f s)

    -- nor is it b
    nb : g d ≡ b → ⊥
    nb s = i (sym there ∙ ap f s)

    -- so the map turned over goes on to it
    over-before : over d ≡ g d
    over-before = turned-inside t cut cut_back d k ∙ ap cut_back (sym (exchange-other a b f (g d) na nb ∙ there)) ∙ cut-map.back_forth (g d) (e.back d l)

    -- as the flipped map does
    flipped-before : h d ≡ g d
    flipped-before = ap h (sym there) ∙ z.inside_turns (g d) (e.back d l) (sym (z.no_other_runs (g d) (e.back d l) na nb) ∙ ap t there ∙ k) (ap t there ∙ k)

  -- outside
  over-after : (d : ℕ) → d < 2 * m → (d ≡ b → ⊥) → t d ≡ false → (over d ≡ f d) × (h d ≡ f d)
  over-after d l i k = (turned-outside t cut cut_back d k ∙ exchange-other a b f d na i, z.outside_stays d l k (z.no_other_runs d l na i ∙ k))
    where
      na : d ≡ a → ⊥
      na s = inside-outside a d (x.last_inside) k (sym s)

  -- the flipped map is the map turned over, put together again
  flipped-again : (d : ℕ) → d < 2 * m → h d ≡ exchange (f b) b over d
  flipped-again d l = elim (cases_eq d (f b)) [
    | inl k ↦ ap h k ∙ z.ends ∙ sym (ap (exchange (f b) b over) k ∙ exchange-left (f b) b over ∙ over-b)
    | inr k ↦ elim (cases_eq d b) [
      | inl s ↦ ap h s ∙ z.begins ∙ sym (ap (exchange (f b) b over) s ∙ exchange-right (f b) b over ∙ over-first)
      | inr s ↦ same d l k s ∙ sym (exchange-other (f b) b over d k s)
    ]
  ]
    where
      same : (d : ℕ) → d < 2 * m → (d ≡ f b → ⊥) → (d ≡ b → ⊥) → h d ≡ over d
      same d l k s = elim (cases_Bool (t d)) [
        | inl w ↦ flipped-before d l k w ∙ sym (over-before d l k w)
        | inr w ↦ let o = over-after d l s w in o.1 ∙ sym (o.0)
      ]

  -- as many vertices
  pub one-vertices : vertex_count m h ≡ vertex_count m f
  one-vertices = orbit-count-ext (2 * m) h (exchange (f b) b over) flipped-again ∙ counts
    where
      counts : orbit_count (2 * m) (exchange (f b) b over) ≡ orbit_count (2 * m) f
      counts = omega (
        arith,
        ap (orbit_count (2 * m)) (exchange-twice a b f),
        turned-vertices m cut cut_back cut-map t cut-keeps (z.whole_edges),
        exchange-count-join (2 * m) cut cut_back cut-map a b (x.last_dart) (x.dart_before) (test-apart (2 * m) cut t cut-keeps a b (x.last_inside) (x.before_outside)),
        exchange-count-join (2 * m) over over_back over-map (f b) b first (x.dart_before) (test-apart (2 * m) over t over-keeps (f b) b (x.enters) (x.before_outside)),
      )

  -- as many faces
  pub one-faces : face_count m h ≡ face_count m f
  one-faces = orbit-count-ext (2 * m) (face h) (face (exchange (f b) b over)) (λ d l. flipped-again (twin d) (twin-below m d l)) ∙ counts
    where
      cut-faces-keep : (d : ℕ) → d < 2 * m → t (face cut d) ≡ t d
      cut-faces-keep d l = cut-keeps (twin d) (twin-below m d l) ∙ z.whole_edges d l

      over-faces-keep : (d : ℕ) → d < 2 * m → t (face over d) ≡ t d
      over-faces-keep d l = over-keeps (twin d) (twin-below m d l) ∙ z.whole_edges d l

      counts : orbit_count (2 * m) (face (exchange (f b) b over)) ≡ orbit_count (2 * m) (face f)
      counts = omega (
        arith,
        ap (λ (s : ℕ → ℕ). orbit_count (2 * m) (face s)) (exchange-twice a b f),
        turned-faces m cut cut_back cut-map t cut-keeps (z.whole_edges),
        faces-joined m cut cut_back cut-map a b (x.last_dart) (x.dart_before) (test-apart (2 * m) (face cut) t cut-faces-keep (twin a) (twin b) (z.whole_edges a (x.last_dart) ∙ x.last_inside) (z.whole_edges b (x.dart_before) ∙ x.before_outside)),
        faces-joined m over over_back over-map (f b) b first (x.dart_before) (test-apart (2 * m) (face over) t over-faces-keep (twin (f b)) (twin b) (z.whole_edges (f b) first ∙ x.enters) (z.whole_edges b (x.dart_before) ∙ x.before_outside)),
      )

  -- each step of the flipped map stays at the vertex
  one-step : (d : ℕ) → d < 2 * m → same_vertex m f d (h d) ≡ true
  one-step d l = elim (cases_eq d (f b)) [
    | inl k ↦ subst₂ (λ (u w : ℕ). same_vertex m f u w ≡ true) (sym k) (sym (ap h k ∙ z.ends)) (v.transitive (f b) b (f a) (v.symmetric b (f b) (orbit-step (2 * m) f b (x.dart_before))) (v.transitive b a (f a) (v.symmetric a b (x.one_vertex)) (orbit-step (2 * m) f a (x.last_dart))))
    | inr k ↦ elim (cases_eq d b) [
      | inl s ↦ subst₂ (λ (u w : ℕ). same_vertex m f u w ≡ true) (sym s) (sym (ap h s ∙ z.begins)) (v.symmetric a b (x.one_vertex))
      | inr s ↦ elim (cases_Bool (t d)) [
        | inl w ↦ subst (λ (u : ℕ). same_vertex m f d u ≡ true) (sym (flipped-before d l k w)) (v.symmetric (g d) d (subst (λ (u : ℕ). same_vertex m f (g d) u ≡ true) (e.forth_back d l) (orbit-step (2 * m) f (g d) (e.back d l))))
        | inr w ↦ subst (λ (u : ℕ). same_vertex m f d u ≡ true) (sym (over-after d l s w).1) (orbit-step (2 * m) f d l)
      ]
    ]
  ]

  -- the same darts leave each vertex
  pub one-vertex : (c d : ℕ) → c < 2 * m → d < 2 * m → same_vertex m f c d ≡ same_vertex m h c d
  one-vertex = class_count-same (2 * m) (same_vertex m h) (same_vertex m f) (orbit-equivalence (2 * m) h) v
      (orbit-least (2 * m) h (same_vertex m f) v one-step) (le_of_eq one-vertices)

  -- the components are the same
  pub one-component : (c d : ℕ) → same_component m h c d ≡ same_component m f c d
  one-component c d = same-tests (same_component m h c d) (same_component m f c d)
      (component-finer m h f (λ u l. vertex-component m f u (h u) (one-step u l)) c d)
      (component-finer m f h (λ u l. vertex-component m h u (f u) (sym (one-vertex u (f u) l (e.forth u l)) ∙ orbit-step (2 * m) f u l)) c d)
