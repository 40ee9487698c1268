-- Turning over a part of a map that meets the rest at two vertices keeps vertices, components and the number of faces.
use Rattle.std.proofs.Common.{◌≡◌, ℕ, ◌*◌, ◌<◌, inl, inr, Bool, true, false, ◌&&◌, sym, ap, ap₂, ◌∙◌, subst, subst₂, le_of_eq, arith}
use Rattle.std.proofs.lemmas.Bool.{cases_Bool, cases_eq, both_ways}
use Rattle.permutations.specs.Relation.{IsEquivalence}
use Rattle.permutations.specs.Permutation.{Permutes, orbit_count}
use Rattle.permutations.specs.Exchange.{exchange}
use Rattle.permutations.proofs.Relation.{same-tests}
use Rattle.permutations.proofs.Classes.{class_count-ext}
use Rattle.permutations.proofs.Permutations.{permutes-one-to-one, exchange-left, exchange-right, exchange-other, exchange-twice}
use Rattle.permutations.proofs.Orbits.{orbit-least, orbit-equivalence, orbit-step, orbit-count-ext}
use Rattle.dart_maps.specs.Map.{twin, face, IsMap, same_vertex, same_face, same_component, vertex_count, face_count, SameDefect}
use Rattle.dart_maps.proofs.Darts.{twin-twin, twin-below, face-permutes, face-exchange, face-twin}
use Rattle.dart_maps.proofs.Components.{vertex-component, component-finer}
use Rattle.permutations.proofs.Classes.{class_count-same}
use Rattle.permutations.proofs.TurnedOver.{turned_over, turned-keeps, turned-outside, turned-inside, turned-permutes, turned-orbit}
use Rattle.dart_maps.specs.Flip.{IsRun, IsFlip}
use Rattle.dart_maps.proofs.Steps.{back_after, step-map}
use Rattle.dart_maps.proofs.FlipCounts.{orbit-shift, count-exchange-together, count-exchange-apart, count-exchange-both}
use Rattle.dart_maps.proofs.TurnOver.{crossed, crossed-inside, crossed-outside, turned-face, turned-faces, turned-vertices}

-- a map, a part of it, and the map with the part turned over
module _ (m : ℕ) (f g h : ℕ → ℕ) (e : IsMap m f g) (t : ℕ → Bool) (a b p q : ℕ) (z : IsFlip m f h t a b p q) where
  -- one run and the other
  abbrev x : IsRun m f t a b
  x = z.first_run

  -- the second run
  abbrev y : IsRun m f t p q
  y = z.second_run

  -- inside and outside differ
  inside-outside : (c d : ℕ) → t c ≡ true → t d ≡ false → c ≡ d → ⊥
  inside-outside c d i o k = both_ways (t d) o (subst (λ (w : ℕ). t w ≡ true) k i)

  -- the runs are at different vertices
  v : IsEquivalence (same_vertex m f)
  v = orbit-equivalence (2 * m) f

  -- so their last darts are different
  ap-differ : a ≡ p → ⊥
  ap-differ k = both_ways (same_vertex m f a p) (z.two_vertices) (subst (λ (w : ℕ). same_vertex m f a w ≡ true) k (v.reflexive a))

  -- and the darts before them
  bq-differ : b ≡ q → ⊥
  bq-differ k = both_ways (same_vertex m f a p) (z.two_vertices) (v.transitive a b p (x.one_vertex) (subst (λ (w : ℕ). same_vertex m f w p ≡ true) (sym k) (v.symmetric p q (y.one_vertex))))

  -- the map with both vertices cut into their parts inside and outside
  abbrev cut : ℕ → ℕ
  cut = exchange a b (exchange p q f)

  -- its inverse
  abbrev cut_back : ℕ → ℕ
  cut_back = back_after a b (back_after p q g)

  -- it is a map
  cut-map : IsMap m (exchange a b (exchange p q f)) (back_after a b (back_after p q g))
  cut-map = step-map m (exchange p q f) (back_after p q g) (step-map m f g e p q (y.last_dart) (y.dart_before)) a b (x.last_dart) (x.dart_before)

  -- what follows the four darts in it
  cut-a : cut a ≡ f b
  cut-a = exchange-left a b (exchange p q f) ∙ exchange-other p q f b (λ k. inside-outside p b (y.last_inside) (x.before_outside) (sym k)) bq-differ

  -- at the dart before the first run
  cut-b : cut b ≡ f a
  cut-b = exchange-right a b (exchange p q f) ∙ exchange-other p q f a ap-differ (inside-outside a q (x.last_inside) (y.before_outside))

  -- at the last dart of the second run
  cut-p : cut p ≡ f q
  cut-p = exchange-other a b (exchange p q f) p (λ k. ap-differ (sym k)) (inside-outside p b (y.last_inside) (x.before_outside)) ∙ exchange-left p q f

  -- at the dart before it
  cut-q : cut q ≡ f p
  cut-q = exchange-other a b (exchange p q f) q (λ k. inside-outside a q (x.last_inside) (y.before_outside) (sym k)) (λ k. bq-differ (sym k)) ∙ exchange-right p q f

  -- and all others
  cut-other : (d : ℕ) → (d ≡ a → ⊥) → (d ≡ b → ⊥) → (d ≡ p → ⊥) → (d ≡ q → ⊥) → cut d ≡ f d
  cut-other d i j k l = exchange-other a b (exchange p q f) d i j ∙ exchange-other p q f d k l

  -- its steps keep the part
  cut-keeps : (d : ℕ) → d < 2 * m → t (exchange a b (exchange p q f) d) ≡ t d
  cut-keeps d l = elim (cases_eq d a) [
    | inl i ↦ ap (λ (w : ℕ). t (cut w)) i ∙ ap t cut-a ∙ x.enters ∙ sym (ap t i ∙ x.last_inside)
    | inr i ↦ elim (cases_eq d b) [
      | inl j ↦ ap (λ (w : ℕ). t (cut w)) j ∙ ap t cut-b ∙ x.leaves ∙ sym (ap t j ∙ x.before_outside)
      | inr j ↦ elim (cases_eq d p) [
        | inl k ↦ ap (λ (w : ℕ). t (cut w)) k ∙ ap t cut-p ∙ y.enters ∙ sym (ap t k ∙ y.last_inside)
        | inr k ↦ elim (cases_eq d q) [
          | inl s ↦ ap (λ (w : ℕ). t (cut w)) s ∙ ap t cut-q ∙ y.leaves ∙ sym (ap t s ∙ y.before_outside)
          | inr s ↦ ap t (cut-other d i j k s) ∙ z.no_other_runs d l i j k s
        ]
      ]
    ]
  ]

  -- the cut map with the part turned over
  abbrev over : ℕ → ℕ
  over = turned_over t (exchange a b (exchange p q f)) (back_after a b (back_after p q g))

  -- its inverse
  abbrev over_back : ℕ → ℕ
  over_back = turned_over t (back_after a b (back_after p q g)) (exchange a b (exchange p q f))

  -- it is a map, and its steps keep the part
  over-map : IsMap m over over_back
  over-map = turned-permutes (2 * m) cut cut_back cut-map t cut-keeps

  -- its steps keep the part
  over-keeps : (d : ℕ) → d < 2 * m → t (over d) ≡ t d
  over-keeps = turned-keeps (2 * m) cut cut_back cut-map t cut-keeps

  -- the first darts of the runs
  first-x : f b < 2 * m
  first-x = e.forth b (x.dart_before)

  -- of the second run
  first-y : f q < 2 * m
  first-y = e.forth q (y.dart_before)

  -- what it does at the runs' ends
  over-first-x : over (f b) ≡ a
  over-first-x = turned-inside t cut cut_back (f b) (x.enters) ∙ ap cut_back (sym cut-a) ∙ cut-map.back_forth a (x.last_dart)

  -- at the first dart of the second run
  over-first-y : over (f q) ≡ p
  over-first-y = turned-inside t cut cut_back (f q) (y.enters) ∙ ap cut_back (sym cut-p) ∙ cut-map.back_forth p (y.last_dart)

  -- at the dart before the first run
  over-b : over b ≡ f a
  over-b = turned-outside t cut cut_back b (x.before_outside) ∙ cut-b

  -- at the dart before the second run
  over-q : over q ≡ f p
  over-q = turned-outside t cut cut_back q (y.before_outside) ∙ cut-q

  -- both vertices put together again
  abbrev again : ℕ → ℕ
  again = exchange (f q) q (exchange (f b) b over)

  -- the two first darts are different
  firsts : f b ≡ f q → ⊥
  firsts k = bq-differ (permutes-one-to-one (2 * m) f g e b q (x.dart_before) (y.dart_before) k)

  -- the dart before an inner dart of a run
  module _ (d : ℕ) (l : d < 2 * m) (i : d ≡ f b → ⊥) (j : d ≡ f q → ⊥) (k : t d ≡ true) where
    -- the step from it leads to the dart
    there : f (g d) ≡ d
    there = e.forth_back d l

    -- it is none of the four
    na : g d ≡ a → ⊥
    na s = inside-outside d (f a) k (x.leaves) (sym there ∙ ap f s)

    -- nor the dart before the first run
    nb : g d ≡ b → ⊥
    nb s = i (sym there ∙ ap f s)

    -- nor the last dart of the second
    np : g d ≡ p → ⊥
    np s = inside-outside d (f p) k (y.leaves) (sym there ∙ ap f s)

    -- nor the dart before that
    nq : g d ≡ q → ⊥
    nq s = j (sym there ∙ ap f s)

    -- so it is inside
    before-inside : t (g d) ≡ true
    before-inside = sym (z.no_other_runs (g d) (e.back d l) na nb np nq) ∙ ap t there ∙ k

    -- and the map turned over goes on to it
    over-before : over d ≡ g d
    over-before = turned-inside t cut cut_back d k ∙ ap cut_back (sym (cut-other (g d) na nb np nq ∙ there)) ∙ cut-map.back_forth (g d) (e.back d l)

    -- as the flipped map does
    flipped-before : h d ≡ g d
    flipped-before = ap h (sym there) ∙ z.inside_turns (g d) (e.back d l) before-inside (ap t there ∙ k)

  -- outside
  over-after : (d : ℕ) → d < 2 * m → (d ≡ b → ⊥) → (d ≡ q → ⊥) → t d ≡ false → (over d ≡ f d) × (h d ≡ f d)
  over-after d l i j k = (turned-outside t cut cut_back d k ∙ cut-other d na i np j, z.outside_stays d l k (z.no_other_runs d l na i np j ∙ k))
    where
      na : d ≡ a → ⊥
      na s = inside-outside a d (x.last_inside) k (sym s)

      np : d ≡ p → ⊥
      np s = inside-outside p d (y.last_inside) k (sym s)

  -- the five kinds of darts: what follows in the flipped map, and in the map put together again
  flipped-again : (d : ℕ) → d < 2 * m → h d ≡ exchange (f q) q (exchange (f b) b over) d
  flipped-again d l = elim (cases_eq d (f q)) [
    | inl i ↦ ap h i ∙ z.second_ends ∙ sym (ap again i ∙ exchange-left (f q) q (exchange (f b) b over) ∙ exchange-other (f b) b over q (λ s. inside-outside (f b) q (x.enters) (y.before_outside) (sym s)) (λ s. bq-differ (sym s)) ∙ over-q)
    | inr i ↦ elim (cases_eq d q) [
      | inl j ↦ ap h j ∙ z.second_begins ∙ sym (ap again j ∙ exchange-right (f q) q (exchange (f b) b over) ∙ exchange-other (f b) b over (f q) (λ s. firsts (sym s)) (inside-outside (f q) b (y.enters) (x.before_outside)) ∙ over-first-y)
      | inr j ↦ elim (cases_eq d (f b)) [
        | inl k ↦ ap h k ∙ z.first_ends ∙ sym (ap again k ∙ exchange-other (f q) q (exchange (f b) b over) (f b) firsts (inside-outside (f b) q (x.enters) (y.before_outside)) ∙ exchange-left (f b) b over ∙ over-b)
        | inr k ↦ elim (cases_eq d b) [
          | inl s ↦ ap h s ∙ z.first_begins ∙ sym (ap again s ∙ exchange-other (f q) q (exchange (f b) b over) b (λ w. inside-outside (f q) b (y.enters) (x.before_outside) (sym w)) bq-differ ∙ exchange-right (f b) b over ∙ over-first-x)
          | inr s ↦ same d l i j k s ∙ sym (exchange-other (f q) q (exchange (f b) b over) d i j ∙ exchange-other (f b) b over d k s)
        ]
      ]
    ]
  ]
    where
      same : (d : ℕ) → d < 2 * m → (d ≡ f q → ⊥) → (d ≡ q → ⊥) → (d ≡ f b → ⊥) → (d ≡ b → ⊥) → h d ≡ over d
      same d l i j k s = elim (cases_Bool (t d)) [
        | inl w ↦ flipped-before d l k i w ∙ sym (over-before d l k i w)
        | inr w ↦ let o = over-after d l s j w in o.1 ∙ sym (o.0)
      ]

  -- the map is the cut map put together again
  uncut : exchange p q (exchange a b (exchange a b (exchange p q f))) ≡ f
  uncut = ap (exchange p q) (exchange-twice a b (exchange p q f)) ∙ exchange-twice p q f

  -- the relation of vertices in the cut map, at the runs' first darts and at their last
  cut-shift : same_vertex m cut (f b) (f q) ≡ same_vertex m cut a p
  cut-shift = ap₂ (same_vertex m cut) (sym cut-a) (sym cut-p) ∙ orbit-shift (2 * m) cut a p (x.last_dart) (y.last_dart)

  -- as many vertices
  pub flip-vertices : vertex_count m h ≡ vertex_count m f
  flip-vertices = orbit-count-ext (2 * m) h again flipped-again ∙ sym (sym (ap (orbit_count (2 * m)) uncut) ∙ count-exchange-both (same_vertex m cut a p && same_vertex m cut b q)
      (orbit_count (2 * m) (exchange p q (exchange a b cut))) (orbit_count (2 * m) again) (orbit_count (2 * m) cut) (orbit_count (2 * m) over)
      (count-exchange-together (2 * m) cut cut_back cut-map t cut-keeps a b p q (x.last_dart) (x.dart_before) (y.last_dart) (y.dart_before) (x.last_inside) (x.before_outside) (y.last_inside) (y.before_outside))
      (count-exchange-apart (2 * m) cut cut_back cut-map t cut-keeps a b p q (x.last_dart) (x.dart_before) (y.last_dart) (y.dart_before) (x.last_inside) (x.before_outside) (y.last_inside) (y.before_outside))
      (λ w. count-exchange-together (2 * m) over over_back over-map t over-keeps (f b) b (f q) q first-x (x.dart_before) first-y (y.dart_before) (x.enters) (x.before_outside) (y.enters) (y.before_outside) (same ∙ w))
      (λ w. count-exchange-apart (2 * m) over over_back over-map t over-keeps (f b) b (f q) q first-x (x.dart_before) first-y (y.dart_before) (x.enters) (x.before_outside) (y.enters) (y.before_outside) (same ∙ w))
      (sym (turned-vertices m cut cut_back cut-map t cut-keeps (z.whole_edges))))
    where
      same : (same_vertex m over (f b) (f q) && same_vertex m over b q) ≡ (same_vertex m cut a p && same_vertex m cut b q)
      same = ap₂ ◌&&◌ (turned-orbit (2 * m) cut cut_back cut-map t cut-keeps (f b) (f q) ∙ cut-shift) (turned-orbit (2 * m) cut cut_back cut-map t cut-keeps b q)

  -- the faces of the cut map, as a permutation
  cut-faces : Permutes (2 * m) (face cut) (λ d. twin (cut_back d))
  cut-faces = face-permutes m cut cut_back cut-map

  -- and those of the map turned over
  over-faces : Permutes (2 * m) (face over) (λ d. twin (over_back d))
  over-faces = face-permutes m over over_back over-map

  -- their steps keep the part
  cut-faces-keep : (d : ℕ) → d < 2 * m → t (face cut d) ≡ t d
  cut-faces-keep d l = cut-keeps (twin d) (twin-below m d l) ∙ z.whole_edges d l

  -- the second of them
  over-faces-keep : (d : ℕ) → d < 2 * m → t (face over d) ≡ t d
  over-faces-keep d l = over-keeps (twin d) (twin-below m d l) ∙ z.whole_edges d l

  -- the faces of the map and of the flipped map, from those of the cut maps
  uncut-faces : exchange (twin p) (twin q) (exchange (twin a) (twin b) (face cut)) ≡ face f
  uncut-faces = ap (exchange (twin p) (twin q)) (sym (face-exchange a b cut)) ∙ sym (face-exchange p q (exchange a b cut)) ∙ ap face uncut

  -- those of the flipped map
  again-faces : exchange (twin (f q)) (twin q) (exchange (twin (f b)) (twin b) (face over)) ≡ face again
  again-faces = ap (exchange (twin (f q)) (twin q)) (sym (face-exchange (f b) b over)) ∙ sym (face-exchange (f q) q (exchange (f b) b over))

  -- the part of a twin
  twin-part : (d : ℕ) → d < 2 * m → (w : Bool) → t d ≡ w → t (twin d) ≡ w
  twin-part d l w i = z.whole_edges d l ∙ i

  -- as many faces
  pub flip-faces : face_count m h ≡ face_count m f
  flip-faces = orbit-count-ext (2 * m) (face h) (face again) (λ d l. flipped-again (twin d) (twin-below m d l)) ∙ sym (ap (orbit_count (2 * m)) again-faces) ∙ sym (sym (ap (orbit_count (2 * m)) uncut-faces) ∙ count-exchange-both (same_face m cut (twin a) (twin p) && same_face m cut (twin b) (twin q))
      (orbit_count (2 * m) (exchange (twin p) (twin q) (exchange (twin a) (twin b) (face cut)))) (orbit_count (2 * m) (exchange (twin (f q)) (twin q) (exchange (twin (f b)) (twin b) (face over)))) (orbit_count (2 * m) (face cut)) (orbit_count (2 * m) (face over))
      (count-exchange-together (2 * m) (face cut) (λ d. twin (cut_back d)) cut-faces t cut-faces-keep (twin a) (twin b) (twin p) (twin q) la lb lp lq ta tb tp tq)
      (count-exchange-apart (2 * m) (face cut) (λ d. twin (cut_back d)) cut-faces t cut-faces-keep (twin a) (twin b) (twin p) (twin q) la lb lp lq ta tb tp tq)
      (λ w. count-exchange-together (2 * m) (face over) (λ d. twin (over_back d)) over-faces t over-faces-keep (twin (f b)) (twin b) (twin (f q)) (twin q) (twin-below m (f b) first-x) lb (twin-below m (f q) first-y) lq tx tb ty tq (same ∙ w))
      (λ w. count-exchange-apart (2 * m) (face over) (λ d. twin (over_back d)) over-faces t over-faces-keep (twin (f b)) (twin b) (twin (f q)) (twin q) (twin-below m (f b) first-x) lb (twin-below m (f q) first-y) lq tx tb ty tq (same ∙ w))
      (sym (turned-faces m cut cut_back cut-map t cut-keeps (z.whole_edges))))
    where
      la : twin a < 2 * m
      la = twin-below m a (x.last_dart)

      lb : twin b < 2 * m
      lb = twin-below m b (x.dart_before)

      lp : twin p < 2 * m
      lp = twin-below m p (y.last_dart)

      lq : twin q < 2 * m
      lq = twin-below m q (y.dart_before)

      ta : t (twin a) ≡ true
      ta = twin-part a (x.last_dart) true (x.last_inside)

      tb : t (twin b) ≡ false
      tb = twin-part b (x.dart_before) false (x.before_outside)

      tp : t (twin p) ≡ true
      tp = twin-part p (y.last_dart) true (y.last_inside)

      tq : t (twin q) ≡ false
      tq = twin-part q (y.dart_before) false (y.before_outside)

      tx : t (twin (f b)) ≡ true
      tx = twin-part (f b) first-x true (x.enters)

      ty : t (twin (f q)) ≡ true
      ty = twin-part (f q) first-y true (y.enters)

      cross : ℕ → ℕ
      cross = crossed m cut cut_back cut-map t cut-keeps (z.whole_edges)

      inner : (d : ℕ) → d < 2 * m → t d ≡ true → cross (twin d) ≡ d
      inner d l i = crossed-inside m cut cut_back cut-map t cut-keeps (z.whole_edges) (twin d) (z.whole_edges d l ∙ i) ∙ twin-twin d

      outer : (d : ℕ) → d < 2 * m → t d ≡ false → cross (twin d) ≡ twin d
      outer d l i = crossed-outside m cut cut_back cut-map t cut-keeps (z.whole_edges) (twin d) (z.whole_edges d l ∙ i)

      insides : same_face m over (twin (f b)) (twin (f q)) ≡ same_face m cut (twin a) (twin p)
      insides = turned-face m cut cut_back cut-map t cut-keeps (z.whole_edges) (twin (f b)) (twin (f q)) (twin-below m (f b) first-x) (twin-below m (f q) first-y)
          ∙ ap₂ (same_face m cut) (inner (f b) first-x (x.enters) ∙ sym (face-twin cut a ∙ cut-a)) (inner (f q) first-y (y.enters) ∙ sym (face-twin cut p ∙ cut-p))
          ∙ orbit-shift (2 * m) (face cut) (twin a) (twin p) la lp

      outsides : same_face m over (twin b) (twin q) ≡ same_face m cut (twin b) (twin q)
      outsides = turned-face m cut cut_back cut-map t cut-keeps (z.whole_edges) (twin b) (twin q) lb lq
          ∙ ap₂ (same_face m cut) (outer b (x.dart_before) (x.before_outside)) (outer q (y.dart_before) (y.before_outside))

      same : (same_face m over (twin (f b)) (twin (f q)) && same_face m over (twin b) (twin q)) ≡ (same_face m cut (twin a) (twin p) && same_face m cut (twin b) (twin q))
      same = ap₂ ◌&&◌ insides outsides

  -- each step of the flipped map stays at the vertex
  flip-step : (d : ℕ) → d < 2 * m → same_vertex m f d (h d) ≡ true
  flip-step d l = elim (cases_eq d (f q)) [
    | inl i ↦ subst₂ (λ (u w : ℕ). same_vertex m f u w ≡ true) (sym i) (sym (ap h i ∙ z.second_ends)) (v.transitive (f q) q (f p) (v.symmetric q (f q) (orbit-step (2 * m) f q (y.dart_before))) (v.transitive q p (f p) (v.symmetric p q (y.one_vertex)) (orbit-step (2 * m) f p (y.last_dart))))
    | inr i ↦ elim (cases_eq d q) [
      | inl j ↦ subst₂ (λ (u w : ℕ). same_vertex m f u w ≡ true) (sym j) (sym (ap h j ∙ z.second_begins)) (v.symmetric p q (y.one_vertex))
      | inr j ↦ elim (cases_eq d (f b)) [
        | inl k ↦ subst₂ (λ (u w : ℕ). same_vertex m f u w ≡ true) (sym k) (sym (ap h k ∙ z.first_ends)) (v.transitive (f b) b (f a) (v.symmetric b (f b) (orbit-step (2 * m) f b (x.dart_before))) (v.transitive b a (f a) (v.symmetric a b (x.one_vertex)) (orbit-step (2 * m) f a (x.last_dart))))
        | inr k ↦ elim (cases_eq d b) [
          | inl s ↦ subst₂ (λ (u w : ℕ). same_vertex m f u w ≡ true) (sym s) (sym (ap h s ∙ z.first_begins)) (v.symmetric a b (x.one_vertex))
          | inr s ↦ elim (cases_Bool (t d)) [
            | inl w ↦ subst (λ (u : ℕ). same_vertex m f d u ≡ true) (sym (flipped-before d l k i w)) (v.symmetric (g d) d (subst (λ (u : ℕ). same_vertex m f (g d) u ≡ true) (e.forth_back d l) (orbit-step (2 * m) f (g d) (e.back d l))))
            | inr w ↦ subst (λ (u : ℕ). same_vertex m f d u ≡ true) (sym (over-after d l s j w).1) (orbit-step (2 * m) f d l)
          ]
        ]
      ]
    ]
  ]

  -- the same darts leave each vertex
  pub flip-vertex : (c d : ℕ) → c < 2 * m → d < 2 * m → same_vertex m f c d ≡ same_vertex m h c d
  flip-vertex = class_count-same (2 * m) (same_vertex m h) (same_vertex m f) (orbit-equivalence (2 * m) h) v
      (orbit-least (2 * m) h (same_vertex m f) v flip-step) (le_of_eq flip-vertices)

  -- the components are the same
  pub flip-component : (c d : ℕ) → same_component m h c d ≡ same_component m f c d
  flip-component c d = same-tests (same_component m h c d) (same_component m f c d)
      (component-finer m h f (λ u l. vertex-component m f u (h u) (flip-step u l)) c d)
      (component-finer m f h (λ u l. vertex-component m h u (f u) (sym (flip-vertex u (f u) l (e.forth u l)) ∙ orbit-step (2 * m) f u l)) c d)

  -- turning over keeps the defect
  pub flip-defect : SameDefect m f h
  flip-defect = omega (arith, flip-vertices, flip-faces, class_count-ext (2 * m) (same_component m h) (same_component m f) (λ c d l k. flip-component c d))
