-- Maps of darts that draw a graph in the plane, and the map of the graph with one edge more: with a new vertex, between two
-- corners of one face, or with an edge subdivided.
use Rattle.std.proofs.Common.{◌≡◌, ℕ, ◌+◌, ◌*◌, ◌/◌, ◌%◌, ◌<◌, ◌⊎◌, inl, inr, true, cond, ◌==◌, [], ◌∷◌, refl, sym, ap, ◌∙◌, subst, arith}
use Rattle.std.proofs.lemmas.Bool.{cases_eq, cases_lt, eq-eqb, ne_eqb}
use Rattle.std.proofs.lemmas.List.{get_or_append_left, get_or_push, length-append}
use Rattle.permutations.specs.Exchange.{exchange}
use Rattle.permutations.proofs.Permutations.{exchange-left, exchange-right, exchange-other}
use Rattle.dart_maps.specs.Map.{twin, IsMap, IsPlane, same_face}
use Rattle.dart_maps.proofs.Darts.{twin-even}
use Rattle.dart_maps.proofs.Steps.{back_after, step-map}
use Rattle.dart_maps.proofs.Plane.{same-defect-plane}
use Rattle.dart_maps.proofs.Insert.{first-defect, insert-defect}
use Rattle.multigraph.specs.Graph.{Multigraph, edge_count, ends_of}
use Rattle.faces.specs.Euler.{tail}
use Rattle.faces.proofs.DartLemmas.{tail-first, tail-second}
use Rattle.drawn_maps.proofs.Extended.{extended-below, extended-above, extended-map, extended-plane, extended-face, extended-told, IsLone, put-told}
pub use Rattle.drawn_maps.specs.Drawn.{AreTold, IsDrawn, with_edge, extended, hung, joined}

-- one edge more
pub more-edges : (m : ℕ) (g : Multigraph) (n : ℕ) (link : ℕ × ℕ) → edge_count g ≡ m → edge_count (with_edge g n link) ≡ m + 1
more-edges m g n link h = length-append g.ends (link ∷ []) ∙ ap (λ k. k + 1) h

-- the old darts leave their vertices
pub tail-old : (m : ℕ) (g : Multigraph) (n : ℕ) (link : ℕ × ℕ) → edge_count g ≡ m → (d : ℕ) → d < 2 * m → tail (with_edge g n link) d ≡ tail g d
tail-old m g n link h d l = ap (λ (p : ℕ × ℕ). cond (d % 2 == 0) p.0 p.1) (get_or_append_left g.ends (link ∷ []) (0, 0) (d / 2) (omega (arith, l, h)))

-- the new edge's ends
new-ends : (m : ℕ) (g : Multigraph) (n : ℕ) (link : ℕ × ℕ) → edge_count g ≡ m → ends_of (with_edge g n link) m ≡ link
new-ends m g n link h = get_or_push g.ends link (0, 0) m h

-- its darts
pub tail-new : (m : ℕ) (g : Multigraph) (n : ℕ) (link : ℕ × ℕ) → edge_count g ≡ m → tail (with_edge g n link) (2 * m) ≡ link.0
tail-new m g n link h = tail-first (with_edge g n link) m ∙ ap (λ (p : ℕ × ℕ). p.0) (new-ends m g n link h)

-- and the second
pub tail-new_second : (m : ℕ) (g : Multigraph) (n : ℕ) (link : ℕ × ℕ) → edge_count g ≡ m → tail (with_edge g n link) (2 * m + 1) ≡ link.1
tail-new_second m g n link h = tail-second (with_edge g n link) m ∙ ap (λ (p : ℕ × ℕ). p.1) (new-ends m g n link h)

-- the twin of the new edge's first dart
pub twin-last : (m : ℕ) → twin (2 * m) ≡ 2 * m + 1
twin-last m = twin-even (2 * m) (omega arith)

-- a dart below the new edge's end is old or one of the two
pub dart-cases : (m d : ℕ) → d < 2 * (m + 1) → (d < 2 * m) ⊎ ((d ≡ 2 * m) ⊎ (d ≡ 2 * m + 1))
dart-cases m d l = elim (cases_lt d (2 * m)) [
  | inl k ↦ inl k
  | inr k ↦ elim (cases_eq d (2 * m)) [ inl e ↦ inr (inl e) | inr n ↦ inr (inr (omega (arith, l, k, n))) ]
]

-- the inverses
abbrev pub hung_back : ℕ → ℕ → (ℕ → ℕ) → ℕ → ℕ
hung_back m p b = back_after p (2 * m) (extended m b)

abbrev pub joined_back : ℕ → ℕ → ℕ → (ℕ → ℕ) → ℕ → ℕ
joined_back m p q b = back_after q (2 * m + 1) (hung_back m p b)

-- the graph drawn with an edge to a new vertex
module _ (m : ℕ) (g : Multigraph) (f b : ℕ → ℕ) (drawn : IsDrawn m g f b) (p : ℕ) (lp : p < 2 * m) where
  -- the graph
  abbrev hanging : Multigraph
  hanging = with_edge g (g.vertex_count + 1) (tail g p, g.vertex_count)

  -- p among the darts
  p-in : p < 2 * (m + 1)
  p-in = omega (arith, lp)

  last-in : 2 * m < 2 * (m + 1)
  last-in = omega arith

  twin-in : 2 * m + 1 < 2 * (m + 1)
  twin-in = omega arith

  -- the extended map
  wide : IsMap (m + 1) (extended m f) (extended m b)
  wide = extended-map m f b drawn.map

  -- what follows the corner is the new dart
  pub hung-corner : hung m p f p ≡ 2 * m
  hung-corner = exchange-left p (2 * m) (extended m f) ∙ extended-above m f (2 * m) (omega arith)

  -- which is followed by what followed the corner
  pub hung-new : hung m p f (2 * m) ≡ f p
  hung-new = exchange-right p (2 * m) (extended m f) ∙ extended-below m f p lp

  -- its twin is alone
  pub hung-end : hung m p f (2 * m + 1) ≡ 2 * m + 1
  hung-end = exchange-other p (2 * m) (extended m f) (2 * m + 1) (λ e. omega (arith, lp, e)) (λ e. omega (arith, e)) ∙ extended-above m f (2 * m + 1) (omega arith)

  -- other darts are followed as before
  pub hung-old : (d : ℕ) → d < 2 * m → (d ≡ p → ⊥) → hung m p f d ≡ f d
  hung-old d l n = exchange-other p (2 * m) (extended m f) d n (λ e. omega (arith, l, e)) ∙ extended-below m f d l

  -- the labels before the dart is put in
  abbrev before : ℕ → ℕ
  before d = cond (d == 2 * m) (g.vertex_count + 1) (tail hanging d)

  before-last : before (2 * m) ≡ g.vertex_count + 1
  before-last = ap (λ t. cond t (g.vertex_count + 1) (tail hanging (2 * m))) (eq-eqb (2 * m) (2 * m) refl)

  before-other : (d : ℕ) → (d ≡ 2 * m → ⊥) → before d ≡ tail hanging d
  before-other d n = ap (λ t. cond t (g.vertex_count + 1) (tail hanging d)) (ne_eqb d (2 * m) n)

  before-old : (d : ℕ) → d < 2 * m → before d ≡ tail g d
  before-old d l = before-other d (λ e. omega (arith, l, e)) ∙ tail-old m g (g.vertex_count + 1) (tail g p, g.vertex_count) drawn.edges d l

  before-twin : before (2 * m + 1) ≡ g.vertex_count
  before-twin = before-other (2 * m + 1) (λ e. omega (arith, e)) ∙ tail-new_second m g (g.vertex_count + 1) (tail g p, g.vertex_count) drawn.edges

  before-told : AreTold (2 * m) f before
  before-told c d l k = drawn.told c d l k ∙ ap (λ z. z == tail g d) (sym (before-old c l)) ∙ ap (λ z. before c == z) (sym (before-old d k))

  lone-last : IsLone (2 * (m + 1)) before (2 * m)
  lone-last d l n e = elim (dart-cases m d l) [
    | inl k ↦ let i = drawn.inside d k in let h : tail g d ≡ g.vertex_count + 1 = sym (before-old d k) ∙ e ∙ before-last in omega (arith, i, h)
    | inr k ↦ elim k [
      | inl j ↦ n j
      | inr j ↦ let h : g.vertex_count ≡ g.vertex_count + 1 = sym before-twin ∙ ap before (sym j) ∙ e ∙ before-last in omega (arith, h)
    ]
  ]

  lone-twin : IsLone (2 * (m + 1)) before (2 * m + 1)
  lone-twin d l n e = elim (dart-cases m d l) [
    | inl k ↦ let i = drawn.inside d k in let h : tail g d ≡ g.vertex_count = sym (before-old d k) ∙ e ∙ before-twin in omega (arith, i, h)
    | inr k ↦ elim k [
      | inl j ↦ let h : g.vertex_count + 1 ≡ g.vertex_count = sym before-last ∙ ap before (sym j) ∙ e ∙ before-twin in omega (arith, h)
      | inr j ↦ n j
    ]
  ]

  -- the vertices of the map are those of the graph
  hung-told : AreTold (2 * (m + 1)) (hung m p f) (tail hanging)
  hung-told = put-told (2 * (m + 1)) (extended m f) (extended m b) wide p (2 * m) p-in last-in (λ e. omega (arith, lp, e)) before (tail hanging)
      (extended-told m f b drawn.map before before-told lone-last lone-twin) lone-last
      (tail-new m g (g.vertex_count + 1) (tail g p, g.vertex_count) drawn.edges ∙ sym (before-old p lp))
      (λ d l n. sym (before-other d n))

  hung-inside : (d : ℕ) → d < 2 * (m + 1) → tail hanging d < g.vertex_count + 1
  hung-inside d l = elim (dart-cases m d l) [
    | inl k ↦ let i = drawn.inside d k in let h = tail-old m g (g.vertex_count + 1) (tail g p, g.vertex_count) drawn.edges d k in omega (arith, i, h)
    | inr k ↦ elim k [
      | inl j ↦ let i = drawn.inside p lp in let h : tail hanging d ≡ tail g p = ap (tail hanging) j ∙ tail-new m g (g.vertex_count + 1) (tail g p, g.vertex_count) drawn.edges in omega (arith, i, h)
      | inr j ↦ let h : tail hanging d ≡ g.vertex_count = ap (tail hanging) j ∙ tail-new_second m g (g.vertex_count + 1) (tail g p, g.vertex_count) drawn.edges in omega (arith, h)
    ]
  ]

  twin-alone : extended m f (twin (2 * m)) ≡ twin (2 * m)
  twin-alone = extended-above m f (twin (2 * m)) (omega (arith, twin-last m))

  -- so the graph with the new edge is drawn
  pub hang : IsDrawn (m + 1) hanging (hung m p f) (hung_back m p b)
  hang = record {
    edges = more-edges m g (g.vertex_count + 1) (tail g p, g.vertex_count) drawn.edges;
    map = step-map (m + 1) (extended m f) (extended m b) wide p (2 * m) p-in last-in;
    plane = same-defect-plane (m + 1) (extended m f) (hung m p f)
        (first-defect (m + 1) (extended m f) (extended m b) wide (2 * m) last-in (extended-above m f (2 * m) (omega arith)) twin-alone p p p-in p-in
        (λ e. omega (arith, lp, e)) (λ e. omega (arith, lp, e, twin-last m)) (λ e. omega (arith, lp, e)) (λ e. omega (arith, lp, e, twin-last m)))
        (extended-plane m f b drawn.map drawn.plane);
    told = hung-told;
    inside = hung-inside;
  }

  -- and one between two corners of one face
  module _ (q : ℕ) (lq : q < 2 * m) (one_face : same_face m f (twin p) (twin q) ≡ true) where
    -- the graph
    abbrev crossed : Multigraph
    crossed = with_edge g g.vertex_count (tail g p, tail g q)

    q-in : q < 2 * (m + 1)
    q-in = omega (arith, lq)

    pub joined-second_corner : joined m p q f q ≡ 2 * m + 1
    joined-second_corner = exchange-left q (2 * m + 1) (hung m p f) ∙ hung-end

    pub joined-corner : (p ≡ q → ⊥) → joined m p q f p ≡ 2 * m
    joined-corner n = exchange-other q (2 * m + 1) (hung m p f) p n (λ e. omega (arith, lp, e)) ∙ hung-corner

    pub joined-first : joined m p q f (2 * m) ≡ f p
    joined-first = exchange-other q (2 * m + 1) (hung m p f) (2 * m) (λ e. omega (arith, lq, e)) (λ e. omega (arith, e)) ∙ hung-new

    -- other darts are followed as before
    pub joined-old : (d : ℕ) → d < 2 * m → (d ≡ p → ⊥) → (d ≡ q → ⊥) → joined m p q f d ≡ f d
    joined-old d l n o = exchange-other q (2 * m + 1) (hung m p f) d o (λ e. omega (arith, l, e)) ∙ hung-old d l n

    crossed-old : (d : ℕ) → d < 2 * m → tail crossed d ≡ tail g d
    crossed-old = tail-old m g g.vertex_count (tail g p, tail g q) drawn.edges

    hanging-old : (d : ℕ) → d < 2 * m → tail hanging d ≡ tail g d
    hanging-old = tail-old m g (g.vertex_count + 1) (tail g p, g.vertex_count) drawn.edges

    hanging-last : tail hanging (2 * m) ≡ tail g p
    hanging-last = tail-new m g (g.vertex_count + 1) (tail g p, g.vertex_count) drawn.edges

    hanging-twin : tail hanging (2 * m + 1) ≡ g.vertex_count
    hanging-twin = tail-new_second m g (g.vertex_count + 1) (tail g p, g.vertex_count) drawn.edges

    crossed-last : tail crossed (2 * m) ≡ tail g p
    crossed-last = tail-new m g g.vertex_count (tail g p, tail g q) drawn.edges

    crossed-twin : tail crossed (2 * m + 1) ≡ tail g q
    crossed-twin = tail-new_second m g g.vertex_count (tail g p, tail g q) drawn.edges

    lone-end : IsLone (2 * (m + 1)) (tail hanging) (2 * m + 1)
    lone-end d l n e = elim (dart-cases m d l) [
      | inl k ↦ let i = drawn.inside d k in let h : tail g d ≡ g.vertex_count = sym (hanging-old d k) ∙ e ∙ hanging-twin in omega (arith, i, h)
      | inr k ↦ elim k [
        | inl j ↦ let i = drawn.inside p lp in let h : tail g p ≡ g.vertex_count = sym hanging-last ∙ ap (tail hanging) (sym j) ∙ e ∙ hanging-twin in omega (arith, i, h)
        | inr j ↦ n j
      ]
    ]

    crossed-others : (d : ℕ) → d < 2 * (m + 1) → (d ≡ 2 * m + 1 → ⊥) → tail crossed d ≡ tail hanging d
    crossed-others d l n = elim (dart-cases m d l) [
      | inl k ↦ crossed-old d k ∙ sym (hanging-old d k)
      | inr k ↦ elim k [
        | inl j ↦ subst (λ z. tail crossed z ≡ tail hanging z) (sym j) (crossed-last ∙ sym hanging-last)
        | inr j ↦ absurd (n j)
      ]
    ]

    crossed-inside : (d : ℕ) → d < 2 * (m + 1) → tail crossed d < g.vertex_count
    crossed-inside d l = elim (dart-cases m d l) [
      | inl k ↦ subst (λ z. z < g.vertex_count) (sym (crossed-old d k)) (drawn.inside d k)
      | inr k ↦ elim k [
        | inl j ↦ subst (λ z. z < g.vertex_count) (sym (ap (tail crossed) j ∙ crossed-last)) (drawn.inside p lp)
        | inr j ↦ subst (λ z. z < g.vertex_count) (sym (ap (tail crossed) j ∙ crossed-twin)) (drawn.inside q lq)
      ]
    ]

    crossed-plane : IsPlane (m + 1) (joined m p q f)
    crossed-plane = subst (λ z. IsPlane (m + 1) (exchange q z (hung m p f))) (twin-last m)
        (same-defect-plane (m + 1) (extended m f) (exchange q (twin (2 * m)) (hung m p f))
        (insert-defect (m + 1) (extended m f) (extended m b) wide (2 * m) last-in (extended-above m f (2 * m) (omega arith)) twin-alone p q p-in q-in
        (λ e. omega (arith, lp, e)) (λ e. omega (arith, lp, e, twin-last m)) (λ e. omega (arith, lq, e)) (λ e. omega (arith, lq, e, twin-last m))
        (extended-face m f (twin p) (twin q) one_face))
        (extended-plane m f b drawn.map drawn.plane))

    -- so the graph with this edge is drawn
    pub cross : IsDrawn (m + 1) crossed (joined m p q f) (joined_back m p q b)
    cross = record {
      edges = more-edges m g g.vertex_count (tail g p, tail g q) drawn.edges;
      map = step-map (m + 1) (hung m p f) (hung_back m p b) hang.map q (2 * m + 1) q-in twin-in;
      plane = crossed-plane;
      told = put-told (2 * (m + 1)) (hung m p f) (hung_back m p b) hang.map q (2 * m + 1) q-in twin-in (λ e. omega (arith, lq, e)) (tail hanging) (tail crossed) hung-told lone-end
          (crossed-twin ∙ sym (hanging-old q lq)) crossed-others;
      inside = crossed-inside;
    }
