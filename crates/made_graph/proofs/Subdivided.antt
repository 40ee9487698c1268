-- A drawn graph with an edge subdivided is drawn: the second half takes the place of the edge's second dart.
use Rattle.std.proofs.Common.{◌≡◌, ℕ, ◌+◌, ◌*◌, ◌/◌, ◌%◌, ◌<◌, inl, inr, true, false, cond, ◌==◌, [], ◌∷◌, slice_set, refl, sym, ap, ◌∙◌, subst, arith}
use Rattle.std.proofs.lemmas.Bool.{cases_eq, eq-eqb, ne_eqb, false_from_ne_true}
use Rattle.std.proofs.lemmas.List.{get_or_append_left, get_or_push, length-append, get_or-set_same, get_or-set_other, length-set}
use Rattle.permutations.specs.Permutation.{Permutes, same_orbit}
use Rattle.permutations.specs.Exchange.{exchange, unlink}
use Rattle.permutations.proofs.Permutations.{exchange-left, exchange-right, exchange-other}
use Rattle.permutations.proofs.Relation.{same-tests}
use Rattle.permutations.proofs.Orbits.{orbit-equivalence}
use Rattle.permutations.proofs.Unlinking.{unlink-alone, unlink-before, unlink-other, unlink-permutes, unlink-orbit, alone-orbit}
use Rattle.dart_maps.specs.Map.{twin, IsMap, IsPlane, same_vertex}
use Rattle.dart_maps.specs.Changes.{contracted}
use Rattle.dart_maps.proofs.Steps.{back_after, step-map}
use Rattle.dart_maps.proofs.Plane.{same-defect-plane, same-defect-ext}
use Rattle.dart_maps.proofs.Contract.{contract-plane-back, contracted-here, contracted-twin, contracted-before, contracted-before-twin, contracted-other, follows-own, follows-other}
use Rattle.multigraph.specs.Graph.{Multigraph, edge_count, ends_of}
use Rattle.faces.specs.Euler.{tail}
use Rattle.faces.proofs.DartLemmas.{tail-first, tail-second}
use Rattle.made_graph.specs.Made.{subdivided}
use Rattle.drawn_maps.proofs.Extended.{extended, extended-below, extended-above, extended-map, extended-plane, extended-told, AreTold, IsLone, put-told}
use Rattle.drawn_maps.proofs.Drawn.{IsDrawn, twin-last, dart-cases}

-- x taken out: it has a label of its own
unlink-told : (n : ℕ) (f g : ℕ → ℕ) → Permutes n f g → (x : ℕ) → x < n → (label new : ℕ → ℕ) → AreTold n f label → IsLone n new x → ((d : ℕ) → d < n → (d ≡ x → ⊥) → new d ≡ label d) → AreTold n (unlink x f) new
unlink-told n f g b x lx label new t lone others c d lc ld = elim (cases_eq c x) [
  | inl i ↦ elim (cases_eq d x) [
    | inl j ↦ subst (λ z. same_orbit n (unlink x f) z d ≡ (new z == new d)) (j ∙ sym i) ((orbit-equivalence n (unlink x f)).reflexive d ∙ sym (eq-eqb (new d) (new d) refl))
    | inr j ↦ apart c d i j ∙ sym (ne_eqb (new c) (new d) (λ e. lone d ld j (sym e ∙ ap new i)))
  ]
  | inr i ↦ elim (cases_eq d x) [
    | inl j ↦ same-tests (same_orbit n (unlink x f) c d) (same_orbit n (unlink x f) d c) ((orbit-equivalence n (unlink x f)).symmetric c d) ((orbit-equivalence n (unlink x f)).symmetric d c) ∙ apart d c j i
        ∙ sym (ne_eqb (new c) (new d) (λ e. lone c lc i (e ∙ ap new j)))
    | inr j ↦ unlink-orbit n x f g b lx c d i j ∙ t c d lc ld ∙ ap (λ z. z == label d) (sym (others c lc i)) ∙ ap (λ z. new c == z) (sym (others d ld j))
  ]
]
  where
    apart : (y z : ℕ) → y ≡ x → (z ≡ x → ⊥) → same_orbit n (unlink x f) y z ≡ false
    apart y z i j = false_from_ne_true (same_orbit n (unlink x f) y z)
        (λ h. j (sym (alone-orbit n x (unlink x f) (unlink x g) (unlink-permutes n x f g b lx) lx (unlink-alone x f) z (subst (λ w. same_orbit n (unlink x f) w z ≡ true) i h))))

module _ (m : ℕ) (g : Multigraph) (f b : ℕ → ℕ) (drawn : IsDrawn m g f b) (e : ℕ) (le : e < m) where
  -- the edge's second dart, and the new vertex
  abbrev c : ℕ
  c = 2 * e + 1

  abbrev n : ℕ
  n = g.vertex_count

  lc : c < 2 * m
  lc = omega (arith, le)

  c-in : c < 2 * (m + 1)
  c-in = omega (arith, le)

  last-in : 2 * m < 2 * (m + 1)
  last-in = omega arith

  twin-in : 2 * m + 1 < 2 * (m + 1)
  twin-in = omega arith

  c-last : c ≡ 2 * m → ⊥
  c-last i = omega (arith, lc, i)

  c-twin : c ≡ 2 * m + 1 → ⊥
  c-twin i = omega (arith, lc, i)

  last-twin : 2 * m ≡ 2 * m + 1 → ⊥
  last-twin i = omega (arith, i)

  -- the map: the new edge's second dart put in behind c, then c taken out, and put in behind the new edge's first dart
  abbrev wide : ℕ → ℕ
  wide = extended m f

  abbrev behind : ℕ → ℕ
  behind = exchange c (2 * m + 1) wide

  abbrev without : ℕ → ℕ
  without = unlink c behind

  abbrev halved : ℕ → ℕ
  halved = exchange (2 * m) c without

  wide-map : IsMap (m + 1) wide (extended m b)
  wide-map = extended-map m f b drawn.map

  behind-map : IsMap (m + 1) behind (back_after c (2 * m + 1) (extended m b))
  behind-map = step-map (m + 1) wide (extended m b) wide-map c (2 * m + 1) c-in twin-in

  without-map : IsMap (m + 1) without (unlink c (back_after c (2 * m + 1) (extended m b)))
  without-map = unlink-permutes (2 * (m + 1)) c behind (back_after c (2 * m + 1) (extended m b)) behind-map c-in

  halved-map : IsMap (m + 1) halved (back_after (2 * m) c (unlink c (back_after c (2 * m + 1) (extended m b))))
  halved-map = step-map (m + 1) without (unlink c (back_after c (2 * m + 1) (extended m b))) without-map (2 * m) c last-in c-in

  -- the vertex that each dart leaves
  edges-more : edge_count (subdivided g e) ≡ m + 1
  edges-more = length-append (slice_set g.ends e ((ends_of g e).0, n)) ((n, (ends_of g e).1) ∷ []) ∙ ap (λ k. k + 1) (length-set g.ends e ((ends_of g e).0, n) ∙ drawn.edges)

  ends-other : (k : ℕ) → k < m → (k ≡ e → ⊥) → ends_of (subdivided g e) k ≡ ends_of g k
  ends-other k l i = get_or_append_left (slice_set g.ends e ((ends_of g e).0, n)) ((n, (ends_of g e).1) ∷ []) (0, 0) k (omega (arith, l, length-set g.ends e ((ends_of g e).0, n), drawn.edges))
      ∙ get_or-set_other g.ends e k ((ends_of g e).0, n) (0, 0) i

  ends-here : ends_of (subdivided g e) e ≡ ((ends_of g e).0, n)
  ends-here = get_or_append_left (slice_set g.ends e ((ends_of g e).0, n)) ((n, (ends_of g e).1) ∷ []) (0, 0) e (omega (arith, le, length-set g.ends e ((ends_of g e).0, n), drawn.edges))
      ∙ get_or-set_same g.ends e ((ends_of g e).0, n) (0, 0) (omega (arith, le, drawn.edges))

  ends-new : ends_of (subdivided g e) m ≡ (n, (ends_of g e).1)
  ends-new = get_or_push (slice_set g.ends e ((ends_of g e).0, n)) (n, (ends_of g e).1) (0, 0) m (length-set g.ends e ((ends_of g e).0, n) ∙ drawn.edges)

  tail-last : tail (subdivided g e) (2 * m) ≡ n
  tail-last = tail-first (subdivided g e) m ∙ ap (λ (p : ℕ × ℕ). p.0) ends-new

  tail-twin : tail (subdivided g e) (2 * m + 1) ≡ tail g c
  tail-twin = tail-second (subdivided g e) m ∙ ap (λ (p : ℕ × ℕ). p.1) ends-new ∙ sym (tail-second g e)

  tail-here : tail (subdivided g e) c ≡ n
  tail-here = tail-second (subdivided g e) e ∙ ap (λ (p : ℕ × ℕ). p.1) ends-here

  tail-old : (d : ℕ) → d < 2 * m → (d ≡ c → ⊥) → tail (subdivided g e) d ≡ tail g d
  tail-old d l i = elim (cases_eq (d / 2) e) [
    | inl j ↦ let k : d ≡ 2 * e = omega (arith, i, j) in
        ap (tail (subdivided g e)) k ∙ tail-first (subdivided g e) e ∙ ap (λ (p : ℕ × ℕ). p.0) ends-here ∙ sym (tail-first g e) ∙ ap (tail g) (sym k)
    | inr j ↦ ap (λ (p : ℕ × ℕ). cond (d % 2 == 0) p.0 p.1) (ends-other (d / 2) (omega (arith, l)) j)
  ]

  -- the labels on the way
  abbrev label : ℕ → ℕ
  label d = cond (d == 2 * m) n (cond (d == 2 * m + 1) (n + 1) (tail g d))

  label-last : label (2 * m) ≡ n
  label-last = ap (λ t. cond t n (cond (2 * m == 2 * m + 1) (n + 1) (tail g (2 * m)))) (eq-eqb (2 * m) (2 * m) refl)

  label-twin : label (2 * m + 1) ≡ n + 1
  label-twin = ap (λ t. cond t n (cond (2 * m + 1 == 2 * m + 1) (n + 1) (tail g (2 * m + 1)))) (ne_eqb (2 * m + 1) (2 * m) (λ i. last-twin (sym i)))
      ∙ ap (λ t. cond t (n + 1) (tail g (2 * m + 1))) (eq-eqb (2 * m + 1) (2 * m + 1) refl)

  label-old : (d : ℕ) → d < 2 * m → label d ≡ tail g d
  label-old d l = ap (λ t. cond t n (cond (d == 2 * m + 1) (n + 1) (tail g d))) (ne_eqb d (2 * m) (λ i. omega (arith, l, i)))
      ∙ ap (λ t. cond t (n + 1) (tail g d)) (ne_eqb d (2 * m + 1) (λ i. omega (arith, l, i)))

  label-told : AreTold (2 * m) f label
  label-told x y l k = drawn.told x y l k ∙ ap (λ z. z == tail g y) (sym (label-old x l)) ∙ ap (λ z. label x == z) (sym (label-old y k))

  lone-last : IsLone (2 * (m + 1)) label (2 * m)
  lone-last d l i j = elim (dart-cases m d l) [
    | inl k ↦ let t = drawn.inside d k in let h : tail g d ≡ n = sym (label-old d k) ∙ j ∙ label-last in omega (arith, t, h)
    | inr k ↦ elim k [
      | inl s ↦ i s
      | inr s ↦ let h : n + 1 ≡ n = sym label-twin ∙ ap label (sym s) ∙ j ∙ label-last in omega (arith, h)
    ]
  ]

  lone-twin : IsLone (2 * (m + 1)) label (2 * m + 1)
  lone-twin d l i j = elim (dart-cases m d l) [
    | inl k ↦ let t = drawn.inside d k in let h : tail g d ≡ n + 1 = sym (label-old d k) ∙ j ∙ label-twin in omega (arith, t, h)
    | inr k ↦ elim k [
      | inl s ↦ let h : n ≡ n + 1 = sym label-last ∙ ap label (sym s) ∙ j ∙ label-twin in omega (arith, h)
      | inr s ↦ i s
    ]
  ]

  abbrev second : ℕ → ℕ
  second d = cond (d == 2 * m + 1) (tail g c) (label d)

  second-twin : second (2 * m + 1) ≡ tail g c
  second-twin = ap (λ t. cond t (tail g c) (label (2 * m + 1))) (eq-eqb (2 * m + 1) (2 * m + 1) refl)

  second-other : (d : ℕ) → (d ≡ 2 * m + 1 → ⊥) → second d ≡ label d
  second-other d i = ap (λ t. cond t (tail g c) (label d)) (ne_eqb d (2 * m + 1) i)

  behind-told : AreTold (2 * (m + 1)) behind second
  behind-told = put-told (2 * (m + 1)) wide (extended m b) wide-map c (2 * m + 1) c-in twin-in c-twin label second
      (extended-told m f b drawn.map label label-told lone-last lone-twin) lone-twin (second-twin ∙ sym (label-old c lc)) (λ d l i. second-other d i)

  abbrev third : ℕ → ℕ
  third d = cond (d == c) (n + 1) (second d)

  third-here : third c ≡ n + 1
  third-here = ap (λ t. cond t (n + 1) (second c)) (eq-eqb c c refl)

  third-other : (d : ℕ) → (d ≡ c → ⊥) → third d ≡ second d
  third-other d i = ap (λ t. cond t (n + 1) (second d)) (ne_eqb d c i)

  third-last : third (2 * m) ≡ n
  third-last = third-other (2 * m) (λ i. c-last (sym i)) ∙ second-other (2 * m) last-twin ∙ label-last

  third-twin : third (2 * m + 1) ≡ tail g c
  third-twin = third-other (2 * m + 1) (λ i. c-twin (sym i)) ∙ second-twin

  third-old : (d : ℕ) → d < 2 * m → (d ≡ c → ⊥) → third d ≡ tail g d
  third-old d l i = third-other d i ∙ second-other d (λ j. omega (arith, l, j)) ∙ label-old d l

  lone-here : IsLone (2 * (m + 1)) third c
  lone-here d l i j = elim (dart-cases m d l) [
    | inl k ↦ let t = drawn.inside d k in let h : tail g d ≡ n + 1 = sym (third-old d k i) ∙ j ∙ third-here in omega (arith, t, h)
    | inr k ↦ elim k [
      | inl s ↦ let h : n ≡ n + 1 = sym third-last ∙ ap third (sym s) ∙ j ∙ third-here in omega (arith, h)
      | inr s ↦ let t = drawn.inside c lc in let h : tail g c ≡ n + 1 = sym third-twin ∙ ap third (sym s) ∙ j ∙ third-here in omega (arith, t, h)
    ]
  ]

  without-told : AreTold (2 * (m + 1)) without third
  without-told = unlink-told (2 * (m + 1)) behind (back_after c (2 * m + 1) (extended m b)) behind-map c c-in second third behind-told lone-here (λ d l i. third-other d i)

  halved-told : AreTold (2 * (m + 1)) halved (tail (subdivided g e))
  halved-told = put-told (2 * (m + 1)) without (unlink c (back_after c (2 * m + 1) (extended m b))) without-map (2 * m) c last-in c-in (λ i. c-last (sym i)) third (tail (subdivided g e)) without-told lone-here
      (tail-here ∙ sym third-last) others
    where
      others : (d : ℕ) → d < 2 * (m + 1) → (d ≡ c → ⊥) → tail (subdivided g e) d ≡ third d
      others d l i = elim (dart-cases m d l) [
        | inl k ↦ tail-old d k i ∙ sym (third-old d k i)
        | inr k ↦ elim k [
          | inl s ↦ subst (λ z. tail (subdivided g e) z ≡ third z) (sym s) (tail-last ∙ sym third-last)
          | inr s ↦ subst (λ z. tail (subdivided g e) z ≡ third z) (sym s) (tail-twin ∙ sym third-twin)
        ]
      ]

  halved-inside : (d : ℕ) → d < 2 * (m + 1) → tail (subdivided g e) d < n + 1
  halved-inside d l = elim (dart-cases m d l) [
    | inl k ↦ elim (cases_eq d c) [
      | inl i ↦ let h : tail (subdivided g e) d ≡ n = ap (tail (subdivided g e)) i ∙ tail-here in omega (arith, h)
      | inr i ↦ let t = drawn.inside d k in let h = tail-old d k i in omega (arith, t, h)
    ]
    | inr k ↦ elim k [
      | inl s ↦ let h : tail (subdivided g e) d ≡ n = ap (tail (subdivided g e)) s ∙ tail-last in omega (arith, h)
      | inr s ↦ let t = drawn.inside c lc in let h : tail (subdivided g e) d ≡ tail g c = ap (tail (subdivided g e)) s ∙ tail-twin in omega (arith, t, h)
    ]
  ]

  -- what follows each dart
  behind-here : behind c ≡ 2 * m + 1
  behind-here = exchange-left c (2 * m + 1) wide ∙ extended-above m f (2 * m + 1) (omega arith)

  behind-twin : behind (2 * m + 1) ≡ f c
  behind-twin = exchange-right c (2 * m + 1) wide ∙ extended-below m f c lc

  behind-last : behind (2 * m) ≡ 2 * m
  behind-last = exchange-other c (2 * m + 1) wide (2 * m) (λ i. c-last (sym i)) last-twin ∙ extended-above m f (2 * m) (omega arith)

  behind-old : (d : ℕ) → d < 2 * m → (d ≡ c → ⊥) → behind d ≡ f d
  behind-old d l i = exchange-other c (2 * m + 1) wide d i (λ j. omega (arith, l, j)) ∙ extended-below m f d l

  without-last : without (2 * m) ≡ 2 * m
  without-last = unlink-other c behind (2 * m) (λ i. c-last (sym i)) (λ i. c-last (sym i ∙ behind-last)) ∙ behind-last

  halved-last : halved (2 * m) ≡ c
  halved-last = exchange-left (2 * m) c without ∙ unlink-alone c behind

  halved-here : halved c ≡ 2 * m
  halved-here = exchange-right (2 * m) c without ∙ without-last

  -- the new edge's second dart goes on as c did
  halved-twin : (f c ≡ c → ⊥) → halved (2 * m + 1) ≡ f c
  halved-twin i = exchange-other (2 * m) c without (2 * m + 1) (λ j. last-twin (sym j)) (λ j. c-twin (sym j))
      ∙ unlink-other c behind (2 * m + 1) (λ j. c-twin (sym j)) (λ j. i (sym behind-twin ∙ j)) ∙ behind-twin

  halved-twin_alone : f c ≡ c → halved (2 * m + 1) ≡ 2 * m + 1
  halved-twin_alone i = exchange-other (2 * m) c without (2 * m + 1) (λ j. last-twin (sym j)) (λ j. c-twin (sym j))
      ∙ unlink-before c behind (2 * m + 1) (λ j. c-twin (sym j)) (behind-twin ∙ i) ∙ behind-here

  halved-before : (d : ℕ) → d < 2 * m → (d ≡ c → ⊥) → f d ≡ c → halved d ≡ 2 * m + 1
  halved-before d l i j = exchange-other (2 * m) c without d (λ k. omega (arith, l, k)) i
      ∙ unlink-before c behind d i (behind-old d l i ∙ j) ∙ behind-here

  halved-old : (d : ℕ) → d < 2 * m → (d ≡ c → ⊥) → (f d ≡ c → ⊥) → halved d ≡ f d
  halved-old d l i j = exchange-other (2 * m) c without d (λ k. omega (arith, l, k)) i
      ∙ unlink-other c behind d i (λ k. j (sym (behind-old d l i) ∙ k)) ∙ behind-old d l i

  -- the new edge contracted, the map is the old one
  contracted-wide : (d : ℕ) → d < 2 * (m + 1) → contracted (2 * m) halved d ≡ wide d
  contracted-wide d l = elim (dart-cases m d l) [
    | inl k ↦ elim (cases_eq d c) [
      | inl i ↦ subst (λ z. contracted (2 * m) halved z ≡ wide z) (sym i) here
      | inr i ↦ elim (cases_eq (f d) c) [
        | inl j ↦ contracted-before-twin (2 * m) halved d (λ s. omega (arith, k, s)) (λ s. omega (arith, k, s, twin-last m)) (halved-before d k i j ∙ sym (twin-last m))
            ∙ follows-own (2 * m) (twin (2 * m)) halved (λ s. c-last (sym halved-last ∙ s)) ∙ halved-last ∙ sym j ∙ sym (extended-below m f d k)
        | inr j ↦ let t = drawn.map.forth d k in contracted-other (2 * m) halved d (λ s. omega (arith, k, s)) (λ s. omega (arith, k, s, twin-last m))
            (λ s. omega (arith, t, s, halved-old d k i j)) (λ s. omega (arith, t, s, halved-old d k i j, twin-last m)) ∙ halved-old d k i j ∙ sym (extended-below m f d k)
      ]
    ]
    | inr k ↦ elim k [
      | inl s ↦ subst (λ z. contracted (2 * m) halved z ≡ wide z) (sym s) (contracted-here (2 * m) halved ∙ sym (extended-above m f (2 * m) (omega arith)))
      | inr s ↦ subst (λ z. contracted (2 * m) halved z ≡ wide z) (twin-last m ∙ sym s) (contracted-twin (2 * m) halved ∙ sym (extended-above m f (twin (2 * m)) (omega (arith, twin-last m))))
    ]
  ]
    where
      here : contracted (2 * m) halved c ≡ wide c
      here = contracted-before (2 * m) halved c c-last (λ s. c-twin (s ∙ twin-last m)) halved-here ∙ elim (cases_eq (f c) c) [
        | inl i ↦ follows-other (twin (2 * m)) (2 * m) halved (subst (λ z. halved z ≡ z) (sym (twin-last m)) (halved-twin_alone i)) ∙ halved-last ∙ sym i ∙ sym (extended-below m f c lc)
        | inr i ↦ let t = drawn.map.forth c lc in let h : halved (twin (2 * m)) ≡ f c = ap halved (twin-last m) ∙ halved-twin i in
            follows-own (twin (2 * m)) (2 * m) halved (λ s. omega (arith, t, s, h, twin-last m)) ∙ h ∙ sym (extended-below m f c lc)
      ]

  ends-apart : same_vertex (m + 1) halved (2 * m) (twin (2 * m)) ≡ false
  ends-apart = subst (λ z. same_vertex (m + 1) halved (2 * m) z ≡ false) (sym (twin-last m))
      (halved-told (2 * m) (2 * m + 1) last-in twin-in ∙ ne_eqb (tail (subdivided g e) (2 * m)) (tail (subdivided g e) (2 * m + 1)) (λ i. let t = drawn.inside c lc in omega (arith, i, t, tail-last, tail-twin)))

  halved-plane : IsPlane (m + 1) halved
  halved-plane = contract-plane-back (m + 1) halved (back_after (2 * m) c (unlink c (back_after c (2 * m + 1) (extended m b)))) halved-map (2 * m) last-in ends-apart
      (same-defect-plane (m + 1) wide (contracted (2 * m) halved) (same-defect-ext (m + 1) wide (contracted (2 * m) halved) (λ d l. sym (contracted-wide d l))) (extended-plane m f b drawn.map drawn.plane))

  -- so the graph with the edge subdivided is drawn
  pub subdivide : IsDrawn (m + 1) (subdivided g e) halved (back_after (2 * m) c (unlink c (back_after c (2 * m + 1) (extended m b))))
  subdivide = record { edges = edges-more; map = halved-map; plane = halved-plane; told = halved-told; inside = halved-inside }
