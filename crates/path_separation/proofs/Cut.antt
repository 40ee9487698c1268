-- Two faces of a plane map that pass two vertices: the map falls apart where both vertices are split between these faces.
use Rattle.std.proofs.Common.{◌≡◌, ◌≢◌, ℕ, zero, suc, ◌+◌, ◌-◌, ◌/◌, ◌<◌, ◌≤◌, inl, inr, Bool, true, false, not, ◌&&◌, ◌||◌, ◌==◌, refl, sym, ap, ap₂, ◌∙◌, subst, arith}
use Rattle.std.proofs.lemmas.Bool.{cases_Bool, both_ways, false_from_ne_true, and_from, and_parts, not-true, not_from_false, or_right, or_parts, or_from, eq-eqb, eqb-true, ne_eqb, eqb-false}
use Rattle.permutations.specs.Count.{some, least}
use Rattle.permutations.specs.Relation.{IsEquivalence, join}
use Rattle.permutations.specs.Permutation.{Permutes, same_orbit, iterate}
use Rattle.permutations.specs.Exchange.{exchange}
use Rattle.permutations.proofs.Relation.{same-tests, kernel-equivalence, join-old, join-link, join-cases, join-equivalence}
use Rattle.permutations.proofs.Search.{some-from, least-passes, least-before, least-first}
use Rattle.permutations.proofs.Permutations.{exchange-right, exchange-other, exchange-cases}
use Rattle.permutations.proofs.Orbits.{orbit-equivalence, orbit-step, orbit-least, orbit-test}
use Rattle.permutations.proofs.Iterates.{iterate-below, iterate-sum, iterate-orbit, orbit-steps}
use Rattle.permutations.proofs.Transpositions.{exchange-split}
use Rattle.multigraph.specs.Graph.{Multigraph, edge_count}
use Rattle.dart_maps.specs.Map.{twin, face, IsMap, same_vertex, same_face, same_component, IsPlane}
use Rattle.dart_maps.proofs.Darts.{twin-twin, twin-below, twin-back}
use Rattle.dart_maps.proofs.Components.{component-equivalence, component-next, component-twin, component-face}
use Rattle.dart_maps.proofs.Steps.{back_after, step-map, face-join}
use Rattle.dart_maps.proofs.Plane.{same-defect-plane, split-merge-defect, corner-cut}
use Rattle.faces.specs.Euler.{tail, dart_count}
use Rattle.path_separation.specs.Drawn.{passes}
use Rattle.path_separation.proofs.DrawnMap.{IsDrawnMap, CornerOn, LeavesOn, passes-corner, drawn-twin, step-permutes, next-drawn, corner-face, corner-leaves}

-- the map is cut between the faces of the corners of c and d, at the vertex of c and at y: `side` tells the darts of one
-- part. The part leaves the vertex of c by two darts at least, and no vertex but these two that both faces pass
pub record IsCut (g : Multigraph) (drawn : ℕ → Bool) (next : ℕ → ℕ) (c d y : ℕ) (side : ℕ → Bool) : Type 0 where
  pub other : y ≢ tail g c
  pub first_passes : passes g drawn next (twin c) y ≡ true
  pub second_passes : passes g drawn next (twin d) y ≡ true
  pub twins : (a : ℕ) → a < dart_count g → side (twin a) ≡ side a
  pub vertices : (a b : ℕ) → a < dart_count g → b < dart_count g → drawn (a / 2) ≡ true → drawn (b / 2) ≡ true → tail g a ≡ tail g b → tail g a ≢ tail g c → tail g a ≢ y → side a ≡ side b
  pub faces : (a b : ℕ) → same_face (edge_count g) next a b ≡ true → same_face (edge_count g) next (twin c) a ≡ false → same_face (edge_count g) next (twin d) a ≡ false → side a ≡ side b
  pub commons : (z : ℕ) → passes g drawn next (twin c) z ≡ true → passes g drawn next (twin d) z ≡ true → z ≢ tail g c → (a : ℕ) × (a < dart_count g) × (drawn (a / 2) ≡ true) × (tail g a ≡ z) × (side a ≡ false)
  pub one_inside : side (next c) ≡ true
  pub two_inside : side d ≡ true
  pub outside : (a : ℕ) × (a < dart_count g) × (drawn (a / 2) ≡ true) × (tail g a ≡ y) × (side a ≡ false)

-- a test that steps carry along where another one fails: it has one value on such an orbit
masked-orbit : (n : ℕ) (f : ℕ → ℕ) (a away : ℕ → Bool) → ((z : ℕ) → z < n → away (f z) ≡ away z) → ((z : ℕ) → z < n → away z ≡ false → a (f z) ≡ a z)
    → (x y : ℕ) → same_orbit n f x y ≡ true → away x ≡ false → a x ≡ a y
masked-orbit n f a away kept step x y t h = sym (plain (a x) (away x) h) ∙ orbit-test n f (λ z. a z || away z) each x y t ∙ plain (a y) (away y) (sym (orbit-test n f away kept x y t) ∙ h)
  where
    plain : (p q : Bool) → q ≡ false → (p || q) ≡ p
    plain p q e = grind (arith, e, cases_Bool p)

    each : (z : ℕ) → z < n → (a (f z) || away (f z)) ≡ (a z || away z)
    each z l = elim (cases_Bool (away z)) [
      | inl u ↦ or_right (a (f z)) (away (f z)) (kept z l ∙ u) ∙ sym (or_right (a z) (away z) u)
      | inr u ↦ plain (a (f z)) (away (f z)) (kept z l ∙ u) ∙ step z l u ∙ sym (plain (a z) (away z) u)
    ]

-- two corners c and d of one vertex, on different faces; the dart after c is not d; and another vertex w that both faces pass
module _ (g : Multigraph) (drawn : ℕ → Bool) (next previous : ℕ → ℕ) (s : IsDrawnMap g drawn next previous) (c d w : ℕ)
    (c_in : c < dart_count g) (d_in : d < dart_count g) (c_drawn : drawn (c / 2) ≡ true) (d_drawn : drawn (d / 2) ≡ true)
    (one : tail g c ≡ tail g d) (apart : same_face (edge_count g) next (twin c) (twin d) ≡ false) (long : next c ≢ d)
    (w_first : passes g drawn next (twin c) w ≡ true) (w_second : passes g drawn next (twin d) w ≡ true) (w_other : w ≢ tail g c) where
  abbrev step : ℕ → ℕ
  step = face next

  abbrev on_face : ℕ → ℕ → Bool
  on_face = same_face (edge_count g) next

  onward : IsEquivalence on_face
  onward = orbit-equivalence (dart_count g) step

  turns : Permutes (dart_count g) step (λ z. twin (previous z))
  turns = step-permutes g drawn next previous s

  -- no dart is on both faces
  not-both : (z : ℕ) → on_face (twin c) z ≡ true → on_face (twin d) z ≡ true → ⊥
  not-both z h i = both_ways (on_face (twin c) (twin d)) apart (onward.transitive (twin c) z (twin d) h (onward.symmetric (twin d) z i))

  -- the face of c, from the dart after c on
  abbrev along : ℕ → ℕ
  along i = iterate step i (next c)

  start-in : next c < dart_count g
  start-in = s.permutes.forth c c_in

  along-in : (i : ℕ) → along i < dart_count g
  along-in i = iterate-below (dart_count g) step (λ z. twin (previous z)) turns i (next c) start-in

  along-face : (i : ℕ) → on_face (twin c) (along i) ≡ true
  along-face i = onward.transitive (twin c) (next c) (along i) (corner-face g drawn next previous s c c_in) (iterate-orbit (dart_count g) step (λ z. twin (previous z)) turns i (next c) start-in)

  along-drawn : (i : ℕ) → drawn (along i / 2) ≡ true
  along-drawn zero = next-drawn g drawn next previous s c c_in c_drawn
  along-drawn (suc i) = next-drawn g drawn next previous s (twin (along i)) (twin-below (edge_count g) (along i) (along-in i)) (drawn-twin drawn (along i) ∙ along-drawn i)

  -- each dart leaves the vertex at which the one before arrives
  along-tail : (i : ℕ) → tail g (along (suc i)) ≡ tail g (twin (along i))
  along-tail i = s.tails (twin (along i)) (twin-below (edge_count g) (along i) (along-in i))

  start-tail : tail g (along 0) ≡ tail g c
  start-tail = s.tails c c_in

  -- equal darts are followed by equal darts
  along-shift : (i j r : ℕ) → along i ≡ along j → along (r + i) ≡ along (r + j)
  along-shift i j r q = iterate-sum step r i (next c) ∙ ap (iterate step r) q ∙ sym (iterate-sum step r j (next c))

  -- both faces pass a vertex
  abbrev common : ℕ → Bool
  common v = passes g drawn next (twin c) v && passes g drawn next (twin d) v

  -- the i-th dart arrives at another such vertex
  abbrev hits : ℕ → Bool
  hits i = common (tail g (twin (along i))) && not (tail g (twin (along i)) == tail g c)

  hits-from : (i v : ℕ) → tail g (along (suc i)) ≡ v → passes g drawn next (twin c) v ≡ true → passes g drawn next (twin d) v ≡ true → v ≢ tail g c → hits i ≡ true
  hits-from i v q h k n = subst (λ z. (common z && not (z == tail g c)) ≡ true) (sym q ∙ along-tail i)
      (and_from (common v) (not (v == tail g c)) (and_from (passes g drawn next (twin c) v) (passes g drawn next (twin d) v) h k) (not_from_false (v == tail g c) (ne_eqb v (tail g c) n)))

  -- a dart by which the face leaves such a vertex, and how far it is
  leaves-at : (v : ℕ) → passes g drawn next (twin c) v ≡ true → LeavesOn g drawn next (twin c) v
  leaves-at v h = corner-leaves g drawn next previous s (twin c) v (passes-corner g drawn next (twin c) v h)

  far : (z : ℕ) → on_face (twin c) z ≡ true → (k : ℕ) × (k < dart_count g) × (along k ≡ z)
  far z h = orbit-steps (dart_count g) step (λ y. twin (previous y)) turns (next c) z start-in
      (onward.transitive (next c) (twin c) z (onward.symmetric (twin c) (next c) (corner-face g drawn next previous s c c_in)) h)

  found : some (dart_count g) hits ≡ true
  found =
      let v : LeavesOn g drawn next (twin c) w = leaves-at w w_first in
      let k = far v.0 v.4 in
      arrives k.0 k.1 (ap (tail g) k.2 ∙ v.3)
    where
      arrives : (k : ℕ) → k < dart_count g → tail g (along k) ≡ w → some (dart_count g) hits ≡ true
      arrives zero l q = absurd (w_other (sym q ∙ start-tail))
      arrives (suc k) l q = some-from (dart_count g) hits k (omega arith) (hits-from k w q w_first w_second w_other)

  -- the first such arrival: by the twin of e, at y
  abbrev last : ℕ
  last = least (dart_count g) hits

  abbrev e : ℕ
  e = twin (along last)

  abbrev y : ℕ
  y = tail g e

  hits-last : hits last ≡ true
  hits-last = least-passes (dart_count g) hits found

  y-parts : (passes g drawn next (twin c) y ≡ true) × (passes g drawn next (twin d) y ≡ true) × (y ≢ tail g c)
  y-parts =
      let a = and_parts (common y) (not (y == tail g c)) hits-last in
      let b = and_parts (passes g drawn next (twin c) y) (passes g drawn next (twin d) y) a.0 in
      (b.0, b.1, (λ q. both_ways (y == tail g c) (not-true (y == tail g c) a.1) (eq-eqb y (tail g c) q)))

  e-in : e < dart_count g
  e-in = twin-below (edge_count g) (along last) (along-in last)

  e-drawn : drawn (e / 2) ≡ true
  e-drawn = drawn-twin drawn (along last) ∙ along-drawn last

  e-face : on_face (twin c) (twin e) ≡ true
  e-face = subst (λ z. on_face (twin c) z ≡ true) (sym (twin-twin (along last))) (along-face last)

  -- a corner of y on the other face
  corner : CornerOn g drawn next (twin d) y
  corner = passes-corner g drawn next (twin d) y y-parts.1

  abbrev k : ℕ
  k = corner.0

  -- darts at the two vertices are different
  differ : (a b : ℕ) → tail g a ≡ y → tail g b ≡ tail g c → a ≢ b
  differ a b p q r = y-parts.2 (sym p ∙ ap (tail g) r ∙ q)

  e-not_k : e ≢ k
  e-not_k q = not-both (twin e) e-face (subst (λ z. on_face (twin d) (twin z) ≡ true) (sym q) corner.4)

  c-not_d : c ≢ d
  c-not_d q = both_ways (on_face (twin c) (twin d)) apart (subst (λ z. on_face (twin c) (twin z) ≡ true) q (onward.reflexive (twin c)))

  -- the vertex of c is split: both faces become one
  abbrev split : ℕ → ℕ
  split = exchange c d next

  split-map : IsMap (edge_count g) split (back_after c d previous)
  split-map = step-map (edge_count g) next previous s.permutes c d c_in d_in

  one-vertex : same_vertex (edge_count g) next c d ≡ true
  one-vertex = s.vertices c d c_in d_in c_drawn d_drawn one

  split-plane : IsPlane (edge_count g) split
  split-plane = same-defect-plane (edge_count g) next split (split-merge-defect (edge_count g) next previous s.permutes c d c_in d_in c-not_d one-vertex apart) s.plane

  split-tail : (z : ℕ) → z < dart_count g → tail g (split z) ≡ tail g z
  split-tail z l = elim (exchange-cases c d next z) [
    | inl h ↦ ap (tail g) h.1 ∙ s.tails d d_in ∙ sym one ∙ sym (ap (tail g) h.0)
    | inr r ↦ elim r [
      | inl h ↦ ap (tail g) h.1 ∙ s.tails c c_in ∙ one ∙ sym (ap (tail g) h.0)
      | inr h ↦ ap (tail g) h.2 ∙ s.tails z l
    ]
  ]

  split-vertex : (a b : ℕ) → same_vertex (edge_count g) split a b ≡ true → tail g a ≡ tail g b
  split-vertex a b t = eqb-true (tail g a) (tail g b) (orbit-least (dart_count g) split (λ u v. tail g u == tail g v) (kernel-equivalence (tail g))
      (λ z l. eq-eqb (tail g z) (tail g (split z)) (sym (split-tail z l))) a b t)

  -- y stays one vertex
  y-vertex : same_vertex (edge_count g) split e k ≡ true
  y-vertex =
      let old : same_vertex (edge_count g) next e k ≡ true = s.vertices e k e-in corner.1 e-drawn corner.2 (sym corner.3) in
      elim (join-cases (same_vertex (edge_count g) split) c d e k (sym (exchange-split (dart_count g) next previous s.permutes c d c_in d_in c-not_d one-vertex e k) ∙ old)) [
        | inl t ↦ t
        | inr r ↦ elim r [
          | inl t ↦ absurd (y-parts.2 (split-vertex e c t.0))
          | inr t ↦ absurd (y-parts.2 (split-vertex e d t.0 ∙ sym one))
        ]
      ]

  -- and its two corners are on the one face
  y-face : same_face (edge_count g) split (twin e) (twin k) ≡ true
  y-face = face-join (edge_count g) next previous s.permutes c d c_in d_in apart (twin e) (twin k)
      ∙ both.transitive (twin e) (twin c) (twin k) (join-old on_face (twin c) (twin d) (twin e) (twin c) (onward.symmetric (twin c) (twin e) e-face))
      (both.transitive (twin c) (twin d) (twin k) (join-link on_face (twin c) (twin d) onward) (join-old on_face (twin c) (twin d) (twin d) (twin k) corner.4))
    where
      both : IsEquivalence (join on_face (twin c) (twin d))
      both = join-equivalence on_face (twin c) (twin d) onward

  -- y is split there: the map falls apart
  abbrev cut : ℕ → ℕ
  cut = exchange e k split

  abbrev linked : ℕ → ℕ → Bool
  linked = same_component (edge_count g) cut

  links : IsEquivalence linked
  links = component-equivalence (edge_count g) cut

  cut-apart : linked e k ≡ false
  cut-apart = corner-cut (edge_count g) split (back_after c d previous) split-map split-plane e k e-in corner.1 e-not_k y-vertex y-face

  cut-elsewhere : (z : ℕ) → z ≢ c → z ≢ d → z ≢ e → z ≢ k → cut z ≡ next z
  cut-elsewhere z a b p q = exchange-other e k split z p q ∙ exchange-other c d next z a b

  cut-d : cut d ≡ next c
  cut-d = exchange-other e k split d (λ q. differ e d refl (sym one) (sym q)) (λ q. differ k d corner.3 (sym one) (sym q)) ∙ exchange-right c d next

  cut-k : cut k ≡ next e
  cut-k = exchange-right e k split ∙ exchange-other c d next e (differ e c refl refl) (differ e d refl (sym one))

  -- along the face of c the step stays but at c and at e
  off-other : (i : ℕ) → (twin (along i) ≢ d) × (twin (along i) ≢ k)
  off-other i = (
    (λ q. not-both (along i) (along-face i) (subst (λ z. on_face (twin d) z ≡ true) (sym (twin-back (along i) d q)) (onward.reflexive (twin d)))),
    (λ q. not-both (along i) (along-face i) (subst (λ z. on_face (twin d) z ≡ true) (sym (twin-back (along i) k q)) corner.4)),
  )

  along-linked : (i : ℕ) → twin (along i) ≢ c → twin (along i) ≢ e → linked (along i) (along (suc i)) ≡ true
  along-linked i a b = subst (λ z. linked (along i) z ≡ true) (cut-elsewhere (twin (along i)) a (off-other i).0 b (off-other i).1) (component-face (edge_count g) cut (along i) (along-in i))

  -- up to e: linked with e
  before-last : (i : ℕ) → i < last → hits i ≡ true → ⊥
  before-last i l h = both_ways (hits i) (least-before (dart_count g) hits i l) h

  up : (i j : ℕ) → i + j ≡ last → linked (along j) (along last) ≡ true
  up zero j q = let r : j ≡ last = omega arith in subst (λ z. linked (along z) (along last) ≡ true) (sym r) (links.reflexive (along last))
  up (suc i) j q =
      let r : i + suc j ≡ last = omega arith in
      links.transitive (along j) (along (suc j)) (along last) (along-linked j (not-c r) not-e) (up i (suc j) r)
    where
      not-c : i + suc j ≡ last → twin (along j) ≢ c
      not-c r h =
          let same : along (i + suc j) ≡ along (i + 0) = along-shift (suc j) 0 i (ap next h) in
          let z : i + 0 ≡ i = omega arith in
          before-last i (omega arith) (subst (λ v. (common (tail g (twin v)) && not (tail g (twin v) == tail g c)) ≡ true)
          (sym (ap along r) ∙ same ∙ ap along z) hits-last)

      not-e : twin (along j) ≢ e
      not-e h = before-last j (omega arith) (subst (λ v. (common (tail g v) && not (tail g v == tail g c)) ≡ true) (sym h) hits-last)

  start-linked : linked e (next c) ≡ true
  start-linked =
      let q : last + 0 ≡ last = omega arith in
      links.symmetric (next c) e (links.transitive (next c) (along last) e (up last 0 q) (component-twin (edge_count g) cut (along last) (along-in last)))

  -- after e: linked with k, up to each dart that is met for the first time
  beyond : (z j : ℕ) → along j ≡ z → ((i : ℕ) → i < j → along i ≢ z) → (i n : ℕ) → n ≡ i + suc last → n ≤ j → linked k (along n) ≡ true
  beyond z j at first zero n q l =
      let r : n ≡ suc last = omega arith in
      subst (λ v. linked k (along v) ≡ true) (sym r) (subst (λ v. linked k v ≡ true) cut-k (component-next (edge_count g) cut k corner.1))
  beyond z j at first (suc i) n q l =
      let before : ℕ = i + suc last in
      let r : n ≡ suc before = omega arith in
      let less : before < j = omega arith in
      subst (λ v. linked k (along v) ≡ true) (sym r)
      (links.transitive k (along before) (along (suc before)) (beyond z j at first i before refl (omega arith)) (along-linked before (not-c before less) (not-e before less (omega arith))))
    where
      not-c : (b : ℕ) → b < j → twin (along b) ≢ c
      not-c b u h =
          let rest : (j - suc b) + suc b ≡ j = omega arith in
          first ((j - suc b) + 0) (omega arith) (sym (along-shift (suc b) 0 (j - suc b) (ap next h)) ∙ ap along rest ∙ at)

      not-e : (b : ℕ) → b < j → last < b → twin (along b) ≢ e
      not-e b u v h =
          let rest : (j - b) + b ≡ j = omega arith in
          let same : along b ≡ along last = sym (twin-twin (along b)) ∙ ap twin h ∙ twin-twin (along last) in
          first ((j - b) + last) (omega arith) (sym (along-shift b last (j - b) same) ∙ ap along rest ∙ at)

  -- so another vertex that both faces pass is left by a dart that is linked with k
  common-linked : (v : ℕ) → passes g drawn next (twin c) v ≡ true → passes g drawn next (twin d) v ≡ true → v ≢ tail g c → (a : ℕ) × (a < dart_count g) × (drawn (a / 2) ≡ true) × (tail g a ≡ v) × (linked k a ≡ true)
  common-linked v h i n =
      let a : LeavesOn g drawn next (twin c) v = leaves-at v h in
      let f = far a.0 a.4 in
      let met : some (dart_count g) (λ j. along j == a.0) ≡ true = some-from (dart_count g) (λ j. along j == a.0) f.0 f.1 (eq-eqb (along f.0) a.0 f.2) in
      let at : along (least (dart_count g) (λ j. along j == a.0)) ≡ a.0 = eqb-true (along (least (dart_count g) (λ j. along j == a.0))) a.0 (least-passes (dart_count g) (λ j. along j == a.0) met) in
      (a.0, a.1, a.2, a.3, reach a.0 (least (dart_count g) (λ j. along j == a.0)) at a.3 (λ j l q. both_ways (along j == a.0) (least-before (dart_count g) (λ j. along j == a.0) j l) (eq-eqb (along j) a.0 q)))
    where
      reach : (z j : ℕ) → along j ≡ z → tail g z ≡ v → ((i : ℕ) → i < j → along i ≢ z) → linked k z ≡ true
      reach z zero at t first = absurd (n (sym t ∙ ap (tail g) (sym at) ∙ start-tail))
      reach z (suc j) at t first =
          let low : last ≤ j = least-first (dart_count g) hits j (hits-from j v (ap (tail g) at ∙ t) h i n) in
          subst (λ x. linked k x ≡ true) at (beyond z (suc j) at first (j - last) (suc j) (omega arith) (omega arith))

  -- the side of e
  abbrev side : ℕ → Bool
  side a = linked e a

  one-side : (a b : ℕ) → linked a b ≡ true → side a ≡ side b
  one-side a b t = same-tests (side a) (side b) (λ h. links.transitive e a b h t) (λ h. links.transitive e b a h (links.symmetric a b t))

  away-k : (a : ℕ) → linked k a ≡ true → side a ≡ false
  away-k a t = false_from_ne_true (side a) (λ h. both_ways (linked e k) cut-apart (links.transitive e a k h (links.symmetric k a t)))

  vertex-side : (a b : ℕ) → a < dart_count g → b < dart_count g → drawn (a / 2) ≡ true → drawn (b / 2) ≡ true → tail g a ≡ tail g b → tail g a ≢ tail g c → tail g a ≢ y → side a ≡ side b
  vertex-side a b l m h i q not_c not_y = masked-orbit (dart_count g) next side away (λ z u. ap (λ v. (v == tail g c) || (v == y)) (s.tails z u)) keeps a b
      (s.vertices a b l m h i q) (or_from (tail g a == tail g c) (tail g a == y) (ne_eqb (tail g a) (tail g c) not_c) (ne_eqb (tail g a) y not_y))
    where
      away : ℕ → Bool
      away z = (tail g z == tail g c) || (tail g z == y)

      keeps : (z : ℕ) → z < dart_count g → away z ≡ false → side (next z) ≡ side z
      keeps z u f =
          let p = or_parts (tail g z == tail g c) (tail g z == y) f in
          let nc : tail g z ≢ tail g c = eqb-false (tail g z) (tail g c) p.0 in
          let ny : tail g z ≢ y = eqb-false (tail g z) y p.1 in
          sym (one-side z (next z) (subst (λ v. linked z v ≡ true)
          (cut-elsewhere z (λ r. nc (ap (tail g) r)) (λ r. nc (ap (tail g) r ∙ sym one)) (λ r. ny (ap (tail g) r)) (λ r. ny (ap (tail g) r ∙ corner.3)))
          (component-next (edge_count g) cut z u)))

  face-side : (a b : ℕ) → on_face a b ≡ true → on_face (twin c) a ≡ false → on_face (twin d) a ≡ false → side a ≡ side b
  face-side a b t h i = masked-orbit (dart_count g) step side away kept keeps a b t (or_from (on_face (twin c) a) (on_face (twin d) a) h i)
    where
      away : ℕ → Bool
      away z = on_face (twin c) z || on_face (twin d) z

      same : (p z : ℕ) → z < dart_count g → on_face p (step z) ≡ on_face p z
      same p z u = same-tests (on_face p (step z)) (on_face p z)
          (λ v. onward.transitive p (step z) z v (onward.symmetric z (step z) (orbit-step (dart_count g) step z u)))
          (λ v. onward.transitive p z (step z) v (orbit-step (dart_count g) step z u))

      kept : (z : ℕ) → z < dart_count g → away (step z) ≡ away z
      kept z u = ap₂ (λ p q. p || q) (same (twin c) z u) (same (twin d) z u)

      off : (p q z : ℕ) → on_face p z ≡ false → on_face p (twin q) ≡ true → twin z ≢ q
      off p q z f v r = both_ways (on_face p z) f (subst (λ x. on_face p x ≡ true) (sym (twin-back z q r)) v)

      keeps : (z : ℕ) → z < dart_count g → away z ≡ false → side (step z) ≡ side z
      keeps z u f =
          let p = or_parts (on_face (twin c) z) (on_face (twin d) z) f in
          sym (one-side z (step z) (subst (λ v. linked z v ≡ true)
          (cut-elsewhere (twin z) (off (twin c) c z p.0 (onward.reflexive (twin c))) (off (twin d) d z p.1 (onward.reflexive (twin d))) (off (twin c) e z p.0 e-face) (off (twin d) k z p.1 corner.4))
          (component-face (edge_count g) cut z u)))

  d-linked : side d ≡ true
  d-linked = links.transitive e (next c) d start-linked (links.symmetric d (next c) (subst (λ z. linked d z ≡ true) cut-d (component-next (edge_count g) cut d d_in)))

  -- the cut
  pub cut-between : (y : ℕ) × (side : ℕ → Bool) × IsCut g drawn next c d y side
  cut-between = (
    y,
    side,
    record {
      other = y-parts.2;
      first_passes = y-parts.0;
      second_passes = y-parts.1;
      twins = λ a l. sym (one-side a (twin a) (component-twin (edge_count g) cut a l));
      vertices = vertex-side;
      faces = face-side;
      commons = λ z h i n. let v = common-linked z h i n in (v.0, v.1, v.2, v.3, away-k v.0 v.4);
      one_inside = start-linked;
      two_inside = d-linked;
      outside = (k, corner.1, corner.2, corner.3, away-k k (links.reflexive k));
    },
  )
