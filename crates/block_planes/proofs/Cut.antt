-- A map cut at a vertex where the label changes: it is plane where both sides of the cut are.
use Rattle.std.proofs.Common.{◌≡◌, ◌≢◌, ℕ, ◌*◌, ◌<◌, inl, inr, Bool, true, false, not, ◌&&◌, List, [], ◌∷◌, ◌++◌, refl, sym, ap, ◌∙◌, subst, eq-eqb}
use Rattle.std.proofs.lemmas.Bool.{cases_Bool, cases_eq, both_ways, false_from_ne_true, true≢false, and_parts, and_from, eqb-true}
use Rattle.permutations.specs.Count.{some}
use Rattle.permutations.specs.Relation.{IsEquivalence}
use Rattle.permutations.specs.Permutation.{Permutes}
use Rattle.permutations.specs.Members.{is_member, is_distinct}
use Rattle.permutations.specs.Cyclic.{FollowsAround}
use Rattle.permutations.specs.Exchange.{exchange, restricted}
use Rattle.permutations.specs.Ring.{ring}
use Rattle.permutations.proofs.Search.{some-from, some-witness, some-ext}
use Rattle.permutations.proofs.Relation.{same-tests}
use Rattle.permutations.proofs.Members.{member-head, member-append_cases, member-append_left, member-append_right, distinct-append_apart}
use Rattle.permutations.proofs.Permutations.{permutes-one-to-one, exchange-other, exchange-cases, exchange-twice}
use Rattle.permutations.proofs.Orbits.{orbit-equivalence, orbit-step}
use Rattle.permutations.proofs.Restriction.{restricted-alone, restricted-next, restricted-permutes}
use Rattle.permutations.proofs.Rings.{ring-member, ring-below, ring-distinct}
use Rattle.permutations.proofs.RingExchange.{ring-parted}
use Rattle.dart_maps.specs.Map.{twin, IsMap, same_vertex, same_component, IsPlane}
use Rattle.dart_maps.proofs.Components.{component-test}
use Rattle.dart_maps.proofs.Steps.{back_after, step-map}
use Rattle.dart_maps.proofs.Euler.{plane-ext}
use Rattle.dart_maps.proofs.Plane.{same-defect-plane, merge-apart-defect}
use Rattle.dart_maps.proofs.Parts.{parts-plane}
use Rattle.block_planes.proofs.Separated.{IsSeparated, vertex-step}
use Rattle.block_planes.proofs.Stretch.{Stretch, stretch, stretch-apart}

-- permutations that agree but at one number agree there too
agree-everywhere : (n : ℕ) (a p c q : ℕ → ℕ) → Permutes n a p → Permutes n c q → (e : ℕ) → ((d : ℕ) → d < n → d ≢ e → a d ≡ c d) → (d : ℕ) → d < n → a d ≡ c d
agree-everywhere n a p c q i j e h d l = elim (cases_eq d e) [
  | inr k ↦ h d l k
  | inl k ↦ elim (cases_eq (q (a d)) d) [
    | inl s ↦ sym (j.forth_back (a d) (i.forth d l)) ∙ ap c s
    | inr s ↦ absurd (s (permutes-one-to-one n a p i (q (a d)) d (j.back (a d) (i.forth d l)) l
        (h (q (a d)) (j.back (a d) (i.forth d l)) (λ v. s (v ∙ sym k)) ∙ j.forth_back (a d) (i.forth d l))))
  ]
]

-- two maps that agree but at two darts, and a test that the steps of the one keep: where it fails at one of the two darts, the
-- maps of the edges that pass are the same
agree-within : (m : ℕ) (h p f g : ℕ → ℕ) → IsMap m h p → IsMap m f g → (keep : ℕ → Bool) → ((d : ℕ) → d < 2 * m → keep (h d) ≡ keep d) → (u v : ℕ) → ((d : ℕ) → d ≢ u → d ≢ v → h d ≡ f d) → keep v ≡ false
    → (d : ℕ) → d < 2 * m → restricted (2 * m) keep h d ≡ restricted (2 * m) keep f d
agree-within m h p f g i j keep kept u v same out = agree-everywhere (2 * m) (restricted (2 * m) keep h) (restricted (2 * m) keep p) (restricted (2 * m) keep f) (restricted (2 * m) keep g)
    (restricted-permutes (2 * m) keep h p i) (restricted-permutes (2 * m) keep f g j) u step
  where
    step : (d : ℕ) → d < 2 * m → d ≢ u → restricted (2 * m) keep h d ≡ restricted (2 * m) keep f d
    step d l n = elim (cases_Bool (keep d)) [
      | inr t ↦ restricted-alone (2 * m) keep h d t ∙ sym (restricted-alone (2 * m) keep f d t)
      | inl t ↦
          let e : h d ≡ f d = same d n (λ q. both_ways (keep d) (ap keep q ∙ out) t) in
          restricted-next (2 * m) keep h p i d l t (kept d l ∙ t) ∙ e ∙ sym (restricted-next (2 * m) keep f g j d l t (ap keep (sym e) ∙ kept d l ∙ t))
    ]

-- a map in two sides, with a dart of one vertex on each: it is plane where both sides are
pub record TwoSides (m : ℕ) (f : ℕ → ℕ) (x : ℕ) : Type 0 where
  pub side : ℕ → Bool
  pub edges : (d : ℕ) → d < 2 * m → side (twin d) ≡ side d
  pub inside : ℕ
  pub inside_in : inside < 2 * m
  pub one_vertex : same_vertex m f x inside ≡ true
  pub passes : side inside ≡ true
  pub fails : side x ≡ false
  pub together : IsPlane m (restricted (2 * m) side f) → IsPlane m (restricted (2 * m) (λ d. not (side d)) f) → IsPlane m f

-- a map whose labels are separated at the vertex of x, where the label changes after x, and no labels cross
module _ (m : ℕ) (f g : ℕ → ℕ) (b : IsMap m f g) (lab : ℕ → ℕ) (x : ℕ) (l : x < 2 * m) (differ : lab (f x) ≢ lab x) (separated : (k : ℕ) → IsSeparated m f lab x k)
    (none : (p q v w : ℕ) → FollowsAround (ring (2 * m) f (f x)) (p ∷ q ∷ v ∷ w ∷ []) → lab p ≡ lab v → lab q ≡ lab w → lab p ≡ lab q) where
  s : Stretch m f lab x
  s = stretch m f g b lab x l differ

  -- the last dart of the stretch
  abbrev p : ℕ
  p = s.last

  -- the darts of the stretch, and the others at the vertex
  abbrev first : List ℕ
  first = s.front ++ s.last ∷ []

  abbrev second : List ℕ
  second = s.back ++ x ∷ []

  -- they are those of the vertex
  at-vertex : (y : ℕ) → same_vertex m f x y ≡ is_member y (first ++ second)
  at-vertex y = same-tests (same_vertex m f x y) (is_member y (first ++ second))
      (λ t. sym (ap (is_member y) s.is) ∙ ring-member (2 * m) f g b (f x) (b.forth x l) y ∙ e.transitive (f x) x y (e.symmetric x (f x) (orbit-step (2 * m) f x l)) t)
      (λ t. e.transitive x (f x) y (orbit-step (2 * m) f x l) (sym (ring-member (2 * m) f g b (f x) (b.forth x l) y) ∙ ap (is_member y) s.is ∙ t))
    where
      e : IsEquivalence (same_vertex m f)
      e = orbit-equivalence (2 * m) f

  p-first : is_member p first ≡ true
  p-first = member-append_right p s.front (p ∷ []) (member-head p [])

  x-second : is_member x second ≡ true
  x-second = member-append_right x s.back (x ∷ []) (member-head x [])

  p-vertex : same_vertex m f x p ≡ true
  p-vertex = at-vertex p ∙ member-append_left p first second p-first

  p-below : p < 2 * m
  p-below = ring-below (2 * m) f g b (f x) (b.forth x l) p (ap (is_member p) s.is ∙ member-append_left p first second p-first)

  -- the map with the stretch cut off
  abbrev cut : ℕ → ℕ
  cut = exchange p x f

  cut-map : IsMap m (exchange s.last x f) (back_after s.last x g)
  cut-map = step-map m f g b p x p-below l

  -- whether a dart is of the stretch: it is a vertex of its own then
  abbrev on : ℕ → Bool
  on y = same_vertex m cut (f x) y

  on-member : (y : ℕ) → on y ≡ is_member y first
  on-member y = sym (ring-member (2 * m) cut (back_after p x g) cut-map (f x) (b.forth x l) y) ∙ ap (is_member y) (ring-parted (2 * m) f g b (f x) p x s.front s.back (b.forth x l) s.is)

  x-off : on x ≡ false
  x-off = on-member x ∙ false_from_ne_true (is_member x first) (λ t. both_ways (is_member x second)
      (distinct-append_apart first second (ap (is_distinct) (sym s.is) ∙ ring-distinct (2 * m) f g b (f x) (b.forth x l)) x t) x-second)

  -- the side of the stretch: what is distinguished from the other labels of the vertex together with some label of the stretch
  abbrev side : ℕ → Bool
  side y = some (2 * m) (λ z. on z && (separated (lab z)).side y)

  side-twin : (d : ℕ) → d < 2 * m → side (twin d) ≡ side d
  side-twin d k = some-ext (2 * m) (λ z. on z && (separated (lab z)).side (twin d)) (λ z. on z && (separated (lab z)).side d) (λ z j. ap (λ y. on z && y) ((separated (lab z)).edges d k))

  side-elsewhere : (d : ℕ) → d < 2 * m → same_vertex m f x d ≡ false → side (f d) ≡ side d
  side-elsewhere d k n = some-ext (2 * m) (λ z. on z && (separated (lab z)).side (f d)) (λ z. on z && (separated (lab z)).side d) (λ z j. ap (λ y. on z && y) ((separated (lab z)).elsewhere d k n))

  -- at the vertex these are the darts of the stretch
  side-here : (d : ℕ) → d < 2 * m → same_vertex m f x d ≡ true → side d ≡ on d
  side-here d k t = same-tests (side d) (on d)
      (λ h. let w = some-witness (2 * m) (λ z. on z && (separated (lab z)).side d) h in
      let both = and_parts (on w.0) ((separated (lab w.0)).side d) w.2 in
      let same : lab d ≡ lab w.0 = eqb-true (lab d) (lab w.0) (sym ((separated (lab w.0)).here d k t) ∙ both.1) in
      elim (member-append_cases d first second (sym (at-vertex d) ∙ t)) [
        | inl i ↦ on-member d ∙ i
        | inr i ↦ absurd (stretch-apart m f g b lab x l differ s none w.0 d (sym (on-member w.0) ∙ both.0) i (sym same))
      ])
      (λ h. some-from (2 * m) (λ z. on z && (separated (lab z)).side d) d k (and_from (on d) ((separated (lab d)).side d) h ((separated (lab d)).here d k t ∙ eq-eqb (lab d) (lab d) refl)))

  -- the steps of the map that is cut keep the side
  side-cut : (d : ℕ) → d < 2 * m → side (cut d) ≡ side d
  side-cut d k = elim (cases_Bool (same_vertex m f x d)) [
    | inl t ↦ side-here (cut d) (cut-map.forth d k) (stays t) ∙ vertex-step m cut (f x) d k ∙ sym (side-here d k t)
    | inr t ↦ ap side (exchange-other p x f d (λ q. both_ways (same_vertex m f x d) t (ap (same_vertex m f x) q ∙ p-vertex)) (λ q. both_ways (same_vertex m f x d) t (ap (same_vertex m f x) q ∙ e.reflexive x))) ∙ side-elsewhere d k t
  ]
    where
      e : IsEquivalence (same_vertex m f)
      e = orbit-equivalence (2 * m) f

      stays : same_vertex m f x d ≡ true → same_vertex m f x (cut d) ≡ true
      stays t = elim (exchange-cases p x f d) [
        | inl i ↦ ap (same_vertex m f x) i.1 ∙ orbit-step (2 * m) f x l
        | inr r ↦ elim r [
          | inl i ↦ ap (same_vertex m f x) i.1 ∙ vertex-step m f x p p-below ∙ p-vertex
          | inr i ↦ ap (same_vertex m f x) i.2 ∙ vertex-step m f x d k ∙ t
        ]
      ]

  p-inside : side p ≡ true
  p-inside = side-here p p-below p-vertex ∙ on-member p ∙ p-first

  x-outside : side x ≡ false
  x-outside = side-here x l ((orbit-equivalence (2 * m) f).reflexive x) ∙ x-off

  -- so the cut parts a component
  cut-apart : same_component m cut p x ≡ false
  cut-apart = false_from_ne_true (same_component m cut p x) (λ t. true≢false (sym p-inside ∙ component-test m cut side side-cut side-twin p x t ∙ x-outside))

  cut-other : (d : ℕ) → d ≢ p → d ≢ x → cut d ≡ f d
  cut-other d i j = exchange-other p x f d i j

  -- and the map is plane where both sides are
  sides-plane : IsPlane m (restricted (2 * m) side f) → IsPlane m (restricted (2 * m) (λ d. not (side d)) f) → IsPlane m f
  sides-plane i j = subst (IsPlane m) (exchange-twice p x f)
      (same-defect-plane m cut (exchange p x cut) (merge-apart-defect m cut (back_after p x g) cut-map p x p-below l cut-apart)
      (parts-plane m cut (back_after p x g) cut-map side side-cut side-twin
      (plane-ext m (restricted (2 * m) side f) (restricted (2 * m) side cut) (λ d k. sym (agree-within m cut (back_after p x g) f g cut-map b side side-cut p x cut-other x-outside d k)) i)
      (plane-ext m (restricted (2 * m) (λ d. not (side d)) f) (restricted (2 * m) (λ d. not (side d)) cut)
      (λ d k. sym (agree-within m cut (back_after p x g) f g cut-map b (λ z. not (side z)) (λ z h. ap not (side-cut z h)) x p (λ z u v. cut-other z v u) (ap not p-inside) d k)) j)))

  pub two-sides : TwoSides m f x
  two-sides = record {
    side = side;
    edges = side-twin;
    inside = p;
    inside_in = p-below;
    one_vertex = p-vertex;
    passes = p-inside;
    fails = x-outside;
    together = sides-plane;
  }
