-- Euler's sum of a plane map some edges of which are dead: what the others give to it.
use Rattle.std.proofs.Common.{◌≡◌, ℕ, ◌+◌, ◌*◌, ◌/◌, ◌%◌, ◌<◌, ◌≤◌, inl, inr, Bool, true, false, cond, not, ◌&&◌, ◌==◌, List, [], ◌∷◌, length, refl, sym, ap, ◌∙◌, subst, arith, eqb-true, eq-eqb}
use Rattle.std.proofs.lemmas.Bool.{cases_Bool, both_ways, false_from_ne_true, true≢false, and_parts, and_from, not-true}
use Rattle.permutations.specs.Count.{count, some, least}
use Rattle.permutations.specs.Members.{is_member, is_distinct}
use Rattle.permutations.specs.Relation.{IsEquivalence, leads, leads_in, class_count_in, class_size}
use Rattle.permutations.proofs.Count.{count-split, count-all, count-positive, count-subset}
use Rattle.permutations.proofs.Members.{member-cases}
use Rattle.permutations.proofs.Search.{some-from, least-below, least-passes, least-before}
use Rattle.permutations.proofs.Sums.{sum_below-le, sum_below-times}
use Rattle.permutations.proofs.Injection.{count-injection, count-bijection}
use Rattle.permutations.proofs.Arrangements.{count-list}
use Rattle.permutations.proofs.Leaders.{leads-from, leads_in-from, leads_in-member, leads_in-before, leads_in-once}
use Rattle.permutations.proofs.Classes.{class_count-closed}
use Rattle.permutations.proofs.ClassSizes.{class-sum}
use Rattle.permutations.proofs.Orbits.{orbit-test, orbit-step}
use Rattle.permutations.proofs.Unlinking.{alone-orbit}
use Rattle.dart_maps.specs.Map.{twin, face, IsMap, same_vertex, same_face, same_component, vertex_count, face_count, component_count, IsPlane}
use Rattle.dart_maps.proofs.Darts.{twin-below, twin-edge, face-twin}
use Rattle.dart_maps.proofs.Components.{component-equivalence, component-twin, component-test}
use Rattle.dart_maps.proofs.Renumber.{paired-count, dead-classes, alone-classes}

-- a list of numbers has a bound
list-bound : (l : List ℕ) → (m : ℕ) × ((v : ℕ) → is_member v l ≡ true → v < m)
list-bound [] = (0, λ v h. absurd (true≢false (sym h)))
list-bound (x ∷ l) = let w = list-bound l in (x + 1 + w.0, λ v h. elim (member-cases v x l h) [ inl e ↦ omega arith | inr t ↦ let b = w.1 v t in omega arith ])

-- the classes of members are no more than the entries of a list without repetition, where members with one entry are related
pub classes-listed : (n : ℕ) (d : ℕ → Bool) (r : ℕ → ℕ → Bool) (h : ℕ → ℕ) (l : List ℕ) → is_distinct l ≡ true
    → ((x : ℕ) → x < n → d x ≡ true → is_member (h x) l ≡ true)
    → ((x y : ℕ) → x < n → y < n → d x ≡ true → d y ≡ true → h x ≡ h y → r x y ≡ true)
    → class_count_in n d r ≤ length l
classes-listed n d r h l once listed same =
    let w = list-bound l in
    let all : count w.0 (λ v. is_member v l) ≡ length l = count-list w.0 (λ v. is_member v l) l once w.1 (λ v k. refl) in
    let few : class_count_in n d r ≤ count w.0 (λ v. is_member v l) = count-injection n w.0 (leads_in d r) (λ v. is_member v l) h
    (λ x k t. w.1 (h x) (listed x k (leads_in-member d r x t)))
    (λ x k t. listed x k (leads_in-member d r x t))
    (λ x y k j t u e. leads_in-once d r x y t u
    (same x y k j (leads_in-member d r x t) (leads_in-member d r y u) e)
    (same y x j k (leads_in-member d r y u) (leads_in-member d r x t) (sym e))) in
    omega arith

-- the numbers that pass a test are no less than a list without repetition of such numbers
pub count-listed : (n : ℕ) (t : ℕ → Bool) (l : List ℕ) → is_distinct l ≡ true → ((x : ℕ) → is_member x l ≡ true → x < n) → ((x : ℕ) → is_member x l ≡ true → t x ≡ true) → length l ≤ count n t
count-listed n t l once below passes = omega (
  arith,
  count-list n (λ v. is_member v l) l once below (λ v k. refl),
  count-subset n (λ v. is_member v l) t (λ v k m. passes v m),
)

-- where each class of a member has at least k numbers that pass t, these are at least k times as many as the classes
pub classes-sized : (n : ℕ) (d t : ℕ → Bool) (r : ℕ → ℕ → Bool) (k : ℕ) → IsEquivalence r → ((x y : ℕ) → r x y ≡ true → d x ≡ d y)
    → ((x : ℕ) → x < n → d x ≡ true → k ≤ class_size n t r x) → k * class_count_in n d r ≤ count n t
classes-sized n d t r k e closed big = omega (
  arith,
  class-sum n t r e,
  sum_below-times n (leads_in d r) k,
  sum_below-le n (λ x. cond (leads_in d r x) k 0) (λ x. cond (leads r x) (class_size n t r x) 0) terms,
)
  where
    first : (x : ℕ) → leads_in d r x ≡ true → leads r x ≡ true
    first x h = leads-from r x (λ y l. false_from_ne_true (r y x) (λ t. both_ways (r y x) (leads_in-before d r x y h l (closed y x t ∙ leads_in-member d r x h)) t))

    terms : (x : ℕ) → x < n → cond (leads_in d r x) k 0 ≤ cond (leads r x) (class_size n t r x) 0
    terms x l = elim (cases_Bool (leads_in d r x)) [
      | inl h ↦ let yes : leads r x ≡ true = first x h in rw (h, yes) (big x l (leads_in-member d r x h))
      | inr h ↦ rw h (omega arith)
    ]

-- where a number is a member there is a class of members
pub classes-some : (n : ℕ) (d : ℕ → Bool) (r : ℕ → ℕ → Bool) (x : ℕ) → x < n → d x ≡ true → 1 ≤ class_count_in n d r
classes-some n d r x l h =
    let found : some n d ≡ true = some-from n d x l h in
    let first : leads_in d r (least n d) ≡ true = leads_in-from d r (least n d) (least-passes n d found) (λ y k t. absurd (both_ways (d y) (least-before n d y k) t)) in
    let positive : 0 < count n (leads_in d r) = count-positive n (leads_in d r) (least n d) (least-below n d found) first in
    omega arith

-- the darts of edges that pass a test and leave first ends are as many as these edges
pub edges-even : (m : ℕ) (t : ℕ → Bool) → count (2 * m) (λ d. t (d / 2) && (d % 2 == 0)) ≡ count m t
edges-even m t = count-bijection (2 * m) m (λ d. t (d / 2) && (d % 2 == 0)) t (λ d. d / 2) (λ e. 2 * e)
    (λ d l h. omega arith)
    (λ d l h. (and_parts (t (d / 2)) (d % 2 == 0) h).0)
    (λ d l h. let even : d % 2 ≡ 0 = eqb-true (d % 2) 0 (and_parts (t (d / 2)) (d % 2 == 0) h).1 in omega arith)
    (λ e l h. omega arith)
    (λ e l h. let half : (2 * e) / 2 ≡ e = omega arith in let even : (2 * e) % 2 ≡ 0 = omega arith in and_from (t ((2 * e) / 2)) ((2 * e) % 2 == 0) (ap t half ∙ h) (eq-eqb ((2 * e) % 2) 0 even))
    (λ e l h. omega arith)

-- a map, and a test of edges: the darts of edges that fail are alone
module _ (m : ℕ) (f g : ℕ → ℕ) (b : IsMap m f g) (kept : ℕ → Bool) (alone : (d : ℕ) → d < 2 * m → kept (d / 2) ≡ false → f d ≡ d) where
  abbrev live : ℕ → Bool
  live d = kept (d / 2)

  abbrev dead : ℕ → Bool
  dead d = not (kept (d / 2))

  -- steps, twins and faces keep what is live
  live-step : (d : ℕ) → d < 2 * m → live (f d) ≡ live d
  live-step d l = elim (cases_Bool (live d)) [
    | inl t ↦ elim (cases_Bool (live (f d))) [
      | inl u ↦ u ∙ sym t
      | inr u ↦
          let same : f d ≡ d = sym (b.back_forth (f d) (b.forth d l)) ∙ ap g (alone (f d) (b.forth d l) u) ∙ b.back_forth d l in
          absurd (both_ways (live d) (ap live (sym same) ∙ u) t)
    ]
    | inr t ↦ ap live (alone d l t)
  ]

  live-twin : (d : ℕ) → d < 2 * m → live (twin d) ≡ live d
  live-twin d l = ap kept (twin-edge d)

  live-face : (d : ℕ) → d < 2 * m → live (face f d) ≡ live d
  live-face d l = live-step (twin d) (twin-below m d l) ∙ live-twin d l

  -- darts of one dead edge
  abbrev of_edge : ℕ → ℕ → Bool
  of_edge y x = not (live x) && (x / 2 == y / 2)

  -- a step that keeps what is live and each dead edge keeps this
  of-edge-step : (s : ℕ → ℕ) → ((d : ℕ) → d < 2 * m → live (s d) ≡ live d) → ((d : ℕ) → d < 2 * m → live d ≡ false → s d / 2 ≡ d / 2) → (y d : ℕ) → d < 2 * m → of_edge y (s d) ≡ of_edge y d
  of-edge-step s keeps stays y d l = elim (cases_Bool (live d)) [
    | inl t ↦ rw (keeps d l, t) refl
    | inr t ↦ rw (keeps d l, t, stays d l t) refl
  ]

  alone-edge : (d : ℕ) → d < 2 * m → live d ≡ false → f d / 2 ≡ d / 2
  alone-edge d l t = ap (λ (v : ℕ). v / 2) (alone d l t)

  face-edge : (d : ℕ) → d < 2 * m → live d ≡ false → face f d / 2 ≡ d / 2
  face-edge d l t = alone-edge (twin d) (twin-below m d l) (live-twin d l ∙ t) ∙ twin-edge d

  -- each dead dart is a vertex
  vertices-left : vertex_count m f ≡ class_count_in (2 * m) live (same_vertex m f) + count (2 * m) dead
  vertices-left = omega (
    arith,
    class_count-closed (2 * m) live (same_vertex m f) (orbit-test (2 * m) f live live-step),
    alone-classes (2 * m) dead (same_vertex m f) (λ x y l t u. alone-orbit (2 * m) y f g b l (alone y l (not-true (live y) t)) x u),
  )

  -- of an edge's darts, one test says it where the other does
  same-edge : (r : ℕ → ℕ → Bool) → ((y x z : ℕ) → r x z ≡ true → of_edge y x ≡ of_edge y z) → (x y : ℕ) → dead y ≡ true → r y x ≡ true → x / 2 ≡ y / 2
  same-edge r keeps x y t u = eqb-true (x / 2) (y / 2) (and_parts (not (live x)) (x / 2 == y / 2) (sym (keeps y y x u) ∙ and_from (not (live y)) (y / 2 == y / 2) t (eq-eqb (y / 2) (y / 2) refl))).1

  -- each dead edge is a face
  faces-left : face_count m f ≡ class_count_in (2 * m) live (same_face m f) + count (2 * m) (λ d. not (live d) && (d % 2 == 0))
  faces-left = omega (
    arith,
    class_count-closed (2 * m) live (same_face m f) (orbit-test (2 * m) (face f) live live-face),
    dead-classes m dead (same_face m f)
        (same-edge (same_face m f) (λ y. orbit-test (2 * m) (face f) (of_edge y) (of-edge-step (face f) live-face face-edge y)))
        (λ d l t. subst (λ (u : ℕ). same_face m f (twin d) u ≡ true) (face-twin f d ∙ alone d l (not-true (live d) t)) (orbit-step (2 * m) (face f) (twin d) (twin-below m d l)))
        (λ d l. ap not (live-twin d l)),
  )

  -- each dead edge is a component
  components-left : component_count m f ≡ class_count_in (2 * m) live (same_component m f) + count (2 * m) (λ d. not (live d) && (d % 2 == 0))
  components-left = omega (
    arith,
    class_count-closed (2 * m) live (same_component m f) (component-test m f live live-step live-twin),
    dead-classes m dead (same_component m f)
        (same-edge (same_component m f) (λ y. component-test m f (of_edge y) (of-edge-step f live-step alone-edge y) (of-edge-step twin live-twin (λ d l t. twin-edge d) y)))
        (λ d l t. (component-equivalence m f).symmetric d (twin d) (component-twin m f d l))
        (λ d l. ap not (live-twin d l)),
  )

  -- the edges, dead and not
  edges-left : m ≡ count m kept + count (2 * m) (λ d. not (live d) && (d % 2 == 0))
  edges-left = omega (
    arith,
    count-split m (λ e. true) kept,
    count-all m (λ e. true) (λ e l. refl),
    edges-even m (λ e. not (kept e)),
  )

  -- in a plane map the classes of live darts add up as vertices, faces and components do
  pub plane-left : IsPlane m f → class_count_in (2 * m) live (same_vertex m f) + class_count_in (2 * m) live (same_face m f) ≡ count m kept + 2 * class_count_in (2 * m) live (same_component m f)
  plane-left p = omega (arith, p, vertices-left, faces-left, components-left, edges-left, paired-count m dead (λ d l. ap not (live-twin d l)))

  -- live darts' faces are live
  pub face-live : (x y : ℕ) → same_face m f x y ≡ true → live x ≡ live y
  face-live = orbit-test (2 * m) (face f) live live-face
