-- The bond: a map with two vertices and all edges between them is plane exactly where its faces are pairs.
use Rattle.std.proofs.Common.{◌≡◌, ℕ, zero, suc, ◌*◌, ◌<◌, ◌≤◌, ◌⊎◌, inl, inr, Bool, true, false, not, ◌&&◌, ◌||◌, ◌==◌, ltb, refl, sym, ap, ◌∙◌, subst, arith, eqb-true, eq-eqb, le-ltb, ltb-true, lt-ltb}
use Rattle.std.proofs.lemmas.Bool.{cases_Bool, cases_eq, cases_lt, or_cases, or_left, or_right, not-true, ltb-false, false_from_ne_true, and_from, ne_eqb}
use Rattle.permutations.specs.Count.{count}
use Rattle.permutations.specs.Relation.{IsEquivalence, leads}
use Rattle.permutations.specs.Permutation.{Permutes, same_orbit, orbit_count}
use Rattle.permutations.proofs.Relation.{same-tests}
use Rattle.permutations.proofs.Permutations.{permutes-one-to-one, permutes-ext}
use Rattle.permutations.proofs.Orbits.{orbit-equivalence, orbit-step, orbit-test}
use Rattle.dart_maps.specs.Map.{twin, face, IsMap, same_vertex, same_component, vertex_count, component_count, IsPlane}
use Rattle.dart_maps.proofs.Darts.{twin-even, twin-below, face-permutes}
use Rattle.dart_maps.proofs.Components.{component-equivalence, component-twin, vertex-component}
use Rattle.permutations.specs.Relation.{class_size}
use Rattle.permutations.proofs.Count.{count-ext, count-split, count-all, count-remove, count-positive}
use Rattle.permutations.proofs.Injection.{count-bijection}
use Rattle.permutations.proofs.Leaders.{leads-from, not-leads}
use Rattle.permutations.proofs.ClassSizes.{class-exact-size}

-- the numbers below k among those below n
pub count-under : (n k : ℕ) → k ≤ n → count n (λ x. ltb x k) ≡ k
count-under zero k l = omega arith
count-under (suc n) k l = elim (cases_eq k (suc n)) [
  | inl e ↦ count-all (suc n) (λ x. ltb x k) (λ x i. lt-ltb x k (omega arith)) ∙ sym e
  | inr a ↦ let i : count n (λ x. ltb x k) ≡ k = count-under n k (omega arith) in let h : ltb n k ≡ false = le-ltb n k (omega arith) in rw h i
]

-- two different members count two at least
pub count-two : (n : ℕ) (t : ℕ → Bool) (x y : ℕ) → x < n → y < n → t x ≡ true → t y ≡ true → (x ≡ y → ⊥) → 2 ≤ count n t
count-two n t x y l k a c d = omega (arith, count-remove n t x l a, count-positive n (λ z. t z && not (z == x)) y k (and_from (t y) (not (y == x)) c (ap not (ne_eqb y x (λ e. d (sym e))))))

-- three different members count three at least
pub count-three : (n : ℕ) (t : ℕ → Bool) (x y z : ℕ) → x < n → y < n → z < n → t x ≡ true → t y ≡ true → t z ≡ true → (x ≡ y → ⊥) → (x ≡ z → ⊥) → (y ≡ z → ⊥) → 3 ≤ count n t
count-three n t x y z l k j a c e d u v = omega (arith, count-remove n t x l a, count-two n (λ w. t w && not (w == x)) y z k j (and_from (t y) (not (y == x)) c (ap not (ne_eqb y x (λ i. d (sym i))))) (and_from (t z) (not (z == x)) e (ap not (ne_eqb z x (λ i. u (sym i))))) v)

-- an involution without a fixed number: its orbits are half as many as the numbers
pub involution-count : (n : ℕ) (s : ℕ → ℕ) → Permutes n s s → ((x : ℕ) → x < n → s x ≡ x → ⊥) → 2 * orbit_count n s ≡ n
involution-count n s b d = omega (arith, leaders, half, count-split n (λ x. true) (λ x. ltb x (s x)), count-all n (λ x. true) (λ x l. refl))
  where
    own : (x y : ℕ) → x < n → same_orbit n s y x ≡ true → ((y == x) || (y == s x)) ≡ true
    own x y l t = orbit-test n s (λ z. (z == x) || (z == s x)) (λ z k. same-tests ((s z == x) || (s z == s x)) ((z == x) || (z == s x))
        (λ h. elim (or_cases (s z == x) (s z == s x) h) [
          | inl i ↦ or_right (z == x) (z == s x) (eq-eqb z (s x) (sym (b.back_forth z k) ∙ ap s (eqb-true (s z) x i)))
          | inr i ↦ or_left (z == x) (z == s x) (eq-eqb z x (permutes-one-to-one n s s b z x k l (eqb-true (s z) (s x) i)))
        ])
        (λ h. elim (or_cases (z == x) (z == s x) h) [
          | inl i ↦ or_right (s z == x) (s z == s x) (eq-eqb (s z) (s x) (ap s (eqb-true z x i)))
          | inr i ↦ or_left (s z == x) (s z == s x) (eq-eqb (s z) x (ap s (eqb-true z (s x) i) ∙ b.back_forth x l))
        ])) y x t
        ∙ or_left (x == x) (x == s x) (eq-eqb x x refl)

    first : (x : ℕ) → x < n → leads (same_orbit n s) x ≡ ltb x (s x)
    first x l = elim (cases_lt x (s x)) [
      | inl k ↦ leads-from (same_orbit n s) x (λ y i. false_from_ne_true (same_orbit n s y x) (λ t. elim (or_cases (y == x) (y == s x) (own x y l t)) [
        | inl j ↦ let e : y ≡ x = eqb-true y x j in omega arith
        | inr j ↦ let e : y ≡ s x = eqb-true y (s x) j in omega arith
      ])) ∙ sym (lt-ltb x (s x) k)
      | inr k ↦ elim (cases_eq (s x) x) [
        | inl e ↦ absurd (d x l e)
        | inr e ↦ not-leads (same_orbit n s) x (s x) (omega arith) ((orbit-equivalence n s).symmetric x (s x) (orbit-step n s x l)) ∙ sym (le-ltb x (s x) k)
      ]
    ]

    leaders : orbit_count n s ≡ count n (λ x. ltb x (s x))
    leaders = count-ext n (leads (same_orbit n s)) (λ x. ltb x (s x)) first

    half : count n (λ x. ltb x (s x)) ≡ count n (λ x. not (ltb x (s x)))
    half = count-bijection n n (λ x. ltb x (s x)) (λ x. not (ltb x (s x))) s s
        (λ x l t. b.forth x l)
        (λ x l t. ap not (le-ltb (s x) (s (s x)) (let k : x < s x = ltb-true x (s x) t in let e : s (s x) ≡ x = b.back_forth x l in omega arith)))
        (λ x l t. b.back_forth x l) (λ x l t. b.forth x l)
        (λ x l t. lt-ltb (s x) (s (s x)) (let k : s x ≤ x = ltb-false x (s x) (not-true (ltb x (s x)) t) in let e : s (s x) ≡ x = b.back_forth x l in elim (cases_eq (s x) x) [ inl i ↦ absurd (d x l i) | inr i ↦ omega arith ]))
        (λ x l t. b.back_forth x l)

-- a permutation that fixes no number and has half as many orbits as numbers is an involution
pub pairs-involution : (n : ℕ) (s r : ℕ → ℕ) → Permutes n s r → ((x : ℕ) → x < n → s x ≡ x → ⊥) → 2 * orbit_count n s ≡ n → (x : ℕ) → x < n → s (s x) ≡ x
pairs-involution n s r b d h x l = elim (cases_eq (s (s x)) x) [
  | inl e ↦ e
  | inr a ↦ let two : class_size n (λ y. true) (same_orbit n s) x ≡ 2 = class-exact-size n (λ y. true) (same_orbit n s) 2 e least (omega (arith, h, count-all n (λ y. true) (λ y k. refl))) x l in
      let three : 3 ≤ class_size n (λ y. true) (same_orbit n s) x = count-three n (same_orbit n s x) x (s x) (s (s x)) l (b.forth x l) (b.forth (s x) (b.forth x l)) (e.reflexive x) (orbit-step n s x l)
      (e.transitive x (s x) (s (s x)) (orbit-step n s x l) (orbit-step n s (s x) (b.forth x l))) (λ i. d x l (sym i)) (λ i. a (sym i)) (λ i. d (s x) (b.forth x l) (sym i)) in absurd (omega (arith, two, three))
]
  where
    e : IsEquivalence (same_orbit n s)
    e = orbit-equivalence n s

    least : (y : ℕ) → y < n → leads (same_orbit n s) y ≡ true → 2 ≤ class_size n (λ z. true) (same_orbit n s) y
    least y k t = count-two n (same_orbit n s y) y (s y) k (b.forth y k) (e.reflexive y) (orbit-step n s y k) (λ i. d y k (sym i))

-- a map with at least one edge, whose vertices are two, told apart by a test, and whose edges all join them
module _ (m : ℕ) (f g : ℕ → ℕ) (b : IsMap m f g) (some_edge : 0 < m) (t : ℕ → Bool) (across : (d : ℕ) → d < 2 * m → t (twin d) ≡ not (t d)) (kept : (d : ℕ) → d < 2 * m → t (f d) ≡ t d) (one : (c d : ℕ) → c < 2 * m → d < 2 * m → t c ≡ t d → same_vertex m f c d ≡ true) where
  -- a step along a face leads to the other vertex
  other : (d : ℕ) → d < 2 * m → t (face f d) ≡ not (t d)
  other d l = kept (twin d) (twin-below m d l) ∙ across d l

  -- so it moves each dart
  moved : (d : ℕ) → d < 2 * m → face f d ≡ d → ⊥
  moved d l e = let h : t d ≡ not (t d) = ap t (sym e) ∙ other d l in not-itself (t d) h
    where
      not-itself : (x : Bool) → x ≡ not x → ⊥
      not-itself x h = grind (arith, cases_Bool x)

  -- the twin of the first dart
  twin-zero : twin 0 ≡ 1
  twin-zero = twin-even 0 refl

  -- darts at one vertex pass the test alike
  at-one : (c d : ℕ) → same_vertex m f c d ≡ true → t c ≡ t d
  at-one = orbit-test (2 * m) f t kept

  -- the first two darts are at different vertices
  differ : t 1 ≡ not (t 0)
  differ = ap t (sym twin-zero) ∙ across 0 (omega arith)

  -- a dart at the same vertex as the first or as the second
  first-two : (d : ℕ) → d < 2 * m → (same_vertex m f 0 d ≡ true) ⊎ (same_vertex m f 1 d ≡ true)
  first-two d l = elim (same-or-not (t d) (t 0)) [ inl e ↦ inl (one 0 d (omega arith) l (sym e)) | inr e ↦ inr (one 1 d (omega arith) l (differ ∙ sym e)) ]
    where
      same-or-not : (x y : Bool) → (x ≡ y) ⊎ (x ≡ not y)
      same-or-not x y = grind (arith, cases_Bool x, cases_Bool y)

  -- there are two vertices
  pub bond-vertices : vertex_count m f ≡ 2
  bond-vertices = count-ext (2 * m) (leads (same_vertex m f)) (λ d. ltb d 2) (λ d l. elim (cases_lt d 2) [
    | inl k ↦ leads-from (same_vertex m f) d (λ y i. let y0 : y ≡ 0 = omega arith in let d1 : d ≡ 1 = omega arith in false_from_ne_true (same_vertex m f y d) (λ u. not-itself (t 0) (ap t (sym y0) ∙ at-one y d u ∙ ap t d1 ∙ differ))) ∙ sym (lt-ltb d 2 k)
    | inr k ↦ elim (first-two d l) [ inl u ↦ not-leads (same_vertex m f) d 0 (omega arith) u | inr u ↦ not-leads (same_vertex m f) d 1 (omega arith) u ] ∙ sym (le-ltb d 2 k)
  ]) ∙ count-under (2 * m) 2 (omega arith)
    where
      not-itself : (x : Bool) → x ≡ not x → ⊥
      not-itself x h = grind (arith, cases_Bool x)

  -- and one component
  pub bond-components : component_count m f ≡ 1
  bond-components = count-ext (2 * m) (leads (same_component m f)) (λ d. ltb d 1) (λ d l. elim (cases_lt d 1) [
    | inl k ↦ leads-from (same_component m f) d (λ y i. absurd (omega arith)) ∙ sym (lt-ltb d 1 k)
    | inr k ↦ not-leads (same_component m f) d 0 (omega arith) (elim (first-two d l) [
      | inl u ↦ vertex-component m f 0 d u
      | inr u ↦ c.transitive 0 1 d (subst (λ (z : ℕ). same_component m f 0 z ≡ true) twin-zero (component-twin m f 0 (omega arith))) (vertex-component m f 1 d u)
    ]) ∙ sym (le-ltb d 1 k)
  ]) ∙ count-under (2 * m) 1 (omega arith)
    where
      c : IsEquivalence (same_component m f)
      c = component-equivalence m f

  -- a bond is plane where the face of each dart comes back after two steps
  pub bond-plane : ((d : ℕ) → d < 2 * m → face f (face f d) ≡ d) → IsPlane m f
  bond-plane h = omega (arith, bond-vertices, bond-components, involution-count (2 * m) (face f) (permutes-ext (2 * m) (face f) (λ d. twin (g d)) (face f) (face f) c (λ d l. refl) same) moved)
    where
      c : Permutes (2 * m) (face f) (λ d. twin (g d))
      c = face-permutes m f g b

      same : (d : ℕ) → d < 2 * m → face f d ≡ twin (g d)
      same d l = permutes-one-to-one (2 * m) (face f) (λ z. twin (g z)) c (face f d) (twin (g d)) (c.forth d l) (c.back d l) (h d l ∙ sym (c.forth_back d l))

  -- and only there
  pub bond-plane-back : IsPlane m f → (d : ℕ) → d < 2 * m → face f (face f d) ≡ d
  bond-plane-back p = pairs-involution (2 * m) (face f) (λ d. twin (g d)) (face-permutes m f g b) moved (omega (arith, bond-vertices, bond-components))
