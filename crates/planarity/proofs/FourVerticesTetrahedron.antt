-- The tetrahedron: of the sixteen rotation systems of the complete graph on four vertices two are plane, mirror images of each
-- other.
use Rattle.std.proofs.Common.{◌≡◌, ◌≢◌, ℕ, zero, suc, ◌<◌, ◌⊎◌, inl, inr, Bool, true, false, cond, not, ◌&&◌, ◌||◌, ◌==◌, ltb, List, [], ◌∷◌, length, refl, sym, ap, ◌∙◌, subst, arith}
use Rattle.std.proofs.lemmas.Bool.{agree_below_at, both_ways, or_cases, or_left, or_right, and_from, eq-eqb, ne_eqb, eqb-false, eqb-true, ltb-true, true_from_ne_false, true≢false, cases_eq}
use Rattle.std.proofs.lemmas.List.Sorted.{IsPermutation-refl, length_permutation}
use Rattle.permutations.specs.Count.{some}
use Rattle.permutations.specs.Members.{is_member, is_distinct}
use Rattle.permutations.proofs.Search.{some-none}
use Rattle.permutations.proofs.Members.{member-head, member-tail, member-cases, no_member-head, no_member-tail, distinct-head, distinct-tail}
use Rattle.permutations.proofs.Arrangements.{permutation-member, permutation-distinct, three-turned}
use Rattle.multigraph.specs.Graph.{Multigraph, IsGraph, ends_of, incident_edges}
use Rattle.rotations.specs.Rotation.{order_at, IsCyclicOrder, IsRotationSystem}
use Rattle.graph_theory.specs.Triconnected.{AreParallel, IsSimple}
use Rattle.contractions.specs.Contraction.{are_adjacent}
use Rattle.faces.specs.Euler.{IsPlane}
use Rattle.rotations.specs.Runs.{mirror_image}

-- the complete graph on four vertices
abbrev pub tetrahedron : Multigraph
tetrahedron = record {
  vertex_count = 4;
  ends = (0, 1) ∷ (0, 2) ∷ (0, 3) ∷ (1, 2) ∷ (1, 3) ∷ (2, 3) ∷ [];
}

-- its edges have different vertices as ends
pub tetrahedron-graph : IsGraph tetrahedron
tetrahedron-graph = record {
  first_in = λ e l. ltb-true (ends_of tetrahedron e).0 4 (agree_below_at (λ f. ltb (ends_of tetrahedron f).0 4) (λ f. true) 6 e refl l);
  second_in = λ e l. ltb-true (ends_of tetrahedron e).1 4 (agree_below_at (λ f. ltb (ends_of tetrahedron f).1 4) (λ f. true) 6 e refl l);
  no_loop = λ e l. eqb-false (ends_of tetrahedron e).0 (ends_of tetrahedron e).1 (agree_below_at (λ f. (ends_of tetrahedron f).0 == (ends_of tetrahedron f).1) (λ f. false) 6 e refl l);
}

-- whether two pairs of numbers are the same, in one order or the other
abbrev same_pair : ℕ × ℕ → ℕ × ℕ → Bool
same_pair p q = ((p.0 == q.0) && (p.1 == q.1)) || ((p.0 == q.1) && (p.1 == q.0))

-- no two edges have the same ends
pub tetrahedron-simple : IsSimple tetrahedron
tetrahedron-simple e f l m p = elim (cases_eq e f) [
  | inl s ↦ s
  | inr n ↦ absurd (both_ways (not (e == f) && same_pair (ends_of tetrahedron e) (ends_of tetrahedron f))
      (some-none 6 (λ k. not (e == k) && same_pair (ends_of tetrahedron e) (ends_of tetrahedron k))
      (agree_below_at (λ d. some 6 (λ k. not (d == k) && same_pair (ends_of tetrahedron d) (ends_of tetrahedron k))) (λ d. false) 6 e refl l) f m)
      (and_from (not (e == f)) (same_pair (ends_of tetrahedron e) (ends_of tetrahedron f)) (ap not (ne_eqb e f n)) (same p)))
]
  where
    same : AreParallel tetrahedron e f → same_pair (ends_of tetrahedron e) (ends_of tetrahedron f) ≡ true
    same p = elim p [
      | inl a ↦ or_left (((ends_of tetrahedron e).0 == (ends_of tetrahedron f).0) && ((ends_of tetrahedron e).1 == (ends_of tetrahedron f).1)) (((ends_of tetrahedron e).0 == (ends_of tetrahedron f).1) && ((ends_of tetrahedron e).1 == (ends_of tetrahedron f).0))
          (and_from ((ends_of tetrahedron e).0 == (ends_of tetrahedron f).0) ((ends_of tetrahedron e).1 == (ends_of tetrahedron f).1)
          (eq-eqb (ends_of tetrahedron e).0 (ends_of tetrahedron f).0 a.0) (eq-eqb (ends_of tetrahedron e).1 (ends_of tetrahedron f).1 a.1))
      | inr a ↦ or_right (((ends_of tetrahedron e).0 == (ends_of tetrahedron f).0) && ((ends_of tetrahedron e).1 == (ends_of tetrahedron f).1)) (((ends_of tetrahedron e).0 == (ends_of tetrahedron f).1) && ((ends_of tetrahedron e).1 == (ends_of tetrahedron f).0))
          (and_from ((ends_of tetrahedron e).0 == (ends_of tetrahedron f).1) ((ends_of tetrahedron e).1 == (ends_of tetrahedron f).0)
          (eq-eqb (ends_of tetrahedron e).0 (ends_of tetrahedron f).1 a.0) (eq-eqb (ends_of tetrahedron e).1 (ends_of tetrahedron f).0 a.1))
    ]

-- each two different vertices are joined
pub tetrahedron-joined : (u v : ℕ) → u < 4 → v < 4 → u ≢ v → are_adjacent tetrahedron u v ≡ true
tetrahedron-joined u v l m n = elim (or_cases (u == v) (are_adjacent tetrahedron u v) here) [ inl s ↦ absurd (n (eqb-true u v s)) | inr j ↦ j ]
  where
    here : ((u == v) || are_adjacent tetrahedron u v) ≡ true
    here = true_from_ne_false ((u == v) || are_adjacent tetrahedron u v) (λ f. both_ways (not ((u == v) || are_adjacent tetrahedron u v))
        (some-none 4 (λ w. not ((u == w) || are_adjacent tetrahedron u w)) (agree_below_at (λ d. some 4 (λ w. not ((d == w) || are_adjacent tetrahedron d w))) (λ d. false) 4 u refl l) v m)
        (ap not f))

-- the edges a, b, c as a cyclic order, in one of two ways
abbrev ordered : ℕ → ℕ → ℕ → Bool → List ℕ
ordered a b c rising = cond rising (a ∷ b ∷ c ∷ []) (a ∷ c ∷ b ∷ [])

-- the sixteen rotation systems of the tetrahedron: for each vertex one of two cyclic orders
abbrev written : Bool → Bool → Bool → Bool → List (List ℕ)
written a b c d = ordered 0 1 2 a ∷ ordered 0 3 4 b ∷ ordered 1 3 5 c ∷ ordered 2 4 5 d ∷ []

-- one vertex inside the triangle of the others
abbrev pub drawn : List (List ℕ)
drawn = written true false true false

-- this is a rotation system
pub drawn-system : IsRotationSystem tetrahedron drawn
drawn-system = record { vertices = refl; orders = at }
  where
    at : (v : ℕ) → v < 4 → IsCyclicOrder (incident_edges tetrahedron v) (order_at drawn v)
    at zero l = record { arranged = IsPermutation-refl (0 ∷ 1 ∷ 2 ∷ []); least_first = refl }
    at (suc zero) l = record { arranged = three-turned 0 3 4; least_first = refl }
    at (suc (suc zero)) l = record { arranged = IsPermutation-refl (1 ∷ 3 ∷ 5 ∷ []); least_first = refl }
    at (suc (suc (suc zero))) l = record { arranged = three-turned 2 4 5; least_first = refl }
    at (suc (suc (suc (suc v)))) l = absurd (omega arith)

-- a plane one
pub drawn-plane : IsPlane tetrahedron drawn
drawn-plane = refl

-- of the sixteen two are plane
plane-written : (a b c d : Bool) → IsPlane tetrahedron (written a b c d) → (written a b c d ≡ drawn) ⊎ (written a b c d ≡ mirror_image drawn)
plane-written true true true true p = absurd (omega arith)
plane-written true true true false p = absurd (omega arith)
plane-written true true false true p = absurd (omega arith)
plane-written true true false false p = absurd (omega arith)
plane-written true false true true p = absurd (omega arith)
plane-written true false true false p = inl refl
plane-written true false false true p = absurd (omega arith)
plane-written true false false false p = absurd (omega arith)
plane-written false true true true p = absurd (omega arith)
plane-written false true true false p = absurd (omega arith)
plane-written false true false true p = inr refl
plane-written false true false false p = absurd (omega arith)
plane-written false false true true p = absurd (omega arith)
plane-written false false true false p = absurd (omega arith)
plane-written false false false true p = absurd (omega arith)
plane-written false false false false p = absurd (omega arith)

-- three different edges have two cyclic orders
three-orders : (a b c : ℕ) → is_distinct (a ∷ b ∷ c ∷ []) ≡ true → (l : List ℕ) → IsCyclicOrder (a ∷ b ∷ c ∷ []) l → (rising : Bool) × (l ≡ ordered a b c rising)
three-orders a b c h [] o = absurd (omega (arith, length_permutation (a ∷ b ∷ c ∷ []) [] o.arranged))
three-orders a b c h (x ∷ []) o = absurd (omega (arith, length_permutation (a ∷ b ∷ c ∷ []) (x ∷ []) o.arranged))
three-orders a b c h (x ∷ y ∷ []) o = absurd (omega (arith, length_permutation (a ∷ b ∷ c ∷ []) (x ∷ y ∷ []) o.arranged))
three-orders a b c h (x ∷ y ∷ z ∷ w ∷ l) o = absurd (omega (arith, length_permutation (a ∷ b ∷ c ∷ []) (x ∷ y ∷ z ∷ w ∷ l) o.arranged))
three-orders a b c h (x ∷ y ∷ z ∷ []) o = elim (behind y (member-tail y x (y ∷ z ∷ []) (member-head y (z ∷ []))) (λ e. no_member-head x y (z ∷ []) (distinct-head x (y ∷ z ∷ []) distinct) e)) [
  | inl yb ↦ elim last [ inl zb ↦ absurd (other (sym zb ∙ yb)) | inr zc ↦ (true, listed o.least_first (sym yb) (sym zc)) ]
  | inr yc ↦ elim last [ inl zb ↦ (false, listed o.least_first (sym yc) (sym zb)) | inr zc ↦ absurd (other (sym zc ∙ yc)) ]
]
  where
    distinct : is_distinct (x ∷ y ∷ z ∷ []) ≡ true
    distinct = permutation-distinct (a ∷ b ∷ c ∷ []) (x ∷ y ∷ z ∷ []) o.arranged h

    other : z ≢ y
    other = no_member-head y z [] (distinct-head y (z ∷ []) (distinct-tail x (y ∷ z ∷ []) distinct))

    behind : (w : ℕ) → is_member w (x ∷ y ∷ z ∷ []) ≡ true → w ≢ x → (b ≡ w) ⊎ (c ≡ w)
    behind w m n = elim (member-cases w a (b ∷ c ∷ []) (sym (permutation-member (a ∷ b ∷ c ∷ []) (x ∷ y ∷ z ∷ []) w o.arranged) ∙ m)) [
      | inl e ↦ absurd (n (sym e ∙ sym o.least_first))
      | inr t ↦ elim (member-cases w b (c ∷ []) t) [ inl e ↦ inl e | inr u ↦ elim (member-cases w c [] u) [ inl e ↦ inr e | inr v ↦ absurd (true≢false (sym v)) ] ]
    ]

    last : (b ≡ z) ⊎ (c ≡ z)
    last = behind z (member-tail z x (y ∷ z ∷ []) (member-tail z y (z ∷ []) (member-head z [])))
        (λ e. no_member-head x z [] (no_member-tail x y (z ∷ []) (distinct-head x (y ∷ z ∷ []) distinct)) e)

    listed : {p q r : ℕ} → x ≡ p → y ≡ q → z ≡ r → x ∷ y ∷ z ∷ [] ≡ p ∷ q ∷ r ∷ []
    listed e f k = cc

-- a list of four lists
four-lists : (q : List (List ℕ)) → length q ≡ 4 → q ≡ order_at q 0 ∷ order_at q 1 ∷ order_at q 2 ∷ order_at q 3 ∷ []
four-lists [] e = absurd (omega arith)
four-lists (a ∷ []) e = absurd (omega arith)
four-lists (a ∷ b ∷ []) e = absurd (omega arith)
four-lists (a ∷ b ∷ c ∷ []) e = absurd (omega arith)
four-lists (a ∷ b ∷ c ∷ d ∷ []) e = refl
four-lists (a ∷ b ∷ c ∷ d ∷ f ∷ q) e = absurd (omega arith)

-- each plane rotation system of the tetrahedron is this one or its mirror image
pub tetrahedron-two : (q : List (List ℕ)) → IsRotationSystem tetrahedron q → IsPlane tetrahedron q → (q ≡ drawn) ⊎ (q ≡ mirror_image drawn)
tetrahedron-two q s p =
    let a = three-orders 0 1 2 refl (order_at q 0) (s.orders 0 (omega arith)) in
    let b = three-orders 0 3 4 refl (order_at q 1) (s.orders 1 (omega arith)) in
    let c = three-orders 1 3 5 refl (order_at q 2) (s.orders 2 (omega arith)) in
    let d = three-orders 2 4 5 refl (order_at q 3) (s.orders 3 (omega arith)) in
    let e : q ≡ written a.0 b.0 c.0 d.0 = four-lists q s.vertices ∙ lists a.1 b.1 c.1 d.1 in
    elim (plane-written a.0 b.0 c.0 d.0 (subst (IsPlane tetrahedron) e p)) [ inl t ↦ inl (e ∙ t) | inr t ↦ inr (e ∙ t) ]
  where
    lists : {a b c d k l m n : List ℕ} → a ≡ k → b ≡ l → c ≡ m → d ≡ n → a ∷ b ∷ c ∷ d ∷ [] ≡ k ∷ l ∷ m ∷ n ∷ []
    lists e f g h = cc
