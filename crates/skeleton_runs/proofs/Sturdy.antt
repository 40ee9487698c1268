-- Skeletons of polygons and of triconnected graphs: beside an edge of them there is no second one with its ends, and the
-- other edges at one of its ends stay connected without both.
use Rattle.std.proofs.Common.{◌≡◌, ◌≢◌, ℕ, zero, suc, ◌<◌, ◌≤◌, ◌⊎◌, ◌||◌, ◌==◌, inl, inr, Bool, true, false, List, [], ◌∷◌, length, filter, slice_index_or, refl, sym, ap, ◌∙◌, subst, arith}
use Rattle.std.proofs.lemmas.Bool.{cases_Bool, cases_eq, both_ways, or_cases, or_left, or_right, eq-eqb, eqb-true, false_from_ne_true}
use Rattle.std.proofs.lemmas.List.Elements.{All-from_get_or}
use Rattle.permutations.specs.Members.{is_member}
use Rattle.permutations.specs.Relation.{connected}
use Rattle.permutations.proofs.Members.{no_member-cons}
use Rattle.permutations.proofs.Relation.{same-tests, connected-reflexive, connected-closed}
use Rattle.graph_theory.specs.Triconnected.{avoids}
use Rattle.pair_split.specs.Skeleton.{is_end_of, SameEnds, is_vertex, IsPolygon, IsOfKind}
use Rattle.pair_split.specs.declared.components.Kind.{Kind}
use Rattle.pair_split.specs.declared.components.Kind.TheVariants.{S, P, R, B}
use Rattle.pair_split.proofs.LargeSides.{ThreeVertices, three-vertices}
use Rattle.skeleton_runs.proofs.Items.{ends-are, ends-two, place-vertex}

-- the edge at a place of a skeleton
abbrev pub at : List (ℕ × ℕ) → ℕ → ℕ × ℕ
at skel i = slice_index_or skel i (0, 0)

-- a place that passes is one element of those that do
number-one : (t : ℕ × ℕ → Bool) (xs : List (ℕ × ℕ)) (i : ℕ) → i < length xs → t (at xs i) ≡ true → 1 ≤ length (filter t xs)
number-one t [] i l a = absurd (omega (arith, l))
number-one t (x ∷ xs) zero l a = rw a (omega arith)
number-one t (x ∷ xs) (suc i) l a = elim (cases_Bool (t x)) [
  | inl h ↦ rw h (omega arith)
  | inr h ↦ rw h (number-one t xs i (omega (arith, l)) a)
]

-- two places that pass are two
number-two : (t : ℕ × ℕ → Bool) (xs : List (ℕ × ℕ)) (i j : ℕ) → i < length xs → j < length xs → i ≢ j → t (at xs i) ≡ true → t (at xs j) ≡ true → 2 ≤ length (filter t xs)
number-two t [] i j l m n a b = absurd (omega (arith, l))
number-two t (x ∷ xs) zero zero l m n a b = absurd (n refl)
number-two t (x ∷ xs) zero (suc j) l m n a b = rw a (omega (arith, number-one t xs j (omega (arith, m)) b))
number-two t (x ∷ xs) (suc i) zero l m n a b = rw b (omega (arith, number-one t xs i (omega (arith, l)) a))
number-two t (x ∷ xs) (suc i) (suc j) l m n a b = elim (cases_Bool (t x)) [
  | inl h ↦ rw h (omega (arith, number-two t xs i j (omega (arith, l)) (omega (arith, m)) (λ e. n (ap suc e)) a b))
  | inr h ↦ rw h (number-two t xs i j (omega (arith, l)) (omega (arith, m)) (λ e. n (ap suc e)) a b)
]

-- three are three
number-three : (t : ℕ × ℕ → Bool) (xs : List (ℕ × ℕ)) (i j k : ℕ) → i < length xs → j < length xs → k < length xs → i ≢ j → i ≢ k → j ≢ k
    → t (at xs i) ≡ true → t (at xs j) ≡ true → t (at xs k) ≡ true → 3 ≤ length (filter t xs)
number-three t [] i j k li lj lk ij ik jk a b c = absurd (omega (arith, li))
number-three t (x ∷ xs) zero zero k li lj lk ij ik jk a b c = absurd (ij refl)
number-three t (x ∷ xs) zero (suc j) zero li lj lk ij ik jk a b c = absurd (ik refl)
number-three t (x ∷ xs) zero (suc j) (suc k) li lj lk ij ik jk a b c = rw a (omega (arith, number-two t xs j k (omega (arith, lj)) (omega (arith, lk)) (λ e. jk (ap suc e)) b c))
number-three t (x ∷ xs) (suc i) zero zero li lj lk ij ik jk a b c = absurd (jk refl)
number-three t (x ∷ xs) (suc i) zero (suc k) li lj lk ij ik jk a b c = rw b (omega (arith, number-two t xs i k (omega (arith, li)) (omega (arith, lk)) (λ e. ik (ap suc e)) a c))
number-three t (x ∷ xs) (suc i) (suc j) zero li lj lk ij ik jk a b c = rw c (omega (arith, number-two t xs i j (omega (arith, li)) (omega (arith, lj)) (λ e. ij (ap suc e)) a b))
number-three t (x ∷ xs) (suc i) (suc j) (suc k) li lj lk ij ik jk a b c = elim (cases_Bool (t x)) [
  | inl h ↦ rw h (omega (arith, number-three t xs i j k (omega (arith, li)) (omega (arith, lj)) (omega (arith, lk)) (λ e. ij (ap suc e)) (λ e. ik (ap suc e)) (λ e. jk (ap suc e)) a b c))
  | inr h ↦ rw h (number-three t xs i j k (omega (arith, li)) (omega (arith, lj)) (omega (arith, lk)) (λ e. ij (ap suc e)) (λ e. ik (ap suc e)) (λ e. jk (ap suc e)) a b c)
]

-- of a polygon's edges at one vertex each is one of two
pub polygon-two : (skel : List (ℕ × ℕ)) (v i j k : ℕ) → IsPolygon skel → i < length skel → j < length skel → k < length skel → i ≢ j
    → is_end_of v (at skel i) ≡ true → is_end_of v (at skel j) ≡ true → is_end_of v (at skel k) ≡ true → (k ≡ i) ⊎ (k ≡ j)
polygon-two skel v i j k p li lj lk n a b c = elim (cases_eq k i) [
  | inl e ↦ inl e
  | inr x ↦ elim (cases_eq k j) [
    | inl e ↦ inr e
    | inr y ↦ absurd (omega (arith, number-three (is_end_of v) skel i j k li lj lk n (λ e. x (sym e)) (λ e. y (sym e)) a b c, p.degrees v (place-vertex skel i v li a)))
  ]
]

-- a polygon has no two edges with the same ends
polygon-simple : (skel : List (ℕ × ℕ)) (i j u v : ℕ) → IsPolygon skel → i < length skel → j < length skel → i ≢ j → u ≢ v
    → is_end_of u (at skel i) ≡ true → is_end_of v (at skel i) ≡ true → is_end_of u (at skel j) ≡ true → is_end_of v (at skel j) ≡ true → ⊥
polygon-simple skel i j u v p li lj n d iu iv ju jv = three (inside t.a t.a_vertex) (inside t.b t.b_vertex) (inside t.c t.c_vertex)
  where
    t : ThreeVertices skel
    t = three-vertices 3 skel (omega arith) p.three

    -- one of the two ends
    pole : ℕ → Bool
    pole w = (w == u) || (w == v)

    -- an edge with one of the ends has both
    both : (k w : ℕ) → k < length skel → (w ≡ u) ⊎ (w ≡ v) → is_end_of w (at skel k) ≡ true → (is_end_of u (at skel k) ≡ true) × (is_end_of v (at skel k) ≡ true)
    both k w l c h = elim c [
      | inl q ↦ as_one k (polygon-two skel u i j k p li lj l n iu ju (subst (λ z. is_end_of z (at skel k) ≡ true) q h))
      | inr q ↦ as_one k (polygon-two skel v i j k p li lj l n iv jv (subst (λ z. is_end_of z (at skel k) ≡ true) q h))
    ]
      where
        as_one : (k : ℕ) → (k ≡ i) ⊎ (k ≡ j) → (is_end_of u (at skel k) ≡ true) × (is_end_of v (at skel k) ≡ true)
        as_one k (inl e) = subst (λ z. (is_end_of u (at skel z) ≡ true) × (is_end_of v (at skel z) ≡ true)) (sym e) (iu, iv)
        as_one k (inr e) = subst (λ z. (is_end_of u (at skel z) ≡ true) × (is_end_of v (at skel z) ≡ true)) (sym e) (ju, jv)

    of_pole : (w : ℕ) → pole w ≡ true → (w ≡ u) ⊎ (w ≡ v)
    of_pole w h = elim (or_cases (w == u) (w == v) h) [ inl a ↦ inl (eqb-true w u a) | inr a ↦ inr (eqb-true w v a) ]

    to_pole : (w : ℕ) → (w ≡ u) ⊎ (w ≡ v) → pole w ≡ true
    to_pole w c = elim c [ inl a ↦ or_left (w == u) (w == v) (eq-eqb w u a) | inr a ↦ or_right (w == u) (w == v) (eq-eqb w v a) ]

    first : (ends : ℕ × ℕ) → is_end_of ends.0 ends ≡ true
    first ends = or_left (ends.0 == ends.0) (ends.1 == ends.0) (eq-eqb ends.0 ends.0 refl)

    second : (ends : ℕ × ℕ) → is_end_of ends.1 ends ≡ true
    second ends = or_right (ends.0 == ends.1) (ends.1 == ends.1) (eq-eqb ends.1 ends.1 refl)

    -- so the two ends of an edge pass together
    onward : (k w x : ℕ) → k < length skel → is_end_of w (at skel k) ≡ true → is_end_of x (at skel k) ≡ true → pole w ≡ true → pole x ≡ true
    onward k w x l a b h = let c = both k w l (of_pole w h) a in to_pole x (ends-two (at skel k) u v x d c.0 c.1 b)

    inside : (w : ℕ) → is_vertex skel w ≡ true → (w ≡ u) ⊎ (w ≡ v)
    inside w h = of_pole w (sym (connected-closed skel pole (All-from_get_or (λ link. pole link.0 ≡ pole link.1) skel (0, 0)
        (λ k l. same-tests (pole (at skel k).0) (pole (at skel k).1) (onward k (at skel k).0 (at skel k).1 l (first (at skel k)) (second (at skel k))) (onward k (at skel k).1 (at skel k).0 l (second (at skel k)) (first (at skel k)))))
        u w (p.connects u w (place-vertex skel i u li iu) h)) ∙ to_pole u (inl refl))

    three : (t.a ≡ u) ⊎ (t.a ≡ v) → (t.b ≡ u) ⊎ (t.b ≡ v) → (t.c ≡ u) ⊎ (t.c ≡ v) → ⊥
    three (inl x) (inl y) z = t.ab (x ∙ sym y)
    three (inr x) (inr y) z = t.ab (x ∙ sym y)
    three (inl x) (inr y) (inl z) = t.ca (z ∙ sym x)
    three (inl x) (inr y) (inr z) = t.bc (y ∙ sym z)
    three (inr x) (inl y) (inl z) = t.bc (y ∙ sym z)
    three (inr x) (inl y) (inr z) = t.ca (z ∙ sym x)

-- another edge at an end of an edge of a polygon or of a triconnected graph hasn't its other end
pub sturdy-simple : (kind : Kind) (skel : List (ℕ × ℕ)) → kind ≢ P → kind ≢ B → IsOfKind kind skel → (i j u v : ℕ) → i < length skel → j < length skel → i ≢ j → u ≢ v
    → is_end_of u (at skel i) ≡ true → is_end_of v (at skel i) ≡ true → is_end_of u (at skel j) ≡ true → is_end_of v (at skel j) ≡ false
sturdy-simple S skel np nb p i j u v li lj n d iu iv ju = false_from_ne_true (is_end_of v (at skel j)) (λ jv. polygon-simple skel i j u v p li lj n d iu iv ju jv)
sturdy-simple R skel np nb p i j u v li lj n d iu iv ju = false_from_ne_true (is_end_of v (at skel j)) (λ jv. n (p.simple i j li lj (same (ends-are (at skel i) u v d iu iv) (ends-are (at skel j) u v d ju jv))))
  where
    same : {a b c e u v : ℕ} → ((a ≡ u) × (b ≡ v)) ⊎ ((a ≡ v) × (b ≡ u)) → ((c ≡ u) × (e ≡ v)) ⊎ ((c ≡ v) × (e ≡ u)) → SameEnds (a, b) (c, e)
    same (inl x) (inl y) = inl (x.0 ∙ sym y.0, x.1 ∙ sym y.1)
    same (inl x) (inr y) = inr (x.0 ∙ sym y.1, x.1 ∙ sym y.0)
    same (inr x) (inl y) = inr (x.0 ∙ sym y.1, x.1 ∙ sym y.0)
    same (inr x) (inr y) = inl (x.0 ∙ sym y.0, x.1 ∙ sym y.1)
sturdy-simple P skel np nb p i j u v li lj n d iu iv ju = absurd (np refl)
sturdy-simple B skel np nb p i j u v li lj n d iu iv ju = absurd (nb refl)

-- the other ends of two such edges are connected by edges without the two ends
pub sturdy-linked : (kind : Kind) (skel : List (ℕ × ℕ)) → kind ≢ P → kind ≢ B → IsOfKind kind skel → (i j h u v p q : ℕ) → i < length skel → j < length skel → h < length skel → i ≢ j → i ≢ h → u ≢ v
    → is_end_of u (at skel i) ≡ true → is_end_of v (at skel i) ≡ true → is_end_of u (at skel j) ≡ true → is_end_of p (at skel j) ≡ true → u ≢ p
    → is_end_of u (at skel h) ≡ true → is_end_of q (at skel h) ≡ true → u ≢ q → connected (filter (avoids (u ∷ v ∷ [])) skel) p q ≡ true
sturdy-linked S skel np nb k i j h u v p q li lj lh nj nh d iu iv ju jp up hu hq uq = elim (polygon-two skel u i j h k li lj lh nj iu ju hu) [
  | inl e ↦ absurd (nh (sym e))
  | inr e ↦ elim (ends-two (at skel j) u p q up ju jp (subst (λ z. is_end_of q (at skel z) ≡ true) e hq)) [
    | inl a ↦ absurd (uq (sym a))
    | inr a ↦ subst (λ z. connected (filter (avoids (u ∷ v ∷ [])) skel) p z ≡ true) (sym a) (connected-reflexive (filter (avoids (u ∷ v ∷ [])) skel) p)
  ]
]
sturdy-linked R skel np nb k i j h u v p q li lj lh nj nh d iu iv ju jp up hu hq uq =
    k.stays_connected u v p q (place-vertex skel j p lj jp) (place-vertex skel h q lh hq) (off j p lj nj ju jp up) (off h q lh nh hu hq uq)
  where
    off : (j p : ℕ) → j < length skel → i ≢ j → is_end_of u (at skel j) ≡ true → is_end_of p (at skel j) ≡ true → u ≢ p → is_member p (u ∷ v ∷ []) ≡ false
    off j p lj nj ju jp up = no_member-cons p u (v ∷ []) up (no_member-cons p v [] (λ e. both_ways (is_end_of v (at skel j)) (sturdy-simple R skel np nb k i j u v li lj nj d iu iv ju) (subst (λ z. is_end_of z (at skel j) ≡ true) (sym e) jp)) refl)
sturdy-linked P skel np nb k i j h u v p q li lj lh nj nh d iu iv ju jp up hu hq uq = absurd (np refl)
sturdy-linked B skel np nb k i j h u v p q li lj lh nj nh d iu iv ju jp up hu hq uq = absurd (nb refl)
