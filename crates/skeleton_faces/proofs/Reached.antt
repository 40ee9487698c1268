-- Faces of the skeletons that fit together are one face of the block, as long as the face at the top weighs.
use Rattle.std.proofs.Common.{◌≡◌, ◌≢◌, ℕ, zero, suc, ◌+◌, ◌*◌, ◌/◌, ◌%◌, ◌<◌, ◌≤◌, ◌⊎◌, Bool, true, false, ◌&&◌, ◌||◌, ◌==◌, cond, List, [], ◌∷◌, inl, inr, refl, sym, ap, ap₂, ◌∙◌, subst, arith, All}
use Rattle.std.proofs.lemmas.Bool.{cases_Bool, cases_eq, both_ways, or_cases, or_left, or_right}
use Rattle.std.proofs.lemmas.List.Elements.{All-head, All-tail}
use Rattle.permutations.specs.Count.{sum_below}
use Rattle.permutations.specs.Relation.{connected}
use Rattle.permutations.proofs.Sums.{sum_below-ext}
use Rattle.permutations.proofs.Relation.{connected-more, connected-first}
use Rattle.dart_maps.specs.Map.{twin}
use Rattle.dart_maps.specs.Order.{one_of_four}
use Rattle.dart_maps.proofs.FourDarts.{four-cases}
use Rattle.skeleton_planes.proofs.LinkLists.{is_used, part_links}
use Rattle.skeleton_planes.proofs.Numbering.{coded, part_of, local_of}
use Rattle.skeleton_planes.proofs.Coded.{part-coded, local-coded}
use Rattle.skeleton_faces.proofs.FaceSums.{sum_of}
use Rattle.skeleton_faces.proofs.Meeting.{AreMatched, on_links}

-- a used dart is one of a link of the list; where it is chosen, the link is one with a chosen dart, and joins its two parts
pub used-joined : (part : ℕ → ℕ) (on : ℕ → Bool) (IsGood : ℕ × ℕ → Type 0) (links : List (ℕ × ℕ)) → All IsGood links → AreMatched on links → (x : ℕ) → on x ≡ true → is_used links x ≡ true
    → (link : ℕ × ℕ) × IsGood link × (one_of_four link.0 (twin link.0) link.1 (twin link.1) x ≡ true) × (connected (part_links part (on_links on links)) (part link.0) (part link.1) ≡ true)
used-joined part on IsGood [] q a x o u = absurd (both_ways false refl u)
used-joined part on IsGood (link ∷ links) q a x o u = elim (or_cases (one_of_four link.0 (twin link.0) link.1 (twin link.1) x) (is_used links x) u) [
  | inl t ↦ (
    link,
    All-head IsGood link links q,
    t,
    subst (λ (z : List (ℕ × ℕ)). connected (part_links part z) (part link.0) (part link.1) ≡ true) (sym (ap (λ (z : Bool). cond z (link ∷ on_links on links) (on_links on links)) (chosen t)))
        (connected-first (part link.0, part link.1) (part_links part (on_links on links))),
  )
  | inr t ↦ let w = used-joined part on IsGood links (All-tail IsGood link links q) a.2 x o t in (
    w.0,
    w.1,
    w.2,
    elim (cases_Bool (on link.0 || on (twin link.0))) [
      | inl c ↦ subst (λ (z : List (ℕ × ℕ)). connected (part_links part z) (part w.0.0) (part w.0.1) ≡ true) (sym (ap (λ (z : Bool). cond z (link ∷ on_links on links) (on_links on links)) c))
          (connected-more (part link.0, part link.1) (part_links part (on_links on links)) (part w.0.0) (part w.0.1) w.3)
      | inr c ↦ subst (λ (z : List (ℕ × ℕ)). connected (part_links part z) (part w.0.0) (part w.0.1) ≡ true) (sym (ap (λ (z : Bool). cond z (link ∷ on_links on links) (on_links on links)) c)) w.3
    ],
  )
]
  where
    chosen : one_of_four link.0 (twin link.0) link.1 (twin link.1) x ≡ true → (on link.0 || on (twin link.0)) ≡ true
    chosen t = elim (four-cases link.0 (twin link.0) link.1 (twin link.1) x t) [
      | inl i ↦ or_left (on link.0) (on (twin link.0)) (ap on (sym i) ∙ o)
      | inr q ↦ elim q [
        | inl i ↦ or_right (on link.0) (on (twin link.0)) (ap on (sym i) ∙ o)
        | inr q ↦ elim q [
          | inl i ↦ or_right (on link.0) (on (twin link.0)) (a.1 ∙ ap on (sym i) ∙ o)
          | inr i ↦ or_left (on link.0) (on (twin link.0)) (a.0 ∙ ap on (sym i) ∙ o)
        ]
      ]
    ]

-- a sum over n maps side by side, with room for w edges each
pub sum-united : (w : ℕ) → 0 < w → (n : ℕ) (f : ℕ → ℕ → ℕ) → sum_below (2 * (w * n)) (λ x. f (part_of w x) (local_of w x)) ≡ sum_below n (λ k. sum_below (2 * w) (f k))
sum-united w pos zero f = ap (λ n. sum_below n (λ x. f (part_of w x) (local_of w x))) (none w)
  where
    none : (w : ℕ) → 2 * (w * 0) ≡ 0
    none w = omega arith
sum-united w pos (suc n) f =
    ap (λ k. sum_below k (λ x. f (part_of w x) (local_of w x))) (more w n)
    ∙ sum-append (2 * (w * n)) (2 * w) (λ x. f (part_of w x) (local_of w x))
    ∙ ap₂ (λ a c. a + c) (sum-united w pos n f) (sum_below-ext (2 * w) (λ z. f (part_of w (2 * (w * n) + z)) (local_of w (2 * (w * n) + z))) (f n) (λ z l.
    ap₂ f (ap (part_of w) (code w n z) ∙ part-coded w n z l) (ap (local_of w) (code w n z) ∙ local-coded w n z l)))
  where
    more : (w n : ℕ) → 2 * (w * suc n) ≡ 2 * (w * n) + 2 * w
    more w n = omega arith

    code : (w n z : ℕ) → 2 * (w * n) + z ≡ coded w n z
    code w n z = shift (w * n) (n * w) z (swap w n)
      where
        swap : (w n : ℕ) → w * n ≡ n * w
        swap w n = omega arith

        shift : (a c z : ℕ) → a ≡ c → 2 * a + z ≡ 2 * (c + z / 2) + z % 2
        shift a c z e = omega (arith, e)

    next : (a c : ℕ) → a + suc c ≡ suc (a + c)
    next a c = omega arith

    after : (t p q u : ℕ) → t ≡ p + q → t + u ≡ p + (q + u)
    after t p q u e = omega (arith, e)

    plus : (n : ℕ) → n + 0 ≡ n
    plus n = omega arith

    sum-append : (a c : ℕ) (g : ℕ → ℕ) → sum_below (a + c) g ≡ sum_below a g + sum_below c (λ z. g (a + z))
    sum-append a zero g = ap (λ (k : ℕ). sum_below k g) (plus a) ∙ sym (plus (sum_below a g))
    sum-append a (suc c) g = ap (λ (k : ℕ). sum_below k g) (next a c) ∙ after (sum_below (a + c) g) (sum_below a g) (sum_below c (λ z. g (a + z))) (g (a + c)) (sum-append a c g)

-- a sum that is not zero has a term that is not
pub sum-positive : (n : ℕ) (s : ℕ → Bool) (w : ℕ → ℕ) → 0 < sum_of n s w → (x : ℕ) × (x < n) × (s x ≡ true) × (0 < w x)
sum-positive zero s w p = absurd (omega (arith, p))
sum-positive (suc n) s w p = elim (cases_Bool (s n)) [
  | inr h ↦ let q : 0 < sum_of n s w = less (sum_of n s w) (cond (s n) (w n) 0) p (ap (λ (t : Bool). cond t (w n) 0) h) in let r = sum-positive n s w q in (r.0, omega (arith, r.1), r.2, r.3)
  | inl h ↦ elim (cases_eq (w n) 0) [
    | inr i ↦ (n, omega arith, h, omega (arith, i))
    | inl i ↦ let q : 0 < sum_of n s w = less (sum_of n s w) (cond (s n) (w n) 0) p (ap (λ (t : Bool). cond t (w n) 0) h ∙ i) in let r = sum-positive n s w q in (r.0, omega (arith, r.1), r.2, r.3)
  ]
]
  where
    less : (a c : ℕ) → 0 < a + c → c ≡ 0 → 0 < a
    less a c p e = omega (arith, p, e)
