-- Three darts of one vertex, two of which follow one another: the order in which they come around it.
use Rattle.std.proofs.Common.{◌≡◌, ◌≢◌, ℕ, ◌*◌, ◌<◌, ◌⊎◌, inl, inr, Bool, true, ◌||◌, ◌==◌, refl, sym, ap, ◌∙◌}
use Rattle.std.proofs.lemmas.Bool.{both_ways, eq-eqb, eqb-true, ne_eqb, or_cases, or_left, or_right, or_from}
use Rattle.permutations.specs.Permutation.{Permutes}
use Rattle.permutations.specs.Exchange.{restricted}
use Rattle.permutations.proofs.Permutations.{permutes-one-to-one}
use Rattle.permutations.proofs.Orbits.{orbit-kept}
use Rattle.permutations.proofs.Restriction.{restricted-goes, restricted-next, restricted-permutes, restricted-orbit}
use Rattle.dart_maps.specs.Map.{IsMap, same_vertex}
use Rattle.dart_maps.specs.Order.{one_of_three, MetInTurn}
use Rattle.dart_maps.proofs.LinkNoncrossing.{three-members, three-cases}

-- a map, and three different darts of one vertex that pass a test, as no other number does; q follows p
module _ (m : ℕ) (f g : ℕ → ℕ) (e : IsMap m f g) (keep : ℕ → Bool) (p q s : ℕ) (lp : p < 2 * m) (lq : q < 2 * m) (ls : s < 2 * m) (kp : keep p ≡ true) (kq : keep q ≡ true) (ks : keep s ≡ true)
    (cases : (z : ℕ) → keep z ≡ true → (z ≡ p) ⊎ ((z ≡ q) ⊎ (z ≡ s))) (pq : p ≢ q) (ps : p ≢ s) (qs : q ≢ s) (together : same_vertex m f p s ≡ true) (follows : f p ≡ q) where
  -- what follows among the three
  abbrev three : ℕ → ℕ
  three = restricted (2 * m) keep f

  around : Permutes (2 * m) (restricted (2 * m) keep f) (restricted (2 * m) keep g)
  around = restricted-permutes (2 * m) keep f g e

  -- it is one of them
  stays : (z : ℕ) → z < 2 * m → keep z ≡ true → (three z ≡ p) ⊎ ((three z ≡ q) ⊎ (three z ≡ s))
  stays z l k = cases (three z) (restricted-goes (2 * m) keep f g e z l k).2

  one : (z w : ℕ) → z < 2 * m → w < 2 * m → three z ≡ three w → z ≡ w
  one = permutes-one-to-one (2 * m) (restricted (2 * m) keep f) (restricted (2 * m) keep g) around

  -- p is followed by q
  pub turn-first : restricted (2 * m) keep f p ≡ q
  turn-first = restricted-next (2 * m) keep f g e p lp kp (ap keep follows ∙ kq) ∙ follows

  -- q not by p, since s is at the vertex too
  not-back : three q ≡ p → ⊥
  not-back i = both_ways (pair s) (or_from (s == p) (s == q) (ne_eqb s p (λ j. ps (sym j))) (ne_eqb s q (λ j. qs (sym j))))
      (sym (orbit-kept (2 * m) (restricted (2 * m) keep f) (restricted (2 * m) keep g) around pair carried p s (restricted-orbit (2 * m) keep f g e p s kp ks ∙ together)) ∙ or_left (p == p) (p == q) (eq-eqb p p refl))
    where
      pair : ℕ → Bool
      pair z = (z == p) || (z == q)

      carried : (z : ℕ) → z < 2 * m → pair z ≡ true → pair (three z) ≡ true
      carried z l t = elim (or_cases (z == p) (z == q) t) [
        | inl j ↦ or_right (three z == p) (three z == q) (eq-eqb (three z) q (ap three (eqb-true z p j) ∙ turn-first))
        | inr j ↦ or_left (three z == p) (three z == q) (eq-eqb (three z) p (ap three (eqb-true z q j) ∙ i))
      ]

  -- so q by s
  pub turn-second : restricted (2 * m) keep f q ≡ s
  turn-second = elim (stays q lq kq) [
    | inl i ↦ absurd (not-back i)
    | inr i ↦ elim i [ inl j ↦ absurd (pq (one p q lp lq (turn-first ∙ sym j))) | inr j ↦ j ]
  ]

  -- and s by p
  pub turn-third : restricted (2 * m) keep f s ≡ p
  turn-third = elim (stays s ls ks) [
    | inl i ↦ i
    | inr i ↦ elim i [ inl j ↦ absurd (ps (one p s lp ls (turn-first ∙ sym j))) | inr j ↦ absurd (qs (one q s lq ls (turn-second ∙ sym j))) ]
  ]

-- three different darts of one vertex, of which a follows d: they are met in the order d, a, b
pub turn-after : (m : ℕ) (f g : ℕ → ℕ) → IsMap m f g → (d a b : ℕ) → d < 2 * m → a < 2 * m → b < 2 * m → d ≢ a → d ≢ b → a ≢ b → same_vertex m f d b ≡ true → f d ≡ a → MetInTurn m f d a b
turn-after m f g e d a b ld la lb da db ab v i = let t = three-members d a b in record {
  darts = (ld, la, lb);
  different = da;
  first = turn-first m f g e (one_of_three d a b) d a b ld la lb t.0 t.1 t.2 (three-cases d a b) da db ab v i;
  second = turn-second m f g e (one_of_three d a b) d a b ld la lb t.0 t.1 t.2 (three-cases d a b) da db ab v i;
  third = turn-third m f g e (one_of_three d a b) d a b ld la lb t.0 t.1 t.2 (three-cases d a b) da db ab v i;
}

-- and where d follows b
pub turn-before : (m : ℕ) (f g : ℕ → ℕ) → IsMap m f g → (d a b : ℕ) → d < 2 * m → a < 2 * m → b < 2 * m → d ≢ a → d ≢ b → a ≢ b → same_vertex m f b a ≡ true → f b ≡ d → MetInTurn m f d a b
turn-before m f g e d a b ld la lb da db ab v i = let t = three-members d a b in record {
  darts = (ld, la, lb);
  different = da;
  first = turn-second m f g e (one_of_three d a b) b d a lb ld la t.2 t.0 t.1 cases (λ j. db (sym j)) (λ j. ab (sym j)) da v i;
  second = turn-third m f g e (one_of_three d a b) b d a lb ld la t.2 t.0 t.1 cases (λ j. db (sym j)) (λ j. ab (sym j)) da v i;
  third = turn-first m f g e (one_of_three d a b) b d a lb ld la t.2 t.0 t.1 cases (λ j. db (sym j)) (λ j. ab (sym j)) da v i;
}
  where
    cases : (z : ℕ) → one_of_three d a b z ≡ true → (z ≡ b) ⊎ ((z ≡ d) ⊎ (z ≡ a))
    cases z k = elim (three-cases d a b z k) [ inl j ↦ inr (inl j) | inr j ↦ elim j [ inl w ↦ inr (inr w) | inr w ↦ inl w ] ]
