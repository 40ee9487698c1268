-- A loop parts the darts of its vertex: in a plane map the dart behind its one end and the dart behind its other end are
-- not connected without passing the vertex.
use Rattle.std.proofs.Common.{◌≡◌, ℕ, ◌*◌, ◌<◌, ◌⊎◌, inl, inr, Bool, true, false, ◌||◌, ◌==◌, refl, sym, ap, ◌∙◌, subst}
use Rattle.std.proofs.lemmas.Bool.{cases_Bool, both_ways, eq-eqb, eqb-true, ne_eqb, or_cases, or_left, or_right, or_from, false_from_ne_true}
use Rattle.permutations.specs.Permutation.{Permutes, same_orbit}
use Rattle.permutations.specs.Exchange.{restricted}
use Rattle.permutations.proofs.Permutations.{permutes-one-to-one}
use Rattle.permutations.proofs.Relation.{same-tests}
use Rattle.permutations.proofs.Orbits.{orbit-equivalence, orbit-step, orbit-kept}
use Rattle.permutations.proofs.Unlinking.{alone-orbit}
use Rattle.permutations.proofs.Restriction.{restricted-next, restricted-goes, restricted-permutes, restricted-orbit}
use Rattle.dart_maps.specs.Map.{twin, IsMap, same_vertex, IsPlane}
use Rattle.dart_maps.specs.Order.{one_of_four, MetInOrder, frozen, connected_around}
use Rattle.dart_maps.proofs.Darts.{twin-twin, twin-other, twin-below}
use Rattle.dart_maps.proofs.Components.{component-test, component-twin}
use Rattle.dart_maps.proofs.FourDarts.{frozen-here, frozen-elsewhere, four-members, four-cases}
use Rattle.dart_maps.proofs.Noncrossing.{noncrossing}

-- one of two numbers
abbrev pub one_of_two : ℕ → ℕ → ℕ → Bool
one_of_two a b x = (x == a) || (x == b)

-- each is one of them, and one of them is one or the other
pub two-first : (a b : ℕ) → one_of_two a b a ≡ true
two-first a b = or_left (a == a) (a == b) (eq-eqb a a refl)

pub two-second : (a b : ℕ) → one_of_two a b b ≡ true
two-second a b = or_right (b == a) (b == b) (eq-eqb b b refl)

pub two-cases : (a b x : ℕ) → one_of_two a b x ≡ true → (x ≡ a) ⊎ (x ≡ b)
two-cases a b x h = elim (or_cases (x == a) (x == b) h) [ inl t ↦ inl (eqb-true x a t) | inr t ↦ inr (eqb-true x b t) ]

pub two-not : (a b x : ℕ) → (x ≡ a → ⊥) → (x ≡ b → ⊥) → one_of_two a b x ≡ false
two-not a b x i j = or_from (x == a) (x == b) (ne_eqb x a i) (ne_eqb x b j)

-- two numbers that a permutation exchanges are an orbit
pub two-orbit : (n : ℕ) (f g : ℕ → ℕ) → (p : Permutes n f g) → (a b c : ℕ) → f a ≡ b → f b ≡ a → same_orbit n f a c ≡ true → (c ≡ a) ⊎ (c ≡ b)
two-orbit n f g p a b c there back t = two-cases a b c (sym (orbit-kept n f g p (one_of_two a b) step a c t) ∙ two-first a b)
  where
    step : (z : ℕ) → z < n → one_of_two a b z ≡ true → one_of_two a b (f z) ≡ true
    step z l h = elim (two-cases a b z h) [
      | inl e ↦ subst (λ w. one_of_two a b w ≡ true) (sym (ap f e ∙ there)) (two-second a b)
      | inr e ↦ subst (λ w. one_of_two a b w ≡ true) (sym (ap f e ∙ back)) (two-first a b)
    ]

-- a loop, at neither side of which the other end follows at once
module _ (m : ℕ) (f g : ℕ → ℕ) (e : IsMap m f g) (c : ℕ) (l : c < 2 * m) (v : same_vertex m f c (twin c) ≡ true) (one : f c ≡ twin c → ⊥) (two : f (twin c) ≡ c → ⊥) where
  lt : twin c < 2 * m
  lt = twin-below m c l

  vt : same_vertex m f (twin c) c ≡ true
  vt = (orbit-equivalence (2 * m) f).symmetric c (twin c) v

  -- neither end is alone
  moves : f c ≡ c → ⊥
  moves q = twin-other c (sym (alone-orbit (2 * m) c f g e l q (twin c) v))

  moves-twin : f (twin c) ≡ twin c → ⊥
  moves-twin q = twin-other c (alone-orbit (2 * m) (twin c) f g e lt q c vt)

  -- the ends and what follows them
  abbrev four : ℕ → Bool
  four = one_of_four (twin c) (f (twin c)) c (f c)

  abbrev round : ℕ → ℕ
  round = restricted (2 * m) (one_of_four (twin c) (f (twin c)) c (f c)) f

  round-permutes : Permutes (2 * m) round (restricted (2 * m) (one_of_four (twin c) (f (twin c)) c (f c)) g)
  round-permutes = restricted-permutes (2 * m) four f g e

  members : (four (twin c) ≡ true) × (four (f (twin c)) ≡ true) × (four c ≡ true) × (four (f c) ≡ true)
  members = four-members (twin c) (f (twin c)) c (f c)

  first : round (twin c) ≡ f (twin c)
  first = restricted-next (2 * m) four f g e (twin c) lt members.0 members.1

  third : round c ≡ f c
  third = restricted-next (2 * m) four f g e c l members.2 members.3

  together : same_orbit (2 * m) round (twin c) c ≡ true
  together = restricted-orbit (2 * m) four f g e (twin c) c members.0 members.2 ∙ vt

  next-cases : (x : ℕ) → x < 2 * m → four x ≡ true → (round x ≡ twin c) ⊎ ((round x ≡ f (twin c)) ⊎ ((round x ≡ c) ⊎ (round x ≡ f c)))
  next-cases x k h = four-cases (twin c) (f (twin c)) c (f c) (round x) (restricted-goes (2 * m) four f g e x k h).2

  -- so what follows the twin is followed by c
  second : round (f (twin c)) ≡ c
  second = elim (next-cases (f (twin c)) (e.forth (twin c) lt) members.1) [
    | inl q ↦ absurd (elim (two-orbit (2 * m) round (restricted (2 * m) four g) round-permutes (twin c) (f (twin c)) c first q together) [ inl i ↦ twin-other c (sym i) | inr i ↦ two (sym i) ])
    | inr w ↦ elim w [
      | inl q ↦ absurd (moves-twin (permutes-one-to-one (2 * m) round (restricted (2 * m) four g) round-permutes (f (twin c)) (twin c) (e.forth (twin c) lt) lt (q ∙ sym first)))
      | inr w ↦ elim w [
        | inl q ↦ q
        | inr q ↦ absurd (two (permutes-one-to-one (2 * m) round (restricted (2 * m) four g) round-permutes (f (twin c)) c (e.forth (twin c) lt) l (q ∙ sym third)))
      ]
    ]
  ]

  -- and what follows c by the twin
  fourth : round (f c) ≡ twin c
  fourth = elim (next-cases (f c) (e.forth c l) members.3) [
    | inl q ↦ q
    | inr w ↦ elim w [
      | inl q ↦ absurd (one (permutes-one-to-one (2 * m) round (restricted (2 * m) four g) round-permutes (f c) (twin c) (e.forth c l) lt (q ∙ sym first)))
      | inr w ↦ elim w [
        | inl q ↦ absurd (elim (two-orbit (2 * m) round (restricted (2 * m) four g) round-permutes c (f c) (twin c) third q ((orbit-equivalence (2 * m) round).symmetric (twin c) c together)) [ inl i ↦ twin-other c i | inr i ↦ one (sym i) ])
        | inr q ↦ absurd (moves (permutes-one-to-one (2 * m) round (restricted (2 * m) four g) round-permutes (f c) c (e.forth c l) l (q ∙ sym third)))
      ]
    ]
  ]

  -- the four are met in order
  order : MetInOrder m f (twin c) (f (twin c)) c (f c)
  order = record {
    darts = (lt, e.forth (twin c) lt, l, e.forth c l);
    different = λ q. twin-other c q;
    first = first;
    second = second;
    third = third;
    fourth = fourth;
  }

  -- the map with the vertex opened leaves the loop by itself
  abbrev loop : ℕ → Bool
  loop = one_of_two c (twin c)

  at-loop : (z : ℕ) → loop z ≡ true → same_vertex m f (twin c) z ≡ true
  at-loop z h = elim (two-cases c (twin c) z h) [
    | inl q ↦ subst (λ w. same_vertex m f (twin c) w ≡ true) (sym q) vt
    | inr q ↦ subst (λ w. same_vertex m f (twin c) w ≡ true) (sym q) ((orbit-equivalence (2 * m) f).reflexive (twin c))
  ]

  off-loop : (z : ℕ) → same_vertex m f (twin c) z ≡ false → loop z ≡ false
  off-loop z h = false_from_ne_true (loop z) (λ t. both_ways (same_vertex m f (twin c) z) h (at-loop z t))

  step-away : (z : ℕ) → z < 2 * m → same_vertex m f (twin c) z ≡ false → same_vertex m f (twin c) (f z) ≡ false
  step-away z k h = false_from_ne_true (same_vertex m f (twin c) (f z)) (λ u. both_ways (same_vertex m f (twin c) z) h
      ((orbit-equivalence (2 * m) f).transitive (twin c) (f z) z u ((orbit-equivalence (2 * m) f).symmetric z (f z) (orbit-step (2 * m) f z k))))

  loop-step : (z : ℕ) → z < 2 * m → loop (frozen (same_vertex m f (twin c)) f z) ≡ loop z
  loop-step z k = elim (cases_Bool (same_vertex m f (twin c) z)) [
    | inl t ↦ ap loop (frozen-here (same_vertex m f (twin c)) f z t)
    | inr t ↦ ap loop (frozen-elsewhere (same_vertex m f (twin c)) f z t) ∙ off-loop (f z) (step-away z k t) ∙ sym (off-loop z t)
  ]

  loop-over : (z : ℕ) → loop z ≡ true → loop (twin z) ≡ true
  loop-over z h = elim (two-cases c (twin c) z h) [
    | inl q ↦ subst (λ w. loop w ≡ true) (sym (ap twin q)) (two-second c (twin c))
    | inr q ↦ subst (λ w. loop w ≡ true) (sym (ap twin q ∙ twin-twin c)) (two-first c (twin c))
  ]

  loop-twin : (z : ℕ) → z < 2 * m → loop (twin z) ≡ loop z
  loop-twin z k = same-tests (loop (twin z)) (loop z) (λ h. subst (λ w. loop w ≡ true) (twin-twin z) (loop-over (twin z) h)) (loop-over z)

  -- so what follows the one end is not connected with what follows the other
  pub loop-parts : IsPlane m f → connected_around m f (twin c) (f (twin c)) (f c) ≡ true → ⊥
  loop-parts p h =
      let joined : connected_around m f (twin c) (twin c) (f (twin c)) ≡ true =
      noncrossing m f g e p (twin c) (f (twin c)) c (f c) order
      (subst (λ z. connected_around m f (twin c) (twin c) z ≡ true) (twin-twin c) (component-twin m (frozen (same_vertex m f (twin c)) f) (twin c) lt))
      h in
      both_ways (loop (f (twin c)))
      (two-not c (twin c) (f (twin c)) two moves-twin)
      (sym (component-test m (frozen (same_vertex m f (twin c)) f) loop loop-step loop-twin (twin c) (f (twin c)) joined) ∙ two-second c (twin c))
