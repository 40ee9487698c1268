-- Two connections at a vertex of a plane map do not cross.
use Rattle.std.proofs.Common.{◌≡◌, ℕ, ◌*◌, ◌<◌, ◌⊎◌, inl, inr, Bool, true, false, ◌&&◌, refl, sym, ◌∙◌, subst, arith}
use Rattle.std.proofs.lemmas.Bool.{cases_Bool, both_ways, false_from_ne_true, true_from_ne_false, and_parts, and_from}
use Rattle.std.proofs.lemmas.Bool.Decides.{eqb_tells}
use Rattle.permutations.specs.Relation.{IsEquivalence}
use Rattle.permutations.specs.Exchange.{exchange}
use Rattle.permutations.proofs.Permutations.{exchange-other}
use Rattle.permutations.proofs.Orbits.{orbit-equivalence, orbit-step, orbit-kept}
use Rattle.dart_maps.specs.Map.{twin, face, IsMap, same_vertex, same_face, same_component, IsPlane}
use Rattle.dart_maps.proofs.Darts.{twin-below, twin-back, face-permutes, face-twin}
use Rattle.dart_maps.proofs.Components.{component-equivalence, component-next, component-twin, component-finer}
use Rattle.dart_maps.specs.Order.{one_of_four, frozen}
use Rattle.dart_maps.proofs.Plane.{corner-keep}

-- a frozen dart is alone
pub frozen-here : (t : ℕ → Bool) (f : ℕ → ℕ) (x : ℕ) → t x ≡ true → frozen t f x ≡ x
unfolding frozen
frozen-here t f x h = rw h refl

-- the others go on as before
pub frozen-elsewhere : (t : ℕ → Bool) (f : ℕ → ℕ) (x : ℕ) → t x ≡ false → frozen t f x ≡ f x
unfolding frozen
frozen-elsewhere t f x h = rw h refl

-- each of four numbers is one of them
pub four-members : (a b c d : ℕ) → (one_of_four a b c d a ≡ true) × (one_of_four a b c d b ≡ true) × (one_of_four a b c d c ≡ true) × (one_of_four a b c d d ≡ true)
four-members a b c d = (grind (arith, eqb_tells), grind (arith, eqb_tells), grind (arith, eqb_tells), grind (arith, eqb_tells))

-- and one of four is one of them
pub four-cases : (a b c d x : ℕ) → one_of_four a b c d x ≡ true → (x ≡ a) ⊎ ((x ≡ b) ⊎ ((x ≡ c) ⊎ (x ≡ d)))
four-cases a b c d x h = grind (arith, eqb_tells)

-- none of four
pub four-none : (a b c d x : ℕ) → one_of_four a b c d x ≡ false → (x ≡ a → ⊥) × (x ≡ b → ⊥) × (x ≡ c → ⊥) × (x ≡ d → ⊥)
four-none a b c d x h = (
  λ e. both_ways (one_of_four a b c d x) h (subst (λ (z : ℕ). one_of_four a b c d z ≡ true) (sym e) (four-members a b c d).0),
  λ e. both_ways (one_of_four a b c d x) h (subst (λ (z : ℕ). one_of_four a b c d z ≡ true) (sym e) (four-members a b c d).1),
  λ e. both_ways (one_of_four a b c d x) h (subst (λ (z : ℕ). one_of_four a b c d z ≡ true) (sym e) (four-members a b c d).2),
  λ e. both_ways (one_of_four a b c d x) h (subst (λ (z : ℕ). one_of_four a b c d z ≡ true) (sym e) (four-members a b c d).3),
)

-- a plane map h with a vertex of exactly four darts a, b, c, d in this order; s is h with that vertex opened
module _ (m : ℕ) (h k : ℕ → ℕ) (e : IsMap m h k) (p : IsPlane m h) (a b c d : ℕ) (la : a < 2 * m) (lb : b < 2 * m) (lc : c < 2 * m) (ld : d < 2 * m) (ab : a ≡ b → ⊥) (ad : a ≡ d → ⊥) (bc : b ≡ c → ⊥) (bd : b ≡ d → ⊥) (ac : a ≡ c → ⊥) (cd : c ≡ d → ⊥) (first : h a ≡ b) (second : h b ≡ c) (third : h c ≡ d) (fourth : h d ≡ a) (s : ℕ → ℕ) (still : (x : ℕ) → x < 2 * m → one_of_four a b c d x ≡ true → s x ≡ x) (same : (x : ℕ) → x < 2 * m → one_of_four a b c d x ≡ false → s x ≡ h x) (one : same_component m s a c ≡ true) (two : same_component m s b d ≡ true) where
  -- what is connected with the vertex opened is connected after an exchange at two of its darts
  opened : (u v : ℕ) → one_of_four a b c d u ≡ true → one_of_four a b c d v ≡ true → (x y : ℕ) → same_component m s x y ≡ true → same_component m (exchange u v h) x y ≡ true
  opened u v mu mv = component-finer m s (exchange u v h) (λ x l. elim (cases_Bool (one_of_four a b c d x)) [
    | inl t ↦ subst (λ (z : ℕ). same_component m (exchange u v h) x z ≡ true) (sym (still x l t)) ((component-equivalence m (exchange u v h)).reflexive x)
    | inr t ↦ subst (λ (z : ℕ). same_component m (exchange u v h) x z ≡ true)
        (exchange-other u v h x (λ i. both_ways (one_of_four a b c d x) t (subst (λ (z : ℕ). one_of_four a b c d z ≡ true) (sym i) mu)) (λ i. both_ways (one_of_four a b c d x) t (subst (λ (z : ℕ). one_of_four a b c d z ≡ true) (sym i) mv)) ∙ sym (same x l t))
        (component-next m (exchange u v h) x l)
  ])

  -- the corners a and b lie in different faces
  faces-ab : same_face m h (twin a) (twin b) ≡ false
  faces-ab = corner-keep m h k e p a b la lb ab (subst (λ (z : ℕ). same_vertex m h a z ≡ true) first (orbit-step (2 * m) h a la)) together
    where
      r : ℕ → ℕ
      r = exchange a b h

      i : IsEquivalence (same_component m r)
      i = component-equivalence m r

      together : same_component m r a b ≡ true
      together = i.transitive a d b
          (i.symmetric d a (subst (λ (z : ℕ). same_component m r d z ≡ true) (exchange-other a b h d (λ j. ad (sym j)) (λ j. bd (sym j)) ∙ fourth) (component-next m r d ld)))
          (i.symmetric b d (opened a b (four-members a b c d).0 (four-members a b c d).1 b d two))

  -- the corners a and d lie in different faces
  faces-ad : same_face m h (twin a) (twin d) ≡ false
  faces-ad = corner-keep m h k e p a d la ld ad ((orbit-equivalence (2 * m) h).symmetric d a (subst (λ (z : ℕ). same_vertex m h d z ≡ true) fourth (orbit-step (2 * m) h d ld))) together
    where
      r : ℕ → ℕ
      r = exchange a d h

      i : IsEquivalence (same_component m r)
      i = component-equivalence m r

      together : same_component m r a d ≡ true
      together = i.transitive a c d
          (opened a d (four-members a b c d).0 (four-members a b c d).3 a c one)
          (subst (λ (z : ℕ). same_component m r c z ≡ true) (exchange-other a d h c (λ j. ac (sym j)) cd ∙ third) (component-next m r c lc))

  -- on the face of b, and connected with b when the vertex is opened
  abbrev near : ℕ → Bool
  near x = same_face m h b x && same_component m s x b

  -- the step along a face keeps this, unless it passes the twin of b or of d
  near-kept : same_component m s a b ≡ false → near (twin b) ≡ false → near (twin d) ≡ false → (x : ℕ) → x < 2 * m → near x ≡ true → near (face h x) ≡ true
  near-kept w nb nd x l t = and_from (same_face m h b (face h x)) (same_component m s (face h x) b)
      ((orbit-equivalence (2 * m) (face h)).transitive b x (face h x) on (orbit-step (2 * m) (face h) x l))
      (elim (cases_Bool (one_of_four a b c d (twin x))) [
        | inr u ↦ i.transitive (face h x) (twin x) b (i.symmetric (twin x) (face h x) (subst (λ (z : ℕ). same_component m s (twin x) z ≡ true) (same (twin x) (twin-below m x l) u) (component-next m s (twin x) (twin-below m x l)))) over
        | inl u ↦ absurd (elim (four-cases a b c d (twin x) u) [
          | inl j ↦ both_ways (same_component m s a b) w (subst (λ (z : ℕ). same_component m s z b ≡ true) j over)
          | inr q ↦ elim q [
            | inl j ↦ both_ways (near x) (subst (λ (z : ℕ). near z ≡ false) (sym (twin-back x b j)) nb) t
            | inr q ↦ elim q [
              | inl j ↦ both_ways (same_component m s a b) w (i.transitive a c b one (subst (λ (z : ℕ). same_component m s z b ≡ true) j over))
              | inr j ↦ both_ways (near x) (subst (λ (z : ℕ). near z ≡ false) (sym (twin-back x d j)) nd) t
            ]
          ]
        ])
      ])
    where
      i : IsEquivalence (same_component m s)
      i = component-equivalence m s

      on : same_face m h b x ≡ true
      on = (and_parts (same_face m h b x) (same_component m s x b) t).0

      over : same_component m s (twin x) b ≡ true
      over = i.transitive (twin x) x b (i.symmetric x (twin x) (component-twin m s x l)) (and_parts (same_face m h b x) (same_component m s x b) t).1

  -- the face of b passes the twin of a
  passes : same_face m h (twin a) b ≡ true
  passes = subst (λ (z : ℕ). same_face m h (twin a) z ≡ true) (face-twin h a ∙ first) (orbit-step (2 * m) (face h) (twin a) (twin-below m a la))

  -- so it doesn't pass the twin of b
  near-b : near (twin b) ≡ false
  near-b = false_from_ne_true (near (twin b)) (λ t. both_ways (same_face m h (twin a) (twin b)) faces-ab ((orbit-equivalence (2 * m) (face h)).transitive (twin a) b (twin b) passes (and_parts (same_face m h b (twin b)) (same_component m s (twin b) b) t).0))

  -- nor that of d
  near-d : near (twin d) ≡ false
  near-d = false_from_ne_true (near (twin d)) (λ t. both_ways (same_face m h (twin a) (twin d)) faces-ad ((orbit-equivalence (2 * m) (face h)).transitive (twin a) b (twin d) passes (and_parts (same_face m h b (twin d)) (same_component m s (twin d) b) t).0))

  -- so all four are connected with the vertex opened
  pub four-darts : same_component m s a b ≡ true
  four-darts = true_from_ne_false (same_component m s a b) (λ w. both_ways (same_component m s a b) w (found w))
    where
      i : IsEquivalence (same_component m s)
      i = component-equivalence m s

      found : same_component m s a b ≡ false → same_component m s a b ≡ true
      found w = let n : near b ≡ true = and_from (same_face m h b b) (same_component m s b b) ((orbit-equivalence (2 * m) (face h)).reflexive b) (i.reflexive b) in
          let t : near (twin a) ≡ true = orbit-kept (2 * m) (face h) (λ x. twin (k x)) (face-permutes m h k e) near (near-kept w near-b near-d) (twin a) b passes ∙ n in
          i.transitive a (twin a) b (component-twin m s a la) (and_parts (same_face m h b (twin a)) (same_component m s (twin a) b) t).1
