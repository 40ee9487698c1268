-- Which darts a contraction leaves connected: the same ones.
use Rattle.std.proofs.Common.{◌≡◌, ℕ, ◌*◌, ◌<◌, ◌⊎◌, inl, inr, true, false, cond, ◌||◌, ◌==◌, refl, sym, ap, ◌∙◌, subst, subst₂, eq-eqb}
use Rattle.std.proofs.lemmas.Bool.{cases_Bool, cases_eq, both_ways, or_cases, or_left, or_right, or_from, or_parts, false_from_ne_true, ne_eqb}
use Rattle.permutations.specs.Relation.{IsEquivalence, join}
use Rattle.permutations.proofs.Relation.{same-tests, join-across, join-back, join-old}
use Rattle.permutations.proofs.Orbits.{orbit-equivalence, orbit-step}
use Rattle.dart_maps.specs.Map.{twin, IsMap, same_vertex, same_component}
use Rattle.dart_maps.proofs.Darts.{twin-twin, twin-other, twin-below, twin-one, twin-back}
use Rattle.dart_maps.proofs.Components.{component-equivalence, component-next, component-twin, component-least, vertex-component, component-finer}
use Rattle.permutations.proofs.Renaming.{equivalence-through}
use Rattle.permutations.proofs.Unlinking.{before-orbit}
use Rattle.dart_maps.specs.Changes.{contracted, follows}
use Rattle.dart_maps.proofs.Contract.{contracted-here, contracted-twin, contracted-before, contracted-before-twin, contracted-other, follows-own, follows-other, contracted-vertex}

-- a map and an edge that joins two vertices, one of which at least has another dart, c
module _ (m : ℕ) (f g : ℕ → ℕ) (b : IsMap m f g) (d : ℕ) (l : d < 2 * m) (v : same_vertex m f d (twin d) ≡ false) (c : ℕ) (cd : c ≡ d → ⊥) (ct : c ≡ twin d → ⊥) (at : (same_vertex m f d c || same_vertex m f (twin d) c) ≡ true) where
  -- relations of the map
  e : IsEquivalence (same_vertex m f)
  e = orbit-equivalence (2 * m) f

  -- relations of the contracted map
  i : IsEquivalence (same_component m (contracted d f))
  i = component-equivalence m (contracted d f)

  -- the dart before d is at d's vertex
  before : same_vertex m f (g d) d ≡ true
  before = before-orbit (2 * m) d f g b l

  -- a dart at one of the two vertices is connected with c after the contraction
  near : (x : ℕ) → (x ≡ d → ⊥) → (x ≡ twin d → ⊥) → (same_vertex m f d x || same_vertex m f (twin d) x) ≡ true → same_component m (contracted d f) x c ≡ true
  near x a n h = vertex-component m (contracted d f) x c (contracted-vertex m f g b d l v x c a n cd ct ∙ joined)
    where
      side : (z : ℕ) → (same_vertex m f d z || same_vertex m f (twin d) z) ≡ true → (same_vertex m f z (g d) ≡ true) ⊎ (same_vertex m f z (twin d) ≡ true)
      side z t = elim (or_cases (same_vertex m f d z) (same_vertex m f (twin d) z) t) [
        | inl u ↦ inl (e.transitive z d (g d) (e.symmetric d z u) (e.symmetric (g d) d before))
        | inr u ↦ inr (e.symmetric (twin d) z u)
      ]

      joined : join (same_vertex m f) (g d) (twin d) x c ≡ true
      joined = elim (side x h) [
        | inl s ↦ elim (side c at) [
          | inl t ↦ join-old (same_vertex m f) (g d) (twin d) x c (e.transitive x (g d) c s (e.symmetric c (g d) t))
          | inr t ↦ join-across (same_vertex m f) (g d) (twin d) x c s (e.symmetric c (twin d) t)
        ]
        | inr s ↦ elim (side c at) [
          | inl t ↦ join-back (same_vertex m f) (g d) (twin d) x c s (e.symmetric c (g d) t)
          | inr t ↦ join-old (same_vertex m f) (g d) (twin d) x c (e.transitive x (twin d) c s (e.symmetric c (twin d) t))
        ]
      ]

  -- each dart, and c in the place of the two of the edge
  stand : ℕ → ℕ
  stand x = cond (x == d || x == twin d) c x

  -- for the edge's dart
  stand-here : (x : ℕ) → x ≡ d → stand x ≡ c
  unfolding stand
  stand-here x h = rw (eq-eqb x d h) refl

  -- for its twin
  stand-twin : (x : ℕ) → x ≡ twin d → stand x ≡ c
  unfolding stand
  stand-twin x h = rw (h, ne_eqb (twin d) d (twin-other d), eq-eqb (twin d) (twin d) refl) refl

  -- for all others
  stand-other : (x : ℕ) → (x ≡ d → ⊥) → (x ≡ twin d → ⊥) → stand x ≡ x
  unfolding stand
  stand-other x a n = rw (ne_eqb x d a, ne_eqb x (twin d) n) refl

  -- what stands for a dart at one of the two vertices is connected with c
  stand-near : (x : ℕ) → (same_vertex m f d x || same_vertex m f (twin d) x) ≡ true → same_component m (contracted d f) (stand x) c ≡ true
  stand-near x h = elim (cases_eq x d) [
    | inl a ↦ subst (λ (z : ℕ). same_component m (contracted d f) z c ≡ true) (sym (stand-here x a)) (i.reflexive c)
    | inr a ↦ elim (cases_eq x (twin d)) [
      | inl n ↦ subst (λ (z : ℕ). same_component m (contracted d f) z c ≡ true) (sym (stand-twin x n)) (i.reflexive c)
      | inr n ↦ subst (λ (z : ℕ). same_component m (contracted d f) z c ≡ true) (sym (stand-other x a n)) (near x a n h)
    ]
  ]

  -- a step of the map stays within what is connected after the contraction
  stand-step : (x : ℕ) → x < 2 * m → same_component m (contracted d f) (stand x) (stand (f x)) ≡ true
  stand-step x k = elim (cases_Bool (same_vertex m f d x || same_vertex m f (twin d) x)) [
    | inl t ↦ i.transitive (stand x) c (stand (f x)) (stand-near x t) (i.symmetric (stand (f x)) c (stand-near (f x) (further t)))
    | inr t ↦ let n = apart x t in let o = apart (f x) (away t) in
        subst₂ (λ (u w : ℕ). same_component m (contracted d f) u w ≡ true) (sym (stand-other x n.0 n.1)) (contracted-other d f x n.0 n.1 o.0 o.1 ∙ sym (stand-other (f x) o.0 o.1)) (component-next m (contracted d f) x k)
  ]
    where
      step : same_vertex m f x (f x) ≡ true
      step = orbit-step (2 * m) f x k

      further : (same_vertex m f d x || same_vertex m f (twin d) x) ≡ true → (same_vertex m f d (f x) || same_vertex m f (twin d) (f x)) ≡ true
      further t = elim (or_cases (same_vertex m f d x) (same_vertex m f (twin d) x) t) [
        | inl u ↦ or_left (same_vertex m f d (f x)) (same_vertex m f (twin d) (f x)) (e.transitive d x (f x) u step)
        | inr u ↦ or_right (same_vertex m f d (f x)) (same_vertex m f (twin d) (f x)) (e.transitive (twin d) x (f x) u step)
      ]

      away : (same_vertex m f d x || same_vertex m f (twin d) x) ≡ false → (same_vertex m f d (f x) || same_vertex m f (twin d) (f x)) ≡ false
      away t = let w = or_parts (same_vertex m f d x) (same_vertex m f (twin d) x) t in or_from (same_vertex m f d (f x)) (same_vertex m f (twin d) (f x))
          (false_from_ne_true (same_vertex m f d (f x)) (λ u. both_ways (same_vertex m f d x) w.0 (e.transitive d (f x) x u (e.symmetric x (f x) step))))
          (false_from_ne_true (same_vertex m f (twin d) (f x)) (λ u. both_ways (same_vertex m f (twin d) x) w.1 (e.transitive (twin d) (f x) x u (e.symmetric x (f x) step))))

      apart : (z : ℕ) → (same_vertex m f d z || same_vertex m f (twin d) z) ≡ false → (z ≡ d → ⊥) × (z ≡ twin d → ⊥)
      apart z t = let w = or_parts (same_vertex m f d z) (same_vertex m f (twin d) z) t in (
        λ s. both_ways (same_vertex m f d z) w.0 (subst (λ (u : ℕ). same_vertex m f d u ≡ true) (sym s) (e.reflexive d)),
        λ s. both_ways (same_vertex m f (twin d) z) w.1 (subst (λ (u : ℕ). same_vertex m f (twin d) u ≡ true) (sym s) (e.reflexive (twin d))),
      )

  -- so does going to the twin
  stand-across : (x : ℕ) → x < 2 * m → same_component m (contracted d f) (stand x) (stand (twin x)) ≡ true
  stand-across x k = elim (cases_eq x d) [
    | inl a ↦ subst₂ (λ (u w : ℕ). same_component m (contracted d f) u w ≡ true) (sym (stand-here x a)) (sym (stand-twin (twin x) (ap twin a))) (i.reflexive c)
    | inr a ↦ elim (cases_eq x (twin d)) [
      | inl n ↦ subst₂ (λ (u w : ℕ). same_component m (contracted d f) u w ≡ true) (sym (stand-twin x n)) (sym (stand-here (twin x) (ap twin n ∙ twin-twin d))) (i.reflexive c)
      | inr n ↦ subst₂ (λ (u w : ℕ). same_component m (contracted d f) u w ≡ true) (sym (stand-other x a n)) (sym (stand-other (twin x) (λ s. n (twin-back x d s)) (λ s. a (twin-one x d s)))) (component-twin m (contracted d f) x k)
    ]
  ]

  -- a step of the contracted map stays within the old components
  old-step : (x : ℕ) → x < 2 * m → same_component m f x (contracted d f x) ≡ true
  old-step x k = elim (cases_eq x d) [
    | inl a ↦ subst (λ (z : ℕ). same_component m f x z ≡ true) (sym (ap (contracted d f) a ∙ contracted-here d f ∙ sym a)) (o.reflexive x)
    | inr a ↦ elim (cases_eq x (twin d)) [
      | inl n ↦ subst (λ (z : ℕ). same_component m f x z ≡ true) (sym (ap (contracted d f) n ∙ contracted-twin d f ∙ sym n)) (o.reflexive x)
      | inr n ↦ elim (cases_eq (f x) d) [
        | inl s ↦ subst (λ (z : ℕ). same_component m f x z ≡ true) (sym (contracted-before d f x a n s)) (o.transitive x d (follows (twin d) d f) (to x d k s) (elim (cases_eq (f (twin d)) (twin d)) [
          | inl r ↦ subst (λ (z : ℕ). same_component m f d z ≡ true) (sym (follows-other (twin d) d f r)) (component-next m f d l)
          | inr r ↦ subst (λ (z : ℕ). same_component m f d z ≡ true) (sym (follows-own (twin d) d f r)) (o.transitive d (twin d) (f (twin d)) across (component-next m f (twin d) (twin-below m d l)))
        ]))
        | inr s ↦ elim (cases_eq (f x) (twin d)) [
          | inl t ↦ subst (λ (z : ℕ). same_component m f x z ≡ true) (sym (contracted-before-twin d f x a n t)) (o.transitive x (twin d) (follows d (twin d) f) (to x (twin d) k t) (elim (cases_eq (f d) d) [
            | inl r ↦ subst (λ (z : ℕ). same_component m f (twin d) z ≡ true) (sym (follows-other d (twin d) f r)) (component-next m f (twin d) (twin-below m d l))
            | inr r ↦ subst (λ (z : ℕ). same_component m f (twin d) z ≡ true) (sym (follows-own d (twin d) f r)) (o.transitive (twin d) d (f d) (o.symmetric d (twin d) across) (component-next m f d l))
          ]))
          | inr t ↦ subst (λ (z : ℕ). same_component m f x z ≡ true) (sym (contracted-other d f x a n s t)) (component-next m f x k)
        ]
      ]
    ]
  ]
    where
      o : IsEquivalence (same_component m f)
      o = component-equivalence m f

      across : same_component m f d (twin d) ≡ true
      across = component-twin m f d l

      to : (x y : ℕ) → x < 2 * m → f x ≡ y → same_component m f x y ≡ true
      to x y k s = subst (λ (z : ℕ). same_component m f x z ≡ true) s (component-next m f x k)

  -- darts of other edges are in one component of the contracted map exactly where they were in one
  pub contracted-component : (x y : ℕ) → (x ≡ d → ⊥) → (x ≡ twin d → ⊥) → (y ≡ d → ⊥) → (y ≡ twin d → ⊥) → same_component m (contracted d f) x y ≡ same_component m f x y
  contracted-component x y a n o r = same-tests (same_component m (contracted d f) x y) (same_component m f x y)
      (component-finer m (contracted d f) f old-step x y)
      (λ t. subst₂ (λ (u w : ℕ). same_component m (contracted d f) u w ≡ true) (stand-other x a n) (stand-other y o r)
      (component-least m f (λ u w. same_component m (contracted d f) (stand u) (stand w)) (equivalence-through (same_component m (contracted d f)) stand i) stand-step stand-across x y t))
