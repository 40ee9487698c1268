-- Darts and their twins, and the step along a face.
use Rattle.std.proofs.Common.{◌≡◌, ℕ, ◌+◌, ◌*◌, ◌/◌, ◌%◌, ◌<◌, ◌⊎◌, inl, inr, sym, ap, ◌∙◌, arith}
use Rattle.std.proofs.lemmas.Bool.{cases_eq}
use Rattle.std.proofs.lemmas.Bool.Decides.{eqb_tells}
use mathlib.Core.Path.{fun_ext}
use Rattle.permutations.specs.Permutation.{Permutes}
use Rattle.permutations.specs.Exchange.{swapped, exchange}
use Rattle.permutations.proofs.Permutations.{permutes-after, swapped-left, swapped-right, swapped-other}
use Rattle.dart_maps.specs.Map.{twin, face, IsMap}

-- the twin of an even dart
pub twin-even : (d : ℕ) → d % 2 ≡ 0 → twin d ≡ d + 1
unfolding twin
twin-even d h = grind (arith, eqb_tells)

-- the twin of an odd dart
pub twin-odd : (d : ℕ) → d % 2 ≡ 1 → twin d + 1 ≡ d
unfolding twin
twin-odd d h = grind (arith, eqb_tells)

-- a dart is even or odd
pub dart-cases : (d : ℕ) → (d % 2 ≡ 0) ⊎ (d % 2 ≡ 1)
dart-cases d = elim (cases_eq (d % 2) 0) [ inl e ↦ inl e | inr e ↦ inr (omega arith) ]

-- what a twin is, for both kinds of darts
pub twin-cases : (d : ℕ) → ((d % 2 ≡ 0) × (twin d ≡ d + 1)) ⊎ ((d % 2 ≡ 1) × (twin d + 1 ≡ d))
twin-cases d = elim (dart-cases d) [ inl e ↦ inl (e, twin-even d e) | inr e ↦ inr (e, twin-odd d e) ]

-- the twin's twin is the dart
pub twin-twin : (d : ℕ) → twin (twin d) ≡ d
twin-twin d = elim (twin-cases d) [
  | inl a ↦ elim (twin-cases (twin d)) [ inl b ↦ omega (arith, a.0, a.1, b.0, b.1) | inr b ↦ omega (arith, a.0, a.1, b.0, b.1) ]
  | inr a ↦ elim (twin-cases (twin d)) [ inl b ↦ omega (arith, a.0, a.1, b.0, b.1) | inr b ↦ omega (arith, a.0, a.1, b.0, b.1) ]
]

-- no dart is its own twin
pub twin-other : (d : ℕ) → twin d ≡ d → ⊥
twin-other d h = elim (twin-cases d) [ inl a ↦ omega (arith, a.0, a.1) | inr a ↦ omega (arith, a.0, a.1) ]

-- the twin of a dart is a dart
pub twin-below : (m d : ℕ) → d < 2 * m → twin d < 2 * m
twin-below m d l = elim (twin-cases d) [ inl a ↦ omega (arith, a.0, a.1) | inr a ↦ omega (arith, a.0, a.1) ]

-- a dart and its twin have the same edge
pub twin-edge : (d : ℕ) → twin d / 2 ≡ d / 2
twin-edge d = elim (twin-cases d) [ inl a ↦ omega (arith, a.0, a.1) | inr a ↦ omega (arith, a.0, a.1) ]

-- darts of one edge are the same or twins
pub edge-twin : (c d : ℕ) → c / 2 ≡ d / 2 → (c ≡ d) ⊎ (c ≡ twin d)
edge-twin c d h = elim (twin-cases d) [
  | inl a ↦ elim (dart-cases c) [ inl b ↦ inl (omega (arith, a.0)) | inr b ↦ inr (omega (arith, a.0, a.1)) ]
  | inr a ↦ elim (dart-cases c) [ inl b ↦ inr (omega (arith, a.0, a.1)) | inr b ↦ inl (omega (arith, a.0)) ]
]

-- darts with one twin are one
pub twin-one : (c d : ℕ) → twin c ≡ twin d → c ≡ d
twin-one c d h = sym (twin-twin c) ∙ ap twin h ∙ twin-twin d

-- the twin of c is d where c is the twin of d
pub twin-back : (c d : ℕ) → twin c ≡ d → c ≡ twin d
twin-back c d h = sym (twin-twin c) ∙ ap twin h

-- twins permute the darts
pub twin-permutes : (m : ℕ) → Permutes (2 * m) twin twin
twin-permutes m = record { forth = λ d l. twin-below m d l; back = λ d l. twin-below m d l; back_forth = λ d l. twin-twin d; forth_back = λ d l. twin-twin d }

-- the step along a face is a permutation, whose inverse goes back and then to the twin
pub face-permutes : (m : ℕ) (f g : ℕ → ℕ) → IsMap m f g → Permutes (2 * m) (face f) (λ d. twin (g d))
face-permutes m f g b = permutes-after (2 * m) f g twin twin b (twin-permutes m)

-- exchanging p and q at the twin of d is exchanging their twins at d
pub swapped-twin : (p q d : ℕ) → swapped p q (twin d) ≡ twin (swapped (twin p) (twin q) d)
swapped-twin p q d = elim (cases_eq d (twin p)) [
  | inl e ↦ rw (e, swapped-left (twin p) (twin q), twin-twin p, twin-twin q) (swapped-left p q)
  | inr a ↦ elim (cases_eq d (twin q)) [
    | inl e ↦ rw (e, swapped-right (twin p) (twin q), twin-twin q, twin-twin p) (swapped-right p q)
    | inr c ↦ swapped-other p q (twin d) (λ e. a (twin-back d p e)) (λ e. c (twin-back d q e)) ∙ ap twin (sym (swapped-other (twin p) (twin q) d a c))
  ]
]

-- an exchange at p and q exchanges the steps of the faces at their twins
pub face-exchange : (p q : ℕ) (f : ℕ → ℕ) → face (exchange p q f) ≡ exchange (twin p) (twin q) (face f)
unfolding exchange
face-exchange p q f = fun_ext (λ d. ap f (swapped-twin p q d))

-- the face that comes to the twin of p goes on to what follows p
pub face-twin : (f : ℕ → ℕ) (p : ℕ) → face f (twin p) ≡ f p
face-twin f p = ap f (twin-twin p)
