-- An edge that is no bridge stays none when the map is glued along others that are none.
use Rattle.std.proofs.Common.{◌≡◌, ℕ, ◌*◌, ◌<◌, Bool, true, false, not, ◌||◌, ◌==◌, cond, inl, inr, refl, sym, ap, ◌∙◌, subst, eq-eqb}
use Rattle.std.proofs.lemmas.Bool.{cases_Bool, cases_eq, ne_eqb, not-true}
use Rattle.dart_maps.specs.Map.{twin}
use Rattle.dart_maps.proofs.Darts.{twin-other, twin-twin}
use Rattle.skeleton_planes.proofs.Seams.{IsOff, AreFacing, AreJoined}
use Rattle.skeleton_planes.specs.Bridges.{IsNoBridge}
use Rattle.skeleton_planes.proofs.Facing.{sides-differ, facing-back, joined-back, before-in, twin_before-in, before-only, twin_before-only, twin-side, inside-joined}
use Rattle.skeleton_planes.proofs.Spread.{spread, spread-before, spread-twin_before}

-- an edge on d's side
module _ (m : ℕ) (f g h : ℕ → ℕ) (place : ℕ → ℕ) (side : ℕ → Bool) (d e : ℕ) (s : AreFacing m f g place side d e) (j : AreJoined m f g h d e) (second : IsNoBridge m f e) (x : ℕ) (here : side x ≡ true) (lx : x < 2 * m) (xd : x ≡ d → ⊥) (xt : x ≡ twin d → ⊥) (own : IsNoBridge m f x)
    (a : ℕ → Bool) (next : (y : ℕ) → y < 2 * m → a (h y) ≡ a y) (across : (y : ℕ) → y < 2 * m → (y ≡ x → ⊥) → (y ≡ twin x → ⊥) → a (twin y) ≡ a y) where
  -- the other side
  abbrev other : ℕ → Bool
  other y = not (side y)

  -- the same seen from there
  back : AreFacing m f g place (λ y. not (side y)) e d
  back = facing-back m f g place side d e s

  -- and the glued map
  joined : AreJoined m f g h e d
  joined = joined-back m f g h d e j

  -- on the other side the test has one value at each vertex
  steps : (y : ℕ) → y < 2 * m → not (side y) ≡ true → (y ≡ e → ⊥) → (y ≡ twin e → ⊥) → (f y ≡ e → ⊥) → (f y ≡ twin e → ⊥) → a (f y) ≡ a y
  steps y l t i1 i2 i3 i4 = ap a (sym (inside-joined m f g h place other e d back joined y l t i1 i2 i3 i4)) ∙ next y l

  -- and along each edge
  other-across : (y : ℕ) → y < 2 * m → not (side y) ≡ true → (y ≡ e → ⊥) → (y ≡ twin e → ⊥) → a (twin y) ≡ a y
  other-across y l t i1 i2 = across y l (λ i. sides-differ side x y here (not-true (side y) t) (sym i)) (λ i. sides-differ side (twin x) y (s.sides_twin x lx ∙ here) (not-true (side y) t) (sym i))

  -- so it has one value at the two vertices of the gluing
  behind : a (f e) ≡ a (f (twin e))
  behind = spread m f g place other e d back a steps other-across second

  -- before and behind d
  value-before : a (g d) ≡ a (f e)
  value-before = sym (next (g d) (before-in m f g place side d e s)) ∙ ap a j.first

  -- behind d
  value-behind : a (f d) ≡ a (f e)
  value-behind = ap a (sym j.second) ∙ next (g e) (before-in m f g place other e d back) ∙ spread-before m f g place other e d back a steps

  -- before the twin
  value-twin_before : a (g (twin d)) ≡ a (f e)
  value-twin_before = sym (next (g (twin d)) (twin_before-in m f g place side d e s)) ∙ ap a j.first_twin ∙ sym behind

  -- behind the twin
  value-twin_behind : a (f (twin d)) ≡ a (f e)
  value-twin_behind = ap a (sym j.second_twin) ∙ next (g (twin e)) (twin_before-in m f g place other e d back) ∙ spread-twin_before m f g place other e d back a steps ∙ sym behind

  -- the test with that value at d's edge, and true on the other side
  abbrev filled : ℕ → Bool
  filled y = cond (side y) (cond ((y == d) || (y == twin d)) (a (f e)) (a y)) true

  -- on the other side
  filled-out : (y : ℕ) → side y ≡ false → filled y ≡ true
  filled-out y t = rw t refl

  -- at d
  filled-d : filled d ≡ a (f e)
  filled-d = rw (s.inside, eq-eqb d d refl) refl

  -- at its twin
  filled-twin : filled (twin d) ≡ a (f e)
  filled-twin = rw (twin-side m f g place side d e s, ne_eqb (twin d) d (twin-other d), eq-eqb (twin d) (twin d) refl) refl

  -- elsewhere
  filled-in : (y : ℕ) → side y ≡ true → (y ≡ d → ⊥) → (y ≡ twin d → ⊥) → filled y ≡ a y
  filled-in y t i1 i2 = rw (t, ne_eqb y d i1, ne_eqb y (twin d) i2) refl

  -- it agrees with the test behind d's edge
  filled-behind : (y : ℕ) → side y ≡ true → ((y ≡ d → ⊥) → (y ≡ twin d → ⊥) → a y ≡ a (f e)) → filled y ≡ a (f e)
  filled-behind y t c = elim (cases_eq y d) [
    | inl i ↦ ap filled i ∙ filled-d
    | inr i ↦ elim (cases_eq y (twin d)) [
      | inl o ↦ ap filled o ∙ filled-twin
      | inr o ↦ filled-in y t i o ∙ c i o
    ]
  ]

  -- it has one value at each vertex
  filled-next : (y : ℕ) → y < 2 * m → filled (f y) ≡ filled y
  filled-next y l = elim (cases_Bool (side y)) [
    | inr t ↦ filled-out (f y) (s.sides_next y l ∙ t) ∙ sym (filled-out y t)
    | inl t ↦ let k : side (f y) ≡ true = s.sides_next y l ∙ t in elim (cases_eq y d) [
      | inl i ↦ filled-behind (f y) k (λ u w. ap (λ (z : ℕ). a (f z)) i ∙ value-behind) ∙ sym (ap filled i ∙ filled-d)
      | inr i ↦ elim (cases_eq y (twin d)) [
        | inl o ↦ filled-behind (f y) k (λ u w. ap (λ (z : ℕ). a (f z)) o ∙ value-twin_behind) ∙ sym (ap filled o ∙ filled-twin)
        | inr o ↦ elim (cases_eq (f y) d) [
          | inl p ↦ ap filled p ∙ filled-d ∙ sym value-before ∙ ap a (sym (before-only m f g place side d e s y l p)) ∙ sym (filled-in y t i o)
          | inr p ↦ elim (cases_eq (f y) (twin d)) [
            | inl q ↦ ap filled q ∙ filled-twin ∙ sym value-twin_before ∙ ap a (sym (twin_before-only m f g place side d e s y l q)) ∙ sym (filled-in y t i o)
            | inr q ↦ filled-in (f y) k p q ∙ ap a (sym (inside-joined m f g h place side d e s j y l t i o p q)) ∙ next y l ∙ sym (filled-in y t i o)
          ]
        ]
      ]
    ]
  ]

  -- and along each edge but that of x
  filled-across : (y : ℕ) → y < 2 * m → (y ≡ x → ⊥) → (y ≡ twin x → ⊥) → filled (twin y) ≡ filled y
  filled-across y l u w = elim (cases_Bool (side y)) [
    | inr t ↦ filled-out (twin y) (s.sides_twin y l ∙ t) ∙ sym (filled-out y t)
    | inl t ↦ elim (cases_eq y d) [
      | inl i ↦ subst (λ (z : ℕ). filled (twin z) ≡ filled z) (sym i) (filled-twin ∙ sym filled-d)
      | inr i ↦ elim (cases_eq y (twin d)) [
        | inl o ↦ subst (λ (z : ℕ). filled (twin z) ≡ filled z) (sym o) (ap filled (twin-twin d) ∙ filled-d ∙ sym filled-twin)
        | inr o ↦ filled-in (twin y) (s.sides_twin y l ∙ t) (λ v. o (sym (twin-twin y) ∙ ap twin v)) (λ v. i (sym (twin-twin y) ∙ ap twin v ∙ twin-twin d)) ∙ across y l u w ∙ sym (filled-in y t i o)
      ]
    ]
  ]

  -- so the test has one value at both ends of x
  value-own : a x ≡ a (twin x)
  value-own = sym (filled-in x here xd xt) ∙ own filled filled-next filled-across
      ∙ filled-in (twin x) (s.sides_twin x lx ∙ here) (λ v. xt (sym (twin-twin x) ∙ ap twin v)) (λ v. xd (sym (twin-twin x) ∙ ap twin v ∙ twin-twin d))

-- an edge on either side
pub joined-no_bridge : (m : ℕ) (f g h : ℕ → ℕ) (place : ℕ → ℕ) (side : ℕ → Bool) (d e : ℕ) → AreFacing m f g place side d e → AreJoined m f g h d e → IsNoBridge m f d → IsNoBridge m f e
    → (x : ℕ) → x < 2 * m → IsOff d e x → IsNoBridge m f x → IsNoBridge m h x
joined-no_bridge m f g h place side d e s j n o x l off own a next across = elim (cases_Bool (side x)) [
  | inl t ↦ value-own m f g h place side d e s j o x t l off.first off.first_twin own a next across
  | inr t ↦ value-own m f g h place (λ y. not (side y)) e d (facing-back m f g place side d e s) (joined-back m f g h d e j) n x (ap not t) l off.second off.second_twin own a next across
]
