-- The glued map dart by dart.
use Rattle.std.proofs.Common.{◌≡◌, ℕ, ◌*◌, ◌<◌, Bool, true, false, not, inl, inr, refl, sym, ap, ◌∙◌, subst, eq-eqb}
use Rattle.std.proofs.lemmas.Bool.{cases_Bool, cases_eq, ne_eqb}
use Rattle.dart_maps.specs.Map.{twin}
use Rattle.dart_maps.specs.Changes.{glued}
use Rattle.dart_maps.specs.Order.{one_of_four}
use Rattle.dart_maps.proofs.Darts.{twin-other}
use Rattle.dart_maps.proofs.FourDarts.{four-members, four-none, four-cases}
use Rattle.dart_maps.proofs.Glue.{four-not}
use Rattle.skeleton_planes.proofs.Seams.{IsOff, AreFacing, AreJoined}
use Rattle.skeleton_planes.proofs.Facing.{sides-differ, facing-back, after-before, after-twin_before, before-side, twin_before-side, before-other, before-not_twin, twin_before-other, twin_before-not_d, before-only, twin_before-only, inside-off}

-- a dart off two edges is none of their four darts
pub off-four : (d e x : ℕ) → IsOff d e x → one_of_four d (twin d) e (twin e) x ≡ false
off-four d e x o = four-not d (twin d) e (twin e) x o.first o.first_twin o.second o.second_twin

-- and the other way round
pub four-off : (d e x : ℕ) → one_of_four d (twin d) e (twin e) x ≡ false → IsOff d e x
four-off d e x h = let n = four-none d (twin d) e (twin e) x h in record { first = n.0; first_twin = n.1; second = n.2; second_twin = n.3 }

-- the glued map at a dart that is used up
glued-used : (d e : ℕ) (f : ℕ → ℕ) (x : ℕ) → one_of_four d (twin d) e (twin e) x ≡ true → glued d e f x ≡ x
unfolding glued
glued-used d e f x h = rw h refl

-- and at the others
glued-first : (d e : ℕ) (f : ℕ → ℕ) (x : ℕ) → IsOff d e x → f x ≡ d → glued d e f x ≡ f e
unfolding glued
glued-first d e f x o h = rw (off-four d e x o, eq-eqb (f x) d h) refl

-- before e
glued-second : (d e : ℕ) (f : ℕ → ℕ) (x : ℕ) → IsOff d e x → (f x ≡ d → ⊥) → f x ≡ e → glued d e f x ≡ f d
unfolding glued
glued-second d e f x o n h = rw (off-four d e x o, ne_eqb (f x) d n, eq-eqb (f x) e h) refl

-- before d's twin
glued-first_twin : (d e : ℕ) (f : ℕ → ℕ) (x : ℕ) → IsOff d e x → (f x ≡ d → ⊥) → (f x ≡ e → ⊥) → f x ≡ twin d → glued d e f x ≡ f (twin e)
unfolding glued
glued-first_twin d e f x o n k h = rw (off-four d e x o, ne_eqb (f x) d n, ne_eqb (f x) e k, eq-eqb (f x) (twin d) h) refl

-- before e's twin
glued-second_twin : (d e : ℕ) (f : ℕ → ℕ) (x : ℕ) → IsOff d e x → (f x ≡ d → ⊥) → (f x ≡ e → ⊥) → (f x ≡ twin d → ⊥) → f x ≡ twin e → glued d e f x ≡ f (twin d)
unfolding glued
glued-second_twin d e f x o n k i h = rw (off-four d e x o, ne_eqb (f x) d n, ne_eqb (f x) e k, ne_eqb (f x) (twin d) i, eq-eqb (f x) (twin e) h) refl

-- elsewhere
glued-other : (d e : ℕ) (f : ℕ → ℕ) (x : ℕ) → IsOff d e x → IsOff d e (f x) → glued d e f x ≡ f x
unfolding glued
glued-other d e f x o a = rw (off-four d e x o, ne_eqb (f x) d a.first, ne_eqb (f x) e a.second, ne_eqb (f x) (twin d) a.first_twin, ne_eqb (f x) (twin e) a.second_twin) refl

-- the glued map is the map joined at these darts
pub glued-joined : (m : ℕ) (f g : ℕ → ℕ) (place : ℕ → ℕ) (side : ℕ → Bool) (d e : ℕ) → AreFacing m f g place side d e → AreJoined m f g (glued d e f) d e
glued-joined m f g place side d e s = record {
  first = glued-first d e f (g d) off_d (after-before m f g place side d e s);
  second = glued-second d e f (g e) off_e (λ i. apart (sym i ∙ fe)) fe;
  first_twin = glued-first_twin d e f (g (twin d)) off_t (λ i. twin-other d (sym ft ∙ i)) (λ i. sides-differ side (twin d) e td s.outside (sym ft ∙ i)) ft;
  second_twin = glued-second_twin d e f (g (twin e)) off_w (λ i. sides-differ side d (twin e) s.inside te (sym i ∙ fw)) (λ i. twin-other e (sym fw ∙ i)) (λ i. sides-differ side (twin d) (twin e) td te (sym i ∙ fw)) fw;
  others = λ x l o a. glued-other d e f x o a;
  alone = (glued-used d e f d (four-members d (twin d) e (twin e)).0, glued-used d e f (twin d) (four-members d (twin d) e (twin e)).1);
  alone_too = (glued-used d e f e (four-members d (twin d) e (twin e)).2, glued-used d e f (twin e) (four-members d (twin d) e (twin e)).3);
}
  where
    other : ℕ → Bool
    other x = not (side x)

    back : AreFacing m f g place (λ x. not (side x)) e d
    back = facing-back m f g place side d e s

    apart : d ≡ e → ⊥
    apart = sides-differ side d e s.inside s.outside

    td : side (twin d) ≡ true
    td = s.sides_twin d (s.darts.0) ∙ s.inside

    te : side (twin e) ≡ false
    te = s.sides_twin e (s.darts.1) ∙ s.outside

    fe : f (g e) ≡ e
    fe = after-before m f g place (λ x. not (side x)) e d back

    ft : f (g (twin d)) ≡ twin d
    ft = after-twin_before m f g place side d e s

    fw : f (g (twin e)) ≡ twin e
    fw = after-twin_before m f g place (λ x. not (side x)) e d back

    turned : (x : ℕ) → IsOff e d x → IsOff d e x
    turned x o = record { first = o.second; first_twin = o.second_twin; second = o.first; second_twin = o.first_twin }

    off_d : IsOff d e (g d)
    off_d = inside-off m f g place side d e s (g d) (before-side m f g place side d e s) (before-other m f g place side d e s) (before-not_twin m f g place side d e s)

    off_t : IsOff d e (g (twin d))
    off_t = inside-off m f g place side d e s (g (twin d)) (twin_before-side m f g place side d e s) (twin_before-not_d m f g place side d e s) (twin_before-other m f g place side d e s)

    off_e : IsOff d e (g e)
    off_e = turned (g e) (inside-off m f g place (λ x. not (side x)) e d back (g e) (before-side m f g place (λ x. not (side x)) e d back) (before-other m f g place (λ x. not (side x)) e d back) (before-not_twin m f g place (λ x. not (side x)) e d back))

    off_w : IsOff d e (g (twin e))
    off_w = turned (g (twin e)) (inside-off m f g place (λ x. not (side x)) e d back (g (twin e)) (twin_before-side m f g place (λ x. not (side x)) e d back) (twin_before-not_d m f g place (λ x. not (side x)) e d back) (twin_before-other m f g place (λ x. not (side x)) e d back))

-- what follows a dart in the joined map, by cases
pub joined-split : (m : ℕ) (f g h : ℕ → ℕ) (place : ℕ → ℕ) (side : ℕ → Bool) (d e : ℕ) → AreFacing m f g place side d e → AreJoined m f g h d e → (R : ℕ → ℕ → Type 0)
    → ((x : ℕ) → one_of_four d (twin d) e (twin e) x ≡ true → R x x) → R (g d) (f e) → R (g e) (f d) → R (g (twin d)) (f (twin e)) → R (g (twin e)) (f (twin d)) → ((x : ℕ) → x < 2 * m → IsOff d e x → R x (f x)) → (x : ℕ) → x < 2 * m → R x (h x)
joined-split m f g h place side d e s j R used r1 r2 r3 r4 rest x l = elim (cases_Bool (one_of_four d (twin d) e (twin e) x)) [
  | inl t ↦ subst (λ (z : ℕ). R x z) (elim (four-cases d (twin d) e (twin e) x t) [
    | inl i ↦ i ∙ sym j.alone.0 ∙ ap h (sym i)
    | inr r ↦ elim r [
      | inl i ↦ i ∙ sym j.alone.1 ∙ ap h (sym i)
      | inr q ↦ elim q [
        | inl i ↦ i ∙ sym j.alone_too.0 ∙ ap h (sym i)
        | inr i ↦ i ∙ sym j.alone_too.1 ∙ ap h (sym i)
      ]
    ]
  ]) (used x t)
  | inr t ↦ elim (cases_eq (f x) d) [
    | inl i ↦ let p : x ≡ g d = before-only m f g place side d e s x l i in subst (λ (z : ℕ). R z (h z)) (sym p) (subst (λ (z : ℕ). R (g d) z) (sym j.first) r1)
    | inr i1 ↦ elim (cases_eq (f x) e) [
      | inl i ↦ let p : x ≡ g e = before-only m f g place (λ z. not (side z)) e d (facing-back m f g place side d e s) x l i in subst (λ (z : ℕ). R z (h z)) (sym p) (subst (λ (z : ℕ). R (g e) z) (sym j.second) r2)
      | inr i2 ↦ elim (cases_eq (f x) (twin d)) [
        | inl i ↦ let p : x ≡ g (twin d) = twin_before-only m f g place side d e s x l i in subst (λ (z : ℕ). R z (h z)) (sym p) (subst (λ (z : ℕ). R (g (twin d)) z) (sym j.first_twin) r3)
        | inr i3 ↦ elim (cases_eq (f x) (twin e)) [
          | inl i ↦ let p : x ≡ g (twin e) = twin_before-only m f g place (λ z. not (side z)) e d (facing-back m f g place side d e s) x l i in subst (λ (z : ℕ). R z (h z)) (sym p) (subst (λ (z : ℕ). R (g (twin e)) z) (sym j.second_twin) r4)
          | inr i4 ↦ subst (λ (z : ℕ). R x z) (sym (j.others x l (four-off d e x t) (record { first = i1; first_twin = i3; second = i2; second_twin = i4 }))) (rest x l (four-off d e x t))
        ]
      ]
    ]
  ]
]
