-- The order of darts round a vertex, told by its ring: what is met in order there is met in order here.
use Rattle.std.proofs.Common.{◌≡◌, ℕ, ◌*◌, ◌<◌, true, [], ◌∷◌, refl, sym, ◌∙◌, arith, eq-eqb}
use Rattle.std.proofs.lemmas.Bool.{ne_eqb}
use Rattle.std.proofs.lemmas.Bool.Decides.{eqb_tells}
use Rattle.permutations.specs.Members.{is_member}
use Rattle.permutations.specs.Cyclic.{successor, FollowsAround}
use Rattle.permutations.specs.Ring.{ring}
use Rattle.permutations.specs.Exchange.{restricted}
use Rattle.permutations.proofs.Restriction.{restricted-taken-out}
use Rattle.permutations.proofs.Removal.{taken_out-follows}
use Rattle.dart_maps.specs.Map.{IsMap}
use Rattle.dart_maps.specs.Order.{one_of_four, MetInOrder}

-- members of a list of four
four-member : (a b c d z : ℕ) → one_of_four a b c d z ≡ is_member z (a ∷ b ∷ c ∷ d ∷ [])
four-member a b c d z = grind (arith, eqb_tells)

-- four darts met in this order on the ring of one of their vertex's darts
pub ring-in-order : (m : ℕ) (f g : ℕ → ℕ) → IsMap m f g → (v a b c d : ℕ) → v < 2 * m → (a < 2 * m) × (b < 2 * m) × (c < 2 * m) × (d < 2 * m) → (a ≡ b → ⊥) → (a ≡ c → ⊥) → (a ≡ d → ⊥) → (b ≡ c → ⊥) → (b ≡ d → ⊥) → (c ≡ d → ⊥) → FollowsAround (ring (2 * m) f v) (a ∷ b ∷ c ∷ d ∷ []) → MetInOrder m f a b c d
ring-in-order m f g e v a b c d l r ab ac ad bc bd cd h = record { darts = r; different = ac; first = step a b (r.0) ma sa; second = step b c (r.1) mb sb; third = step c d (r.2) mc sc; fourth = step d a (r.3) md sd }
  where
    step : (x y : ℕ) → x < 2 * m → is_member x (a ∷ b ∷ c ∷ d ∷ []) ≡ true → successor (a ∷ b ∷ c ∷ d ∷ []) x ≡ y → restricted (2 * m) (one_of_four a b c d) f x ≡ y
    step x y k t s = restricted-taken-out (2 * m) (one_of_four a b c d) f g e x k ∙ taken_out-follows (2 * m) (one_of_four a b c d) f g e v l (a ∷ b ∷ c ∷ d ∷ []) (λ z n. four-member a b c d z) h x t ∙ s

    ma : is_member a (a ∷ b ∷ c ∷ d ∷ []) ≡ true
    ma = sym (four-member a b c d a) ∙ grind (arith, eqb_tells)

    mb : is_member b (a ∷ b ∷ c ∷ d ∷ []) ≡ true
    mb = sym (four-member a b c d b) ∙ grind (arith, eqb_tells)

    mc : is_member c (a ∷ b ∷ c ∷ d ∷ []) ≡ true
    mc = sym (four-member a b c d c) ∙ grind (arith, eqb_tells)

    md : is_member d (a ∷ b ∷ c ∷ d ∷ []) ≡ true
    md = sym (four-member a b c d d) ∙ grind (arith, eqb_tells)

    sa : successor (a ∷ b ∷ c ∷ d ∷ []) a ≡ b
    sa = rw (eq-eqb a a refl) refl

    sb : successor (a ∷ b ∷ c ∷ d ∷ []) b ≡ c
    sb = rw (ne_eqb a b ab, eq-eqb b b refl) refl

    sc : successor (a ∷ b ∷ c ∷ d ∷ []) c ≡ d
    sc = rw (ne_eqb a c ac, ne_eqb b c bc, eq-eqb c c refl) refl

    sd : successor (a ∷ b ∷ c ∷ d ∷ []) d ≡ a
    sd = rw (ne_eqb a d ad, ne_eqb b d bd, ne_eqb c d cd, eq-eqb d d refl) refl
