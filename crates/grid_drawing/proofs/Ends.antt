-- The test of two edges, case by case of their common ends.
use Rattle.std.proofs.Common.{◌≡◌, ℕ, Bool, not, sym, ap}
use Rattle.std.proofs.lemmas.Bool.{eq-eqb, ne_eqb}
use Rattle.plane_points.specs.Segments.{are_apart, same_way}
use Rattle.grid_drawing.specs.Tests.{is_clear}

module _ (at : ℕ → ℕ × ℕ) (x y e f : ℕ × ℕ) (p : x ≡ e) (q : y ≡ f) (t : Bool) where
  firsts-one : x.0 ≡ y.0 → (x.1 ≡ y.1 → ⊥) → t ≡ same_way (at x.0) (at x.1) (at y.1) → not t ≡ is_clear at x y
  firsts-one h n s = rw (eq-eqb x.0 y.0 h, ne_eqb x.1 y.1 n) (ap not s)

  across-one : (x.0 ≡ y.0 → ⊥) → x.0 ≡ y.1 → (x.1 ≡ y.0 → ⊥) → t ≡ same_way (at x.0) (at x.1) (at y.0) → not t ≡ is_clear at x y
  across-one k h n s = rw (ne_eqb x.0 y.0 k, eq-eqb x.0 y.1 h, ne_eqb x.1 y.0 n) (ap not s)

  back-one : (x.0 ≡ y.0 → ⊥) → (x.0 ≡ y.1 → ⊥) → x.1 ≡ y.0 → t ≡ same_way (at x.1) (at x.0) (at y.1) → not t ≡ is_clear at x y
  back-one k n h s = rw (ne_eqb x.0 y.0 k, ne_eqb x.0 y.1 n, eq-eqb x.1 y.0 h) (ap not s)

  seconds-one : (x.0 ≡ y.0 → ⊥) → (x.0 ≡ y.1 → ⊥) → (x.1 ≡ y.0 → ⊥) → x.1 ≡ y.1 → t ≡ same_way (at x.1) (at x.0) (at y.0) → not t ≡ is_clear at x y
  seconds-one k n m h s = rw (ne_eqb x.0 y.0 k, ne_eqb x.0 y.1 n, ne_eqb x.1 y.0 m, eq-eqb x.1 y.1 h) (ap not s)

  none-one : (x.0 ≡ y.0 → ⊥) → (x.0 ≡ y.1 → ⊥) → (x.1 ≡ y.0 → ⊥) → (x.1 ≡ y.1 → ⊥) → t ≡ are_apart (at x.0) (at x.1) (at y.0) (at y.1) → t ≡ is_clear at x y
  none-one k n m h s = rw (ne_eqb x.0 y.0 k, ne_eqb x.0 y.1 n, ne_eqb x.1 y.0 m, ne_eqb x.1 y.1 h) s

  -- the same of the ends in the graph
  pub firsts : x.0 ≡ y.0 → (x.1 ≡ y.1 → ⊥) → t ≡ same_way (at x.0) (at x.1) (at y.1) → not t ≡ is_clear at e f
  firsts h n s = rw (sym p, sym q) (firsts-one h n s)

  pub across : (x.0 ≡ y.0 → ⊥) → x.0 ≡ y.1 → (x.1 ≡ y.0 → ⊥) → t ≡ same_way (at x.0) (at x.1) (at y.0) → not t ≡ is_clear at e f
  across k h n s = rw (sym p, sym q) (across-one k h n s)

  pub back : (x.0 ≡ y.0 → ⊥) → (x.0 ≡ y.1 → ⊥) → x.1 ≡ y.0 → t ≡ same_way (at x.1) (at x.0) (at y.1) → not t ≡ is_clear at e f
  back k n h s = rw (sym p, sym q) (back-one k n h s)

  pub seconds : (x.0 ≡ y.0 → ⊥) → (x.0 ≡ y.1 → ⊥) → (x.1 ≡ y.0 → ⊥) → x.1 ≡ y.1 → t ≡ same_way (at x.1) (at x.0) (at y.0) → not t ≡ is_clear at e f
  seconds k n m h s = rw (sym p, sym q) (seconds-one k n m h s)

  pub none : (x.0 ≡ y.0 → ⊥) → (x.0 ≡ y.1 → ⊥) → (x.1 ≡ y.0 → ⊥) → (x.1 ≡ y.1 → ⊥) → t ≡ are_apart (at x.0) (at x.1) (at y.0) (at y.1) → t ≡ is_clear at e f
  none k n m h s = rw (sym p, sym q) (none-one k n m h s)
