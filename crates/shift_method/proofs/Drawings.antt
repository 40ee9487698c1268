-- The points of all vertices, from the positions and heights that were computed.
use Rattle.std.proofs.Common.{◌≡◌, ℕ, ◌+◌, ◌*◌, ◌<◌, ◌≤◌, List, slice_index, slice_index_or, arith, sym, ap, ◌∙◌, subst}
use Rattle.canonical_orders.specs.Order.{Removed, stays_after}
use Rattle.stacked_maps.specs.Drawn.{IsDrawnUnder}
use Rattle.stacked_maps.proofs.Base.{base_is_drawn}
use Rattle.stacked_maps.proofs.Stacked.{stacking_keeps_drawings}
use Rattle.shift_method.specs.Shapes.{ShapeState, IsShapeOf, fresh, all_placed}
use Rattle.shift_method.specs.Peeled.{IsPeeled, removed_at, contour_at, KeepsAll, ArePositions}
use Rattle.shift_method.proofs.Stages.{placed-at, all-drawn, all-within, positions, some-order}
use Rattle.shift_method.proofs.Reached.{left-below, right-below, vertex-below, inner-below}

-- the numbers after all vertices were placed
module _ (n left right : ℕ) (order : List Removed) (p : IsPeeled n left right order) (s : ShapeState) (e : s ≡ all_placed (fresh n) order) where
  pub sizes-told : IsShapeOf n s
  sizes-told = subst (IsShapeOf n) (sym e) (placed-at n left right order p 0 (omega arith)).sizes

  pub positions-told : (x : ℕ → ℕ) × ArePositions n left right order s x
  positions-told = subst (λ (t : ShapeState). (x : ℕ → ℕ) × ArePositions n left right order t x) (sym e) (positions n left right order p base_is_drawn stacking_keeps_drawings)

  -- the positions that were computed, and the points
  module _ (l : List ℕ) (at_left : slice_index l left ≡ 0) (at_top : slice_index l (removed_at order 0).0 ≡ slice_index s.gap (removed_at order 0).0)
      (at_right : slice_index l right ≡ slice_index s.gap (removed_at order 0).0 + slice_index s.gap right) (kept : KeepsAll (slice_index l) s order 0)
      (points : List (ℕ × ℕ)) (each : (v : ℕ) → v < n → slice_index_or points v (0, 0) ≡ (slice_index l v, slice_index s.height v)) where
    x : ℕ → ℕ
    x v = (slice_index_or points v (0, 0)).0

    y : ℕ → ℕ
    y v = (slice_index_or points v (0, 0)).1

    first : (v : ℕ) → v < n → x v ≡ slice_index l v
    unfolding x
    first v b = ap (λ (q : ℕ × ℕ). q.0) (each v b)

    second : (v : ℕ) → v < n → y v ≡ slice_index s.height v
    unfolding y
    second v b = ap (λ (q : ℕ × ℕ). q.1) (each v b)

    moved : (t : ShapeState) → s ≡ t → (x left ≡ 0) × (x (removed_at order 0).0 ≡ slice_index t.gap (removed_at order 0).0) × (x right ≡ slice_index t.gap (removed_at order 0).0 + slice_index t.gap right)
        × KeepsAll x t order 0 × ((v : ℕ) → v < n → y v ≡ slice_index t.height v)
    moved t f = subst (λ (u : ShapeState). (x left ≡ 0) × (x (removed_at order 0).0 ≡ slice_index u.gap (removed_at order 0).0) × (x right ≡ slice_index u.gap (removed_at order 0).0 + slice_index u.gap right)
        × KeepsAll x u order 0 × ((v : ℕ) → v < n → y v ≡ slice_index u.height v)) f (
          first left (left-below n left right order p) ∙ at_left,
          first (removed_at order 0).0 (vertex-below n left right order p 0 (some-order n left right order p)) ∙ at_top,
          first right (right-below n left right order p) ∙ at_right,
          λ i a b v j. omega (arith, first v (inner-below n left right order p i b v j), first (removed_at order i).0 (vertex-below n left right order p i b), kept i a b v j),
          second,
        )

    pub drawn-told : IsDrawnUnder p.m p.h p.next 0 (stays_after p.h order 0) (contour_at p 0) (λ v. slice_index_or points v (0, 0))
    unfolding x y
    drawn-told = let f = moved (all_placed (fresh n) order) e in all-drawn n left right order p base_is_drawn stacking_keeps_drawings x y f.0 f.1 f.2 f.3 f.4

    pub wide-told : (v : ℕ) → v < n → (slice_index_or points v (0, 0)).0 + 4 ≤ 2 * n
    unfolding x
    wide-told v b = let f = moved (all_placed (fresh n) order) e in all-within n left right order p base_is_drawn stacking_keeps_drawings x f.0 f.1 f.2 f.3 v b

    pub high-told : (v : ℕ) → v < n → (slice_index_or points v (0, 0)).1 + 2 ≤ n
    unfolding y
    high-told v b = let f = moved (all_placed (fresh n) order) e in omega (arith, f.4 v b, (placed-at n left right order p 0 (omega arith)).high v)
