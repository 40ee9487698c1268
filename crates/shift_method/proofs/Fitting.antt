-- A vertex that can be placed: all indexes are in range, and all sums fit.
use Rattle.std.proofs.Common.{◌≡◌, ℕ, suc, ◌+◌, ◌*◌, ◌-◌, ◌/◌, ◌<◌, ◌≤◌, ◌^◌, true, List, [], ◌∷◌, ◌++◌, length, drop, slice_index, arith, sym, ap, ap₂, ◌∙◌, subst}
use Rattle.std.proofs.Math.ListN.{length-set}
use Rattle.std.proofs.Math.Seq.{drop-cons}
use Rattle.permutations.specs.Members.{is_member, is_distinct}
use Rattle.permutations.proofs.Members.{member-head, member-tail, member-append_right}
use Rattle.canonical_orders.specs.Order.{Removed}
use Rattle.shift_method.specs.Shapes.{ShapeState, IsShapeOf, fresh, total, one_more, last_of, widened, with_widened, with_covered, raised, with_gap, width_of, half_of, placed, all_placed, CanStack}
use Rattle.shift_method.specs.Peeled.{IsPeeled, removed_at}
use Rattle.shift_method.proofs.Writes.{total-member}
use Rattle.shift_method.proofs.Steps.{last-is, width-is, half-is}
use Rattle.shift_method.proofs.Stages.{stage, placed-at, can-stack-at}

pub widened-length : (gap l : List ℕ) → length (widened gap l) ≡ length gap
widened-length gap l = length-set (one_more gap (slice_index l 0)) (last_of l) (slice_index (one_more gap (slice_index l 0)) (last_of l) + 1) ∙ length-set gap (slice_index l 0) (slice_index gap (slice_index l 0) + 1)

module _ (n : ℕ) (s : ShapeState) (w : ℕ) (heads : List ℕ) (z : IsShapeOf n s) (small : 2 * n ≤ 2 ^ 32) (c : CanStack n (slice_index s.gap) (slice_index s.height) w heads) where
  rest : List ℕ
  rest = c.inner ++ c.right ∷ []

  rest-is : drop 1 heads ≡ rest
  unfolding rest
  rest-is = ap (λ (l : List ℕ). drop 1 l) c.stretch

  first-is : slice_index heads 0 ≡ c.left
  first-is = ap (λ (l : List ℕ). slice_index l 0) c.stretch

  end-is : last_of (drop 1 heads) ≡ c.right
  unfolding rest
  end-is = ap last_of rest-is ∙ last-is c.inner c.right

  head-below : (v : ℕ) → is_member v (c.left ∷ (c.inner ++ c.right ∷ [])) ≡ true → v < n
  head-below v i = c.within v (member-tail v w heads (subst (λ (l : List ℕ). is_member v l ≡ true) (sym c.stretch) i))

  pub first-below : slice_index heads 0 < n
  first-below = subst (λ (v : ℕ). v < n) (sym first-is) (head-below c.left (member-head c.left (c.inner ++ c.right ∷ [])))

  pub rest-below : (v : ℕ) → is_member v (drop 1 heads) ≡ true → v < n
  unfolding rest
  rest-below v i = head-below v (member-tail v c.left (c.inner ++ c.right ∷ []) (subst (λ (l : List ℕ). is_member v l ≡ true) rest-is i))

  pub end-below : last_of (drop 1 heads) < n
  end-below = subst (λ (v : ℕ). v < n) (sym end-is) (head-below c.right (member-tail c.right c.left (c.inner ++ c.right ∷ []) (member-append_right c.right c.inner (c.right ∷ []) (member-head c.right []))))

  pub gaps-small : (v : ℕ) → is_member v (drop 1 heads) ≡ true → slice_index s.gap v + 2 < 2 ^ 32
  unfolding rest
  gaps-small v i = omega (arith, small, c.fits, total-member (slice_index s.gap) (c.inner ++ c.right ∷ []) v (subst (λ (l : List ℕ). is_member v l ≡ true) rest-is i))

  width-value : width_of s heads ≡ total (slice_index s.gap) (c.inner ++ c.right ∷ []) + 2
  width-value = ap (width_of s) c.stretch ∙ width-is n s z w c.left c.inner c.right (subst (λ (l : List ℕ). is_distinct (w ∷ l) ≡ true) c.stretch c.distinct)
      (λ v i. c.within v (subst (λ (l : List ℕ). is_member v (w ∷ l) ≡ true) (sym c.stretch) i)) c.rest c.even c.slow c.fits

  half-value : half_of s heads ≡ c.rest + 1
  half-value = ap (half_of s) c.stretch ∙ half-is n s z w c.left c.inner c.right (subst (λ (l : List ℕ). is_distinct (w ∷ l) ≡ true) c.stretch c.distinct)
      (λ v i. c.within v (subst (λ (l : List ℕ). is_member v (w ∷ l) ≡ true) (sym c.stretch) i)) c.rest c.even c.slow c.fits

  pub width-small : width_of s heads < 2 ^ 32
  width-small = omega (arith, small, c.fits, width-value)

  pub sum-small : width_of s heads + slice_index s.height (last_of (drop 1 heads)) < 2 ^ 32
  sum-small = omega (arith, small, c.fits, width-value, ap (slice_index s.height) end-is)

  pub sum-more : slice_index s.height (slice_index heads 0) ≤ width_of s heads + slice_index s.height (last_of (drop 1 heads))
  sum-more = omega (arith, c.even, width-value, ap (slice_index s.height) end-is, ap (slice_index s.height) first-is)

  pub half-less : half_of s heads ≤ width_of s heads
  half-less = omega (arith, c.slow, half-value, width-value)

-- the width, as it was computed
pub width-told : (s t : ShapeState) (heads l : List ℕ) (width : ℕ) → l ≡ drop 1 heads → t ≡ with_widened s l → width ≡ total (slice_index t.gap) l → width ≡ width_of s heads
width-told s t heads l width e f g = g ∙ ap (λ (u : ShapeState). total (slice_index u.gap) l) f ∙ ap (λ (k : List ℕ). total (slice_index (widened s.gap k)) k) e

pub half-told : (s : ShapeState) (heads l : List ℕ) (width right left : ℕ) → l ≡ drop 1 heads → width ≡ width_of s heads → right ≡ slice_index s.height (last_of l) → left ≡ slice_index s.height (slice_index heads 0)
    → (width + right - left) / 2 ≡ half_of s heads
half-told s heads l width right left e f g h = ap₂ (λ (a b : ℕ). (a + b - left) / 2) f (g ∙ ap (λ (k : List ℕ). slice_index s.height (last_of k)) e)
    ∙ ap (λ (a : ℕ). (width_of s heads + slice_index s.height (last_of (drop 1 heads)) - a) / 2) h

-- the numbers, as they were written
pub placed-told : (s t u v r : ShapeState) (w : ℕ) (heads l : List ℕ) (width half left : ℕ) → l ≡ drop 1 heads → t ≡ with_widened s l → u ≡ with_covered t l
    → width ≡ width_of s heads → half ≡ half_of s heads → left ≡ slice_index s.height (slice_index heads 0)
    → v ≡ raised u w half (left + half) → r ≡ with_gap v (last_of l) (width - half) → r ≡ placed s w heads
unfolding placed
placed-told s t u v r w heads l width half left e a b c d f g h = h ∙ ap (λ (i : ShapeState). with_gap i (last_of l) (width - half)) (g ∙ ap (λ (i : ShapeState). raised i w half (left + half)) (b ∙ ap (λ (i : ShapeState). with_covered i l) a))
    ∙ ap (λ (k : List ℕ). with_gap (raised (with_covered (with_widened s k) k) w half (left + half)) (last_of k) (width - half)) e
    ∙ ap₂ (λ (i j : ℕ). with_gap (raised (with_covered (with_widened s (drop 1 heads)) (drop 1 heads)) w j (left + j)) (last_of (drop 1 heads)) (i - j)) c d
    ∙ ap (λ (i : ℕ). with_gap (raised (with_covered (with_widened s (drop 1 heads)) (drop 1 heads)) w (half_of s heads) (i + half_of s heads)) (last_of (drop 1 heads)) (width_of s heads - half_of s heads)) f

-- before each turn the next vertex can be placed
pub stack-told : (n : ℕ) (s : ShapeState) → s ≡ fresh n → 2 * n ≤ 2 ^ 32 → (left right : ℕ) (order : List Removed) → IsPeeled n left right order → (k : ℕ) → 0 < k → k ≤ length order
    → (t : ShapeState) → t ≡ all_placed s (drop k order) → (w : ℕ) (heads : List ℕ) → w ≡ (removed_at order (k - 1)).0 → heads ≡ (removed_at order (k - 1)).1
    → (x : ℕ) × IsShapeOf x t × (2 * x ≤ 2 ^ 32) × CanStack x (slice_index t.gap) (slice_index t.height) w heads
stack-told n s e small left right order p k b l t f w heads g h = (
  n,
  subst (IsShapeOf n) (sym at) (placed-at n left right order p k l).sizes,
  small,
  subst (λ (u : ShapeState). CanStack n (slice_index u.gap) (slice_index u.height) w heads) (sym at) (subst (λ (v : ℕ). CanStack n (slice_index (stage n order k).gap) (slice_index (stage n order k).height) v heads) (sym g)
      (subst (CanStack n (slice_index (stage n order k).gap) (slice_index (stage n order k).height) (removed_at order (k - 1)).0) (sym h)
      (subst (λ (i : ℕ). CanStack n (slice_index (stage n order i).gap) (slice_index (stage n order i).height) (removed_at order (k - 1)).0 (removed_at order (k - 1)).1) more (can-stack-at n left right order p (k - 1) (omega (arith, b, l)))))),
)
  where
    at : t ≡ stage n order k
    at = f ∙ ap (λ (u : ShapeState). all_placed u (drop k order)) e

    more : suc (k - 1) ≡ k
    more = omega (arith, b)

-- and after it one vertex more was placed
pub placed-on : (s : ShapeState) (order : List Removed) (k : ℕ) → 0 < k → k ≤ length order → (t u : ShapeState) → t ≡ all_placed s (drop k order) → (w : ℕ) (heads : List ℕ)
    → w ≡ (removed_at order (k - 1)).0 → heads ≡ (removed_at order (k - 1)).1 → u ≡ placed t w heads → u ≡ all_placed s (drop (k - 1) order)
placed-on s order k b l t u e w heads g h f = f ∙ ap₂ (λ (i : ℕ) (j : List ℕ). placed t i j) g h ∙ ap (λ (i : ShapeState). placed i (removed_at order (k - 1)).0 (removed_at order (k - 1)).1) (e ∙ ap (λ (i : ℕ). all_placed s (drop i order)) more)
    ∙ ap (all_placed s) (sym (drop-cons order (k - 1) (0, []) (omega (arith, b, l))))
  where
    more : k ≡ suc (k - 1)
    more = omega (arith, b)
