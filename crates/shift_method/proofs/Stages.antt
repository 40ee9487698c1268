-- All stages of the shift method, from the two ends alone to all vertices.
use Rattle.std.proofs.Common.{◌≡◌, ◌≢◌, inl, inr, ℕ, zero, suc, ◌+◌, ◌*◌, ◌-◌, ◌<◌, ◌≤◌, ◌==◌, ◌&&◌, ◌||◌, Bool, true, cond, List, [], ◌∷◌, ◌++◌, length, map, drop, slice_index, replicate, arith, refl, sym, ap, ap₂, ◌∙◌, subst}
use Rattle.std.proofs.lemmas.Bool.{both_ways, cases_lt, eq-eqb, ne_eqb, lt-ltb}
use Rattle.std.proofs.lemmas.List.{get_or-replicate, length-replicate, get_or_past, length-append}
use Rattle.std.proofs.Math.Seq.{drop-cons, drop-length}
use Rattle.permutations.specs.Members.{is_member, is_distinct}
use Rattle.permutations.proofs.Members.{member-head, member-tail, member-cases, distinct-head, distinct-tail}
use Rattle.dart_maps.specs.Map.{twin}
use Rattle.faces.specs.Euler.{tail}
use Rattle.plane_points.proofs.Rising.{Each}
use Rattle.stacked_points.proofs.Chains.{any-found, found-each}
use Rattle.canonical_orders.specs.Contours.{Successive}
use Rattle.canonical_orders.specs.Order.{Removed, stays_after}
use Rattle.canonical_orders.proofs.Triangles.{tail-face}
use Rattle.stacked_maps.specs.Drawn.{IsDrawnUnder, contour_points}
use Rattle.stacked_maps.specs.Laws.{BaseIsDrawn, StackingKeepsDrawings}
use Rattle.shift_method.specs.Shapes.{ShapeState, fresh, total, placed, all_placed, CanStack}
use Rattle.shift_method.specs.Peeled.{IsPeeled, removed_at, contour_at, KeepsAll, ArePositions}
use Rattle.shift_method.proofs.Stretches.{Sloped, Wide}
use Rattle.shift_method.proofs.Overlooked.{spot}
use Rattle.shift_method.proofs.Rows.{IsStretched}
use Rattle.shift_method.proofs.Orders.{row_at, vertex_at, heads_at, stays_at, zero-below, number-order, row-distinct, row-last, stays-below, stays-last, left-right}
use Rattle.shift_method.proofs.Placed.{IsPlaced, cut, can-stack, placing-here, next-placed}
use Rattle.shift_method.proofs.Spread.{IsExtension, Extends, Draws, extends-on, draws-on}

-- a list of zeros
zeros-at : (n i : ℕ) → slice_index (replicate n 0) i ≡ 0
zeros-at n i = elim (cases_lt i n) [ inl a ↦ get_or-replicate n i 0 0 a | inr b ↦ get_or_past (replicate n 0) i 0 (omega (arith, length-replicate {A = ℕ} n 0)) ]

-- the numbers when those from number k on were placed
abbrev pub stage : ℕ → List Removed → ℕ → ShapeState
stage n order k = all_placed (fresh n) (drop k order)

pub stage-step : (n : ℕ) (order : List Removed) (k : ℕ) → k < length order → stage n order k ≡ placed (stage n order (suc k)) (removed_at order k).0 (removed_at order k).1
stage-step n order k l = ap (all_placed (fresh n)) (drop-cons order k (0, []) l)

stage-last : (n : ℕ) (order : List Removed) → stage n order (length order) ≡ fresh n
stage-last n order = ap (all_placed (fresh n)) (drop-length order)

three-cut : (front : List ℕ) (a w b : ℕ) (back : List ℕ) (x y z : ℕ) → front ++ a ∷ w ∷ b ∷ back ≡ x ∷ y ∷ z ∷ [] → w ≡ y
three-cut [] a w b back x y z e = cc
three-cut (c ∷ front) a w b back x y z e = absurd (omega (arith, ap (λ (l : List ℕ). length l) e, length-append {A = ℕ} front (a ∷ w ∷ b ∷ back)))

each-tails : (P : ℕ × ℕ → Type 0) (f : ℕ → ℕ × ℕ) (t : ℕ → ℕ) (l : List ℕ) → Each (λ v. P (f v)) (map t l) → Each P (map (λ d. f (t d)) l)
each-tails P f t [] e = tt
each-tails P f t (d ∷ l) e = (e.0, each-tails P f t l e.1)

module _ (n left right : ℕ) (order : List Removed) (p : IsPeeled n left right order) where
  fresh-placed : IsPlaced n left right order p (length order) (fresh n)
  fresh-placed = record {
    sizes = record { gaps = length-replicate {A = ℕ} n 0; heights = length-replicate {A = ℕ} n 0; halves = length-replicate {A = ℕ} n 0; offsets = length-replicate {A = ℕ} n 0 };
    slopes = subst (Successive (Sloped (slice_index (replicate n 0)) (slice_index (replicate n 0)))) (sym (row-last n left right order p)) (inl (omega (arith, zeros-at n left, zeros-at n right)), tt);
    positive = λ v i a b. absurd (ends v (subst (λ (z : List ℕ). is_member v z ≡ true) (row-last n left right order p) i) a b);
    sum = omega (arith, ap (total (slice_index (replicate n 0))) (row-last n left right order p), zeros-at n left, zeros-at n right);
    low_left = zeros-at n left;
    low_right = zeros-at n right;
    high = λ v. omega (arith, zeros-at n v, number-order n left right order p);
  }
    where
      ends : (v : ℕ) → is_member v (left ∷ right ∷ []) ≡ true → v ≢ left → v ≢ right → ⊥
      ends v i a b = elim (member-cases v left (right ∷ []) i) [
        | inl e ↦ a (sym e)
        | inr j ↦ elim (member-cases v right [] j) [ inl e ↦ b (sym e) | inr k ↦ both_ways (is_member v []) refl k ]
      ]

  at-end : (k : ℕ) → k + 0 ≡ length order → (P : ℕ → ShapeState → Type 0) → P (length order) (fresh n) → P k (stage n order k)
  at-end k e P h = let f : length order ≡ k = omega (arith, e) in subst (λ (i : ℕ). P i (stage n order i)) f (subst (P (length order)) (sym (stage-last n order)) h)

  stage-placed : (d k : ℕ) → k + d ≡ length order → IsPlaced n left right order p k (stage n order k)
  stage-placed zero k e = at-end k e (λ i s. IsPlaced n left right order p i s) fresh-placed
  stage-placed (suc d) k e = let l : k < length order = omega (arith, e) in step l (stage-placed d (suc k) (omega (arith, e)))
    where
      step : k < length order → IsPlaced n left right order p (suc k) (stage n order (suc k)) → IsPlaced n left right order p k (stage n order k)
      step l old = subst (IsPlaced n left right order p k) (sym (stage-step n order k l))
          (next-placed n left right order p k l (stage n order (suc k)) old (placed (stage n order (suc k)) (vertex_at n left right order p k) (heads_at n left right order p k)) (placing-here n left right order p k l (stage n order (suc k)) old))

  -- the numbers of each stage are right
  pub placed-at : (k : ℕ) → k ≤ length order → IsPlaced n left right order p k (stage n order k)
  placed-at k l = stage-placed (length order - k) k (omega arith)

  -- so the next vertex can be placed
  pub can-stack-at : (k : ℕ) → k < length order → CanStack n (slice_index (stage n order (suc k)).gap) (slice_index (stage n order (suc k)).height) (removed_at order k).0 (removed_at order k).1
  can-stack-at k l = can-stack n left right order p k l (stage n order (suc k)) (placed-at (suc k) (omega arith))

  stage-extends : (d k : ℕ) → k + d ≡ length order → Extends n left right order p k (stage n order k)
  stage-extends zero k e = at-end k e (λ i s. Extends n left right order p i s) (λ x wide. (x, record { agrees = λ v i. refl; kept = λ i a b v j. absurd (omega (arith, a, b)); room = λ i a b. absurd (omega (arith, a, b)) }))
  stage-extends (suc d) k e = let l : k < length order = omega (arith, e) in step l (stage-extends d (suc k) (omega (arith, e)))
    where
      step : k < length order → Extends n left right order p (suc k) (stage n order (suc k)) → Extends n left right order p k (stage n order k)
      step l old = subst (Extends n left right order p k) (sym (stage-step n order k l))
          (extends-on n left right order p k l (stage n order (suc k)) (placed-at (suc k) (omega arith)) (placed (stage n order (suc k)) (vertex_at n left right order p k) (heads_at n left right order p k))
          (placing-here n left right order p k l (stage n order (suc k)) (placed-at (suc k) (omega arith))) old)

  module _ (base_law : BaseIsDrawn) (law : StackingKeepsDrawings) where
    fresh-draws : Draws n left right order p (length order) (fresh n)
    fresh-draws x y wide kept same = subst (λ (c : List ℕ). IsDrawnUnder p.m p.h p.next 0 (stays_at n left right order p (length order)) c (spot x y)) (sym p.canonical.ends)
        (base_law p.m p.h p.next p.previous 0 (stays_at n left right order p (length order)) (spot x y) p.triangulated (zero-below n left right order p)
        (λ v. stays-last n left right order p v ∙ ap₂ (λ (a b : ℕ). (v == a) || (v == b)) (sym p.first) (sym p.last))
        (omega (arith, ap x p.first, ap x p.last, across.0.1))
        (omega (arith, ap y p.first, ap y p.last, level left (left-stays), level right (right-stays))))
      where
        across : Successive (Wide (slice_index (replicate n 0)) x) (left ∷ right ∷ [])
        across = subst (Successive (Wide (slice_index (replicate n 0)) x)) (row-last n left right order p) wide

        level : (v : ℕ) → stays_at n left right order p (length order) v ≡ true → y v ≡ 0
        level v i = same v i ∙ zeros-at n v

        left-stays : stays_at n left right order p (length order) left ≡ true
        left-stays = stays-last n left right order p left ∙ ap (λ (b : Bool). b || (left == right)) (eq-eqb left left refl)

        right-stays : stays_at n left right order p (length order) right ≡ true
        right-stays = stays-last n left right order p right ∙ ap₂ (λ (b c : Bool). b || c) (ne_eqb right left (λ e. left-right n left right order p (sym e))) (eq-eqb right right refl)

    stage-draws : (d k : ℕ) → k + d ≡ length order → Draws n left right order p k (stage n order k)
    stage-draws zero k e = at-end k e (λ i s. Draws n left right order p i s) fresh-draws
    stage-draws (suc d) k e = let l : k < length order = omega (arith, e) in step l (stage-draws d (suc k) (omega (arith, e)))
      where
        step : k < length order → Draws n left right order p (suc k) (stage n order (suc k)) → Draws n left right order p k (stage n order k)
        step l old = subst (Draws n left right order p k) (sym (stage-step n order k l))
            (draws-on n left right order p k l (stage n order (suc k)) (placed-at (suc k) (omega arith)) (placed (stage n order (suc k)) (vertex_at n left right order p k) (heads_at n left right order p k))
            (placing-here n left right order p k l (stage n order (suc k)) (placed-at (suc k) (omega arith))) law old)

  -- in the end
  abbrev pub whole : ShapeState
  whole = all_placed (fresh n) order

  pub some-order : 0 < length order
  some-order = omega (arith, number-order n left right order p, p.triangulated.map.three, p.number)

  whole-placed : IsPlaced n left right order p 0 whole
  whole-placed = placed-at 0 (omega arith)

  top : ℕ
  top = (removed_at order 0).0

  pub row-first : row_at n left right order p 0 ≡ left ∷ (removed_at order 0).0 ∷ right ∷ []
  unfolding top
  row-first = row ∙ ap (λ (z : ℕ). left ∷ z ∷ right ∷ []) (sym middle)
    where
      inner : ℕ
      inner = tail p.h (p.next (twin (p.next (twin 0))))

      row : row_at n left right order p 0 ≡ left ∷ inner ∷ right ∷ []
      row = ap (map (tail p.h)) p.canonical.begins ∙ ap₂ (λ (a b : ℕ). a ∷ inner ∷ b ∷ []) p.first (tail-face p.m p.h p.next p.previous p.triangulated 0 (zero-below n left right order p) ∙ p.last)

      c : IsStretched (row_at n left right order p 0) (row_at n left right order p 1) top (heads_at n left right order p 0)
      c = cut n left right order p 0 some-order

      middle : top ≡ inner
      middle = three-cut c.front c.left top c.right c.back left inner right (sym c.row_is ∙ row)

  first-distinct : is_distinct (left ∷ top ∷ right ∷ []) ≡ true
  unfolding top
  first-distinct = subst (λ (z : List ℕ). is_distinct z ≡ true) row-first (row-distinct n left right order p 0 (omega arith))

  top-left : top ≢ left
  top-left e = both_ways (is_member left (top ∷ right ∷ [])) (distinct-head left (top ∷ right ∷ []) first-distinct) (subst (λ (z : ℕ). is_member z (top ∷ right ∷ []) ≡ true) e (member-head top (right ∷ [])))

  top-right : top ≢ right
  top-right e = both_ways (is_member top (right ∷ [])) (distinct-head top (right ∷ []) (distinct-tail left (top ∷ right ∷ []) first-distinct)) (subst (λ (z : ℕ). is_member z (right ∷ []) ≡ true) (sym e) (member-head right []))

  pub top-apart : ((removed_at order 0).0 ≢ left) × ((removed_at order 0).0 ≢ right)
  unfolding top
  top-apart = (top-left, top-right)

  g : ℕ → ℕ
  g = slice_index whole.gap

  first-gaps : (0 < g top) × (0 < g right)
  unfolding g top
  first-gaps = (steep, fall slopes.1.0)
    where
      steep : 0 < slice_index whole.gap top
      steep = whole-placed.positive top (subst (λ (z : List ℕ). is_member top z ≡ true) (sym row-first) (member-tail top left (top ∷ right ∷ []) (member-head top (right ∷ [])))) top-left top-right

      slopes : Successive (Sloped (slice_index whole.gap) (slice_index whole.height)) (left ∷ top ∷ right ∷ [])
      slopes = subst (Successive (Sloped (slice_index whole.gap) (slice_index whole.height))) row-first whole-placed.slopes

      rise : Sloped (slice_index whole.gap) (slice_index whole.height) left top → 0 < slice_index whole.height top
      rise (inl e) = omega (arith, steep, e)
      rise (inr e) = absurd (omega (arith, steep, e, whole-placed.low_left))

      fall : Sloped (slice_index whole.gap) (slice_index whole.height) top right → 0 < slice_index whole.gap right
      fall (inl e) = absurd (omega (arith, rise slopes.0, e, whole-placed.low_right))
      fall (inr e) = omega (arith, rise slopes.0, e, whole-placed.low_right)

  -- positions with the gaps of the first row
  wide-first : (x : ℕ → ℕ) → x left ≡ 0 → x top ≡ g top → x right ≡ g top + g right → Successive (Wide (slice_index whole.gap) x) (row_at n left right order p 0)
  unfolding g top
  wide-first x a b c = subst (Successive (Wide (slice_index whole.gap) x)) (sym row-first)
      ((omega (arith, a, b), omega (arith, a, b, first-gaps.0)), ((omega (arith, b, c), omega (arith, b, c, first-gaps.1)), tt))

  gaps-fit : g top + g right + 4 ≤ 2 * n
  unfolding g top
  gaps-fit = omega (arith, whole-placed.sum, ap (total (slice_index whole.gap)) row-first, number-order n left right order p)

  module _ (base_law : BaseIsDrawn) (law : StackingKeepsDrawings) where
    -- at all positions with these gaps and offsets the vertices are drawn
    pub all-drawn : (x y : ℕ → ℕ) → x left ≡ 0 → x (removed_at order 0).0 ≡ slice_index whole.gap (removed_at order 0).0
        → x right ≡ slice_index whole.gap (removed_at order 0).0 + slice_index whole.gap right → KeepsAll x whole order 0 → ((v : ℕ) → v < n → y v ≡ slice_index whole.height v)
        → IsDrawnUnder p.m p.h p.next 0 (stays_after p.h order 0) (contour_at p 0) (spot x y)
    unfolding g top
    all-drawn x y a b c kept same = stage-draws base_law law (length order) 0 (omega arith) x y (wide-first x a b c) kept (λ v i. same v (stays-below n left right order p 0 v i))

    -- and none is to the right of the right end
    pub all-within : (x : ℕ → ℕ) → x left ≡ 0 → x (removed_at order 0).0 ≡ slice_index whole.gap (removed_at order 0).0
        → x right ≡ slice_index whole.gap (removed_at order 0).0 + slice_index whole.gap right → KeepsAll x whole order 0 → (v : ℕ) → v < n → x v + 4 ≤ 2 * n
    unfolding g top
    all-within x a b c kept v l = found-each (λ (q : ℕ × ℕ). q.0 + 4 ≤ 2 * n) (λ (q : ℕ × ℕ). x v ≤ 1 * q.0) (x v + 4 ≤ 2 * n) (λ q i j. omega (arith, i, j)) (contour_points p.h (spot x (slice_index whole.height)) (contour_at p 0))
        (each-tails (λ (q : ℕ × ℕ). q.0 + 4 ≤ 2 * n) (spot x (slice_index whole.height)) (tail p.h) (contour_at p 0)
        (subst (Each (λ u. x u + 4 ≤ 2 * n)) (sym row-first) (omega (arith, a, gaps-fit), (omega (arith, b, gaps-fit), (omega (arith, c, gaps-fit), tt)))))
        (any-found (λ (q : ℕ × ℕ). x v ≤ 1 * q.0) (contour_points p.h (spot x (slice_index whole.height)) (contour_at p 0)) ((all-drawn x (slice_index whole.height) a b c kept (λ u i. refl)).inside v stays).left)
      where
        stays : stays_after p.h order 0 v ≡ true
        stays = ap (λ (b : Bool). b && true) (lt-ltb v p.h.vertex_count (subst (λ (z : ℕ). v < z) (sym p.number) l))

    -- there are such positions
    pub positions : (x : ℕ → ℕ) × ArePositions n left right order whole x
    unfolding g top
    positions = (
      e.0,
      record {
        at_left = at_left;
        at_top = at_top;
        at_right = at_right;
        kept = e.1.kept;
        room = λ i l. e.1.room i (omega arith) l;
        wide = all-within e.0 at_left at_top at_right e.1.kept;
      },
    )
      where
        ends : ℕ → ℕ
        ends v = cond (v == left) 0 (cond (v == top) (g top) (g top + g right))

        ends-left : ends left ≡ 0
        ends-left = ap (λ (b : Bool). cond b 0 (cond (left == top) (g top) (g top + g right))) (eq-eqb left left refl)

        ends-top : ends top ≡ g top
        ends-top = ap₂ (λ (b c : Bool). cond b 0 (cond c (g top) (g top + g right))) (ne_eqb top left top-left) (eq-eqb top top refl)

        ends-right : ends right ≡ g top + g right
        ends-right = ap₂ (λ (b c : Bool). cond b 0 (cond c (g top) (g top + g right))) (ne_eqb right left (λ e. left-right n left right order p (sym e))) (ne_eqb right top (λ e. top-right (sym e)))

        e : (z : ℕ → ℕ) × IsExtension n left right order p 0 whole ends z
        e = stage-extends (length order) 0 (omega arith) ends (wide-first ends ends-left ends-top ends-right)

        on : (v : ℕ) → is_member v (left ∷ top ∷ right ∷ []) ≡ true → is_member v (row_at n left right order p 0) ≡ true
        on v i = subst (λ (z : List ℕ). is_member v z ≡ true) (sym row-first) i

        at_left : e.0 left ≡ 0
        at_left = e.1.agrees left (on left (member-head left (top ∷ right ∷ []))) ∙ ends-left

        at_top : e.0 top ≡ g top
        at_top = e.1.agrees top (on top (member-tail top left (top ∷ right ∷ []) (member-head top (right ∷ [])))) ∙ ends-top

        at_right : e.0 right ≡ g top + g right
        at_right = e.1.agrees right (on right (member-tail right left (top ∷ right ∷ []) (member-tail right top (right ∷ []) (member-head right [])))) ∙ ends-right
