-- The stages of the shift method: the numbers while k removals are left.
use Rattle.std.proofs.Common.{◌≡◌, ◌≢◌, inl, inr, ℕ, suc, ◌+◌, ◌*◌, ◌-◌, ◌<◌, ◌≤◌, true, false, List, [], ◌∷◌, ◌++◌, length, slice_index, arith, refl, sym, ap, ◌∙◌, subst}
use Rattle.std.proofs.lemmas.Bool.{both_ways, cases_eq, false_from_ne_true}
use Rattle.permutations.specs.Members.{is_member, is_distinct}
use Rattle.permutations.specs.Cyclic.{last_or}
use Rattle.permutations.proofs.Members.{member-head, member-tail, member-cases, member-append_left, member-append_right, no_member-cons, no_member-append, distinct-head, distinct-tail, distinct-cons, distinct-append_right, distinct-append_apart}
use Rattle.canonical_orders.specs.Contours.{Successive}
use Rattle.canonical_orders.specs.Order.{Removed}
use Rattle.canonical_orders.proofs.Lists.{last-cut, last-append, cut-between, turn-map}
use Rattle.shift_method.specs.Shapes.{ShapeState, IsShapeOf, total, placed, CanStack}
use Rattle.shift_method.specs.Peeled.{IsPeeled, IsInnerHead}
use Rattle.shift_method.proofs.Stretches.{Sloped, Reaches, succ-first, succ-second, succ-join, succ-after, total-append, total-same, ends-reach, height-left, height-right}
use Rattle.shift_method.proofs.Rows.{IsStretched}
use Rattle.shift_method.proofs.Orders.{row_at, vertex_at, heads_at, stays_at, number-order, stays-below, stays-differs, row-stays, row-distinct, row-begins, row-ends, left-on, right-on, stretched, heads-apart, among-inner, inner-among, inner-off, row-later}
use Rattle.shift_method.proofs.Steps.{IsPlacing, placing-of}

-- the numbers while k removals are left: along the contour the slopes are 1 and -1, from height 0 to height 0, and the gaps add up to twice
-- the number of vertices that were placed; they are positive, but for the last one where there is no vertex between
pub record IsPlaced (n left right : ℕ) (order : List Removed) (p : IsPeeled n left right order) (k : ℕ) (s : ShapeState) : Type 0 where
  pub sizes : IsShapeOf n s
  pub slopes : Successive (Sloped (slice_index s.gap) (slice_index s.height)) (row_at n left right order p k)
  pub positive : (v : ℕ) → is_member v (row_at n left right order p k) ≡ true → v ≢ left → v ≢ right → 0 < slice_index s.gap v
  pub sum : total (slice_index s.gap) (row_at n left right order p k) + 2 * k ≡ 2 * length order
  pub low_left : slice_index s.height left ≡ 0
  pub low_right : slice_index s.height right ≡ 0
  pub high : (v : ℕ) → slice_index s.height v + 2 ≤ n

sloped-move : (g h y z : ℕ → ℕ) (u v : ℕ) → h v ≡ g v → z u ≡ y u → z v ≡ y v → Sloped g y u v → Sloped h z u v
sloped-move g h y z u v a b c (inl e) = inl (omega (arith, a, b, c, e))
sloped-move g h y z u v a b c (inr e) = inr (omega (arith, a, b, c, e))

module _ (n left right : ℕ) (order : List Removed) (p : IsPeeled n left right order) (k : ℕ) (l : k < length order) where
  abbrev row : List ℕ
  row = row_at n left right order p k

  abbrev later : List ℕ
  later = row_at n left right order p (suc k)

  abbrev w : ℕ
  w = vertex_at n left right order p k

  abbrev heads : List ℕ
  heads = heads_at n left right order p k

  pub cut : IsStretched row later w heads
  cut = stretched n left right order p k l

  pub w-apart : (v : ℕ) → is_member v later ≡ true → v ≢ w
  w-apart v i = stays-differs n left right order p k l v (row-stays n left right order p (suc k) (omega arith) v i)

  -- what is on the contour, and is not w, was there before
  pub on-later : (v : ℕ) → is_member v row ≡ true → v ≢ w → is_member v later ≡ true
  on-later v i e = elim (row-later n left right order p k l v i) [ inl j ↦ j | inr f ↦ absurd (e f) ]

  pub not-inner : (v : ℕ) → is_member v row ≡ true → is_member v cut.inner ≡ false
  unfolding cut
  not-inner v i = false_from_ne_true (is_member v cut.inner) (λ j. both_ways (is_member v row) (inner-off n left right order p k l v (among-inner n left right order p k l v j)) i)

  pub inner-cut : (v : ℕ) → IsInnerHead heads v → is_member v cut.inner ≡ true
  unfolding cut
  inner-cut v i = inner-among n left right order p k l v i

  -- the vertices to the left of w, and those to the right of its last head
  row-cut : row ≡ (cut.front ++ cut.left ∷ []) ++ w ∷ cut.right ∷ cut.back
  row-cut = cut.row_is ∙ sym (cut-between cut.front cut.left (w ∷ cut.right ∷ cut.back))

  cut-distinct : is_distinct ((cut.front ++ cut.left ∷ []) ++ w ∷ cut.right ∷ cut.back) ≡ true
  cut-distinct = subst (λ (z : List ℕ). is_distinct z ≡ true) row-cut (row-distinct n left right order p k (omega arith))

  pub first-row : (v : ℕ) → is_member v (cut.front ++ cut.left ∷ []) ≡ true → is_member v row ≡ true
  first-row v i = ap (is_member v) row-cut ∙ member-append_left v (cut.front ++ cut.left ∷ []) (w ∷ cut.right ∷ cut.back) i

  pub last-row : (v : ℕ) → is_member v (w ∷ cut.right ∷ cut.back) ≡ true → is_member v row ≡ true
  last-row v i = ap (is_member v) row-cut ∙ member-append_right v (cut.front ++ cut.left ∷ []) (w ∷ cut.right ∷ cut.back) i

  pub first-apart : (v u : ℕ) → is_member v (cut.front ++ cut.left ∷ []) ≡ true → is_member u (w ∷ cut.right ∷ cut.back) ≡ true → v ≢ u
  first-apart v u i j e = both_ways (is_member v (w ∷ cut.right ∷ cut.back)) (distinct-append_apart (cut.front ++ cut.left ∷ []) (w ∷ cut.right ∷ cut.back) cut-distinct v i) (subst (λ (z : ℕ). is_member z (w ∷ cut.right ∷ cut.back) ≡ true) (sym e) j)

  pub w-in : is_member w (w ∷ cut.right ∷ cut.back) ≡ true
  w-in = member-head w (cut.right ∷ cut.back)

  pub right-in : is_member cut.right (w ∷ cut.right ∷ cut.back) ≡ true
  right-in = member-tail cut.right w (cut.right ∷ cut.back) (member-head cut.right cut.back)

  pub left-in : is_member cut.left (cut.front ++ cut.left ∷ []) ≡ true
  left-in = member-append_right cut.left cut.front (cut.left ∷ []) (member-head cut.left [])

  rest-distinct : is_distinct (w ∷ cut.right ∷ cut.back) ≡ true
  rest-distinct = distinct-append_right (cut.front ++ cut.left ∷ []) (w ∷ cut.right ∷ cut.back) cut-distinct

  back-apart : (v : ℕ) → is_member v cut.back ≡ true → (v ≢ w) × (v ≢ cut.right)
  back-apart v i = (
    λ e. both_ways (is_member w (cut.right ∷ cut.back)) (distinct-head w (cut.right ∷ cut.back) rest-distinct) (subst (λ (z : ℕ). is_member z (cut.right ∷ cut.back) ≡ true) e (member-tail v cut.right cut.back i)),
    λ e. both_ways (is_member cut.right cut.back) (distinct-head cut.right cut.back (distinct-tail w (cut.right ∷ cut.back) rest-distinct)) (subst (λ (z : ℕ). is_member z cut.back ≡ true) e i),
  )

  right-apart : cut.right ≢ w
  right-apart e = both_ways (is_member w (cut.right ∷ cut.back)) (distinct-head w (cut.right ∷ cut.back) rest-distinct) (subst (λ (z : ℕ). is_member z (cut.right ∷ cut.back) ≡ true) e (member-head cut.right cut.back))

  pub heads-later : (v : ℕ) → is_member v heads ≡ true → is_member v later ≡ true
  heads-later v i = ap (is_member v) cut.later_is ∙ member-append_right v cut.front (cut.left ∷ (cut.inner ++ cut.right ∷ cut.back)) (longer (sym (ap (is_member v) cut.stretch) ∙ i))
    where
      longer : is_member v (cut.left ∷ (cut.inner ++ cut.right ∷ [])) ≡ true → is_member v (cut.left ∷ (cut.inner ++ cut.right ∷ cut.back)) ≡ true
      longer j = subst (λ (z : List ℕ). is_member v (cut.left ∷ z) ≡ true) (cut-between cut.inner cut.right cut.back) (member-append_left v (cut.left ∷ (cut.inner ++ cut.right ∷ [])) cut.back j)

  module _ (s : ShapeState) (old : IsPlaced n left right order p (suc k) s) where
    abbrev g : ℕ → ℕ
    g = slice_index s.gap

    abbrev y : ℕ → ℕ
    y = slice_index s.height

    slopes : Successive (Sloped g y) (cut.front ++ cut.left ∷ (cut.inner ++ cut.right ∷ cut.back))
    slopes = subst (Successive (Sloped g y)) cut.later_is old.slopes

    front-slopes : Successive (Sloped g y) (cut.front ++ cut.left ∷ [])
    front-slopes = succ-first (Sloped g y) cut.front cut.left (cut.inner ++ cut.right ∷ cut.back) slopes

    pub stretch-slopes : Successive (Sloped g y) (cut.left ∷ (cut.inner ++ cut.right ∷ []))
    stretch-slopes = succ-first (Sloped g y) (cut.left ∷ cut.inner) cut.right cut.back (succ-second (Sloped g y) cut.front cut.left (cut.inner ++ cut.right ∷ cut.back) slopes)

    back-slopes : Successive (Sloped g y) (cut.right ∷ cut.back)
    back-slopes = succ-second (Sloped g y) (cut.left ∷ cut.inner) cut.right cut.back (succ-second (Sloped g y) cut.front cut.left (cut.inner ++ cut.right ∷ cut.back) slopes)

    left-height : y cut.left ≤ total g (cut.front ++ cut.left ∷ [])
    left-height = height-left g y cut.front cut.left (cut.inner ++ cut.right ∷ cut.back) left (row-begins n left right order p (suc k) (omega arith)).0
        (sym cut.later_is ∙ (row-begins n left right order p (suc k) (omega arith)).1) old.low_left slopes

    right-height : y cut.right ≤ total g cut.back
    right-height = height-right g y cut.right cut.back (ap y last ∙ old.low_right) back-slopes
      where
        ends : (rest : List ℕ) × (later ≡ rest ++ right ∷ [])
        ends = row-ends n left right order p (suc k) (omega arith)

        last : last_or cut.right cut.back ≡ right
        last = sym (last-cut cut.left cut.inner cut.right cut.back) ∙ sym (last-cut 0 cut.front cut.left (cut.inner ++ cut.right ∷ cut.back)) ∙ ap (last_or 0) (sym cut.later_is ∙ ends.1) ∙ last-append 0 ends.0 right

    sums : total g (cut.front ++ cut.left ∷ []) + total g (cut.inner ++ cut.right ∷ []) + total g cut.back + 2 * (k + 1) ≡ 2 * length order
    sums = omega (
      arith,
      old.sum,
      ap (total g) cut.later_is,
      total-append g cut.front (cut.left ∷ (cut.inner ++ cut.right ∷ cut.back)),
      total-append g cut.front (cut.left ∷ []),
      total-append g cut.inner (cut.right ∷ cut.back),
      total-append g cut.inner (cut.right ∷ []),
    )

    -- w can be placed
    pub can-stack : CanStack n g y w heads
    can-stack = record {
      left = cut.left;
      inner = cut.inner;
      right = cut.right;
      stretch = cut.stretch;
      distinct = distinct-cons w heads (false_from_ne_true (is_member w heads) (λ i. w-apart w (heads-later w i) refl)) (heads-apart n left right order p k l);
      within = within;
      rest = reach.2.0 - y cut.left;
      even = omega (arith, reach.0, reach.1, reach.2.1);
      slow = omega (arith, reach.0, reach.1, reach.2.1);
      fits = omega (arith, left-height, right-height, sums, number-order n left right order p);
    }
      where
        reach : Reaches (y cut.left) (y cut.right) (total g (cut.inner ++ cut.right ∷ []))
        reach = ends-reach g y cut.left cut.inner cut.right stretch-slopes

        within : (v : ℕ) → is_member v (w ∷ heads) ≡ true → v < n
        within v i = elim (member-cases v w heads i) [
          | inl e ↦ stays-below n left right order p k v (subst (λ (z : ℕ). stays_at n left right order p k z ≡ true) e (p.canonical.present k l))
          | inr j ↦ stays-below n left right order p (suc k) v (row-stays n left right order p (suc k) (omega arith) v (heads-later v j))
        ]

    pub placing-here : IsPlacing n s (placed s w heads) w cut.left cut.inner cut.right
    unfolding can-stack
    placing-here = placing-of n s old.sizes w heads can-stack

    -- and was placed
    module _ (t : ShapeState) (q : IsPlacing n s t w cut.left cut.inner cut.right) where
      abbrev h : ℕ → ℕ
      h = slice_index t.gap

      abbrev z : ℕ → ℕ
      z = slice_index t.height

      pub kept-gap : (v : ℕ) → is_member v row ≡ true → v ≢ w → v ≢ cut.right → h v ≡ g v
      kept-gap v i e f = q.gap_else v (no_member-append v cut.inner (cut.right ∷ []) (not-inner v i) (no_member-cons v cut.right [] (λ b. f (sym b)) refl)) e

      pub first-kept : (v : ℕ) → is_member v (cut.front ++ cut.left ∷ []) ≡ true → (h v ≡ g v) × (z v ≡ y v)
      first-kept v i = (kept-gap v (first-row v i) (first-apart v w i w-in) (first-apart v cut.right i right-in), q.height_else v (first-apart v w i w-in))

      pub back-kept : (v : ℕ) → is_member v cut.back ≡ true → (h v ≡ g v) × (z v ≡ y v)
      back-kept v i = let a = back-apart v i in
          (kept-gap v (last-row v (member-tail v w (cut.right ∷ cut.back) (member-tail v cut.right cut.back i))) a.0 a.1, q.height_else v a.0)

      right-kept : (v : ℕ) → is_member v (cut.right ∷ cut.back) ≡ true → z v ≡ y v
      right-kept v i = elim (member-cases v cut.right cut.back i) [ inl e ↦ subst (λ (u : ℕ). z u ≡ y u) e (q.height_else cut.right right-apart) | inr j ↦ (back-kept v j).1 ]

      new-slopes : Successive (Sloped h z) (cut.front ++ cut.left ∷ w ∷ cut.right ∷ cut.back)
      new-slopes = succ-join (Sloped h z) cut.front cut.left (w ∷ cut.right ∷ cut.back)
          (turn-map (Sloped g y) (Sloped h z) (cut.front ++ cut.left ∷ []) (λ u v i j r. sloped-move g h y z u v (first-kept v j).0 (first-kept u i).1 (first-kept v j).1 r) front-slopes) (
            inl (omega (arith, q.top, q.gap_here, (first-kept cut.left left-in).1)),
            (
              inr (omega (arith, q.peak, q.gap_right, q.height_else cut.right right-apart)),
              succ-after (Sloped g y) (Sloped h z) cut.right cut.back (λ u v i j r. sloped-move g h y z u v (back-kept v j).0 (right-kept u i) (back-kept v j).1 r) back-slopes,
            ),
          )

      new-sum : total h row + 2 * k ≡ 2 * length order
      new-sum = omega (
        arith,
        sums,
        q.wide,
        q.gap_here,
        q.gap_right,
        ap (total h) row-cut,
        total-append h (cut.front ++ cut.left ∷ []) (w ∷ cut.right ∷ cut.back),
        total-same h g (cut.front ++ cut.left ∷ []) (λ v i. (first-kept v i).0),
        total-same h g cut.back (λ v i. (back-kept v i).0),
      )

      pub next-placed : IsPlaced n left right order p k t
      next-placed = record {
        sizes = q.sizes;
        slopes = subst (Successive (Sloped h z)) (sym cut.row_is) new-slopes;
        positive = λ v i a b. elim (cases_eq v w) [
          | inl e ↦ omega (arith, q.some, q.gap_here, ap h e)
          | inr e ↦ elim (cases_eq v cut.right) [
            | inl f ↦ omega (arith, q.more, q.gap_right, ap h f)
            | inr f ↦ omega (arith, kept-gap v i e f, old.positive v (on-later v i e) a b)
          ]
        ];
        sum = new-sum;
        low_left = q.height_else left (w-apart left (left-on n left right order p (suc k) (omega arith))) ∙ old.low_left;
        low_right = q.height_else right (w-apart right (right-on n left right order p (suc k) (omega arith))) ∙ old.low_right;
        high = λ v. elim (cases_eq v w) [ inl e ↦ omega (arith, q.high, ap z e) | inr e ↦ omega (arith, q.height_else v e, old.high v) ];
      }
