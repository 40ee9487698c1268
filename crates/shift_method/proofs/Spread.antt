-- Positions of all vertices, from those on the contour: the vertices that are covered keep their offsets.
use Rattle.std.proofs.Common.{◌≡◌, ◌≢◌, inl, inr, ℕ, suc, ◌+◌, ◌-◌, ◌<◌, ◌≤◌, ◌==◌, Bool, true, false, cond, List, [], ◌∷◌, ◌++◌, length, map, slice_index, arith, refl, sym, ap, ◌∙◌, subst}
use Rattle.std.proofs.lemmas.Bool.{both_ways, cases_eq, eq-eqb, ne_eqb, false_from_ne_true}
use Rattle.permutations.specs.Members.{is_member}
use Rattle.permutations.proofs.Members.{member-head, member-tail, member-append_right}
use Rattle.plane_points.proofs.Rising.{Each}
use Rattle.canonical_orders.specs.Contours.{Successive}
use Rattle.canonical_orders.specs.Order.{Removed}
use Rattle.canonical_orders.proofs.Lists.{turn-map}
use Rattle.canonical_orders.proofs.Stacking.{removal-stacked}
use Rattle.stacked_maps.specs.Drawn.{IsDrawnUnder, OverlooksAll}
use Rattle.stacked_maps.specs.Laws.{StackingKeepsDrawings}
use Rattle.shift_method.specs.Shapes.{ShapeState, total}
use Rattle.shift_method.specs.Peeled.{IsPeeled, removed_at, contour_at, IsInnerHead, KeepsOffsets, KeepsAll}
use Rattle.shift_method.proofs.Stretches.{Sloped, Wide, succ-first, succ-second, succ-join, succ-after, each-by, each-of, climbs, descends, pull-back}
use Rattle.shift_method.proofs.Overlooked.{spot, IsInner, overlooks}
use Rattle.shift_method.proofs.Orders.{row_at, vertex_at, heads_at, stays_at, zero-below, one-gone, is-gone, stays-before, stays-differs, row-stays, left-on, right-on, inner-later, inner-off, covered-off, stays-long}
use Rattle.shift_method.proofs.Steps.{IsPlacing}
use Rattle.shift_method.proofs.Placed.{IsPlaced, cut, inner-cut, w-apart, on-later, not-inner, heads-later, w-in, last-row, stretch-slopes, first-kept, back-kept}

-- positions z of all vertices that agree with x on the contour, where those that are covered keep their offsets
pub record IsExtension (n left right : ℕ) (order : List Removed) (p : IsPeeled n left right order) (k : ℕ) (s : ShapeState) (x z : ℕ → ℕ) : Type 0 where
  pub agrees : (v : ℕ) → is_member v (row_at n left right order p k) ≡ true → z v ≡ x v
  pub kept : KeepsAll z s order k
  pub room : (i : ℕ) → k ≤ i → i < length order → slice_index s.half (vertex_at n left right order p i) ≤ z (vertex_at n left right order p i)

-- there are such for all positions on the contour with these gaps or more
abbrev pub Extends : (n left right : ℕ) (order : List Removed) → IsPeeled n left right order → ℕ → ShapeState → Type 0
Extends n left right order p k s = (x : ℕ → ℕ) → Successive (Wide (slice_index s.gap) x) (row_at n left right order p k) → (z : ℕ → ℕ) × IsExtension n left right order p k s x z

-- and at all such positions the vertices that were placed are drawn under the contour
abbrev pub Draws : (n left right : ℕ) (order : List Removed) → IsPeeled n left right order → ℕ → ShapeState → Type 0
Draws n left right order p k s = (x y : ℕ → ℕ) → Successive (Wide (slice_index s.gap) x) (row_at n left right order p k) → KeepsAll x s order k
    → ((v : ℕ) → stays_at n left right order p k v ≡ true → y v ≡ slice_index s.height v)
    → IsDrawnUnder p.m p.h p.next 0 (stays_at n left right order p k) (contour_at p k) (spot x y)

wide-move : (g h x z : ℕ → ℕ) (u v : ℕ) → h v ≡ g v → z u ≡ x u → z v ≡ x v → Wide g x u v → Wide h z u v
wide-move g h x z u v a b c e = (omega (arith, a, b, c, e.0), omega (arith, b, c, e.1))

module _ (n left right : ℕ) (order : List Removed) (p : IsPeeled n left right order) (k : ℕ) (l : k < length order) (s : ShapeState) (old : IsPlaced n left right order p (suc k) s)
    (t : ShapeState) (q : IsPlacing n s t (vertex_at n left right order p k) (cut n left right order p k l).left (cut n left right order p k l).inner (cut n left right order p k l).right) where
  abbrev row : List ℕ
  row = row_at n left right order p k

  abbrev later : List ℕ
  later = row_at n left right order p (suc k)

  abbrev w : ℕ
  w = vertex_at n left right order p k

  abbrev heads : List ℕ
  heads = heads_at n left right order p k

  abbrev front : List ℕ
  front = (cut n left right order p k l).front

  abbrev a : ℕ
  a = (cut n left right order p k l).left

  abbrev inner : List ℕ
  inner = (cut n left right order p k l).inner

  abbrev b : ℕ
  b = (cut n left right order p k l).right

  abbrev back : List ℕ
  back = (cut n left right order p k l).back

  abbrev g : ℕ → ℕ
  g = slice_index s.gap

  abbrev h : ℕ → ℕ
  h = slice_index t.gap

  abbrev off : ℕ → ℕ
  off = slice_index t.offset

  inner-head : (v : ℕ) → is_member v inner ≡ true → IsInnerHead heads v
  inner-head v i = record { left = a; inner = inner; right = b; cut = (cut n left right order p k l).stretch; among = i }

  w-row : is_member w row ≡ true
  w-row = last-row n left right order p k l w (w-in n left right order p k l)

  in-later : (v : ℕ) → is_member v inner ≡ true → is_member v later ≡ true
  in-later v i = inner-later n left right order p k l v (inner-head v i)

  off-row : (v : ℕ) → is_member v inner ≡ true → is_member v row ≡ false
  off-row v i = inner-off n left right order p k l v (inner-head v i)

  positives : Each (λ v. 0 < g v) inner
  positives = each-by (λ v. 0 < g v) inner (λ v i. old.positive v (in-later v i)
      (λ e. both_ways (is_member v row) (off-row v i) (subst (λ (u : ℕ). is_member u row ≡ true) (sym e) (left-on n left right order p k (omega arith))))
      (λ e. both_ways (is_member v row) (off-row v i) (subst (λ (u : ℕ). is_member u row ≡ true) (sym e) (right-on n left right order p k (omega arith)))))

  -- positions of the row are such of the later row
  module _ (x : ℕ → ℕ) (wide : Successive (Wide h x) row) where
    cut-wide : Successive (Wide h x) (front ++ a ∷ w ∷ b ∷ back)
    cut-wide = subst (Successive (Wide h x)) (cut n left right order p k l).row_is wide

    pub on-left : x a + q.half ≤ x w
    on-left = let c : Successive (Wide h x) (a ∷ w ∷ b ∷ back) = succ-second (Wide h x) front a (w ∷ b ∷ back) cut-wide in omega (arith, c.0.0, q.gap_here)

    pub on-right : x w + q.width ≤ x b + q.half
    on-right = let c : Successive (Wide h x) (a ∷ w ∷ b ∷ back) = succ-second (Wide h x) front a (w ∷ b ∷ back) cut-wide in omega (arith, c.1.0.0, q.gap_right)

    pub pull : ((v : ℕ) → is_member v inner ≡ true → x v + q.half ≡ x w + off v) → Successive (Wide g x) later
    pull keeps = subst (Successive (Wide g x)) (sym (cut n left right order p k l).later_is) (succ-join (Wide g x) front a (inner ++ b ∷ back) first (succ-join (Wide g x) (a ∷ inner) b back middle last))
      where
        first : Successive (Wide g x) (front ++ a ∷ [])
        first = turn-map (Wide h x) (Wide g x) (front ++ a ∷ []) (λ u v i j r. wide-move h g x x u v (sym (first-kept n left right order p k l s old t q v j).0) refl refl r)
            (succ-first (Wide h x) front a (w ∷ b ∷ back) cut-wide)

        middle : Successive (Wide g x) (a ∷ (inner ++ b ∷ []))
        middle = pull-back g off x (x w) q.half q.width a inner b on-left positives (each-by (λ v. x v + q.half ≡ x w + off v) inner keeps) q.offsets on-right q.wide

        behind : Successive (Wide h x) (b ∷ back)
        behind = let c : Successive (Wide h x) (a ∷ w ∷ b ∷ back) = succ-second (Wide h x) front a (w ∷ b ∷ back) cut-wide in c.1.1

        last : Successive (Wide g x) (b ∷ back)
        last = succ-after (Wide h x) (Wide g x) b back (λ u v i j r. wide-move h g x x u v (sym (back-kept n left right order p k l s old t q v j).0) refl refl r)
            behind

  -- vertices that were covered before keep their offsets
  later-off : (v : ℕ) → is_member v later ≡ false → is_member v (inner ++ b ∷ []) ≡ false
  later-off v i = false_from_ne_true (is_member v (inner ++ b ∷ [])) (λ j. both_ways (is_member v later) i (heads-later n left right order p k l v
      (ap (is_member v) (cut n left right order p k l).stretch ∙ member-tail v a (inner ++ b ∷ []) j)))

  covered-before : (i : ℕ) → suc k ≤ i → i < length order → (v : ℕ) → IsInnerHead (heads_at n left right order p i) v → (is_member v later ≡ false) × (stays_at n left right order p (suc k) v ≡ true)
  covered-before i e d v j = covered-off n left right order p (i - suc k) (suc k) i (omega (arith, e)) d v j

  placed-before : (i : ℕ) → suc k ≤ i → i < length order → vertex_at n left right order p i ≢ w
  placed-before i e d = stays-differs n left right order p k l (vertex_at n left right order p i)
      (stays-long n left right order p (i - suc k) (suc k) i (omega (arith, e)) (omega (arith, d)) (vertex_at n left right order p i) (p.canonical.present i d))

  keeps-before : (x : ℕ → ℕ) → KeepsAll x t order k → KeepsAll x s order (suc k)
  keeps-before x kept i e d v j = omega (
    arith,
    kept i (omega (arith, e)) d v j,
    q.half_else (vertex_at n left right order p i) (placed-before i e d),
    q.offset_else v (later-off v (covered-before i e d v j).0),
  )

  keeps-inner : (x : ℕ → ℕ) → KeepsAll x t order k → (v : ℕ) → is_member v inner ≡ true → x v + q.half ≡ x w + off v
  keeps-inner x kept v i = omega (arith, kept k (omega arith) l v (inner-head v i), q.half_here)

  -- positions of the row extend to those of the vertices that are covered
  pub extends-on : Extends n left right order p (suc k) s → Extends n left right order p k t
  extends-on extends x wide = (
    z,
    record {
      agrees = agrees;
      kept = λ i e d. elim (cases_eq i k) [
        | inl f ↦ subst (λ (u : ℕ). KeepsOffsets z t (removed_at order u)) (sym f) kept-here
        | inr f ↦ λ v j. kept-there i (omega (arith, e, f)) d v j
      ];
      room = λ i e d. elim (cases_eq i k) [
        | inl f ↦ subst (λ (u : ℕ). slice_index t.half (vertex_at n left right order p u) ≤ z (vertex_at n left right order p u)) (sym f) (omega (arith, q.half_here, z-here, on-left x wide))
        | inr f ↦ omega (
          arith,
          q.half_else (vertex_at n left right order p i) (placed-before i (omega (arith, e, f)) d),
          z-else (vertex_at n left right order p i) (placed-before i (omega (arith, e, f)) d),
          extension.1.room i (omega (arith, e, f)) d,
        )
      ];
    },
  )
    where
      guess : ℕ → ℕ
      guess v = cond (is_member v inner) ((x w + off v) - q.half) (x v)

      guess-row : (v : ℕ) → is_member v row ≡ true → guess v ≡ x v
      guess-row v i = ap (λ (c : Bool). cond c ((x w + off v) - q.half) (x v)) (not-inner n left right order p k l v i)

      guess-inner : (v : ℕ) → is_member v inner ≡ true → guess v + q.half ≡ guess w + off v
      guess-inner v i = omega (arith, guess-row w w-row, on-left x wide, value)
        where
          value : guess v ≡ (x w + off v) - q.half
          value = ap (λ (c : Bool). cond c ((x w + off v) - q.half) (x v)) i

      guess-wide : Successive (Wide h guess) row
      guess-wide = turn-map (Wide h x) (Wide h guess) row (λ u v i j r. wide-move h h x guess u v refl (guess-row u i) (guess-row v j) r) wide

      extension : (e : ℕ → ℕ) × IsExtension n left right order p (suc k) s guess e
      extension = extends guess (pull guess guess-wide guess-inner)

      z : ℕ → ℕ
      z v = cond (v == w) (x w) (extension.0 v)

      z-here : z w ≡ x w
      z-here = ap (λ (c : Bool). cond c (x w) (extension.0 w)) (eq-eqb w w refl)

      z-else : (v : ℕ) → v ≢ w → z v ≡ extension.0 v
      z-else v e = ap (λ (c : Bool). cond c (x w) (extension.0 v)) (ne_eqb v w e)

      agrees : (v : ℕ) → is_member v row ≡ true → z v ≡ x v
      agrees v i = elim (cases_eq v w) [
        | inl e ↦ subst (λ (u : ℕ). z u ≡ x u) (sym e) z-here
        | inr e ↦ z-else v e ∙ extension.1.agrees v (on-later n left right order p k l v i e) ∙ guess-row v i
      ]

      kept-here : KeepsOffsets z t (removed_at order k)
      kept-here v j = let i : is_member v inner ≡ true = inner-cut n left right order p k l v j in
          omega (arith, z-here, q.half_here, z-else v (w-apart n left right order p k l v (in-later v i)), extension.1.agrees v (in-later v i), guess-inner v i, guess-row w w-row)

      kept-there : (i : ℕ) → suc k ≤ i → i < length order → KeepsOffsets z t (removed_at order i)
      kept-there i e d v j = omega (
        arith,
        z-else v (stays-differs n left right order p k l v (covered-before i e d v j).1),
        z-else (vertex_at n left right order p i) (placed-before i e d),
        q.half_else (vertex_at n left right order p i) (placed-before i e d),
        q.offset_else v (later-off v (covered-before i e d v j).0),
        extension.1.kept i e d v j,
      )

  -- and so does the drawing
  pub draws-on : StackingKeepsDrawings → Draws n left right order p (suc k) s → Draws n left right order p k t
  draws-on law draws x y wide kept same = law p.m p.h p.next p.previous 0 (stays_at n left right order p k) (stays_at n left right order p (suc k)) (contour_at p k) (contour_at p (suc k)) w heads (spot x y)
      p.triangulated (p.canonical.contour k (omega arith)) (p.canonical.contour (suc k) (omega arith)) (p.canonical.removal k l)
      (removal-stacked p.m p.h p.next p.previous 0 (stays_at n left right order p k) (stays_at n left right order p (suc k)) (contour_at p k) (contour_at p (suc k)) w heads p.triangulated (zero-below n left right order p)
      (p.canonical.contour k (omega arith)) (p.canonical.contour (suc k) (omega arith)) (p.canonical.removal k l) (one-gone n left right order p k l) (is-gone n left right order p k l) (p.canonical.present k l))
      (draws x y (pull x wide (keeps-inner x kept)) (keeps-before x kept) (λ v i. heights v i))
      (subst (λ (r : List ℕ). OverlooksAll (x w, y w) (map (spot x y) r)) (sym (cut n left right order p k l).stretch) seen)
      (omega (arith, ap y p.first, heights left (row-stays n left right order p (suc k) (omega arith) left (left-on n left right order p (suc k) (omega arith))), old.low_left, top, q.some))
    where
      heights : (v : ℕ) → stays_at n left right order p (suc k) v ≡ true → y v ≡ slice_index s.height v
      heights v i = same v (stays-before n left right order p k l v i) ∙ q.height_else v (stays-differs n left right order p k l v i)

      on-heights : (v : ℕ) → is_member v (a ∷ (inner ++ b ∷ [])) ≡ true → y v ≡ slice_index s.height v
      on-heights v i = heights v (row-stays n left right order p (suc k) (omega arith) v (heads-later n left right order p k l v (ap (is_member v) (cut n left right order p k l).stretch ∙ i)))

      here : y w ≡ slice_index t.height w
      here = same w (p.canonical.present k l)

      a-height : y a ≡ slice_index s.height a
      a-height = on-heights a (member-head a (inner ++ b ∷ []))

      b-height : y b ≡ slice_index s.height b
      b-height = on-heights b (member-tail b a (inner ++ b ∷ []) (member-append_right b inner (b ∷ []) (member-head b [])))

      top : y w ≡ y a + q.half
      top = omega (arith, here, a-height, q.top)

      peak : y w + q.half ≡ y b + q.width
      peak = omega (arith, here, b-height, q.peak)

      slopes : Successive (Sloped g y) (a ∷ (inner ++ b ∷ []))
      slopes = turn-map (Sloped g (slice_index s.height)) (Sloped g y) (a ∷ (inner ++ b ∷ [])) (λ u v i j r. sloped-heights u v (on-heights u i) (on-heights v j) r) (stretch-slopes n left right order p k l s old)
        where
          sloped-heights : (u v : ℕ) → y u ≡ slice_index s.height u → y v ≡ slice_index s.height v → Sloped g (slice_index s.height) u v → Sloped g y u v
          sloped-heights u v e f (inl r) = inl (omega (arith, e, f, r))
          sloped-heights u v e f (inr r) = inr (omega (arith, e, f, r))

      inners : Each (IsInner x y g off w a b q.half q.width top peak q.some q.more (on-left x wide) (on-right x wide)) inner
      inners = each-by (IsInner x y g off w a b q.half q.width top peak q.some q.more (on-left x wide) (on-right x wide)) inner (λ v i. (
        keeps-inner x kept v i,
        omega (arith, each-of (λ u. y u + 1 ≤ y a + off u) inner v (climbs g y off a 1 inner b slopes q.offsets) i),
        omega (arith, q.wide, each-of (λ u. y u + off u ≤ y b + (1 + total g (inner ++ b ∷ []))) inner v (descends g y off a 1 inner b slopes q.offsets) i),
      ))

      seen : OverlooksAll (x w, y w) (map (spot x y) (a ∷ (inner ++ b ∷ [])))
      seen = overlooks x y g off w a b q.half q.width top peak q.some q.more (on-left x wide) (on-right x wide) inner inners positives q.offsets slopes
