-- A point stacked on a contour: what is over the old contour, and under the new one.
use Rattle.std.proofs.Common.{append-nil, ◌≡◌, ℕ, ◌⊎◌, inl, inr, ◌<◌, ◌≤◌, ◌+◌, ◌*◌, true, false, List, [], ◌∷◌, ◌++◌, arith, refl, sym, ◌∙◌, ap, ap₂, subst}
use Rattle.std.proofs.lemmas.Bool.{cases_lt, false≢true}
use Rattle.plane_points.specs.Turning.{turns_left}
use Rattle.plane_points.specs.Segments.{weighted, times, same_way}
use Rattle.plane_points.proofs.Turns.{Left, left-true, true-left, left-false, left-around}
use Rattle.plane_points.proofs.Directions.{Comes, lower-turns}
use Rattle.plane_points.proofs.Cyclic.{counter-to}
use Rattle.plane_points.proofs.Rising.{Each, Rises, each-map, rises-map, rises-pairs, pairs-rises, each-append, each-second, rises-second, rises-across}
use Rattle.stacked_points.specs.Contours.{Successive, IsContour, IsBetween, is_over, IsUnder, IsSegmentUnder, stretch, contour_of, Overlooks}
use Rattle.stacked_points.specs.Laws.{FanTurns, FanIsApart, FanGoesAround, NewIsOver, NewMeetsOld, NewMeetsSegments, NewIsNotUnder}
use Rattle.stacked_points.proofs.Chains.{chain-map, chain-both, chain-each, rises-chain, chain-first, chain-second, chain-join, all-each, each-all, each-cut, each-both, rises-short}
use Rattle.stacked_points.proofs.Overs.{mul-both, After, Before, new-right, new-left, old-right, old-left}

-- from left to right
abbrev pub Across : ℕ × ℕ → ℕ × ℕ → Type 0
Across a b = a.0 < b.0

-- v is over the edge
abbrev pub Seen : ℕ × ℕ → ℕ × ℕ → ℕ × ℕ → Type 0
Seen v a b = turns_left a b v ≡ true

-- from a by b on to those after b
through : (v a b : ℕ × ℕ) (l : List (ℕ × ℕ)) → a.1 < v.1 → b.1 < v.1 → Left v a b → Each (λ c. c.1 < v.1) l → Each (Left v b) l → Each (Left v a) l
through v a b [] h i t e f = tt
through v a b (c ∷ l) h i t e f = (lower-turns v a b c (inl h) (inl i) (inl e.0) t f.0, through v a b l h i t e.1 f.1)

-- the points below v with v over each edge: each two a turn to the left
fan : (v : ℕ × ℕ) (l : List (ℕ × ℕ)) → Each (λ a. a.1 < v.1) l → Successive (Seen v) l → Rises (Left v) l
fan v [] e c = tt
fan v (a ∷ []) e c = (tt, tt)
fan v (a ∷ b ∷ l) e c = let rest : Rises (Left v) (b ∷ l) = fan v (b ∷ l) e.1 c.1 in
    let turn : Left v a b = left-around b v a (left-around a b v (left-true a b v c.0)) in ((turn, through v a b l e.0 e.1.0 turn e.1.1 rest.0), rest)

pub fan_turns : FanTurns
fan_turns v l below c = rises-pairs (λ a b. turns_left v a b ≡ true) l (rises-map (Left v) (λ a b. turns_left v a b ≡ true) (λ a b h. true-left v a b h) l (fan v l (all-each (λ a. a.1 < v.1) l below) c))

pub fan_is_apart : FanIsApart
fan_is_apart v l below c = rises-pairs (λ a b. same_way v a b ≡ false) l (rises-map (Left v) (λ a b. same_way v a b ≡ false) (λ a b h. rw (true-left v a b h)) l (fan v l (all-each (λ a. a.1 < v.1) l below) c))

-- below v, a turn to the left is a step on
comes-below : (v : ℕ × ℕ) (l : List (ℕ × ℕ)) → Each (λ a. a.1 < v.1) l → Rises (Left v) l → Rises (Comes v) l
comes-below v [] e r = tt
comes-below v (a ∷ l) e r = (each-map (λ b. (b.1 < v.1) × Left v a b) (Comes v a) (λ b y. inr (inr (inl e.0, inl y.0), y.1)) l (each-both (λ b. b.1 < v.1) (Left v a) l e.1 r.0), comes-below v l e.1 r.1)

pub fan_goes_around : FanGoesAround
fan_goes_around v l below c = let e : Each (λ a. a.1 < v.1) l = all-each (λ a. a.1 < v.1) l below in counter-to v l (l, [], sym (append-nil l), comes-below v l e (fan v l e c))

-- the points of a list to the right of one of them, and to its left
after-each : (v : ℕ × ℕ) (f : List (ℕ × ℕ)) (w : ℕ × ℕ) (g : List (ℕ × ℕ)) → Rises Across (f ++ w ∷ g) → Rises (Left v) (f ++ w ∷ g) → Each (After v w) (w ∷ g)
after-each v f w g r t = (inl refl, each-map (λ c. (w.0 < c.0) × Left v w c) (After v w) (λ c y. inr y) g (each-both (Across w) (Left v w) g (rises-second Across f (w ∷ g) r).0 (rises-second (Left v) f (w ∷ g) t).0))

before-each : (v : ℕ × ℕ) (f : List (ℕ × ℕ)) (w : ℕ × ℕ) (g : List (ℕ × ℕ)) → Rises Across (f ++ w ∷ g) → Rises (Left v) (f ++ w ∷ g) → Each (Before v w) (f ++ w ∷ [])
before-each v f w g r t = each-append (Before v w) f (w ∷ []) (each-map (λ c. (c.0 < w.0) × Left v c w) (Before v w) (λ c y. inr y) f (each-both (λ c. c.0 < w.0) (λ c. Left v c w) f
    (each-map (λ c. Each (Across c) (w ∷ g)) (λ c. c.0 < w.0) (λ c y. y.0) f (rises-across Across f (w ∷ g) r))
    (each-map (λ c. Each (Left v c) (w ∷ g)) (λ c. Left v c w) (λ c y. y.0) f (rises-across (Left v) f (w ∷ g) t)))) (inl refl, tt)

-- a point of the segment from v to w is over the edges to both sides of w
overs : (v : ℕ × ℕ) (f : List (ℕ × ℕ)) (w : ℕ × ℕ) (g : List (ℕ × ℕ)) (s t : ℕ) → 0 < s → Rises Across (f ++ w ∷ g) → Rises (Left v) (f ++ w ∷ g) → Successive (Seen v) (f ++ w ∷ g)
    → Successive (λ c d. IsBetween (s + t) c d (weighted s v t w) → is_over (s + t) c d (weighted s v t w) ≡ true) (f ++ w ∷ g)
overs v f w g s t p r u c = chain-join Over f w g
    (chain-map (λ a b. (Before v w a × Before v w b) × Edge a b) Over (λ a b y m. true-left (times (s + t) a) (times (s + t) b) (weighted s v t w) (new-left v w a b s t p y.0.1 y.1.1 (left-true a b v y.1.0) m)) (f ++ w ∷ []) (chain-each (Before v w) Edge (f ++ w ∷ []) (before-each v f w g r u) (chain-first Edge f w g edges)))
    (chain-map (λ a b. (After v w a × After v w b) × Edge a b) Over (λ a b y m. true-left (times (s + t) a) (times (s + t) b) (weighted s v t w) (new-right v w a b s t p y.0.0 y.1.1 (left-true a b v y.1.0) m)) (w ∷ g) (chain-each (After v w) Edge (w ∷ g) (after-each v f w g r u) (chain-second Edge f w g edges)))
  where
    Over : ℕ × ℕ → ℕ × ℕ → Type 0
    Over a b = IsBetween (s + t) a b (weighted s v t w) → is_over (s + t) a b (weighted s v t w) ≡ true

    Edge : ℕ × ℕ → ℕ × ℕ → Type 0
    Edge a b = Seen v a b × Across a b

    edges : Successive Edge (f ++ w ∷ g)
    edges = chain-both (Seen v) Across (f ++ w ∷ g) c (rises-chain Across (f ++ w ∷ g) r)

-- what lies between the ends of a stretch lies between the ends of one of its edges
no-span : (k : ℕ) (q a : ℕ × ℕ) (inner : List (ℕ × ℕ)) (b : ℕ × ℕ) → Successive (λ c d. IsBetween k c d q → ⊥) (stretch a inner b) → k * a.0 ≤ q.0 → q.0 ≤ k * b.0 → ⊥
no-span k q a [] b c h i = c.0 (h, i)
no-span k q a (x ∷ inner) b c h i = elim (cases_lt (k * x.0) q.0) [
  | inl l ↦ no-span k q x inner b c.1 (omega (arith, l)) i
  | inr l ↦ c.0 (h, l)
]

module _ (v a b : ℕ × ℕ) (inner : List (ℕ × ℕ)) (rises : Rises Across (stretch a inner b)) (o : Overlooks v a inner b) where
  turns : Rises (Left v) (stretch a inner b)
  turns = fan v (stretch a inner b) (all-each (λ c. c.1 < v.1) (stretch a inner b) o.above) o.over

  edges : Successive (λ c d. Seen v c d × Across c d) (stretch a inner b)
  edges = chain-both (Seen v) Across (stretch a inner b) o.over (rises-chain Across (stretch a inner b) rises)

  pub after-first : Each (After v a) (stretch a inner b)
  after-first = after-each v [] a (inner ++ b ∷ []) rises turns

  pub before-last : Each (Before v b) (stretch a inner b)
  before-last = before-each v (a ∷ inner) b [] rises turns

  over-cut : (f : List (ℕ × ℕ)) (w : ℕ × ℕ) (g : List (ℕ × ℕ)) → f ++ w ∷ g ≡ stretch a inner b → (s t : ℕ) → 0 < s
      → Successive (λ c d. IsBetween (s + t) c d (weighted s v t w) → is_over (s + t) c d (weighted s v t w) ≡ true) (stretch a inner b)
  over-cut f w g e s t p = subst (Successive (λ c d. IsBetween (s + t) c d (weighted s v t w) → is_over (s + t) c d (weighted s v t w) ≡ true)) e
      (overs v f w g s t p (subst (Rises Across) (sym e) rises) (subst (Rises (Left v)) (sym e) turns) (subst (Successive (Seen v)) (sym e) o.over))

  -- a member of the stretch
  pub pick : (P : ℕ × ℕ → Type 0) (f : List (ℕ × ℕ)) (w : ℕ × ℕ) (g : List (ℕ × ℕ)) → f ++ w ∷ g ≡ stretch a inner b → Each P (stretch a inner b) → P w
  pick P f w g e s = (each-second P f (w ∷ g) (subst (Each P) (sym e) s)).0

  pub from-first : (w : ℕ × ℕ) → After v a w → (a ≡ w) ⊎ (a.0 < w.0)
  from-first w (inl e) = inl e
  from-first w (inr y) = inr y.0

  pub from-last : (w : ℕ × ℕ) → Before v b w → (b ≡ w) ⊎ (w.0 < b.0)
  from-last w (inl e) = inl e
  from-last w (inr y) = inr y.0

  pub low-end : (w : ℕ × ℕ) (s t : ℕ) → (a ≡ w) ⊎ (a.0 < w.0) → (s + t) * a.0 ≤ s * v.0 + t * w.0
  low-end w s t (inl e) = omega (arith, mul-both s a.0 v.0 (omega (arith, o.between.0)), ap (λ (c : ℕ × ℕ). t * c.0) e)
  low-end w s t (inr y) = omega (arith, mul-both s a.0 v.0 (omega (arith, o.between.0)), mul-both t a.0 w.0 (omega (arith, y)))

  pub high-end : (w : ℕ × ℕ) (s t : ℕ) → (b ≡ w) ⊎ (w.0 < b.0) → s * v.0 + t * w.0 ≤ (s + t) * b.0
  high-end w s t (inl e) = omega (arith, mul-both s v.0 b.0 (omega (arith, o.between.1)), ap (λ (c : ℕ × ℕ). t * c.0) e)
  high-end w s t (inr y) = omega (arith, mul-both s v.0 b.0 (omega (arith, o.between.1)), mul-both t w.0 b.0 (omega (arith, y)))

  -- what is under the stretch and on the segment to w is w
  meets : (f : List (ℕ × ℕ)) (w : ℕ × ℕ) (g : List (ℕ × ℕ)) → f ++ w ∷ g ≡ stretch a inner b → (s t : ℕ) → Successive (λ c d. IsBetween (s + t) c d (weighted s v t w) → is_over (s + t) c d (weighted s v t w) ≡ false) (stretch a inner b)
      → weighted s v t w ≡ times (s + t) w
  meets f w g e s t under = elim (cases_lt 0 s) [
    | inl p ↦ absurd (no-span (s + t) (weighted s v t w) a inner b
        (chain-map (λ c d. (IsBetween (s + t) c d (weighted s v t w) → is_over (s + t) c d (weighted s v t w) ≡ false) × (IsBetween (s + t) c d (weighted s v t w) → is_over (s + t) c d (weighted s v t w) ≡ true))
        (λ c d. IsBetween (s + t) c d (weighted s v t w) → ⊥) (λ c d y m. false≢true (sym (y.0 m) ∙ y.1 m)) (stretch a inner b)
        (chain-both (λ c d. IsBetween (s + t) c d (weighted s v t w) → is_over (s + t) c d (weighted s v t w) ≡ false) (λ c d. IsBetween (s + t) c d (weighted s v t w) → is_over (s + t) c d (weighted s v t w) ≡ true) (stretch a inner b) under (over-cut f w g e s t p)))
        (low-end w s t (from-first w (pick (After v a) f w g e after-first))) (high-end w s t (from-last w (pick (Before v b) f w g e before-last))))
    | inr z ↦ let n : s ≡ 0 = omega (arith, z) in
        ap₂ (λ (x y : ℕ). (x, y)) (omega (arith, ap (λ (i : ℕ). i * v.0) n, ap (λ (i : ℕ). i * w.0) n)) (omega (arith, ap (λ (i : ℕ). i * v.1) n, ap (λ (i : ℕ). i * w.1) n))
  ]

  -- what is under the stretch is not over the new edges
  pub under-first : (k : ℕ) (q : ℕ × ℕ) → 0 < k → Successive (λ c d. IsBetween k c d q → is_over k c d q ≡ false) (stretch a inner b) → IsBetween k a v q → is_over k a v q ≡ false
  under-first k q p under m = left-false (times k a) (times k v) q (λ l. no-span k q a inner b
      (chain-map (λ c d. ((After v a c × After v a d) × (Seen v c d × Across c d)) × (IsBetween k c d q → is_over k c d q ≡ false)) (λ c d. IsBetween k c d q → ⊥)
      (λ c d y n. false≢true (sym (y.1 n) ∙ true-left (times k c) (times k d) q (old-right v a c d k q p o.between.0 m.1 l y.0.0.0 y.0.1.1 (left-true c d v y.0.1.0) n))) (stretch a inner b)
      (chain-both (λ c d. (After v a c × After v a d) × (Seen v c d × Across c d)) (λ c d. IsBetween k c d q → is_over k c d q ≡ false) (stretch a inner b) (chain-each (After v a) (λ c d. Seen v c d × Across c d) (stretch a inner b) after-first edges) under))
      m.0 (omega (arith, m.1, mul-both k v.0 b.0 (omega (arith, o.between.1)))))

  pub under-second : (k : ℕ) (q : ℕ × ℕ) → 0 < k → Successive (λ c d. IsBetween k c d q → is_over k c d q ≡ false) (stretch a inner b) → IsBetween k v b q → is_over k v b q ≡ false
  under-second k q p under m = left-false (times k v) (times k b) q (λ l. no-span k q a inner b
      (chain-map (λ c d. ((Before v b c × Before v b d) × (Seen v c d × Across c d)) × (IsBetween k c d q → is_over k c d q ≡ false)) (λ c d. IsBetween k c d q → ⊥)
      (λ c d y n. false≢true (sym (y.1 n) ∙ true-left (times k c) (times k d) q (old-left v b c d k q p o.between.1 m.0 l y.0.0.1 y.0.1.1 (left-true c d v y.0.1.0) n))) (stretch a inner b)
      (chain-both (λ c d. (Before v b c × Before v b d) × (Seen v c d × Across c d)) (λ c d. IsBetween k c d q → is_over k c d q ≡ false) (stretch a inner b) (chain-each (Before v b) (λ c d. Seen v c d × Across c d) (stretch a inner b) before-last edges) under))
      (omega (arith, m.0, mul-both k a.0 v.0 (omega (arith, o.between.0)))) m.1)

pub new_is_over : NewIsOver
new_is_over v a b inner contour o = each-all (λ w. (s t : ℕ) → 0 < s → Successive (λ c d. IsBetween (s + t) c d (weighted s v t w) → is_over (s + t) c d (weighted s v t w) ≡ true) (stretch a inner b)) (stretch a inner b)
    (each-cut (λ w. (s t : ℕ) → 0 < s → Successive (λ c d. IsBetween (s + t) c d (weighted s v t w) → is_over (s + t) c d (weighted s v t w) ≡ true) (stretch a inner b)) (stretch a inner b)
    (λ f w g e. over-cut v a b inner (pairs-rises Across (stretch a inner b) contour) o f w g e))

module _ (v a b : ℕ × ℕ) (before inner after : List (ℕ × ℕ)) (contour : IsContour (contour_of before a inner b after)) (o : Overlooks v a inner b) where
  pub whole : Rises Across (contour_of before a inner b after)
  whole = pairs-rises Across (contour_of before a inner b after) contour

  pub second : Rises Across (a ∷ (inner ++ b ∷ after))
  second = rises-second Across before (a ∷ (inner ++ b ∷ after)) whole

  pub part : Rises Across (stretch a inner b)
  part = rises-short Across (a ∷ inner) b after second

  pub last : Rises Across (b ∷ after)
  last = rises-second Across (a ∷ inner) (b ∷ after) second

  pub chain-part : (R : ℕ × ℕ → ℕ × ℕ → Type 0) → Successive R (contour_of before a inner b after) → Successive R (stretch a inner b)
  chain-part R c = chain-first R (a ∷ inner) b after (chain-second R before a (inner ++ b ∷ after) c)

  met : (f : List (ℕ × ℕ)) (w : ℕ × ℕ) (g : List (ℕ × ℕ)) → f ++ w ∷ g ≡ stretch a inner b → (s t : ℕ) → IsUnder (contour_of before a inner b after) (s + t) (weighted s v t w) → weighted s v t w ≡ times (s + t) w
  met f w g e s t u = meets v a b inner part o f w g e s t (chain-part (λ c d. IsBetween (s + t) c d (weighted s v t w) → is_over (s + t) c d (weighted s v t w) ≡ false) u.under)

pub new_meets_old : NewMeetsOld
new_meets_old v a b before inner after contour o = each-all (λ w. (s t : ℕ) → 0 < s + t → IsUnder (contour_of before a inner b after) (s + t) (weighted s v t w) → weighted s v t w ≡ times (s + t) w) (stretch a inner b)
    (each-cut (λ w. (s t : ℕ) → 0 < s + t → IsUnder (contour_of before a inner b after) (s + t) (weighted s v t w) → weighted s v t w ≡ times (s + t) w) (stretch a inner b)
    (λ f w g e s t n u. met v a b before inner after contour o f w g e s t u))

pub new_is_not_under : NewIsNotUnder
new_is_not_under v a b before inner after contour o k p u = omega (arith, ap (λ (z : ℕ × ℕ). z.1) same, mul-both k (a.1 + 1) v.1 (omega (arith, o.above 0 a (omega arith))), p)
  where
    alike : times k v ≡ weighted k v 0 a
    alike = ap₂ (λ (x y : ℕ). (x, y)) (omega arith) (omega arith)

    more : k ≡ k + 0
    more = omega arith

    same : weighted k v 0 a ≡ times (k + 0) a
    same = met v a b before inner after contour o [] a (inner ++ b ∷ []) refl k 0 (subst (λ (n : ℕ). IsUnder (contour_of before a inner b after) n (weighted k v 0 a)) more (subst (IsUnder (contour_of before a inner b after) k) alike u))

pub new_meets_segments : NewMeetsSegments
new_meets_segments v a b before inner after contour o = each-all Meets (stretch a inner b) (each-cut Meets (stretch a inner b)
    (λ f w g e c d under s t m n p i j. met v a b before inner after contour o f w g e s t
    (subst (λ (k : ℕ). IsUnder (contour_of before a inner b after) k (weighted s v t w)) (sym i) (subst (IsUnder (contour_of before a inner b after) (m + n)) (sym j) (under m n (omega (arith, p, i)))))))
  where
    Meets : ℕ × ℕ → Type 0
    Meets w = (c d : ℕ × ℕ) → IsSegmentUnder (contour_of before a inner b after) c d → (s t m n : ℕ) → 0 < s + t → s + t ≡ m + n → weighted s v t w ≡ weighted m c n d → weighted s v t w ≡ times (s + t) w
