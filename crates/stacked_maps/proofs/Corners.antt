-- Around the points of a stretch of a contour: the turns to a point that is stacked on it, between the neighbours on the contour.
use Rattle.std.proofs.Common.{◌≡◌, ℕ, ◌⊎◌, inl, inr, ◌<◌, ◌≤◌, true, List, [], ◌∷◌, ◌++◌, arith, refl, sym, ◌∙◌, subst, append_assoc}
use Rattle.std.proofs.lemmas.Bool.{cases_lt}
use Rattle.plane_points.specs.Turning.{turns_left, comes_before}
use Rattle.plane_points.proofs.Rising.{Each, Rises, each-map, each-append, each-first, rises-second, rises-across}
use Rattle.stacked_points.specs.Contours.{Successive, IsContour, stretch, contour_of, Overlooks, TwoTurnLeft}
use Rattle.stacked_points.proofs.Chains.{chain-map, chain-each, rises-chain, chain-second, chain-join, rises-short, Found, found-each, found-parts, found-second}
use Rattle.stacked_points.proofs.Stacking.{Across, Seen, whole, part, last}
use Rattle.stacked_points.proofs.Corners.{inner_turns, left_end_turns, right_end_turns, first_turns, last_turns, sides_differ, first_differ, last_differ}

-- seen from c, v comes between x and y, whose directions differ
abbrev pub IsCorner : ℕ × ℕ → ℕ × ℕ → ℕ × ℕ → ℕ × ℕ → Type 0
IsCorner c x v y = TwoTurnLeft c x v y × ((comes_before c x y ≡ true) ⊎ (comes_before c y x ≡ true))

-- the point that follows c is no farther to the right than any point to the right of c
right-within : (n : ℕ) (k : List (ℕ × ℕ)) (c x : ℕ × ℕ) (l : List (ℕ × ℕ)) → Rises Across (k ++ c ∷ x ∷ l) → Found (λ q. q.0 ≡ n) (k ++ c ∷ x ∷ l) → c.0 < n → x.0 ≤ n
right-within n k c x l r f i = go (found-parts P k (c ∷ x ∷ l) f)
  where
    P : ℕ × ℕ → Type 0
    P q = q.0 ≡ n

    go : Found P k ⊎ Found P (c ∷ x ∷ l) → x.0 ≤ n
    go (inl s) = absurd (found-each (λ q. q.0 < c.0) P ⊥ (λ q y z. omega (arith, y, z, i)) k (each-map (λ q. Each (Across q) (c ∷ x ∷ l)) (λ q. q.0 < c.0) (λ q y. y.0) k (rises-across Across k (c ∷ x ∷ l) r)) s)
    go (inr (inl e)) = absurd (omega (arith, e, i))
    go (inr (inr (inl e))) = omega (arith, e)
    go (inr (inr (inr s))) = found-each (Across x) P (x.0 ≤ n) (λ q y z. omega (arith, y, z)) l (rises-second Across k (c ∷ x ∷ l) r).1.0 s

left-within : (n : ℕ) (k : List (ℕ × ℕ)) (y c : ℕ × ℕ) (l : List (ℕ × ℕ)) → Rises Across (k ++ y ∷ c ∷ l) → Found (λ q. q.0 ≡ n) (k ++ y ∷ c ∷ l) → n < c.0 → n ≤ y.0
left-within n k y c l r f i = go (found-parts P k (y ∷ c ∷ l) f)
  where
    P : ℕ × ℕ → Type 0
    P q = q.0 ≡ n

    go : Found P k ⊎ Found P (y ∷ c ∷ l) → n ≤ y.0
    go (inl s) = found-each (λ q. q.0 < y.0) P (n ≤ y.0) (λ q a z. omega (arith, a, z)) k (each-map (λ q. Each (Across q) (y ∷ c ∷ l)) (λ q. q.0 < y.0) (λ q a. a.0) k (rises-across Across k (y ∷ c ∷ l) r)) s
    go (inr (inl e)) = omega (arith, e)
    go (inr (inr (inl e))) = absurd (omega (arith, e, i))
    go (inr (inr (inr s))) = absurd (found-each (Across c) P ⊥ (λ q a z. omega (arith, a, z, i)) l (rises-second Across k (y ∷ c ∷ l) r).1.0 s)

module _ (v a b : ℕ × ℕ) (before inner after : List (ℕ × ℕ)) (contour : IsContour (contour_of before a inner b after)) (o : Overlooks v a inner b) where
  abbrev points : List (ℕ × ℕ)
  points = contour_of before a inner b after

  rises : Rises Across points
  rises = whole v a b before inner after contour o

  has-a : Found (λ q. q.0 ≡ a.0) points
  has-a = found-second (λ q. q.0 ≡ a.0) before (a ∷ (inner ++ b ∷ after)) (inl refl)

  has-b : Found (λ q. q.0 ≡ b.0) points
  has-b = found-second (λ q. q.0 ≡ b.0) before (a ∷ (inner ++ b ∷ after)) (found-second (λ q. q.0 ≡ b.0) (a ∷ inner) (b ∷ after) (inl refl))

  -- v is over the edge where it is one of the stretch
  abbrev Within : ℕ × ℕ → ℕ × ℕ → Type 0
  Within p q = a.0 ≤ p.0 → q.0 ≤ b.0 → turns_left p q v ≡ true

  seen : Successive Within points
  seen = chain-join Within before a (inner ++ b ∷ after)
      (chain-map (λ p q. ((p.0 ≤ a.0) × (q.0 ≤ a.0)) × Across p q) Within (λ p q y i j. absurd (omega (arith, y.0.1, y.1, i))) (before ++ a ∷ [])
      (chain-each (λ q. q.0 ≤ a.0) Across (before ++ a ∷ [])
      (each-append (λ q. q.0 ≤ a.0) before (a ∷ []) (each-map (λ q. Each (Across q) (a ∷ (inner ++ b ∷ after))) (λ q. q.0 ≤ a.0) (λ q y. omega (arith, y.0)) before (rises-across Across before (a ∷ (inner ++ b ∷ after)) rises)) (omega arith, tt))
      (rises-chain Across (before ++ a ∷ []) (rises-short Across before a (inner ++ b ∷ after) rises))))
      (chain-join Within (a ∷ inner) b after
      (chain-map (Seen v) Within (λ p q y i j. y) (stretch a inner b) o.over)
      (chain-map (λ p q. ((b.0 ≤ p.0) × (b.0 ≤ q.0)) × Across p q) Within (λ p q y i j. absurd (omega (arith, y.0.0, y.1, j))) (b ∷ after)
      (chain-each (λ q. b.0 ≤ q.0) Across (b ∷ after) (omega arith, each-map (Across b) (λ q. b.0 ≤ q.0) (λ q y. omega (arith, y)) after (last v a b before inner after contour o).0)
      (rises-chain Across (b ∷ after) (last v a b before inner after contour o)))))

  -- the points of the stretch lie between its ends
  pub stretch-within : Each (λ q. (a.0 ≤ q.0) × (q.0 ≤ b.0)) (stretch a inner b)
  stretch-within = each-append (λ q. (a.0 ≤ q.0) × (q.0 ≤ b.0)) (a ∷ inner) (b ∷ [])
      ((omega arith, less), each-map (λ q. Across a q × Across q b) (λ q. (a.0 ≤ q.0) × (q.0 ≤ b.0)) (λ q y. (omega (arith, y.0), omega (arith, y.1))) inner (both inner right left))
      ((less, omega arith), tt)
    where
      less : a.0 ≤ b.0
      less = omega (arith, o.between.0, o.between.1)

      right : Each (Across a) inner
      right = each-first (Across a) inner (b ∷ []) (part v a b before inner after contour o).0

      left : Each (λ q. Across q b) inner
      left = each-map (λ q. Each (Across q) (b ∷ [])) (λ q. Across q b) (λ q y. y.0) inner (rises-across Across inner (b ∷ []) (part v a b before inner after contour o).1)

      both : (l : List (ℕ × ℕ)) → Each (Across a) l → Each (λ q. Across q b) l → Each (λ q. Across a q × Across q b) l
      both [] e f = tt
      both (x ∷ l) e f = ((e.0, f.0), both l e.1 f.1)

  -- the turns from c to the next point on the right, and from the point before it
  turn-right : (k : List (ℕ × ℕ)) (c x : ℕ × ℕ) (l : List (ℕ × ℕ)) → points ≡ k ++ c ∷ x ∷ l → a.0 ≤ c.0 → c.0 < b.0 → turns_left c x v ≡ true
  turn-right k c x l e i j = (chain-second Within k c (x ∷ l) (subst (Successive Within) e seen)).0 i
      (right-within b.0 k c x l (subst (Rises Across) e rises) (subst (Found (λ q. q.0 ≡ b.0)) e has-b) j)

  turn-left : (k : List (ℕ × ℕ)) (y c : ℕ × ℕ) (l : List (ℕ × ℕ)) → points ≡ k ++ y ∷ c ∷ l → a.0 < c.0 → c.0 ≤ b.0 → turns_left y c v ≡ true
  turn-left k y c l e i j = (chain-second Within k y (c ∷ l) (subst (Successive Within) e seen)).0
      (left-within a.0 k y c l (subst (Rises Across) e rises) (subst (Found (λ q. q.0 ≡ a.0)) e has-a) i) j

  -- at a point with neighbours on both sides
  pub corner-both : (k : List (ℕ × ℕ)) (y c x : ℕ × ℕ) (l : List (ℕ × ℕ)) → points ≡ k ++ y ∷ c ∷ x ∷ l → a.0 ≤ c.0 → c.0 ≤ b.0 → IsCorner c x v y
  corner-both k y c x l e i j = (turns (cases_lt a.0 c.0) (cases_lt c.0 b.0), sides_differ c x y left right)
    where
      order : Rises Across (y ∷ c ∷ x ∷ l)
      order = rises-second Across k (y ∷ c ∷ x ∷ l) (subst (Rises Across) e rises)

      left : y.0 < c.0
      left = order.0.0

      right : c.0 < x.0
      right = order.1.0.0

      split : points ≡ (k ++ y ∷ []) ++ c ∷ x ∷ l
      split = e ∙ sym (append_assoc k (y ∷ []) (c ∷ x ∷ l))

      turns : (a.0 < c.0) ⊎ (c.0 ≤ a.0) → (c.0 < b.0) ⊎ (b.0 ≤ c.0) → TwoTurnLeft c x v y
      turns (inr g) q = left_end_turns c x v y left right (omega (arith, g, o.between.0)) (turn-right (k ++ y ∷ []) c x l split i (omega (arith, g, o.between.0, o.between.1)))
      turns (inl g) (inr q) = right_end_turns c x v y left right (omega (arith, q, o.between.1)) (turn-left k y c (x ∷ l) e g j)
      turns (inl g) (inl q) = inner_turns c x v y (turn-right (k ++ y ∷ []) c x l split i q) (turn-left k y c (x ∷ l) e g j)

  -- at the first point of the contour
  pub corner-first : (c x y : ℕ × ℕ) (l : List (ℕ × ℕ)) → points ≡ c ∷ x ∷ l → a.0 ≤ c.0 → y.1 ≡ c.1 → c.0 < y.0 → c.1 < x.1 → IsCorner c x v y
  corner-first c x y l e i level right up = (first_turns c x v y level right up (turn-right [] c x l e i (below (subst (Found (λ q. q.0 ≡ a.0)) e has-a))), inr (first_differ c x y level right up))
    where
      below : Found (λ q. q.0 ≡ a.0) (c ∷ x ∷ l) → c.0 < b.0
      below (inl s) = omega (arith, s, o.between.0, o.between.1)
      below (inr s) = found-each (Across c) (λ q. q.0 ≡ a.0) (c.0 < b.0) (λ q y z. omega (arith, y, z, o.between.0, o.between.1)) (x ∷ l) (subst (Rises Across) e rises).0 s

  -- at the last one
  pub corner-last : (k : List (ℕ × ℕ)) (y c x : ℕ × ℕ) → points ≡ k ++ y ∷ c ∷ [] → c.0 ≤ b.0 → x.1 ≡ c.1 → x.0 < c.0 → c.1 < y.1 → IsCorner c x v y
  corner-last k y c x e j level left up = (last_turns c x v y level left up (turn-left k y c [] e (above (found-parts P (k ++ y ∷ []) (c ∷ []) (subst (Found P) split has-b))) j), inr (last_differ c x y level left up))
    where
      P : ℕ × ℕ → Type 0
      P q = q.0 ≡ b.0

      split : points ≡ (k ++ y ∷ []) ++ c ∷ []
      split = e ∙ sym (append_assoc k (y ∷ []) (c ∷ []))

      above : Found P (k ++ y ∷ []) ⊎ Found P (c ∷ []) → a.0 < c.0
      above (inl s) = found-each (λ q. q.0 < c.0) P (a.0 < c.0) (λ q y z. omega (arith, y, z, o.between.0, o.between.1)) (k ++ y ∷ [])
          (each-map (λ q. Each (Across q) (c ∷ [])) (λ q. q.0 < c.0) (λ q y. y.0) (k ++ y ∷ []) (rises-across Across (k ++ y ∷ []) (c ∷ []) (subst (Rises Across) split rises))) s
      above (inr (inl s)) = omega (arith, s, o.between.0, o.between.1)
      above (inr (inr s)) = absurd s
