-- The new vertex overlooks its heads, at all positions with these gaps and offsets.
use Rattle.std.proofs.Common.{◌≡◌, inl, inr, ℕ, ◌+◌, ◌*◌, ◌-◌, ◌<◌, ◌≤◌, true, List, [], ◌∷◌, ◌++◌, map, arith, sym, ap, subst}
use Rattle.std.proofs.lemmas.Nat.{mul-le}
use Rattle.std.proofs.lemmas.List.{map-append}
use Rattle.plane_points.specs.Turning.{turns_left}
use Rattle.plane_points.proofs.Turns.{true-left}
use Rattle.plane_points.proofs.Rising.{Each, each-map, each-append}
use Rattle.stacked_points.specs.Contours as points
use Rattle.stacked_points.proofs.Chains.{each-all}
use Rattle.stacked_maps.specs.Drawn.{OverlooksAll}
use Rattle.canonical_orders.specs.Contours.{Successive}
use Rattle.shift_method.proofs.Stretches.{Sloped, Offsets}

-- v is R above a and Q above b; twice the area of the triangle is (v.0 - a.0) * Q + R * (b.0 - v.0)
seen : (a b v : ℕ × ℕ) (R Q : ℕ) → v.1 ≡ a.1 + R → v.1 ≡ b.1 + Q → v.0 * R + a.0 * Q < b.0 * R + v.0 * Q → turns_left a b v ≡ true
seen a b v R Q e f k = true-left a b v
    (omega (arith, k, ap (λ (n : ℕ). a.0 * n) f, ap (λ (n : ℕ). b.0 * n) e, ap (λ (n : ℕ). v.0 * n) e, ap (λ (n : ℕ). v.0 * n) f))

-- the four kinds of edges: x and z are the positions of their ends, p that of the new vertex; h and k are its distances to the ends of the stretch
both-ends : (x z p h k : ℕ) → 0 < h → 0 < k → x + h ≤ p → p + k ≤ z → p * h + x * k < z * h + p * k
both-ends x z p h k i j e f = omega (arith, mul-le (x + h) k p k e (omega arith), mul-le (p + k) h z h f (omega arith), mul-le 1 1 h k i j)

left-end : (x z p h q c : ℕ) → 0 < h → x + h ≤ p → z + h ≡ p + c → h + 1 ≤ q + c → p * h + x * q < z * h + p * q
left-end x z p h q c i e f j = omega (arith, mul-le (x + h) q p q e (omega arith), ap (λ (n : ℕ). n * h) f, mul-le (h + 1) h (q + c) h j (omega arith))

right-end : (x z p h k r c : ℕ) → 0 < k → x + h ≡ p + c → p + k ≤ z → c + 1 ≤ h + r → p * r + x * k < z * r + p * k
right-end x z p h k r c i e f j = omega (arith, ap (λ (n : ℕ). n * k) e, mul-le (p + k) r z r f (omega arith), mul-le (c + 1) k (h + r) k j (omega arith))

up : (x z p h q s c : ℕ) → 0 < s → x + h ≡ p + c → z ≡ x + s → h + 1 ≤ c + (q + s) → p * (q + s) + x * q < z * (q + s) + p * q
up x z p h q s c i e f j = let k : p + 1 ≤ x + (q + s) = omega (arith, e, j) in omega (arith, ap (λ (n : ℕ). n * (q + s)) f, mul-le (p + 1) s (x + (q + s)) s k (omega arith))

down : (x z p h r s c : ℕ) → 0 < s → x + h ≡ p + c → z ≡ x + s → c + 1 ≤ r + h → p * r + x * (r + s) < z * r + p * (r + s)
down x z p h r s c i e f j = let k : x + 1 ≤ r + p = omega (arith, e, j) in omega (arith, ap (λ (n : ℕ). n * r) f, mul-le (x + 1) s (r + p) s k (omega arith))

-- the point of a vertex
abbrev pub spot : (ℕ → ℕ) → (ℕ → ℕ) → ℕ → ℕ × ℕ
spot x y v = (x v, y v)

-- the same relation of points and of the vertices at them
pub successive-points : (R : ℕ × ℕ → ℕ × ℕ → Type 0) (f : ℕ → ℕ × ℕ) (l : List ℕ) → Successive (λ u v. R (f u) (f v)) l → points.Successive R (map f l)
successive-points R f [] s = tt
successive-points R f (a ∷ []) s = tt
successive-points R f (a ∷ b ∷ l) s = (s.0, successive-points R f (b ∷ l) s.1)

each-points : (P : ℕ × ℕ → Type 0) (f : ℕ → ℕ × ℕ) (l : List ℕ) → Each (λ u. P (f u)) l → Each P (map f l)
each-points P f [] e = tt
each-points P f (a ∷ l) e = (e.0, each-points P f l e.1)

module _ (x y g off : ℕ → ℕ) (w left right h d : ℕ) (top : y w ≡ y left + h) (peak : y w + h ≡ y right + d) (some : 0 < h) (more : h < d)
    (on_left : x left + h ≤ x w) (on_right : x w + d ≤ x right + h) where
  -- an inner head, by its position, and its height as seen from both ends
  abbrev pub IsInner : ℕ → Type 0
  IsInner u = (x u + h ≡ x w + off u) × (y u + 1 ≤ y left + off u) × (y u + off u + 1 ≤ y right + d)

  from-left : (u : ℕ) → IsInner u → turns_left (x left, y left) (x u, y u) (x w, y w) ≡ true
  from-left u i = let q : y w ≡ y u + (y w - y u) = omega (arith, i.1, i.2) in
      seen (x left, y left) (x u, y u) (x w, y w) h (y w - y u) top q (left-end (x left) (x u) (x w) h (y w - y u) (off u) some on_left i.0 (omega (arith, i.1, i.2)))

  to-right : (u : ℕ) → IsInner u → turns_left (x u, y u) (x right, y right) (x w, y w) ≡ true
  to-right u i = let q : y w ≡ y u + (y w - y u) = omega (arith, i.1, i.2) in
      seen (x u, y u) (x right, y right) (x w, y w) (y w - y u) (d - h) q (omega arith) (right-end (x u) (x right) (x w) h (d - h) (y w - y u) (off u) (omega arith) i.0 (omega arith) (omega (arith, i.1, i.2)))

  between : (u v : ℕ) → IsInner u → IsInner v → 0 < g v → off v ≡ off u + g v → Sloped g y u v → turns_left (x u, y u) (x v, y v) (x w, y w) ≡ true
  between u v i j n o (inl e) = let q : y w ≡ y v + (y w - y v) = omega (arith, j.1, j.2) in
      seen (x u, y u) (x v, y v) (x w, y w) ((y w - y v) + g v) (y w - y v) (omega (arith, q, e)) q
      (up (x u) (x v) (x w) h (y w - y v) (g v) (off u) n i.0 (omega (arith, i.0, j.0, o)) (omega (arith, i.1, e, q)))
  between u v i j n o (inr e) = let q : y w ≡ y u + (y w - y u) = omega (arith, i.1, i.2) in
      seen (x u, y u) (x v, y v) (x w, y w) (y w - y u) ((y w - y u) + g v) q (omega (arith, q, e))
      (down (x u) (x v) (x w) h (y w - y u) (g v) (off u) n i.0 (omega (arith, i.0, j.0, o)) (omega (arith, i.2, q)))

  sees-inner : (u : ℕ) (l : List ℕ) → IsInner u → Each IsInner l → Each (λ v. 0 < g v) l → Offsets g off (off u) l → Successive (Sloped g y) (u ∷ (l ++ right ∷ []))
      → Successive (λ a b. turns_left (x a, y a) (x b, y b) (x w, y w) ≡ true) (u ∷ (l ++ right ∷ []))
  sees-inner u [] i e n o s = (to-right u i, tt)
  sees-inner u (v ∷ l) i e n o s = (between u v i e.0 n.0 o.0 s.0, sees-inner v l e.0 e.1 n.1 (subst (λ (c : ℕ). Offsets g off c l) (sym o.0) o.1) s.1)

  sees : (l : List ℕ) → Each IsInner l → Each (λ v. 0 < g v) l → Offsets g off 1 l → Successive (Sloped g y) (left ∷ (l ++ right ∷ []))
      → Successive (λ a b. turns_left (x a, y a) (x b, y b) (x w, y w) ≡ true) (left ∷ (l ++ right ∷ []))
  sees [] e n o s = (seen (x left, y left) (x right, y right) (x w, y w) h (d - h) top (omega arith) (both-ends (x left) (x right) (x w) h (d - h) some (omega arith) on_left (omega arith)), tt)
  sees (v ∷ l) e n o s = (from-left v e.0, sees-inner v l e.0 e.1 n.1 (subst (λ (c : ℕ). Offsets g off c l) (sym o.0) o.1) s.1)

  pub overlooks : (l : List ℕ) → Each IsInner l → Each (λ v. 0 < g v) l → Offsets g off 1 l → Successive (Sloped g y) (left ∷ (l ++ right ∷ []))
      → OverlooksAll (x w, y w) (map (spot x y) (left ∷ (l ++ right ∷ [])))
  overlooks l e n o s = record {
    first = (x left, y left);
    inner = map (spot x y) l;
    last = (x right, y right);
    stretch = ap (λ (t : List (ℕ × ℕ)). (x left, y left) ∷ t) split;
    overlooks = record {
      between = (omega arith, omega arith);
      above = each-all (λ c. c.1 < y w) ((x left, y left) ∷ (map (spot x y) l ++ (x right, y right) ∷ []))
          (omega arith, subst (Each (λ c. c.1 < y w)) split (each-points (λ c. c.1 < y w) (spot x y) (l ++ right ∷ []) (each-append (λ v. y v < y w) l (right ∷ []) (each-map IsInner (λ v. y v < y w) (λ v i. omega (arith, i.1, i.2)) l e) (omega arith, tt))));
      over = subst (λ (t : List (ℕ × ℕ)). points.Successive (λ a b. turns_left a b (x w, y w) ≡ true) ((x left, y left) ∷ t)) split
          (successive-points (λ a b. turns_left a b (x w, y w) ≡ true) (spot x y) (left ∷ (l ++ right ∷ [])) (sees l e n o s));
    };
  }
    where
      split : map (spot x y) (l ++ right ∷ []) ≡ map (spot x y) l ++ (x right, y right) ∷ []
      split = map-append (spot x y) l (right ∷ [])
