-- Numbers along a stretch of the contour: heights with slopes 1 and -1, sums of gaps, offsets.
use Rattle.std.proofs.Common.{◌≡◌, ◌≢◌, ◌⊎◌, inl, inr, ℕ, ◌+◌, ◌*◌, ◌-◌, ◌<◌, ◌≤◌, true, List, [], ◌∷◌, ◌++◌, arith, refl, sym, ap, ap₂, ◌∙◌, subst}
use Rattle.std.proofs.lemmas.Bool.{both_ways, cases_eq, false≢true}
use Rattle.permutations.specs.Members.{is_member, is_distinct}
use Rattle.permutations.specs.Cyclic.{last_or}
use Rattle.permutations.proofs.Members.{member-head, member-tail, member-cases, distinct-head, distinct-tail}
use Rattle.canonical_orders.proofs.Lists.{last-cons}
use Rattle.plane_points.proofs.Rising.{Each, each-map}
use Rattle.canonical_orders.specs.Contours.{Successive}
use Rattle.shift_method.specs.Shapes.{total}

-- from u to v on the contour, the height changes as much as x, by the gap of v
abbrev pub Sloped : (ℕ → ℕ) → (ℕ → ℕ) → ℕ → ℕ → Type 0
Sloped g y u v = (y v ≡ y u + g v) ⊎ (y u ≡ y v + g v)

-- at the positions x, v is to the right of u by its gap or more
abbrev pub Wide : (ℕ → ℕ) → (ℕ → ℕ) → ℕ → ℕ → Type 0
Wide g x u v = (x u + g v ≤ x v) × (x u < x v)

-- the offsets are the sums of the gaps, from c on
abbrev pub Offsets : (ℕ → ℕ) → (ℕ → ℕ) → ℕ → List ℕ → Type 0
Offsets g off c [] = Unit {0}
Offsets g off c (v ∷ l) = (off v ≡ c + g v) × Offsets g off (c + g v) l

-- heights p and q, whose difference is t at most, and even with it
abbrev pub Reaches : ℕ → ℕ → ℕ → Type 0
Reaches p q t = (q ≤ p + t) × (p ≤ q + t) × ((z : ℕ) × (q + p + t ≡ 2 * z))

-- lists that share a member
pub succ-first : (R : ℕ → ℕ → Type 0) (f : List ℕ) (x : ℕ) (g : List ℕ) → Successive R (f ++ x ∷ g) → Successive R (f ++ x ∷ [])
succ-first R [] x g c = tt
succ-first R (a ∷ []) x g c = (c.0, tt)
succ-first R (a ∷ b ∷ f) x g c = (c.0, succ-first R (b ∷ f) x g c.1)

pub succ-second : (R : ℕ → ℕ → Type 0) (f : List ℕ) (x : ℕ) (g : List ℕ) → Successive R (f ++ x ∷ g) → Successive R (x ∷ g)
succ-second R [] x g c = c
succ-second R (a ∷ []) x g c = c.1
succ-second R (a ∷ b ∷ f) x g c = succ-second R (b ∷ f) x g c.1

pub succ-join : (R : ℕ → ℕ → Type 0) (f : List ℕ) (x : ℕ) (g : List ℕ) → Successive R (f ++ x ∷ []) → Successive R (x ∷ g) → Successive R (f ++ x ∷ g)
succ-join R [] x g c d = d
succ-join R (a ∷ []) x g c d = (c.0, d)
succ-join R (a ∷ b ∷ f) x g c d = (c.0, succ-join R (b ∷ f) x g c.1 d)

-- the second of two members comes after the first one of the list
pub succ-after : (R S : ℕ → ℕ → Type 0) (a : ℕ) (l : List ℕ) → ((x y : ℕ) → is_member x (a ∷ l) ≡ true → is_member y l ≡ true → R x y → S x y) → Successive R (a ∷ l) → Successive S (a ∷ l)
succ-after R S a [] f c = tt
succ-after R S a (b ∷ l) f c = (f a b (member-head a (b ∷ l)) (member-head b l) c.0, succ-after R S b l (λ x y i j r. f x y (member-tail x a (b ∷ l) i) (member-tail y b l j) r) c.1)

-- what holds of each member
pub each-by : (P : ℕ → Type 0) (l : List ℕ) → ((v : ℕ) → is_member v l ≡ true → P v) → Each P l
each-by P [] f = tt
each-by P (a ∷ l) f = (f a (member-head a l), each-by P l (λ v i. f v (member-tail v a l i)))

pub each-of : (P : ℕ → Type 0) (l : List ℕ) (v : ℕ) → Each P l → is_member v l ≡ true → P v
each-of P [] v e i = absurd (false≢true i)
each-of P (a ∷ l) v e i = elim (member-cases v a l i) [ inl q ↦ subst P q e.0 | inr j ↦ each-of P l v e.1 j ]

-- sums of the same gaps
pub total-same : (g h : ℕ → ℕ) (l : List ℕ) → ((v : ℕ) → is_member v l ≡ true → g v ≡ h v) → total g l ≡ total h l
total-same g h [] f = refl
total-same g h (v ∷ l) f = ap₂ (λ (a b : ℕ). a + b) (f v (member-head v l)) (total-same g h l (λ u i. f u (member-tail u v l i)))

-- one gap is one more
pub total-more : (g h : ℕ → ℕ) (a : ℕ) (l : List ℕ) → is_distinct l ≡ true → is_member a l ≡ true → h a ≡ g a + 1 → ((v : ℕ) → v ≢ a → h v ≡ g v) → total h l ≡ total g l + 1
total-more g h a [] d i e f = absurd (false≢true i)
total-more g h a (v ∷ l) d i e f = elim (cases_eq v a) [
  | inl q ↦ omega (arith, e, ap h q, ap g q, total-same h g l (λ u j. f u (λ k. both_ways (is_member v l) (distinct-head v l d) (subst (λ (z : ℕ). is_member z l ≡ true) (k ∙ sym q) j))))
  | inr n ↦ elim (member-cases a v l i) [ inl q ↦ absurd (n q) | inr j ↦ omega (arith, f v n, total-more g h a l (distinct-tail v l d) j e f) ]
]

-- the same gaps, and the first ones
pub offsets-same : (g h off : ℕ → ℕ) (c d : ℕ) (l : List ℕ) → c ≡ d → ((v : ℕ) → is_member v l ≡ true → g v ≡ h v) → Offsets g off c l → Offsets h off d l
offsets-same g h off c d [] e f o = tt
offsets-same g h off c d (v ∷ l) e f o =
    (o.0 ∙ ap₂ (λ (a b : ℕ). a + b) e (f v (member-head v l)), offsets-same g h off (c + g v) (d + h v) l (ap₂ (λ (a b : ℕ). a + b) e (f v (member-head v l))) (λ u i. f u (member-tail u v l i)) o.1)

pub offsets-first : (g off : ℕ → ℕ) (c : ℕ) (a b : List ℕ) → Offsets g off c (a ++ b) → Offsets g off c a
offsets-first g off c [] b o = tt
offsets-first g off c (v ∷ a) b o = (o.0, offsets-first g off (c + g v) a b o.1)

pub total-append : (g : ℕ → ℕ) (a b : List ℕ) → total g (a ++ b) ≡ total g a + total g b
total-append g [] b = omega arith
total-append g (v ∷ a) b = omega (arith, total-append g a b)

slope-reaches : (g y : ℕ → ℕ) (u v : ℕ) → Sloped g y u v → Reaches (y u) (y v) (g v)
slope-reaches g y u v (inl e) = (omega (arith, e), omega (arith, e), (y u + g v, omega (arith, e)))
slope-reaches g y u v (inr e) = (omega (arith, e), omega (arith, e), (y u, omega (arith, e)))

reaches-on : (p q r s t : ℕ) → Reaches p q s → Reaches q r t → Reaches p r (s + t)
reaches-on p q r s t a b = (omega (arith, a.0, b.0), omega (arith, a.1, b.1), ((a.2.0 + b.2.0) - q, omega (arith, a.2.1, b.2.1)))

-- from the first vertex of a stretch to its last
pub ends-reach : (g y : ℕ → ℕ) (a : ℕ) (l : List ℕ) (r : ℕ) → Successive (Sloped g y) (a ∷ (l ++ r ∷ [])) → Reaches (y a) (y r) (total g (l ++ r ∷ []))
ends-reach g y a [] r c = subst (Reaches (y a) (y r)) (omega arith) (slope-reaches g y a r c.0)
ends-reach g y a (b ∷ l) r c = reaches-on (y a) (y b) (y r) (g b) (total g (l ++ r ∷ [])) (slope-reaches g y a b c.0) (ends-reach g y b l r c.1)

-- the heights along a stretch grow no faster than the offsets
pub climbs : (g y off : ℕ → ℕ) (a c : ℕ) (l : List ℕ) (r : ℕ) → Successive (Sloped g y) (a ∷ (l ++ r ∷ [])) → Offsets g off c l → Each (λ u. y u + c ≤ y a + off u) l
climbs g y off a c [] r s o = tt
climbs g y off a c (u ∷ l) r s o = let k : Reaches (y a) (y u) (g u) = slope-reaches g y a u s.0 in
    (omega (arith, k.0, o.0), each-map (λ v. y v + (c + g u) ≤ y u + off v) (λ v. y v + c ≤ y a + off v) (λ v i. omega (arith, i, k.0)) l (climbs g y off u (c + g u) l r s.1 o.1))

pub descends : (g y off : ℕ → ℕ) (a c : ℕ) (l : List ℕ) (r : ℕ) → Successive (Sloped g y) (a ∷ (l ++ r ∷ [])) → Offsets g off c l → Each (λ u. y u + off u ≤ y r + (c + total g (l ++ r ∷ []))) l
descends g y off a c [] r s o = tt
descends g y off a c (u ∷ l) r s o = let k : Reaches (y u) (y r) (total g (l ++ r ∷ [])) = ends-reach g y u l r s.1 in
    (omega (arith, k.1, o.0), each-map (λ v. y v + off v ≤ y r + ((c + g u) + total g (l ++ r ∷ []))) (λ v. y v + off v ≤ y r + (c + (g u + total g (l ++ r ∷ [])))) (λ v i. omega (arith, i)) l (descends g y off u (c + g u) l r s.1 o.1))

-- positions before w was placed at p, from those after it: h is the distance from the left end of the stretch to w, d its width
pull-inner : (g off x : ℕ → ℕ) (p h d a c : ℕ) (l : List ℕ) (r : ℕ) → x a + h ≡ p + c → Each (λ v. 0 < g v) l → Each (λ v. x v + h ≡ p + off v) l → Offsets g off c l
    → p + d ≤ x r + h → d ≡ c + total g (l ++ r ∷ []) + 1 → Successive (Wide g x) (a ∷ (l ++ r ∷ []))
pull-inner g off x p h d a c [] r e n k o b t = ((omega (arith, e, b, t), omega (arith, e, b, t)), tt)
pull-inner g off x p h d a c (u ∷ l) r e n k o b t =
    ((omega (arith, e, k.0, o.0), omega (arith, e, k.0, o.0, n.0)), pull-inner g off x p h d u (c + g u) l r (omega (arith, k.0, o.0)) n.1 k.1 o.1 b (omega (arith, t)))

pub pull-back : (g off x : ℕ → ℕ) (p h d a : ℕ) (l : List ℕ) (r : ℕ) → x a + h ≤ p → Each (λ v. 0 < g v) l → Each (λ v. x v + h ≡ p + off v) l → Offsets g off 1 l
    → p + d ≤ x r + h → d ≡ total g (l ++ r ∷ []) + 2 → Successive (Wide g x) (a ∷ (l ++ r ∷ []))
pull-back g off x p h d a [] r e n k o b t = ((omega (arith, e, b, t), omega (arith, e, b, t)), tt)
pull-back g off x p h d a (u ∷ l) r e n k o b t =
    ((omega (arith, e, k.0, o.0), omega (arith, e, k.0, o.0, n.0)), pull-inner g off x p h d u (1 + g u) l r (omega (arith, k.0, o.0)) n.1 k.1 o.1 b (omega (arith, t)))

-- the height of the left end of a row is 0, so no height is more than the gaps up to it
pub height-left : (g y : ℕ → ℕ) (f : List ℕ) (x : ℕ) (r : List ℕ) (z : ℕ) (e : List ℕ) → f ++ x ∷ r ≡ z ∷ e → y z ≡ 0 → Successive (Sloped g y) (f ++ x ∷ r) → y x ≤ total g (f ++ x ∷ [])
height-left g y [] x r z e q h c = let k : x ≡ z = cc in omega (arith, ap y k, h)
height-left g y (a ∷ f) x r z e q h c = let k : a ≡ z = cc in
    omega (arith, ap y k, h, (ends-reach g y a f x (succ-first (Sloped g y) (a ∷ f) x r c)).0)

-- nor more than those after it, since that of the right end is 0
pub height-right : (g y : ℕ → ℕ) (x : ℕ) (l : List ℕ) → y (last_or x l) ≡ 0 → Successive (Sloped g y) (x ∷ l) → y x ≤ total g l
height-right g y x [] h c = omega (arith, h)
height-right g y x (b ∷ l) h c = omega (arith, (slope-reaches g y x b c.0).1, height-right g y b l (ap y (sym (last-cons x b l)) ∙ h) c.1)
