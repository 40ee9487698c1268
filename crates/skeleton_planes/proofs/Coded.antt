-- Darts of many maps under one numbering.
use Rattle.std.proofs.Common.{◌≡◌, ℕ, zero, suc, ◌+◌, ◌*◌, ◌/◌, ◌%◌, ◌<◌, inl, inr, sym, ap, ◌∙◌, arith}
use Rattle.std.proofs.lemmas.Nat.{div-mul-add, mod-mul-add, mul-add-lt, row-Below, mod_below, div-add-mod'}
use Rattle.dart_maps.specs.Map.{twin}
use Rattle.dart_maps.proofs.Darts.{twin-edge, twin-cases}
use Rattle.skeleton_planes.proofs.Numbering.{coded, part_of, local_of}

-- the half and the parity of a code
half : (p z : ℕ) → (2 * (p + z / 2) + z % 2) / 2 ≡ p + z / 2
half p z = omega arith

-- the parity
parity : (p z : ℕ) → (2 * (p + z / 2) + z % 2) % 2 ≡ z % 2
parity p z = omega arith

-- a number from its half and its parity
whole : (z : ℕ) → 2 * (z / 2) + z % 2 ≡ z
whole z = omega arith

-- half a dart is an edge
half-below : (w z : ℕ) → z < 2 * w → z / 2 < w
half-below w z l = omega arith

-- the map of a code
pub part-coded : (w k z : ℕ) → z < 2 * w → part_of w (coded w k z) ≡ k
part-coded w k z l = ap (λ e. e / w) (half (k * w) z) ∙ div-mul-add k w (z / 2) (half-below w z l)

-- the edge of a code in that map
pub place-coded : (w k z : ℕ) → z < 2 * w → (coded w k z / 2) % w ≡ z / 2
place-coded w k z l = ap (λ e. e % w) (half (k * w) z) ∙ mod-mul-add k w (z / 2) (half-below w z l)

-- and its dart
pub local-coded : (w k z : ℕ) → z < 2 * w → local_of w (coded w k z) ≡ z
local-coded w k z l = let e : (coded w k z / 2) % w ≡ z / 2 = place-coded w k z l in let p : coded w k z % 2 ≡ z % 2 = parity (k * w) z in omega (arith, e, p)

-- the code of a dart's map and number is the dart
pub coded-local : (w x : ℕ) → coded w (part_of w x) (local_of w x) ≡ x
coded-local w x =
    let h : (2 * ((x / 2) % w) + x % 2) / 2 ≡ (x / 2) % w = omega arith in
    let p : (2 * ((x / 2) % w) + x % 2) % 2 ≡ x % 2 = omega arith in
    ap (λ e. 2 * ((x / 2) / w * w + e) + (2 * ((x / 2) % w) + x % 2) % 2) h ∙ ap (λ e. 2 * ((x / 2) / w * w + (x / 2) % w) + e) p ∙ ap (λ e. 2 * e + x % 2) (div-add-mod' (x / 2) w) ∙ whole x

-- codes are darts
pub coded-below : (w n k z : ℕ) → k < n → z < 2 * w → coded w k z < 2 * (w * n)
coded-below w n k z l b = twice (k * w) (w * n) z (mul-add-lt k w (z / 2) n l (half-below w z b))
  where
    twice : (p q z : ℕ) → p + z / 2 < q → 2 * (p + z / 2) + z % 2 < 2 * q
    twice p q z l = omega arith

-- a dart belongs to one of the maps
pub part-below : (w n x : ℕ) → x < 2 * (w * n) → part_of w x < n
part-below w n x l = (row-Below (x / 2) w w n (half-below (w * n) x l) (omega arith)).1

-- and is one of its darts
pub local-below : (w x : ℕ) → 0 < w → local_of w x < 2 * w
local-below w x l = twice w x (mod_below (x / 2) w l)
  where
    twice : (w x : ℕ) → (x / 2) % w < w → 2 * ((x / 2) % w) + x % 2 < 2 * w
    twice w x l = pick ((x / 2) % w) (x % 2) w l (omega arith)
      where
        pick : (a b w : ℕ) → a < w → b < 2 → 2 * a + b < 2 * w
        pick a b w l k = omega arith

-- where there is a dart, there is room for an edge
pub some-width : (w n x : ℕ) → x < 2 * (w * n) → 0 < w
some-width zero n x l = absurd (none n l)
  where
    none : (n : ℕ) → x < 2 * (0 * n) → ⊥
    none n l = let e : 0 * n ≡ 0 = omega arith in omega (arith, e)
some-width (suc w) n x l = omega arith

-- twins belong to one map
pub part-twin : (w x : ℕ) → part_of w (twin x) ≡ part_of w x
part-twin w x = ap (λ e. e / w) (twin-edge x)

-- the other parity
twin-parity : (x : ℕ) → twin x % 2 + x % 2 ≡ 1
twin-parity x = elim (twin-cases x) [ inl a ↦ omega (arith, a.0, a.1) | inr a ↦ omega (arith, a.0, a.1) ]

-- a number with the same half and the other parity is the twin
pub twin-from : (x y : ℕ) → y / 2 ≡ x / 2 → y % 2 + x % 2 ≡ 1 → y ≡ twin x
twin-from x y h p = let a : twin x / 2 ≡ x / 2 = twin-edge x in let b : twin x % 2 + x % 2 ≡ 1 = twin-parity x in omega (arith, h, p, a, b)

-- and are twins there
pub local-twin : (w x : ℕ) → local_of w (twin x) ≡ twin (local_of w x)
local-twin w x = twin-from (local_of w x) (local_of w (twin x))
    (let e : (twin x / 2) % w ≡ (x / 2) % w = ap (λ e. e % w) (twin-edge x) in first ((twin x / 2) % w) ((x / 2) % w) (twin x) x e)
    (second ((twin x / 2) % w) ((x / 2) % w) (twin x) x (twin-parity x))
  where
    first : (a b y x : ℕ) → a ≡ b → (2 * a + y % 2) / 2 ≡ (2 * b + x % 2) / 2
    first a b y x e = omega arith

    second : (a b y x : ℕ) → y % 2 + x % 2 ≡ 1 → (2 * a + y % 2) % 2 + (2 * b + x % 2) % 2 ≡ 1
    second a b y x e = omega arith

-- the code of a twin is the twin of the code
pub coded-twin : (w k z : ℕ) → coded w k (twin z) ≡ twin (coded w k z)
coded-twin w k z = twin-from (coded w k z) (coded w k (twin z))
    (half (k * w) (twin z) ∙ ap (λ e. k * w + e) (twin-edge z) ∙ sym (half (k * w) z))
    (sums (coded w k (twin z) % 2) (coded w k z % 2) (twin z % 2) (z % 2) (parity (k * w) (twin z)) (parity (k * w) z) (twin-parity z))
  where
    sums : (a b c d : ℕ) → a ≡ c → b ≡ d → c + d ≡ 1 → a + b ≡ 1
    sums a b c d i j h = omega arith
