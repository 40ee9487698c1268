-- A simple map has at most as many darts as there are pairs of vertices.
use Rattle.std.proofs.Common.{◌≡◌, ℕ, ◌+◌, ◌*◌, ◌<◌, ◌≤◌, inl, inr, true, refl, ap, arith}
use Rattle.std.proofs.lemmas.Bool.{cases_order}
use Rattle.std.proofs.lemmas.Nat.{mul-le}
use Rattle.permutations.specs.Count.{count}
use Rattle.permutations.proofs.Count.{count-all, count-within}
use Rattle.permutations.proofs.Injection.{count-injection}
use Rattle.dart_maps.specs.Map.{twin}
use Rattle.dart_maps.proofs.Darts.{twin-below}
use Rattle.multigraph.specs.Graph.{Multigraph}
use Rattle.faces.specs.Euler.{tail}
use Rattle.triangulations.specs.Triangulation.{IsSimpleMap}

-- two pairs of numbers below n with one place in the table of pairs are one pair
pair-one : (n a b c d : ℕ) → a < n → b < n → c < n → d < n → a * n + b ≡ c * n + d → (a ≡ c) × (b ≡ d)
pair-one n a b c d la lb lc ld e = elim (cases_order a c) [
  | inl i ↦ (i, omega (arith, e, ap (λ z. z * n) i))
  | inr w ↦ elim w [
    | inl l ↦ let p : (a + 1) * n ≤ c * n = mul-le (a + 1) n c n (omega (arith, l)) (omega arith) in absurd (omega (arith, e, p, lb))
    | inr l ↦ let p : (c + 1) * n ≤ a * n = mul-le (c + 1) n a n (omega (arith, l)) (omega arith) in absurd (omega (arith, e, p, ld))
  ]
]

pair-below : (n a b : ℕ) → a < n → b < n → a * n + b < n * n
pair-below n a b la lb = let p : (a + 1) * n ≤ n * n = mul-le (a + 1) n n n (omega (arith, la)) (omega arith) in omega (arith, p, lb)

pub darts-bounded : (m : ℕ) (h : Multigraph) (next previous : ℕ → ℕ) → IsSimpleMap m h next previous → 2 * m ≤ h.vertex_count * h.vertex_count
darts-bounded m h next previous s =
    let n : ℕ = h.vertex_count in
    let inside : (d : ℕ) → d < 2 * m → tail h d < n = s.drawn.inside in
    let le : count (2 * m) (λ x. true) ≤ count (n * n) (λ x. true) = count-injection (2 * m) (n * n) (λ x. true) (λ x. true) (λ d. tail h d * n + tail h (twin d))
    (λ d l t. pair-below n (tail h d) (tail h (twin d)) (inside d l) (inside (twin d) (twin-below m d l)))
    (λ d l t. refl)
    (λ c d l k t u e. let w = pair-one n (tail h c) (tail h (twin c)) (tail h d) (tail h (twin d)) (inside c l) (inside (twin c) (twin-below m c l)) (inside d k) (inside (twin d) (twin-below m d k)) e in s.simple c d l k w.0 w.1) in
    omega (arith, le, count-all (2 * m) (λ x. true) (λ x l. refl), count-within (n * n) (λ x. true))
