-- Bridges of two small maps.
use Rattle.std.proofs.Common.{ℕ, ◌==◌, cond, refl, sym, ◌∙◌, arith}
use Rattle.std.proofs.lemmas.Bool.{true≢false}
use Rattle.dart_maps.specs.Map.{twin}
use Rattle.skeleton_planes.specs.Bridges.{IsNoBridge}

-- a single edge is a bridge
single_bridge : IsNoBridge 1 (λ x. x) 0 → ⊥
unfolding twin
single_bridge n = true≢false (n (λ z. z == 0) (λ x l. refl) (λ x l i j. absurd (omega (arith, l, i, j))))

-- two edges between the same two vertices: each dart is followed by that of the other edge
pair : ℕ → ℕ
pair x = cond (x == 0) 2 (cond (x == 2) 0 (cond (x == 1) 3 (cond (x == 3) 1 x)))

-- neither of them is a bridge
pair_none : IsNoBridge 2 pair 0
unfolding twin pair
pair_none a next across = sym (next 0 (omega arith)) ∙ sym (across 2 (omega arith) (λ e. omega (arith, e)) (λ e. omega (arith, e))) ∙ sym (next 3 (omega arith))
