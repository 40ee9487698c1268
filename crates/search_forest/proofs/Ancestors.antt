-- Chains of parents among the visited vertices, and that they stay when something else is written.
use Rattle.std.proofs.Common.{◌≡◌, ℕ, zero, suc, ◌+◌, ◌<◌, ◌≤◌, Bool, true, List, length, get_or, refl, ap, ◌∙◌, arith}
use Rattle.permutations.specs.Permutation.{iterate}
use Rattle.multigraph.specs.Graph.{Multigraph}
use Rattle.multigraph.specs.Marks.{is_marked}
use Rattle.search_forest.specs.Forest.{IsOnPath, IsGrown}

-- steps to the parent stay among the visited vertices, and each goes up by one
pub chain : (g : Multigraph) (visited : List Bool) (parent depth parent_edge : List ℕ) (seen : List Bool) (lower : List ℕ) → IsGrown g visited parent depth parent_edge seen lower → (i v : ℕ) → is_marked visited v ≡ true → i ≤ get_or depth v 0 → (is_marked visited (iterate (λ k. get_or parent k 0) i v) ≡ true) × (get_or depth (iterate (λ k. get_or parent k 0) i v) 0 + i ≡ get_or depth v 0)
chain g visited parent depth parent_edge seen lower t zero v h l = (h, omega arith)
chain g visited parent depth parent_edge seen lower t (suc i) v h l =
    let r = chain g visited parent depth parent_edge seen lower t i v h (omega arith) in
    let p : 0 < get_or depth (iterate (λ k. get_or parent k 0) i v) 0 = omega (arith, r.1) in
    (t.parent_visited (iterate (λ k. get_or parent k 0) i v) r.0 p, omega (arith, r.1, t.parent_depth (iterate (λ k. get_or parent k 0) i v) r.0 p))

-- where the parents of the visited vertices stay, so do their ancestors
pub iterate-kept : (g : Multigraph) (visited : List Bool) (parent depth parent_edge : List ℕ) (seen : List Bool) (lower : List ℕ) → IsGrown g visited parent depth parent_edge seen lower → (parent' : List ℕ) → ((u : ℕ) → is_marked visited u ≡ true → get_or parent' u 0 ≡ get_or parent u 0) → (i v : ℕ) → is_marked visited v ≡ true → i ≤ get_or depth v 0 → iterate (λ k. get_or parent' k 0) i v ≡ iterate (λ k. get_or parent k 0) i v
iterate-kept g visited parent depth parent_edge seen lower t parent' same zero v h l = refl
iterate-kept g visited parent depth parent_edge seen lower t parent' same (suc i) v h l =
    ap (λ (k : ℕ). get_or parent' k 0) (iterate-kept g visited parent depth parent_edge seen lower t parent' same i v h (omega arith)) ∙
    same (iterate (λ k. get_or parent k 0) i v) (chain g visited parent depth parent_edge seen lower t i v h (omega arith)).0

-- the vertex i steps up from place j + i of the path stands at place j
pub path-up : (g : Multigraph) (visited : List Bool) (parent depth path : List ℕ) → IsOnPath g visited parent depth path → (i j : ℕ) → j + i < length path → iterate (λ k. get_or parent k 0) i (get_or path (j + i) 0) ≡ get_or path j 0
path-up g visited parent depth path p zero j l = ap (λ (k : ℕ). get_or path k 0) (omega arith)
path-up g visited parent depth path p (suc i) j l =
    let e : get_or path (j + suc i) 0 ≡ get_or path ((j + 1) + i) 0 = ap (λ (k : ℕ). get_or path k 0) (omega arith) in
    ap (λ (k : ℕ). get_or parent (iterate (λ q. get_or parent q 0) i k) 0) e ∙
    (ap (λ (k : ℕ). get_or parent k 0) (path-up g visited parent depth path p i (j + 1) (omega arith)) ∙ p.from_parent j (omega arith))
