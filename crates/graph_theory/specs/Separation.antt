-- 2-separations of a graph, which of them cross, and which are good (Tutte 1966; Cunningham and Edmonds 1980). A side is a test
-- on edges, of which only the values at edges of the graph matter.
use Rattle.std.specs.Prelude.{◌≡◌, ◌≢◌, ℕ, ◌<◌, ◌≤◌, ◌⊎◌, Bool, true, not, ◌&&◌}
use Rattle.permutations.specs.Count.{count, some}
use Rattle.multigraph.specs.Graph.{Multigraph, edge_count}
use Rattle.graph_theory.specs.Side.{IsCommon}

-- the other side
abbrev pub other_side : (ℕ → Bool) → ℕ → Bool
other_side s e = not (s e)

-- a 2-separation: each of the two sides has at least two edges, and just two vertices have edges of both
pub record IsSeparation (g : Multigraph) (s : ℕ → Bool) : Type 0 where
  pub first : ℕ
  pub second : ℕ
  pub differ : first ≢ second
  pub first_common : IsCommon g s first
  pub second_common : IsCommon g s second
  pub no_other : (v : ℕ) → IsCommon g s v → (v ≡ first) ⊎ (v ≡ second)
  pub two_inside : 2 ≤ count (edge_count g) s
  pub two_outside : 2 ≤ count (edge_count g) (other_side s)

-- two divisions of the edges cross: each side of the one has an edge in common with each side of the other
pub record DoCross (g : Multigraph) (s t : ℕ → Bool) : Type 0 where
  pub both : some (edge_count g) (λ e. s e && t e) ≡ true
  pub first_alone : some (edge_count g) (λ e. s e && not (t e)) ≡ true
  pub second_alone : some (edge_count g) (λ e. not (s e) && t e) ≡ true
  pub neither : some (edge_count g) (λ e. not (s e) && not (t e)) ≡ true

-- a good 2-separation: one that crosses no other
pub record IsGood (g : Multigraph) (s : ℕ → Bool) : Type 0 where
  pub separation : IsSeparation g s
  pub uncrossed : (t : ℕ → Bool) → IsSeparation g t → DoCross g s t → ⊥

-- the two sides have the same edges of the graph
abbrev pub AreSameSide : Multigraph → (ℕ → Bool) → (ℕ → Bool) → Type 0
AreSameSide g s t = (e : ℕ) → e < edge_count g → s e ≡ t e
