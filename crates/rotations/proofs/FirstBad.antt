-- There is at most one least bad number.
use Rattle.std.proofs.Common.{◌≡◌, ℕ, List, inl, inr, arith}
use Rattle.std.proofs.lemmas.Bool.{cases_order}
use Rattle.multigraph.specs.Graph.{Multigraph}
use Rattle.rotations.specs.Given.{AreArranged, IsFirstBad}

pub bad-one : (g : Multigraph) (entries : List (ℕ × List ℕ)) (v w : ℕ) → IsFirstBad g entries v → IsFirstBad g entries w → v ≡ w
bad-one g entries v w p q = elim (cases_order v w) [
  | inl same ↦ same
  | inr apart ↦ elim apart [
    | inl less ↦ absurd (q.none_before v less p.bad)
    | inr more ↦ absurd (p.none_before w more q.bad)
  ]
]

-- none where the lists arrange the edges of each vertex
pub bad-none : (g : Multigraph) (entries : List (ℕ × List ℕ)) (v : ℕ) → AreArranged g entries → IsFirstBad g entries v → ⊥
bad-none g entries v a p = elim p.bad [
  | inl vertex ↦ vertex.1 (a.arranged v vertex.0)
  | inr stranger ↦ omega (arith, a.vertices v stranger.1)
]
