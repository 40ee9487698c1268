-- The definitions on the complete graph on four vertices, and on three parallel edges.
use Rattle.std.proofs.Common.{◌≡◌, false, [], ◌∷◌, refl}
use Rattle.multigraph.specs.Graph.{Multigraph, edge_count, is_end, incident_edges, other_end}
use Rattle.multigraph.specs.Build.{multigraph_of}

abbrev k4 : Multigraph
k4 = multigraph_of 4 ((0, 1) ∷ (0, 2) ∷ (0, 3) ∷ (1, 2) ∷ (1, 3) ∷ (2, 3) ∷ [])

abbrev bundle : Multigraph
bundle = multigraph_of 3 ((0, 1) ∷ (1, 0) ∷ (0, 1) ∷ [])

k4-edges : edge_count k4 ≡ 6
k4-edges = refl

k4-at_0 : incident_edges k4 0 ≡ 0 ∷ 1 ∷ 2 ∷ []
k4-at_0 = refl

k4-at_2 : incident_edges k4 2 ≡ 1 ∷ 3 ∷ 5 ∷ []
k4-at_2 = refl

k4-other_end : other_end k4 4 3 ≡ 1
k4-other_end = refl

k4-no_end : is_end k4 0 4 ≡ false
k4-no_end = refl

bundle-at_1 : incident_edges bundle 1 ≡ 0 ∷ 1 ∷ 2 ∷ []
bundle-at_1 = refl

bundle-isolated : incident_edges bundle 2 ≡ []
bundle-isolated = refl

bundle-other_end : other_end bundle 1 1 ≡ 0
bundle-other_end = refl
