-- Contracting edges of a wheel of four spokes, computed.
use Rattle.std.proofs.Common.{◌≡◌, true, false, [], ◌∷◌, refl}
use Rattle.multigraph.specs.Graph.{Multigraph}
use Rattle.contractions.specs.Contraction.{is_contractible, is_connected_without, is_common_neighbour, common_count, is_private}
use Rattle.contractions.specs.Contracted.{kept_edges, contracted}

-- the rim 0, 1, 2, 3, and the hub 4
abbrev wheel : Multigraph
wheel = record { vertex_count = 5; ends = (0, 1) ∷ (1, 2) ∷ (2, 3) ∷ (3, 0) ∷ (4, 0) ∷ (4, 1) ∷ (4, 2) ∷ (4, 3) ∷ [] }

-- an edge of the rim may be contracted
rim : is_contractible wheel 0 1 ≡ true
unfolding is_contractible is_connected_without
rim = refl

-- a spoke may not: without the hub and two opposite vertices of the rim the other two have no edge
spoke : is_contractible wheel 4 0 ≡ false
unfolding is_contractible is_connected_without
spoke = refl

-- the hub is the one common neighbour of 0 and 1, and edge 1 is private to 1
hub : is_common_neighbour wheel 0 1 4 ≡ true
hub = refl

one_common : common_count wheel 0 1 ≡ 1
one_common = refl

private : is_private wheel 0 0 1 1 ≡ true
private = refl

not_private : is_private wheel 0 0 1 5 ≡ false
not_private = refl

-- of the two spokes that become parallel the one at 0 stays; what is left is the complete graph on four vertices
kept : kept_edges wheel 0 0 1 ≡ 1 ∷ 2 ∷ 3 ∷ 4 ∷ 6 ∷ 7 ∷ []
kept = refl

left : contracted wheel 0 0 1 ≡ record { vertex_count = 4; ends = (0, 1) ∷ (1, 2) ∷ (2, 0) ∷ (3, 0) ∷ (3, 1) ∷ (3, 2) ∷ [] }
left = refl
