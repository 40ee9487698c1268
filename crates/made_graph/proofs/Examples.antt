-- The first draws and the first turns, computed.
use Rattle.std.proofs.Common.{◌≡◌, ◌∷◌, [], refl}
use Rattle.made_graph.specs.Made.{drawn, edge_drawn, operation_drawn, made, tetrahedron}

-- the first draw from 1 picks edge 4
first-draw : drawn 1 ≡ 7806831264735756412
first-draw = refl

first-edge : edge_drawn 7806831264735756412 6 ≡ 4
first-edge = refl

-- the second draw picks a path
second-draw : drawn 7806831264735756412 ≡ 9396908728118811419
second-draw = refl

second-operation : operation_drawn 9396908728118811419 ≡ 2
second-operation = refl

-- with six edges no turn is made, with seven one
no-turn : made 6 1 ≡ tetrahedron
no-turn = refl

one-turn : made 7 1 ≡ record { vertex_count = 5; ends = (0, 1) ∷ (0, 2) ∷ (0, 3) ∷ (1, 2) ∷ (1, 3) ∷ (2, 3) ∷ (1, 4) ∷ (4, 3) ∷ [] }
one-turn = refl
