-- The definitions on a rotation system of the complete graph on four vertices.
use Rattle.std.proofs.Common.{◌≡◌, ℕ, List, [], ◌∷◌, refl}
use Rattle.permutations.specs.Cyclic.{successor, predecessor}
use Rattle.multigraph.specs.Graph.{Multigraph}
use Rattle.multigraph.specs.Build.{multigraph_of}
use Rattle.rotations.specs.Entries.{list_at}
use Rattle.rotations.specs.Given.{given_order}
use Rattle.rotations.specs.Rings.{dart_at}
use Rattle.permutations.specs.Ring.{turns}

abbrev k4 : Multigraph
k4 = multigraph_of 4 ((0, 1) ∷ (0, 2) ∷ (0, 3) ∷ (1, 2) ∷ (1, 3) ∷ (2, 3) ∷ [])

abbrev given : List (ℕ × List ℕ)
given = (0, 0 ∷ 1 ∷ 2 ∷ []) ∷ (1, 4 ∷ 3 ∷ 0 ∷ []) ∷ (2, 5 ∷ 1 ∷ 3 ∷ []) ∷ (3, 2 ∷ 5 ∷ 4 ∷ []) ∷ []

given-list : list_at given 2 ≡ 5 ∷ 1 ∷ 3 ∷ []
given-list = refl

given-no_list : list_at given 4 ≡ []
given-no_list = refl

given-order_1 : given_order k4 given 1 ≡ 0 ∷ 4 ∷ 3 ∷ []
given-order_1 = refl

given-order_3 : given_order k4 given 3 ≡ 2 ∷ 5 ∷ 4 ∷ []
given-order_3 = refl

given-successor : successor (given_order k4 given 1) 3 ≡ 0
given-successor = refl

given-predecessor : predecessor (given_order k4 given 1) 4 ≡ 0
given-predecessor = refl

-- the vertices that the darts leave
abbrev tails : List ℕ
tails = 0 ∷ 1 ∷ 0 ∷ 2 ∷ 0 ∷ 3 ∷ 1 ∷ 2 ∷ 1 ∷ 3 ∷ 2 ∷ 3 ∷ []

-- the darts round vertex 1 linked: 1 to 8, 8 to 6, 6 to 1
abbrev next : List ℕ
next = 0 ∷ 8 ∷ 0 ∷ 0 ∷ 0 ∷ 0 ∷ 1 ∷ 0 ∷ 6 ∷ 0 ∷ 0 ∷ 0 ∷ []

darts-first : dart_at tails 1 4 ≡ 8
darts-first = refl

darts-second : dart_at tails 1 0 ≡ 1
darts-second = refl

round-order : turns next 1 3 ≡ 0 ∷ 4 ∷ 3 ∷ []
round-order = refl
