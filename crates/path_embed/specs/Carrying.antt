-- The edges of a part as routes of it.
use Rattle.std.specs.Prelude.{ℕ, List, [], ◌∷◌, map}

-- for each of these edges the route along it alone
abbrev pub edge_routes : List ℕ → List (List ℕ)
edge_routes edges = map (λ e. e ∷ []) edges
