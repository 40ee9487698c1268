-- Rotation systems of a graph and of the graph with an edge contracted: from the one to the other and back.
use Rattle.std.specs.Prelude.{◌≡◌, ◌≢◌, ℕ, ◌+◌, ◌*◌, ◌/◌, ◌%◌, ◌<◌, ◌⊎◌, Bool, true, ◌||◌, ◌==◌, List}
use Rattle.permutations.specs.Exchange.{restricted}
use Rattle.multigraph.specs.Graph.{Multigraph}
use Rattle.contractions.specs.Contraction.{are_adjacent, is_kept}
use Rattle.dart_maps.specs.Map.{twin}
use Rattle.dart_maps.specs.Changes.{contracted}
use Rattle.faces.specs.Euler.{tail, dart_from, dart_count}
use Rattle.faces.specs.Maps.{dart_after, dart_before}

-- the dart of g that dart d of the contracted graph is, by the numbers `edge` of its edges
unfoldable pub moved : (ℕ → ℕ) → ℕ → ℕ
moved edge d = 2 * edge (d / 2) + d % 2

-- whether a dart is one of edge e, or of an edge that is kept when e is contracted
unfoldable pub stays : Multigraph → ℕ → ℕ → ℕ → ℕ → Bool
stays g e x y d = (d / 2 == e) || is_kept g e x y (d / 2)

-- s has at the vertices of the contracted graph the cyclic orders of r in g, when the edges that are not kept are left out and
-- then the edge e from x is contracted: at the merged vertex the edges that follow e around x come before those that follow it
-- around y
abbrev pub IsContractedSystem : Multigraph → Multigraph → ℕ → ℕ → ℕ → (ℕ → ℕ) → List (List ℕ) → List (List ℕ) → Type 0
IsContractedSystem g h e x y edge r s =
    (d : ℕ) → d < dart_count h → moved edge (dart_after h s d) ≡ contracted (dart_from g x e) (restricted (dart_count g) (stays g e x y) (dart_after g r)) (moved edge d)

-- around the merged vertex s has two runs, that of the darts which leave x in g, from `first` to `last`, and that of
-- the darts which leave y; and a dart from x to a neighbour of y is the first or the last of its run
pub record FallsInRuns (g h : Multigraph) (x y : ℕ) (edge : ℕ → ℕ) (s : List (List ℕ)) (first last : ℕ) : Type 0 where
  pub first_dart : first < dart_count h
  pub last_dart : last < dart_count h
  pub first_leaves : tail g (moved edge first) ≡ x
  pub last_leaves : tail g (moved edge last) ≡ x
  pub two : first ≢ last
  pub before_first : tail g (moved edge (dart_before h s first)) ≡ y
  pub after_last : tail g (moved edge (dart_after h s last)) ≡ y
  pub run_of_x : (d : ℕ) → d < dart_count h → tail g (moved edge d) ≡ x → d ≢ last → tail g (moved edge (dart_after h s d)) ≡ x
  pub run_of_y : (d : ℕ) → d < dart_count h → tail g (moved edge d) ≡ y → dart_after h s d ≢ first → tail g (moved edge (dart_after h s d)) ≡ y
  pub common : (d : ℕ) → d < dart_count h → tail g (moved edge d) ≡ x → are_adjacent g y (tail g (twin (moved edge d))) ≡ true → (d ≡ first) ⊎ (d ≡ last)
