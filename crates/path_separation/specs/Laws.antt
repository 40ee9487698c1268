-- What is proved of drawings, as statements.
use Rattle.std.specs.Prelude.{◌≡◌, ◌≢◌, ℕ, ◌/◌, ◌<◌, Bool, true, false, ◌||◌, ◌==◌, List, ◌∷◌}
use Rattle.permutations.specs.Members.{is_member}
use Rattle.multigraph.specs.Graph.{Multigraph, IsGraph, edge_count, other_end}
use Rattle.graph_theory.specs.Path.{IsWalk}
use Rattle.graph_theory.specs.Triconnected.{IsTriconnected}
use Rattle.dart_maps.specs.Map.{twin, same_face}
use Rattle.dart_maps.specs.Path.{path_inserted}
use Rattle.faces.specs.Euler.{dart_from, dart_count, IsPlaneSystem}
use Rattle.faces.specs.Maps.{dart_after}
use Rattle.path_separation.specs.Drawn.{IsMapOfDrawn, IsDrawing, IsPathOff, IsDrawnAt, darts_along}
use Rattle.path_separation.specs.Feet.{IsFoot, FitsCorner, OfOneBridge}

-- one edge is a drawing
abbrev pub EdgesAreDrawings : Type 0
EdgesAreDrawings = (g : Multigraph) → IsGraph g → (e : ℕ) → e < edge_count g → IsDrawing g (λ f. e == f) (λ d. d) (λ d. d)

-- a drawing stays one when a path is drawn between two corners of one face
abbrev pub PathsKeepDrawings : Type 0
PathsKeepDrawings = (g : Multigraph) → IsGraph g → (drawn more : ℕ → Bool) (next previous : ℕ → ℕ) → IsDrawing g drawn next previous
    → (x z e : ℕ) (es : List ℕ) → IsPathOff g drawn x (e ∷ es) z → ((f : ℕ) → more f ≡ (drawn f || is_member f (e ∷ es)))
    → (c k : ℕ) → IsDrawnAt g drawn x c → IsDrawnAt g drawn z k → same_face (edge_count g) next (twin c) (twin k) ≡ true
    → (back : ℕ → ℕ) × IsDrawing g more (path_inserted c (dart_from g x e) (darts_along g (other_end g e x) es) k next) back

-- of the faces of drawn darts the path splits that one alone: all others stay
abbrev pub OtherFacesStay : Type 0
OtherFacesStay = (g : Multigraph) → IsGraph g → (drawn : ℕ → Bool) (next previous : ℕ → ℕ) → IsMapOfDrawn g drawn next previous
    → (x e : ℕ) (es : List ℕ) → IsWalk g x (e ∷ es) → ((f : ℕ) → is_member f (e ∷ es) ≡ true → drawn f ≡ false)
    → (c k : ℕ) → c < dart_count g → k < dart_count g → same_face (edge_count g) next (twin c) (twin k) ≡ true
    → (a : ℕ) → a < dart_count g → drawn (a / 2) ≡ true → same_face (edge_count g) next (twin c) a ≡ false
    → (b : ℕ) → same_face (edge_count g) (path_inserted c (dart_from g x e) (darts_along g (other_end g e x) es) k next) a b ≡ same_face (edge_count g) next a b

-- a drawing of all edges is a plane rotation system
abbrev pub FinishedDrawings : Type 0
FinishedDrawings = (g : Multigraph) → IsGraph g → (drawn : ℕ → Bool) (next previous : ℕ → ℕ) → IsDrawing g drawn next previous → ((e : ℕ) → e < edge_count g → drawn e ≡ true)
    → (r : List (List ℕ)) × IsPlaneSystem g r × ((d : ℕ) → d < dart_count g → dart_after g r d ≡ next d)

-- where a foot fits a corner, each foot of its bridge fits one on the same face
abbrev pub BridgesFitAlike : Type 0
BridgesFitAlike = (g : Multigraph) → IsGraph g → (drawn : ℕ → Bool) (next previous : ℕ → ℕ) → IsDrawing g drawn next previous
    → (t u c : ℕ) → IsFoot g drawn t → IsFoot g drawn u → OfOneBridge g drawn t u → FitsCorner g drawn next t c
    → (k : ℕ) × FitsCorner g drawn next u k × (same_face (edge_count g) next (twin c) (twin k) ≡ true)

-- a drawing of some edges of a triconnected graph, three of them at one vertex, but not of all: some foot fits at most one
-- corner
abbrev pub SomeFootIsForced : Type 0
SomeFootIsForced = (g : Multigraph) → IsGraph g → IsTriconnected g → (drawn : ℕ → Bool) (next previous : ℕ → ℕ) → IsDrawing g drawn next previous
    → (d e : ℕ) → d < dart_count g → drawn (d / 2) ≡ true → next (next d) ≢ d → e < edge_count g → drawn e ≡ false
    → (t : ℕ) × IsFoot g drawn t × ((c k : ℕ) → FitsCorner g drawn next t c → FitsCorner g drawn next t k → c ≡ k)
