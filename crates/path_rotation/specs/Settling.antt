-- A foot looked at where nothing was drawn in a round: its attachments, and the corners that it fits.
use Rattle.std.specs.Prelude.{◌≡◌, ◌≢◌, ℕ, ◌<◌, ◌⊎◌, Bool, true, false, not, ◌&&◌, ◌||◌, ◌==◌, List, length, slice_index}
use Rattle.permutations.specs.Members.{is_member}
use Rattle.multigraph.specs.Graph.{Multigraph, edge_count, ends_of, is_end, other_end}
use Rattle.multigraph.specs.Marks.{is_marked}
use Rattle.graph_theory.specs.Joined.{joined_where}
use Rattle.path_separation.specs.Feet.{IsAttached, FitsCorner}
use Rattle.path_rotation.specs.Forced.{IsInvolution}
use Rattle.path_rotation.specs.Fitting.{IsFoot, IsChoice}
use Rattle.path_rotation.specs.declared.attempts.Choice.TheVariants.{Between}
use Rattle.path_rotation.specs.declared.settling.Step.{Step}
use Rattle.path_rotation.specs.declared.settling.Step.TheVariants.{Never, Path, Rest}
use Rattle.faces.specs.Euler.{IsPlaneSystem}

-- the list holds the attachments of the foot t
pub record AreAllAttached (g : Multigraph) (drawn : List Bool) (t : ℕ) (attached : List ℕ) : Type 0 where
  pub each : (z : ℕ) → is_member z attached ≡ true → IsAttached g (is_marked drawn) t z
  pub all : (z : ℕ) → IsAttached g (is_marked drawn) t z → is_member z attached ≡ true

-- the foot t fits two corners
pub record FitsTwo (g : Multigraph) (drawn : List Bool) (next : List ℕ) (t : ℕ) : Type 0 where
  pub first : ℕ
  pub second : ℕ
  pub first_fits : FitsCorner g (is_marked drawn) (slice_index next) t first
  pub second_fits : FitsCorner g (is_marked drawn) (slice_index next) t second
  pub different : first ≢ second

-- there is no step at the foot t: it has no attachment, or fits two corners, and what is drawn is no edge and no cycle
abbrev pub IsOpen : Multigraph → List Bool → List ℕ → ℕ → Type 0
IsOpen g drawn next t = ((z : ℕ) → IsAttached g (is_marked drawn) t z → ⊥) ⊎ (FitsTwo g drawn next t × (IsInvolution (edge_count g) next → ⊥))

-- nor at any other
abbrev pub AreOpen : Multigraph → List Bool → List Bool → List ℕ → Type 0
AreOpen g drawn on next = (t : ℕ) → IsFoot g drawn on t → IsOpen g drawn next t

-- whether both ends of an edge are off
abbrev pub is_off_edge : Multigraph → List Bool → ℕ → Bool
is_off_edge g on e = not (is_marked on (ends_of g e).0) && not (is_marked on (ends_of g e).1)

-- whether both ends of an edge are off or z
abbrev pub is_way_edge : Multigraph → List Bool → ℕ → ℕ → Bool
is_way_edge g on z e = (not (is_marked on (ends_of g e).0) || (z == (ends_of g e).0)) && (not (is_marked on (ends_of g e).1) || (z == (ends_of g e).1))

-- labels of the vertices, equal just where edges between vertices that are off join them
pub record AreFreeLabels (g : Multigraph) (on : List Bool) (labels : List ℕ) : Type 0 where
  pub each : length labels ≡ g.vertex_count
  pub only : (u v : ℕ) → u < g.vertex_count → v < g.vertex_count → slice_index labels u ≡ slice_index labels v → joined_where g (is_off_edge g on) u v ≡ true
  pub agree : (u v : ℕ) → u < g.vertex_count → v < g.vertex_count → joined_where g (is_off_edge g on) u v ≡ true → slice_index labels u ≡ slice_index labels v

-- edge e leads to z from a vertex that is off and has this label
pub record IsTouched (g : Multigraph) (on : List Bool) (labels : List ℕ) (root z e : ℕ) : Type 0 where
  pub is_edge : e < edge_count g
  pub arrives : is_end g z e ≡ true
  pub off : is_marked on (other_end g e z) ≡ false
  pub labelled : slice_index labels (other_end g e z) ≡ root

-- the step is right
abbrev pub IsStep : Multigraph → List Bool → List Bool → List ℕ → List ℕ → List ℕ → Step → Type 0
IsStep g drawn on next label path Never = (r : List (List ℕ)) → IsPlaneSystem g r → ⊥
IsStep g drawn on next label path (Path t c k) = IsFoot g drawn on t × IsChoice g drawn on next label t path (Between c k)
IsStep g drawn on next label path Rest = AreOpen g drawn on next
