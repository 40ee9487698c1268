-- The corners that may fit a bridge, the choice of one, and the path that is drawn there.
use Rattle.std.specs.Prelude.{◌≡◌, ℕ, ◌<◌, ◌≤◌, ◌⊎◌, Bool, true, false, List, length, slice_index}
use Rattle.permutations.specs.Count.{count}
use Rattle.permutations.specs.Members.{is_member}
use Rattle.multigraph.specs.Graph.{Multigraph, edge_count}
use Rattle.multigraph.specs.Marks.{is_marked}
use Rattle.dart_maps.specs.Map.{twin, same_face}
use Rattle.faces.specs.Euler.{tail, dart_count, IsPlaneSystem}
use Rattle.path_rotation.specs.Forced.{is_drawn, IsForced, IsDrawingBy, AreTables, AreClosed, IsInvolution, AreAttachments, IsSoleCorner, IsAdmissible}
use Rattle.path_rotation.specs.Search.{IsWayFound}
use Rattle.path_rotation.specs.declared.outcome.Tried.{Tried}
use Rattle.path_rotation.specs.declared.outcome.Tried.TheVariants.{NotPlanar, Drawn, Passed}
use Rattle.path_rotation.specs.declared.attempts.Choice.{Choice}
use Rattle.path_rotation.specs.declared.attempts.Choice.TheVariants.{Nowhere, Between, Open}

-- d is a drawn dart that leaves v
pub record IsDartAt (g : Multigraph) (drawn : List Bool) (v d : ℕ) : Type 0 where
  pub below : d < dart_count g
  pub drawn_dart : is_drawn drawn d ≡ true
  pub leaves : tail g d ≡ v

-- the darts are the drawn ones that leave v
pub record AreDartsAt (g : Multigraph) (drawn : List Bool) (v : ℕ) (darts : List ℕ) : Type 0 where
  pub each : (d : ℕ) → is_member d darts ≡ true → IsDartAt g drawn v d
  pub all : (d : ℕ) → IsDartAt g drawn v d → is_member d darts ≡ true

-- each dart has a label, which is the number of a dart
pub record AreLabels (g : Multigraph) (label : List ℕ) : Type 0 where
  pub each : length label ≡ dart_count g
  pub within : (d : ℕ) → d < dart_count g → slice_index label d < dart_count g

-- what is drawn is right: its tables, forced, a drawing, with one label for the darts of a face
pub record IsBoard (g : Multigraph) (drawn on : List Bool) (next label : List ℕ) : Type 0 where
  pub tables : AreTables g drawn on next
  pub forced : IsForced g drawn next
  pub drawing : IsDrawingBy g drawn next
  pub closed : AreClosed (edge_count g) next label
  pub labels : AreLabels g label

-- what is drawn is forced and a drawing, with right tables, and each dart has a place for a label
pub record IsSketch (g : Multigraph) (drawn on : List Bool) (next label : List ℕ) : Type 0 where
  pub tables : AreTables g drawn on next
  pub forced : IsForced g drawn next
  pub drawing : IsDrawingBy g drawn next
  pub label_each : length label ≡ dart_count g

-- t is an undrawn dart whose tail is on
pub record IsFoot (g : Multigraph) (drawn on : List Bool) (t : ℕ) : Type 0 where
  pub dart : t < dart_count g
  pub undrawn : is_drawn drawn t ≡ false
  pub tail_on : is_marked on (tail g t) ≡ true

-- there is a place for the notes and the depth of each vertex, and for a stamp of each label
pub record HaveRoom (g : Multigraph) (notes depth passed : List ℕ) : Type 0 where
  pub notes_each : length notes ≡ g.vertex_count
  pub depth_each : length depth ≡ g.vertex_count
  pub passed_each : length passed ≡ dart_count g

-- the corners are of drawn darts at the tail of t, and of all those whose faces pass some of the attachments
pub record AreFitting (g : Multigraph) (drawn on : List Bool) (label : List ℕ) (t : ℕ) (corners : List ℕ) : Type 0 where
  pub each : (c : ℕ) → is_member c corners ≡ true → IsDartAt g drawn (tail g t) c
  pub attachments : List ℕ
  pub reached : AreAttachments g on t attachments
  pub fits : (c : ℕ) → IsAdmissible g drawn label attachments t c → is_member c corners ≡ true

-- no other corner than that of c is in a face that passes some of the attachments
pub record IsOnlyFit (g : Multigraph) (drawn on : List Bool) (label : List ℕ) (t c : ℕ) : Type 0 where
  pub attachments : List ℕ
  pub reached : AreAttachments g on t attachments
  pub only : (d : ℕ) → IsAdmissible g drawn label attachments t d → d ≡ c

-- the drawn darts at the tail of t are c and the next one, and going twice to the next dart leads back everywhere: so a mirror
-- image exchanges the two corners
pub record IsMirrored (g : Multigraph) (drawn : List Bool) (next : List ℕ) (t c : ℕ) : Type 0 where
  pub turns : IsInvolution (edge_count g) next
  pub two : (d : ℕ) → IsDartAt g drawn (tail g t) d → (d ≡ c) ⊎ (d ≡ slice_index next c)

-- a path that begins with t may be drawn after the corner of c, since there is no choice
pub record MayDraw (g : Multigraph) (drawn on : List Bool) (next label : List ℕ) (t c : ℕ) : Type 0 where
  pub at : IsDartAt g drawn (tail g t) c
  pub certain : IsOnlyFit g drawn on label t c ⊎ IsMirrored g drawn next t c

-- the path begins with t and leads to a vertex where k alone has its corner in the face of the corner of c
pub record IsWayTo (g : Multigraph) (drawn on : List Bool) (label : List ℕ) (t c : ℕ) (path : List ℕ) (k : ℕ) : Type 0 where
  pub place : ℕ
  pub way : IsWayFound g on t path place
  pub sole : IsSoleCorner g drawn label place (slice_index label (twin c)) k

-- the choice is right
abbrev pub IsChoice : Multigraph → List Bool → List Bool → List ℕ → List ℕ → ℕ → List ℕ → Choice → Type 0
IsChoice g drawn on next label t path Nowhere = (r : List (List ℕ)) → IsPlaneSystem g r → ⊥
IsChoice g drawn on next label t path (Between c k) = MayDraw g drawn on next label t c × IsWayTo g drawn on label t c path k × (same_face (edge_count g) (slice_index next) (twin c) (twin k) ≡ true)
IsChoice g drawn on next label t path Open = Unit {0}

-- how many edges are drawn
abbrev pub drawn_count : Multigraph → List Bool → ℕ
drawn_count g drawn = count (edge_count g) (is_marked drawn)

-- an edge more is drawn where a path was drawn, and none less otherwise
abbrev pub IsMoreDrawn : Multigraph → List Bool → List Bool → Tried → Type 0
IsMoreDrawn g before after NotPlanar = drawn_count g before ≤ drawn_count g after
IsMoreDrawn g before after Drawn = drawn_count g before < drawn_count g after
IsMoreDrawn g before after Passed = drawn_count g before ≤ drawn_count g after

-- what is said of a graph after a bridge was tried is right
abbrev pub IsTried : Multigraph → Tried → Type 0
IsTried g NotPlanar = (r : List (List ℕ)) → IsPlaneSystem g r → ⊥
IsTried g Drawn = Unit {0}
IsTried g Passed = Unit {0}
