-- A part of a graph that is drawn: its map of darts, and what a plane rotation system of the whole graph has to do with it.
-- The corner of a drawn dart lies between this dart and the next drawn one around its vertex, in the face of its twin.
use Rattle.std.specs.Prelude.{◌≡◌, ℕ, ◌*◌, ◌/◌, ◌<◌, ◌⊎◌, Bool, true, false, ◌&&◌, ◌||◌, if◌then◌else◌, List, ◌∷◌, length, slice_index}
use Rattle.permutations.specs.Count.{some}
use Rattle.permutations.specs.Members.{is_member}
use Rattle.permutations.specs.Exchange.{restricted}
use Rattle.multigraph.specs.Graph.{Multigraph, edge_count, is_end, other_end}
use Rattle.multigraph.specs.Marks.{is_marked}
use Rattle.graph_theory.specs.Path.{walk_vertices, IsPath}
use Rattle.graph_theory.specs.Joined.{joined_where}
use Rattle.dart_maps.specs.Map.{twin, face, same_face, IsMap}
use Rattle.dart_maps.specs.Path.{path_inserted}
use Rattle.faces.specs.Euler.{tail, dart_count, IsPlaneSystem}
use Rattle.faces.specs.Maps.{dart_after}
use Rattle.path_separation.specs.Drawn.{IsDrawing, darts_along}

-- whether the edge of a dart is drawn
abbrev pub is_drawn : List Bool → ℕ → Bool
is_drawn drawn d = is_marked drawn (d / 2)

-- q is a plane rotation system, and on the drawn darts it is the map `next`
pub record Follows (g : Multigraph) (drawn : List Bool) (next : List ℕ) (q : List (List ℕ)) : Type 0 where
  pub plane : IsPlaneSystem g q
  pub steps : (d : ℕ) → d < dart_count g → slice_index next d ≡ restricted (dart_count g) (is_drawn drawn) (dart_after g q) d

-- the map is forced: if the graph has a plane rotation system, it has one that is this map on the drawn darts
abbrev pub IsForced : Multigraph → List Bool → List ℕ → Type 0
IsForced g drawn next = (r : List (List ℕ)) → IsPlaneSystem g r → (q : List (List ℕ)) × Follows g drawn next q

-- the tables of what is drawn: a mark for each drawn edge and for each vertex that has one, and for each dart the next drawn
-- one around its vertex. An undrawn dart is alone, and the drawn edges connect their vertices
pub record AreTables (g : Multigraph) (drawn on : List Bool) (next : List ℕ) : Type 0 where
  pub each_dart : length next ≡ dart_count g
  pub within : (d : ℕ) → d < dart_count g → slice_index next d < dart_count g
  pub alone : (d : ℕ) → d < dart_count g → is_drawn drawn d ≡ false → slice_index next d ≡ d
  pub stays : (d : ℕ) → d < dart_count g → is_drawn drawn d ≡ true → is_drawn drawn (slice_index next d) ≡ true
  pub each_edge : length drawn ≡ edge_count g
  pub each_vertex : length on ≡ g.vertex_count
  pub on_drawn : (v : ℕ) → is_marked on v ≡ some (edge_count g) (λ e. is_marked drawn e && is_end g v e)
  pub joined : (u v : ℕ) → is_marked on u ≡ true → is_marked on v ≡ true → joined_where g (is_marked drawn) u v ≡ true

-- the list is a map of darts
abbrev pub IsMapOfDarts : ℕ → List ℕ → Type 0
IsMapOfDarts m next = (previous : ℕ → ℕ) × IsMap m (slice_index next) previous

-- by this map the drawn edges are a drawing: it is plane, and no vertex cuts them
abbrev pub IsDrawingBy : Multigraph → List Bool → List ℕ → Type 0
IsDrawingBy g drawn next = (previous : ℕ → ℕ) × IsDrawing g (is_marked drawn) (slice_index next) previous

-- darts of one face have one label
abbrev pub AreClosed : ℕ → List ℕ → List ℕ → Type 0
AreClosed m next label = (d : ℕ) → d < 2 * m → slice_index label (face (slice_index next) d) ≡ slice_index label d

-- and darts of one label are of one face
abbrev pub AreExact : ℕ → List ℕ → List ℕ → Type 0
AreExact m next label = (x y : ℕ) → x < 2 * m → y < 2 * m → slice_index label x ≡ slice_index label y → same_face m (slice_index next) x y ≡ true

-- going twice to the next dart leads back
abbrev pub IsInvolution : ℕ → List ℕ → Type 0
IsInvolution m next = (d : ℕ) → d < 2 * m → slice_index next (slice_index next d) ≡ d

-- a path that begins with dart t and goes on along these edges to z, which is on; none between its ends is
pub record LeadsOff (g : Multigraph) (on : List Bool) (t : ℕ) (along : List ℕ) (z : ℕ) : Type 0 where
  pub path : IsPath g (tail g t) ((t / 2) ∷ along) z
  pub arrives : is_marked on z ≡ true
  pub inner : (v : ℕ) → is_member v (walk_vertices g (tail g t) ((t / 2) ∷ along)) ≡ true → is_marked on v ≡ true → (v ≡ tail g t) ⊎ (v ≡ z)

-- to each of these vertices such a path leads
abbrev pub AreAttachments : Multigraph → List Bool → ℕ → List ℕ → Type 0
AreAttachments g on t attachments = (z : ℕ) → is_member z attachments ≡ true → (along : List ℕ) × LeadsOff g on t along z

-- k is a drawn dart that leaves z, and by the labels its corner lies in this face
pub record IsCorner (g : Multigraph) (drawn : List Bool) (label : List ℕ) (z of_face k : ℕ) : Type 0 where
  pub below : k < dart_count g
  pub drawn_dart : is_drawn drawn k ≡ true
  pub leaves : tail g k ≡ z
  pub in_face : slice_index label (twin k) ≡ of_face

-- of all such darts k is the only one
pub record IsSoleCorner (g : Multigraph) (drawn : List Bool) (label : List ℕ) (z of_face k : ℕ) : Type 0 where
  pub corner : IsCorner g drawn label z of_face k
  pub only : (d : ℕ) → IsCorner g drawn label z of_face d → d ≡ k

-- a drawn dart at the tail of t is admissible: by the labels, the face of its corner passes each of the attachments
pub record IsAdmissible (g : Multigraph) (drawn : List Bool) (label attachments : List ℕ) (t c : ℕ) : Type 0 where
  pub below : c < dart_count g
  pub drawn_dart : is_drawn drawn c ≡ true
  pub leaves : tail g c ≡ tail g t
  pub passes : (z : ℕ) → is_member z attachments ≡ true → (k : ℕ) × IsCorner g drawn label z (slice_index label (twin c)) k

-- the path that begins with t and goes on along these edges is drawn between the corners of c and k: its edges and vertices
-- are marked, its darts are inserted, and they have the label of the face of the corner of c
pub record IsPathDrawn (g : Multigraph) (t : ℕ) (along : List ℕ) (c k : ℕ) (drawn on : List Bool) (next label : List ℕ) (new_drawn new_on : List Bool) (new_next new_label : List ℕ) : Type 0 where
  pub each_edge : length new_drawn ≡ length drawn
  pub each_vertex : length new_on ≡ length on
  pub each_dart : length new_next ≡ length next
  pub each_label : length new_label ≡ length label
  pub edges_marked : (e : ℕ) → is_marked new_drawn e ≡ (is_marked drawn e || is_member e ((t / 2) ∷ along))
  pub vertices_marked : (v : ℕ) → is_marked new_on v ≡ (is_marked on v || is_member v (walk_vertices g (tail g t) ((t / 2) ∷ along)))
  pub darts_inserted : (d : ℕ) → d < dart_count g → slice_index new_next d ≡ path_inserted c t (darts_along g (other_end g (t / 2) (tail g t)) along) k (slice_index next) d
  pub labelled : (d : ℕ) → d < dart_count g → slice_index new_label d ≡ (if is_member (d / 2) ((t / 2) ∷ along) then slice_index label (twin c) else slice_index label d)
