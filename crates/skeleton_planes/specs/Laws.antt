-- What is proved of gluing and of the skeletons of polygons and bonds, as statements.
use Rattle.std.specs.Prelude.{◌≡◌, ◌≢◌, ℕ, ◌*◌, ◌<◌, ◌↔◌, false, List, reverse}
use Rattle.permutations.specs.Cyclic.{from_least}
use Rattle.multigraph.specs.Graph.{Multigraph, incident_edges}
use Rattle.rotations.specs.Rotation.{order_at, IsCyclicOrder, IsRotationSystem}
use Rattle.dart_maps.specs.Map as maps
use Rattle.dart_maps.specs.Map.{twin, IsMap, same_vertex, same_component}
use Rattle.dart_maps.specs.Changes.{glued}
use Rattle.faces.specs.Euler.{IsPlane, IsPlaneSystem}
use Rattle.pair_split.specs.Tutte.{Node}
use Rattle.pair_split.specs.declared.components.Kind.TheVariants.{S, P, B}
use Rattle.skeletons.specs.Items.{IsBlockTree}
use Rattle.skeletons.specs.Families.{skeleton_graph}
use Rattle.skeletons.specs.Moves.{IsNodeOfKind}
use Rattle.skeleton_planes.specs.Bridges.{IsNoBridge}

-- two components glued along an edge of each, neither of them a bridge: what comes of it is plane exactly where the map is
abbrev pub GluingIsExact : Type 0
GluingIsExact = (m : ℕ) (next previous : ℕ → ℕ) → IsMap m next previous → (d e : ℕ) → d < 2 * m → e < 2 * m
    → same_component m next d e ≡ false → same_vertex m next d (twin d) ≡ false → same_vertex m next e (twin e) ≡ false
    → next d ≢ d → next (twin d) ≢ twin d → next e ≢ e → next (twin e) ≢ twin e → IsNoBridge m next d → IsNoBridge m next e
    → (maps.IsPlane m next ↔ maps.IsPlane m (glued d e next))

-- the skeleton of a polygon has one rotation system, and it is plane
abbrev pub PolygonHasOneSystem : Type 0
PolygonHasOneSystem = (g : Multigraph) (nodes : List Node) → IsBlockTree g nodes → (k : ℕ) → IsNodeOfKind nodes k S
    → (s : List (List ℕ)) → IsRotationSystem (skeleton_graph nodes k) s
    → IsPlane (skeleton_graph nodes k) s × ((t : List (List ℕ)) → IsRotationSystem (skeleton_graph nodes k) t → s ≡ t)

-- a rotation system of the skeleton of a bond is plane exactly where the order at the one pole is the reverse of that at the
-- other
abbrev pub BondIsPlaneWhereReversed : Type 0
BondIsPlaneWhereReversed = (g : Multigraph) (nodes : List Node) → IsBlockTree g nodes → (k : ℕ) → IsNodeOfKind nodes k P
    → (s : List (List ℕ)) → IsRotationSystem (skeleton_graph nodes k) s
    → (IsPlane (skeleton_graph nodes k) s ↔ (order_at s 1 ≡ from_least (reverse (order_at s 0))))

-- and each cyclic order of its items is that of a plane one at the one pole
abbrev pub BondHasEachOrder : Type 0
BondHasEachOrder = (g : Multigraph) (nodes : List Node) → IsBlockTree g nodes → (k : ℕ) → IsNodeOfKind nodes k P
    → (order : List ℕ) → IsCyclicOrder (incident_edges (skeleton_graph nodes k) 0) order
    → (s : List (List ℕ)) × IsPlaneSystem (skeleton_graph nodes k) s × (order_at s 0 ≡ order)

-- a block of one edge or two has one rotation system, and it is plane
abbrev pub SmallHasOneSystem : Type 0
SmallHasOneSystem = (g : Multigraph) (nodes : List Node) → IsBlockTree g nodes → (k : ℕ) → IsNodeOfKind nodes k B
    → (s : List (List ℕ)) → IsRotationSystem (skeleton_graph nodes k) s
    → IsPlane (skeleton_graph nodes k) s × ((t : List (List ℕ)) → IsRotationSystem (skeleton_graph nodes k) t → s ≡ t)
