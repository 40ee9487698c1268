-- What is proved of maps of darts, as statements.
use Rattle.std.specs.Prelude.{◌≡◌, ℕ, ◌+◌, ◌*◌, ◌<◌, ◌≤◌, ◌↔◌, not, ◌||◌, Bool, true, false, List, [], ◌∷◌, ◌++◌}
use Rattle.permutations.specs.Cyclic.{first_or, FollowsAround}
use Rattle.permutations.specs.Exchange.{exchange, restricted}
use Rattle.permutations.specs.Ring.{ring}
use Rattle.dart_maps.specs.Map.{twin, face, IsMap, same_vertex, same_face, same_component, vertex_count, face_count, component_count, IsPlane, SameDefect}
use Rattle.dart_maps.specs.Order.{MetInTurn, MetInOrder, connected_around, connected_past}
use Rattle.dart_maps.specs.Changes.{dropped, inserted, contracted, glued}
use Rattle.dart_maps.specs.Renumbering.{IsRenumbering}
use Rattle.dart_maps.specs.Flip.{IsFlip, IsFlipAtOne, IsFlipAlone}
use Rattle.dart_maps.specs.Path.{IsThinPath, smoothed, AreThinPaths, all_smoothed, IsFreshPath, path_inserted, path_last, twins_behind}

-- Euler's inequality: in every map V + F is at most E + 2C
abbrev pub EulersInequality : Type 0
EulersInequality = (m : ℕ) (next previous : ℕ → ℕ) → IsMap m next previous → vertex_count m next + face_count m next ≤ m + 2 * component_count m next

-- a vertex of a plane map split in two: the map stays plane
abbrev pub SplitKeepsPlane : Type 0
SplitKeepsPlane = (m : ℕ) (next previous : ℕ → ℕ) → IsMap m next previous → IsPlane m next → (p q : ℕ) → p < 2 * m → q < 2 * m → (p ≡ q → ⊥) → same_vertex m next p q ≡ true → IsPlane m (exchange p q next)

-- a plane map restricted to some of its darts, or of its edges, is plane
abbrev pub RestrictionKeepsPlane : Type 0
RestrictionKeepsPlane = (m : ℕ) (next previous : ℕ → ℕ) → IsMap m next previous → IsPlane m next → (keep : ℕ → Bool) → IsPlane m (restricted (2 * m) keep next)

-- the restriction is a map, and its inverse is that of the inverse
abbrev pub RestrictionIsMap : Type 0
RestrictionIsMap = (m : ℕ) (keep : ℕ → Bool) (next previous : ℕ → ℕ) → IsMap m next previous → IsMap m (restricted (2 * m) keep next) (restricted (2 * m) keep previous)

-- darts that are kept leave one vertex of the restriction exactly where they left one vertex
abbrev pub RestrictionKeepsVertices : Type 0
RestrictionKeepsVertices = (m : ℕ) (keep : ℕ → Bool) (next previous : ℕ → ℕ) → IsMap m next previous → (c d : ℕ) → keep c ≡ true → keep d ≡ true → same_vertex m (restricted (2 * m) keep next) c d ≡ same_vertex m next c d

-- a map in two parts without connection, distinguished by a test, is plane exactly where both parts are
abbrev pub PlaneInParts : Type 0
PlaneInParts = (m : ℕ) (next previous : ℕ → ℕ) → IsMap m next previous → (t : ℕ → Bool) → ((d : ℕ) → d < 2 * m → t (next d) ≡ t d) → ((d : ℕ) → d < 2 * m → t (twin d) ≡ t d)
    → (IsPlane m next ↔ (IsPlane m (restricted (2 * m) t next) × IsPlane m (restricted (2 * m) (λ d. not (t d)) next)))

-- the corner cut: two corners of one vertex that lie in one face of a plane map. Split there, the map falls apart
abbrev pub CornerCut : Type 0
CornerCut = (m : ℕ) (next previous : ℕ → ℕ) → IsMap m next previous → IsPlane m next → (p q : ℕ) → p < 2 * m → q < 2 * m → (p ≡ q → ⊥)
    → same_vertex m next p q ≡ true → same_face m next (twin p) (twin q) ≡ true → same_component m (exchange p q next) p q ≡ false

-- an edge that lies on two faces is dropped: the defect stays
abbrev pub DropKeepsDefect : Type 0
DropKeepsDefect = (m : ℕ) (next previous : ℕ → ℕ) → IsMap m next previous → (d : ℕ) → d < 2 * m → same_face m next d (twin d) ≡ false → SameDefect m next (dropped d next)

-- an edge put in between two corners of one face: the defect stays
abbrev pub InsertKeepsDefect : Type 0
InsertKeepsDefect = (m : ℕ) (next previous : ℕ → ℕ) → IsMap m next previous → (d : ℕ) → d < 2 * m → next d ≡ d → next (twin d) ≡ twin d
    → (p q : ℕ) → p < 2 * m → q < 2 * m → (p ≡ d → ⊥) → (p ≡ twin d → ⊥) → (q ≡ d → ⊥) → (q ≡ twin d → ⊥)
    → same_face m next (twin p) (twin q) ≡ true → SameDefect m next (inserted d p q next)

-- and its two darts lie on different faces: the face has fallen in two
abbrev pub InsertPartsFace : Type 0
InsertPartsFace = (m : ℕ) (next previous : ℕ → ℕ) → IsMap m next previous → (d : ℕ) → d < 2 * m → next d ≡ d → next (twin d) ≡ twin d
    → (p q : ℕ) → p < 2 * m → q < 2 * m → (p ≡ d → ⊥) → (p ≡ twin d → ⊥) → (q ≡ d → ⊥) → (q ≡ twin d → ⊥)
    → same_face m next (twin p) (twin q) ≡ true → same_face m (inserted d p q next) d (twin d) ≡ false

-- an edge inserted between corners of two faces of one component: the defect increases by two
abbrev pub InsertAcrossFaces : Type 0
InsertAcrossFaces = (m : ℕ) (next previous : ℕ → ℕ) → IsMap m next previous → (d : ℕ) → d < 2 * m → next d ≡ d → next (twin d) ≡ twin d
    → (p q : ℕ) → p < 2 * m → q < 2 * m → (p ≡ d → ⊥) → (p ≡ twin d → ⊥) → (q ≡ d → ⊥) → (q ≡ twin d → ⊥)
    → same_component m next p q ≡ true → same_face m next (twin p) (twin q) ≡ false
    → vertex_count m next + face_count m next + 2 * component_count m (inserted d p q next) ≡ vertex_count m (inserted d p q next) + face_count m (inserted d p q next) + 2 * component_count m next + 2

-- a path of new vertices put in between two corners of one face: the defect stays
abbrev pub PathKeepsDefect : Type 0
PathKeepsDefect = (m : ℕ) (path : List ℕ) (next previous : ℕ → ℕ) → IsMap m next previous → (p d q : ℕ) → IsFreshPath m next p d path q
    → same_face m next (twin p) (twin q) ≡ true → SameDefect m next (path_inserted p d path q next)

-- where the map with the path is plane, the path lies in one face, if it joins darts of one component
abbrev pub PathLiesInFace : Type 0
PathLiesInFace = (m : ℕ) (path : List ℕ) (next previous : ℕ → ℕ) → IsMap m next previous → (p d q : ℕ) → IsFreshPath m next p d path q
    → same_component m next p q ≡ true → IsPlane m (path_inserted p d path q next) → same_face m next (twin p) (twin q) ≡ true

-- the face, read from the corner p over the corner q to p again, is split in two: the one keeps the way from p to q and goes
-- back along the path, the other keeps the way from q to p and continues along the path
abbrev pub PathPartsFace : Type 0
PathPartsFace = (m : ℕ) (path : List ℕ) (next previous : ℕ → ℕ) → IsMap m next previous → (p d q : ℕ) → IsFreshPath m next p d path q
    → (s r : List ℕ) → ring (2 * m) (face next) (next p) ≡ (s ++ twin q ∷ []) ++ (r ++ twin p ∷ [])
    → (ring (2 * m) (face (path_inserted p d path q next)) (twin (path_last d path)) ≡ twins_behind (d ∷ path) s ++ twin q ∷ [])
    × (ring (2 * m) (face (path_inserted p d path q next)) (first_or (twin p) r) ≡ (r ++ twin p ∷ []) ++ (d ∷ path))

-- an edge that joins two vertices is contracted: the defect stays
abbrev pub ContractionKeepsDefect : Type 0
ContractionKeepsDefect = (m : ℕ) (next previous : ℕ → ℕ) → IsMap m next previous → (d : ℕ) → d < 2 * m → same_vertex m next d (twin d) ≡ false → SameDefect m next (contracted d next)

-- so the contracted map is plane exactly where the map is
abbrev pub ContractionKeepsPlane : Type 0
ContractionKeepsPlane = (m : ℕ) (next previous : ℕ → ℕ) → IsMap m next previous → (d : ℕ) → d < 2 * m → same_vertex m next d (twin d) ≡ false → (IsPlane m next ↔ IsPlane m (contracted d next))

-- darts of other edges stay connected as they were, where some dart c is left at the vertex that is made
abbrev pub ContractionKeepsComponents : Type 0
ContractionKeepsComponents = (m : ℕ) (next previous : ℕ → ℕ) → IsMap m next previous → (d : ℕ) → d < 2 * m → same_vertex m next d (twin d) ≡ false
    → (c : ℕ) → (c ≡ d → ⊥) → (c ≡ twin d → ⊥) → (same_vertex m next d c || same_vertex m next (twin d) c) ≡ true
    → (x y : ℕ) → (x ≡ d → ⊥) → (x ≡ twin d → ⊥) → (y ≡ d → ⊥) → (y ≡ twin d → ⊥) → same_component m (contracted d next) x y ≡ same_component m next x y

-- a thin path smoothed to its first edge: the map is plane exactly where the smoothed map is. So subdividing keeps plane
abbrev pub SmoothingKeepsPlane : Type 0
SmoothingKeepsPlane = (m : ℕ) (path : List ℕ) (next previous : ℕ → ℕ) → IsMap m next previous → (c : ℕ) → IsThinPath m next c path → (IsPlane m next ↔ IsPlane m (smoothed c path next))

-- and the same for several thin paths without common edges, smoothed one after the other
abbrev pub SmoothingAllKeepsPlane : Type 0
SmoothingAllKeepsPlane = (m : ℕ) (paths : List (ℕ × List ℕ)) (next previous : ℕ → ℕ) → IsMap m next previous → AreThinPaths m next paths → (IsPlane m next ↔ IsPlane m (all_smoothed paths next))

-- two components glued at corners a and b, p and q, where a and p lie in one face, and b and q: the defect stays
abbrev pub GluingCornersKeepsDefect : Type 0
GluingCornersKeepsDefect = (m : ℕ) (next previous : ℕ → ℕ) → IsMap m next previous → (a b p q : ℕ) → a < 2 * m → b < 2 * m → p < 2 * m → q < 2 * m
    → same_component m next a b ≡ false → same_vertex m next a p ≡ false → same_face m next (twin a) (twin p) ≡ true → same_face m next (twin b) (twin q) ≡ true
    → SameDefect m next (exchange p q (exchange a b next))

-- two components glued along an edge of each: what comes of a plane map is plane
abbrev pub GluingKeepsPlane : Type 0
GluingKeepsPlane = (m : ℕ) (next previous : ℕ → ℕ) → IsMap m next previous → (d e : ℕ) → d < 2 * m → e < 2 * m → same_component m next d e ≡ false
    → same_vertex m next d (twin d) ≡ false → same_vertex m next e (twin e) ≡ false
    → (next d ≡ d → ⊥) → (next (twin d) ≡ twin d → ⊥) → (next e ≡ e → ⊥) → (next (twin e) ≡ twin e → ⊥)
    → IsPlane m next → IsPlane m (glued d e next)

-- the mirror image has equally many vertices, faces and components
abbrev pub MirrorKeepsCounts : Type 0
MirrorKeepsCounts = (m : ℕ) (next previous : ℕ → ℕ) → IsMap m next previous → (vertex_count m previous ≡ vertex_count m next) × (face_count m previous ≡ face_count m next) × (component_count m previous ≡ component_count m next)

-- and is plane where the map is
abbrev pub MirrorKeepsPlane : Type 0
MirrorKeepsPlane = (m : ℕ) (next previous : ℕ → ℕ) → IsMap m next previous → IsPlane m next → IsPlane m previous

-- four darts in the order a, b, c, d around a vertex of a plane map: if a is connected with c, and b with d, without
-- passing that vertex, then a is connected with b
abbrev pub NoncrossingAtVertex : Type 0
NoncrossingAtVertex = (m : ℕ) (next previous : ℕ → ℕ) → IsMap m next previous → IsPlane m next → (a b c d : ℕ) → MetInOrder m next a b c d
    → connected_around m next a a c ≡ true → connected_around m next a b d ≡ true → connected_around m next a a b ≡ true

-- four different darts that come in this order around a vertex, as a list: so they are in order
abbrev pub RingTellsOrder : Type 0
RingTellsOrder = (m : ℕ) (next previous : ℕ → ℕ) → IsMap m next previous → (v a b c d : ℕ) → v < 2 * m → (a < 2 * m) × (b < 2 * m) × (c < 2 * m) × (d < 2 * m)
    → (a ≡ b → ⊥) → (a ≡ c → ⊥) → (a ≡ d → ⊥) → (b ≡ c → ⊥) → (b ≡ d → ⊥) → (c ≡ d → ⊥) → FollowsAround (ring (2 * m) next v) (a ∷ b ∷ c ∷ d ∷ []) → MetInOrder m next a b c d

-- an edge d of a plane map that joins two vertices, darts a, b in turn after d at the one, and x, y after its twin at
-- the other: if a is connected with x, and b with y, without passing the two vertices, then a is connected with b
abbrev pub NoncrossingAlongEdge : Type 0
NoncrossingAlongEdge = (m : ℕ) (next previous : ℕ → ℕ) → IsMap m next previous → IsPlane m next → (d : ℕ) → same_vertex m next d (twin d) ≡ false
    → (a b x y : ℕ) → MetInTurn m next d a b → MetInTurn m next (twin d) x y
    → connected_past m next d (twin d) a x ≡ true → connected_past m next d (twin d) b y ≡ true → connected_past m next d (twin d) a b ≡ true

-- a map and the same map under other numbers, beside dead edges, are plane together
abbrev pub RenumberingKeepsPlane : Type 0
RenumberingKeepsPlane = (k : ℕ) (inner inner_previous : ℕ → ℕ) → IsMap k inner inner_previous → (m : ℕ) (outer outer_previous : ℕ → ℕ) → IsMap m outer outer_previous
    → (live : ℕ → Bool) (into back : ℕ → ℕ) → IsRenumbering k inner m outer live into back → (IsPlane k inner ↔ IsPlane m outer)

-- a map with two vertices, distinguished by a test, all edges of which join them: it is plane exactly where two steps along
-- the face of each dart lead back to it
abbrev pub BondIsPlane : Type 0
BondIsPlane = (m : ℕ) (next previous : ℕ → ℕ) → IsMap m next previous → 0 < m → (t : ℕ → Bool) → ((d : ℕ) → d < 2 * m → t (twin d) ≡ not (t d)) → ((d : ℕ) → d < 2 * m → t (next d) ≡ t d)
    → ((c d : ℕ) → c < 2 * m → d < 2 * m → t c ≡ t d → same_vertex m next c d ≡ true)
    → (IsPlane m next ↔ ((d : ℕ) → d < 2 * m → face next (face next d) ≡ d))

-- a part turned over at two vertices: the same darts leave each vertex
abbrev pub FlipKeepsVertices : Type 0
FlipKeepsVertices = (m : ℕ) (next previous flipped : ℕ → ℕ) → IsMap m next previous → (part : ℕ → Bool) (a b p q : ℕ) → IsFlip m next flipped part a b p q
    → (c d : ℕ) → c < 2 * m → d < 2 * m → same_vertex m next c d ≡ same_vertex m flipped c d

-- the components are the same
abbrev pub FlipKeepsComponents : Type 0
FlipKeepsComponents = (m : ℕ) (next previous flipped : ℕ → ℕ) → IsMap m next previous → (part : ℕ → Bool) (a b p q : ℕ) → IsFlip m next flipped part a b p q
    → (c d : ℕ) → same_component m flipped c d ≡ same_component m next c d

-- and there are equally many faces
abbrev pub FlipKeepsFaces : Type 0
FlipKeepsFaces = (m : ℕ) (next previous flipped : ℕ → ℕ) → IsMap m next previous → (part : ℕ → Bool) (a b p q : ℕ) → IsFlip m next flipped part a b p q
    → face_count m flipped ≡ face_count m next

-- so the defect stays
abbrev pub FlipKeepsDefect : Type 0
FlipKeepsDefect = (m : ℕ) (next previous flipped : ℕ → ℕ) → IsMap m next previous → (part : ℕ → Bool) (a b p q : ℕ) → IsFlip m next flipped part a b p q → SameDefect m next flipped

-- a part turned over at one vertex keeps vertices, components and the number of faces too
abbrev pub FlipAtOneKeepsAll : Type 0
FlipAtOneKeepsAll = (m : ℕ) (next previous flipped : ℕ → ℕ) → IsMap m next previous → (part : ℕ → Bool) (a b : ℕ) → IsFlipAtOne m next flipped part a b
    → ((c d : ℕ) → c < 2 * m → d < 2 * m → same_vertex m next c d ≡ same_vertex m flipped c d) × ((c d : ℕ) → same_component m flipped c d ≡ same_component m next c d) × (face_count m flipped ≡ face_count m next)

-- and so do whole components turned over
abbrev pub FlipAloneKeepsAll : Type 0
FlipAloneKeepsAll = (m : ℕ) (next previous flipped : ℕ → ℕ) → IsMap m next previous → (part : ℕ → Bool) → IsFlipAlone m next flipped part
    → ((c d : ℕ) → same_vertex m flipped c d ≡ same_vertex m next c d) × ((c d : ℕ) → same_component m flipped c d ≡ same_component m next c d) × (face_count m flipped ≡ face_count m next)
