-- The circle around a vertex of a plane rotation system: the neighbours of the vertex, joined by what the faces at it leave.
use Rattle.std.specs.Prelude.{◌≡◌, ℕ, ◌-◌, ◌/◌, ◌<◌, Bool, false, true, ◌||◌, List, [], ◌∷◌, ◌++◌, length, map, reverse}
use Rattle.permutations.specs.Members.{is_member, is_distinct}
use Rattle.permutations.specs.Ring.{images, orbit_length}
use Rattle.multigraph.specs.Graph.{Multigraph, is_end, other_end}
use Rattle.graph_theory.specs.Path.{walk_end, walk_starts, IsWalk}
use Rattle.contractions.specs.Contraction.{are_adjacent}
use Rattle.faces.specs.Euler.{dart_count, dart_from, face_step}
use Rattle.planarity.specs.Lift.{lifted}

-- a part is a vertex with edges from there on: all vertices at which edges of the parts are entered
abbrev pub part_starts : Multigraph → List (ℕ × List ℕ) → List ℕ
part_starts h [] = []
part_starts h (part ∷ parts) = walk_starts h part.0 part.1 ++ part_starts h parts

-- each part is a walk of at least one edge to where the next one begins, and the last one leads to `home`
abbrev pub LeadOn : Multigraph → ℕ → List (ℕ × List ℕ) → Type 0
LeadOn h home [] = Unit {0}
LeadOn h home (part ∷ []) = (0 < length part.1) × IsWalk h part.0 part.1 × (walk_end h part.0 part.1 ≡ home)
LeadOn h home (part ∷ (next ∷ parts)) = ((0 < length part.1) × IsWalk h part.0 part.1 × (walk_end h part.0 part.1 ≡ next.0)) × LeadOn h home (next ∷ parts)

-- the parts are a cycle, which begins and ends at `home`, visits no vertex twice and does not visit w
pub record IsCircle (h : Multigraph) (w home : ℕ) (parts : List (ℕ × List ℕ)) : Type 0 where
  pub lead_on : LeadOn h home parts
  pub once : is_distinct (part_starts h parts) ≡ true
  pub avoids : is_member w (part_starts h parts) ≡ false

-- the face of dart d, without d and without the dart before it
abbrev pub face_arc : Multigraph → List (List ℕ) → ℕ → List ℕ
face_arc h s d = images (face_step h s) (orbit_length (dart_count h) (face_step h s) d - 2) (face_step h s d)

-- the edges of these arcs, one after the other
abbrev pub arc_edges : Multigraph → List (List ℕ) → List ℕ → List ℕ
arc_edges h s [] = []
arc_edges h s (d ∷ ds) = map (λ c. c / 2) (face_arc h s d) ++ arc_edges h s ds

-- a group is an edge at w with further edges at w: all edges of the groups
abbrev pub spread : List (ℕ × List ℕ) → List ℕ
spread [] = []
spread (group ∷ groups) = (group.0 ∷ group.1) ++ spread groups

-- the walk of each group: from the neighbour of w at its first edge, along the arcs of its edges
abbrev pub circle_parts : Multigraph → List (List ℕ) → ℕ → List (ℕ × List ℕ) → List (ℕ × List ℕ)
circle_parts h s w groups = map (λ group. (other_end h group.0 w, arc_edges h s (map (dart_from h w) (group.0 ∷ group.1)))) groups

-- the paths of the K5 with branch vertices x, y, a, b and d: the edge e, edges from x and from y to the other three, and three
-- parts of a circle, lifted
abbrev pub five_paths : Multigraph → ℕ → (ℕ → ℕ) → ℕ → ℕ → ℕ → ℕ → ℕ → ℕ → ℕ → ℕ → ℕ → List ℕ → List ℕ → List ℕ → List (List ℕ)
five_paths g e edge a b d xa xb xd ya yb yd k l m =
    (e ∷ []) ∷ (xa ∷ []) ∷ (xb ∷ []) ∷ (xd ∷ []) ∷ (ya ∷ []) ∷ (yb ∷ []) ∷ (yd ∷ [])
    ∷ lifted g e a (map edge k) b ∷ reverse (lifted g e d (map edge m) a) ∷ lifted g e b (map edge l) d ∷ []

-- the paths of the K3,3 with the sides x, p, r and y, q, t: the edge e, edges from x to q and t and from y to p and r, and
-- four parts of a circle, lifted
abbrev pub six_paths : Multigraph → ℕ → (ℕ → ℕ) → ℕ → ℕ → ℕ → ℕ → ℕ → ℕ → ℕ → ℕ → List ℕ → List ℕ → List ℕ → List ℕ → List (List ℕ)
six_paths g e edge p q r t yp xq yr xt k l m o =
    (e ∷ []) ∷ (xq ∷ []) ∷ (xt ∷ []) ∷ (yp ∷ []) ∷ lifted g e p (map edge k) q ∷ reverse (lifted g e t (map edge o) p)
    ∷ (yr ∷ []) ∷ reverse (lifted g e q (map edge l) r) ∷ lifted g e r (map edge m) t ∷ []

-- whether edge i of h at the merged vertex leads to a neighbour of y: it is at y in g, or leads from x to one
abbrev pub leads_near : Multigraph → ℕ → ℕ → (ℕ → ℕ) → ℕ → Bool
leads_near g x y edge i = is_end g y (edge i) || are_adjacent g y (other_end g (edge i) x)
