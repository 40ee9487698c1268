-- The circles round vertices of a wheel, and the K5 and the K3,3 on a circle, computed.
use Rattle.std.proofs.Common.{◌≡◌, true, false, [], ◌∷◌, refl, arith}
use Rattle.std.proofs.lemmas.Bool.{both_ways}
use Rattle.multigraph.specs.Graph.{Multigraph}
use Rattle.contractions.specs.Contraction.{common_count}
use Rattle.contractions.specs.Contracted.{contracted_edge}
use Rattle.kuratowski.specs.Subdivision.{branch_count, pattern_edges}
use Rattle.kuratowski.specs.declared.subdivision.Pattern.TheVariants.{K5, K33}
use Rattle.planarity.specs.Circle.{IsCircle, face_arc, circle_parts, five_paths, six_paths, leads_near}
use Rattle.planarity.proofs.ExpansionExamples.{wheel, wheel_orders, edge, differ}

-- the outer face passes the rim, by the darts 0, 2, 4, 6: without the darts at vertex 0 the way from 1 over 2 to 3 is left
arc-outside : face_arc wheel wheel_orders 0 ≡ 2 ∷ 4 ∷ []
arc-outside = refl

-- a face between two spokes leaves one dart of the rim
arc-inside : face_arc wheel wheel_orders 8 ≡ 7 ∷ []
arc-inside = refl

-- the circle round the hub is the rim, from neighbour to neighbour
hub-each : circle_parts wheel wheel_orders 4 ((7, []) ∷ (6, []) ∷ (5, []) ∷ (4, []) ∷ []) ≡ (3, 2 ∷ []) ∷ (2, 1 ∷ []) ∷ (1, 0 ∷ []) ∷ (0, 3 ∷ []) ∷ []
hub-each = refl

-- or from one of the chosen neighbours to the next
hub-two : circle_parts wheel wheel_orders 4 ((7, 6 ∷ []) ∷ (5, 4 ∷ []) ∷ []) ≡ (3, 2 ∷ 1 ∷ []) ∷ (1, 0 ∷ 3 ∷ []) ∷ []
hub-two = refl

hub-circle : IsCircle wheel 4 3 (circle_parts wheel wheel_orders 4 ((7, 6 ∷ []) ∷ (5, 4 ∷ []) ∷ []))
hub-circle = record {
  lead_on = ((omega arith, ((omega arith, refl), ((omega arith, refl), tt)), refl), (omega arith, ((omega arith, refl), ((omega arith, refl), tt)), refl));
  once = refl;
  avoids = refl;
}

-- the circle round vertex 0 goes from 3 to the hub, from there to 1, and over 2, which is no neighbour, back to 3
rim-parts : circle_parts wheel wheel_orders 0 ((3, []) ∷ (4, []) ∷ (0, []) ∷ []) ≡ (3, 7 ∷ []) ∷ (4, 5 ∷ []) ∷ (1, 1 ∷ 2 ∷ []) ∷ []
rim-parts = refl

-- along the order of the edges, and not against it, the parts do not lead on: the first leads from 1 to 3, and the next begins
-- at the hub
rim-other_way : IsCircle wheel 0 1 (circle_parts wheel wheel_orders 0 ((0, []) ∷ (4, []) ∷ (3, []) ∷ [])) → ⊥
rim-other_way h = differ 3 4 refl h.lead_on.0.2

-- the rim is no circle round 2, which it passes
rim-meets : IsCircle wheel 2 3 (circle_parts wheel wheel_orders 4 ((7, 6 ∷ []) ∷ (5, 4 ∷ []) ∷ [])) → ⊥
rim-meets h = both_ways true h.avoids refl

-- edge 0 between 0 and 1 is contracted. The edge from 1 to 2 and the spoke from 0, to a common neighbour, lead near 1, the
-- edge from 0 to 3 does not
near-own : leads_near wheel 0 1 edge 0 ≡ true
near-own = refl

near-common : leads_near wheel 0 1 edge 3 ≡ true
near-common = refl

near-none : leads_near wheel 0 1 edge 2 ≡ false
near-none = refl

-- in K5 the vertices 0 and 1 have three neighbours in common
abbrev five : Multigraph
five = record { vertex_count = branch_count K5; ends = pattern_edges K5 }

five-common : common_count five 0 1 ≡ 3
five-common = refl

-- with edge 0 contracted they lie on a circle of three edges; so K5 itself is found
five-found : five_paths five 0 (contracted_edge five 0 0 1) 2 3 4 1 2 3 4 5 6 (3 ∷ []) (5 ∷ []) (4 ∷ []) ≡ (0 ∷ []) ∷ (1 ∷ []) ∷ (2 ∷ []) ∷ (3 ∷ []) ∷ (4 ∷ []) ∷ (5 ∷ []) ∷ (6 ∷ []) ∷ (7 ∷ []) ∷ (8 ∷ []) ∷ (9 ∷ []) ∷ []
five-found = refl

-- in K3,3 the edge 0 joins 0 and 3, which have no neighbour in common
abbrev six : Multigraph
six = record { vertex_count = branch_count K33; ends = pattern_edges K33 }

six-common : common_count six 0 3 ≡ 0
six-common = refl

-- their neighbours 1, 4, 2, 5 lie in turn on a circle of four edges; so K3,3 itself is found
six-found : six_paths six 0 (contracted_edge six 0 0 3) 1 4 2 5 3 1 6 2 (3 ∷ []) (6 ∷ []) (7 ∷ []) (4 ∷ []) ≡ (0 ∷ []) ∷ (1 ∷ []) ∷ (2 ∷ []) ∷ (3 ∷ []) ∷ (4 ∷ []) ∷ (5 ∷ []) ∷ (6 ∷ []) ∷ (7 ∷ []) ∷ (8 ∷ []) ∷ []
six-found = refl
