-- An edge is seen at the last vertex of the path: the two cases, and what each leaves.
use Rattle.std.proofs.Common.{◌≡◌, ℕ, ◌<◌, true, false, [], ◌∷◌, refl, arith, length-append}
use Rattle.multigraph.specs.Graph.{Multigraph, edge_count, is_end, other_end, IsGraph}
use Rattle.multigraph.specs.Marks.{is_marked}
use Rattle.search_forest.specs.Forest.{ForestState, frond_noted, child_noted, OnPath, IsForest}
use Rattle.search_forest.proofs.Writes.{marked-same, marked-kept}
use Rattle.search_forest.proofs.Frond.{frond-forest}
use Rattle.search_forest.proofs.Child.{child-forest, child-roots, on-longer}
use Rattle.search_forest.proofs.Seen.{frond-at, child-at}
use Rattle.search_forest.specs.Searching.{IsLast, IsSeenAt}

-- the last vertex of the path is on it
pub last-on : (s : ForestState) (v : ℕ) → IsLast s v → OnPath s.path v
last-on s v l = record { place = l.place; within = omega (arith, l.last); is = l.is }

-- the edge leads to a vertex that was visited
pub see-frond : (g : Multigraph) → IsGraph g → (s : ForestState) (v e : ℕ) → IsForest g s → IsLast s v → e < edge_count g → is_end g v e ≡ true → is_marked s.seen e ≡ false → is_marked s.visited (other_end g e v) ≡ true → IsSeenAt g s (frond_noted s v e) v e
see-frond g gg s v e k l m i u h =
    let w = frond-at g gg s v e l.place k l.last l.is m i u h in
    record {
      forest = frond-forest g s v e w.0 w.1 k w.2;
      keeps = record { visited = λ x t. t; roots = λ x t d. (t, d) };
      seen = marked-same s.seen e (omega (arith, m, k.places.seen));
      position = refl;
      on_path = last-on s v l;
      longer = omega arith;
      entered = refl;
    }

-- the edge leads to a vertex that was not visited
pub see-child : (g : Multigraph) → IsGraph g → (s : ForestState) (v e : ℕ) → IsForest g s → IsLast s v → e < edge_count g → is_end g v e ≡ true → is_marked s.seen e ≡ false → is_marked s.visited (other_end g e v) ≡ false → IsSeenAt g s (child_noted s v e (other_end g e v)) v e
see-child g gg s v e k l m i u h =
    let w = other_end g e v in
    let f = child-at g gg s v e l.place k l.last l.is m i u h in
    record {
      forest = child-forest g s v e w l.place k f;
      keeps = record { visited = λ x t. marked-kept s.visited w x (omega (arith, f.child_in, k.places.visited)) t; roots = child-roots g s v e w l.place k f };
      seen = marked-same s.seen e (omega (arith, m, k.places.seen));
      position = refl;
      on_path = on-longer s.path w v (last-on s v l);
      longer = omega (arith, length-append s.path (w ∷ []));
      entered = omega (arith, length-append s.path (w ∷ []), length-append s.order (w ∷ []));
    }
