-- Where the contracted graph is triconnected and has a plane rotation system: subdivisions of K5 and K3,3 from edges round the
-- merged vertex.
use Rattle.std.proofs.Common.{◌≡◌, ℕ, ◌<◌, true, false, ◌&&◌, ◌==◌, List, [], ◌∷◌, ◌++◌, map, reverse, refl, ap, ◌∙◌, subst}
use Rattle.std.proofs.lemmas.Bool.{and_parts, eqb-true}
use Rattle.permutations.specs.Cyclic.{IsTurn}
use Rattle.permutations.proofs.Search.{some-witness}
use Rattle.multigraph.specs.Graph.{Multigraph, IsGraph, edge_count, is_end, other_end}
use Rattle.multigraph.proofs.OtherEnd.{other_end-in, end-in}
use Rattle.rotations.specs.Rotation.{order_at, IsRotationSystem}
use Rattle.graph_theory.specs.Triconnected.{IsTriconnected}
use Rattle.contractions.specs.Contraction.{are_adjacent, IsContraction}
use Rattle.kuratowski.specs.declared.subdivision.Pattern.TheVariants.{K5, K33}
use Rattle.kuratowski.specs.Subdivision.{IsSubdivision}
use Rattle.faces.specs.Euler.{IsPlane, dart_from}
use Rattle.planarity.specs.Circle.{IsCircle, arc_edges, five_paths, six_paths}
use Rattle.planarity.proofs.LiftPath.{image-end, image-back}
use Rattle.planarity.proofs.Circle.{circle-three, circle-four}
use Rattle.planarity.proofs.Found.{IsSpoke, k5_found}
use Rattle.planarity.proofs.FoundAlternating.{k33_found}

-- joined vertices have an edge between them
pub joined-spoke : (g : Multigraph) (z p : ℕ) → are_adjacent g z p ≡ true → (f : ℕ) × IsSpoke g z p f
joined-spoke g z p t =
    let w = some-witness (edge_count g) (λ f. is_end g z f && (other_end g f z == p)) t in
    let v = and_parts (is_end g z w.0) (other_end g w.0 z == p) w.2 in
    (w.0, record { is_edge = w.1; leaves = v.0; arrives = eqb-true (other_end g w.0 z) p v.1 })

module _ (g h : Multigraph) (e x y : ℕ) (edge vertex : ℕ → ℕ) (og : IsGraph g) (oh : IsGraph h) (ic : IsContraction g h e x y edge vertex) where
  -- the vertex of g to which edge i at the merged vertex leads
  pub record IsTip (i p : ℕ) : Type 0 where
    pub tip_in : p < g.vertex_count
    pub tip_is : other_end h i (vertex x) ≡ vertex p

  -- an edge at x leads from the merged vertex where it leads from x
  pub tip-first : (i : ℕ) → i < edge_count h → is_end g x (edge i) ≡ true → IsTip i (other_end g (edge i) x) × IsSpoke g x (other_end g (edge i) x) (edge i)
  tip-first i l t = (
    record { tip_in = other_end-in g (edge i) x og (ic.edges i l); tip_is = (image-end g h e x y edge vertex og oh ic i x l t).1 },
    record { is_edge = ic.edges i l; leaves = t; arrives = refl },
  )

  -- and one at y where it leads from y
  pub tip-second : (i : ℕ) → i < edge_count h → is_end g y (edge i) ≡ true → IsTip i (other_end g (edge i) y) × IsSpoke g y (other_end g (edge i) y) (edge i)
  tip-second i l t = (
    record { tip_in = other_end-in g (edge i) y og (ic.edges i l); tip_is = ap (other_end h i) ic.merged ∙ (image-end g h e x y edge vertex og oh ic i y l t).1 },
    record { is_edge = ic.edges i l; leaves = t; arrives = refl },
  )

  -- an edge at the merged vertex that is not at x is at y
  pub tip-either : (i : ℕ) → i < edge_count h → is_end h (vertex x) i ≡ true → is_end g x (edge i) ≡ false → is_end g y (edge i) ≡ true
  tip-either i l t n = subst (λ z. is_end g z (edge i) ≡ true) ic.second_end ((image-back g h e x y edge vertex og oh ic i x l (end-in g x e og ic.edge_in ic.first_end) t n).1)

  merged_in : vertex x < h.vertex_count
  merged_in = ic.vertices x (end-in g x e og ic.edge_in ic.first_end)

  module _ (s : List (List ℕ)) (rot : IsRotationSystem h s) (plane : IsPlane h s) (tri : IsTriconnected h) where
    -- the edges of h along the circle that are the part of the edge i, with the edges `passed` behind it in the opposite order
    abbrev pub part_edges : ℕ → List ℕ → List ℕ
    part_edges i passed = arc_edges h s (map (dart_from h (vertex x)) (i ∷ reverse passed))

    -- three edges round the merged vertex that lead to common neighbours
    pub three-found : (a b c : ℕ) (k l m : List ℕ) → IsTurn (order_at s (vertex x)) ((a ∷ k) ++ ((b ∷ l) ++ (c ∷ m)))
        → (p q r : ℕ) → IsTip a p → IsTip b q → IsTip c r → (xp xq xr yp yq yr : ℕ) → IsSpoke g x p xp → IsSpoke g x q xq → IsSpoke g x r xr → IsSpoke g y p yp → IsSpoke g y q yq → IsSpoke g y r yr
        → IsSubdivision g K5 (x ∷ y ∷ r ∷ q ∷ p ∷ []) (five_paths g e edge r q p xr xq xp yr yq yp (part_edges c l) (part_edges b k) (part_edges a m))
    three-found a b c k l m t p q r tp tq tr xp xq xr yp yq yr sxp sxq sxr syp syq syr =
        k5_found g h e x y edge vertex og oh ic r q p xr xq xp yr yq yp tr.tip_in tq.tip_in tp.tip_in sxr sxq sxp syr syq syp (part_edges c l) (part_edges b k) (part_edges a m) there
      where
        there : IsCircle h (vertex x) (vertex r) ((vertex r, part_edges c l) ∷ ((vertex q, part_edges b k) ∷ ((vertex p, part_edges a m) ∷ [])))
        there = subst (λ u. IsCircle h (vertex x) (vertex r) ((vertex r, part_edges c l) ∷ ((vertex q, part_edges b k) ∷ ((u, part_edges a m) ∷ [])))) tp.tip_is
            (subst (λ u. IsCircle h (vertex x) (vertex r) ((vertex r, part_edges c l) ∷ ((u, part_edges b k) ∷ ((other_end h a (vertex x), part_edges a m) ∷ [])))) tq.tip_is
            (subst (λ u. IsCircle h (vertex x) u ((u, part_edges c l) ∷ ((other_end h b (vertex x), part_edges b k) ∷ ((other_end h a (vertex x), part_edges a m) ∷ [])))) tr.tip_is
            (circle-three h s oh rot plane tri (vertex x) merged_in a b c k l m t)))

    -- four edges round the merged vertex, in turn to neighbours of x and of y
    pub four-found : (a b c d : ℕ) (k l m o : List ℕ) → IsTurn (order_at s (vertex x)) ((a ∷ k) ++ ((b ∷ l) ++ ((c ∷ m) ++ (d ∷ o))))
        → (pa pb pc pd : ℕ) → IsTip a pa → IsTip b pb → IsTip c pc → IsTip d pd → (xa yb xc yd : ℕ) → IsSpoke g x pa xa → IsSpoke g y pb yb → IsSpoke g x pc xc → IsSpoke g y pd yd
        → IsSubdivision g K33 (x ∷ pd ∷ pb ∷ y ∷ pc ∷ pa ∷ []) (six_paths g e edge pd pc pb pa yd xc yb xa (part_edges d m) (part_edges c l) (part_edges b k) (part_edges a o))
    four-found a b c d k l m o t pa pb pc pd ta tb tc td xa yb xc yd sxa syb sxc syd =
        k33_found g h e x y edge vertex og oh ic pd pc pb pa yd xc yb xa td.tip_in tc.tip_in tb.tip_in ta.tip_in syd sxc syb sxa (part_edges d m) (part_edges c l) (part_edges b k) (part_edges a o) there
      where
        there : IsCircle h (vertex x) (vertex pd) ((vertex pd, part_edges d m) ∷ ((vertex pc, part_edges c l) ∷ ((vertex pb, part_edges b k) ∷ ((vertex pa, part_edges a o) ∷ []))))
        there = subst (λ u. IsCircle h (vertex x) (vertex pd) ((vertex pd, part_edges d m) ∷ ((vertex pc, part_edges c l) ∷ ((vertex pb, part_edges b k) ∷ ((u, part_edges a o) ∷ []))))) ta.tip_is
            (subst (λ u. IsCircle h (vertex x) (vertex pd) ((vertex pd, part_edges d m) ∷ ((vertex pc, part_edges c l) ∷ ((u, part_edges b k) ∷ ((other_end h a (vertex x), part_edges a o) ∷ []))))) tb.tip_is
            (subst (λ u. IsCircle h (vertex x) (vertex pd) ((vertex pd, part_edges d m) ∷ ((u, part_edges c l) ∷ ((other_end h b (vertex x), part_edges b k) ∷ ((other_end h a (vertex x), part_edges a o) ∷ []))))) tc.tip_is
            (subst (λ u. IsCircle h (vertex x) u ((u, part_edges d m) ∷ ((other_end h c (vertex x), part_edges c l) ∷ ((other_end h b (vertex x), part_edges b k) ∷ ((other_end h a (vertex x), part_edges a o) ∷ []))))) td.tip_is
            (circle-four h s oh rot plane tri (vertex x) merged_in a b c d k l m o t))))
