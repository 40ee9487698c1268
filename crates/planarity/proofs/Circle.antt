-- The circle round a vertex of a plane rotation system: its neighbours, in the opposite order of the edges to them.
use Rattle.std.proofs.Common.{◌≡◌, ℕ, ◌/◌, ◌<◌, true, List, [], ◌∷◌, ◌++◌, map, reverse, refl, sym, ap, ap₂, ◌∙◌, subst, append_assoc, append-nil}
use Rattle.std.proofs.lemmas.List.{map-append, reverse-append}
use Rattle.permutations.specs.Members.{is_member, is_distinct}
use Rattle.permutations.specs.Cyclic.{successor, IsTurn}
use Rattle.permutations.proofs.Members.{member-head, member-append_right, member-reverse, distinct-reverse}
use Rattle.permutations.proofs.Turned.{IsTurn-member, IsTurn-distinct, IsTurn-successor, IsTurn-reverse, IsTurn-swap}
use Rattle.permutations.proofs.CyclicSame.{IsTurn-trans}
use Rattle.permutations.proofs.Mapped.{map-member, distinct-map}
use Rattle.multigraph.specs.Graph.{Multigraph, IsGraph, edge_count, is_end, other_end}
use Rattle.rotations.specs.Rotation.{order_at, IsRotationSystem}
use Rattle.rotations.proofs.Membership.{member-edge, member-end}
use Rattle.graph_theory.specs.Triconnected.{IsTriconnected}
use Rattle.graph_theory.proofs.Reversal.{reverse-cons}
use Rattle.dart_maps.specs.Map.{twin}
use Rattle.faces.specs.Euler.{tail, dart_from, dart_count, IsPlane}
use Rattle.faces.specs.Maps.{dart_before}
use Rattle.faces.proofs.DartLemmas.{dart_from-edge, dart_from-below, dart_from-tail, order-distinct, member-incident}
use Rattle.faces.proofs.MapSteps.{tail-twin, backward}
use Rattle.planarity.specs.Circle.{face_arc, arc_edges, IsCircle, spread, circle_parts}
use Rattle.planarity.proofs.CircleRuns.{Runs, runs-around, runs-map}
use Rattle.planarity.proofs.CircleArcs.{arcs}
use Rattle.planarity.proofs.CircleWalks.{walk_from, AreAt, circle-of_darts}

-- a list with a group in front, reversed
reverse-group : (a : ℕ) (k l : List ℕ) → reverse ((a ∷ k) ++ l) ≡ reverse l ++ (reverse k ++ a ∷ [])
reverse-group a k l = reverse-append (a ∷ k) l ∙ ap (λ u. reverse l ++ u) (reverse-cons a k)

-- parts joined in another order of brackets
brackets-three : (a b c : ℕ) (k l m : List ℕ) → ((m ++ c ∷ []) ++ (l ++ b ∷ [])) ++ (k ++ a ∷ []) ≡ m ++ (c ∷ (l ++ (b ∷ (k ++ (a ∷ [])))))
brackets-three a b c k l m = simp append_assoc

groups-three : (a b c : ℕ) (k l m : List ℕ) → (c ∷ (l ++ (b ∷ (k ++ (a ∷ []))))) ++ m ≡ (c ∷ l) ++ ((b ∷ k) ++ ((a ∷ m) ++ []))
groups-three a b c k l m = simp (append_assoc, append-nil)

brackets-four : (a b c d : ℕ) (k l m o : List ℕ) → (((o ++ d ∷ []) ++ (m ++ c ∷ [])) ++ (l ++ b ∷ [])) ++ (k ++ a ∷ []) ≡ o ++ (d ∷ (m ++ (c ∷ (l ++ (b ∷ (k ++ (a ∷ [])))))))
brackets-four a b c d k l m o = simp append_assoc

groups-four : (a b c d : ℕ) (k l m o : List ℕ) → (d ∷ (m ++ (c ∷ (l ++ (b ∷ (k ++ (a ∷ []))))))) ++ o ≡ (d ∷ m) ++ ((c ∷ l) ++ ((b ∷ k) ++ ((a ∷ o) ++ [])))
groups-four a b c d k l m o = simp (append_assoc, append-nil)

-- three groups of a cyclic order, and the groups of the opposite order
pub opposite-three : (u : List ℕ) (a b c : ℕ) (k l m : List ℕ) → IsTurn u ((a ∷ k) ++ ((b ∷ l) ++ (c ∷ m))) → IsTurn (reverse u) (spread ((c, reverse l) ∷ ((b, reverse k) ∷ ((a, reverse m) ∷ []))))
opposite-three u a b c k l m t = IsTurn-trans (reverse u) (reverse m ++ (c ∷ (reverse l ++ (b ∷ (reverse k ++ (a ∷ [])))))) (spread ((c, reverse l) ∷ ((b, reverse k) ∷ ((a, reverse m) ∷ []))))
    (subst (IsTurn (reverse u)) turned (IsTurn-reverse u ((a ∷ k) ++ ((b ∷ l) ++ (c ∷ m))) t))
    (subst (IsTurn (reverse m ++ (c ∷ (reverse l ++ (b ∷ (reverse k ++ (a ∷ []))))))) (groups-three a b c (reverse k) (reverse l) (reverse m)) (IsTurn-swap (reverse m) (c ∷ (reverse l ++ (b ∷ (reverse k ++ (a ∷ [])))))))
  where
    turned : reverse ((a ∷ k) ++ ((b ∷ l) ++ (c ∷ m))) ≡ reverse m ++ (c ∷ (reverse l ++ (b ∷ (reverse k ++ (a ∷ [])))))
    turned = reverse-group a k ((b ∷ l) ++ (c ∷ m)) ∙ ap (λ v. v ++ (reverse k ++ a ∷ [])) (reverse-group b l (c ∷ m) ∙ ap (λ v. v ++ (reverse l ++ b ∷ [])) (reverse-cons c m))
        ∙ brackets-three a b c (reverse k) (reverse l) (reverse m)

-- four groups
pub opposite-four : (u : List ℕ) (a b c d : ℕ) (k l m o : List ℕ) → IsTurn u ((a ∷ k) ++ ((b ∷ l) ++ ((c ∷ m) ++ (d ∷ o)))) → IsTurn (reverse u) (spread ((d, reverse m) ∷ ((c, reverse l) ∷ ((b, reverse k) ∷ ((a, reverse o) ∷ [])))))
opposite-four u a b c d k l m o t = IsTurn-trans (reverse u) (reverse o ++ (d ∷ (reverse m ++ (c ∷ (reverse l ++ (b ∷ (reverse k ++ (a ∷ [])))))))) (spread ((d, reverse m) ∷ ((c, reverse l) ∷ ((b, reverse k) ∷ ((a, reverse o) ∷ [])))))
    (subst (IsTurn (reverse u)) turned (IsTurn-reverse u ((a ∷ k) ++ ((b ∷ l) ++ ((c ∷ m) ++ (d ∷ o)))) t))
    (subst (IsTurn (reverse o ++ (d ∷ (reverse m ++ (c ∷ (reverse l ++ (b ∷ (reverse k ++ (a ∷ []))))))))) (groups-four a b c d (reverse k) (reverse l) (reverse m) (reverse o))
    (IsTurn-swap (reverse o) (d ∷ (reverse m ++ (c ∷ (reverse l ++ (b ∷ (reverse k ++ (a ∷ [])))))))))
  where
    turned : reverse ((a ∷ k) ++ ((b ∷ l) ++ ((c ∷ m) ++ (d ∷ o)))) ≡ reverse o ++ (d ∷ (reverse m ++ (c ∷ (reverse l ++ (b ∷ (reverse k ++ (a ∷ [])))))))
    turned = reverse-group a k ((b ∷ l) ++ ((c ∷ m) ++ (d ∷ o)))
        ∙ ap (λ v. v ++ (reverse k ++ a ∷ [])) (reverse-group b l ((c ∷ m) ++ (d ∷ o)) ∙ ap (λ v. v ++ (reverse l ++ b ∷ [])) (reverse-group c m (d ∷ o) ∙ ap (λ v. v ++ (reverse m ++ c ∷ [])) (reverse-cons d o)))
        ∙ brackets-four a b c d (reverse k) (reverse l) (reverse m) (reverse o)

module _ (h : Multigraph) (s : List (List ℕ)) (ok : IsGraph h) (rot : IsRotationSystem h s) (plane : IsPlane h s) (tri : IsTriconnected h) (w : ℕ) (w_in : w < h.vertex_count) where
  -- a group of darts for a group of edges
  abbrev darts_of : List (ℕ × List ℕ) → List (ℕ × List ℕ)
  darts_of groups = map (λ group. (dart_from h w group.0, map (dart_from h w) group.1)) groups

  spread-darts : (groups : List (ℕ × List ℕ)) → spread (darts_of groups) ≡ map (dart_from h w) (spread groups)
  spread-darts [] = refl
  spread-darts (group ∷ groups) = ap (λ k. (dart_from h w group.0 ∷ map (dart_from h w) group.1) ++ k) (spread-darts groups) ∙ sym (map-append (dart_from h w) (group.0 ∷ group.1) (spread groups))

  -- the edges of arcs are those of the arcs' darts
  arc_edges-map : (ds : List ℕ) → map (λ c. c / 2) (arcs h s ok rot plane tri w ds) ≡ arc_edges h s ds
  arc_edges-map [] = refl
  arc_edges-map (d ∷ ds) = map-append (λ c. c / 2) (face_arc h s d) (arcs h s ok rot plane tri w ds) ∙ ap (λ k. map (λ c. c / 2) (face_arc h s d) ++ k) (arc_edges-map ds)

  -- the dart at w of an edge leads to its other end
  across : (e : ℕ) → e < edge_count h → is_end h w e ≡ true → tail h (twin (dart_from h w e)) ≡ other_end h e w
  across e l t = tail-twin h (dart_from h w e) ok (dart_from-below h w e l) ∙ ap₂ (other_end h) (dart_from-edge h w e) (dart_from-tail h w e t)

  -- edges at w
  abbrev AreEdges : List ℕ → Type 0
  AreEdges es = (e : ℕ) → is_member e es ≡ true → (e < edge_count h) × (is_end h w e ≡ true)

  parts-same : (groups : List (ℕ × List ℕ)) → AreEdges (spread groups) → map (walk_from h s ok rot plane tri w) (darts_of groups) ≡ circle_parts h s w groups
  parts-same [] a = refl
  parts-same (group ∷ groups) a =
      let o = a group.0 (member-head group.0 (group.1 ++ spread groups)) in
      ap₂ (λ u k. u ∷ k) (ap₂ (λ u k. (u, k)) (across group.0 o.0 o.1) (arc_edges-map (map (dart_from h w) (group.0 ∷ group.1))))
      (parts-same groups (λ e m. a e (member-append_right e (group.0 ∷ group.1) (spread groups) m)))

  -- groups of edges, which are all edges at w, in the opposite order
  pub circle-back : (first : ℕ × List ℕ) (groups : List (ℕ × List ℕ)) → IsTurn (reverse (order_at s w)) (spread (first ∷ groups)) → IsCircle h w (other_end h first.0 w) (circle_parts h s w (first ∷ groups))
  circle-back first groups t = subst (λ u. IsCircle h w u (circle_parts h s w (first ∷ groups))) (across first.0 o.0 o.1)
      (subst (IsCircle h w (tail h (twin (dart_from h w first.0)))) (parts-same (first ∷ groups) edges)
      (circle-of_darts h s ok rot plane tri w (darts_of (first ∷ groups)) (dart_from h w first.0) (dart_from-below h w first.0 o.0) (dart_from-tail h w first.0 o.1) at distinct around))
    where
      all : List ℕ
      all = spread (first ∷ groups)

      back-distinct : is_distinct (reverse (order_at s w)) ≡ true
      back-distinct = distinct-reverse (order_at s w) (order-distinct h s w rot w_in)

      all-distinct : is_distinct all ≡ true
      all-distinct = IsTurn-distinct (reverse (order_at s w)) all t back-distinct

      edges : AreEdges all
      edges e m =
          let i = member-incident h s w e rot w_in (sym (member-reverse e (order_at s w)) ∙ sym (IsTurn-member (reverse (order_at s w)) all e t) ∙ m) in
          (member-edge h w e i, member-end h w e i)

      o : (first.0 < edge_count h) × (is_end h w first.0 ≡ true)
      o = edges first.0 (member-head first.0 (first.1 ++ spread groups))

      at : AreAt h s ok rot plane tri w (spread (darts_of (first ∷ groups)))
      at d m =
          let v = map-member (dart_from h w) all d (subst (λ (k : List ℕ). is_member d k ≡ true) (spread-darts (first ∷ groups)) m) in
          let e = edges v.0 v.1 in
          (subst (λ u. u < dart_count h) v.2 (dart_from-below h w v.0 e.0), subst (λ u. tail h u ≡ w) v.2 (dart_from-tail h w v.0 e.1))

      distinct : is_distinct (spread (darts_of (first ∷ groups))) ≡ true
      distinct = subst (λ (k : List ℕ). is_distinct k ≡ true) (sym (spread-darts (first ∷ groups)))
          (distinct-map (dart_from h w) all (λ y z _ _ q. sym (dart_from-edge h w y) ∙ ap (λ d. d / 2) q ∙ dart_from-edge h w z) all-distinct)

      step : (e : ℕ) → is_member e all ≡ true → dart_before h s (dart_from h w e) ≡ dart_from h w (successor all e)
      step e m = ap₂ (backward h s) (dart_from-tail h w e ((edges e m).1)) (dart_from-edge h w e) ∙ ap (dart_from h w) (sym (IsTurn-successor (reverse (order_at s w)) all e t back-distinct))

      around : Runs (dart_before h s) (dart_from h w first.0) (spread (darts_of (first ∷ groups))) (dart_from h w first.0)
      around = subst (λ (k : List ℕ). Runs (dart_before h s) (dart_from h w first.0) k (dart_from h w first.0)) (sym (spread-darts (first ∷ groups)))
          (runs-map (successor all) (dart_before h s) (dart_from h w) first.0 all first.0 step (runs-around first.0 (first.1 ++ spread groups) all-distinct))

  -- three edges, with those behind each: the circle comes to the neighbours at the third, the second and the first
  pub circle-three : (a b c : ℕ) (k l m : List ℕ) → IsTurn (order_at s w) ((a ∷ k) ++ ((b ∷ l) ++ (c ∷ m)))
      → IsCircle h w (other_end h c w) (circle_parts h s w ((c, reverse l) ∷ ((b, reverse k) ∷ ((a, reverse m) ∷ []))))
  circle-three a b c k l m t = circle-back (c, reverse l) ((b, reverse k) ∷ ((a, reverse m) ∷ [])) (opposite-three (order_at s w) a b c k l m t)

  -- the same for four edges
  pub circle-four : (a b c d : ℕ) (k l m o : List ℕ) → IsTurn (order_at s w) ((a ∷ k) ++ ((b ∷ l) ++ ((c ∷ m) ++ (d ∷ o))))
      → IsCircle h w (other_end h d w) (circle_parts h s w ((d, reverse m) ∷ ((c, reverse l) ∷ ((b, reverse k) ∷ ((a, reverse o) ∷ [])))))
  circle-four a b c d k l m o t = circle-back (d, reverse m) ((c, reverse l) ∷ ((b, reverse k) ∷ ((a, reverse o) ∷ []))) (opposite-four (order_at s w) a b c d k l m o t)
