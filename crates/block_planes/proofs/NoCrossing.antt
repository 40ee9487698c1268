-- In a plane rotation system no two blocks cross at a vertex.
use Rattle.std.proofs.Common.{◌≡◌, ℕ, ◌/◌, ◌<◌, inl, inr, Bool, true, false, List, [], ◌∷◌, sym, ◌∙◌, subst}
use Rattle.std.proofs.lemmas.Bool.{cases_Bool, both_ways}
use Rattle.permutations.specs.Relation.{IsEquivalence}
use Rattle.permutations.specs.Members.{is_member, is_distinct}
use Rattle.permutations.specs.Cyclic.{FollowsAround}
use Rattle.permutations.proofs.Members.{member-head, member-tail, distinct-head, distinct-tail, no_member-head, no_member-tail}
use Rattle.permutations.proofs.CyclicOrder.{around-member, around-distinct}
use Rattle.permutations.proofs.Orbits.{orbit-equivalence}
use Rattle.multigraph.specs.Graph.{Multigraph, IsGraph, edge_count, is_end}
use Rattle.rotations.specs.Rotation.{order_at, IsRotationSystem}
use Rattle.rotations.proofs.Membership.{member-edge, member-end}
use Rattle.graph_theory.specs.Block.{SameBlock}
use Rattle.dart_maps.specs.Map.{same_vertex}
use Rattle.dart_maps.specs.Order.{MetInOrder, frozen, connected_around}
use Rattle.dart_maps.proofs.Components.{component-least, component-ext}
use Rattle.dart_maps.proofs.FourDarts.{frozen-here, frozen-elsewhere}
use Rattle.dart_maps.proofs.Noncrossing.{noncrossing}
use Rattle.dart_maps.proofs.Rounds.{ring-in-order}
use Rattle.faces.specs.Euler.{tail, dart_from, dart_count, IsPlane}
use Rattle.faces.specs.Maps.{dart_after, dart_before}
use Rattle.faces.proofs.DartLemmas.{dart_from-edge, dart_from-below, dart_from-tail, order-distinct, member-incident}
use Rattle.faces.proofs.MapSteps.{map-permutes}
use Rattle.faces.proofs.MapVertices.{tail-vertex}
use Rattle.faces.proofs.MapCounts.{plane-map}
use Rattle.faces.proofs.MapRestricted.{dart_from-once}
use Rattle.faces.proofs.MapBlocks.{linked-block}
use Rattle.block_planes.specs.Crossing.{NoBlocksCross}
use Rattle.block_planes.proofs.WithoutVertex.{joined_off, off-equivalence, off-twin, off-after, off-block}
use Rattle.block_planes.proofs.Orders.{edges-follow}

module _ (g : Multigraph) (r : List (List ℕ)) (ok : IsGraph g) (s : IsRotationSystem g r) where
  -- the map of darts
  abbrev next : ℕ → ℕ
  next = dart_after g r

  -- what is connected without passing the vertex of p is connected without it in the graph
  around-off : (p c d : ℕ) → p < dart_count g → connected_around (edge_count g) (dart_after g r) p c d ≡ true → joined_off g (tail g p) c d ≡ true
  around-off p c d l = component-least (edge_count g) (frozen at next) (joined_off g (tail g p)) (off-equivalence g (tail g p))
      (λ z k. elim (cases_Bool (at z)) [
        | inl t ↦ subst (λ y. joined_off g (tail g p) z y ≡ true) (sym (frozen-here at next z t)) ((off-equivalence g (tail g p)).reflexive z)
        | inr t ↦ subst (λ y. joined_off g (tail g p) z y ≡ true) (sym (frozen-elsewhere at next z t))
            (off-after g r ok s (tail g p) z k ((map-permutes g r ok s).forth z k) (λ q. both_ways (at z) t (tail-vertex g r ok s p z l k (sym q))))
      ])
      (λ z k. off-twin g (tail g p) z) c d
    where
      at : ℕ → Bool
      at = same_vertex (edge_count g) (dart_after g r) p

  -- connection without passing a vertex does not depend on the dart by which the vertex is named
  around-other : (p q c d : ℕ) → same_vertex (edge_count g) (dart_after g r) p q ≡ true → connected_around (edge_count g) (dart_after g r) q c d ≡ true → connected_around (edge_count g) (dart_after g r) p c d ≡ true
  around-other p q c d t h = component-ext (edge_count g) (frozen (same_vertex (edge_count g) next p) next) (frozen (same_vertex (edge_count g) next q) next) (λ z k. step z) c d ∙ h
    where
      e : IsEquivalence (same_vertex (edge_count g) (dart_after g r))
      e = orbit-equivalence (dart_count g) (dart_after g r)

      step : (z : ℕ) → frozen (same_vertex (edge_count g) next p) next z ≡ frozen (same_vertex (edge_count g) next q) next z
      step z = elim (cases_Bool (same_vertex (edge_count g) next p z)) [
        | inl i ↦ frozen-here (same_vertex (edge_count g) next p) next z i ∙ sym (frozen-here (same_vertex (edge_count g) next q) next z (e.transitive q p z (e.symmetric p q t) i))
        | inr i ↦ frozen-elsewhere (same_vertex (edge_count g) next p) next z i ∙ sym (frozen-elsewhere (same_vertex (edge_count g) next q) next z (apart i))
      ]
        where
          apart : same_vertex (edge_count g) next p z ≡ false → same_vertex (edge_count g) next q z ≡ false
          apart i = elim (cases_Bool (same_vertex (edge_count g) next q z)) [
            | inr n ↦ n
            | inl y ↦ absurd (both_ways (same_vertex (edge_count g) next p z) i (e.transitive p q z t y))
          ]

  -- four edges that alternate
  module _ (plane : IsPlane g r) (v a b c d : ℕ) (l : v < g.vertex_count) (o : FollowsAround (order_at r v) (a ∷ b ∷ c ∷ d ∷ [])) (one : SameBlock g a c) (two : SameBlock g b d) where
    abbrev these : List ℕ
    these = a ∷ b ∷ c ∷ d ∷ []

    abbrev dart : ℕ → ℕ
    dart e = dart_from g v e

    edge : (x : ℕ) → is_member x these ≡ true → x < edge_count g
    edge x m = member-edge g v x (member-incident g r v x s l (around-member (order_at r v) these x o m))

    end : (x : ℕ) → is_member x these ≡ true → is_end g v x ≡ true
    end x m = member-end g v x (member-incident g r v x s l (around-member (order_at r v) these x o m))

    below : (x : ℕ) → is_member x these ≡ true → dart x < dart_count g
    below x m = dart_from-below g v x (edge x m)

    leaves : (x : ℕ) → is_member x these ≡ true → tail g (dart x) ≡ v
    leaves x m = dart_from-tail g v x (end x m)

    in-a : is_member a these ≡ true
    in-a = member-head a (b ∷ c ∷ d ∷ [])

    in-b : is_member b these ≡ true
    in-b = member-tail b a (b ∷ c ∷ d ∷ []) (member-head b (c ∷ d ∷ []))

    in-c : is_member c these ≡ true
    in-c = member-tail c a (b ∷ c ∷ d ∷ []) (member-tail c b (c ∷ d ∷ []) (member-head c (d ∷ [])))

    in-d : is_member d these ≡ true
    in-d = member-tail d a (b ∷ c ∷ d ∷ []) (member-tail d b (c ∷ d ∷ []) (member-tail d c (d ∷ []) (member-head d [])))

    distinct : is_distinct these ≡ true
    distinct = around-distinct (order_at r v) these o (order-distinct g r v s l)

    off-a : is_member a (b ∷ c ∷ d ∷ []) ≡ false
    off-a = distinct-head a (b ∷ c ∷ d ∷ []) distinct

    off-b : is_member b (c ∷ d ∷ []) ≡ false
    off-b = distinct-head b (c ∷ d ∷ []) (distinct-tail a (b ∷ c ∷ d ∷ []) distinct)

    off-c : is_member c (d ∷ []) ≡ false
    off-c = distinct-head c (d ∷ []) (distinct-tail b (c ∷ d ∷ []) (distinct-tail a (b ∷ c ∷ d ∷ []) distinct))

    -- their darts alternate
    in-order : MetInOrder (edge_count g) (dart_after g r) (dart_from g v a) (dart_from g v b) (dart_from g v c) (dart_from g v d)
    in-order = ring-in-order (edge_count g) next (dart_before g r) (map-permutes g r ok s) (dart a) (dart a) (dart b) (dart c) (dart d) (below a in-a) (below a in-a, below b in-b, below c in-c, below d in-d)
        (λ q. no_member-head a b (c ∷ d ∷ []) off-a (sym (dart_from-once g v a b q)))
        (λ q. no_member-head a c (d ∷ []) (no_member-tail a b (c ∷ d ∷ []) off-a) (sym (dart_from-once g v a c q)))
        (λ q. no_member-head a d [] (no_member-tail a c (d ∷ []) (no_member-tail a b (c ∷ d ∷ []) off-a)) (sym (dart_from-once g v a d q)))
        (λ q. no_member-head b c (d ∷ []) off-b (sym (dart_from-once g v b c q)))
        (λ q. no_member-head b d [] (no_member-tail b c (d ∷ []) off-b) (sym (dart_from-once g v b d q)))
        (λ q. no_member-head c d [] off-c (sym (dart_from-once g v c d q)))
        (edges-follow g r ok s (dart a) v these (below a in-a) (leaves a in-a) o)

    -- those of one block are connected without passing the vertex
    linked : (x y : ℕ) → is_member x these ≡ true → is_member y these ≡ true → SameBlock g x y → connected_around (edge_count g) (dart_after g r) (dart_from g v a) (dart_from g v x) (dart_from g v y) ≡ true
    linked x y m n h = around-other (dart a) (dart x) (dart x) (dart y) (tail-vertex g r ok s (dart a) (dart x) (below a in-a) (below x m) (leaves a in-a ∙ sym (leaves x m)))
        (linked-block g r ok s (dart x) (dart y) (below x m) (below y n) (leaves x m ∙ sym (leaves y n))
        (subst (λ z. SameBlock g z (dart y / 2)) (sym (dart_from-edge g v x)) (subst (λ z. SameBlock g x z) (sym (dart_from-edge g v y)) h)))

    -- so all are, and their edges are of one block
    all-one : SameBlock g a b
    all-one = subst (λ z. SameBlock g a z) (dart_from-edge g v b) (subst (λ z. SameBlock g z (dart b / 2)) (dart_from-edge g v a)
        (off-block g ok v (dart a) (dart b) (below a in-a) (below b in-b) (leaves a in-a) (leaves b in-b)
        (subst (λ z. joined_off g z (dart a) (dart b) ≡ true) (leaves a in-a)
        (around-off (dart a) (dart a) (dart b) (below a in-a)
        (noncrossing (edge_count g) next (dart_before g r) (map-permutes g r ok s) (plane-map g r ok s plane) (dart a) (dart b) (dart c) (dart d) in-order (linked a c in-a in-c one) (linked b d in-b in-d two))))))

  -- no blocks cross in a plane rotation system
  pub plane-no_crossing : IsPlane g r → NoBlocksCross g r
  plane-no_crossing plane v a b c d l o one two = all-one plane v a b c d l o one two
