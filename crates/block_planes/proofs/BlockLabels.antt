-- The blocks as labels of the darts: they are separated at each vertex. The law on rotation systems and blocks.
use Rattle.std.proofs.Common.{◌≡◌, ℕ, ◌*◌, ◌/◌, ◌<◌, ◌↔◌, inl, Bool, true, false, ◌&&◌, ◌==◌, List, [], ◌∷◌, length, slice_index, refl, sym, ap, ◌∙◌, subst, arith, eq-eqb, eqb-true}
use Rattle.std.proofs.lemmas.Bool.{both_ways, and_parts, and_from}
use Rattle.permutations.specs.Count.{some, least}
use Rattle.permutations.specs.Members.{is_member}
use Rattle.permutations.specs.Relation.{IsEquivalence}
use Rattle.permutations.specs.Cyclic.{FollowsAround}
use Rattle.permutations.specs.Exchange.{restricted}
use Rattle.permutations.specs.Ring.{ring}
use Rattle.permutations.proofs.Search.{some-from, some-witness, some-ext, least-below, least-passes}
use Rattle.permutations.proofs.Relation.{same-tests}
use Rattle.permutations.proofs.Arrangements.{member-at}
use Rattle.permutations.proofs.Places.{place-of}
use Rattle.permutations.proofs.Rings.{ring-below}
use Rattle.permutations.proofs.CyclicOrder.{around-member}
use Rattle.permutations.proofs.Members.{member-head, member-tail}
use Rattle.multigraph.specs.Graph.{Multigraph, IsGraph, edge_count}
use Rattle.multigraph.specs.Part.{GraphPart, IsPart}
use Rattle.rotations.specs.Rotation.{IsRotationSystem}
use Rattle.graph_theory.specs.Block.{SameBlock}
use Rattle.dart_maps.specs.Map.{twin, same_vertex}
use Rattle.dart_maps.specs.Map as maps
use Rattle.dart_maps.proofs.Darts.{twin-edge}
use Rattle.dart_maps.proofs.Euler.{plane-ext}
use Rattle.blocks.specs.Blocks.{block_at, AreBlocks}
use Rattle.blocks.proofs.BlockParts.{block-edges_in}
use Rattle.faces.specs.Euler.{tail, dart_count, IsPlane}
use Rattle.faces.specs.Maps.{dart_after, dart_before}
use Rattle.faces.specs.Subgraph.{is_kept}
use Rattle.faces.proofs.DartLemmas.{dart-edge}
use Rattle.faces.proofs.MapSteps.{tail-in, map-permutes}
use Rattle.faces.proofs.MapVertices.{vertex-tail, tail-vertex}
use Rattle.faces.proofs.MapCounts.{map-plane}
use Rattle.block_planes.specs.Crossing.{NoBlocksCross, IsPlaneOn}
use Rattle.block_planes.proofs.WithoutVertex.{joined_off, off-equivalence, off-twin, off-after, off-block}
use Rattle.block_planes.proofs.Separated.{IsSeparated}
use Rattle.block_planes.proofs.Together.{restricted-ext, labels-plane}
use Rattle.block_planes.proofs.Orders.{darts-follow}
use Rattle.block_planes.proofs.NoCrossing.{plane-no_crossing}
use Rattle.block_planes.proofs.OnParts.{plane-on_part, on_part-plane}

module _ (g : Multigraph) (r blocks : List (List ℕ)) (part : ℕ → GraphPart) (ok : IsGraph g) (s : IsRotationSystem g r) (are : AreBlocks g blocks) (parts : (b : ℕ) → b < length blocks → IsPart g (block_at blocks b) (part b)) where
  -- the block of a dart's edge
  abbrev label : ℕ → ℕ
  label d = least (length blocks) (λ b. is_member (d / 2) (block_at blocks b))

  label-is : (d : ℕ) → d < dart_count g → (label d < length blocks) × (is_member (d / 2) (block_at blocks (label d)) ≡ true)
  label-is d l =
      let w = are.each (d / 2) (dart-edge g d l) in
      let found : some (length blocks) (λ b. is_member (d / 2) (block_at blocks b)) ≡ true = some-from (length blocks) (λ b. is_member (d / 2) (block_at blocks b)) w.0 w.1 w.2 in
      (least-below (length blocks) (λ b. is_member (d / 2) (block_at blocks b)) found, least-passes (length blocks) (λ b. is_member (d / 2) (block_at blocks b)) found)

  -- darts have one label exactly where their edges are of one block
  label-same : (c d : ℕ) → c < dart_count g → d < dart_count g → (label c ≡ label d) ↔ SameBlock g (c / 2) (d / 2)
  label-same c d l k = are.same (label c) (label d) (c / 2) (d / 2) (label-is c l).0 (label-is d k).0 (label-is c l).1 (label-is d k).1

  label-twin : (d : ℕ) → d < 2 * edge_count g → label (twin d) ≡ label d
  label-twin d l = ap (λ e. least (length blocks) (λ b. is_member e (block_at blocks b))) (twin-edge d)

  -- at each vertex the edges of a block are distinguished from the others by what is connected with them without the vertex
  label-separated : (u : ℕ) → u < 2 * edge_count g → (k : ℕ) → IsSeparated (edge_count g) (dart_after g r) label u k
  label-separated u l k = record {
    side = λ d. some (dart_count g) (reached d);
    edges = λ d h. some-ext (dart_count g) (reached (twin d)) (reached d) (λ z i. ap (λ y. starts z && y) (same-tests (joined_off g (tail g u) z (twin d)) (joined_off g (tail g u) z d)
        (λ t. e.transitive z (twin d) d t (e.symmetric d (twin d) (off-twin g (tail g u) d)))
        (λ t. e.transitive z d (twin d) t (off-twin g (tail g u) d))));
    elsewhere = λ d h n. some-ext (dart_count g) (reached (dart_after g r d)) (reached d) (λ z i. ap (λ y. starts z && y) (same-tests (joined_off g (tail g u) z (dart_after g r d)) (joined_off g (tail g u) z d)
        (λ t. e.transitive z (dart_after g r d) d t (e.symmetric d (dart_after g r d) (step d h n)))
        (λ t. e.transitive z d (dart_after g r d) t (step d h n))));
    here = λ d h t. same-tests (some (dart_count g) (reached d)) (label d == k)
        (λ i. let z = some-witness (dart_count g) (reached d) i in
        let both = and_parts (starts z.0) (joined_off g (tail g u) z.0 d) z.2 in
        let at = and_parts (same_vertex (edge_count g) (dart_after g r) u z.0) (label z.0 == k) both.0 in
        eq-eqb (label d) k (sym ((label-same z.0 d z.1 h).1 (off-block g ok (tail g u) z.0 d z.1 h (sym (vertex-tail g r ok s u z.0 at.0)) (sym (vertex-tail g r ok s u d t)) both.1)) ∙ eqb-true (label z.0) k at.1))
        (λ i. some-from (dart_count g) (reached d) d h (and_from (starts d) (joined_off g (tail g u) d d) (and_from (same_vertex (edge_count g) (dart_after g r) u d) (label d == k) t i) (e.reflexive d)));
  }
    where
      starts : ℕ → Bool
      starts z = same_vertex (edge_count g) (dart_after g r) u z && (label z == k)

      reached : ℕ → ℕ → Bool
      reached d z = (same_vertex (edge_count g) (dart_after g r) u z && (label z == k)) && joined_off g (tail g u) z d

      e : IsEquivalence (joined_off g (tail g u))
      e = off-equivalence g (tail g u)

      step : (d : ℕ) → d < 2 * edge_count g → same_vertex (edge_count g) (dart_after g r) u d ≡ false → joined_off g (tail g u) d (dart_after g r d) ≡ true
      step d h n = off-after g r ok s (tail g u) d h ((map-permutes g r ok s).forth d h) (λ q. both_ways (same_vertex (edge_count g) (dart_after g r) u d) n (tail-vertex g r ok s u d l h (sym q)))

  -- where no blocks cross, no labels cross
  label-none : NoBlocksCross g r → (x p q v w : ℕ) → x < 2 * edge_count g → FollowsAround (ring (2 * edge_count g) (dart_after g r) x) (p ∷ q ∷ v ∷ w ∷ []) → label p ≡ label v → label q ≡ label w → label p ≡ label q
  label-none free x p q v w l o i j = (label-same p q in-p in-q).1 (free (tail g x) (p / 2) (q / 2) (v / 2) (w / 2) (tail-in g x ok l) (darts-follow g r ok s x (p ∷ q ∷ v ∷ w ∷ []) l o)
      ((label-same p v in-p in-v).0 i) ((label-same q w in-q in-w).0 j))
    where
      below : (z : ℕ) → is_member z (p ∷ q ∷ v ∷ w ∷ []) ≡ true → z < 2 * edge_count g
      below z m = ring-below (2 * edge_count g) (dart_after g r) (dart_before g r) (map-permutes g r ok s) x l z (around-member (ring (2 * edge_count g) (dart_after g r) x) (p ∷ q ∷ v ∷ w ∷ []) z o m)

      in-p : p < 2 * edge_count g
      in-p = below p (member-head p (q ∷ v ∷ w ∷ []))

      in-q : q < 2 * edge_count g
      in-q = below q (member-tail q p (q ∷ v ∷ w ∷ []) (member-head q (v ∷ w ∷ [])))

      in-v : v < 2 * edge_count g
      in-v = below v (member-tail v p (q ∷ v ∷ w ∷ []) (member-tail v q (v ∷ w ∷ []) (member-head v (w ∷ []))))

      in-w : w < 2 * edge_count g
      in-w = below w (member-tail w p (q ∷ v ∷ w ∷ []) (member-tail w q (v ∷ w ∷ []) (member-tail w v (w ∷ []) (member-head w []))))

  -- where the rotation system is plane on each block, the edges of each label are
  label-each : ((b : ℕ) → b < length blocks → IsPlaneOn (part b) r) → (x : ℕ) → x < 2 * edge_count g → maps.IsPlane (edge_count g) (restricted (2 * edge_count g) (λ d. label d == label x) (dart_after g r))
  label-each on x l = plane-ext (edge_count g) (restricted (dart_count g) kept (dart_after g r)) (restricted (dart_count g) (λ d. label d == label x) (dart_after g r))
      (restricted-ext (dart_count g) kept (λ d. label d == label x) (dart_after g r) (dart_before g r) (map-permutes g r ok s) same)
      (on_part-plane g ok (block_at blocks b) (block-edges_in g blocks b are at) (part b) h r s (on b at))
    where
      b : ℕ
      b = label x

      at : label x < length blocks
      at = (label-is x l).0

      h : IsPart g (block_at blocks (label x)) (part (label x))
      h = parts b at

      kept : ℕ → Bool
      kept d = is_kept (part (label x)).graph (slice_index (part (label x)).edges) (d / 2)

      same : (d : ℕ) → d < dart_count g → kept d ≡ (label d == label x)
      same d k = same-tests (kept d) (label d == label x)
          (λ t. let w = some-witness (edge_count (part b).graph) (λ i. slice_index (part b).edges i == d / 2) t in
          let m : is_member (d / 2) (part b).edges ≡ true = subst (λ e. is_member e (part b).edges ≡ true) (eqb-true (slice_index (part b).edges w.0) (d / 2) w.2) (member-at (part b).edges w.0 0 (omega (arith, w.1, h.numbered.edge_each))) in
          eq-eqb (label d) b ((are.same (label d) b (d / 2) (d / 2) (label-is d k).0 at (label-is d k).1 (subst (λ e. is_member (d / 2) e ≡ true) h.edges_are m)).1 (inl refl)))
          (λ t. let m : is_member (d / 2) (part b).edges ≡ true = subst (λ e. is_member (d / 2) e ≡ true) (sym h.edges_are) (subst (λ c. is_member (d / 2) (block_at blocks c) ≡ true) (eqb-true (label d) b t) (label-is d k).1) in
          let i = place-of (part b).edges (d / 2) m in
          some-from (edge_count (part b).graph) (λ j. slice_index (part b).edges j == d / 2) i.0 (omega (arith, i.1, h.numbered.edge_each)) (eq-eqb (slice_index (part b).edges i.0) (d / 2) i.2))

  -- a rotation system that is plane on each block, and in which no blocks cross, is plane
  blocks-plane : ((b : ℕ) → b < length blocks → IsPlaneOn (part b) r) → NoBlocksCross g r → IsPlane g r
  blocks-plane on free = map-plane g r ok s (labels-plane (edge_count g) (dart_after g r) (dart_before g r) (map-permutes g r ok s) label label-twin label-separated (label-none free) (label-each on))

  -- and only such
  pub plane_by_blocks : IsPlane g r ↔ (((b : ℕ) → b < length blocks → IsPlaneOn (part b) r) × NoBlocksCross g r)
  plane_by_blocks = (
    λ plane. (λ b l. plane-on_part g ok (block_at blocks b) (block-edges_in g blocks b are l) (part b) (parts b l) r s plane, plane-no_crossing g r ok s plane),
    λ both. blocks-plane both.0 both.1,
  )
