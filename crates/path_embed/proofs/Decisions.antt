-- A graph with an obstacle has no plane rotation system.
use Rattle.std.proofs.Common.{◌≡◌, ℕ, ◌<◌, ◌⊎◌, inl, inr, true, false, List, [], ◌∷◌, length, slice_index, refl, sym, ap, ◌∙◌, subst, arith, Option, None, Some, IfSome, MatchOption}
use Rattle.std.proofs.lemmas.Bool.{true≢false}
use Rattle.permutations.specs.Members.{is_member}
use Rattle.permutations.specs.Relation.{connected}
use Rattle.permutations.proofs.Members.{no_member-cons}
use Rattle.permutations.proofs.Relation.{connected-reflexive, connected-symmetric, connected-transitive}
use Rattle.multigraph.specs.Graph.{Multigraph, IsGraph}
use Rattle.multigraph.specs.Part.{GraphPart}
use Rattle.rotations.specs.Rotation.{IsRotationSystem}
use Rattle.graph_theory.specs.Connected.{IsConnected}
use Rattle.graph_theory.specs.Triconnected.{IsTriconnected}
use Rattle.graph_theory.proofs.Connection.{ends-connected}
use Rattle.graph_theory.proofs.Removed.{least-without}
use Rattle.faces.specs.Euler.{IsPlaneSystem}
use Rattle.faces.specs.Subgraph.{IsSubgraph, IsRestriction}
use Rattle.faces.proofs.MapParts.{part-plane}
use Rattle.faces.proofs.MapPartOrders.{part-orders}
use Rattle.block_planes.proofs.OnParts.{part-subgraph}
use Rattle.blocks.specs.Blocks.{BlockStructure, IsBlockStructure, block_at}
use Rattle.pair_split.specs.Tutte.{Node}
use Rattle.pair_split.specs.Kinds.{is_rigid}
use Rattle.pair_split.specs.declared.components.Kind.{Kind}
use Rattle.pair_split.specs.declared.components.Kind.TheVariants.{S, P, R, B}
use Rattle.skeletons.specs.Items.{IsBlockTree}
use Rattle.skeleton_planes.proofs.Planar.{planar-skeletons}
use Rattle.path_embed.specs.Planar.{HasPlaneSystem, HasNoPlaneSystem, IsPlanarNode, IsPlanarPart, HasPlanarBlocks}
use Rattle.path_embed.specs.Found.{IsPartOf, IsObstacle}
use Rattle.path_embed.specs.declared.deciding.Obstacle.{Obstacle}

-- a polygon, a bond, and one edge or two are not triconnected nodes
pub not-rigid : (kind : Kind) → (kind ≡ S) ⊎ (kind ≡ P) ⊎ (kind ≡ B) → kind ≡ R → ⊥
not-rigid kind h e = elim h [
  | inl q ↦ true≢false (sym (ap is_rigid (sym q ∙ e)))
  | inr o ↦ elim o [
    | inl q ↦ true≢false (sym (ap is_rigid (sym q ∙ e)))
    | inr q ↦ true≢false (sym (ap is_rigid (sym q ∙ e)))
  ]
]

-- each part of a graph with a plane rotation system has one
pub part-planar : (g : Multigraph) → IsGraph g → (part : GraphPart) → IsPartOf g part → HasPlaneSystem g → HasPlaneSystem part.graph
part-planar g ok part h w =
    let sub : IsSubgraph part.graph g (slice_index part.edges) (slice_index part.vertices) = part-subgraph g ok part.edges h.inside part h.is_part in
    let left : (inner : List (List ℕ)) × IsRotationSystem part.graph inner × IsRestriction part.graph (slice_index part.edges) (slice_index part.vertices) w.0 inner =
    part-orders part.graph g (slice_index part.edges) (slice_index part.vertices) w.0 h.is_part.numbered.is_graph ok sub w.1.system in (
      left.0,
      record {
        system = left.1;
        plane = part-plane part.graph g (slice_index part.edges) (slice_index part.vertices) w.0 left.0 h.is_part.numbered.is_graph ok sub w.1.system left.1 left.2 w.1.plane;
      },
    )

-- a block has a plane rotation system where the skeletons of its triconnected nodes have
pub block-planar : (g : Multigraph) (nodes : List Node) → IsBlockTree g nodes → ((k : ℕ) → k < length nodes → IsPlanarNode nodes k) → HasPlaneSystem g
block-planar g nodes b planar = (planar-skeletons g nodes b).1 (λ k n. planar k n.0 n.1)

-- an obstacle excludes plane rotation systems
pub obstacle-excludes : (g : Multigraph) → IsGraph g → (o : Obstacle) → IsObstacle g o → HasNoPlaneSystem g
obstacle-excludes g ok o h r p =
    let block : HasPlaneSystem o.block.graph = part-planar g ok o.block h.block (r, p) in
    let skeleton = (planar-skeletons o.block.graph o.tree h.tree).0 block o.node h.node.node in
    h.node.nonplanar skeleton.0 (subst (λ (z : Multigraph). IsPlaneSystem z skeleton.0) (sym h.node.skeleton_is) skeleton.1)

-- what is decided of the blocks, as an answer for the graph
pub decided-blocks : (g : Multigraph) (s : BlockStructure) → IsBlockStructure g s → (answer : Option Obstacle)
    → MatchOption answer ((b : ℕ) → b < length s.blocks → IsPlanarPart g (block_at s.blocks b)) (IsObstacle g) → MatchOption answer (HasPlanarBlocks g) (IsObstacle g)
decided-blocks g s is None h = (s, is, h)
decided-blocks g s is (Some o) h = h

-- an obstacle that is returned excludes plane rotation systems
pub decided-excludes : (g : Multigraph) → IsGraph g → (Q : Type 0) (answer : Option Obstacle) → MatchOption answer Q (IsObstacle g) → IfSome answer (λ _. HasNoPlaneSystem g)
decided-excludes g ok Q None h = tt
decided-excludes g ok Q (Some o) h = obstacle-excludes g ok o h

-- a number below another is not that one
beyond-both : (x n : ℕ) → x < n → is_member x (n ∷ n ∷ []) ≡ false
beyond-both x n l = no_member-cons x n (n ∷ []) (λ e. omega (arith, e, l)) (no_member-cons x n [] (λ e. omega (arith, e, l)) refl)

-- a triconnected graph is connected
pub triconnected-connected : (g : Multigraph) → IsTriconnected g → IsConnected g
triconnected-connected g t u v a b =
    let n = g.vertex_count in
    least-without g (n ∷ n ∷ []) (λ x y. connected g.ends x y ≡ true) (connected-reflexive g.ends) (connected-symmetric g.ends) (connected-transitive g.ends) (λ e l p q. ends-connected g e l) u v
    (t.stays_connected n n u v a b (beyond-both u n a) (beyond-both v n b))
