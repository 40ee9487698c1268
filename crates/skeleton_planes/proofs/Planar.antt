-- A block has a plane rotation system exactly where each of its triconnected skeletons has one.
use Rattle.std.proofs.Common.{◌≡◌, ℕ, ◌<◌, ◌≤◌, ◌⊎◌, List, [], length, map, inl, inr, refl, sym, ap, ◌∙◌, subst, arith}
use Rattle.std.proofs.lemmas.Bool.{cases_lt}
use Rattle.std.proofs.lemmas.List.{get_or-map, length-map}
use Rattle.multigraph.specs.Graph.{Multigraph, numbers_below}
use Rattle.multigraph.proofs.Below.{length-numbers_below, get_or-numbers_below}
use Rattle.pair_split.specs.Skeleton.{IsOfKind}
use Rattle.pair_split.specs.Split.{skeleton}
use Rattle.pair_split.specs.Tutte.{Node, components, node_at}
use Rattle.pair_split.specs.declared.components.Kind.{Kind}
use Rattle.pair_split.specs.declared.components.Kind.TheVariants.{S, P, R, B}
use Rattle.pair_split.proofs.NodeParts.{node-kind}
use Rattle.skeletons.specs.Items.{IsBlockTree}
use Rattle.skeletons.specs.Families.{skeleton_graph, system_at, AreSkeletonSystems}
use Rattle.faces.specs.Euler.{IsPlaneSystem}
use Rattle.skeletons.specs.Moves.{IsNodeOfKind}
use Rattle.skeletons.specs.Laws.{PlanarWhereSkeletonsAre}
use Rattle.skeletons.proofs.NodeItems.{comp-in}
use Rattle.skeletons.proofs.Places.{family-followed, contiguous-follows}
use Rattle.skeleton_runs.proofs.Contiguous.{plane-contiguous}
use Rattle.skeleton_planes.proofs.PolygonSkeleton.{rising_system, rising-system, polygon-system_plane}
use Rattle.skeleton_planes.proofs.BondSkeleton.{bond-system_plane}
use Rattle.skeleton_planes.proofs.Followed.{follows-plane, follows-plane_back}

-- a skeleton has a plane rotation system, where it has one if it is triconnected
pub skeleton-planar : (g : Multigraph) (nodes : List Node) → IsBlockTree g nodes → (k : ℕ) → k < length nodes → ((node_at nodes k).kind ≡ R → (s : List (List ℕ)) × IsPlaneSystem (skeleton_graph nodes k) s) → (s : List (List ℕ)) × IsPlaneSystem (skeleton_graph nodes k) s
skeleton-planar g nodes b k l rigid = by_kind (node_at nodes k).kind (subst (λ (kind : Kind). IsOfKind kind (skeleton (components nodes) k)) (node-kind nodes k) (b.tree.split.of_kind.kinds k (comp-in g nodes b.tree k l)).of_kind) rigid
  where
    by_kind : (kind : Kind) → IsOfKind kind (skeleton (components nodes) k) → (kind ≡ R → (s : List (List ℕ)) × IsPlaneSystem (skeleton_graph nodes k) s) → (s : List (List ℕ)) × IsPlaneSystem (skeleton_graph nodes k) s
    by_kind S h r = (rising_system (skeleton_graph nodes k), record { system = rising-system (skeleton_graph nodes k); plane = polygon-system_plane g nodes b k l (rising_system (skeleton_graph nodes k)) (rising-system (skeleton_graph nodes k)) h })
    by_kind P h r = bond-system_plane g nodes b k l h.two
    by_kind R h r = r refl
    by_kind B h r = bond-system_plane g nodes b k l h.two

-- rotation systems given one by one, as a family
module _ (g : Multigraph) (nodes : List Node) (each : (k : ℕ) → k < length nodes → (s : List (List ℕ)) × IsPlaneSystem (skeleton_graph nodes k) s) where
  -- the one of node k, where there is a node
  picked : (k : ℕ) → (k < length nodes) ⊎ (length nodes ≤ k) → List (List ℕ)
  picked k (inl l) = (each k l).0
  picked k (inr l) = []

  -- it is plane
  picked-plane : (k : ℕ) → k < length nodes → (c : (k < length nodes) ⊎ (length nodes ≤ k)) → IsPlaneSystem (skeleton_graph nodes k) (picked k c)
  unfolding picked
  picked-plane k l (inl m) = (each k m).1
  picked-plane k l (inr m) = absurd (omega (arith, l, m))

  -- the family
  pub all_picked : List (List (List ℕ))
  all_picked = map (λ k. picked k (cases_lt k (length nodes))) (numbers_below (length nodes))

  -- its members
  picked-at : (k : ℕ) → k < length nodes → system_at all_picked k ≡ picked k (cases_lt k (length nodes))
  unfolding all_picked
  picked-at k l = get_or-map (λ k. picked k (cases_lt k (length nodes))) (numbers_below (length nodes)) k 0 [] (subst (λ n. k < n) (sym (length-numbers_below (length nodes))) l)
      ∙ ap (λ i. picked i (cases_lt i (length nodes))) (get_or-numbers_below (length nodes) k 0 l)

  -- each is plane
  pub all-picked_plane : (k : ℕ) → k < length nodes → IsPlaneSystem (skeleton_graph nodes k) (system_at all_picked k)
  all-picked_plane k l = subst (IsPlaneSystem (skeleton_graph nodes k)) (sym (picked-at k l)) (picked-plane k l (cases_lt k (length nodes)))

  -- so they are a family
  pub all-picked_systems : AreSkeletonSystems nodes all_picked
  unfolding all_picked
  all-picked_systems = record { each = length-map (numbers_below (length nodes)) (λ k. picked k (cases_lt k (length nodes))) ∙ length-numbers_below (length nodes); systems = λ k l. (all-picked_plane k l).system }

-- the law
pub planar-skeletons : PlanarWhereSkeletonsAre
planar-skeletons g nodes b = (there, back)
  where
    there : ((r : List (List ℕ)) × IsPlaneSystem g r) → (k : ℕ) → IsNodeOfKind nodes k R → (s : List (List ℕ)) × IsPlaneSystem (skeleton_graph nodes k) s
    there w k n = let f = contiguous-follows g nodes w.0 b w.1.system (plane-contiguous g nodes w.0 b w.1) in
        (system_at f.0 k, record { system = f.1.systems k n.0; plane = follows-plane_back g nodes b f.0 f.1 w.0 w.1.system f.2 w.1.plane k n.0 })

    back : ((k : ℕ) → IsNodeOfKind nodes k R → (s : List (List ℕ)) × IsPlaneSystem (skeleton_graph nodes k) s) → (r : List (List ℕ)) × IsPlaneSystem g r
    back h = let each : (k : ℕ) → k < length nodes → (s : List (List ℕ)) × IsPlaneSystem (skeleton_graph nodes k) s = λ k l. skeleton-planar g nodes b k l (λ e. h k (l, e)) in
        let family : List (List (List ℕ)) = all_picked g nodes each in
        let systems : AreSkeletonSystems nodes (all_picked g nodes each) = all-picked_systems g nodes each in
        let w = family-followed g nodes family b systems in
        (w.0, record { system = w.1; plane = follows-plane g nodes b family systems w.0 w.1 w.2 (λ k l. (all-picked_plane g nodes each k l).plane) })
