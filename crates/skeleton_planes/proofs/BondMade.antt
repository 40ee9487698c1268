-- Each cyclic order of a bond's items is that of a plane rotation system at the lesser pole.
use Rattle.std.proofs.Common.{◌≡◌, ℕ, ◌<◌, ◌⊎◌, ◌==◌, cond, List, [], map, reverse, inl, inr, sym, ap, ◌∙◌, subst}
use Rattle.std.proofs.lemmas.List.{get_or-map, length-map}
use Rattle.permutations.specs.Members.{is_member}
use Rattle.permutations.specs.Cyclic.{from_least}
use Rattle.permutations.proofs.Members.{member-reverse, distinct-reverse}
use Rattle.permutations.proofs.NormalForm.{from_least-member, from_least-distinct}
use Rattle.permutations.proofs.Arrangements.{permutation-member, permutation-distinct, permutation-from_members}
use Rattle.multigraph.specs.Graph.{Multigraph, numbers_below, incident_edges}
use Rattle.multigraph.proofs.Below.{length-numbers_below, get_or-numbers_below}
use Rattle.rotations.specs.Rotation.{order_at, IsCyclicOrder, IsRotationSystem}
use Rattle.rotations.proofs.Membership.{incident-distinct, incident-least}
use Rattle.faces.proofs.MapLists.{first-same}
use Rattle.faces.proofs.MapPartOrders.{from_least-least}
use Rattle.pair_split.specs.Skeleton.{HasPoles}
use Rattle.pair_split.specs.Split.{skeleton}
use Rattle.pair_split.specs.Tutte.{Node, components}
use Rattle.pair_split.specs.declared.components.Kind.TheVariants.{P}
use Rattle.skeletons.specs.Items.{IsBlockTree}
use Rattle.skeletons.specs.Families.{skeleton_graph}
use Rattle.faces.specs.Euler.{IsPlaneSystem}
use Rattle.skeletons.specs.Moves.{IsNodeOfKind}
use Rattle.skeleton_planes.specs.Laws.{BondHasEachOrder}
use Rattle.skeleton_planes.proofs.BondSkeleton.{lesser-in, greater-in, same-incident}
use Rattle.skeleton_planes.proofs.OneSystem.{kind-of, place-cases, lesser-place, greater-place, bond-law}

-- the other way round a cyclic order is a cyclic order
reversed-order : (g : Multigraph) (v : ℕ) (o : List ℕ) → IsCyclicOrder (incident_edges g v) o → IsCyclicOrder (incident_edges g v) (from_least (reverse o))
reversed-order g v o c = record {
  arranged = permutation-from_members (incident_edges g v) (from_least (reverse o)) (incident-distinct g v) (from_least-distinct (reverse o) (distinct-reverse o (permutation-distinct (incident_edges g v) o c.arranged (incident-distinct g v)))) members;
  least_first = sym (first-same (incident_edges g v) (from_least (reverse o)) members (incident-least g v) (from_least-least (reverse o)));
}
  where
    members : (z : ℕ) → is_member z (incident_edges g v) ≡ is_member z (from_least (reverse o))
    members z = sym (from_least-member (reverse o) z ∙ member-reverse z o ∙ permutation-member (incident_edges g v) o z c.arranged)

-- a bond
module _ (g : Multigraph) (nodes : List Node) (b : IsBlockTree g nodes) (k : ℕ) (n : IsNodeOfKind nodes k P) where
  -- its poles
  poles : HasPoles (skeleton (components nodes) k)
  poles = (kind-of g nodes b k P n).two

  -- its skeleton
  abbrev graph : Multigraph
  graph = skeleton_graph nodes k

  -- it has no places but 0 and 1
  places : (p : ℕ) → p < graph.vertex_count → (p ≡ 0) ⊎ (p ≡ 1)
  places p l = elim (place-cases g nodes b k n.0 poles p l) [
    | inl e ↦ inl (e ∙ lesser-place g nodes b k n.0 poles)
    | inr e ↦ inr (e ∙ greater-place g nodes b k n.0 poles)
  ]

  -- a cyclic order of the items
  module _ (o : List ℕ) (order : IsCyclicOrder (incident_edges (skeleton_graph nodes k) 0) o) where
    -- at the lesser pole, and the other way round at the other
    abbrev made : List (List ℕ)
    made = map (λ v. cond (v == 0) o (from_least (reverse o))) (numbers_below graph.vertex_count)

    -- the same edges stand at both
    same-edges : incident_edges graph 1 ≡ incident_edges graph 0
    same-edges = ap (incident_edges graph) (sym (greater-place g nodes b k n.0 poles)) ∙ same-incident g nodes b k n.0 poles ∙ ap (incident_edges graph) (lesser-place g nodes b k n.0 poles)

    -- the order at a vertex
    made-at : (v : ℕ) → v < graph.vertex_count → order_at made v ≡ cond (v == 0) o (from_least (reverse o))
    made-at v l = get_or-map (λ v. cond (v == 0) o (from_least (reverse o))) (numbers_below graph.vertex_count) v 0 [] (subst (λ n. v < n) (sym (length-numbers_below graph.vertex_count)) l)
        ∙ ap (λ u. cond (u == 0) o (from_least (reverse o))) (get_or-numbers_below graph.vertex_count v 0 l)

    -- there are the two vertices
    zero-in : 0 < graph.vertex_count
    zero-in = subst (λ p. p < graph.vertex_count) (lesser-place g nodes b k n.0 poles) (lesser-in g nodes b k n.0 poles)

    -- the other
    one-in : 1 < graph.vertex_count
    one-in = subst (λ p. p < graph.vertex_count) (greater-place g nodes b k n.0 poles) (greater-in g nodes b k n.0 poles)

    -- it is a rotation system
    made-system : IsRotationSystem (skeleton_graph nodes k) made
    made-system = record {
      vertices = length-map (numbers_below graph.vertex_count) (λ v. cond (v == 0) o (from_least (reverse o))) ∙ length-numbers_below graph.vertex_count;
      orders = λ v l. subst (IsCyclicOrder (incident_edges graph v)) (sym (made-at v l)) (elim (places v l) [
        | inl e ↦ subst (λ u. IsCyclicOrder (incident_edges graph u) (cond (u == 0) o (from_least (reverse o)))) (sym e) order
        | inr e ↦ subst (λ u. IsCyclicOrder (incident_edges graph u) (cond (u == 0) o (from_least (reverse o)))) (sym e)
            (subst (λ es. IsCyclicOrder es (from_least (reverse o))) (sym same-edges) (reversed-order graph 0 o order))
      ]);
    }

    -- plane, with this order
    pub bond-made : (s : List (List ℕ)) × IsPlaneSystem (skeleton_graph nodes k) s × (order_at s 0 ≡ o)
    bond-made = (made, record { system = made-system; plane = (bond-law g nodes b k n made made-system).1 (made-at 1 one-in ∙ ap (λ l. from_least (reverse l)) (sym (made-at 0 zero-in))) }, made-at 0 zero-in)

-- the law
pub bond-orders : BondHasEachOrder
bond-orders g nodes b k n o order = bond-made g nodes b k n o order
