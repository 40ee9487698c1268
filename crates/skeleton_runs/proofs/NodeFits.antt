-- The vertices, items and keys of a node are those of its component, and within the graph.
use Rattle.std.proofs.Common.{◌≡◌, ℕ, ◌<◌, ◌==◌, true, List, length, refl, sym, ap, ◌∙◌, subst}
use Rattle.std.proofs.lemmas.Bool.{or_left, or_right, eq-eqb, eqb-true}
use Rattle.permutations.proofs.Search.{some-from, least-below}
use Rattle.multigraph.specs.Graph.{Multigraph, edge_count, IsGraph}
use Rattle.multigraph.proofs.OtherEnd.{end-in}
use Rattle.pair_split.specs.Skeleton.{is_end_of, is_vertex}
use Rattle.pair_split.specs.Split.{items_of, item_at, piece_ends, skeleton, side}
use Rattle.pair_split.specs.Tutte.{Node, components, node_at, node_item, key_of, has_in_group, group, IsTutte}
use Rattle.pair_split.specs.declared.components.What.{What}
use Rattle.pair_split.specs.declared.components.What.TheVariants.{Real, Link}
use Rattle.pair_split.specs.declared.components.Piece.{Piece}
use Rattle.pair_split.specs.declared.components.Comp.{Comp}
use Rattle.pair_split.proofs.Groups.{Touched, end-touched}
use Rattle.pair_split.proofs.LargeSides.{vertex-item}
use Rattle.pair_split.proofs.NodeParts.{node-piece}
use Rattle.skeletons.specs.Items.{has_vertex}
use Rattle.skeletons.proofs.NodeItems.{vertex-node, piece-in, what-at, group-is}
use Rattle.skeleton_runs.proofs.Items.{item-vertex as component-vertex}

module _ (g : Multigraph) (nodes : List Node) (t : IsTutte g nodes) where
  abbrev comps : List Comp
  comps = components nodes

  -- the group of an edge is named by the key of the item that has it in its group
  pub group-key : (k i e : ℕ) → i < length (node_at nodes k).items → e < edge_count g → has_in_group (components nodes) k e (item_at (components nodes) k i).what ≡ true → group nodes k e ≡ (node_item nodes k i).key
  group-key k i e l b h = group-is g nodes t k i e l b (ap (has_in_group comps k e) (sym (what-at g nodes t k i l)) ∙ h)

  -- the vertices of a node are those of its skeleton
  pub vertex-skeleton : (k v : ℕ) → has_vertex nodes k v ≡ true → is_vertex (skeleton (components nodes) k) v ≡ true
  vertex-skeleton k v h = sym (t.in_order.vertices k v (vertex-node nodes k v h)) ∙ h

  -- and vertices of the graph
  pub vertex-fits : IsGraph g → (k v : ℕ) → has_vertex nodes k v ≡ true → v < g.vertex_count
  vertex-fits ok k v h =
      let i = vertex-item (items_of comps k) v (vertex-skeleton k v h) in
      let w : Touched g comps t.split k i.0 v = end-touched g comps t.split k i.0 v i.1 i.2 in
      end-in g v w.edge ok w.edge_in w.end

  -- the ends of an item are vertices of its node
  pub item-first : (k i : ℕ) → k < length nodes → i < length (node_at nodes k).items → has_vertex nodes k (node_item nodes k i).a ≡ true
  item-first k i l m = t.in_order.vertices k (node_item nodes k i).a l ∙ component-vertex g comps t.split k i (node_item nodes k i).a (piece-in g nodes t k i m)
      (subst (λ (p : Piece). is_end_of (node_item nodes k i).a (piece_ends p) ≡ true) (sym (node-piece nodes k i m))
      (or_left ((node_item nodes k i).a == (node_item nodes k i).a) ((node_item nodes k i).b == (node_item nodes k i).a) (eq-eqb (node_item nodes k i).a (node_item nodes k i).a refl)))

  pub item-second : (k i : ℕ) → k < length nodes → i < length (node_at nodes k).items → has_vertex nodes k (node_item nodes k i).b ≡ true
  item-second k i l m = t.in_order.vertices k (node_item nodes k i).b l ∙ component-vertex g comps t.split k i (node_item nodes k i).b (piece-in g nodes t k i m)
      (subst (λ (p : Piece). is_end_of (node_item nodes k i).b (piece_ends p) ≡ true) (sym (node-piece nodes k i m))
      (or_right ((node_item nodes k i).a == (node_item nodes k i).b) ((node_item nodes k i).b == (node_item nodes k i).b) (eq-eqb (node_item nodes k i).b (node_item nodes k i).b refl)))

  -- the key of an item is an edge
  pub key-fits : (k i : ℕ) → i < length (node_at nodes k).items → (node_item nodes k i).key < edge_count g
  key-fits k i l = subst (λ (z : ℕ). z < edge_count g) (sym (t.in_order.keys k i l)) (fits (node_item nodes k i).what w.edge w.edge_in (ap (has_in_group comps k w.edge) (sym (what-at g nodes t k i l)) ∙ w.in_group))
    where
      w : Touched g comps t.split k i (item_at comps k i).a
      w = end-touched g comps t.split k i (item_at comps k i).a (piece-in g nodes t k i l) (or_left ((item_at comps k i).a == (item_at comps k i).a) ((item_at comps k i).b == (item_at comps k i).a) (eq-eqb (item_at comps k i).a (item_at comps k i).a refl))

      fits : (what : What) (e : ℕ) → e < edge_count g → has_in_group comps k e what ≡ true → key_of g nodes k what < edge_count g
      fits (Real f) e l h = subst (λ (z : ℕ). z < edge_count g) (sym (eqb-true f e h)) l
      fits (Link j) e l h = least-below (edge_count g) (side comps k j) (some-from (edge_count g) (side comps k j) e l h)
