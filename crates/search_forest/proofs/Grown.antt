-- What a finished search has found of edges, parents and order.
use Rattle.std.proofs.Common.{◌≡◌, ℕ, ◌+◌, ◌<◌, true, false, List, ◌∷◌, ◌++◌, length, take, drop, get_or, sym, ap, ◌∙◌, subst, arith}
use Rattle.std.proofs.lemmas.Bool.{eq-eqb, eqb-true}
use Rattle.std.proofs.lemmas.List.{drop_more, take-append-drop}
use Rattle.permutations.specs.Members.{is_member, is_distinct}
use Rattle.permutations.proofs.Members.{distinct-append_apart, distinct-append_right, distinct-head}
use Rattle.permutations.proofs.Arrangements.{member-at}
use Rattle.multigraph.specs.Graph.{Multigraph, edge_count, is_end, other_end, IsGraph}
use Rattle.multigraph.proofs.OtherEnd.{other_end-is_end}
use Rattle.graph_theory.specs.SearchTree.{IsBelow, IsSearchForest}
use Rattle.graph_theory.proofs.Chains.{chain-depth}
use Rattle.graph_theory.proofs.Ends.{end-in}
use Rattle.search_forest.specs.Forest.{ForestState, is_tree_edge, upper_end}
use Rattle.search_forest.specs.Searching.{IsOver}
use Rattle.search_forest.proofs.Writes.{marked-in}
use Rattle.search_forest.proofs.Over.{over-forest, over-seen}

module _ (g : Multigraph) (gg : IsGraph g) (s : ForestState) (o : IsOver g s) where
  -- the tree as a search forest
  pub forest : IsSearchForest g (λ v. get_or s.parent v 0) (λ v. get_or s.depth v 0) (λ v. get_or s.parent_edge v 0) (λ e. get_or s.lower e 0)
  forest = over-forest g gg s o

  pub parent-in : (v : ℕ) → v < g.vertex_count → 0 < get_or s.depth v 0 → get_or s.parent v 0 < g.vertex_count
  parent-in v l d = o.forest.grown.parent_in v (o.visited v l) d

  pub parent-depth : (v : ℕ) → v < g.vertex_count → 0 < get_or s.depth v 0 → get_or s.depth (get_or s.parent v 0) 0 + 1 ≡ get_or s.depth v 0
  parent-depth v l d = o.forest.grown.parent_depth v (o.visited v l) d

  pub parent_edge-in : (v : ℕ) → v < g.vertex_count → 0 < get_or s.depth v 0 → get_or s.parent_edge v 0 < edge_count g
  parent_edge-in v l d = o.forest.grown.edge_in v (o.visited v l) d

  pub parent_edge-lower : (v : ℕ) → v < g.vertex_count → 0 < get_or s.depth v 0 → get_or s.lower (get_or s.parent_edge v 0) 0 ≡ v
  parent_edge-lower v l d = o.forest.grown.edge_lower v (o.visited v l) d

  pub lower-end : (e : ℕ) → e < edge_count g → is_end g (get_or s.lower e 0) e ≡ true
  lower-end e l = o.forest.edges.lower_end e (over-seen g gg s o e l)

  pub lower-in : (e : ℕ) → e < edge_count g → get_or s.lower e 0 < g.vertex_count
  lower-in e l = end-in g gg e (get_or s.lower e 0) l (lower-end e l)

  pub upper-in : (e : ℕ) → e < edge_count g → upper_end g s e < g.vertex_count
  upper-in e l = end-in g gg e (upper_end g s e) l (other_end-is_end g e (get_or s.lower e 0))

  -- the upper end of an edge is a proper ancestor of the lower one
  pub upper-below : (e : ℕ) → e < edge_count g → IsBelow (λ v. get_or s.parent v 0) (λ v. get_or s.depth v 0) (upper_end g s e) (get_or s.lower e 0)
  upper-below e l = let u = forest.upper_above e l in record { steps = u.0 + 1; within = omega (arith, u.1); leads = u.2 }

  pub upper-depth : (e : ℕ) → e < edge_count g → get_or s.depth (upper_end g s e) 0 < get_or s.depth (get_or s.lower e 0) 0
  upper-depth e l =
      let u = forest.upper_above e l in
      let c = chain-depth g (λ v. get_or s.parent v 0) (λ v. get_or s.depth v 0) (λ v. get_or s.parent_edge v 0) (λ q. get_or s.lower q 0) forest (u.0 + 1) (get_or s.lower e 0) (lower-in e l) (omega (arith, u.1)) in
      omega (arith, c, ap (λ (z : ℕ). get_or s.depth z 0) u.2)

  pub lower-deep : (e : ℕ) → e < edge_count g → 0 < get_or s.depth (get_or s.lower e 0) 0
  lower-deep e l = omega (arith, upper-depth e l)

  -- a parent edge is that of its lower end
  pub tree-is : (e : ℕ) → is_tree_edge s e ≡ true → get_or s.parent_edge (get_or s.lower e 0) 0 ≡ e
  tree-is e t = eqb-true (get_or s.parent_edge (get_or s.lower e 0) 0) e t

  -- the upper end of a parent edge is the parent
  pub tree-upper : (e : ℕ) → e < edge_count g → is_tree_edge s e ≡ true → upper_end g s e ≡ get_or s.parent (get_or s.lower e 0) 0
  tree-upper e l t =
      subst (λ (z : ℕ). other_end g z (get_or s.lower e 0) ≡ get_or s.parent (get_or s.lower e 0) 0) (tree-is e t)
      (o.forest.grown.edge_leads (get_or s.lower e 0) (o.visited (get_or s.lower e 0) (lower-in e l)) (lower-deep e l))

  -- the edge to the parent of a vertex is a parent edge
  pub parent_edge-tree : (v : ℕ) → v < g.vertex_count → 0 < get_or s.depth v 0 → is_tree_edge s (get_or s.parent_edge v 0) ≡ true
  parent_edge-tree v l d = eq-eqb (get_or s.parent_edge (get_or s.lower (get_or s.parent_edge v 0) 0) 0) (get_or s.parent_edge v 0) (ap (λ (z : ℕ). get_or s.parent_edge z 0) (parent_edge-lower v l d))

  -- the members of the order are the vertices
  pub order-member : (v : ℕ) → v < g.vertex_count → is_member v s.order ≡ true
  order-member v l = o.forest.ordered.members v ∙ o.visited v l

  pub member-order : (v : ℕ) → is_member v s.order ≡ true → v < g.vertex_count
  member-order v h = omega (arith, marked-in s.visited v (sym (o.forest.ordered.members v) ∙ h), o.forest.places.visited)

  pub order-in : (i : ℕ) → i < length s.order → get_or s.order i 0 < g.vertex_count
  order-in i l = member-order (get_or s.order i 0) (member-at s.order i 0 l)

  -- from a place on, the order is the vertex there and those after it
  pub order-from : (i : ℕ) → i < length s.order → drop i s.order ≡ get_or s.order i 0 ∷ drop (i + 1) s.order
  order-from i l = drop_more s.order i 0 l

  -- a vertex is not after its place
  pub order-once : (i : ℕ) → i < length s.order → is_member (get_or s.order i 0) (drop (i + 1) s.order) ≡ false
  order-once i l =
      let d : is_distinct (take i s.order ++ drop i s.order) ≡ true = subst (λ (z : List ℕ). is_distinct z ≡ true) (sym (take-append-drop i s.order)) o.forest.ordered.distinct in
      distinct-head (get_or s.order i 0) (drop (i + 1) s.order) (subst (λ (z : List ℕ). is_distinct z ≡ true) (order-from i l) (distinct-append_right (take i s.order) (drop i s.order) d))

  -- the parent of a vertex is not at its place or after it
  pub parent-before : (i : ℕ) → i < length s.order → 0 < get_or s.depth (get_or s.order i 0) 0 → is_member (get_or s.parent (get_or s.order i 0) 0) (drop i s.order) ≡ false
  parent-before i l h =
      let d : is_distinct (take i s.order ++ drop i s.order) ≡ true = subst (λ (z : List ℕ). is_distinct z ≡ true) (sym (take-append-drop i s.order)) o.forest.ordered.distinct in
      distinct-append_apart (take i s.order) (drop i s.order) d (get_or s.parent (get_or s.order i 0) 0) (o.forest.ordered.behind_parent i l h)
