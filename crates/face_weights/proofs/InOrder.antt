-- The links of a tree, where each node is after its parent in an order of the nodes.
use Rattle.std.proofs.Common.{◌≡◌, ◌≢◌, ℕ, ◌<◌, ◌≤◌, Bool, true, not, cond, List, length, slice_index_or, sym, ap, ◌∙◌, arith, eq-eqb}
use Rattle.std.proofs.lemmas.Bool.{ne_eqb, both_ways}
use Rattle.permutations.proofs.Places.{same-place}
use Rattle.multigraph.specs.Graph.{Multigraph}
use Rattle.pair_split.specs.Split.{LinksTo, is_beyond}
use Rattle.pair_split.specs.Tutte.{Node, components, node_at, node_item, IsTutte}
use Rattle.pair_split.specs.declared.components.Comp.{Comp}
use Rattle.pair_split.specs.declared.components.What.{What}
use Rattle.pair_split.specs.declared.components.What.TheVariants.{Real, Link}
use Rattle.pair_split.proofs.TreeSides.{link-back, beyond-other}
use Rattle.skeletons.specs.Items.{IsBlockTree}
use Rattle.spqr_tree.specs.Keys.{parent_at}
use Rattle.spqr_tree.proofs.UpLinks.{link-to, link-once, node-in, comp-in, item-of}
use Rattle.face_weights.specs.Weights.{weight_by}
use Rattle.skel_decompose.specs.Orders.{IsOrderOf}
use Rattle.face_weights.specs.Passes.{LinkOnce}

-- the weight of an edge, of a link to the parent, and of another link
pub weight-edge : (parent : ℕ) (below : ℕ → ℕ) (above : ℕ) (w : What) (e : ℕ) → w ≡ Real e → weight_by parent below above w ≡ 1
weight-edge parent below above w e q = ap (weight_by parent below above) q

pub weight-up : (parent : ℕ) (below : ℕ → ℕ) (above : ℕ) (w : What) (j : ℕ) → w ≡ Link j → j ≡ parent → weight_by parent below above w ≡ above
weight-up parent below above w j q e = ap (weight_by parent below above) q ∙ ap (λ (t : Bool). cond t above (below j)) (eq-eqb j parent e)

pub weight-down : (parent : ℕ) (below : ℕ → ℕ) (above : ℕ) (w : What) (j : ℕ) → w ≡ Link j → j ≢ parent → weight_by parent below above w ≡ below j
weight-down parent below above w j q n = ap (weight_by parent below above) q ∙ ap (λ (t : Bool). cond t above (below j)) (ne_eqb j parent n)

-- a block with its tree, and an order of its nodes
module _ (g : Multigraph) (nodes : List Node) (b : IsBlockTree g nodes) (parents order : List ℕ) (o : IsOrderOf nodes parents order) where
  abbrev comps : List Comp
  comps = components nodes

  tree : IsTutte g nodes
  tree = b.tree

  -- what stands on the list is a node
  pub node-at : (q : ℕ) → q < length order → slice_index_or order q 0 < length nodes
  node-at q l = node-in g nodes tree b.block.has_edge (slice_index_or order q 0) (o.ordered.within q l)

  -- each node is on the list
  pub place-of : (k : ℕ) → k < length nodes → (q : ℕ) × (q < length order) × (slice_index_or order q 0 ≡ k)
  place-of k l = o.ordered.all k (comp-in g nodes tree b.block.has_edge k l)

  -- and the list is not empty
  pub some : 0 < length order
  some = let w = o.ordered.all o.root o.root_in in omega (arith, w.1)

  -- once
  pub place-once : (q p : ℕ) → q < length order → p < length order → slice_index_or order q 0 ≡ slice_index_or order p 0 → q ≡ p
  place-once q p l m e = same-place order q p o.distinct l m e

  -- an item that is a link
  link : (k i j : ℕ) → i < length (node_at nodes k).items → (node_item nodes k i).what ≡ Link j → LinksTo comps k j
  link k i j l e = link-to g nodes tree b.block.has_edge k i j l e

  -- with a link back
  pub link-from : (k i j : ℕ) → i < length (node_at nodes k).items → (node_item nodes k i).what ≡ Link j → (h : ℕ) × (h < length (node_at nodes j).items) × ((node_item nodes j h).what ≡ Link k)
  link-from k i j l e = let w = link-back comps tree.split.linked k j (link k i j l e) in
      let h = item-of g nodes tree b.block.has_edge j w.0 (Link k) w.1 in (w.0, h.0, h.1)

  -- no other item is this link
  pub once : (k : ℕ) → LinkOnce (node_at nodes k).items
  once k i h j l m x y = link-once g nodes tree b.block.has_edge k i h j l m x y

  -- a link that is not to the parent is to a child
  pub child-parent : (k i j : ℕ) → i < length (node_at nodes k).items → (node_item nodes k i).what ≡ Link j → j ≢ parent_at parents k → parent_at parents j ≡ k
  child-parent k i j l e n = o.ordered.down k j (link k i j l e) (λ q. n (sym q))

  -- which is later
  pub child-after : (q i j : ℕ) → q < length order → i < length (node_at nodes (slice_index_or order q 0)).items → (node_item nodes (slice_index_or order q 0) i).what ≡ Link j
      → j ≢ parent_at parents (slice_index_or order q 0) → (h : ℕ) × (q < h) × (h < length order) × (slice_index_or order h 0 ≡ j)
  child-after q i j m l e n = o.ordered.after q j m (link (slice_index_or order q 0) i j l e) (λ z. n (sym z))

  -- so no node up to this one
  pub child-apart : (q p i j : ℕ) → q < length order → p ≤ q → i < length (node_at nodes (slice_index_or order q 0)).items → (node_item nodes (slice_index_or order q 0) i).what ≡ Link j
      → j ≢ parent_at parents (slice_index_or order q 0) → j ≢ slice_index_or order p 0
  child-apart q p i j m s l e n z = let w = child-after q i j m l e n in omega (arith, s, w.1, place-once w.0 p w.2 (omega (arith, s, m)) (w.3 ∙ z))

  -- of two nodes that are linked one is not the other's parent
  pub parent-one : (k i j : ℕ) → i < length (node_at nodes k).items → (node_item nodes k i).what ≡ Link j → j ≡ parent_at parents k → k ≢ parent_at parents j
  parent-one k i j l e up down =
      let one : is_beyond comps k j o.root ≡ true = o.ordered.up k j (link k i j l e) (sym up) in
      let two : is_beyond comps j k o.root ≡ true = o.ordered.up j k (link-back comps tree.split.linked k j (link k i j l e)) (sym down) in
      both_ways (is_beyond comps k j o.root) (beyond-other comps tree.split.linked k j o.root (link k i j l e) o.root_in ∙ ap not two) one
