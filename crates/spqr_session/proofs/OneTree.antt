-- The trees of a graph's blocks are determined: a block makes one part, and the part has one tree.
use Rattle.std.proofs.Common.{◌≡◌, ℕ, ◌<◌, List, length, get_or, slice_index, sym, ap, ◌∙◌, subst}
use Rattle.std.proofs.lemmas.List.{ext_get_or, get_or_default}
use Rattle.std.proofs.lemmas.List.Elements.{Contains-get_or}
use Rattle.multigraph.specs.Graph.{Multigraph}
use Rattle.multigraph.specs.Part.{GraphPart, IsPart}
use Rattle.multigraph.proofs.Places.{rises-once}
use Rattle.blocks.specs.Blocks.{AreBlocks, block_at}
use Rattle.pair_split.specs.Tutte.{IsTutte}
use Rattle.graph_theory.proofs.Rising.{HasAll, rises-same}
use Rattle.tree_unique.proofs.SameTrees.{trees-equal}
use Rattle.spqr_session.specs.Trees.{BlockTree, no_tree, tree_at, IsBlockTree, AreBlockTrees}
use Rattle.blocks.proofs.BlockParts.{part-one_block}

module _ (g : Multigraph) (edges : List ℕ) (a b : GraphPart) (p : IsPart g edges a) (q : IsPart g edges b) where
  -- the ends of the same edges
  has-all : (a b : GraphPart) → IsPart g edges a → IsPart g edges b → HasAll a.vertices b.vertices
  has-all a b p q i l =
      let c = (q.vertices (slice_index a.vertices i)).1 ((p.vertices (slice_index a.vertices i)).0 (Contains-get_or a.vertices i 0 l)) in
      (c.0, c.1, get_or_default b.vertices c.0 0 (slice_index a.vertices i) c.1 ∙ c.2)

  vertices-same : a.vertices ≡ b.vertices
  vertices-same = rises-same a.vertices b.vertices p.numbered.vertices_rise q.numbered.vertices_rise (has-all a b p q) (has-all b a q p)

  -- under the same numbers
  ends-same : a.graph.ends ≡ b.graph.ends
  ends-same = ext_get_or (0, 0) a.graph.ends b.graph.ends (p.ends.each ∙ sym q.ends.each) (λ k l.
      let m : k < length edges = subst (λ (n : ℕ). k < n) p.ends.each l in
      let at : ℕ × ℕ = get_or a.graph.ends k (0, 0) in let other : ℕ × ℕ = get_or b.graph.ends k (0, 0) in
      let long : length a.vertices ≡ length b.vertices = ap (λ (vs : List ℕ). length vs) vertices-same in
      let first : at.0 ≡ other.0 = rises-once b.vertices q.numbered.vertices_rise at.0 other.0 (subst (λ (n : ℕ). at.0 < n) long (p.ends.first_in k m)) (q.ends.first_in k m)
      (ap (λ (vs : List ℕ). slice_index vs at.0) (sym vertices-same) ∙ p.ends.first k m ∙ sym (q.ends.first k m)) in
      let second : at.1 ≡ other.1 = rises-once b.vertices q.numbered.vertices_rise at.1 other.1 (subst (λ (n : ℕ). at.1 < n) long (p.ends.second_in k m)) (q.ends.second_in k m)
      (ap (λ (vs : List ℕ). slice_index vs at.1) (sym vertices-same) ∙ p.ends.second k m ∙ sym (q.ends.second k m)) in
      λ i. (first i, second i))

  -- some edges make one part
  pub parts-equal : a ≡ b
  parts-equal =
      let count : a.graph.vertex_count ≡ b.graph.vertex_count = sym p.numbered.vertex_each ∙ ap (λ (vs : List ℕ). length vs) vertices-same ∙ q.numbered.vertex_each in
      let named : a.edges ≡ b.edges = p.edges_are ∙ sym q.edges_are in
      λ i. record { graph = record { vertex_count = count i; ends = ends-same i }; vertices = vertices-same i; edges = named i }

-- a block has one tree, on one part
tree-same : (g : Multigraph) (blocks : List (List ℕ)) (b : ℕ) (s t : BlockTree) → AreBlocks g blocks → b < length blocks → IsBlockTree g (block_at blocks b) s → IsBlockTree g (block_at blocks b) t → s ≡ t
tree-same g blocks b s t are l p q =
    let part : s.part ≡ t.part = parts-equal g (block_at blocks b) s.part t.part p.part q.part in
    let nodes : s.nodes ≡ t.nodes = trees-equal t.part.graph s.nodes t.nodes (part-one_block g blocks b t.part are l q.part)
    (subst (λ (x : GraphPart). IsTutte x.graph s.nodes) part p.nodes) q.nodes in
    λ i. record { part = part i; nodes = nodes i }

-- the blocks of a graph have one list of trees
pub one-trees : (g : Multigraph) (blocks : List (List ℕ)) (s t : List BlockTree) → AreBlocks g blocks → AreBlockTrees g blocks s → AreBlockTrees g blocks t → s ≡ t
one-trees g blocks s t are p q = ext_get_or no_tree s t (p.one_each ∙ sym q.one_each)
    (λ b l. let m : b < length blocks = subst (λ (n : ℕ). b < n) p.one_each l in tree-same g blocks b (tree_at s b) (tree_at t b) are m (p.each b m) (q.each b m))
