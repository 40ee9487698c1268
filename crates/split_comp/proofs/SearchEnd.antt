-- The components that the pass leaves are those of the block.
use Rattle.std.proofs.Common.{◌≡◌, ◌≢◌, ℕ, ◌+◌, ◌*◌, ◌<◌, ◌≤◌, List, [], ◌∷◌, length, map, refl, sym, ap, ◌∙◌, subst, arith}
use Rattle.std.proofs.lemmas.List.{length-map, append-nil, length-append}
use Rattle.multigraph.specs.Graph.{Multigraph, edge_count, IsGraph, IsWithinLimits, numbers_below}
use Rattle.multigraph.proofs.Below.{length-numbers_below}
use Rattle.graph_theory.specs.Block.{IsOneBlock}
use Rattle.palm_tree.specs.PalmTree.{IsPalmTree}
use Rattle.pair_split.specs.Family.{Entry, IsFamily}
use Rattle.pair_split.specs.Edges.{graph_entry, graph_family, family_skeleton}
use Rattle.pair_split.specs.Skeleton.{IsSkeleton}
use Rattle.pair_split.specs.Split.{IsSplit}
use Rattle.pair_split.specs.State.{IsSplitState, AreSplitComponents}
use Rattle.pair_split.specs.Splitting.{part_of, state_of}
use Rattle.pair_split.specs.Bridges.{entry_of, family_of}
use Rattle.pair_split.specs.Writing.{IsListed, entry_total}
use Rattle.pair_split.specs.declared.splitting.Finished.{Finished}
use Rattle.pair_split.specs.declared.family.NamedEdge.{NamedEdge}
use Rattle.pair_split.specs.declared.components.Comp.{Comp}
use Rattle.pair_split.specs.declared.components.Kind.{Kind}
use Rattle.pair_split.specs.declared.components.Kind.TheVariants.{B}
use Rattle.pair_split.proofs.Layers.{layer-current}
use Rattle.pair_split.proofs.Finish.{state-end}
use Rattle.pair_split.proofs.SplitSteps.{start-state, start-split}
use Rattle.pair_split.proofs.WritingSteps.{state-listed}
use Rattle.split_comp.specs.declared.items.StackEntry.{StackEntry}
use Rattle.split_comp.specs.Stack.{entry}
use Rattle.split_comp.specs.Palm.{AreVertices, tree_dart, tree_degree, tree_parent, AreDrawn, IsPalm}
use Rattle.split_comp.specs.Pass.{NumberedTree, IsNumbered, PassState, IsPass, IsPassed, HasTurns, drawn, drawn_items, drawn_family, first_state}
use Rattle.split_comp.proofs.Palm.{palm-facts, palm-drawn}
use Rattle.split_comp.proofs.Beginning.{begin-pass, begin-turns}

-- the start of the pass
module _ (g : Multigraph) (graph : IsGraph g) (limits : IsWithinLimits g) (block : IsOneBlock g) (large : 3 ≤ edge_count g) (t : NumberedTree) (tree : IsPalmTree g t.palm) (vertices : AreVertices g.vertex_count t.palm t.vertex) where
  pub is-numbered : IsNumbered g t
  is-numbered = record { graph = graph; limits = limits; block = block; large = large; palm = tree; vertices = vertices }

  palm : IsPalm g.vertex_count (edge_count g) (tree_parent t.palm t.vertex) (tree_degree t.palm t.vertex) (tree_dart g t.palm t.vertex)
  palm = palm-facts g t.palm t.vertex graph block tree (omega (arith, large)) vertices

  are-drawn : AreDrawn g t.vertex g.vertex_count (tree_degree t.palm t.vertex) (tree_dart g t.palm t.vertex)
  are-drawn = palm-drawn g t.palm t.vertex graph tree vertices

  module _ (s : PassState) (now : s ≡ first_state g.vertex_count (edge_count g)) where
    pub start-pass : IsPass g t s
    start-pass = begin-pass g t is-numbered palm are-drawn s now

    pub start-turns : (k : ℕ) → k + 1 ≡ g.vertex_count + edge_count g → HasTurns g t s k
    start-turns = begin-turns g t is-numbered palm are-drawn s now

-- its end
module _ (g : Multigraph) (t : NumberedTree) (numbered : IsNumbered g t) (s : PassState) (p : IsPassed g t s) (edges : List NamedEdge) (left : family_of edges ≡ drawn_items g t.vertex s.items) where
  map-twice : (items : List StackEntry) → map (drawn g t.vertex) (map entry items) ≡ drawn_items g t.vertex items
  map-twice [] = refl
  map-twice (x ∷ items) = ap (λ (l : List Entry). drawn g t.vertex (entry x) ∷ l) (map-twice items)

  same : drawn_family g t.vertex s.items [] ≡ family_of edges
  same = ap (map (drawn g t.vertex)) (append-nil (map entry s.items)) ∙ (map-twice s.items ∙ sym left)

  state : IsSplitState g (state_of s.parts edges)
  state = subst (λ (l : List Entry). IsSplitState g (record { parts = map part_of s.parts; current = l })) same p.held.state

  pub left-family : IsFamily (family_of edges)
  left-family = subst IsFamily (layer-current (state_of s.parts edges)) (state.families (length (map part_of s.parts)))

  left-length : length edges ≡ length s.items
  left-length = sym (length-map edges entry_of) ∙ (ap length left ∙ length-map s.items (λ x. drawn g t.vertex (entry x)))

  pub left-listed : IsListed (edge_count g) (state_of s.parts edges)
  left-listed = state-listed g (state_of s.parts edges) state

  left-total : s.total ≡ length edges
  left-total = omega (arith, p.held.total, length-append (entries s.items) [], length-map s.items entry, left-length)
    where
      entries : List StackEntry → List Entry
      entries l = map entry l

  -- what it takes to write them out
  pub left-cost : 2 * (length s.parts + entry_total s.parts + length edges) ≤ 6 * edge_count g
  left-cost = omega (arith, p.held.few, p.held.entries, left-total)

  pub left-items : length s.items ≤ edge_count g
  left-items = omega (arith, p.held.few, left-total, left-length)

  pub left-split : (kind : Kind) (comps : List Comp) → IsSkeleton kind (family_skeleton (family_of edges)) → kind ≢ B → AreSplitComponents (edge_count g) (state_of s.parts edges) kind comps → IsSplit g comps
  left-split kind comps skeleton large w = state-end g (state_of s.parts edges) state kind comps w numbered.block.at_edge skeleton (λ e. absurd (large e))

-- a block of one edge or two
module _ (g : Multigraph) (graph : IsGraph g) (block : IsOneBlock g) (small : edge_count g < 3) (parts : List Finished) (edges : List NamedEdge) (none : parts ≡ []) (all : family_of edges ≡ graph_family g) where
  pub small-listed : IsListed (edge_count g) (state_of parts edges)
  small-listed = state-listed g (state_of parts edges) (start-state g graph parts edges none all)

  pub small-cost : 2 * (length parts + entry_total parts + length edges) ≡ 2 * edge_count g
  small-cost = omega (arith, ap length none, ap entry_total none, length-map edges entry_of, ap length all, length-map (numbers_below (edge_count g)) (graph_entry g), length-numbers_below (edge_count g))

  pub small-split : (comps : List Comp) → AreSplitComponents (edge_count g) (state_of parts edges) B comps → IsSplit g comps
  small-split comps w = start-split g graph block (omega (arith, small)) parts edges none all comps w
