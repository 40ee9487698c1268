-- The part of a graph that the edges of a block make is one block.
use Rattle.std.proofs.Common.{◌≡◌, ℕ, ◌<◌, true, List, length, slice_index, refl, sym, subst}
use Rattle.permutations.specs.Members.{is_member}
use Rattle.permutations.proofs.Arrangements.{member-at}
use Rattle.multigraph.specs.Graph.{Multigraph, edge_count}
use Rattle.multigraph.specs.Part.{GraphPart, IsPart}
use Rattle.graph_theory.specs.Block.{SameBlock, IsOneBlock}
use Rattle.graph_theory.proofs.PartWalks as parts
use Rattle.blocks.specs.Blocks.{block_at, AreBlocks}

-- the part that a block's edges make is one block
pub part-one_block : (g : Multigraph) (blocks : List (List ℕ)) (b : ℕ) (part : GraphPart) → AreBlocks g blocks → b < length blocks → IsPart g (block_at blocks b) part → IsOneBlock part.graph
part-one_block g blocks b part are l h = parts.part-one_block g (block_at blocks b) part h (are.not_empty b l) (λ e f i j. (are.same b b e f l l i j).0 refl) closed
  where
    closed : (e f : ℕ) → is_member e (block_at blocks b) ≡ true → f < edge_count g → SameBlock g e f → is_member f (block_at blocks b) ≡ true
    closed e f me lf s =
        let c = are.each f lf in
        subst (λ (k : ℕ). is_member f (block_at blocks k) ≡ true) (sym ((are.same b c.0 e f l c.1 me c.2).1 s)) c.2

-- the edges of a block are edges of the graph
pub block-edges_in : (g : Multigraph) (blocks : List (List ℕ)) (b : ℕ) → AreBlocks g blocks → b < length blocks → (i : ℕ) → i < length (block_at blocks b) → slice_index (block_at blocks b) i < edge_count g
block-edges_in g blocks b are l i li = are.edges b (slice_index (block_at blocks b) i) l (member-at (block_at blocks b) i 0 li)
