-- A graph is one block where its block structure has one block and no vertex is without edges.
use Rattle.std.proofs.Common.{◌≡◌, ℕ, ◌<◌, ◌≤◌, true, List, length, slice_index, ◌⊎◌, inl, inr, Contains, arith}
use Rattle.std.proofs.lemmas.Bool.{cases_lt}
use Rattle.std.proofs.lemmas.List.{get_or_default}
use Rattle.multigraph.specs.Graph.{Multigraph, edge_count, incident_edges}
use Rattle.multigraph.proofs.Incident.{incident-has, incident-edge, incident-end}
use Rattle.permutations.specs.Members.{is_member}
use Rattle.permutations.proofs.Arrangements.{member-from_contains}
use Rattle.blocks.specs.Blocks.{AreBlocks, block_at}
use Rattle.graph_theory.specs.Block.{IsOneBlock}

-- the first number of a list that is not empty is in it
first-in : (l : List ℕ) → 0 < length l → Contains l (slice_index l 0)
first-in l some = (0, some, get_or_default l 0 (slice_index l 0) 0 some)

-- and is a member of it
first-member : (l : List ℕ) → 0 < length l → is_member (slice_index l 0) l ≡ true
first-member l some = member-from_contains l (slice_index l 0) (first-in l some)

-- one block, and edges everywhere
pub one_block-from : (g : Multigraph) (blocks : List (List ℕ)) → AreBlocks g blocks → 1 ≤ edge_count g → ((v : ℕ) → v < g.vertex_count → 0 < length (incident_edges g v)) → length blocks ≡ 1 → IsOneBlock g
one_block-from g blocks are some everywhere one = record {
  has_edge = some;
  at_edge = λ v l. let c = first-in (incident_edges g v) (everywhere v l) in (slice_index (incident_edges g v) 0, incident-edge g v _ c, incident-end g v _ c);
  same_block = λ e f l m.
      let b = are.each e l in
      let c = are.each f m in
      (are.same b.0 c.0 e f b.1 c.1 b.2 c.2).0 (omega (arith, one, b.1, c.1));
}

-- a vertex of a block has edges
pub one_block-edges : (g : Multigraph) → IsOneBlock g → (v : ℕ) → v < g.vertex_count → length (incident_edges g v) ≡ 0 → ⊥
one_block-edges g block v l none = let w = block.at_edge v l in absurd (omega (arith, none, (incident-has g v w.0 w.1 w.2).1))

-- a graph that is one block has a block structure of one block
pub one_block-count : (g : Multigraph) (blocks : List (List ℕ)) → AreBlocks g blocks → IsOneBlock g → length blocks ≡ 1
one_block-count g blocks are block = omega (arith, at-least, at-most (cases_lt 1 (length blocks)))
  where
    at-least : 1 ≤ length blocks
    at-least = let b = are.each 0 block.has_edge in omega (arith, b.1)

    at-most : (1 < length blocks) ⊎ (length blocks ≤ 1) → length blocks ≤ 1
    at-most (inr l) = l
    at-most (inl l) =
        let m : is_member (slice_index (block_at blocks 0) 0) (block_at blocks 0) ≡ true = first-member (block_at blocks 0) (are.not_empty 0 (omega (arith, l))) in
        let n : is_member (slice_index (block_at blocks 1) 0) (block_at blocks 1) ≡ true = first-member (block_at blocks 1) (are.not_empty 1 l) in
        let same = block.same_block (slice_index (block_at blocks 0) 0) (slice_index (block_at blocks 1) 0) (are.edges 0 _ (omega (arith, l)) m) (are.edges 1 _ l n) in
        absurd (omega (arith, (are.same 0 1 _ _ (omega (arith, l)) l m n).1 same))
