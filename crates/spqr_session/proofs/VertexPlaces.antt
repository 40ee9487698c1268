-- Places for lists at the vertices of blocks.
use Rattle.std.proofs.Common.{◌≡◌, ℕ, ◌<◌, ◌≤◌, true, List, [], length, inl, inr, refl, subst, arith}
use Rattle.std.proofs.lemmas.Bool.{cases_lt, both_ways}
use Rattle.std.proofs.lemmas.List.{get_or_past}
use Rattle.permutations.specs.Members.{is_member}
use Rattle.permutations.proofs.Arrangements.{contains-from_member, member-from_contains}
use Rattle.multigraph.specs.Graph.{Multigraph, IsGraph}
use Rattle.multigraph.specs.Part.{IsEndOf}
use Rattle.multigraph.proofs.OtherEnd.{end-in}
use Rattle.blocks.specs.Blocks.{block_at, IsCutVertex}
use Rattle.spqr_session.specs.Trees.{BlockTree, no_tree, tree_at, AreBlockTrees}
use Rattle.spqr_session.specs.Setting.{Setting, IsSetting}
use Rattle.spqr_session.specs.Board.{HavePlaces}

-- the vertices of blocks are vertices of the graph
pub places-start : (g : Multigraph) (blocks : List (List ℕ)) (trees : List BlockTree) → IsGraph g → AreBlockTrees g blocks trees → HavePlaces trees g.vertex_count
places-start g blocks trees ok are b v m = elim (cases_lt b (length trees)) [
  | inl l ↦
      let t = are.each b (subst (λ (n : ℕ). b < n) are.one_each l) in
      let p = t.part in
      let w : IsEndOf g (block_at blocks b) v = (p.vertices v).0 (contains-from_member (tree_at trees b).part.vertices v m) in
      end-in g v w.edge ok w.is_edge w.ends_there
  | inr n ↦
      let out : tree_at trees b ≡ no_tree = get_or_past trees b no_tree (let far : length trees ≤ b = omega (arith, n) in far) in
      absurd (both_ways (is_member v []) refl (subst (λ (t : BlockTree). is_member v t.part.vertices ≡ true) out m))
]

-- a cut vertex is a vertex of a block
pub cut-place : (setting : Setting) (n v : ℕ) → IsSetting setting → HavePlaces setting.trees n → is_member v setting.structure.cut_vertices ≡ true → v < n
cut-place setting n v is places m =
    let cut : IsCutVertex setting.named.graph v = is.structure.cut_vertices.sound v m in
    let found = is.structure.blocks.each cut.first cut.first_edge in
    let t = is.trees.each found.0 found.1 in
    let p = t.part in
    let w : IsEndOf setting.named.graph (block_at setting.structure.blocks found.0) v = record { edge = cut.first; among = contains-from_member (block_at setting.structure.blocks found.0) cut.first found.2; is_edge = cut.first_edge; ends_there = cut.first_end } in
    places found.0 v (member-from_contains (tree_at setting.trees found.0).part.vertices v ((p.vertices v).1 w))
