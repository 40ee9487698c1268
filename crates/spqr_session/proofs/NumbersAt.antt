-- The edges that `gml` writes at a vertex, block by block: they arrange the edges there, those of a block are picked out by the test for
-- its edges, and read as a start they are the present rotation system of each planar block.
use Rattle.std.proofs.Common.{◌≡◌, ℕ, ◌<◌, Bool, true, List, [], length, map, filter, slice_index, slice_index_or, Option, None, Some, IsPermutation, inl, inr, refl, sym, ap, ◌∙◌, subst, arith}
use Rattle.std.proofs.lemmas.Bool.{cases_lt, false_from_ne_true}
use Rattle.std.proofs.lemmas.List.{get_or-map, get_or_past, length-map}
use Rattle.std.proofs.lemmas.List.Sorted.{IsPermutation-refl, IsPermutation-map}
use Rattle.permutations.specs.Members.{is_member, place_of}
use Rattle.permutations.proofs.Filter.{filter-none}
use Rattle.permutations.proofs.Places.{place-at, place-below}
use Rattle.multigraph.specs.Graph.{Multigraph, edge_count, incident_edges, numbers_below}
use Rattle.multigraph.specs.Part.{IsPart}
use Rattle.multigraph.proofs.Below.{length-numbers_below, get_or-numbers_below}
use Rattle.blocks.specs.Blocks.{block_at, AreBlocks}
use Rattle.rotations.specs.PartLists.{outer_edges}
use Rattle.rotations.specs.Rotation.{order_at, IsRotationSystem}
use Rattle.rotations.proofs.Membership.{incident-distinct, member-edge, member-end}
use Rattle.gml_graph.specs.Named.{ArrangeEdges}
use Rattle.skel_embed.specs.Taken.{IsGiven}
use Rattle.spqr_session.specs.Trees.{BlockTree, tree_at, AreBlockTrees}
use Rattle.spqr_session.specs.State.{Embedding, Family, entry_at}
use Rattle.spqr_session.specs.Start.{start_entries}
use Rattle.spqr_session.specs.Commands.Gml.{block_numbers, numbers_at, present_lists}
use Rattle.spqr_session.proofs.DisjointLists.{joined, parts-picked, parts-permutation}
use Rattle.spqr_session.proofs.EdgesAt.{outer-at, vertex-of}
use Rattle.spqr_session.proofs.SortedEdges.{block-one}
use Rattle.spqr_session.proofs.StartLists.{vertices-distinct, start-given}

-- the edges of a block at a vertex are those of the edges there that are of the block, in some order
numbers-arranged : (g : Multigraph) (edges : List ℕ) (tree : BlockTree) (o : Option Embedding) (v : ℕ) → IsPart g edges tree.part → ((e : ℕ) → is_member e edges ≡ true → e < edge_count g) → ((e : Embedding) → o ≡ Some e → IsRotationSystem tree.part.graph e.rotation)
    → IsPermutation (filter (λ e. is_member e edges) (incident_edges g v)) (block_numbers tree o v)
numbers-arranged g edges tree None v is within system =
    let i = place_of tree.part.vertices v in
    subst (λ (l : List ℕ). IsPermutation l (outer_edges tree.part i)) (outer-at g edges tree.part is within v) (IsPermutation-refl (outer_edges tree.part i))
numbers-arranged g edges tree (Some x) v is within system =
    let i = place_of tree.part.vertices v in
    let r = system x refl in
    let own = map (slice_index tree.part.edges) (order_at x.rotation i) in
    elim (cases_lt i tree.part.graph.vertex_count) [
      | inl l ↦ subst (λ (k : List ℕ). IsPermutation k own) (outer-at g edges tree.part is within v) (IsPermutation-map (slice_index tree.part.edges) (incident_edges tree.part.graph i) (order_at x.rotation i) (r.orders i l).arranged)
      | inr l ↦
          let none : filter (λ e. is_member e edges) (incident_edges g v) ≡ [] =
          filter-none (λ e. is_member e edges) (incident_edges g v)
          (λ e m. false_from_ne_true (is_member e edges) (λ t. absurd (omega (arith, l, place-below tree.part.vertices v (vertex-of g edges tree.part is within v e t (member-end g v e m)), is.numbered.vertex_each)))) in
          let nothing : own ≡ [] = ap (map (slice_index tree.part.edges)) (get_or_past x.rotation i [] (omega (arith, l, r.vertices))) in
          subst (λ (k : List ℕ). IsPermutation (filter (λ e. is_member e edges) (incident_edges g v)) k) (none ∙ sym nothing) (IsPermutation-refl (filter (λ e. is_member e edges) (incident_edges g v)))
    ]

module _ (g : Multigraph) (blocks : List (List ℕ)) (are : AreBlocks g blocks) (trees : List BlockTree) (is : AreBlockTrees g blocks trees) (family : Family) (system : (b : ℕ) (e : Embedding) → b < length blocks → entry_at family b ≡ Some e → IsRotationSystem (tree_at trees b).part.graph e.rotation) where
  -- the edges of each block at v
  abbrev block_list : ℕ → ℕ → List ℕ
  block_list v b = block_numbers (tree_at trees b) (entry_at family b) v

  -- whether an edge is of block b
  abbrev in_block : ℕ → ℕ → Bool
  in_block b e = is_member e (block_at blocks b)

  each : (v b : ℕ) → b < length blocks → IsPermutation (filter (in_block b) (incident_edges g v)) (block_list v b)
  each v b l = numbers-arranged g (block_at blocks b) (tree_at trees b) (entry_at family b) v (is.each b l).part (λ e m. are.edges b e l m) (λ e q. system b e l q)

  one : (b c x : ℕ) → b < length blocks → c < length blocks → in_block b x ≡ true → in_block c x ≡ true → b ≡ c
  one b c x = block-one g blocks are b c x

  all-at : (v : ℕ) → numbers_at trees family v ≡ joined (block_list v) (length blocks)
  all-at v = ap (joined (block_list v)) is.one_each

  -- they arrange the edges there
  pub at-arranged : (v : ℕ) → IsPermutation (incident_edges g v) (numbers_at trees family v)
  at-arranged v =
      subst (λ (l : List ℕ). IsPermutation (incident_edges g v) l) (sym (all-at v))
      (parts-permutation (block_list v) (length blocks) (incident_edges g v) in_block (each v) one (incident-distinct g v) (λ x m. are.each x (member-edge g v x m)))

  -- and those of a block among them are those of that block
  pub at-picked : (v b : ℕ) → b < length blocks → filter (λ e. is_member e (block_at blocks b)) (numbers_at trees family v) ≡ block_numbers (tree_at trees b) (entry_at family b) v
  at-picked v b l = ap (filter (in_block b)) (all-at v) ∙ parts-picked (block_list v) (length blocks) (incident_edges g v) in_block (each v) one b l

  -- the list of a vertex
  pub present-at : (n v : ℕ) → v < n → slice_index_or (present_lists n trees family) v [] ≡ numbers_at trees family v
  present-at n v l =
      get_or-map (numbers_at trees family) (numbers_below n) v 0 [] (omega (arith, l, length-numbers_below n)) ∙ ap (numbers_at trees family) (get_or-numbers_below n v 0 l)

  -- the lists arrange the edges of the graph
  pub present-arranged : ArrangeEdges g (present_lists g.vertex_count trees family)
  present-arranged = record {
    count = length-map (numbers_below g.vertex_count) (numbers_at trees family) ∙ length-numbers_below g.vertex_count;
    arranged = λ v l. subst (λ (k : List ℕ). IsPermutation (incident_edges g v) k) (sym (present-at g.vertex_count v l)) (at-arranged v);
  }

  -- and are the rotation system of each planar block
  pub present-given : (b : ℕ) (e : Embedding) → b < length blocks → entry_at family b ≡ Some e → ((i : ℕ) → i < (tree_at trees b).part.graph.vertex_count → slice_index (tree_at trees b).part.vertices i < g.vertex_count)
      → IsGiven (tree_at trees b).part (start_entries (tree_at trees b).part (present_lists g.vertex_count trees family)) e.rotation
  present-given b e l there inside =
      let tree = tree_at trees b in
      let part = (is.each b l).part in
      start-given tree.part part.numbered (present_lists g.vertex_count trees family) e.rotation (system b e l there)
      (λ i m.
      let v = slice_index tree.part.vertices i in
      let at : place_of tree.part.vertices v ≡ i = place-at tree.part.vertices i (vertices-distinct tree.part part.numbered) (omega (arith, m, part.numbered.vertex_each)) in
      ap (filter (λ e. is_member e tree.part.edges)) (present-at g.vertex_count v (inside i m))
      ∙ ap (λ (es : List ℕ). filter (λ e. is_member e es) (numbers_at trees family v)) part.edges_are
      ∙ at-picked v b l
      ∙ ap (λ (o : Option Embedding). block_numbers tree o v) there
      ∙ ap (λ (k : ℕ). map (slice_index tree.part.edges) (order_at e.rotation k)) at)
