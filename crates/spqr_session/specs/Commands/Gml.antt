-- `gml`: the document with the present embedding.
use Rattle.std.specs.Prelude.{◌≡◌, ℕ, List, length, map, slice_index, Option, None, Some}
use Rattle.std.specs.List.{concat}
use Rattle.permutations.specs.Members.{place_of}
use Rattle.multigraph.specs.Graph.{numbers_below}
use Rattle.rotations.specs.Rotation.{order_at}
use Rattle.rotations.specs.PartLists.{outer_edges}
use Rattle.gml_text.specs.Layout.{written}
use Rattle.gml_graph.specs.Marked.{numbers_text, marked}
use Rattle.spqr_script.specs.Answers.Gml.{document_text}
use Rattle.spqr_session.specs.Trees.{BlockTree, tree_at}
use Rattle.spqr_session.specs.Setting.{Setting}
use Rattle.spqr_session.specs.State.{Embedding, Family, State, entry_at}
use Rattle.spqr_session.specs.Codes.{Carries}
use Rattle.spqr_session.specs.declared.code.Code.{Code}

-- the edges of a block at vertex v of the graph: those of a planar block in the present order from the least edge on, those of another
-- in increasing order; none where v is no vertex of the block
abbrev pub block_numbers : BlockTree → Option Embedding → ℕ → List ℕ
block_numbers tree None v = outer_edges tree.part (place_of tree.part.vertices v)
block_numbers tree (Some e) v = map (slice_index tree.part.edges) (order_at e.rotation (place_of tree.part.vertices v))

-- all edges at vertex v so, block by block
abbrev pub numbers_at : List BlockTree → Family → ℕ → List ℕ
numbers_at trees family v = concat (map (λ b. block_numbers (tree_at trees b) (entry_at family b) v) (numbers_below (length trees)))

-- the lists of the first n vertices
abbrev pub present_lists : ℕ → List BlockTree → Family → List (List ℕ)
present_lists n trees family = map (numbers_at trees family) (numbers_below n)

-- their texts
abbrev pub marks : ℕ → List BlockTree → Family → List (List ℕ)
marks n trees family = map numbers_text (present_lists n trees family)

-- no code refuses it
abbrev pub GmlApplies : Code → Type 0
GmlApplies code = ⊥

-- the answer is the document, in the written layout, with the present embedding in its nodes; the state stays
pub record GmlDoes (setting : Setting) (before : State) (text : List ℕ) (after : State) : Type 0 where
  pub answer : text ≡ document_text (written (marked (marks setting.named.graph.vertex_count setting.trees before.present) setting.document))
  pub stays : after ≡ before

-- one step: refused where a code applies, else this
abbrev pub GmlStep : Setting → State → List ℕ → State → Type 0
GmlStep setting before text after = Carries GmlApplies (GmlDoes setting) before text after
