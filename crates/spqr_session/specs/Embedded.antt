-- A block with its tree, and its embedding or its certificate, as contracts see it.
use Rattle.std.specs.Prelude.{◌≡◌, ℕ, ◌<◌, Bool, false, List, length, map, slice_index_or, Option, None, Some, ⊤}
use Rattle.blocks.specs.Blocks.{BlockStructure, block_at}
use Rattle.gml_text.specs.Document.{Document}
use Rattle.gml_graph.specs.Named.{NamedGraph}
use Rattle.kuratowski.specs.declared.subdivision.Subdivision.{Subdivision}
use Rattle.multigraph.specs.Graph.{Multigraph}
use Rattle.multigraph.specs.Part.{GraphPart}
use Rattle.pair_split.specs.Tutte.{Node, IsTutte}
use Rattle.skeletons.specs.Items as items
use Rattle.faces.specs.Euler.{IsPlaneSystem}
use Rattle.skel_embed.specs.Block.{lock_at, IsBlockState}
use Rattle.skel_embed.specs.Planes.{IsOutcome}
use Rattle.skel_embed.specs.declared.planes.Outcome.{Outcome}
use Rattle.skel_embed.specs.declared.planes.Outcome.TheVariants.{Plane, Not}
use Rattle.spqr_session.specs.Trees.{BlockTree, IsBlockTree, no_tree}
use Rattle.spqr_session.specs.Certificates.{IsCertificate}
use Rattle.spqr_session.specs.Setting.{Setting}
use Rattle.spqr_session.specs.State.{Embedding, IsEntry, IsStartEntry}

-- a block with its tree, its certificate where it is not planar, and its embedding where it is
pub record BlockView : Type 0 where
  pub tree : BlockTree
  pub certificate : Option Subdivision
  pub entry : Option Embedding

abbrev pub view_tree : BlockView → BlockTree
view_tree v = v.tree

abbrev pub view_certificate : BlockView → Option Subdivision
view_certificate v = v.certificate

abbrev pub view_entry : BlockView → Option Embedding
view_entry v = v.entry

-- whether node k is locked; none is where there is no embedding
abbrev pub entry_lock : ℕ → Option Embedding → Bool
entry_lock k None = false
entry_lock k (Some e) = lock_at e.locks k

-- the part and what was found of it
abbrev pub block_view : GraphPart → Outcome → BlockView
block_view part (Plane p) = record { tree = record { part = part; nodes = p.tree }; certificate = None; entry = Some (record { rotation = p.rotation; locks = p.locks }) }
block_view part (Not b) = record { tree = record { part = part; nodes = b.tree }; certificate = Some b.certificate; entry = None }

-- the graph that it was found of
abbrev pub outcome_graph : Outcome → Multigraph
outcome_graph (Plane p) = p.graph
outcome_graph (Not b) = b.graph

-- what a block in the plane keeps belongs together
abbrev pub KeepsTogether : Outcome → Type 0
KeepsTogether (Plane p) = IsBlockState p
KeepsTogether (Not b) = ⊤

-- what was found is that of a block with this graph and of the tree of the graph
pub record IsFound (g : Multigraph) (outcome : Outcome) : Type 0 where
  pub nodes : List Node
  pub tree : IsTutte g nodes
  pub found : IsOutcome g nodes outcome

-- what was found is right, and found of the part
pub record IsEmbedded (part : GraphPart) (outcome : Outcome) : Type 0 where
  pub graph : outcome_graph outcome ≡ part.graph
  pub tree : items.IsBlockTree part.graph (block_view part outcome).tree.nodes
  pub certificate : IsCertificate part.graph (block_view part outcome).certificate
  pub entry : IsEntry (block_view part outcome).tree (block_view part outcome).certificate (block_view part outcome).entry

-- the nodes are the tree of the part, and the embedding of a planar block is a plane rotation system of it
abbrev pub IsInPlane : BlockView → Type 0
IsInPlane v = (e : Embedding) → v.entry ≡ Some e → items.IsBlockTree v.tree.part.graph v.tree.nodes × IsPlaneSystem v.tree.part.graph e.rotation

-- a block of these edges at the start of a session, where the file has this start
pub record IsStartBlock (start : Option (List (List ℕ))) (g : Multigraph) (edges : List ℕ) (v : BlockView) : Type 0 where
  pub tree : IsBlockTree g edges v.tree
  pub certificate : IsCertificate v.tree.part.graph v.certificate
  pub entry : IsEntry v.tree v.certificate v.entry
  pub starts : IsStartEntry start v.tree v.entry

-- the view of block b; that of no tree where there is none
abbrev pub no_view : BlockView
no_view = record { tree = no_tree; certificate = None; entry = None }

abbrev pub view_at : List BlockView → ℕ → BlockView
view_at views b = slice_index_or views b no_view

-- the setting on a document with these blocks
abbrev pub setting_of : Document → NamedGraph → BlockStructure → List BlockView → Setting
setting_of document named structure views =
    record { document = document; named = named; structure = structure; trees = map view_tree views; certificates = map view_certificate views }

-- the first n blocks of a graph, in order, at the start of a session
pub record AreStartBlocks (start : Option (List (List ℕ))) (g : Multigraph) (blocks : List (List ℕ)) (n : ℕ) (views : List BlockView) : Type 0 where
  pub one_each : length views ≡ n
  pub each : (b : ℕ) → b < n → IsStartBlock start g (block_at blocks b) (view_at views b)
