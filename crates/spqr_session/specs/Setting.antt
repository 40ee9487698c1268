-- What stays for a whole run.
use Rattle.std.specs.Prelude.{◌≡◌, List, Ok, Option}
use Rattle.blocks.specs.Blocks.{BlockStructure, IsBlockStructure}
use Rattle.gml_text.specs.Document.{Document}
use Rattle.gml_graph.specs.Named.{NamedGraph}
use Rattle.gml_graph.specs.Answer.{graph_of_document}
use Rattle.kuratowski.specs.declared.subdivision.Subdivision.{Subdivision}
use Rattle.spqr_session.specs.Trees.{BlockTree, AreBlockTrees}
use Rattle.spqr_session.specs.Certificates.{AreCertificates}

-- a document, its graph, the blocks of the graph, the tree of each block, and the certificate of each that is not planar
pub record Setting : Type 0 where
  pub document : Document
  pub named : NamedGraph
  pub structure : BlockStructure
  pub trees : List BlockTree
  pub certificates : List (Option Subdivision)

-- the graph is that of the document, the structure is that of the graph, there is a tree for each block, and a certificate for
-- each that is not planar
pub record IsSetting (setting : Setting) : Type 0 where
  pub graph : graph_of_document setting.document ≡ Ok setting.named
  pub structure : IsBlockStructure setting.named.graph setting.structure
  pub trees : AreBlockTrees setting.named.graph setting.structure.blocks setting.trees
  pub certificates : AreCertificates setting.trees setting.certificates
