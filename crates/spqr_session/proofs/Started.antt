-- A session starts with the first arrangements for the blocks at their start.
use Rattle.std.proofs.Common.{◌≡◌, ℕ, ◌<◌, List, [], length, map, replicate, slice_index_or, Option, None, Ok, refl, sym, ◌∙◌, subst}
use Rattle.std.proofs.lemmas.List.{length-map}
use Rattle.std.proofs.lemmas.List.Elements.{All-nil}
use Rattle.blocks.specs.Blocks.{BlockStructure, IsBlockStructure, block_at}
use Rattle.gml_text.specs.Document.{Document}
use Rattle.gml_graph.specs.Named.{NamedGraph}
use Rattle.gml_graph.specs.Answer.{graph_of_document}
use Rattle.kuratowski.specs.declared.subdivision.Subdivision.{Subdivision}
use Rattle.spqr_session.specs.Trees.{BlockTree, tree_at}
use Rattle.spqr_session.specs.Certificates.{certificate_at}
use Rattle.spqr_session.specs.Setting.{Setting, IsSetting}
use Rattle.spqr_session.specs.State.{Embedding, IsEntry, IsStartEntry, IsFamily}
use Rattle.spqr_session.specs.Embedded.{BlockView, view_tree, view_certificate, view_entry, view_at, setting_of, IsStartBlock, AreStartBlocks}
use Rattle.spqr_session.specs.Board.{board_state}
use Rattle.spqr_session.specs.Machine.{IsStarted}
use Rattle.spqr_session.proofs.Views.{trees-at, certificates-at, entries-at, start-trees, start-certificates}
use Rattle.spqr_session.proofs.KeptFamilies.{start-right, start-first}

module _ (document : Document) (named : NamedGraph) (structure : BlockStructure) (views : List BlockView) (n : ℕ) where
  abbrev on : Setting
  on = setting_of document named structure views

  -- blocks at the start of a session, and no list at any vertex, are a start
  pub started : graph_of_document document ≡ Ok named → IsBlockStructure named.graph structure → AreStartBlocks named.start named.graph structure.blocks (length structure.blocks) views
      → IsStarted (record { setting = setting_of document named structure views; state = board_state (setting_of document named structure views) (record { views = views; lists = replicate n None; earlier = []; later = [] }) })
  started graph is h = record {
    setting = setting;
    start = record {
      right = record { present = start-right on setting (map view_entry views) n long entry; earlier = All-nil (IsFamily on); later = All-nil (IsFamily on) };
      starts = starts;
      first = start-first on setting (map view_entry views) n long entry;
      earlier = refl;
      later = refl;
    };
  }
    where
      setting : IsSetting (setting_of document named structure views)
      setting = record { graph = graph; structure = is; trees = start-trees named.start named.graph structure.blocks views h; certificates = start-certificates named.start named.graph structure.blocks views h }

      long : length (map view_entry views) ≡ length (map view_tree views)
      long = length-map views view_entry ∙ sym (length-map views view_tree)

      right : (b : ℕ) → b < length (map view_tree views) → IsStartBlock named.start named.graph (block_at structure.blocks b) (view_at views b)
      right b l = h.each b (subst (λ (k : ℕ). b < k) (length-map views view_tree ∙ h.one_each) l)

      entry : (b : ℕ) → b < length (map view_tree views) → IsEntry (tree_at (map view_tree views) b) (certificate_at (map view_certificate views) b) (slice_index_or (map view_entry views) b None)
      entry b l =
          subst (λ (e : Option Embedding). IsEntry (tree_at (map view_tree views) b) (certificate_at (map view_certificate views) b) e) (sym (entries-at views b))
          (subst (λ (c : Option Subdivision). IsEntry (tree_at (map view_tree views) b) c (view_at views b).entry) (sym (certificates-at views b))
          (subst (λ (t : BlockTree). IsEntry t (view_at views b).certificate (view_at views b).entry) (sym (trees-at views b)) (right b l).entry))

      starts : (b : ℕ) → b < length (map view_tree views) → IsStartEntry named.start (tree_at (map view_tree views) b) (slice_index_or (map view_entry views) b None)
      starts b l =
          subst (λ (e : Option Embedding). IsStartEntry named.start (tree_at (map view_tree views) b) e) (sym (entries-at views b))
          (subst (λ (t : BlockTree). IsStartEntry named.start t (view_at views b).entry) (sym (trees-at views b)) (right b l).starts)
