-- What is read in the document that `gml` writes: the graph, and a start that is the present rotation system of each planar block.
use Rattle.std.proofs.Common.{◌≡◌, ℕ, ◌<◌, List, [], ◌∷◌, length, Option, None, Some, refl, sym, subst, arith}
use Rattle.multigraph.specs.Graph.{IsGraph, IsWithinLimits}
use Rattle.blocks.specs.Blocks.{BlockStructure, block_at}
use Rattle.blocks.proofs.OneStructure.{one-structure}
use Rattle.gml_graph.specs.Named.{NamedGraph, ArrangeEdges, IsNamed}
use Rattle.gml_graph.specs.Marked.{marked, told_lists}
use Rattle.gml_graph.proofs.Law.{sound_graph}
use Rattle.gml_graph.proofs.MarkedForm.{marked_well_formed}
use Rattle.gml_graph.proofs.MarkedLaw.{marked_start}
use Rattle.gml_graph.proofs.NumberTexts.{lists_quotable}
use Rattle.faces.specs.Euler.{IsPlaneSystem}
use Rattle.kuratowski.specs.declared.subdivision.Subdivision.{Subdivision}
use Rattle.rotations.specs.Rotation.{IsRotationSystem}
use Rattle.skel_embed.specs.Taken.{IsGiven}
use Rattle.spqr_session.specs.Trees.{BlockTree, tree_at}
use Rattle.spqr_session.specs.Certificates.{certificate_at}
use Rattle.spqr_session.specs.Setting.{Setting, IsSetting}
use Rattle.spqr_session.specs.Start.{start_entries, StartsAt, IsBadStart, IsStartFault}
use Rattle.spqr_session.specs.State.{Embedding, Family, State, entry_at, IsEntry, IsFamily, IsState}
use Rattle.spqr_session.specs.Commands.Gml.{present_lists, marks}
use Rattle.spqr_session.specs.Laws.{IsReadBack}
use Rattle.spqr_session.proofs.StartFaults.{given-not_bad}
use Rattle.spqr_session.proofs.StartSteps.{block-vertex}
use Rattle.spqr_session.proofs.StartLists.{part-vertex}
use Rattle.spqr_session.proofs.NumbersAt.{present-arranged, present-given}

-- lists of some vertices are told as they are
told-some : (lists found : List (List ℕ)) → told_lists lists ≡ Some found → found ≡ lists
told-some [] found e = absurd (let w : None ≡ Some found = e in cc)
told-some (l ∷ ls) found e = (let w : Some (l ∷ ls) ≡ Some found = e in cc)

told-starts : (lists : List (List ℕ)) (tree : BlockTree) (r : List (List ℕ)) → 0 < length lists → IsGiven tree.part (start_entries tree.part lists) r → StartsAt (told_lists lists) tree r
told-starts [] tree r some h = absurd (omega (arith, some))
told-starts (l ∷ ls) tree r some h = h

-- the rotation system of an entry is one
entry-system : (tree : BlockTree) (certificate : Option Subdivision) (o : Option Embedding) (e : Embedding) → IsEntry tree certificate o → o ≡ Some e → IsRotationSystem tree.part.graph e.rotation
entry-system tree certificate None e right at = absurd (cc)
entry-system tree (Some s) (Some x) e right at = absurd right
entry-system tree None (Some x) e right at =
    let same : x ≡ e = cc in
    let plane : IsPlaneSystem tree.part.graph x.rotation = right.0 in
    subst (λ (y : Embedding). IsRotationSystem tree.part.graph y.rotation) same plane.system

module _ (setting : Setting) (family : Family) (is : IsSetting setting) (right : IsFamily setting family) where
  sound : IsGraph setting.named.graph × IsWithinLimits setting.named.graph × IsNamed setting.named
  sound = sound_graph setting.document setting.named is.graph

  abbrev lists : List (List ℕ)
  lists = present_lists setting.named.graph.vertex_count setting.trees family

  -- the present rotation system of a block is one
  system : (b : ℕ) (e : Embedding) → b < length setting.structure.blocks → entry_at family b ≡ Some e → IsRotationSystem (tree_at setting.trees b).part.graph e.rotation
  system b e l at = entry-system (tree_at setting.trees b) (certificate_at setting.certificates b) (entry_at family b) e (right.each b (subst (λ (n : ℕ). b < n) (sym is.trees.one_each) l)) at

  -- each planar block is given it
  given : (b : ℕ) (e : Embedding) → b < length setting.trees → entry_at family b ≡ Some e → IsGiven (tree_at setting.trees b).part (start_entries (tree_at setting.trees b).part lists) e.rotation
  given b e l at =
      let within : b < length setting.structure.blocks = subst (λ (n : ℕ). b < n) is.trees.one_each l in
      present-given setting.named.graph setting.structure.blocks is.structure.blocks setting.trees is.trees family system b e within at
      (part-vertex setting.named.graph sound.0 (block_at setting.structure.blocks b) (tree_at setting.trees b).part (is.trees.each b within).part (λ x m. is.structure.blocks.edges b x within m) lists)

  arranged : ArrangeEdges setting.named.graph lists
  arranged = present-arranged setting.named.graph setting.structure.blocks is.structure.blocks setting.trees is.trees family system

  abbrev read_named : NamedGraph
  read_named = record setting.named { start = told_lists lists }

  present : (b : ℕ) (e : Embedding) → b < length setting.trees → entry_at family b ≡ Some e → StartsAt read_named.start (tree_at setting.trees b) e.rotation
  present b e l at =
      let within : b < length setting.structure.blocks = subst (λ (n : ℕ). b < n) is.trees.one_each l in
      told-starts lists (tree_at setting.trees b) e.rotation (omega (arith, arranged.count, block-vertex setting.named.graph setting.structure.blocks b sound.0 is.structure.blocks within)) (given b e l at)

  no-fault : (b v e f : ℕ) → ¬ IsStartFault read_named b v e f
  no-fault b v e f fault =
      let structure : fault.structure ≡ setting.structure = one-structure setting.named.graph fault.structure setting.structure fault.is_structure is.structure in
      let bad : IsBadStart setting.named.graph setting.structure.blocks lists b v e f =
      subst (λ (ls : List (List ℕ)). IsBadStart setting.named.graph setting.structure.blocks ls b v e f) (told-some lists fault.lists fault.has_start)
      (subst (λ (s : BlockStructure). IsBadStart setting.named.graph s.blocks fault.lists b v e f) structure fault.bad) in
      let l : b < length setting.trees = subst (λ (n : ℕ). b < n) (sym is.trees.one_each) bad.within in
      given-not_bad setting.named.graph setting.structure.blocks lists b v e f (tree_at setting.trees b) is.structure.blocks bad.within (is.trees.each b bad.within) bad
      (certificate_at setting.certificates b) (entry_at family b) (is.certificates.each b l) (right.each b l) (λ x at. given b x l at)

  pub read-back : IsReadBack setting family (marked (marks setting.named.graph.vertex_count setting.trees family) setting.document) read_named
  read-back = record {
    well_formed = λ w. marked_well_formed (marks setting.named.graph.vertex_count setting.trees family) setting.document (lists_quotable lists) w;
    read = marked_start setting.document setting.named lists is.graph arranged;
    graph = refl;
    ids = refl;
    present = present;
    no_fault = no-fault;
  }

pub gml-read_back : (setting : Setting) (state : State) → IsSetting setting → IsState setting state
    → IsReadBack setting state.present (marked (marks setting.named.graph.vertex_count setting.trees state.present) setting.document)
    (record setting.named { start = told_lists (present_lists setting.named.graph.vertex_count setting.trees state.present) })
gml-read_back setting state is right = read-back setting state.present is right.present
