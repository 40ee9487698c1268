-- Faults of a start: there is one, with one set of numbers, and none where a session starts.
use Rattle.std.proofs.Common.{◌≡◌, ℕ, ◌<◌, List, length, Option, None, Some, inl, inr, refl, sym, ap, ◌∙◌, subst}
use Rattle.std.proofs.lemmas.Bool.{cases_order}
use Rattle.multigraph.specs.Graph.{Multigraph}
use Rattle.multigraph.specs.Part.{GraphPart, IsNumbered}
use Rattle.blocks.specs.Blocks.{BlockStructure, AreBlocks, block_at}
use Rattle.blocks.proofs.OneStructure.{one-structure}
use Rattle.faces.specs.Euler.{face_count, IsPlaneSystem}
use Rattle.kuratowski.specs.declared.subdivision.Subdivision.{Subdivision}
use Rattle.gml_graph.specs.Named.{NamedGraph}
use Rattle.skel_embed.specs.Taken.{IsGiven, IsNotPlane}
use Rattle.spqr_session.specs.Trees.{BlockTree, IsBlockTree, tree_at}
use Rattle.spqr_session.specs.Certificates.{IsCertificate, certificate_at}
use Rattle.spqr_session.specs.Setting.{Setting, IsSetting}
use Rattle.spqr_session.specs.Start.{start_entries, IsBadStart, IsStartFault}
use Rattle.spqr_session.specs.State.{Embedding, State, entry_at, IsEntry, IsStartEntry, IsStart}
use Rattle.spqr_session.proofs.BlockParts.{block-tree}
use Rattle.spqr_session.proofs.OneTree.{parts-equal}
use Rattle.spqr_session.proofs.GivenParts.{given-one}
use Rattle.spqr_session.proofs.Takings.{not-both}

-- the numbers of lists that are not plane are one set
not_plane-one : (part : GraphPart) (entries : List (ℕ × List ℕ)) (v e f x y z : ℕ) → IsNumbered part → IsNotPlane part entries v e f → IsNotPlane part entries x y z → (v ≡ x) × (e ≡ y) × (f ≡ z)
not_plane-one part entries v e f x y z numbered p q =
    (p.vertices ∙ sym q.vertices, p.edges ∙ sym q.edges, p.faces ∙ ap (face_count part.graph) (given-one part entries numbered p.system q.system p.given q.given) ∙ sym q.faces)

module _ (g : Multigraph) (blocks lists : List (List ℕ)) where
  -- so are those of a block
  bad-one : (b v e f x y z : ℕ) → IsBadStart g blocks lists b v e f → IsBadStart g blocks lists b x y z → (v ≡ x) × (e ≡ y) × (f ≡ z)
  bad-one b v e f x y z p q =
      let same : q.part ≡ p.part = parts-equal g (block_at blocks b) q.part p.part q.is_part p.is_part in
      not_plane-one p.part (start_entries p.part lists) v e f x y z p.is_part.numbered p.not_plane (subst (λ (part : GraphPart). IsNotPlane part (start_entries part lists) x y z) same q.not_plane)

  -- the least such block is one
  least-one : (b v e f c x y z : ℕ) → IsBadStart g blocks lists b v e f → IsBadStart g blocks lists c x y z → ((d i j k : ℕ) → d < b → ¬ IsBadStart g blocks lists d i j k)
      → ((d i j k : ℕ) → d < c → ¬ IsBadStart g blocks lists d i j k) → (b ≡ c) × (v ≡ x) × (e ≡ y) × (f ≡ z)
  least-one b v e f c x y z p q none other = elim (cases_order b c) [
    | inl same ↦ (let rest = bad-one b v e f x y z p (subst (λ (k : ℕ). IsBadStart g blocks lists k x y z) (sym same) q) in (same, rest.0, rest.1, rest.2))
    | inr (inl less) ↦ absurd (other b v e f less p)
    | inr (inr more) ↦ absurd (none c x y z more q)
  ]

  -- a block that starts at the lists is none
  module _ (b v e f : ℕ) (tree : BlockTree) (are : AreBlocks g blocks) (within : b < length blocks) (is : IsBlockTree g (block_at blocks b) tree) (bad : IsBadStart g blocks lists b v e f) where
    same-part : bad.part ≡ tree.part
    same-part = parts-equal g (block_at blocks b) bad.part tree.part bad.is_part is.part

    pub given-not_bad : (certificate : Option Subdivision) (entry : Option Embedding) → IsCertificate tree.part.graph certificate → IsEntry tree certificate entry
        → ((x : Embedding) → entry ≡ Some x → IsGiven tree.part (start_entries tree.part lists) x.rotation) → ⊥
    given-not_bad (Some s) o c p q = c.1 bad.planar.0 (subst (λ (part : GraphPart). IsPlaneSystem part.graph bad.planar.0) same-part bad.planar.1)
    given-not_bad None None c p q = p
    given-not_bad None (Some x) c p q =
        not-both (start_entries tree.part lists) tree is.part.numbered (block-tree g blocks b tree.part tree.nodes are within is.part is.nodes) x.rotation v e f (q x refl) p.0
        (subst (λ (part : GraphPart). IsNotPlane part (start_entries part lists) v e f) same-part bad.not_plane)

    pub started-not_bad : (certificate : Option Subdivision) (entry : Option Embedding) → IsCertificate tree.part.graph certificate → IsEntry tree certificate entry → IsStartEntry (Some lists) tree entry → ⊥
    started-not_bad certificate entry c p q =
        given-not_bad certificate entry c p (λ x at. (let both = subst (λ (o : Option Embedding). IsStartEntry (Some lists) tree o) at q in both.0))

-- there is one fault
pub fault-one : (named : NamedGraph) (b v e f c x y z : ℕ) → IsStartFault named b v e f → IsStartFault named c x y z → (b ≡ c) × (v ≡ x) × (e ≡ y) × (f ≡ z)
fault-one named b v e f c x y z p q =
    let both : Some q.lists ≡ Some p.lists = sym q.has_start ∙ p.has_start in
    let lists : q.lists ≡ p.lists = cc both in
    let structure : q.structure ≡ p.structure = one-structure named.graph q.structure p.structure q.is_structure p.is_structure in
    let moved : (d i j k : ℕ) → IsBadStart named.graph q.structure.blocks q.lists d i j k → IsBadStart named.graph p.structure.blocks p.lists d i j k =
    λ d i j k h. subst (λ (l : List (List ℕ)). IsBadStart named.graph p.structure.blocks l d i j k) lists (subst (λ (s : BlockStructure). IsBadStart named.graph s.blocks q.lists d i j k) structure h) in
    let back : (d i j k : ℕ) → IsBadStart named.graph p.structure.blocks p.lists d i j k → IsBadStart named.graph q.structure.blocks q.lists d i j k =
    λ d i j k h. subst (λ (l : List (List ℕ)). IsBadStart named.graph q.structure.blocks l d i j k) (sym lists) (subst (λ (s : BlockStructure). IsBadStart named.graph s.blocks p.lists d i j k) (sym structure) h) in
    least-one named.graph p.structure.blocks p.lists b v e f c x y z p.bad (moved c x y z q.bad) p.none_before (λ d i j k l h. q.none_before d i j k l (back d i j k h))

-- and none where a session starts
pub start-no_fault : (setting : Setting) (state : State) (b v e f : ℕ) → IsSetting setting → IsStart setting state → ¬ IsStartFault setting.named b v e f
start-no_fault setting state b v e f is start fault =
    let structure : fault.structure ≡ setting.structure = one-structure setting.named.graph fault.structure setting.structure fault.is_structure is.structure in
    let bad : IsBadStart setting.named.graph setting.structure.blocks fault.lists b v e f = subst (λ (s : BlockStructure). IsBadStart setting.named.graph s.blocks fault.lists b v e f) structure fault.bad in
    let l : b < length setting.trees = subst (λ (n : ℕ). b < n) (sym is.trees.one_each) bad.within in
    started-not_bad setting.named.graph setting.structure.blocks fault.lists b v e f (tree_at setting.trees b) is.structure.blocks bad.within (is.trees.each b bad.within) bad
    (certificate_at setting.certificates b) (entry_at state.present b) (is.certificates.each b l) (start.right.present.each b l)
    (subst (λ (s : Option (List (List ℕ))). IsStartEntry s (tree_at setting.trees b) (entry_at state.present b)) fault.has_start (start.starts b l))
