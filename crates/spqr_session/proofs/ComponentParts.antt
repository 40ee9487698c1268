-- Components of a setting: with the blocks of a family they are components in the plane; their vertices, and the edges around these.
use Rattle.std.proofs.Common.{◌≡◌, ℕ, zero, suc, ◌+◌, ◌<◌, Bool, true, false, List, length, slice_index, slice_index_or, Option, None, Some, inl, inr, refl, sym, ap, ◌∙◌, subst, arith}
use Rattle.std.proofs.lemmas.Bool.{cases_Bool, cases_eq, true≢false, cond-true, cond-false}
use Rattle.std.proofs.lemmas.List.{get_or-map}
use Rattle.permutations.specs.Count.{count}
use Rattle.permutations.specs.Members.{is_member}
use Rattle.permutations.specs.Relation.{connected, leads, leader}
use Rattle.permutations.proofs.Leaders.{leader-related, leader-le, leader-leads}
use Rattle.permutations.proofs.Relation.{connected-equivalence}
use Rattle.multigraph.specs.Graph.{Multigraph, incident_edges, numbers_below, IsGraph, IsWithinLimits}
use Rattle.multigraph.specs.Part.{IsPart, Rises}
use Rattle.multigraph.proofs.Below.{length-numbers_below, get_or-numbers_below}
use Rattle.multigraph.proofs.Incident.{incident-rises}
use Rattle.rotations.proofs.Membership.{incident-member, member-edge, member-end}
use Rattle.graph_theory.proofs.Rising.{members-same}
use Rattle.blocks.specs.Blocks.{BlockStructure, block_at}
use Rattle.gml_graph.proofs.Law.{sound_graph}
use Rattle.arrangements.proofs.Lists.{all-passes}
use Rattle.kuratowski.specs.declared.subdivision.Subdivision.{Subdivision}
use Rattle.faces.specs.Euler.{IsPlaneSystem}
use Rattle.skeletons.specs.Items as items
use Rattle.whole_embed.specs.Component.{Component, BlockInPlane, component_vertices, component_of, AreInPlane, IsComponentInPlane}
use Rattle.whole_embed.specs.Around.{edges_around}
use Rattle.whole_embed.specs.Whole.{AreArranged}
use Rattle.whole_embed.proofs.Components.{block-in, in-vertex, edge-in, edge-component, in-cut}
use Rattle.whole_embed.proofs.ComponentBlocks.{numbered, subgraph}
use Rattle.whole_embed.proofs.Outer.{at-member, member-edges_at, edges_at-rise}
use Rattle.spqr_session.specs.Trees.{BlockTree, tree_at}
use Rattle.spqr_session.specs.Certificates.{certificate_at}
use Rattle.spqr_session.specs.Setting.{Setting, IsSetting}
use Rattle.spqr_session.specs.State.{Embedding, Family, arrangements_in, IsEntry, IsFamily, component_at, lacks_certificate, is_planar_component, block_with_entry, blocks_with, AreArrangements}
use Rattle.spqr_session.specs.Kept.{Kept, lists_kept, arrangements_kept, family_of}
use Rattle.spqr_session.specs.Components.{blocks_of}
use Rattle.spqr_session.specs.Commands.Regroup.{component_number}
use Rattle.spqr_session.proofs.SettingTrees.{setting-tree}

-- the entry of a block without a certificate
pub planar-embedding : (tree : BlockTree) (s : Option Subdivision) (o : Option Embedding) → lacks_certificate s ≡ true → IsEntry tree s o → (e : Embedding) × (o ≡ Some e) × IsPlaneSystem tree.part.graph e.rotation × (length e.locks ≡ length tree.nodes)
planar-embedding tree None None t h = absurd h
planar-embedding tree None (Some e) t h = (e, refl, h.0, h.1)
planar-embedding tree (Some s) o t h = absurd (true≢false (sym t))

-- an entry, with it or without a certificate, of a block that is seen as one in the plane has its part
pub entry-part : (tree : BlockTree) (o : Option Embedding) → (block_with_entry tree o).part ≡ tree.part
entry-part tree None = refl
entry-part tree (Some e) = refl

-- fewer numbers that pass are below one of them
count-below : (n l : ℕ) (p : ℕ → Bool) → l < n → p l ≡ true → count l p < count n p
count-below zero l p h t = absurd (omega (arith, h))
count-below (suc n) l p h t = elim (cases_eq l n) [
  | inl q ↦
      let last : p n ≡ true = subst (λ (z : ℕ). p z ≡ true) q t in
      omega (arith, ap (λ (z : ℕ). count z p) q, cond-true (p n) (count n p + 1) (count n p) last)
  | inr d ↦ let below : count l p < count n p = count-below n l p (omega (arith, h, d)) t in elim (cases_Bool (p n)) [
    | inl y ↦ omega (arith, below, cond-true (p n) (count n p + 1) (count n p) y)
    | inr y ↦ omega (arith, below, cond-false (p n) (count n p + 1) (count n p) y)
  ]
]

module _ (setting : Setting) (is : IsSetting setting) where
  abbrev g : Multigraph
  g = setting.named.graph

  abbrev s : BlockStructure
  s = setting.structure

  -- the graph is without loops and within the limits
  pub setting-graph : IsGraph setting.named.graph
  setting-graph = let w = sound_graph setting.document setting.named is.graph in w.0

  pub setting-limits : IsWithinLimits setting.named.graph
  setting-limits = let w = sound_graph setting.document setting.named is.graph in w.1

  -- each vertex is in a component
  pub component-below : (v : ℕ) → v < setting.named.graph.vertex_count → component_number setting v < setting.structure.component_count
  component-below v l =
      let r = connected g.ends in
      let h = leader r v in
      let lh : h < g.vertex_count = omega (arith, l, leader-le r v (connected-equivalence g.ends)) in
      let at : slice_index s.components h ≡ count h (leads r) = is.structure.components.least h lh (leader-leads r v (connected-equivalence g.ends)) in
      let same : slice_index s.components h ≡ slice_index s.components v = (is.structure.components.same h v lh l).1 (leader-related r v (connected-equivalence g.ends)) in
      omega (arith, at, same, is.structure.components.counted, count-below g.vertex_count h (leads r) lh (leader-leads r v (connected-equivalence g.ends)))

  -- and is a vertex of it
  pub vertex-there : (v : ℕ) → v < setting.named.graph.vertex_count → is_member v (component_vertices setting.structure (component_number setting v)) ≡ true
  vertex-there v l = in-vertex g s (component_number setting v) is.structure v l refl

  -- a cut vertex is one of its component
  pub cut-there : (v : ℕ) → is_member v setting.structure.cut_vertices ≡ true → is_member v (component_at setting (component_number setting v)).cuts ≡ true
  cut-there v m = in-cut g s (component_number setting v) is.structure v (vertex-there v (is.structure.cut_vertices.vertices v m)) m

  -- the edges around a vertex of a component are those of the graph that end there
  pub around-all : (c v : ℕ) → is_member v (component_vertices setting.structure c) ≡ true → edges_around (component_at setting c) v ≡ incident_edges setting.named.graph v
  around-all c v m =
      let k = component_of g s c in
      let n = numbered g s c is.structure setting-graph setting-limits in
      let sub = subgraph g s c is.structure setting-graph setting-limits in
      members-same (edges_around k v) (incident_edges g v) (edges_at-rise g k.part n sub v) (λ i j w b. incident-rises g v i j 0 w b)
      (λ e t. let w = at-member g k.part n sub v e m t in incident-member g v e (edge-in g s c is.structure e w.0).0 w.1)
      (λ e t. member-edges_at g k.part n sub v e (edge-component g s c is.structure setting-graph e v (member-edge g v e t) (member-end g v e t) m) (member-end g v e t))

  -- they increase
  pub around-rises : (c v : ℕ) → is_member v (component_vertices setting.structure c) ≡ true → Rises (edges_around (component_at setting c) v)
  around-rises c v m = subst Rises (sym (around-all c v m)) (λ i j w b. incident-rises g v i j 0 w b)

  pub around-cut : (v : ℕ) → is_member v setting.structure.cut_vertices ≡ true → edges_around (component_at setting (component_number setting v)) v ≡ incident_edges setting.named.graph v
  around-cut v m = around-all (component_number setting v) v (vertex-there v (is.structure.cut_vertices.vertices v m))

  -- a block of a component is one of the graph
  pub block-there : (c b : ℕ) → is_member b (component_at setting c).blocks ≡ true → b < length setting.trees
  block-there c b m = let w = block-in g s c is.structure b m in subst (λ (n : ℕ). b < n) (sym is.trees.one_each) w.0

  -- each block of a component whose blocks are planar has no certificate
  pub block-planar : (c b : ℕ) → is_planar_component setting c ≡ true → is_member b (component_at setting c).blocks ≡ true → lacks_certificate (certificate_at setting.certificates b) ≡ true
  block-planar c b t m = all-passes (λ x. lacks_certificate (certificate_at setting.certificates x)) (component_at setting c).blocks b t m

  module _ (entries : List (Option Embedding)) (each : (b : ℕ) → b < length setting.trees → IsEntry (tree_at setting.trees b) (certificate_at setting.certificates b) (slice_index_or entries b None)) (c : ℕ) (planar : is_planar_component setting c ≡ true) where
    -- and an embedding
    pub block-embedding : (b : ℕ) → is_member b (component_at setting c).blocks ≡ true
        → (e : Embedding) × (slice_index_or entries b None ≡ Some e) × IsPlaneSystem (tree_at setting.trees b).part.graph e.rotation × (length e.locks ≡ length (tree_at setting.trees b).nodes)
    block-embedding b m = planar-embedding (tree_at setting.trees b) (certificate_at setting.certificates b) (slice_index_or entries b None) (block-planar c b planar m) (each b (block-there c b m))

    -- what holds of a block with its embedding
    seen : (b : ℕ) → is_member b (component_at setting c).blocks ≡ true → (P : BlockInPlane → Type 0)
        → ((e : Embedding) → slice_index_or entries b None ≡ Some e → IsPlaneSystem (tree_at setting.trees b).part.graph e.rotation → length e.locks ≡ length (tree_at setting.trees b).nodes → P (block_with_entry (tree_at setting.trees b) (Some e)))
        → P (blocks_with setting.trees entries b)
    seen b m P f = let w = block-embedding b m in subst (λ (o : Option Embedding). P (block_with_entry (tree_at setting.trees b) o)) (sym w.1) (f w.0 w.1 w.2 w.3)

    -- so its blocks are in the plane
    pub blocks-in_plane : AreInPlane setting.named.graph setting.structure c (blocks_with setting.trees entries)
    blocks-in_plane = record {
      parts = λ b m. seen b m (λ k. IsPart g (block_at s.blocks b) k.part) (λ e p h n. let w = block-in g s c is.structure b m in let t = is.trees.each b w.0 in t.part);
      trees = λ b m. seen b m (λ k. items.IsBlockTree k.part.graph k.nodes) (λ e p h n. setting-tree setting is b (block-there c b m));
      planes = λ b m. seen b m (λ k. IsPlaneSystem k.part.graph k.rotation) (λ e p h n. h);
      locks = λ b m. seen b m (λ k. length k.locks ≡ length k.nodes) (λ e p h n. n);
    }

    -- and the component is one in the plane
    pub component-in_plane : c < setting.structure.component_count → IsComponentInPlane (component_at setting c) (blocks_with setting.trees entries)
    component-in_plane l = record {
      graph = g;
      structure = s;
      number = c;
      is_graph = setting-graph;
      limits = setting-limits;
      is_structure = is.structure;
      within = l;
      component = refl;
      blocks = blocks-in_plane;
    }

-- lists at the cut vertices of a component whose blocks are planar
pub lists-there : (k : Component) (block : ℕ → BlockInPlane) (planar : Bool) (o : Option (List (List ℕ))) → planar ≡ true → AreArrangements k block planar o → (lists : List (List ℕ)) × (o ≡ Some lists) × AreArranged k block lists
lists-there k block true None t h = absurd h
lists-there k block true (Some lists) t h = (lists, refl, h)
lists-there k block false o t h = absurd (true≢false (sym t))

module _ (setting : Setting) (family : Family) (right : IsFamily setting family) (c : ℕ) (l : c < setting.structure.component_count) (planar : is_planar_component setting c ≡ true) where
  -- the lists of a family there
  pub family-lists : (lists : List (List ℕ)) × (arrangements_in family c ≡ Some lists) × AreArranged (component_at setting c) (blocks_of setting family) lists
  family-lists = lists-there (component_at setting c) (blocks_of setting family) (is_planar_component setting c) (arrangements_in family c) planar (right.arranged c l)

  -- lists that are those of the family are arranged
  pub family-arranged : (lists : List (List ℕ)) → arrangements_in family c ≡ Some lists → AreArranged (component_at setting c) (blocks_of setting family) lists
  family-arranged lists e =
      let w = family-lists in
      let same : w.0 ≡ lists = (let both : Some w.0 ≡ Some lists = sym w.1 ∙ e in cc) in
      subst (AreArranged (component_at setting c) (blocks_of setting family)) same w.2

  -- with its blocks the component is one in the plane
  pub family-in_plane : IsSetting setting → IsComponentInPlane (component_at setting c) (blocks_of setting family)
  family-in_plane is = component-in_plane setting is family.entries right.each c planar l

-- what is kept of component c
module _ (setting : Setting) (kept : Kept) (c : ℕ) (l : c < setting.structure.component_count) where
  pub kept-arrangements : arrangements_in (family_of setting kept) c ≡ arrangements_kept setting kept c
  kept-arrangements =
      get_or-map (arrangements_kept setting kept) (numbers_below setting.structure.component_count) c 0 None (omega (arith, l, length-numbers_below setting.structure.component_count))
      ∙ ap (arrangements_kept setting kept) (get_or-numbers_below setting.structure.component_count c 0 l)

  pub kept-lists : is_planar_component setting c ≡ true → arrangements_in (family_of setting kept) c ≡ Some (lists_kept (component_at setting c) (blocks_with setting.trees kept.entries) kept.lists)
  kept-lists planar = kept-arrangements ∙ cond-true (is_planar_component setting c) (Some (lists_kept (component_at setting c) (blocks_with setting.trees kept.entries) kept.lists)) None planar
