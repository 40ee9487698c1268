-- A component in the plane is made of its blocks, and its rotation system of theirs.
use Rattle.std.proofs.Common.{◌≡◌, ℕ, ◌<◌, true, List, [], ◌∷◌, length, map, slice_index, refl, sym, ap₂, ◌∙◌, subst, arith}
use Rattle.permutations.specs.Members.{is_member, place_of}
use Rattle.permutations.proofs.Members.{member-head, member-tail}
use Rattle.permutations.proofs.Arrangements.{member-at, member-from_contains, contains-from_member}
use Rattle.multigraph.specs.Graph.{Multigraph, edge_count, IsGraph, IsWithinLimits}
use Rattle.graph_theory.specs.Block.{SameBlock}
use Rattle.blocks.specs.Blocks.{BlockStructure, block_at, IsBlockStructure}
use Rattle.whole_embed.specs.Component.{Component, BlockInPlane, component_edges, component_of, AreInPlane, IsComponentInPlane}
use Rattle.whole_embed.specs.Around.{outer_at, block_with}
use Rattle.whole_embed.specs.Whole.{AreArranged, order_around, whole_lists, whole_system}
use Rattle.whole_embed.specs.Walk.{system_lists}
use Rattle.whole_embed.proofs.Components.{edges-rise, edge-in, blocks-rise, block-in, cuts-rise, cut-in, block-edge, block_of-is, block_with-is}
use Rattle.whole_embed.proofs.ComponentBlocks.{numbered, same-inner, same-outer}
use Rattle.whole_embed.proofs.Outer.{place-rising}
use Rattle.whole_embed.proofs.Arranging.{around-edge, part-of, with-in, with-has, with-same, same-with, orders-around, one-block}
use Rattle.whole_embed.proofs.WholeParts.{outer-whole}
use Rattle.whole_embed.proofs.Assembling.{of-component, whole_is_member, whole_has_parts, whole_has_arrangements}
use Rattle.whole_embed.proofs.Assembled.{IsAssembled}
use Rattle.whole_embed.proofs.Steps.{IsPresent}

module _ (g : Multigraph) (s : BlockStructure) (c : ℕ) (is : IsBlockStructure g s) (ok : IsGraph g) (limits : IsWithinLimits g) (block : ℕ → BlockInPlane) (planes : AreInPlane g s c block) where
  abbrev k : Component
  k = component_of g s c

  abbrev E : List ℕ
  E = component_edges g s c

  -- an edge of the component by its number in it
  edge-at : (i : ℕ) → i < edge_count k.part.graph → (is_member (slice_index E i) E ≡ true) × (place_of E (slice_index E i) ≡ i)
  edge-at i l =
      let h : i < length E = omega (arith, l, (numbered g s c is ok limits).edge_each) in
      (member-at E i 0 h, place-rising E i (edges-rise g s c is) h)

  made : IsAssembled k block
  made = record {
    numbered = numbered g s c is ok limits;
    parts = λ b m. (part-of g s c is ok limits block planes b m).numbered;
    edge_in = λ b e m h.
        let me : is_member e (block_at s.blocks b) ≡ true = subst (λ (z : List ℕ). is_member e z ≡ true) (part-of g s c is ok limits block planes b m).edges_are h in
        let there = block-edge g s c is ok b e m me in
        (there, block_with-is g s c is ok e there ∙ block_of-is g s c is ok b e (block-in g s c is b m).0 me);
    edge_block = λ e m.
        let mb = with-in g s c is ok limits block planes e m in
        (mb, subst (λ (z : List ℕ). is_member e z ≡ true) (sym (part-of g s c is ok limits block planes (block_with k e) mb).edges_are) (with-has g s c is ok limits block planes e m));
    has_vertex = λ v e m h.
        let w = around-edge g s c is ok limits block planes v e m h in
        let mb = with-in g s c is ok limits block planes e w.0 in
        member-from_contains (block (block_with k e)).part.vertices v (((part-of g s c is ok limits block planes (block_with k e) mb).vertices v).1 (record {
          edge = e;
          among = contains-from_member (block_at s.blocks (block_with k e)) e (with-has g s c is ok limits block planes e w.0);
          is_edge = (edge-in g s c is e w.0).0;
          ends_there = w.1;
        }));
    one_block = λ v e f m n x y. one-block g s c is ok limits block planes v e f m n x y;
    same = λ i j li lj q.
        let a = edge-at i li in
        let b = edge-at j lj in
        subst (λ z. SameBlock k.part.graph z j) a.1 (subst (λ z. SameBlock k.part.graph (place_of E (slice_index E i)) z) b.1
        (same-inner g s c is ok limits (slice_index E i) (slice_index E j) a.0 b.0 (with-same g s c is ok limits block planes (slice_index E i) (slice_index E j) a.0 b.0 q)));
    same_back = λ i j li lj q.
        let a = edge-at i li in
        let b = edge-at j lj in
        same-with g s c is ok limits block planes (slice_index E i) (slice_index E j) a.0 b.0
        (same-outer g s c is ok limits (slice_index E i) (slice_index E j) a.0 b.0 (subst (λ z. SameBlock k.part.graph z (place_of E (slice_index E j))) (sym a.1) (subst (λ z. SameBlock k.part.graph i z) (sym b.1) q)));
    blocks_rise = blocks-rise g s c is;
    cuts_rise = cuts-rise g s c is;
    cuts_in = λ v m. cut-in g s c is v m;
    orders = λ v m. orders-around g s c is ok limits block planes v m;
  }

  -- images by functions that agree on the members
  images-same : {X : Type 0} (f h : ℕ → X) (l : List ℕ) → ((x : ℕ) → is_member x l ≡ true → f x ≡ h x) → map f l ≡ map h l
  images-same f h [] e = refl
  images-same f h (x ∷ l) e = ap₂ ◌∷◌ (e x (member-head x l)) (images-same f h l (λ y m. e y (member-tail y x l m)))

  lists-are : (lists : List (List ℕ)) → AreArranged k block lists → whole_lists k block lists ≡ system_lists k (whole_system k block lists)
  lists-are lists a = images-same (λ v. (v, order_around k block lists v)) (λ v. (v, outer_at k.part (whole_system k block lists) v)) k.part.vertices
      (λ v m. (λ i. (v, sym (outer-whole g s c is ok limits block planes lists a v m) i)))

-- a component in the plane is made of its blocks
pub assembled : (k : Component) (block : ℕ → BlockInPlane) → IsComponentInPlane k block → IsAssembled k block
assembled k block w = of-component (λ z. IsAssembled z block) k block w (made w.graph w.structure w.number w.is_structure w.is_graph w.limits block w.blocks)

-- its rotation system is a member of its list, with the parts of the blocks and the lists of the cut vertices
pub present : (k : Component) (block : ℕ → BlockInPlane) (lists : List (List ℕ)) → IsComponentInPlane k block → AreArranged k block lists → IsPresent k block lists (whole_system k block lists)
present k block lists w a = record {
  member = whole_is_member k block lists w a;
  parts = λ b m. whole_has_parts k block lists w a b m;
  rounds = λ i l. whole_has_arrangements k block lists w a i l;
}

-- in the numbers of the graph it is these lists
pub lists-of_system : (k : Component) (block : ℕ → BlockInPlane) (lists : List (List ℕ)) → IsComponentInPlane k block → AreArranged k block lists → whole_lists k block lists ≡ system_lists k (whole_system k block lists)
lists-of_system k block lists w a = of-component (λ z. AreArranged z block lists → whole_lists z block lists ≡ system_lists z (whole_system z block lists)) k block w
    (lists-are w.graph w.structure w.number w.is_structure w.is_graph w.limits block w.blocks lists) a
