use Rattle.std.proofs.Common.{◌<◌, ℕ, List, length, map, get_or, slice_index, sym, ap, ◌∙◌, subst, arith}
use Rattle.permutations.proofs.Arrangements.{member-at}
use Rattle.multigraph.specs.Graph.{edge_count}
use Rattle.multigraph.specs.Part.{Rises, HoldEnds}
use Rattle.whole_embed.specs.Component.{component_edges, block_of}
use Rattle.whole_embed.specs.Frames.{IsFrame}
use Rattle.whole_embed.proofs.Components.{vertices-rise, vertex-within, edges-rise, edge-within, held}
use Rattle.whole_embed.proofs.FrameFacts.{frame-is, frame-of}
use Rattle.whole_embed.proofs.component.Frame.of.Goals as goal

pub blocks_of_edges-requires-clause-within : goal.blocks_of_edges-requires-clause-within
blocks_of_edges-requires-clause-within c = subst (λ (z : List ℕ). (i : ℕ) → i < length z → slice_index z i < edge_count c.args.graph.now) (sym (c.deref.ensures.value ∙ c.in_ok-edges.ensures {u = tt}))
    (edge-within c.args.graph.now c.args.blocks.now c.args.c c.requires)

pub part_on-requires-clause-increasing_vertices : goal.part_on-requires-clause-increasing_vertices
part_on-requires-clause-increasing_vertices c = subst Rises (sym (c.deref-2.ensures.value ∙ c.in_ok-vertices.ensures {u = tt})) (vertices-rise c.args.graph.now c.args.blocks.now c.args.c c.requires)

pub part_on-requires-clause-vertices_within : goal.part_on-requires-clause-vertices_within
part_on-requires-clause-vertices_within c = subst (λ (z : List ℕ). (i : ℕ) → i < length z → slice_index z i < c.args.graph.now.vertex_count) (sym (c.deref-2.ensures.value ∙ c.in_ok-vertices.ensures {u = tt}))
    (vertex-within c.args.graph.now c.args.blocks.now c.args.c c.requires)

pub part_on-requires-clause-increasing_edges : goal.part_on-requires-clause-increasing_edges
part_on-requires-clause-increasing_edges c = subst Rises (sym (c.deref-3.ensures.value ∙ c.in_ok-edges.ensures {u = tt})) (edges-rise c.args.graph.now c.args.blocks.now c.args.c c.requires)

pub part_on-requires-clause-edges_within : goal.part_on-requires-clause-edges_within
part_on-requires-clause-edges_within c = subst (λ (z : List ℕ). (i : ℕ) → i < length z → slice_index z i < edge_count c.args.graph.now) (sym (c.deref-3.ensures.value ∙ c.in_ok-edges.ensures {u = tt}))
    (edge-within c.args.graph.now c.args.blocks.now c.args.c c.requires)

pub part_on-requires-clause-ends : goal.part_on-requires-clause-ends
part_on-requires-clause-ends c =
    let g = c.args.graph.now in
    subst (λ (z : List ℕ). HoldEnds g z c.deref-2.result.now) (sym (c.deref-3.ensures.value ∙ c.in_ok-edges.ensures {u = tt}))
    (subst (HoldEnds g (component_edges g c.args.blocks.now c.args.c)) (sym (c.deref-2.ensures.value ∙ c.in_ok-vertices.ensures {u = tt})) (held g c.args.blocks.now c.args.c c.requires c.keeps_limits.ensures.graph))

pub cuts_of-requires : goal.cuts_of-requires
cuts_of-requires c i l = let cuts = c.args.blocks.now.cut_vertices in omega (arith, c.requires.cut_vertices.vertices (get_or cuts i 0) (member-at cuts i 0 l), c.requires.components.places)

pub invariant_of-result : goal.invariant_of-result
invariant_of-result c =
    let g = c.args.graph.now in
    let s = c.args.blocks.now in
    let e = c.deref-3.ensures.value ∙ c.in_ok-edges.ensures {u = tt} in
    subst IsFrame (sym (frame-is g s c.args.c c.requires c.in_ok-part_on.field-0 c.deref-2.result.now c.deref-3.result.now c.in_ok-blocks_of.field-0.items c.in_ok-cuts_of.field-0.items c.in_ok-edge_blocks.edge_blocks.items
    (c.deref-2.ensures.value ∙ c.in_ok-vertices.ensures {u = tt}) e (c.in_ok-part_on.ensures {u = tt}) (c.in_ok-blocks_of.ensures {u = tt}) (c.in_ok-cuts_of.ensures {u = tt})
    (c.in_ok-edge_blocks.ensures {u = tt} ∙ ap (map (block_of s.blocks)) (c.deref.ensures.value ∙ sym c.deref-3.ensures.value))))
    (frame-of g s c.args.c c.requires)

pub returns : goal.returns
returns c =
    let g = c.args.graph.now in
    let s = c.args.blocks.now in
    let e = c.deref-3.ensures.value ∙ c.in_ok-edges.ensures {u = tt} in
    frame-is g s c.args.c c.requires c.in_ok-part_on.field-0 c.deref-2.result.now c.deref-3.result.now c.in_ok-blocks_of.field-0.items c.in_ok-cuts_of.field-0.items c.in_ok-edge_blocks.edge_blocks.items
    (c.deref-2.ensures.value ∙ c.in_ok-vertices.ensures {u = tt}) e (c.in_ok-part_on.ensures {u = tt}) (c.in_ok-blocks_of.ensures {u = tt}) (c.in_ok-cuts_of.ensures {u = tt})
    (c.in_ok-edge_blocks.ensures {u = tt} ∙ ap (map (block_of s.blocks)) (c.deref.ensures.value ∙ sym c.deref-3.ensures.value))
