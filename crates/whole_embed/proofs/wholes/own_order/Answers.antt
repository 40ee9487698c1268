use Rattle.std.proofs.Common.{◌≡◌, ◌<◌, ℕ, List, None, Some, length, get_or, slice_index, sym, ap, ◌∙◌, subst}
use Rattle.std.specs.List.{slice_get}
use Rattle.std.proofs.lemmas.Result.{IfOk-weaker}
use Rattle.multigraph.specs.Graph.{Multigraph, incident_edges}
use Rattle.multigraph.specs.Part.{GraphPart}
use Rattle.skel_embed.specs.Block.{BlockState}
use Rattle.whole_embed.specs.Around.{outer_at, edges_around}
use Rattle.whole_embed.specs.Cuts.{blocks_in}
use Rattle.whole_embed.specs.Whole.{first_order}
use Rattle.whole_embed.proofs.Assembly.{assembled}
use Rattle.whole_embed.proofs.FrameFacts.{own-first, own-none, own-order, own-there, block-at}
use Rattle.whole_embed.proofs.wholes.own_order.Goals as goal

pub bounds-edge_blocks-edge : goal.bounds-edge_blocks-edge
bounds-edge_blocks-edge c =
    let k = c.args.frame.now in
    let is : c.incident.result.now ≡ incident_edges k.part.graph c.args.i = c.incident.ensures.value ∙ ap (λ (g : Multigraph). incident_edges g c.args.i) (c.graph.ensures.value ∙ ap (λ (p : GraphPart). p.graph) c.part-part.ensures.value) in
    let first : slice_get c.incident.result.now 0 ≡ Some c.in-Some.edge.now = sym (c.in-Some.ensures {u = tt}).value in
    let own = own-first k (blocks_in c.args.all.now) c.args.i c.in-Some.edge.now c.incident.result.now (assembled k (blocks_in c.args.all.now) c.requires.component) c.part-part.ensures.frame c.requires.vertex is first in
    subst (λ (z : List ℕ). c.in-Some.edge.now < length z) (sym c.edge_blocks.ensures) own.within

pub bounds-all-b : goal.bounds-all-b
bounds-all-b c =
    let k = c.args.frame.now in
    let is : c.incident.result.now ≡ incident_edges k.part.graph c.args.i = c.incident.ensures.value ∙ ap (λ (g : Multigraph). incident_edges g c.args.i) (c.graph.ensures.value ∙ ap (λ (p : GraphPart). p.graph) c.part-part.ensures.value) in
    let first : slice_get c.incident.result.now 0 ≡ Some c.in-Some.edge.now = sym (c.in-Some.ensures {u = tt}).value in
    let own = own-first k (blocks_in c.args.all.now) c.args.i c.in-Some.edge.now c.incident.result.now (assembled k (blocks_in c.args.all.now) c.requires.component) c.part-part.ensures.frame c.requires.vertex is first in
    subst (λ (z : List ℕ). get_or z c.in-Some.edge.now 0 < length c.args.all.now) (sym c.edge_blocks.ensures) (c.requires.planes.within (slice_index k.edge_blocks c.in-Some.edge.now) own.among)

pub order_in-requires : goal.order_in-requires
order_in-requires c =
    let k = c.args.frame.now in
    let e = c.in-Some.edge.now in
    let is : c.incident.result.now ≡ incident_edges k.part.graph c.args.i = c.incident.ensures.value ∙ ap (λ (g : Multigraph). incident_edges g c.args.i) (c.graph.ensures.value ∙ ap (λ (p : GraphPart). p.graph) c.part-part.ensures.value) in
    let first : slice_get c.incident.result.now 0 ≡ Some c.in-Some.edge.now = sym (c.in-Some.ensures {u = tt}).value in
    let own = own-first k (blocks_in c.args.all.now) c.args.i e c.incident.result.now (assembled k (blocks_in c.args.all.now) c.requires.component) c.part-part.ensures.frame c.requires.vertex is first in
    let inside : get_or c.edge_blocks.result.now e 0 < length c.args.all.now = subst (λ (z : List ℕ). get_or z e 0 < length c.args.all.now) (sym c.edge_blocks.ensures) (c.requires.planes.within (slice_index k.edge_blocks e) own.among) in
    own-there k c.args.all.now c.args.i e c.index-all-b.result c.vertex.result c.requires.planes own
    (block-at c.args.all.now c.edge_blocks.result.now k.edge_blocks e c.index-all-b.result c.edge_blocks.ensures inside c.index-all-b.is)
    (c.vertex.ensures ∙ ap (λ (p : GraphPart). slice_index p.vertices c.args.i) c.part-part.ensures.value)

pub returns-in-Some : goal.returns-in-Some
returns-in-Some c =
    let k = c.args.frame.now in
    let all = c.args.all.now in
    let e = c.in-Some.edge.now in
    let v = slice_index k.part.vertices c.args.i in
    let is : c.incident.result.now ≡ incident_edges k.part.graph c.args.i = c.incident.ensures.value ∙ ap (λ (g : Multigraph). incident_edges g c.args.i) (c.graph.ensures.value ∙ ap (λ (p : GraphPart). p.graph) c.part-part.ensures.value) in
    let first : slice_get c.incident.result.now 0 ≡ Some c.in-Some.edge.now = sym (c.in-Some.ensures {u = tt}).value in
    let own = own-first k (blocks_in all) c.args.i e c.incident.result.now (assembled k (blocks_in all) c.requires.component) c.part-part.ensures.frame c.requires.vertex is first in
    let inside : get_or c.edge_blocks.result.now e 0 < length all = subst (λ (z : List ℕ). get_or z e 0 < length all) (sym c.edge_blocks.ensures) (c.requires.planes.within (slice_index k.edge_blocks e) own.among) in
    IfOk-weaker c.order_in.result (λ o. (p : BlockState) → c.index-all-b.result.plane ≡ Some p → o.items ≡ outer_at c.index-all-b.result.part p.rotation c.vertex.result)
    (λ o. o.items ≡ first_order k (blocks_in all) v (edges_around k v))
    (λ o h. own-order k all c.args.i e c.index-all-b.result c.vertex.result o.items c.requires.planes own
    (block-at all c.edge_blocks.result.now k.edge_blocks e c.index-all-b.result c.edge_blocks.ensures inside c.index-all-b.is)
    (c.vertex.ensures ∙ ap (λ (p : GraphPart). slice_index p.vertices c.args.i) c.part-part.ensures.value) h)
    c.order_in.ensures

pub returns-in-None : goal.returns-in-None
returns-in-None c =
    let k = c.args.frame.now in
    let is : c.incident.result.now ≡ incident_edges k.part.graph c.args.i = c.incident.ensures.value ∙ ap (λ (g : Multigraph). incident_edges g c.args.i) (c.graph.ensures.value ∙ ap (λ (p : GraphPart). p.graph) c.part-part.ensures.value) in
    let none : slice_get c.incident.result.now 0 ≡ None = sym (c.in-None.ensures {u = tt}).value in
    c.new.ensures.items ∙ sym (own-none k (blocks_in c.args.all.now) c.args.i c.incident.result.now c.part-part.ensures.numbered c.requires.vertex is none)
