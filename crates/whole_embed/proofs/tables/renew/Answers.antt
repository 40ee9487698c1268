use Rattle.std.proofs.Common.{◌≡◌, ◌+◌, ◌<◌, ℕ, true, List, length, map, get_or, slice_index, sym, ap, ◌∙◌, subst, arith}
use Rattle.std.proofs.lemmas.List.{length-map}
use Rattle.permutations.specs.Members.{is_member, place_of}
use Rattle.multigraph.specs.Graph.{Multigraph, edge_count, incident_edges}
use Rattle.multigraph.specs.Part.{GraphPart, Rises}
use Rattle.arrangements.specs.Options.{follower}
use Rattle.arrangements.specs.Tables.{VertexTables, follow_in}
use Rattle.whole_embed.specs.Around.{edges_around, block_with, block_order}
use Rattle.whole_embed.specs.Cuts.{blocks_in}
use Rattle.whole_embed.specs.Keeping.{KeepsTables}
use Rattle.whole_embed.proofs.Assembly.{assembled}
use Rattle.whole_embed.proofs.FrameFacts.{place-some, place-value, block-at}
use Rattle.whole_embed.proofs.CutTables.{tables-are}
use Rattle.whole_embed.proofs.Renewing.{inner-in, around-at, around-within, x-around, b-among, has-around, follower-is, follower-around, renewed-more}
use Rattle.whole_embed.proofs.tables.renew.Goals as goal

pub unwrap-i-requires : goal.unwrap-i-requires
unwrap-i-requires c = place-some c.part-part.result.now.vertices c.args.v c.inner_vertex.result c.inner_vertex.ensures
    (subst (λ (p : GraphPart). is_member c.args.v p.vertices ≡ true) (sym c.part-part.ensures.value) (c.part-part.ensures.frame.cuts_in c.args.v c.requires.vertex))

pub edge-edge-requires : goal.edge-edge-requires
edge-edge-requires c =
    let k = c.args.frame.now in
    let all = c.args.all.now in
    let v = c.args.v in
    let a = assembled k (blocks_in all) c.requires.component in
    let mv = a.cuts_in v c.requires.vertex in
    let at = place-value c.part-part.result.now.vertices v c.unwrap-i.result c.inner_vertex.result (subst (λ (p : GraphPart). Rises p.vertices) (sym c.part-part.ensures.value) c.part-part.ensures.numbered.vertices_rise) c.inner_vertex.ensures c.unwrap-i.ensures
    ∙ ap (λ (p : GraphPart). place_of p.vertices v) c.part-part.ensures.value in
    let is = c.incident-inner-items.ensures.value ∙ ap (λ (g : Multigraph). incident_edges g c.unwrap-i.result) (c.graph.ensures.value ∙ ap (λ (p : GraphPart). p.graph) c.part-part.ensures.value) in
    subst (λ (p : GraphPart). get_or c.incident-inner-items.result.now c.loop-inner.inner-index 0 < edge_count p.graph) (sym c.part-part.ensures.value) (inner-in k all a c.requires.planes v mv c.unwrap-i.result c.loop-inner.inner-index c.incident-inner-items.result.now at is c.loop-inner-test.true)

pub bounds-edge_blocks-inner : goal.bounds-edge_blocks-inner
bounds-edge_blocks-inner c =
    let k = c.args.frame.now in
    let all = c.args.all.now in
    let v = c.args.v in
    let a = assembled k (blocks_in all) c.requires.component in
    let mv = a.cuts_in v c.requires.vertex in
    let at = place-value c.part-part.result.now.vertices v c.unwrap-i.result c.inner_vertex.result (subst (λ (p : GraphPart). Rises p.vertices) (sym c.part-part.ensures.value) c.part-part.ensures.numbered.vertices_rise) c.inner_vertex.ensures c.unwrap-i.ensures
    ∙ ap (λ (p : GraphPart). place_of p.vertices v) c.part-part.ensures.value in
    let is = c.incident-inner-items.ensures.value ∙ ap (λ (g : Multigraph). incident_edges g c.unwrap-i.result) (c.graph.ensures.value ∙ ap (λ (p : GraphPart). p.graph) c.part-part.ensures.value) in
    omega (arith, inner-in k all a c.requires.planes v mv c.unwrap-i.result c.loop-inner.inner-index c.incident-inner-items.result.now at is c.loop-inner-test.true, c.part-part.ensures.numbered.edge_each, c.part-part.ensures.frame.edge_each, ap length c.edge_blocks.ensures)

pub bounds-all-b : goal.bounds-all-b
bounds-all-b c =
    let k = c.args.frame.now in
    let all = c.args.all.now in
    let v = c.args.v in
    let a = assembled k (blocks_in all) c.requires.component in
    let mv = a.cuts_in v c.requires.vertex in
    let at = place-value c.part-part.result.now.vertices v c.unwrap-i.result c.inner_vertex.result (subst (λ (p : GraphPart). Rises p.vertices) (sym c.part-part.ensures.value) c.part-part.ensures.numbered.vertices_rise) c.inner_vertex.ensures c.unwrap-i.ensures
    ∙ ap (λ (p : GraphPart). place_of p.vertices v) c.part-part.ensures.value in
    let is = c.incident-inner-items.ensures.value ∙ ap (λ (g : Multigraph). incident_edges g c.unwrap-i.result) (c.graph.ensures.value ∙ ap (λ (p : GraphPart). p.graph) c.part-part.ensures.value) in
    let among = b-among k all a c.requires.planes v mv c.unwrap-i.result c.loop-inner.inner-index c.incident-inner-items.result.now at is c.loop-inner-test.true in
    let inside : get_or c.edge_blocks.result.now (get_or c.incident-inner-items.result.now c.loop-inner.inner-index 0) 0 < length all = subst (λ (l : List ℕ). get_or l (get_or c.incident-inner-items.result.now c.loop-inner.inner-index 0) 0 < length all) (sym c.edge_blocks.ensures) (c.requires.planes.within (slice_index k.edge_blocks (get_or c.incident-inner-items.result.now c.loop-inner.inner-index 0)) among) in
    inside

pub follower_at-requires : goal.follower_at-requires
follower_at-requires c =
    let k = c.args.frame.now in
    let all = c.args.all.now in
    let v = c.args.v in
    let a = assembled k (blocks_in all) c.requires.component in
    let mv = a.cuts_in v c.requires.vertex in
    let at = place-value c.part-part.result.now.vertices v c.unwrap-i.result c.inner_vertex.result (subst (λ (p : GraphPart). Rises p.vertices) (sym c.part-part.ensures.value) c.part-part.ensures.numbered.vertices_rise) c.inner_vertex.ensures c.unwrap-i.ensures
    ∙ ap (λ (p : GraphPart). place_of p.vertices v) c.part-part.ensures.value in
    let is = c.incident-inner-items.ensures.value ∙ ap (λ (g : Multigraph). incident_edges g c.unwrap-i.result) (c.graph.ensures.value ∙ ap (λ (p : GraphPart). p.graph) c.part-part.ensures.value) in
    let among = b-among k all a c.requires.planes v mv c.unwrap-i.result c.loop-inner.inner-index c.incident-inner-items.result.now at is c.loop-inner-test.true in
    let inside : get_or c.edge_blocks.result.now (get_or c.incident-inner-items.result.now c.loop-inner.inner-index 0) 0 < length all = subst (λ (l : List ℕ). get_or l (get_or c.incident-inner-items.result.now c.loop-inner.inner-index 0) 0 < length all) (sym c.edge_blocks.ensures) (c.requires.planes.within (slice_index k.edge_blocks (get_or c.incident-inner-items.result.now c.loop-inner.inner-index 0)) among) in
    let em = block-at all c.edge_blocks.result.now k.edge_blocks (get_or c.incident-inner-items.result.now c.loop-inner.inner-index 0) c.index-all-b.result c.edge_blocks.ensures inside c.index-all-b.is in
    let ey : c.edge-edge.result ≡ slice_index k.part.edges (get_or c.incident-inner-items.result.now c.loop-inner.inner-index 0) = c.edge-edge.ensures ∙ ap (λ (p : GraphPart). slice_index p.edges (get_or c.incident-inner-items.result.now c.loop-inner.inner-index 0)) c.part-part.ensures.value in
    has-around k all a c.requires.planes v mv c.unwrap-i.result c.loop-inner.inner-index c.incident-inner-items.result.now at is c.loop-inner-test.true c.index-all-b.result c.edge-edge.result em ey

pub set_follower-requires-clause-edge : goal.set_follower-requires-clause-edge
set_follower-requires-clause-edge c =
    let k = c.args.frame.now in
    let all = c.args.all.now in
    let v = c.args.v in
    let a = assembled k (blocks_in all) c.requires.component in
    let mv = a.cuts_in v c.requires.vertex in
    let at = place-value c.part-part.result.now.vertices v c.unwrap-i.result c.inner_vertex.result (subst (λ (p : GraphPart). Rises p.vertices) (sym c.part-part.ensures.value) c.part-part.ensures.numbered.vertices_rise) c.inner_vertex.ensures c.unwrap-i.ensures
    ∙ ap (λ (p : GraphPart). place_of p.vertices v) c.part-part.ensures.value in
    let is = c.incident-inner-items.ensures.value ∙ ap (λ (g : Multigraph). incident_edges g c.unwrap-i.result) (c.graph.ensures.value ∙ ap (λ (p : GraphPart). p.graph) c.part-part.ensures.value) in
    let among = b-among k all a c.requires.planes v mv c.unwrap-i.result c.loop-inner.inner-index c.incident-inner-items.result.now at is c.loop-inner-test.true in
    let inside : get_or c.edge_blocks.result.now (get_or c.incident-inner-items.result.now c.loop-inner.inner-index 0) 0 < length all = subst (λ (l : List ℕ). get_or l (get_or c.incident-inner-items.result.now c.loop-inner.inner-index 0) 0 < length all) (sym c.edge_blocks.ensures) (c.requires.planes.within (slice_index k.edge_blocks (get_or c.incident-inner-items.result.now c.loop-inner.inner-index 0)) among) in
    let em = block-at all c.edge_blocks.result.now k.edge_blocks (get_or c.incident-inner-items.result.now c.loop-inner.inner-index 0) c.index-all-b.result c.edge_blocks.ensures inside c.index-all-b.is in
    let ey : c.edge-edge.result ≡ slice_index k.part.edges (get_or c.incident-inner-items.result.now c.loop-inner.inner-index 0) = c.edge-edge.ensures ∙ ap (λ (p : GraphPart). slice_index p.edges (get_or c.incident-inner-items.result.now c.loop-inner.inner-index 0)) c.part-part.ensures.value in
    subst (λ (l : List ℕ). is_member c.edge-edge.result l ≡ true) (sym c.loop-inner.invariant.0.edges) (subst (λ (z : ℕ). is_member z (edges_around k v) ≡ true) (sym ey) (x-around k all a c.requires.planes v mv c.unwrap-i.result c.loop-inner.inner-index c.incident-inner-items.result.now at is c.loop-inner-test.true))

pub set_follower-requires-clause-follower : goal.set_follower-requires-clause-follower
set_follower-requires-clause-follower c =
    let k = c.args.frame.now in
    let all = c.args.all.now in
    let v = c.args.v in
    let a = assembled k (blocks_in all) c.requires.component in
    let mv = a.cuts_in v c.requires.vertex in
    let at = place-value c.part-part.result.now.vertices v c.unwrap-i.result c.inner_vertex.result (subst (λ (p : GraphPart). Rises p.vertices) (sym c.part-part.ensures.value) c.part-part.ensures.numbered.vertices_rise) c.inner_vertex.ensures c.unwrap-i.ensures
    ∙ ap (λ (p : GraphPart). place_of p.vertices v) c.part-part.ensures.value in
    let is = c.incident-inner-items.ensures.value ∙ ap (λ (g : Multigraph). incident_edges g c.unwrap-i.result) (c.graph.ensures.value ∙ ap (λ (p : GraphPart). p.graph) c.part-part.ensures.value) in
    let among = b-among k all a c.requires.planes v mv c.unwrap-i.result c.loop-inner.inner-index c.incident-inner-items.result.now at is c.loop-inner-test.true in
    let inside : get_or c.edge_blocks.result.now (get_or c.incident-inner-items.result.now c.loop-inner.inner-index 0) 0 < length all = subst (λ (l : List ℕ). get_or l (get_or c.incident-inner-items.result.now c.loop-inner.inner-index 0) 0 < length all) (sym c.edge_blocks.ensures) (c.requires.planes.within (slice_index k.edge_blocks (get_or c.incident-inner-items.result.now c.loop-inner.inner-index 0)) among) in
    let em = block-at all c.edge_blocks.result.now k.edge_blocks (get_or c.incident-inner-items.result.now c.loop-inner.inner-index 0) c.index-all-b.result c.edge_blocks.ensures inside c.index-all-b.is in
    let ey : c.edge-edge.result ≡ slice_index k.part.edges (get_or c.incident-inner-items.result.now c.loop-inner.inner-index 0) = c.edge-edge.ensures ∙ ap (λ (p : GraphPart). slice_index p.edges (get_or c.incident-inner-items.result.now c.loop-inner.inner-index 0)) c.part-part.ensures.value in
    let next = follower-is k all a c.requires.planes v mv c.unwrap-i.result c.loop-inner.inner-index c.incident-inner-items.result.now at is c.loop-inner-test.true c.index-all-b.result c.edge-edge.result c.follower_at.result em ey c.follower_at.ensures in
    let mine : is_member c.edge-edge.result (edges_around k v) ≡ true = subst (λ (z : ℕ). is_member z (edges_around k v) ≡ true) (sym ey) (x-around k all a c.requires.planes v mv c.unwrap-i.result c.loop-inner.inner-index c.incident-inner-items.result.now at is c.loop-inner-test.true) in
    subst (λ (l : List ℕ). is_member c.follower_at.result l ≡ true) (sym c.loop-inner.invariant.0.edges) (subst (λ (z : ℕ). is_member z (edges_around k v) ≡ true) (sym next) (follower-around k all a c.requires.planes v mv c.edge-edge.result mine))

pub loop-inner-init : goal.loop-inner-init
loop-inner-init c = (c.requires.tables, c.degree.ensures.tables.follower_each, λ j l. absurd (omega (arith, l)))

pub loop-inner-preserved : goal.loop-inner-preserved
loop-inner-preserved c =
    let k = c.args.frame.now in
    let all = c.args.all.now in
    let v = c.args.v in
    let a = assembled k (blocks_in all) c.requires.component in
    let mv = a.cuts_in v c.requires.vertex in
    let at = place-value c.part-part.result.now.vertices v c.unwrap-i.result c.inner_vertex.result (subst (λ (p : GraphPart). Rises p.vertices) (sym c.part-part.ensures.value) c.part-part.ensures.numbered.vertices_rise) c.inner_vertex.ensures c.unwrap-i.ensures
    ∙ ap (λ (p : GraphPart). place_of p.vertices v) c.part-part.ensures.value in
    let is = c.incident-inner-items.ensures.value ∙ ap (λ (g : Multigraph). incident_edges g c.unwrap-i.result) (c.graph.ensures.value ∙ ap (λ (p : GraphPart). p.graph) c.part-part.ensures.value) in
    let among = b-among k all a c.requires.planes v mv c.unwrap-i.result c.loop-inner.inner-index c.incident-inner-items.result.now at is c.loop-inner-test.true in
    let inside : get_or c.edge_blocks.result.now (get_or c.incident-inner-items.result.now c.loop-inner.inner-index 0) 0 < length all = subst (λ (l : List ℕ). get_or l (get_or c.incident-inner-items.result.now c.loop-inner.inner-index 0) 0 < length all) (sym c.edge_blocks.ensures) (c.requires.planes.within (slice_index k.edge_blocks (get_or c.incident-inner-items.result.now c.loop-inner.inner-index 0)) among) in
    let em = block-at all c.edge_blocks.result.now k.edge_blocks (get_or c.incident-inner-items.result.now c.loop-inner.inner-index 0) c.index-all-b.result c.edge_blocks.ensures inside c.index-all-b.is in
    let ey : c.edge-edge.result ≡ slice_index k.part.edges (get_or c.incident-inner-items.result.now c.loop-inner.inner-index 0) = c.edge-edge.ensures ∙ ap (λ (p : GraphPart). slice_index p.edges (get_or c.incident-inner-items.result.now c.loop-inner.inner-index 0)) c.part-part.ensures.value in
    let next = follower-is k all a c.requires.planes v mv c.unwrap-i.result c.loop-inner.inner-index c.incident-inner-items.result.now at is c.loop-inner-test.true c.index-all-b.result c.edge-edge.result c.follower_at.result em ey c.follower_at.ensures in
    let n = c.loop-inner.inner-index in
    subst (λ (t : VertexTables). KeepsTables k v t × (length t.followers ≡ length t.edges) × ((j : ℕ) → j < n + 1 → follow_in t (slice_index (edges_around k v) j) ≡ follower (block_with k) (block_order (blocks_in all) v) (slice_index (edges_around k v) j)))
    (sym c.set_follower.ensures)
    (renewed-more k all a c.requires.planes v mv c.loop-inner.orders n c.edge-edge.result c.follower_at.result c.loop-inner.invariant.0 c.loop-inner.invariant.1 c.loop-inner.invariant.2
    (around-within k all a c.requires.planes v mv c.unwrap-i.result c.loop-inner.inner-index c.incident-inner-items.result.now at is c.loop-inner-test.true) (ey ∙ around-at k all a c.requires.planes v mv c.unwrap-i.result c.loop-inner.inner-index c.incident-inner-items.result.now at is c.loop-inner-test.true) next)

pub returns-clause-renewed : goal.returns-clause-renewed
returns-clause-renewed c =
    let k = c.args.frame.now in
    let all = c.args.all.now in
    let v = c.args.v in
    let a = assembled k (blocks_in all) c.requires.component in
    let mv = a.cuts_in v c.requires.vertex in
    let at = place-value c.part-part.result.now.vertices v c.unwrap-i.result c.inner_vertex.result (subst (λ (p : GraphPart). Rises p.vertices) (sym c.part-part.ensures.value) c.part-part.ensures.numbered.vertices_rise) c.inner_vertex.ensures c.unwrap-i.ensures
    ∙ ap (λ (p : GraphPart). place_of p.vertices v) c.part-part.ensures.value in
    let is = c.incident-inner-items.ensures.value ∙ ap (λ (g : Multigraph). incident_edges g c.unwrap-i.result) (c.graph.ensures.value ∙ ap (λ (p : GraphPart). p.graph) c.part-part.ensures.value) in
    let long : length (edges_around k v) ≡ length c.incident-inner-items.result.now =
    ap (λ (z : ℕ). length (map (slice_index k.part.edges) (incident_edges k.part.graph z))) (sym at) ∙ (length-map (incident_edges k.part.graph c.unwrap-i.result) (slice_index k.part.edges) ∙ ap length (sym is)) in
    tables-are k (blocks_in all) v c.loop-inner.orders a mv c.loop-inner.invariant.0 (λ j l. c.loop-inner.invariant.2 j (omega (arith, l, long, c.loop-inner-test.false)))
