use Rattle.std.proofs.Common.{◌≡◌, ℕ, nat_lt, true, List, length, map, slice_index, sym, ap, ◌∙◌, subst, arith}
use Rattle.std.proofs.lemmas.List.{length-map}
use Rattle.std.proofs.lemmas.Result.{IfOk-weaker}
use Rattle.permutations.specs.Members.{is_member, place_of}
use Rattle.multigraph.specs.Graph.{incident_edges}
use Rattle.multigraph.specs.Part.{GraphPart, Rises}
use Rattle.choice_lists.specs.Order.{IsRising}
use Rattle.arrangements.specs.Tables.{VertexTables}
use Rattle.whole_embed.specs.Keeping.{KeepsTables, AreRanks, numbers_at}
use Rattle.whole_embed.proofs.FrameFacts.{place-some, place-value}
use Rattle.whole_embed.proofs.CutTables.{tables-kept, rising-around, few-around}
use Rattle.whole_embed.proofs.tables.tables_of.Goals as goal

pub unwrap-i-requires : goal.unwrap-i-requires
unwrap-i-requires c = place-some c.part-part.result.now.vertices c.args.v c.inner_vertex.result c.inner_vertex.ensures
    (subst (λ (p : GraphPart). is_member c.args.v p.vertices ≡ true) (sym c.part-part.ensures.value) (c.part-part.ensures.frame.cuts_in c.args.v c.requires))

pub edges_at-requires : goal.edges_at-requires
edges_at-requires c =
    let w = (c.inner_vertex.ensures.some c.unwrap-i.result).0 c.unwrap-i.ensures in
    omega (arith, w.0, ap (λ (p : GraphPart). length p.vertices) c.part-part.ensures.value, ap (λ (p : GraphPart). p.graph.vertex_count) c.part-part.ensures.value, c.part-part.ensures.numbered.vertex_each)

pub blocks_at-requires : goal.blocks_at-requires
blocks_at-requires c =
    let w = (c.inner_vertex.ensures.some c.unwrap-i.result).0 c.unwrap-i.ensures in
    omega (arith, w.0, ap (λ (p : GraphPart). length p.vertices) c.part-part.ensures.value, c.part-part.ensures.numbered.vertex_each)

pub ranks_of-requires : goal.ranks_of-requires
ranks_of-requires c =
    let k = c.args.frame.now in
    let n = c.part-part.ensures.numbered in
    let i = c.unwrap-i.result in
    omega (arith, ap length (c.deref.ensures.value ∙ c.in_ok-blocks_at.ensures {u = tt}), length-map (incident_edges k.part.graph i) (slice_index k.edge_blocks), few-around k i n)

pub new-requires-clause-increasing : goal.new-requires-clause-increasing
new-requires-clause-increasing c =
    let k = c.args.frame.now in
    let n = c.part-part.ensures.numbered in
    let i = c.unwrap-i.result in
    let is : c.in_ok-edges.edges.items ≡ map (slice_index k.part.edges) (incident_edges k.part.graph i) = c.in_ok-edges.ensures {u = tt} ∙ ap (λ (p : GraphPart). map (slice_index p.edges) (incident_edges p.graph i)) c.part-part.ensures.value in
    subst (IsRising nat_lt) (sym is) (rising-around k i n)

pub new-requires-clause-few : goal.new-requires-clause-few
new-requires-clause-few c =
    let k = c.args.frame.now in
    let n = c.part-part.ensures.numbered in
    let i = c.unwrap-i.result in
    let is : c.in_ok-edges.edges.items ≡ map (slice_index k.part.edges) (incident_edges k.part.graph i) = c.in_ok-edges.ensures {u = tt} ∙ ap (λ (p : GraphPart). map (slice_index p.edges) (incident_edges p.graph i)) c.part-part.ensures.value in
    omega (arith, ap length is, length-map (incident_edges k.part.graph i) (slice_index k.part.edges), few-around k i n)

pub new-requires-clause-each : goal.new-requires-clause-each
new-requires-clause-each c =
    let k = c.args.frame.now in
    let n = c.part-part.ensures.numbered in
    let i = c.unwrap-i.result in
    let is : c.in_ok-edges.edges.items ≡ map (slice_index k.part.edges) (incident_edges k.part.graph i) = c.in_ok-edges.ensures {u = tt} ∙ ap (λ (p : GraphPart). map (slice_index p.edges) (incident_edges p.graph i)) c.part-part.ensures.value in
    omega (arith, (c.in_ok-ranks.ensures {u = tt}).each, ap length (c.deref.ensures.value ∙ c.in_ok-blocks_at.ensures {u = tt}), ap length is, length-map (incident_edges k.part.graph i) (slice_index k.part.edges), length-map (incident_edges k.part.graph i) (slice_index k.edge_blocks))

pub new-requires-clause-ranks : goal.new-requires-clause-ranks
new-requires-clause-ranks c p l =
    let k = c.args.frame.now in
    let n = c.part-part.ensures.numbered in
    let i = c.unwrap-i.result in
    let is : c.in_ok-edges.edges.items ≡ map (slice_index k.part.edges) (incident_edges k.part.graph i) = c.in_ok-edges.ensures {u = tt} ∙ ap (λ (p : GraphPart). map (slice_index p.edges) (incident_edges p.graph i)) c.part-part.ensures.value in
    let long : length c.deref.result.now ≡ length c.in_ok-edges.edges.items = omega (arith, ap length (c.deref.ensures.value ∙ c.in_ok-blocks_at.ensures {u = tt}), ap length is, length-map (incident_edges k.part.graph i) (slice_index k.part.edges), length-map (incident_edges k.part.graph i) (slice_index k.edge_blocks)) in
    omega (arith, (c.in_ok-ranks.ensures {u = tt}).below p (omega (arith, l, long)), long)

pub returns : goal.returns
returns c =
    let k = c.args.frame.now in
    let n = c.part-part.ensures.numbered in
    let i = c.unwrap-i.result in
    let is : c.in_ok-edges.edges.items ≡ map (slice_index k.part.edges) (incident_edges k.part.graph i) = c.in_ok-edges.ensures {u = tt} ∙ ap (λ (p : GraphPart). map (slice_index p.edges) (incident_edges p.graph i)) c.part-part.ensures.value in
    let at = place-value c.part-part.result.now.vertices c.args.v i c.inner_vertex.result (subst (λ (p : GraphPart). Rises p.vertices) (sym c.part-part.ensures.value) n.vertices_rise) c.inner_vertex.ensures c.unwrap-i.ensures
    ∙ ap (λ (p : GraphPart). place_of p.vertices c.args.v) c.part-part.ensures.value in
    let r : AreRanks (numbers_at k i) c.in_ok-ranks.ranks.items = subst (λ (l : List ℕ). AreRanks l c.in_ok-ranks.ranks.items) (c.deref.ensures.value ∙ c.in_ok-blocks_at.ensures {u = tt}) (c.in_ok-ranks.ensures {u = tt}) in
    IfOk-weaker c.new.result (λ (t : VertexTables). t ≡ record { edges = c.in_ok-edges.edges.items; ranks = c.in_ok-ranks.ranks.items; followers = c.in_ok-edges.edges.items }) (KeepsTables k c.args.v)
    (λ t e. subst (KeepsTables k c.args.v) (sym e) (tables-kept k c.args.v i c.in_ok-edges.edges.items c.in_ok-ranks.ranks.items c.in_ok-edges.edges.items n at c.part-part.ensures.frame.edge_each is r))
    c.new.ensures
