use Rattle.std.proofs.Common.{◌≡◌, ℕ, true, false, List, map, slice_index, refl, sym, ap, ◌∙◌, subst, MatchOption, IsPermutation}
use Rattle.permutations.specs.Members.{is_member, place_of}
use Rattle.permutations.specs.Cyclic.{from_least}
use Rattle.multigraph.specs.Graph.{incident_edges}
use Rattle.multigraph.specs.Part.{GraphPart, Rises}
use Rattle.rotations.specs.Rotation.{IsCyclicOrder}
use Rattle.arrangements.specs.Arranged.{cross}
use Rattle.arrangements.specs.Changed.{AreKept}
use Rattle.arrangements.specs.Crossings.{IsCrossingOf}
use Rattle.arrangements.specs.Tables.{VertexTables, AreTablesOf, rank_in}
use Rattle.whole_embed.specs.Around.{edges_around, block_with, block_order}
use Rattle.whole_embed.specs.Cuts.{blocks_in}
use Rattle.whole_embed.specs.Keeping.{IsFoundRank}
use Rattle.whole_embed.proofs.Assembly.{assembled}
use Rattle.whole_embed.proofs.FrameFacts.{place-some, place-value}
use Rattle.whole_embed.proofs.Renewing.{around-rises}
use Rattle.whole_embed.proofs.Reasons.{own-block, refusal-changed, refusal-crossing, no-refusal, around-order}
use Rattle.whole_embed.proofs.regrouping.arrange_at.Goals as goal

pub unwrap-i-requires : goal.unwrap-i-requires
unwrap-i-requires c = place-some c.part-part.result.now.vertices c.args.v c.inner_vertex.result c.inner_vertex.ensures
    (subst (λ (p : GraphPart). is_member c.args.v p.vertices ≡ true) (sym c.part-part.ensures.value) (c.part-part.ensures.frame.cuts_in c.args.v c.requires.vertex))

pub cyclic_order-requires : goal.cyclic_order-requires
cyclic_order-requires c =
    let k = c.args.frame.now in
    let v = c.args.v in
    let i = c.unwrap-i.result in
    let place = place-value c.part-part.result.now.vertices v i c.inner_vertex.result (subst (λ (p : GraphPart). Rises p.vertices) (sym c.part-part.ensures.value) c.part-part.ensures.numbered.vertices_rise) c.inner_vertex.ensures c.unwrap-i.ensures
    ∙ ap (λ (p : GraphPart). place_of p.vertices v) c.part-part.ensures.value in
    let mapped : c.in_ok-at.at.items ≡ map (slice_index k.part.edges) (incident_edges k.part.graph i) = c.in_ok-at.ensures {u = tt} ∙ ap (λ (p : GraphPart). map (slice_index p.edges) (incident_edges p.graph i)) c.part-part.ensures.value in
    let around : c.in_ok-at.at.items ≡ edges_around k v = mapped ∙ ap (λ (z : ℕ). map (slice_index k.part.edges) (incident_edges k.part.graph z)) place in
    let a = assembled k (blocks_in c.args.all.now) c.requires.component in
    let rise = around-rises k c.args.all.now a c.requires.planes v (a.cuts_in v c.requires.vertex) in
    subst Rises (sym (c.deref.ensures.value ∙ around)) rise

pub returns-in_default-clause-refused : goal.returns-in_default-clause-refused
returns-in_default-clause-refused c =
    let k = c.args.frame.now in
    let v = c.args.v in
    let i = c.unwrap-i.result in
    let place = place-value c.part-part.result.now.vertices v i c.inner_vertex.result (subst (λ (p : GraphPart). Rises p.vertices) (sym c.part-part.ensures.value) c.part-part.ensures.numbered.vertices_rise) c.inner_vertex.ensures c.unwrap-i.ensures
    ∙ ap (λ (p : GraphPart). place_of p.vertices v) c.part-part.ensures.value in
    let mapped : c.in_ok-at.at.items ≡ map (slice_index k.part.edges) (incident_edges k.part.graph i) = c.in_ok-at.ensures {u = tt} ∙ ap (λ (p : GraphPart). map (slice_index p.edges) (incident_edges p.graph i)) c.part-part.ensures.value in
    let around : c.in_ok-at.at.items ≡ edges_around k v = mapped ∙ ap (λ (z : ℕ). map (slice_index k.part.edges) (incident_edges k.part.graph z)) place in
    let no = subst (λ r. MatchOption r (¬ IsPermutation c.deref.result.now c.args.edges.now) (λ l. IsPermutation c.deref.result.now c.args.edges.now × (l.items ≡ from_least c.args.edges.now))) c.in_default.is (c.in_ok-list.ensures {u = tt}) in
    (refl, λ p. no (subst (λ (l : List ℕ). IsPermutation l c.args.edges.now) (sym (c.deref.ensures.value ∙ around)) p))

pub changed_block-requires : goal.changed_block-requires
changed_block-requires c =
    let k = c.args.frame.now in
    let v = c.args.v in
    let i = c.unwrap-i.result in
    let place = place-value c.part-part.result.now.vertices v i c.inner_vertex.result (subst (λ (p : GraphPart). Rises p.vertices) (sym c.part-part.ensures.value) c.part-part.ensures.numbered.vertices_rise) c.inner_vertex.ensures c.unwrap-i.ensures
    ∙ ap (λ (p : GraphPart). place_of p.vertices v) c.part-part.ensures.value in
    let mapped : c.in_ok-at.at.items ≡ map (slice_index k.part.edges) (incident_edges k.part.graph i) = c.in_ok-at.ensures {u = tt} ∙ ap (λ (p : GraphPart). map (slice_index p.edges) (incident_edges p.graph i)) c.part-part.ensures.value in
    let around : c.in_ok-at.at.items ≡ edges_around k v = mapped ∙ ap (λ (z : ℕ). map (slice_index k.part.edges) (incident_edges k.part.graph z)) place in
    let a = assembled k (blocks_in c.args.all.now) c.requires.component in
    let rise = around-rises k c.args.all.now a c.requires.planes v (a.cuts_in v c.requires.vertex) in
    let told = subst (λ r. MatchOption r (¬ IsPermutation c.deref.result.now c.args.edges.now) (λ l. IsPermutation c.deref.result.now c.args.edges.now × (l.items ≡ from_least c.args.edges.now))) c.in-Some.is (c.in_ok-list.ensures {u = tt}) in
    let perm : IsPermutation (edges_around k v) c.args.edges.now = subst (λ (l : List ℕ). IsPermutation l c.args.edges.now) (c.deref.ensures.value ∙ around) told.0 in
    let round : IsCyclicOrder (edges_around k v) c.in-Some.list.items = subst (IsCyclicOrder (edges_around k v)) (sym told.1) (around-order k v c.args.edges.now rise perm) in
    subst (λ (l : List ℕ). IsPermutation l c.deref-2.result.now) (sym c.renew.ensures.tables.edges) (subst (IsPermutation (edges_around k v)) (sym c.deref-2.ensures.value) round.arranged)

pub block_of_rank-requires-clause-edges : goal.block_of_rank-requires-clause-edges
block_of_rank-requires-clause-edges c =
    let k = c.args.frame.now in
    let v = c.args.v in
    let i = c.unwrap-i.result in
    let place = place-value c.part-part.result.now.vertices v i c.inner_vertex.result (subst (λ (p : GraphPart). Rises p.vertices) (sym c.part-part.ensures.value) c.part-part.ensures.numbered.vertices_rise) c.inner_vertex.ensures c.unwrap-i.ensures
    ∙ ap (λ (p : GraphPart). place_of p.vertices v) c.part-part.ensures.value in
    let mapped : c.in_ok-at.at.items ≡ map (slice_index k.part.edges) (incident_edges k.part.graph i) = c.in_ok-at.ensures {u = tt} ∙ ap (λ (p : GraphPart). map (slice_index p.edges) (incident_edges p.graph i)) c.part-part.ensures.value in
    let around : c.in_ok-at.at.items ≡ edges_around k v = mapped ∙ ap (λ (z : ℕ). map (slice_index k.part.edges) (incident_edges k.part.graph z)) place in
    ap (λ (t : VertexTables). t.edges) c.changed_block.ensures.tables ∙ (c.renew.ensures.tables.edges ∙ sym (c.deref-in-Some-changed_block.ensures.value ∙ around))

pub block_of_rank-requires-clause-some : goal.block_of_rank-requires-clause-some
block_of_rank-requires-clause-some c =
    let k = c.args.frame.now in
    let v = c.args.v in
    let block = block_with k in
    let order = block_order (blocks_in c.args.all.now) v in
    let h = (c.in-Some-changed_block.ensures {u = tt}).exact block order c.renew.ensures.renewed in
    subst (λ (t : VertexTables). (x : ℕ) × (is_member x t.edges ≡ true) × (rank_in t x ≡ c.in-Some-changed_block.rank)) (sym c.changed_block.ensures.tables) (h.edge, h.within, h.of_rank)

pub returns-in-Some-changed_block-clause-refused : goal.returns-in-Some-changed_block-clause-refused
returns-in-Some-changed_block-clause-refused c =
    let k = c.args.frame.now in
    let v = c.args.v in
    let i = c.unwrap-i.result in
    let place = place-value c.part-part.result.now.vertices v i c.inner_vertex.result (subst (λ (p : GraphPart). Rises p.vertices) (sym c.part-part.ensures.value) c.part-part.ensures.numbered.vertices_rise) c.inner_vertex.ensures c.unwrap-i.ensures
    ∙ ap (λ (p : GraphPart). place_of p.vertices v) c.part-part.ensures.value in
    let mapped : c.in_ok-at.at.items ≡ map (slice_index k.part.edges) (incident_edges k.part.graph i) = c.in_ok-at.ensures {u = tt} ∙ ap (λ (p : GraphPart). map (slice_index p.edges) (incident_edges p.graph i)) c.part-part.ensures.value in
    let around : c.in_ok-at.at.items ≡ edges_around k v = mapped ∙ ap (λ (z : ℕ). map (slice_index k.part.edges) (incident_edges k.part.graph z)) place in
    let told = subst (λ r. MatchOption r (¬ IsPermutation c.deref.result.now c.args.edges.now) (λ l. IsPermutation c.deref.result.now c.args.edges.now × (l.items ≡ from_least c.args.edges.now))) c.in-Some.is (c.in_ok-list.ensures {u = tt}) in
    let perm : IsPermutation (edges_around k v) c.args.edges.now = subst (λ (l : List ℕ). IsPermutation l c.args.edges.now) (c.deref.ensures.value ∙ around) told.0 in
    let block = block_with k in
    let order = block_order (blocks_in c.args.all.now) v in
    let h = (c.in-Some-changed_block.ensures {u = tt}).exact block order c.renew.ensures.renewed in
    let own = own-block k v i c.renew.new.orders c.deref-in-Some-changed_block.result.now c.deref-in-Some-changed_block-2.result.now c.in-Some-changed_block.rank c.block_of_rank.result c.renew.ensures.tables c.part-part.ensures.numbered (c.deref-in-Some-changed_block.ensures.value ∙ mapped) (c.deref-in-Some-changed_block-2.ensures.value ∙ c.in_ok-numbers.ensures {u = tt}) (c.renew.ensures.tables.edges ∙ sym (c.deref-in-Some-changed_block.ensures.value ∙ around))
    (subst (λ (t : VertexTables). IsFoundRank t c.deref-in-Some-changed_block.result.now c.deref-in-Some-changed_block-2.result.now c.in-Some-changed_block.rank c.block_of_rank.result) (c.changed_block.ensures.tables) c.block_of_rank.ensures) in
    refusal-changed k (blocks_in c.args.all.now) v c.renew.new.orders c.args.edges.now c.deref-2.result.now perm (c.deref-2.ensures.value ∙ told.1) c.in-Some-changed_block.rank c.block_of_rank.result h own

pub crossing-requires : goal.crossing-requires
crossing-requires c =
    let k = c.args.frame.now in
    let v = c.args.v in
    let i = c.unwrap-i.result in
    let place = place-value c.part-part.result.now.vertices v i c.inner_vertex.result (subst (λ (p : GraphPart). Rises p.vertices) (sym c.part-part.ensures.value) c.part-part.ensures.numbered.vertices_rise) c.inner_vertex.ensures c.unwrap-i.ensures
    ∙ ap (λ (p : GraphPart). place_of p.vertices v) c.part-part.ensures.value in
    let mapped : c.in_ok-at.at.items ≡ map (slice_index k.part.edges) (incident_edges k.part.graph i) = c.in_ok-at.ensures {u = tt} ∙ ap (λ (p : GraphPart). map (slice_index p.edges) (incident_edges p.graph i)) c.part-part.ensures.value in
    let around : c.in_ok-at.at.items ≡ edges_around k v = mapped ∙ ap (λ (z : ℕ). map (slice_index k.part.edges) (incident_edges k.part.graph z)) place in
    let a = assembled k (blocks_in c.args.all.now) c.requires.component in
    let rise = around-rises k c.args.all.now a c.requires.planes v (a.cuts_in v c.requires.vertex) in
    let told = subst (λ r. MatchOption r (¬ IsPermutation c.deref.result.now c.args.edges.now) (λ l. IsPermutation c.deref.result.now c.args.edges.now × (l.items ≡ from_least c.args.edges.now))) c.in-Some.is (c.in_ok-list.ensures {u = tt}) in
    let perm : IsPermutation (edges_around k v) c.args.edges.now = subst (λ (l : List ℕ). IsPermutation l c.args.edges.now) (c.deref.ensures.value ∙ around) told.0 in
    let round : IsCyclicOrder (edges_around k v) c.in-Some.list.items = subst (IsCyclicOrder (edges_around k v)) (sym told.1) (around-order k v c.args.edges.now rise perm) in
    subst (λ (l : List ℕ). IsPermutation l c.deref-3.result.now) (sym (ap (λ (t : VertexTables). t.edges) c.changed_block.ensures.tables ∙ c.renew.ensures.tables.edges)) (subst (IsPermutation (edges_around k v)) (sym c.deref-3.ensures.value) round.arranged)

pub block_of_rank-b-requires-clause-edges : goal.block_of_rank-b-requires-clause-edges
block_of_rank-b-requires-clause-edges c =
    let k = c.args.frame.now in
    let v = c.args.v in
    let i = c.unwrap-i.result in
    let place = place-value c.part-part.result.now.vertices v i c.inner_vertex.result (subst (λ (p : GraphPart). Rises p.vertices) (sym c.part-part.ensures.value) c.part-part.ensures.numbered.vertices_rise) c.inner_vertex.ensures c.unwrap-i.ensures
    ∙ ap (λ (p : GraphPart). place_of p.vertices v) c.part-part.ensures.value in
    let mapped : c.in_ok-at.at.items ≡ map (slice_index k.part.edges) (incident_edges k.part.graph i) = c.in_ok-at.ensures {u = tt} ∙ ap (λ (p : GraphPart). map (slice_index p.edges) (incident_edges p.graph i)) c.part-part.ensures.value in
    let around : c.in_ok-at.at.items ≡ edges_around k v = mapped ∙ ap (λ (z : ℕ). map (slice_index k.part.edges) (incident_edges k.part.graph z)) place in
    ap (λ (t : VertexTables). t.edges) (c.crossing.ensures.tables ∙ c.changed_block.ensures.tables) ∙ (c.renew.ensures.tables.edges ∙ sym (c.deref-in-Some-crossing.ensures.value ∙ around))

pub block_of_rank-b-requires-clause-some : goal.block_of_rank-b-requires-clause-some
block_of_rank-b-requires-clause-some c =
    let k = c.args.frame.now in
    let v = c.args.v in
    let block = block_with k in
    let order = block_order (blocks_in c.args.all.now) v in
    let crossed : IsCrossingOf c.changed_block.new.self block c.deref-3.result.now c.in-Some-crossing.pair.0 c.in-Some-crossing.pair.1 =
    (c.in-Some-crossing.ensures {u = tt}).exact block order (subst (λ (t : VertexTables). AreTablesOf t block order) (sym c.changed_block.ensures.tables) c.renew.ensures.renewed) in
    subst (λ (t : VertexTables). (x : ℕ) × (is_member x t.edges ≡ true) × (rank_in t x ≡ c.in-Some-crossing.pair.0)) (sym c.crossing.ensures.tables) (crossed.first, crossed.first_met, crossed.first_rank)

pub block_of_rank-c-requires-clause-edges : goal.block_of_rank-c-requires-clause-edges
block_of_rank-c-requires-clause-edges c =
    let k = c.args.frame.now in
    let v = c.args.v in
    let i = c.unwrap-i.result in
    let place = place-value c.part-part.result.now.vertices v i c.inner_vertex.result (subst (λ (p : GraphPart). Rises p.vertices) (sym c.part-part.ensures.value) c.part-part.ensures.numbered.vertices_rise) c.inner_vertex.ensures c.unwrap-i.ensures
    ∙ ap (λ (p : GraphPart). place_of p.vertices v) c.part-part.ensures.value in
    let mapped : c.in_ok-at.at.items ≡ map (slice_index k.part.edges) (incident_edges k.part.graph i) = c.in_ok-at.ensures {u = tt} ∙ ap (λ (p : GraphPart). map (slice_index p.edges) (incident_edges p.graph i)) c.part-part.ensures.value in
    let around : c.in_ok-at.at.items ≡ edges_around k v = mapped ∙ ap (λ (z : ℕ). map (slice_index k.part.edges) (incident_edges k.part.graph z)) place in
    ap (λ (t : VertexTables). t.edges) (c.crossing.ensures.tables ∙ c.changed_block.ensures.tables) ∙ (c.renew.ensures.tables.edges ∙ sym (c.deref-in-Some-crossing-3.ensures.value ∙ around))

pub block_of_rank-c-requires-clause-some : goal.block_of_rank-c-requires-clause-some
block_of_rank-c-requires-clause-some c =
    let k = c.args.frame.now in
    let v = c.args.v in
    let block = block_with k in
    let order = block_order (blocks_in c.args.all.now) v in
    let crossed : IsCrossingOf c.changed_block.new.self block c.deref-3.result.now c.in-Some-crossing.pair.0 c.in-Some-crossing.pair.1 =
    (c.in-Some-crossing.ensures {u = tt}).exact block order (subst (λ (t : VertexTables). AreTablesOf t block order) (sym c.changed_block.ensures.tables) c.renew.ensures.renewed) in
    subst (λ (t : VertexTables). (x : ℕ) × (is_member x t.edges ≡ true) × (rank_in t x ≡ c.in-Some-crossing.pair.1)) (sym c.crossing.ensures.tables) (crossed.second, crossed.second_met, crossed.second_rank)

pub returns-in-Some-crossing-clause-refused : goal.returns-in-Some-crossing-clause-refused
returns-in-Some-crossing-clause-refused c =
    let k = c.args.frame.now in
    let v = c.args.v in
    let i = c.unwrap-i.result in
    let place = place-value c.part-part.result.now.vertices v i c.inner_vertex.result (subst (λ (p : GraphPart). Rises p.vertices) (sym c.part-part.ensures.value) c.part-part.ensures.numbered.vertices_rise) c.inner_vertex.ensures c.unwrap-i.ensures
    ∙ ap (λ (p : GraphPart). place_of p.vertices v) c.part-part.ensures.value in
    let mapped : c.in_ok-at.at.items ≡ map (slice_index k.part.edges) (incident_edges k.part.graph i) = c.in_ok-at.ensures {u = tt} ∙ ap (λ (p : GraphPart). map (slice_index p.edges) (incident_edges p.graph i)) c.part-part.ensures.value in
    let around : c.in_ok-at.at.items ≡ edges_around k v = mapped ∙ ap (λ (z : ℕ). map (slice_index k.part.edges) (incident_edges k.part.graph z)) place in
    let told = subst (λ r. MatchOption r (¬ IsPermutation c.deref.result.now c.args.edges.now) (λ l. IsPermutation c.deref.result.now c.args.edges.now × (l.items ≡ from_least c.args.edges.now))) c.in-Some.is (c.in_ok-list.ensures {u = tt}) in
    let perm : IsPermutation (edges_around k v) c.args.edges.now = subst (λ (l : List ℕ). IsPermutation l c.args.edges.now) (c.deref.ensures.value ∙ around) told.0 in
    let block = block_with k in
    let order = block_order (blocks_in c.args.all.now) v in
    let crossed : IsCrossingOf c.changed_block.new.self block c.deref-3.result.now c.in-Some-crossing.pair.0 c.in-Some-crossing.pair.1 =
    (c.in-Some-crossing.ensures {u = tt}).exact block order (subst (λ (t : VertexTables). AreTablesOf t block order) (sym c.changed_block.ensures.tables) c.renew.ensures.renewed) in
    let kept : AreKept block order c.deref-3.result.now = subst (AreKept block order) (c.deref-2.ensures.value ∙ sym c.deref-3.ensures.value) ((c.in_default-changed_block.ensures {u = tt}).exact block order c.renew.ensures.renewed) in
    let own = own-block k v i c.renew.new.orders c.deref-in-Some-crossing.result.now c.deref-in-Some-crossing-2.result.now c.in-Some-crossing.pair.0 c.block_of_rank-b.result c.renew.ensures.tables c.part-part.ensures.numbered (c.deref-in-Some-crossing.ensures.value ∙ mapped) (c.deref-in-Some-crossing-2.ensures.value ∙ c.in_ok-numbers.ensures {u = tt}) (c.renew.ensures.tables.edges ∙ sym (c.deref-in-Some-crossing.ensures.value ∙ around))
    (subst (λ (t : VertexTables). IsFoundRank t c.deref-in-Some-crossing.result.now c.deref-in-Some-crossing-2.result.now c.in-Some-crossing.pair.0 c.block_of_rank-b.result) (c.crossing.ensures.tables ∙ c.changed_block.ensures.tables) c.block_of_rank-b.ensures) in
    let other = own-block k v i c.renew.new.orders c.deref-in-Some-crossing-3.result.now c.deref-in-Some-crossing-4.result.now c.in-Some-crossing.pair.1 c.block_of_rank-c.result c.renew.ensures.tables c.part-part.ensures.numbered (c.deref-in-Some-crossing-3.ensures.value ∙ mapped) (c.deref-in-Some-crossing-4.ensures.value ∙ c.in_ok-numbers.ensures {u = tt}) (c.renew.ensures.tables.edges ∙ sym (c.deref-in-Some-crossing-3.ensures.value ∙ around))
    (subst (λ (t : VertexTables). IsFoundRank t c.deref-in-Some-crossing-3.result.now c.deref-in-Some-crossing-4.result.now c.in-Some-crossing.pair.1 c.block_of_rank-c.result) (c.crossing.ensures.tables ∙ c.changed_block.ensures.tables) c.block_of_rank-c.ensures) in
    refusal-crossing k (blocks_in c.args.all.now) v c.renew.new.orders c.args.edges.now c.deref-3.result.now perm (c.deref-3.ensures.value ∙ told.1) c.in-Some-crossing.pair.0 c.in-Some-crossing.pair.1 c.block_of_rank-b.result c.block_of_rank-c.result kept
    (subst (λ (t : VertexTables). IsCrossingOf t block c.deref-3.result.now c.in-Some-crossing.pair.0 c.in-Some-crossing.pair.1) c.changed_block.ensures.tables crossed) own other

pub returns-clause-arranged : goal.returns-clause-arranged
returns-clause-arranged c =
    let k = c.args.frame.now in
    let v = c.args.v in
    let i = c.unwrap-i.result in
    let place = place-value c.part-part.result.now.vertices v i c.inner_vertex.result (subst (λ (p : GraphPart). Rises p.vertices) (sym c.part-part.ensures.value) c.part-part.ensures.numbered.vertices_rise) c.inner_vertex.ensures c.unwrap-i.ensures
    ∙ ap (λ (p : GraphPart). place_of p.vertices v) c.part-part.ensures.value in
    let mapped : c.in_ok-at.at.items ≡ map (slice_index k.part.edges) (incident_edges k.part.graph i) = c.in_ok-at.ensures {u = tt} ∙ ap (λ (p : GraphPart). map (slice_index p.edges) (incident_edges p.graph i)) c.part-part.ensures.value in
    let around : c.in_ok-at.at.items ≡ edges_around k v = mapped ∙ ap (λ (z : ℕ). map (slice_index k.part.edges) (incident_edges k.part.graph z)) place in
    let a = assembled k (blocks_in c.args.all.now) c.requires.component in
    let rise = around-rises k c.args.all.now a c.requires.planes v (a.cuts_in v c.requires.vertex) in
    let told = subst (λ r. MatchOption r (¬ IsPermutation c.deref.result.now c.args.edges.now) (λ l. IsPermutation c.deref.result.now c.args.edges.now × (l.items ≡ from_least c.args.edges.now))) c.in-Some.is (c.in_ok-list.ensures {u = tt}) in
    let perm : IsPermutation (edges_around k v) c.args.edges.now = subst (λ (l : List ℕ). IsPermutation l c.args.edges.now) (c.deref.ensures.value ∙ around) told.0 in
    let round : IsCyclicOrder (edges_around k v) c.in-Some.list.items = subst (IsCyclicOrder (edges_around k v)) (sym told.1) (around-order k v c.args.edges.now rise perm) in
    let block = block_with k in
    let order = block_order (blocks_in c.args.all.now) v in
    let kept : AreKept block order c.in-Some.list.items = subst (AreKept block order) (c.deref-2.ensures.value) ((c.in_default-changed_block.ensures {u = tt}).exact block order c.renew.ensures.renewed) in
    let apart = (c.in_default-crossing.ensures {u = tt}).exact block order (subst (λ (t : VertexTables). AreTablesOf t block order) (sym c.changed_block.ensures.tables) c.renew.ensures.renewed) in
    no-refusal k (blocks_in c.args.all.now) v c.renew.new.orders c.args.edges.now c.in-Some.list.items perm told.1 (a.orders v (a.cuts_in v c.requires.vertex)) round kept
    (λ b d. subst (λ (l : List ℕ). cross block b d l ≡ false) c.deref-3.ensures.value (apart b d))
