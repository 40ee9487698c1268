use Rattle.std.proofs.Common.{◌≡◌, ◌<◌, ◌∷◌, ◌++◌, [], ℕ, true, List, length, slice_index, slice_index_or, refl, sym, ap, ◌∙◌, subst, arith}
use Rattle.std.proofs.lemmas.List.{length-set}
use Rattle.permutations.specs.Members.{is_member, place_of}
use Rattle.permutations.proofs.Arrangements.{member-at}
use Rattle.multigraph.specs.Part.{GraphPart, Rises}
use Rattle.whole_embed.specs.Around.{block_with}
use Rattle.whole_embed.proofs.FrameFacts.{place-some, place-value}
use Rattle.whole_convert.proofs.Pieces.{dealt-more}
use Rattle.whole_convert.proofs.dealing.deal.Goals as goal

pub unwrap-inner-requires : goal.unwrap-inner-requires
unwrap-inner-requires c =
    let e = slice_index c.args.edges.now c.loop-edge.edge-index in
    place-some c.part-part.result.now.edges e c.inner_edge.result c.inner_edge.ensures
    (subst (λ (p : GraphPart). is_member e p.edges ≡ true) (sym c.part-part.ensures.value) (c.requires.edges e (member-at c.args.edges.now c.loop-edge.edge-index 0 c.loop-edge-test.true)))

pub loop-edge-preserved : goal.loop-edge-preserved
loop-edge-preserved c =
    let k = c.args.frame.now in
    let part = c.part-part.result.now in
    let e = slice_index c.args.edges.now c.loop-edge.edge-index in
    let x = c.unwrap-inner.result in
    let there = (c.inner_edge.ensures.some x).0 c.unwrap-inner.ensures in
    let within : x < length k.edge_blocks = omega (arith, there.0, ap (λ (p : GraphPart). length p.edges) c.part-part.ensures.value, c.part-part.ensures.frame.edge_each) in
    let place : x ≡ place_of k.part.edges e =
    place-value part.edges e x c.inner_edge.result (subst (λ (p : GraphPart). Rises p.edges) (sym c.part-part.ensures.value) c.part-part.ensures.numbered.edges_rise) c.inner_edge.ensures c.unwrap-inner.ensures
    ∙ ap (λ (p : GraphPart). place_of p.edges e) c.part-part.ensures.value in
    let read : slice_index c.edge_blocks.result.now x ≡ slice_index k.edge_blocks x = ap (λ (l : List ℕ). slice_index l x) c.edge_blocks.ensures in
    let at : slice_index c.edge_blocks.result.now x ≡ block_with k e = read ∙ ap (slice_index k.edge_blocks) place in
    let below : slice_index c.edge_blocks.result.now x < c.args.count = subst (λ z. z < c.args.count) (sym read) (c.requires.within x within) in (
      ap length (c.in_ok-add_number.ensures {u = tt})
          ∙ (length-set c.loop-edge.lists.items (slice_index c.edge_blocks.result.now x) (slice_index_or c.loop-edge.lists.items (slice_index c.edge_blocks.result.now x) [] ++ e ∷ []) ∙ c.loop-edge.invariant.0),
      dealt-more (block_with k) c.args.edges.now c.loop-edge.edge-index e (slice_index c.edge_blocks.result.now x) c.args.count c.loop-edge.lists.items c.add_number.new.lists.items c.loop-edge-test.true refl at below c.loop-edge.invariant.0
          c.loop-edge.invariant.1 (c.in_ok-add_number.ensures {u = tt}),
    )
