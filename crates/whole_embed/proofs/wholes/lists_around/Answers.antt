use Rattle.std.proofs.Common.{◌≡◌, ◌<◌, ℕ, false, List, [], length, map, slice_index, slice_index_or, sym, ap, ◌∙◌, subst, arith}
use Rattle.std.proofs.lemmas.List.{get_or-map}
use Rattle.permutations.specs.Members.{is_member}
use Rattle.permutations.proofs.Places.{place-below}
use Rattle.multigraph.specs.Graph.{Multigraph}
use Rattle.multigraph.specs.Part.{GraphPart}
use Rattle.whole_embed.specs.Cuts.{blocks_in}
use Rattle.whole_embed.specs.Whole.{order_around}
use Rattle.whole_embed.proofs.CutLists.{place-least}
use Rattle.whole_embed.proofs.WholeLists.{lists-more, lists-above, cut-order, one-order}
use Rattle.whole_embed.proofs.wholes.lists_around.Goals as goal
use Rattle.whole_embed.proofs.wholes.lists_around.Goals.{in-Some+in_ok-push-in-Some, in-None+in_ok-own_order-in-None+in_ok-push-in-None}

pub bounds-lists-place : goal.bounds-lists-place
bounds-lists-place c =
    let w = c.in-Some.ensures {u = tt} in
    omega (arith, w.1, place-below c.args.frame.now.cuts c.vertex-v.result w.0, c.requires.each)

pub offset_bounds-lists-place : goal.offset_bounds-lists-place
offset_bounds-lists-place c =
    let w = c.in-Some.ensures {u = tt} in
    omega (arith, place-least c.args.frame.now.cuts c.vertex-v.result c.in-Some.place c.part-part.ensures.frame.cuts_rise w.0 w.1, c.vertex-v.type_inv)

pub push-requires : goal.push-requires
push-requires c some =
    let k = c.args.frame.now in
    let count = c.vertex_count-i-end.ensures.value ∙ ap (λ (g : Multigraph). g.vertex_count) (c.graph.ensures.value ∙ ap (λ (p : GraphPart). p.graph) c.part-part.ensures.value) in
    let li : c.loop-i.i < length k.part.vertices = omega (arith, c.loop-i-test.true, count, c.part-part.ensures.numbered.vertex_each) in
    lists-above k (blocks_in c.args.all.now) (map (λ l. l.items) c.args.lists.now) c.loop-i.i c.vertex-v.result c.loop-i.whole c.part-part.ensures.numbered.vertices_rise li c.loop-i.invariant
    (c.vertex-v.ensures ∙ ap (λ (p : GraphPart). slice_index p.vertices c.loop-i.i) c.part-part.ensures.value) some

pub push-requires-in-None : goal.push-requires-in-None
push-requires-in-None c some =
    let k = c.args.frame.now in
    let count = c.vertex_count-i-end.ensures.value ∙ ap (λ (g : Multigraph). g.vertex_count) (c.graph.ensures.value ∙ ap (λ (p : GraphPart). p.graph) c.part-part.ensures.value) in
    let li : c.loop-i.i < length k.part.vertices = omega (arith, c.loop-i-test.true, count, c.part-part.ensures.numbered.vertex_each) in
    lists-above k (blocks_in c.args.all.now) (map (λ l. l.items) c.args.lists.now) c.loop-i.i c.vertex-v.result c.loop-i.whole c.part-part.ensures.numbered.vertices_rise li c.loop-i.invariant
    (c.vertex-v.ensures ∙ ap (λ (p : GraphPart). slice_index p.vertices c.loop-i.i) c.part-part.ensures.value) some

pub loop-i-preserved : goal.loop-i-preserved
loop-i-preserved c =
    let k = c.args.frame.now in
    let block = blocks_in c.args.all.now in
    let lists : List (List ℕ) = map (λ l. l.items) c.args.lists.now in
    let count = c.vertex_count-i-end.ensures.value ∙ ap (λ (g : Multigraph). g.vertex_count) (c.graph.ensures.value ∙ ap (λ (p : GraphPart). p.graph) c.part-part.ensures.value) in
    let li : c.loop-i.i < length k.part.vertices = omega (arith, c.loop-i-test.true, count, c.part-part.ensures.numbered.vertex_each) in
    let at : c.vertex-v.result ≡ slice_index k.part.vertices c.loop-i.i = c.vertex-v.ensures ∙ ap (λ (p : GraphPart). slice_index p.vertices c.loop-i.i) c.part-part.ensures.value in
    elim c.match-find_cut.branch [
      | in-Some+in_ok-push-in-Some w ↦
          let m = w.in-Some.ensures {u = tt} in
          let inside : w.in-Some.place < length c.args.lists.now = omega (arith, m.1, place-below k.cuts c.vertex-v.result m.0, c.requires.each) in
          let read : w.deref.result.now ≡ slice_index_or lists w.in-Some.place [] =
          w.deref.ensures.value ∙ (ap (λ x. x.items) w.index-lists-place.is ∙ sym (get_or-map (λ x. x.items) c.args.lists.now w.in-Some.place w.index-lists-place.result [] inside)) in
          lists-more k block lists c.loop-i.i c.vertex-v.result w.deref.result.now c.loop-i.whole c.match-find_cut.whole li c.loop-i.invariant at
          (cut-order k block lists c.vertex-v.result w.in-Some.place w.deref.result.now m.0 m.1 read ∙ ap (order_around k block lists) at)
          (w.whole-is ∙ w.in_ok-push-in-Some.ensures {u = tt})
      | in-None+in_ok-own_order-in-None+in_ok-push-in-None w ↦
          let none : is_member (slice_index k.part.vertices c.loop-i.i) k.cuts ≡ false = subst (λ (z : ℕ). is_member z k.cuts ≡ false) at (w.in-None.ensures {u = tt}) in
          lists-more k block lists c.loop-i.i c.vertex-v.result w.deref-in-None.result.now c.loop-i.whole c.match-find_cut.whole li c.loop-i.invariant at
          (one-order k block lists (slice_index k.part.vertices c.loop-i.i) w.deref-in-None.result.now none (w.deref-in-None.ensures.value ∙ w.in_ok-own_order-in-None.ensures {u = tt}))
          (w.whole-is ∙ w.in_ok-push-in-None.ensures {u = tt})
    ]
