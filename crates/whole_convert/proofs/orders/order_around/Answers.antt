use Rattle.std.proofs.Common.{◌<◌, ◌∷◌, ◌++◌, [], ℕ, List, map, slice_index, sym, ap, ◌∙◌, arith, append-nil}
use Rattle.permutations.specs.Members.{is_member}
use Rattle.permutations.proofs.Members.{member-head, member-tail}
use Rattle.rotations.specs.Rotation.{order_at}
use Rattle.skel_embed.proofs.First.{keys-more}
use Rattle.whole_embed.proofs.FrameFacts.{place-some, place-value, round-below}
use Rattle.whole_convert.proofs.orders.order_around.Goals as goal

pub unwrap-requires : goal.unwrap-requires
unwrap-requires c = place-some c.args.part.now.vertices c.args.v c.inner_vertex.result c.inner_vertex.ensures c.requires.vertex

pub list-round-requires : goal.list-round-requires
list-round-requires c =
    let w = (c.inner_vertex.ensures.some c.unwrap.result).0 c.unwrap.ensures in
    omega (arith, w.0, c.keeps_numbers.ensures.vertex_each, c.requires.system.vertices)

pub loop-edge-init : goal.loop-edge-init
loop-edge-init c =
    let part = c.args.part.now in
    let w = (c.inner_vertex.ensures.some c.unwrap.result).0 c.unwrap.ensures in
    let inside : c.unwrap.result < c.args.part.now.graph.vertex_count = omega (arith, w.0, c.keeps_numbers.ensures.vertex_each) in (
      ap (λ (z : List ℕ). z ++ map (slice_index part.edges) c.list-round.result) c.new-order.ensures.items,
      λ e m. round-below part.graph c.args.r.now c.unwrap.result e c.requires.system inside (ap (is_member e) (sym c.list-round.ensures) ∙ m),
    )

pub edge-requires : goal.edge-requires
edge-requires c = c.loop-edge.invariant.1 c.in-Some.edge (ap (is_member c.in-Some.edge) c.in-Some.ensures.steps ∙ member-head c.in-Some.edge c.next.new.self)

pub loop-edge-preserved : goal.loop-edge-preserved
loop-edge-preserved c = (
  keys-more (slice_index c.args.part.now.edges) c.loop-edge.order.items c.push.new.self.items c.next.new.self _ c.loop-edge.round c.in-Some.edge
      (c.in_ok-push.ensures.items ∙ ap (λ (z : ℕ). c.loop-edge.order.items ++ z ∷ []) c.edge.ensures) c.in-Some.ensures.steps c.loop-edge.invariant.0,
  λ e m. c.loop-edge.invariant.1 e (ap (is_member e) c.in-Some.ensures.steps ∙ member-tail e c.in-Some.edge c.next.new.self m),
)

pub returns : goal.returns
returns c =
    let part = c.args.part.now in
    let f : ℕ → ℕ = slice_index c.args.part.now.edges in
    let items = c.loop-edge.order.items in
    let place = place-value part.vertices c.args.v c.unwrap.result c.inner_vertex.result c.keeps_numbers.ensures.vertices_rise c.inner_vertex.ensures c.unwrap.ensures in
    sym (append-nil items) ∙ (ap (λ (z : List ℕ). items ++ map f z) (sym (c.in_default.ensures {u = tt}).steps.0) ∙ (c.loop-edge.invariant.0
    ∙ ap (map f) (c.list-round.ensures ∙ ap (order_at c.args.r.now) place)))
