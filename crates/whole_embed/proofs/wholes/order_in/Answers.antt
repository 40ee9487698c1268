use Rattle.std.proofs.Common.{◌<◌, ◌∷◌, ◌++◌, [], ℕ, List, length, map, slice_index, sym, ap, ◌∙◌, subst, arith, append-nil}
use Rattle.permutations.specs.Members.{is_member}
use Rattle.permutations.proofs.Members.{member-head, member-tail}
use Rattle.multigraph.specs.Graph.{Multigraph}
use Rattle.rotations.specs.Rotation.{order_at}
use Rattle.skel_embed.specs.Block.{BlockState}
use Rattle.skel_embed.proofs.First.{keys-more}
use Rattle.whole_embed.proofs.FrameFacts.{place-some, place-value, one-value, round-below}
use Rattle.whole_embed.proofs.wholes.order_in.Goals as goal

pub unwrap-requires : goal.unwrap-requires
unwrap-requires c = place-some c.args.member.now.part.vertices c.args.v c.inner_vertex.result c.inner_vertex.ensures c.requires.vertex

pub list-round-requires : goal.list-round-requires
list-round-requires c =
    let part = c.args.member.now.part in
    let graph = ap (λ (s : BlockState). s.graph) (one-value c.args.member.now.plane c.in-Some.plane c.requires.state c.in-Some.is c.requires.plane) ∙ c.requires.graph in
    let w = (c.inner_vertex.ensures.some c.unwrap.result).0 c.unwrap.ensures in
    omega (arith, w.0, c.keeps_numbers.ensures.vertex_each, ap (λ (g : Multigraph). g.vertex_count) graph, c.rotation.ensures.state.plane.system.vertices, ap length c.rotation.ensures.value)

pub loop-edge-init : goal.loop-edge-init
loop-edge-init c =
    let part = c.args.member.now.part in
    let graph = ap (λ (s : BlockState). s.graph) (one-value c.args.member.now.plane c.in-Some.plane c.requires.state c.in-Some.is c.requires.plane) ∙ c.requires.graph in
    let w = (c.inner_vertex.ensures.some c.unwrap.result).0 c.unwrap.ensures in
    let inside : c.unwrap.result < c.in-Some.plane.graph.vertex_count = omega (arith, w.0, c.keeps_numbers.ensures.vertex_each, ap (λ (g : Multigraph). g.vertex_count) graph) in (
      ap (λ (z : List ℕ). z ++ map (slice_index part.edges) c.list-round.result) c.new-order.ensures.items,
      λ e m. subst (λ (g : Multigraph). e < length g.ends) graph
          (round-below c.in-Some.plane.graph c.in-Some.plane.rotation c.unwrap.result e c.rotation.ensures.state.plane.system inside
          (ap (is_member e) (sym (c.list-round.ensures ∙ ap (λ (r : List (List ℕ)). order_at r c.unwrap.result) c.rotation.ensures.value)) ∙ m)),
    )

pub edge-requires : goal.edge-requires
edge-requires c = c.loop-edge.invariant.1 c.in-Some-next.edge (ap (is_member c.in-Some-next.edge) c.in-Some-next.ensures.steps ∙ member-head c.in-Some-next.edge c.next.new.self)

pub loop-edge-preserved : goal.loop-edge-preserved
loop-edge-preserved c = (
  keys-more (slice_index c.args.member.now.part.edges) c.loop-edge.order.items c.push.new.self.items c.next.new.self _ c.loop-edge.round c.in-Some-next.edge
      (c.in_ok-push-in-Some.ensures.items ∙ ap (λ (z : ℕ). c.loop-edge.order.items ++ z ∷ []) c.edge.ensures) c.in-Some-next.ensures.steps c.loop-edge.invariant.0,
  λ e m. c.loop-edge.invariant.1 e (ap (is_member e) c.in-Some-next.ensures.steps ∙ member-tail e c.in-Some-next.edge c.next.new.self m),
)

pub returns : goal.returns
returns c p e =
    let part = c.args.member.now.part in
    let f : ℕ → ℕ = slice_index c.args.member.now.part.edges in
    let items = c.loop-edge.order.items in
    let same = one-value c.args.member.now.plane c.in-Some.plane p c.in-Some.is e in
    let place = place-value part.vertices c.args.v c.unwrap.result c.inner_vertex.result c.keeps_numbers.ensures.vertices_rise c.inner_vertex.ensures c.unwrap.ensures in
    sym (append-nil items) ∙ (ap (λ (z : List ℕ). items ++ map f z) (sym (c.in_default.ensures {u = tt}).steps.0) ∙ (c.loop-edge.invariant.0
    ∙ ap (map f) (c.list-round.ensures ∙ (ap (λ (r : List (List ℕ)). order_at r c.unwrap.result) (c.rotation.ensures.value ∙ ap (λ (s : BlockState). s.rotation) same) ∙ ap (order_at p.rotation) place))))
