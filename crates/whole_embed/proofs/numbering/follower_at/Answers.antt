use Rattle.std.proofs.Common.{◌≡◌, ◌<◌, ℕ, List, slice_index, sym, ap, ◌∙◌, subst, Contains}
use Rattle.permutations.specs.Members.{place_of}
use Rattle.permutations.specs.Cyclic.{successor}
use Rattle.permutations.proofs.Arrangements.{contains-from_member}
use Rattle.multigraph.specs.Graph.{Multigraph, edge_count}
use Rattle.rotations.specs.Rotation.{order_at, IsRotationSystem}
use Rattle.skel_embed.specs.Block.{BlockState}
use Rattle.whole_embed.specs.Around.{outer_at}
use Rattle.whole_embed.proofs.FrameFacts.{place-some, place-value, one-value}
use Rattle.whole_embed.proofs.WholeLists.{edge-there, edge-inner, next-within, next-outer}
use Rattle.whole_embed.proofs.numbering.follower_at.Goals as goal

pub unwrap-i-requires : goal.unwrap-i-requires
unwrap-i-requires c = place-some c.args.member.now.part.vertices c.args.v c.inner_vertex.result c.inner_vertex.ensures c.requires.block.vertex

pub unwrap-e-requires : goal.unwrap-e-requires
unwrap-e-requires c =
    let part = c.args.member.now.part in
    let same = one-value c.args.member.now.plane c.in-Some.plane c.requires.block.state c.in-Some.is c.requires.block.plane in
    let system : IsRotationSystem part.graph c.requires.block.state.rotation =
    subst (λ (g : Multigraph). IsRotationSystem g c.requires.block.state.rotation) c.requires.block.graph (subst (λ (s : BlockState). IsRotationSystem s.graph s.rotation) same c.rotation-rotation.ensures.state.plane.system) in
    place-some part.edges c.args.edge c.inner_edge.result c.inner_edge.ensures (edge-there part c.requires.block.state.rotation c.keeps_numbers.ensures system c.args.v c.args.edge c.requires.block.vertex c.requires.edge)

pub succ-requires : goal.succ-requires
succ-requires c =
    let part = c.args.member.now.part in
    let same = one-value c.args.member.now.plane c.in-Some.plane c.requires.block.state c.in-Some.is c.requires.block.plane in
    let system : IsRotationSystem part.graph c.requires.block.state.rotation =
    subst (λ (g : Multigraph). IsRotationSystem g c.requires.block.state.rotation) c.requires.block.graph (subst (λ (s : BlockState). IsRotationSystem s.graph s.rotation) same c.rotation-rotation.ensures.state.plane.system) in
    let now : c.rotation-rotation.result.now ≡ c.requires.block.state.rotation = c.rotation-rotation.ensures.value ∙ ap (λ (s : BlockState). s.rotation) same in
    let vi = place-value part.vertices c.args.v c.unwrap-i.result c.inner_vertex.result c.keeps_numbers.ensures.vertices_rise c.inner_vertex.ensures c.unwrap-i.ensures in
    let ei = place-value part.edges c.args.edge c.unwrap-e.result c.inner_edge.result c.keeps_numbers.ensures.edges_rise c.inner_edge.ensures c.unwrap-e.ensures in
    subst (λ (r : List (List ℕ)). Contains (order_at r c.unwrap-i.result) c.unwrap-e.result) (sym now)
    (subst (λ (i : ℕ). Contains (order_at c.requires.block.state.rotation i) c.unwrap-e.result) (sym vi)
    (subst (Contains (order_at c.requires.block.state.rotation (place_of part.vertices c.args.v))) (sym ei)
    (contains-from_member (order_at c.requires.block.state.rotation (place_of part.vertices c.args.v)) (place_of part.edges c.args.edge)
    (edge-inner part c.requires.block.state.rotation c.keeps_numbers.ensures system c.args.v c.args.edge c.requires.block.vertex c.requires.edge))))

pub edge-requires : goal.edge-requires
edge-requires c =
    let part = c.args.member.now.part in
    let same = one-value c.args.member.now.plane c.in-Some.plane c.requires.block.state c.in-Some.is c.requires.block.plane in
    let system : IsRotationSystem part.graph c.requires.block.state.rotation =
    subst (λ (g : Multigraph). IsRotationSystem g c.requires.block.state.rotation) c.requires.block.graph (subst (λ (s : BlockState). IsRotationSystem s.graph s.rotation) same c.rotation-rotation.ensures.state.plane.system) in
    let now : c.rotation-rotation.result.now ≡ c.requires.block.state.rotation = c.rotation-rotation.ensures.value ∙ ap (λ (s : BlockState). s.rotation) same in
    let vi = place-value part.vertices c.args.v c.unwrap-i.result c.inner_vertex.result c.keeps_numbers.ensures.vertices_rise c.inner_vertex.ensures c.unwrap-i.ensures in
    let ei = place-value part.edges c.args.edge c.unwrap-e.result c.inner_edge.result c.keeps_numbers.ensures.edges_rise c.inner_edge.ensures c.unwrap-e.ensures in
    let is : c.succ.result ≡ successor (order_at c.requires.block.state.rotation (place_of part.vertices c.args.v)) (place_of part.edges c.args.edge) =
    c.succ.ensures ∙ (ap (λ (r : List (List ℕ)). successor (order_at r c.unwrap-i.result) c.unwrap-e.result) now
    ∙ (ap (λ (i : ℕ). successor (order_at c.requires.block.state.rotation i) c.unwrap-e.result) vi ∙ ap (successor (order_at c.requires.block.state.rotation (place_of part.vertices c.args.v))) ei)) in
    subst (λ (z : ℕ). z < edge_count part.graph) (sym is) (next-within part c.requires.block.state.rotation c.keeps_numbers.ensures system c.args.v c.args.edge c.requires.block.vertex c.requires.edge)

pub returns : goal.returns
returns c p e =
    let part = c.args.member.now.part in
    let same = one-value c.args.member.now.plane c.in-Some.plane c.requires.block.state c.in-Some.is c.requires.block.plane in
    let system : IsRotationSystem part.graph c.requires.block.state.rotation =
    subst (λ (g : Multigraph). IsRotationSystem g c.requires.block.state.rotation) c.requires.block.graph (subst (λ (s : BlockState). IsRotationSystem s.graph s.rotation) same c.rotation-rotation.ensures.state.plane.system) in
    let now : c.rotation-rotation.result.now ≡ c.requires.block.state.rotation = c.rotation-rotation.ensures.value ∙ ap (λ (s : BlockState). s.rotation) same in
    let vi = place-value part.vertices c.args.v c.unwrap-i.result c.inner_vertex.result c.keeps_numbers.ensures.vertices_rise c.inner_vertex.ensures c.unwrap-i.ensures in
    let ei = place-value part.edges c.args.edge c.unwrap-e.result c.inner_edge.result c.keeps_numbers.ensures.edges_rise c.inner_edge.ensures c.unwrap-e.ensures in
    let is : c.succ.result ≡ successor (order_at c.requires.block.state.rotation (place_of part.vertices c.args.v)) (place_of part.edges c.args.edge) =
    c.succ.ensures ∙ (ap (λ (r : List (List ℕ)). successor (order_at r c.unwrap-i.result) c.unwrap-e.result) now
    ∙ (ap (λ (i : ℕ). successor (order_at c.requires.block.state.rotation i) c.unwrap-e.result) vi ∙ ap (successor (order_at c.requires.block.state.rotation (place_of part.vertices c.args.v))) ei)) in
    let own = one-value c.args.member.now.plane c.requires.block.state p c.requires.block.plane e in
    c.edge.ensures ∙ (ap (slice_index part.edges) is
    ∙ (next-outer part c.requires.block.state.rotation c.keeps_numbers.ensures system c.args.v c.args.edge c.requires.block.vertex c.requires.edge
    ∙ ap (λ (s : BlockState). successor (outer_at part s.rotation c.args.v) c.args.edge) own))
