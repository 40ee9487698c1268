use Rattle.std.proofs.Common.{◌≡◌, ℕ, ◌<◌, refl, arith}
use Rattle.std.proofs.lemmas.List.{ext_get_or}
use Rattle.multigraph.specs.Graph.{Multigraph, edge_count, ends_of}
use Rattle.spqr_session.proofs.embedded.sharing.is_same.Goals as goal

-- graphs with as many vertices and edges, whose edges have the same ends, are equal
same-graphs : (g h : Multigraph) → g.vertex_count ≡ h.vertex_count → edge_count g ≡ edge_count h → ((e : ℕ) → e < edge_count g → ends_of g e ≡ ends_of h e) → g ≡ h
same-graphs g h vertices edges each =
    let ends : g.ends ≡ h.ends = ext_get_or (0, 0) g.ends h.ends edges each in
    λ i. record { vertex_count = vertices i; ends = ends i }

pub returns : goal.returns
returns c = (
  (λ h. same-graphs c.args.one.now c.args.other.now (omega (arith, c.vertex_count.ensures.value, c.vertex_count-2.ensures.value, c.if-vertex_count.false))
      (omega (arith, c.edge_count.ensures.value, c.edge_count-2.ensures.value, c.if-edge_count.false))
      (λ d l. c.loop-e.invariant d (omega (arith, l, c.loop-e-test.false, c.edge_count-e-end.ensures.value)))),
  (λ h. refl),
)
