use Rattle.std.proofs.Common.{sym, ap, ◌∙◌, subst}
use Rattle.std.proofs.lemmas.Bool.{true≢false}
use Rattle.multigraph.specs.Graph.{Multigraph, edge_count, IsGraph}
use Rattle.faces.specs.Euler.{face_count}
use Rattle.skel_embed.proofs.Spheres.{not-plane}
use Rattle.skel_embed.proofs.taking.given.Goals as goal

pub returns-else-u-clause-refused : goal.returns-else-u-clause-refused
returns-else-u-clause-refused c = record {
  system = c.in-Ok.r;
  given = record { arranged = c.in-Ok.ensures.arranged; system = c.in-Ok.ensures.system; orders = c.in-Ok.ensures.orders };
  vertices = c.in-Ok-euler.ensures.vertices ∙ ap (λ (z : Multigraph). z.vertex_count) (sym c.requires.part);
  edges = c.in-Ok-euler.ensures.edges ∙ ap edge_count (sym c.requires.part);
  faces = c.in-Ok-euler.ensures.faces ∙ ap (λ (z : Multigraph). face_count z c.in-Ok.r) (sym c.requires.part);
  differs = λ e. true≢false (sym (c.in-Ok-euler.ensures.plane.1 (not-plane c.args.g.now (subst IsGraph c.requires.part c.graph.ensures.numbered.is_graph) c.requires.block c.in-Ok.r c.in-Ok-euler.u.v c.in-Ok-euler.u.e c.in-Ok-euler.u.f c.in-Ok-euler.ensures.vertices c.in-Ok-euler.ensures.edges c.in-Ok-euler.ensures.faces e)) ∙ c.if-u.false);
}
