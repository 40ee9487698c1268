use Rattle.std.proofs.Common.{sym, subst, arith}
use Rattle.multigraph.specs.Graph.{Multigraph}
use Rattle.kuratowski.specs.declared.subdivision.Pattern.TheVariants.{K5}
use Rattle.kuratowski.specs.Subdivision.{IsSubdivision}
use Rattle.contract_obstruct.specs.Crossing.{AreEdges}
use Rattle.contract_obstruct.specs.Triple.{triple_branch, triple_paths}
use Rattle.contractions.proofs.LevelFacts.{level-limits}
use Rattle.contract_obstruct.proofs.Tripled.{among_a, among_b, among_c, edges_of, triple-found}
use Rattle.contract_obstruct.proofs.triple.triple.Goals as goal

pub triple_from-requires-clause-few : goal.triple_from-requires-clause-few
triple_from-requires-clause-few c = omega (arith, c.requires.steps.are_steps.each, (level-limits c.args.level.now c.requires.level).few_edges)

pub triple_from-requires-clause-third : goal.triple_from-requires-clause-third
triple_from-requires-clause-third c =
    let t = c.requires.steps in
    subst (λ (h : Multigraph). AreEdges h c.args.round.now.c.first c.args.round.now.b.behind.items) (sym c.requires.contraction)
    (edges_of c.args.level.now c.requires.level t.system c.args.next.now t.are_steps t.plane c.args.round.now.a c.args.round.now.b c.args.round.now.c c.requires.triple c.args.round.now.c c.args.round.now.b
    (among_c c.args.level.now c.requires.level t.system c.args.next.now t.are_steps t.plane c.args.round.now.a c.args.round.now.b c.args.round.now.c c.requires.triple)
    (among_b c.args.level.now c.requires.level t.system c.args.next.now t.are_steps t.plane c.args.round.now.a c.args.round.now.b c.args.round.now.c c.requires.triple))

pub triple_from-requires-clause-second : goal.triple_from-requires-clause-second
triple_from-requires-clause-second c =
    let t = c.requires.steps in
    subst (λ (h : Multigraph). AreEdges h c.args.round.now.b.first c.args.round.now.a.behind.items) (sym c.requires.contraction)
    (edges_of c.args.level.now c.requires.level t.system c.args.next.now t.are_steps t.plane c.args.round.now.a c.args.round.now.b c.args.round.now.c c.requires.triple c.args.round.now.b c.args.round.now.a
    (among_b c.args.level.now c.requires.level t.system c.args.next.now t.are_steps t.plane c.args.round.now.a c.args.round.now.b c.args.round.now.c c.requires.triple)
    (among_a c.args.level.now c.requires.level t.system c.args.next.now t.are_steps t.plane c.args.round.now.a c.args.round.now.b c.args.round.now.c c.requires.triple))

pub triple_from-requires-clause-first : goal.triple_from-requires-clause-first
triple_from-requires-clause-first c =
    let t = c.requires.steps in
    subst (λ (h : Multigraph). AreEdges h c.args.round.now.a.first c.args.round.now.c.behind.items) (sym c.requires.contraction)
    (edges_of c.args.level.now c.requires.level t.system c.args.next.now t.are_steps t.plane c.args.round.now.a c.args.round.now.b c.args.round.now.c c.requires.triple c.args.round.now.a c.args.round.now.c
    (among_a c.args.level.now c.requires.level t.system c.args.next.now t.are_steps t.plane c.args.round.now.a c.args.round.now.b c.args.round.now.c c.requires.triple)
    (among_c c.args.level.now c.requires.level t.system c.args.next.now t.are_steps t.plane c.args.round.now.a c.args.round.now.b c.args.round.now.c c.requires.triple))

pub triple_from-requires-clause-is : goal.triple_from-requires-clause-is
triple_from-requires-clause-is c =
    let t = c.requires.steps in
    subst (λ (h : Multigraph). IsSubdivision c.args.level.now.graph K5 (triple_branch c.args.level.now c.args.round.now.a c.args.round.now.b c.args.round.now.c)
    (triple_paths c.args.level.now h c.args.next.now c.args.round.now.a c.args.round.now.b c.args.round.now.c c.common_edge-to_a.result c.common_edge-to_b.result c.common_edge-to_c.result))
    (sym c.requires.contraction)
    (triple-found c.args.level.now c.requires.level t.system c.args.next.now t.are_steps t.plane c.args.round.now.a c.args.round.now.b c.args.round.now.c c.requires.triple
    c.common_edge-to_a.result c.common_edge-to_b.result c.common_edge-to_c.result
    (record { within = c.common_edge-to_a.ensures.within; leaves = c.common_edge-to_a.ensures.leaves; arrives = c.common_edge-to_a.ensures.arrives })
    (record { within = c.common_edge-to_b.ensures.within; leaves = c.common_edge-to_b.ensures.leaves; arrives = c.common_edge-to_b.ensures.arrives })
    (record { within = c.common_edge-to_c.ensures.within; leaves = c.common_edge-to_c.ensures.leaves; arrives = c.common_edge-to_c.ensures.arrives }))
