-- The search begins, goes on from the stack's last vertex, and ends where none waits.
use Rattle.std.proofs.Common.{◌≡◌, [], true, sym, subst, arith}
use Rattle.std.proofs.lemmas.List.{nil_from_length}
use Rattle.permutations.specs.Members.{is_member}
use Rattle.faces.proofs.Looks.{member-last}
use Rattle.faces.proofs.Searched.{Searched, searched-start, searched-more, searched-all}
use Rattle.faces.proofs.components.mark_component.Goals as goal

pub loop-vertex-init : goal.loop-vertex-init
loop-vertex-init c =
    rw (c.in_ok-push.ensures.items, c.clear.ensures.items) (searched-start c.args.graph.now c.args.marks.now c.args.start c.requires.graph c.requires.start_in (omega arith) c.requires.whole_components)

pub visit-requires-clause-vertex_in : goal.visit-requires-clause-vertex_in
visit-requires-clause-vertex_in c =
    let v = c.in-Some.vertex in
    (c.loop-vertex.invariant.waiting v (subst (λ s. is_member v s ≡ true) (sym c.in-Some.ensures.items) (member-last v c.pop.new.self.items))).0

pub loop-vertex-preserved : goal.loop-vertex-preserved
loop-vertex-preserved c =
    let g = c.args.graph.now in
    let before = c.args.marks.now in
    let now = c.loop-vertex.marks in
    let start = c.args.start in
    searched-more g before now c.pop.new.self.items start c.in-Some.vertex c.visit.new.marks c.visit.new.stack.items c.requires.graph
    (subst (λ s. Searched g before now s start) c.in-Some.ensures.items c.loop-vertex.invariant) c.in_ok-visit.ensures

pub returns : goal.returns
returns c =
    let g = c.args.graph.now in
    let before = c.args.marks.now in
    let now = c.loop-vertex.marks in
    let start = c.args.start in
    let cases = c.in_default.ensures.cases in
    let none : c.loop-vertex.stack.items ≡ [] = nil_from_length c.loop-vertex.stack.items (omega arith) in
    searched-all g before now start c.requires.graph (subst (λ s. Searched g before now s start) none c.loop-vertex.invariant)
