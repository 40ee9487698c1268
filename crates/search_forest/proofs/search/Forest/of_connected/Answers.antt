use Rattle.std.proofs.Common.{◌≡◌, ◌+◌, ◌<◌, true, length, get_or, sym, subst, arith, ap, ◌∙◌}
use Rattle.multigraph.specs.Marks.{is_marked}
use Rattle.search_forest.specs.Forest.{ForestState, fresh, root_noted, IsForest}
use Rattle.search_forest.specs.Searching.{IsOver, looks_ahead, turns_left}
use Rattle.search_forest.proofs.Start.{start-forest, start-root, start-turns, start-marked, start-counted, explored-over}
use Rattle.search_forest.proofs.search.Forest.of_connected.Goals as goal

pub explore-requires-clause-forest : goal.explore-requires-clause-forest
explore-requires-clause-forest g c =
    let e : c.note_root.new.self ≡ root_noted (fresh c.args.graph.now) 0 = c.in_ok-note_root.ensures {u = tt} ∙ ap (λ (s : ForestState). root_noted s 0) (c.in_ok-forest.ensures {u = tt}) in
    subst (IsForest c.args.graph.now) (sym e) (start-forest c.args.graph.now (omega (arith, c.if-vertices-eq0.false, c.vertex_count-vertices.ensures.value)))

pub returns-in_err-explore-clause-cost : goal.returns-in_err-explore-clause-cost
returns-in_err-explore-clause-cost g c =
    let e : c.note_root.new.self ≡ root_noted (fresh c.args.graph.now) 0 = c.in_ok-note_root.ensures {u = tt} ∙ ap (λ (s : ForestState). root_noted s 0) (c.in_ok-forest.ensures {u = tt}) in
    omega (arith, c.explore.ensures.cost, ap (turns_left c.args.graph.now) e, start-turns c.args.graph.now c.vertex_count-vertices.ensures.graph, c.if-vertices-eq0.false, c.vertex_count-vertices.ensures.value)

pub returns-clause-over : goal.returns-clause-over
returns-clause-over g c =
    let e : c.note_root.new.self ≡ root_noted (fresh c.args.graph.now) 0 = c.in_ok-note_root.ensures {u = tt} ∙ ap (λ (s : ForestState). root_noted s 0) (c.in_ok-forest.ensures {u = tt}) in
    let x = c.in_ok-explore.ensures.explored in
    let l : 0 < c.args.graph.now.vertex_count = omega (arith, c.if-vertices-eq0.false, c.vertex_count-vertices.ensures.value) in
    explored-over c.args.graph.now c.vertex_count-vertices.ensures.graph c.explore.new.self x.forest x.empty c.requires.connected
    (x.keeps.visited 0 (subst (λ (s : ForestState). is_marked s.visited 0 ≡ true) (sym e) (start-marked c.args.graph.now l)))

pub returns-clause-root : goal.returns-clause-root
returns-clause-root g c = λ v m d.
    let e : c.note_root.new.self ≡ root_noted (fresh c.args.graph.now) 0 = c.in_ok-note_root.ensures {u = tt} ∙ ap (λ (s : ForestState). root_noted s 0) (c.in_ok-forest.ensures {u = tt}) in
    let x = c.in_ok-explore.ensures.explored in
    let l : 0 < c.args.graph.now.vertex_count = omega (arith, c.if-vertices-eq0.false, c.vertex_count-vertices.ensures.value) in
    let o : IsOver c.args.graph.now c.explore.new.self = explored-over c.args.graph.now c.vertex_count-vertices.ensures.graph c.explore.new.self x.forest x.empty c.requires.connected
    (x.keeps.visited 0 (subst (λ (s : ForestState). is_marked s.visited 0 ≡ true) (sym e) (start-marked c.args.graph.now l))) in
    let r = x.keeps.roots v (o.visited v m) d in
    start-root c.args.graph.now l v (subst (λ (s : ForestState). is_marked s.visited v ≡ true) e r.0) (subst (λ (s : ForestState). get_or s.depth v 0 ≡ 0) e r.1)

pub returns-clause-counted : goal.returns-clause-counted
returns-clause-counted g c =
    let e : c.note_root.new.self ≡ root_noted (fresh c.args.graph.now) 0 = c.in_ok-note_root.ensures {u = tt} ∙ ap (λ (s : ForestState). root_noted s 0) (c.in_ok-forest.ensures {u = tt}) in
    let x = c.in_ok-explore.ensures.explored in
    let l : 0 < c.args.graph.now.vertex_count = omega (arith, c.if-vertices-eq0.false, c.vertex_count-vertices.ensures.value) in
    let o : IsOver c.args.graph.now c.explore.new.self = explored-over c.args.graph.now c.vertex_count-vertices.ensures.graph c.explore.new.self x.forest x.empty c.requires.connected
    (x.keeps.visited 0 (subst (λ (s : ForestState). is_marked s.visited 0 ≡ true) (sym e) (start-marked c.args.graph.now l))) in
    start-counted c.args.graph.now c.vertex_count-vertices.ensures.graph c.explore.new.self c.args.steps.now c.explore.new.steps o
    (subst (λ (z : ForestState). c.explore.new.steps + looks_ahead c.args.graph.now c.explore.new.self + length z.order ≡ c.args.steps.now + looks_ahead c.args.graph.now z + length z.path + length c.explore.new.self.order) e
    c.in_ok-explore.ensures.counted)

pub returns-clause-cost : goal.returns-clause-cost
returns-clause-cost g c =
    let e : c.note_root.new.self ≡ root_noted (fresh c.args.graph.now) 0 = c.in_ok-note_root.ensures {u = tt} ∙ ap (λ (s : ForestState). root_noted s 0) (c.in_ok-forest.ensures {u = tt}) in
    omega (arith, c.explore.ensures.cost, ap (turns_left c.args.graph.now) e, start-turns c.args.graph.now c.vertex_count-vertices.ensures.graph, c.if-vertices-eq0.false, c.vertex_count-vertices.ensures.value)
