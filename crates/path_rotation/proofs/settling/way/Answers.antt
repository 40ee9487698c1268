-- The path is the edge of the foot, and the one along the edges off what is drawn.
use Rattle.std.proofs.Common.{◌≡◌, ◌≢◌, ◌∙◌, ℕ, ◌/◌, Bool, List, [], ◌∷◌, ◌++◌, filter, sym, ap, subst}
use Rattle.multigraph.specs.Graph.{edge_count, numbers_below}
use Rattle.dart_maps.specs.Map.{twin}
use Rattle.graph_theory.specs.Path.{IsPath}
use Rattle.graph_paths.specs.Along.{PathAlong}
use Rattle.faces.specs.Euler.{tail}
use Rattle.path_rotation.specs.Settling.{is_way_edge}
use Rattle.path_rotation.proofs.LastWay.{way-rises, way-within, way-alone, way-path, way-along}
use Rattle.path_rotation.proofs.settling.way.Goals as goal

pub returns-then-first-z : goal.returns-then-first-z
returns-then-first-z c =
    let g = c.args.g.now in
    let board = c.args.board.now in
    way-alone g c.keeps_limits.ensures.graph board.drawn.items board.on.items board.next.items c.requires.tables c.args.t c.requires.foot.dart c.requires.foot.tail_on c.args.z c.requires.attached
    (sym c.head-first.ensures.is ∙ c.if-first-z.true) c.push.new.self.items (c.in_ok-push.ensures.items ∙ ap (λ (l : List ℕ). l ++ (c.args.t / 2) ∷ []) c.clear.ensures.items)

pub path_along-requires-clause-increasing : goal.path_along-requires-clause-increasing
path_along-requires-clause-increasing c =
    let g = c.args.g.now in
    let on = c.args.board.now.on.items in
    let edges = c.deref-2.result.now in
    let is : edges ≡ filter (is_way_edge g on c.args.z) (numbers_below (edge_count g)) =
    c.deref-2.ensures.value ∙ c.in_ok-way_edges.ensures ∙ ap (λ (o : List Bool). filter (is_way_edge g o c.args.z) (numbers_below (edge_count g))) c.deref.ensures.value in
    way-rises g on c.args.z edges is

pub path_along-requires-clause-within : goal.path_along-requires-clause-within
path_along-requires-clause-within c =
    let g = c.args.g.now in
    let on = c.args.board.now.on.items in
    let edges = c.deref-2.result.now in
    let is : edges ≡ filter (is_way_edge g on c.args.z) (numbers_below (edge_count g)) =
    c.deref-2.ensures.value ∙ c.in_ok-way_edges.ensures ∙ ap (λ (o : List Bool). filter (is_way_edge g o c.args.z) (numbers_below (edge_count g))) c.deref.ensures.value in
    way-within g on c.args.z edges is

pub path_along-requires-clause-path : goal.path_along-requires-clause-path
path_along-requires-clause-path c =
    let g = c.args.g.now in
    let board = c.args.board.now in
    let on = board.on.items in
    let edges = c.deref-2.result.now in
    let is : edges ≡ filter (is_way_edge g on c.args.z) (numbers_below (edge_count g)) =
    c.deref-2.ensures.value ∙ c.in_ok-way_edges.ensures ∙ ap (λ (o : List Bool). filter (is_way_edge g o c.args.z) (numbers_below (edge_count g))) c.deref.ensures.value in
    let apart : tail g (twin c.args.t) ≢ c.args.z = λ e. c.if-first-z.false (c.head-first.ensures.is ∙ e) in
    subst (λ (v : ℕ). PathAlong g edges v c.args.z) (sym c.head-first.ensures.is)
    (way-path g c.keeps_limits.ensures.graph board.drawn.items on board.next.items c.requires.tables c.args.t c.requires.foot.dart c.requires.foot.tail_on c.args.z c.requires.attached apart edges is)

pub returns : goal.returns
returns c =
    let g = c.args.g.now in
    let board = c.args.board.now in
    let on = board.on.items in
    let along = c.in_ok-along.along in
    let edges = c.deref-2.result.now in
    let is : edges ≡ filter (is_way_edge g on c.args.z) (numbers_below (edge_count g)) =
    c.deref-2.ensures.value ∙ c.in_ok-way_edges.ensures ∙ ap (λ (o : List Bool). filter (is_way_edge g o c.args.z) (numbers_below (edge_count g))) c.deref.ensures.value in
    let apart : tail g (twin c.args.t) ≢ c.args.z = λ e. c.if-first-z.false (c.head-first.ensures.is ∙ e) in
    let begun : c.push.new.self.items ≡ (c.args.t / 2) ∷ [] = c.in_ok-push.ensures.items ∙ ap (λ (l : List ℕ). l ++ (c.args.t / 2) ∷ []) c.clear.ensures.items in
    way-along g c.keeps_limits.ensures.graph board.drawn.items on board.next.items c.requires.tables c.args.t c.requires.foot.dart c.requires.foot.tail_on c.args.z c.requires.attached apart edges is
    along c.extend_from_slice.new.self.items (subst (λ (v : ℕ). IsPath g v along c.args.z) c.head-first.ensures.is c.in_ok-along.ensures.path) c.in_ok-along.ensures.among
    (c.in_ok-extend_from_slice.ensures.items ∙ (λ i. begun i ++ c.as_slice.ensures i))
