use Rattle.std.proofs.Common.{◌≡◌, ◌∙◌, ℕ, List, Bool, true, false, length, replicate, slice_set, ap}
use Rattle.std.proofs.lemmas.List.{length-replicate}
use Rattle.multigraph.specs.Graph.{edge_count, numbers_below}
use Rattle.path_rotation.proofs.Begun.{begun, begun-count}
use Rattle.path_rotation.proofs.drawing.begin.Goals as goal

pub returns-clause-sketch : goal.returns-clause-sketch
returns-clause-sketch c =
    let g = c.args.g.now in
    let drawn : c.in_ok-drawn.drawn.items ≡ replicate (edge_count g) false = c.in_ok-drawn.ensures.items_if_clones_equal (λ y h. h) ∙ ap (λ (n : ℕ). replicate n false) c.edge_count.ensures.value in
    let on : c.in_ok-on.on.items ≡ replicate g.vertex_count false = c.in_ok-on.ensures.items_if_clones_equal (λ y h. h) ∙ ap (λ (n : ℕ). replicate n false) c.vertex_count.ensures.value in
    begun g c.edge_count.ensures.graph c.requires (slice_set c.in_ok-drawn.drawn.items 0 true) (slice_set (slice_set c.in_ok-on.on.items c.ends-first.result.0 true) c.ends-first.result.1 true)
    c.in_ok-numbers_below.field-0.items c.in_ok-vec.field-0.items
    (ap (λ (l : List Bool). slice_set l 0 true) drawn)
    (λ i. slice_set (slice_set (on i) (c.ends-first.ensures.value i).0 true) (c.ends-first.ensures.value i).1 true)
    (c.in_ok-numbers_below.ensures ∙ ap numbers_below c.dart_count-darts.ensures.value)
    (ap (λ (l : List ℕ). length l) (c.in_ok-vec.ensures.items_if_clones_equal (λ y h. h)) ∙ length-replicate c.dart_count-darts.result 0 ∙ c.dart_count-darts.ensures.value)

pub returns-clause-begun : goal.returns-clause-begun
returns-clause-begun c =
    let g = c.args.g.now in
    let drawn : c.in_ok-drawn.drawn.items ≡ replicate (edge_count g) false = c.in_ok-drawn.ensures.items_if_clones_equal (λ y h. h) ∙ ap (λ (n : ℕ). replicate n false) c.edge_count.ensures.value in
    begun-count g c.requires (slice_set c.in_ok-drawn.drawn.items 0 true) (ap (λ (l : List Bool). slice_set l 0 true) drawn)
