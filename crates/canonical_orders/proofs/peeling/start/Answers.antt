-- The triangle of dart 0 is entered.
use Rattle.std.proofs.Common.{◌≡◌, ◌<◌, ◌||◌, ◌==◌, ℕ, List, [], false, length, slice_index, slice_set, replicate, ap, ◌∙◌, sym, subst, arith}
use Rattle.std.proofs.lemmas.List.{length-replicate}
use Rattle.dart_maps.specs.Map.{face}
use Rattle.multigraph.specs.Marks.{is_marked}
use Rattle.faces.specs.Euler.{tail, dart_count}
use Rattle.canonical_orders.specs.State.{IsPartOrder}
use Rattle.canonical_orders.proofs.OrderStart.{met-none, marked-none, base-in, second-in, third-in, part-start}
use Rattle.canonical_orders.proofs.peeling.start.Goals as goal

pub enter-requires-clause-dart_in : goal.enter-requires-clause-dart_in
enter-requires-clause-dart_in c = base-in c.args.map.now c.requires

pub enter-requires-clause-met : goal.enter-requires-clause-met
enter-requires-clause-met c =
    let h = c.args.map.now.graph in
    met-none h c.in_ok-vec-2.field-0.items c.in_ok-vec-3.field-0.items
    (c.in_ok-vec-2.ensures.items_if_clones_equal (λ y k. k) ∙ ap (λ (n : ℕ). replicate n false) c.vertex_count-vertices.ensures)
    (c.in_ok-vec-3.ensures.items_if_clones_equal (λ y k. k) ∙ ap (λ (n : ℕ). replicate n 0) c.vertex_count-vertices.ensures)
    (omega (arith, c.vertex_count-vertices.ensures, c.vertex_count-vertices.type_inv))

pub face-requires : goal.face-requires
face-requires c = base-in c.args.map.now c.requires

pub enter-requires-2-clause-dart_in : goal.enter-requires-2-clause-dart_in
enter-requires-2-clause-dart_in c = subst (λ (d : ℕ). d < dart_count c.args.map.now.graph) (sym c.face.ensures) (second-in c.args.map.now c.requires)

pub face-requires-2 : goal.face-requires-2
face-requires-2 c = base-in c.args.map.now c.requires

pub face-requires-3 : goal.face-requires-3
face-requires-3 c = subst (λ (d : ℕ). d < dart_count c.args.map.now.graph) (sym c.face-2.ensures) (second-in c.args.map.now c.requires)

pub enter-requires-3-clause-dart_in : goal.enter-requires-3-clause-dart_in
enter-requires-3-clause-dart_in c =
    let t = c.args.map.now in
    subst (λ (d : ℕ). d < dart_count t.graph) (sym (c.face-3.ensures ∙ ap (face (slice_index t.next)) c.face-2.ensures)) (third-in t c.requires)

pub returns : goal.returns
returns c =
    let t = c.args.map.now in
    let next = slice_index t.next in
    let none : c.in_ok-vec-2.field-0.items ≡ replicate t.graph.vertex_count false = c.in_ok-vec-2.ensures.items_if_clones_equal (λ y k. k) ∙ ap (λ (n : ℕ). replicate n false) c.vertex_count-vertices.ensures in
    let empty : length c.in_ok-vec.field-0.items ≡ t.graph.vertex_count = ap (λ (l : List ℕ). length l) (c.in_ok-vec.ensures.items_if_clones_equal (λ y k. k)) ∙ length-replicate c.vertex_count-vertices.result 0 ∙ c.vertex_count-vertices.ensures in
    let b : c.face.result ≡ face next 0 = c.face.ensures in
    let d : c.face-3.result ≡ face next (face next 0) = c.face-3.ensures ∙ ap (face next) c.face-2.ensures in
    let put : List ℕ → ℕ → List ℕ = λ l e. slice_set l (tail t.graph e) e in
    let first : c.enter.new.self.left.items ≡ put c.in_ok-vec.field-0.items 0 = c.in_ok-enter.ensures.left in
    let second : c.enter-2.new.self.left.items ≡ put (put c.in_ok-vec.field-0.items 0) (face next 0) = c.in_ok-enter-2.ensures.left ∙ ap (put c.enter.new.self.left.items) b ∙ ap (λ (l : List ℕ). put l (face next 0)) first in
    let third : c.enter-3.new.self.left.items ≡ put (put (put c.in_ok-vec.field-0.items 0) (face next 0)) (face next (face next 0)) = c.in_ok-enter-3.ensures.left ∙ ap (put c.enter-2.new.self.left.items) d ∙ ap (λ (l : List ℕ). put l (face next (face next 0))) second in
    subst (λ (l : List ℕ). IsPartOrder t [] l c.enter-3.new.self.on.items c.enter-3.new.self.met.items) (sym third)
    (part-start t c.requires c.in_ok-vec.field-0.items c.in_ok-vec-2.field-0.items c.enter.new.self.on.items c.enter-2.new.self.on.items c.enter-3.new.self.on.items c.enter-3.new.self.met.items empty
    (marked-none t.graph.vertex_count c.in_ok-vec-2.field-0.items none) c.in_ok-enter.ensures.marked
    (subst (λ (e : ℕ). (v : ℕ) → is_marked c.enter-2.new.self.on.items v ≡ (is_marked c.enter.new.self.on.items v || (v == tail t.graph e))) b c.in_ok-enter-2.ensures.marked)
    (subst (λ (e : ℕ). (v : ℕ) → is_marked c.enter-3.new.self.on.items v ≡ (is_marked c.enter-2.new.self.on.items v || (v == tail t.graph e))) d c.in_ok-enter-3.ensures.marked)
    c.in_ok-enter-3.ensures.met)
