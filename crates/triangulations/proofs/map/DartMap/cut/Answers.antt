use Rattle.std.proofs.Common.{◌<◌, ◌+◌, ℕ, List, [], ◌∷◌, ◌++◌, slice_set, ap, ◌∙◌, subst, sym, arith}
use Rattle.std.proofs.lemmas.Grind.{common_steps}
use Rattle.multigraph.specs.Darts.{dart_count, twin}
use Rattle.triangulations.specs.Listed.{ListedMap}
use Rattle.triangulations.proofs.CutLists.{last-in, cut-listed}
use Rattle.triangulations.proofs.map.DartMap.cut.Goals as goal

pub next-after-requires : goal.next-after-requires
next-after-requires c = subst (λ z. z < dart_count c.args.self.now.graph) (sym (c.twin-last.ensures.is ∙ ap twin c.face.ensures)) (last-in c.args.self.now c.args.dart c.requires.map c.requires.dart)

pub tail-requires-2 : goal.tail-requires-2
tail-requires-2 c = subst (λ z. z < dart_count c.args.self.now.graph) (sym (c.twin-last.ensures.is ∙ ap twin c.face.ensures)) (last-in c.args.self.now c.args.dart c.requires.map c.requires.dart)

pub index_mut-requires-2 : goal.index_mut-requires-2
index_mut-requires-2 c =
    let l : c.twin-last.result < dart_count c.args.self.now.graph = subst (λ z. z < dart_count c.args.self.now.graph) (sym (c.twin-last.ensures.is ∙ ap twin c.face.ensures)) (last-in c.args.self.now c.args.dart c.requires.map c.requires.dart) in
    grind (arith, common_steps)

pub returns-clause-cut : goal.returns-clause-cut
returns-clause-cut c =
    let old : ListedMap = c.args.self.now in
    let before : ℕ = c.prev-before.result in
    let last : ℕ = c.twin-last.result in
    let after : ℕ = c.next-after.result in
    let first : ℕ = c.dart_count-first.result in
    cut-listed old c.args.dart before last after first (c.tail.result, c.tail-2.result) c.dart_count-first.ensures.listed c.requires.map c.requires.dart c.requires.corners
    c.prev-before.ensures (c.twin-last.ensures.is ∙ ap twin c.face.ensures) c.next-after.ensures c.dart_count-first.ensures.value (λ i. (c.tail.ensures i, c.tail-2.ensures i))
    c.self.inside.vertices
    (slice_set (slice_set c.push_reserved-3.new.self.items before first) last (first + 1))
    (slice_set (slice_set c.push_reserved-5.new.self.items c.args.dart first) after (first + 1))
    c.push_reserved.new.self.items
    (ap (λ (t : ListedMap). t.graph.vertex_count) c.self.view_is)
    (c.push_reserved.ensures.items ∙ ap (λ (l : List (ℕ × ℕ)). l ++ (c.tail.result, c.tail-2.result) ∷ []) (c.reserve.ensures.items ∙ ap (λ (t : ListedMap). t.graph.ends) c.self.view_is))
    (ap (λ (l : List ℕ). slice_set (slice_set l before first) last (first + 1)) (c.push_reserved-3.ensures.items ∙ ap (λ (l : List ℕ). l ++ after ∷ []) (c.push_reserved-2.ensures.items ∙ ap (λ (l : List ℕ). l ++ c.args.dart ∷ []) (c.reserve-2.ensures.items ∙ ap (λ (t : ListedMap). t.next) c.self.view_is))))
    (ap (λ (l : List ℕ). slice_set (slice_set l c.args.dart first) after (first + 1)) (c.push_reserved-5.ensures.items ∙ ap (λ (l : List ℕ). l ++ last ∷ []) (c.push_reserved-4.ensures.items ∙ ap (λ (l : List ℕ). l ++ before ∷ []) (c.reserve-3.ensures.items ∙ ap (λ (t : ListedMap). t.previous) c.self.view_is))))
