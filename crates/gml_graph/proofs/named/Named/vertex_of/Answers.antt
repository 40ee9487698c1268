-- The place of an id in the list of ids is the vertex that has it.
use Rattle.std.proofs.Common.{◌≡◌, ◌∙◌, ap, sym, subst, position, List, ℤ, w64}
use Rattle.std.proofs.lemmas.Int.{to_z-of_z}
use Rattle.std.specs.List.{IsDistinct}
use Rattle.std.specs.Ordering.{int_eq}
use Rattle.gml_graph.proofs.Places.{position-equal, position-stands, position-found, position-none, position-nowhere}
use Rattle.gml_graph.proofs.named.Named.vertex_of.Goals as goal

pub returns-clause-vertex : goal.returns-clause-vertex
returns-clause-vertex c v =
    let ids : List ℤ = c.args.self.now.ids in
    let same : c.self.inside.ids ≡ ids = ap (λ n. n.ids) c.self.view_is in
    let found : c.position.result ≡ position (int_eq c.args.id) ids = position-equal _ _ _ _ _ c.position.ensures (to_z-of_z w64 c.args.id c.ranges.id) same in
    let distinct : IsDistinct int_eq ids = subst (λ (l : List ℤ). IsDistinct int_eq l) same c.self.invariant.distinct in
    ((λ h. position-stands ids c.args.id v (sym found ∙ h)), (λ h. found ∙ position-found ids c.args.id v distinct h))

pub returns-clause-none : goal.returns-clause-none
returns-clause-none c =
    let ids : List ℤ = c.args.self.now.ids in
    let same : c.self.inside.ids ≡ ids = ap (λ n. n.ids) c.self.view_is in
    let found : c.position.result ≡ position (int_eq c.args.id) ids = position-equal _ _ _ _ _ c.position.ensures (to_z-of_z w64 c.args.id c.ranges.id) same in
    let distinct : IsDistinct int_eq ids = subst (λ (l : List ℤ). IsDistinct int_eq l) same c.self.invariant.distinct in
    (position-none ids c.args.id c.position.result distinct found, position-nowhere ids c.args.id c.position.result found)
