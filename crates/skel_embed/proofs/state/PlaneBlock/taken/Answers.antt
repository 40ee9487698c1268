use Rattle.std.proofs.Common.{◌≡◌, ℕ, List, length, sym, ap, ◌∙◌, subst}
use Rattle.std.specs.List.{concat}
use Rattle.multigraph.specs.Graph.{Multigraph}
use Rattle.pair_split.specs.Tutte.{Node}
use Rattle.faces.specs.Euler.{IsPlaneSystem}
use Rattle.skel_embed.specs.Block.{BlockState, choices_by}
use Rattle.skel_embed.specs.Flat.{lists_in, AreFlat}
use Rattle.skel_embed.specs.declared.state.Frame.{Frame}
use Rattle.skel_embed.proofs.KeptKeys.{choices-by_many, other-view, other-kept, none-other, least-other}
use Rattle.skel_embed.proofs.state.PlaneBlock.taken.Goals as goal

pub of-requires : goal.of-requires
of-requires c =
    let s = c.args.self.now in
    let q = c.in_ok-rotation.rotation in
    let is = c.graph-graph.ensures.state in
    let plane : IsPlaneSystem s.graph q = subst (λ (z : Multigraph). IsPlaneSystem z q) c.graph-graph.ensures.value c.in_ok-rotation.ensures.plane in
    let keys = c.self.inside.keys.items in
    let ends = c.self.inside.frame.value.ends.items in
    let flat : AreFlat s.choices keys ends = subst (λ (z : BlockState). AreFlat z.choices keys ends) c.self.view_is c.self.invariant.1 in
    let m = c.deref-3.result.now in
    let e : m ≡ concat (choices_by s.tree q) = c.deref-3.ensures.value ∙ c.in-Ok.ensures ∙ ap (λ (z : List Node). concat (choices_by z q)) c.tree-tree.ensures.value in
    let same : c.as_slice-ends.result.now ≡ ends = c.as_slice-ends.ensures.value ∙ ap (λ (z : Frame). z.ends.items) c.deref.ensures in
    subst (λ (z : List ℕ). AreFlat (lists_in m z) m z) (sym same) (other-kept s is q plane m keys ends flat e)

pub first_other-other-requires-clause-new : goal.first_other-other-requires-clause-new
first_other-other-requires-clause-new c =
    let s = c.args.self.now in
    let q = c.in_ok-rotation.rotation in
    let is = c.graph-graph.ensures.state in
    let plane : IsPlaneSystem s.graph q = subst (λ (z : Multigraph). IsPlaneSystem z q) c.graph-graph.ensures.value c.in_ok-rotation.ensures.plane in
    let keys = c.self.inside.keys.items in
    let ends = c.self.inside.frame.value.ends.items in
    let flat : AreFlat s.choices keys ends = subst (λ (z : BlockState). AreFlat z.choices keys ends) c.self.view_is c.self.invariant.1 in
    let m = c.deref-3.result.now in
    let e : m ≡ concat (choices_by s.tree q) = c.deref-3.ensures.value ∙ c.in-Ok.ensures ∙ ap (λ (z : List Node). concat (choices_by z q)) c.tree-tree.ensures.value in
    let same : c.as_slice-ends.result.now ≡ ends = c.as_slice-ends.ensures.value ∙ ap (λ (z : Frame). z.ends.items) c.deref.ensures in
    let new : c.of.result ≡ choices_by s.tree q = c.of.ensures ∙ ap (λ (z : List ℕ). lists_in m z) same ∙ other-view s is q plane m keys ends flat e in
    let locks : c.deref-2.result.now ≡ s.locks = c.deref-2.ensures.value ∙ ap (λ (z : BlockState). z.locks) c.self.view_is in
    ap length new ∙ choices-by_many s.tree q ∙ sym is.locks ∙ ap length (sym locks)

pub returns-in-Some-clause-refused : goal.returns-in-Some-clause-refused
returns-in-Some-clause-refused c =
    let s = c.args.self.now in
    let q = c.in_ok-rotation.rotation in
    let is = c.graph-graph.ensures.state in
    let plane : IsPlaneSystem s.graph q = subst (λ (z : Multigraph). IsPlaneSystem z q) c.graph-graph.ensures.value c.in_ok-rotation.ensures.plane in
    let keys = c.self.inside.keys.items in
    let ends = c.self.inside.frame.value.ends.items in
    let flat : AreFlat s.choices keys ends = subst (λ (z : BlockState). AreFlat z.choices keys ends) c.self.view_is c.self.invariant.1 in
    let m = c.deref-3.result.now in
    let e : m ≡ concat (choices_by s.tree q) = c.deref-3.ensures.value ∙ c.in-Ok.ensures ∙ ap (λ (z : List Node). concat (choices_by z q)) c.tree-tree.ensures.value in
    let same : c.as_slice-ends.result.now ≡ ends = c.as_slice-ends.ensures.value ∙ ap (λ (z : Frame). z.ends.items) c.deref.ensures in
    let new : c.of.result ≡ choices_by s.tree q = c.of.ensures ∙ ap (λ (z : List ℕ). lists_in m z) same ∙ other-view s is q plane m keys ends flat e in
    let locks : c.deref-2.result.now ≡ s.locks = c.deref-2.ensures.value ∙ ap (λ (z : BlockState). z.locks) c.self.view_is in
    record {
      system = q;
      given = c.in_ok-rotation.ensures.given;
      plane = subst (λ (z : Multigraph). IsPlaneSystem z q) (sym c.requires) plane;
      least = least-other s is q plane c.deref-2.result.now c.choices-2.result c.of.result locks c.choices-2.ensures.value new c.in-Some.k c.in-Some.ensures;
    }

pub returns-in-None-clause-keeps : goal.returns-in-None-clause-keeps
returns-in-None-clause-keeps c =
    let s = c.args.self.now in
    let q = c.in_ok-rotation.rotation in
    let is = c.graph-graph.ensures.state in
    let plane : IsPlaneSystem s.graph q = subst (λ (z : Multigraph). IsPlaneSystem z q) c.graph-graph.ensures.value c.in_ok-rotation.ensures.plane in
    let keys = c.self.inside.keys.items in
    let ends = c.self.inside.frame.value.ends.items in
    let flat : AreFlat s.choices keys ends = subst (λ (z : BlockState). AreFlat z.choices keys ends) c.self.view_is c.self.invariant.1 in
    let m = c.deref-3.result.now in
    let e : m ≡ concat (choices_by s.tree q) = c.deref-3.ensures.value ∙ c.in-Ok.ensures ∙ ap (λ (z : List Node). concat (choices_by z q)) c.tree-tree.ensures.value in
    let same : c.as_slice-ends.result.now ≡ ends = c.as_slice-ends.ensures.value ∙ ap (λ (z : Frame). z.ends.items) c.deref.ensures in
    let new : c.of.result ≡ choices_by s.tree q = c.of.ensures ∙ ap (λ (z : List ℕ). lists_in m z) same ∙ other-view s is q plane m keys ends flat e in
    let locks : c.deref-2.result.now ≡ s.locks = c.deref-2.ensures.value ∙ ap (λ (z : BlockState). z.locks) c.self.view_is in
    none-other s is q plane c.deref-2.result.now c.choices-2.result c.of.result locks c.choices-2.ensures.value new c.in-None.ensures
