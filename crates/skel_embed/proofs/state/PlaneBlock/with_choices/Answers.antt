use Rattle.std.proofs.Common.{◌≡◌, ◌∙◌, ℕ, List, Bool, sym, ap, subst}
use Rattle.std.specs.List.{concat}
use Rattle.multigraph.specs.Graph.{Multigraph}
use Rattle.pair_split.specs.Tutte.{Node}
use Rattle.faces.specs.Euler.{IsPlaneSystem}
use Rattle.skel_embed.specs.Block.{BlockState, IsBlockState, choices_by}
use Rattle.skel_embed.specs.Flat.{lists_in, AreFlat}
use Rattle.skel_embed.specs.declared.state.Frame.{Frame}
use Rattle.skel_embed.proofs.KeptKeys.{kept-are, other-state, other-kept, other-view}
use Rattle.skel_embed.proofs.state.PlaneBlock.with_choices.Goals as goal

pub with_choices-requires-clause-old : goal.with_choices-requires-clause-old
with_choices-requires-clause-old c =
    let s = c.args.self.now in
    c.choices-old.ensures.value ∙ kept-are s c.choices-old.ensures.state ∙ ap (λ (z : List (List ℕ)). choices_by s.tree z) (sym (ap (λ (z : BlockState). z.rotation) c.self.view_is))
    ∙ ap (λ (z : List Node). choices_by z c.self.inside.rotation) (sym c.tree-tree.ensures.value)

pub invariant_of-result : goal.invariant_of-result
invariant_of-result c =
    let s = c.args.self.now in
    let q = c.requires.0 in
    let is = c.choices-old.ensures.state in
    let keys = c.self.inside.keys.items in
    let new = c.into_keys.result.items in
    let frame = c.in_ok-clone.ensures.cases in
    let flat : AreFlat s.choices keys c.self.inside.frame.value.ends.items = subst (λ (z : BlockState). AreFlat z.choices keys c.self.inside.frame.value.ends.items) c.self.view_is c.self.invariant.1 in
    let e : new ≡ concat (choices_by s.tree q) = c.into_keys.ensures ∙ ap concat c.requires.2 in
    let wanted : c.in_ok-rotation.rotation ≡ q = c.in_ok-rotation.ensures {u = tt} q (subst (λ (z : Multigraph). IsPlaneSystem z q) (sym c.graph-graph.ensures.value) c.requires.1) (c.choices-new.ensures ∙ c.requires.2 ∙ ap (λ (z : List Node). choices_by z q) (sym c.tree-tree.ensures.value)) in
    let locks : c.in_ok-locks.locks.items ≡ s.locks = c.in_ok-locks.ensures.items ∙ c.deref.ensures.value ∙ ap (λ (z : BlockState). z.locks) c.self.view_is in
    subst (λ (f : Frame). IsBlockState (record { graph = f.graph; tree = f.tree; rotation = c.in_ok-rotation.rotation; choices = lists_in new f.ends.items; locks = c.in_ok-locks.locks.items }) × AreFlat (lists_in new f.ends.items) new f.ends.items) (sym frame) (
      subst (λ (g : Multigraph). IsBlockState (record { graph = g; tree = c.self.inside.frame.value.tree; rotation = c.in_ok-rotation.rotation; choices = lists_in new c.self.inside.frame.value.ends.items; locks = c.in_ok-locks.locks.items })) (sym (ap (λ (z : BlockState). z.graph) c.self.view_is))
          (subst (λ (t : List Node). IsBlockState (record { graph = s.graph; tree = t; rotation = c.in_ok-rotation.rotation; choices = lists_in new c.self.inside.frame.value.ends.items; locks = c.in_ok-locks.locks.items })) (sym (ap (λ (z : BlockState). z.tree) c.self.view_is))
          (subst (λ (r : List (List ℕ)). IsBlockState (record { graph = s.graph; tree = s.tree; rotation = r; choices = lists_in new c.self.inside.frame.value.ends.items; locks = c.in_ok-locks.locks.items })) (sym wanted)
          (subst (λ (l : List Bool). IsBlockState (record { graph = s.graph; tree = s.tree; rotation = q; choices = lists_in new c.self.inside.frame.value.ends.items; locks = l })) (sym locks)
          (other-state s is q c.requires.1 new keys c.self.inside.frame.value.ends.items flat e)))),
      other-kept s is q c.requires.1 new keys c.self.inside.frame.value.ends.items flat e,
    )

pub returns : goal.returns
returns c = λ q p d.
    let s = c.args.self.now in
    let is = c.choices-old.ensures.state in
    let keys = c.self.inside.keys.items in
    let new = c.into_keys.result.items in
    let frame = c.in_ok-clone.ensures.cases in
    let flat : AreFlat s.choices keys c.self.inside.frame.value.ends.items = subst (λ (z : BlockState). AreFlat z.choices keys c.self.inside.frame.value.ends.items) c.self.view_is c.self.invariant.1 in
    let e : new ≡ concat (choices_by s.tree q) = c.into_keys.ensures ∙ ap concat d in
    let wanted : c.in_ok-rotation.rotation ≡ q = c.in_ok-rotation.ensures {u = tt} q (subst (λ (z : Multigraph). IsPlaneSystem z q) (sym c.graph-graph.ensures.value) p) (c.choices-new.ensures ∙ d ∙ ap (λ (z : List Node). choices_by z q) (sym c.tree-tree.ensures.value)) in
    let locks : c.in_ok-locks.locks.items ≡ s.locks = c.in_ok-locks.ensures.items ∙ c.deref.ensures.value ∙ ap (λ (z : BlockState). z.locks) c.self.view_is in
    let graph : c.in_ok-clone.field-0.value.graph ≡ s.graph = ap (λ (f : Frame). f.graph) frame ∙ ap (λ (z : BlockState). z.graph) c.self.view_is in
    let tree : c.in_ok-clone.field-0.value.tree ≡ s.tree = ap (λ (f : Frame). f.tree) frame ∙ ap (λ (z : BlockState). z.tree) c.self.view_is in
    let choices : lists_in new c.in_ok-clone.field-0.value.ends.items ≡ c.args.draft = ap (λ (f : Frame). lists_in new f.ends.items) frame ∙ other-view s is q p new keys c.self.inside.frame.value.ends.items flat e ∙ sym d in
    λ i. record { graph = graph i; tree = tree i; rotation = wanted i; choices = choices i; locks = locks i }
