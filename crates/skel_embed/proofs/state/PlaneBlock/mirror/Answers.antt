use Rattle.std.proofs.Common.{◌≡◌, ℕ, List, map, sym, ap, ◌∙◌, subst}
use Rattle.skel_embed.specs.Block.{BlockState}
use Rattle.skel_embed.specs.Exchanges.{turned_choice, AreWritten}
use Rattle.skel_embed.specs.Flat.{lists_in, AreFlat}
use Rattle.skel_embed.specs.declared.state.Frame.{Frame}
use Rattle.skel_embed.proofs.States.{kept-all, state-mirrored}
use Rattle.skel_embed.proofs.state.PlaneBlock.mirror.Goals as goal

pub turn_all-requires-clause-flat : goal.turn_all-requires-clause-flat
turn_all-requires-clause-flat c =
    let keys = c.self.inside.keys.items in
    let same : c.as_slice.result.now ≡ c.self.inside.frame.value.ends.items = c.as_slice.ensures.value ∙ ap (λ (z : Frame). z.ends.items) c.as_ref-frame.ensures in
    subst (λ (z : List ℕ). AreFlat (lists_in keys z) keys z) (sym same) c.self.invariant.1

pub turn_all-requires-clause-written : goal.turn_all-requires-clause-written
turn_all-requires-clause-written c =
    let s : BlockState = record { graph = c.self.inside.frame.value.graph; tree = c.self.inside.frame.value.tree; rotation = c.self.inside.rotation; choices = lists_in c.self.inside.keys.items c.self.inside.frame.value.ends.items; locks = c.self.inside.locks.items } in
    let keys = c.self.inside.keys.items in
    let same : c.as_slice.result.now ≡ c.self.inside.frame.value.ends.items = c.as_slice.ensures.value ∙ ap (λ (z : Frame). z.ends.items) c.as_ref-frame.ensures in
    subst (λ (z : List ℕ). AreWritten (lists_in keys z)) (sym same) (kept-all s c.self.invariant.0)

pub invariant_of-self : goal.invariant_of-self
invariant_of-self c =
    let s : BlockState = record { graph = c.self.inside.frame.value.graph; tree = c.self.inside.frame.value.tree; rotation = c.self.inside.rotation; choices = lists_in c.self.inside.keys.items c.self.inside.frame.value.ends.items; locks = c.self.inside.locks.items } in
    let keys = c.self.inside.keys.items in
    let same : c.as_slice.result.now ≡ c.self.inside.frame.value.ends.items = c.as_slice.ensures.value ∙ ap (λ (z : Frame). z.ends.items) c.as_ref-frame.ensures in
    let new = c.turn_all.new.keys.items in
    let is : lists_in new c.self.inside.frame.value.ends.items ≡ map turned_choice s.choices = subst (λ (z : List ℕ). lists_in new z ≡ map turned_choice (lists_in keys z)) same c.turn_all.ensures.turned in (
      state-mirrored s c.self.invariant.0 c.mirror.new.self (lists_in new c.self.inside.frame.value.ends.items) c.mirror.ensures is,
      subst (λ (z : List ℕ). AreFlat (lists_in new z) new z) same c.turn_all.ensures.flat,
    )
