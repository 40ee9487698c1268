use Rattle.std.proofs.Common.{◌≡◌, ◌∙◌, ℕ, List, sym, ap, subst}
use Rattle.skel_embed.specs.Block.{BlockState}
use Rattle.skel_embed.specs.Exchanges.{AreWritten}
use Rattle.skel_embed.specs.Flat.{lists_in}
use Rattle.skel_embed.specs.declared.state.Frame.{Frame}
use Rattle.skel_embed.proofs.States.{kept-all}
use Rattle.skel_embed.proofs.state.PlaneBlock.draft.Goals as goal

pub of-requires-clause-written : goal.of-requires-clause-written
of-requires-clause-written c =
    let s = c.args.self.now in
    let keys = c.in_ok-from_slice.ensures.items ∙ c.deref.ensures.value in
    let frame = c.in_ok-clone.ensures.cases in
    let e : lists_in c.in_ok-from_slice.field-0.items c.in_ok-clone.field-0.value.ends.items ≡ s.choices = ap (λ (z : List ℕ). lists_in z c.in_ok-clone.field-0.value.ends.items) keys
    ∙ ap (λ (z : Frame). lists_in c.self.inside.keys.items z.ends.items) frame ∙ ap (λ (z : BlockState). z.choices) c.self.view_is in
    subst AreWritten (sym e) (kept-all s c.belongs.ensures)
