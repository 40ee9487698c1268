use Rattle.std.proofs.Common.{◌≡◌, sym, subst}
use Rattle.std.specs.List.{concat}
use Rattle.faces.specs.Euler.{IsPlaneSystem}
use Rattle.skel_embed.specs.Block.{BlockState, choices_by}
use Rattle.skel_embed.specs.Flat.{lists_in}
use Rattle.skel_embed.proofs.KeptKeys.{other-state, other-kept}
use Rattle.skel_embed.proofs.state.PlaneBlock.take.Goals as goal

pub invariant_of-self : goal.invariant_of-self
invariant_of-self c =
    let s : BlockState = record { graph = c.self.inside.frame.value.graph; tree = c.self.inside.frame.value.tree; rotation = c.self.inside.rotation; choices = lists_in c.self.inside.keys.items c.self.inside.frame.value.ends.items; locks = c.self.inside.locks.items } in
    let q = c.in_ok-rotation.rotation in
    let plane : IsPlaneSystem s.graph q = subst (λ (z : BlockState). IsPlaneSystem z.graph q) (sym c.self.view_is) c.in_ok-rotation.ensures.plane in
    let keys = c.in_ok-rotation.keys.items in
    let e : keys ≡ concat (choices_by s.tree q) = subst (λ (z : BlockState). keys ≡ concat (choices_by z.tree q)) (sym c.self.view_is) c.in_ok-rotation.ensures.keys in
    let ends = c.self.inside.frame.value.ends.items in (
      other-state s c.self.invariant.0 q plane keys c.self.inside.keys.items ends c.self.invariant.1 e,
      other-kept s c.self.invariant.0 q plane keys c.self.inside.keys.items ends c.self.invariant.1 e,
    )
