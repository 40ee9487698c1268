use Rattle.std.proofs.Common.{◌≡◌, ◌∙◌, ◌<◌, ℕ, List, [], length, slice_index_or, slice_set, sym, ap, subst}
use Rattle.permutations.specs.Cyclic.{from_least}
use Rattle.moves.specs.declared.values.Move.{Move}
use Rattle.skel_embed.specs.Drafts.{CanBeMoved}
use Rattle.skel_embed.specs.Exchanges.{turned_choice, AreWritten}
use Rattle.skel_embed.specs.Flat.{lists_in, AreFlat}
use Rattle.skel_embed.specs.Values.{as_move}
use Rattle.skel_embed.specs.declared.state.Frame.{Frame}
use Rattle.skel_embed.proofs.Drafted.{turned-written, ordered-written}
use Rattle.skel_embed.proofs.drafts.Draft.make.Goals as goal

pub invariant_of-self : goal.invariant_of-self
invariant_of-self c =
    let keys = c.self.inside.keys.items in
    let ends = c.self.inside.frame.value.ends.items in
    let k = c.in-Flip.k in
    let new = c.turn_choice.new.keys.items in
    let same : c.as_slice-ends.result.now ≡ ends = c.as_slice-ends.ensures.value ∙ ap (λ (z : Frame). z.ends.items) c.as_ref-frame.ensures in
    let may = subst (λ (m : Move). CanBeMoved (as_move m) c.args.self.now) c.in-Flip.is c.requires in
    let node : k < length (lists_in keys ends) = subst (λ (z : List (List ℕ)). k < length z) (sym c.self.view_is) may in
    let is : lists_in new ends ≡ slice_set (lists_in keys ends) k (turned_choice (slice_index_or (lists_in keys ends) k [])) =
    subst (λ (z : List ℕ). lists_in new z ≡ slice_set (lists_in keys z) k (turned_choice (slice_index_or (lists_in keys z) k []))) same c.turn_choice.ensures.turned in (
      subst (λ (z : List ℕ). AreFlat (lists_in new z) new z) same c.turn_choice.ensures.flat,
      subst AreWritten (sym is) (turned-written (lists_in keys ends) k node c.self.invariant.1),
    )

pub invariant_of-self-in-Permute : goal.invariant_of-self-in-Permute
invariant_of-self-in-Permute c =
    let keys = c.self.inside.keys.items in
    let ends = c.self.inside.frame.value.ends.items in
    let k = c.in-Permute.k in
    let order = c.in-Permute.order in
    let new = c.arrange_choice.new.keys.items in
    let same : c.as_slice-ends.result.now ≡ ends = c.as_slice-ends.ensures.value ∙ ap (λ (z : Frame). z.ends.items) c.as_ref-frame.ensures in
    let may = subst (λ (m : Move). CanBeMoved (as_move m) (lists_in keys ends)) c.in-Permute.is (subst (CanBeMoved (as_move c.args.one.now)) (sym c.self.view_is) c.requires) in
    let is : lists_in new ends ≡ slice_set (lists_in keys ends) k (from_least order) =
    subst (λ (z : List ℕ). lists_in new z ≡ slice_set (lists_in keys z) k (from_least c.as_slice.result.now)) same c.arrange_choice.ensures.arranged ∙ ap (λ (z : List ℕ). slice_set (lists_in keys ends) k (from_least z)) c.as_slice.ensures in (
      subst (λ (z : List ℕ). AreFlat (lists_in new z) new z) same c.arrange_choice.ensures.flat,
      subst AreWritten (sym is) (ordered-written (lists_in keys ends) k may.0 c.self.invariant.1 order may.1),
    )
