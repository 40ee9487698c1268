use Rattle.std.proofs.Common.{List, ℕ, map, IsPermutation, sym, subst, ◌∙◌}
use Rattle.skeletons.specs.Items.{item_key}
use Rattle.spqr_session.proofs.InnerKeys.{sorted-arranged, arranged-sorted}
use Rattle.spqr_session.proofs.commands.permute.are_arranged.Goals as goal

pub returns : goal.returns
returns c =
    let own = map item_key c.args.items.now in
    let sorted = c.sort_unstable.new.self.items in
    let p : IsPermutation c.args.keys.now sorted = subst (λ (l : List ℕ). IsPermutation l sorted) c.in_ok-sorted.ensures.items c.sort_unstable.ensures.permutation in (
      λ t. sorted-arranged own c.args.keys.now sorted p (c.are_keys.ensures.0 t ∙ c.deref.ensures.value),
      λ q. c.are_keys.ensures.1 (arranged-sorted own c.args.keys.now sorted c.requires p c.sort_unstable.ensures.sorted q ∙ sym c.deref.ensures.value),
    )
