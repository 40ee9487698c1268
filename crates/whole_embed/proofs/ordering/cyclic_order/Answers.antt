use Rattle.std.proofs.Common.{◌≡◌, ℕ, true, Some, None, List, IsPermutation, sym, ap, ◌∙◌, subst, arith}
use Rattle.std.specs.List.{slice_get}
use Rattle.permutations.specs.Members.{is_member}
use Rattle.permutations.specs.Cyclic.{turned}
use Rattle.whole_embed.proofs.Orderings.{ordering-first, ordering-turned, ordering-none}
use Rattle.whole_embed.proofs.ordering.cyclic_order.Goals as goal
use Rattle.whole_embed.proofs.ordering.cyclic_order.Goals.{in-Some, in_default}

pub turn_to-requires : goal.turn_to-requires
turn_to-requires c =
    let yes : c.in_ok-is_ordering.field-0 ≡ true = grind (arith, c.if-not-branch.false) in
    let p : IsPermutation c.args.at.now c.args.edges.now = (c.in_ok-is_ordering.ensures {u = tt}).0 yes in
    let first : slice_get c.args.at.now 0 ≡ Some c.in-Some.least.now = sym (c.in-Some.ensures {u = tt}).value in
    subst (λ (l : List ℕ). is_member c.in-Some.least.now l ≡ true) (sym (c.in_ok-list.ensures {u = tt}).items) (ordering-first c.args.at.now c.args.edges.now c.in-Some.least.now first p)

pub returns : goal.returns
returns c =
    let yes : c.in_ok-is_ordering.field-0 ≡ true = grind (arith, c.if-not-branch.false) in
    let p : IsPermutation c.args.at.now c.args.edges.now = (c.in_ok-is_ordering.ensures {u = tt}).0 yes in
    elim c.match-first.branch [
      | in-Some w ↦
          let first : slice_get c.args.at.now 0 ≡ Some w.in-Some.least.now = sym (w.in-Some.ensures {u = tt}).value in
          (p, ap (λ v. v.items) w.list-is ∙ (w.turn_to.ensures ∙ (ap (λ (l : List ℕ). turned l w.in-Some.least.now) (c.in_ok-list.ensures {u = tt}).items ∙ ordering-turned c.args.at.now c.args.edges.now w.in-Some.least.now c.requires first p)))
      | in_default w ↦
          let none : slice_get c.args.at.now 0 ≡ None = sym (w.in_default.ensures {u = tt}).value in
          (p, ap (λ v. v.items) w.list-is ∙ ((c.in_ok-list.ensures {u = tt}).items ∙ ordering-none c.args.at.now c.args.edges.now none p))
    ]
