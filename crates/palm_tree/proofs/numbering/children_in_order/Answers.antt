use Rattle.std.proofs.Common.{sym, ap, ◌∙◌}
use Rattle.permutations.specs.Members.{is_member}
use Rattle.permutations.proofs.Members.{member-reverse}
use Rattle.palm_tree.proofs.numbering.children_in_order.Goals as goal

pub add_children-requires-clause-within : goal.add_children-requires-clause-within
add_children-requires-clause-within g c = λ e h.
    c.requires.within e (sym (member-reverse e c.args.edges.now) ∙ (ap (is_member e) (sym (c.deref.ensures.value ∙ c.in_ok-backwards.ensures {u = tt})) ∙ h))
