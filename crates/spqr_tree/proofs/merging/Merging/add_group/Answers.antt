use Rattle.std.proofs.Common.{◌+◌, ◌∷◌, [], ◌∙◌, ap, length, List}
use Rattle.std.proofs.lemmas.List.{length-append}
use Rattle.pair_split.specs.declared.components.Comp.{Comp}
use Rattle.spqr_tree.proofs.MergingGroups.{finished-rests}
use Rattle.spqr_tree.proofs.merging.Merging.add_group.Goals as goal

-- the group is finished
pub returns-clause-resting : goal.returns-clause-resting
returns-clause-resting g c = finished-rests g.comps c.requires.0 c.begin-kind.result c.explore.new.self c.in_ok-explore.ensures.merging c.in_ok-explore.ensures.empty c.finish.new.self c.in_ok-finish.ensures.groups c.in_ok-finish.ensures.done c.in_ok-finish.ensures.live c.in_ok-finish.ensures.lead c.in_ok-finish.ensures.stack

-- one group more
pub returns-clause-number : goal.returns-clause-number
returns-clause-number g c = ap length c.in_ok-finish.ensures.groups ∙ (length-append c.explore.new.self.groups (record { kind = c.begin-kind.result; items = c.explore.new.self.done } ∷ []) ∙ ap (λ (l : List Comp). length l + 1) (c.in_ok-explore.ensures.groups ∙ c.begin-kind.ensures.groups))
