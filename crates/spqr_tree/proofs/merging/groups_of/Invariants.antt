use Rattle.std.proofs.Common.{◌≤◌, ◌<◌, ℕ, length}
use Rattle.spqr_tree.specs.Merging.{IsLed, IsResting}
use Rattle.spqr_tree.proofs.merging.groups_of.Given as goal

abbrev pub ghost-is_live : goal.ghost-is_live
ghost-is_live g a = g.comps

abbrev pub ghost-add_group : goal.ghost-add_group
ghost-add_group g a = g.comps

abbrev pub invariant-loop-c : goal.invariant-loop-c
invariant-loop-c g l = IsResting g.comps l.merging × (length l.merging.groups ≤ l.c) × ((x : ℕ) → x < l.c → IsLed l.merging.lead x)
