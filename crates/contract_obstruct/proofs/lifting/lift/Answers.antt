use Rattle.std.proofs.Common.{◌≡◌, ℕ, List, false, subst}
use Rattle.permutations.specs.Members.{is_member}
use Rattle.contract_obstruct.proofs.LiftedCases.{level-none}
use Rattle.contract_obstruct.proofs.lifting.lift.Goals as goal

pub lift_at-requires-clause-lifted : goal.lift_at-requires-clause-lifted
lift_at-requires-clause-lifted c =
    level-none c.args.level.now c.requires.level c.args.s.now.kind c.args.s.now.branch c.args.s.now.paths c.requires.of
    (subst (λ z. is_member z c.args.s.now.branch ≡ false) c.contracted_vertex-merged.ensures (subst (λ (l : List ℕ). is_member c.contracted_vertex-merged.result l ≡ false) c.as_slice.ensures c.in-None.ensures))
