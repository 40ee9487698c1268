use Rattle.std.proofs.Common.{ℕ, Option, MatchOption, subst}
use Rattle.contract_embed.specs.Runs.{HaveRuns}
use Rattle.contract_obstruct.specs.Obstruction.{HaveNoRuns}
use Rattle.contract_embed.proofs.answers.expand_runs.Goals as goal

pub expand-requires-clause-first : goal.expand-requires-clause-first
expand-requires-clause-first c =
    let told : HaveRuns c.args.level.now c.args.next.now c.in-Some.ends.0 c.in-Some.ends.1 =
    subst (λ (a : Option (ℕ × ℕ)). MatchOption a (HaveNoRuns c.args.level.now c.args.next.now) (λ p. HaveRuns c.args.level.now c.args.next.now p.0 p.1)) c.in-Some.is c.in_ok-found.ensures in
    told.2.first_dart

pub expand-requires-clause-last : goal.expand-requires-clause-last
expand-requires-clause-last c =
    let told : HaveRuns c.args.level.now c.args.next.now c.in-Some.ends.0 c.in-Some.ends.1 =
    subst (λ (a : Option (ℕ × ℕ)). MatchOption a (HaveNoRuns c.args.level.now c.args.next.now) (λ p. HaveRuns c.args.level.now c.args.next.now p.0 p.1)) c.in-Some.is c.in_ok-found.ensures in
    told.2.last_dart
