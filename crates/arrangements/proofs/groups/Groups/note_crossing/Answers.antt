use Rattle.std.proofs.Common.{◌≡◌, ℕ, length, subst, arith}
use Rattle.arrangements.specs.Groups.{Hold}
use Rattle.arrangements.proofs.Grouped.{all-noted}
use Rattle.arrangements.proofs.groups.Groups.note_crossing.Goals as goal

-- all places are passed
pub returns-clause-noted : goal.returns-clause-noted
returns-clause-noted c =
    let g = c.loop-i.self in
    let all : c.loop-i.i ≡ length c.args.ranks.now = omega (arith, c.loop-i-test.false, c.loop-i.auto.i-end) in
    all-noted c.args.ranks.now g.first.items g.last.items g.starts.items g.ends.items g.noted.items (subst (λ (z : ℕ). Hold g c.args.ranks.now z) all c.loop-i.invariant.hold)
