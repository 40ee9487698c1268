use Rattle.std.proofs.Common.{◌≡◌, true, false, subst, arith, MatchOption}
use Rattle.permutations.specs.Members.{is_member, place_of}
use Rattle.permutations.proofs.Places.{place-below}
use Rattle.spqr_session.proofs.commands.regroup.place_in.Goals as goal

pub returns-clause-within : goal.returns-clause-within
returns-clause-within c =
    let cuts = c.args.cuts.now.component.cuts in
    let w = subst (λ r. MatchOption r (is_member c.args.v cuts ≡ false) (λ i. (is_member c.args.v cuts ≡ true) × (i ≡ place_of cuts c.args.v))) c.unwrap.ensures c.find_cut.ensures in
    omega (arith, w.1, place-below cuts c.args.v w.0)
