use Rattle.std.proofs.Common.{rules, ◌≡◌, true}
use Rattle.contract_embed.specs.Runs.{FitsAt}
use Rattle.contract_obstruct.proofs.BelowNext.{below-next}
use Rattle.contract_embed.proofs.runs.all_fit.Goals as goal

pub loop-dart-preserved : goal.loop-dart-preserved
loop-dart-preserved c =
    let t : c.fits_at.result ≡ true = search rules in
    below-next (FitsAt c.args.level.now c.args.next.now c.args.first c.args.last) c.loop-dart.dart c.loop-dart.invariant (c.fits_at.ensures.0 t)
