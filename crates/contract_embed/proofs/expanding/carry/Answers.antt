use Rattle.std.proofs.Common.{◌+◌, set, sym, ◌∙◌, ap, subst}
use Rattle.contract_embed.specs.Runs.{origin, CarriedBelow}
use Rattle.contract_embed.proofs.Carried.{carried-next}
use Rattle.contract_embed.proofs.expanding.carry.Goals as goal

pub returns : goal.returns
returns c =
    let level = c.args.level.now in
    subst (λ z. CarriedBelow level c.args.next.now (c.args.dart + 1) (set c.args.wide.now z c.origin.result)) (sym c.origin-2.ensures.is)
    (subst (λ z. CarriedBelow level c.args.next.now (c.args.dart + 1) (set c.args.wide.now (origin level c.args.dart) z)) (sym (c.origin.ensures.is ∙ ap (origin level) c.after-follows.ensures.value))
    (carried-next level c.requires.level c.args.next.now c.args.dart c.args.wide.now c.requires.dart c.requires.before))
