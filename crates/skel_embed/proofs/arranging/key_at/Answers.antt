use Rattle.std.proofs.Common.{◌≡◌, Bool, ◌-◌, slice_index_or, sym, ap, ◌∙◌, subst, arith}
use Rattle.std.proofs.lemmas.List.{get_or-reverse}
use Rattle.permutations.proofs.Turned.{IsTurn-length}
use Rattle.skel_embed.specs.Arranged.{directed, from_place}
use Rattle.skel_embed.proofs.ArrangeSteps.{place-turn}
use Rattle.skel_embed.proofs.arranging.key_at.Goals as goal

pub returns-then-backwards : goal.returns-then-backwards
returns-then-backwards c =
    let l = from_place c.args.end c.args.keys.now in
    let n = IsTurn-length c.args.keys.now l (place-turn c.args.end c.args.keys.now) in
    c.key_from.ensures ∙ subst (λ z. slice_index_or l (z - 1 - c.args.i) 0 ≡ slice_index_or (directed c.args.backwards c.args.end c.args.keys.now) c.args.i 0) n
    (sym (get_or-reverse l c.args.i 0 (omega (arith, n, c.requires.within))) ∙ ap (λ (z : Bool). slice_index_or (directed z c.args.end c.args.keys.now) c.args.i 0) (sym c.if-backwards.true))

pub returns-else-backwards : goal.returns-else-backwards
returns-else-backwards c = c.key_from-else-backwards.ensures ∙ ap (λ (z : Bool). slice_index_or (directed z c.args.end c.args.keys.now) c.args.i 0) (sym c.if-backwards.false)
