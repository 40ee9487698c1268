use Rattle.std.proofs.Common.{◌≡◌, cond, length, sym, ap, ◌∙◌, arith}
use Rattle.skeletons.specs.Choices.{choice}
use Rattle.embed_enum.specs.Digits.{rigid_digit}
use Rattle.embed_enum.proofs.States.{rigid-long}
use Rattle.embed_enum.proofs.Nodes.{flipped-digit}
use Rattle.embed_enum.proofs.stepping.step_rigid.Goals as goal

pub is_before_mirror-requires : goal.is_before_mirror-requires
is_before_mirror-requires c = let l = rigid-long c.args.p.now c.belongs.ensures c.args.k c.requires.0 c.requires.1 in omega (arith, l, ap length c.keys.ensures)

pub returns-clause-next : goal.returns-clause-next
returns-clause-next c = λ t.
    let d : rigid_digit (choice c.args.p.now.tree c.args.p.now.rotation c.args.k) ≡ 0 = sym (ap rigid_digit c.keys.ensures) ∙ sym c.is_before_mirror.ensures ∙ ap (λ z. cond z 0 1) c.if-not-is_before_mirror.false in
    let f = flipped-digit c.args.p.now c.belongs.ensures c.args.k c.requires (choice c.args.p.now.tree c.flip.new.p.rotation c.args.k) c.flip.ensures.1 in
    (c.flip.ensures.0, omega (arith, d, f))
