use Rattle.std.proofs.Common.{◌≡◌, cond, length, sym, ap, ◌∙◌, arith}
use Rattle.skeletons.specs.Choices.{choice}
use Rattle.embed_enum.specs.Digits.{rigid_digit}
use Rattle.embed_enum.proofs.States.{rigid-long}
use Rattle.embed_enum.proofs.Nodes.{flipped-digit}
use Rattle.embed_enum.proofs.stepping.reset_rigid.Goals as goal

pub is_before_mirror-requires : goal.is_before_mirror-requires
is_before_mirror-requires c = let l = rigid-long c.args.p.now c.belongs.ensures c.args.k c.requires.0 c.requires.1 in omega (arith, l, ap length c.keys.ensures)

pub returns-then-not-is_before_mirror-clause-digit : goal.returns-then-not-is_before_mirror-clause-digit
returns-then-not-is_before_mirror-clause-digit c =
    let s = c.args.p.now in
    let one : rigid_digit (choice s.tree s.rotation c.args.k) ≡ 1 = sym (ap rigid_digit c.keys.ensures) ∙ sym c.is_before_mirror.ensures ∙ ap (λ z. cond z 0 1) c.if-not-is_before_mirror.true in
    let both = flipped-digit s c.belongs.ensures c.args.k c.requires (choice s.tree c.flip.new.p.rotation c.args.k) c.flip.ensures.1 in
    omega (arith, one, both)
