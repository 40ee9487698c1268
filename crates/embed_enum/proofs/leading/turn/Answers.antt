use Rattle.std.proofs.Common.{◌≡◌, ◌+◌, ◌∙◌, cond, length, sym, ap, arith}
use Rattle.pair_split.specs.declared.components.Kind.TheVariants.{R}
use Rattle.embed_enum.specs.Digits.{rigid_digit}
use Rattle.embed_enum.specs.Changes.{node_digit}
use Rattle.embed_enum.proofs.Leads.{flip-to}
use Rattle.embed_enum.proofs.Nodes.{own-digit}
use Rattle.embed_enum.proofs.States.{rigid-long}
use Rattle.embed_enum.proofs.leading.turn.Goals as goal

pub is_before_mirror-requires : goal.is_before_mirror-requires
is_before_mirror-requires c = let l = rigid-long c.args.p.now c.belongs.ensures c.args.k c.requires.0 c.requires.1 in omega (arith, l, ap length c.keys.ensures)

pub returns-then-is_before_mirror : goal.returns-then-is_before_mirror
returns-then-is_before_mirror c =
    let s = c.args.p.now in
    let zero : node_digit s c.args.k ≡ 0 = own-digit s c.args.k R c.requires.1 ∙ sym (ap rigid_digit c.keys.ensures) ∙ sym c.is_before_mirror.ensures ∙ ap (λ z. cond z 0 1) c.if-is_before_mirror.true in
    flip-to s c.args.k (node_digit s c.args.k + 1) c.requires (omega (arith, zero))

pub returns-else-is_before_mirror : goal.returns-else-is_before_mirror
returns-else-is_before_mirror c =
    let s = c.args.p.now in
    own-digit s c.args.k R c.requires.1 ∙ sym (ap rigid_digit c.keys.ensures) ∙ sym c.is_before_mirror.ensures ∙ ap (λ z. cond z 0 1) c.if-is_before_mirror.false
