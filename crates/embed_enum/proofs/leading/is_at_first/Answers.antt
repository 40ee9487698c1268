use Rattle.std.proofs.Common.{◌≡◌, ◌∙◌, Bool, List, cond, length, sym, ap, arith}
use Rattle.pair_split.specs.Tutte.{Node, node_at}
use Rattle.pair_split.specs.declared.components.Kind.TheVariants.{P, R}
use Rattle.embed_enum.specs.Digits.{rigid_digit}
use Rattle.embed_enum.proofs.Bonds.{keeps-itself}
use Rattle.embed_enum.proofs.Nodes.{own-digit, bond-begins}
use Rattle.embed_enum.proofs.States.{rigid-long}
use Rattle.embed_enum.proofs.leading.is_at_first.Goals as goal

pub is_before_mirror-requires : goal.is_before_mirror-requires
is_before_mirror-requires c =
    let kind : (node_at c.args.p.now.tree c.args.k).kind ≡ R = ap (λ (t : List Node). (node_at t c.args.k).kind) (sym c.tree.ensures.value) ∙ sym (c.in-R.ensures {u = tt}) in
    let l = rigid-long c.args.p.now c.belongs.ensures c.args.k c.requires kind in
    omega (arith, l, ap length c.keys.ensures)

pub returns-in-P-clause-first : goal.returns-in-P-clause-first
returns-in-P-clause-first c = λ y.
    let s = c.args.p.now in
    let kind : (node_at s.tree c.args.k).kind ≡ P = ap (λ (t : List Node). (node_at t c.args.k).kind) (sym c.tree.ensures.value) ∙ sym (c.in-P.ensures {u = tt}) in
    bond-begins s s c.belongs.ensures c.args.k (c.requires, kind) (keeps-itself s c.args.k) (c.is_sorted.ensures y)

pub returns-in-R-clause-first : goal.returns-in-R-clause-first
returns-in-R-clause-first c = λ y.
    let s = c.args.p.now in
    let kind : (node_at s.tree c.args.k).kind ≡ R = ap (λ (t : List Node). (node_at t c.args.k).kind) (sym c.tree.ensures.value) ∙ sym (c.in-R.ensures {u = tt}) in
    own-digit s c.args.k R kind ∙ ap rigid_digit (sym c.keys.ensures) ∙ sym c.is_before_mirror.ensures ∙ ap (λ (b : Bool). cond b 0 1) y

pub returns-in-R-clause-second : goal.returns-in-R-clause-second
returns-in-R-clause-second c = λ n is.
    own-digit c.args.p.now c.args.k R is ∙ ap rigid_digit (sym c.keys.ensures) ∙ sym c.is_before_mirror.ensures ∙ ap (λ (b : Bool). cond b 0 1) n
