use Rattle.std.proofs.Common.{List, length, sym, ap, ◌∙◌, arith}
use Rattle.pair_split.specs.declared.components.Kind.TheVariants.{P}
use Rattle.pair_split.specs.Tutte.{Node, node_at}
use Rattle.choice_lists.specs.Arrangements.{factorial_number}
use Rattle.embed_enum.proofs.States.{state-digit, open-digit, rigid-long}
use Rattle.embed_enum.proofs.ranking.digit.Goals as goal

pub number_of-requires : goal.number_of-requires
number_of-requires c =
    let e = open-digit c.args.p.now c.belongs.ensures c.args.k P (sym (c.in-P.ensures {u = tt} ∙ ap (λ (z : List Node). (node_at z c.args.k).kind) c.tree.ensures.value)) (sym c.locked.ensures ∙ c.if-locked.false) in
    omega (arith, e, ap factorial_number c.keys.ensures, state-digit c.args.p.now c.belongs.ensures c.args.k c.requires.node, c.requires.fits)

pub is_before_mirror-requires : goal.is_before_mirror-requires
is_before_mirror-requires c = let l = rigid-long c.args.p.now c.belongs.ensures c.args.k c.requires.node (sym (c.in-R.ensures {u = tt} ∙ ap (λ (z : List Node). (node_at z c.args.k).kind) c.tree.ensures.value)) in omega (arith, l, ap length c.keys-in-R.ensures)
