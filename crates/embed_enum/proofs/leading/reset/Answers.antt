use Rattle.std.proofs.Common.{◌≡◌, ◌∙◌, List, sym, ap, arith}
use Rattle.pair_split.specs.Tutte.{Node, node_at}
use Rattle.pair_split.specs.declared.components.Kind.TheVariants.{P, R}
use Rattle.embed_enum.proofs.Leads.{flip-to, sort-to}
use Rattle.embed_enum.proofs.leading.reset.Goals as goal

pub returns-in_ok-keys-in-P : goal.returns-in_ok-keys-in-P
returns-in_ok-keys-in-P c =
    let s = c.args.p.now in
    let kind : (node_at s.tree c.args.k).kind ≡ P = ap (λ (t : List Node). (node_at t c.args.k).kind) (sym c.tree.ensures.value) ∙ sym (c.in-P.ensures {u = tt}) in
    (sym c.locked.ensures ∙ c.if-locked.false, sort-to s c.belongs.ensures c.args.k (c.requires, kind) c.in_ok-keys-in-P.keys (c.in_ok-keys-in-P.ensures {u = tt}))

pub returns-in-R : goal.returns-in-R
returns-in-R c =
    let s = c.args.p.now in
    let kind : (node_at s.tree c.args.k).kind ≡ R = ap (λ (t : List Node). (node_at t c.args.k).kind) (sym c.tree.ensures.value) ∙ sym (c.in-R.ensures {u = tt}) in
    let second = c.is_at_first.ensures.second c.if-is_at_first.false kind in
    (sym c.locked.ensures ∙ c.if-locked.false, flip-to s c.args.k 0 (c.requires, kind) (omega (arith, second)))
