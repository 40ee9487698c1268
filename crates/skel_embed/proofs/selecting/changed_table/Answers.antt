use Rattle.std.proofs.Common.{◌≡◌, ◌∙◌, ◌++◌, ◌∷◌, ◌<◌, ℕ, List, [], length, sym, ap, subst, arith}
use Rattle.skeletons.specs.Families.{system_at}
use Rattle.skel_embed.specs.Selected.{HasChoice, HasChoiceIn, HaveChoices}
use Rattle.skel_embed.proofs.RowTables.{chosen-none, chosen-more}
use Rattle.skel_embed.proofs.selecting.changed_table.Goals as goal

pub loop-k-init : goal.loop-k-init
loop-k-init c = chosen-none c.args.tree.now c.args.new.now c.in_ok-changed.changed (c.in_ok-changed.ensures {u = tt})

pub changed_row-requires-clause-family : goal.changed_row-requires-clause-family
changed_row-requires-clause-family c =
    let nodes = c.args.tree.now in
    let k = c.loop-k.k in
    let f = c.requires.family in
    let l : k < length nodes = omega (arith, c.loop-k-test.true, c.node_count-k-end.ensures) in
    (f.0, f.1, subst (λ (z : List ℕ). HasChoice nodes k z (system_at f.0 k)) (sym c.at.ensures) (f.2.chosen k l))

pub changed_row-requires-clause-possible : goal.changed_row-requires-clause-possible
changed_row-requires-clause-possible c =
    let nodes = c.args.tree.now in
    let k = c.loop-k.k in
    let w = c.requires.possible k (omega (arith, c.loop-k-test.true, c.node_count-k-end.ensures)) in
    (w.0, subst (λ (z : List ℕ). HasChoice nodes k z w.0) (sym c.at-in-loop-k.ensures) w.1)

pub loop-k-preserved : goal.loop-k-preserved
loop-k-preserved c =
    let nodes = c.args.tree.now in
    let k = c.loop-k.k in
    let row = c.changed_row.new.row.items in
    chosen-more nodes c.args.new.now k c.loop-k.changed c.push.new.self row c.loop-k.invariant (subst (λ (z : List ℕ). HasChoiceIn nodes k z row) c.at-in-loop-k.ensures (c.in_ok-changed_row.ensures {u = tt}))
    (c.in_ok-push.ensures {u = tt} ∙ ap (λ (z : List ℕ). c.loop-k.changed ++ z ∷ []) c.deref.ensures.value)

pub returns : goal.returns
returns c = subst (λ n. HaveChoices c.args.tree.now c.args.new.now n c.loop-k.changed) (let e : c.loop-k.k ≡ length c.args.tree.now = omega (arith, c.loop-k-test.false, c.node_count-k-end.ensures, c.loop-k.auto.k-end) in e) c.loop-k.invariant
