use Rattle.std.proofs.Common.{◌≡◌, ◌<◌, ◌+◌, ℕ, None, length, slice_index, slice_index_or, refl, sym, ap, ◌∙◌, subst, arith}
use Rattle.multigraph.specs.Part.{Rises}
use Rattle.whole_embed.specs.Component.{Component}
use Rattle.spqr_session.specs.Wholes.{AreOrdersKept, AreSetTo}
use Rattle.spqr_session.proofs.WholesMade.{set-none, set-one}
use Rattle.spqr_session.proofs.wholes.set_kept.Goals as goal

pub set_kept_at-requires-clause-within : goal.set_kept_at-requires-clause-within
set_kept_at-requires-clause-within c = omega (arith, c.loop-i-test.true, c.count-i-end.ensures, ap (λ (k : Component). length k.cuts) c.loop-i.invariant.component)

pub set_kept_at-requires-clause-orders : goal.set_kept_at-requires-clause-orders
set_kept_at-requires-clause-orders c = subst (λ (k : Component). AreOrdersKept k c.args.board.now.lists) (sym c.loop-i.invariant.component) c.requires.orders

pub loop-i-init : goal.loop-i-init
loop-i-init c = set-none c.args.board.now.lists c.args.cuts.now

pub loop-i-preserved : goal.loop-i-preserved
loop-i-preserved c =
    let i = c.loop-i.i in
    let lists = c.args.board.now.lists in
    let old = c.args.cuts.now in
    let now = c.loop-i.cuts in
    let so = c.loop-i.invariant in
    let v = slice_index now.component.cuts i in
    let within : c.loop-i.i < length now.component.cuts = omega (arith, c.loop-i-test.true, c.count-i-end.ensures, ap (λ (k : Component). length k.cuts) so.component) in
    let rise : Rises now.component.cuts = subst (λ (k : Component). Rises k.cuts) (sym so.component) c.requires.increasing in
    let long : length now.lists ≡ length now.component.cuts = so.count ∙ c.keeps.ensures ∙ ap (λ (k : Component). length k.cuts) (sym so.component) in
    subst (AreSetTo (i + 1) lists old) (sym c.set_kept_at.ensures) (set-one lists old i now so v refl (slice_index_or lists v None) refl within rise long)

pub returns-clause-set : goal.returns-clause-set
returns-clause-set c =
    let end : c.loop-i.i ≡ length c.args.cuts.now.component.cuts = omega (arith, c.loop-i-test.false, c.loop-i.auto.i-end, c.count-i-end.ensures) in
    subst (λ (n : ℕ). AreSetTo n c.args.board.now.lists c.args.cuts.now c.loop-i.cuts) end c.loop-i.invariant
