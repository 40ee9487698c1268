use Rattle.std.proofs.Common.{◌≡◌, ◌<◌, ◌≤◌, ℕ, true, List, length, slice_index, sym, ap, ◌∙◌, subst, arith}
use Rattle.permutations.specs.Members.{is_member}
use Rattle.permutations.proofs.Arrangements.{member-at}
use Rattle.multigraph.specs.Part.{GraphPart}
use Rattle.rotations.specs.Rotation.{IsCyclicOrder, IsRotationSystem}
use Rattle.whole_embed.specs.Component.{Component}
use Rattle.whole_embed.specs.Around.{edges_around, outer_at}
use Rattle.whole_embed.specs.Frames.{IsFrame}
use Rattle.whole_convert.proofs.FrameTables.{cut-there}
use Rattle.whole_convert.proofs.TargetLists.{target-more, target-all}
use Rattle.whole_convert.proofs.cut_lists.arrange_all.Goals as goal

pub loop-i-preserved : goal.loop-i-preserved
loop-i-preserved c =
    let old = c.args.cuts.now in
    let q = c.args.q.now in
    let v = slice_index c.cuts.result.now c.loop-i.i in
    let frame-is : c.frame-frame.result.now ≡ old.component = c.frame-frame.ensures.value ∙ c.loop-i.invariant.component in
    let at : slice_index c.cuts.result.now c.loop-i.i ≡ slice_index old.component.cuts c.loop-i.i = ap (λ (z : List ℕ). slice_index z c.loop-i.i) c.cuts.ensures.value ∙ ap (λ (z : Component). slice_index z.cuts c.loop-i.i) frame-is in
    let own : c.deref.result.now ≡ outer_at old.component.part q v = c.deref.ensures.value ∙ c.in_ok-order.ensures {u = tt} ∙ ap (λ (p : GraphPart). outer_at p q v) (c.part.ensures.value ∙ ap (λ (z : Component). z.part) frame-is) in
    let right : IsFrame old.component = subst IsFrame frame-is c.cuts.ensures.frame in
    target-more old q c.loop-i.cuts c.set.new.cuts c.loop-i.i v c.deref.result.now right.cuts_rise c.keeps.ensures (omega (arith, c.loop-i-test.true, c.count-i-end.ensures)) c.loop-i.invariant at own c.set.ensures

pub order_around-requires-clause-vertex : goal.order_around-requires-clause-vertex
order_around-requires-clause-vertex c =
    let f = c.frame-frame.result.now in
    let l : c.loop-i.i < length f.cuts = omega (arith, c.loop-i-test.true, c.count-i-end.ensures, ap (λ (k : Component). length k.cuts) (c.frame-frame.ensures.value ∙ c.loop-i.invariant.component)) in
    cut-there f c.part.result.now c.cuts.result.now c.loop-i.i c.part.ensures.value c.cuts.ensures.value c.cuts.ensures.frame l

pub order_around-requires-clause-system : goal.order_around-requires-clause-system
order_around-requires-clause-system c =
    subst (λ (p : GraphPart). IsRotationSystem p.graph c.args.q.now) (sym (c.part.ensures.value ∙ ap (λ (z : Component). z.part) (c.frame-frame.ensures.value ∙ c.loop-i.invariant.component))) c.requires.system

pub set-requires-clause-vertex : goal.set-requires-clause-vertex
set-requires-clause-vertex c =
    let k = c.loop-i.cuts.component in
    let l : c.loop-i.i < length k.cuts = omega (arith, c.loop-i-test.true, c.count-i-end.ensures, ap (λ (z : Component). length z.cuts) c.loop-i.invariant.component) in
    let at : slice_index c.cuts.result.now c.loop-i.i ≡ slice_index k.cuts c.loop-i.i = ap (λ (z : List ℕ). slice_index z c.loop-i.i) c.cuts.ensures.value ∙ ap (λ (z : Component). slice_index z.cuts c.loop-i.i) c.frame-frame.ensures.value in
    subst (λ (z : ℕ). is_member z k.cuts ≡ true) (sym at) (member-at k.cuts c.loop-i.i 0 l)

pub set-requires-clause-edges : goal.set-requires-clause-edges
set-requires-clause-edges c =
    let k = c.args.cuts.now.component in
    let q = c.args.q.now in
    let v = slice_index c.cuts.result.now c.loop-i.i in
    let l : c.loop-i.i < length k.cuts = omega (arith, c.loop-i-test.true, c.count-i-end.ensures) in
    let frame-is : c.frame-frame.result.now ≡ k = c.frame-frame.ensures.value ∙ c.loop-i.invariant.component in
    let at : slice_index c.cuts.result.now c.loop-i.i ≡ slice_index k.cuts c.loop-i.i = ap (λ (z : List ℕ). slice_index z c.loop-i.i) c.cuts.ensures.value ∙ ap (λ (z : Component). slice_index z.cuts c.loop-i.i) frame-is in
    let own : c.deref.result.now ≡ outer_at k.part q v = c.deref.ensures.value ∙ c.in_ok-order.ensures {u = tt} ∙ ap (λ (p : GraphPart). outer_at p q v) (c.part.ensures.value ∙ ap (λ (z : Component). z.part) frame-is) in
    subst (λ (z : List ℕ). IsCyclicOrder (edges_around c.loop-i.cuts.component v) z) (sym own)
    (subst (λ (z : Component). IsCyclicOrder (edges_around z v) (outer_at k.part q v)) (sym c.loop-i.invariant.component)
    (subst (λ (z : ℕ). IsCyclicOrder (edges_around k z) (outer_at k.part q z)) (sym at) (c.requires.orders c.loop-i.i l)))

pub returns-clause-lists : goal.returns-clause-lists
returns-clause-lists c = target-all c.args.cuts.now c.args.q.now c.loop-i.cuts c.loop-i.i c.keeps.ensures (omega (arith, c.loop-i-test.false, c.count-i-end.ensures)) c.loop-i.invariant
