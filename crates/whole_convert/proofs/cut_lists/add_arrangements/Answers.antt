use Rattle.std.proofs.Common.{◌≡◌, ◌≢◌, ◌<◌, ◌∷◌, [], ℕ, inl, inr, Bool, true, false, not, List, Vec, Global, length, slice_index, slice_index_or, refl, sym, ap, ◌∙◌, arith, append-nil}
use Rattle.std.proofs.lemmas.Bool.{true≢false, cases_Bool}
use Rattle.std.proofs.lemmas.Bool.Decides.{Decides-eqb}
use Rattle.std.proofs.lemmas.Slice.Eq.{slice_eq-Decides}
use Rattle.std.proofs.lemmas.List.{map-append}
use Rattle.std.specs.Bool.{Decides}
use Rattle.multigraph.specs.Part.{GraphPart}
use Rattle.whole_embed.specs.Component.{Component}
use Rattle.whole_embed.specs.Around.{outer_at}
use Rattle.whole_convert.specs.declared.steps.WholeMove.{WholeMove}
use Rattle.whole_convert.specs.declared.steps.WholeMove.TheVariants.{Regroup}
use Rattle.whole_convert.specs.Between.{arrange, as_step, as_steps}
use Rattle.whole_convert.proofs.StepLists.{arrangements-more, one-added, none-added}
use Rattle.whole_convert.proofs.FrameTables.{cut-there}
use Rattle.whole_convert.proofs.cut_lists.add_arrangements.Goals as goal
use Rattle.whole_convert.proofs.cut_lists.add_arrangements.Goals.{then-ne+in_ok-push, else-ne}

-- what `!=` says of two lists
differ : (p r : Bool) (xs ys : List ℕ) → Decides p (xs ≡ ys) → r ≡ not p → r ≡ true → xs ≢ ys
differ p r xs ys d e t = λ q. true≢false (sym t ∙ (e ∙ ap not (d.1 q)))

agree : (p r : Bool) (xs ys : List ℕ) → Decides p (xs ≡ ys) → r ≡ not p → r ≡ false → xs ≡ ys
agree p r xs ys d e f = elim (cases_Bool p) [
  | inl y ↦ d.0 y
  | inr n ↦ absurd (true≢false (sym (ap not n) ∙ (sym e ∙ f)))
]

pub order_around-requires-clause-vertex : goal.order_around-requires-clause-vertex
order_around-requires-clause-vertex c =
    let f = c.frame-frame.result.now in
    let l : c.loop-i.i < length f.cuts = omega (arith, c.loop-i-test.true, c.count-i-end.ensures, ap (λ (k : Component). length k.cuts) c.frame-frame.ensures.value) in
    cut-there f c.part.result.now c.cuts.result.now c.loop-i.i c.part.ensures.value c.cuts.ensures.value c.cuts.ensures.frame l

pub loop-i-preserved : goal.loop-i-preserved
loop-i-preserved c =
    let k = c.args.after.now.component in
    let q = c.args.q.now in
    let i = c.loop-i.i in
    let v = slice_index c.cuts.result.now c.loop-i.i in
    let list : ℕ → List ℕ = λ j. slice_index_or c.args.after.now.lists j [] in
    let order = c.as_slice.result.now in
    let at : slice_index c.cuts.result.now c.loop-i.i ≡ slice_index k.cuts c.loop-i.i = ap (λ (z : List ℕ). slice_index z c.loop-i.i) c.cuts.ensures.value ∙ ap (λ (z : Component). slice_index z.cuts c.loop-i.i) c.frame-frame.ensures.value in
    let own : c.in_ok-order.order.items ≡ outer_at k.part q (slice_index c.cuts.result.now c.loop-i.i) =
    c.in_ok-order.ensures {u = tt} ∙ ap (λ (p : GraphPart). outer_at p q (slice_index c.cuts.result.now c.loop-i.i)) (c.part.ensures.value ∙ ap (λ (z : Component). z.part) c.frame-frame.ensures.value) in
    let decides = slice_eq-Decides Decides-eqb c.as_slice.result.now c.list.result.now _ refl in
    elim c.if-ne.branch [
      | then-ne+in_ok-push w ↦
          let order-is : w.of.result ≡ outer_at k.part q v = w.of.ensures ∙ own in
          let other : w.of.result ≢ list i = λ same. differ _ c.ne.result c.as_slice.result.now c.list.result.now decides c.ne.ensures w.if-ne.true (c.as_slice.ensures.value ∙ (sym w.of.ensures ∙ (same ∙ sym c.list.ensures))) in
          arrangements-more k list q i (as_steps c.args.list.now.items) (as_steps c.loop-i.list.items) (as_steps c.if-ne.list.items) (arrange v w.of.result ∷ []) c.loop-i.invariant (one-added k list q i v w.of.result at order-is other)
          (ap (λ (z : Vec WholeMove Global). as_steps z.items) w.list-is ∙ (ap as_steps (w.in_ok-push.ensures {u = tt}).items ∙ map-append as_step c.loop-i.list.items (Regroup v w.of.result ∷ [])))
      | else-ne w ↦
          let same : c.in_ok-order.order.items ≡ list i = sym c.as_slice.ensures.value ∙ (agree _ c.ne.result c.as_slice.result.now c.list.result.now decides c.ne.ensures w.if-ne.false ∙ c.list.ensures) in
          arrangements-more k list q i (as_steps c.args.list.now.items) (as_steps c.loop-i.list.items) (as_steps c.if-ne.list.items) [] c.loop-i.invariant (none-added k list q i v c.in_ok-order.order.items at own same)
          (ap (λ (z : Vec WholeMove Global). as_steps z.items) w.list-is ∙ sym (append-nil (as_steps c.loop-i.list.items)))
    ]
