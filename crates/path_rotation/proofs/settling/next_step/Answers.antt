-- There is a choice at the foot of this turn, or it is none.
use Rattle.std.proofs.Common.{◌≡◌, ◌∙◌, ◌/◌, ℕ, inl, inr, List, true, false, sym, ap, subst, arith}
use Rattle.std.proofs.lemmas.Bool.{cases_lt, both_ways}
use Rattle.std.proofs.lemmas.List.{get_or_read}
use Rattle.multigraph.specs.Graph.{edge_count}
use Rattle.multigraph.specs.Marks.{is_marked}
use Rattle.faces.specs.Euler.{tail}
use Rattle.path_rotation.specs.Forced.{IsInvolution}
use Rattle.path_rotation.specs.Fitting.{IsFoot}
use Rattle.path_rotation.specs.Settling.{IsOpen}
use Rattle.path_rotation.proofs.settling.next_step.Goals as goal
use Rattle.path_rotation.proofs.settling.next_step.Goals.{then-not-index+then-index+in_ok-examine+in-Open, else-not-index, else-not-index-via-then-not-index+else-index, else-not-index-via-else-not-index}

pub examine-requires-clause-moves : goal.examine-requires-clause-moves
examine-requires-clause-moves c = λ f i. c.is_involution-first.ensures.moves f (subst (λ (l : List ℕ). IsInvolution (edge_count c.args.g.now) l) (sym c.deref-2.ensures.value) i)

pub loop-t-preserved : goal.loop-t-preserved
loop-t-preserved c = λ x l f.
    let g = c.args.g.now in
    let board = c.args.board.now in
    let t = c.loop-t.t in
    elim (cases_lt x t) [
      | inl b ↦ c.loop-t.invariant x b f
      | inr b ↦
          let e : x ≡ t = omega (arith, b, l) in
          let here : IsFoot g board.drawn.items board.on.items t = subst (λ (y : ℕ). IsFoot g board.drawn.items board.on.items y) e f in
          elim c.if-not-index.branch [
            | then-not-index+then-index+in_ok-examine+in-Open w ↦ subst (λ (y : ℕ). IsOpen g board.drawn.items board.next.items y) (sym e) (w.in_ok-examine.ensures.open w.in-Open.is)
            | else-not-index w ↦ absurd (elim w.else-not-index.branch [
              | else-not-index-via-then-not-index+else-index v ↦
                  let off : is_marked board.on.items (tail g t) ≡ false =
                  ap (is_marked board.on.items) (sym v.tail.ensures.is) ∙ sym (get_or_read board.on.items v.tail.result v.index-then-not-index.result.now (omega (arith, v.tail.ensures.within, c.requires.board.tables.each_vertex)) v.index-then-not-index.ensures false)
                  ∙ v.if-index.false in
                  both_ways (is_marked board.on.items (tail g t)) off here.tail_on
              | else-not-index-via-else-not-index v ↦
                  let drawn : is_marked board.drawn.items (t / 2) ≡ true =
                  sym (get_or_read board.drawn.items (t / 2) c.index.result.now (omega (arith, here.dart, c.requires.board.tables.each_edge)) c.index.ensures false) ∙ v.if-not-index.false in
                  both_ways (is_marked board.drawn.items (t / 2)) here.undrawn drawn
            ])
          ]
    ]

pub returns : goal.returns
returns c = λ t f. c.loop-t.invariant t (omega (arith, f.dart, c.loop-t-test.false, c.dart_count-t-end.ensures.value)) f
