-- The head of the foot where it is on, or else the vertices that are touched.
use Rattle.std.proofs.Common.{◌≡◌, ◌∙◌, ℕ, Bool, true, false, List, [], ◌∷◌, ◌++◌, slice_index, sym, ap, subst, arith}
use Rattle.std.proofs.lemmas.List.{get_or_read}
use Rattle.multigraph.specs.Marks.{is_marked}
use Rattle.dart_maps.specs.Map.{twin}
use Rattle.faces.specs.Euler.{tail}
use Rattle.path_rotation.specs.Settling.{IsTouched}
use Rattle.path_rotation.proofs.FreeLabels.{attached-head, touched-attached, attached-touched, found-yes, found-no, found-all}
use Rattle.path_rotation.proofs.settling.attachments.Goals as goal
use Rattle.path_rotation.proofs.settling.attachments.Goals.{then-is_touched+in_ok-push-2, else-is_touched}

pub returns-then-index : goal.returns-then-index
returns-then-index c =
    let g = c.args.g.now in
    let board = c.args.board.now in
    let on = board.on.items in
    let head_of = tail g (twin c.args.t) in
    let is_on : is_marked on head_of ≡ true =
    sym (get_or_read on c.head-first.result c.index.result.now (omega (arith, c.head-first.ensures.within, c.requires.tables.each_vertex)) c.index.ensures false ∙ ap (is_marked on) c.head-first.ensures.is) ∙ c.if-index.true in
    attached-head g c.keeps_limits.ensures.graph board.drawn.items on board.next.items c.requires.tables c.args.t c.requires.foot.dart is_on c.push.new.self.items
    (c.in_ok-push.ensures.items ∙ ap (λ (l : List ℕ). l ++ c.head-first.result ∷ []) c.clear.ensures.items ∙ ap (λ (v : ℕ). v ∷ []) c.head-first.ensures.is)

pub loop-z-preserved : goal.loop-z-preserved
loop-z-preserved c =
    let g = c.args.g.now in
    let board = c.args.board.now in
    let on = board.on.items in
    let labels = c.args.labels.now in
    let head_of = tail g (twin c.args.t) in
    let z = c.loop-z.z in
    let off : is_marked on head_of ≡ false =
    sym (get_or_read on c.head-first.result c.index.result.now (omega (arith, c.head-first.ensures.within, c.requires.tables.each_vertex)) c.index.ensures false ∙ ap (is_marked on) c.head-first.ensures.is) ∙ c.if-index.false in
    elim c.if-is_touched.branch [
      | then-is_touched+in_ok-push-2 w ↦
          let m = c.is_touched.ensures.touched w.if-is_touched.true in
          rw (w.attached-is, w.in_ok-push-2.ensures.items)
          (found-yes g c.keeps_limits.ensures.graph board.drawn.items on board.next.items c.requires.tables c.args.t c.requires.foot.dart z c.loop-z.attached.items c.loop-z.invariant
          (touched-attached g c.keeps_limits.ensures.graph board.drawn.items on board.next.items c.requires.tables c.args.t c.requires.foot.dart labels c.requires.labels off z
          (subst (λ (l : List Bool). is_marked l z ≡ true) c.deref.ensures.value (c.is_touched.ensures.on w.if-is_touched.true))
          (λ e. c.is_touched.ensures.apart w.if-is_touched.true (e ∙ sym c.tail.ensures.is))
          m.0 (subst (λ (v : ℕ). IsTouched g on labels (slice_index labels v) z m.0) c.head-first.ensures.is (subst (λ (l : List Bool). IsTouched g l labels (slice_index labels c.head-first.result) z m.0) c.deref.ensures.value m.1))))
      | else-is_touched w ↦
          rw w.attached-is
          (found-no g c.keeps_limits.ensures.graph board.drawn.items on board.next.items c.requires.tables c.args.t c.requires.foot.dart z c.loop-z.attached.items c.loop-z.invariant (λ a.
          let p = attached-touched g c.keeps_limits.ensures.graph board.drawn.items on board.next.items c.requires.tables c.args.t c.requires.foot.dart labels c.requires.labels off z a in
          c.is_touched.ensures.none w.if-is_touched.false (subst (λ (l : List Bool). is_marked l z ≡ true) (sym c.deref.ensures.value) p.0) (λ e. p.1 (e ∙ c.tail.ensures.is))
          p.2.0 (subst (λ (l : List Bool). IsTouched g l labels (slice_index labels c.head-first.result) z p.2.0) (sym c.deref.ensures.value) (subst (λ (v : ℕ). IsTouched g on labels (slice_index labels v) z p.2.0) (sym c.head-first.ensures.is) p.2.1))))
    ]

pub returns : goal.returns
returns c =
    let g = c.args.g.now in
    let board = c.args.board.now in
    found-all g c.keeps_limits.ensures.graph board.drawn.items board.on.items board.next.items c.requires.tables c.args.t c.requires.foot.dart c.loop-z.z c.loop-z.attached.items
    (omega (arith, c.loop-z-test.false, c.vertex_count-z-end.ensures.value)) c.loop-z.invariant
