-- The corner of this turn fits, or it does not.
use Rattle.std.proofs.Common.{◌≡◌, ◌≢◌, ◌∙◌, ℕ, inl, inr, slice_index, sym, ap, subst, arith}
use Rattle.std.proofs.lemmas.Bool.{cases_lt}
use Rattle.std.proofs.lemmas.List.{get_or_read}
use Rattle.permutations.proofs.Arrangements.{member-at}
use Rattle.multigraph.specs.Graph.{edge_count}
use Rattle.dart_maps.specs.Map.{twin}
use Rattle.dart_maps.proofs.Darts.{twin-below}
use Rattle.path_rotation.specs.Forced.{IsCorner, IsAdmissible}
use Rattle.path_rotation.proofs.Stamps.{at-members}
use Rattle.path_rotation.proofs.settling.find_fit.Goals as goal
use Rattle.path_rotation.proofs.settling.find_fit.Goals.{then-c-skip+in_ok-passes_all+else-branch, else-c-skip}

pub index-face-requires : goal.index-face-requires
index-face-requires c =
    let g = c.args.g.now in
    let x = slice_index c.args.corners.now c.loop-c.c-index in
    omega (arith, twin-below (edge_count g) x (c.requires.corners.each x (member-at c.args.corners.now c.loop-c.c-index 0 c.loop-c-test.true)).below, c.twin.ensures.is, c.requires.labels.each, c.args.board.now.label.ok.0)

pub returns-then-branch-clause-found : goal.returns-then-branch-clause-found
returns-then-branch-clause-found c =
    let g = c.args.g.now in
    let board = c.args.board.now in
    let label = board.label.items in
    let x = slice_index c.args.corners.now c.loop-c.c-index in
    let at = c.requires.corners.each x (member-at c.args.corners.now c.loop-c.c-index 0 c.loop-c-test.true) in
    let face : c.index-face.result.now ≡ slice_index label (twin x) =
    get_or_read label c.twin.result c.index-face.result.now (omega (arith, twin-below (edge_count g) x at.below, c.twin.ensures.is, c.requires.labels.each)) c.index-face.ensures 0 ∙ ap (slice_index label) c.twin.ensures.is in
    record {
      below = at.below;
      drawn_dart = at.drawn_dart;
      leaves = at.leaves;
      passes = λ z m. subst (λ (f : ℕ). (k : ℕ) × IsCorner g board.drawn.items label z f k) face (c.in_ok-passes_all.ensures.passed c.if-branch.true z m);
    }

pub loop-c-preserved : goal.loop-c-preserved
loop-c-preserved c = λ j l n h.
    let g = c.args.g.now in
    let label = c.args.board.now.label.items in
    let x = slice_index c.args.corners.now c.loop-c.c-index in
    elim (cases_lt j c.loop-c.c-index) [
      | inl b ↦ c.loop-c.invariant j b n h
      | inr b ↦
          let e : j ≡ c.loop-c.c-index = omega (arith, b, l) in
          let here : IsAdmissible g c.args.board.now.drawn.items label c.args.attached.now c.args.t x = subst (λ (i : ℕ). IsAdmissible g c.args.board.now.drawn.items label c.args.attached.now c.args.t (slice_index c.args.corners.now i)) e h in
          elim c.if-c-skip.branch [
            | then-c-skip+in_ok-passes_all+else-branch w ↦
                let face : w.index-face.result.now ≡ slice_index label (twin x) =
                get_or_read label w.twin.result w.index-face.result.now (omega (arith, twin-below (edge_count g) x here.below, w.twin.ensures.is, c.requires.labels.each)) w.index-face.ensures 0 ∙ ap (slice_index label) w.twin.ensures.is in
                let m = w.in_ok-passes_all.ensures.missed w.if-branch.false in
                let k = here.passes m.0 m.1 in
                m.2 k.0 (subst (λ (f : ℕ). IsCorner g c.args.board.now.drawn.items label m.0 f k.0) (sym face) k.1)
            | else-c-skip w ↦ n (ap (slice_index c.args.corners.now) e ∙ w.if-c-skip.false)
          ]
    ]

pub returns-clause-none : goal.returns-clause-none
returns-clause-none c = λ _ x n h.
    let board = c.args.board.now in
    at-members c.args.corners.now (λ y. y ≢ c.args.skip → IsAdmissible c.args.g.now board.drawn.items board.label.items c.args.attached.now c.args.t y → ⊥) (λ j l. c.loop-c.invariant j (omega (arith, l, c.loop-c-test.false)))
    x (c.requires.corners.all x (record { below = h.below; drawn_dart = h.drawn_dart; leaves = h.leaves })) n h
