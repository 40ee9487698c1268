use Rattle.std.proofs.Common.{ℕ, List, length, sym, ap, ◌∙◌, subst}
use Rattle.std.proofs.lemmas.Bool.{false≢true}
use Rattle.grid_drawing.specs.Drawing.{IsDrawing}
use Rattle.grid_drawing.proofs.Checked.{drawing-from, drawing-clear, drawing-pass}
use Rattle.grid_drawing.proofs.checking.is_drawing.Goals as goal

pub returns-then-not-are_clear : goal.returns-then-not-are_clear
returns-then-not-are_clear c = (
  (λ h. absurd (false≢true h)),
  (λ d. absurd (false≢true (sym c.if-not-are_clear.true ∙ c.are_clear.ensures.1
      (drawing-clear c.args.g.now c.are_different.ensures.graph c.as_slice-points.result.now c.args.r.now (subst (λ (p : List (ℕ × ℕ)). IsDrawing c.args.g.now c.args.r.now p) (sym c.as_slice-points.ensures) d))))),
)

pub returns-then-not-all_pass_by : goal.returns-then-not-all_pass_by
returns-then-not-all_pass_by c = (
  (λ h. absurd (false≢true h)),
  (λ d. absurd (false≢true (sym c.if-not-all_pass_by.true ∙ c.all_pass_by.ensures.1
      (drawing-pass c.args.g.now c.are_different.ensures.graph c.as_slice-points.result.now c.args.r.now (subst (λ (p : List (ℕ × ℕ)). IsDrawing c.args.g.now c.args.r.now p) (sym c.as_slice-points.ensures) d))))),
)

pub returns : goal.returns
returns c = (
  (λ h. subst (λ (p : List (ℕ × ℕ)). IsDrawing c.args.g.now c.args.r.now p) c.as_slice-points.ensures (drawing-from c.args.g.now c.are_different.ensures.graph c.as_slice-points.result.now c.args.r.now
      (ap length c.as_slice-points.ensures ∙ c.requires.each) (c.are_different.ensures.exact.0 c.if-not-are_different.false) (c.are_clear.ensures.0 c.if-not-are_clear.false) (c.all_pass_by.ensures.0 c.if-not-all_pass_by.false) (c.go_around.ensures.0 h))),
  (λ d. c.go_around.ensures.1 (subst (λ (p : List (ℕ × ℕ)). IsDrawing c.args.g.now c.args.r.now p) (sym c.as_slice-points.ensures) d).around),
)
