use Rattle.std.proofs.Common.{◌≡◌, ◌<◌, ◌==◌, ℕ, List, true, false, not, sym, ap, eq-eqb, ◌∙◌, subst, arith}
use Rattle.std.specs.List.{list_any}
use Rattle.std.proofs.lemmas.Bool.{true≢false}
use Rattle.long_face.specs.Longest.{HasFace}
use Rattle.long_face.proofs.present.has_face.Goals.{then-len-ne0, else-len-ne0}
use Rattle.faces.specs.Steps.{AreFaceSteps}
use Rattle.face_weights.specs.Numbers.{NumberFaces, number_at}
use Rattle.long_face.proofs.FaceLengths.{has-found, has-none, none-empty}
use Rattle.long_face.proofs.present.has_face.Goals as goal

pub number_faces-requires : goal.number_faces-requires
number_faces-requires c =
    let g = c.requires.0 in
    let r = c.requires.1 in
    let s = c.requires.2 in
    (g, r, s.graph, s.limits, s.system, subst (AreFaceSteps g r) (sym c.deref.ensures.value) s.each)

pub count_darts-requires-clause-few : goal.count_darts-requires-clause-few
count_darts-requires-clause-few c =
    let g = c.requires.0 in
    let r = c.requires.1 in
    let s = c.requires.2 in
    let numbers : NumberFaces g r c.number_faces.new.numbers.items = c.in_ok-number_faces.ensures g r s.graph s.system (subst (AreFaceSteps g r) (sym c.deref.ensures.value) s.each) in
    let n : NumberFaces g r c.deref-2.result.now = subst (NumberFaces g r) (sym c.deref-2.ensures.value) numbers in
    omega (arith, n.darts, s.limits.few_edges)

pub count_darts-requires-clause-within : goal.count_darts-requires-clause-within
count_darts-requires-clause-within c = λ d l.
    let g = c.requires.0 in
    let r = c.requires.1 in
    let s = c.requires.2 in
    let numbers : NumberFaces g r c.number_faces.new.numbers.items = c.in_ok-number_faces.ensures g r s.graph s.system (subst (AreFaceSteps g r) (sym c.deref.ensures.value) s.each) in
    let n : NumberFaces g r c.deref-2.result.now = subst (NumberFaces g r) (sym c.deref-2.ensures.value) numbers in
    subst (λ z. number_at c.deref-2.result.now d < z) (sym n.darts) (n.within d (subst (λ z. d < z) n.darts l))

pub returns-clause-found : goal.returns-clause-found
returns-clause-found c = λ t g r s.
    let numbers : NumberFaces g r c.number_faces.new.numbers.items = c.in_ok-number_faces.ensures g r s.graph s.system (subst (AreFaceSteps g r) (sym c.deref.ensures.value) s.each) in
    let n : NumberFaces g r c.deref-2.result.now = subst (NumberFaces g r) (sym c.deref-2.ensures.value) numbers in
    let counts = c.count_darts.new.counts.items in
    elim c.if-len-ne0.branch [
      | then-len-ne0 w ↦ has-found g r s.graph s.system c.deref-2.result.now counts n c.in_ok-count_darts.ensures.number c.in_ok-count_darts.ensures.each c.args.len (omega (arith, w.if-len-ne0.true))
          (subst (λ (z : List ℕ). list_any (λ y. y == c.args.len) z ≡ true) w.deref-then-len-ne0.ensures.value (sym w.contains.ensures.value ∙ sym w.result-is ∙ t))
      | else-len-ne0 w ↦ absurd (true≢false (sym t ∙ w.result-is ∙ ap not (eq-eqb c.args.len 0 w.if-len-ne0.false)))
    ]

pub returns-clause-none : goal.returns-clause-none
returns-clause-none c = λ f g r s h.
    let numbers : NumberFaces g r c.number_faces.new.numbers.items = c.in_ok-number_faces.ensures g r s.graph s.system (subst (AreFaceSteps g r) (sym c.deref.ensures.value) s.each) in
    let n : NumberFaces g r c.deref-2.result.now = subst (NumberFaces g r) (sym c.deref-2.ensures.value) numbers in
    let counts = c.count_darts.new.counts.items in
    elim c.if-len-ne0.branch [
      | then-len-ne0 w ↦ has-none g r s.graph s.system c.deref-2.result.now counts n c.in_ok-count_darts.ensures.number c.in_ok-count_darts.ensures.each c.args.len
          (subst (λ (z : List ℕ). list_any (λ y. y == c.args.len) z ≡ false) w.deref-then-len-ne0.ensures.value (sym w.contains.ensures.value ∙ sym w.result-is ∙ f)) h
      | else-len-ne0 w ↦ none-empty g r s.graph s.system c.deref-2.result.now counts n c.in_ok-count_darts.ensures.number c.in_ok-count_darts.ensures.each (subst (HasFace g r) w.if-len-ne0.false h)
    ]
