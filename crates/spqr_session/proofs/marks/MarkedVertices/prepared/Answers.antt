use Rattle.std.proofs.Common.{◌≡◌, ℕ, Bool, true, List, length, replicate, sym, ap, ◌∙◌, subst, arith}
use Rattle.std.specs.Global.{Vec}
use Rattle.std.specs.Vec.{vec_len}
use Rattle.std.specs.List.{list_all}
use Rattle.std.proofs.lemmas.Bool.{eqb-true}
use Rattle.spqr_session.specs.Marked.{may_set}
use Rattle.spqr_session.proofs.Steps.{ok-both}
use Rattle.spqr_session.proofs.MarkedLists.{first-before, first-after, all-before, all-after}
use Rattle.spqr_session.proofs.marks.MarkedVertices.prepared.Goals as goal

pub returns-then-may_set_all-clause-before : goal.returns-then-may_set_all-clause-before
returns-then-may_set_all-clause-before c =
    let old = c.args.self.now in
    let views = c.args.blocks.now in
    let kept = c.args.kept.now in
    let ps = c.args.lists.now in
    let shared = c.in_ok-shared.shared in
    let empty : length old.marks.items ≡ 0 = omega (arith, old.marks.ok.0, eqb-true (vec_len old.marks) 0 (sym c.if-is_empty.ensures)) in
    ok-both c.of.result _ _ _ (λ marked e f. first-before views kept ps old c.requires shared.items marked (ap (λ (v : Vec Bool). v.items) e) f empty) c.of.ensures.marks c.of.ensures.places

pub returns-then-may_set_all-clause-after : goal.returns-then-may_set_all-clause-after
returns-then-may_set_all-clause-after c =
    let old = c.args.self.now in
    let views = c.args.blocks.now in
    let kept = c.args.kept.now in
    let ps = c.args.lists.now in
    let shared = c.in_ok-shared.shared in
    let empty : length old.marks.items ≡ 0 = omega (arith, old.marks.ok.0, eqb-true (vec_len old.marks) 0 (sym c.if-is_empty.ensures)) in
    let fit = subst (λ (m : List Bool). list_all (may_set m) ps ≡ true) c.deref.ensures.value (sym c.if-may_set_all.ensures) in
    ok-both c.of.result _ _ _ (λ marked e f. first-after views kept ps old c.requires shared.items marked (ap (λ (v : Vec Bool). v.items) e) f empty fit) c.of.ensures.marks c.of.ensures.places

pub returns-clause-before : goal.returns-clause-before
returns-clause-before c =
    let old = c.args.self.now in
    let views = c.args.blocks.now in
    let kept = c.args.kept.now in
    let ps = c.args.lists.now in
    let marks = c.in_ok-vec.field-0 in
    let all = c.in_ok-vec.ensures.items_if_clones_equal (λ y h. h) ∙ ap (λ (n : ℕ). replicate n true) c.count-n.ensures in
    ok-both c.of-2.result _ _ _ (λ marked e f. all-before views kept ps old c.requires marks.items marked (ap (λ (v : Vec Bool). v.items) e) f all) c.of-2.ensures.marks c.of-2.ensures.places

pub returns-clause-after : goal.returns-clause-after
returns-clause-after c =
    let old = c.args.self.now in
    let views = c.args.blocks.now in
    let kept = c.args.kept.now in
    let ps = c.args.lists.now in
    let marks = c.in_ok-vec.field-0 in
    let all = c.in_ok-vec.ensures.items_if_clones_equal (λ y h. h) ∙ ap (λ (n : ℕ). replicate n true) c.count-n.ensures in
    ok-both c.of-2.result _ _ _ (λ marked e f. all-after views kept ps old c.requires marks.items marked (ap (λ (v : Vec Bool). v.items) e) f all) c.of-2.ensures.marks c.of-2.ensures.places
