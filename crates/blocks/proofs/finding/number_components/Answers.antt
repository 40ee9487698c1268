use Rattle.std.proofs.Common.{◌<◌, ◌≡◌, ℕ, suc, Bool, List, length, get_or, sym, subst, ap, arith, ◌∙◌}
use Rattle.permutations.specs.Relation.{class_count}
use Rattle.blocks.specs.Numbering.{IsNumbering, same_label}
use Rattle.blocks.specs.Spread.{IsSpreadOrder, IsSpread}
use Rattle.blocks.proofs.Found.{over-order, over-components, spread-within}
use Rattle.blocks.proofs.finding.number_components.Goals as goal

pub labels-requires : goal.labels-requires
labels-requires c =
    let h = c.in_ok-roots.ensures {u = tt} in
    record {
      order =
          subst (λ (l : List Bool). IsSpreadOrder (length c.args.search.now.parent) c.args.search.now.parent l c.args.search.now.order) (sym c.deref.ensures.value)
          (over-order c.args.graph.now c.args.search.now c.in_ok-roots.roots.items c.requires.over h.places h.other);
    }

pub number_classes-requires-clause-within : goal.number_classes-requires-clause-within
number_classes-requires-clause-within c = λ i l.
    let h = c.in_ok-roots.ensures {u = tt} in
    let p = subst (λ (l : List Bool). IsSpread c.args.search.now.parent l c.args.search.now.order c.in_ok-label.label.items) c.deref.ensures.value c.in_ok-label.ensures.labels in
    let m : i < c.args.graph.now.vertex_count = omega (arith, l, ap (length {A = ℕ}) c.deref-2.ensures.value, c.in_ok-label.ensures.places, c.requires.over.forest.places.parent) in
    let w = spread-within c.args.graph.now c.requires.graph c.args.search.now c.in_ok-roots.roots.items c.in_ok-label.label.items c.requires.over h.other p (suc (get_or c.args.search.now.depth i 0)) i (omega arith) m in
    omega (arith, w, ap (λ (z : List ℕ). get_or z i 0) c.deref-2.ensures.value, c.vertex_count.ensures.value)

pub returns : goal.returns
returns c =
    let h = c.in_ok-roots.ensures {u = tt} in
    let p = subst (λ (l : List Bool). IsSpread c.args.search.now.parent l c.args.search.now.order c.in_ok-label.label.items) c.deref.ensures.value c.in_ok-label.ensures.labels in
    over-components c.args.graph.now c.requires.graph c.args.search.now c.in_ok-roots.roots.items c.in_ok-label.label.items c.requires.over h p c.in_ok-numbered.numbered.0.items c.in_ok-numbered.numbered.1
    (c.in_ok-label.ensures.places ∙ c.requires.over.forest.places.parent)
    (subst (λ (l : List ℕ). IsNumbering l c.in_ok-numbered.numbered.0.items) c.deref-2.ensures.value c.in_ok-numbered.ensures.numbering)
    (subst (λ (l : List ℕ). c.in_ok-numbered.numbered.1 ≡ class_count (length l) (same_label l)) c.deref-2.ensures.value c.in_ok-numbered.ensures.classes)
