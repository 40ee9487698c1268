use Rattle.std.proofs.Common.{ℕ, Bool, List, length, map, get_or, sym, subst, ap, arith, ◌∙◌}
use Rattle.blocks.specs.Spread.{IsSpreadOrder, IsSpread}
use Rattle.search_forest.proofs.Grown.{lower-in}
use Rattle.blocks.proofs.Found.{over-order, over-blocks, edge_labels-within}
use Rattle.blocks.proofs.finding.number_blocks.Goals as goal

pub labels-requires : goal.labels-requires
labels-requires c =
    let h = c.in_ok-heads.ensures {u = tt} in
    record {
      order =
          subst (λ (l : List Bool). IsSpreadOrder (length c.args.search.now.parent) c.args.search.now.parent l c.args.search.now.order) (sym c.deref.ensures.value)
          (over-order c.args.graph.now c.args.search.now c.in_ok-heads.heads.items c.requires.over h.places (λ v l f. (h.other v l f).0));
    }

pub edge_labels-requires : goal.edge_labels-requires
edge_labels-requires c = λ e l.
    omega (arith, lower-in c.args.graph.now c.requires.graph c.args.search.now c.requires.over e (omega (arith, l, c.requires.over.forest.places.lower)), ap (length {A = ℕ}) c.deref-2.ensures.value, c.in_ok-label.ensures.places, c.requires.over.forest.places.parent)

pub number_classes-requires-clause-within : goal.number_classes-requires-clause-within
number_classes-requires-clause-within c = λ i l.
    let h = c.in_ok-heads.ensures {u = tt} in
    let p = subst (λ (l : List Bool). IsSpread c.args.search.now.parent l c.args.search.now.order c.in_ok-label.label.items) c.deref.ensures.value c.in_ok-label.ensures.labels in
    let e = c.in_ok-labels.ensures {u = tt} ∙ ap (λ (z : List ℕ). map (λ v. get_or z v 0) c.args.search.now.lower) c.deref-2.ensures.value in
    omega (arith, edge_labels-within c.args.graph.now c.requires.graph c.args.search.now c.in_ok-heads.heads.items c.in_ok-label.label.items c.deref-3.result.now c.requires.over (λ v l f. (h.other v l f).0) p (c.deref-3.ensures.value ∙ e) i l, c.vertex_count.ensures.value)

pub returns : goal.returns
returns c =
    let h = c.in_ok-heads.ensures {u = tt} in
    let p = subst (λ (l : List Bool). IsSpread c.args.search.now.parent l c.args.search.now.order c.in_ok-label.label.items) c.deref.ensures.value c.in_ok-label.ensures.labels in
    let e = c.in_ok-labels.ensures {u = tt} ∙ ap (λ (z : List ℕ). map (λ v. get_or z v 0) c.args.search.now.lower) c.deref-2.ensures.value in
    over-blocks c.args.graph.now c.requires.graph c.args.search.now c.args.low.now c.requires.low c.in_ok-heads.heads.items c.in_ok-label.label.items c.deref-3.result.now c.in_ok-numbered.numbered.0.items c.in_ok-numbered.numbered.1
    c.requires.over h p (c.deref-3.ensures.value ∙ e) c.in_ok-numbered.ensures.numbering c.in_ok-numbered.ensures.classes
