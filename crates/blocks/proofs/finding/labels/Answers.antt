use Rattle.std.proofs.Common.{◌≡◌, ℕ, List, length, IfOk, sym, subst}
use Rattle.blocks.specs.Spread.{IsSpreadOrder, IsSpread}
use Rattle.blocks.proofs.finding.labels.Goals as goal

pub spread-requires : goal.spread-requires
spread-requires c = record {
  order = subst (λ (p : List ℕ). IsSpreadOrder (length p) p c.args.own.now c.order.result.now) (sym c.parents.ensures)
      (subst (λ (o : List ℕ). IsSpreadOrder (length c.args.search.now.parent) c.args.search.now.parent c.args.own.now o) (sym c.order.ensures) c.requires.order);
}

pub returns-clause-labels : goal.returns-clause-labels
returns-clause-labels c = subst (λ (p : List ℕ). IfOk c.spread.result (λ label. IsSpread p c.args.own.now c.args.search.now.order label.items)) c.parents.ensures
    (subst (λ (o : List ℕ). IfOk c.spread.result (λ label. IsSpread c.parents.result.now c.args.own.now o label.items)) c.order.ensures c.spread.ensures.labels)

pub returns-clause-places : goal.returns-clause-places
returns-clause-places c = subst (λ (p : List ℕ). IfOk c.spread.result (λ label. length label.items ≡ length p)) c.parents.ensures c.spread.ensures.places
