use Rattle.std.proofs.Common.{◌<◌, ℕ, List, [], ◌∷◌, length, sym, subst, ap, ◌∙◌}
use Rattle.std.proofs.lemmas.Result.{IfOk-weaker}
use Rattle.pair_split.specs.Bridges.{family_of}
use Rattle.graph_theory.specs.Labels.{label_at, IsLabelling, AreLabelsBelow}
use Rattle.pair_split.specs.Edges.{family_skeleton}
use Rattle.pair_split.specs.Search.{IsLeastAt}
use Rattle.pair_split.specs.declared.search.Side.{Side}
use Rattle.pair_split.proofs.Searching.{least-between}
use Rattle.pair_split.proofs.search.best_between.Goals as goal

pub returns-clause-least : goal.returns-clause-least
returns-clause-least c = IfOk-weaker c.best_of_bridges.result _ (λ (side : Side). IsLeastAt (family_of c.args.edges.now) c.args.a c.args.b side.size)
    (λ side h. least-between c.args.edges.now c.deref.result.now c.args.n c.args.a c.args.b side.size c.requires.edges.searchable c.requires.simple c.requires.edges.ends
    (subst (λ (l : List ℕ). IsLabelling (family_skeleton (family_of c.args.edges.now)) (c.args.a ∷ c.args.b ∷ []) (label_at l)) (sym c.deref.ensures.value) c.in_ok-labels.ensures.labelling)
    (subst (λ (l : List ℕ). AreLabelsBelow c.args.n l) (sym c.deref.ensures.value) c.in_ok-labels.ensures.within)
    (λ label l. h label (subst (λ (k : ℕ). label < k) (sym (ap length c.deref.ensures.value ∙ c.in_ok-labels.ensures.number)) l)))
    c.best_of_bridges.ensures.bridges
