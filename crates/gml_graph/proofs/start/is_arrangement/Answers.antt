-- The sorted numbers are the edges exactly where the numbers are a permutation of these.
use Rattle.std.proofs.Common.{sym, ◌∙◌}
use Rattle.std.proofs.lemmas.Bool.Decides.{Decides-eqb}
use Rattle.std.proofs.lemmas.Slice.Eq.{slice_eq-Decides}
use Rattle.gml_graph.proofs.SortedEdges.{sorted-decides}
use Rattle.gml_graph.proofs.start.is_arrangement.Goals as goal

pub returns : goal.returns
returns c =
    let same = slice_eq-Decides Decides-eqb c.as_slice.result.now c.incident-edges.result.now c.eq.result c.eq.ensures in
    sorted-decides c.args.g.now c.args.v c.args.numbers.now c.sort_unstable.new.self.items (rw c.in_ok-sorted.ensures.items at c.sort_unstable.ensures.permutation) c.eq.result c.sort_unstable.ensures.sorted
    (λ t. sym c.as_slice.ensures.value ∙ (same.0 t ∙ c.incident-edges.ensures.value))
    (λ e. same.1 (c.as_slice.ensures.value ∙ (e ∙ sym c.incident-edges.ensures.value)))
