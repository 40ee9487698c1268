use Rattle.std.proofs.Common.{◌<◌, ℕ, length, slice_index, subst}
use Rattle.std.proofs.lemmas.Result.{IfOk-weaker}
use Rattle.multigraph.specs.Marks.{is_marked}
use Rattle.path_embed.proofs.Listed.{listed-rises, listed-below}
use Rattle.path_embed.proofs.dropping.edges_without.Goals as goal

pub returns-clause-rising : goal.returns-clause-rising
returns-clause-rising c = IfOk-weaker c.marked_below.result _ _ (λ edges r. listed-rises (is_marked c.deref.result.now) c.edge_count-2.result edges.items r) c.marked_below.ensures

pub returns-clause-within : goal.returns-clause-within
returns-clause-within c = IfOk-weaker c.marked_below.result _ _ (λ edges r. subst (λ (n : ℕ). (i : ℕ) → i < length edges.items → slice_index edges.items i < n) c.edge_count-2.ensures.value (listed-below (is_marked c.deref.result.now) c.edge_count-2.result edges.items r)) c.marked_below.ensures
