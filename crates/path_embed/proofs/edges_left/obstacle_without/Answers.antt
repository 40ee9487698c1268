use Rattle.std.proofs.Common.{◌≡◌, ℕ, List, not, ◌==◌, ap, ◌∙◌, subst}
use Rattle.multigraph.specs.Graph.{edge_count}
use Rattle.multigraph.specs.Part.{IsPart}
use Rattle.minimal_graphs.specs.Whole.{all_but}
use Rattle.minimal_graphs.proofs.Without.{without-block}
use Rattle.path_embed.proofs.Listed.{listed-rises, listed-below}
use Rattle.path_embed.proofs.OneEdge.{part-of, without-answer}
use Rattle.path_embed.proofs.edges_left.obstacle_without.Goals as goal

pub part-requires-clause-rising : goal.part-requires-clause-rising
part-requires-clause-rising c =
    let is : c.deref.result.now ≡ all_but (edge_count c.args.g.now) c.args.edge = c.deref.ensures.value ∙ c.in_ok-edges.ensures ∙ ap (λ m. all_but m c.args.edge) c.edge_count.ensures.value in
    listed-rises (λ f. not (f == c.args.edge)) (edge_count c.args.g.now) c.deref.result.now is

pub part-requires-clause-within : goal.part-requires-clause-within
part-requires-clause-within c =
    let is : c.deref.result.now ≡ all_but (edge_count c.args.g.now) c.args.edge = c.deref.ensures.value ∙ c.in_ok-edges.ensures ∙ ap (λ m. all_but m c.args.edge) c.edge_count.ensures.value in
    listed-below (λ f. not (f == c.args.edge)) (edge_count c.args.g.now) c.deref.result.now is

pub obstacle_in-requires-clause-part : goal.obstacle_in-requires-clause-part
obstacle_in-requires-clause-part c =
    let is : c.deref.result.now ≡ all_but (edge_count c.args.g.now) c.args.edge = c.deref.ensures.value ∙ c.in_ok-edges.ensures ∙ ap (λ m. all_but m c.args.edge) c.edge_count.ensures.value in
    part-of c.args.g.now c.deref.result.now c.in_ok-part.part c.in_ok-part.ensures (listed-below (λ f. not (f == c.args.edge)) (edge_count c.args.g.now) c.deref.result.now is)

pub obstacle_in-requires-clause-one : goal.obstacle_in-requires-clause-one
obstacle_in-requires-clause-one c =
    let is : c.deref.result.now ≡ all_but (edge_count c.args.g.now) c.args.edge = c.deref.ensures.value ∙ c.in_ok-edges.ensures ∙ ap (λ m. all_but m c.args.edge) c.edge_count.ensures.value in
    without-block c.args.g.now c.keeps_limits.ensures.graph c.requires.triconnected c.args.edge c.requires.edge c.in_ok-part.part (subst (λ (z : List ℕ). IsPart c.args.g.now z c.in_ok-part.part) is c.in_ok-part.ensures)

pub returns : goal.returns
returns c =
    let is : c.deref.result.now ≡ all_but (edge_count c.args.g.now) c.args.edge = c.deref.ensures.value ∙ c.in_ok-edges.ensures ∙ ap (λ m. all_but m c.args.edge) c.edge_count.ensures.value in
    without-answer c.args.g.now c.args.edge c.in_ok-part.part c.requires.edge (subst (λ (z : List ℕ). IsPart c.args.g.now z c.in_ok-part.part) is c.in_ok-part.ensures) c.in_ok-answer.answer c.in_ok-answer.ensures
