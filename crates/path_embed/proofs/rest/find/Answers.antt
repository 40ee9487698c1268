use Rattle.std.proofs.Common.{◌<◌, ℕ, List, length, slice_index, sym, subst}
use Rattle.std.proofs.lemmas.Option.{MatchOption-at_some}
use Rattle.multigraph.specs.Graph.{Multigraph, edge_count}
use Rattle.multigraph.specs.Part.{IsPart}
use Rattle.path_embed.specs.Planar.{HasPlanarBlocks}
use Rattle.path_embed.specs.Found.{IsObstacle}
use Rattle.path_embed.proofs.rest.find.Goals as goal

pub returns-in-Some : goal.returns-in-Some
returns-in-Some c =
    let is = c.in_ok-whole.ensures in
    record {
      whole = record {
        is_part = subst (λ (edges : List ℕ). IsPart c.args.g.now edges c.in_ok-whole.whole) (sym is.edges_are) is;
        inside = subst (λ (edges : List ℕ). (i : ℕ) → i < length edges → slice_index edges i < edge_count c.args.g.now) (sym is.edges_are) c.requires.within;
      };
      obstacle = subst (λ (z : Multigraph). IsObstacle z c.in-Some.obstacle) c.graph.ensures.value (MatchOption-at_some (HasPlanarBlocks c.graph.result.now) (IsObstacle c.graph.result.now) c.in-Some.obstacle c.in-Some.is c.in_ok-answer.ensures.decided);
    }
