use Rattle.std.proofs.Common.{◌≡◌, ℕ, false, MatchOption, subst}
use Rattle.arrangements.specs.Arranged.{cross}
use Rattle.arrangements.specs.Tables.{VertexTables}
use Rattle.arrangements.specs.Prefixes.{ForBlocks}
use Rattle.arrangements.specs.Crossings.{IsCrossingOf}
use Rattle.arrangements.proofs.vertices.VertexOrders.crossing.Goals as goal

-- what is said of the tables
pub returns-clause-exact : goal.returns-clause-exact
returns-clause-exact c =
    let e : c.self.inside.tables ≡ c.args.self.now = cc in
    subst (λ (t : VertexTables). ForBlocks t (λ block order. MatchOption c.crossing_ranks.result ((b x : ℕ) → cross block b x c.args.list.now ≡ false) (λ pair. IsCrossingOf t block c.args.list.now pair.0 pair.1)))
    e c.crossing_ranks.ensures.least
