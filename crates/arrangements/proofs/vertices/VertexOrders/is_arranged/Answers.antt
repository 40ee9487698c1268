use Rattle.std.proofs.Common.{◌≡◌, ◌↔◌, true, subst, Contains}
use Rattle.arrangements.specs.Arranged.{arrangements_at}
use Rattle.arrangements.specs.Tables.{VertexTables}
use Rattle.arrangements.specs.Prefixes.{ForBlocks}
use Rattle.arrangements.proofs.vertices.VertexOrders.is_arranged.Goals as goal

-- what is said of the tables
pub returns-clause-exact : goal.returns-clause-exact
returns-clause-exact c =
    let e : c.self.inside.tables ≡ c.args.self.now = cc in
    subst (λ (t : VertexTables). ForBlocks t (λ block order. (c.is_arranged.result ≡ true) ↔ Contains (arrangements_at block order t.edges) c.args.list.now)) e c.is_arranged.ensures.exact
