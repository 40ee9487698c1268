use Rattle.std.proofs.Common.{sym, subst}
use Rattle.multigraph.specs.Graph.{Multigraph}
use Rattle.kuratowski.specs.Subdivision.{IsWritten}
use Rattle.path_embed.specs.Found.{IsObstacle}
use Rattle.path_embed.proofs.embedder.certificate.Goals as goal

pub subdivision_of-requires-clause-triconnected : goal.subdivision_of-requires-clause-triconnected
subdivision_of-requires-clause-triconnected c = c.requires.obstacle.node.triconnected

pub subdivision_of-requires-clause-nonplanar : goal.subdivision_of-requires-clause-nonplanar
subdivision_of-requires-clause-nonplanar c = c.requires.obstacle.node.nonplanar

pub carried_from-requires-clause-obstacle : goal.carried_from-requires-clause-obstacle
carried_from-requires-clause-obstacle c = subst (λ (z : Multigraph). IsObstacle z c.args.found.now.obstacle) (sym c.graph.ensures.value) c.requires.obstacle

pub carried_from-requires-clause-written : goal.carried_from-requires-clause-written
carried_from-requires-clause-written c = c.in_ok-s.ensures

pub carried-requires-clause-part : goal.carried-requires-clause-part
carried-requires-clause-part c = c.requires.whole

pub carried-requires-clause-written : goal.carried-requires-clause-written
carried-requires-clause-written c = subst (λ (z : Multigraph). IsWritten z c.in_ok-inner.inner.kind c.in_ok-inner.inner.branch c.in_ok-inner.inner.paths) c.graph.ensures.value c.in_ok-inner.ensures
