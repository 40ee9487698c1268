-- Chains of obstacles, made longer and shorter at their end.
use Rattle.std.proofs.Common.{◌≡◌, List, [], ◌∷◌, ◌++◌, refl, sym, ◌∙◌}
use Rattle.multigraph.specs.Graph.{Multigraph}
use Rattle.path_embed.specs.Found.{IsObstacle}
use Rattle.path_embed.specs.Chain.{IsChain}
use Rattle.path_embed.specs.declared.descending.Level.{Level}

-- one more obstacle
pub chain-push : (g : Multigraph) (levels : List Level) (h : Multigraph) (level : Level) → IsChain g levels h → level.outer ≡ h → IsObstacle level.outer level.obstacle → IsChain g (levels ++ level ∷ []) level.obstacle.skeleton
chain-push g [] h level c e o = (e ∙ sym c, o, refl)
chain-push g (first ∷ levels) h level c e o = (c.0, c.1, chain-push first.obstacle.skeleton levels h level c.2 e o)

-- what the last one was
pub chain-level : (g : Multigraph) (levels : List Level) (level : Level) (h : Multigraph) → IsChain g (levels ++ level ∷ []) h → IsObstacle level.outer level.obstacle × (level.obstacle.skeleton ≡ h)
chain-level g [] level h c = (c.1, c.2)
chain-level g (first ∷ levels) level h c = chain-level first.obstacle.skeleton levels level h c.2

-- the obstacles before it
pub chain-before : (g : Multigraph) (levels : List Level) (level : Level) (h : Multigraph) → IsChain g (levels ++ level ∷ []) h → IsChain g levels level.outer
chain-before g [] level h c = sym c.0
chain-before g (first ∷ levels) level h c = (c.0, c.1, chain-before first.obstacle.skeleton levels level h c.2)
