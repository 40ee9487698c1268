-- Chains of contractions, made longer and shorter at their end.
use Rattle.std.proofs.Common.{◌≡◌, List, [], ◌∷◌, ◌++◌, refl, sym, ◌∙◌}
use Rattle.multigraph.specs.Graph.{Multigraph}
use Rattle.contractions.specs.Level.{IsLevel, contraction}
use Rattle.contract_embed.specs.Chain.{IsChain}
use Rattle.contractions.specs.declared.level.Level.{Level}

-- one more contraction
pub chain-push : (g : Multigraph) (levels : List Level) (h : Multigraph) (level : Level) → IsChain g levels h → level.graph ≡ h → IsLevel level → IsChain g (levels ++ level ∷ []) (contraction level)
chain-push g [] h level c e k = (e ∙ sym c, k, refl)
chain-push g (first ∷ levels) h level c e k = (c.0, c.1, chain-push (contraction first) levels h level c.2 e k)

-- what the last one was
pub chain-level : (g : Multigraph) (levels : List Level) (level : Level) (h : Multigraph) → IsChain g (levels ++ level ∷ []) h → IsLevel level × (contraction level ≡ h)
chain-level g [] level h c = (c.1, c.2)
chain-level g (first ∷ levels) level h c = chain-level (contraction first) levels level h c.2

-- the contractions before it
pub chain-before : (g : Multigraph) (levels : List Level) (level : Level) (h : Multigraph) → IsChain g (levels ++ level ∷ []) h → IsChain g levels level.graph
chain-before g [] level h c = sym c.0
chain-before g (first ∷ levels) level h c = (c.0, c.1, chain-before (contraction first) levels level h c.2)
