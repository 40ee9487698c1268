use Rattle.std.proofs.Common.{◌≡◌, ◌∙◌, ◌∷◌, ◌++◌, ℕ, List, [], sym, ap, arith}
use Rattle.multigraph.specs.Graph.{numbers_below}
use Rattle.multigraph.proofs.Below.{numbers_below-more}
use Rattle.skel_embed.proofs.members.count_up.Goals as goal

pub loop-i-preserved : goal.loop-i-preserved
loop-i-preserved c = c.in_ok-push.ensures.items ∙ ap (λ (z : List ℕ). z ++ c.loop-i.i ∷ []) c.loop-i.invariant ∙ sym (numbers_below-more c.loop-i.i)

pub returns : goal.returns
returns c = c.loop-i.invariant ∙ ap numbers_below (let e : c.loop-i.i ≡ c.args.count = omega (arith, c.loop-i-test.false, c.loop-i.auto) in e)
