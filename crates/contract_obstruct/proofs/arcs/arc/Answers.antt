use Rattle.std.proofs.Common.{◌≡◌, ℕ, suc, ◌-◌, ◌/◌, ◌<◌, List, [], ◌∷◌, ◌++◌, map, append_assoc, sym, ap, ◌∙◌, arith}
use Rattle.permutations.specs.Ring.{images}
use Rattle.contract_obstruct.specs.Arcs.{along, arc_of}
use Rattle.contract_obstruct.proofs.arcs.arc.Goals as goal

-- one dart more
more : (f : ℕ → ℕ) (edges : List ℕ) (at left : ℕ) (all : List ℕ) → 2 < left → edges ++ map (λ c. c / 2) (images f (left - 2) at) ≡ all → (edges ++ (at / 2) ∷ []) ++ map (λ c. c / 2) (images f (left - 1 - 2) (f at)) ≡ all
more f edges at left all l h = append_assoc edges ((at / 2) ∷ []) (map (λ c. c / 2) (images f (left - 1 - 2) (f at))) ∙ (ap (λ n. edges ++ map (λ c. c / 2) (images f n at)) (sym count) ∙ h)
  where
    count : left - 2 ≡ suc (left - 1 - 2)
    count = omega arith

pub loop-left-preserved : goal.loop-left-preserved
loop-left-preserved c =
    (λ i. c.in_ok-push.ensures.items i ++ map (λ z. z / 2) (images (along c.args.next.now) (c.loop-left.left - 1 - 2) (c.along-at-in-loop-left.ensures i)))
    ∙ more (along c.args.next.now) c.loop-left.edges.items c.loop-left.at c.loop-left.left (map (λ z. z / 2) (arc_of c.args.next.now c.args.dart)) c.loop-left-test.true c.loop-left.invariant
