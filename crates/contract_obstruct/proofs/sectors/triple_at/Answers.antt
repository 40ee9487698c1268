use Rattle.std.proofs.Common.{◌≡◌, ℕ, List, ◌++◌, sym, ◌∙◌, subst, arith}
use Rattle.permutations.specs.Cyclic.{IsTurn}
use Rattle.contract_obstruct.specs.Crossing.{listed}
use Rattle.contract_obstruct.specs.Triple.{LeadsToCommon}
use Rattle.contract_obstruct.specs.Sectors.{LeadsOut, IsCommonEdge}
use Rattle.contractions.specs.declared.level.Level.{Level}
use Rattle.contract_obstruct.specs.declared.crossing.Sector.{Sector}
use Rattle.contract_obstruct.proofs.Segments.{three-segments, around-by}
use Rattle.contract_obstruct.proofs.sectors.triple_at.Goals as goal

-- what holds of its first edge
common : (level : Level) (p : Sector) (z : ℕ) → p.first ≡ z → LeadsOut level z → IsCommonEdge level z → LeadsToCommon level p
common level p z e out h =
    let w : IsCommonEdge level p.first = subst (IsCommonEdge level) (sym e) h in
    let o : LeadsOut level p.first = subst (LeadsOut level) (sym e) out in
    record { is_edge = o.is_edge; leaves = w.0; common = w.1 }

pub triple-requires-clause-triple : goal.triple-requires-clause-triple
triple-requires-clause-triple c =
    let level = c.args.level.now in
    let l = c.args.order.now in
    let order : List ℕ = listed c.in_ok-a.a ++ (listed c.in_ok-b.b ++ listed c.in_ok-c.c) in
    record {
      around = around-by level c.args.next.now l order
          (λ o t. subst (IsTurn o)
          (three-segments l c.args.places.0 c.args.places.1 (omega (arith, c.requires.rise))
          ∙ sym (λ i. c.in_ok-a.ensures.whole i ++ (c.in_ok-b.ensures.whole i ++ c.in_ok-c.ensures.whole i)))
          t)
          c.requires.around;
      first = common level c.in_ok-a.a _ c.in_ok-a.ensures.first (c.requires.edges 0 (omega (arith, c.requires.within))) c.requires.first;
      second = common level c.in_ok-b.b _ c.in_ok-b.ensures.first (c.requires.edges c.args.places.0 (omega (arith, c.requires.rise, c.requires.within))) c.requires.second;
      third = common level c.in_ok-c.c _ c.in_ok-c.ensures.first (c.requires.edges c.args.places.1 c.requires.within) c.requires.third;
    }
