use Rattle.std.proofs.Common.{◌≡◌, ℕ, List, true, false, ◌++◌, sym, subst, arith}
use Rattle.permutations.specs.Cyclic.{IsTurn}
use Rattle.multigraph.specs.Graph.{is_end}
use Rattle.planarity.specs.Circle.{leads_near}
use Rattle.contractions.specs.Level.{edge_before}
use Rattle.contract_obstruct.specs.Crossing.{listed}
use Rattle.contract_obstruct.specs.Sectors.{LeadsOut}
use Rattle.contract_obstruct.proofs.Segments.{four-segments, around-by}
use Rattle.contract_obstruct.proofs.sectors.crossing_at.Goals as goal

pub crossing-requires-clause-crossing : goal.crossing-requires-clause-crossing
crossing-requires-clause-crossing c =
    let level = c.args.level.now in
    let l = c.args.order.now in
    let order : List ℕ = listed c.in_ok-left.left ++ (listed c.in_ok-near.near ++ (listed c.in_ok-right.right ++ listed c.in_ok-far.far)) in
    record {
      around = around-by level c.args.next.now l order
          (λ o t. subst (IsTurn o)
          (sym (λ i. c.in_ok-left.ensures.whole i ++ (c.in_ok-near.ensures.whole i ++ (c.in_ok-right.ensures.whole i ++ c.in_ok-far.ensures.whole i))))
          (four-segments o l c.args.places.0 c.args.places.1 c.args.places.2 (omega (arith, c.requires.rise)) (omega (arith, c.requires.rise_on)) t))
          c.requires.around;
      leads = record {
        left = subst (λ z. is_end level.graph level.x (edge_before level z) ≡ true) (sym c.in_ok-left.ensures.first) c.requires.first;
        near = subst (λ z. leads_near level.graph level.x level.y (edge_before level) z ≡ true) (sym c.in_ok-near.ensures.first) c.requires.second;
        right = subst (λ z. is_end level.graph level.x (edge_before level z) ≡ true) (sym c.in_ok-right.ensures.first) c.requires.third;
        far = subst (λ z. is_end level.graph level.x (edge_before level z) ≡ false) (sym c.in_ok-far.ensures.first) c.requires.fourth;
        left_out = subst (LeadsOut level) (sym c.in_ok-left.ensures.first) (c.requires.edges c.args.places.0 (omega (arith, c.requires.rise, c.requires.rise_on, c.requires.within)));
        near_out = subst (LeadsOut level) (sym c.in_ok-near.ensures.first) (c.requires.edges c.args.places.1 (omega (arith, c.requires.rise_on, c.requires.within)));
        right_out = subst (LeadsOut level) (sym c.in_ok-right.ensures.first) (c.requires.edges c.args.places.2 c.requires.within);
        far_out = subst (LeadsOut level) (sym c.in_ok-far.ensures.first) (c.requires.edges 0 (omega (arith, c.requires.within)));
      };
    }
