-- The two ways to name the ends of an edge that may be contracted.
use Rattle.std.proofs.Common.{◌≡◌, ℕ, ◌<◌, ◌≤◌, inl, inr, true, false, length, get_or, refl, subst}
use Rattle.std.proofs.lemmas.Bool.{both_ways}
use Rattle.permutations.specs.Count.{some}
use Rattle.multigraph.specs.Graph.{Multigraph, IsGraph, edge_count, ends_of}
use Rattle.multigraph.proofs.Below.{filter_below-at}
use Rattle.multigraph.proofs.OtherEnd.{is_end-first, is_end-second, other_end-of_first, other_end-of_second}
use Rattle.graph_theory.specs.Triconnected.{IsTriconnected}
use Rattle.contractions.specs.Contraction.{IsContractible, is_private, is_kept}
use Rattle.contractions.specs.Contracted.{kept_edges}
use Rattle.contractions.proofs.Tests.{contractible-turned}
use Rattle.contractions.proofs.PrivateNeighbours.{orient, common_count-turned}
use Rattle.contractions.specs.Level.{IsOriented}

-- the second end has a private edge
pub named-first : (g : Multigraph) (e : ℕ) → e < edge_count g → IsContractible g (ends_of g e).0 (ends_of g e).1
    → some (edge_count g) (is_private g e (ends_of g e).0 (ends_of g e).1) ≡ true → IsOriented g e (ends_of g e).0 (ends_of g e).1
named-first g e l c p = record {
  edge_in = l;
  first_end = is_end-first g e;
  second_end = other_end-of_first g e (ends_of g e).0 refl;
  contractible = c;
  private = λ few. p;
}

-- it has none, so the first end has one if there are few common neighbours
pub named-second : (g : Multigraph) (e : ℕ) → IsGraph g → IsTriconnected g → 5 ≤ g.vertex_count → e < edge_count g → IsContractible g (ends_of g e).0 (ends_of g e).1
    → some (edge_count g) (is_private g e (ends_of g e).0 (ends_of g e).1) ≡ false → IsOriented g e (ends_of g e).1 (ends_of g e).0
named-second g e i t five l c p = record {
  edge_in = l;
  first_end = is_end-second g e;
  second_end = other_end-of_second g e (ends_of g e).1 refl (i.no_loop e l);
  contractible = contractible-turned g (ends_of g e).0 (ends_of g e).1 c;
  private = λ few. elim (orient g i t five e (ends_of g e).0 (ends_of g e).1 l (is_end-first g e) (other_end-of_first g e (ends_of g e).0 refl)
      (subst (λ n. n ≤ 2) (common_count-turned g (ends_of g e).1 (ends_of g e).0) few)) [
        | inl q ↦ absurd (both_ways (some (edge_count g) (is_private g e (ends_of g e).0 (ends_of g e).1)) p q)
        | inr q ↦ q
      ];
}

-- an edge that stays is an edge
pub kept-edge : (g : Multigraph) (e x y i : ℕ) → i < length (kept_edges g e x y) → get_or (kept_edges g e x y) i 0 < edge_count g
kept-edge g e x y i l = (filter_below-at (is_kept g e x y) (edge_count g) i 0 l).0
