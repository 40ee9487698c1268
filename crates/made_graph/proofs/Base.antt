-- The complete graph on four vertices is a planar block.
use Rattle.std.proofs.Common.{◌≡◌, ℕ, zero, suc, ◌<◌, inl, inr, ltb, ◌==◌, true, false, List, [], ◌∷◌, refl, arith}
use Rattle.std.proofs.lemmas.Bool.{agree_below_at, eqb-false, ltb-true}
use Rattle.std.proofs.lemmas.List.Sorted.{IsPermutation-refl}
use Rattle.permutations.proofs.Arrangements.{three-turned}
use Rattle.multigraph.specs.Graph.{ends_of, is_end, incident_edges, IsGraph}
use Rattle.graph_theory.specs.Path.{IsCycle}
use Rattle.graph_theory.specs.Block.{SameBlock, IsOneBlock}
use Rattle.graph_theory.proofs.Exchange.{block-symmetric, block-transitive}
use Rattle.rotations.specs.Rotation.{order_at, IsCyclicOrder, IsRotationSystem}
use Rattle.faces.specs.Euler.{IsPlane}
use Rattle.made_graph.specs.Made.{tetrahedron}
use Rattle.made_graph.specs.Laws.{IsPlanarBlock}

-- it is a graph
tetrahedron-ok : IsGraph tetrahedron
tetrahedron-ok = record {
  first_in = λ e l. ltb-true (ends_of tetrahedron e).0 4 (agree_below_at (λ f. ltb (ends_of tetrahedron f).0 4) (λ f. true) 6 e refl l);
  second_in = λ e l. ltb-true (ends_of tetrahedron e).1 4 (agree_below_at (λ f. ltb (ends_of tetrahedron f).1 4) (λ f. true) 6 e refl l);
  no_loop = λ e l. eqb-false (ends_of tetrahedron e).0 (ends_of tetrahedron e).1 (agree_below_at (λ f. (ends_of tetrahedron f).0 == (ends_of tetrahedron f).1) (λ f. false) 6 e refl l);
}

-- two triangles and a cycle of four through edge 0
over-2 : IsCycle tetrahedron 0 (0 ∷ 3 ∷ 1 ∷ [])
over-2 = record { walk = ((omega arith, refl), ((omega arith, refl), ((omega arith, refl), tt))); returns = refl; two = omega arith; edges = refl; vertices = refl }

over-3 : IsCycle tetrahedron 0 (0 ∷ 4 ∷ 2 ∷ [])
over-3 = record { walk = ((omega arith, refl), ((omega arith, refl), ((omega arith, refl), tt))); returns = refl; two = omega arith; edges = refl; vertices = refl }

over-both : IsCycle tetrahedron 0 (0 ∷ 3 ∷ 5 ∷ 2 ∷ [])
over-both = record { walk = ((omega arith, refl), ((omega arith, refl), ((omega arith, refl), ((omega arith, refl), tt)))); returns = refl; two = omega arith; edges = refl; vertices = refl }

-- so each edge shares a block with edge 0
with_first : (k : ℕ) → k < 6 → SameBlock tetrahedron k 0
with_first zero l = inl refl
with_first (suc zero) l = inr (record { start = 0; along = _; cycle = over-2; first_on = refl; second_on = refl })
with_first (suc (suc zero)) l = inr (record { start = 0; along = _; cycle = over-3; first_on = refl; second_on = refl })
with_first (suc (suc (suc zero))) l = inr (record { start = 0; along = _; cycle = over-2; first_on = refl; second_on = refl })
with_first (suc (suc (suc (suc zero)))) l = inr (record { start = 0; along = _; cycle = over-3; first_on = refl; second_on = refl })
with_first (suc (suc (suc (suc (suc zero))))) l = inr (record { start = 0; along = _; cycle = over-both; first_on = refl; second_on = refl })
with_first (suc (suc (suc (suc (suc (suc k)))))) l = absurd (omega arith)

tetrahedron-one : IsOneBlock tetrahedron
tetrahedron-one = record {
  has_edge = omega arith;
  at_edge = at;
  same_block = λ a b la lb. block-transitive tetrahedron tetrahedron-ok a 0 b (with_first a la) (block-symmetric tetrahedron b 0 (with_first b lb));
}
  where
    at : (v : ℕ) → v < 4 → (e : ℕ) × (e < 6) × (is_end tetrahedron v e ≡ true)
    at zero l = (0, omega arith, refl)
    at (suc zero) l = (0, omega arith, refl)
    at (suc (suc zero)) l = (1, omega arith, refl)
    at (suc (suc (suc zero))) l = (2, omega arith, refl)
    at (suc (suc (suc (suc v)))) l = absurd (omega arith)

-- one vertex inside the triangle of the others
abbrev orders : List (List ℕ)
orders = (0 ∷ 1 ∷ 2 ∷ []) ∷ (0 ∷ 4 ∷ 3 ∷ []) ∷ (1 ∷ 3 ∷ 5 ∷ []) ∷ (2 ∷ 5 ∷ 4 ∷ []) ∷ []

orders-system : IsRotationSystem tetrahedron orders
orders-system = record { vertices = refl; orders = at }
  where
    at : (v : ℕ) → v < 4 → IsCyclicOrder (incident_edges tetrahedron v) (order_at orders v)
    at zero l = record { arranged = IsPermutation-refl (0 ∷ 1 ∷ 2 ∷ []); least_first = refl }
    at (suc zero) l = record { arranged = three-turned 0 3 4; least_first = refl }
    at (suc (suc zero)) l = record { arranged = IsPermutation-refl (1 ∷ 3 ∷ 5 ∷ []); least_first = refl }
    at (suc (suc (suc zero))) l = record { arranged = three-turned 2 4 5; least_first = refl }
    at (suc (suc (suc (suc v)))) l = absurd (omega arith)

orders-plane : IsPlane tetrahedron orders
orders-plane = refl

pub tetrahedron-planar : IsPlanarBlock tetrahedron
tetrahedron-planar = record { is_graph = tetrahedron-ok; one_block = tetrahedron-one; system = orders; is_system = orders-system; plane = orders-plane }
