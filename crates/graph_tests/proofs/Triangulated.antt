-- What the tests of triangulations find out of a graph: that it is connected.
use Rattle.std.proofs.Common.{◌≡◌, ◌<◌, true, refl, sym, arith}
use Rattle.permutations.specs.Relation.{IsEquivalence, connected, leads}
use Rattle.permutations.proofs.Count.{count-positive}
use Rattle.permutations.proofs.Classes.{class_count-same}
use Rattle.permutations.proofs.Relation.{connected-equivalence}
use Rattle.multigraph.specs.Graph.{Multigraph}
use Rattle.graph_theory.specs.Connected.{IsConnected}
use Rattle.faces.specs.Euler.{component_count}

-- one class of all numbers
all : IsEquivalence (λ x y. true)
all = record { reflexive = λ x. refl; symmetric = λ x y h. refl; transitive = λ x y z h k. refl }

-- a graph with one component is connected
pub one-connected : (g : Multigraph) → 0 < g.vertex_count → component_count g ≡ 1 → IsConnected g
one-connected g l one u v lu lv =
    let p = count-positive g.vertex_count (leads (λ x y. true)) 0 l refl in
    sym (class_count-same g.vertex_count (connected g.ends) (λ x y. true) (connected-equivalence g.ends) all (λ x y h. refl) (omega (arith, one, p)) u v lu lv)
