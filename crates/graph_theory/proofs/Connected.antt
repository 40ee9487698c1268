-- Connected graphs: a graph without removed vertices, and a graph that is one block.
use Rattle.std.proofs.Common.{◌≡◌, ℕ, ◌<◌, inl, inr, true, ◌==◌, List, [], ◌∷◌, refl, sym, ap, subst}
use Rattle.std.specs.List.{filter}
use Rattle.std.proofs.lemmas.Bool.{eqb-true, or_cases, true≢false}
use Rattle.permutations.specs.Members.{is_member}
use Rattle.permutations.specs.Relation.{connected}
use Rattle.permutations.proofs.Relation.{connected-reflexive, connected-symmetric, connected-transitive}
use Rattle.multigraph.specs.Graph.{Multigraph, edge_count, ends_of, is_end, other_end}
use Rattle.multigraph.proofs.OtherEnd.{is_end-cases}
use Rattle.graph_theory.specs.Path.{IsWalk}
use Rattle.graph_theory.specs.Connected.{IsConnected}
use Rattle.graph_theory.specs.Triconnected.{avoids, IsConnectedWithout}
use Rattle.graph_theory.specs.Block.{IsOneBlock, SameBlock}
use Rattle.graph_theory.proofs.Connection.{ends-connected, other-connected}

-- where nothing is removed every link is left
avoids-none : (links : List (ℕ × ℕ)) → filter (avoids []) links ≡ links
avoids-none [] = refl
avoids-none (link ∷ links) = ap (λ (l : List (ℕ × ℕ)). link ∷ l) (avoids-none links)

-- a connected graph is connected without the removal of any vertex
pub connected-without_none : (g : Multigraph) → IsConnected g → IsConnectedWithout g []
connected-without_none g c u v a b m n = subst (λ (links : List (ℕ × ℕ)). connected links u v ≡ true) (sym (avoids-none g.ends)) (c u v a b)

-- each end of an edge is connected with its first end
end-first : (g : Multigraph) (e z : ℕ) → e < edge_count g → is_end g z e ≡ true → connected g.ends z (ends_of g e).0 ≡ true
end-first g e z l i = elim (is_end-cases g z e i) [
  | inl q ↦ subst (λ (y : ℕ). connected g.ends y (ends_of g e).0 ≡ true) q (connected-reflexive g.ends (ends_of g e).0)
  | inr q ↦ subst (λ (y : ℕ). connected g.ends y (ends_of g e).0 ≡ true) q (connected-symmetric g.ends (ends_of g e).0 (ends_of g e).1 (ends-connected g e l))
]

-- so is the first vertex of a walk with each edge of the walk
walk-first : (g : Multigraph) (x : ℕ) (es : List ℕ) → IsWalk g x es → (e : ℕ) → is_member e es ≡ true → connected g.ends x (ends_of g e).0 ≡ true
walk-first g x [] w e m = absurd (true≢false (sym m))
walk-first g x (h ∷ es) w e m = elim (or_cases (h == e) (is_member e es) m) [
  | inl q ↦ subst (λ (y : ℕ). connected g.ends x (ends_of g y).0 ≡ true) (eqb-true h e q) (end-first g h x w.0.0 w.0.1)
  | inr r ↦ connected-transitive g.ends x (other_end g h x) (ends_of g e).0 (other-connected g h x w.0.0 w.0.1) (walk-first g (other_end g h x) es w.1 e r)
]

-- a graph that is one block is connected
pub block-connected : (g : Multigraph) → IsOneBlock g → IsConnected g
block-connected g block u v a b =
    let e = block.at_edge u a in
    let f = block.at_edge v b in
    connected-transitive g.ends u (ends_of g e.0).0 v (end-first g e.0 u e.1 e.2) (connected-transitive g.ends (ends_of g e.0).0 (ends_of g f.0).0 v (edges e.0 f.0 (block.same_block e.0 f.0 e.1 f.1))
    (connected-symmetric g.ends v (ends_of g f.0).0 (end-first g f.0 v f.1 f.2)))
  where
    edges : (e f : ℕ) → SameBlock g e f → connected g.ends (ends_of g e).0 (ends_of g f).0 ≡ true
    edges e f (inl q) = subst (λ (y : ℕ). connected g.ends (ends_of g e).0 (ends_of g y).0 ≡ true) q (connected-reflexive g.ends (ends_of g e).0)
    edges e f (inr c) = connected-transitive g.ends (ends_of g e).0 c.start (ends_of g f).0 (connected-symmetric g.ends c.start (ends_of g e).0 (walk-first g c.start c.along c.cycle.walk e c.first_on)) (walk-first g c.start c.along c.cycle.walk f c.second_on)
