-- The pass goes back to a parent: all that it has to know of it, and what it has become.
use Rattle.std.proofs.Common.{◌≡◌, ◌≢◌, ℕ, ◌+◌, ◌<◌, ◌≤◌, inl, inr, Result, Ok, Err, IfOk, slice_index, refl, sym, subst, arith}
use Rattle.permutations.specs.Members.{is_member}
use Rattle.permutations.proofs.Count.{count-within}
use Rattle.permutations.proofs.Arrangements.{count-list}
use Rattle.multigraph.specs.Graph.{Multigraph, edge_count}
use Rattle.palm_tree.specs.PalmTree.{darts_of}
use Rattle.split_comp.specs.Palm.{tree_degree, tree_parent}
use Rattle.split_comp.specs.Pass.{NumberedTree, IsNumbered, PassState, at_place, IsPass, IsPassed, IsGoing, IsAsFar, IsCome, IsTurned}
use Rattle.split_comp.proofs.Depth.{parent-less, parent-dart, back-turned}
use Rattle.split_comp.proofs.AsFar.{come-through}

-- two clauses of one call
pub both-ok : {X Y : Type 0} (r : Result X Y) (P Q R : X → Type 0) → ((x : X) → P x → Q x → R x) → IfOk r P → IfOk r Q → IfOk r R
both-ok (Ok x) P Q R f a b = f x a b
both-ok (Err e) P Q R f a b = a

-- a vertex has no more darts than there are edges
degree-few : (g : Multigraph) (t : NumberedTree) → IsNumbered g t → (x : ℕ) → x < g.vertex_count → tree_degree t.palm t.vertex x ≤ edge_count g
degree-few g t numbered x l =
    let d = darts_of t.palm (slice_index t.vertex x) in
    let in-graph = numbered.vertices.within x l in
    omega (
      arith,
      count-list (edge_count g) (λ e. is_member e (darts_of t.palm (slice_index t.vertex x))) (darts_of t.palm (slice_index t.vertex x)) (numbered.palm.darts.once (slice_index t.vertex x) in-graph)
          (λ e m. elim ((numbered.palm.darts.begin (slice_index t.vertex x) e in-graph).0 m) as (λ z. e < edge_count g) [ inl c ↦ c.1.is_edge | inr f ↦ f.is_edge ]) (λ e k. refl),
      count-within (edge_count g) (λ e. is_member e (darts_of t.palm (slice_index t.vertex x))),
    )

module _ (g : Multigraph) (t : NumberedTree) (numbered : IsNumbered g t) (s : PassState) (p : IsPass g t s) where
  module _ (all : at_place s.gone s.at ≡ tree_degree t.palm t.vertex s.at) (not-root : s.at ≢ 0) (v : ℕ) (up : v ≡ tree_parent t.palm t.vertex s.at) where
    pub back-within : v < g.vertex_count
    back-within = omega (arith, up, (parent-less g t s p not-root).1)

    pub back-left : at_place s.gone v < tree_degree t.palm t.vertex v
    back-left = subst (λ (y : ℕ). at_place s.gone y < tree_degree t.palm t.vertex y) (sym up) (parent-dart g t s p not-root)

    pub back-fits : at_place s.gone v + 1 < 18446744073709551616
    back-fits = omega (arith, back-left, degree-few g t numbered v back-within, numbered.limits.few_edges)

    pub come-turned : (new : PassState) → IsCome v s new → IsTurned g t s new
    come-turned new c = back-turned g t s p all not-root new (subst (λ (y : ℕ). IsCome y s new) up c)

    -- the pass is over
    pub home-going : (new : PassState) → IsPassed g t new → IsCome v s new → IsGoing g t new × IsTurned g t s new
    home-going new over c = (inr over, come-turned new c)

    -- the pass goes on
    pub back-going : (one two new : PassState) → IsCome v s one → IsAsFar one two → IsPass g t new × IsAsFar two new → IsGoing g t new × IsTurned g t s new
    back-going one two new c far q = (inl q.0, come-turned new (come-through v s two new (come-through v s one two c far) q.1))
