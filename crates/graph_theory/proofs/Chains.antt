-- Chains of parents in a search forest.
use Rattle.std.proofs.Common.{◌≡◌, ℕ, zero, suc, ◌+◌, ◌-◌, ◌<◌, ◌≤◌, ◌⊎◌, inl, inr, refl, sym, ap, ◌∙◌, subst, arith}
use Rattle.permutations.specs.Permutation.{iterate}
use Rattle.permutations.proofs.Iterates.{iterate-more, iterate-sum, iterate-first}
use Rattle.multigraph.specs.Graph.{Multigraph}
use Rattle.graph_theory.specs.SearchTree.{IsBelow, IsSearchForest}

module _ (g : Multigraph) (parent depth parent_edge lower : ℕ → ℕ) (t : IsSearchForest g parent depth parent_edge lower) where
  -- steps to the parent stay among the vertices, and each goes up by one
  pub chain-up : (i v : ℕ) → v < g.vertex_count → i ≤ depth v → (iterate parent i v < g.vertex_count) × (depth (iterate parent i v) + i ≡ depth v)
  chain-up zero v l h = (l, omega arith)
  chain-up (suc i) v l h =
      let r = chain-up i v l (omega arith) in
      let p : 0 < depth (iterate parent i v) = omega (arith, r.1) in
      (t.parent_in (iterate parent i v) r.0 p, omega (arith, r.1, t.parent_depth (iterate parent i v) r.0 p))

  -- steps to the parent stay among the vertices
  pub chain-in : (i v : ℕ) → v < g.vertex_count → i ≤ depth v → iterate parent i v < g.vertex_count
  chain-in i v l h = (chain-up i v l h).0

  -- each step to the parent goes up by one
  pub chain-depth : (i v : ℕ) → v < g.vertex_count → i ≤ depth v → depth (iterate parent i v) + i ≡ depth v
  chain-depth i v l h = (chain-up i v l h).1

  -- a descendant's descendant is one
  pub below-transitive : (u v z : ℕ) → z < g.vertex_count → IsBelow parent depth u v → IsBelow parent depth v z → IsBelow parent depth u z
  below-transitive u v z l a b = record {
    steps = a.steps + b.steps;
    within =
        let d : depth (iterate parent b.steps z) + b.steps ≡ depth z = chain-depth b.steps z l b.within in
        let e : depth (iterate parent b.steps z) ≡ depth v = ap depth b.leads in
        omega (arith, a.within);
    leads = iterate-sum parent a.steps b.steps z ∙ (ap (iterate parent a.steps) b.leads ∙ a.leads);
  }

  -- each vertex is below itself
  pub below-reflexive : (v : ℕ) → IsBelow parent depth v v
  below-reflexive v = record { steps = 0; within = omega arith; leads = refl }

  -- a vertex is below its parent
  pub below-parent : (v : ℕ) → 0 < depth v → IsBelow parent depth (parent v) v
  below-parent v p = record { steps = 1; within = p; leads = refl }

  -- a vertex that is below v is v, or its parent is below v
  pub below-cases : (v z : ℕ) → IsBelow parent depth v z → z < g.vertex_count → (z ≡ v) ⊎ ((0 < depth z) × IsBelow parent depth v (parent z))
  below-cases v z b l = cases b.steps b.within b.leads
    where
      cases : (i : ℕ) → i ≤ depth z → iterate parent i z ≡ v → (z ≡ v) ⊎ ((0 < depth z) × IsBelow parent depth v (parent z))
      cases zero w e = inl e
      cases (suc i) w e =
          let p : 0 < depth z = omega arith in
          inr (
            p,
            record {
              steps = i;
              within = omega (arith, t.parent_depth z l p);
              leads = sym (iterate-first parent i z) ∙ (iterate-more parent i z ∙ e);
            },
          )

  -- a vertex is no higher than those below it
  pub below-depth : (v z : ℕ) → z < g.vertex_count → (b : IsBelow parent depth v z) → depth v + b.steps ≡ depth z
  below-depth v z l b = subst (λ (k : ℕ). depth k + b.steps ≡ depth z) b.leads (chain-depth b.steps z l b.within)

  -- two vertices below each other are one
  pub below-antisymmetric : (u v : ℕ) → u < g.vertex_count → v < g.vertex_count → IsBelow parent depth u v → IsBelow parent depth v u → u ≡ v
  below-antisymmetric u v l k a b =
      let p : depth u + a.steps ≡ depth v = below-depth u v k a in
      let q : depth v + b.steps ≡ depth u = below-depth v u l b in
      let s : b.steps ≡ 0 = omega arith in
      subst (λ (i : ℕ). iterate parent i u ≡ v) s b.leads

  -- of two ancestors of a vertex, the one that is fewer steps up is below the other
  pub below-between : (z i j : ℕ) → z < g.vertex_count → j ≤ depth z → i ≤ j → IsBelow parent depth (iterate parent j z) (iterate parent i z)
  below-between z i j l w h = made (j - i) (omega arith)
    where
      made : (d : ℕ) → d + i ≡ j → IsBelow parent depth (iterate parent j z) (iterate parent i z)
      made d e =
          let c : depth (iterate parent i z) + i ≡ depth z = chain-depth i z l (omega arith) in
          record { steps = d; within = omega arith; leads = sym (iterate-sum parent d i z) ∙ ap (λ (k : ℕ). iterate parent k z) e }
