-- Edges in one block have lower ends with one label: below a vertex past whose parent nothing leads, the edges have only
-- that parent in common with the others.
use Rattle.std.proofs.Common.{◌≡◌, ℕ, zero, suc, ◌+◌, ◌<◌, ◌≤◌, ◌⊎◌, inl, inr, Bool, true, ◌==◌, sym, ap, ◌∙◌, subst, arith}
use Rattle.std.proofs.lemmas.Bool.{cases_lt, cases_eq, both_ways, eq-eqb, eqb-true}
use Rattle.permutations.specs.Count.{some}
use Rattle.permutations.specs.Permutation.{iterate}
use Rattle.permutations.proofs.Search.{some-from, some-witness}
use Rattle.permutations.proofs.Iterates.{iterate-sum}
use Rattle.multigraph.specs.Graph.{Multigraph, edge_count, other_end, IsGraph}
use Rattle.graph_theory.specs.Block.{SameBlock}
use Rattle.graph_theory.specs.Side.{IsCommon}
use Rattle.graph_theory.specs.SearchTree.{IsBelow, IsSearchForest, AreLowPoints, AreLabels}
use Rattle.graph_theory.proofs.Ends.{end-cases}
use Rattle.graph_theory.proofs.Crossings.{block-one_side}
use Rattle.graph_theory.proofs.Exchange.{block-symmetric}
use Rattle.graph_theory.proofs.Chains.{chain-in, chain-depth, below-depth, below-transitive, below-between, below-antisymmetric}
use Rattle.graph_theory.proofs.SameLabel.{lower-in, lower-depth, label-of, Labelled}

-- whether z is v or a descendant of v
pub is_below : (parent depth : ℕ → ℕ) → ℕ → ℕ → Bool
is_below parent depth v z = some (depth z + 1) (λ k. iterate parent k z == v)

-- from the fact to the test
pub is_below-from : (parent depth : ℕ → ℕ) (v z : ℕ) → IsBelow parent depth v z → is_below parent depth v z ≡ true
unfolding is_below
is_below-from parent depth v z b = some-from (depth z + 1) (λ k. iterate parent k z == v) b.steps (omega (arith, b.within)) (eq-eqb (iterate parent b.steps z) v b.leads)

-- from the test to the fact
pub below-from : (parent depth : ℕ → ℕ) (v z : ℕ) → is_below parent depth v z ≡ true → IsBelow parent depth v z
unfolding is_below
below-from parent depth v z h =
    let w = some-witness (depth z + 1) (λ k. iterate parent k z == v) h in
    record { steps = w.0; within = omega (arith, w.1); leads = eqb-true (iterate parent w.0 z) v w.2 }

module _ (g : Multigraph) (i : IsGraph g) (parent depth parent_edge lower low label : ℕ → ℕ) (t : IsSearchForest g parent depth parent_edge lower) (p : AreLowPoints g parent depth parent_edge lower low) (a : AreLabels g parent depth low label) where
  -- nothing below a vertex leads higher than its low point
  pub low-below : (k z : ℕ) → z < g.vertex_count → k ≤ depth z → low (iterate parent k z) ≤ low z
  low-below zero z l h = omega arith
  low-below (suc k) z l h =
      let c : iterate parent k z < g.vertex_count = chain-in g parent depth parent_edge lower t k z l (omega arith) in
      let d : depth (iterate parent k z) + k ≡ depth z = chain-depth g parent depth parent_edge lower t k z l (omega arith) in
      omega (arith, low-below k z l (omega arith), p.at_parent (iterate parent k z) c (omega arith))

  -- the edges whose lower end is h or a descendant have only the parent of h in common with the others
  pub common-parent : (h : ℕ) → 0 < depth h → h < g.vertex_count → depth (parent h) ≤ low h → (v : ℕ) → IsCommon g (λ e. is_below parent depth h (lower e)) v → v ≡ parent h
  common-parent h dh hl hd v c = upper (end-cases g c.inside (lower c.inside) v (t.lower_end c.inside c.inside_edge) c.inside_end)
    where
      z : ℕ
      z = lower c.inside

      zl : z < g.vertex_count
      zl = lower-in g i parent depth parent_edge lower low label t p a c.inside c.inside_edge

      b : IsBelow parent depth h z
      b = below-from parent depth h z c.inside_side

      not_below : IsBelow parent depth h v → ⊥
      not_below q = out (end-cases g c.outside (lower c.outside) v (t.lower_end c.outside c.outside_edge) c.outside_end)
        where
          w : ℕ
          w = lower c.outside

          outside : IsBelow parent depth h w → ⊥
          outside s = both_ways (is_below parent depth h w) c.outside_side (is_below-from parent depth h w s)

          out : (v ≡ w) ⊎ (v ≡ other_end g c.outside w) → ⊥
          out cases = elim cases [
            | inl e ↦ outside (subst (IsBelow parent depth h) e q)
            | inr e ↦ let u = t.upper_above c.outside c.outside_edge in
                outside (below-transitive g parent depth parent_edge lower t h v w (lower-in g i parent depth parent_edge lower low label t p a c.outside c.outside_edge) q (record { steps = u.0 + 1; within = omega (arith, u.1); leads = u.2 ∙ sym e }))
          ]

      upper : (v ≡ z) ⊎ (v ≡ other_end g c.inside z) → v ≡ parent h
      upper cases = elim cases [
        | inl e ↦ absurd (not_below (subst (IsBelow parent depth h) (sym e) b))
        | inr e ↦ above e (t.upper_above c.inside c.inside_edge)
      ]
        where
          dz : depth h + b.steps ≡ depth z
          dz = below-depth g parent depth parent_edge lower t h z zl b

          above : v ≡ other_end g c.inside z → (k : ℕ) × (k < depth z) × (iterate parent (k + 1) z ≡ other_end g c.inside z) → v ≡ parent h
          above e u = elim (cases_lt b.steps (u.0 + 1)) [
            | inl more ↦ over more
            | inr less ↦ absurd (not_below (subst (IsBelow parent depth h) (u.2 ∙ sym e) (subst (λ (k : ℕ). IsBelow parent depth k (iterate parent (u.0 + 1) z)) b.leads (below-between g parent depth parent_edge lower t z (u.0 + 1) b.steps zl b.within less))))
          ]
            where
              dv : depth v + (u.0 + 1) ≡ depth z
              dv = subst (λ (k : ℕ). depth k + (u.0 + 1) ≡ depth z) (u.2 ∙ sym e) (chain-depth g parent depth parent_edge lower t (u.0 + 1) z zl (omega (arith, u.1)))

              dp : depth (parent h) + 1 ≡ depth h
              dp = t.parent_depth h hl dh

              -- the upper end of a parent edge is the parent
              tree : parent_edge z ≡ c.inside → depth v + 1 ≡ depth z
              tree q =
                  let d : 0 < depth z = omega (arith, u.1) in
                  let s : other_end g c.inside z ≡ parent z = subst (λ (k : ℕ). other_end g k z ≡ parent z) q (t.parent_edge_leads z zl d) in
                  omega (arith, t.parent_depth z zl d, ap depth (e ∙ s))

              -- what lies over the low point of h, and not below h, is the parent of h
              high : depth (parent h) ≤ depth v
              high = elim (cases_eq (parent_edge z) c.inside) [
                | inl q ↦ omega (arith, tree q, dv, dz, dp)
                | inr n ↦
                    let s : low h ≤ low z = subst (λ (k : ℕ). low k ≤ low z) b.leads (low-below b.steps z zl b.within) in
                    omega (arith, s, hd, p.at_frond c.inside c.inside_edge n, ap depth e)
              ]

              over : b.steps < u.0 + 1 → v ≡ parent h
              over more =
                  let s : u.0 ≡ b.steps = omega (arith, high, dv, dz, dp) in
                  let f : iterate parent (1 + b.steps) z ≡ parent h = iterate-sum parent 1 b.steps z ∙ ap parent b.leads in
                  let n : u.0 + 1 ≡ 1 + b.steps = omega arith in
                  e ∙ (sym u.2 ∙ (ap (λ (k : ℕ). iterate parent k z) n ∙ f))

  -- edges in one block have lower ends with one label
  pub block-same_label : (e f : ℕ) → e < edge_count g → f < edge_count g → SameBlock g e f → label (lower e) ≡ label (lower f)
  block-same_label e f l k s =
      below-antisymmetric g parent depth parent_edge lower t (label (lower e)) (label (lower f)) u.label_in v.label_in
      (v.nearest (label (lower e)) u.label_depth u.is_head (across e f u s))
      (u.nearest (label (lower f)) v.label_depth v.is_head (across f e v (symmetric s)))
    where
      u : Labelled g i parent depth parent_edge lower low label t p a (lower e)
      u = label-of g i parent depth parent_edge lower low label t p a (lower e) (lower-in g i parent depth parent_edge lower low label t p a e l) (lower-depth g i parent depth parent_edge lower low label t p a e l)

      v : Labelled g i parent depth parent_edge lower low label t p a (lower f)
      v = label-of g i parent depth parent_edge lower low label t p a (lower f) (lower-in g i parent depth parent_edge lower low label t p a f k) (lower-depth g i parent depth parent_edge lower low label t p a f k)

      symmetric : SameBlock g e f → SameBlock g f e
      symmetric q = block-symmetric g e f q

      across : (e f : ℕ) → (r : Labelled g i parent depth parent_edge lower low label t p a (lower e)) → SameBlock g e f → IsBelow parent depth (label (lower e)) (lower f)
      across e f r q =
          let h = label (lower e) in
          let one = λ (x y : ℕ) (c : IsCommon g (λ (j : ℕ). is_below parent depth h (lower j)) x) (d : IsCommon g (λ (j : ℕ). is_below parent depth h (lower j)) y). common-parent h r.label_depth r.label_in r.is_head x c ∙ sym (common-parent h r.label_depth r.label_in r.is_head y d) in
          below-from parent depth h (lower f)
          (sym (block-one_side g (λ j. is_below parent depth h (lower j)) one e f q) ∙ is_below-from parent depth h (lower e) r.above)
