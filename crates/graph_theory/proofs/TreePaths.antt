-- The path up a search forest, and the cycle that an edge closes over it.
use Rattle.std.proofs.Common.{◌≡◌, ◌≢◌, ℕ, zero, suc, ◌+◌, ◌<◌, ◌≤◌, ◌⊎◌, inl, inr, true, false, List, [], ◌∷◌, ◌++◌, refl, sym, ap, ◌∙◌, subst, arith}
use Rattle.std.proofs.lemmas.Bool.{false_from_ne_true, true≢false}
use Rattle.permutations.specs.Members.{is_member, is_distinct}
use Rattle.permutations.specs.Permutation.{iterate}
use Rattle.permutations.proofs.Members.{member-head, member-tail, member-cases, member-append_left, member-append_right, no_member-cons, distinct-cons}
use Rattle.permutations.proofs.Iterates.{iterate-more, iterate-first}
use Rattle.multigraph.specs.Graph.{Multigraph, edge_count, other_end, IsGraph}
use Rattle.multigraph.proofs.OtherEnd.{other_end-is_end}
use Rattle.graph_theory.specs.Path.{walk_end, walk_vertices, IsWalk, IsPath}
use Rattle.graph_theory.specs.Block.{CommonCycle}
use Rattle.graph_theory.specs.SearchTree.{IsSearchForest}
use Rattle.graph_theory.proofs.Ends.{other-other, end-in}
use Rattle.graph_theory.proofs.Cycles.{cycle_of_paths}
use Rattle.graph_theory.proofs.Chains.{chain-in, chain-depth}

module _ (g : Multigraph) (parent depth parent_edge lower : ℕ → ℕ) (t : IsSearchForest g parent depth parent_edge lower) where
  -- the parent edges from v upwards
  pub up_edges : ℕ → ℕ → List ℕ
  up_edges zero v = []
  up_edges (suc i) v = parent_edge v ∷ up_edges i (parent v)

  -- they are a walk
  pub up-walk : (i v : ℕ) → v < g.vertex_count → i ≤ depth v → IsWalk g v (up_edges i v)
  unfolding up_edges
  up-walk zero v l h = tt
  up-walk (suc i) v l h =
      let p : 0 < depth v = omega arith in
      ((t.parent_edge_in v l p, t.parent_edge_end v l p), subst (λ (k : ℕ). IsWalk g k (up_edges i (parent v))) (sym (t.parent_edge_leads v l p)) (up-walk i (parent v) (t.parent_in v l p) (omega (arith, t.parent_depth v l p))))

  -- they lead to the ancestor so many steps up
  pub up-end : (i v : ℕ) → v < g.vertex_count → i ≤ depth v → walk_end g v (up_edges i v) ≡ iterate parent i v
  unfolding up_edges
  up-end zero v l h = refl
  up-end (suc i) v l h =
      let p : 0 < depth v = omega arith in
      ap (λ (k : ℕ). walk_end g k (up_edges i (parent v))) (t.parent_edge_leads v l p) ∙
      (up-end i (parent v) (t.parent_in v l p) (omega (arith, t.parent_depth v l p)) ∙
      (sym (iterate-first parent i v) ∙ iterate-more parent i v))

  -- they meet no vertex that is deeper than v
  pub up-met : (i v : ℕ) → v < g.vertex_count → i ≤ depth v → (z : ℕ) → is_member z (walk_vertices g v (up_edges i v)) ≡ true → depth z ≤ depth v
  unfolding up_edges
  up-met zero v l h z m = elim (member-cases z v [] m) [ inl e ↦ omega (arith, ap depth e) | inr n ↦ absurd (true≢false (sym n)) ]
  up-met (suc i) v l h z m =
      let p : 0 < depth v = omega arith in
      elim (member-cases z v (walk_vertices g (other_end g (parent_edge v) v) (up_edges i (parent v))) m) [
        | inl e ↦ omega (arith, ap depth e)
        | inr n ↦ omega (arith, t.parent_depth v l p, up-met i (parent v) (t.parent_in v l p) (omega (arith, t.parent_depth v l p)) z (subst (λ (k : ℕ). is_member z (walk_vertices g k (up_edges i (parent v))) ≡ true) (t.parent_edge_leads v l p) n))
      ]

  -- they meet no vertex twice
  pub up-distinct : (i v : ℕ) → v < g.vertex_count → i ≤ depth v → is_distinct (walk_vertices g v (up_edges i v)) ≡ true
  unfolding up_edges
  up-distinct zero v l h = refl
  up-distinct (suc i) v l h =
      let p : 0 < depth v = omega arith in
      let q : i ≤ depth (parent v) = omega (arith, t.parent_depth v l p) in
      subst (λ (k : ℕ). is_distinct (v ∷ walk_vertices g k (up_edges i (parent v))) ≡ true) (sym (t.parent_edge_leads v l p))
      (distinct-cons v (walk_vertices g (parent v) (up_edges i (parent v)))
      (false_from_ne_true (is_member v (walk_vertices g (parent v) (up_edges i (parent v)))) (λ m. absurd (omega (arith, t.parent_depth v l p, up-met i (parent v) (t.parent_in v l p) q v m))))
      (up-distinct i (parent v) (t.parent_in v l p) q))

  -- the path up to an ancestor
  pub up-path : (i v : ℕ) → v < g.vertex_count → i ≤ depth v → IsPath g v (up_edges i v) (iterate parent i v)
  up-path i v l h = record { walk = up-walk i v l h; arrives = up-end i v l h; vertices = up-distinct i v l h }

  -- each of its edges is a parent edge
  pub up-edge : (i v : ℕ) → v < g.vertex_count → i ≤ depth v → (k : ℕ) → is_member k (up_edges i v) ≡ true → (j : ℕ) × (j < i) × (k ≡ parent_edge (iterate parent j v))
  unfolding up_edges
  up-edge zero v l h k m = absurd (true≢false (sym m))
  up-edge (suc i) v l h k m =
      let p : 0 < depth v = omega arith in
      elim (member-cases k (parent_edge v) (up_edges i (parent v)) m) [
        | inl e ↦ (0, omega arith, sym e)
        | inr n ↦
            let r = up-edge i (parent v) (t.parent_in v l p) (omega (arith, t.parent_depth v l p)) k n in
            let e : iterate parent r.0 (parent v) ≡ iterate parent (suc r.0) v = sym (iterate-first parent r.0 v) ∙ iterate-more parent r.0 v in
            (suc r.0, omega (arith, r.1), r.2 ∙ ap parent_edge e)
      ]

  -- the parent edge of each vertex on it but the last is one of its edges
  pub edge-up : (i j v : ℕ) → j < i → is_member (parent_edge (iterate parent j v)) (up_edges i v) ≡ true
  unfolding up_edges
  edge-up zero j v h = absurd (omega arith)
  edge-up (suc i) zero v h = member-head (parent_edge v) (up_edges i (parent v))
  edge-up (suc i) (suc j) v h =
      let e : iterate parent j (parent v) ≡ iterate parent (suc j) v = sym (iterate-first parent j v) ∙ iterate-more parent j v in
      member-tail (parent_edge (iterate parent (suc j) v)) (parent_edge v) (up_edges i (parent v))
      (subst (λ (k : ℕ). is_member (parent_edge k) (up_edges i (parent v)) ≡ true) e (edge-up i j (parent v) (omega arith)))

  -- an edge that is no parent edge, from its lower end i + 1 steps up, has a cycle with each parent edge on the way
  pub frond-cycle : IsGraph g → (e i j : ℕ) → e < edge_count g → parent_edge (lower e) ≢ e → i < depth (lower e) → iterate parent (i + 1) (lower e) ≡ other_end g e (lower e) → j ≤ i → CommonCycle g e (parent_edge (iterate parent j (lower e)))
  frond-cycle gg e i j l n w at h = record {
    start = z;
    along = up_edges (i + 1) z ++ e ∷ [];
    cycle = cycle_of_paths g z y (up_edges (i + 1) z) (e ∷ []) up back differ apart (λ v m k. common v k);
    first_on = member-append_right e (up_edges (i + 1) z) (e ∷ []) (member-head e []);
    second_on = member-append_left (parent_edge (iterate parent j z)) (up_edges (i + 1) z) (e ∷ []) (edge-up (i + 1) j z (omega arith));
  }
    where
      z : ℕ
      z = lower e

      y : ℕ
      y = other_end g e z

      z-in : z < g.vertex_count
      z-in = end-in g gg e z l (t.lower_end e l)

      up : IsPath g z (up_edges (i + 1) z) y
      up = subst (IsPath g z (up_edges (i + 1) z)) at (up-path (i + 1) z z-in (omega arith))

      differ : z ≢ y
      differ q = absurd (omega (arith, chain-depth g parent depth parent_edge lower t (i + 1) z z-in (omega arith), ap depth (at ∙ sym q)))

      back : IsPath g y (e ∷ []) z
      back = record {
        walk = ((l, other_end-is_end g e z), tt);
        arrives = other-other g e z (t.lower_end e l);
        vertices = subst (λ (k : ℕ). is_distinct (y ∷ (k ∷ [])) ≡ true) (sym (other-other g e z (t.lower_end e l))) (distinct-cons y (z ∷ []) (no_member-cons y z [] differ refl) refl);
      }

      apart : (k : ℕ) → is_member k (up_edges (i + 1) z) ≡ true → is_member k (e ∷ []) ≡ false
      apart k m = no_member-cons k e [] (λ q.
          let r = up-edge (i + 1) z z-in (omega arith) k m in
          let p : 0 < depth (iterate parent r.0 z) = omega (arith, chain-depth g parent depth parent_edge lower t r.0 z z-in (omega (arith, r.1)), r.1) in
          let s : e ≡ parent_edge (iterate parent r.0 z) = q ∙ r.2 in
          let u : iterate parent r.0 z ≡ z = sym (ap lower s ∙ t.parent_edge_lower (iterate parent r.0 z) (chain-in g parent depth parent_edge lower t r.0 z z-in (omega (arith, r.1))) p) in
          n (ap parent_edge (sym u) ∙ sym s)) refl

      common : (v : ℕ) → is_member v (walk_vertices g y (e ∷ [])) ≡ true → (v ≡ z) ⊎ (v ≡ y)
      common v m = elim (member-cases v y (other_end g e y ∷ []) m) [
        | inl q ↦ inr (sym q)
        | inr o ↦ elim (member-cases v (other_end g e y) [] o) [ inl q ↦ inl (sym q ∙ other-other g e z (t.lower_end e l)) | inr x ↦ absurd (true≢false (sym x)) ]
      ]
