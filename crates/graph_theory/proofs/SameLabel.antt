-- Edges whose lower ends have one label are in one block: each edge closes a cycle over the parent edges above its lower end.
use Rattle.std.proofs.Common.{◌≡◌, ℕ, zero, suc, ◌+◌, ◌<◌, ◌≤◌, inl, inr, sym, ap, ◌∙◌, subst, arith}
use Rattle.std.proofs.lemmas.Bool.{cases_lt, cases_eq}
use Rattle.permutations.specs.Permutation.{iterate}
use Rattle.permutations.proofs.Iterates.{iterate-sum}
use Rattle.multigraph.specs.Graph.{Multigraph, edge_count, other_end, IsGraph}
use Rattle.graph_theory.specs.Block.{SameBlock}
use Rattle.graph_theory.specs.SearchTree.{IsBelow, IsSearchForest, LeadsTo, AreLowPoints, AreLabels}
use Rattle.graph_theory.proofs.Ends.{end-in}
use Rattle.graph_theory.proofs.Exchange.{block-symmetric, block-transitive}
use Rattle.graph_theory.proofs.Chains.{chain-depth, below-depth, below-transitive, below-reflexive, below-parent, below-cases}
use Rattle.graph_theory.proofs.TreePaths.{frond-cycle}

module _ (g : Multigraph) (i : IsGraph g) (parent depth parent_edge lower low label : ℕ → ℕ) (t : IsSearchForest g parent depth parent_edge lower) (p : AreLowPoints g parent depth parent_edge lower low) (a : AreLabels g parent depth low label) where
  -- the lower end of an edge is a vertex
  pub lower-in : (e : ℕ) → e < edge_count g → lower e < g.vertex_count
  lower-in e l = end-in g i e (lower e) l (t.lower_end e l)

  -- the lower end of an edge is no root
  pub lower-depth : (e : ℕ) → e < edge_count g → 0 < depth (lower e)
  lower-depth e l = omega (arith, (t.upper_above e l).1)

  -- an edge is in the block of the parent edge of its lower end
  pub block-lower : (e : ℕ) → e < edge_count g → SameBlock g e (parent_edge (lower e))
  block-lower e l = elim (cases_eq (parent_edge (lower e)) e) [
    | inl q ↦ inl (sym q)
    | inr n ↦ let u = t.upper_above e l in inr (frond-cycle g parent depth parent_edge lower t i e u.0 0 l n u.1 u.2 (omega arith))
  ]

  -- where something below v leads past the parent of v, the parent is no root, and its parent edge is in the block of v's
  pub block-up : (v : ℕ) → v < g.vertex_count → 0 < depth v → low v < depth (parent v) → SameBlock g (parent_edge v) (parent_edge (parent v))
  block-up v l d h = elim (p.witness v l) [
    | inl q ↦ absurd (omega (arith, t.parent_depth v l d))
    | inr w ↦ by w (t.upper_above w.edge w.edge_in)
  ]
    where
      by : (w : LeadsTo g parent depth parent_edge lower v (low v)) → (k : ℕ) × (k < depth (lower w.edge)) × (iterate parent (k + 1) (lower w.edge) ≡ other_end g w.edge (lower w.edge)) → SameBlock g (parent_edge v) (parent_edge (parent v))
      by w u =
          let z = lower w.edge in
          let zl : z < g.vertex_count = lower-in w.edge w.edge_in in
          let s = w.below.steps in
          let dz : depth v + s ≡ depth z = below-depth g parent depth parent_edge lower t v z zl w.below in
          let dy : depth (other_end g w.edge z) + (u.0 + 1) ≡ depth z = subst (λ (k : ℕ). depth k + (u.0 + 1) ≡ depth z) u.2 (chain-depth g parent depth parent_edge lower t (u.0 + 1) z zl (omega (arith, u.1))) in
          let m : s + 1 ≤ u.0 = omega (arith, w.reached, t.parent_depth v l d) in
          let first : SameBlock g w.edge (parent_edge v) = subst (λ (k : ℕ). SameBlock g w.edge (parent_edge k)) w.below.leads (inr (frond-cycle g parent depth parent_edge lower t i w.edge u.0 s w.edge_in w.frond u.1 u.2 (omega arith))) in
          let at : iterate parent (1 + s) z ≡ parent v = iterate-sum parent 1 s z ∙ ap parent w.below.leads in
          let second : SameBlock g w.edge (parent_edge (parent v)) = subst (λ (k : ℕ). SameBlock g w.edge (parent_edge k)) at (inr (frond-cycle g parent depth parent_edge lower t i w.edge u.0 (1 + s) w.edge_in w.frond u.1 u.2 (omega arith))) in
          block-transitive g i (parent_edge v) w.edge (parent_edge (parent v)) (block-symmetric g w.edge (parent_edge v) first) second

  -- what the label of a vertex with a parent is: an ancestor or the vertex itself, past whose parent nothing leads, and
  -- whose parent edge is in the block of the vertex's
  pub record Labelled (v : ℕ) : Type 0 where
    pub label_in : label v < g.vertex_count
    pub label_depth : 0 < depth (label v)
    pub is_head : depth (parent (label v)) ≤ low (label v)
    pub above : IsBelow parent depth (label v) v
    pub block : SameBlock g (parent_edge v) (parent_edge (label v))
    pub nearest : (h : ℕ) → 0 < depth h → depth (parent h) ≤ low h → IsBelow parent depth h v → IsBelow parent depth h (label v)

  -- every vertex with a parent has such a label
  pub labelled : (fuel v : ℕ) → depth v < fuel → v < g.vertex_count → 0 < depth v → Labelled v
  labelled zero v f l d = absurd (omega arith)
  labelled (suc fuel) v f l d = elim (cases_lt (low v) (depth (parent v))) [
    | inl h ↦ later h (labelled fuel (parent v) (omega (arith, t.parent_depth v l d)) (t.parent_in v l d) (omega arith))
    | inr h ↦ here h (a.own v l d h)
  ]
    where
      here : depth (parent v) ≤ low v → label v ≡ v → Labelled v
      here h e = record {
        label_in = subst (λ (k : ℕ). k < g.vertex_count) (sym e) l;
        label_depth = subst (λ (k : ℕ). 0 < depth k) (sym e) d;
        is_head = subst (λ (k : ℕ). depth (parent k) ≤ low k) (sym e) h;
        above = subst (λ (k : ℕ). IsBelow parent depth k v) (sym e) (below-reflexive g parent depth parent_edge lower t v);
        block = inl (ap parent_edge (sym e));
        nearest = λ q dq hq b. subst (IsBelow parent depth q) (sym e) b;
      }

      later : low v < depth (parent v) → Labelled (parent v) → Labelled v
      later h r = record {
        label_in = subst (λ (k : ℕ). k < g.vertex_count) (sym e) r.label_in;
        label_depth = subst (λ (k : ℕ). 0 < depth k) (sym e) r.label_depth;
        is_head = subst (λ (k : ℕ). depth (parent k) ≤ low k) (sym e) r.is_head;
        above = subst (λ (k : ℕ). IsBelow parent depth k v) (sym e) (below-transitive g parent depth parent_edge lower t (label (parent v)) (parent v) v l r.above (below-parent g parent depth parent_edge lower t v d));
        block = subst (λ (k : ℕ). SameBlock g (parent_edge v) (parent_edge k)) (sym e) (block-transitive g i (parent_edge v) (parent_edge (parent v)) (parent_edge (label (parent v))) (block-up v l d h) r.block);
        nearest = λ q dq hq b. subst (IsBelow parent depth q) (sym e) (r.nearest q dq hq (up q hq b));
      }
        where
          e : label v ≡ label (parent v)
          e = a.same v l d h

          up : (q : ℕ) → depth (parent q) ≤ low q → IsBelow parent depth q v → IsBelow parent depth q (parent v)
          up q hq b = elim (below-cases g parent depth parent_edge lower t q v b l) [
            | inl s ↦ absurd (omega (arith, subst (λ (k : ℕ). depth (parent k) ≤ low k) (sym s) hq))
            | inr u ↦ u.1
          ]

  -- the label of a vertex with a parent
  pub label-of : (v : ℕ) → v < g.vertex_count → 0 < depth v → Labelled v
  label-of v l d = labelled (suc (depth v)) v (omega arith) l d

  -- edges whose lower ends have one label are in one block
  pub same_label-block : (e f : ℕ) → e < edge_count g → f < edge_count g → label (lower e) ≡ label (lower f) → SameBlock g e f
  same_label-block e f l k h =
      let u = label-of (lower e) (lower-in e l) (lower-depth e l) in
      let v = label-of (lower f) (lower-in f k) (lower-depth f k) in
      let x : SameBlock g e (parent_edge (label (lower e))) = block-transitive g i e (parent_edge (lower e)) (parent_edge (label (lower e))) (block-lower e l) u.block in
      let y : SameBlock g f (parent_edge (label (lower f))) = block-transitive g i f (parent_edge (lower f)) (parent_edge (label (lower f))) (block-lower f k) v.block in
      block-transitive g i e (parent_edge (label (lower e))) f x (subst (λ (q : ℕ). SameBlock g (parent_edge q) f) (sym h) (block-symmetric g f (parent_edge (label (lower f))) y))
