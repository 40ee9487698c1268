-- Sides of a graph's edges, and of its family.
use Rattle.std.proofs.Common.{◌≡◌, ℕ, ◌<◌, inl, inr, Bool, true, false, sym, ap, ◌∙◌, subst}
use Rattle.std.proofs.lemmas.Bool.{both_ways, not-true}
use Rattle.multigraph.specs.Graph.{Multigraph, edge_count}
use Rattle.graph_theory.specs.Side.{IsCommon}
use Rattle.graph_theory.proofs.Crossings.{TwoCommon, cycle-two_common}
use Rattle.pair_split.specs.Family.{Entry, has_end, is_common}
use Rattle.pair_split.specs.Edges.{graph_family}
use Rattle.graph_theory.specs.Block.{IsOneBlock}
use Rattle.pair_split.proofs.Sides.{common-inside, common-outside}
use Rattle.pair_split.proofs.GraphFamily.{graph-entry}

-- a vertex that two sides have in common as entries, they have in common as edges
pub family-common : (g : Multigraph) (s : ℕ → Bool) (v : ℕ) → is_common (graph_family g) s v ≡ true → IsCommon g s v
family-common g s v h =
    let i = common-inside (graph_family g) s v h in
    let o = common-outside (graph_family g) s v h in
    let e = graph-entry g i.entry i.within in
    let f = graph-entry g o.entry o.within in
    record {
      inside = e.0;
      outside = f.0;
      inside_edge = e.1;
      outside_edge = f.1;
      inside_end = subst (λ (entry : Entry). has_end v entry ≡ true) (sym e.2) i.end;
      outside_end = subst (λ (entry : Entry). has_end v entry ≡ true) (sym f.2) o.end;
      inside_side = subst (λ (entry : Entry). s entry.name ≡ true) (sym e.2) i.side;
      outside_side = subst (λ (entry : Entry). s entry.name ≡ false) (sym f.2) (not-true (s o.entry.name) o.side);
    }

-- what two sides have in common depends only on the edges
pub common-same : (g : Multigraph) (s t : ℕ → Bool) → ((e : ℕ) → e < edge_count g → s e ≡ t e) → (v : ℕ) → IsCommon g s v → IsCommon g t v
common-same g s t h v c = record {
  inside = c.inside;
  outside = c.outside;
  inside_edge = c.inside_edge;
  outside_edge = c.outside_edge;
  inside_end = c.inside_end;
  outside_end = c.outside_end;
  inside_side = sym (h c.inside c.inside_edge) ∙ c.inside_side;
  outside_side = sym (h c.outside c.outside_edge) ∙ c.outside_side;
}

-- two sides of a block that have an edge each have two common vertices
pub block-two_common : (g : Multigraph) → IsOneBlock g → (s : ℕ → Bool) (e f : ℕ) → e < edge_count g → f < edge_count g → s e ≡ true → s f ≡ false → TwoCommon g s
block-two_common g b s e f l k i o = elim (b.same_block e f l k) [
  | inl q ↦ absurd (both_ways (s f) o (ap s (sym q) ∙ i))
  | inr c ↦ cycle-two_common g s c.start c.along e f c.cycle c.first_on c.second_on i o
]
