-- A block of one or two edges is a single component.
use Rattle.std.proofs.Common.{◌≡◌, ◌≢◌, ℕ, ◌<◌, ◌≤◌, ◌⊎◌, ◌==◌, inl, inr, true, List, length, refl, sym, ap, ◌∙◌, subst, arith, All}
use Rattle.std.proofs.lemmas.Bool.{cases_eq, or_cases, eqb-true, eqb-false, ne_eqb}
use Rattle.std.proofs.lemmas.List.{length-map}
use Rattle.multigraph.specs.Graph.{Multigraph, edge_count, ends_of, is_end, numbers_below, IsGraph}
use Rattle.multigraph.proofs.Below.{length-numbers_below}
use Rattle.graph_theory.specs.Side.{IsCommon}
use Rattle.pair_split.specs.Edges.{graph_entry, graph_family, entry_ends, family_skeleton}
use Rattle.graph_theory.specs.Block.{IsOneBlock}
use Rattle.pair_split.specs.Skeleton.{SameEnds, IsSkeleton}
use Rattle.pair_split.specs.Split.{IsSplit}
use Rattle.pair_split.specs.State.{start_state, AreSplitComponents}
use Rattle.pair_split.specs.declared.components.Kind.TheVariants.{B}
use Rattle.pair_split.specs.declared.components.Comp.{Comp}
use Rattle.pair_split.proofs.Elements.{map-contains}
use Rattle.pair_split.proofs.GraphFamily.{graph-entry, all-from_contained}
use Rattle.pair_split.proofs.GraphSides.{block-two_common}
use Rattle.pair_split.proofs.Start.{state-start}
use Rattle.pair_split.proofs.Finish.{state-end}

-- two different vertices that are ends of both edges are the ends of both
pub both-ends : (a b c d p q : ℕ) → p ≢ q → (a ≡ p) ⊎ (b ≡ p) → (a ≡ q) ⊎ (b ≡ q) → (c ≡ p) ⊎ (d ≡ p) → (c ≡ q) ⊎ (d ≡ q) → ((a ≡ c) × (b ≡ d)) ⊎ ((a ≡ d) × (b ≡ c))
both-ends a b c d p q n f g h k = grind (arith, n, f, g, h, k)

-- which end a vertex is
which-end : (g : Multigraph) (v e : ℕ) → is_end g v e ≡ true → ((ends_of g e).0 ≡ v) ⊎ ((ends_of g e).1 ≡ v)
which-end g v e h = elim (or_cases ((ends_of g e).0 == v) ((ends_of g e).1 == v) h) [ inl a ↦ inl (eqb-true (ends_of g e).0 v a) | inr a ↦ inr (eqb-true (ends_of g e).1 v a) ]

module _ (g : Multigraph) (graph : IsGraph g) (block : IsOneBlock g) (few : edge_count g ≤ 2) where
  -- each edge has the ends of the first
  parallel : (e : ℕ) → e < edge_count g → SameEnds (ends_of g 0) (ends_of g e)
  parallel e l = elim (cases_eq e 0) [
    | inl q ↦ inl (ap (λ z. (ends_of g z).0) (sym q), ap (λ z. (ends_of g z).1) (sym q))
    | inr n ↦
        let t = block-two_common g block (λ z. z == 0) 0 e (omega (arith, l)) l refl (ne_eqb e 0 n) in
        let x = t.first_common in
        let y = t.second_common in
        both-ends (ends_of g 0).0 (ends_of g 0).1 (ends_of g e).0 (ends_of g e).1 t.first t.second t.differ
        (which-end g t.first 0 (at-first t.first x)) (which-end g t.second 0 (at-first t.second y))
        (which-end g t.first e (at-other t.first n x)) (which-end g t.second e (at-other t.second n y))
  ]
    where
      at-first : (v : ℕ) → IsCommon g (λ z. z == 0) v → is_end g v 0 ≡ true
      at-first v c = subst (λ z. is_end g v z ≡ true) (eqb-true c.inside 0 c.inside_side) c.inside_end

      at-other : (v : ℕ) → e ≢ 0 → IsCommon g (λ z. z == 0) v → is_end g v e ≡ true
      at-other v n c = let q : c.outside ≡ e = omega (arith, few, l, n, c.outside_edge, eqb-false c.outside 0 c.outside_side) in subst (λ z. is_end g v z ≡ true) q c.outside_end

  -- all its edges together are of the small kind
  pub small-skeleton : IsSkeleton B (family_skeleton (graph_family g))
  small-skeleton = record {
    of_kind = record {
      two = record { poles = ends_of g 0; differ = graph.no_loop 0 block.has_edge; joined = each (λ ends. SameEnds (ends_of g 0) ends) parallel };
      some = omega (arith, size, block.has_edge);
      few = omega (arith, size, few);
    };
    no_loops = each (λ ends. ends.0 ≢ ends.1) graph.no_loop;
  }
    where
      size : length (family_skeleton (graph_family g)) ≡ edge_count g
      size = length-map (graph_family g) entry_ends ∙ length-map (numbers_below (edge_count g)) (graph_entry g) ∙ length-numbers_below (edge_count g)

      each : (P : ℕ × ℕ → Type 0) → ((e : ℕ) → e < edge_count g → P (ends_of g e)) → All P (family_skeleton (graph_family g))
      each P h = all-from_contained P (family_skeleton (graph_family g)) (λ ends c.
          let x = map-contains entry_ends ends (graph_family g) c in
          let e = graph-entry g x.0 x.1 in
          subst P (ap entry_ends e.2 ∙ x.2) (h e.0 e.1))

  -- the single component of a block of one or two edges is a split component
  pub small-split : (comps : List Comp) → AreSplitComponents (edge_count g) (start_state g) B comps → IsSplit g comps
  small-split comps w = state-end g (start_state g) (state-start g graph) B comps w block.at_edge small-skeleton (λ q. refl)
