-- Graphs without parallel edges; and the drawing of two vertices.
use Rattle.std.proofs.Common.{◌≡◌, ℕ, ◌<◌, ◌⊎◌, inl, inr, true, false, nat_lt, List, [], ◌∷◌, map, arith, refl, sym, ap, ◌∙◌, subst}
use Rattle.std.proofs.lemmas.Bool.{both_ways, cases_order, lt-ltb, and_from}
use Rattle.permutations.specs.Members.{is_member, is_distinct}
use Rattle.permutations.proofs.Members.{member-head, member-tail, distinct-head}
use Rattle.permutations.proofs.Search.{some-from}
use Rattle.multigraph.specs.Graph.{Multigraph, IsGraph, edge_count, ends_of, is_end, other_end}
use Rattle.multigraph.proofs.OtherEnd.{is_end-from_first, is_end-from_second}
use Rattle.graph_theory.specs.Triconnected.{AreParallel, IsSimple}
use Rattle.rotations.specs.Rotation.{order_at, IsRotationSystem}
use Rattle.rotations.proofs.Membership.{member-edge}
use Rattle.faces.proofs.DartLemmas.{member-incident, order-distinct}
use Rattle.plane_points.specs.Turning.{IsCounterclockwise}
use Rattle.stacked_maps.proofs.Lists.{counter-none, counter-one}
use Rattle.grid_drawing.specs.Drawing.{point_at, points_around}
use Rattle.grid_drawing.specs.Grid.{IsGridDrawing}
use Rattle.grid_drawing.specs.Parallel.{same_ends, is_later, has_later, has_parallel}
use Rattle.grid_drawing.proofs.SameEnds.{same-from}

-- where no edge has a later one with the same ends, no two edges have the same ends
pub none-parallel : (g : Multigraph) → has_parallel g ≡ false → IsSimple g
none-parallel g n e f k l s = elim (cases_order e f) [
  | inl q ↦ q
  | inr (inl i) ↦ absurd (never e f l i (same-from g e f s))
  | inr (inr i) ↦ absurd (never f e k i (same-from g f e (turned s)))
]
  where
    turned : AreParallel g e f → AreParallel g f e
    turned (inl p) = inl (sym p.0, sym p.1)
    turned (inr p) = inr (sym p.1, sym p.0)

    never : (a b : ℕ) → b < edge_count g → a < b → same_ends g a b ≡ true → ⊥
    never a b l i s = both_ways (has_parallel g) n
        (some-from (edge_count g) (has_later g) a (omega (arith, i, l)) (some-from (edge_count g) (is_later g a) b l (and_from (nat_lt a b) (same_ends g a b) (lt-ltb a b i) s)))

pub of-two : (v : ℕ) → v < 2 → (v ≡ 0) ⊎ (v ≡ 1)
of-two v l = elim (cases_order v 0) [
  | inl e ↦ inl e
  | inr (inl i) ↦ absurd (omega (arith, i))
  | inr (inr i) ↦ inr (omega (arith, i, l))
]

module _ (g : Multigraph) (r : List (List ℕ)) (graph : IsGraph g) (system : IsRotationSystem g r) (two : g.vertex_count ≡ 2) (n : has_parallel g ≡ false) where
  abbrev points : List (ℕ × ℕ)
  points = (0, 0) ∷ (1, 0) ∷ []

  below-two : (v : ℕ) → v < g.vertex_count → v < 2
  below-two v l = omega (arith, l, two)

  -- each edge goes between the two vertices
  ends-two : (e : ℕ) → e < edge_count g → (((ends_of g e).0 ≡ 0) × ((ends_of g e).1 ≡ 1)) ⊎ (((ends_of g e).0 ≡ 1) × ((ends_of g e).1 ≡ 0))
  ends-two e l = go (of-two (ends_of g e).0 (below-two (ends_of g e).0 (graph.first_in e l))) (of-two (ends_of g e).1 (below-two (ends_of g e).1 (graph.second_in e l)))
    where
      go : ((ends_of g e).0 ≡ 0) ⊎ ((ends_of g e).0 ≡ 1) → ((ends_of g e).1 ≡ 0) ⊎ ((ends_of g e).1 ≡ 1) → (((ends_of g e).0 ≡ 0) × ((ends_of g e).1 ≡ 1)) ⊎ (((ends_of g e).0 ≡ 1) × ((ends_of g e).1 ≡ 0))
      go (inl p) (inr q) = inl (p, q)
      go (inr p) (inl q) = inr (p, q)
      go (inl p) (inl q) = absurd (graph.no_loop e l (p ∙ sym q))
      go (inr p) (inr q) = absurd (graph.no_loop e l (p ∙ sym q))

  one-edge : (e f : ℕ) → e < edge_count g → f < edge_count g → e ≡ f
  one-edge e f k l = none-parallel g n e f k l (go (ends-two e k) (ends-two f l))
    where
      go : (((ends_of g e).0 ≡ 0) × ((ends_of g e).1 ≡ 1)) ⊎ (((ends_of g e).0 ≡ 1) × ((ends_of g e).1 ≡ 0)) → (((ends_of g f).0 ≡ 0) × ((ends_of g f).1 ≡ 1)) ⊎ (((ends_of g f).0 ≡ 1) × ((ends_of g f).1 ≡ 0)) → AreParallel g e f
      go (inl p) (inl q) = inl (p.0 ∙ sym q.0, p.1 ∙ sym q.1)
      go (inr p) (inr q) = inl (p.0 ∙ sym q.0, p.1 ∙ sym q.1)
      go (inl p) (inr q) = inr (p.0 ∙ sym q.1, p.1 ∙ sym q.0)
      go (inr p) (inl q) = inr (p.0 ∙ sym q.1, p.1 ∙ sym q.0)

  both-end : (e v : ℕ) → e < edge_count g → v < g.vertex_count → is_end g v e ≡ true
  both-end e v l k = go (ends-two e l) (of-two v (below-two v k))
    where
      go : (((ends_of g e).0 ≡ 0) × ((ends_of g e).1 ≡ 1)) ⊎ (((ends_of g e).0 ≡ 1) × ((ends_of g e).1 ≡ 0)) → (v ≡ 0) ⊎ (v ≡ 1) → is_end g v e ≡ true
      go (inl p) (inl q) = is_end-from_first g v e (p.0 ∙ sym q)
      go (inl p) (inr q) = is_end-from_second g v e (p.1 ∙ sym q)
      go (inr p) (inl q) = is_end-from_second g v e (p.1 ∙ sym q)
      go (inr p) (inr q) = is_end-from_first g v e (p.0 ∙ sym q)

  apart : (u v : ℕ) → u < g.vertex_count → v < g.vertex_count → point_at points u ≡ point_at points v → u ≡ v
  apart u v k l e = go (of-two u (below-two u k)) (of-two v (below-two v l))
    where
      ends-apart : point_at points 0 ≡ point_at points 1 → ⊥
      ends-apart q = omega (arith, ap (λ (p : ℕ × ℕ). p.0) q)

      go : (u ≡ 0) ⊎ (u ≡ 1) → (v ≡ 0) ⊎ (v ≡ 1) → u ≡ v
      go (inl p) (inl q) = p ∙ sym q
      go (inr p) (inr q) = p ∙ sym q
      go (inl p) (inr q) = absurd (ends-apart (ap (point_at points) (sym p) ∙ e ∙ ap (point_at points) q))
      go (inr p) (inl q) = absurd (ends-apart (ap (point_at points) (sym q) ∙ sym e ∙ ap (point_at points) p))

  around : (v : ℕ) → v < g.vertex_count → IsCounterclockwise (point_at points v) (points_around g r points v)
  around v l = go (order_at r v) refl
    where
      edge : (e : ℕ) → is_member e (order_at r v) ≡ true → e < edge_count g
      edge e i = member-edge g v e (member-incident g r v e system l i)

      go : (order : List ℕ) → order_at r v ≡ order → IsCounterclockwise (point_at points v) (points_around g r points v)
      go [] q = subst (λ (k : List ℕ). IsCounterclockwise (point_at points v) (map (λ e. point_at points (other_end g e v)) k)) (sym q) (counter-none (point_at points v))
      go (e ∷ []) q = subst (λ (k : List ℕ). IsCounterclockwise (point_at points v) (map (λ e. point_at points (other_end g e v)) k)) (sym q) (counter-one (point_at points v) (point_at points (other_end g e v)))
      go (e ∷ f ∷ rest) q = absurd (both_ways (is_member e (f ∷ rest)) (distinct-head e (f ∷ rest) (subst (λ (k : List ℕ). is_distinct k ≡ true) q (order-distinct g r v system l)))
          (subst (λ (x : ℕ). is_member x (f ∷ rest) ≡ true) (one-edge f e (edge f (ap (is_member f) q ∙ member-tail f e (f ∷ rest) (member-head f rest))) (edge e (ap (is_member e) q ∙ member-head e (f ∷ rest)))) (member-head f rest)))

  pub two-drawn : IsGridDrawing g r points
  two-drawn = record {
    drawing = record {
      each = sym two;
      apart = apart;
      meet = λ e f k l a. absurd (a (one-edge e f k l));
      pass = λ e v l k m. absurd (both_ways (is_end g v e) m (both-end e v l k));
      around = around;
    };
    grid = record { wide = λ l. absurd (omega (arith, l, two)); high = λ l. absurd (omega (arith, l, two)); two = λ _. refl };
  }
