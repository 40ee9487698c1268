-- The tests of all edges and vertices together say what a drawing is.
use Rattle.std.proofs.Common.{◌≡◌, ℕ, ◌⊎◌, inl, inr, ◌<◌, ◌↔◌, true, false, not, ◌==◌, List, length, sym, ap, ◌∙◌, subst, arith}
use Rattle.std.proofs.lemmas.Bool.{cases_Bool, cases_order, eq-eqb, eqb-true, or_cases, or_left, or_right, not-true, not_from_false, false≢true, false_from_ne_true}
use Rattle.multigraph.specs.Graph.{Multigraph, edge_count, ends_of, is_end, IsGraph}
use Rattle.plane_points.specs.Turning.{IsCounterclockwise}
use Rattle.plane_points.specs.Segments.{times, is_on}
use Rattle.plane_points.proofs.Rays.{weighted-on, on-weighted}
use Rattle.grid_drawing.specs.Drawing.{point_at, AreApart, MeetAtEnds, PassesBy, points_around, IsDrawing}
use Rattle.grid_drawing.specs.Tests.{is_clear, passes_by}
use Rattle.grid_drawing.proofs.Pairs.{Ends, Clear, AreSeparate, clear-told}

ends-is : (g : Multigraph) (v e : ℕ) → is_end g v e ≡ true → Ends (ends_of g e) v
ends-is g v e h = elim (or_cases ((ends_of g e).0 == v) ((ends_of g e).1 == v) h) [ inl k ↦ inl (eqb-true (ends_of g e).0 v k) | inr k ↦ inr (eqb-true (ends_of g e).1 v k) ]

is-ends : (g : Multigraph) (v e : ℕ) → Ends (ends_of g e) v → is_end g v e ≡ true
is-ends g v e (inl h) = or_left ((ends_of g e).0 == v) ((ends_of g e).1 == v) (eq-eqb (ends_of g e).0 v h)
is-ends g v e (inr h) = or_right ((ends_of g e).0 == v) ((ends_of g e).1 == v) (eq-eqb (ends_of g e).1 v h)

module _ (g : Multigraph) (graph : IsGraph g) (points : List (ℕ × ℕ)) where
  separate : AreApart g points → (e f : ℕ) → e < edge_count g → f < edge_count g → AreSeparate (point_at points) (ends_of g e) (ends_of g f)
  separate a e f h k = record { first = graph.no_loop e h; second = graph.no_loop f k; apart = λ u v x y p. a u v (within u x) (within v y) p }
    where
      end : (e : ℕ) → e < edge_count g → (u : ℕ) → Ends (ends_of g e) u → u < g.vertex_count
      end e h u (inl x) = subst (λ (i : ℕ). i < g.vertex_count) x (graph.first_in e h)
      end e h u (inr x) = subst (λ (i : ℕ). i < g.vertex_count) x (graph.second_in e h)

      within : (u : ℕ) → Ends (ends_of g e) u ⊎ Ends (ends_of g f) u → u < g.vertex_count
      within u (inl x) = end e h u x
      within u (inr x) = end f k u x

  meet-clear : (e f : ℕ) → MeetAtEnds g points e f → Clear (point_at points) (ends_of g e) (ends_of g f)
  meet-clear e f m s t u w n i k = let r = m s t u w n i k in (r.vertex, ends-is g r.vertex e r.first, ends-is g r.vertex f r.second, r.there)

  clear-meet : (e f : ℕ) → Clear (point_at points) (ends_of g e) (ends_of g f) → MeetAtEnds g points e f
  clear-meet e f c s t u w n i k = let r = c s t u w n i k in record { vertex = r.0; first = is-ends g r.0 e r.1; second = is-ends g r.0 f r.2; there = r.3 }

  meet-back : (e f : ℕ) → MeetAtEnds g points e f → MeetAtEnds g points f e
  meet-back e f m s t u w n i k = let r = m u w s t (omega (arith, n, i)) (sym i) (sym k) in
      record { vertex = r.vertex; first = r.second; second = r.first; there = k ∙ (r.there ∙ ap (λ (j : ℕ). times j (point_at points r.vertex)) (sym i)) }

  passes-from : (e v : ℕ) → passes_by g (point_at points) e v ≡ true → is_end g v e ≡ false → PassesBy g points e v
  passes-from e v h n s t p k = elim (or_cases (is_end g v e) (not (is_on (point_at points (ends_of g e).0) (point_at points (ends_of g e).1) (point_at points v))) h) [
    | inl x ↦ false≢true (sym n ∙ x)
    | inr x ↦ false≢true (sym (not-true (is_on (point_at points (ends_of g e).0) (point_at points (ends_of g e).1) (point_at points v)) x) ∙ weighted-on (point_at points (ends_of g e).0) (point_at points (ends_of g e).1) (point_at points v) s t p k)
  ]

  passes-to : (e v : ℕ) → (is_end g v e ≡ false → PassesBy g points e v) → passes_by g (point_at points) e v ≡ true
  passes-to e v h = elim (cases_Bool (is_end g v e)) [
    | inl x ↦ or_left (is_end g v e) (not (is_on (point_at points (ends_of g e).0) (point_at points (ends_of g e).1) (point_at points v))) x
    | inr x ↦ or_right (is_end g v e) (not (is_on (point_at points (ends_of g e).0) (point_at points (ends_of g e).1) (point_at points v)))
        (not_from_false (is_on (point_at points (ends_of g e).0) (point_at points (ends_of g e).1) (point_at points v)) (false_from_ne_true (is_on (point_at points (ends_of g e).0) (point_at points (ends_of g e).1) (point_at points v))
        (λ k. let w = on-weighted (point_at points (ends_of g e).0) (point_at points (ends_of g e).1) (point_at points v) k in h x w.0 w.1 w.2 w.3)))
  ]

  clear-at : AreApart g points → (e f : ℕ) → e < edge_count g → f < edge_count g → (is_clear (point_at points) (ends_of g e) (ends_of g f) ≡ true) ↔ Clear (point_at points) (ends_of g e) (ends_of g f)
  clear-at a e f h k = clear-told (point_at points) (ends_of g e).0 (ends_of g e).1 (ends_of g f).0 (ends_of g f).1 (separate a e f h k)

  pub drawing-from : (r : List (List ℕ)) → length points ≡ g.vertex_count → AreApart g points → ((e f : ℕ) → e < edge_count g → f < e → is_clear (point_at points) (ends_of g e) (ends_of g f) ≡ true)
      → ((e v : ℕ) → e < edge_count g → v < g.vertex_count → passes_by g (point_at points) e v ≡ true)
      → ((v : ℕ) → v < g.vertex_count → IsCounterclockwise (point_at points v) (points_around g r points v)) → IsDrawing g r points
  drawing-from r n a c p o = record {
    each = n;
    apart = a;
    meet = λ e f h k d. elim (cases_order e f) [
      | inl s ↦ absurd (d s)
      | inr (inl l) ↦ meet-back f e (clear-meet f e ((clear-at a f e k h).0 (c f e k l)))
      | inr (inr l) ↦ clear-meet e f ((clear-at a e f h k).0 (c e f h l))
    ];
    pass = λ e v h k x. passes-from e v (p e v h k) x;
    around = o;
  }

  pub drawing-clear : (r : List (List ℕ)) → IsDrawing g r points → (e f : ℕ) → e < edge_count g → f < e → is_clear (point_at points) (ends_of g e) (ends_of g f) ≡ true
  drawing-clear r d e f h k = (clear-at d.apart e f h (omega (arith, h, k))).1 (meet-clear e f (d.meet e f h (omega (arith, h, k)) (λ s. omega (arith, s, k))))

  pub drawing-pass : (r : List (List ℕ)) → IsDrawing g r points → (e v : ℕ) → e < edge_count g → v < g.vertex_count → passes_by g (point_at points) e v ≡ true
  drawing-pass r d e v h k = passes-to e v (d.pass e v h k)
