-- Each connected graph without parallel edges that has a plane rotation system has a triangulation.
use Rattle.std.proofs.Common.{◌≡◌, ℕ, zero, suc, ◌+◌, ◌*◌, ◌<◌, ◌≤◌, true, false, List, length, slice_index, inl, inr, refl, sym, ap, subst, arith, le_refl}
use Rattle.std.proofs.lemmas.Bool.{cases_Bool}
use Rattle.std.proofs.lemmas.List.{length-append}
use Rattle.permutations.proofs.Permutations.{permutes-ext}
use Rattle.dart_maps.specs.Map.{twin, face, IsMap}
use Rattle.multigraph.specs.Graph.{Multigraph, edge_count, IsGraph}
use Rattle.graph_theory.specs.Connected.{IsConnected}
use Rattle.graph_theory.specs.Triconnected.{IsSimple}
use Rattle.faces.specs.Euler.{tail, dart_count, IsPlaneSystem}
use Rattle.faces.specs.Maps.{dart_after, dart_before}
use Rattle.drawn_maps.proofs.Drawn.{more-edges, joined_back}
use Rattle.triangulations.specs.Triangulation.{Extends}
use Rattle.triangulations.specs.Cutting.{is_triangle, second_head, can_cut, cut_graph, cut_next, IsFilling}
use Rattle.triangulations.specs.Listed.{ListedMap, IsTriangulationOf, IsFilledMap, IsFillingMap}
use Rattle.triangulations.proofs.Cut.{cut-permutes}
use Rattle.triangulations.proofs.Filled.{left_over, filling-start, filling-end, filling-onward, filling-cut, onward-less, cut-less, filled-all}
use Rattle.triangulations.proofs.Start.{filled-none}
use Rattle.drawing_exists.proofs.Tables.{table, table-at}

-- a map of n darts as lists
listed_map : Multigraph → (ℕ → ℕ) → (ℕ → ℕ) → ℕ → ListedMap
listed_map h next previous n = record { graph = h; next = table next n; previous = table previous n }

-- the map with an edge that cuts off the triangle of dart d
cut_map : ListedMap → ℕ → ListedMap
cut_map t d = listed_map (cut_graph t.graph (slice_index t.next) d) (cut_next (edge_count t.graph) (slice_index t.next) (slice_index t.previous) d)
    (joined_back (edge_count t.graph) (slice_index t.previous d) (twin (face (slice_index t.next) d)) (slice_index t.previous)) (2 * (edge_count t.graph + 1))

module _ (g : Multigraph) (r : List (List ℕ)) (start : ℕ) where
  module _ (t : ListedMap) (d : ℕ) (f : IsFillingMap g r start d t) (long : is_triangle (slice_index t.next) d ≡ false) (can : can_cut t.graph (slice_index t.next) d ≡ true) where
    abbrev m : ℕ
    m = edge_count t.graph

    abbrev next : ℕ → ℕ
    next = slice_index t.next

    abbrev previous : ℕ → ℕ
    previous = slice_index t.previous

    abbrev after : ℕ → ℕ
    after = slice_index (table (cut_next m next previous d) (2 * (m + 1)))

    abbrev back : ℕ → ℕ
    back = slice_index (table (joined_back m (previous d) (twin (face next d)) previous) (2 * (m + 1)))

    made : (c : ℕ) → c < 2 * (m + 1) → after c ≡ cut_next m next previous d c
    made c l = table-at (cut_next m next previous d) (2 * (m + 1)) c 0 l

    after-map : IsMap (m + 1) after back
    after-map = permutes-ext (2 * (m + 1)) (cut_next m next previous d) (joined_back m (previous d) (twin (face next d)) previous) after back (cut-permutes m t.graph next previous f.map d f.dart can) made
        (λ c l. table-at (joined_back m (previous d) (twin (face next d)) previous) (2 * (m + 1)) c 0 l)

    -- the face that is left is filled next
    cut-filling : IsFillingMap g r start (2 * m) (cut_map t d)
    unfolding cut_map listed_map
    cut-filling = subst (λ (k : ℕ). IsFilling g r start (2 * m) k (cut_graph t.graph next d) after back) (sym (more-edges m t.graph t.graph.vertex_count (tail t.graph d, second_head t.graph next d) refl))
        (filling-cut g r start m t.graph next previous d f long can after back made after-map)

    cut-smaller : left_over (cut_map t d).graph (slice_index (cut_map t d).next) (2 * m) < left_over t.graph next d
    unfolding cut_map listed_map
    cut-smaller = cut-less m t.graph next previous f.map d f.dart can after (2 * m)

  -- a face is filled
  fill : (fuel : ℕ) (t : ListedMap) (d : ℕ) → IsFillingMap g r start d t → left_over t.graph (slice_index t.next) d < fuel → (u : ListedMap) × IsFilledMap g r (start + 1) u
  fill zero t d f l = absurd (omega (arith, l))
  fill (suc fuel) t d f l = elim (cases_Bool (is_triangle (slice_index t.next) d)) [
    | inl small ↦ (t, filling-end g r start (edge_count t.graph) t.graph (slice_index t.next) (slice_index t.previous) d f small)
    | inr long ↦ elim (cases_Bool (can_cut t.graph (slice_index t.next) d)) [
      | inl can ↦ fill fuel (cut_map t d) (2 * edge_count t.graph) (cut-filling t d f long can) (omega (arith, l, cut-smaller t d f long can))
      | inr not ↦ fill fuel t (face (slice_index t.next) d) (filling-onward g r start (edge_count t.graph) t.graph (slice_index t.next) (slice_index t.previous) d f)
          (omega (arith, l, onward-less (edge_count t.graph) t.graph (slice_index t.next) (slice_index t.previous) f.map d f.dart long not))
    ]
  ]

-- a map that extends that of g has the darts of g
at-least : (g : Multigraph) (r : List (List ℕ)) (m : ℕ) (h : Multigraph) (next : ℕ → ℕ) → Extends g r m h next → edge_count g ≤ edge_count h
at-least g r m h next e = omega (arith, ap (λ (l : List (ℕ × ℕ)). length l) e.ends, length-append g.ends e.more)

module _ (g : Multigraph) (r : List (List ℕ)) (graph : IsGraph g) (connected : IsConnected g) (three : 3 ≤ g.vertex_count) (plane : IsPlaneSystem g r) (simple : IsSimple g) where
  first : (t : ListedMap) × IsFilledMap g r 0 t
  first = (
    record { graph = g; next = table (dart_after g r) (dart_count g); previous = table (dart_before g r) (dart_count g) },
    filled-none g r graph connected three plane simple (slice_index (table (dart_after g r) (dart_count g))) (slice_index (table (dart_before g r) (dart_count g)))
        (λ d l. table-at (dart_after g r) (dart_count g) d 0 l) (λ d l. table-at (dart_before g r) (dart_count g) d 0 l),
  )

  filled : (k : ℕ) → k ≤ dart_count g → (t : ListedMap) × IsFilledMap g r k t
  filled zero l = first
  filled (suc k) l = more (filled k (omega (arith, l)))
    where
      more : (t : ListedMap) × IsFilledMap g r k t → (t : ListedMap) × IsFilledMap g r (suc k) t
      more (t, f) =
          let u = fill g r k (suc (left_over t.graph (slice_index t.next) k)) t k
          (filling-start g r k (edge_count t.graph) t.graph (slice_index t.next) (slice_index t.previous) f (omega (arith, l, at-least g r (edge_count t.graph) t.graph (slice_index t.next) f.extends))) (omega arith) in
          (u.0, subst (λ (j : ℕ). IsFilledMap g r j u.0) (omega arith) u.1)

  -- so all faces are
  pub triangulated : (t : ListedMap) × IsTriangulationOf g r t
  triangulated = let u = filled (dart_count g) (le_refl (dart_count g)) in
      (u.0, filled-all g r (edge_count u.0.graph) u.0.graph (slice_index u.0.next) (slice_index u.0.previous) u.1)
