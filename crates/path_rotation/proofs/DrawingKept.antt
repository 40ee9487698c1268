-- What is drawn is a drawing, by its tables: one edge at first, and still with a path more.
use Rattle.std.proofs.Common.{◌≡◌, ◌∙◌, ℕ, ◌/◌, ◌<◌, Bool, true, false, ◌&&◌, ◌==◌, List, slice_index, refl, sym, ap, subst, arith}
use Rattle.permutations.specs.Permutation.{Permutes}
use Rattle.permutations.proofs.Orbits.{orbit-ext}
use Rattle.permutations.proofs.Search.{some-witness}
use Rattle.multigraph.specs.Graph.{Multigraph, edge_count, is_end, other_end, IsGraph}
use Rattle.multigraph.specs.Marks.{is_marked}
use Rattle.multigraph.proofs.DartEnds.{dart_from-of_dart}
use Rattle.dart_maps.specs.Map.{twin, same_face}
use Rattle.dart_maps.specs.Path.{path_inserted}
use Rattle.dart_maps.proofs.Euler.{plane-ext, still-plane}
use Rattle.faces.specs.Euler.{tail, dart_from, dart_count}
use Rattle.std.proofs.Math.Path.{fun_ext}
use Rattle.path_separation.specs.Drawn.{IsDrawing, IsUncut, darts_along}
use Rattle.path_separation.proofs.Drawings.{edge-drawing, path-drawing, finished-drawing}
use Rattle.path_rotation.specs.Forced.{is_drawn, AreTables, LeadsOff, IsPathDrawn, IsDrawingBy}
use Rattle.path_rotation.specs.Finish.{IsPlaneOrder}
use Rattle.path_rotation.proofs.PathTables.{edge-off}

-- a permutation below n is one by the same values
permutes-agree : (n : ℕ) (f h g : ℕ → ℕ) → ((x : ℕ) → x < n → h x ≡ f x) → Permutes n f g → Permutes n h g
permutes-agree n f h g e p = record {
  forth = λ x l. subst (λ (y : ℕ). y < n) (sym (e x l)) (p.forth x l);
  back = p.back;
  back_forth = λ x l. ap g (e x l) ∙ p.back_forth x l;
  forth_back = λ x l. e (g x) (p.back x l) ∙ p.forth_back x l;
}

-- a drawing by the same tests and the same map of the darts
pub drawing-agree : (g : Multigraph) (drawn more : ℕ → Bool) (next other previous : ℕ → ℕ) → ((e : ℕ) → more e ≡ drawn e) → ((d : ℕ) → d < dart_count g → other d ≡ next d) → IsDrawing g drawn next previous → IsDrawing g more other previous
drawing-agree g drawn more next other previous same e s = record {
  map = record {
    permutes = permutes-agree (dart_count g) next other previous e s.map.permutes;
    alone = λ d l h. e d l ∙ s.map.alone d l (sym (same (d / 2)) ∙ h);
    tails = λ d l. ap (tail g) (e d l) ∙ s.map.tails d l;
    vertices = λ c d l k h i q. orbit-ext (dart_count g) other next e c d ∙ s.map.vertices c d l k (sym (same (c / 2)) ∙ h) (sym (same (d / 2)) ∙ i) q;
  };
  plane = plane-ext (edge_count g) next other (λ d l. sym (e d l)) s.plane;
  uncut = subst (IsUncut g) (sym (fun_ext same)) s.uncut;
}

-- one edge
pub edge-drawn : (g : Multigraph) → IsGraph g → (e : ℕ) → e < edge_count g → (drawn : List Bool) (next : List ℕ) → ((h : ℕ) → is_marked drawn h ≡ (e == h)) → ((d : ℕ) → d < dart_count g → slice_index next d ≡ d) → IsDrawingBy g drawn next
edge-drawn g ok e l drawn next marked still = (λ d. d, drawing-agree g (λ f. e == f) (is_marked drawn) (λ d. d) (slice_index next) (λ d. d) marked still (edge-drawing g ok e l))

-- a path more, between corners of one face
pub path-drawn : (g : Multigraph) → IsGraph g → (drawn on : List Bool) (next : List ℕ) → AreTables g drawn on next → (t : ℕ) → t < dart_count g → is_drawn drawn t ≡ false → is_marked on (tail g t) ≡ true
    → (along : List ℕ) (z : ℕ) → LeadsOff g on t along z → (c k : ℕ) → c < dart_count g → is_drawn drawn c ≡ true → tail g c ≡ tail g t → k < dart_count g → is_drawn drawn k ≡ true → tail g k ≡ z
    → same_face (edge_count g) (slice_index next) (twin c) (twin k) ≡ true
    → (label : List ℕ) (new_drawn new_on : List Bool) (new_next new_label : List ℕ) → IsPathDrawn g t along c k drawn on next label new_drawn new_on new_next new_label → IsDrawingBy g drawn next → IsDrawingBy g new_drawn new_next
path-drawn g ok drawn on next tables t l off start along z p c k lc hc tc lk hk tk f label new_drawn new_on new_next new_label w s =
    let more = path-drawing g ok (is_marked drawn) (is_marked new_drawn) (slice_index next) s.0 s.1 (tail g t) z (t / 2) along
    (record {
      path = p.path;
      starts = sym (tables.on_drawn (tail g t)) ∙ start;
      arrives = sym (tables.on_drawn z) ∙ p.arrives;
      inner = λ v m h. p.inner v m (tables.on_drawn v ∙ h);
      undrawn = edge-off g ok drawn on next tables t l off start along z p;
    }) w.edges_marked c k (lc, hc, tc) (lk, hk, tk) f in (
      more.0,
      drawing-agree g (is_marked new_drawn) (is_marked new_drawn) (path_inserted c (dart_from g (tail g t) (t / 2)) (darts_along g (other_end g (t / 2) (tail g t)) along) k (slice_index next)) (slice_index new_next) more.0
          (λ e. refl)
          (λ d i. w.darts_inserted d i ∙ ap (λ (y : ℕ). path_inserted c y (darts_along g (other_end g (t / 2) (tail g t)) along) k (slice_index next) d) (sym (dart_from-of_dart g t ok l)))
          more.1,
    )

-- where all edges are drawn, the map is that of a plane rotation system
pub drawn-order : (g : Multigraph) → IsGraph g → (drawn : List Bool) (next : List ℕ) → IsDrawingBy g drawn next → ((e : ℕ) → e < edge_count g → is_marked drawn e ≡ true) → IsPlaneOrder g next
drawn-order g ok drawn next s all = finished-drawing g ok (is_marked drawn) (slice_index next) s.0 s.1 all

-- and where there is no edge
pub none-order : (g : Multigraph) → IsGraph g → edge_count g ≡ 0 → (next : List ℕ) → IsPlaneOrder g next
none-order g ok z next = finished-drawing g ok (λ e. false) (slice_index next) (slice_index next) (record {
  map = record {
    permutes = record { forth = λ x l. absurd (omega (arith, l, z)); back = λ x l. absurd (omega (arith, l, z)); back_forth = λ x l. absurd (omega (arith, l, z)); forth_back = λ x l. absurd (omega (arith, l, z)) };
    alone = λ d l. absurd (omega (arith, l, z));
    tails = λ d l. absurd (omega (arith, l, z));
    vertices = λ c d l. absurd (omega (arith, l, z));
  };
  plane = still-plane (edge_count g) (slice_index next) (λ d l. absurd (omega (arith, l, z)));
  uncut = λ u v w h. let e = some-witness (edge_count g) (λ e. false && is_end g v e) h in absurd (omega (arith, e.1, z));
}) (λ e l. absurd (omega (arith, l, z)))
