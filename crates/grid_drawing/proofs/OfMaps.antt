-- The points of a triangulation that is drawn under its contour are a drawing of the graph that it extends.
use Rattle.std.proofs.Common.{◌≡◌, ◌≢◌, ℕ, ◌+◌, ◌*◌, ◌/◌, ◌%◌, ◌<◌, ◌≤◌, ◌⊎◌, inl, inr, Bool, true, false, ◌==◌, if◌then◌else◌, nat_lt, get_or, not, take, List, [], ◌∷◌, length, map, filter, All, arith, refl, sym, ap, ap₂, ◌∙◌, subst}
use Rattle.std.proofs.lemmas.Bool.{cases_Bool, cases_eq, both_ways, eqb-true, eq-eqb, ne_eqb, lt-ltb, ltb-true}
use Rattle.std.proofs.lemmas.List.{get_or_default, get_or_append_left, length-append}
use Rattle.std.proofs.lemmas.Simd.{map-map}
use Rattle.permutations.specs.Count.{some}
use Rattle.permutations.specs.Members.{is_member}
use Rattle.permutations.specs.Cyclic.{turned}
use Rattle.permutations.specs.Ring.{ring}
use Rattle.permutations.proofs.Search.{some-witness, some-none}
use Rattle.permutations.proofs.Relation.{connected-closed}
use Rattle.permutations.proofs.Members.{member-head}
use Rattle.permutations.proofs.Filter.{filter-yes, filter-all, filter-member, member-filter_parts, distinct-filter}
use Rattle.permutations.proofs.Turned.{turned-first}
use Rattle.permutations.proofs.Rings.{ring-first, ring-itself, ring-below, ring-distinct, ring-from_list}
use Rattle.dart_maps.specs.Map.{twin}
use Rattle.dart_maps.proofs.Darts.{twin-even, twin-below}
use Rattle.multigraph.specs.Graph.{Multigraph, IsGraph, edge_count, ends_of, is_end, other_end}
use Rattle.multigraph.proofs.OtherEnd.{is_end-from_first, is_end-from_second}
use Rattle.rotations.specs.Rotation.{order_at, IsRotationSystem}
use Rattle.rotations.proofs.Membership.{member-edge, member-end}
use Rattle.faces.specs.Euler.{tail, dart_from, dart_count}
use Rattle.faces.specs.Maps.{dart_after, dart_before}
use Rattle.faces.proofs.DartLemmas.{tail-first, tail-second, dart_from-edge, dart_from-below, dart_from-tail, member-incident}
use Rattle.faces.proofs.MapSteps.{tail-twin, map-permutes}
use Rattle.faces.proofs.MapRestricted.{round-ring}
use Rattle.plane_points.specs.Turning.{IsCounterclockwise}
use Rattle.plane_points.specs.Segments.{weighted, times}
use Rattle.plane_points.proofs.Laws.{parts_go_around}
use Rattle.triangulations.specs.Triangulation.{IsTriangulated, IsTriangulation}
use Rattle.canonical_orders.specs.Contours.{stays_dart, darts_around}
use Rattle.canonical_orders.specs.Order.{Removed, stays_after}
use Rattle.stacked_maps.specs.Drawn.{start_of, end_of, IsEndOf, IsDrawnUnder}
use Rattle.stacked_maps.proofs.Lists.{map-alike, counter-none}
use Rattle.stacked_maps.proofs.Darts.{permutes, ring-next, stays-from}
use Rattle.stacked_maps.proofs.Meetings.{passes}
use Rattle.grid_drawing.specs.Drawing.{point_at, along, IsCommonEnd, points_around, IsDrawing}
use Rattle.grid_drawing.specs.Grid.{IsGridDrawing}
use Rattle.grid_drawing.specs.Laws.{DrawnIsDrawing}

-- each vertex of a triangulation has a dart
pub dart-at : (m : ℕ) (h : Multigraph) (next previous : ℕ → ℕ) → IsTriangulated m h next previous → (v : ℕ) → v < h.vertex_count → (d : ℕ) × (d < 2 * m) × (tail h d ≡ v)
dart-at m h next previous t v l = elim (cases_Bool (some (2 * m) (λ d. tail h d == v))) [
  | inl s ↦ let w : (d : ℕ) × (d < 2 * m) × ((tail h d == v) ≡ true) = some-witness (2 * m) (λ d. tail h d == v) s in (w.0, w.1, eqb-true (tail h w.0) v w.2)
  | inr n ↦ absurd (none n (cases_eq v 0))
]
  where
    apart : some (2 * m) (λ d. tail h d == v) ≡ false → (u : ℕ) → u < h.vertex_count → u ≢ v → ⊥
    apart n u k a = both_ways (u == v) (ne_eqb u v a) (sym (connected-closed h.ends (λ x. x == v) same v u (t.map.connected v u l k)) ∙ eq-eqb v v refl)
      where
        below : (e : ℕ) → e < edge_count h → (2 * e < 2 * m) × (2 * e + 1 < 2 * m)
        below e k = (omega (arith, k, t.map.drawn.edges), omega (arith, k, t.map.drawn.edges))

        pair : (e : ℕ) → e < edge_count h → ((ends_of h e).0 == v) ≡ ((ends_of h e).1 == v)
        pair e k = ap (λ (x : ℕ). x == v) (sym (tail-first h e)) ∙ some-none (2 * m) (λ d. tail h d == v) n (2 * e) (below e k).0 ∙ sym (ap (λ (x : ℕ). x == v) (sym (tail-second h e)) ∙ some-none (2 * m) (λ d. tail h d == v) n (2 * e + 1) (below e k).1)

        same : All (λ link. (link.0 == v) ≡ (link.1 == v)) h.ends
        same e p k = subst (λ (q : ℕ × ℕ). (q.0 == v) ≡ (q.1 == v)) (get_or_default h.ends e (0, 0) p k) (pair e k)

    none : some (2 * m) (λ d. tail h d == v) ≡ false → (v ≡ 0) ⊎ (v ≢ 0) → ⊥
    none n (inl e) = apart n 1 (omega (arith, t.map.three)) (λ q. omega (arith, e, q))
    none n (inr a) = apart n 0 (omega (arith, t.map.three)) (λ q. a (sym q))

module _ (g : Multigraph) (r : List (List ℕ)) (m : ℕ) (h : Multigraph) (next previous : ℕ → ℕ) (base : ℕ) (stays : ℕ → Bool) (contour : List ℕ) (points : List (ℕ × ℕ))
    (graph : IsGraph g) (system : IsRotationSystem g r) (t : IsTriangulation g r m h next previous) (all : (v : ℕ) → v < g.vertex_count → stays v ≡ true)
    (w : IsDrawnUnder m h next base stays contour (point_at points)) (each : length points ≡ g.vertex_count) where
  abbrev at : ℕ → ℕ × ℕ
  at = point_at points

  abbrev E : ℕ → ℕ × ℕ
  E = end_of h at

  -- the edges of the graph are edges of the map
  ends-same : (e : ℕ) → e < edge_count g → ends_of h e ≡ ends_of g e
  ends-same e l = ap (λ (k : List (ℕ × ℕ)). get_or k e (0, 0)) t.extends.ends ∙ get_or_append_left g.ends t.extends.more (0, 0) e l

  more-edges : edge_count g ≤ m
  more-edges = omega (arith, t.triangulated.map.drawn.edges, ap length t.extends.ends ∙ length-append g.ends t.extends.more)

  tail-same : (d : ℕ) → d < dart_count g → tail h d ≡ tail g d
  tail-same d l = ap (λ (p : ℕ × ℕ). if d % 2 == 0 then p.0 else p.1) (ends-same (d / 2) (omega (arith, l)))

  below : (d : ℕ) → d < dart_count g → d < 2 * m
  below d l = omega (arith, l, more-edges)

  first-below : (e : ℕ) → e < edge_count g → 2 * e < 2 * m
  first-below e l = omega (arith, l, more-edges)

  -- all darts stay
  all-stay : (d : ℕ) → d < 2 * m → stays_dart h stays d ≡ true
  all-stay d l = stays-from h stays d (there d l) (there (twin d) (twin-below m d l))
    where
      there : (d : ℕ) → d < 2 * m → stays (tail h d) ≡ true
      there d l = all (tail h d) (subst (λ (n : ℕ). tail h d < n) t.extends.vertices (t.triangulated.map.drawn.inside d l))

  -- the ends of an edge, as those of its first dart
  start-first : (e : ℕ) → e < edge_count g → tail h (2 * e) ≡ (ends_of g e).0
  start-first e l = tail-first h e ∙ ap (λ (p : ℕ × ℕ). p.0) (ends-same e l)

  end-first : (e : ℕ) → e < edge_count g → tail h (twin (2 * e)) ≡ (ends_of g e).1
  end-first e l = ap (tail h) (twin-even (2 * e) (omega arith)) ∙ tail-second h e ∙ ap (λ (p : ℕ × ℕ). p.1) (ends-same e l)

  along-first : (e : ℕ) → e < edge_count g → (s t : ℕ) → along g points e s t ≡ weighted s (start_of h at (2 * e)) t (E (2 * e))
  along-first e l s t = ap₂ (λ (a b : ℕ). weighted s (at a) t (at b)) (sym (start-first e l)) (sym (end-first e l))

  end-of : (e v : ℕ) → e < edge_count g → IsEndOf h (2 * e) v → is_end g v e ≡ true
  end-of e v l (inl q) = is_end-from_first g v e (sym (q ∙ start-first e l))
  end-of e v l (inr q) = is_end-from_second g v e (sym (q ∙ end-first e l))

  edges-meet : (e f : ℕ) → e < edge_count g → f < edge_count g → e ≢ f → (s t u x : ℕ) → 0 < s + t → s + t ≡ u + x → along g points e s t ≡ along g points f u x → IsCommonEnd g points e f (s + t) (along g points e s t)
  edges-meet e f l k a s t u x pos sums same = go (w.meet (2 * e) (2 * f) (first-below e l) (first-below f k) (all-stay (2 * e) (first-below e l)) (all-stay (2 * f) (first-below f k))
      (λ q. a (omega (arith, q))) (λ q. omega (arith, q ∙ twin-even (2 * f) (omega arith))) s t u x pos sums (sym (along-first e l s t) ∙ same ∙ along-first f k u x))
    where
      go : (v : ℕ) × IsEndOf h (2 * e) v × IsEndOf h (2 * f) v × (weighted s (start_of h at (2 * e)) t (E (2 * e)) ≡ times (s + t) (at v)) → IsCommonEnd g points e f (s + t) (along g points e s t)
      go (v, p, q, there) = record { vertex = v; first = end-of e v l p; second = end-of f v k q; there = along-first e l s t ∙ there }

  edges-pass : (e v : ℕ) → e < edge_count g → v < g.vertex_count → is_end g v e ≡ false → (x y : ℕ) → 0 < x + y → along g points e x y ≡ times (x + y) (at v) → ⊥
  edges-pass e v l k n x y pos same = go (dart-at m h next previous t.triangulated v (subst (λ (c : ℕ). v < c) (sym t.extends.vertices) k))
    where
      go : (d : ℕ) × (d < 2 * m) × (tail h d ≡ v) → ⊥
      go (d, i, q) = both_ways (is_end g v e) n (subst (λ (u : ℕ). is_end g u e ≡ true) q (end-of e (tail h d) l
          (passes m h next base stays contour at w d (2 * e) i (first-below e l) (all-stay d i) (all-stay (2 * e) (first-below e l)) (x + y) x y pos refl (ap (λ (u : ℕ). times (x + y) (at u)) q ∙ sym same ∙ along-first e l x y))))

  -- around a vertex, the darts of the graph
  abbrev inner : ℕ → Bool
  inner d = nat_lt d (dart_count g)

  abbrev of-graph : ℕ → List ℕ
  of-graph d = filter inner (ring (2 * m) next d)

  ring-graph : (d : ℕ) → d < dart_count g → ring (dart_count g) (dart_after g r) d ≡ of-graph d
  ring-graph d l = ring-from_list (dart_count g) (dart_after g r) (dart_before g r) (map-permutes g r graph system) (of-graph d)
      (distinct-filter inner (ring (2 * m) next d) (ring-distinct (2 * m) next previous (permutes m h next previous t.triangulated) d (below d l)))
      (λ z i. ring-next (2 * m) inner next previous (permutes m h next previous t.triangulated) d z (below d l) (lt-ltb d (dart_count g) l) i
      ∙ t.extends.orders z (ltb-true z (dart_count g) (member-filter_parts inner (ring (2 * m) next d) z i).1))
      d l (filter-member inner (ring (2 * m) next d) d (ring-itself (2 * m) next previous (permutes m h next previous t.triangulated) d (below d l)) (lt-ltb d (dart_count g) l))
      ∙ begins (ring-first (2 * m) next previous (permutes m h next previous t.triangulated) d (below d l))
    where
      begins : (s : List ℕ) × (ring (2 * m) next d ≡ d ∷ s) → turned (of-graph d) d ≡ of-graph d
      begins (s, e) = let f : of-graph d ≡ d ∷ filter inner s = ap (filter inner) e ∙ filter-yes inner d s (lt-ltb d (dart_count g) l) in
          ap (λ (k : List ℕ). turned k d) f ∙ turned-first d (filter inner s) ∙ sym f

  edges-around : (v : ℕ) → v < g.vertex_count → IsCounterclockwise (at v) (points_around g r points v)
  edges-around v l = go (order_at r v) refl
    where
      place : ℕ → ℕ × ℕ
      place e = at (other_end g e v)

      at-edge : (e : ℕ) → is_member e (order_at r v) ≡ true → (e < edge_count g) × (is_end g v e ≡ true)
      at-edge e i = (member-edge g v e (member-incident g r v e system l i), member-end g v e (member-incident g r v e system l i))

      end-from : (e : ℕ) → is_member e (order_at r v) ≡ true → E (dart_from g v e) ≡ at (other_end g e v)
      end-from e i = ap at (tail-same (twin (dart_from g v e)) (twin-below (edge_count g) (dart_from g v e) d-below)
          ∙ tail-twin g (dart_from g v e) graph d-below ∙ ap₂ (other_end g) (dart_from-edge g v e) (dart_from-tail g v e (at-edge e i).1))
        where
          d-below : dart_from g v e < dart_count g
          d-below = dart_from-below g v e (at-edge e i).0

      go : (order : List ℕ) → order_at r v ≡ order → IsCounterclockwise (at v) (points_around g r points v)
      go [] q = subst (λ (k : List ℕ). IsCounterclockwise (at v) (map (λ e. at (other_end g e v)) k)) (sym q) (counter-none (at v))
      go (e ∷ rest) q = subst (λ (k : List (ℕ × ℕ)). IsCounterclockwise (at v) k) listed (subst (λ (u : ℕ). IsCounterclockwise (at u) (map E (of-graph (dart_from g v e)))) d-tail part)
        where
          e-in : is_member e (order_at r v) ≡ true
          e-in = ap (is_member e) q ∙ member-head e rest

          d-below : dart_from g v e < dart_count g
          d-below = dart_from-below g v e (at-edge e e-in).0

          d-tail : tail h (dart_from g v e) ≡ v
          d-tail = tail-same (dart_from g v e) d-below ∙ dart_from-tail g v e (at-edge e e-in).1

          kept : darts_around m h next stays (dart_from g v e) ≡ ring (2 * m) next (dart_from g v e)
          kept = filter-all (stays_dart h stays) (ring (2 * m) next (dart_from g v e)) (λ x i. all-stay x (ring-below (2 * m) next previous (permutes m h next previous t.triangulated) (dart_from g v e) (below (dart_from g v e) d-below) x i))

          part : IsCounterclockwise (start_of h at (dart_from g v e)) (map E (of-graph (dart_from g v e)))
          part = parts_go_around (start_of h at (dart_from g v e)) E inner (ring (2 * m) next (dart_from g v e))
              (subst (λ (k : List ℕ). IsCounterclockwise (start_of h at (dart_from g v e)) (map E k)) kept (w.around (dart_from g v e) (below (dart_from g v e) d-below) (all-stay (dart_from g v e) (below (dart_from g v e) d-below))))

          order-ring : of-graph (dart_from g v e) ≡ map (dart_from g v) (order_at r v)
          order-ring = sym (ring-graph (dart_from g v e) d-below) ∙ round-ring g r graph system (λ _. true) v e l e-in refl
              ∙ ap (λ (k : List ℕ). turned (map (dart_from g v) k) (dart_from g v e)) q ∙ turned-first (dart_from g v e) (map (dart_from g v) rest) ∙ sym (ap (map (dart_from g v)) q)

          listed : map E (of-graph (dart_from g v e)) ≡ points_around g r points v
          listed = ap (map E) order-ring ∙ map-map E (dart_from g v) (order_at r v) ∙ map-alike (λ x. E (dart_from g v x)) (λ x. at (other_end g x v)) (order_at r v) end-from

  vertices-apart : (u v : ℕ) → u < g.vertex_count → v < g.vertex_count → at u ≡ at v → u ≡ v
  vertices-apart u v l k e = w.apart u v (all u l) (all v k) e

  of-map : IsDrawing g r points
  of-map = record { each = each; apart = vertices-apart; meet = edges-meet; pass = λ e v l k n s t pos same. edges-pass e v l k n s t pos same; around = edges-around }

pub drawn_is_drawing : DrawnIsDrawing
drawn_is_drawing g r m h next previous base stays contour points graph system t all w each = of-map g r m h next previous base stays contour points graph system t all w each

-- the drawing of a triangulation in which no vertex was removed yet, on the grid
pub grid-drawn : (g : Multigraph) (r : List (List ℕ)) (m : ℕ) (h : Multigraph) (next previous : ℕ → ℕ) (order : List Removed) (contour : List ℕ) (points : List (ℕ × ℕ)) → IsGraph g → IsRotationSystem g r → 3 ≤ g.vertex_count
    → IsTriangulation g r m h next previous → IsDrawnUnder m h next 0 (stays_after h order 0) contour (point_at points) → length points ≡ g.vertex_count
    → ((v : ℕ) → v < g.vertex_count → (point_at points v).0 + 4 ≤ 2 * g.vertex_count) → ((v : ℕ) → v < g.vertex_count → (point_at points v).1 + 2 ≤ g.vertex_count) → IsGridDrawing g r points
grid-drawn g r m h next previous order contour points graph system three t w each wide high = record {
  drawing = drawn_is_drawing g r m h next previous 0 (stays_after h order 0) contour points graph system t stays w each;
  grid = record { wide = λ _. wide; high = λ _. high; two = λ e. absurd (omega (arith, three, e)) };
}
  where
    stays : (v : ℕ) → v < g.vertex_count → stays_after h order 0 v ≡ true
    stays v l = rw (lt-ltb v h.vertex_count (subst (λ (n : ℕ). v < n) (sym t.extends.vertices) l)) (ap (λ (k : List Removed). not (is_member v (map (λ w. w.0) k))) (take_zero order))
      where
        take_zero : (l : List Removed) → take 0 l ≡ []
        take_zero [] = refl
        take_zero (x ∷ l) = refl
