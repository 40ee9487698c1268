-- The loop that fills a face, over the lists of the map.
use Rattle.std.proofs.Common.{◌≡◌, ◌≢◌, ℕ, ◌+◌, ◌*◌, ◌^◌, ◌<◌, ◌≤◌, Bool, true, false, not, ◌&&◌, List, slice_index, refl, sym, ap, ap₂, ◌∙◌, subst, arith}
use Rattle.std.specs.BTreeSet.{BTreeSet}
use Rattle.std.proofs.lemmas.Bool.{ne_eqb}
use Rattle.std.proofs.lemmas.Nat.{mul-le}
use Rattle.dart_maps.specs.Map.{twin, face, IsMap}
use Rattle.multigraph.specs.Graph.{Multigraph, edge_count, max_vertices}
use Rattle.faces.specs.Euler.{tail, dart_count}
use Rattle.drawn_maps.proofs.Drawn.{more-edges}
use Rattle.triangulations.specs.Triangulation.{IsSimpleMap}
use Rattle.triangulations.specs.Cutting.{is_triangle, are_joined, can_cut, second_head, cut_graph, cut_next, IsFilling}
use Rattle.triangulations.specs.Listed.{ListedMap, IsSimpleMapOf, IsCut, IsFilledMap, IsFillingMap, Fills, AreTriangles, FillsAll, IsTriangulationOf}
use Rattle.triangulations.specs.Pairs.{AddsPair, KnowsPairs}
use Rattle.triangulations.proofs.SimpleMaps.{face-in}
use Rattle.triangulations.proofs.JoinedPairs.{knows-cut}
use Rattle.triangulations.proofs.Cut.{pq, made-from, cut-map}
use Rattle.triangulations.proofs.Filled.{left_over, filling-start, filling-end, filling-onward, filling-cut, onward-less, cut-room, cut-less, filled-all}

-- what is still to be done
abbrev pub left_in : ListedMap → ℕ → ℕ
left_in t d = left_over t.graph (slice_index t.next) d

-- the face of dart d is being filled, from `start` in the old map on
pub record IsFillingFrom (start : ℕ) (old : ListedMap) (d : ℕ) (now : ListedMap) : Type 0 where
  pub map : IsSimpleMapOf now
  pub dart : d < dart_count now.graph
  pub vertices : now.graph.vertex_count ≡ old.graph.vertex_count
  pub larger : dart_count old.graph ≤ dart_count now.graph
  pub filling : (g : Multigraph) (r : List (List ℕ)) → IsFilledMap g r start old → IsFillingMap g r start d now

-- a step along the face leads to a dart
pub face-below : (t : ListedMap) (d : ℕ) → IsSimpleMapOf t → d < dart_count t.graph → face (slice_index t.next) d < dart_count t.graph
face-below t d s l = face-in (edge_count t.graph) t.graph (slice_index t.next) (slice_index t.previous) s d l

module _ (old : ListedMap) (d : ℕ) (s : IsSimpleMapOf old) (ld : d < dart_count old.graph) (can : can_cut old.graph (slice_index old.next) d ≡ true) where
  abbrev m : ℕ
  m = edge_count old.graph

  abbrev next : ℕ → ℕ
  next = slice_index old.next

  abbrev previous : ℕ → ℕ
  previous = slice_index old.previous

  -- the two corners differ
  pub corners : slice_index old.previous d ≢ twin (face (slice_index old.next) d)
  corners = pq m old.graph next previous s d ld can

  -- the new darts fit into 32 bits
  pub few : old.graph.vertex_count ≤ max_vertices → dart_count old.graph + 2 < 2 ^ 32
  few l = let r = cut-room m old.graph next previous s d ld can in let k : old.graph.vertex_count * old.graph.vertex_count ≤ 20000 * 20000 = mul-le old.graph.vertex_count old.graph.vertex_count 20000 20000 l l in omega (arith, r, k)

  -- the new map
  module _ (new : ListedMap) (cut : IsCut old d new) where
    made : (c : ℕ) → c < 2 * (m + 1) → slice_index new.next c ≡ cut_next m next previous d c
    made = made-from m old.graph next previous s d ld can (slice_index new.next) cut.corner cut.second_corner cut.first cut.second cut.others

    cut-edges : edge_count (cut_graph old.graph next d) ≡ m + 1
    cut-edges = more-edges m old.graph old.graph.vertex_count (tail old.graph d, second_head old.graph next d) refl

    edges : edge_count new.graph ≡ m + 1
    edges = ap edge_count cut.graph ∙ cut-edges

    permutes : IsMap (m + 1) (slice_index new.next) (slice_index new.previous)
    permutes = subst (λ k. IsMap k (slice_index new.next) (slice_index new.previous)) edges cut.map

    pub new-simple : IsSimpleMapOf new
    new-simple = subst (λ k. IsSimpleMap k new.graph (slice_index new.next) (slice_index new.previous)) (sym edges)
        (subst (λ h. IsSimpleMap (m + 1) h (slice_index new.next) (slice_index new.previous)) (sym cut.graph) (cut-map m old.graph next previous s d ld can (slice_index new.next) (slice_index new.previous) made permutes))

    new-filling : is_triangle next d ≡ false → (g : Multigraph) (r : List (List ℕ)) (start : ℕ) → IsFillingMap g r start d old → IsFillingMap g r start (dart_count old.graph) new
    new-filling long g r start f = subst (λ k. IsFilling g r start (2 * m) k new.graph (slice_index new.next) (slice_index new.previous)) (sym edges)
        (subst (λ h. IsFilling g r start (2 * m) (m + 1) h (slice_index new.next) (slice_index new.previous)) (sym cut.graph)
        (filling-cut g r start m old.graph next previous d f long can (slice_index new.next) (slice_index new.previous) made permutes))

    -- the new first dart is on the rest of the face
    pub from-cut : (start : ℕ) (first : ListedMap) → is_triangle next d ≡ false → IsFillingFrom start first d old → IsFillingFrom start first (dart_count old.graph) new
    from-cut start first long f = record {
      map = new-simple;
      dart = omega (arith, edges);
      vertices = ap (λ (h : Multigraph). h.vertex_count) cut.graph ∙ f.vertices;
      larger = omega (arith, edges, f.larger);
      filling = λ g r i. new-filling long g r start (f.filling g r i);
    }

    pub less-cut : left_in new (dart_count old.graph) < left_in old d
    less-cut = subst (λ h. left_over h (slice_index new.next) (dart_count old.graph) < left_in old d) (sym cut.graph) (cut-less m old.graph next previous s d ld can (slice_index new.next) (dart_count old.graph))

-- at the beginning
pub from-start : (start : ℕ) (old : ListedMap) → IsSimpleMapOf old → start < dart_count old.graph → IsFillingFrom start old start old
from-start start old s l = record {
  map = s;
  dart = l;
  vertices = refl;
  larger = omega arith;
  filling = λ g r i. filling-start g r start (edge_count old.graph) old.graph (slice_index old.next) (slice_index old.previous) i l;
}

module _ (start : ℕ) (old : ListedMap) (d : ℕ) (now : ListedMap) (f : IsFillingFrom start old d now) where
  -- one dart on
  pub from-onward : IsFillingFrom start old (face (slice_index now.next) d) now
  from-onward = record {
    map = f.map;
    dart = face-below now d f.map f.dart;
    vertices = f.vertices;
    larger = f.larger;
    filling = λ g r i. filling-onward g r start (edge_count now.graph) now.graph (slice_index now.next) (slice_index now.previous) d (f.filling g r i);
  }

  pub less-onward : is_triangle (slice_index now.next) d ≡ false → can_cut now.graph (slice_index now.next) d ≡ false → left_in now (face (slice_index now.next) d) < left_in now d
  less-onward = onward-less (edge_count now.graph) now.graph (slice_index now.next) (slice_index now.previous) f.map d f.dart

  -- at the end
  pub from-end : is_triangle (slice_index now.next) d ≡ true → Fills start old now
  from-end t = record {
    map = f.map;
    vertices = f.vertices;
    larger = f.larger;
    filled = λ g r i. filling-end g r start (edge_count now.graph) now.graph (slice_index now.next) (slice_index now.previous) d (f.filling g r i) t;
  }

-- the test in the code is whether an edge can be added
pub can-cut-told : (t : ListedMap) (d a b : ℕ) (j : Bool) → a ≡ tail t.graph d → b ≡ second_head t.graph (slice_index t.next) d → (a ≡ b → ⊥) → j ≡ are_joined t.graph a b → not j ≡ can_cut t.graph (slice_index t.next) d
can-cut-told t d a b j ia ib n i =
    ap not (i ∙ ap₂ (are_joined t.graph) ia ib) ∙ sym (ap (λ w. not w && not (are_joined t.graph (tail t.graph d) (second_head t.graph (slice_index t.next) d))) (ne_eqb (tail t.graph d) (second_head t.graph (slice_index t.next) d) (λ e. n (ia ∙ e ∙ sym ib))))

-- the pairs of the new map are known
pub pairs-cut : (old : ListedMap) (d a b : ℕ) (new : ListedMap) (before after : BTreeSet (ℕ × ℕ)) → KnowsPairs old.graph before → a ≡ tail old.graph d → b ≡ second_head old.graph (slice_index old.next) d → AddsPair before a b after → IsCut old d new → KnowsPairs new.graph after
pairs-cut old d a b new before after k ia ib adds cut = subst (λ h. KnowsPairs h after) (sym cut.graph)
    (knows-cut (edge_count old.graph) old.graph (slice_index old.next) d before after refl k (subst (λ z. AddsPair before (tail old.graph d) z after) ib (subst (λ z. AddsPair before z b after) ia adds)))

-- a map in which nothing was to be filled
pub from-triangles : (g : Multigraph) (r : List (List ℕ)) (t : ListedMap) → IsFilledMap g r 0 t → AreTriangles t → IsTriangulationOf g r t
from-triangles g r t f all = filled-all g r (edge_count t.graph) t.graph (slice_index t.next) (slice_index t.previous) (record { map = f.map; extends = f.extends; triangles = λ d l w. all d l })

-- while the faces of a map are filled, those of the darts of g below k were
pub record AreFilled (g : Multigraph) (k : ℕ) (old now : ListedMap) : Type 0 where
  pub map : IsSimpleMapOf now
  pub vertices : now.graph.vertex_count ≡ old.graph.vertex_count
  pub larger : dart_count old.graph ≤ dart_count now.graph
  pub filled : (r : List (List ℕ)) → IsFilledMap g r 0 old → IsFilledMap g r k now

pub filled-start : (g : Multigraph) (old : ListedMap) → IsSimpleMapOf old → AreFilled g 0 old old
filled-start g old s = record { map = s; vertices = refl; larger = omega arith; filled = λ r f. f }

pub filled-more : (g : Multigraph) (k : ℕ) (old now new : ListedMap) → AreFilled g k old now → Fills k now new → AreFilled g (k + 1) old new
filled-more g k old now new a f = record { map = f.map; vertices = f.vertices ∙ a.vertices; larger = omega (arith, a.larger, f.larger); filled = λ r i. f.filled g r (a.filled r i) }

pub filled-end : (g : Multigraph) (old now : ListedMap) → AreFilled g (dart_count g) old now → FillsAll g old now
filled-end g old now a r f = filled-all g r (edge_count now.graph) now.graph (slice_index now.next) (slice_index now.previous) (a.filled r f)
