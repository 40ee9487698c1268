-- A path that is inserted, marked and labelled is drawn.
use Rattle.std.proofs.Common.{◌≡◌, ◌∙◌, ℕ, ◌/◌, ◌<◌, Bool, ◌||◌, cond, List, ◌∷◌, length, slice_index, sym, ap, subst}
use Rattle.permutations.specs.Members.{is_member}
use Rattle.multigraph.specs.Graph.{Multigraph, other_end, IsGraph}
use Rattle.multigraph.specs.Marks.{is_marked}
use Rattle.dart_maps.specs.Map.{twin}
use Rattle.graph_theory.specs.Path.{walk_vertices}
use Rattle.faces.specs.Euler.{tail, dart_count}
use Rattle.path_separation.specs.Drawn.{darts_along}
use Rattle.path_rotation.specs.Forced.{IsPathDrawn}
use Rattle.path_rotation.specs.Insertion.{threaded}
use Rattle.path_rotation.proofs.Threads.{threaded-inserted, darts-from_tail}

pub path-assembled : (g : Multigraph) → IsGraph g → (t c k : ℕ) (path along : List ℕ) → t < dart_count g → path ≡ (t / 2) ∷ along
    → (drawn on : List Bool) (next label : List ℕ) (new_drawn new_on : List Bool) (new_next new_label : List ℕ) → length label ≡ dart_count g
    → length new_drawn ≡ length drawn → length new_on ≡ length on → length new_next ≡ length next → length new_label ≡ length label
    → ((e : ℕ) → is_marked new_drawn e ≡ (is_marked drawn e || is_member e path))
    → ((v : ℕ) → is_marked new_on v ≡ (is_marked on v || is_member v (walk_vertices g (tail g t) path)))
    → ((d : ℕ) → slice_index new_next d ≡ threaded c (darts_along g (tail g t) path) k (slice_index next) d)
    → ((d : ℕ) → d < length label → slice_index new_label d ≡ cond (is_member (d / 2) path) (slice_index label (twin c)) (slice_index label d))
    → IsPathDrawn g t along c k drawn on next label new_drawn new_on new_next new_label
path-assembled g ok t c k path along l e drawn on next label new_drawn new_on new_next new_label each ld lo ln ll md mo mn ml = record {
  each_edge = ld;
  each_vertex = lo;
  each_dart = ln;
  each_label = ll;
  edges_marked = λ h. md h ∙ ap (λ (p : List ℕ). is_marked drawn h || is_member h p) e;
  vertices_marked = λ v. mo v ∙ ap (λ (p : List ℕ). is_marked on v || is_member v (walk_vertices g (tail g t) p)) e;
  darts_inserted = λ d _. mn d ∙ ap (λ (p : List ℕ). threaded c (darts_along g (tail g t) p) k (slice_index next) d) e
      ∙ ap (λ (p : List ℕ). threaded c p k (slice_index next) d) (darts-from_tail g t along ok l)
      ∙ ap (λ (f : ℕ → ℕ). f d) (threaded-inserted c t (darts_along g (other_end g (t / 2) (tail g t)) along) k (slice_index next));
  labelled = λ d i. ml d (subst (λ (n : ℕ). d < n) (sym each) i) ∙ ap (λ (p : List ℕ). cond (is_member (d / 2) p) (slice_index label (twin c)) (slice_index label d)) e;
}
