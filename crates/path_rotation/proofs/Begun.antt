-- The first edge drawn.
use Rattle.std.proofs.Common.{◌≡◌, ◌∙◌, ℕ, ◌<◌, inl, inr, Bool, true, false, ◌||◌, ◌==◌, List, length, replicate, slice_index, ap, arith}
use Rattle.std.proofs.Math.ListN.{set}
use Rattle.std.proofs.lemmas.Bool.{cases_lt}
use Rattle.std.proofs.lemmas.List.{get_or-replicate, get_or_past, length-replicate, length-set}
use Rattle.permutations.proofs.Count.{count-positive}
use Rattle.multigraph.specs.Graph.{Multigraph, edge_count, ends_of, is_end, IsGraph, numbers_below}
use Rattle.multigraph.specs.Marks.{is_marked}
use Rattle.multigraph.proofs.Below.{length-numbers_below, get_or-numbers_below}
use Rattle.faces.specs.Euler.{dart_count}
use Rattle.faces.proofs.Walk.{marked-set}
use Rattle.path_rotation.specs.Fitting.{IsSketch, drawn_count}
use Rattle.path_rotation.proofs.DrawingKept.{edge-drawn}
use Rattle.path_rotation.proofs.ForcedSteps.{start-forced, start-tables}

-- no mark is set at first
pub unmarked : (n x : ℕ) → is_marked (replicate n false) x ≡ false
unmarked n x = elim (cases_lt x n) [
  | inl l ↦ get_or-replicate n x false false l
  | inr l ↦ get_or_past (replicate n false) x false (omega (arith, l, length-replicate n false))
]

-- one mark
pub one-marked : (n x y : ℕ) → x < n → is_marked (set (replicate n false) x true) y ≡ (x == y)
one-marked n x y l = marked-set (replicate n false) x y (omega (arith, l, length-replicate n false)) ∙ ap (λ (t : Bool). t || (x == y)) (unmarked n y)

-- the first edge of a graph
pub begun : (g : Multigraph) → IsGraph g → 0 < edge_count g → (drawn on : List Bool) (next label : List ℕ) → drawn ≡ set (replicate (edge_count g) false) 0 true
    → on ≡ set (set (replicate g.vertex_count false) (ends_of g 0).0 true) (ends_of g 0).1 true → next ≡ numbers_below (dart_count g) → length label ≡ dart_count g → IsSketch g drawn on next label
begun g ok l drawn on next label de oe ne le = record {
  tables = start-tables g ok 0 l drawn on next marked still
      (ap (λ (s : List ℕ). length s) ne ∙ length-numbers_below (dart_count g))
      (ap (λ (s : List Bool). length s) de ∙ length-set (replicate (edge_count g) false) 0 true ∙ length-replicate (edge_count g) false)
      (ap (λ (s : List Bool). length s) oe ∙ length-set (set (replicate g.vertex_count false) (ends_of g 0).0 true) (ends_of g 0).1 true ∙ long)
      ends;
  forced = start-forced g ok 0 l drawn on next marked still;
  drawing = edge-drawn g ok 0 l drawn next marked still;
  label_each = le;
}
  where
    long : length (set (replicate g.vertex_count false) (ends_of g 0).0 true) ≡ g.vertex_count
    long = length-set (replicate g.vertex_count false) (ends_of g 0).0 true ∙ length-replicate g.vertex_count false

    marked : (h : ℕ) → is_marked drawn h ≡ (0 == h)
    marked h = ap (λ (s : List Bool). is_marked s h) de ∙ one-marked (edge_count g) 0 h l

    ends : (v : ℕ) → is_marked on v ≡ is_end g v 0
    ends v = ap (λ (s : List Bool). is_marked s v) oe ∙ marked-set (set (replicate g.vertex_count false) (ends_of g 0).0 true) (ends_of g 0).1 v (omega (arith, long, ok.second_in 0 l))
        ∙ ap (λ (t : Bool). t || ((ends_of g 0).1 == v)) (one-marked g.vertex_count (ends_of g 0).0 v (ok.first_in 0 l))

    still : (d : ℕ) → d < dart_count g → slice_index next d ≡ d
    still d i = ap (λ (s : List ℕ). slice_index s d) ne ∙ get_or-numbers_below (dart_count g) d 0 i

-- so an edge is drawn
pub begun-count : (g : Multigraph) → 0 < edge_count g → (drawn : List Bool) → drawn ≡ set (replicate (edge_count g) false) 0 true → 0 < drawn_count g drawn
begun-count g l drawn e = count-positive (edge_count g) (is_marked drawn) 0 l (ap (λ (s : List Bool). is_marked s 0) e ∙ one-marked (edge_count g) 0 0 l)
