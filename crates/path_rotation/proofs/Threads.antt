-- Darts inserted along a path, one exchange after the other.
use Rattle.std.proofs.Common.{◌≡◌, ◌∙◌, ℕ, ◌+◌, ◌<◌, ◌≤◌, ◌/◌, inl, inr, true, List, [], ◌∷◌, length, drop, slice_index, refl, sym, ap, subst, add-one}
use Rattle.std.specs.List.{SwappedAt}
use Rattle.std.proofs.lemmas.Bool.{cases_eq}
use Rattle.std.proofs.Math.Path.{fun_ext}
use Rattle.std.proofs.Math.Seq.{drop-cons}
use Rattle.std.proofs.lemmas.List.{drop_all}
use Rattle.permutations.specs.Exchange.{exchange}
use Rattle.permutations.proofs.Permutations.{exchange-left, exchange-right, exchange-other}
use Rattle.multigraph.specs.Graph.{Multigraph, edge_count, is_end, other_end, IsGraph}
use Rattle.multigraph.proofs.DartEnds.{dart_from-of_dart}
use Rattle.dart_maps.specs.Map.{twin}
use Rattle.dart_maps.specs.Path.{path_inserted}
use Rattle.graph_theory.specs.Path.{IsWalk}
use Rattle.faces.specs.Euler.{tail, dart_from, dart_count}
use Rattle.path_separation.specs.Drawn.{darts_along}
use Rattle.path_rotation.specs.Insertion.{threaded}

-- a list with two entries exchanged
pub swap-exchange : (xs ys : List ℕ) (p q : ℕ) → SwappedAt xs ys p q → slice_index ys ≡ exchange p q (slice_index xs)
swap-exchange xs ys p q w = fun_ext each
  where
    each : (d : ℕ) → slice_index ys d ≡ exchange p q (slice_index xs) d
    each d = elim (cases_eq d p) [
      | inl e ↦ subst (λ z. slice_index ys z ≡ exchange p q (slice_index xs) z) (sym e) (w.0 0 ∙ sym (exchange-left p q (slice_index xs)))
      | inr n ↦ elim (cases_eq d q) [
        | inl e ↦ subst (λ z. slice_index ys z ≡ exchange p q (slice_index xs) z) (sym e) (w.1 0 ∙ sym (exchange-right p q (slice_index xs)))
        | inr m ↦ w.2 d 0 n m ∙ sym (exchange-other p q (slice_index xs) d n m)
      ]
    ]

-- what is left of a list from a place on: the number there, and the rest
pub rest-from : (l : List ℕ) (i : ℕ) → i < length l → drop i l ≡ slice_index l i ∷ drop (i + 1) l
rest-from l i b = drop-cons l i 0 b ∙ ap (λ (n : ℕ). slice_index l i ∷ drop n l) (sym (add-one i))

-- a walk that goes on: its next edge, and what is left
pub walk-on : (g : Multigraph) (at : ℕ) (l : List ℕ) (i : ℕ) → i < length l → IsWalk g at (drop i l)
    → ((slice_index l i < edge_count g) × (is_end g at (slice_index l i) ≡ true)) × IsWalk g (other_end g (slice_index l i) at) (drop (i + 1) l)
walk-on g at l i b w = subst (λ (es : List ℕ). IsWalk g at es) (rest-from l i b) w

-- one more dart
pub thread-more : (g : Multigraph) (path next new : List ℕ) (i at corner k : ℕ) (whole : ℕ → ℕ) → i < length path → SwappedAt next new corner (dart_from g at (slice_index path i))
    → threaded corner (darts_along g at (drop i path)) k (slice_index next) ≡ whole
    → threaded (twin (dart_from g at (slice_index path i))) (darts_along g (other_end g (slice_index path i) at) (drop (i + 1) path)) k (slice_index new) ≡ whole
thread-more g path next new i at corner k whole b s e =
    ap (threaded (twin d) (darts_along g (other_end g (slice_index path i) at) (drop (i + 1) path)) k) (swap-exchange next new corner d s)
    ∙ sym (ap (λ (es : List ℕ). threaded corner (darts_along g at es) k (slice_index next)) (rest-from path i b)) ∙ e
  where
    d : ℕ
    d = dart_from g at (slice_index path i)

-- the last twin
pub thread-end : (g : Multigraph) (path next new : List ℕ) (at corner k : ℕ) (whole : ℕ → ℕ) (rest : List ℕ) → rest ≡ [] → SwappedAt next new k corner
    → threaded corner (darts_along g at rest) k (slice_index next) ≡ whole → slice_index new ≡ whole
thread-end g path next new at corner k whole rest none s e =
    swap-exchange next new k corner s ∙ sym (ap (λ (es : List ℕ). threaded corner (darts_along g at es) k (slice_index next)) none) ∙ e

-- the darts of a path, all in one
pub threaded-inserted : (p d : ℕ) (path : List ℕ) (q : ℕ) (f : ℕ → ℕ) → threaded p (d ∷ path) q f ≡ path_inserted p d path q f
threaded-inserted p d [] q f = refl
threaded-inserted p d (c ∷ path) q f = threaded-inserted (twin d) c path q (exchange p d f)

-- the first dart of a path from its tail on
pub darts-from_tail : (g : Multigraph) (t : ℕ) (along : List ℕ) → IsGraph g → t < dart_count g
    → darts_along g (tail g t) ((t / 2) ∷ along) ≡ t ∷ darts_along g (other_end g (t / 2) (tail g t)) along
darts-from_tail g t along ok l = ap (λ (d : ℕ). d ∷ darts_along g (other_end g (t / 2) (tail g t)) along) (dart_from-of_dart g t ok l)

-- at the end nothing is left
pub rest-none : (l : List ℕ) (i : ℕ) → length l ≤ i → drop i l ≡ []
rest-none l i b = drop_all i l b
