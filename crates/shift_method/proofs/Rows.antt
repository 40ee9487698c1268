-- The contours of a canonical order by their vertices, here called rows: what a removal does to them.
use Rattle.std.proofs.Common.{◌≡◌, ℕ, ◌*◌, ◌<◌, Bool, List, [], ◌∷◌, ◌++◌, map, sym, ap, ◌∙◌, append_assoc}
use Rattle.std.proofs.lemmas.List.{map-append}
use Rattle.permutations.specs.Cyclic.{last_or}
use Rattle.dart_maps.specs.Map.{twin}
use Rattle.dart_maps.proofs.Darts.{twin-twin}
use Rattle.multigraph.specs.Graph.{Multigraph}
use Rattle.faces.specs.Euler.{tail}
use Rattle.triangulations.specs.Triangulation.{IsTriangulated}
use Rattle.canonical_orders.specs.Contours.{IsContour, IsRemoval}
use Rattle.canonical_orders.proofs.Lists.{ends-with, last-cons, last-member}
use Rattle.canonical_orders.proofs.ContourParts.{same-dart}
use Rattle.canonical_orders.proofs.Arms.{lefts, cut-left, left-on, y-on, front-differs, x-leads, later-tails}

-- w stands between left and right in the row, and the inner vertices stand there in the later row
pub record IsStretched (row later : List ℕ) (w : ℕ) (heads : List ℕ) : Type 0 where
  pub front : List ℕ
  pub left : ℕ
  pub inner : List ℕ
  pub right : ℕ
  pub back : List ℕ
  pub stretch : heads ≡ left ∷ (inner ++ right ∷ [])
  pub row_is : row ≡ front ++ left ∷ w ∷ right ∷ back
  pub later_is : later ≡ front ++ left ∷ (inner ++ right ∷ back)

regroup : (a : List ℕ) (x : ℕ) (b : List ℕ) (y : ℕ) (c : List ℕ) → ((a ++ x ∷ []) ++ (b ++ y ∷ [])) ++ c ≡ a ++ x ∷ (b ++ y ∷ c)
regroup a x b y c = simp append_assoc

module _ (m : ℕ) (h : Multigraph) (next previous : ℕ → ℕ) (t : IsTriangulated m h next previous) (base : ℕ) (l : base < 2 * m) (before : ℕ → Bool) (contour : List ℕ) (c : IsContour m h next base before contour)
    (later : List ℕ) (w : ℕ) (heads : List ℕ) (r : IsRemoval h next contour later w heads) where
  dart-left : ℕ
  dart-left = last_or r.first r.front

  head : ℕ → ℕ
  head e = tail h (twin e)

  -- there are two arms or more, since the neighbours to the left and to the right differ
  one-arm : r.x ≡ twin r.y → ⊥
  unfolding dart-left
  one-arm e = (front-differs m h next previous t base l before contour c later w heads r dart-left (last-member r.first r.front)).1
      (same-dart m h next previous t base l before contour c dart-left r.y (left-on m h next previous t base l before contour c later w heads r) (y-on m h next previous t base l before contour c later w heads r)
      (sym (x-leads m h next previous t base l before contour c later w heads r) ∙ ap (λ (z : ℕ). tail h (twin z)) e ∙ ap (tail h) (twin-twin r.y)))

  arms-end : (arms : List ℕ) → last_or r.x arms ≡ twin r.y → (k : List ℕ) × (arms ≡ k ++ twin r.y ∷ [])
  arms-end [] e = absurd (one-arm e)
  arms-end (a ∷ arms) e = ((ends-with a arms).0, (ends-with a arms).1 ∙ ap (λ (z : ℕ). (ends-with a arms).0 ++ z ∷ []) (sym (last-cons r.x a arms) ∙ e))

  pub removal-stretched : IsStretched (map (tail h) contour) (map (tail h) later) w heads
  unfolding dart-left head
  removal-stretched = record {
    front = map (tail h) (lefts m h next previous t base l before contour c later w heads r).0;
    left = tail h dart-left;
    inner = map head inner;
    right = tail h r.y;
    back = map (tail h) r.back;
    stretch = r.lead ∙ ap (λ (z : ℕ). z ∷ map head r.arms) (x-leads m h next previous t base l before contour c later w heads r) ∙ ap (λ (s : List ℕ). tail h dart-left ∷ s) arm-heads;
    row_is = ap (map (tail h)) (cut-left m h next previous t base l before contour c later w heads r)
        ∙ map-append (tail h) (lefts m h next previous t base l before contour c later w heads r).0 (dart-left ∷ r.x ∷ r.y ∷ r.back)
        ∙ ap (λ (z : ℕ). map (tail h) (lefts m h next previous t base l before contour c later w heads r).0 ++ tail h dart-left ∷ z ∷ tail h r.y ∷ map (tail h) r.back) r.leaves;
    later_is = later-tails m h next previous t base l before contour c later w heads r
        ∙ ap (λ (s : List ℕ). (s ++ map head r.arms) ++ map (tail h) r.back) (ap (map (tail h)) (lefts m h next previous t base l before contour c later w heads r).1 ∙ map-append (tail h) (lefts m h next previous t base l before contour c later w heads r).0 (dart-left ∷ []))
        ∙ ap (λ (s : List ℕ). ((map (tail h) (lefts m h next previous t base l before contour c later w heads r).0 ++ tail h dart-left ∷ []) ++ s) ++ map (tail h) r.back) arm-heads
        ∙ regroup (map (tail h) (lefts m h next previous t base l before contour c later w heads r).0) (tail h dart-left) (map head inner) (tail h r.y) (map (tail h) r.back);
  }
    where
      inner : List ℕ
      inner = (arms-end r.arms r.ends).0

      arm-heads : map head r.arms ≡ map head inner ++ tail h r.y ∷ []
      arm-heads = ap (map head) (arms-end r.arms r.ends).1 ∙ map-append head inner (twin r.y ∷ []) ∙ ap (λ (z : ℕ). map head inner ++ tail h z ∷ []) (twin-twin r.y)
