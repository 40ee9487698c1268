-- Feet of one bridge have the same tails and attachments, together, and fit corners on the same faces.
use Rattle.std.proofs.Common.{◌≡◌, ℕ, ◌⊎◌, inl, inr, Bool, true, false, refl, sym, ap, ◌∙◌, subst}
use Rattle.std.proofs.lemmas.Bool.{both_ways, cases_eq}
use Rattle.permutations.proofs.Orbits.{orbit-equivalence}
use Rattle.multigraph.specs.Graph.{Multigraph, IsGraph, edge_count}
use Rattle.dart_maps.specs.Map.{twin, face, same_face}
use Rattle.dart_maps.proofs.Darts.{twin-twin}
use Rattle.faces.specs.Euler.{tail, dart_count}
use Rattle.path_separation.specs.Drawn.{is_on, passes}
use Rattle.path_separation.specs.Feet.{touches, IsAttached, FitsCorner, IsFoot, OfOneBridge}
use Rattle.path_separation.specs.Laws.{BridgesFitAlike}
use Rattle.path_separation.proofs.DrawnMap.{CornerOn, corner-passes, passes-corner, passes-same}
use Rattle.path_separation.proofs.Feet.{free-symmetric, touches-joined, touches-tail, head-attached, touch-attached}

-- z is the tail of the foot t or one of its attachments
abbrev pub AtBridge : Multigraph → (ℕ → Bool) → ℕ → ℕ → Type 0
AtBridge g drawn t z = (z ≡ tail g t) ⊎ IsAttached g drawn t z

-- the face of an admissible corner passes the tail of the foot and its attachments
pub fits-through : (g : Multigraph) (drawn : ℕ → Bool) (next : ℕ → ℕ) (t k : ℕ) → FitsCorner g drawn next t k → (z : ℕ) → AtBridge g drawn t z → passes g drawn next (twin k) z ≡ true
fits-through g drawn next t k a z (inl q) = corner-passes g drawn next (twin k) z (k, a.below, a.in_map, a.starts ∙ sym q, (orbit-equivalence (dart_count g) (face next)).reflexive (twin k))
fits-through g drawn next t k a z (inr w) = a.fits z w

module _ (g : Multigraph) (ok : IsGraph g) (drawn : ℕ → Bool) where
  -- a vertex that the head of a foot touches
  touched-at : (t z : ℕ) → is_on g drawn (tail g (twin t)) ≡ false → is_on g drawn z ≡ true → touches g drawn (tail g (twin t)) z ≡ true → AtBridge g drawn t z
  touched-at t z f h w = elim (cases_eq z (tail g t)) [ inl e ↦ inl e | inr n ↦ inr (touch-attached g ok drawn t z f h n w) ]

  -- what is the tail of a foot or one of its attachments is so for each foot of its bridge
  pub one-bridge : (t u : ℕ) → IsFoot g drawn t → IsFoot g drawn u → OfOneBridge g drawn t u → (z : ℕ) → AtBridge g drawn u z → AtBridge g drawn t z
  one-bridge t u ft fu (inl e) z (inl q) =
      let same : tail g u ≡ tail g (twin t) = ap (tail g) e in
      inr (subst (λ v. IsAttached g drawn t v) (sym (q ∙ same)) (head-attached g ok drawn t ft.0 (ap (is_on g drawn) (sym same) ∙ fu.2)))
  one-bridge t u ft fu (inl e) z (inr a) =
      let back : tail g (twin u) ≡ tail g t = ap (λ d. tail g (twin d)) e ∙ ap (tail g) (twin-twin t) in
      elim a.reached [
        | inl w ↦ inl (w.1 ∙ back)
        | inr w ↦ absurd (both_ways (is_on g drawn (tail g (twin u))) w.0 (ap (is_on g drawn) back ∙ ft.2))
      ]
  one-bridge t u ft fu (inr j) z (inl q) = subst (λ v. AtBridge g drawn t v) (sym q)
      (touched-at t (tail g u) j.0 fu.2 (touches-joined g ok drawn (tail g (twin u)) (tail g (twin t)) (tail g u) (free-symmetric g ok drawn (tail g (twin t)) (tail g (twin u)) j.2) (touches-tail g ok drawn u fu.0 j.1)))
  one-bridge t u ft fu (inr j) z (inr a) = elim a.reached [
    | inl w ↦ absurd (both_ways (is_on g drawn (tail g (twin u))) j.1 w.0)
    | inr w ↦ touched-at t z j.0 a.arrives (touches-joined g ok drawn (tail g (twin u)) (tail g (twin t)) z (free-symmetric g ok drawn (tail g (twin t)) (tail g (twin u)) j.2) w.1)
  ]

-- where a foot fits a corner, each foot of its bridge fits one on the same face
pub bridge-fits : BridgesFitAlike
bridge-fits g ok drawn next previous s t u c ft fu o f =
    let all : (z : ℕ) → AtBridge g drawn u z → passes g drawn next (twin c) z ≡ true = λ z a. fits-through g drawn next t c f z (one-bridge g ok drawn t u ft fu o z a) in
    let k : CornerOn g drawn next (twin c) (tail g u) = passes-corner g drawn next (twin c) (tail g u) (all (tail g u) (inl refl)) in
    let back : same_face (edge_count g) next (twin k.0) (twin c) ≡ true = (orbit-equivalence (dart_count g) (face next)).symmetric (twin c) (twin k.0) k.4 in
    (k.0, record { below = k.1; in_map = k.2; starts = k.3; fits = λ z a. passes-same g drawn next (twin c) (twin k.0) z back (all z (inr a)) }, k.4)
