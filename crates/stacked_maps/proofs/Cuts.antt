-- The contours before and after a vertex is removed, as points: the vertex is in the place of the inner heads.
use Rattle.std.proofs.Common.{◌≡◌, ◌⊎◌, ℕ, ◌*◌, ◌<◌, inl, inr, Bool, true, List, [], ◌∷◌, ◌++◌, map, refl, sym, ap, ap₂, ◌∙◌, subst, append_assoc}
use Rattle.std.proofs.lemmas.Bool.{true≢false}
use Rattle.std.proofs.lemmas.List.{map-append}
use Rattle.std.proofs.lemmas.Simd.{map-map}
use Rattle.permutations.specs.Members.{is_member}
use Rattle.permutations.specs.Exchange.{restricted}
use Rattle.permutations.proofs.Members.{member-head, member-tail, member-cases, member-append_left, member-append_right, member-append_cases}
use Rattle.permutations.proofs.Mapped.{member-map, map-member}
use Rattle.permutations.proofs.Arrangements.{all-member}
use Rattle.dart_maps.specs.Map.{twin, face}
use Rattle.dart_maps.proofs.Darts.{twin-twin, twin-below}
use Rattle.multigraph.specs.Graph.{Multigraph}
use Rattle.faces.specs.Euler.{tail}
use Rattle.triangulations.specs.Triangulation.{IsTriangulated}
use Rattle.canonical_orders.specs.Contours.{stays_dart, Successive, IsContour, IsRemoval}
use Rattle.stacked_points.specs.Contours.{contour_of}
use Rattle.stacked_maps.specs.Drawn.{contour_points, start_of, end_of, OverlooksAll}
use Rattle.stacked_maps.proofs.Lists.{last-cut, last_or-member, last-image, cons-first, cons-rest, map-alike, chain-from}
use Rattle.stacked_maps.proofs.Darts.{stays-twin, permutes, next-tail, on-tail}

-- the points of the two contours, with the stretch from a to b in the later one
pub record IsCut (h : Multigraph) (at : ℕ → ℕ × ℕ) (contour later : List ℕ) (w : ℕ) (a : ℕ × ℕ) (inner : List (ℕ × ℕ)) (b : ℕ × ℕ) : Type 0 where
  pub left : List (ℕ × ℕ)
  pub right : List (ℕ × ℕ)
  pub old : contour_points h at later ≡ contour_of left a inner b right
  pub new : contour_points h at contour ≡ contour_of left a (at w ∷ []) b right

module _ (m : ℕ) (h : Multigraph) (next previous : ℕ → ℕ) (t : IsTriangulated m h next previous) (base : ℕ) (stays : ℕ → Bool) (contour later : List ℕ) (w : ℕ) (heads : List ℕ) (c : IsContour m h next base stays contour) (r : IsRemoval h next contour later w heads) where
  -- the dart from w to its left neighbour
  x-in : (r.x < 2 * m) × (stays_dart h stays r.x ≡ true)
  x-in = all-member (λ d. (d < 2 * m) × (stays_dart h stays d ≡ true)) contour r.x c.darts (ap (is_member r.x) r.cut ∙ member-append_right r.x (r.first ∷ r.front) (r.x ∷ r.y ∷ r.back) (member-head r.x (r.y ∷ r.back)))

  in-turn-below : (x : ℕ) (l : List ℕ) → x < 2 * m → Successive (λ d e. next d ≡ e) (x ∷ l) → (e : ℕ) → is_member e (x ∷ l) ≡ true → e < 2 * m
  in-turn-below x [] b s e n = elim (member-cases e x [] n) [ inl q ↦ subst (λ (z : ℕ). z < 2 * m) q b | inr k ↦ absurd (true≢false (sym k)) ]
  in-turn-below x (y ∷ l) b s e n = elim (member-cases e x (y ∷ l) n) [
    | inl q ↦ subst (λ (z : ℕ). z < 2 * m) q b
    | inr k ↦ in-turn-below y l (subst (λ (z : ℕ). z < 2 * m) s.0 ((permutes m h next previous t).forth x b)) s.1 e k
  ]

  arm-below : (e : ℕ) → is_member e (r.x ∷ r.arms) ≡ true → e < 2 * m
  arm-below = in-turn-below r.x r.arms x-in.0 r.in_turn

  -- the dart before it on the contour, which leaves the left neighbour
  before-x : (k : List ℕ) × (z : ℕ) × (r.first ∷ r.front ≡ k ++ z ∷ [])
  before-x = last-cut r.first r.front

  split : contour ≡ before-x.0 ++ before-x.1 ∷ r.x ∷ r.y ∷ r.back
  split = r.cut ∙ ap (λ (l : List ℕ). l ++ r.x ∷ r.y ∷ r.back) before-x.2 ∙ append_assoc before-x.0 (before-x.1 ∷ []) (r.x ∷ r.y ∷ r.back)

  left-tail : tail h before-x.1 ≡ tail h (twin r.x)
  left-tail =
      sym (ap (tail h) (chain-from (λ x y. restricted (2 * m) (stays_dart h stays) next (twin y) ≡ x) before-x.0 (before-x.1 ∷ r.x ∷ r.y ∷ r.back)
      (subst (Successive (λ x y. restricted (2 * m) (stays_dart h stays) next (twin y) ≡ x)) split c.along)).0)
      ∙ on-tail m h next previous t stays (twin r.x) (twin-below m r.x x-in.0) (stays-twin h stays r.x x-in.1)

  -- each head is on the later contour
  arm-on : (e : ℕ) → is_member e (r.x ∷ r.arms) ≡ true → (d : ℕ) × (is_member d later ≡ true) × (tail h d ≡ tail h (twin e))
  arm-on e n = elim (member-cases e r.x r.arms n) [
    | inl q ↦ (
      before-x.1,
      ap (is_member before-x.1) r.makes ∙ member-append_left before-x.1 ((r.first ∷ r.front) ++ map (face next) r.arms) r.back (member-append_left before-x.1 (r.first ∷ r.front) (map (face next) r.arms)
          (ap (is_member before-x.1) before-x.2 ∙ member-append_right before-x.1 before-x.0 (before-x.1 ∷ []) (member-head before-x.1 []))),
      left-tail ∙ ap (λ (z : ℕ). tail h (twin z)) q,
    )
    | inr k ↦ (
      face next e,
      ap (is_member (face next e)) r.makes ∙ member-append_left (face next e) ((r.first ∷ r.front) ++ map (face next) r.arms) r.back (member-append_right (face next e) (r.first ∷ r.front) (map (face next) r.arms) (member-map (face next) r.arms e k)),
      next-tail m h next previous t (twin e) (twin-below m e (arm-below e n)),
    )
  ]

  pub head-on : (u : ℕ) → is_member u heads ≡ true → (d : ℕ) × (is_member d later ≡ true) × (tail h d ≡ u)
  head-on u n =
      let p : (e : ℕ) × (is_member e (r.x ∷ r.arms) ≡ true) × (tail h (twin e) ≡ u) = map-member (λ d. tail h (twin d)) (r.x ∷ r.arms) u (sym (ap (is_member u) r.lead) ∙ n) in
      let q : (d : ℕ) × (is_member d later ≡ true) × (tail h d ≡ tail h (twin p.0)) = arm-on p.0 p.1 in
      (q.0, q.1, q.2 ∙ p.2)

  -- what leaves the vertices of the contour leaves w or a vertex of the later one
  pub contour-tails : (d : ℕ) → is_member d contour ≡ true → (tail h d ≡ w) ⊎ ((e : ℕ) × (is_member e later ≡ true) × (tail h e ≡ tail h d))
  contour-tails d n = elim (member-append_cases d (r.first ∷ r.front) (r.x ∷ r.y ∷ r.back) (sym (ap (is_member d) r.cut) ∙ n)) [
    | inl p ↦ inr (d, ap (is_member d) r.makes ∙ member-append_left d ((r.first ∷ r.front) ++ map (face next) r.arms) r.back (member-append_left d (r.first ∷ r.front) (map (face next) r.arms) p), refl)
    | inr p ↦ elim (member-cases d r.x (r.y ∷ r.back) p) [
      | inl e ↦ inl (sym (ap (tail h) e) ∙ r.leaves)
      | inr q ↦ elim (member-cases d r.y r.back q) [
        | inl e ↦ inr (right e)
        | inr k ↦ inr (d, ap (is_member d) r.makes ∙ member-append_right d ((r.first ∷ r.front) ++ map (face next) r.arms) r.back k, refl)
      ]
    ]
  ]
    where
      right : r.y ≡ d → (e : ℕ) × (is_member e later ≡ true) × (tail h e ≡ tail h d)
      right q = let o : (e : ℕ) × (is_member e later ≡ true) × (tail h e ≡ tail h (twin (twin r.y))) = arm-on (twin r.y) (subst (λ (z : ℕ). is_member z (r.x ∷ r.arms) ≡ true) r.ends (last_or-member r.x r.arms)) in
          (o.0, o.1, o.2 ∙ ap (tail h) (twin-twin r.y ∙ q))

  module _ (at : ℕ → ℕ × ℕ) (o : OverlooksAll (at w) (map at heads)) where
    abbrev P : ℕ → ℕ × ℕ
    P = start_of h at

    abbrev E : ℕ → ℕ × ℕ
    E = end_of h at

    row : map E (r.x ∷ r.arms) ≡ o.first ∷ (o.inner ++ o.last ∷ [])
    row = sym (map-map at (λ d. tail h (twin d)) (r.x ∷ r.arms)) ∙ sym (ap (map at) r.lead) ∙ o.stretch

    arms-row : map E r.arms ≡ o.inner ++ o.last ∷ []
    arms-row = cons-rest (E r.x) o.first (map E r.arms) (o.inner ++ o.last ∷ []) row

    left-point : P before-x.1 ≡ o.first
    left-point = ap at left-tail ∙ cons-first (E r.x) o.first (map E r.arms) (o.inner ++ o.last ∷ []) row

    right-point : P r.y ≡ o.last
    right-point = sym (ap E r.ends ∙ ap P (twin-twin r.y)) ∙ last-image E r.x r.arms o.inner o.last arms-row

    put-together : (k : List (ℕ × ℕ)) (a : ℕ × ℕ) (i : List (ℕ × ℕ)) (b : ℕ × ℕ) (l : List (ℕ × ℕ)) → ((k ++ a ∷ []) ++ (i ++ b ∷ [])) ++ l ≡ k ++ a ∷ (i ++ b ∷ l)
    put-together k a i b l = append_assoc (k ++ a ∷ []) (i ++ b ∷ []) l ∙ append_assoc k (a ∷ []) ((i ++ b ∷ []) ++ l) ∙ ap (λ (s : List (ℕ × ℕ)). k ++ a ∷ s) (append_assoc i (b ∷ []) l)

    front-points : map P (r.first ∷ r.front) ≡ map P before-x.0 ++ o.first ∷ []
    front-points = ap (map P) before-x.2 ∙ map-append P before-x.0 (before-x.1 ∷ []) ∙ ap (λ (q : ℕ × ℕ). map P before-x.0 ++ q ∷ []) left-point

    arm-points : map P (map (face next) r.arms) ≡ o.inner ++ o.last ∷ []
    arm-points = map-map P (face next) r.arms ∙ map-alike (λ d. P (face next d)) E r.arms (λ e n. ap at (next-tail m h next previous t (twin e) (twin-below m e (arm-below e (member-tail e r.x r.arms n))))) ∙ arms-row

    old-points : map P later ≡ contour_of (map P before-x.0) o.first o.inner o.last (map P r.back)
    old-points = ap (map P) r.makes
        ∙ map-append P ((r.first ∷ r.front) ++ map (face next) r.arms) r.back
        ∙ ap (λ (l : List (ℕ × ℕ)). l ++ map P r.back) (map-append P (r.first ∷ r.front) (map (face next) r.arms) ∙ ap₂ ◌++◌ front-points arm-points)
        ∙ put-together (map P before-x.0) o.first o.inner o.last (map P r.back)

    new-points : map P contour ≡ contour_of (map P before-x.0) o.first (at w ∷ []) o.last (map P r.back)
    new-points = ap (map P) split
        ∙ map-append P before-x.0 (before-x.1 ∷ r.x ∷ r.y ∷ r.back)
        ∙ ap (λ (q : ℕ × ℕ). map P before-x.0 ++ q ∷ P r.x ∷ P r.y ∷ map P r.back) left-point
        ∙ ap (λ (q : ℕ × ℕ). map P before-x.0 ++ o.first ∷ q ∷ P r.y ∷ map P r.back) (ap at r.leaves)
        ∙ ap (λ (q : ℕ × ℕ). map P before-x.0 ++ o.first ∷ at w ∷ q ∷ map P r.back) right-point

    pub removal-cuts : IsCut h at contour later w o.first o.inner o.last
    removal-cuts = record { left = map P before-x.0; right = map P r.back; old = old-points; new = new-points }
