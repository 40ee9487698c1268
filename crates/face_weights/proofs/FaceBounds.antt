-- Weights of faces: bounds, and how they depend on the weight of one edge.
use Rattle.std.proofs.Common.{◌≡◌, ◌≢◌, ℕ, ◌+◌, ◌*◌, ◌/◌, ◌<◌, ◌≤◌, Bool, true, false, not, ◌&&◌, ◌==◌, cond, List, inl, inr, refl, sym, ap, ◌∙◌, subst, arith}
use Rattle.std.proofs.lemmas.Bool.{cases_Bool, both_ways, and_parts, eq-eqb}
use Rattle.permutations.specs.Count.{sum_below}
use Rattle.permutations.proofs.Sums.{sum_below-ext, sum_below-le, sum_below-term}
use Rattle.permutations.proofs.Orbits.{orbit-equivalence}
use Rattle.multigraph.specs.Graph.{Multigraph, edge_count}
use Rattle.dart_maps.specs.Map.{twin, face, same_face}
use Rattle.dart_maps.proofs.Darts.{edge-twin}
use Rattle.faces.specs.Maps.{dart_after}
use Rattle.skeleton_faces.specs.Faces.{face_weight}
use Rattle.skeleton_faces.proofs.FaceSums.{sum_of, sum_of-one}
use Rattle.face_weights.proofs.Terms.{sum-pairs, sum-twice}

module _ (g : Multigraph) (r : List (List ℕ)) where
  abbrev m : ℕ
  m = edge_count g

  abbrev on : ℕ → ℕ → Bool
  on = same_face (edge_count g) (dart_after g r)

  itself : (x : ℕ) → on x x ≡ true
  itself x = (orbit-equivalence (2 * m) (face (dart_after g r))).reflexive x

  half : (y n : ℕ) → y < 2 * n → y / 2 < n
  half y n k = omega (arith, k)

  -- a face weighs no less than each edge on it
  pub own-weight : (w : ℕ → ℕ) (x : ℕ) → x < 2 * m → w (x / 2) ≤ face_weight g r w x
  own-weight w x l =
      let t : cond (on x x) (w (x / 2)) 0 ≤ face_weight g r w x = sum_below-term (2 * m) (λ y. cond (on x y) (w (y / 2)) 0) x l in
      subst (λ (z : Bool). cond z (w (x / 2)) 0 ≤ face_weight g r w x) (itself x) t

  -- a face weighs no more than bounds on what each edge adds
  pub face-bounded : (w u : ℕ → ℕ) (x : ℕ) → ((i : ℕ) → i < m → cond (on x (2 * i)) (w i) 0 + cond (on x (2 * i + 1)) (w i) 0 ≤ u i) → face_weight g r w x ≤ sum_below m u
  face-bounded w u x h =
      let pairs : face_weight g r w x ≡ sum_below m (λ i. cond (on x (2 * i)) (w ((2 * i) / 2)) 0 + cond (on x (2 * i + 1)) (w ((2 * i + 1) / 2)) 0) = sum-pairs (λ y. cond (on x y) (w (y / 2)) 0) m (2 * m) refl in
      let less : sum_below m (λ i. cond (on x (2 * i)) (w ((2 * i) / 2)) 0 + cond (on x (2 * i + 1)) (w ((2 * i + 1) / 2)) 0) ≤ sum_below m u = sum_below-le m (λ i. cond (on x (2 * i)) (w ((2 * i) / 2)) 0 + cond (on x (2 * i + 1)) (w ((2 * i + 1) / 2)) 0) u
      (λ i l. subst (λ n. cond (on x (2 * i)) (w n) 0 + cond (on x (2 * i + 1)) (w ((2 * i + 1) / 2)) 0 ≤ u i) (sym (even i)) (subst (λ n. cond (on x (2 * i)) (w i) 0 + cond (on x (2 * i + 1)) (w n) 0 ≤ u i) (sym (odd i)) (h i l))) in
      omega (arith, pairs, less)
    where
      even : (i : ℕ) → (2 * i) / 2 ≡ i
      even i = omega arith

      odd : (i : ℕ) → (2 * i + 1) / 2 ≡ i
      odd i = omega arith

  -- what passes adds the weight at most
  pub part : (t : Bool) (a : ℕ) → cond t a 0 ≤ a
  part t a = elim (cases_Bool t) [ inl e ↦ rw e (omega arith) | inr e ↦ rw e (omega arith) ]

  -- at most twice the sum of all weights
  pub face-twice : (w : ℕ → ℕ) (x : ℕ) → face_weight g r w x ≤ 2 * sum_below m w
  face-twice w x =
      let a : face_weight g r w x ≤ sum_below m (λ i. w i + w i) = face-bounded w (λ i. w i + w i) x (λ i l. omega (arith, part (on x (2 * i)) (w i), part (on x (2 * i + 1)) (w i))) in
      omega (arith, a, sum-twice m w)

  -- weights that agree have the same faces
  pub face-same : (w v : ℕ → ℕ) (x : ℕ) → ((i : ℕ) → i < m → w i ≡ v i) → face_weight g r w x ≡ face_weight g r v x
  face-same w v x same = sum_below-ext (2 * m) (λ y. cond (on x y) (w (y / 2)) 0) (λ y. cond (on x y) (v (y / 2)) 0) (λ y k. ap (λ z. cond (on x y) z 0) (same (y / 2) (half y m k)))

  -- an edge on two faces adds its weight once
  pub face-other : (w v : ℕ → ℕ) (x : ℕ) → x < 2 * m → on x (twin x) ≡ false → ((i : ℕ) → i < m → i ≢ x / 2 → w i ≡ v i) → face_weight g r w x + v (x / 2) ≡ face_weight g r v x + w (x / 2)
  face-other w v x l two same = omega (arith, first, second, rest)
    where
      others : ℕ → Bool
      others y = on x y && not (y == x)

      first : sum_of (2 * m) others (λ y. w (y / 2)) + w (x / 2) ≡ face_weight g r w x
      first = sum_of-one (2 * m) (on x) (λ y. w (y / 2)) x l (itself x)

      second : sum_of (2 * m) others (λ y. v (y / 2)) + v (x / 2) ≡ face_weight g r v x
      second = sum_of-one (2 * m) (on x) (λ y. v (y / 2)) x l (itself x)

      apart : (y : ℕ) → others y ≡ true → y / 2 ≢ x / 2
      apart y t e =
          let p = and_parts (on x y) (not (y == x)) t in
          elim (edge-twin y x e) [
            | inl q ↦ both_ways (y == x) (not-true (y == x) p.1) (eq-eqb y x q)
            | inr q ↦ both_ways (on x y) (ap (on x) q ∙ two) p.0
          ]
        where
          not-true : (t : Bool) → not t ≡ true → t ≡ false
          not-true t h = grind (arith, cases_Bool t)

      rest : sum_of (2 * m) others (λ y. w (y / 2)) ≡ sum_of (2 * m) others (λ y. v (y / 2))
      rest = sum_below-ext (2 * m) (λ y. cond (others y) (w (y / 2)) 0) (λ y. cond (others y) (v (y / 2)) 0) (λ y k. elim (cases_Bool (others y)) [
        | inl t ↦ ap (λ z. cond (others y) z 0) (same (y / 2) (half y m k) (apart y t))
        | inr t ↦ ap (λ (z : Bool). cond z (w (y / 2)) 0) t ∙ sym (ap (λ (z : Bool). cond z (v (y / 2)) 0) t)
      ])
