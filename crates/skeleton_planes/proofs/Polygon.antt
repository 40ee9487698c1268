-- A polygon is plane: a connected map each vertex of which has two darts.
use Rattle.std.proofs.Common.{◌≡◌, ℕ, zero, suc, ◌*◌, ◌<◌, ◌≤◌, true, ltb, inl, inr, refl, sym, ap, ◌∙◌, arith, lt-ltb, le-ltb}
use Rattle.std.proofs.lemmas.Bool.{cases_lt}
use Rattle.permutations.specs.Relation.{IsEquivalence, leads, leader}
use Rattle.permutations.specs.Permutation.{iterate}
use Rattle.permutations.proofs.Orbits.{orbit-equivalence}
use Rattle.permutations.proofs.Permutations.{permutes-ext}
use Rattle.permutations.proofs.Iterates.{orbit-steps}
use Rattle.permutations.proofs.Leaders.{leader-le, leader-leads, same-leader, leads-from, not-leads}
use Rattle.permutations.proofs.Count.{count-ext}
use Rattle.dart_maps.specs.Map.{twin, face, IsMap, IsPlane, same_face, same_component, vertex_count, face_count, component_count}
use Rattle.dart_maps.proofs.Darts.{twin-other, twin-below, twin-twin, face-permutes}
use Rattle.dart_maps.proofs.Euler.{euler}
use Rattle.dart_maps.proofs.Bond.{count-under, count-two, involution-count}

-- one step more of an iteration, at its start
iterate-start : (f : ℕ → ℕ) (k x : ℕ) → iterate f (suc k) x ≡ iterate f k (f x)
iterate-start f zero x = refl
iterate-start f (suc k) x = ap f (iterate-start f k x)

-- a connected map each vertex of which has two darts
module _ (m : ℕ) (f g : ℕ → ℕ) (b : IsMap m f g) (some_edge : 0 < m) (pairs : (d : ℕ) → d < 2 * m → f (f d) ≡ d) (moved : (d : ℕ) → d < 2 * m → f d ≡ d → ⊥) (one : (c d : ℕ) → c < 2 * m → d < 2 * m → same_component m f c d ≡ true) where
  -- no number of steps along a face leads to the other side of an edge
  never : (k x : ℕ) → x < 2 * m → iterate (face f) k x ≡ twin x → ⊥
  never zero x l e = twin-other x (sym e)
  never (suc zero) x l e = moved (twin x) (twin-below m x l) e
  never (suc (suc k)) x l e = never k (face f x) ((face-permutes m f g b).forth x l) (sym (iterate-start (face f) k x) ∙ back)
    where
      far : ℕ
      far = iterate (face f) (suc k) x

      far-in : iterate (face f) (suc k) x < 2 * m
      far-in = below (suc k) x l
        where
          below : (k x : ℕ) → x < 2 * m → iterate (face f) k x < 2 * m
          below zero x l = l
          below (suc k) x l = (face-permutes m f g b).forth (iterate (face f) k x) (below k x l)

      back : iterate (face f) (suc k) x ≡ twin (face f x)
      back = sym (twin-twin far) ∙ ap twin (sym (pairs (twin far) (twin-below m far far-in)) ∙ ap f e)

  -- so each edge has different faces on its two sides
  sides : (x : ℕ) → x < 2 * m → same_face m f x (twin x) ≡ true → ⊥
  sides x l t = let w = orbit-steps (2 * m) (face f) (λ d. twin (g d)) (face-permutes m f g b) x (twin x) l t in never w.0 x l w.2

  -- there are two faces at least
  two-faces : 2 ≤ face_count m f
  two-faces = count-two (2 * m) (leads (same_face m f)) (leader (same_face m f) 0) (leader (same_face m f) (twin 0))
      (below (leader-le (same_face m f) 0 r) here) (below (leader-le (same_face m f) (twin 0) r) (twin-below m 0 here))
      (leader-leads (same_face m f) 0 r) (leader-leads (same_face m f) (twin 0) r)
      (λ e. sides 0 here (same-leader (same_face m f) 0 (twin 0) r e))
    where
      r : IsEquivalence (same_face m f)
      r = orbit-equivalence (2 * m) (face f)

      here : 0 < 2 * m
      here = omega (arith, some_edge)

      below : {y x : ℕ} → y ≤ x → x < 2 * m → y < 2 * m
      below l k = omega (arith, l, k)

  -- one component
  one-component : component_count m f ≡ 1
  one-component = count-ext (2 * m) (leads (same_component m f)) (λ d. ltb d 1) (λ d l. elim (cases_lt d 1) [
    | inl k ↦ leads-from (same_component m f) d (λ y i. absurd (omega (arith, k, i))) ∙ sym (lt-ltb d 1 k)
    | inr k ↦ not-leads (same_component m f) d 0 (omega (arith, k)) (one 0 d (omega (arith, some_edge)) l) ∙ sym (le-ltb d 1 k)
  ]) ∙ count-under (2 * m) 1 (omega (arith, some_edge))

  -- as many vertices as edges
  vertices : 2 * vertex_count m f ≡ 2 * m
  vertices = involution-count (2 * m) f (permutes-ext (2 * m) f g f f b (λ d l. refl) (λ d l. same d l)) moved
    where
      same : (d : ℕ) → d < 2 * m → f d ≡ g d
      same d l = sym (b.back_forth (f d) (b.forth d l)) ∙ ap g (pairs d l)

  -- it is plane
  pub polygon-plane : IsPlane m f
  polygon-plane = omega (arith, euler m f g b, two-faces, one-component, vertices)
