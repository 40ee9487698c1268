-- Triangulated maps: darts at one vertex, and the three darts of a triangle.
use Rattle.std.proofs.Common.{◌≡◌, ℕ, suc, ◌*◌, ◌<◌, Bool, true, sym, ap, ◌∙◌, subst, arith}
use Rattle.std.proofs.lemmas.Bool.{and_parts}
use Rattle.permutations.specs.Permutation.{same_orbit}
use Rattle.permutations.specs.Exchange.{restricted}
use Rattle.permutations.proofs.Iterates.{iterate-orbit}
use Rattle.permutations.proofs.Restriction.{restricted-goes, restricted-permutes}
use Rattle.dart_maps.specs.Map.{twin, face}
use Rattle.dart_maps.proofs.Darts.{twin-twin, twin-below}
use Rattle.multigraph.specs.Graph.{Multigraph}
use Rattle.faces.specs.Euler.{tail}
use Rattle.triangulations.specs.Triangulation.{IsTriangulated}
use Rattle.triangulations.proofs.SimpleMaps as simple
use Rattle.canonical_orders.specs.Contours.{stays_dart}

-- a dart stays where both its ends do
pub stays-both : (h : Multigraph) (stays : ℕ → Bool) (d : ℕ) → stays (tail h d) ≡ true → stays (tail h (twin d)) ≡ true → stays_dart h stays d ≡ true
stays-both h stays d a b = grind (arith, a, b)

-- the vertex that a dart leaves stays where the dart does
pub stays-tail : (h : Multigraph) (stays : ℕ → Bool) (d : ℕ) → stays_dart h stays d ≡ true → stays (tail h d) ≡ true
stays-tail h stays d s = (and_parts (stays (tail h d)) (stays (tail h (twin d))) s).0

-- and so does the one where it leads
pub stays-head : (h : Multigraph) (stays : ℕ → Bool) (d : ℕ) → stays_dart h stays d ≡ true → stays (tail h (twin d)) ≡ true
stays-head h stays d s = (and_parts (stays (tail h d)) (stays (tail h (twin d))) s).1

-- the twin stays too
pub stays-twin : (h : Multigraph) (stays : ℕ → Bool) (d : ℕ) → stays_dart h stays d ≡ true → stays_dart h stays (twin d) ≡ true
stays-twin h stays d s = stays-both h stays (twin d) (stays-head h stays d s) (subst (λ (e : ℕ). stays (tail h e) ≡ true) (sym (twin-twin d)) (stays-tail h stays d s))

module _ (m : ℕ) (h : Multigraph) (next previous : ℕ → ℕ) (t : IsTriangulated m h next previous) where
  -- the next dart of the face leaves the vertex where the dart leads
  pub tail-face : (d : ℕ) → d < 2 * m → tail h (face next d) ≡ tail h (twin d)
  tail-face = simple.tail-face m h next previous t.map

  -- the triangle of the dart after c ends with the twin of c
  pub third : (c : ℕ) → c < 2 * m → face next (face next (next c)) ≡ twin c
  third c l = ap (λ (z : ℕ). face next (face next (next z))) (sym (twin-twin c)) ∙ t.triangles (twin c) (twin-below m c l)

  -- the third vertex of this triangle is where c leads
  pub third-vertex : (c : ℕ) → c < 2 * m → tail h (twin (face next (next c))) ≡ tail h (twin c)
  third-vertex c l = sym (tail-face (face next (next c)) (simple.face-in m h next previous t.map (next c) (simple.next-in m h next previous t.map c l))) ∙ ap (tail h) (third c l)

  -- a restriction leads to a dart of the same vertex
  pub restricted-tail : (stay : ℕ → Bool) (d : ℕ) → d < 2 * m → stay d ≡ true → tail h (restricted (2 * m) stay next d) ≡ tail h d
  restricted-tail stay d l s = let w = restricted-goes (2 * m) stay next previous t.map.drawn.map d l s in
      sym (simple.one-tail m h next previous t.map d (restricted (2 * m) stay next d) l ((restricted-permutes (2 * m) stay next previous t.map.drawn.map).forth d l)
      (subst (λ (z : ℕ). same_orbit (2 * m) next d z ≡ true) (sym w.1) (iterate-orbit (2 * m) next previous t.map.drawn.map (suc w.0) d l)))
