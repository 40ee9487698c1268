-- The steps of a rotation system lead along its faces.
use Rattle.std.proofs.Common.{◌≡◌, ℕ, zero, suc, ◌+◌, ◌-◌, ◌/◌, ◌<◌, true, ◌==◌, List, [], ◌∷◌, ◌++◌, map, refl, ap, ◌∙◌}
use Rattle.permutations.specs.Members.{is_member}
use Rattle.permutations.specs.Permutation.{iterate}
use Rattle.permutations.specs.Ring.{images, orbit_length}
use Rattle.permutations.proofs.Search.{least-ext}
use Rattle.permutations.proofs.Members.{member-head, member-tail}
use Rattle.multigraph.specs.Graph.{Multigraph, IsGraph, edge_count}
use Rattle.dart_maps.specs.Map.{twin}
use Rattle.dart_maps.proofs.Darts.{twin-below}
use Rattle.faces.specs.Euler.{dart_count, face_step}
use Rattle.faces.proofs.DartLemmas.{face_step-permutes}
use Rattle.faces.proofs.MapSteps.{map-face}
use Rattle.planarity.specs.Circle.{face_arc, arc_edges}
use Rattle.contract_obstruct.specs.Steps.{AreSteps}
use Rattle.contract_obstruct.specs.Arcs.{along, arc_of, arcs_of}

module _ (n : ℕ) (f h : ℕ → ℕ) (below : (d : ℕ) → d < n → f d < n) (agree : (d : ℕ) → d < n → h d ≡ f d) where
  -- functions that agree below n and stay there have the same iterates
  same-iterate : (k x : ℕ) → x < n → (iterate f k x < n) × (iterate h k x ≡ iterate f k x)
  same-iterate zero x l = (l, refl)
  same-iterate (suc k) x l = let w = same-iterate k x l in (below (iterate f k x) w.0, ap h w.1 ∙ agree (iterate f k x) w.0)

  -- the same images
  same-images : (k x : ℕ) → x < n → images h k x ≡ images f k x
  same-images zero x l = refl
  same-images (suc k) x l = ap (λ (t : List ℕ). x ∷ t) (ap (images h k) (agree x l) ∙ same-images k (f x) (below x l))

  -- and orbits of the same length
  same-length : (m x : ℕ) → x < n → orbit_length m h x ≡ orbit_length m f x
  same-length m x l = ap (λ k. k + 1) (least-ext m (λ k. iterate h (k + 1) x == x) (λ k. iterate f (k + 1) x == x) (λ k _. ap (λ z. z == x) (same-iterate (k + 1) x l).1))

module _ (h : Multigraph) (s : List (List ℕ)) (next : List ℕ) (ok : IsGraph h) (a : AreSteps h s next) where
  step-agrees : (d : ℕ) → d < dart_count h → along next d ≡ face_step h s d
  step-agrees d l = a.steps (twin d) (twin-below (edge_count h) d l) ∙ map-face h s d ok l

  step-below : (d : ℕ) → d < dart_count h → face_step h s d < dart_count h
  step-below d l = (face_step-permutes h s ok a.system).forth d l

  -- an arc by these steps is one of the rotation system
  arc-told : (d : ℕ) → d < dart_count h → arc_of next d ≡ face_arc h s d
  arc-told d l =
      ap (λ m. images (along next) (orbit_length m (along next) d - 2) (along next d)) a.each
      ∙ (ap (λ m. images (along next) (m - 2) (along next d)) (same-length (dart_count h) (face_step h s) (along next) step-below step-agrees (dart_count h) d l)
      ∙ (ap (images (along next) (orbit_length (dart_count h) (face_step h s) d - 2)) (step-agrees d l)
      ∙ same-images (dart_count h) (face_step h s) (along next) step-below step-agrees (orbit_length (dart_count h) (face_step h s) d - 2) (face_step h s d) (step-below d l)))

  -- so are all of them
  pub arcs-told : (ds : List ℕ) → ((d : ℕ) → is_member d ds ≡ true → d < dart_count h) → arcs_of next ds ≡ arc_edges h s ds
  arcs-told [] l = refl
  arcs-told (d ∷ ds) l = (λ i. map (λ c. c / 2) (arc-told d (l d (member-head d ds)) i) ++ arcs-told ds (λ z m. l z (member-tail z d ds m)) i)
