-- The faces that are listed, by the darts: the length of a list is that of the face of a dart.
use Rattle.std.proofs.Common.{◌≡◌, ℕ, ◌*◌, ◌/◌, ◌<◌, true, List, [], length, get_or, map, sym, ap, ap₂, ◌∙◌, subst}
use Rattle.std.proofs.lemmas.List.{length-map, get_or-map, get_or_default}
use Rattle.std.proofs.lemmas.List.Elements.{Contains-get_or}
use Rattle.permutations.specs.Permutation.{Permutes}
use Rattle.permutations.specs.Members.{is_member}
use Rattle.permutations.specs.Ring.{ring, orbit_length}
use Rattle.permutations.specs.Relation.{IsEquivalence}
use Rattle.permutations.proofs.Count.{count-ext}
use Rattle.permutations.proofs.Relation.{same-tests}
use Rattle.permutations.proofs.Arrangements.{count-list, member-at}
use Rattle.permutations.proofs.Orbits.{orbit-equivalence, orbit-ext}
use Rattle.permutations.proofs.Rings.{ring-distinct, ring-below, ring-member}
use Rattle.multigraph.specs.Graph.{Multigraph, IsGraph, edge_count}
use Rattle.rotations.specs.Rotation.{IsRotationSystem}
use Rattle.dart_maps.specs.Map.{face}
use Rattle.faces.specs.Euler.{tail, dart_from, dart_count, face_step}
use Rattle.faces.specs.Maps.{dart_after}
use Rattle.faces.specs.Trace.{pair_of, orbit_pairs, face_lists}
use Rattle.faces.specs.FaceLists.{IsListedOnce}
use Rattle.faces.proofs.DartLemmas.{dart-edge, tail-end, dart_from-of_dart, face_back, face_step-permutes}
use Rattle.faces.proofs.MapSteps.{map-face}
use Rattle.faces.proofs.ListedOnce.{along-images, listed-orbit, listed-once}
use Rattle.skeleton_faces.specs.Faces.{on_one_face, face_length}
use Rattle.long_face.specs.Longest.{HasFace}

module _ (g : Multigraph) (r : List (List ℕ)) (ok : IsGraph g) (system : IsRotationSystem g r) where
  -- the step along a face
  abbrev step : ℕ → ℕ
  step = face_step g r

  -- it permutes the darts
  permutes : Permutes (dart_count g) (face_step g r) (face_back g r)
  permutes = face_step-permutes g r ok system

  -- being on one face
  alike : IsEquivalence (on_one_face g r)
  alike = orbit-equivalence (2 * edge_count g) (face (dart_after g r))

  -- what is on the face of a dart is in its ring
  pub same-ring : (d x : ℕ) → d < dart_count g → on_one_face g r d x ≡ is_member x (ring (dart_count g) (face_step g r) d)
  same-ring d x l = orbit-ext (dart_count g) (face (dart_after g r)) step (λ y m. map-face g r y ok m) d x ∙ sym (ring-member (dart_count g) step (face_back g r) permutes d l x)

  -- the length of its list
  list-length : (d : ℕ) → d < dart_count g → length (orbit_pairs g (face_step g r) d) ≡ face_length g r d
  list-length d l = ap length (along-images g step d (orbit_length (dart_count g) step d)) ∙ length-map (ring (dart_count g) step d) (pair_of g)
      ∙ sym (count-list (dart_count g) (on_one_face g r d) (ring (dart_count g) step d) (ring-distinct (dart_count g) step (face_back g r) permutes d l) (λ x m. ring-below (dart_count g) step (face_back g r) permutes d l x m) (λ x m. same-ring d x l))

  -- darts of one face have faces of one length
  same-length : (d e : ℕ) → on_one_face g r d e ≡ true → face_length g r d ≡ face_length g r e
  same-length d e h = count-ext (dart_count g) (on_one_face g r d) (on_one_face g r e) (λ x l. same-tests (on_one_face g r d x) (on_one_face g r e x) (λ t. alike.transitive e d x (alike.symmetric d e h) t) (λ t. alike.transitive d e x h t))

  -- each list is of a dart, and so long as its face
  pub listed-dart : (len : ℕ) → HasFace g r len → (d : ℕ) × (d < dart_count g) × (face_length g r d ≡ len)
  listed-dart len (list, (i, l, e), n) = let w = listed-orbit g step ok (face_back g r, permutes) i l in
      (w.0, w.1, sym (list-length w.0 w.1) ∙ ap length (sym w.2) ∙ ap length (get_or_default (face_lists g r) i [] list l) ∙ ap length e ∙ n)

  -- and each dart has its face listed
  pub dart-listed : (d : ℕ) → d < dart_count g → HasFace g r (face_length g r d)
  dart-listed d l = (get_or (face_lists g r) w.list [], Contains-get_or (face_lists g r) w.list [] w.list_in, ap length w'.2 ∙ list-length w'.0 w'.1 ∙ same-length w'.0 d on)
    where
      w : IsListedOnce (face_lists g r) (tail g d, d / 2)
      w = listed-once g step ok (face_back g r, permutes) (tail g d) (d / 2) (dart-edge g d l) (tail-end g d)

      w' : (e : ℕ) × (e < dart_count g) × (get_or (face_lists g r) w.list [] ≡ orbit_pairs g (face_step g r) e)
      w' = listed-orbit g step ok (face_back g r, permutes) w.list w.list_in

      -- the ring of this dart
      around : List ℕ
      around = ring (dart_count g) (face_step g r) w'.0

      is : get_or (face_lists g r) w.list [] ≡ map (pair_of g) around
      is = w'.2 ∙ along-images g step w'.0 (orbit_length (dart_count g) step w'.0)

      within : w.place < length around
      within = subst (λ n. w.place < n) (ap length is ∙ length-map around (pair_of g)) w.place_in

      y : ℕ
      y = get_or around w.place 0

      among : is_member y around ≡ true
      among = member-at around w.place 0 within

      pair : pair_of g y ≡ pair_of g d
      pair = sym (get_or-map (pair_of g) around w.place 0 (0, 0) within) ∙ ap (λ (z : List (ℕ × ℕ)). get_or z w.place (0, 0)) (sym is) ∙ w.there

      same : y ≡ d
      same = sym (dart_from-of_dart g y ok (ring-below (dart_count g) step (face_back g r) permutes w'.0 w'.1 y among)) ∙ ap₂ (dart_from g) (ap (λ (z : ℕ × ℕ). z.0) pair) (ap (λ (z : ℕ × ℕ). z.1) pair) ∙ dart_from-of_dart g d ok l

      on : on_one_face g r w'.0 d ≡ true
      on = same-ring w'.0 d w'.1 ∙ subst (λ z. is_member z around ≡ true) same among
