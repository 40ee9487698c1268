-- The mirror image of a rotation system.
use Rattle.std.proofs.Common.{◌≡◌, ◌≢◌, ℕ, suc, ◌/◌, ◌<◌, ◌≤◌, true, List, [], ◌∷◌, length, reverse, IsPermutation, refl, sym, ap, ap₂, ◌∙◌, subst, arith}
use Rattle.std.proofs.lemmas.List.{length-map}
use Rattle.std.proofs.Math.ListN.{get_or-map}
use Rattle.permutations.specs.Members.{is_member, is_distinct}
use Rattle.permutations.specs.Cyclic.{first_or, successor, predecessor, from_least}
use Rattle.permutations.proofs.Members.{member-tail, no_member-head, no_member-tail, distinct-head, member-reverse, distinct-reverse}
use Rattle.permutations.proofs.Arrangements.{permutation-member, permutation-distinct, permutation-from_members, length-from_members}
use Rattle.permutations.proofs.Successor.{predecessor-successor}
use Rattle.permutations.proofs.Chains.{successor-next}
use Rattle.permutations.proofs.NormalForm.{from_least-member, from_least-distinct, mirror-from_least, mirror-successor, mirror-twice, written-first}
use Rattle.multigraph.specs.Graph.{Multigraph, IsGraph, edge_count, incident_edges}
use Rattle.rotations.specs.Rotation.{order_at, IsCyclicOrder, IsRotationSystem}
use Rattle.rotations.proofs.Membership.{incident-distinct, incident-least}
use Rattle.dart_maps.proofs.Euler.{counts-ext, plane-ext}
use Rattle.dart_maps.proofs.Mirror.{mirror-counts, mirror-plane}
use Rattle.faces.specs.Euler.{tail, dart_from, dart_count, face_count, IsPlane}
use Rattle.faces.specs.Maps.{dart_after, dart_before}
use Rattle.rotations.specs.Runs.{mirror_image}
use Rattle.faces.proofs.DartLemmas.{order-distinct, member-incident}
use Rattle.faces.proofs.MapSteps.{tail-in, map-permutes}
use Rattle.faces.proofs.MapCounts.{map-faces, plane-map, map-plane}

-- the cyclic orders of the mirror image
pub mirror-order : (r : List (List ℕ)) (v : ℕ) → order_at (mirror_image r) v ≡ from_least (reverse (order_at r v))
mirror-order r v = get_or-map (λ order. from_least (reverse order)) r v []

-- so is the first edge round it
pub order-least : (g : Multigraph) (r : List (List ℕ)) (v : ℕ) → IsRotationSystem g r → v < g.vertex_count → (e : ℕ) → is_member e (order_at r v) ≡ true → first_or 0 (order_at r v) ≤ e
order-least g r v s l e m = omega (arith, (s.orders v l).least_first, incident-least g v e (member-incident g r v e s l m))

-- the mirror of a cyclic order begins with the same edge
mirror-first : (l : List ℕ) → is_distinct l ≡ true → ((e : ℕ) → is_member e l ≡ true → first_or 0 l ≤ e) → first_or 0 (from_least (reverse l)) ≡ first_or 0 l
mirror-first [] d h = refl
mirror-first (x ∷ xs) d h = ap (first_or 0) (mirror-from_least x xs d (λ z m. h z (member-tail z x xs m)))

-- the mirror holds the same edges
mirror-arranged : (edges l : List ℕ) → is_distinct edges ≡ true → IsPermutation edges l → IsPermutation edges (from_least (reverse l))
mirror-arranged edges l d p = permutation-from_members edges (from_least (reverse l)) d (from_least-distinct (reverse l) (distinct-reverse l (permutation-distinct edges l p d)))
    (λ z. sym (from_least-member (reverse l) z ∙ member-reverse z l ∙ permutation-member edges l z p))

-- the mirror image is a rotation system
pub mirror-system : (g : Multigraph) (r : List (List ℕ)) → IsRotationSystem g r → IsRotationSystem g (mirror_image r)
mirror-system g r s = record {
  vertices = length-map r (λ order. from_least (reverse order)) ∙ s.vertices;
  orders = λ v l. subst (IsCyclicOrder (incident_edges g v)) (sym (mirror-order r v)) (mirrored v l);
}
  where
    mirrored : (v : ℕ) → v < g.vertex_count → IsCyclicOrder (incident_edges g v) (from_least (reverse (order_at r v)))
    mirrored v l = record {
      arranged = mirror-arranged (incident_edges g v) (order_at r v) (incident-distinct g v) (s.orders v l).arranged;
      least_first = mirror-first (order_at r v) (order-distinct g r v s l) (order-least g r v s l) ∙ (s.orders v l).least_first;
    }

-- its map goes the other way round each vertex
pub mirror-after : (g : Multigraph) (r : List (List ℕ)) → IsGraph g → IsRotationSystem g r → (d : ℕ) → d < dart_count g → dart_after g (mirror_image r) d ≡ dart_before g r d
mirror-after g r ok s d l = ap (dart_from g (tail g d)) (ap (λ order. successor order (d / 2)) (mirror-order r (tail g d))
    ∙ mirror-successor (order_at r (tail g d)) (d / 2) (order-distinct g r (tail g d) s (tail-in g d ok l)))

-- the mirror image of the mirror image is the rotation system
pub mirror-image-twice : (g : Multigraph) (r : List (List ℕ)) → IsRotationSystem g r → mirror_image (mirror_image r) ≡ r
mirror-image-twice g r s = each r (λ v l. twice v (subst (λ n. v < n) s.vertices l))
  where
    twice : (v : ℕ) → v < g.vertex_count → from_least (reverse (from_least (reverse (order_at r v)))) ≡ order_at r v
    twice v l = mirror-twice (order_at r v) (order-distinct g r v s l) ∙ written-first (order_at r v) (order-least g r v s l)

    each : (q : List (List ℕ)) → ((v : ℕ) → v < length q → from_least (reverse (from_least (reverse (order_at q v)))) ≡ order_at q v) → mirror_image (mirror_image q) ≡ q
    each [] h = refl
    each (l ∷ q) h = ap₂ (λ x xs. x ∷ xs) (h 0 (omega arith)) (each q (λ v i. h (suc v) (omega arith)))

-- the mirror image of a plane rotation system is plane
pub mirror-image-plane : (g : Multigraph) (r : List (List ℕ)) → IsGraph g → IsRotationSystem g r → IsPlane g r → IsPlane g (mirror_image r)
mirror-image-plane g r ok s p = map-plane g (mirror_image r) ok (mirror-system g r s)
    (plane-ext (edge_count g) (dart_before g r) (dart_after g (mirror_image r)) (λ d l. sym (mirror-after g r ok s d l))
    (mirror-plane (edge_count g) (dart_after g r) (dart_before g r) (map-permutes g r ok s) (plane-map g r ok s p)))

-- and only that of a plane one is
pub mirror-image-plane-back : (g : Multigraph) (r : List (List ℕ)) → IsGraph g → IsRotationSystem g r → IsPlane g (mirror_image r) → IsPlane g r
mirror-image-plane-back g r ok s p = subst (IsPlane g) (mirror-image-twice g r s) (mirror-image-plane g (mirror_image r) ok (mirror-system g r s) p)

-- the mirror image has as many faces
pub mirror-image-faces : (g : Multigraph) (r : List (List ℕ)) → IsGraph g → IsRotationSystem g r → face_count g (mirror_image r) ≡ face_count g r
mirror-image-faces g r ok s = omega (
  arith,
  map-faces g r ok s,
  map-faces g (mirror_image r) ok (mirror-system g r s),
  (mirror-counts (edge_count g) (dart_after g r) (dart_before g r) (map-permutes g r ok s)).1,
  (counts-ext (edge_count g) (dart_after g (mirror_image r)) (dart_before g r) (mirror-after g r ok s)).1,
)

-- a cyclic order of three or more edges is not its own mirror
mirror-of_three : (l : List ℕ) → is_distinct l ≡ true → 3 ≤ length l → from_least (reverse l) ≢ l
mirror-of_three [] d n h = omega arith
mirror-of_three (x ∷ []) d n h = omega arith
mirror-of_three (x ∷ y ∷ []) d n h = omega arith
mirror-of_three (x ∷ y ∷ z ∷ t) d n h =
    let l : List ℕ = x ∷ y ∷ z ∷ t in
    let one : successor l x ≡ y = successor-next [] x y (z ∷ t) d in
    let two : successor l y ≡ z = successor-next (x ∷ []) y z t d in
    let before : predecessor l y ≡ x = ap (predecessor l) (sym one) ∙ predecessor-successor l x d in
    let same : successor l y ≡ predecessor l y = ap (λ k. successor k y) (sym h) ∙ mirror-successor l y d in
    no_member-head x z t (no_member-tail x y (z ∷ t) (distinct-head x (y ∷ z ∷ t) d)) (sym two ∙ same ∙ before)

-- so where some vertex has three edges or more, the mirror image is another rotation system
pub mirror-image-differs : (g : Multigraph) (r : List (List ℕ)) → IsRotationSystem g r → (v : ℕ) → v < g.vertex_count → 3 ≤ length (incident_edges g v) → mirror_image r ≢ r
mirror-image-differs g r s v l n h = mirror-of_three (order_at r v) (order-distinct g r v s l) three (sym (mirror-order r v) ∙ ap (λ q. order_at q v) h)
  where
    three : 3 ≤ length (order_at r v)
    three = omega (arith, n, length-from_members (incident_edges g v) (order_at r v) (incident-distinct g v) (order-distinct g r v s l) (λ z. sym (permutation-member (incident_edges g v) (order_at r v) z (s.orders v l).arranged)))
