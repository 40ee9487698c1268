-- In a plane rotation system of a triconnected graph each face passes each vertex at most once, also when one vertex is left
-- out.
use Rattle.std.proofs.Common.{◌≡◌, ◌≢◌, ℕ, ◌+◌, ◌*◌, ◌/◌, ◌<◌, inl, inr, Bool, true, false, not, ◌&&◌, ◌==◌, List, [], ◌∷◌, refl, sym, ap, ◌∙◌, subst, arith}
use Rattle.std.proofs.lemmas.Bool.{cases_Bool, both_ways, false_from_ne_true, and_parts, not-true, eq-eqb, eqb-true, ne_eqb, cases_eq}
use Rattle.permutations.specs.Members.{is_member}
use Rattle.permutations.specs.Relation.{IsEquivalence, connected}
use Rattle.permutations.specs.Exchange.{restricted}
use Rattle.permutations.specs.Cyclic.{successor}
use Rattle.permutations.proofs.Relation.{kernel-equivalence}
use Rattle.permutations.proofs.Orbits.{orbit-least}
use Rattle.permutations.proofs.Restriction.{restricted-alone, restricted-permutes, restricted-orbit}
use Rattle.multigraph.specs.Graph.{Multigraph, IsGraph, edge_count, ends_of, is_end, other_end}
use Rattle.rotations.specs.Rotation.{order_at, IsRotationSystem}
use Rattle.graph_theory.specs.Triconnected.{avoids, ends_without, IsTriconnected}
use Rattle.contractions.proofs.Outside.{out-two, two-out}
use Rattle.contractions.proofs.Neighbours.{ThreeNeighbours, three_neighbours}
use Rattle.dart_maps.specs.Map.{twin, IsMap, same_vertex, same_face, same_component}
use Rattle.dart_maps.specs.Order.{frozen}
use Rattle.dart_maps.proofs.Darts.{twin-even, twin-twin, twin-below}
use Rattle.dart_maps.proofs.Components.{component-equivalence, component-next, component-twin, component-finer}
use Rattle.dart_maps.proofs.Plane.{restricted-plane}
use Rattle.dart_maps.proofs.Noncrossing.{restricted-vertex}
use Rattle.dart_maps.proofs.FourDarts.{frozen-here, frozen-elsewhere}
use Rattle.faces.specs.Euler.{tail, dart_count, IsPlane}
use Rattle.faces.specs.Maps.{dart_after, dart_before}
use Rattle.faces.proofs.DartLemmas.{tail-first, tail-second, dart_from-edge, order-distinct, order-member}
use Rattle.faces.proofs.MapSteps.{tail-in, map-permutes}
use Rattle.faces.proofs.MapVertices.{vertex-tail, tail-vertex, tail-order}
use Rattle.faces.proofs.MapCounts.{plane-map}
use Rattle.faces.proofs.MapCorners.{face-once}
use Rattle.planarity.proofs.SimpleDarts.{tail-other}
use Rattle.faces.proofs.RestrictedConnection.{opened-vertex, counted-connected, near-connected}
use Rattle.planarity.proofs.SubdivisionEdges.{successor-moves}

-- whether dart d has no end at w
abbrev pub off : Multigraph → ℕ → ℕ → Bool
off g w d = not (tail g d == w) && not (tail g (twin d) == w)

-- such a dart leaves another vertex
pub off-tail : (g : Multigraph) (w d : ℕ) → off g w d ≡ true → tail g d ≢ w
off-tail g w d h e = both_ways (tail g d == w) (not-true (tail g d == w) (and_parts (not (tail g d == w)) (not (tail g (twin d) == w)) h).0) (eq-eqb (tail g d) w e)

-- and arrives at another vertex
pub off-arrives : (g : Multigraph) (w d : ℕ) → off g w d ≡ true → tail g (twin d) ≢ w
off-arrives g w d h e = both_ways (tail g (twin d) == w) (not-true (tail g (twin d) == w) (and_parts (not (tail g d == w)) (not (tail g (twin d) == w)) h).1) (eq-eqb (tail g (twin d)) w e)

-- a dart that leaves and arrives at other vertices
pub off-from : (g : Multigraph) (w d : ℕ) → tail g d ≢ w → tail g (twin d) ≢ w → off g w d ≡ true
off-from g w d a b = rw (ne_eqb (tail g d) w a, ne_eqb (tail g (twin d)) w b) refl

-- its twin has no end there either
pub off-twin : (g : Multigraph) (w d : ℕ) → off g w d ≡ true → off g w (twin d) ≡ true
off-twin g w d h = off-from g w (twin d) (off-arrives g w d h) (λ e. off-tail g w d h (ap (tail g) (sym (twin-twin d)) ∙ e))

-- a rotation system without the darts at w, opened at z
module _ (g : Multigraph) (r : List (List ℕ)) (ok : IsGraph g) (s : IsRotationSystem g r) (w z : ℕ) where
  abbrev left : ℕ → ℕ
  left = restricted (dart_count g) (off g w) (dart_after g r)

  abbrev left_back : ℕ → ℕ
  left_back = restricted (dart_count g) (off g w) (dart_before g r)

  left-permutes : IsMap (edge_count g) left left_back
  left-permutes = restricted-permutes (dart_count g) (off g w) (dart_after g r) (dart_before g r) (map-permutes g r ok s)

  -- steps stay at a vertex
  left-tail : (d : ℕ) → d < dart_count g → tail g (left d) ≡ tail g d
  left-tail d l = elim (cases_Bool (off g w d)) [
    | inl t ↦ sym (vertex-tail g r ok s d (left d) (restricted-vertex (edge_count g) (dart_after g r) (dart_before g r) (map-permutes g r ok s) (off g w) d (left d) l t refl))
    | inr f ↦ ap (tail g) (restricted-alone (dart_count g) (off g w) (dart_after g r) d f)
  ]

  -- darts of one vertex of what is left leave one vertex
  left-vertex : (c d : ℕ) → same_vertex (edge_count g) left c d ≡ true → tail g c ≡ tail g d
  left-vertex c d t = eqb-true (tail g c) (tail g d) (orbit-least (dart_count g) left (λ x y. tail g x == tail g y) (kernel-equivalence (tail g))
      (λ x l. eq-eqb (tail g x) (tail g (left x)) (sym (left-tail x l))) c d t)

  -- and darts that are left and leave one vertex are of one vertex
  vertex-left : (c d : ℕ) → c < dart_count g → d < dart_count g → tail g c ≡ tail g d → off g w c ≡ true → off g w d ≡ true → same_vertex (edge_count g) left c d ≡ true
  vertex-left c d l k e o p = restricted-orbit (dart_count g) (off g w) (dart_after g r) (dart_before g r) (map-permutes g r ok s) c d o p ∙ tail-vertex g r ok s c d l k e

  -- whether a dart is left, and not at z
  abbrev counts : ℕ → Bool
  counts d = off g w d && not (tail g d == z)

  counts-from : (d : ℕ) → off g w d ≡ true → tail g d ≢ z → counts d ≡ true
  counts-from d o n = rw (o, ne_eqb (tail g d) z n) refl

  -- such darts of one vertex
  left-alike : (c d : ℕ) → c < dart_count g → d < dart_count g → tail g c ≡ tail g d → counts c ≡ true → counts d ≡ true → same_component (edge_count g) (frozen (λ x. tail g x == z) left) c d ≡ true
  left-alike c d l k e o p =
      let i = and_parts (off g w c) (not (tail g c == z)) o in
      opened-vertex (edge_count g) left left_back left-permutes (λ x. tail g x == z) (λ x m. ap (λ v. v == z) (left-tail x m)) c d l (vertex-left c d l k e i.0 (and_parts (off g w d) (not (tail g d == z)) p).0) (not-true (tail g c == z) i.1)

  -- the darts of an edge that avoids w and z
  left-both : (e : ℕ) → e < edge_count g → avoids (w ∷ z ∷ []) (ends_of g e) ≡ true → (counts (2 * e) ≡ true) × (counts (2 * e + 1) ≡ true)
  left-both e l h =
      let i = and_parts (not (is_member (ends_of g e).0 (w ∷ z ∷ []))) (not (is_member (ends_of g e).1 (w ∷ z ∷ []))) h in
      let a = two-out w z (ends_of g e).0 (not-true (is_member (ends_of g e).0 (w ∷ z ∷ [])) i.0) in
      let b = two-out w z (ends_of g e).1 (not-true (is_member (ends_of g e).1 (w ∷ z ∷ [])) i.1) in
      let other : twin (2 * e) ≡ 2 * e + 1 = twin-even (2 * e) (omega arith) in
      let o : off g w (2 * e) ≡ true = off-from g w (2 * e) (λ q. a.0 (sym q ∙ tail-first g e)) (λ q. b.0 (sym q ∙ ap (tail g) other ∙ tail-second g e)) in (
        counts-from (2 * e) o (λ q. a.1 (sym q ∙ tail-first g e)),
        counts-from (2 * e + 1) (subst (λ x. off g w x ≡ true) other (off-twin g w (2 * e) o)) (λ q. b.1 (sym q ∙ tail-second g e)),
      )

  -- darts of vertices that are connected by edges that avoid w and z
  left-connected : (c d : ℕ) → c < dart_count g → d < dart_count g → off g w c ≡ true → off g w d ≡ true → tail g c ≢ z → tail g d ≢ z → connected (ends_without g (w ∷ z ∷ [])) (tail g c) (tail g d) ≡ true
      → same_component (edge_count g) (frozen (λ x. tail g x == z) left) c d ≡ true
  left-connected c d l k o p m n t = counted-connected g (frozen (λ x. tail g x == z) left) counts left-alike (w ∷ z ∷ []) left-both c d l k (counts-from c o m) (counts-from d p n) t

-- without vertex w each face of a triconnected graph passes each vertex at most once
pub without-face_once : (h : Multigraph) (s : List (List ℕ)) → IsGraph h → IsRotationSystem h s → IsPlane h s → IsTriconnected h → (w p q : ℕ) → p < dart_count h → q < dart_count h → p ≢ q → off h w p ≡ true → off h w q ≡ true → tail h p ≡ tail h q
    → same_face (edge_count h) (restricted (dart_count h) (off h w) (dart_after h s)) p q ≡ false
without-face_once h s ok rs plane tri w p q l k n o i e = face-once (edge_count h) (left h s ok rs w z) (left_back h s ok rs w z) (left-permutes h s ok rs w z)
    (restricted-plane (edge_count h) (dart_after h s) (dart_before h s) (map-permutes h s ok rs) (plane-map h s ok rs plane) (off h w)) p q l k n
    (vertex-left h s ok rs w z p q l k e o i)
    (component-finer (edge_count h) opened around step p q apart)
  where
    z : ℕ
    z = tail h p

    next : ℕ → ℕ
    next = restricted (dart_count h) (off h w) (dart_after h s)

    opened : ℕ → ℕ
    opened = frozen (λ x. tail h x == z) next

    around : ℕ → ℕ
    around = frozen (same_vertex (edge_count h) next p) next

    opened-equivalence : IsEquivalence (same_component (edge_count h) opened)
    opened-equivalence = component-equivalence (edge_count h) opened

    step : (d : ℕ) → d < 2 * edge_count h → same_component (edge_count h) around d (opened d) ≡ true
    step d j = elim (cases_Bool (tail h d == z)) [
      | inl t ↦ subst (λ x. same_component (edge_count h) around d x ≡ true) (sym (frozen-here (λ x. tail h x == z) next d t)) ((component-equivalence (edge_count h) around).reflexive d)
      | inr t ↦ subst (λ x. same_component (edge_count h) around d x ≡ true)
          (frozen-elsewhere (same_vertex (edge_count h) next p) next d (false_from_ne_true (same_vertex (edge_count h) next p d) (λ v. both_ways (tail h d == z) t (eq-eqb (tail h d) z (sym (left-vertex h s ok rs w z p d v)))))
          ∙ sym (frozen-elsewhere (λ x. tail h x == z) next d t))
          (component-next (edge_count h) around d j)
    ]

    twins : same_component (edge_count h) opened (twin p) (twin q) ≡ true
    twins = left-connected h s ok rs w z (twin p) (twin q) (twin-below (edge_count h) p l) (twin-below (edge_count h) q k) (off-twin h w p o) (off-twin h w q i) (tail-other h p ok l) (λ t. tail-other h q ok k (t ∙ e))
        (tri.stays_connected w z (tail h (twin p)) (tail h (twin q)) (tail-in h (twin p) ok (twin-below (edge_count h) p l)) (tail-in h (twin q) ok (twin-below (edge_count h) q k))
        (out-two w z (tail h (twin p)) (λ t. off-arrives h w p o (sym t)) (λ t. tail-other h p ok l (sym t)))
        (out-two w z (tail h (twin q)) (λ t. off-arrives h w q i (sym t)) (λ t. tail-other h q ok k (sym t ∙ e))))

    apart : same_component (edge_count h) opened p q ≡ true
    apart = opened-equivalence.transitive p (twin q) q
        (opened-equivalence.transitive p (twin p) (twin q) (component-twin (edge_count h) opened p l) twins)
        (opened-equivalence.symmetric q (twin q) (component-twin (edge_count h) opened q k))

-- each face of a triconnected graph passes each vertex at most once
pub triconnected-face_once : (h : Multigraph) (s : List (List ℕ)) → IsGraph h → IsRotationSystem h s → IsPlane h s → IsTriconnected h → (p q : ℕ) → p < dart_count h → q < dart_count h → p ≢ q → tail h p ≡ tail h q → same_face (edge_count h) (dart_after h s) p q ≡ false
triconnected-face_once h s ok rs plane tri p q l k n e = face-once (edge_count h) (dart_after h s) (dart_before h s) (map-permutes h s ok rs) (plane-map h s ok rs plane) p q l k n (tail-vertex h s ok rs p q l k e)
    (component-finer (edge_count h) opened around step p q apart)
  where
    z : ℕ
    z = tail h p

    opened : ℕ → ℕ
    opened = frozen (λ x. is_member (tail h x) (z ∷ z ∷ [])) (dart_after h s)

    around : ℕ → ℕ
    around = frozen (same_vertex (edge_count h) (dart_after h s) p) (dart_after h s)

    opened-equivalence : IsEquivalence (same_component (edge_count h) opened)
    opened-equivalence = component-equivalence (edge_count h) opened

    inside : (d : ℕ) → tail h d ≡ z → is_member (tail h d) (z ∷ z ∷ []) ≡ true
    inside d q = rw (eq-eqb z (tail h d) (sym q)) refl

    step : (d : ℕ) → d < 2 * edge_count h → same_component (edge_count h) around d (opened d) ≡ true
    step d j = elim (cases_Bool (is_member (tail h d) (z ∷ z ∷ []))) [
      | inl t ↦ subst (λ x. same_component (edge_count h) around d x ≡ true) (sym (frozen-here (λ x. is_member (tail h x) (z ∷ z ∷ [])) (dart_after h s) d t)) ((component-equivalence (edge_count h) around).reflexive d)
      | inr t ↦ subst (λ x. same_component (edge_count h) around d x ≡ true)
          (frozen-elsewhere (same_vertex (edge_count h) (dart_after h s) p) (dart_after h s) d (false_from_ne_true (same_vertex (edge_count h) (dart_after h s) p d) (λ v. both_ways (is_member (tail h d) (z ∷ z ∷ [])) t (inside d (sym (vertex-tail h s ok rs p d v)))))
          ∙ sym (frozen-elsewhere (λ x. is_member (tail h x) (z ∷ z ∷ [])) (dart_after h s) d t))
          (component-next (edge_count h) around d j)
    ]

    out_p : is_member (tail h (twin p)) (z ∷ z ∷ []) ≡ false
    out_p = out-two z z (tail h (twin p)) (λ t. tail-other h p ok l (sym t)) (λ t. tail-other h p ok l (sym t))

    out_q : is_member (tail h (twin q)) (z ∷ z ∷ []) ≡ false
    out_q = out-two z z (tail h (twin q)) (λ t. tail-other h q ok k (sym t ∙ e)) (λ t. tail-other h q ok k (sym t ∙ e))

    twins : same_component (edge_count h) opened (twin p) (twin q) ≡ true
    twins = near-connected h s ok rs (z ∷ z ∷ []) (twin p) (twin q) (twin-below (edge_count h) p l) (twin-below (edge_count h) q k) out_p out_q
        (tri.stays_connected z z (tail h (twin p)) (tail h (twin q)) (tail-in h (twin p) ok (twin-below (edge_count h) p l)) (tail-in h (twin q) ok (twin-below (edge_count h) q k)) out_p out_q)

    apart : same_component (edge_count h) opened p q ≡ true
    apart = opened-equivalence.transitive p (twin q) q
        (opened-equivalence.transitive p (twin p) (twin q) (component-twin (edge_count h) opened p l) twins)
        (opened-equivalence.symmetric q (twin q) (component-twin (edge_count h) opened q k))

-- no dart of a triconnected graph is alone at its vertex
pub triconnected-follows : (h : Multigraph) (s : List (List ℕ)) → IsGraph h → IsRotationSystem h s → IsTriconnected h → (d : ℕ) → d < dart_count h → dart_after h s d ≢ d
triconnected-follows h s ok rs tri d l e = elim (cases_eq n.first (d / 2)) [
  | inl q ↦ moves n.second n.second_edge n.second_end (λ t. n.first_second (ap (λ f. other_end h f v) (q ∙ sym t)))
  | inr q ↦ moves n.first n.first_edge n.first_end q
]
  where
    v : ℕ
    v = tail h d

    n : ThreeNeighbours h v
    n = three_neighbours h ok tri v (tail-in h d ok l)

    same : successor (order_at s v) (d / 2) ≡ d / 2
    same = sym (dart_from-edge h v (successor (order_at s v) (d / 2))) ∙ ap (λ x. x / 2) e

    moves : (f : ℕ) → f < edge_count h → is_end h v f ≡ true → f ≢ d / 2 → ⊥
    moves f i j o = successor-moves (order_at s v) (d / 2) f (order-distinct h s v rs (tail-in h d ok l)) (tail-order h s d ok rs l) (order-member h s v f rs (tail-in h d ok l) i j) o same
