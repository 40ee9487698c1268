-- A contour has three vertices or more while a vertex stays that is no end of the base. For if the contour were the base alone, no other dart that
-- stays would leave an end of the base; so no edge would lead from the vertices that stay, without these ends, to others, but the graph is connected.
use Rattle.std.proofs.Common.{◌≡◌, ◌≢◌, ℕ, ◌+◌, ◌*◌, ◌<◌, ◌≤◌, Bool, true, not, ◌&&◌, ◌==◌, List, [], ◌∷◌, All, length, refl, sym, ap, ◌∙◌, subst, arith}
use Rattle.std.proofs.lemmas.Bool.{both_ways, eq-eqb, ne_eqb, and_parts, and_from, not-true, not_from_false}
use Rattle.std.proofs.lemmas.List.Elements.{All-from_get_or}
use Rattle.permutations.specs.Exchange.{restricted}
use Rattle.permutations.proofs.Relation.{same-tests, connected-closed}
use Rattle.permutations.proofs.Members.{member-head, member-tail, no_member-cons}
use Rattle.permutations.proofs.Unlinking.{alone-orbit}
use Rattle.permutations.proofs.Arrangements.{all-member}
use Rattle.dart_maps.specs.Map.{twin}
use Rattle.dart_maps.proofs.Darts.{twin-twin, twin-below, twin-even}
use Rattle.multigraph.specs.Graph.{Multigraph, edge_count, ends_of}
use Rattle.multigraph.proofs.DartEnds.{tail-first, tail-second}
use Rattle.faces.specs.Euler.{tail}
use Rattle.triangulations.specs.Triangulation.{IsTriangulated}
use Rattle.canonical_orders.specs.Contours.{stays_dart, IsContour}
use Rattle.canonical_orders.proofs.Chords.{IsKeptMap, IsKept, step-tail}
use Rattle.canonical_orders.proofs.FreeVertex.{dart-loopless, drawn-kept}

-- a contour of two darts
module _ (m : ℕ) (h : Multigraph) (next previous : ℕ → ℕ) (base : ℕ) (stays : ℕ → Bool) (c : ℕ) (tri : IsTriangulated m h next previous) (below : base < 2 * m)
    (contour : IsContour m h next base stays (base ∷ c ∷ [])) where
  -- the map of the darts that stay
  abbrev left : ℕ → ℕ
  left = restricted (2 * m) (stays_dart h stays) next

  kept : IsKeptMap m (restricted (2 * m) (stays_dart h stays) next) (restricted (2 * m) (stays_dart h stays) previous) (stays_dart h stays) (tail h)
  kept = drawn-kept m h next previous stays tri.map.drawn

  first : IsKept m (stays_dart h stays) base
  first = all-member (λ d. (d < 2 * m) × (stays_dart h stays d ≡ true)) (base ∷ c ∷ []) base contour.darts (member-head base (c ∷ []))

  second : IsKept m (stays_dart h stays) c
  second = all-member (λ d. (d < 2 * m) × (stays_dart h stays d ≡ true)) (base ∷ c ∷ []) c contour.darts (member-tail c base (c ∷ []) (member-head c []))

  -- the second is the twin of the first
  second-is : c ≡ twin base
  second-is = tri.map.simple c (twin base) second.0 (twin-below m base below) contour.closes
      (step-tail m left (restricted (2 * m) (stays_dart h stays) previous) (stays_dart h stays) (tail h) kept base c second contour.along.0 ∙ ap (tail h) (sym (twin-twin base)))

  -- each is alone at its vertex
  first-alone : left base ≡ base
  first-alone = ap left (sym (twin-twin base) ∙ ap twin (sym second-is)) ∙ contour.along.0

  second-alone : left (twin base) ≡ twin base
  second-alone = contour.around ∙ second-is

  -- so no other dart that stays leaves an end of the base
  only-base : (d : ℕ) → IsKept m (stays_dart h stays) d → tail h d ≡ tail h base → base ≡ d
  only-base d i e = alone-orbit (2 * m) base left (restricted (2 * m) (stays_dart h stays) previous) kept.map below first-alone d (kept.told base d below i.0 first.1 i.1 ∙ eq-eqb (tail h base) (tail h d) (sym e))

  only-twin : (d : ℕ) → IsKept m (stays_dart h stays) d → tail h d ≡ tail h (twin base) → twin base ≡ d
  only-twin d i e = alone-orbit (2 * m) (twin base) left (restricted (2 * m) (stays_dart h stays) previous) kept.map (twin-below m base below) second-alone d
      (kept.told (twin base) d (twin-below m base below) i.0 (kept.twins base ∙ first.1) i.1 ∙ eq-eqb (tail h (twin base)) (tail h d) (sym e))

  -- a vertex that stays and is no end of the base
  abbrev is_inner : ℕ → Bool
  is_inner x = stays x && (not (x == tail h base) && not (x == tail h (twin base)))

  inner-from : (x : ℕ) → stays x ≡ true → x ≢ tail h base → x ≢ tail h (twin base) → is_inner x ≡ true
  inner-from x s a b = and_from (stays x) (not (x == tail h base) && not (x == tail h (twin base))) s
      (and_from (not (x == tail h base)) (not (x == tail h (twin base))) (not_from_false (x == tail h base) (ne_eqb x (tail h base) a)) (not_from_false (x == tail h (twin base)) (ne_eqb x (tail h (twin base)) b)))

  inner-parts : (x : ℕ) → is_inner x ≡ true → (stays x ≡ true) × (x ≢ tail h base) × (x ≢ tail h (twin base))
  inner-parts x i =
      let a = and_parts (stays x) (not (x == tail h base) && not (x == tail h (twin base))) i in
      let b = and_parts (not (x == tail h base)) (not (x == tail h (twin base))) a.1 in (
        a.0,
        λ q. both_ways (x == tail h base) (not-true (x == tail h base) b.0) (eq-eqb x (tail h base) q),
        λ q. both_ways (x == tail h (twin base)) (not-true (x == tail h (twin base)) b.1) (eq-eqb x (tail h (twin base)) q),
      )

  -- its neighbours are of this kind too
  inner-dart : (d : ℕ) → d < 2 * m → is_inner (tail h d) ≡ true → is_inner (tail h (twin d)) ≡ true
  inner-dart d l i =
      let w = inner-parts (tail h d) i in
      let off = no_member-cons (tail h d) (tail h base) (tail h c ∷ []) (λ q. w.1 (sym q)) (no_member-cons (tail h d) (tail h c) [] (λ q. w.2 (sym q ∙ ap (tail h) second-is)) refl) in
      let stay = contour.inner d l w.0 off in
      let twin_stays : IsKept m (stays_dart h stays) (twin d) = (twin-below m d l, kept.twins d ∙ stay) in
      inner-from (tail h (twin d)) (and_parts (stays (tail h d)) (stays (tail h (twin d))) stay).1
      (λ q. w.2 (ap (tail h) (sym (twin-twin d) ∙ ap twin (sym (only-base (twin d) twin_stays q)))))
      (λ q. w.1 (ap (tail h) (sym (twin-twin d) ∙ ap twin (sym (only-twin (twin d) twin_stays q)) ∙ twin-twin base)))

  -- along each edge
  inner-edge : (e : ℕ) → e < edge_count h → is_inner (ends_of h e).0 ≡ is_inner (ends_of h e).1
  inner-edge e l = same-tests (is_inner (ends_of h e).0) (is_inner (ends_of h e).1)
      (λ i. ap is_inner (sym other_is) ∙ inner-dart (2 * e) (omega (arith, tri.map.drawn.edges, l)) (ap is_inner (tail-first h e) ∙ i))
      (λ i. ap is_inner (sym back_is) ∙ inner-dart (2 * e + 1) (omega (arith, tri.map.drawn.edges, l)) (ap is_inner (tail-second h e) ∙ i))
    where
      twin_is : twin (2 * e) ≡ 2 * e + 1
      twin_is = twin-even (2 * e) (omega arith)

      other_is : tail h (twin (2 * e)) ≡ (ends_of h e).1
      other_is = ap (tail h) twin_is ∙ tail-second h e

      back_is : tail h (twin (2 * e + 1)) ≡ (ends_of h e).0
      back_is = ap (λ d. tail h (twin d)) (sym twin_is) ∙ ap (tail h) (twin-twin (2 * e)) ∙ tail-first h e

  -- so there is none
  pub no-inner : (v : ℕ) → v < h.vertex_count → stays v ≡ true → v ≢ tail h base → v ≢ tail h (twin base) → ⊥
  no-inner v l s a b =
      let edges : All (λ link. is_inner link.0 ≡ is_inner link.1) h.ends = All-from_get_or (λ link. is_inner link.0 ≡ is_inner link.1) h.ends (0, 0) inner-edge in
      let same : is_inner v ≡ is_inner (tail h base) = connected-closed h.ends is_inner edges v (tail h base) (tri.map.connected v (tail h base) l (tri.map.drawn.inside base below)) in
      (inner-parts (tail h base) (sym same ∙ inner-from v s a b)).1 refl

-- while a vertex stays that is no end of the base, the contour has three vertices or more
pub contour-three : (m : ℕ) (h : Multigraph) (next previous : ℕ → ℕ) (base : ℕ) (stays : ℕ → Bool) (contour : List ℕ) → IsTriangulated m h next previous → base < 2 * m
    → IsContour m h next base stays contour → (v : ℕ) → v < h.vertex_count → stays v ≡ true → v ≢ tail h base → v ≢ tail h (twin base) → 3 ≤ length contour
contour-three m h next previous base stays contour tri l c v k s a b = subst (λ (z : List ℕ). 3 ≤ length z) (sym c.begins) (at c.rest (subst (IsContour m h next base stays) c.begins c))
  where
    at : (rest : List ℕ) → IsContour m h next base stays (base ∷ rest) → 3 ≤ length (base ∷ rest)
    at [] d = absurd (dart-loopless m h tri.map.graph tri.map.drawn.edges base l d.closes)
    at (x ∷ []) d = absurd (no-inner m h next previous base stays x tri l d v k s a b)
    at (x ∷ y ∷ rest) d = omega arith
