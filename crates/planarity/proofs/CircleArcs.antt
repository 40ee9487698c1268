-- What the faces at a vertex leave when the vertex is taken away: arcs, which follow one another along one face.
use Rattle.std.proofs.Common.{◌≡◌, ◌≢◌, ℕ, zero, suc, ◌+◌, ◌-◌, ◌<◌, ◌≤◌, inl, inr, true, false, List, [], ◌∷◌, ◌++◌, length, refl, sym, ap, ◌∙◌, subst, arith}
use Rattle.std.proofs.lemmas.Bool.{both_ways, false_from_ne_true}
use Rattle.permutations.specs.Members.{is_member, is_distinct}
use Rattle.permutations.specs.Permutation.{Permutes, iterate, same_orbit}
use Rattle.permutations.specs.Exchange.{restricted}
use Rattle.permutations.specs.Ring.{images, orbit_length, ring}
use Rattle.permutations.proofs.Members.{member-head, member-tail, member-append_cases, distinct-tail, distinct-head, distinct-append, distinct-append_left}
use Rattle.permutations.proofs.Orbits.{orbit-equivalence, orbit-ext}
use Rattle.permutations.proofs.Iterates.{iterate-below, iterate-more, iterate-first, iterate-orbit}
use Rattle.permutations.proofs.Permutations.{permutes-back}
use Rattle.permutations.proofs.Rings.{images-first, images-append, images-member, length-images, orbit_length-back, orbit_length-least, ring-distinct}
use Rattle.permutations.proofs.Restriction.{goes-restricted, restricted-next}
use Rattle.multigraph.specs.Graph.{Multigraph, IsGraph, edge_count}
use Rattle.rotations.specs.Rotation.{IsRotationSystem}
use Rattle.graph_theory.specs.Triconnected.{IsTriconnected}
use Rattle.dart_maps.specs.Map.{twin, face, same_face}
use Rattle.dart_maps.proofs.Darts.{twin-below, twin-twin}
use Rattle.faces.specs.Euler.{tail, dart_count, face_step, IsPlane}
use Rattle.faces.specs.Maps.{dart_after, dart_before}
use Rattle.faces.proofs.DartLemmas.{face_back, face_step-permutes}
use Rattle.faces.proofs.MapSteps.{map-face, map-permutes, after-tail, before-tail}
use Rattle.planarity.specs.Circle.{face_arc}
use Rattle.planarity.proofs.SimpleDarts.{tail-other, simple-twin}
use Rattle.planarity.proofs.CircleFaces.{off, off-arrives, off-from, off-twin, triconnected-face_once, triconnected-follows}
use Rattle.planarity.proofs.CircleRuns.{Runs, runs-append}

module _ (h : Multigraph) (s : List (List ℕ)) (ok : IsGraph h) (rot : IsRotationSystem h s) (plane : IsPlane h s) (tri : IsTriconnected h) (w : ℕ) where
  abbrev n : ℕ
  n = dart_count h

  abbrev step : ℕ → ℕ
  step = face_step h s

  abbrev next : ℕ → ℕ
  next = dart_after h s

  abbrev back : ℕ → ℕ
  back = dart_before h s

  abbrev long : ℕ → ℕ
  long d = orbit_length (dart_count h) (face_step h s) d

  next-map : Permutes n next back
  next-map = map-permutes h s ok rot

  step-map : Permutes n step (face_back h s)
  step-map = face_step-permutes h s ok rot

  -- the step along a face goes to the dart that follows the twin
  step-is : (d : ℕ) → d < n → step d ≡ next (twin d)
  step-is d l = sym (map-face h s d ok l)

  pub step-tail : (d : ℕ) → d < n → tail h (step d) ≡ tail h (twin d)
  step-tail d l = ap (tail h) (step-is d l) ∙ after-tail h s (twin d) ok rot (twin-below (edge_count h) d l)

  -- the step along a face of what is left
  abbrev pub left : ℕ → ℕ
  left d = restricted (dart_count h) (off h w) (dart_after h s) (twin d)

  -- a dart d at w
  module _ (d : ℕ) (l : d < dart_count h) (at : tail h d ≡ w) where
    reach : (k : ℕ) → iterate step k d < n
    reach k = iterate-below n step (face_back h s) step-map k d l

    -- the face of d does not come to w before it comes back to d
    not-at : (k : ℕ) → 0 < k → k < long d → tail h (iterate step k d) ≢ w
    not-at k p q e = both_ways (same_face (edge_count h) next d (iterate step k d))
        (triconnected-face_once h s ok rot plane tri d (iterate step k d) l (reach k) (λ r. orbit_length-least n step (face_back h s) step-map d l k p q (sym r)) (at ∙ sym e))
        (orbit-ext n (face next) step (λ x j. map-face h s x ok j) d (iterate step k d) ∙ iterate-orbit n step (face_back h s) step-map k d l)

    comes-back : iterate step (long d) d ≡ d
    comes-back = orbit_length-back n step (face_back h s) step-map d l

    -- the dart before d along its face is the twin of the one before it round w
    last-is : (k : ℕ) → k + 1 ≡ long d → iterate step k d ≡ twin (back d)
    last-is k e = sym (twin-twin (iterate step k d)) ∙ ap twin (sym (permutes-back n next back next-map (twin (iterate step k d)) d (twin-below (edge_count h) (iterate step k d) (reach k)) onto))
      where
        onto : next (twin (iterate step k d)) ≡ d
        onto = sym (step-is (iterate step k d) (reach k)) ∙ sym (iterate-more step k d) ∙ ap (λ j. iterate step j d) e ∙ comes-back

    before-at : tail h (back d) ≡ w
    before-at = before-tail h s d ok rot l ∙ at

    before-in : back d < n
    before-in = next-map.back d l

    -- the face has at least three darts
    pub long-enough : 3 ≤ long d
    long-enough = three (long d) refl
      where
        three : (k : ℕ) → long d ≡ k → 3 ≤ k
        three zero e = absurd (omega arith)
        three (suc zero) e = absurd (tail-other h d ok l (sym (step-tail d l) ∙ ap (tail h) (ap (λ j. iterate step j d) (sym e) ∙ comes-back)))
        three (suc (suc zero)) e = absurd (triconnected-follows h s ok rot tri (twin d) (twin-below (edge_count h) d l) (sym (step-is d l) ∙ simple-twin h ok tri.simple (step d) d (step-map.forth d l) l (step-tail d l) (over ∙ sym at)))
          where
            over : tail h (twin (step d)) ≡ w
            over = ap (λ z. tail h (twin z)) (last-is 1 (omega arith)) ∙ ap (tail h) (twin-twin (back d)) ∙ before-at
        three (suc (suc (suc k))) e = omega arith

    -- between d and the last dart the face is away from w
    pub between-away : (k : ℕ) → 0 < k → k + 1 < long d → off h w (iterate step k d) ≡ true
    between-away k p q = off-from h w (iterate step k d) (not-at k p (omega arith))
        (λ e. not-at (k + 1) (omega arith) q (ap (tail h) (iterate-more step k d) ∙ step-tail (iterate step k d) (reach k) ∙ e))

    -- a member of the arc
    pub arc-member : (z : ℕ) → is_member z (face_arc h s d) ≡ true → (z < dart_count h) × (off h w z ≡ true) × (same_orbit (dart_count h) (face_step h s) d z ≡ true)
    arc-member z m =
        let v = images-member step (long d - 2) (step d) z m in
        let e : iterate step (v.0 + 1) d ≡ z = iterate-first step v.0 d ∙ v.2 in (
          subst (λ u. u < n) e (reach (v.0 + 1)),
          subst (λ u. off h w u ≡ true) e (between-away (v.0 + 1) (omega arith) (omega (arith, v.1))),
          subst (λ u. same_orbit n step d u ≡ true) e (iterate-orbit n step (face_back h s) step-map (v.0 + 1) d l),
        )

    -- the arc has no dart twice
    pub arc-distinct : is_distinct (face_arc h s d) ≡ true
    arc-distinct = distinct-append_left (images step (long d - 2) (step d)) (images step 1 (iterate step (long d - 2) (step d)))
        (subst (λ (k : List ℕ). is_distinct k ≡ true) (images-append step (long d - 2) 1 (step d))
        (distinct-tail d (images step (long d - 2 + 1) (step d))
        (subst (λ (k : List ℕ). is_distinct k ≡ true) whole (ring-distinct n step (face_back h s) step-map d l))))
      where
        whole : ring n step d ≡ d ∷ images step (long d - 2 + 1) (step d)
        whole = let e : long d ≡ (long d - 2 + 1) + 1 = omega (arith, long-enough) in ap (λ j. images step j d) e ∙ images-first step (long d - 2 + 1) d

    -- and at least one
    pub arc-filled : 0 < length (face_arc h s d)
    arc-filled = omega (arith, long-enough, length-images step (long d - 2) (step d))

  -- within an arc what is left goes on as the face does
  inner-step : (d : ℕ) (l : d < dart_count h) (at : tail h d ≡ w) (k : ℕ) → 0 < k → k + 2 < long d → left (iterate step k d) ≡ step (iterate step k d)
  inner-step d l at k p q =
      let r : iterate step k d < n = reach d l at k in
      restricted-next n (off h w) next back next-map (twin (iterate step k d)) (twin-below (edge_count h) (iterate step k d) r)
      (off-twin h w (iterate step k d) (between-away d l at k p (omega arith)))
      (subst (λ u. off h w u ≡ true) (iterate-more step k d ∙ step-is (iterate step k d) r) (between-away d l at (k + 1) (omega arith) (omega arith)))
      ∙ sym (step-is (iterate step k d) r)

  -- from its last dart it goes on to the first dart of the arc of the dart before d
  outer-step : (d : ℕ) (l : d < dart_count h) (at : tail h d ≡ w) (k : ℕ) → 0 < k → k + 2 ≡ long d → left (iterate step k d) ≡ step (back d)
  outer-step d l at k p q =
      goes-restricted n (off h w) next back next-map (twin (iterate step k d)) (twin-below (edge_count h) (iterate step k d) r)
      (off-twin h w (iterate step k d) (between-away d l at k p (omega arith)))
      (step (back d)) (1, arrives, between-away (back d) (before-in d l at) (before-at d l at) 1 (omega arith) (omega (arith, long-enough (back d) (before-in d l at) (before-at d l at))), passed)
    where
      r : iterate step k d < n
      r = reach d l at k

      to_w : next (twin (iterate step k d)) ≡ twin (back d)
      to_w = sym (step-is (iterate step k d) r) ∙ sym (iterate-more step k d) ∙ last-is d l at (k + 1) (omega arith)

      arrives : step (back d) ≡ next (next (twin (iterate step k d)))
      arrives = step-is (back d) (before-in d l at) ∙ ap next (sym to_w)

      passed : (i : ℕ) → i < 1 → off h w (iterate next (suc i) (twin (iterate step k d))) ≡ false
      passed zero m = subst (λ u. off h w u ≡ false) (sym to_w) (false_from_ne_true (off h w (twin (back d))) (λ t. off-arrives h w (twin (back d)) t (ap (tail h) (twin-twin (back d)) ∙ before-at d l at)))
      passed (suc i) m = absurd (omega arith)

  -- so an arc, and after it the next one, follow a face of what is left
  part-runs : (d : ℕ) (l : d < dart_count h) (at : tail h d ≡ w) (j k : ℕ) → 0 < k → k + suc j + 1 ≡ long d → Runs left (iterate step k d) (images step (suc j) (iterate step k d)) (step (back d))
  part-runs d l at zero k p q = (refl, outer-step d l at k p (omega arith))
  part-runs d l at (suc j) k p q = (
    refl,
    subst (λ u. Runs left u (images step (suc j) (step (iterate step k d))) (step (back d))) (sym (inner-step d l at k p (omega arith)))
        (subst (λ u. Runs left u (images step (suc j) u) (step (back d))) (iterate-more step k d) (part-runs d l at j (k + 1) (omega arith) (omega arith))),
  )

  pub arc-runs : (d : ℕ) (l : d < dart_count h) (at : tail h d ≡ w) → Runs left (step d) (face_arc h s d) (step (back d))
  arc-runs d l at =
      let e : suc (long d - 3) ≡ long d - 2 = omega (arith, long-enough d l at) in
      subst (λ u. Runs left (step d) (images step u (step d)) (step (back d))) e
      (part-runs d l at (long d - 3) 1 (omega arith) (omega (arith, long-enough d l at)))

  -- the darts of several arcs
  abbrev pub arcs : List ℕ → List ℕ
  arcs [] = []
  arcs (d ∷ ds) = face_arc h s d ++ arcs ds

  -- arcs of darts that go back round w follow a face of what is left
  pub arcs-run : (d : ℕ) (ds : List ℕ) (c : ℕ) → d < dart_count h → tail h d ≡ w → Runs back d ds c → Runs left (step d) (arcs ds) (step c)
  arcs-run d [] c l at r = ap step r
  arcs-run d (e ∷ ds) c l at r = runs-append left (step d) (face_arc h s e) (step (back d)) (arcs ds) (step c)
      (subst (λ u. Runs left (step d) (face_arc h s u) (step (back d))) r.0 (arc-runs d l at))
      (arcs-run (back d) ds c (before-in d l at) (before-at d l at) r.1)

  -- a dart of the arcs is on the face of one of the darts at w
  pub arcs-member : (ds : List ℕ) → ((e : ℕ) → is_member e ds ≡ true → (e < dart_count h) × (tail h e ≡ w)) → (z : ℕ) → is_member z (arcs ds) ≡ true
      → (z < dart_count h) × (off h w z ≡ true) × ((e : ℕ) × (is_member e ds ≡ true) × (same_orbit (dart_count h) (face_step h s) e z ≡ true))
  arcs-member [] a z m = absurd (both_ways false refl m)
  arcs-member (d ∷ ds) a z m = elim (member-append_cases z (face_arc h s d) (arcs ds) m) [
    | inl u ↦ let o = a d (member-head d ds) in let v = arc-member d o.0 o.1 z u in (v.0, v.1, (d, member-head d ds, v.2))
    | inr u ↦ let v = arcs-member ds (λ e k. a e (member-tail e d ds k)) z u in (v.0, v.1, ((v.2).0, member-tail ((v.2).0) d ds ((v.2).1), (v.2).2))
  ]

  -- the arcs of different darts have no dart in common
  pub arcs-distinct : (ds : List ℕ) → ((e : ℕ) → is_member e ds ≡ true → (e < dart_count h) × (tail h e ≡ w)) → is_distinct ds ≡ true → is_distinct (arcs ds) ≡ true
  arcs-distinct [] a u = refl
  arcs-distinct (d ∷ ds) a u = distinct-append (face_arc h s d) (arcs ds) (arc-distinct d o.0 o.1) (arcs-distinct ds rest (distinct-tail d ds u)) (λ z m. false_from_ne_true (is_member z (arcs ds)) (λ v. twice z m v))
    where
      o : (d < dart_count h) × (tail h d ≡ w)
      o = a d (member-head d ds)

      rest : (e : ℕ) → is_member e ds ≡ true → (e < dart_count h) × (tail h e ≡ w)
      rest e k = a e (member-tail e d ds k)

      twice : (z : ℕ) → is_member z (face_arc h s d) ≡ true → is_member z (arcs ds) ≡ true → ⊥
      twice z m v =
          let p = arc-member d o.0 o.1 z m in
          let q = arcs-member ds rest z v in
          let e = (q.2).0 in
          let there = rest e ((q.2).1) in
          both_ways (same_face (edge_count h) next d e)
          (triconnected-face_once h s ok rot plane tri d e o.0 there.0 (λ r. both_ways (is_member d ds) (distinct-head d ds u) (subst (λ k. is_member k ds ≡ true) (sym r) ((q.2).1))) (o.1 ∙ sym there.1))
          (orbit-ext n (face next) step (λ x j. map-face h s x ok j) d e ∙ (orbit-equivalence n step).transitive d z e p.2 ((orbit-equivalence n step).symmetric e z ((q.2).2)))
