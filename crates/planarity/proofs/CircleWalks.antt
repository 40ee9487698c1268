-- The arcs round a vertex of a plane rotation system are walks, and together a cycle.
use Rattle.std.proofs.Common.{◌≡◌, ℕ, ◌/◌, ◌<◌, inl, inr, true, false, List, [], ◌∷◌, ◌++◌, length, map, refl, sym, ap, ap₂, ◌∙◌, subst, arith, append_assoc, append-nil, length-append}
use Rattle.std.proofs.lemmas.Bool.{cases_eq, both_ways, false_from_ne_true}
use Rattle.std.proofs.lemmas.List.{map-append, length-map}
use Rattle.permutations.specs.Members.{is_member, is_distinct}
use Rattle.permutations.specs.Permutation.{Permutes, same_orbit}
use Rattle.permutations.specs.Exchange.{restricted}
use Rattle.permutations.proofs.Members.{member-head, member-tail, member-append_left, member-append_right}
use Rattle.permutations.proofs.Orbits.{orbit-equivalence}
use Rattle.permutations.proofs.Restriction.{restricted-permutes}
use Rattle.permutations.proofs.Mapped.{map-member, distinct-map}
use Rattle.multigraph.specs.Graph.{Multigraph, IsGraph, edge_count, is_end, other_end}
use Rattle.rotations.specs.Rotation.{IsRotationSystem}
use Rattle.graph_theory.specs.Triconnected.{IsTriconnected}
use Rattle.graph_theory.specs.Path.{walk_end, walk_starts, IsWalk}
use Rattle.dart_maps.specs.Map.{twin}
use Rattle.dart_maps.proofs.Darts.{twin-below, face-permutes}
use Rattle.dart_maps.proofs.Noncrossing.{restricted-vertex}
use Rattle.faces.specs.Euler.{tail, dart_count, face_step, IsPlane}
use Rattle.faces.specs.Maps.{dart_after, dart_before}
use Rattle.faces.proofs.DartLemmas.{dart-edge, tail-end, face_step-permutes}
use Rattle.faces.proofs.MapSteps.{tail-twin, map-permutes}
use Rattle.faces.proofs.MapVertices.{vertex-tail}
use Rattle.planarity.specs.Circle.{face_arc, part_starts, LeadOn, IsCircle, spread}
use Rattle.planarity.proofs.CircleRuns.{Runs, runs-cut, runs-orbit}
use Rattle.planarity.proofs.CircleFaces.{off, off-tail, off-twin, without-face_once}
use Rattle.planarity.proofs.CircleArcs.{step-tail, left, arc-filled, arcs, arcs-run, arcs-member, arcs-distinct}

module _ (h : Multigraph) (s : List (List ℕ)) (ok : IsGraph h) (rot : IsRotationSystem h s) (plane : IsPlane h s) (tri : IsTriconnected h) (w : ℕ) where
  abbrev on : ℕ → ℕ
  on = left h s ok rot plane tri w

  abbrev all_arcs : List ℕ → List ℕ
  all_arcs = arcs h s ok rot plane tri w

  -- darts of w
  abbrev pub AreAt : List ℕ → Type 0
  AreAt ds = (e : ℕ) → is_member e ds ≡ true → (e < dart_count h) × (tail h e ≡ w)

  -- darts away from w
  abbrev AreAway : List ℕ → Type 0
  AreAway l = (z : ℕ) → is_member z l ≡ true → (z < dart_count h) × (off h w z ≡ true)

  arcs-away : (ds : List ℕ) → AreAt ds → AreAway (all_arcs ds)
  arcs-away ds a z m = let v = arcs-member h s ok rot plane tri w ds a z m in (v.0, v.1)

  on-map : Permutes (dart_count h) on (λ d. twin (restricted (dart_count h) (off h w) (dart_before h s) d))
  on-map = face-permutes (edge_count h) (restricted (dart_count h) (off h w) (dart_after h s)) (restricted (dart_count h) (off h w) (dart_before h s))
      (restricted-permutes (dart_count h) (off h w) (dart_after h s) (dart_before h s) (map-permutes h s ok rot))

  -- a step along a face of what is left leads to the other end
  on-tail : (d : ℕ) → d < dart_count h → off h w d ≡ true → other_end h (d / 2) (tail h d) ≡ tail h (on d)
  on-tail d l t = sym (tail-twin h d ok l) ∙ vertex-tail h s ok rot (twin d) (on d)
      (restricted-vertex (edge_count h) (dart_after h s) (dart_before h s) (map-permutes h s ok rot) (off h w) (twin d) (on d) (twin-below (edge_count h) d l) (off-twin h w d t) refl)

  -- darts along a face of what is left are a walk
  record IsWalkOf (x : ℕ) (l : List ℕ) (y : ℕ) : Type 0 where
    walk : IsWalk h (tail h x) (map (λ c. c / 2) l)
    ends : walk_end h (tail h x) (map (λ c. c / 2) l) ≡ tail h y
    starts : walk_starts h (tail h x) (map (λ c. c / 2) l) ≡ map (tail h) l

  walk_of : (x : ℕ) (l : List ℕ) (y : ℕ) → AreAway l → Runs on x l y → IsWalkOf x l y
  walk_of x [] y a r = record { walk = tt; ends = ap (tail h) r; starts = refl }
  walk_of x (z ∷ l) y a r = more (walk_of (on x) l y (λ c m. a c (member-tail c z l m)) r.1)
    where
      o : (z < dart_count h) × (off h w z ≡ true)
      o = a z (member-head z l)

      there : other_end h (z / 2) (tail h x) ≡ tail h (on x)
      there = ap (λ u. other_end h (z / 2) (tail h u)) r.0 ∙ on-tail z o.0 o.1 ∙ ap (λ u. tail h (on u)) (sym r.0)

      more : IsWalkOf (on x) l y → IsWalkOf x (z ∷ l) y
      more v = record {
        walk = ((dart-edge h z o.0, subst (λ u. is_end h (tail h u) (z / 2) ≡ true) (sym r.0) (tail-end h z)), subst (λ u. IsWalk h u (map (λ c. c / 2) l)) (sym there) v.walk);
        ends = subst (λ u. walk_end h u (map (λ c. c / 2) l) ≡ tail h y) (sym there) v.ends;
        starts = ap₂ (λ u k. u ∷ k) (ap (tail h) r.0) (subst (λ u. walk_starts h u (map (λ c. c / 2) l) ≡ map (tail h) l) (sym there) v.starts);
      }

  -- the edges of the arcs of darts that go back round w from x to c lead from the neighbour of w at x to that at c
  part-walk : (x : ℕ) (ds : List ℕ) (c : ℕ) → x < dart_count h → tail h x ≡ w → c < dart_count h → AreAt ds → Runs (dart_before h s) x ds c
      → (IsWalk h (tail h (twin x)) (map (λ c. c / 2) (all_arcs ds))) × (walk_end h (tail h (twin x)) (map (λ c. c / 2) (all_arcs ds)) ≡ tail h (twin c))
      × (walk_starts h (tail h (twin x)) (map (λ c. c / 2) (all_arcs ds)) ≡ map (tail h) (all_arcs ds))
  part-walk x ds c l at k a r =
      let v = walk_of (face_step h s x) (all_arcs ds) (face_step h s c) (arcs-away ds a) (arcs-run h s ok rot plane tri w x ds c l at r) in
      let e = step-tail h s ok rot plane tri w x l in (
        subst (λ u. IsWalk h u (map (λ c. c / 2) (all_arcs ds))) e v.walk,
        subst (λ u. walk_end h u (map (λ c. c / 2) (all_arcs ds)) ≡ tail h (twin c)) e (v.ends ∙ step-tail h s ok rot plane tri w c k),
        subst (λ u. walk_starts h u (map (λ c. c / 2) (all_arcs ds)) ≡ map (tail h) (all_arcs ds)) e v.starts,
      )

  -- the walk of a part: from the neighbour of w at its first dart
  abbrev pub walk_from : ℕ × List ℕ → ℕ × List ℕ
  walk_from part = (tail h (twin part.0), map (λ c. c / 2) (arcs h s ok rot plane tri w (part.0 ∷ part.1)))

  filled : (part : ℕ × List ℕ) → part.0 < dart_count h → tail h part.0 ≡ w → 0 < length (walk_from part).1
  filled part l at = let e : length (walk_from part).1 ≡ length (all_arcs (part.0 ∷ part.1)) = length-map (all_arcs (part.0 ∷ part.1)) (λ c. c / 2) in
      omega (arith, e, length-append (face_arc h s part.0) (all_arcs part.1), arc-filled h s ok rot plane tri w part.0 l at)

  arcs-append : (a b : List ℕ) → all_arcs (a ++ b) ≡ all_arcs a ++ all_arcs b
  arcs-append [] b = refl
  arcs-append (d ∷ a) b = ap (λ l. face_arc h s d ++ l) (arcs-append a b) ∙ sym (append_assoc (face_arc h s d) (all_arcs a) (all_arcs b))

  -- parts of darts that go back round w: their walks lead on from one to the next
  leads : (parts : List (ℕ × List ℕ)) (x home : ℕ) → home < dart_count h → AreAt (spread parts) → Runs (dart_before h s) x (spread parts) home → LeadOn h (tail h (twin home)) (map walk_from parts)
  leads [] x home l a r = tt
  leads (part ∷ []) x home l a r =
      let q : (part.0 ∷ part.1) ++ [] ≡ part.0 ∷ part.1 = append-nil (part.0 ∷ part.1) in
      let o = a part.0 (member-head part.0 (part.1 ++ [])) in
      let v = part-walk part.0 (part.0 ∷ part.1) home o.0 o.1 l (subst AreAt q a) (subst (λ u. Runs (dart_before h s) u (part.0 ∷ part.1) home) r.0 (subst (λ (k : List ℕ). Runs (dart_before h s) x k home) q r)) in
      (filled part o.0 o.1, v.0, v.1)
  leads (part ∷ (more ∷ parts)) x home l a r =
      let cut = runs-cut (dart_before h s) x (part.0 ∷ part.1) (spread (more ∷ parts)) home r in
      let o = a part.0 (member-head part.0 (part.1 ++ spread (more ∷ parts))) in
      let p = a more.0 (member-append_right more.0 (part.0 ∷ part.1) (spread (more ∷ parts)) (member-head more.0 (more.1 ++ spread parts))) in
      let v = part-walk part.0 (part.0 ∷ part.1) more.0 o.0 o.1 p.0 (λ e m. a e (member-append_left e (part.0 ∷ part.1) (spread (more ∷ parts)) m))
      (subst (λ u. Runs (dart_before h s) u (part.0 ∷ part.1) more.0) r.0 (subst (λ u. Runs (dart_before h s) x (part.0 ∷ part.1) u) ((cut.2).0) cut.1)) in
      ((filled part o.0 o.1, v.0, v.1), leads (more ∷ parts) cut.0 home l (λ e m. a e (member-append_right e (part.0 ∷ part.1) (spread (more ∷ parts)) m)) cut.2)

  -- the vertices that they meet are the tails of the arcs' darts
  starts-are : (parts : List (ℕ × List ℕ)) (x home : ℕ) → home < dart_count h → AreAt (spread parts) → Runs (dart_before h s) x (spread parts) home → part_starts h (map walk_from parts) ≡ map (tail h) (all_arcs (spread parts))
  starts-are [] x home l a r = refl
  starts-are (part ∷ []) x home l a r =
      let q : (part.0 ∷ part.1) ++ [] ≡ part.0 ∷ part.1 = append-nil (part.0 ∷ part.1) in
      let o = a part.0 (member-head part.0 (part.1 ++ [])) in
      let v = part-walk part.0 (part.0 ∷ part.1) home o.0 o.1 l (subst AreAt q a) (subst (λ u. Runs (dart_before h s) u (part.0 ∷ part.1) home) r.0 (subst (λ (k : List ℕ). Runs (dart_before h s) x k home) q r)) in
      append-nil (walk_starts h (walk_from part).0 (walk_from part).1) ∙ v.2 ∙ ap (λ k. map (tail h) (all_arcs k)) (sym q)
  starts-are (part ∷ (more ∷ parts)) x home l a r =
      let cut = runs-cut (dart_before h s) x (part.0 ∷ part.1) (spread (more ∷ parts)) home r in
      let o = a part.0 (member-head part.0 (part.1 ++ spread (more ∷ parts))) in
      let p = a more.0 (member-append_right more.0 (part.0 ∷ part.1) (spread (more ∷ parts)) (member-head more.0 (more.1 ++ spread parts))) in
      let v = part-walk part.0 (part.0 ∷ part.1) more.0 o.0 o.1 p.0 (λ e m. a e (member-append_left e (part.0 ∷ part.1) (spread (more ∷ parts)) m))
      (subst (λ u. Runs (dart_before h s) u (part.0 ∷ part.1) more.0) r.0 (subst (λ u. Runs (dart_before h s) x (part.0 ∷ part.1) u) ((cut.2).0) cut.1)) in
      ap₂ (λ u k. u ++ k) v.2 (starts-are (more ∷ parts) cut.0 home l (λ e m. a e (member-append_right e (part.0 ∷ part.1) (spread (more ∷ parts)) m)) cut.2)
      ∙ sym (map-append (tail h) (all_arcs (part.0 ∷ part.1)) (all_arcs (spread (more ∷ parts))))
      ∙ ap (map (tail h)) (sym (arcs-append (part.0 ∷ part.1) (spread (more ∷ parts))))

  -- so the walks of all darts of w are a cycle round w
  pub circle-of_darts : (parts : List (ℕ × List ℕ)) (d : ℕ) → d < dart_count h → tail h d ≡ w → AreAt (spread parts) → is_distinct (spread parts) ≡ true → Runs (dart_before h s) d (spread parts) d → IsCircle h w (tail h (twin d)) (map walk_from parts)
  circle-of_darts parts d l at a u r = record {
    lead_on = leads parts d d l a r;
    once = subst (λ (k : List ℕ). is_distinct k ≡ true) (sym are) (distinct-map (tail h) (all_arcs (spread parts)) one (arcs-distinct h s ok rot plane tri w (spread parts) a u));
    avoids = subst (λ (k : List ℕ). is_member w k ≡ false) (sym are) (false_from_ne_true (is_member w (map (tail h) (all_arcs (spread parts)))) (λ m.
        let v = map-member (tail h) (all_arcs (spread parts)) w m in
        off-tail h w v.0 ((arcs-away (spread parts) a v.0 v.1).1) v.2));
  }
    where
      are : part_starts h (map walk_from parts) ≡ map (tail h) (all_arcs (spread parts))
      are = starts-are parts d d l a r

      on_face : (z : ℕ) → is_member z (all_arcs (spread parts)) ≡ true → same_orbit (dart_count h) on (face_step h s d) z ≡ true
      on_face = runs-orbit (dart_count h) on (λ d. twin (restricted (dart_count h) (off h w) (dart_before h s) d)) on-map (face_step h s d) (all_arcs (spread parts)) (face_step h s d)
          ((face_step-permutes h s ok rot).forth d l) (arcs-run h s ok rot plane tri w d (spread parts) d l at r)

      one : (y z : ℕ) → is_member y (all_arcs (spread parts)) ≡ true → is_member z (all_arcs (spread parts)) ≡ true → tail h y ≡ tail h z → y ≡ z
      one y z m k q = elim (cases_eq y z) [
        | inl e ↦ e
        | inr e ↦
            let b = arcs-away (spread parts) a y m in
            let c = arcs-away (spread parts) a z k in
            absurd (both_ways (same_orbit (dart_count h) on y z) (without-face_once h s ok rot plane tri w y z b.0 c.0 e b.1 c.1 q)
            ((orbit-equivalence (dart_count h) on).transitive y (face_step h s d) z ((orbit-equivalence (dart_count h) on).symmetric (face_step h s d) y (on_face y m)) (on_face z k)))
      ]
