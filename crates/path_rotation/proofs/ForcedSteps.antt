-- The steps that keep a map forced: the first edge; a path in the only corners that it fits; a path in one of two corners that
-- are alike by a mirror image. And where no corner fits, the graph has no plane rotation system.
use Rattle.std.proofs.Common.{◌≡◌, ℕ, ◌/◌, ◌<◌, ◌⊎◌, inl, inr, Bool, true, false, ◌&&◌, ◌==◌, List, length, slice_index, refl, sym, ap, ◌∙◌, subst}
use Rattle.std.proofs.lemmas.Bool.{cases_Bool, and_parts, and_from, eq-eqb, eqb-true}
use Rattle.permutations.specs.Count.{some}
use Rattle.permutations.specs.Exchange.{restricted}
use Rattle.permutations.proofs.Search.{some-from, some-witness}
use Rattle.permutations.proofs.Relation.{same-tests, connected-reflexive}
use Rattle.permutations.proofs.Permutations.{permutes-inverse}
use Rattle.permutations.proofs.Restriction.{restricted-alone, restricted-permutes, restricted-goes}
use Rattle.multigraph.specs.Graph.{Multigraph, IsGraph, edge_count, is_end}
use Rattle.multigraph.specs.Marks.{is_marked}
use Rattle.multigraph.proofs.OtherEnd.{other_end-differs}
use Rattle.rotations.specs.Rotation.{IsRotationSystem}
use Rattle.rotations.specs.Runs.{mirror_image}
use Rattle.graph_theory.specs.Joined.{ends_where, joined_where}
use Rattle.graph_theory.proofs.Ends.{end-cases}
use Rattle.graph_theory.proofs.Joined.{joined-other}
use Rattle.dart_maps.specs.Map.{twin, IsMap}
use Rattle.dart_maps.proofs.Darts.{edge-twin}
use Rattle.dart_maps.proofs.Noncrossing.{restricted-vertex}
use Rattle.faces.specs.Euler.{tail, dart_count, IsPlaneSystem}
use Rattle.faces.specs.Maps.{dart_after, dart_before}
use Rattle.faces.proofs.DartLemmas.{dart-edge, tail-end}
use Rattle.faces.proofs.MapSteps.{map-permutes, tail-twin}
use Rattle.faces.proofs.MapVertices.{vertex-tail}
use Rattle.faces.proofs.MapMirror.{mirror-system, mirror-after, mirror-image-plane}
use Rattle.path_rotation.specs.Forced.{is_drawn, Follows, IsForced, AreTables, AreClosed, IsInvolution, LeadsOff, AreAttachments, IsCorner, IsSoleCorner, IsAdmissible, IsPathDrawn}
use Rattle.path_rotation.proofs.Corners.{and_one, corner_of, restricted-agree, after-corner}
use Rattle.path_rotation.proofs.PathDrawn.{drawn-out, foot-below, foot-drawn, foot-tail, end_corner, end-below, end-drawn, end-tail, one-label, still-follows}

-- a foot
module _ (g : Multigraph) (ok : IsGraph g) (drawn on : List Bool) (next label : List ℕ) (t : AreTables g drawn on next) (closed : AreClosed (edge_count g) next label) (d : ℕ) (l : d < dart_count g) (off : is_drawn drawn d ≡ false) (start : is_marked on (tail g d) ≡ true) where
  -- its corner in a rotation system
  abbrev corner : List (List ℕ) → ℕ
  corner q = corner_of (dart_count g) (is_drawn drawn) (dart_before g q) d

  -- a path from the foot ends in a corner of the same face
  end-is_corner : (q : List (List ℕ)) (f : Follows g drawn next q) (along : List ℕ) (z : ℕ) (p : LeadsOff g on d along z) → IsCorner g drawn label z (slice_index label (twin (corner q))) (end_corner g ok drawn on next t d l off start q f along z p)
  end-is_corner q f along z p = record {
    below = end-below g ok drawn on next t d l off start q f along z p;
    drawn_dart = end-drawn g ok drawn on next t d l off start q f along z p;
    leaves = end-tail g ok drawn on next t d l off start q f along z p;
    in_face = one-label g ok drawn on next t d l off start q f along z p label closed;
  }

  -- so the corner of the foot is admissible
  corner-admissible : (q : List (List ℕ)) → Follows g drawn next q → (attachments : List ℕ) → AreAttachments g on d attachments → IsAdmissible g drawn label attachments d (corner q)
  corner-admissible q f attachments a = record {
    below = foot-below g ok drawn on next t d l off start q f;
    drawn_dart = foot-drawn g ok drawn on next t d l off start q f;
    leaves = foot-tail g ok drawn on next t d l off start q f;
    passes = λ z m. let w = a z m in (end_corner g ok drawn on next t d l off start q f w.0 z w.1, end-is_corner q f w.0 z w.1);
  }

  -- where no corner is, the graph has no plane rotation system
  pub no-plane : IsForced g drawn next → (attachments : List ℕ) → AreAttachments g on d attachments → ((c : ℕ) → IsAdmissible g drawn label attachments d c → ⊥) → (r : List (List ℕ)) → IsPlaneSystem g r → ⊥
  no-plane forced attachments a none r plane = let w = forced r plane in none (corner w.0) (corner-admissible w.0 w.1 attachments a)

  -- a path in the corner of the foot, into the only corner of this face at its end: the rotation system follows the new map
  sole-follows : (q : List (List ℕ)) → Follows g drawn next q → (c k : ℕ) → corner q ≡ c → (along : List ℕ) (z : ℕ) → LeadsOff g on d along z → IsSoleCorner g drawn label z (slice_index label (twin c)) k
      → (new_drawn new_on : List Bool) (new_next new_label : List ℕ) → IsPathDrawn g d along c k drawn on next label new_drawn new_on new_next new_label → Follows g new_drawn new_next q
  sole-follows q f c k e along z p s new_drawn new_on new_next new_label w = still-follows g ok drawn on next t d l off start q f along z p new_drawn new_on label new_next new_label moved
    where
      last : end_corner g ok drawn on next t d l off start q f along z p ≡ k
      last = s.only (end_corner g ok drawn on next t d l off start q f along z p) (subst (λ (b : ℕ). IsCorner g drawn label z (slice_index label (twin b)) (end_corner g ok drawn on next t d l off start q f along z p)) e (end-is_corner q f along z p))

      moved : IsPathDrawn g d along (corner q) (end_corner g ok drawn on next t d l off start q f along z p) drawn on next label new_drawn new_on new_next new_label
      moved = subst (λ (b : ℕ). IsPathDrawn g d along b (end_corner g ok drawn on next t d l off start q f along z p) drawn on next label new_drawn new_on new_next new_label) (sym e)
          (subst (λ (b : ℕ). IsPathDrawn g d along c b drawn on next label new_drawn new_on new_next new_label) (sym last) w)

  -- a path in the only admissible corner, into the only corner of this face at its end, keeps the map forced
  pub sole-forced : IsForced g drawn next → (attachments : List ℕ) → AreAttachments g on d attachments → (c : ℕ) → ((b : ℕ) → IsAdmissible g drawn label attachments d b → b ≡ c)
      → (along : List ℕ) (z : ℕ) → LeadsOff g on d along z → (k : ℕ) → IsSoleCorner g drawn label z (slice_index label (twin c)) k
      → (new_drawn new_on : List Bool) (new_next new_label : List ℕ) → IsPathDrawn g d along c k drawn on next label new_drawn new_on new_next new_label → IsForced g new_drawn new_next
  sole-forced forced attachments a c only along z p k s new_drawn new_on new_next new_label w r plane =
      let f = forced r plane in
      (f.0, sole-follows f.0 f.1 c k (only (corner f.0) (corner-admissible f.0 f.1 attachments a)) along z p s new_drawn new_on new_next new_label w)

  -- where the map is its own inverse, the mirror image of a rotation system that follows it follows it too
  mirror-follows : IsInvolution (edge_count g) next → (q : List (List ℕ)) → Follows g drawn next q → Follows g drawn next (mirror_image q)
  mirror-follows twice q f = record {
    plane = record { system = mirror-system g q f.plane.system; plane = mirror-image-plane g q ok f.plane.system f.plane.plane };
    steps = λ y i. sym (restricted-agree (dart_count g) (is_drawn drawn) (dart_after g (mirror_image q)) (dart_before g (mirror_image q)) (dart_before g q) (dart_after g q) mirrored (permutes-inverse (dart_count g) (dart_after g q) (dart_before g q) permutes) (mirror-after g q ok f.plane.system) y i ∙ back y i);
  }
    where
      permutes : IsMap (edge_count g) (dart_after g q) (dart_before g q)
      permutes = map-permutes g q ok f.plane.system

      mirrored : IsMap (edge_count g) (dart_after g (mirror_image q)) (dart_before g (mirror_image q))
      mirrored = map-permutes g (mirror_image q) ok (mirror-system g q f.plane.system)

      forth : ℕ → ℕ
      forth = restricted (dart_count g) (is_drawn drawn) (dart_after g q)

      -- the inverse is the map itself
      back : (y : ℕ) → y < dart_count g → restricted (dart_count g) (is_drawn drawn) (dart_before g q) y ≡ slice_index next y
      back y i =
          let j : slice_index next y < dart_count g = t.within y i in
          let round : restricted (dart_count g) (is_drawn drawn) (dart_after g q) (slice_index next y) ≡ y = sym (f.steps (slice_index next y) j) ∙ twice y i in
          ap (restricted (dart_count g) (is_drawn drawn) (dart_before g q)) (sym round)
          ∙ (restricted-permutes (dart_count g) (is_drawn drawn) (dart_after g q) (dart_before g q) permutes).back_forth (slice_index next y) j

  -- and there the corner of the foot is what follows its corner here
  mirror-corner : (q : List (List ℕ)) → Follows g drawn next q → corner (mirror_image q) ≡ slice_index next (corner q)
  mirror-corner q f = restricted-agree (dart_count g) (and_one (is_drawn drawn) d) (dart_before g (mirror_image q)) (dart_after g (mirror_image q)) (dart_after g q) (dart_before g q) (permutes-inverse (dart_count g) (dart_after g (mirror_image q)) (dart_before g (mirror_image q)) mirrored) permutes agree d l
      ∙ after-corner (dart_count g) (is_drawn drawn) (dart_after g q) (dart_before g q) permutes d l off (drawn-out (edge_count g) drawn t.each_edge)
      ∙ sym (f.steps (corner q) (foot-below g ok drawn on next t d l off start q f))
    where
      permutes : IsMap (edge_count g) (dart_after g q) (dart_before g q)
      permutes = map-permutes g q ok f.plane.system

      mirrored : IsMap (edge_count g) (dart_after g (mirror_image q)) (dart_before g (mirror_image q))
      mirrored = map-permutes g (mirror_image q) ok (mirror-system g q f.plane.system)

      agree : (y : ℕ) → y < dart_count g → dart_before g (mirror_image q) y ≡ dart_after g q y
      agree y i =
          let j : dart_after g q y < dart_count g = permutes.forth y i in
          ap (dart_before g (mirror_image q)) (sym (mirror-after g q ok f.plane.system (dart_after g q y) j ∙ permutes.back_forth y i)) ∙ mirrored.back_forth (dart_after g q y) j

  -- where the map is its own inverse and has two darts at most where the foot leaves, either of their corners may be taken
  pub mirror-forced : IsForced g drawn next → IsInvolution (edge_count g) next → (c : ℕ) → c < dart_count g
      → ((b : ℕ) → b < dart_count g → is_drawn drawn b ≡ true → tail g b ≡ tail g d → (b ≡ c) ⊎ (b ≡ slice_index next c))
      → (along : List ℕ) (z : ℕ) → LeadsOff g on d along z → (k : ℕ) → IsSoleCorner g drawn label z (slice_index label (twin c)) k
      → (new_drawn new_on : List Bool) (new_next new_label : List ℕ) → IsPathDrawn g d along c k drawn on next label new_drawn new_on new_next new_label → IsForced g new_drawn new_next
  mirror-forced forced twice c lc two along z p k s new_drawn new_on new_next new_label w r plane =
      let f = forced r plane in
      elim (two (corner f.0) (foot-below g ok drawn on next t d l off start f.0 f.1) (foot-drawn g ok drawn on next t d l off start f.0 f.1) (foot-tail g ok drawn on next t d l off start f.0 f.1)) [
        | inl e ↦ (f.0, sole-follows f.0 f.1 c k e along z p s new_drawn new_on new_next new_label w)
        | inr e ↦ (mirror_image f.0, sole-follows (mirror_image f.0) (mirror-follows twice f.0 f.1) c k (mirror-corner f.0 f.1 ∙ ap (slice_index next) e ∙ twice c lc) along z p s new_drawn new_on new_next new_label w)
      ]

-- one edge drawn
module _ (g : Multigraph) (ok : IsGraph g) (e : ℕ) (l : e < edge_count g) (drawn on : List Bool) (next : List ℕ) (marked : (h : ℕ) → is_marked drawn h ≡ (e == h)) (still : (d : ℕ) → d < dart_count g → slice_index next d ≡ d) where
  -- each rotation system goes from each of its darts to itself
  one-edge : (r : List (List ℕ)) → IsRotationSystem g r → (d : ℕ) → d < dart_count g → restricted (dart_count g) (is_drawn drawn) (dart_after g r) d ≡ d
  one-edge r s d i = elim (cases_Bool (is_drawn drawn d)) [
    | inr h ↦ restricted-alone (dart_count g) (is_drawn drawn) (dart_after g r) d h
    | inl h ↦ elim (edge-twin (after d) d (sym (edge-of (after d) (goes h)) ∙ edge-of d h)) [
      | inl q ↦ q
      | inr q ↦ absurd (other_end-differs g (d / 2) (tail g d) ok (dart-edge g d i) (tail-end g d)
          (sym (tail-twin g d ok i) ∙ sym (ap (tail g) q) ∙ sym (vertex-tail g r ok s d (after d) (restricted-vertex (edge_count g) (dart_after g r) (dart_before g r) permutes (is_drawn drawn) d (after d) i h refl))))
    ]
  ]
    where
      permutes : IsMap (edge_count g) (dart_after g r) (dart_before g r)
      permutes = map-permutes g r ok s

      after : ℕ → ℕ
      after = restricted (dart_count g) (is_drawn drawn) (dart_after g r)

      goes : is_drawn drawn d ≡ true → is_drawn drawn (restricted (dart_count g) (is_drawn drawn) (dart_after g r) d) ≡ true
      goes h = (restricted-goes (dart_count g) (is_drawn drawn) (dart_after g r) (dart_before g r) permutes d i h).2

      edge-of : (y : ℕ) → is_drawn drawn y ≡ true → e ≡ y / 2
      edge-of y h = eqb-true e (y / 2) (sym (marked (y / 2)) ∙ h)

  -- so the map of one edge is forced
  pub start-forced : IsForced g drawn next
  start-forced r plane = (r, record { plane = plane; steps = λ d i. still d i ∙ sym (one-edge r plane.system d i) })

  -- and its tables are right
  pub start-tables : length next ≡ dart_count g → length drawn ≡ edge_count g → length on ≡ g.vertex_count → ((v : ℕ) → is_marked on v ≡ is_end g v e) → AreTables g drawn on next
  start-tables each_dart each_edge each_vertex ends = record {
    each_dart = each_dart;
    within = λ d i. subst (λ (v : ℕ). v < dart_count g) (sym (still d i)) i;
    alone = λ d i h. still d i;
    stays = λ d i h. subst (λ (v : ℕ). is_drawn drawn v ≡ true) (sym (still d i)) h;
    each_edge = each_edge;
    each_vertex = each_vertex;
    on_drawn = λ v. ends v ∙ same-tests (is_end g v e) (some (edge_count g) (λ h. is_marked drawn h && is_end g v h)) (forth v) (back v);
    joined = joined;
  }
    where
      itself : is_marked drawn e ≡ true
      itself = marked e ∙ eq-eqb e e refl

      forth : (v : ℕ) → is_end g v e ≡ true → some (edge_count g) (λ h. is_marked drawn h && is_end g v h) ≡ true
      forth v i = some-from (edge_count g) (λ h. is_marked drawn h && is_end g v h) e l (and_from (is_marked drawn e) (is_end g v e) itself i)

      back : (v : ℕ) → some (edge_count g) (λ h. is_marked drawn h && is_end g v h) ≡ true → is_end g v e ≡ true
      back v h =
          let w = some-witness (edge_count g) (λ k. is_marked drawn k && is_end g v k) h in
          let b = and_parts (is_marked drawn w.0) (is_end g v w.0) w.2 in
          subst (λ (k : ℕ). is_end g v k ≡ true) (sym (eqb-true e w.0 (sym (marked w.0) ∙ b.0))) b.1

      joined : (u v : ℕ) → is_marked on u ≡ true → is_marked on v ≡ true → joined_where g (is_marked drawn) u v ≡ true
      joined u v a b = elim (end-cases g e u v (sym (ends u) ∙ a) (sym (ends v) ∙ b)) [
        | inl q ↦ subst (λ (w : ℕ). joined_where g (is_marked drawn) u w ≡ true) (sym q) (connected-reflexive (ends_where g (is_marked drawn)) u)
        | inr q ↦ subst (λ (w : ℕ). joined_where g (is_marked drawn) u w ≡ true) (sym q) (joined-other g (is_marked drawn) e u l itself (sym (ends u) ∙ a))
      ]
