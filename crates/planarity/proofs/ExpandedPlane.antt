-- A plane rotation system of the graph with an edge contracted, whose merged vertex falls in runs, expands to a plane rotation
-- system of the graph.
use Rattle.std.proofs.Common.{◌≡◌, ℕ, ◌/◌, ◌<◌, ◌⊎◌, inl, inr, Bool, true, false, ◌||◌, ◌==◌, List, refl, sym, ap, ◌∙◌, subst}
use Rattle.std.proofs.lemmas.Bool.{cases_Bool, cases_eq, both_ways, eq-eqb, ne_eqb, or_left, or_right, or_from, false_from_ne_true}
use Rattle.permutations.specs.Relation.{IsEquivalence}
use Rattle.permutations.specs.Exchange.{restricted}
use Rattle.permutations.proofs.Permutations.{permutes-one-to-one}
use Rattle.permutations.proofs.Orbits.{orbit-equivalence, orbit-step}
use Rattle.multigraph.specs.Graph.{Multigraph, IsGraph, edge_count}
use Rattle.rotations.specs.Rotation.{IsRotationSystem}
use Rattle.graph_theory.specs.Triconnected.{IsSimple}
use Rattle.contractions.specs.Contraction.{are_adjacent, is_kept, IsContraction}
use Rattle.dart_maps.specs.Map.{twin, face, same_face, IsMap}
use Rattle.dart_maps.proofs.Darts.{twin-twin, twin-below, twin-edge, face-twin}
use Rattle.dart_maps.proofs.Euler.{plane-ext}
use Rattle.faces.specs.Euler.{tail, dart_from, dart_count, IsPlane, IsPlaneSystem}
use Rattle.faces.specs.Maps.{dart_after, dart_before}
use Rattle.faces.proofs.DartLemmas.{dart_from-edge}
use Rattle.faces.proofs.MapSteps.{tail-in, before-tail, map-permutes}
use Rattle.faces.proofs.MapCounts.{map-plane}
use Rattle.faces.proofs.MapToLists.{map-orders}
use Rattle.faces.proofs.MapParts.{place}
use Rattle.planarity.specs.Expansion.{moved, stays, FallsInRuns, IsContractedSystem}
use Rattle.planarity.proofs.SimpleDarts.{tail-other, simple-dart}
use Rattle.planarity.proofs.ContractedDarts.{stays-gone, stays-off, contracted-not_kept, middle-below, middle-tail, middle-twin, middle-cases, ends-differ, moved-tail, moved-twin, middle-not, stays-not, stays-kept, stays-edge}
use Rattle.dart_maps.proofs.CarriedMaps.{IsNumbering}
use Rattle.planarity.proofs.ContractedSystem.{kept-numbering}
use Rattle.planarity.proofs.JoinedDarts.{joined-dart, dart-turned, dart-joined, dart_between, between-is, kept-away, dropped-from, Dropped, dropped-dart}
use Rattle.planarity.proofs.ExpandedApart.{IsPart, carried, opened, opened_back, big-steps, big-alone, open-part, open-middle, open-last, open-end, open-other, open-contracted}
use Rattle.planarity.proofs.RestrictedSteps.{restricted-over, contracted-ext}
use Rattle.permutations.proofs.Restriction.{restricted-next, restricted-alone}
use Rattle.planarity.proofs.JoinedAgain.{put-edge, joined_again, joined_back, joined_live, joined-part, joined-other, joined-old, joined-new, joined-dead, joined-met}

-- the steps of the expanded rotation system: the merged vertex parted at the ends of its runs, with the edge e put in again, and
-- the edges from y to common neighbours put in beside the first and the last dart of x, where these lead to one
abbrev pub expanded : Multigraph → Multigraph → ℕ → ℕ → ℕ → (ℕ → ℕ) → List (List ℕ) → ℕ → ℕ → ℕ → ℕ
expanded g h e x y edge t first last =
    joined_again (are_adjacent g y (tail g (twin (moved edge last)))) (dart_between g (tail g (twin (moved edge last))) y) (moved edge (dart_before h t (twin last))) (twin (dart_from g x e))
    (joined_again (are_adjacent g y (tail g (twin (moved edge first)))) (dart_between g (tail g (twin (moved edge first))) y) (twin (moved edge first)) (moved edge (dart_before h t first))
    (opened (dart_from g x e) (moved edge last) (moved edge (dart_before h t first)) (carried g h e x y edge (dart_after h t))))

-- a plane rotation system of the contracted graph, and the two runs of its merged vertex
module _ (g h : Multigraph) (e x y : ℕ) (edge vertex : ℕ → ℕ) (ok : IsGraph g) (okh : IsGraph h) (con : IsContraction g h e x y edge vertex) (simple : IsSimple g) (t : List (List ℕ)) (st : IsRotationSystem h t) (plane : IsPlane h t)
    (first last : ℕ) (runs : FallsInRuns g h x y edge t first last) where
  abbrev kept : ℕ → Bool
  kept d = is_kept g e x y (d / 2)

  abbrev into : ℕ → ℕ
  into = moved edge

  abbrev middle : ℕ
  middle = dart_from g x e

  numbering : IsNumbering (dart_count h) (dart_count g) kept into (moved (place h edge))
  numbering = kept-numbering g h e x y edge vertex ok con

  inner-map : IsMap (edge_count h) (dart_after h t) (dart_before h t)
  inner-map = map-permutes h t okh st

  abbrev b_last : ℕ
  b_last = moved edge (dart_before h t first)

  abbrev wide : ℕ → ℕ
  wide = opened (dart_from g x e) (moved edge last) (moved edge (dart_before h t first)) (carried g h e x y edge (dart_after h t))

  abbrev wide_back : ℕ → ℕ
  wide_back = opened_back (dart_from g x e) (moved edge last) (moved edge (dart_before h t first)) (carried g h e x y edge (dart_before h t))

  abbrev wide_live : ℕ → Bool
  wide_live z = (is_kept g e x y (z / 2) || (z == dart_from g x e)) || (z == twin (dart_from g x e))

  wide-part : IsPart g wide wide_back wide_live
  wide-part = open-part g h e x y edge vertex ok okh con t st plane first last runs

  middle-in : middle < dart_count g
  middle-in = middle-below g h e x y edge vertex ok con

  kept-lives : (z : ℕ) → kept z ≡ true → wide_live z ≡ true
  kept-lives z k = or_left (kept z || (z == middle)) (z == twin middle) (or_left (kept z) (z == middle) k)

  middle-lives : (z : ℕ) → (z ≡ middle) ⊎ (z ≡ twin middle) → wide_live z ≡ true
  middle-lives z (inl q) = or_left (kept z || (z == middle)) (z == twin middle) (or_right (kept z) (z == middle) (eq-eqb z middle q))
  middle-lives z (inr q) = or_right (kept z || (z == middle)) (z == twin middle) (eq-eqb z (twin middle) q)

  differs : (c d : ℕ) → kept c ≡ true → kept d ≡ false → c ≡ d → ⊥
  differs c d u w q = both_ways (kept d) w (ap kept (sym q) ∙ u)

  -- a dart of the contracted graph from x in g: where it leads is neither x nor y
  module _ (d : ℕ) (l : d < dart_count h) (leaves : tail g (moved edge d) ≡ x) where
    into-in : into d < dart_count g
    into-in = numbering.numbers d l

    off-x : tail g (twin (into d)) ≡ x → ⊥
    off-x q = tail-other g (into d) ok into-in (q ∙ sym leaves)

    off-y : tail g (twin (into d)) ≡ y → ⊥
    off-y q = contracted-not_kept g e x y (into d / 2) (numbering.lives d l) (ap (λ z. z / 2) same ∙ dart_from-edge g x e)
      where
        same : into d ≡ middle
        same = simple-dart g ok simple (into d) middle into-in middle-in (leaves ∙ sym (middle-tail g h e x y edge vertex ok con)) (q ∙ sym (middle-twin g h e x y edge vertex ok con))

    -- the edge from there to y, if there is one
    abbrev over : ℕ
    over = dart_between g (tail g (twin (moved edge d))) y

    module _ (joined : are_adjacent g y (tail g (twin (moved edge d))) ≡ true) where
      over-is : (over < dart_count g) × (tail g over ≡ tail g (twin (into d))) × (tail g (twin over) ≡ y)
      over-is =
          let w = dart-turned g y (tail g (twin (into d))) (joined-dart g ok y (tail g (twin (into d))) joined) in
          between-is g (tail g (twin (into d))) y w.0 w.1 w.2 w.3

      over-gone : kept over ≡ false
      over-gone = dropped-from g ok e x y over over-is.0 over-is.2 (dart-joined g ok x (tail g over) (into d) into-in leaves (sym over-is.1))

      twin-gone : kept (twin over) ≡ false
      twin-gone = ap (is_kept g e x y) (twin-edge over) ∙ over-gone

      over-edge : over / 2 ≡ e → ⊥
      over-edge q = elim (middle-cases g h e x y edge vertex ok con over q) [
        | inl i ↦ off-x (sym over-is.1 ∙ ap (tail g) i ∙ middle-tail g h e x y edge vertex ok con)
        | inr i ↦ off-y (sym over-is.1 ∙ ap (tail g) i ∙ middle-twin g h e x y edge vertex ok con)
      ]

      over-dead : (z : ℕ) → z / 2 ≡ over / 2 → wide_live z ≡ false
      over-dead z q = or_from (kept z || (z == middle)) (z == twin middle)
          (or_from (kept z) (z == middle) (ap (is_kept g e x y) q ∙ over-gone) (ne_eqb z middle (λ i. over-edge (sym q ∙ ap (λ w. w / 2) i ∙ dart_from-edge g x e))))
          (ne_eqb z (twin middle) (λ i. over-edge (sym q ∙ ap (λ w. w / 2) i ∙ twin-edge middle ∙ dart_from-edge g x e)))

      over-alone : (z : ℕ) → z < dart_count g → z / 2 ≡ over / 2 → wide z ≡ z
      over-alone z j q =
          let gone : kept z ≡ false = ap (is_kept g e x y) q ∙ over-gone in
          open-other g h e x y edge vertex ok okh con t st plane first last runs z
          (λ i. differs (into last) z (numbering.lives last runs.last_dart) gone (sym i))
          (λ i. differs b_last z (numbering.lives (dart_before h t first) (inner-map.back first runs.first_dart)) gone (sym i))
          (λ i. over-edge (sym q ∙ ap (λ w. w / 2) i ∙ dart_from-edge g x e))
          (λ i. over-edge (sym q ∙ ap (λ w. w / 2) i ∙ twin-edge middle ∙ dart_from-edge g x e))
          ∙ big-alone g h e x y edge vertex ok okh con t st plane first last runs z j gone

      -- a dart that leads from there to y is it
      over-only : (z : ℕ) → z < dart_count g → tail g z ≡ tail g (twin (into d)) → tail g (twin z) ≡ y → z ≡ over
      over-only z j i k = simple-dart g ok simple z over j over-is.0 (i ∙ sym over-is.1) (k ∙ sym over-is.2)

  -- the edge to the vertex where the first dart of x leads, put in
  abbrev early : Bool
  early = are_adjacent g y (tail g (twin (moved edge first)))

  abbrev early_edge : ℕ
  early_edge = dart_between g (tail g (twin (moved edge first))) y

  abbrev one : ℕ → ℕ
  one = joined_again early early_edge (twin (moved edge first)) b_last wide

  abbrev one_back : ℕ → ℕ
  one_back = joined_back early early_edge (twin (moved edge first)) b_last wide_back

  abbrev one_live : ℕ → Bool
  one_live = joined_live early early_edge wide_live

  first-in : into first < dart_count g
  first-in = numbering.numbers first runs.first_dart

  last-in : into last < dart_count g
  last-in = numbering.numbers last runs.last_dart

  end-in : b_last < dart_count g
  end-in = numbering.numbers (dart_before h t first) (inner-map.back first runs.first_dart)

  end-kept : kept b_last ≡ true
  end-kept = numbering.lives (dart_before h t first) (inner-map.back first runs.first_dart)

  wide-face : same_face (edge_count g) wide (twin (twin (into first))) (twin b_last) ≡ true
  wide-face = subst (λ z. same_face (edge_count g) wide z (twin b_last) ≡ true) (sym (twin-twin (into first))) (r.symmetric (twin b_last) (into first) (r.transitive (twin b_last) (twin middle) (into first)
      (subst (λ z. same_face (edge_count g) wide (twin b_last) z ≡ true) (face-twin wide b_last ∙ open-end g h e x y edge vertex ok okh con t st plane first last runs) (orbit-step (dart_count g) (face wide) (twin b_last) (twin-below (edge_count g) b_last end-in)))
      (subst (λ z. same_face (edge_count g) wide (twin middle) z ≡ true) (face-twin wide middle ∙ open-middle g h e x y edge vertex ok okh con t st plane first last runs) (orbit-step (dart_count g) (face wide) (twin middle) (twin-below (edge_count g) middle middle-in)))))
    where
      r : IsEquivalence (same_face (edge_count g) wide)
      r = orbit-equivalence (dart_count g) (face wide)

  one-part : IsPart g one one_back one_live
  one-part = joined-part g wide wide_back wide_live early early_edge (twin (into first)) b_last wide-part (λ j.
      let w = over-is first runs.first_dart runs.first_leaves j in
      put-edge g wide wide_back wide_live wide-part early_edge (twin (into first)) b_last w.0 (twin-below (edge_count g) (into first) first-in) end-in
      (over-dead first runs.first_dart runs.first_leaves j early_edge refl)
      (over-dead first runs.first_dart runs.first_leaves j (twin early_edge) (twin-edge early_edge))
      (kept-lives (twin (into first)) (ap (is_kept g e x y) (twin-edge (into first)) ∙ numbering.lives first runs.first_dart))
      (kept-lives b_last end-kept)
      (over-alone first runs.first_dart runs.first_leaves j early_edge w.0 refl)
      (over-alone first runs.first_dart runs.first_leaves j (twin early_edge) (twin-below (edge_count g) early_edge w.0) (twin-edge early_edge))
      w.1 (w.2 ∙ sym runs.before_first) wide-face)

  -- kept darts but two go on as before
  one-other : (z : ℕ) → kept z ≡ true → (z ≡ twin (into first) → ⊥) → (z ≡ b_last → ⊥) → one z ≡ wide z
  one-other z k na nb = joined-other early early_edge (twin (into first)) b_last wide z (λ j. (
    na,
    differs z early_edge k (over-gone first runs.first_dart runs.first_leaves j),
    nb,
    differs z (twin early_edge) k (twin-gone first runs.first_dart runs.first_leaves j),
  ))

  -- the first and the last dart of x lead to different vertices
  ends-apart : tail g (twin (into last)) ≡ tail g (twin (into first)) → ⊥
  ends-apart q = runs.two (sym (numbering.back_into first runs.first_dart) ∙ ap (moved (place h edge)) (simple-dart g ok simple (into first) (into last) first-in last-in (runs.first_leaves ∙ sym runs.last_leaves) (sym q)) ∙ numbering.back_into last runs.last_dart)

  -- the edge to the vertex where the last dart of x leads, put in
  abbrev late : Bool
  late = are_adjacent g y (tail g (twin (moved edge last)))

  abbrev late_edge : ℕ
  late_edge = dart_between g (tail g (twin (moved edge last))) y

  -- the dart there that the twin of the last one follows
  abbrev behind : ℕ
  behind = moved edge (dart_before h t (twin last))

  abbrev two : ℕ → ℕ
  two = joined_again late late_edge behind (twin (dart_from g x e)) one

  abbrev two_back : ℕ → ℕ
  two_back = joined_back late late_edge behind (twin (dart_from g x e)) one_back

  abbrev two_live : ℕ → Bool
  two_live = joined_live late late_edge one_live

  last-twin : twin last < dart_count h
  last-twin = twin-below (edge_count h) last runs.last_dart

  behind-in_h : dart_before h t (twin last) < dart_count h
  behind-in_h = inner-map.back (twin last) last-twin

  behind-in : behind < dart_count g
  behind-in = numbering.numbers (dart_before h t (twin last)) behind-in_h

  behind-kept : kept behind ≡ true
  behind-kept = numbering.lives (dart_before h t (twin last)) behind-in_h

  last-off_x : tail g (twin (into last)) ≡ x → ⊥
  last-off_x = off-x last runs.last_dart runs.last_leaves

  last-off_y : tail g (twin (into last)) ≡ y → ⊥
  last-off_y = off-y last runs.last_dart runs.last_leaves

  behind-tail : tail g behind ≡ tail g (twin (into last))
  behind-tail = elim (con.vertices_once (tail g behind) (tail g (twin (into last))) (tail-in g behind ok behind-in) (tail-in g (twin (into last)) ok (twin-below (edge_count g) (into last) last-in)) same) [
    | inl q ↦ q
    | inr o ↦ elim o [ inl q ↦ absurd (last-off_y q.1) | inr q ↦ absurd (last-off_x q.1) ]
  ]
    where
      same : vertex (tail g behind) ≡ vertex (tail g (twin (into last)))
      same = sym (moved-tail g h e x y edge vertex ok con (dart_before h t (twin last)) behind-in_h) ∙ before-tail h t (twin last) okh st last-twin
          ∙ moved-tail g h e x y edge vertex ok con (twin last) last-twin ∙ ap (λ d. vertex (tail g d)) (moved-twin edge last)

  one-behind : one behind ≡ twin (into last)
  one-behind = one-other behind behind-kept (λ q. ends-apart (sym behind-tail ∙ ap (tail g) q)) nb
      ∙ open-other g h e x y edge vertex ok okh con t st plane first last runs behind (λ q. last-off_x (sym behind-tail ∙ ap (tail g) q ∙ runs.last_leaves)) nb
      (λ q. last-off_x (sym behind-tail ∙ ap (tail g) q ∙ middle-tail g h e x y edge vertex ok con)) (λ q. last-off_y (sym behind-tail ∙ ap (tail g) q ∙ middle-twin g h e x y edge vertex ok con))
      ∙ sym (big-steps g h e x y edge vertex ok okh con t st plane first last runs (dart_before h t (twin last)) behind-in_h)
      ∙ ap into (inner-map.forth_back (twin last) last-twin) ∙ moved-twin edge last
    where
      nb : behind ≡ b_last → ⊥
      nb q = last-off_y (sym behind-tail ∙ ap (tail g) q ∙ runs.before_first)

  one-last : one (into last) ≡ middle
  one-last = one-other (into last) (numbering.lives last runs.last_dart)
      (λ q. off-x first runs.first_dart runs.first_leaves (sym (ap (tail g) q) ∙ runs.last_leaves))
      (λ q. ends-differ g h e x y edge vertex ok con (sym runs.last_leaves ∙ ap (tail g) q ∙ runs.before_first))
      ∙ open-last g h e x y edge vertex ok okh con t st plane first last runs

  one-face : same_face (edge_count g) one (twin behind) (twin (twin middle)) ≡ true
  one-face = subst (λ z. same_face (edge_count g) one (twin behind) z ≡ true) (sym (twin-twin middle)) (r.transitive (twin behind) (twin (into last)) middle
      (subst (λ z. same_face (edge_count g) one (twin behind) z ≡ true) (face-twin one behind ∙ one-behind) (orbit-step (dart_count g) (face one) (twin behind) (twin-below (edge_count g) behind behind-in)))
      (subst (λ z. same_face (edge_count g) one (twin (into last)) z ≡ true) (face-twin one (into last) ∙ one-last) (orbit-step (dart_count g) (face one) (twin (into last)) (twin-below (edge_count g) (into last) last-in))))
    where
      r : IsEquivalence (same_face (edge_count g) one)
      r = orbit-equivalence (dart_count g) (face one)

  -- the late edge is none of the early one
  late-apart : early ≡ true → late ≡ true → (z : ℕ) → (z ≡ late_edge) ⊎ (z ≡ twin late_edge) → (z ≡ early_edge → ⊥) × (z ≡ twin early_edge → ⊥)
  late-apart i j z (inl q) =
      let a = over-is first runs.first_dart runs.first_leaves i in
      let b = over-is last runs.last_dart runs.last_leaves j in (
        λ k. ends-apart (sym b.1 ∙ ap (tail g) (sym q ∙ k) ∙ a.1),
        λ k. last-off_y (sym b.1 ∙ ap (tail g) (sym q ∙ k) ∙ a.2),
      )
  late-apart i j z (inr q) =
      let a = over-is first runs.first_dart runs.first_leaves i in
      let b = over-is last runs.last_dart runs.last_leaves j in (
        λ k. off-y first runs.first_dart runs.first_leaves (sym a.1 ∙ ap (tail g) (sym k ∙ q) ∙ b.2),
        λ k. ends-apart (sym b.1 ∙ ap (tail g) (sym (twin-twin late_edge) ∙ ap twin (sym q ∙ k) ∙ twin-twin early_edge) ∙ a.1),
      )

  -- it is alone before it is put in
  late-alone : late ≡ true → (z : ℕ) → z < dart_count g → (z ≡ late_edge) ⊎ (z ≡ twin late_edge) → one z ≡ z
  late-alone j z l o =
      let half : z / 2 ≡ late_edge / 2 = elim o [ inl q ↦ ap (λ d. d / 2) q | inr q ↦ ap (λ d. d / 2) q ∙ twin-edge late_edge ] in
      let gone : kept z ≡ false = ap (is_kept g e x y) half ∙ over-gone last runs.last_dart runs.last_leaves j in
      joined-other early early_edge (twin (into first)) b_last wide z (λ i. (
        λ q. differs (twin (into first)) z (ap (is_kept g e x y) (twin-edge (into first)) ∙ numbering.lives first runs.first_dart) gone (sym q),
        (late-apart i j z o).0,
        λ q. differs b_last z end-kept gone (sym q),
        (late-apart i j z o).1,
      ))
      ∙ over-alone last runs.last_dart runs.last_leaves j z l half

  two-part : IsPart g two two_back two_live
  two-part = joined-part g one one_back one_live late late_edge behind (twin middle) one-part (λ j.
      let w = over-is last runs.last_dart runs.last_leaves j in
      put-edge g one one_back one_live one-part late_edge behind (twin middle) w.0 behind-in (twin-below (edge_count g) middle middle-in)
      (joined-dead early early_edge wide_live late_edge (over-dead last runs.last_dart runs.last_leaves j late_edge refl) (λ i. late-apart i j late_edge (inl refl)))
      (joined-dead early early_edge wide_live (twin late_edge) (over-dead last runs.last_dart runs.last_leaves j (twin late_edge) (twin-edge late_edge)) (λ i. late-apart i j (twin late_edge) (inr refl)))
      (joined-old early early_edge wide_live behind (kept-lives behind behind-kept))
      (joined-old early early_edge wide_live (twin middle) (middle-lives (twin middle) (inr refl)))
      (late-alone j late_edge w.0 (inl refl))
      (late-alone j (twin late_edge) (twin-below (edge_count g) late_edge w.0) (inr refl))
      (w.1 ∙ sym behind-tail) (w.2 ∙ sym (middle-twin g h e x y edge vertex ok con)) one-face)

  -- now all darts live
  all-live : (z : ℕ) → z < dart_count g → two_live z ≡ true
  all-live z l = elim (cases_Bool (stays g e x y z)) [
    | inl s ↦ joined-old late late_edge one_live z (joined-old early early_edge wide_live z (elim (cases_eq (z / 2) e) [
      | inl q ↦ middle-lives z (middle-cases g h e x y edge vertex ok con z q)
      | inr n ↦ kept-lives z (stays-off g e x y z s n)
    ]))
    | inr s ↦ let v = stays-gone g e x y z s in gone (dropped-dart g ok e x y z l v.0 v.1)
  ]
    where
      gone : Dropped g e x y z → two_live z ≡ true
      gone w = elim (runs.common (moved (place h edge) w.over) (numbering.numbers_back w.over w.over_dart over-kept) (ap (tail g) there ∙ w.leaves)
          (ap (λ d. are_adjacent g y (tail g (twin d))) there ∙ dart-joined g ok y (tail g (twin w.over)) (twin w.back) (twin-below (edge_count g) w.back w.back_dart) w.arrives (ap (tail g) (twin-twin w.back) ∙ sym w.meets))) [
            | inl q ↦ joined-old late late_edge one_live z (at_first (sym there ∙ ap into q))
            | inr q ↦ at_last (sym there ∙ ap into q)
          ]
        where
          not-y : tail g (twin w.over) ≡ y → ⊥
          not-y q = tail-other g w.back ok w.back_dart (w.arrives ∙ sym q ∙ w.meets)

          over-kept : kept w.over ≡ true
          over-kept = kept-away g ok e x y w.over w.over_dart
              (λ i. elim (middle-cases g h e x y edge vertex ok con w.over i) [
                | inl j ↦ not-y (ap (λ d. tail g (twin d)) j ∙ middle-twin g h e x y edge vertex ok con)
                | inr j ↦ ends-differ g h e x y edge vertex ok con (sym w.leaves ∙ ap (tail g) j ∙ middle-twin g h e x y edge vertex ok con)
              ])
              (λ i. ends-differ g h e x y edge vertex ok con (sym w.leaves ∙ i)) not-y

          there : into (moved (place h edge) w.over) ≡ w.over
          there = numbering.into_back w.over w.over_dart over-kept

          joins : (d : ℕ) → w.over ≡ into d → are_adjacent g y (tail g (twin (into d))) ≡ true
          joins d q = dart-joined g ok y (tail g (twin (into d))) (twin w.back) (twin-below (edge_count g) w.back w.back_dart) w.arrives (ap (tail g) (twin-twin w.back) ∙ sym w.meets ∙ ap (λ c. tail g (twin c)) q)

          at_first : w.over ≡ into first → one_live z ≡ true
          at_first q = joined-new early early_edge wide_live z (joins first q)
              (is (over-only first runs.first_dart runs.first_leaves (joins first q) w.back w.back_dart (sym w.meets ∙ ap (λ c. tail g (twin c)) q) w.arrives))
            where
              is : w.back ≡ early_edge → (z ≡ early_edge) ⊎ (z ≡ twin early_edge)
              is i = elim w.which [ inl k ↦ inl (k ∙ i) | inr k ↦ inr (k ∙ ap twin i) ]

          at_last : w.over ≡ into last → two_live z ≡ true
          at_last q = joined-new late late_edge one_live z (joins last q)
              (is (over-only last runs.last_dart runs.last_leaves (joins last q) w.back w.back_dart (sym w.meets ∙ ap (λ c. tail g (twin c)) q) w.arrives))
            where
              is : w.back ≡ late_edge → (z ≡ late_edge) ⊎ (z ≡ twin late_edge)
              is i = elim w.which [ inl k ↦ inl (k ∙ i) | inr k ↦ inr (k ∙ ap twin i) ]

  -- so it is the map of a rotation system of g, which is plane
  pub expanded-system : (r : List (List ℕ)) × IsRotationSystem g r × IsPlane g r × ((d : ℕ) → d < dart_count g → dart_after g r d ≡ expanded g h e x y edge t first last d)
  expanded-system =
      let w = map-orders g ok two two_back two-part.is_map (λ c d l k. two-part.vertices c d l k (all-live c l) (all-live d k)) in
      (w.0, w.1, map-plane g w.0 ok w.1 (plane-ext (edge_count g) two (dart_after g w.0) (λ d l. sym (w.2 d l)) two-part.plane), w.2)

  -- the darts that do not stay are alone in the map without the edges to common neighbours
  wide-gone : (z : ℕ) → z < dart_count g → stays g e x y z ≡ false → wide z ≡ z
  wide-gone z l out =
      let w = stays-gone g e x y z out in
      let m = middle-not g h e x y edge vertex ok con z w.0 in
      open-other g h e x y edge vertex ok okh con t st plane first last runs z
      (λ i. differs (into last) z (numbering.lives last runs.last_dart) w.1 (sym i)) (λ i. differs b_last z end-kept w.1 (sym i)) m.0 m.1
      ∙ big-alone g h e x y edge vertex ok okh con t st plane first last runs z l w.1

  -- so the others go on to others there
  wide-stays : (z : ℕ) → z < dart_count g → stays g e x y z ≡ true → stays g e x y (wide z) ≡ true
  wide-stays z l in_ = elim (cases_Bool (stays g e x y (wide z))) [
    | inl k ↦ k
    | inr out ↦ absurd (both_ways (stays g e x y (wide z)) out (ap (stays g e x y) (permutes-one-to-one (dart_count g) wide wide_back wide-part.is_map (wide z) z (wide-part.is_map.forth z l) l (wide-gone (wide z) (wide-part.is_map.forth z l) out)) ∙ in_))
  ]

  -- a put-in edge does not stay
  over-out : (d : ℕ) (l : d < dart_count h) (leaves : tail g (moved edge d) ≡ x) → are_adjacent g y (tail g (twin (moved edge d))) ≡ true → (z : ℕ) → z / 2 ≡ dart_between g (tail g (twin (moved edge d))) y / 2 → stays g e x y z ≡ false
  over-out d l leaves j z q = stays-not g e x y z (λ i. over-edge d l leaves j (sym q ∙ i)) (ap (is_kept g e x y) q ∙ over-gone d l leaves j)

  -- a dart that stays goes on as in that map, or passes one dart that does not stay before
  abbrev Passes : ℕ → Type 0
  Passes z = (two z ≡ wide z) ⊎ ((stays g e x y (two z) ≡ false) × (two (two z) ≡ wide z))

  passes-one : (z : ℕ) → z < dart_count g → stays g e x y z ≡ true → two z ≡ one z → Passes z
  passes-one z l in_ same = elim (cases_Bool early) [
    | inr i ↦ inl (same ∙ ap (λ v. joined_again v early_edge (twin (into first)) b_last wide z) i)
    | inl i ↦
        let a = over-is first runs.first_dart runs.first_leaves i in
        let met = joined-met early early_edge (twin (into first)) b_last wide i
        (λ q. off-y first runs.first_dart runs.first_leaves (ap (tail g) q ∙ runs.before_first))
        (λ q. off-y first runs.first_dart runs.first_leaves (ap (tail g) q ∙ a.2))
        (differs b_last early_edge end-kept (over-gone first runs.first_dart runs.first_leaves i)) in
        elim (cases_eq z (twin (into first))) [
          | inl q ↦
              let goes : two z ≡ early_edge = same ∙ ap one q ∙ met.0 ∙ over-alone first runs.first_dart runs.first_leaves i early_edge a.0 refl in
              inr (ap (stays g e x y) goes ∙ over-out first runs.first_dart runs.first_leaves i early_edge refl, ap two goes ∙ over-one i early_edge (inl refl) ∙ met.1 ∙ ap wide (sym q))
          | inr na ↦ elim (cases_eq z b_last) [
            | inl q ↦
                let goes : two z ≡ twin early_edge = same ∙ ap one q ∙ met.2 ∙ over-alone first runs.first_dart runs.first_leaves i (twin early_edge) (twin-below (edge_count g) early_edge a.0) (twin-edge early_edge) in
                inr (ap (stays g e x y) goes ∙ over-out first runs.first_dart runs.first_leaves i (twin early_edge) (twin-edge early_edge), ap two goes ∙ over-one i (twin early_edge) (inr refl) ∙ met.3 ∙ ap wide (sym q))
            | inr nb ↦ inl (same ∙ joined-other early early_edge (twin (into first)) b_last wide z (λ j. (na, off i z in_ early_edge refl, nb, off i z in_ (twin early_edge) (twin-edge early_edge))))
          ]
        ]
  ]
    where
      off : early ≡ true → (c : ℕ) → stays g e x y c ≡ true → (d : ℕ) → d / 2 ≡ early_edge / 2 → c ≡ d → ⊥
      off i c k d q j = both_ways (stays g e x y d) (over-out first runs.first_dart runs.first_leaves i d q) (ap (stays g e x y) (sym j) ∙ k)

      -- the early edge is not touched by the late one
      over-one : early ≡ true → (d : ℕ) → (d ≡ early_edge) ⊎ (d ≡ twin early_edge) → two d ≡ one d
      over-one i d o = joined-other late late_edge behind (twin middle) one d (λ j. (
        λ q. off i behind (stays-kept g e x y behind behind-kept) d (half o) (sym q),
        λ q. apart j d late_edge (inl refl) o q,
        λ q. off i (twin middle) (stays-edge g e x y (twin middle) (twin-edge middle ∙ dart_from-edge g x e)) d (half o) (sym q),
        λ q. apart j d (twin late_edge) (inr refl) o q,
      ))
        where
          half : (d ≡ early_edge) ⊎ (d ≡ twin early_edge) → d / 2 ≡ early_edge / 2
          half (inl q) = ap (λ z. z / 2) q
          half (inr q) = ap (λ z. z / 2) q ∙ twin-edge early_edge

          apart : late ≡ true → (d c : ℕ) → (c ≡ late_edge) ⊎ (c ≡ twin late_edge) → (d ≡ early_edge) ⊎ (d ≡ twin early_edge) → d ≡ c → ⊥
          apart j d c k (inl q) p = (late-apart i j c k).0 (sym p ∙ q)
          apart j d c k (inr q) p = (late-apart i j c k).1 (sym p ∙ q)

  passes : (z : ℕ) → z < dart_count g → stays g e x y z ≡ true → Passes z
  passes z l in_ = elim (cases_Bool late) [
    | inr j ↦ passes-one z l in_ (ap (λ v. joined_again v late_edge behind (twin middle) one z) j)
    | inl j ↦
        let b = over-is last runs.last_dart runs.last_leaves j in
        let met = joined-met late late_edge behind (twin middle) one j
        (λ q. last-off_y (sym behind-tail ∙ ap (tail g) q ∙ middle-twin g h e x y edge vertex ok con))
        (differs behind (twin late_edge) behind-kept (twin-gone last runs.last_dart runs.last_leaves j))
        (λ q. last-off_y (sym b.1 ∙ ap (tail g) (sym q) ∙ middle-twin g h e x y edge vertex ok con)) in
        elim (cases_eq z behind) [
          | inl q ↦
              let goes : two z ≡ late_edge = ap two q ∙ met.0 ∙ late-alone j late_edge b.0 (inl refl) in
              inr (ap (stays g e x y) goes ∙ over-out last runs.last_dart runs.last_leaves j late_edge refl, ap two goes ∙ met.1 ∙ one-wide_behind ∙ ap wide (sym q))
          | inr nb ↦ elim (cases_eq z (twin middle)) [
            | inl q ↦
                let goes : two z ≡ twin late_edge = ap two q ∙ met.2 ∙ late-alone j (twin late_edge) (twin-below (edge_count g) late_edge b.0) (inr refl) in
                inr (ap (stays g e x y) goes ∙ over-out last runs.last_dart runs.last_leaves j (twin late_edge) (twin-edge late_edge), ap two goes ∙ met.3 ∙ one-twin ∙ ap wide (sym q))
            | inr nt ↦ passes-one z l in_ (joined-other late late_edge behind (twin middle) one z (λ k. (nb, off j late_edge refl, nt, off j (twin late_edge) (twin-edge late_edge))))
          ]
        ]
  ]
    where
      off : late ≡ true → (d : ℕ) → d / 2 ≡ late_edge / 2 → z ≡ d → ⊥
      off j d q k = both_ways (stays g e x y d) (over-out last runs.last_dart runs.last_leaves j d q) (ap (stays g e x y) (sym k) ∙ in_)

      one-wide_behind : one behind ≡ wide behind
      one-wide_behind = one-other behind behind-kept (λ q. ends-apart (sym behind-tail ∙ ap (tail g) q)) (λ q. last-off_y (sym behind-tail ∙ ap (tail g) q ∙ runs.before_first))

      one-twin : one (twin middle) ≡ wide (twin middle)
      one-twin = joined-other early early_edge (twin (into first)) b_last wide (twin middle) (λ i. (
        λ q. differs (twin (into first)) (twin middle) (ap (is_kept g e x y) (twin-edge (into first)) ∙ numbering.lives first runs.first_dart) twin-middle-gone (sym q),
        λ q. over-edge first runs.first_dart runs.first_leaves i (ap (λ d. d / 2) (sym q) ∙ twin-edge middle ∙ dart_from-edge g x e),
        λ q. differs b_last (twin middle) end-kept twin-middle-gone (sym q),
        λ q. over-edge first runs.first_dart runs.first_leaves i (sym (twin-edge early_edge) ∙ ap (λ d. d / 2) (sym q) ∙ twin-edge middle ∙ dart_from-edge g x e),
      ))
        where
          twin-middle-gone : kept (twin middle) ≡ false
          twin-middle-gone = false_from_ne_true (kept (twin middle)) (λ k. contracted-not_kept g e x y (twin middle / 2) k (twin-edge middle ∙ dart_from-edge g x e))

  -- the rotation system with these steps contracts to the one that was expanded
  pub expanded-contracts : (r : List (List ℕ)) → IsRotationSystem g r → ((d : ℕ) → d < dart_count g → dart_after g r d ≡ expanded g h e x y edge t first last d) → IsContractedSystem g h e x y edge r t
  expanded-contracts r s steps d l =
      big-steps g h e x y edge vertex ok okh con t st plane first last runs d l
      ∙ open-contracted g h e x y edge vertex ok okh con t st plane first last runs (into d) (numbering.numbers d l)
      ∙ sym (contracted-ext middle (restricted (dart_count g) (stays g e x y) (dart_after g r)) wide (into d) (left-wide (into d) (numbering.numbers d l)) (left-wide middle middle-in) (left-wide (twin middle) (twin-below (edge_count g) middle middle-in)))
    where
      left-wide : (z : ℕ) → z < dart_count g → restricted (dart_count g) (stays g e x y) (dart_after g r) z ≡ wide z
      left-wide z k = elim (cases_Bool (stays g e x y z)) [
        | inr out ↦ restricted-alone (dart_count g) (stays g e x y) (dart_after g r) z out ∙ sym (wide-gone z k out)
        | inl in_ ↦ elim (passes z k in_) [
          | inl q ↦ let goes : dart_after g r z ≡ wide z = steps z k ∙ q in
              restricted-next (dart_count g) (stays g e x y) (dart_after g r) (dart_before g r) (map-permutes g r ok s) z k in_ (ap (stays g e x y) goes ∙ wide-stays z k in_) ∙ goes
          | inr q ↦
              let goes : dart_after g r (dart_after g r z) ≡ wide z = steps (dart_after g r z) ((map-permutes g r ok s).forth z k) ∙ ap two (steps z k) ∙ q.1 in
              restricted-over (dart_count g) (stays g e x y) (dart_after g r) (dart_before g r) (map-permutes g r ok s) z k in_ (ap (stays g e x y) (steps z k) ∙ q.0) (ap (stays g e x y) goes ∙ wide-stays z k in_) ∙ goes
        ]
      ]

-- so where it falls in runs it is made by a plane rotation system of g
pub runs-expand : (g h : Multigraph) (e x y : ℕ) (edge vertex : ℕ → ℕ) → IsGraph g → IsGraph h → IsContraction g h e x y edge vertex → IsSimple g → (t : List (List ℕ)) → IsRotationSystem h t → IsPlane h t → (first last : ℕ) → FallsInRuns g h x y edge t first last
    → (r : List (List ℕ)) × IsPlaneSystem g r × IsContractedSystem g h e x y edge r t
runs-expand g h e x y edge vertex ok okh con simple t st plane first last runs =
    let w = expanded-system g h e x y edge vertex ok okh con simple t st plane first last runs in
    (w.0, record { system = w.1; plane = w.2 }, expanded-contracts g h e x y edge vertex ok okh con simple t st plane first last runs w.0 w.1 w.3)
