-- Where the edges at x stand together round the merged vertex, and those to neighbours of y only at the ends, it falls in runs.
use Rattle.std.proofs.Common.{◌≡◌, ◌≢◌, ℕ, ◌/◌, ◌<◌, ◌⊎◌, inl, inr, Bool, true, false, List, [], ◌∷◌, ◌++◌, length, refl, sym, ap, ◌∙◌, subst, arith}
use Rattle.std.proofs.lemmas.Bool.{both_ways, false_from_ne_true}
use Rattle.permutations.specs.Members.{is_member, is_distinct}
use Rattle.permutations.specs.Cyclic.{successor}
use Rattle.permutations.proofs.Members.{member-head, member-cases, member-append_left, member-append_right, member-append_cases, distinct-append_left, distinct-head}
use Rattle.permutations.proofs.Permutations.{permutes-back}
use Rattle.permutations.proofs.Turned.{IsTurn-member, IsTurn-distinct, IsTurn-successor}
use Rattle.multigraph.specs.Graph.{Multigraph, IsGraph, edge_count, is_end, other_end}
use Rattle.rotations.specs.Rotation.{order_at, IsRotationSystem}
use Rattle.rotations.proofs.Membership.{member-edge, member-end}
use Rattle.graph_theory.specs.Triconnected.{IsSimple}
use Rattle.contractions.specs.Contraction.{are_adjacent, IsContraction}
use Rattle.dart_maps.specs.Map.{twin, IsMap}
use Rattle.dart_maps.proofs.Darts.{twin-edge}
use Rattle.faces.specs.Euler.{tail, dart_from, dart_count}
use Rattle.faces.specs.Maps.{dart_after, dart_before}
use Rattle.faces.proofs.DartLemmas.{dart-edge, tail-end, dart_from-edge, dart_from-below, dart_from-tail, dart_from-of_dart, order-distinct, member-incident}
use Rattle.faces.proofs.MapSteps.{tail-in, tail-twin, after-dart_from, map-permutes}
use Rattle.faces.proofs.MapVertices.{tail-order}
use Rattle.graph_theory.proofs.Ends.{end-cases}
use Rattle.planarity.specs.Expansion.{moved, FallsInRuns}
use Rattle.planarity.specs.Alternation.{StandTogether}
use Rattle.planarity.proofs.SimpleDarts.{simple-twin}
use Rattle.planarity.proofs.ContractedDarts.{moved-edge, contracted-not_kept, middle-below, middle-tail, middle-twin, ends-differ, moved-in, moved-kept, moved-tail}
use Rattle.planarity.proofs.RunSuccessors.{run-last, run-inside, run-outside, run-end}

-- the cyclic order of the merged vertex, in which the edges at x stand together; the test q holds of those that lead from x to a
-- neighbour of y
module _ (g h : Multigraph) (e x y : ℕ) (edge vertex : ℕ → ℕ) (ok : IsGraph g) (okh : IsGraph h) (con : IsContraction g h e x y edge vertex) (simple : IsSimple g) (t : List (List ℕ)) (st : IsRotationSystem h t)
    (q : ℕ → Bool) (near : (i : ℕ) → i < edge_count h → is_end g x (edge i) ≡ true → are_adjacent g y (other_end g (edge i) x) ≡ true → q i ≡ true)
    (in_g : x < g.vertex_count) (together : StandTogether (λ i. is_end g x (edge i)) q (order_at t (vertex x))) where
  -- the merged vertex and its cyclic order, and this written from the run on
  abbrev w : ℕ
  w = vertex x

  abbrev order : List ℕ
  order = order_at t (vertex x)

  abbrev run : List ℕ
  run = together.first ∷ together.middle ++ together.last ∷ []

  abbrev round : List ℕ
  round = run ++ together.others

  abbrev at_x : ℕ → Bool
  at_x i = is_end g x (edge i)

  w-in : w < h.vertex_count
  w-in = con.vertices x in_g

  order-once : is_distinct order ≡ true
  order-once = order-distinct h t w st w-in

  round-once : is_distinct round ≡ true
  round-once = IsTurn-distinct order round together.around order-once

  -- the members are edges of the merged vertex
  round-order : (i : ℕ) → is_member i round ≡ true → is_member i order ≡ true
  round-order i m = sym (IsTurn-member order round i together.around) ∙ m

  round-edge : (i : ℕ) → is_member i round ≡ true → (i < edge_count h) × (is_end h w i ≡ true)
  round-edge i m = let v = member-incident h t w i st w-in (round-order i m) in (member-edge h w i v, member-end h w i v)

  -- those of the run are edges at x, and the others are not
  run-at_x : (i : ℕ) → is_member i run ≡ true → at_x i ≡ true
  run-at_x i m = elim (member-cases i together.first (together.middle ++ together.last ∷ []) m) [
    | inl k ↦ ap at_x (sym k) ∙ together.first_passes
    | inr o ↦ elim (member-append_cases i together.middle (together.last ∷ []) o) [
      | inl k ↦ (together.inside i k).0
      | inr k ↦ elim (member-cases i together.last [] k) [ inl j ↦ ap at_x (sym j) ∙ together.last_passes | inr j ↦ absurd (both_ways false refl j) ]
    ]
  ]

  in-run : (i : ℕ) → is_member i round ≡ true → at_x i ≡ true → is_member i run ≡ true
  in-run i m a = elim (member-append_cases i run together.others m) [
    | inl k ↦ k
    | inr k ↦ absurd (both_ways (at_x i) (together.outside i k) a)
  ]

  in-others : (i : ℕ) → is_member i round ≡ true → at_x i ≡ false → is_member i together.others ≡ true
  in-others i m a = elim (member-append_cases i run together.others m) [
    | inl k ↦ absurd (both_ways (at_x i) a (run-at_x i k))
    | inr k ↦ k
  ]

  in-round : (i : ℕ) → is_member i run ≡ true → is_member i round ≡ true
  in-round i m = member-append_left i run together.others m

  others-round : (i : ℕ) → is_member i together.others ≡ true → is_member i round ≡ true
  others-round i m = member-append_right i run together.others m

  -- the dart of an edge from the merged vertex
  abbrev from : ℕ → ℕ
  from i = dart_from h (vertex x) i

  from-in : (i : ℕ) → is_member i round ≡ true → from i < dart_count h
  from-in i m = dart_from-below h w i (round-edge i m).0

  from-after : (i : ℕ) → is_member i round ≡ true → dart_after h t (from i) ≡ from (successor round i)
  from-after i m = after-dart_from h t w i (round-edge i m).1 ∙ ap from (sym (IsTurn-successor order round i together.around order-once))

  -- it leaves x or y in g
  moved-either : (d : ℕ) → d < dart_count h → tail h d ≡ w → (tail g (moved edge d) ≡ x) ⊎ (tail g (moved edge d) ≡ y)
  moved-either d l k = elim (con.vertices_once (tail g (moved edge d)) x (tail-in g (moved edge d) ok (moved-in g h e x y edge vertex ok con d l)) in_g (sym (moved-tail g h e x y edge vertex ok con d l) ∙ k)) [
    | inl j ↦ inl j
    | inr o ↦ elim o [ inl j ↦ inl j.0 | inr j ↦ inr j.0 ]
  ]

  -- x, where its edge is at x
  moved-x : (d : ℕ) → d < dart_count h → tail h d ≡ w → at_x (d / 2) ≡ true → tail g (moved edge d) ≡ x
  moved-x d l k a = elim (moved-either d l k) [
    | inl j ↦ j
    | inr j ↦ absurd (elim (end-cases g (moved edge d / 2) (tail g (moved edge d)) x (tail-end g (moved edge d)) (ap (is_end g x) (moved-edge edge d) ∙ a)) [
      | inl i ↦ ends-differ g h e x y edge vertex ok con (i ∙ j)
      | inr i ↦ contracted-not_kept g e x y (moved edge d / 2) (moved-kept g h e x y edge vertex ok con d l)
          (ap (λ z. z / 2) (simple-twin g ok simple (moved edge d) (dart_from g x e) (moved-in g h e x y edge vertex ok con d l) (middle-below g h e x y edge vertex ok con) (j ∙ sym (middle-twin g h e x y edge vertex ok con))
          (tail-twin g (moved edge d) ok (moved-in g h e x y edge vertex ok con d l) ∙ sym i ∙ sym (middle-tail g h e x y edge vertex ok con)))
          ∙ twin-edge (dart_from g x e) ∙ dart_from-edge g x e)
    ])
  ]

  -- and only there
  at_x-moved : (d : ℕ) → tail g (moved edge d) ≡ x → at_x (d / 2) ≡ true
  at_x-moved d k = ap (is_end g x) (sym (moved-edge edge d)) ∙ subst (λ v. is_end g v (moved edge d / 2) ≡ true) k (tail-end g (moved edge d))

  moved-y : (d : ℕ) → d < dart_count h → tail h d ≡ w → at_x (d / 2) ≡ false → tail g (moved edge d) ≡ y
  moved-y d l k a = elim (moved-either d l k) [
    | inl j ↦ absurd (both_ways (at_x (d / 2)) a (at_x-moved d j))
    | inr j ↦ j
  ]

  -- the same for the darts of edges round the merged vertex
  from-tail : (i : ℕ) → is_member i round ≡ true → tail h (from i) ≡ w
  from-tail i m = dart_from-tail h w i (round-edge i m).1

  from-x : (i : ℕ) → is_member i run ≡ true → tail g (moved edge (from i)) ≡ x
  from-x i m = moved-x (from i) (from-in i (in-round i m)) (from-tail i (in-round i m)) (ap at_x (dart_from-edge h w i) ∙ run-at_x i m)

  from-y : (i : ℕ) → is_member i together.others ≡ true → tail g (moved edge (from i)) ≡ y
  from-y i m = moved-y (from i) (from-in i (others-round i m)) (from-tail i (others-round i m)) (ap at_x (dart_from-edge h w i) ∙ together.outside i m)

  -- each dart that leaves x or y in g is one of these
  leaves-w : (d : ℕ) → d < dart_count h → (tail g (moved edge d) ≡ x) ⊎ (tail g (moved edge d) ≡ y) → (tail h d ≡ w) × (is_member (d / 2) round ≡ true) × (from (d / 2) ≡ d)
  leaves-w d l o = (at, IsTurn-member order round (d / 2) together.around ∙ ap (λ v. is_member (d / 2) (order_at t v)) (sym at) ∙ tail-order h t d okh st l, ap (λ v. dart_from h v (d / 2)) (sym at) ∙ dart_from-of_dart h d okh l)
    where
      at : tail h d ≡ w
      at = moved-tail g h e x y edge vertex ok con d l ∙ elim o [ inl k ↦ ap vertex k | inr k ↦ ap vertex k ∙ sym con.merged ]

  -- the ends of the run
  first-member : is_member together.first run ≡ true
  first-member = member-head together.first (together.middle ++ together.last ∷ [])

  last-member : is_member together.last run ≡ true
  last-member = member-append_right together.last (together.first ∷ together.middle) (together.last ∷ []) (member-head together.last [])

  ends-apart : together.first ≡ together.last → ⊥
  ends-apart k = both_ways (is_member together.first (together.middle ++ together.last ∷ []))
      (distinct-head together.first (together.middle ++ together.last ∷ []) (distinct-append_left run together.others round-once))
      (ap (λ z. is_member z (together.middle ++ together.last ∷ [])) k ∙ member-append_right together.last together.middle (together.last ∷ []) (member-head together.last []))

  inner-map : IsMap (edge_count h) (dart_after h t) (dart_before h t)
  inner-map = map-permutes h t okh st

  -- so it falls in runs
  pub runs-together : FallsInRuns g h x y edge t (dart_from h (vertex x) together.first) (dart_from h (vertex x) together.last)
  runs-together = record {
    first_dart = from-in together.first (in-round together.first first-member);
    last_dart = from-in together.last (in-round together.last last-member);
    first_leaves = from-x together.first first-member;
    last_leaves = from-x together.last last-member;
    two = λ k. ends-apart (sym (dart_from-edge h w together.first) ∙ ap (λ d. d / 2) k ∙ dart_from-edge h w together.last);
    before_first = before;
    after_last = after together.others refl;
    run_of_x = λ d l k n. run_x d l k n;
    run_of_y = λ d l k n. run_y d l k n;
    common = λ d l k j. ends d l k j;
  }
    where
      before : tail g (moved edge (dart_before h t (from together.first))) ≡ y
      before =
          let v = run-end together.first (together.middle ++ together.last ∷ []) together.others together.filled round-once in
          let back : dart_before h t (from together.first) ≡ from v.0 = permutes-back (dart_count h) (dart_after h t) (dart_before h t) inner-map (from v.0) (from together.first) (from-in v.0 (others-round v.0 v.1)) (from-after v.0 (others-round v.0 v.1) ∙ ap from v.2) in
          ap (λ d. tail g (moved edge d)) back ∙ from-y v.0 v.1

      after : (others : List ℕ) → others ≡ together.others → tail g (moved edge (dart_after h t (from together.last))) ≡ y
      after [] k = absurd (omega (arith, together.filled, ap length k))
      after (z ∷ zs) k =
          let next : successor round together.last ≡ z = ap (λ l. successor (run ++ l) together.last) (sym k) ∙ run-last (together.first ∷ together.middle) together.last z zs (ap (λ l. is_distinct (run ++ l)) k ∙ round-once) in
          ap (λ d. tail g (moved edge d)) (from-after together.last (in-round together.last last-member) ∙ ap from next) ∙ from-y z (ap (is_member z) (sym k) ∙ member-head z zs)

      run_x : (d : ℕ) → d < dart_count h → tail g (moved edge d) ≡ x → d ≢ from together.last → tail g (moved edge (dart_after h t d)) ≡ x
      run_x d l k n =
          let v = leaves-w d l (inl k) in
          let m : is_member (d / 2) run ≡ true = in-run (d / 2) v.1 (at_x-moved d k) in
          elim (member-append_cases (d / 2) (together.first ∷ together.middle) (together.last ∷ []) m) [
            | inl i ↦ ap (λ c. tail g (moved edge c)) (ap (dart_after h t) (sym v.2) ∙ from-after (d / 2) v.1) ∙ from-x (successor round (d / 2)) (run-inside (together.first ∷ together.middle) together.last together.others (d / 2) round-once i)
            | inr i ↦ elim (member-cases (d / 2) together.last [] i) [ inl j ↦ absurd (n (sym v.2 ∙ ap from (sym j))) | inr j ↦ absurd (both_ways false refl j) ]
          ]

      run_y : (d : ℕ) → d < dart_count h → tail g (moved edge d) ≡ y → dart_after h t d ≢ from together.first → tail g (moved edge (dart_after h t d)) ≡ y
      run_y d l k n =
          let v = leaves-w d l (inr k) in
          let m : is_member (d / 2) together.others ≡ true = in-others (d / 2) v.1 (false_from_ne_true (at_x (d / 2)) (λ a. ends-differ g h e x y edge vertex ok con (sym (moved-x d l v.0 a) ∙ k))) in
          let goes : dart_after h t d ≡ from (successor round (d / 2)) = ap (dart_after h t) (sym v.2) ∙ from-after (d / 2) v.1 in
          elim (run-outside together.first (together.middle ++ together.last ∷ []) together.others (d / 2) round-once m) [
            | inl i ↦ absurd (n (goes ∙ ap from i))
            | inr i ↦ ap (λ c. tail g (moved edge c)) goes ∙ from-y (successor round (d / 2)) i
          ]

      ends : (d : ℕ) → d < dart_count h → tail g (moved edge d) ≡ x → are_adjacent g y (tail g (twin (moved edge d))) ≡ true → (d ≡ from together.first) ⊎ (d ≡ from together.last)
      ends d l k j =
          let v = leaves-w d l (inl k) in
          let there : tail g (twin (moved edge d)) ≡ other_end g (edge (d / 2)) x = tail-twin g (moved edge d) ok (moved-in g h e x y edge vertex ok con d l) ∙ ap (λ f. other_end g f (tail g (moved edge d))) (moved-edge edge d) ∙ ap (other_end g (edge (d / 2))) k in
          let passes : q (d / 2) ≡ true = near (d / 2) (dart-edge h d l) (at_x-moved d k) (ap (are_adjacent g y) (sym there) ∙ j) in
          elim (member-cases (d / 2) together.first (together.middle ++ together.last ∷ []) (in-run (d / 2) v.1 (at_x-moved d k))) [
            | inl i ↦ inl (sym v.2 ∙ ap from (sym i))
            | inr o ↦ elim (member-append_cases (d / 2) together.middle (together.last ∷ []) o) [
              | inl i ↦ absurd (both_ways (q (d / 2)) (together.inside (d / 2) i).1 passes)
              | inr o ↦ elim (member-cases (d / 2) together.last [] o) [ inl i ↦ inr (sym v.2 ∙ ap from (sym i)) | inr i ↦ absurd (both_ways false refl i) ]
            ]
          ]
