-- Each face of a rotation system restricted to the edges of a subdivision runs along ways of which each goes on as the next.
use Rattle.std.proofs.Common.{◌≡◌, ◌≢◌, ℕ, ◌+◌, ◌*◌, ◌/◌, ◌%◌, ◌<◌, inl, inr, Bool, true, false, ◌==◌, List, [], ◌∷◌, ◌++◌, reverse, refl, sym, ap, ap₂, ◌∙◌, subst, arith, append_assoc, eq-eqb}
use Rattle.std.proofs.lemmas.Bool.{ne_eqb}
use Rattle.std.proofs.lemmas.List.{reverse-append}
use Rattle.permutations.specs.Members.{is_member}
use Rattle.permutations.specs.Cyclic.{first_or}
use Rattle.permutations.proofs.Members.{cut_at, CutAt}
use Rattle.permutations.proofs.Orbits.{orbit-step, orbit-equivalence}
use Rattle.multigraph.specs.Graph.{Multigraph, IsGraph, edge_count, is_end, other_end}
use Rattle.multigraph.proofs.OtherEnd.{other_end-is_end}
use Rattle.rotations.specs.Rotation.{IsRotationSystem}
use Rattle.graph_theory.specs.Path.{walk_end, IsWalk, IsPath}
use Rattle.graph_theory.proofs.Ends.{end-cases}
use Rattle.graph_theory.proofs.Walks.{end-append, walk-right}
use Rattle.graph_theory.proofs.Reversal.{reverse-cons, end-reverse}
use Rattle.dart_maps.specs.Map.{twin, face, same_face}
use Rattle.dart_maps.proofs.Darts.{twin-below, twin-edge, edge-twin}
use Rattle.faces.specs.Euler.{tail, dart_from, dart_count}
use Rattle.faces.proofs.DartLemmas.{tail-end, dart_from-below, dart_from-of_dart}
use Rattle.kuratowski.specs.Subdivision.{pair_at, path_at, branch_at, IsSubdivision}
use Rattle.kuratowski.specs.declared.subdivision.Pattern.{Pattern}
use Rattle.planarity.proofs.SubdivisionPattern.{pair_count, way_start, way_finish, goes_on, way-moves, way-onward, onward-start, onward-finish, onward-from, way-same, way-start_first, way-start_second, way-start_twin, way-finish_twin}
use Rattle.planarity.proofs.SubdivisionWays.{way_from, way_along, way-path, way-member, paths-apart, from-start, kept-path, kept-edge}
use Rattle.planarity.proofs.SubdivisionSteps.{keep, left_map, way_dart, step-out, cut-path, cut-walk, cut-member, cut-kept, inner-step, begins-way, way-first}

-- a path between different vertices has a first edge
path-first : (g : Multigraph) (x : ℕ) (es : List ℕ) (y : ℕ) → IsPath g x es y → x ≢ y → (h : ℕ) × (t : List ℕ) × (es ≡ h ∷ t)
path-first g x [] y p n = absurd (n p.arrives)
path-first g x (h ∷ t) y p n = (h, t, refl)

-- two lists joined by a member between them, reversed
reverse-around : (front : List ℕ) (f : ℕ) (back : List ℕ) → reverse (front ++ f ∷ back) ≡ reverse back ++ f ∷ reverse front
reverse-around front f back = reverse-append front (f ∷ back) ∙ ap (λ l. l ++ reverse front) (reverse-cons f back) ∙ append_assoc (reverse back) (f ∷ []) (reverse front)

-- a subdivision in a graph with a rotation system
module _ (g : Multigraph) (ok : IsGraph g) (r : List (List ℕ)) (rs : IsRotationSystem g r) (kind : Pattern) (branch : List ℕ) (paths : List (List ℕ)) (s : IsSubdivision g kind branch paths) where
  abbrev kept : ℕ → Bool
  kept = keep g ok r rs kind branch paths s

  abbrev map : ℕ → ℕ
  map = left_map g ok r rs kind branch paths s

  abbrev begin : ℕ → ℕ
  begin = way_dart g ok r rs kind branch paths s

  abbrev one_face : ℕ → ℕ → Bool
  one_face = same_face (edge_count g) map

  -- a way has a first edge
  way-edge : (q : ℕ) → q < 2 * pair_count kind → (h : ℕ) × (t : List ℕ) × (way_along paths q ≡ h ∷ t)
  way-edge q l = path-first g (way_from kind branch q) (way_along paths q) (way_from kind branch (twin q)) (way-path g ok kind branch paths s q l)
      (λ e. way-moves kind q l (from-start g ok kind branch paths s q (twin q) l (twin-below (pair_count kind) q l) e ∙ way-start_twin kind q))

  -- which is of the subdivision, and where the way begins
  pub first-kept : (q : ℕ) → q < 2 * pair_count kind → (kept (first_or 0 (way_along paths q)) ≡ true) × (is_end g (way_from kind branch q) (first_or 0 (way_along paths q)) ≡ true) × (is_member (first_or 0 (way_along paths q)) (way_along paths q) ≡ true)
  first-kept q l = let o = way-edge q l in
      (cut-kept g ok r rs kind branch paths s q l [] (first_or 0 (way_along paths q)) o.1 (here o), (cut-walk g ok r rs kind branch paths s q l [] (first_or 0 (way_along paths q)) o.1 (here o)).0.1, cut-member g ok r rs kind branch paths s q l [] (first_or 0 (way_along paths q)) o.1 (here o))
    where
      here : (o : (h : ℕ) × (t : List ℕ) × (way_along paths q ≡ h ∷ t)) → way_along paths q ≡ first_or 0 (way_along paths q) ∷ o.1
      here o = o.2 ∙ ap (λ k. k ∷ o.1) (sym (ap (first_or 0) o.2))

  -- at the end of way q the face goes on with a way that goes on from q
  last-step : (q : ℕ) → q < 2 * pair_count kind → (front : List ℕ) (e : ℕ) → way_along paths q ≡ front ++ e ∷ []
      → (p : ℕ) × (p < 2 * pair_count kind) × (goes_on kind q p ≡ true) × (face map (dart_from g (walk_end g (way_from kind branch q) front) e) ≡ begin p)
  last-step q l front e cut = done (step-out g ok r rs kind branch paths s v e h (cut-kept g ok r rs kind branch paths s q l front e [] cut) (cut-walk g ok r rs kind branch paths s q l front e [] cut).0.1
      (first-kept o.0 o.1).0 (subst (λ z. is_end g z h ≡ true) next-from (first-kept o.0 o.1).1) new)
    where
      v : ℕ
      v = walk_end g (way_from kind branch q) front

      w : ℕ
      w = other_end g e v

      o : (p : ℕ) × (p < 2 * pair_count kind) × (goes_on kind q p ≡ true)
      o = way-onward kind q l

      h : ℕ
      h = first_or 0 (way_along paths o.0)

      -- the way ends here
      arrives : w ≡ way_from kind branch (twin q)
      arrives = sym (end-append g (way_from kind branch q) front (e ∷ [])) ∙ (cut-path g ok r rs kind branch paths s q l front e [] cut).arrives

      next-from : way_from kind branch o.0 ≡ w
      next-from = ap (branch_at branch) (onward-start kind q o.0 o.2 ∙ sym (way-start_twin kind q)) ∙ sym arrives

      -- the first edge of the next way is on another path
      new : h ≢ e
      new z = elim (edge-twin o.0 q same) [
        | inl a ↦ way-moves kind q l (ap (way_start kind) (sym a) ∙ onward-start kind q o.0 o.2)
        | inr a ↦ onward-finish kind q o.0 o.2 (ap (way_finish kind) a ∙ way-finish_twin kind q)
      ]
        where
          same : o.0 / 2 ≡ q / 2
          same = paths-apart g ok kind branch paths s (o.0 / 2) (q / 2) e (omega (arith, o.1)) (omega arith)
              (sym (way-member g ok kind branch paths s o.0 e) ∙ subst (λ k. is_member k (way_along paths o.0) ≡ true) z (first-kept o.0 o.1).2)
              (sym (way-member g ok kind branch paths s q e) ∙ cut-member g ok r rs kind branch paths s q l front e [] cut)

      done : (f : ℕ) × (kept f ≡ true) × (is_end g w f ≡ true) × (f ≢ e) × (face map (dart_from g v e) ≡ dart_from g w f)
          → (p : ℕ) × (p < 2 * pair_count kind) × (goes_on kind q p ≡ true) × (face map (dart_from g v e) ≡ begin p)
      done f = let p = begins-way g ok r rs kind branch paths s (twin q) f.0 (twin-below (pair_count kind) q l) f.1 (subst (λ z. is_end g z f.0 ≡ true) arrives f.2) in
          let starts = from-start g ok kind branch paths s p.0 (twin q) p.1 (twin-below (pair_count kind) q l) p.2 in (
            p.0,
            p.1,
            onward-from kind q p.0 (starts ∙ way-start_twin kind q) (λ z. f.3 (back f p (way-same kind p.0 (twin q) p.1 (twin-below (pair_count kind) q l) starts (z ∙ sym (way-finish_twin kind q))))),
            f.4 ∙ ap₂ (dart_from g) (arrives ∙ sym p.2) (way-first g ok r rs kind branch paths s p.0 f.0 p.1 p.3 (subst (λ z. is_end g z f.0 ≡ true) (arrives ∙ sym p.2) f.2)),
          )
        where
          -- going back, the first edge would be e
          back : (f : (f : ℕ) × (kept f ≡ true) × (is_end g w f ≡ true) × (f ≢ e) × (face map (dart_from g v e) ≡ dart_from g w f))
              → (p : (p : ℕ) × (p < 2 * pair_count kind) × (way_from kind branch p ≡ way_from kind branch (twin q)) × (is_member f.0 (way_along paths p) ≡ true))
              → p.0 ≡ twin q → f.0 ≡ e
          back f p z = way-first g ok r rs kind branch paths s (twin q) f.0 (twin-below (pair_count kind) q l) (subst (λ k. is_member f.0 (way_along paths k) ≡ true) z p.3) (subst (λ k. is_end g k f.0 ≡ true) arrives f.2)
              ∙ sym (way-first g ok r rs kind branch paths s (twin q) e (twin-below (pair_count kind) q l)
              (way-member g ok kind branch paths s (twin q) e ∙ ap (λ k. is_member e (path_at paths k)) (twin-edge q) ∙ sym (way-member g ok kind branch paths s q e) ∙ cut-member g ok r rs kind branch paths s q l front e [] cut)
              (subst (λ k. is_end g k e ≡ true) arrives (other_end-is_end g e v)))

  -- the face of a dart of way q holds the first dart of a way that goes on from q
  way-walk : (q : ℕ) → q < 2 * pair_count kind → (after front : List ℕ) (e : ℕ) → way_along paths q ≡ front ++ e ∷ after
      → (p : ℕ) × (p < 2 * pair_count kind) × (goes_on kind q p ≡ true) × (one_face (dart_from g (walk_end g (way_from kind branch q) front) e) (begin p) ≡ true)
  way-walk q l [] front e cut = let w = last-step q l front e cut in (
    w.0,
    w.1,
    w.2,
    subst (λ z. one_face (dart_from g (walk_end g (way_from kind branch q) front) e) z ≡ true) w.3
        (orbit-step (dart_count g) (face map) (dart_from g (walk_end g (way_from kind branch q) front) e) (dart_from-below g (walk_end g (way_from kind branch q) front) e (kept-edge g ok kind branch paths s e (cut-kept g ok r rs kind branch paths s q l front e [] cut)))),
  )
  way-walk q l (h ∷ back) front e cut = let w = way-walk q l back (front ++ e ∷ []) h (cut ∙ sym (append_assoc front (e ∷ []) (h ∷ back))) in (
    w.0,
    w.1,
    w.2,
    (orbit-equivalence (dart_count g) (face map)).transitive (dart_from g v e) (dart_from g (other_end g e v) h) (begin w.0)
        (subst (λ z. one_face (dart_from g v e) z ≡ true) (inner-step g ok r rs kind branch paths s q l front e h back cut)
        (orbit-step (dart_count g) (face map) (dart_from g v e) (dart_from-below g v e (kept-edge g ok kind branch paths s e (cut-kept g ok r rs kind branch paths s q l front e (h ∷ back) cut)))))
        (subst (λ z. one_face (dart_from g z h) (begin w.0) ≡ true) (end-append g (way_from kind branch q) front (e ∷ [])) w.3),
  )
    where
      v : ℕ
      v = walk_end g (way_from kind branch q) front

  -- so does the face of its own first dart
  pub way-next : (q : ℕ) → q < 2 * pair_count kind → (p : ℕ) × (p < 2 * pair_count kind) × (goes_on kind q p ≡ true) × (one_face (begin q) (begin p) ≡ true)
  way-next q l = let o = way-edge q l in let w = way-walk q l o.1 [] o.0 o.2 in
      (w.0, w.1, w.2, subst (λ z. one_face (dart_from g (way_from kind branch q) z) (begin w.0) ≡ true) (sym (ap (first_or 0) o.2)) w.3)

  -- each dart of the subdivision has the first dart of a way on its face
  pub dart-way : (d : ℕ) → d < dart_count g → kept (d / 2) ≡ true → (p : ℕ) × (p < 2 * pair_count kind) × (one_face d (begin p) ≡ true)
  dart-way d l k = found (cut_at (d / 2) (path_at paths o.0) o.2)
    where
      o : (k : ℕ) × (k < pair_count kind) × (is_member (d / 2) (path_at paths k) ≡ true)
      o = kept-path g ok kind branch paths s (d / 2) k

      start : ℕ
      start = branch_at branch (pair_at kind o.0).0

      finish : ℕ
      finish = branch_at branch (pair_at kind o.0).1

      first : way_from kind branch (2 * o.0) ≡ start
      first = ap (branch_at branch) (way-start_first kind o.0)

      second : way_from kind branch (2 * o.0 + 1) ≡ finish
      second = ap (branch_at branch) (way-start_second kind o.0)

      forth : way_along paths (2 * o.0) ≡ path_at paths o.0
      forth = let even : ((2 * o.0) % 2 == 0) ≡ true = eq-eqb ((2 * o.0) % 2) 0 (omega arith) in let half : (2 * o.0) / 2 ≡ o.0 = omega arith in rw (even, half) refl

      back : way_along paths (2 * o.0 + 1) ≡ reverse (path_at paths o.0)
      back = let odd : ((2 * o.0 + 1) % 2 == 0) ≡ false = ne_eqb ((2 * o.0 + 1) % 2) 0 (λ z. omega arith) in let half : (2 * o.0 + 1) / 2 ≡ o.0 = omega arith in rw (odd, half) refl

      found : CutAt (d / 2) (path_at paths o.0) → (p : ℕ) × (p < 2 * pair_count kind) × (one_face d (begin p) ≡ true)
      found c = elim (end-cases g (d / 2) u (tail g d) walk.0.1 (tail-end g d)) [
        | inl e ↦
            let w = way-walk (2 * o.0) (omega (arith, o.1)) c.back c.front (d / 2) (forth ∙ c.is) in
            (w.0, w.1, subst (λ z. one_face z (begin w.0) ≡ true) (ap (λ z. dart_from g (walk_end g z c.front) (d / 2)) first ∙ ap (λ z. dart_from g z (d / 2)) (sym e) ∙ dart_from-of_dart g d ok l) w.3)
        | inr e ↦
            let w = way-walk (2 * o.0 + 1) (omega (arith, o.1)) (reverse c.front) (reverse c.back) (d / 2) (back ∙ ap reverse c.is ∙ reverse-around c.front (d / 2) c.back) in
            (w.0, w.1, subst (λ z. one_face z (begin w.0) ≡ true) (ap (λ z. dart_from g (walk_end g z (reverse c.back)) (d / 2)) (second ∙ sym arrives) ∙ ap (λ z. dart_from g z (d / 2)) (end-reverse g (other_end g (d / 2) u) c.back walk.1 ∙ sym e) ∙ dart_from-of_dart g d ok l) w.3)
      ]
        where
          u : ℕ
          u = walk_end g start c.front

          path : IsPath g start (c.front ++ (d / 2) ∷ c.back) finish
          path = subst (λ l. IsPath g start l finish) c.is (s.are_paths o.0 o.1)

          walk : IsWalk g u ((d / 2) ∷ c.back)
          walk = walk-right g start c.front ((d / 2) ∷ c.back) path.walk

          arrives : walk_end g (other_end g (d / 2) u) c.back ≡ finish
          arrives = sym (end-append g start c.front ((d / 2) ∷ c.back)) ∙ path.arrives
