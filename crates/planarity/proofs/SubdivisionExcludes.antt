-- A graph with a subdivision of K5 or of K3,3 has no plane rotation system: too few faces would be left on the subdivision.
use Rattle.std.proofs.Common.{◌≡◌, ◌≢◌, ℕ, zero, suc, ◌+◌, ◌*◌, ◌/◌, ◌<◌, ◌≤◌, inl, inr, Bool, true, false, ◌&&◌, ◌==◌, List, [], ◌∷◌, ◌++◌, length, map, refl, sym, ap, ◌∙◌, subst, arith, eq-eqb, eqb-true, le_trans}
use Rattle.std.proofs.lemmas.Bool.{true≢false, and_from}
use Rattle.std.proofs.lemmas.List.{length-append, length-map}
use Rattle.permutations.specs.Count.{count, some, least}
use Rattle.permutations.specs.Members.{is_member, is_distinct}
use Rattle.permutations.specs.Relation.{IsEquivalence, class_count_in, class_size}
use Rattle.permutations.specs.Exchange.{restricted}
use Rattle.permutations.specs.Cyclic.{first_or}
use Rattle.permutations.proofs.Count.{count-within}
use Rattle.permutations.proofs.Search.{some-from, least-below, least-passes}
use Rattle.permutations.proofs.Injection.{count-injection}
use Rattle.permutations.proofs.Arrangements.{count-list, member-at}
use Rattle.permutations.proofs.Members.{member-cases, member-append_left, member-append_right, distinct-three, distinct-four}
use Rattle.permutations.proofs.Orbits.{orbit-equivalence}
use Rattle.permutations.proofs.Restriction.{restricted-alone, restricted-permutes, restricted-orbit}
use Rattle.permutations.proofs.Mapped.{map-member, distinct-map}
use Rattle.multigraph.specs.Graph.{Multigraph, IsGraph, edge_count}
use Rattle.rotations.specs.Rotation.{IsRotationSystem}
use Rattle.dart_maps.specs.Map.{face, IsMap, same_vertex, same_face, same_component}
use Rattle.dart_maps.proofs.Darts.{edge-twin}
use Rattle.dart_maps.proofs.Plane.{restricted-plane}
use Rattle.faces.specs.Euler.{tail, dart_count, IsPlane}
use Rattle.faces.specs.Maps.{dart_after, dart_before}
use Rattle.faces.proofs.DartLemmas.{tail-end, dart_from-edge, dart_from-below, dart_from-tail}
use Rattle.faces.proofs.MapSteps.{map-permutes}
use Rattle.faces.proofs.MapVertices.{tail-vertex}
use Rattle.faces.proofs.MapCounts.{plane-map}
use Rattle.kuratowski.specs.Subdivision.{branch_count, pattern_edges, all_inner, IsSubdivision}
use Rattle.kuratowski.specs.declared.subdivision.Pattern.{Pattern}
use Rattle.kuratowski.specs.declared.subdivision.Pattern.TheVariants.{K5, K33}
use Rattle.planarity.proofs.ObstructionCounts.{classes-listed, count-listed, classes-sized, classes-some, plane-left, face-live}
use Rattle.planarity.proofs.SubdivisionPattern.{pair_count, way_start, way-begins, way-moves, way-start_twin, three-starts, four-starts}
use Rattle.planarity.proofs.SubdivisionLists.{all_edges, inner-member}
use Rattle.planarity.proofs.SubdivisionWays.{way_from, way_along, way-member, paths-apart, path-sides, path-ends, from-start, kept-path, kept-edge, kept-distinct, kept-length}
use Rattle.planarity.proofs.SubdivisionSteps.{keep, left_map, way_dart}
use Rattle.planarity.proofs.SubdivisionFaces.{first-kept, way-next, dart-way}

-- a subdivision in a graph with a rotation system
module _ (g : Multigraph) (r : List (List ℕ)) (ok : IsGraph g) (rs : IsRotationSystem g r) (kind : Pattern) (branch : List ℕ) (paths : List (List ℕ)) (s : IsSubdivision g kind branch paths) where
  abbrev kept : ℕ → Bool
  kept = keep g ok r rs kind branch paths s

  -- a dart of the subdivision
  abbrev live : ℕ → Bool
  live d = kept (d / 2)

  abbrev left : ℕ → ℕ
  left = left_map g ok r rs kind branch paths s

  abbrev begin : ℕ → ℕ
  begin = way_dart g ok r rs kind branch paths s

  abbrev one_face : ℕ → ℕ → Bool
  one_face = same_face (edge_count g) left

  abbrev inner : List ℕ
  inner = all_inner g branch (pattern_edges kind) paths

  one-face : IsEquivalence one_face
  one-face = orbit-equivalence (dart_count g) (face left)

  -- whether a way begins with the dart
  abbrev begins : ℕ → Bool
  begins d = some (2 * pair_count kind) (λ q. begin q == d)

  begin-below : (q : ℕ) → q < 2 * pair_count kind → begin q < dart_count g
  begin-below q l = dart_from-below g (way_from kind branch q) (first_or 0 (way_along paths q)) (kept-edge g ok kind branch paths s (first_or 0 (way_along paths q)) (first-kept g ok r rs kind branch paths s q l).0)

  begin-begins : (q : ℕ) → q < 2 * pair_count kind → begins (begin q) ≡ true
  begin-begins q l = some-from (2 * pair_count kind) (λ p. begin p == begin q) q l (eq-eqb (begin q) (begin q) refl)

  begin-tail : (q : ℕ) → q < 2 * pair_count kind → tail g (begin q) ≡ way_from kind branch q
  begin-tail q l = dart_from-tail g (way_from kind branch q) (first_or 0 (way_along paths q)) (first-kept g ok r rs kind branch paths s q l).1

  -- different ways begin with different darts
  begin-once : (p q : ℕ) → p < 2 * pair_count kind → q < 2 * pair_count kind → begin p ≡ begin q → p ≡ q
  begin-once p q k l e = elim (edge-twin p q path) [
    | inl a ↦ a
    | inr a ↦ absurd (way-moves kind q l (sym start ∙ ap (way_start kind) a ∙ way-start_twin kind q))
  ]
    where
      start : way_start kind p ≡ way_start kind q
      start = from-start g ok kind branch paths s p q k l (sym (begin-tail p k) ∙ ap (tail g) e ∙ begin-tail q l)

      edge : first_or 0 (way_along paths p) ≡ first_or 0 (way_along paths q)
      edge = sym (dart_from-edge g (way_from kind branch p) (first_or 0 (way_along paths p))) ∙ ap (λ d. d / 2) e ∙ dart_from-edge g (way_from kind branch q) (first_or 0 (way_along paths q))

      path : p / 2 ≡ q / 2
      path = paths-apart g ok kind branch paths s (p / 2) (q / 2) (first_or 0 (way_along paths q)) (omega arith) (omega arith)
          (sym (way-member g ok kind branch paths s p (first_or 0 (way_along paths q))) ∙ subst (λ z. is_member z (way_along paths p) ≡ true) edge (first-kept g ok r rs kind branch paths s p k).2)
          (sym (way-member g ok kind branch paths s q (first_or 0 (way_along paths q))) ∙ (first-kept g ok r rs kind branch paths s q l).2)

  -- there are no more such darts than ways
  begins-count : count (dart_count g) begins ≤ 2 * pair_count kind
  begins-count =
      let few : count (dart_count g) begins ≤ count (2 * pair_count kind) (λ q. true) = count-injection (dart_count g) (2 * pair_count kind) begins (λ q. true) (λ d. least (2 * pair_count kind) (λ q. begin q == d))
      (λ d l h. least-below (2 * pair_count kind) (λ q. begin q == d) h) (λ d l h. refl)
      (λ c d k l h i e. sym (beginning c h) ∙ ap begin e ∙ beginning d i) in
      omega (arith, few, count-within (2 * pair_count kind) (λ q. true))
    where
      beginning : (d : ℕ) → begins d ≡ true → begin (least (2 * pair_count kind) (λ q. begin q == d)) ≡ d
      beginning d h = eqb-true (begin (least (2 * pair_count kind) (λ q. begin q == d))) d (least-passes (2 * pair_count kind) (λ q. begin q == d) h)

  -- n ways along the face of way q's first dart, each going on as the next
  ways_along : (n q : ℕ) → q < 2 * pair_count kind → List ℕ
  ways_along zero q l = []
  ways_along (suc n) q l = q ∷ ways_along n (way-next g ok r rs kind branch paths s q l).0 (way-next g ok r rs kind branch paths s q l).1

  ways-length : (n q : ℕ) (l : q < 2 * pair_count kind) → length (ways_along n q l) ≡ n
  unfolding ways_along
  ways-length zero q l = refl
  ways-length (suc n) q l = let w = way-next g ok r rs kind branch paths s q l in let e = ways-length n w.0 w.1 in omega arith

  ways-on : (n q : ℕ) (l : q < 2 * pair_count kind) (p : ℕ) → is_member p (ways_along n q l) ≡ true → (p < 2 * pair_count kind) × (one_face (begin q) (begin p) ≡ true)
  unfolding ways_along
  ways-on zero q l p m = absurd (true≢false (sym m))
  ways-on (suc n) q l p m = let w = way-next g ok r rs kind branch paths s q l in elim (member-cases p q (ways_along n w.0 w.1) m) [
    | inl e ↦ (subst (λ z. z < 2 * pair_count kind) e l, ap (λ z. one_face (begin q) (begin z)) (sym e) ∙ one-face.reflexive (begin q))
    | inr t ↦ let u = ways-on n w.0 w.1 p t in (u.0, one-face.transitive (begin q) (begin w.0) (begin p) w.3 u.1)
  ]

  -- where they are different, each dart of the face has that many in its class
  face-holds : (n x q : ℕ) (l : q < 2 * pair_count kind) → one_face x (begin q) ≡ true → is_distinct (ways_along n q l) ≡ true → n ≤ class_size (dart_count g) begins one_face x
  face-holds n x q l h once = omega (
    arith,
    ways-length n q l,
    length-map (ways_along n q l) begin,
    count-listed (dart_count g) (λ d. begins d && one_face x d) (map begin (ways_along n q l))
        (distinct-map begin (ways_along n q l) (λ p o i j. begin-once p o (ways-on n q l p i).0 (ways-on n q l o j).0) once)
        (λ d m. let w = map-member begin (ways_along n q l) d m in subst (λ z. z < dart_count g) w.2 (begin-below w.0 (ways-on n q l w.0 w.1).0))
        (λ d m. let w = map-member begin (ways_along n q l) d m in let u = ways-on n q l w.0 w.1 in
        and_from (begins d) (one_face x d) (subst (λ z. begins z ≡ true) w.2 (begin-begins w.0 u.0)) (subst (λ z. one_face x z ≡ true) w.2 (one-face.transitive x (begin q) (begin w.0) h u.1))),
  )

  -- so, where n ways that go on as one another are always different, each face of the subdivision has that many
  faces-hold : (n : ℕ) → ((q : ℕ) (l : q < 2 * pair_count kind) → is_distinct (ways_along n q l) ≡ true)
      → (x : ℕ) → x < dart_count g → live x ≡ true → n ≤ class_size (dart_count g) begins one_face x
  faces-hold n once x l k = let w = dart-way g ok r rs kind branch paths s x l k in face-holds n x w.0 w.1 w.2 (once w.0 w.1)

  permutes : IsMap (edge_count g) left (restricted (dart_count g) live (dart_before g r))
  permutes = restricted-permutes (dart_count g) live (dart_after g r) (dart_before g r) (map-permutes g r ok rs)

  alone : (d : ℕ) → d < dart_count g → live d ≡ false → left d ≡ d
  alone d l h = restricted-alone (dart_count g) live (dart_after g r) d h

  -- the vertices of the subdivision are the branch vertices and those inside the paths
  vertices-few : class_count_in (dart_count g) live (same_vertex (edge_count g) left) ≤ length branch + length inner
  vertices-few = omega (
    arith,
    length-append branch inner,
    classes-listed (dart_count g) live (same_vertex (edge_count g) left) (tail g) (branch ++ inner) s.apart
        (λ d l k. let o = kept-path g ok kind branch paths s (d / 2) k in
        elim (path-sides g ok kind branch paths s o.0 (tail g d) o.1 (path-ends g ok kind branch paths s o.0 (d / 2) (tail g d) o.1 o.2 (tail-end g d))) [
          | inl i ↦ member-append_right (tail g d) branch inner (inner-member g branch (pattern_edges kind) paths o.0 (tail g d) o.1 (omega (arith, o.1, s.one_each)) i)
          | inr q ↦ member-append_left (tail g d) branch inner (subst (λ z. is_member z branch ≡ true) q.3 (member-at branch (way_start kind q.0) 0 (omega (arith, way-begins kind q.0 q.1, s.branches))))
        ])
        (λ c d k l i j e. restricted-orbit (dart_count g) live (dart_after g r) (dart_before g r) (map-permutes g r ok rs) c d i j ∙ tail-vertex g r ok rs c d k l e),
  )

  -- its edges are one more for each pair than the vertices inside
  edges-all : count (edge_count g) kept ≡ length inner + pair_count kind
  edges-all = count-list (edge_count g) kept (all_edges paths) (kept-distinct g ok kind branch paths s) (kept-edge g ok kind branch paths s) (λ e l. refl) ∙ kept-length g ok kind branch paths s

  -- it has a component
  component-some : 0 < pair_count kind → 1 ≤ class_count_in (dart_count g) live (same_component (edge_count g) left)
  component-some l = classes-some (dart_count g) live (same_component (edge_count g) left) (begin 0) (begin-below 0 (omega arith))
      (ap kept (dart_from-edge g (way_from kind branch 0) (first_or 0 (way_along paths 0))) ∙ (first-kept g ok r rs kind branch paths s 0 (omega arith)).0)

  -- where each face holds k ways, a plane rotation system has enough faces on the subdivision, and too few
  faces-counted : 0 < pair_count kind → IsPlane g r → (k : ℕ) → ((x : ℕ) → x < dart_count g → live x ≡ true → k ≤ class_size (dart_count g) begins one_face x)
      → (f : ℕ) × (pair_count kind + 2 ≤ branch_count kind + f) × (k * f ≤ 2 * pair_count kind)
  faces-counted l plane k big = (
    class_count_in (dart_count g) live one_face,
    omega (
      arith,
      plane-left (edge_count g) left (restricted (dart_count g) live (dart_before g r)) permutes kept alone (restricted-plane (edge_count g) (dart_after g r) (dart_before g r) (map-permutes g r ok rs) (plane-map g r ok rs plane) live),
      vertices-few,
      edges-all,
      component-some l,
      s.branches,
    ),
    le_trans (classes-sized (dart_count g) live begins one_face k one-face (face-live (edge_count g) left (restricted (dart_count g) live (dart_before g r)) permutes kept alone) big) begins-count,
  )

-- three ways that go on as one another begin at different vertices
three-ways : (g : Multigraph) (r : List (List ℕ)) (ok : IsGraph g) (rs : IsRotationSystem g r) (kind : Pattern) (branch : List ℕ) (paths : List (List ℕ)) (s : IsSubdivision g kind branch paths)
    (q : ℕ) (l : q < 2 * pair_count kind) → is_distinct (ways_along g r ok rs kind branch paths s 3 q l) ≡ true
unfolding ways_along
three-ways g r ok rs kind branch paths s q l =
    let b = way-next g ok r rs kind branch paths s q l in
    let c = way-next g ok r rs kind branch paths s b.0 b.1 in
    let starts = three-starts kind q b.0 c.0 l b.1 b.2 c.2 in
    distinct-three q b.0 c.0 (λ e. starts.0 (ap (way_start kind) e)) (λ e. starts.1 (ap (way_start kind) e)) (λ e. starts.2 (ap (way_start kind) e))

-- and four of K3,3
four-ways : (g : Multigraph) (r : List (List ℕ)) (ok : IsGraph g) (rs : IsRotationSystem g r) (branch : List ℕ) (paths : List (List ℕ)) (s : IsSubdivision g K33 branch paths)
    (q : ℕ) (l : q < 2 * pair_count K33) → is_distinct (ways_along g r ok rs K33 branch paths s 4 q l) ≡ true
unfolding ways_along
four-ways g r ok rs branch paths s q l =
    let b = way-next g ok r rs K33 branch paths s q l in
    let c = way-next g ok r rs K33 branch paths s b.0 b.1 in
    let d = way-next g ok r rs K33 branch paths s c.0 c.1 in
    let front = three-starts K33 q b.0 c.0 l b.1 b.2 c.2 in
    let back = three-starts K33 b.0 c.0 d.0 b.1 c.1 c.2 d.2 in
    distinct-four q b.0 c.0 d.0
    (λ e. front.0 (ap (way_start K33) e)) (λ e. front.1 (ap (way_start K33) e)) (λ e. four-starts q b.0 c.0 d.0 l b.1 c.1 b.2 c.2 d.2 (ap (way_start K33) e))
    (λ e. back.0 (ap (way_start K33) e)) (λ e. back.1 (ap (way_start K33) e)) (λ e. back.2 (ap (way_start K33) e))

-- a graph with a subdivision of K5 or of K3,3 has no plane rotation system
pub subdivision-excludes : (g : Multigraph) (r : List (List ℕ)) → IsGraph g → IsRotationSystem g r → IsPlane g r → (kind : Pattern) (branch : List ℕ) (paths : List (List ℕ)) → IsSubdivision g kind branch paths → ⊥
subdivision-excludes g r ok rs plane K5 branch paths s =
    let f = faces-counted g r ok rs K5 branch paths s (omega arith) plane 3 (faces-hold g r ok rs K5 branch paths s 3 (three-ways g r ok rs K5 branch paths s)) in
    let many : 12 ≤ 5 + f.0 = f.1 in
    let few : 3 * f.0 ≤ 20 = f.2 in
    omega arith
subdivision-excludes g r ok rs plane K33 branch paths s =
    let f = faces-counted g r ok rs K33 branch paths s (omega arith) plane 4 (faces-hold g r ok rs K33 branch paths s 4 (four-ways g r ok rs branch paths s)) in
    let many : 11 ≤ 6 + f.0 = f.1 in
    let few : 4 * f.0 ≤ 18 = f.2 in
    omega arith
