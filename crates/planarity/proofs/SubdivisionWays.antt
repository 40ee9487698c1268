-- The ways of a subdivision: the paths for the edges of the pattern, run through in both directions. What meets what.
use Rattle.std.proofs.Common.{◌≡◌, ◌≢◌, ℕ, ◌+◌, ◌*◌, ◌/◌, ◌%◌, ◌<◌, ◌≤◌, ◌⊎◌, inl, inr, true, false, ◌==◌, if◌then◌else◌, List, [], ◌∷◌, length, reverse, refl, sym, ap, ◌∙◌, subst, arith, eq-eqb}
use Rattle.std.proofs.lemmas.Bool.{both_ways, true≢false, cases_eq, ne_eqb}
use Rattle.permutations.specs.Members.{is_member, is_distinct}
use Rattle.permutations.proofs.Members.{member-cases, member-reverse, distinct-append_left, distinct-append_right, distinct-append_apart}
use Rattle.permutations.proofs.Places.{same-place}
use Rattle.permutations.proofs.Arrangements.{member-at}
use Rattle.multigraph.specs.Graph.{Multigraph, IsGraph, edge_count, ends_of, is_end, other_end}
use Rattle.multigraph.proofs.OtherEnd.{is_end-first, is_end-second}
use Rattle.graph_theory.specs.Path.{walk_starts, walk_vertices, IsPath}
use Rattle.graph_theory.proofs.Walks.{walk-edge, edge-met, met-cases}
use Rattle.graph_theory.proofs.Paths.{path-reverse, path-reverse-met, path-edges_distinct}
use Rattle.graph_theory.proofs.Cycles.{walk-some}
use Rattle.dart_maps.specs.Map.{twin}
use Rattle.dart_maps.proofs.Darts.{twin-even, twin-below, edge-twin}
use Rattle.kuratowski.specs.Subdivision.{branch_count, pattern_edges, pair_at, branch_at, path_at, inner_vertices, all_inner, IsSubdivision}
use Rattle.kuratowski.specs.declared.subdivision.Pattern.{Pattern}
use Rattle.planarity.proofs.SubdivisionPattern.{pair_count, way_start, way_finish, way-begins, way-moves, way-same, way-start_first, way-start_second, way-start_twin}
use Rattle.planarity.proofs.SubdivisionLists.{all_edges, edges-member, edges-path, edges-distinct, edges-length, inner-member, inner-once}

-- the branch vertex where way q begins
abbrev pub way_from : Pattern → List ℕ → ℕ → ℕ
way_from kind branch q = branch_at branch (way_start kind q)

-- the edges along way q
abbrev pub way_along : List (List ℕ) → ℕ → List ℕ
way_along paths q = (if q % 2 == 0 then path_at paths (q / 2) else reverse (path_at paths (q / 2)))

-- a vertex where a walk enters an edge is its first, or inside
starts-cases : (g : Multigraph) (x : ℕ) (es : List ℕ) (z : ℕ) → is_member z (walk_starts g x es) ≡ true → (x ≡ z) ⊎ (is_member z (inner_vertices g x es) ≡ true)
starts-cases g x [] z m = absurd (true≢false (sym m))
starts-cases g x (e ∷ es) z m = member-cases z x (walk_starts g (other_end g e x) es) m

-- a subdivision in a graph
module _ (g : Multigraph) (ok : IsGraph g) (kind : Pattern) (branch : List ℕ) (paths : List (List ℕ)) (s : IsSubdivision g kind branch paths) where
  -- the vertex where path k begins
  abbrev pub path_from : ℕ → ℕ
  path_from k = branch_at branch (pair_at kind k).0

  -- the vertices inside path k
  abbrev pub inside : ℕ → List ℕ
  inside k = inner_vertices g (path_from k) (path_at paths k)

  path-there : (k : ℕ) → k < pair_count kind → k < length paths
  path-there k l = omega (arith, s.one_each)

  -- different branch vertices of the pattern are different vertices
  pub branch-once : (i j : ℕ) → i < branch_count kind → j < branch_count kind → branch_at branch i ≡ branch_at branch j → i ≡ j
  branch-once i j k l e = same-place branch i j (distinct-append_left branch (all_inner g branch (pattern_edges kind) paths) s.apart) (omega (arith, s.branches)) (omega (arith, s.branches)) e

  -- ways that begin at one vertex begin at one vertex of the pattern
  pub from-start : (p q : ℕ) → p < 2 * pair_count kind → q < 2 * pair_count kind → way_from kind branch p ≡ way_from kind branch q → way_start kind p ≡ way_start kind q
  from-start p q k l e = branch-once (way_start kind p) (way_start kind q) (way-begins kind p k) (way-begins kind q l) e

  -- each way is a path, to where its twin begins
  pub way-path : (q : ℕ) → q < 2 * pair_count kind → IsPath g (way_from kind branch q) (way_along paths q) (way_from kind branch (twin q))
  way-path q l = subst (λ z. IsPath g (way_from kind branch q) (way_along paths q) (branch_at branch z)) (sym (way-start_twin kind q)) (elim (cases_eq (q % 2) 0) [
    | inl a ↦ let even : (q % 2 == 0) ≡ true = eq-eqb (q % 2) 0 a in rw even (s.are_paths (q / 2) (omega arith))
    | inr a ↦ let odd : (q % 2 == 0) ≡ false = ne_eqb (q % 2) 0 a in rw odd (path-reverse g (path_from (q / 2)) (path_at paths (q / 2)) (branch_at branch (pair_at kind (q / 2)).1) (s.are_paths (q / 2) (omega arith)))
  ])

  -- along the edges of the path
  pub way-member : (q f : ℕ) → is_member f (way_along paths q) ≡ is_member f (path_at paths (q / 2))
  way-member q f = elim (cases_eq (q % 2) 0) [
    | inl a ↦ let even : (q % 2 == 0) ≡ true = eq-eqb (q % 2) 0 a in rw even refl
    | inr a ↦ let odd : (q % 2 == 0) ≡ false = ne_eqb (q % 2) 0 a in rw odd (member-reverse f (path_at paths (q / 2)))
  ]

  -- and its vertices
  pub way-met : (q z : ℕ) → q < 2 * pair_count kind → is_member z (walk_vertices g (way_from kind branch q) (way_along paths q)) ≡ true → is_member z (walk_vertices g (path_from (q / 2)) (path_at paths (q / 2))) ≡ true
  way-met q z l = elim (cases_eq (q % 2) 0) [
    | inl a ↦ let even : (q % 2 == 0) ≡ true = eq-eqb (q % 2) 0 a in rw even (λ m. m)
    | inr a ↦ let odd : (q % 2 == 0) ≡ false = ne_eqb (q % 2) 0 a in rw odd (path-reverse-met g (path_from (q / 2)) (path_at paths (q / 2)) (branch_at branch (pair_at kind (q / 2)).1) (s.are_paths (q / 2) (omega arith)) z)
  ]

  -- a vertex inside a path is no branch vertex
  pub inside-no_branch : (k z i : ℕ) → k < pair_count kind → is_member z (inside k) ≡ true → i < branch_count kind → branch_at branch i ≡ z → ⊥
  inside-no_branch k z i l m j e = both_ways (is_member z (all_inner g branch (pattern_edges kind) paths))
      (distinct-append_apart branch (all_inner g branch (pattern_edges kind) paths) s.apart z (subst (λ y. is_member y branch ≡ true) e (member-at branch i 0 (omega (arith, s.branches)))))
      (inner-member g branch (pattern_edges kind) paths k z l (path-there k l) m)

  -- and inside no other path
  pub inside-once : (j k z : ℕ) → j < pair_count kind → k < pair_count kind → is_member z (inside j) ≡ true → is_member z (inside k) ≡ true → j ≡ k
  inside-once = inner-once g branch (pattern_edges kind) paths (distinct-append_right branch (all_inner g branch (pattern_edges kind) paths) s.apart) s.one_each

  -- a vertex of path k is inside, or a way along it begins there
  pub path-sides : (k z : ℕ) → k < pair_count kind → is_member z (walk_vertices g (path_from k) (path_at paths k)) ≡ true
      → (is_member z (inside k) ≡ true) ⊎ ((q : ℕ) × (q < 2 * pair_count kind) × (q / 2 ≡ k) × (way_from kind branch q ≡ z))
  path-sides k z l m = elim (met-cases g (path_from k) (path_at paths k) z m) [
    | inl a ↦ elim (starts-cases g (path_from k) (path_at paths k) z a) [
      | inl e ↦ inr (2 * k, omega arith, omega arith, ap (branch_at branch) (way-start_first kind k) ∙ e)
      | inr i ↦ inl i
    ]
    | inr e ↦ inr (2 * k + 1, omega arith, omega arith, ap (branch_at branch) (way-start_second kind k) ∙ sym (s.are_paths k l).arrives ∙ sym e)
  ]

  -- an end of an edge of path k is a vertex of the path
  pub path-ends : (k f z : ℕ) → k < pair_count kind → is_member f (path_at paths k) ≡ true → is_end g z f ≡ true → is_member z (walk_vertices g (path_from k) (path_at paths k)) ≡ true
  path-ends k f z l m i = edge-met g (path_from k) (path_at paths k) (s.are_paths k l).walk f z m i

  -- an end of an edge of paths j and k: these are one, or ways along both begin there
  shared-end : (j k f z : ℕ) → j < pair_count kind → k < pair_count kind → is_member f (path_at paths j) ≡ true → is_member f (path_at paths k) ≡ true → is_end g z f ≡ true
      → (j ≡ k) ⊎ ((p : ℕ) × (q : ℕ) × (p < 2 * pair_count kind) × (q < 2 * pair_count kind) × (p / 2 ≡ j) × (q / 2 ≡ k) × (way_from kind branch p ≡ z) × (way_from kind branch q ≡ z))
  shared-end j k f z l i a b h = elim (path-sides j z l (path-ends j f z l a h)) [
    | inl x ↦ elim (path-sides k z i (path-ends k f z i b h)) [
      | inl y ↦ inl (inside-once j k z l i x y)
      | inr q ↦ absurd (inside-no_branch j z (way_start kind q.0) l x (way-begins kind q.0 q.1) q.3)
    ]
    | inr p ↦ elim (path-sides k z i (path-ends k f z i b h)) [
      | inl y ↦ absurd (inside-no_branch k z (way_start kind p.0) i y (way-begins kind p.0 p.1) p.3)
      | inr q ↦ inr (p.0, q.0, p.1, q.1, p.2, q.2, p.3, q.3)
    ]
  ]

  -- a way that begins at another vertex than way p, along the same path, is its twin
  other-way : (p q : ℕ) → p / 2 ≡ q / 2 → way_from kind branch p ≢ way_from kind branch q → q ≡ twin p
  other-way p q e n = elim (edge-twin q p (sym e)) [ inl a ↦ absurd (n (ap (way_from kind branch) (sym a))) | inr a ↦ a ]

  -- no two paths have an edge in common
  pub paths-apart : (j k f : ℕ) → j < pair_count kind → k < pair_count kind → is_member f (path_at paths j) ≡ true → is_member f (path_at paths k) ≡ true → j ≡ k
  paths-apart j k f l i a b = elim (shared-end j k f (ends_of g f).0 l i a b (is_end-first g f)) [
    | inl e ↦ e
    | inr u ↦ elim (shared-end j k f (ends_of g f).1 l i a b (is_end-second g f)) [
      | inl e ↦ e
      | inr v ↦
          let apart : (ends_of g f).0 ≢ (ends_of g f).1 = ok.no_loop f (walk-edge g (path_from j) (path_at paths j) (s.are_paths j l).walk f a) in
          let first : v.0 ≡ twin u.0 = other-way u.0 v.0 (u.4 ∙ sym v.4) (λ e. apart (sym u.6 ∙ e ∙ v.6)) in
          let second : v.1 ≡ twin u.1 = other-way u.1 v.1 (u.5 ∙ sym v.5) (λ e. apart (sym u.7 ∙ e ∙ v.7)) in
          let starts : way_start kind u.0 ≡ way_start kind u.1 = from-start u.0 u.1 u.2 u.3 (u.6 ∙ sym u.7) in
          let finishes : way_finish kind u.0 ≡ way_finish kind u.1 = sym (way-start_twin kind u.0) ∙ ap (way_start kind) (sym first) ∙ from-start v.0 v.1 v.2 v.3 (v.6 ∙ sym v.7) ∙ ap (way_start kind) second ∙ way-start_twin kind u.1 in
          sym u.4 ∙ ap (λ z. z / 2) (way-same kind u.0 u.1 u.2 u.3 starts finishes) ∙ u.5
    ]
  ]

  -- a path has an edge
  path-some : (k : ℕ) → k < pair_count kind → 1 ≤ length (path_at paths k)
  path-some k l = walk-some g (path_from k) (path_at paths k) (branch_at branch (pair_at kind k).1) (s.are_paths k l).arrives
      (λ e. way-moves kind (2 * k) (omega arith) (from-start (2 * k) (twin (2 * k)) (omega arith) (twin-below (pair_count kind) (2 * k) (omega arith)) (begins e) ∙ way-start_twin kind (2 * k)))
    where
      begins : branch_at branch (pair_at kind k).0 ≡ branch_at branch (pair_at kind k).1 → way_from kind branch (2 * k) ≡ way_from kind branch (twin (2 * k))
      begins e = ap (branch_at branch) (way-start_first kind k) ∙ e ∙ ap (branch_at branch) (sym (way-start_second kind k)) ∙ ap (way_from kind branch) (sym (twin-even (2 * k) (omega arith)))

  -- the edges of all paths are different
  pub kept-distinct : is_distinct (all_edges paths) ≡ true
  kept-distinct = edges-distinct paths
      (λ k l. let p = s.are_paths k (omega (arith, s.one_each)) in path-edges_distinct g (path_from k) (path_at paths k) p.walk p.vertices)
      (λ j k f l i. paths-apart j k f (omega (arith, s.one_each)) (omega (arith, s.one_each)))

  -- they are as many as the vertices inside, and one more for each path
  pub kept-length : length (all_edges paths) ≡ length (all_inner g branch (pattern_edges kind) paths) + pair_count kind
  kept-length = edges-length g branch (pattern_edges kind) paths s.one_each path-some

  -- each of them is an edge of the graph, on a path
  pub kept-path : (f : ℕ) → is_member f (all_edges paths) ≡ true → (k : ℕ) × (k < pair_count kind) × (is_member f (path_at paths k) ≡ true)
  kept-path f m = let w = edges-path paths f m in (w.0, omega (arith, w.1, s.one_each), w.2)

  pub kept-edge : (f : ℕ) → is_member f (all_edges paths) ≡ true → f < edge_count g
  kept-edge f m = let w = kept-path f m in walk-edge g (path_from w.0) (path_at paths w.0) (s.are_paths w.0 w.1).walk f w.2

  -- the edges of a way are among them
  pub way-kept : (q f : ℕ) → q < 2 * pair_count kind → is_member f (way_along paths q) ≡ true → is_member f (all_edges paths) ≡ true
  way-kept q f l m = edges-member paths (q / 2) f (path-there (q / 2) (omega arith)) (sym (way-member q f) ∙ m)
