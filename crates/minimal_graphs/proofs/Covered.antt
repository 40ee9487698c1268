-- Subdivisions that have each edge of a triconnected graph: no path has a vertex inside, and each vertex is a branch vertex.
use Rattle.std.proofs.Common.{◌≡◌, ◌≢◌, ℕ, ◌<◌, ◌≤◌, inl, inr, true, List, [], ◌∷◌, length, refl, sym, ap, ◌∙◌, subst, arith}
use Rattle.std.proofs.lemmas.Bool.{both_ways, true≢false, cases_eq}
use Rattle.permutations.specs.Members.{is_member, is_distinct}
use Rattle.permutations.proofs.Members.{member-head, member-tail, member-cases, distinct-head, distinct-tail, distinct-append_left}
use Rattle.multigraph.specs.Graph.{Multigraph, IsGraph, edge_count, is_end, other_end}
use Rattle.graph_theory.specs.Path.{walk_starts, walk_vertices, IsWalk}
use Rattle.graph_theory.specs.Triconnected.{IsTriconnected}
use Rattle.graph_theory.proofs.Ends.{end-in, end-cases}
use Rattle.graph_theory.proofs.Walks.{edge-met}
use Rattle.graph_theory.proofs.Cycles.{walk-some}
use Rattle.contractions.proofs.Neighbours.{three_neighbours}
use Rattle.kuratowski.specs.Subdivision.{branch_count, pattern_edges, pair_at, branch_at, path_at, inner_vertices, all_inner, IsSubdivision}
use Rattle.kuratowski.specs.declared.subdivision.Pattern.{Pattern}
use Rattle.kuratowski.proofs.Meetings.{ends-differ}
use Rattle.planarity.proofs.SubdivisionPattern.{pair_count, way_start, way-begins}
use Rattle.planarity.proofs.SubdivisionLists.{all_edges, inner-length}
use Rattle.planarity.proofs.SubdivisionWays.{path_from, inside, inside-no_branch, inside-once, path-sides, path-ends, kept-path}

-- one edge of a path has its first vertex as an end
start-one : (g : Multigraph) (x : ℕ) (es : List ℕ) → IsWalk g x es → is_distinct (walk_vertices g x es) ≡ true → (e f : ℕ)
    → is_member e es ≡ true → is_member f es ≡ true → is_end g x e ≡ true → is_end g x f ≡ true → e ≡ f
start-one g x [] w d e f m n i j = absurd (true≢false (sym m))
start-one g x (h ∷ es) w d e f m n i j = sym (is e m i) ∙ is f n j
  where
    is : (e : ℕ) → is_member e (h ∷ es) ≡ true → is_end g x e ≡ true → h ≡ e
    is e m i = elim (member-cases e h es m) [
      | inl q ↦ q
      | inr k ↦ absurd (both_ways (is_member x (walk_vertices g (other_end g h x) es)) (distinct-head x (walk_vertices g (other_end g h x) es) d) (edge-met g (other_end g h x) es w.1 e x k i))
    ]

-- two at most have any other one
few-at : (g : Multigraph) (x : ℕ) (es : List ℕ) → IsWalk g x es → is_distinct (walk_vertices g x es) ≡ true → (z e f h : ℕ)
    → is_member e es ≡ true → is_member f es ≡ true → is_member h es ≡ true → is_end g z e ≡ true → is_end g z f ≡ true → is_end g z h ≡ true → e ≢ f → e ≢ h → f ≢ h → ⊥
few-at g x [] w d z e f h me mf mh ie if ih ef eh fh = true≢false (sym me)
few-at g x (k ∷ es) w d z e f h me mf mh ie if ih ef eh fh = elim (cases_eq z x) [
  | inl q ↦ ef (start-one g x (k ∷ es) w d e f me mf (subst (λ v. is_end g v e ≡ true) q ie) (subst (λ v. is_end g v f ≡ true) q if))
  | inr n ↦ elim (member-cases e k es me) [
    | inl a ↦ fh (two f h (later f mf (λ b. ef (sym a ∙ b))) (later h mh (λ b. eh (sym a ∙ b))) if ih (next n (subst (λ j. is_end g z j ≡ true) (sym a) ie)))
    | inr a ↦ elim (member-cases f k es mf) [
      | inl b ↦ eh (two e h a (later h mh (λ c. fh (sym b ∙ c))) ie ih (next n (subst (λ j. is_end g z j ≡ true) (sym b) if)))
      | inr b ↦ elim (member-cases h k es mh) [
        | inl c ↦ ef (two e f a b ie if (next n (subst (λ j. is_end g z j ≡ true) (sym c) ih)))
        | inr c ↦ few-at g y es w.1 rest z e f h a b c ie if ih ef eh fh
      ]
    ]
  ]
]
  where
    y : ℕ
    y = other_end g k x

    rest : is_distinct (walk_vertices g y es) ≡ true
    rest = distinct-tail x (walk_vertices g y es) d

    later : (e : ℕ) → is_member e (k ∷ es) ≡ true → (k ≡ e → ⊥) → is_member e es ≡ true
    later e m n = elim (member-cases e k es m) [ inl q ↦ absurd (n q) | inr i ↦ i ]

    next : z ≢ x → is_end g z k ≡ true → y ≡ z
    next n i = elim (end-cases g k x z w.0.1 i) [ inl q ↦ absurd (n q) | inr q ↦ sym q ]

    two : (e f : ℕ) → is_member e es ≡ true → is_member f es ≡ true → is_end g z e ≡ true → is_end g z f ≡ true → y ≡ z → e ≡ f
    two e f m n i j q = start-one g y es w.1 rest e f m n (subst (λ v. is_end g v e ≡ true) (sym q) i) (subst (λ v. is_end g v f ≡ true) (sym q) j)

-- a vertex inside a walk is one where an edge is entered
inside-start : (g : Multigraph) (x : ℕ) (es : List ℕ) (z : ℕ) → is_member z (inner_vertices g x es) ≡ true → is_member z (walk_starts g x es) ≡ true
inside-start g x [] z m = m
inside-start g x (e ∷ es) z m = member-tail z x (walk_starts g (other_end g e x) es) m

-- and a vertex of the graph
starts-in : (g : Multigraph) → IsGraph g → (x : ℕ) (es : List ℕ) → IsWalk g x es → (z : ℕ) → is_member z (walk_starts g x es) ≡ true → z < g.vertex_count
starts-in g ok x [] w z m = absurd (true≢false (sym m))
starts-in g ok x (e ∷ es) w z m = elim (member-cases z x (walk_starts g (other_end g e x) es) m) [
  | inl q ↦ subst (λ v. v < g.vertex_count) q (end-in g ok e x w.0.0 w.0.1)
  | inr i ↦ starts-in g ok (other_end g e x) es w.1 z i
]

-- a list without members is empty
no-member : (xs : List ℕ) → ((z : ℕ) → is_member z xs ≡ true → ⊥) → xs ≡ []
no-member [] n = refl
no-member (x ∷ xs) n = absurd (n x (member-head x xs))

module _ (g : Multigraph) (ok : IsGraph g) (tri : IsTriconnected g) (kind : Pattern) (branch : List ℕ) (paths : List (List ℕ)) (s : IsSubdivision g kind branch paths)
    (all : (e : ℕ) → e < edge_count g → is_member e (all_edges paths) ≡ true) where
  -- a vertex inside path k, at an edge of path j
  same-path : (k z e : ℕ) → k < pair_count kind → is_member z (inside g ok kind branch paths s k) ≡ true → e < edge_count g → is_end g z e ≡ true → is_member e (path_at paths k) ≡ true
  same-path k z e l m b i =
      let w = kept-path g ok kind branch paths s e (all e b) in
      elim (path-sides g ok kind branch paths s w.0 z w.1 (path-ends g ok kind branch paths s w.0 e z w.1 w.2 i)) [
        | inl y ↦ subst (λ j. is_member e (path_at paths j) ≡ true) (inside-once g ok kind branch paths s w.0 k z w.1 l y m) w.2
        | inr q ↦ absurd (inside-no_branch g ok kind branch paths s k z (way_start kind q.0) l m (way-begins kind q.0 q.1) q.3)
      ]

  -- a vertex inside a path is a vertex
  inside-in : (k z : ℕ) → k < pair_count kind → is_member z (inside g ok kind branch paths s k) ≡ true → z < g.vertex_count
  inside-in k z l m = starts-in g ok (path_from g ok kind branch paths s k) (path_at paths k) (s.are_paths k l).walk z (inside-start g (path_from g ok kind branch paths s k) (path_at paths k) z m)

  none-inside : (k z : ℕ) → k < pair_count kind → is_member z (inside g ok kind branch paths s k) ≡ true → ⊥
  none-inside k z l m =
      let n = three_neighbours g ok tri z (inside-in k z l m) in
      let p = s.are_paths k l in
      few-at g (path_from g ok kind branch paths s k) (path_at paths k) p.walk p.vertices z n.first n.second n.third
      (same-path k z n.first l m n.first_edge n.first_end) (same-path k z n.second l m n.second_edge n.second_end) (same-path k z n.third l m n.third_edge n.third_end)
      n.first_end n.second_end n.third_end (λ q. n.first_second (ap (λ e. other_end g e z) q)) (λ q. n.first_third (ap (λ e. other_end g e z) q)) (λ q. n.second_third (ap (λ e. other_end g e z) q))

  -- a path has an edge
  path-some : (k : ℕ) → k < pair_count kind → 1 ≤ length (path_at paths k)
  path-some k l = walk-some g (path_from g ok kind branch paths s k) (path_at paths k) (branch_at branch (pair_at kind k).1) (s.are_paths k l).arrives
      (ends-differ kind branch s.branches (distinct-append_left branch (all_inner g branch (pattern_edges kind) paths) s.apart) k l)

  -- each path is one edge
  pub path-one : (k : ℕ) → k < pair_count kind → length (path_at paths k) ≡ 1
  path-one k l =
      let none : inside g ok kind branch paths s k ≡ [] = no-member (inside g ok kind branch paths s k) (λ z m. none-inside k z l m) in
      omega (arith, inner-length g (path_from g ok kind branch paths s k) (path_at paths k) (path-some k l), ap (λ (x : List ℕ). length x) none)

  -- each vertex is a branch vertex
  pub vertex-branch : (v : ℕ) → v < g.vertex_count → (i : ℕ) × (i < branch_count kind) × (branch_at branch i ≡ v)
  vertex-branch v l =
      let n = three_neighbours g ok tri v l in
      let w = kept-path g ok kind branch paths s n.first (all n.first n.first_edge) in
      elim (path-sides g ok kind branch paths s w.0 v w.1 (path-ends g ok kind branch paths s w.0 n.first v w.1 w.2 n.first_end)) [
        | inl y ↦ absurd (none-inside w.0 v w.1 y)
        | inr q ↦ (way_start kind q.0, way-begins kind q.0 q.1, q.3)
      ]
