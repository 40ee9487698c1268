-- K5 and K3,3 read off: the vertices that no edge joins with the first one, the others, and an edge for each pair.
use Rattle.std.proofs.Common.{◌≡◌, ◌≢◌, ℕ, zero, suc, ◌+◌, ◌-◌, ◌<◌, ◌≤◌, ◌⊎◌, inl, inr, Bool, true, false, not, ◌==◌, ◌&&◌, ◌||◌, List, [], ◌∷◌, ◌++◌, length, filter, take, drop, get_or, refl, sym, ap, ◌∙◌, subst, arith, eq-eqb, append-nil}
use Rattle.std.proofs.lemmas.Bool.{cases_eq, cases_lt, both_ways, leb-true, not-false, and_parts, and_from, or_cases, or_left, or_right, ne_eqb, not-true, not_from_false, false_from_ne_true}
use Rattle.std.proofs.Math.Dec.{leb}
use Rattle.std.proofs.lemmas.List.{get_or-take, get_or-drop, take-append-drop, length-take, length-drop, get_or_default}
use Rattle.permutations.specs.Count.{some}
use Rattle.permutations.specs.Members.{is_distinct}
use Rattle.permutations.proofs.Members.{distinct-append_left}
use Rattle.permutations.proofs.Search.{some-from, some-witness, some-none}
use Rattle.multigraph.specs.Graph.{Multigraph, IsGraph, edge_count, is_end, is_edge_at, other_end, numbers_below}
use Rattle.multigraph.specs.Part.{Rises}
use Rattle.multigraph.proofs.Below.{filter_below-at, filter_below-has, filter_below-rises}
use Rattle.multigraph.proofs.OtherEnd.{other_end-is_end, edge_at-parts, edge_at-from}
use Rattle.graph_theory.specs.Path.{IsPath}
use Rattle.graph_theory.proofs.Ends.{end-cases, other-differs}
use Rattle.graph_theory.proofs.Rising.{HasAll, rises-same}
use Rattle.graph_theory.proofs.Paths.{path-none, path-cons}
use Rattle.permutations.proofs.Members.{no_member-cons}
use Rattle.kuratowski.specs.Subdivision.{branch_count, pattern_edges, pair_at, branch_at, path_at, inner_vertices, all_inner, IsSubdivision, IsWritten, IsWrittenOrder}
use Rattle.kuratowski.specs.declared.subdivision.Pattern.{Pattern}
use Rattle.kuratowski.specs.declared.subdivision.Pattern.TheVariants.{K5, K33}
use Rattle.kuratowski.proofs.Checked.{pair-rises}
use Rattle.kuratowski.proofs.Meetings.{ends-differ}
use Rattle.planarity.proofs.SubdivisionWays.{branch-once}
use Rattle.minimal_graphs.specs.Whole.{joins, are_joined, is_far, first_side, IsWhole, AreEdges}

-- a list of one number
pub one-number : (l : List ℕ) → length l ≡ 1 → (x : ℕ) × (l ≡ x ∷ [])
one-number [] n = absurd (omega arith)
one-number (x ∷ []) n = (x, refl)
one-number (x ∷ y ∷ l) n = absurd (omega arith)

-- the pattern joins its first vertex with those of the other side
first-pair : (kind : Pattern) (i : ℕ) → first_side kind ≤ i → i < branch_count kind → (k : ℕ) × (k < length (pattern_edges kind)) × (pair_at kind k ≡ (0, i))
first-pair K5 zero l m = absurd (omega arith)
first-pair K5 (suc zero) l m = (0, omega arith, refl)
first-pair K5 (suc (suc zero)) l m = (1, omega arith, refl)
first-pair K5 (suc (suc (suc zero))) l m = (2, omega arith, refl)
first-pair K5 (suc (suc (suc (suc zero)))) l m = (3, omega arith, refl)
first-pair K5 (suc (suc (suc (suc (suc i))))) l m = absurd (omega arith)
first-pair K33 zero l m = absurd (omega arith)
first-pair K33 (suc zero) l m = absurd (omega arith)
first-pair K33 (suc (suc zero)) l m = absurd (omega arith)
first-pair K33 (suc (suc (suc zero))) l m = (0, omega arith, refl)
first-pair K33 (suc (suc (suc (suc zero)))) l m = (1, omega arith, refl)
first-pair K33 (suc (suc (suc (suc (suc zero))))) l m = (2, omega arith, refl)
first-pair K33 (suc (suc (suc (suc (suc (suc i)))))) l m = absurd (omega arith)

-- a pair of the pattern is of vertices of it, and only of its first one and another side
abbrev is-sound : Pattern → ℕ → Bool
is-sound kind k = not ((pair_at kind k).1 == 0) && (not ((pair_at kind k).0 == 0) || leb (first_side kind) (pair_at kind k).1)

all-sound : (kind : Pattern) → some (length (pattern_edges kind)) (λ k. not (is-sound kind k)) ≡ false
all-sound K5 = refl
all-sound K33 = refl

-- its second vertex is not the first one of the pattern; where the first is, the second is of the other side
pair-sound : (kind : Pattern) (k : ℕ) → k < length (pattern_edges kind) → ((pair_at kind k).1 ≢ 0) × ((pair_at kind k).0 ≡ 0 → first_side kind ≤ (pair_at kind k).1)
pair-sound kind k l =
    let t : is-sound kind k ≡ true = not-false (is-sound kind k) (some-none (length (pattern_edges kind)) (λ j. not (is-sound kind j)) (all-sound kind) k l) in
    let a = and_parts (not ((pair_at kind k).1 == 0)) (not ((pair_at kind k).0 == 0) || leb (first_side kind) (pair_at kind k).1) t in (
      (λ q. both_ways ((pair_at kind k).1 == 0) (not-true ((pair_at kind k).1 == 0) a.0) (eq-eqb (pair_at kind k).1 0 q)),
      (λ q. elim (or_cases (not ((pair_at kind k).0 == 0)) (leb (first_side kind) (pair_at kind k).1) a.1) [
        | inl n ↦ absurd (both_ways ((pair_at kind k).0 == 0) (not-true ((pair_at kind k).0 == 0) n) (eq-eqb (pair_at kind k).0 0 q))
        | inr y ↦ leb-true (first_side kind) (pair_at kind k).1 y
      ]),
    )

-- the order of the branch vertices on either side
first-order : (kind : Pattern) (branch : List ℕ) → IsWrittenOrder kind branch → (i j : ℕ) → i < j → j < first_side kind → branch_at branch i < branch_at branch j
first-order K5 branch o i j l m = absurd (omega (arith, l, m))
first-order K33 branch o zero zero l m = absurd (omega arith)
first-order K33 branch o zero (suc zero) l m = o.0
first-order K33 branch o zero (suc (suc zero)) l m = omega (arith, o.0, o.1)
first-order K33 branch o (suc zero) (suc zero) l m = absurd (omega arith)
first-order K33 branch o (suc zero) zero l m = absurd (omega arith)
first-order K33 branch o (suc zero) (suc (suc zero)) l m = o.1
first-order K33 branch o i (suc (suc (suc j))) l m = absurd (omega arith)
first-order K33 branch o (suc (suc i)) j l m = absurd (omega (arith, l, m))

second-order : (kind : Pattern) (branch : List ℕ) → IsWrittenOrder kind branch → (i j : ℕ) → i < j → first_side kind + j < branch_count kind → branch_at branch (first_side kind + i) < branch_at branch (first_side kind + j)
second-order K5 branch o zero zero l m = absurd (omega arith)
second-order K5 branch o zero (suc zero) l m = o 1 (omega arith)
second-order K5 branch o zero (suc (suc zero)) l m = omega (arith, o 1 (omega arith), o 2 (omega arith))
second-order K5 branch o zero (suc (suc (suc zero))) l m = omega (arith, o 1 (omega arith), o 2 (omega arith), o 3 (omega arith))
second-order K5 branch o (suc zero) (suc (suc zero)) l m = o 2 (omega arith)
second-order K5 branch o (suc zero) (suc (suc (suc zero))) l m = omega (arith, o 2 (omega arith), o 3 (omega arith))
second-order K5 branch o (suc (suc zero)) (suc (suc (suc zero))) l m = o 3 (omega arith)
second-order K5 branch o (suc zero) zero l m = absurd (omega arith)
second-order K5 branch o (suc zero) (suc zero) l m = absurd (omega arith)
second-order K5 branch o (suc (suc zero)) zero l m = absurd (omega arith)
second-order K5 branch o (suc (suc zero)) (suc zero) l m = absurd (omega arith)
second-order K5 branch o (suc (suc zero)) (suc (suc zero)) l m = absurd (omega arith)
second-order K5 branch o (suc (suc (suc i))) j l m = absurd (omega (arith, l, m))
second-order K5 branch o i (suc (suc (suc (suc j)))) l m = absurd (omega arith)
second-order K33 branch o zero zero l m = absurd (omega arith)
second-order K33 branch o zero (suc zero) l m = o.2
second-order K33 branch o zero (suc (suc zero)) l m = omega (arith, o.2, o.3)
second-order K33 branch o (suc zero) zero l m = absurd (omega arith)
second-order K33 branch o (suc zero) (suc zero) l m = absurd (omega arith)
second-order K33 branch o (suc zero) (suc (suc zero)) l m = o.3
second-order K33 branch o (suc (suc i)) j l m = absurd (omega (arith, l, m))
second-order K33 branch o i (suc (suc (suc j))) l m = absurd (omega arith)

-- the first branch vertex is the least
least-first : (kind : Pattern) (branch : List ℕ) → IsWrittenOrder kind branch → (i : ℕ) → i < branch_count kind → branch_at branch 0 ≤ branch_at branch i
least-first K5 branch o zero l = omega arith
least-first K5 branch o (suc zero) l = omega (arith, o 0 (omega arith))
least-first K5 branch o (suc (suc zero)) l = omega (arith, o 0 (omega arith), o 1 (omega arith))
least-first K5 branch o (suc (suc (suc zero))) l = omega (arith, o 0 (omega arith), o 1 (omega arith), o 2 (omega arith))
least-first K5 branch o (suc (suc (suc (suc zero)))) l = omega (arith, o 0 (omega arith), o 1 (omega arith), o 2 (omega arith), o 3 (omega arith))
least-first K5 branch o (suc (suc (suc (suc (suc i))))) l = absurd (omega arith)
least-first K33 branch o zero l = omega arith
least-first K33 branch o (suc zero) l = omega (arith, o.0)
least-first K33 branch o (suc (suc zero)) l = omega (arith, o.0, o.1)
least-first K33 branch o (suc (suc (suc zero))) l = omega (arith, o.4)
least-first K33 branch o (suc (suc (suc (suc zero)))) l = omega (arith, o.4, o.2)
least-first K33 branch o (suc (suc (suc (suc (suc zero))))) l = omega (arith, o.4, o.2, o.3)
least-first K33 branch o (suc (suc (suc (suc (suc (suc i)))))) l = absurd (omega arith)

-- the first side is a part of the branch vertices
side-few : (kind : Pattern) → (0 < first_side kind) × (first_side kind < branch_count kind)
side-few K5 = (omega arith, omega arith)
side-few K33 = (omega arith, omega arith)

module _ (g : Multigraph) (ok : IsGraph g) (kind : Pattern) (branch : List ℕ) (paths : List (List ℕ)) (w : IsWhole g kind branch paths) where
  abbrev s : IsSubdivision g kind branch paths
  s = w.written.subdivision

  -- the branch vertices that path k joins
  abbrev from : ℕ → ℕ
  from k = branch_at branch (pair_at kind k).0

  abbrev to : ℕ → ℕ
  to k = branch_at branch (pair_at kind k).1

  -- path k is an edge between them
  single-edge : (k : ℕ) → k < length (pattern_edges kind) → (e : ℕ) × (path_at paths k ≡ e ∷ []) × (e < edge_count g) × (is_end g (from k) e ≡ true) × (other_end g e (from k) ≡ to k)
  single-edge k l =
      let x = one-number (path_at paths k) (w.single k l) in
      let p : IsPath g (from k) (x.0 ∷ []) (to k) = subst (λ (es : List ℕ). IsPath g (from k) es (to k)) x.1 (s.are_paths k l) in
      (x.0, x.1, p.walk.0.0, p.walk.0.1, p.arrives)

  -- so an edge joins them
  pub pair-joined : (k : ℕ) → k < length (pattern_edges kind) → are_joined g (from k) (to k) ≡ true
  pair-joined k l =
      let e = single-edge k l in
      some-from (edge_count g) (joins g (from k) (to k)) e.0 e.2
      (and_from (is_edge_at g (from k) e.0) (is_edge_at g (to k) e.0) (edge_at-from g (from k) e.0 e.2 e.3) (edge_at-from g (to k) e.0 e.2 (subst (λ z. is_end g z e.0 ≡ true) e.4 (other_end-is_end g e.0 (from k)))))

  -- the ends of an edge are the branch vertices that a path joins
  edge-pair : (e : ℕ) → e < edge_count g → (k : ℕ) × (k < length (pattern_edges kind)) × ((z : ℕ) → is_end g z e ≡ true → (z ≡ from k) ⊎ (z ≡ to k))
  edge-pair e l =
      let k = w.edges e l in
      let f = single-edge k.0 k.1 in
      let q : f.0 ≡ e = ap (λ (es : List ℕ). get_or es 0 0) (sym f.1 ∙ k.2) in
      (k.0, k.1, λ z i. elim (end-cases g f.0 (from k.0) z f.3 (subst (λ y. is_end g z y ≡ true) (sym q) i)) [ inl a ↦ inl a | inr a ↦ inr (a ∙ f.4) ])

  -- the first branch vertex is the vertex 0
  first-zero : 0 < g.vertex_count → branch_at branch 0 ≡ 0
  first-zero l = let i = w.vertices 0 l in omega (arith, i.2, least-first kind branch w.written.order i.0 i.1)

  module _ (some_vertex : 0 < g.vertex_count) where
    -- a branch vertex of the other side is joined with it
    other-joined : (i : ℕ) → first_side kind ≤ i → i < branch_count kind → is_far g (branch_at branch i) ≡ false
    other-joined i l m =
        let k = first-pair kind i l m in
        let j : are_joined g 0 (branch_at branch i) ≡ true = subst (λ z. are_joined g z (branch_at branch i) ≡ true) (first-zero some_vertex) (subst (λ (q : ℕ × ℕ). are_joined g (branch_at branch q.0) (branch_at branch q.1) ≡ true) k.2 (pair-joined k.0 k.1)) in
        let n : (branch_at branch i == 0) ≡ false = ne_eqb (branch_at branch i) 0 (λ q. omega (arith, l, side-few kind, branch-once g ok kind branch paths s i 0 m (omega (arith, side-few kind)) (q ∙ sym (first-zero some_vertex)))) in
        rw (n, j) refl

    -- one of its own side is not
    same-apart : (i : ℕ) → i < first_side kind → is_far g (branch_at branch i) ≡ true
    same-apart i l = elim (cases_eq i 0) [
      | inl q ↦ or_left (branch_at branch i == 0) (not (are_joined g 0 (branch_at branch i))) (eq-eqb (branch_at branch i) 0 (ap (branch_at branch) q ∙ first-zero some_vertex))
      | inr n ↦ or_right (branch_at branch i == 0) (not (are_joined g 0 (branch_at branch i))) (not_from_false (are_joined g 0 (branch_at branch i)) (false_from_ne_true (are_joined g 0 (branch_at branch i)) (λ t. apart n (some-witness (edge_count g) (joins g 0 (branch_at branch i)) t))))
    ]
      where
        apart : i ≢ 0 → (e : ℕ) × (e < edge_count g) × (joins g 0 (branch_at branch i) e ≡ true) → ⊥
        apart n e =
            let k = edge-pair e.0 e.1 in
            let p = and_parts (is_edge_at g 0 e.0) (is_edge_at g (branch_at branch i) e.0) e.2 in
            let pairs = pair-sound kind k.0 k.1 in
            let ends = pair-rises kind k.0 k.1 in
            let m : i < branch_count kind = omega (arith, l, side-few kind) in
            let f : (pair_at kind k.0).0 < branch_count kind = omega (arith, ends.0, ends.1) in
            let zero_first : 0 ≡ from k.0 → (pair_at kind k.0).0 ≡ 0 = λ q. branch-once g ok kind branch paths s (pair_at kind k.0).0 0 f (omega (arith, m)) (sym q ∙ sym (first-zero some_vertex)) in
            let zero_second : 0 ≡ to k.0 → ⊥ = λ q. pairs.0 (branch-once g ok kind branch paths s (pair_at kind k.0).1 0 ends.1 (omega (arith, m)) (sym q ∙ sym (first-zero some_vertex))) in
            elim (k.2 0 (edge_at-parts g 0 e.0 p.0).1) [
              | inr q ↦ zero_second q
              | inl q ↦ elim (k.2 (branch_at branch i) (edge_at-parts g (branch_at branch i) e.0 p.1).1) [
                | inl a ↦ n (branch-once g ok kind branch paths s i 0 m (omega (arith, m)) (a ∙ sym q ∙ sym (first-zero some_vertex)))
                | inr a ↦ let j : i ≡ (pair_at kind k.0).1 = branch-once g ok kind branch paths s i (pair_at kind k.0).1 m ends.1 a in
                    omega (arith, l, j, pairs.1 (zero_first q))
              ]
            ]

    -- a vertex with its number among the branch vertices
    branch-below : (i : ℕ) → i < branch_count kind → branch_at branch i < g.vertex_count
    branch-below = s.branch_in

    -- the vertices that are not joined with the vertex 0
    pub first-side : filter (is_far g) (numbers_below g.vertex_count) ≡ take (first_side kind) branch
    first-side = rises-same (filter (is_far g) (numbers_below g.vertex_count)) (take (first_side kind) branch) (λ i j l m. filter_below-rises (is_far g) g.vertex_count i j 0 l m) rise there back
      where
        long : length (take (first_side kind) branch) ≡ first_side kind
        long = omega (arith, length-take (first_side kind) branch, s.branches, side-few kind)

        at : (i : ℕ) → i < first_side kind → get_or (take (first_side kind) branch) i 0 ≡ branch_at branch i
        at i l = get_or-take (first_side kind) branch i 0 l

        rise : Rises (take (first_side kind) branch)
        rise i j l m = let k : j < first_side kind = omega (arith, m, long) in omega (arith, at i (omega (arith, l, k)), at j k, first-order kind branch w.written.order i j l k)

        there : HasAll (filter (is_far g) (numbers_below g.vertex_count)) (take (first_side kind) branch)
        there i l =
            let x = get_or (filter (is_far g) (numbers_below g.vertex_count)) i 0 in
            let b = filter_below-at (is_far g) g.vertex_count i 0 l in
            let v = w.vertices x b.0 in
            elim (cases_lt v.0 (first_side kind)) [
              | inl o ↦ (v.0, omega (arith, o, long), at v.0 o ∙ v.2)
              | inr o ↦ absurd (both_ways (is_far g x) (subst (λ z. is_far g z ≡ false) v.2 (other-joined v.0 o v.1)) b.1)
            ]

        back : HasAll (take (first_side kind) branch) (filter (is_far g) (numbers_below g.vertex_count))
        back i l =
            let k : i < first_side kind = omega (arith, l, long) in
            let c = filter_below-has (is_far g) g.vertex_count (branch_at branch i) (branch-below i (omega (arith, k, side-few kind))) (same-apart i k) in
            (c.0, c.1, get_or_default (filter (is_far g) (numbers_below g.vertex_count)) c.0 0 (branch_at branch i) c.1 ∙ c.2 ∙ sym (at i k))

    -- the others
    pub other-side : filter (λ v. not (is_far g v)) (numbers_below g.vertex_count) ≡ drop (first_side kind) branch
    other-side = rises-same (filter (λ v. not (is_far g v)) (numbers_below g.vertex_count)) (drop (first_side kind) branch) (λ i j l m. filter_below-rises (λ v. not (is_far g v)) g.vertex_count i j 0 l m) rise there back
      where
        long : first_side kind + length (drop (first_side kind) branch) ≡ branch_count kind
        long = omega (arith, length-drop (first_side kind) branch, s.branches, side-few kind)

        at : (i : ℕ) → get_or (drop (first_side kind) branch) i 0 ≡ branch_at branch (first_side kind + i)
        at i = get_or-drop (first_side kind) branch i 0

        rise : Rises (drop (first_side kind) branch)
        rise i j l m = omega (arith, at i, at j, second-order kind branch w.written.order i j l (omega (arith, m, long)))

        there : HasAll (filter (λ v. not (is_far g v)) (numbers_below g.vertex_count)) (drop (first_side kind) branch)
        there i l =
            let x = get_or (filter (λ v. not (is_far g v)) (numbers_below g.vertex_count)) i 0 in
            let b = filter_below-at (λ v. not (is_far g v)) g.vertex_count i 0 l in
            let v = w.vertices x b.0 in
            elim (cases_lt v.0 (first_side kind)) [
              | inl o ↦ absurd (both_ways (is_far g x) (not-true (is_far g x) b.1) (subst (λ z. is_far g z ≡ true) v.2 (same-apart v.0 o)))
              | inr o ↦ let d : first_side kind + (v.0 - first_side kind) ≡ v.0 = omega (arith, o) in
                  (v.0 - first_side kind, omega (arith, d, v.1, long), at (v.0 - first_side kind) ∙ ap (branch_at branch) d ∙ v.2)
            ]

        back : HasAll (drop (first_side kind) branch) (filter (λ v. not (is_far g v)) (numbers_below g.vertex_count))
        back i l =
            let k : first_side kind + i < branch_count kind = omega (arith, l, long) in
            let x = branch_at branch (first_side kind + i) in
            let c = filter_below-has (λ v. not (is_far g v)) g.vertex_count x (branch-below (first_side kind + i) k) (not_from_false (is_far g x) (other-joined (first_side kind + i) (omega arith) k)) in
            (c.0, c.1, get_or_default (filter (λ v. not (is_far g v)) (numbers_below g.vertex_count)) c.0 0 x c.1 ∙ c.2 ∙ sym (at i))

    -- both lists, one after the other
    pub sides-branch : filter (is_far g) (numbers_below g.vertex_count) ++ filter (λ v. not (is_far g v)) (numbers_below g.vertex_count) ≡ branch
    sides-branch = ap (λ (l : List ℕ). l ++ filter (λ v. not (is_far g v)) (numbers_below g.vertex_count)) first-side ∙ ap (λ (l : List ℕ). take (first_side kind) branch ++ l) other-side ∙ take-append-drop (first_side kind) branch

    -- the first is as long as the side of the pattern
    pub first-long : length (filter (is_far g) (numbers_below g.vertex_count)) ≡ first_side kind
    first-long = omega (arith, ap (λ (l : List ℕ). length l) first-side, length-take (first_side kind) branch, s.branches, side-few kind)

-- paths of one edge have no vertex inside
none-inside : (g : Multigraph) (branch : List ℕ) (pairs : List (ℕ × ℕ)) (paths : List (List ℕ)) → ((k : ℕ) → k < length paths → length (path_at paths k) ≡ 1) → all_inner g branch pairs paths ≡ []
none-inside g branch [] paths one = refl
none-inside g branch (pair ∷ pairs) [] one = refl
none-inside g branch (pair ∷ pairs) (path ∷ paths) one =
    let x = one-number path (one 0 (omega arith)) in
    ap (λ (l : List ℕ). inner_vertices g (branch_at branch pair.0) l ++ all_inner g branch pairs paths) x.1 ∙ none-inside g branch pairs paths (λ k l. one (suc k) (omega arith))

-- edges between the branch vertices of a subdivision are one too
pub edges-written : (g : Multigraph) → IsGraph g → (kind : Pattern) (branch : List ℕ) (paths edges : List (List ℕ)) → IsWritten g kind branch paths → AreEdges g kind branch edges → IsWritten g kind branch edges
edges-written g ok kind branch paths edges w a = record {
  subdivision = record {
    branches = w.subdivision.branches;
    branch_in = w.subdivision.branch_in;
    one_each = a.one_each;
    are_paths = path;
    apart = subst (λ (l : List ℕ). is_distinct (branch ++ l) ≡ true) (sym (none-inside g branch (pattern_edges kind) edges (λ k l. let e = a.edges k (omega (arith, l, a.one_each)) in ap (λ (x : List ℕ). length x) e.3)))
        (subst (λ (l : List ℕ). is_distinct l ≡ true) (sym (append-nil branch)) apart);
  };
  order = w.order;
}
  where
    apart : is_distinct branch ≡ true
    apart = distinct-append_left branch (all_inner g branch (pattern_edges kind) paths) w.subdivision.apart

    path : (k : ℕ) → k < length (pattern_edges kind) → IsPath g (branch_at branch (pair_at kind k).0) (path_at edges k) (branch_at branch (pair_at kind k).1)
    path k l =
        let e = a.edges k l in
        let x = branch_at branch (pair_at kind k).0 in
        let y = branch_at branch (pair_at kind k).1 in
        let p = and_parts (is_edge_at g x e.0) (is_edge_at g y e.0) e.2 in
        let i : is_end g x e.0 ≡ true = (edge_at-parts g x e.0 p.0).1 in
        let j : is_end g y e.0 ≡ true = (edge_at-parts g y e.0 p.1).1 in
        let n : x ≢ y = ends-differ kind branch w.subdivision.branches apart k l in
        let o : other_end g e.0 x ≡ y = elim (end-cases g e.0 x y i j) [ inl q ↦ absurd (n (sym q)) | inr q ↦ sym q ] in
        subst (λ (es : List ℕ). IsPath g x es y) (sym e.3) (subst (λ z. IsPath g x (e.0 ∷ []) z) o
        (path-cons g x e.0 [] (other_end g e.0 x) e.1 i (path-none g (other_end g e.0 x)) (no_member-cons x (other_end g e.0 x) [] (other-differs g ok e.0 x e.1 i) refl)))
