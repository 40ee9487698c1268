-- What the check asks is what a subdivision in its written form is.
use Rattle.std.proofs.Common.{◌≡◌, ℕ, zero, suc, ◌<◌, ◌⊎◌, ◌↔◌, inl, inr, Bool, true, ◌&&◌, ltb, List, [], ◌∷◌, ◌++◌, length, get_or, refl, sym, ◌∙◌, subst, arith}
use Rattle.std.proofs.lemmas.Bool.{and_parts, and_from, ltb-true, lt-ltb, true≢false}
use Rattle.permutations.specs.Members.{is_member, is_distinct}
use Rattle.permutations.proofs.Members.{member-cases, member-append_cases, distinct-append_left}
use Rattle.permutations.proofs.Arrangements.{member-at}
use Rattle.permutations.proofs.Places.{places-differ}
use Rattle.multigraph.specs.Graph.{Multigraph, IsGraph, other_end}
use Rattle.multigraph.proofs.OtherEnd.{other_end-in}
use Rattle.graph_theory.specs.Path.{walk_starts, IsWalk}
use Rattle.kuratowski.specs.declared.subdivision.Pattern.{Pattern}
use Rattle.kuratowski.specs.declared.subdivision.Pattern.TheVariants.{K5, K33}
use Rattle.kuratowski.specs.Subdivision.{branch_count, pattern_edges, branch_at, pair_at, inner_vertices, all_inner, IsSubdivision, IsWrittenOrder, IsWritten}
use Rattle.kuratowski.specs.Checking.{is_in_order, is_less, no_marks, marked_also, are_free, are_free_paths}
use Rattle.kuratowski.proofs.Marks.{taken-among, free-append, free-each, free-distinct, free-from, taken-at_first, taken-vertex}
use Rattle.kuratowski.proofs.FreePaths.{HaveEnds, AreJoined, free_paths-free, free_paths-joined, free_paths-from}

-- whether of each pair the first is less than the second and the second less than n
all_rise : ℕ → List (ℕ × ℕ) → Bool
all_rise n [] = true
all_rise n (pair ∷ pairs) = (ltb pair.0 pair.1 && ltb pair.1 n) && all_rise n pairs

-- where each pair passes, the one at each place does
rise-at : (n : ℕ) (pairs : List (ℕ × ℕ)) → all_rise n pairs ≡ true → (k : ℕ) → k < length pairs → ((get_or pairs k (0, 0)).0 < (get_or pairs k (0, 0)).1) × ((get_or pairs k (0, 0)).1 < n)
unfolding all_rise
rise-at n [] h k l = absurd (omega arith)
rise-at n (pair ∷ pairs) h zero l =
    let p = and_parts (ltb pair.0 pair.1) (ltb pair.1 n) (and_parts (ltb pair.0 pair.1 && ltb pair.1 n) (all_rise n pairs) h).0 in
    (ltb-true pair.0 pair.1 p.0, ltb-true pair.1 n p.1)
rise-at n (pair ∷ pairs) h (suc k) l = rise-at n pairs (and_parts (ltb pair.0 pair.1 && ltb pair.1 n) (all_rise n pairs) h).1 k (omega arith)

-- an edge of the pattern joins two different of its vertices, the lesser first
pub pair-rises : (kind : Pattern) (k : ℕ) → k < length (pattern_edges kind) → ((pair_at kind k).0 < (pair_at kind k).1) × ((pair_at kind k).1 < branch_count kind)
unfolding all_rise
pair-rises K5 k l = rise-at 5 (pattern_edges K5) refl k l
pair-rises K33 k l = rise-at 6 (pattern_edges K33) refl k l

-- four tests that hold
four : (a b c d : Bool) → (a && b && c && d) ≡ true → (a ≡ true) × (b ≡ true) × (c ≡ true) × (d ≡ true)
four a b c d h =
    let p = and_parts (a && b && c) d h in
    let q = and_parts (a && b) c p.0 in
    let r = and_parts a b q.0 in
    (r.0, r.1, q.1, p.1)

-- one branch vertex is less than another where the test says so
less : (branch : List ℕ) (i k : ℕ) → is_less branch i k ≡ true → branch_at branch i < branch_at branch k
less branch i k h = ltb-true (branch_at branch i) (branch_at branch k) h

-- the test says so where it is less
less-test : (branch : List ℕ) (i k : ℕ) → branch_at branch i < branch_at branch k → is_less branch i k ≡ true
less-test branch i k h = lt-ltb (branch_at branch i) (branch_at branch k) h

-- where the test of the order holds, the branch vertices are in their written order
order-holds : (kind : Pattern) (branch : List ℕ) → is_in_order kind branch ≡ true → IsWrittenOrder kind branch
order-holds K5 branch h = each
  where
    parts : (is_less branch 0 1 ≡ true) × (is_less branch 1 2 ≡ true) × (is_less branch 2 3 ≡ true) × (is_less branch 3 4 ≡ true)
    parts = four (is_less branch 0 1) (is_less branch 1 2) (is_less branch 2 3) (is_less branch 3 4) h

    each : (i : ℕ) → i < 4 → branch_at branch i < branch_at branch (suc i)
    each zero l = less branch 0 1 parts.0
    each (suc zero) l = less branch 1 2 parts.1
    each (suc (suc zero)) l = less branch 2 3 parts.2
    each (suc (suc (suc zero))) l = less branch 3 4 parts.3
    each (suc (suc (suc (suc i)))) l = absurd (omega arith)
order-holds K33 branch h =
    let p = and_parts (is_less branch 0 1 && is_less branch 1 2 && is_less branch 3 4 && is_less branch 4 5) (is_less branch 0 3) h in
    let q = four (is_less branch 0 1) (is_less branch 1 2) (is_less branch 3 4) (is_less branch 4 5) p.0 in
    (less branch 0 1 q.0, less branch 1 2 q.1, less branch 3 4 q.2, less branch 4 5 q.3, less branch 0 3 p.1)

-- where they are in their written order, the test holds
order-test : (kind : Pattern) (branch : List ℕ) → IsWrittenOrder kind branch → is_in_order kind branch ≡ true
order-test K5 branch h =
    and_from (is_less branch 0 1 && is_less branch 1 2 && is_less branch 2 3) (is_less branch 3 4)
    (and_from (is_less branch 0 1 && is_less branch 1 2) (is_less branch 2 3)
    (and_from (is_less branch 0 1) (is_less branch 1 2) (less-test branch 0 1 (h 0 (omega arith))) (less-test branch 1 2 (h 1 (omega arith))))
    (less-test branch 2 3 (h 2 (omega arith))))
    (less-test branch 3 4 (h 3 (omega arith)))
order-test K33 branch h =
    and_from (is_less branch 0 1 && is_less branch 1 2 && is_less branch 3 4 && is_less branch 4 5) (is_less branch 0 3)
    (and_from (is_less branch 0 1 && is_less branch 1 2 && is_less branch 3 4) (is_less branch 4 5)
    (and_from (is_less branch 0 1 && is_less branch 1 2) (is_less branch 3 4)
    (and_from (is_less branch 0 1) (is_less branch 1 2) (less-test branch 0 1 h.0) (less-test branch 1 2 h.1))
    (less-test branch 3 4 h.2))
    (less-test branch 4 5 h.3))
    (less-test branch 0 3 h.4)

-- the members of a list are within n where the one at each place is
members-within : (n : ℕ) (l : List ℕ) → ((i : ℕ) → i < length l → get_or l i 0 < n) → (z : ℕ) → is_member z l ≡ true → z < n
members-within n [] h z m = absurd (true≢false (sym m))
members-within n (x ∷ l) h z m = elim (member-cases z x l m) [
  | inl e ↦ subst (λ (k : ℕ). k < n) e (h 0 (omega arith))
  | inr t ↦ members-within n l (λ i w. h (suc i) (omega arith)) z t
]

-- the vertices at which the edges of a walk are entered are vertices
starts-within : (g : Multigraph) → IsGraph g → (x : ℕ) (es : List ℕ) → x < g.vertex_count → IsWalk g x es → (z : ℕ) → is_member z (walk_starts g x es) ≡ true → z < g.vertex_count
starts-within g o x [] l w z m = absurd (true≢false (sym m))
starts-within g o x (e ∷ es) l w z m = elim (member-cases z x (walk_starts g (other_end g e x) es) m) [
  | inl i ↦ subst (λ (k : ℕ). k < g.vertex_count) i l
  | inr t ↦ starts-within g o (other_end g e x) es (other_end-in g e x o w.0.0) w.1 z t
]

-- the vertices inside a walk are vertices
inner-within : (g : Multigraph) → IsGraph g → (x : ℕ) (es : List ℕ) → IsWalk g x es → (z : ℕ) → is_member z (inner_vertices g x es) ≡ true → z < g.vertex_count
inner-within g o x [] w z m = absurd (true≢false (sym m))
inner-within g o x (e ∷ es) w z m = starts-within g o (other_end g e x) es (other_end-in g e x o w.0.0) w.1 z m

-- the vertices inside paths that join the pairs are vertices
all-within : (g : Multigraph) → IsGraph g → (branch : List ℕ) (pairs : List (ℕ × ℕ)) (paths : List (List ℕ)) → AreJoined g branch pairs paths → (z : ℕ) → is_member z (all_inner g branch pairs paths) ≡ true → z < g.vertex_count
all-within g o branch [] paths j z m = absurd (true≢false (sym m))
all-within g o branch (pair ∷ pairs) [] j z m = absurd (true≢false (sym m))
all-within g o branch (pair ∷ pairs) (path ∷ paths) j z m = elim (member-append_cases z (inner_vertices g (branch_at branch pair.0) path) (all_inner g branch pairs paths) m) [
  | inl a ↦ inner-within g o (branch_at branch pair.0) path (j 0 (omega arith)).walk z a
  | inr b ↦ all-within g o branch pairs paths (λ k l. j (suc k) (omega arith)) z b
]

-- once different branch vertices are marked, the two of each pair are different and marked
branches-ends : (kind : Pattern) (m : List Bool) (branch : List ℕ) → length branch ≡ branch_count kind → is_distinct branch ≡ true → HaveEnds (marked_also m branch) branch (pattern_edges kind)
branches-ends kind m branch n d = λ k l.
    let r = pair-rises kind k l in
    let i : ℕ = (pair_at kind k).0 in
    let j : ℕ = (pair_at kind k).1 in
    let wj : j < length branch = subst (λ (c : ℕ). j < c) (sym n) r.1 in
    let wi : i < length branch = omega arith in
    (taken-among m branch (branch_at branch i) (member-at branch i 0 wi), taken-among m branch (branch_at branch j) (member-at branch j 0 wj), places-differ branch i j d r.0 wj)

-- what the tests on marks find is a subdivision
marked-subdivision : (g : Multigraph) (kind : Pattern) (branch : List ℕ) (paths : List (List ℕ)) → length branch ≡ branch_count kind → length paths ≡ length (pattern_edges kind) → are_free (no_marks g) branch ≡ true → are_free_paths g (marked_also (no_marks g) branch) branch (pattern_edges kind) paths ≡ true → IsSubdivision g kind branch paths
marked-subdivision g kind branch paths n s f p = record {
  branches = n;
  branch_in = λ i l. taken-vertex g.vertex_count (branch_at branch i) (free-each (no_marks g) branch (branch_at branch i) f (member-at branch i 0 (subst (λ (c : ℕ). i < c) (sym n) l)));
  one_each = s;
  are_paths = free_paths-joined g (marked_also (no_marks g) branch) branch (pattern_edges kind) paths (branches-ends kind (no_marks g) branch n (free-distinct (no_marks g) branch f)) p;
  apart = free-distinct (no_marks g) (branch ++ all_inner g branch (pattern_edges kind) paths)
      (free-append (no_marks g) branch (all_inner g branch (pattern_edges kind) paths)
      ∙ and_from (are_free (no_marks g) branch) (are_free (marked_also (no_marks g) branch) (all_inner g branch (pattern_edges kind) paths)) f (free_paths-free g (marked_also (no_marks g) branch) branch (pattern_edges kind) paths p));
}

-- the vertices of a subdivision have no marks at first
vertices-free : (g : Multigraph) → IsGraph g → (kind : Pattern) (branch : List ℕ) (paths : List (List ℕ)) → IsSubdivision g kind branch paths → (are_free (no_marks g) branch && are_free (marked_also (no_marks g) branch) (all_inner g branch (pattern_edges kind) paths)) ≡ true
vertices-free g o kind branch paths s =
    sym (free-append (no_marks g) branch (all_inner g branch (pattern_edges kind) paths))
    ∙ free-from (no_marks g) (branch ++ all_inner g branch (pattern_edges kind) paths) s.apart (λ z m. taken-at_first g.vertex_count z (within z (member-append_cases z branch (all_inner g branch (pattern_edges kind) paths) m)))
  where
    within : (z : ℕ) → (is_member z branch ≡ true) ⊎ (is_member z (all_inner g branch (pattern_edges kind) paths) ≡ true) → z < g.vertex_count
    within z (inl a) = members-within g.vertex_count branch (λ i l. s.branch_in i (subst (λ (c : ℕ). i < c) s.branches l)) z a
    within z (inr b) = all-within g o branch (pattern_edges kind) paths s.are_paths z b

-- the check finds each subdivision
found : (g : Multigraph) → IsGraph g → (kind : Pattern) (branch : List ℕ) (paths : List (List ℕ)) → IsSubdivision g kind branch paths → (are_free (no_marks g) branch && are_free_paths g (marked_also (no_marks g) branch) branch (pattern_edges kind) paths) ≡ true
found g o kind branch paths s =
    let p = and_parts (are_free (no_marks g) branch) (are_free (marked_also (no_marks g) branch) (all_inner g branch (pattern_edges kind) paths)) (vertices-free g o kind branch paths s) in
    and_from (are_free (no_marks g) branch) (are_free_paths g (marked_also (no_marks g) branch) branch (pattern_edges kind) paths) p.0
    (free_paths-from g (marked_also (no_marks g) branch) branch (pattern_edges kind) paths s.one_each
    (branches-ends kind (no_marks g) branch s.branches (distinct-append_left branch (all_inner g branch (pattern_edges kind) paths) s.apart)) s.are_paths p.1)

-- with the right numbers of branch vertices and paths, the tests on marks hold exactly of a subdivision
pub exactly : (g : Multigraph) → IsGraph g → (kind : Pattern) (branch : List ℕ) (paths : List (List ℕ)) → length branch ≡ branch_count kind → length paths ≡ length (pattern_edges kind) → ((are_free (no_marks g) branch && are_free_paths g (marked_also (no_marks g) branch) branch (pattern_edges kind) paths) ≡ true) ↔ IsSubdivision g kind branch paths
exactly g o kind branch paths n s =
    (λ h. let p = and_parts (are_free (no_marks g) branch) (are_free_paths g (marked_also (no_marks g) branch) branch (pattern_edges kind) paths) h in marked-subdivision g kind branch paths n s p.0 p.1, found g o kind branch paths)

-- a subdivision is in its written form exactly where the test of the order holds
pub exactly_written : (g : Multigraph) (kind : Pattern) (branch : List ℕ) (paths : List (List ℕ)) → IsSubdivision g kind branch paths → (is_in_order kind branch ≡ true) ↔ IsWritten g kind branch paths
exactly_written g kind branch paths s = (λ h. record { subdivision = s; order = order-holds kind branch h }, λ w. order-test kind branch w.order)

-- what the check finds is a subdivision in its written form
pub checked : (g : Multigraph) (kind : Pattern) (branch : List ℕ) (paths : List (List ℕ)) → length branch ≡ branch_count kind → is_in_order kind branch ≡ true → length paths ≡ length (pattern_edges kind) → are_free (no_marks g) branch ≡ true → are_free_paths g (marked_also (no_marks g) branch) branch (pattern_edges kind) paths ≡ true → IsWritten g kind branch paths
checked g kind branch paths n o s f p = (exactly_written g kind branch paths (marked-subdivision g kind branch paths n s f p)).0 o
