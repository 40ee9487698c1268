-- The edges of all paths and the vertices inside all paths, each as one list: members, repetition, and how many.
use Rattle.std.proofs.Common.{◌≡◌, ℕ, zero, suc, ◌+◌, ◌<◌, ◌≤◌, inl, inr, true, List, [], ◌∷◌, ◌++◌, length, get_or, refl, sym, ap, arith}
use Rattle.std.proofs.lemmas.Bool.{both_ways, false_from_ne_true, true≢false}
use Rattle.std.proofs.lemmas.List.{length-append}
use Rattle.permutations.specs.Members.{is_member, is_distinct}
use Rattle.permutations.proofs.Members.{member-append_left, member-append_right, member-append_cases, distinct-append, distinct-append_right, distinct-append_apart}
use Rattle.multigraph.specs.Graph.{Multigraph, other_end}
use Rattle.graph_theory.specs.Path.{walk_starts}
use Rattle.kuratowski.specs.Subdivision.{branch_at, path_at, inner_vertices, all_inner}

-- the edges of all paths, path by path
abbrev pub all_edges : List (List ℕ) → List ℕ
all_edges [] = []
all_edges (path ∷ paths) = path ++ all_edges paths

-- an edge of a path is one of them
pub edges-member : (paths : List (List ℕ)) (k f : ℕ) → k < length paths → is_member f (path_at paths k) ≡ true → is_member f (all_edges paths) ≡ true
edges-member [] k f l m = absurd (omega arith)
edges-member (path ∷ paths) zero f l m = member-append_left f path (all_edges paths) m
edges-member (path ∷ paths) (suc k) f l m = member-append_right f path (all_edges paths) (edges-member paths k f (omega arith) m)

-- and each of them is an edge of some path
pub edges-path : (paths : List (List ℕ)) (f : ℕ) → is_member f (all_edges paths) ≡ true → (k : ℕ) × (k < length paths) × (is_member f (path_at paths k) ≡ true)
edges-path [] f m = absurd (true≢false (sym m))
edges-path (path ∷ paths) f m = elim (member-append_cases f path (all_edges paths) m) [
  | inl a ↦ (0, omega arith, a)
  | inr b ↦ let w = edges-path paths f b in (suc w.0, omega (arith, w.1), w.2)
]

-- where no path has an edge twice, and no two paths have one in common, there is no repetition
pub edges-distinct : (paths : List (List ℕ)) → ((k : ℕ) → k < length paths → is_distinct (path_at paths k) ≡ true)
    → ((k l f : ℕ) → k < length paths → l < length paths → is_member f (path_at paths k) ≡ true → is_member f (path_at paths l) ≡ true → k ≡ l)
    → is_distinct (all_edges paths) ≡ true
edges-distinct [] each apart = refl
edges-distinct (path ∷ paths) each apart = distinct-append path (all_edges paths)
    (each 0 (omega arith))
    (edges-distinct paths (λ k l. each (suc k) (omega arith)) (λ k j f l m a b. let e = apart (suc k) (suc j) f (omega arith) (omega arith) a b in omega arith))
    (λ f m. false_from_ne_true (is_member f (all_edges paths)) (λ t. let w = edges-path paths f t in let e : 0 ≡ suc w.0 = apart 0 (suc w.0) f (omega arith) (omega (arith, w.1)) m w.2 in omega arith))

-- a vertex inside path k is one of those inside the paths
pub inner-member : (g : Multigraph) (branch : List ℕ) (pairs : List (ℕ × ℕ)) (paths : List (List ℕ)) (k z : ℕ) → k < length pairs → k < length paths
    → is_member z (inner_vertices g (branch_at branch (get_or pairs k (0, 0)).0) (path_at paths k)) ≡ true → is_member z (all_inner g branch pairs paths) ≡ true
inner-member g branch [] paths k z l j m = absurd (omega arith)
inner-member g branch (pair ∷ pairs) [] k z l j m = absurd (omega arith)
inner-member g branch (pair ∷ pairs) (path ∷ paths) zero z l j m = member-append_left z (inner_vertices g (branch_at branch pair.0) path) (all_inner g branch pairs paths) m
inner-member g branch (pair ∷ pairs) (path ∷ paths) (suc k) z l j m = member-append_right z (inner_vertices g (branch_at branch pair.0) path) (all_inner g branch pairs paths) (inner-member g branch pairs paths k z (omega arith) (omega arith) m)

-- without repetition there, a vertex is inside one path only
pub inner-once : (g : Multigraph) (branch : List ℕ) (pairs : List (ℕ × ℕ)) (paths : List (List ℕ)) → is_distinct (all_inner g branch pairs paths) ≡ true → length paths ≡ length pairs
    → (j k z : ℕ) → j < length pairs → k < length pairs
    → is_member z (inner_vertices g (branch_at branch (get_or pairs j (0, 0)).0) (path_at paths j)) ≡ true
    → is_member z (inner_vertices g (branch_at branch (get_or pairs k (0, 0)).0) (path_at paths k)) ≡ true → j ≡ k
inner-once g branch [] paths d e j k z l i a b = absurd (omega arith)
inner-once g branch (pair ∷ pairs) [] d e j k z l i a b = absurd (omega arith)
inner-once g branch (pair ∷ pairs) (path ∷ paths) d e zero zero z l i a b = refl
inner-once g branch (pair ∷ pairs) (path ∷ paths) d e zero (suc k) z l i a b = absurd (both_ways (is_member z (all_inner g branch pairs paths))
    (distinct-append_apart (inner_vertices g (branch_at branch pair.0) path) (all_inner g branch pairs paths) d z a)
    (inner-member g branch pairs paths k z (omega arith) (omega arith) b))
inner-once g branch (pair ∷ pairs) (path ∷ paths) d e (suc j) zero z l i a b = absurd (both_ways (is_member z (all_inner g branch pairs paths))
    (distinct-append_apart (inner_vertices g (branch_at branch pair.0) path) (all_inner g branch pairs paths) d z b)
    (inner-member g branch pairs paths j z (omega arith) (omega arith) a))
inner-once g branch (pair ∷ pairs) (path ∷ paths) d e (suc j) (suc k) z l i a b =
    ap suc (inner-once g branch pairs paths (distinct-append_right (inner_vertices g (branch_at branch pair.0) path) (all_inner g branch pairs paths) d) (omega arith) j k z (omega arith) (omega arith) a b)

-- as many vertices are entered along a walk as it has edges
pub starts-length : (g : Multigraph) (x : ℕ) (es : List ℕ) → length (walk_starts g x es) ≡ length es
starts-length g x [] = refl
starts-length g x (e ∷ es) = let i = starts-length g (other_end g e x) es in omega arith

-- and one less are inside
pub inner-length : (g : Multigraph) (x : ℕ) (es : List ℕ) → 1 ≤ length es → length (inner_vertices g x es) + 1 ≡ length es
inner-length g x [] l = absurd (omega arith)
inner-length g x (e ∷ es) l = let i = starts-length g (other_end g e x) es in omega arith

-- so the paths have as many edges as there are vertices inside, and one more for each path
pub edges-length : (g : Multigraph) (branch : List ℕ) (pairs : List (ℕ × ℕ)) (paths : List (List ℕ)) → length paths ≡ length pairs
    → ((k : ℕ) → k < length pairs → 1 ≤ length (path_at paths k)) → length (all_edges paths) ≡ length (all_inner g branch pairs paths) + length pairs
edges-length g branch [] [] e some = refl
edges-length g branch [] (path ∷ paths) e some = absurd (omega arith)
edges-length g branch (pair ∷ pairs) [] e some = absurd (omega arith)
edges-length g branch (pair ∷ pairs) (path ∷ paths) e some = omega (
  arith,
  length-append path (all_edges paths),
  length-append (inner_vertices g (branch_at branch pair.0) path) (all_inner g branch pairs paths),
  inner-length g (branch_at branch pair.0) path (some 0 (omega arith)),
  edges-length g branch pairs paths (omega arith) (λ k l. some (suc k) (omega arith)),
)
