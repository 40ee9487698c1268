-- Paths along which no vertex has a mark yet: what the tests on marks say in the terms of walks and paths.
use Rattle.std.proofs.Common.{◌≡◌, ◌≢◌, ℕ, zero, suc, ◌<◌, Bool, true, false, not, ◌&&◌, ◌==◌, List, [], ◌∷◌, ◌++◌, length, set, get_or, drop, refl, sym, ap, ◌∙◌, subst, arith}
use Rattle.std.proofs.lemmas.Bool.{both_ways, false_from_ne_true, and_parts, and_from, and_left, eq-eqb, eqb-true, true≢false}
use Rattle.std.proofs.Math.Seq.{drop-cons}
use Rattle.permutations.specs.Members.{is_member, is_distinct}
use Rattle.permutations.proofs.Members.{no_member-cons, no_member-append, distinct-cons, distinct-append}
use Rattle.multigraph.specs.Graph.{Multigraph, is_edge_at, other_end}
use Rattle.multigraph.proofs.OtherEnd.{edge_at-parts, edge_at-from}
use Rattle.graph_theory.specs.Path.{walk_end, walk_starts, IsWalk, IsPath}
use Rattle.kuratowski.specs.Subdivision.{branch_at, inner_vertices, all_inner}
use Rattle.kuratowski.specs.Checking.{is_taken, marked_also, are_free, is_free_walk, is_free_path, are_free_paths}
use Rattle.kuratowski.proofs.Marks.{taken-also, free-append, free-each, free-distinct}

-- a walk without marks is one
pub free_walk-walk : (g : Multigraph) (m : List Bool) (x : ℕ) (es : List ℕ) → is_free_walk g m x es ≡ true → IsWalk g x es
free_walk-walk g m x [] h = tt
free_walk-walk g m x (e ∷ es) h =
    let p = and_parts (not (is_taken m x)) (is_edge_at g x e && is_free_walk g (set m x true) (other_end g e x) es) h in
    let q = and_parts (is_edge_at g x e) (is_free_walk g (set m x true) (other_end g e x) es) p.1 in
    (edge_at-parts g x e q.0, free_walk-walk g (set m x true) (other_end g e x) es q.1)

-- the vertices at which its edges are entered have no marks
pub free_walk-free : (g : Multigraph) (m : List Bool) (x : ℕ) (es : List ℕ) → is_free_walk g m x es ≡ true → are_free m (walk_starts g x es) ≡ true
free_walk-free g m x [] h = refl
free_walk-free g m x (e ∷ es) h =
    let p = and_parts (not (is_taken m x)) (is_edge_at g x e && is_free_walk g (set m x true) (other_end g e x) es) h in
    let q = and_parts (is_edge_at g x e) (is_free_walk g (set m x true) (other_end g e x) es) p.1 in
    and_from (not (is_taken m x)) (are_free (set m x true) (walk_starts g (other_end g e x) es)) p.0 (free_walk-free g (set m x true) (other_end g e x) es q.1)

-- a walk whose edges are entered at vertices without marks is one without marks
pub free_walk-from : (g : Multigraph) (m : List Bool) (x : ℕ) (es : List ℕ) → IsWalk g x es → are_free m (walk_starts g x es) ≡ true → is_free_walk g m x es ≡ true
free_walk-from g m x [] w f = refl
free_walk-from g m x (e ∷ es) w f =
    let p = and_parts (not (is_taken m x)) (are_free (set m x true) (walk_starts g (other_end g e x) es)) f in
    and_from (not (is_taken m x)) (is_edge_at g x e && is_free_walk g (set m x true) (other_end g e x) es) p.0
    (and_from (is_edge_at g x e) (is_free_walk g (set m x true) (other_end g e x) es) (edge_at-from g x e w.0.0 w.0.1) (free_walk-from g (set m x true) (other_end g e x) es w.1 p.1))

-- the vertices inside a path without marks have none
pub free_path-free : (g : Multigraph) (m : List Bool) (x : ℕ) (es : List ℕ) (y : ℕ) → is_free_path g m x es y ≡ true → are_free m (inner_vertices g x es) ≡ true
free_path-free g m x [] y h = absurd (true≢false (sym h))
free_path-free g m x (e ∷ es) y h =
    let p = and_parts (is_edge_at g x e) (is_free_walk g m (other_end g e x) es && (walk_end g (other_end g e x) es == y)) h in
    let q = and_parts (is_free_walk g m (other_end g e x) es) (walk_end g (other_end g e x) es == y) p.1 in
    free_walk-free g m (other_end g e x) es q.0

-- between two different vertices that are marked, a path without marks inside is a path
pub free_path-path : (g : Multigraph) (m : List Bool) (x : ℕ) (es : List ℕ) (y : ℕ) → is_taken m x ≡ true → is_taken m y ≡ true → x ≢ y → is_free_path g m x es y ≡ true → IsPath g x es y
free_path-path g m x [] y a b n h = absurd (true≢false (sym h))
free_path-path g m x (e ∷ es) y a b n h = record {
  walk = (edge_at-parts g x e p.0, free_walk-walk g m z es q.0);
  arrives = arrives;
  vertices = subst (λ (w : ℕ). is_distinct (x ∷ (walk_starts g z es ++ w ∷ [])) ≡ true) (sym arrives)
      (distinct-cons x (walk_starts g z es ++ y ∷ [])
      (no_member-append x (walk_starts g z es) (y ∷ []) (apart x a) (no_member-cons x y [] (λ i. n (sym i)) refl))
      (distinct-append (walk_starts g z es) (y ∷ []) (free-distinct m (walk_starts g z es) free) refl
      (λ w i. no_member-cons w y [] (λ k. both_ways (is_member w (walk_starts g z es)) (subst (λ (v : ℕ). is_member v (walk_starts g z es) ≡ false) k (apart y b)) i) refl)));
}
  where
    z : ℕ
    z = other_end g e x

    p : (is_edge_at g x e ≡ true) × ((is_free_walk g m z es && (walk_end g z es == y)) ≡ true)
    p = and_parts (is_edge_at g x e) (is_free_walk g m z es && (walk_end g z es == y)) h

    q : (is_free_walk g m z es ≡ true) × ((walk_end g z es == y) ≡ true)
    q = and_parts (is_free_walk g m z es) (walk_end g z es == y) p.1

    arrives : walk_end g z es ≡ y
    arrives = eqb-true (walk_end g z es) y q.1

    free : are_free m (walk_starts g z es) ≡ true
    free = free_walk-free g m z es q.0

    apart : (w : ℕ) → is_taken m w ≡ true → is_member w (walk_starts g z es) ≡ false
    apart w t = false_from_ne_true (is_member w (walk_starts g z es)) (λ i. both_ways (is_taken m w) (free-each m (walk_starts g z es) w free i) t)

-- a path between two different vertices, with no marks inside, is one without marks
pub free_path-from : (g : Multigraph) (m : List Bool) (x : ℕ) (es : List ℕ) (y : ℕ) → x ≢ y → IsPath g x es y → are_free m (inner_vertices g x es) ≡ true → is_free_path g m x es y ≡ true
free_path-from g m x [] y n p f = absurd (n p.arrives)
free_path-from g m x (e ∷ es) y n p f =
    and_from (is_edge_at g x e) (is_free_walk g m (other_end g e x) es && (walk_end g (other_end g e x) es == y)) (edge_at-from g x e p.walk.0.0 p.walk.0.1)
    (and_from (is_free_walk g m (other_end g e x) es) (walk_end g (other_end g e x) es == y) (free_walk-from g m (other_end g e x) es p.walk.1 f) (eq-eqb (walk_end g (other_end g e x) es) y p.arrives))

-- the two branch vertices of each pair are different and marked
abbrev pub HaveEnds : List Bool → List ℕ → List (ℕ × ℕ) → Type 0
HaveEnds m branch pairs =
    (k : ℕ) → k < length pairs → (is_taken m (branch_at branch (get_or pairs k (0, 0)).0) ≡ true) × (is_taken m (branch_at branch (get_or pairs k (0, 0)).1) ≡ true)
    × (branch_at branch (get_or pairs k (0, 0)).0 ≢ branch_at branch (get_or pairs k (0, 0)).1)

-- each pair is joined by its path
abbrev pub AreJoined : Multigraph → List ℕ → List (ℕ × ℕ) → List (List ℕ) → Type 0
AreJoined g branch pairs paths =
    (k : ℕ) → k < length pairs → IsPath g (branch_at branch (get_or pairs k (0, 0)).0) (get_or paths k []) (branch_at branch (get_or pairs k (0, 0)).1)

-- the first of several pairs has its ends
ends-first : (m : List Bool) (branch : List ℕ) (pair : ℕ × ℕ) (pairs : List (ℕ × ℕ)) → HaveEnds m branch (pair ∷ pairs) → (is_taken m (branch_at branch pair.0) ≡ true) × (is_taken m (branch_at branch pair.1) ≡ true) × (branch_at branch pair.0 ≢ branch_at branch pair.1)
ends-first m branch pair pairs h = h 0 (omega arith)

-- the other pairs have theirs, also when more is marked
ends-others : (m : List Bool) (vs branch : List ℕ) (pair : ℕ × ℕ) (pairs : List (ℕ × ℕ)) → HaveEnds m branch (pair ∷ pairs) → HaveEnds (marked_also m vs) branch pairs
ends-others m vs branch pair pairs h = λ k l.
    let e = h (suc k) (omega arith) in
    (taken-also m vs (branch_at branch (get_or pairs k (0, 0)).0) e.0, taken-also m vs (branch_at branch (get_or pairs k (0, 0)).1) e.1, e.2)

-- the vertices inside paths without marks have none
pub free_paths-free : (g : Multigraph) (m : List Bool) (branch : List ℕ) (pairs : List (ℕ × ℕ)) (paths : List (List ℕ)) → are_free_paths g m branch pairs paths ≡ true → are_free m (all_inner g branch pairs paths) ≡ true
free_paths-free g m branch [] paths h = refl
free_paths-free g m branch (pair ∷ pairs) [] h = absurd (true≢false (sym h))
free_paths-free g m branch (pair ∷ pairs) (path ∷ paths) h =
    let inner : List ℕ = inner_vertices g (branch_at branch pair.0) path in
    let p = and_parts (is_free_path g m (branch_at branch pair.0) path (branch_at branch pair.1)) (are_free_paths g (marked_also m inner) branch pairs paths) h in
    free-append m inner (all_inner g branch pairs paths)
    ∙ and_from (are_free m inner) (are_free (marked_also m inner) (all_inner g branch pairs paths)) (free_path-free g m (branch_at branch pair.0) path (branch_at branch pair.1) p.0)
    (free_paths-free g (marked_also m inner) branch pairs paths p.1)

-- between branch vertices that are different and marked, paths without marks are paths
pub free_paths-joined : (g : Multigraph) (m : List Bool) (branch : List ℕ) (pairs : List (ℕ × ℕ)) (paths : List (List ℕ)) → HaveEnds m branch pairs → are_free_paths g m branch pairs paths ≡ true → AreJoined g branch pairs paths
free_paths-joined g m branch [] paths e h = λ k l. absurd (omega arith)
free_paths-joined g m branch (pair ∷ pairs) [] e h = absurd (true≢false (sym h))
free_paths-joined g m branch (pair ∷ pairs) (path ∷ paths) e h = each (free_paths-joined g (marked_also m inner) branch pairs paths (ends-others m inner branch pair pairs e) p.1)
  where
    inner : List ℕ
    inner = inner_vertices g (branch_at branch pair.0) path

    p : (is_free_path g m (branch_at branch pair.0) path (branch_at branch pair.1) ≡ true) × (are_free_paths g (marked_also m inner) branch pairs paths ≡ true)
    p = and_parts (is_free_path g m (branch_at branch pair.0) path (branch_at branch pair.1)) (are_free_paths g (marked_also m inner) branch pairs paths) h

    each : AreJoined g branch pairs paths → AreJoined g branch (pair ∷ pairs) (path ∷ paths)
    each others zero l = let f = ends-first m branch pair pairs e in free_path-path g m (branch_at branch pair.0) path (branch_at branch pair.1) f.0 f.1 f.2 p.0
    each others (suc k) l = others k (omega arith)

-- paths between different branch vertices, with no marks inside, are without marks
pub free_paths-from : (g : Multigraph) (m : List Bool) (branch : List ℕ) (pairs : List (ℕ × ℕ)) (paths : List (List ℕ)) → length paths ≡ length pairs → HaveEnds m branch pairs → AreJoined g branch pairs paths → are_free m (all_inner g branch pairs paths) ≡ true → are_free_paths g m branch pairs paths ≡ true
free_paths-from g m branch [] paths s e j f = refl
free_paths-from g m branch (pair ∷ pairs) [] s e j f = absurd (omega arith)
free_paths-from g m branch (pair ∷ pairs) (path ∷ paths) s e j f =
    let inner : List ℕ = inner_vertices g (branch_at branch pair.0) path in
    let p = and_parts (are_free m inner) (are_free (marked_also m inner) (all_inner g branch pairs paths)) (sym (free-append m inner (all_inner g branch pairs paths)) ∙ f) in
    and_from (is_free_path g m (branch_at branch pair.0) path (branch_at branch pair.1)) (are_free_paths g (marked_also m inner) branch pairs paths)
    (free_path-from g m (branch_at branch pair.0) path (branch_at branch pair.1) (ends-first m branch pair pairs e).2 (j 0 (omega arith)) p.0)
    (free_paths-from g (marked_also m inner) branch pairs paths (omega arith) (ends-others m inner branch pair pairs e) (λ k l. j (suc k) (omega arith)) p.1)

-- a walk from a vertex with a mark, with an edge left, is none without marks
pub free_walk-stops : (g : Multigraph) (m : List Bool) (x : ℕ) (es : List ℕ) (k : ℕ) → k < length es → not (is_taken m x) ≡ false → is_free_walk g m x (drop k es) ≡ false
free_walk-stops g m x es k l h = ap (is_free_walk g m x) (drop-cons es k 0 l) ∙ and_left (not (is_taken m x)) (is_edge_at g x (get_or es k 0) && is_free_walk g (set m x true) (other_end g (get_or es k 0) x) (drop (suc k) es)) h
