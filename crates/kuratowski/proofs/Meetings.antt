-- A subdivision path by path: two paths meet only in branch vertices, and a path meets no branch vertex but its ends.
use Rattle.std.proofs.Common.{◌≡◌, ◌≢◌, ℕ, zero, suc, ◌<◌, ◌⊎◌, inl, inr, true, List, [], ◌∷◌, ◌++◌, length, get_or, refl, sym, ap, subst, arith}
use Rattle.std.proofs.lemmas.Bool.{both_ways, false_from_ne_true, cases_order, true≢false}
use Rattle.permutations.specs.Members.{is_member, is_distinct}
use Rattle.permutations.proofs.Members.{member-head, member-tail, member-cases, member-append_left, member-append_right, member-append_cases, distinct-head, distinct-tail, distinct-append, distinct-append_left, distinct-append_right, distinct-append_apart}
use Rattle.permutations.proofs.Arrangements.{member-at}
use Rattle.permutations.proofs.Places.{places-differ}
use Rattle.multigraph.specs.Graph.{Multigraph, other_end}
use Rattle.graph_theory.specs.Path.{walk_starts, walk_vertices, IsPath}
use Rattle.kuratowski.specs.declared.subdivision.Pattern.{Pattern}
use Rattle.kuratowski.specs.Subdivision.{branch_count, pattern_edges, branch_at, path_at, pair_at, inner_vertices, all_inner, IsSubdivision}
use Rattle.kuratowski.proofs.Checked.{pair-rises}

-- the vertices inside path k
abbrev pub inner_at : Multigraph → List ℕ → List (ℕ × ℕ) → List (List ℕ) → ℕ → List ℕ
inner_at g branch pairs paths k = inner_vertices g (branch_at branch (get_or pairs k (0, 0)).0) (get_or paths k [])

-- all vertices of path k
abbrev pub vertices_at : Multigraph → Pattern → List ℕ → List (List ℕ) → ℕ → List ℕ
vertices_at g kind branch paths k = walk_vertices g (branch_at branch (pair_at kind k).0) (path_at paths k)

-- the vertices inside a path are among those inside all paths
inner-among : (g : Multigraph) (branch : List ℕ) (pairs : List (ℕ × ℕ)) (paths : List (List ℕ)) (k : ℕ) → length paths ≡ length pairs → k < length pairs → (z : ℕ) → is_member z (inner_at g branch pairs paths k) ≡ true → is_member z (all_inner g branch pairs paths) ≡ true
inner-among g branch [] paths k s l z m = absurd (omega arith)
inner-among g branch (pair ∷ pairs) [] k s l z m = absurd (omega arith)
inner-among g branch (pair ∷ pairs) (path ∷ paths) zero s l z m = member-append_left z (inner_vertices g (branch_at branch pair.0) path) (all_inner g branch pairs paths) m
inner-among g branch (pair ∷ pairs) (path ∷ paths) (suc k) s l z m =
    member-append_right z (inner_vertices g (branch_at branch pair.0) path) (all_inner g branch pairs paths) (inner-among g branch pairs paths k (omega arith) (omega arith) z m)

-- a vertex inside one of the paths is inside some path k
among-inner : (g : Multigraph) (branch : List ℕ) (pairs : List (ℕ × ℕ)) (paths : List (List ℕ)) (z : ℕ) → is_member z (all_inner g branch pairs paths) ≡ true → (k : ℕ) × (k < length pairs) × (is_member z (inner_at g branch pairs paths k) ≡ true)
among-inner g branch [] paths z m = absurd (true≢false (sym m))
among-inner g branch (pair ∷ pairs) [] z m = absurd (true≢false (sym m))
among-inner g branch (pair ∷ pairs) (path ∷ paths) z m = elim (member-append_cases z (inner_vertices g (branch_at branch pair.0) path) (all_inner g branch pairs paths) m) [
  | inl a ↦ (0, omega arith, a)
  | inr b ↦ let r = among-inner g branch pairs paths z b in (suc r.0, omega (arith, r.1), r.2)
]

-- where no vertex is twice inside paths, none is inside two of them, the first before the second
inner-before : (g : Multigraph) (branch : List ℕ) (pairs : List (ℕ × ℕ)) (paths : List (List ℕ)) (k j : ℕ) → length paths ≡ length pairs → is_distinct (all_inner g branch pairs paths) ≡ true → k < j → j < length pairs → (z : ℕ) → is_member z (inner_at g branch pairs paths k) ≡ true → is_member z (inner_at g branch pairs paths j) ≡ true → ⊥
inner-before g branch [] paths k j s d w l z a b = absurd (omega arith)
inner-before g branch (pair ∷ pairs) [] k j s d w l z a b = absurd (omega arith)
inner-before g branch (pair ∷ pairs) (path ∷ paths) k zero s d w l z a b = absurd (omega arith)
inner-before g branch (pair ∷ pairs) (path ∷ paths) zero (suc j) s d w l z a b =
    both_ways (is_member z (all_inner g branch pairs paths)) (distinct-append_apart (inner_vertices g (branch_at branch pair.0) path) (all_inner g branch pairs paths) d z a) (inner-among g branch pairs paths j (omega arith) (omega arith) z b)
inner-before g branch (pair ∷ pairs) (path ∷ paths) (suc k) (suc j) s d w l z a b =
    inner-before g branch pairs paths k j (omega arith) (distinct-append_right (inner_vertices g (branch_at branch pair.0) path) (all_inner g branch pairs paths) d) (omega arith) (omega arith) z a b

-- where no path has a vertex twice inside and no vertex is inside two, none is twice inside paths
inner-distinct : (g : Multigraph) (branch : List ℕ) (pairs : List (ℕ × ℕ)) (paths : List (List ℕ)) → ((k : ℕ) → k < length pairs → is_distinct (inner_at g branch pairs paths k) ≡ true) → ((k j : ℕ) → k < j → j < length pairs → (z : ℕ) → is_member z (inner_at g branch pairs paths k) ≡ true → is_member z (inner_at g branch pairs paths j) ≡ true → ⊥) → is_distinct (all_inner g branch pairs paths) ≡ true
inner-distinct g branch [] paths each apart = refl
inner-distinct g branch (pair ∷ pairs) [] each apart = refl
inner-distinct g branch (pair ∷ pairs) (path ∷ paths) each apart =
    distinct-append (inner_vertices g (branch_at branch pair.0) path) (all_inner g branch pairs paths) (each 0 (omega arith))
    (inner-distinct g branch pairs paths (λ k l. each (suc k) (omega arith)) (λ k j w l. apart (suc k) (suc j) (omega arith) (omega arith)))
    (λ z m. false_from_ne_true (is_member z (all_inner g branch pairs paths)) (λ t.
    let r = among-inner g branch pairs paths z t in
    let w : 0 < suc r.0 = omega arith in
    let l : suc r.0 < length (pair ∷ pairs) = omega (arith, r.1) in
    apart 0 (suc r.0) w l z m r.2))

-- a path between different vertices meets its first vertex, those inside, and its last
pub met-inner : (g : Multigraph) (x : ℕ) (es : List ℕ) (y : ℕ) → IsPath g x es y → x ≢ y → walk_vertices g x es ≡ x ∷ (inner_vertices g x es ++ y ∷ [])
met-inner g x [] y p n = absurd (n p.arrives)
met-inner g x (e ∷ es) y p n = ap (λ (w : ℕ). x ∷ (walk_starts g (other_end g e x) es ++ w ∷ [])) p.arrives

-- a vertex of a path is an end or inside
pub met-parts : (g : Multigraph) (x : ℕ) (es : List ℕ) (y : ℕ) → IsPath g x es y → x ≢ y → (z : ℕ) → is_member z (walk_vertices g x es) ≡ true → (x ≡ z) ⊎ (is_member z (inner_vertices g x es) ≡ true) ⊎ (y ≡ z)
met-parts g x es y p n z m = elim (member-cases z x (inner_vertices g x es ++ y ∷ []) (subst (λ (l : List ℕ). is_member z l ≡ true) (met-inner g x es y p n) m)) [
  | inl e ↦ inl e
  | inr t ↦ inr (elim (member-append_cases z (inner_vertices g x es) (y ∷ []) t) [
    | inl a ↦ inl a
    | inr b ↦ inr (elim (member-cases z y [] b) [ inl e ↦ e | inr f ↦ absurd (true≢false (sym f)) ])
  ])
]

-- a vertex inside a path is one of its vertices, and no end
pub inside-met : (g : Multigraph) (x : ℕ) (es : List ℕ) (y : ℕ) → IsPath g x es y → x ≢ y → (z : ℕ) → is_member z (inner_vertices g x es) ≡ true → (is_member z (walk_vertices g x es) ≡ true) × (z ≢ x) × (z ≢ y)
inside-met g x es y p n z m = (
  subst (λ (l : List ℕ). is_member z l ≡ true) (sym is) (member-tail z x (inner ++ y ∷ []) (member-append_left z inner (y ∷ []) m)),
  λ e. both_ways (is_member x (inner ++ y ∷ [])) (distinct-head x (inner ++ y ∷ []) d) (subst (λ (w : ℕ). is_member w (inner ++ y ∷ []) ≡ true) e (member-append_left z inner (y ∷ []) m)),
  λ e. both_ways (is_member z (y ∷ [])) (distinct-append_apart inner (y ∷ []) (distinct-tail x (inner ++ y ∷ []) d) z m) (subst (λ (w : ℕ). is_member z (w ∷ []) ≡ true) e (member-head z [])),
)
  where
    inner : List ℕ
    inner = inner_vertices g x es

    is : walk_vertices g x es ≡ x ∷ (inner ++ y ∷ [])
    is = met-inner g x es y p n

    d : is_distinct (x ∷ (inner ++ y ∷ [])) ≡ true
    d = subst (λ (l : List ℕ). is_distinct l ≡ true) is p.vertices

-- the vertices inside a path are different
inside-distinct : (g : Multigraph) (x : ℕ) (es : List ℕ) (y : ℕ) → IsPath g x es y → x ≢ y → is_distinct (inner_vertices g x es) ≡ true
inside-distinct g x es y p n =
    distinct-append_left (inner_vertices g x es) (y ∷ []) (distinct-tail x (inner_vertices g x es ++ y ∷ []) (subst (λ (l : List ℕ). is_distinct l ≡ true) (met-inner g x es y p n) p.vertices))

-- paths between different branch vertices that meet only there: a path meets no branch vertex but its ends, and what two paths
-- meet is a branch vertex
pub record MeetAtBranches (g : Multigraph) (kind : Pattern) (branch : List ℕ) (paths : List (List ℕ)) : Type 0 where
  pub branches : is_distinct branch ≡ true
  pub ends : (k : ℕ) → k < length (pattern_edges kind) → (z : ℕ) → is_member z (vertices_at g kind branch paths k) ≡ true → is_member z branch ≡ true → (branch_at branch (pair_at kind k).0 ≡ z) ⊎ (branch_at branch (pair_at kind k).1 ≡ z)
  pub common : (k j : ℕ) → k < length (pattern_edges kind) → j < length (pattern_edges kind) → k ≢ j → (z : ℕ) → is_member z (vertices_at g kind branch paths k) ≡ true → is_member z (vertices_at g kind branch paths j) ≡ true → is_member z branch ≡ true

-- a branch vertex is a member of the list
pub branch-member : (kind : Pattern) (branch : List ℕ) → length branch ≡ branch_count kind → (i : ℕ) → i < branch_count kind → is_member (branch_at branch i) branch ≡ true
branch-member kind branch n i l = member-at branch i 0 (subst (λ (c : ℕ). i < c) (sym n) l)

-- the two branch vertices of an edge of the pattern are members of the list
pub ends-member : (kind : Pattern) (branch : List ℕ) → length branch ≡ branch_count kind → (k : ℕ) → k < length (pattern_edges kind) → (is_member (branch_at branch (pair_at kind k).0) branch ≡ true) × (is_member (branch_at branch (pair_at kind k).1) branch ≡ true)
ends-member kind branch n k l =
    let r = pair-rises kind k l in
    let w : (pair_at kind k).0 < branch_count kind = omega arith in
    (branch-member kind branch n (pair_at kind k).0 w, branch-member kind branch n (pair_at kind k).1 r.1)

-- they are different
pub ends-differ : (kind : Pattern) (branch : List ℕ) → length branch ≡ branch_count kind → is_distinct branch ≡ true → (k : ℕ) → k < length (pattern_edges kind) → branch_at branch (pair_at kind k).0 ≢ branch_at branch (pair_at kind k).1
ends-differ kind branch n d k l =
    let r = pair-rises kind k l in
    places-differ branch (pair_at kind k).0 (pair_at kind k).1 d r.0 (subst (λ (c : ℕ). (pair_at kind k).1 < c) (sym n) r.1)

-- the paths of a subdivision meet only in branch vertices
pub subdivision-meetings : (g : Multigraph) (kind : Pattern) (branch : List ℕ) (paths : List (List ℕ)) → IsSubdivision g kind branch paths → MeetAtBranches g kind branch paths
subdivision-meetings g kind branch paths s = record {
  branches = d;
  ends = λ k l z m b. elim (parts k l z m) [
    | inl e ↦ inl e
    | inr (inl i) ↦ absurd (both_ways (is_member z all) (distinct-append_apart branch all s.apart z b) (inner-among g branch (pattern_edges kind) paths k s.one_each l z i))
    | inr (inr e) ↦ inr e
  ];
  common = λ k j lk lj n z mk mj. elim (parts k lk z mk) [
    | inl e ↦ subst (λ (w : ℕ). is_member w branch ≡ true) e (ends-member kind branch s.branches k lk).0
    | inr (inl i) ↦ elim (parts j lj z mj) [
      | inl e ↦ subst (λ (w : ℕ). is_member w branch ≡ true) e (ends-member kind branch s.branches j lj).0
      | inr (inl h) ↦ absurd (twice k j lk lj n z i h)
      | inr (inr e) ↦ subst (λ (w : ℕ). is_member w branch ≡ true) e (ends-member kind branch s.branches j lj).1
    ]
    | inr (inr e) ↦ subst (λ (w : ℕ). is_member w branch ≡ true) e (ends-member kind branch s.branches k lk).1
  ];
}
  where
    all : List ℕ
    all = all_inner g branch (pattern_edges kind) paths

    d : is_distinct branch ≡ true
    d = distinct-append_left branch all s.apart

    parts : (k : ℕ) → k < length (pattern_edges kind) → (z : ℕ) → is_member z (vertices_at g kind branch paths k) ≡ true → (branch_at branch (pair_at kind k).0 ≡ z) ⊎ (is_member z (inner_at g branch (pattern_edges kind) paths k) ≡ true) ⊎ (branch_at branch (pair_at kind k).1 ≡ z)
    parts k l z m = met-parts g (branch_at branch (pair_at kind k).0) (path_at paths k) (branch_at branch (pair_at kind k).1) (s.are_paths k l) (ends-differ kind branch s.branches d k l) z m

    twice : (k j : ℕ) → k < length (pattern_edges kind) → j < length (pattern_edges kind) → k ≢ j → (z : ℕ) → is_member z (inner_at g branch (pattern_edges kind) paths k) ≡ true → is_member z (inner_at g branch (pattern_edges kind) paths j) ≡ true → ⊥
    twice k j lk lj n z a b = elim (cases_order k j) [
      | inl e ↦ n e
      | inr (inl w) ↦ inner-before g branch (pattern_edges kind) paths k j s.one_each (distinct-append_right branch all s.apart) w lj z a b
      | inr (inr w) ↦ inner-before g branch (pattern_edges kind) paths j k s.one_each (distinct-append_right branch all s.apart) w lk z b a
    ]

-- paths between branch vertices that meet only there are a subdivision
pub subdivision-from_meetings : (g : Multigraph) (kind : Pattern) (branch : List ℕ) (paths : List (List ℕ)) → length branch ≡ branch_count kind → ((i : ℕ) → i < branch_count kind → branch_at branch i < g.vertex_count) → length paths ≡ length (pattern_edges kind) → ((k : ℕ) → k < length (pattern_edges kind) → IsPath g (branch_at branch (pair_at kind k).0) (path_at paths k) (branch_at branch (pair_at kind k).1)) → MeetAtBranches g kind branch paths → IsSubdivision g kind branch paths
subdivision-from_meetings g kind branch paths n w s p m = record {
  branches = n;
  branch_in = w;
  one_each = s;
  are_paths = p;
  apart = distinct-append branch all m.branches
      (inner-distinct g branch (pattern_edges kind) paths
      (λ k l. inside-distinct g (branch_at branch (pair_at kind k).0) (path_at paths k) (branch_at branch (pair_at kind k).1) (p k l) (differ k l))
      (λ k j o l z a b. let lk : k < length (pattern_edges kind) = omega arith in let kj : k ≢ j = omega arith in off k lk z a (m.common k j lk l kj z (inside k lk z a).0 (inside j l z b).0)))
      (λ z b. false_from_ne_true (is_member z all) (λ t. let r = among-inner g branch (pattern_edges kind) paths z t in off r.0 r.1 z r.2 b));
}
  where
    all : List ℕ
    all = all_inner g branch (pattern_edges kind) paths

    differ : (k : ℕ) → k < length (pattern_edges kind) → branch_at branch (pair_at kind k).0 ≢ branch_at branch (pair_at kind k).1
    differ k l = ends-differ kind branch n m.branches k l

    inside : (k : ℕ) → k < length (pattern_edges kind) → (z : ℕ) → is_member z (inner_at g branch (pattern_edges kind) paths k) ≡ true → (is_member z (vertices_at g kind branch paths k) ≡ true) × (z ≢ branch_at branch (pair_at kind k).0) × (z ≢ branch_at branch (pair_at kind k).1)
    inside k l z a = inside-met g (branch_at branch (pair_at kind k).0) (path_at paths k) (branch_at branch (pair_at kind k).1) (p k l) (differ k l) z a

    off : (k : ℕ) → k < length (pattern_edges kind) → (z : ℕ) → is_member z (inner_at g branch (pattern_edges kind) paths k) ≡ true → is_member z branch ≡ true → ⊥
    off k l z a b = elim (m.ends k l z (inside k l z a).0 b) [ inl e ↦ (inside k l z a).1 (sym e) | inr e ↦ (inside k l z a).2 (sym e) ]
