-- A subdivision is a system of paths, and back.
use Rattle.std.proofs.Common.{◌≡◌, ◌≢◌, ℕ, zero, suc, ◌<◌, ◌⊎◌, inl, inr, Bool, true, false, not, ◌||◌, ◌&&◌, ◌==◌, List, [], ◌∷◌, length, reverse, get_or, refl, sym, ap, ◌∙◌, subst, arith}
use Rattle.std.proofs.lemmas.Bool.{cases_Bool, cases_eq, both_ways, false_from_ne_true, and_parts, or_cases, or_left, or_right, not-true, eq-eqb, eqb-true}
use Rattle.std.proofs.lemmas.List.{get_or_default}
use Rattle.permutations.specs.Members.{is_member, is_distinct}
use Rattle.permutations.proofs.Members.{member-head, member-tail, member-cases, member-append_left, member-append_right, distinct-head, distinct-tail, distinct-append_left, distinct-append_right, distinct-append_apart}
use Rattle.permutations.proofs.Arrangements.{member-at, contains-from_member}
use Rattle.permutations.proofs.Places.{same-place}
use Rattle.multigraph.specs.Graph.{Multigraph, other_end}
use Rattle.graph_theory.specs.Path.{walk_end, walk_starts, walk_vertices, IsPath}
use Rattle.graph_theory.proofs.Walks.{start-met, met-cases}
use Rattle.graph_theory.proofs.Paths.{path-none, path-reverse, path-reverse-met}
use Rattle.kuratowski.specs.declared.subdivision.Pattern.{Pattern}
use Rattle.kuratowski.specs.declared.subdivision.Pattern.TheVariants.{K5, K33}
use Rattle.kuratowski.specs.Subdivision.{branch_count, pattern_edges, branch_at, path_at, pair_at, inner_vertices, all_inner, IsSubdivision}
use Rattle.planarity.specs.Lift.{is_pair, is_listed, path_of_pair}
use Rattle.planarity.proofs.LiftSystem.{SamePair, IsBranch, IsPathSystem}

-- a vertex inside a path is met, and is neither its first nor its last
pub inside-met : (g : Multigraph) (a : ℕ) (es : List ℕ) (b z : ℕ) → IsPath g a es b → is_member z (inner_vertices g a es) ≡ true → (is_member z (walk_vertices g a es) ≡ true) × (z ≢ a) × (z ≢ b)
inside-met g a [] b z p m = absurd (both_ways false refl m)
inside-met g a (e ∷ es) b z p m = (met, first, last)
  where
    after : is_member z (walk_vertices g (other_end g e a) es) ≡ true
    after = start-met g (other_end g e a) es z m

    met : is_member z (walk_vertices g a (e ∷ es)) ≡ true
    met = member-tail z a (walk_vertices g (other_end g e a) es) after

    first : z ≢ a
    first q = both_ways (is_member a (walk_vertices g (other_end g e a) es)) (distinct-head a (walk_vertices g (other_end g e a) es) p.vertices) (subst (λ v. is_member v (walk_vertices g (other_end g e a) es) ≡ true) q after)

    last : z ≢ b
    last q = both_ways (is_member z (walk_end g (other_end g e a) es ∷ []))
        (distinct-append_apart (walk_starts g (other_end g e a) es) (walk_end g (other_end g e a) es ∷ []) (distinct-tail a (walk_vertices g (other_end g e a) es) p.vertices) z m)
        (subst (λ v. is_member v (walk_end g (other_end g e a) es ∷ []) ≡ true) (p.arrives ∙ sym q) (member-head (walk_end g (other_end g e a) es) []))

-- and a vertex that is met is inside, if it is neither
pub met-inside : (g : Multigraph) (a : ℕ) (es : List ℕ) (b z : ℕ) → IsPath g a es b → is_member z (walk_vertices g a es) ≡ true → z ≢ a → z ≢ b → is_member z (inner_vertices g a es) ≡ true
met-inside g a [] b z p m n o = absurd (elim (member-cases z a [] m) [ inl q ↦ n (sym q) | inr q ↦ both_ways false refl q ])
met-inside g a (e ∷ es) b z p m n o = elim (member-cases z a (walk_vertices g (other_end g e a) es) m) [
  | inl q ↦ absurd (n (sym q))
  | inr t ↦ elim (met-cases g (other_end g e a) es z t) [ inl u ↦ u | inr q ↦ absurd (o (q ∙ p.arrives)) ]
]

-- the vertices inside a path have no repetition
pub inside-distinct : (g : Multigraph) (a : ℕ) (es : List ℕ) (b : ℕ) → IsPath g a es b → is_distinct (inner_vertices g a es) ≡ true
inside-distinct g a [] b p = refl
inside-distinct g a (e ∷ es) b p = distinct-append_left (walk_starts g (other_end g e a) es) (walk_end g (other_end g e a) es ∷ []) (distinct-tail a (walk_vertices g (other_end g e a) es) p.vertices)

-- the vertices inside path k are among those inside the paths
pub inside-all : (g : Multigraph) (branch : List ℕ) (pairs : List (ℕ × ℕ)) (paths : List (List ℕ)) (k z : ℕ) → length paths ≡ length pairs → k < length pairs
    → is_member z (inner_vertices g (branch_at branch (get_or pairs k (0, 0)).0) (get_or paths k [])) ≡ true → is_member z (all_inner g branch pairs paths) ≡ true
inside-all g branch [] paths k z l b m = absurd (omega arith)
inside-all g branch (p ∷ ps) [] k z l b m = absurd (omega arith)
inside-all g branch (p ∷ ps) (q ∷ qs) zero z l b m = member-append_left z (inner_vertices g (branch_at branch p.0) q) (all_inner g branch ps qs) m
inside-all g branch (p ∷ ps) (q ∷ qs) (suc k) z l b m = member-append_right z (inner_vertices g (branch_at branch p.0) q) (all_inner g branch ps qs) (inside-all g branch ps qs k z (omega arith) (omega arith) m)

-- where these have no repetition, a vertex is inside one path only
pub inside-once : (g : Multigraph) (branch : List ℕ) (pairs : List (ℕ × ℕ)) (paths : List (List ℕ)) (k l z : ℕ) → length paths ≡ length pairs → k < length pairs → l < length pairs → is_distinct (all_inner g branch pairs paths) ≡ true
    → is_member z (inner_vertices g (branch_at branch (get_or pairs k (0, 0)).0) (get_or paths k [])) ≡ true
    → is_member z (inner_vertices g (branch_at branch (get_or pairs l (0, 0)).0) (get_or paths l [])) ≡ true → k ≡ l
inside-once g branch [] paths k l z e b c d m n = absurd (omega arith)
inside-once g branch (p ∷ ps) [] k l z e b c d m n = absurd (omega arith)
inside-once g branch (p ∷ ps) (q ∷ qs) zero zero z e b c d m n = refl
inside-once g branch (p ∷ ps) (q ∷ qs) zero (suc l) z e b c d m n =
    absurd (both_ways (is_member z (all_inner g branch ps qs)) (distinct-append_apart (inner_vertices g (branch_at branch p.0) q) (all_inner g branch ps qs) d z m) (inside-all g branch ps qs l z (omega arith) (omega arith) n))
inside-once g branch (p ∷ ps) (q ∷ qs) (suc k) zero z e b c d m n =
    absurd (both_ways (is_member z (all_inner g branch ps qs)) (distinct-append_apart (inner_vertices g (branch_at branch p.0) q) (all_inner g branch ps qs) d z n) (inside-all g branch ps qs k z (omega arith) (omega arith) m))
inside-once g branch (p ∷ ps) (q ∷ qs) (suc k) (suc l) z e b c d m n =
    ap suc (inside-once g branch ps qs k l z (omega arith) (omega arith) (omega arith) (distinct-append_right (inner_vertices g (branch_at branch p.0) q) (all_inner g branch ps qs) d) m n)

-- where the path between i and j stands in the list of paths
pub record Stands (pairs : List (ℕ × ℕ)) (paths : List (List ℕ)) (i j : ℕ) : Type 0 where
  pub place : ℕ
  pub place_in : place < length pairs
  pub which : (((get_or pairs place (0, 0)).0 ≡ i) × ((get_or pairs place (0, 0)).1 ≡ j) × (path_of_pair pairs paths i j ≡ get_or paths place []))
      ⊎ (((get_or pairs place (0, 0)).0 ≡ j) × ((get_or pairs place (0, 0)).1 ≡ i) × (path_of_pair pairs paths i j ≡ reverse (get_or paths place [])))

-- two numbers of one of the pairs have a path
pub listed-stands : (pairs : List (ℕ × ℕ)) (paths : List (List ℕ)) (i j : ℕ) → length paths ≡ length pairs → is_listed pairs i j ≡ true → Stands pairs paths i j
listed-stands [] paths i j l t = absurd (both_ways false refl t)
listed-stands (p ∷ ps) [] i j l t = absurd (omega arith)
listed-stands (p ∷ ps) (q ∷ qs) i j l t = elim (cases_Bool (p.0 == i && p.1 == j)) [
  | inl a ↦ let w = and_parts (p.0 == i) (p.1 == j) a in record { place = 0; place_in = omega arith; which = inl (eqb-true p.0 i w.0, eqb-true p.1 j w.1, rw a refl) }
  | inr a ↦ elim (cases_Bool (p.0 == j && p.1 == i)) [
    | inl b ↦ let w = and_parts (p.0 == j) (p.1 == i) b in record { place = 0; place_in = omega arith; which = inr (eqb-true p.0 j w.0, eqb-true p.1 i w.1, rw (a, b) refl) }
    | inr b ↦ later a b (listed-stands ps qs i j (omega arith) (remain a b))
  ]
]
  where
    remain : (p.0 == i && p.1 == j) ≡ false → (p.0 == j && p.1 == i) ≡ false → is_listed ps i j ≡ true
    remain a b = elim (or_cases (is_pair p i j) (is_listed ps i j) t) [
      | inl u ↦ absurd (elim (or_cases (p.0 == i && p.1 == j) (p.0 == j && p.1 == i) u) [ inl v ↦ both_ways (p.0 == i && p.1 == j) a v | inr v ↦ both_ways (p.0 == j && p.1 == i) b v ])
      | inr u ↦ u
    ]

    later : (p.0 == i && p.1 == j) ≡ false → (p.0 == j && p.1 == i) ≡ false → Stands ps qs i j → Stands (p ∷ ps) (q ∷ qs) i j
    later a b s = record {
      place = suc (s.place);
      place_in = omega (arith, s.place_in);
      which = elim s.which [
        | inl w ↦ inl (w.0, w.1, skip ∙ w.2)
        | inr w ↦ inr (w.0, w.1, skip ∙ w.2)
      ];
    }
      where
        skip : path_of_pair (p ∷ ps) (q ∷ qs) i j ≡ path_of_pair ps qs i j
        skip = rw (a, b) refl

-- whether no pair is of one number twice
abbrev pub no_loops : List (ℕ × ℕ) → Bool
no_loops [] = true
no_loops (p ∷ ps) = not (p.0 == p.1) && no_loops ps

-- then the path from a vertex to itself has no edge
pub between-self : (pairs : List (ℕ × ℕ)) (paths : List (List ℕ)) (i : ℕ) → no_loops pairs ≡ true → path_of_pair pairs paths i i ≡ []
between-self [] paths i t = refl
between-self (p ∷ ps) [] i t = refl
between-self (p ∷ ps) (q ∷ qs) i t = rw differ (between-self ps qs i (and_parts (not (p.0 == p.1)) (no_loops ps) t).1)
  where
    differ : (p.0 == i && p.1 == i) ≡ false
    differ = false_from_ne_true (p.0 == i && p.1 == i) (λ u. let w = and_parts (p.0 == i) (p.1 == i) u in
        both_ways (p.0 == p.1) (not-true (p.0 == p.1) ((and_parts (not (p.0 == p.1)) (no_loops ps) t).0)) (eq-eqb p.0 p.1 (eqb-true p.0 i w.0 ∙ sym (eqb-true p.1 i w.1))))

-- the pairs of both patterns have different numbers
pub pattern-no_loops : (kind : Pattern) → no_loops (pattern_edges kind) ≡ true
pattern-no_loops K5 = refl
pattern-no_loops K33 = refl

-- the order of the two numbers does not matter
pub listed-turned : (pairs : List (ℕ × ℕ)) (i j : ℕ) → is_listed pairs i j ≡ true → is_listed pairs j i ≡ true
listed-turned [] i j t = t
listed-turned (p ∷ ps) i j t = elim (or_cases (is_pair p i j) (is_listed ps i j) t) [
  | inl u ↦ or_left (is_pair p j i) (is_listed ps j i) (elim (or_cases (p.0 == i && p.1 == j) (p.0 == j && p.1 == i) u) [
    | inl v ↦ or_right (p.0 == j && p.1 == i) (p.0 == i && p.1 == j) v
    | inr v ↦ or_left (p.0 == j && p.1 == i) (p.0 == i && p.1 == j) v
  ])
  | inr u ↦ or_right (is_pair p j i) (is_listed ps j i) (listed-turned ps i j u)
]

-- two vertices of the pattern that are joined, or one vertex twice
abbrev pub is_joined : Pattern → ℕ → ℕ → Bool
is_joined kind i j = is_listed (pattern_edges kind) i j || (i == j)

-- the order does not matter here either
pub joined-turned : (kind : Pattern) (i j : ℕ) → is_joined kind i j ≡ true → is_joined kind j i ≡ true
joined-turned kind i j t = elim (or_cases (is_listed (pattern_edges kind) i j) (i == j) t) [
  | inl u ↦ or_left (is_listed (pattern_edges kind) j i) (j == i) (listed-turned (pattern_edges kind) i j u)
  | inr u ↦ or_right (is_listed (pattern_edges kind) j i) (j == i) (eq-eqb j i (sym (eqb-true i j u)))
]

module _ (g : Multigraph) (kind : Pattern) (branch : List ℕ) (paths : List (List ℕ)) (s : IsSubdivision g kind branch paths) where
  abbrev pairs : List (ℕ × ℕ)
  pairs = pattern_edges kind

  abbrev at : ℕ → ℕ
  at = branch_at branch

  abbrev path : ℕ → ℕ → List ℕ
  path = path_of_pair (pattern_edges kind) paths

  branch_distinct : is_distinct branch ≡ true
  branch_distinct = distinct-append_left branch (all_inner g branch pairs paths) s.apart

  branch_once : (i j : ℕ) → i < branch_count kind → j < branch_count kind → at i ≡ at j → i ≡ j
  branch_once i j a b q = same-place branch i j branch_distinct (omega (arith, s.branches)) (omega (arith, s.branches)) q

  is_branch : (z : ℕ) → is_member z branch ≡ true → IsBranch (branch_count kind) at z
  is_branch z m = let w = contains-from_member branch z m in (w.0, omega (arith, w.1, s.branches), get_or_default branch (w.0) 0 z w.1 ∙ w.2)

  -- the path between i and j, as one of the list
  record Between (i j : ℕ) : Type 0 where
    place : ℕ
    place_in : place < length (pattern_edges kind)
    path_is : IsPath g (at i) (path i j) (at j)
    same : SamePair (pair_at kind place).0 (pair_at kind place).1 i j
    inside : (z : ℕ) → is_member z (walk_vertices g (at i) (path i j)) ≡ true → z ≢ at i → z ≢ at j → is_member z (inner_vertices g (at (pair_at kind place).0) (path_at paths place)) ≡ true

  between : (i j : ℕ) → is_listed (pattern_edges kind) i j ≡ true → Between i j
  between i j t = made (listed-stands pairs paths i j s.one_each t)
    where
      made : Stands pairs paths i j → Between i j
      made w = elim w.which [
        | inl v ↦
            let there : IsPath g (at i) (path_at paths (w.place)) (at j) = subst (λ u. IsPath g (at i) (path_at paths (w.place)) (at u)) v.1 (subst (λ u. IsPath g (at u) (path_at paths (w.place)) (at (pair_at kind (w.place)).1)) v.0 (s.are_paths (w.place) w.place_in)) in
            record {
              place = w.place;
              place_in = w.place_in;
              path_is = subst (λ u. IsPath g (at i) u (at j)) (sym v.2) there;
              same = inl (v.0, v.1);
              inside = λ z m n o. subst (λ u. is_member z (inner_vertices g (at u) (path_at paths (w.place))) ≡ true) (sym v.0)
                  (met-inside g (at i) (path_at paths (w.place)) (at j) z there (subst (λ u. is_member z (walk_vertices g (at i) u) ≡ true) v.2 m) n o);
            }
        | inr v ↦
            let there : IsPath g (at j) (path_at paths (w.place)) (at i) = subst (λ u. IsPath g (at j) (path_at paths (w.place)) (at u)) v.1 (subst (λ u. IsPath g (at u) (path_at paths (w.place)) (at (pair_at kind (w.place)).1)) v.0 (s.are_paths (w.place) w.place_in)) in
            record {
              place = w.place;
              place_in = w.place_in;
              path_is = subst (λ u. IsPath g (at i) u (at j)) (sym v.2) (path-reverse g (at j) (path_at paths (w.place)) (at i) there);
              same = inr (v.0, v.1);
              inside = λ z m n o. subst (λ u. is_member z (inner_vertices g (at u) (path_at paths (w.place))) ≡ true) (sym v.0)
                  (met-inside g (at j) (path_at paths (w.place)) (at i) z there (path-reverse-met g (at j) (path_at paths (w.place)) (at i) there z (subst (λ u. is_member z (walk_vertices g (at i) u) ≡ true) v.2 m)) o n);
            }
      ]

  -- the path from a vertex to itself
  self : (i j : ℕ) → (i == j) ≡ true → (i ≡ j) × (path i j ≡ [])
  self i j t = let q = eqb-true i j t in (q, subst (λ u. path i u ≡ []) q (between-self pairs paths i (pattern-no_loops kind)))

  self-met : (i j z : ℕ) → (i == j) ≡ true → is_member z (walk_vertices g (at i) (path i j)) ≡ true → at i ≡ z
  self-met i j z t m = elim (member-cases z (at i) [] (subst (λ u. is_member z (walk_vertices g (at i) u) ≡ true) ((self i j t).1) m)) [ inl q ↦ q | inr q ↦ absurd (both_ways false refl q) ]

  are_paths : (i j : ℕ) → is_joined kind i j ≡ true → IsPath g (at i) (path i j) (at j)
  are_paths i j t = elim (or_cases (is_listed (pattern_edges kind) i j) (i == j) t) [
    | inl u ↦ (between i j u).path_is
    | inr u ↦ let w = self i j u in subst (λ v. IsPath g (at i) (path i j) (at v)) w.0 (subst (λ v. IsPath g (at i) v (at i)) (sym w.1) (path-none g (at i)))
  ]

  off_branch : (i j k : ℕ) → i < branch_count kind → j < branch_count kind → k < branch_count kind → is_joined kind i j ≡ true → is_member (at k) (walk_vertices g (at i) (path i j)) ≡ true → (k ≡ i) ⊎ (k ≡ j)
  off_branch i j k a b c t m = elim (or_cases (is_listed (pattern_edges kind) i j) (i == j) t) [
    | inr u ↦ inl (branch_once k i c a (sym (self-met i j (at k) u m)))
    | inl u ↦ elim (cases_eq k i) [
      | inl q ↦ inl q
      | inr n ↦ elim (cases_eq k j) [ inl q ↦ inr q | inr o ↦ absurd (hidden n o (between i j u)) ]
    ]
  ]
    where
      hidden : k ≢ i → k ≢ j → Between i j → ⊥
      hidden n o w = both_ways (is_member (at k) (all_inner g branch pairs paths))
          (distinct-append_apart branch (all_inner g branch pairs paths) s.apart (at k) (member-at branch k 0 (omega (arith, s.branches))))
          (inside-all g branch pairs paths (w.place) (at k) s.one_each w.place_in (w.inside (at k) m (λ q. n (branch_once k i c a q)) (λ q. o (branch_once k j c b q))))

  -- pairs that are one pair of the list are the same
  one_pair : (a b i j k l : ℕ) → SamePair a b i j → SamePair a b k l → SamePair i j k l
  one_pair a b i j k l (inl p) (inl q) = inl (sym p.0 ∙ q.0, sym p.1 ∙ q.1)
  one_pair a b i j k l (inl p) (inr q) = inr (sym p.0 ∙ q.0, sym p.1 ∙ q.1)
  one_pair a b i j k l (inr p) (inl q) = inr (sym p.1 ∙ q.1, sym p.0 ∙ q.0)
  one_pair a b i j k l (inr p) (inr q) = inl (sym p.1 ∙ q.1, sym p.0 ∙ q.0)

  apart : (i j k l z : ℕ) → i < branch_count kind → j < branch_count kind → k < branch_count kind → l < branch_count kind → is_joined kind i j ≡ true → is_joined kind k l ≡ true
      → is_member z (walk_vertices g (at i) (path i j)) ≡ true → is_member z (walk_vertices g (at k) (path k l)) ≡ true → SamePair i j k l ⊎ IsBranch (branch_count kind) at z
  apart i j k l z a b c d t u m n = elim (cases_Bool (is_member z branch)) [
    | inl v ↦ inr (is_branch z v)
    | inr v ↦ elim (or_cases (is_listed (pattern_edges kind) i j) (i == j) t) [
      | inr w ↦ inr (i, a, self-met i j z w m)
      | inl w ↦ elim (or_cases (is_listed (pattern_edges kind) k l) (k == l) u) [
        | inr r ↦ inr (k, c, self-met k l z r n)
        | inl r ↦ inl (inner v (between i j w) (between k l r))
      ]
    ]
  ]
    where
      other : is_member z branch ≡ false → (p : ℕ) → p < branch_count kind → z ≢ at p
      other v p o q = both_ways (is_member z branch) v (subst (λ r. is_member r branch ≡ true) (sym q) (member-at branch p 0 (omega (arith, s.branches))))

      inner : is_member z branch ≡ false → Between i j → Between k l → SamePair i j k l
      inner v p q =
          let one : p.place ≡ q.place = inside-once g branch pairs paths (p.place) (q.place) z s.one_each p.place_in q.place_in (distinct-append_right branch (all_inner g branch pairs paths) s.apart)
          (p.inside z m (other v i a) (other v j b)) (q.inside z n (other v k c) (other v l d)) in
          one_pair (pair_at kind (p.place)).0 (pair_at kind (p.place)).1 i j k l p.same (subst (λ r. SamePair (pair_at kind r).0 (pair_at kind r).1 k l) (sym one) q.same)

  -- a subdivision is a system of paths
  pub subdivision-system : IsPathSystem g (branch_count kind) (is_joined kind) at path
  subdivision-system = record {
    branch_in = s.branch_in;
    branch_once = branch_once;
    are_paths = λ i j a b t. are_paths i j t;
    off_branch = off_branch;
    apart = apart;
  }
