-- A subdivision with its branch vertices in another order is one.
use Rattle.std.proofs.Common.{◌≡◌, ℕ, zero, suc, ◌<◌, ◌⊎◌, inl, inr, Bool, true, ◌&&◌, ◌==◌, ltb, if◌then◌else◌, List, [], ◌∷◌, length, get_or, reverse, refl, sym, ap, ◌∙◌, subst, arith}
use Rattle.std.proofs.lemmas.Bool.{cases_Bool, cases_eq, and_parts, or_cases, ltb-true, lt-ltb, le-ltb, eqb-true}
use Rattle.std.proofs.lemmas.List.{length-map, get_or-map}
use Rattle.permutations.specs.Members.{is_member, place_of}
use Rattle.permutations.proofs.Places.{place-below, place-holds, same-place}
use Rattle.multigraph.specs.Graph.{Multigraph}
use Rattle.graph_theory.specs.Path.{walk_vertices, IsPath}
use Rattle.graph_theory.proofs.Paths.{path-reverse, path-reverse-met}
use Rattle.kuratowski.specs.declared.subdivision.Pattern.{Pattern}
use Rattle.kuratowski.specs.declared.subdivision.Pattern.TheVariants.{K5, K33}
use Rattle.kuratowski.specs.Subdivision.{branch_count, pattern_edges, branch_at, path_at, pair_at, IsSubdivision}
use Rattle.kuratowski.specs.Reordering.{pair_place, are_joined, path_between, reordered_paths, IsReordering}
use Rattle.kuratowski.proofs.Checked.{pair-rises}
use Rattle.kuratowski.proofs.Meetings.{vertices_at, branch-member, subdivision-meetings, subdivision-from_meetings}

-- at the place of a pair of the list stands this pair
pub pair-first : (pairs : List (ℕ × ℕ)) (i j : ℕ) → pair_place pairs i j < length pairs → (get_or pairs (pair_place pairs i j) (0, 0)).0 ≡ i
pair-first [] i j l = absurd (omega arith)
pair-first (pair ∷ pairs) i j l = elim (cases_Bool ((pair.0 == i) && (pair.1 == j))) [
  | inl e ↦ rw e (eqb-true pair.0 i (and_parts (pair.0 == i) (pair.1 == j) e).0)
  | inr n ↦ rw n (let t = rw n at l in pair-first pairs i j (omega arith))
]

-- also in its second part
pub pair-second : (pairs : List (ℕ × ℕ)) (i j : ℕ) → pair_place pairs i j < length pairs → (get_or pairs (pair_place pairs i j) (0, 0)).1 ≡ j
pair-second [] i j l = absurd (omega arith)
pair-second (pair ∷ pairs) i j l = elim (cases_Bool ((pair.0 == i) && (pair.1 == j))) [
  | inl e ↦ rw e (eqb-true pair.1 j (and_parts (pair.0 == i) (pair.1 == j) e).1)
  | inr n ↦ rw n (let t = rw n at l in pair-second pairs i j (omega arith))
]

-- whether each number below n passes
unfoldable pub all_below : ℕ → (ℕ → Bool) → Bool
all_below zero p = true
all_below (suc n) p = p n && all_below n p

-- where each passes, this one does
pub below-passes : (n : ℕ) (p : ℕ → Bool) → all_below n p ≡ true → (k : ℕ) → k < n → p k ≡ true
unfolding all_below
below-passes zero p h k l = absurd (omega arith)
below-passes (suc n) p h k l = elim (cases_eq k n) [
  | inl e ↦ ap p e ∙ (and_parts (p n) (all_below n p) h).0
  | inr e ↦ below-passes n p (and_parts (p n) (all_below n p) h).1 k (omega arith)
]

-- the pair at place k of the pattern has this place
pair-place : (kind : Pattern) (k : ℕ) → k < length (pattern_edges kind) → pair_place (pattern_edges kind) (pair_at kind k).0 (pair_at kind k).1 ≡ k
unfolding all_below
pair-place K5 k l = eqb-true (pair_place (pattern_edges K5) (pair_at K5 k).0 (pair_at K5 k).1) k (below-passes 10 (λ k. pair_place (pattern_edges K5) (pair_at K5 k).0 (pair_at K5 k).1 == k) refl k l)
pair-place K33 k l = eqb-true (pair_place (pattern_edges K33) (pair_at K33 k).0 (pair_at K33 k).1) k (below-passes 9 (λ k. pair_place (pattern_edges K33) (pair_at K33 k).0 (pair_at K33 k).1 == k) refl k l)

-- the pattern has each of its edges once
pub pair-once : (kind : Pattern) (k j : ℕ) → k < length (pattern_edges kind) → j < length (pattern_edges kind) → (pair_at kind k).0 ≡ (pair_at kind j).0 → (pair_at kind k).1 ≡ (pair_at kind j).1 → k ≡ j
pair-once kind k j lk lj a b = sym (pair-place kind k lk) ∙ (λ i. pair_place (pattern_edges kind) (a i) (b i)) ∙ pair-place kind j lj

-- the path from the one to the other of two branch vertices that the pattern joins, as an edge of the pattern and its path
record Between (g : Multigraph) (kind : Pattern) (branch : List ℕ) (paths : List (List ℕ)) (a b x y : ℕ) : Type 0 where
  pub edge : ℕ
  pub edge_in : edge < length (pattern_edges kind)
  pub path : IsPath g x (path_between kind paths a b) y
  pub met : (z : ℕ) → is_member z (walk_vertices g x (path_between kind paths a b)) ≡ true → is_member z (vertices_at g kind branch paths edge) ≡ true
  pub ends : (((pair_at kind edge).0 ≡ a) × ((pair_at kind edge).1 ≡ b)) ⊎ (((pair_at kind edge).0 ≡ b) × ((pair_at kind edge).1 ≡ a))

-- there is one between each two that the pattern joins
between : (g : Multigraph) (kind : Pattern) (branch : List ℕ) (paths : List (List ℕ)) → IsSubdivision g kind branch paths → (a b x y : ℕ) → branch_at branch a ≡ x → branch_at branch b ≡ y → are_joined kind a b ≡ true → Between g kind branch paths a b x y
between g kind branch paths s a b x y ax by j = elim (or_cases (ltb (pair_place (pattern_edges kind) a b) (length (pattern_edges kind))) (ltb (pair_place (pattern_edges kind) b a) (length (pattern_edges kind))) j) [
  | inl h ↦ forth (pair_place (pattern_edges kind) a b) (ltb-true (pair_place (pattern_edges kind) a b) (length (pattern_edges kind)) h) refl
  | inr h ↦ back (pair_place (pattern_edges kind) b a) (ltb-true (pair_place (pattern_edges kind) b a) (length (pattern_edges kind)) h) refl
]
  where
    forth : (e : ℕ) → e < length (pattern_edges kind) → pair_place (pattern_edges kind) a b ≡ e → Between g kind branch paths a b x y
    forth e l q = record {
      edge = e;
      edge_in = l;
      path = subst (λ (es : List ℕ). IsPath g x es y) (sym is) (subst (λ (v : ℕ). IsPath g v (path_at paths e) y) px (subst (λ (v : ℕ). IsPath g (branch_at branch (pair_at kind e).0) (path_at paths e) v) py (s.are_paths e l)));
      met = λ z m. subst (λ (v : ℕ). is_member z (walk_vertices g v (path_at paths e)) ≡ true) (sym px) (subst (λ (es : List ℕ). is_member z (walk_vertices g x es) ≡ true) is m);
      ends = inl (p0, p1);
    }
      where
        p0 : (pair_at kind e).0 ≡ a
        p0 = subst (λ (v : ℕ). (pair_at kind v).0 ≡ a) q (pair-first (pattern_edges kind) a b (omega arith))

        p1 : (pair_at kind e).1 ≡ b
        p1 = subst (λ (v : ℕ). (pair_at kind v).1 ≡ b) q (pair-second (pattern_edges kind) a b (omega arith))

        px : branch_at branch (pair_at kind e).0 ≡ x
        px = ap (branch_at branch) p0 ∙ ax

        py : branch_at branch (pair_at kind e).1 ≡ y
        py = ap (branch_at branch) p1 ∙ by

        less : a < b
        less = subst (λ (v : ℕ). v < b) p0 (subst (λ (v : ℕ). (pair_at kind e).0 < v) p1 (pair-rises kind e l).0)

        is : path_between kind paths a b ≡ path_at paths e
        is = ap (λ (c : Bool). if c then path_at paths (pair_place (pattern_edges kind) a b) else reverse (path_at paths (pair_place (pattern_edges kind) b a))) (lt-ltb a b less) ∙ ap (path_at paths) q

    back : (e : ℕ) → e < length (pattern_edges kind) → pair_place (pattern_edges kind) b a ≡ e → Between g kind branch paths a b x y
    back e l q = record {
      edge = e;
      edge_in = l;
      path = subst (λ (es : List ℕ). IsPath g x es y) (sym is) (path-reverse g y (path_at paths e) x p);
      met = λ z m. subst (λ (v : ℕ). is_member z (walk_vertices g v (path_at paths e)) ≡ true) (sym py) (path-reverse-met g y (path_at paths e) x p z (subst (λ (es : List ℕ). is_member z (walk_vertices g x es) ≡ true) is m));
      ends = inr (p0, p1);
    }
      where
        p0 : (pair_at kind e).0 ≡ b
        p0 = subst (λ (v : ℕ). (pair_at kind v).0 ≡ b) q (pair-first (pattern_edges kind) b a (omega arith))

        p1 : (pair_at kind e).1 ≡ a
        p1 = subst (λ (v : ℕ). (pair_at kind v).1 ≡ a) q (pair-second (pattern_edges kind) b a (omega arith))

        py : branch_at branch (pair_at kind e).0 ≡ y
        py = ap (branch_at branch) p0 ∙ by

        px : branch_at branch (pair_at kind e).1 ≡ x
        px = ap (branch_at branch) p1 ∙ ax

        p : IsPath g y (path_at paths e) x
        p = subst (λ (v : ℕ). IsPath g v (path_at paths e) x) py (subst (λ (v : ℕ). IsPath g (branch_at branch (pair_at kind e).0) (path_at paths e) v) px (s.are_paths e l))

        not_less : b < a
        not_less = subst (λ (v : ℕ). v < a) p0 (subst (λ (v : ℕ). (pair_at kind e).0 < v) p1 (pair-rises kind e l).0)

        is : path_between kind paths a b ≡ reverse (path_at paths e)
        is = ap (λ (c : Bool). if c then path_at paths (pair_place (pattern_edges kind) a b) else reverse (path_at paths (pair_place (pattern_edges kind) b a))) (le-ltb a b (omega (arith, not_less))) ∙ ap (λ (k : ℕ). reverse (path_at paths k)) q

-- a subdivision with its branch vertices in another order, and the paths that belong to it, is one
pub reordered-subdivision : (g : Multigraph) (kind : Pattern) (branch : List ℕ) (paths : List (List ℕ)) (order : List ℕ) → IsSubdivision g kind branch paths → IsReordering kind branch order → IsSubdivision g kind order (reordered_paths kind branch paths order)
reordered-subdivision g kind branch paths order s o =
    subdivision-from_meetings g kind order paths' o.count branch_in (length-map (pattern_edges kind) from_pair)
    (λ k l. subst (λ (es : List ℕ). IsPath g (branch_at order (pair_at kind k).0) es (branch_at order (pair_at kind k).1)) (sym (path_is k l)) (old k l).path)
    record {
      branches = o.distinct;
      ends = ends;
      common = λ k j lk lj n z mk mj.
          o.members z ∙ (subdivision-meetings g kind branch paths s).common (old k lk).edge (old j lj).edge (old k lk).edge_in (old j lj).edge_in (λ e. n (same k j lk lj e)) z (old_met k lk z mk) (old_met j lj z mj);
    }
  where
    place : ℕ → ℕ
    place i = place_of branch (branch_at order i)

    from_pair : ℕ × ℕ → List ℕ
    from_pair = λ (pair : ℕ × ℕ). path_between kind paths (place_of branch (branch_at order pair.0)) (place_of branch (branch_at order pair.1))

    paths' : List (List ℕ)
    paths' = reordered_paths kind branch paths order

    path_is : (k : ℕ) → k < length (pattern_edges kind) → path_at paths' k ≡ path_between kind paths (place (pair_at kind k).0) (place (pair_at kind k).1)
    path_is k l = get_or-map from_pair (pattern_edges kind) k (0, 0) [] l

    member : (i : ℕ) → i < branch_count kind → is_member (branch_at order i) branch ≡ true
    member i l = sym (o.members (branch_at order i)) ∙ branch-member kind order o.count i l

    stands : (i : ℕ) → i < branch_count kind → branch_at branch (place i) ≡ branch_at order i
    stands i l = place-holds branch (branch_at order i) (member i l)

    branch_in : (i : ℕ) → i < branch_count kind → branch_at order i < g.vertex_count
    branch_in i l = subst (λ (v : ℕ). v < g.vertex_count) (stands i l) (s.branch_in (place i) (subst (λ (c : ℕ). place i < c) s.branches (place-below branch (branch_at order i) (member i l))))

    first : (k : ℕ) → k < length (pattern_edges kind) → (pair_at kind k).0 < branch_count kind
    first k l = let r = pair-rises kind k l in omega arith

    old : (k : ℕ) → k < length (pattern_edges kind) → Between g kind branch paths (place (pair_at kind k).0) (place (pair_at kind k).1) (branch_at order (pair_at kind k).0) (branch_at order (pair_at kind k).1)
    old k l =
        between g kind branch paths s (place (pair_at kind k).0) (place (pair_at kind k).1) (branch_at order (pair_at kind k).0) (branch_at order (pair_at kind k).1)
        (stands (pair_at kind k).0 (first k l)) (stands (pair_at kind k).1 (pair-rises kind k l).1) (o.joined k l)

    old_met : (k : ℕ) (l : k < length (pattern_edges kind)) (z : ℕ) → is_member z (vertices_at g kind order paths' k) ≡ true → is_member z (vertices_at g kind branch paths (old k l).edge) ≡ true
    old_met k l z m = (old k l).met z (subst (λ (es : List ℕ). is_member z (walk_vertices g (branch_at order (pair_at kind k).0) es) ≡ true) (path_is k l) m)

    ends : (k : ℕ) → k < length (pattern_edges kind) → (z : ℕ) → is_member z (vertices_at g kind order paths' k) ≡ true → is_member z order ≡ true → (branch_at order (pair_at kind k).0 ≡ z) ⊎ (branch_at order (pair_at kind k).1 ≡ z)
    ends k l z m b = elim ((subdivision-meetings g kind branch paths s).ends (old k l).edge (old k l).edge_in z (old_met k l z m) (sym (o.members z) ∙ b)) [
      | inl e ↦ elim (old k l).ends [ inl q ↦ inl (sym (stands (pair_at kind k).0 (first k l)) ∙ ap (branch_at branch) (sym q.0) ∙ e) | inr q ↦ inr (sym (stands (pair_at kind k).1 (pair-rises kind k l).1) ∙ ap (branch_at branch) (sym q.0) ∙ e) ]
      | inr e ↦ elim (old k l).ends [ inl q ↦ inr (sym (stands (pair_at kind k).1 (pair-rises kind k l).1) ∙ ap (branch_at branch) (sym q.1) ∙ e) | inr q ↦ inl (sym (stands (pair_at kind k).0 (first k l)) ∙ ap (branch_at branch) (sym q.1) ∙ e) ]
    ]

    same_place : (i j : ℕ) → i < branch_count kind → j < branch_count kind → place i ≡ place j → i ≡ j
    same_place i j a b e =
        same-place order i j o.distinct (subst (λ (c : ℕ). i < c) (sym o.count) a) (subst (λ (c : ℕ). j < c) (sym o.count) b)
        (sym (stands i a) ∙ ap (branch_at branch) e ∙ stands j b)

    same : (k j : ℕ) (lk : k < length (pattern_edges kind)) (lj : j < length (pattern_edges kind)) → (old k lk).edge ≡ (old j lj).edge → k ≡ j
    same k j lk lj e = elim (old k lk).ends [
      | inl p ↦ elim (old j lj).ends [
        | inl q ↦ straight (sym p.0 ∙ ap (λ (v : ℕ). (pair_at kind v).0) e ∙ q.0) (sym p.1 ∙ ap (λ (v : ℕ). (pair_at kind v).1) e ∙ q.1)
        | inr q ↦ crossed (sym p.0 ∙ ap (λ (v : ℕ). (pair_at kind v).0) e ∙ q.0) (sym p.1 ∙ ap (λ (v : ℕ). (pair_at kind v).1) e ∙ q.1)
      ]
      | inr p ↦ elim (old j lj).ends [
        | inl q ↦ crossed (sym p.1 ∙ ap (λ (v : ℕ). (pair_at kind v).1) e ∙ q.1) (sym p.0 ∙ ap (λ (v : ℕ). (pair_at kind v).0) e ∙ q.0)
        | inr q ↦ straight (sym p.1 ∙ ap (λ (v : ℕ). (pair_at kind v).1) e ∙ q.1) (sym p.0 ∙ ap (λ (v : ℕ). (pair_at kind v).0) e ∙ q.0)
      ]
    ]
      where
        straight : place (pair_at kind k).0 ≡ place (pair_at kind j).0 → place (pair_at kind k).1 ≡ place (pair_at kind j).1 → k ≡ j
        straight a b = pair-once kind k j lk lj (same_place (pair_at kind k).0 (pair_at kind j).0 (first k lk) (first j lj) a) (same_place (pair_at kind k).1 (pair_at kind j).1 (pair-rises kind k lk).1 (pair-rises kind j lj).1 b)

        crossed : place (pair_at kind k).0 ≡ place (pair_at kind j).1 → place (pair_at kind k).1 ≡ place (pair_at kind j).0 → k ≡ j
        crossed a b =
            let u : (pair_at kind k).0 ≡ (pair_at kind j).1 = same_place (pair_at kind k).0 (pair_at kind j).1 (first k lk) (pair-rises kind j lj).1 a in
            let v : (pair_at kind k).1 ≡ (pair_at kind j).0 = same_place (pair_at kind k).1 (pair_at kind j).0 (pair-rises kind k lk).1 (first j lj) b in
            absurd (turned (pair_at kind k).0 (pair_at kind k).1 (pair_at kind j).0 (pair_at kind j).1 (pair-rises kind k lk).0 (pair-rises kind j lj).0 u v)
          where
            turned : (p q r t : ℕ) → p < q → r < t → p ≡ t → q ≡ r → ⊥
            turned p q r t a b u v = absurd (omega arith)
