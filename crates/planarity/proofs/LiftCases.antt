-- A subdivision of a graph with an edge contracted is lifted to a subdivision of the graph.
use Rattle.std.proofs.Common.{◌≡◌, ◌≢◌, ℕ, zero, suc, ◌+◌, ◌<◌, ◌≤◌, inl, inr, Bool, true, false, not, ◌==◌, List, [], ◌∷◌, length, map, refl, sym, ◌∙◌, subst, arith}
use Rattle.std.proofs.lemmas.Bool.{cases_Bool, cases_lt, both_ways, false_from_ne_true, or_cases, not-true, not_from_false, eq-eqb, eqb-true}
use Rattle.std.proofs.lemmas.List.{get_or_default}
use Rattle.std.proofs.lemmas.List.Filters.{length-filter_both}
use Rattle.permutations.specs.Count.{least}
use Rattle.permutations.specs.Members.{is_member, is_distinct}
use Rattle.permutations.proofs.Search.{some-from, least-below, least-passes}
use Rattle.permutations.proofs.Members.{member-head, member-tail, member-cases, distinct-head}
use Rattle.permutations.proofs.Filter.{filter-member, member-filter_parts, distinct-filter}
use Rattle.permutations.proofs.Arrangements.{member-at, contains-from_member, member-from_contains}
use Rattle.multigraph.specs.Graph.{Multigraph, IsGraph}
use Rattle.multigraph.proofs.Below.{filter_below-has, filter_below-only}
use Rattle.multigraph.proofs.OtherEnd.{end-in}
use Rattle.rotations.proofs.Membership.{distinct-filter_below}
use Rattle.contractions.specs.Contraction.{IsContraction}
use Rattle.kuratowski.specs.declared.subdivision.Pattern.{Pattern}
use Rattle.kuratowski.specs.declared.subdivision.Pattern.TheVariants.{K5, K33}
use Rattle.kuratowski.specs.Subdivision.{branch_count, pattern_edges, branch_at, IsSubdivision}
pub use Rattle.planarity.specs.Lift.{HasSubdivision}
use Rattle.planarity.specs.Lift.{touches, path_of_pair, is_listed, spokes, leaves_by, spokes_on, spokes_off, lifted_branch, lifted_paths, split_branch, split_paths}
use Rattle.planarity.proofs.LiftPath.{two_ends}
use Rattle.planarity.proofs.LiftSystem.{IsPathSystem, IsContractedEnd}
use Rattle.planarity.proofs.LiftPairs.{is_joined, between-self, pattern-no_loops, subdivision-system}
use Rattle.planarity.proofs.LiftSpokes.{touches-one}
use Rattle.planarity.proofs.LiftFoot.{foot-subdivision}
use Rattle.planarity.proofs.LiftSplit.{split-subdivision}

-- the one given
pub subdivided : {g : Multigraph} {kind : Pattern} {branch : List ℕ} {paths : List (List ℕ)} → IsSubdivision g kind branch paths → HasSubdivision g
subdivided {g} {kind} {branch} {paths} s = record { kind = kind; branch = branch; paths = paths; is = s }

-- members of a list of at most one are one
pub one-member : (l : List ℕ) (i j : ℕ) → length l ≤ 1 → is_member i l ≡ true → is_member j l ≡ true → i ≡ j
one-member [] i j l m n = absurd (both_ways false refl m)
one-member (a ∷ []) i j l m n = elim (member-cases i a [] m) [
  | inl u ↦ elim (member-cases j a [] n) [ inl v ↦ sym u ∙ v | inr v ↦ absurd (both_ways false refl v) ]
  | inr u ↦ absurd (both_ways false refl u)
]
one-member (a ∷ (b ∷ k)) i j l m n = absurd (omega arith)

-- a list of two
pub two-members : (l : List ℕ) → length l ≡ 2 → (a : ℕ) × (b : ℕ) × (l ≡ a ∷ b ∷ [])
two-members [] e = absurd (omega arith)
two-members (a ∷ []) e = absurd (omega arith)
two-members (a ∷ (b ∷ [])) e = (a, b, refl)
two-members (a ∷ (b ∷ (c ∷ l))) e = absurd (omega arith)

-- a vertex of K3,3 is joined with three others, one of K5 with four
pub spokes-three : (m : ℕ) → m < 6 → length (spokes K33 m) ≡ 3
spokes-three zero l = refl
spokes-three (suc zero) l = refl
spokes-three (suc (suc zero)) l = refl
spokes-three (suc (suc (suc zero))) l = refl
spokes-three (suc (suc (suc (suc zero)))) l = refl
spokes-three (suc (suc (suc (suc (suc zero))))) l = refl
spokes-three (suc (suc (suc (suc (suc (suc m)))))) l = absurd (omega arith)

pub spokes-four : (m : ℕ) → m < 5 → length (spokes K5 m) ≡ 4
spokes-four zero l = refl
spokes-four (suc zero) l = refl
spokes-four (suc (suc zero)) l = refl
spokes-four (suc (suc (suc zero))) l = refl
spokes-four (suc (suc (suc (suc zero)))) l = refl
spokes-four (suc (suc (suc (suc (suc m))))) l = absurd (omega arith)

-- who is joined with m is another, and one of those joined with it
pub spoke-parts : (kind : Pattern) (m i : ℕ) → is_member i (spokes kind m) ≡ true → (i < branch_count kind) × (is_listed (pattern_edges kind) m i ≡ true)
spoke-parts kind m i u = filter_below-only (is_listed (pattern_edges kind) m) (branch_count kind) i (contains-from_member (spokes kind m) i u)

pub spoke-from : (kind : Pattern) (m i : ℕ) → i < branch_count kind → is_listed (pattern_edges kind) m i ≡ true → is_member i (spokes kind m) ≡ true
spoke-from kind m i l t = member-from_contains (spokes kind m) i (filter_below-has (is_listed (pattern_edges kind) m) (branch_count kind) i l t)

-- no vertex of K5 is joined with itself
not_listed : (m i : ℕ) → m < 5 → is_listed (pattern_edges K5) m i ≡ true → m ≢ i
not_listed m i l t q = both_ways (is_listed (pattern_edges K5) m m) (self m l) (subst (λ z. is_listed (pattern_edges K5) m z ≡ true) (sym q) t)
  where
    self : (m : ℕ) → m < 5 → is_listed (pattern_edges K5) m m ≡ false
    self zero l = refl
    self (suc zero) l = refl
    self (suc (suc zero)) l = refl
    self (suc (suc (suc zero))) l = refl
    self (suc (suc (suc (suc zero)))) l = refl
    self (suc (suc (suc (suc (suc m))))) l = absurd (omega arith)

module _ (g h : Multigraph) (e x y : ℕ) (edge vertex : ℕ → ℕ) (og : IsGraph g) (oh : IsGraph h) (c : IsContraction g h e x y edge vertex)
    (back : ℕ → ℕ) (back_in : (v : ℕ) → v < h.vertex_count → back v < g.vertex_count) (back_is : (v : ℕ) → v < h.vertex_count → vertex (back v) ≡ v)
    (kind : Pattern) (branch : List ℕ) (paths : List (List ℕ)) (s : IsSubdivision h kind branch paths) where
  abbrev on : ℕ → ℕ → Bool
  on m i = leaves_by g edge kind paths y m i

  system : IsPathSystem h (branch_count kind) (is_joined kind) (branch_at branch) (path_of_pair (pattern_edges kind) paths)
  system = subdivision-system h kind branch paths s

  merged_in : (z : ℕ) → IsContractedEnd x y z → z < g.vertex_count
  merged_in z o = end-in g z e og c.edge_in (two_ends g h e x y edge vertex og oh c z o)

  -- a path that touches something is one to another vertex
  touched_spoke : (m i z : ℕ) → i < branch_count kind → is_joined kind m i ≡ true → leaves_by g edge kind paths z m i ≡ true → is_member i (spokes kind m) ≡ true
  touched_spoke m i z l t u = elim (or_cases (is_listed (pattern_edges kind) m i) (m == i) t) [
    | inl v ↦ spoke-from kind m i l v
    | inr v ↦ absurd (both_ways false refl (subst (λ k. touches g z (map edge k) ≡ true) (between-self (pattern_edges kind) paths m (pattern-no_loops kind)) (subst (λ k. leaves_by g edge kind paths z m k ≡ true) (sym (eqb-true m i v)) u)))
  ]

  -- the edge's vertex is no branch vertex
  pub lift-none : is_member (vertex x) branch ≡ false → IsSubdivision g kind (lifted_branch (vertex x) x back branch) (lifted_paths g e edge kind paths (lifted_branch (vertex x) x back branch))
  lift-none n =
      foot-subdivision g h e x y edge vertex og oh c kind branch paths s back back_in back_is x (merged_in x (inl refl)) (inl refl)
      (λ m i j z l a k b t u o f v w. absurd (both_ways (is_member (vertex x) branch) n (subst (λ k. is_member k branch ≡ true) a (member-at branch m 0 (omega (arith, s.branches))))))

  -- at most one path at it begins at y
  pub lift-first : (m : ℕ) → m < branch_count kind → branch_at branch m ≡ vertex x → length (spokes_on g edge kind paths y m) ≤ 1 → IsSubdivision g kind (lifted_branch (vertex x) x back branch) (lifted_paths g e edge kind paths (lifted_branch (vertex x) x back branch))
  lift-first m0 l0 a0 few =
      foot-subdivision g h e x y edge vertex og oh c kind branch paths s back back_in back_is x (merged_in x (inl refl)) (inl refl) at_most
    where
      at_most : (m i j z : ℕ) → m < branch_count kind → branch_at branch m ≡ vertex x → i < branch_count kind → j < branch_count kind → is_joined kind m i ≡ true → is_joined kind m j ≡ true → IsContractedEnd x y z → z ≢ x
          → leaves_by g edge kind paths z m i ≡ true → leaves_by g edge kind paths z m j ≡ true → i ≡ j
      at_most m i j z l a k b t u (inl o) f v w = absurd (f o)
      at_most m i j z l a k b t u (inr o) f v w = one-member (spokes_on g edge kind paths y m) i j (subst (λ n. length (spokes_on g edge kind paths y n) ≤ 1) (system.branch_once m0 m l0 l (a0 ∙ sym a)) few) (found i k t v) (found j b u w)
        where
          found : (i : ℕ) → i < branch_count kind → is_joined kind m i ≡ true → leaves_by g edge kind paths z m i ≡ true → is_member i (spokes_on g edge kind paths y m) ≡ true
          found i k t v = filter-member (λ i. leaves_by g edge kind paths y m i) (spokes kind m) i (touched_spoke m i z k t v) (subst (λ q. leaves_by g edge kind paths q m i ≡ true) o v)

  -- a path at it begins at one of the two
  one_end : (m i : ℕ) → m < branch_count kind → i < branch_count kind → branch_at branch m ≡ vertex x → is_joined kind m i ≡ true → leaves_by g edge kind paths x m i ≡ true → not (leaves_by g edge kind paths y m i) ≡ true
  one_end m i l k a t u = not_from_false (on m i) (false_from_ne_true (on m i) (λ v. touches-one g h e x y edge vertex og oh c (branch_at branch m) (path_of_pair (pattern_edges kind) paths m i) (branch_at branch i) (system.are_paths m i l k t) a u v))

  -- at most one path at it begins at x
  pub lift-second : (m : ℕ) → m < branch_count kind → branch_at branch m ≡ vertex x → length (spokes_off g edge kind paths y m) ≤ 1 → IsSubdivision g kind (lifted_branch (vertex x) y back branch) (lifted_paths g e edge kind paths (lifted_branch (vertex x) y back branch))
  lift-second m0 l0 a0 few =
      foot-subdivision g h e x y edge vertex og oh c kind branch paths s back back_in back_is y (merged_in y (inr refl)) (inr refl) at_most
    where
      at_most : (m i j z : ℕ) → m < branch_count kind → branch_at branch m ≡ vertex x → i < branch_count kind → j < branch_count kind → is_joined kind m i ≡ true → is_joined kind m j ≡ true → IsContractedEnd x y z → z ≢ y
          → leaves_by g edge kind paths z m i ≡ true → leaves_by g edge kind paths z m j ≡ true → i ≡ j
      at_most m i j z l a k b t u (inr o) f v w = absurd (f o)
      at_most m i j z l a k b t u (inl o) f v w = one-member (spokes_off g edge kind paths y m) i j (subst (λ n. length (spokes_off g edge kind paths y n) ≤ 1) (system.branch_once m0 m l0 l (a0 ∙ sym a)) few) (found i k t v) (found j b u w)
        where
          found : (i : ℕ) → i < branch_count kind → is_joined kind m i ≡ true → leaves_by g edge kind paths z m i ≡ true → is_member i (spokes_off g edge kind paths y m) ≡ true
          found i k t v = filter-member (λ i. not (leaves_by g edge kind paths y m i)) (spokes kind m) i (touched_spoke m i z k t v) (one_end m i l k a t (subst (λ q. leaves_by g edge kind paths q m i ≡ true) o v))

  -- each path at it begins at y, or does not
  pub spokes-both : (m : ℕ) → length (spokes_on g edge kind paths y m) + length (spokes_off g edge kind paths y m) ≡ length (spokes kind m)
  spokes-both m = length-filter_both (λ i. leaves_by g edge kind paths y m i) (λ i. not (leaves_by g edge kind paths y m i)) (λ i. refl) (spokes kind m)

module _ (g h : Multigraph) (e x y : ℕ) (edge vertex : ℕ → ℕ) (og : IsGraph g) (oh : IsGraph h) (c : IsContraction g h e x y edge vertex)
    (back : ℕ → ℕ) (back_in : (v : ℕ) → v < h.vertex_count → back v < g.vertex_count) (back_is : (v : ℕ) → v < h.vertex_count → vertex (back v) ≡ v) where
  -- K5, two paths at the edge's vertex begin at y, and two at x
  pub lift-four : (branch : List ℕ) (paths : List (List ℕ)) (s : IsSubdivision h K5 branch paths) (m p q r t : ℕ) → m < 5 → branch_at branch m ≡ vertex x
      → spokes_off g edge K5 paths y m ≡ p ∷ q ∷ [] → spokes_on g edge K5 paths y m ≡ r ∷ t ∷ []
      → IsSubdivision g K33 (split_branch x y back branch p q r t) (split_paths g e edge paths m p q r t (split_branch x y back branch p q r t))
  lift-four branch paths s m p q r t l a miss hit =
      split-subdivision g h e x y edge vertex og oh c branch paths s back back_in back_is m p q r t
      l (pp.0).0 (qq.0).0 (rr.0).0 (tt'.0).0 a (not_listed m p l (pp.0).1) (not_listed m q l (qq.0).1)
      (two_differ p q (subst (λ k. is_distinct k ≡ true) miss (distinct-filter (λ i. not (leaves_by g edge K5 paths y m i)) (spokes K5 m) (distinct-filter_below (is_listed (pattern_edges K5) m) 5))))
      (two_differ r t (subst (λ k. is_distinct k ≡ true) hit (distinct-filter (λ i. leaves_by g edge K5 paths y m i) (spokes K5 m) (distinct-filter_below (is_listed (pattern_edges K5) m) 5))))
      (not-true (leaves_by g edge K5 paths y m p) pp.1) (not-true (leaves_by g edge K5 paths y m q) qq.1) rr.1 tt'.1
    where
      two_differ : (a b : ℕ) → is_distinct (a ∷ b ∷ []) ≡ true → a ≢ b
      two_differ a b d q = both_ways (is_member a (b ∷ [])) (distinct-head a (b ∷ []) d) (subst (λ k. is_member k (b ∷ []) ≡ true) (sym q) (member-head b []))

      from_off : (i : ℕ) → is_member i (p ∷ q ∷ []) ≡ true → ((i < 5) × (is_listed (pattern_edges K5) m i ≡ true)) × (not (leaves_by g edge K5 paths y m i) ≡ true)
      from_off i u = let w = member-filter_parts (λ i. not (leaves_by g edge K5 paths y m i)) (spokes K5 m) i (subst (λ k. is_member i k ≡ true) (sym miss) u) in (spoke-parts K5 m i w.0, w.1)

      from_on : (i : ℕ) → is_member i (r ∷ t ∷ []) ≡ true → ((i < 5) × (is_listed (pattern_edges K5) m i ≡ true)) × (leaves_by g edge K5 paths y m i ≡ true)
      from_on i u = let w = member-filter_parts (λ i. leaves_by g edge K5 paths y m i) (spokes K5 m) i (subst (λ k. is_member i k ≡ true) (sym hit) u) in (spoke-parts K5 m i w.0, w.1)

      pp : ((p < 5) × (is_listed (pattern_edges K5) m p ≡ true)) × (not (leaves_by g edge K5 paths y m p) ≡ true)
      pp = from_off p (member-head p (q ∷ []))

      qq : ((q < 5) × (is_listed (pattern_edges K5) m q ≡ true)) × (not (leaves_by g edge K5 paths y m q) ≡ true)
      qq = from_off q (member-tail q p (q ∷ []) (member-head q []))

      rr : ((r < 5) × (is_listed (pattern_edges K5) m r ≡ true)) × (leaves_by g edge K5 paths y m r ≡ true)
      rr = from_on r (member-head r (t ∷ []))

      tt' : ((t < 5) × (is_listed (pattern_edges K5) m t ≡ true)) × (leaves_by g edge K5 paths y m t ≡ true)
      tt' = from_on t (member-tail t r (t ∷ []) (member-head t []))

  -- the edge's vertex is a branch vertex
  lift-branch : (kind : Pattern) (branch : List ℕ) (paths : List (List ℕ)) → IsSubdivision h kind branch paths → (m : ℕ) → m < branch_count kind → branch_at branch m ≡ vertex x → HasSubdivision g
  lift-branch K33 branch paths s m l a = elim (cases_lt (length on) 2) [
    | inl u ↦ subdivided (lift-first g h e x y edge vertex og oh c back back_in back_is K33 branch paths s m l a (omega arith))
    | inr u ↦ subdivided (lift-second g h e x y edge vertex og oh c back back_in back_is K33 branch paths s m l a (omega (arith, spokes-both g h e x y edge vertex og oh c back back_in back_is K33 branch paths s m, spokes-three m l)))
  ]
    where
      on : List ℕ
      on = spokes_on g edge K33 paths y m
  lift-branch K5 branch paths s m l a = elim (cases_lt (length on) 2) [
    | inl u ↦ subdivided (lift-first g h e x y edge vertex og oh c back back_in back_is K5 branch paths s m l a (omega arith))
    | inr u ↦ elim (cases_lt (length off) 2) [
      | inl v ↦ subdivided (lift-second g h e x y edge vertex og oh c back back_in back_is K5 branch paths s m l a (omega arith))
      | inr v ↦ four
          (two-members off (omega (arith, spokes-both g h e x y edge vertex og oh c back back_in back_is K5 branch paths s m, spokes-four m l)))
          (two-members on (omega (arith, spokes-both g h e x y edge vertex og oh c back back_in back_is K5 branch paths s m, spokes-four m l)))
    ]
  ]
    where
      on : List ℕ
      on = spokes_on g edge K5 paths y m

      off : List ℕ
      off = spokes_off g edge K5 paths y m

      four : (p : ℕ) × (q : ℕ) × (spokes_off g edge K5 paths y m ≡ p ∷ q ∷ []) → (r : ℕ) × (t : ℕ) × (spokes_on g edge K5 paths y m ≡ r ∷ t ∷ []) → HasSubdivision g
      four v w = subdivided (lift-four branch paths s m v.0 v.1 w.0 w.1 l a v.2 w.2)

  -- a subdivision of the contracted graph gives one of the graph
  pub lift-with_back : (kind : Pattern) (branch : List ℕ) (paths : List (List ℕ)) → IsSubdivision h kind branch paths → HasSubdivision g
  lift-with_back kind branch paths s = elim (cases_Bool (is_member (vertex x) branch)) [
    | inr n ↦ subdivided (lift-none g h e x y edge vertex og oh c back back_in back_is kind branch paths s n)
    | inl n ↦ let w = contains-from_member branch (vertex x) n in lift-branch kind branch paths s (w.0) (omega (arith, w.1, s.branches)) (get_or_default branch (w.0) 0 (vertex x) w.1 ∙ w.2)
  ]

-- so where the graph with an edge contracted has a subdivision of K5 or K3,3, the graph has one
pub lift-subdivision : (g h : Multigraph) (e x y : ℕ) (edge vertex : ℕ → ℕ) → IsGraph g → IsGraph h → IsContraction g h e x y edge vertex
    → (kind : Pattern) (branch : List ℕ) (paths : List (List ℕ)) → IsSubdivision h kind branch paths → HasSubdivision g
lift-subdivision g h e x y edge vertex og oh c = lift-with_back g h e x y edge vertex og oh c (λ v. least g.vertex_count (λ u. vertex u == v))
    (λ v l. least-below g.vertex_count (λ u. vertex u == v) (some v l))
    (λ v l. eqb-true (vertex (least g.vertex_count (λ u. vertex u == v))) v (least-passes g.vertex_count (λ u. vertex u == v) (some v l)))
  where
    some : (v : ℕ) → v < h.vertex_count → Rattle.permutations.specs.Count.some g.vertex_count (λ u. vertex u == v) ≡ true
    some v l = let w = c.vertices_met v l in some-from g.vertex_count (λ u. vertex u == v) (w.0) w.1 (eq-eqb (vertex (w.0)) v w.3)
