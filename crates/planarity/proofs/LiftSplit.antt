-- A subdivision of K5 lifted over a contracted edge, where two of the paths at the edge's vertex begin at either end: it becomes
-- a subdivision of K3,3.
use Rattle.std.proofs.Common.{◌≡◌, ◌≢◌, ℕ, zero, suc, ◌<◌, ◌≤◌, ◌⊎◌, inl, inr, Bool, true, false, ◌&&◌, ltb, leb, List, [], ◌∷◌, map, get_or, refl, sym, ap, ◌∙◌, subst, arith}
use Rattle.std.proofs.lemmas.Bool.{both_ways, and_parts, ltb-true, leb-true, cases_lt, agree_below, agree_below_at}
use Rattle.permutations.specs.Members.{is_member}
use Rattle.multigraph.specs.Graph.{Multigraph, IsGraph}
use Rattle.multigraph.proofs.OtherEnd.{end-in}
use Rattle.graph_theory.specs.Path.{walk_vertices}
use Rattle.contractions.specs.Contraction.{IsContraction}
use Rattle.kuratowski.specs.declared.subdivision.Pattern.TheVariants.{K5, K33}
use Rattle.kuratowski.specs.Subdivision.{pattern_edges, branch_at, IsSubdivision}
use Rattle.planarity.specs.Lift.{touches, lifted, path_of_pair}
use Rattle.planarity.proofs.LiftPath.{two_ends}
use Rattle.planarity.proofs.LiftSystem.{SamePair, IsBranch, IsPathSystem, IsContractedEnd, lift-system}
use Rattle.planarity.proofs.LiftPairs.{is_joined, between-self, subdivision-system}
use Rattle.planarity.proofs.LiftBack.{each-joined, system-subdivision}
use Rattle.planarity.proofs.LiftSpokes.{touches-met, touches-one, touches-turned, merged-vertex, ends-differ}

-- any two of the five vertices of K5 are joined, or are one
abbrev all_with : ℕ → Bool
all_with i = agree_below (is_joined K5 i) (λ j. true) 5

pub five-joined : (i j : ℕ) → i < 5 → j < 5 → is_joined K5 i j ≡ true
five-joined i j l k = agree_below_at (is_joined K5 i) (λ j. true) 5 j (agree_below_at all_with (λ i. true) 5 i refl l) k

-- the first three of six with the last three
abbrev pub is_across : ℕ → ℕ → Bool
is_across i j = ltb i 3 && (leb 3 j && ltb j 6)

across-parts : (i j : ℕ) → is_across i j ≡ true → (i < 3) × (3 ≤ j) × (j < 6)
across-parts i j t =
    let w = and_parts (ltb i 3) (leb 3 j && ltb j 6) t in
    let v = and_parts (leb 3 j) (ltb j 6) w.1 in
    (ltb-true i 3 w.0, leb-true 3 j v.0, ltb-true j 6 v.1)

module _ (g h : Multigraph) (e x y : ℕ) (edge vertex : ℕ → ℕ) (og : IsGraph g) (oh : IsGraph h) (c : IsContraction g h e x y edge vertex)
    (branch : List ℕ) (paths : List (List ℕ)) (s : IsSubdivision h K5 branch paths)
    (back : ℕ → ℕ) (back_in : (v : ℕ) → v < h.vertex_count → back v < g.vertex_count) (back_is : (v : ℕ) → v < h.vertex_count → vertex (back v) ≡ v)
    (m p q r t : ℕ) (m_in : m < 5) (p_in : p < 5) (q_in : q < 5) (r_in : r < 5) (t_in : t < 5)
    (top : branch_at branch m ≡ vertex x) (mp : m ≢ p) (mq : m ≢ q) (pq : p ≢ q) (rt : r ≢ t)
    (p_off : touches g y (map edge (path_of_pair (pattern_edges K5) paths m p)) ≡ false) (q_off : touches g y (map edge (path_of_pair (pattern_edges K5) paths m q)) ≡ false)
    (r_on : touches g y (map edge (path_of_pair (pattern_edges K5) paths m r)) ≡ true) (t_on : touches g y (map edge (path_of_pair (pattern_edges K5) paths m t)) ≡ true) where
  abbrev path : ℕ → ℕ → List ℕ
  path = path_of_pair (pattern_edges K5) paths

  abbrev at : ℕ → ℕ
  at = branch_at branch

  -- the numbers of the vertices of K5 over which those of K3,3 stand
  abbrev pub over : ℕ → ℕ
  over i = get_or (m ∷ r ∷ t ∷ m ∷ p ∷ q ∷ []) i 0

  -- the branch vertices of g
  abbrev pub split_branch : List ℕ
  split_branch = x ∷ back (branch_at branch r) ∷ back (branch_at branch t) ∷ y ∷ back (branch_at branch p) ∷ back (branch_at branch q) ∷ []

  abbrev place : ℕ → ℕ
  place = branch_at split_branch

  -- the path from i to j, lifted
  abbrev pub split_path : ℕ → ℕ → List ℕ
  split_path i j = lifted g e (branch_at split_branch i) (map edge (path (over i) (over j))) (branch_at split_branch j)

  system : IsPathSystem h 5 (is_joined K5) at path
  system = subdivision-system h K5 branch paths s

  -- whether the path from vertex m to vertex i begins at y
  abbrev on_y : ℕ → Bool
  on_y i = touches g y (map edge (path m i))

  self_off : on_y m ≡ false
  self_off = ap (λ l. touches g y (map edge l)) (between-self (pattern_edges K5) paths m refl)

  apart_by : (i j : ℕ) → on_y i ≡ true → on_y j ≡ false → i ≢ j
  apart_by i j a b u = both_ways (on_y j) b (subst (λ v. on_y v ≡ true) u a)

  low : (i : ℕ) → i < 3 → (i ≡ 0) ⊎ (on_y (over i) ≡ true)
  low zero l = inl refl
  low (suc zero) l = inr r_on
  low (suc (suc zero)) l = inr t_on
  low (suc (suc (suc i))) l = absurd (omega arith)

  high : (j : ℕ) → 3 ≤ j → j < 6 → (j ≡ 3) ⊎ ((on_y (over j) ≡ false) × (m ≢ over j))
  high zero a l = absurd (omega arith)
  high (suc zero) a l = absurd (omega arith)
  high (suc (suc zero)) a l = absurd (omega arith)
  high (suc (suc (suc zero))) a l = inl refl
  high (suc (suc (suc (suc zero)))) a l = inr (p_off, mp)
  high (suc (suc (suc (suc (suc zero))))) a l = inr (q_off, mq)
  high (suc (suc (suc (suc (suc (suc j)))))) a l = absurd (omega arith)

  over_in : (i : ℕ) → i < 6 → over i < 5
  over_in zero l = m_in
  over_in (suc zero) l = r_in
  over_in (suc (suc zero)) l = t_in
  over_in (suc (suc (suc zero))) l = m_in
  over_in (suc (suc (suc (suc zero)))) l = p_in
  over_in (suc (suc (suc (suc (suc zero))))) l = q_in
  over_in (suc (suc (suc (suc (suc (suc i)))))) l = absurd (omega arith)

  lows : (i j : ℕ) → i < 3 → j < 3 → over i ≡ over j → i ≡ j
  lows zero zero l k u = refl
  lows zero (suc zero) l k u = absurd (apart_by r m r_on self_off (sym u))
  lows zero (suc (suc zero)) l k u = absurd (apart_by t m t_on self_off (sym u))
  lows zero (suc (suc (suc j))) l k u = absurd (omega arith)
  lows (suc zero) zero l k u = absurd (apart_by r m r_on self_off u)
  lows (suc zero) (suc zero) l k u = refl
  lows (suc zero) (suc (suc zero)) l k u = absurd (rt u)
  lows (suc zero) (suc (suc (suc j))) l k u = absurd (omega arith)
  lows (suc (suc zero)) zero l k u = absurd (apart_by t m t_on self_off u)
  lows (suc (suc zero)) (suc zero) l k u = absurd (rt (sym u))
  lows (suc (suc zero)) (suc (suc zero)) l k u = refl
  lows (suc (suc zero)) (suc (suc (suc j))) l k u = absurd (omega arith)
  lows (suc (suc (suc i))) j l k u = absurd (omega arith)

  -- the last three, counted from the first of them
  highs_from : (i j : ℕ) → i < 3 → j < 3 → over (suc (suc (suc i))) ≡ over (suc (suc (suc j))) → i ≡ j
  highs_from zero zero l k u = refl
  highs_from zero (suc zero) l k u = absurd (mp u)
  highs_from zero (suc (suc zero)) l k u = absurd (mq u)
  highs_from zero (suc (suc (suc j))) l k u = absurd (omega arith)
  highs_from (suc zero) zero l k u = absurd (mp (sym u))
  highs_from (suc zero) (suc zero) l k u = refl
  highs_from (suc zero) (suc (suc zero)) l k u = absurd (pq u)
  highs_from (suc zero) (suc (suc (suc j))) l k u = absurd (omega arith)
  highs_from (suc (suc zero)) zero l k u = absurd (mq (sym u))
  highs_from (suc (suc zero)) (suc zero) l k u = absurd (pq (sym u))
  highs_from (suc (suc zero)) (suc (suc zero)) l k u = refl
  highs_from (suc (suc zero)) (suc (suc (suc j))) l k u = absurd (omega arith)
  highs_from (suc (suc (suc i))) j l k u = absurd (omega arith)

  highs : (i j : ℕ) → 3 ≤ i → i < 6 → 3 ≤ j → j < 6 → over i ≡ over j → i ≡ j
  highs (suc (suc (suc i))) (suc (suc (suc j))) a l b k u = let w : i ≡ j = highs_from i j (omega arith) (omega arith) u in omega arith
  highs zero j a l b k u = absurd (omega arith)
  highs (suc zero) j a l b k u = absurd (omega arith)
  highs (suc (suc zero)) j a l b k u = absurd (omega arith)
  highs (suc (suc (suc i))) zero a l b k u = absurd (omega arith)
  highs (suc (suc (suc i))) (suc zero) a l b k u = absurd (omega arith)
  highs (suc (suc (suc i))) (suc (suc zero)) a l b k u = absurd (omega arith)

  -- only the two ends of the contracted edge stand over one vertex
  cross : (i j : ℕ) → i < 3 → 3 ≤ j → j < 6 → over i ≡ over j → (i ≡ 0) × (j ≡ 3)
  cross i j l a k u = elim (low i l) [
    | inl v ↦ elim (high j a k) [
      | inl w ↦ (v, w)
      | inr w ↦ absurd (w.1 (subst (λ n. over n ≡ over j) v u))
    ]
    | inr v ↦ absurd (elim (high j a k) [
      | inl w ↦ apart_by (over i) m v self_off (subst (λ n. over i ≡ over n) w u)
      | inr w ↦ apart_by (over i) (over j) v w.0 u
    ])
  ]

  stands : (i : ℕ) → i < 6 → vertex (place i) ≡ at (over i)
  stands zero l = sym top
  stands (suc zero) l = back_is (at r) (s.branch_in r r_in)
  stands (suc (suc zero)) l = back_is (at t) (s.branch_in t t_in)
  stands (suc (suc (suc zero))) l = sym c.merged ∙ sym top
  stands (suc (suc (suc (suc zero)))) l = back_is (at p) (s.branch_in p p_in)
  stands (suc (suc (suc (suc (suc zero))))) l = back_is (at q) (s.branch_in q q_in)
  stands (suc (suc (suc (suc (suc (suc i)))))) l = absurd (omega arith)

  merged_in : (z : ℕ) → IsContractedEnd x y z → z < g.vertex_count
  merged_in z o = end-in g z e og c.edge_in (two_ends g h e x y edge vertex og oh c z o)

  place_in : (i : ℕ) → i < 6 → place i < g.vertex_count
  place_in zero l = merged_in x (inl refl)
  place_in (suc zero) l = back_in (at r) (s.branch_in r r_in)
  place_in (suc (suc zero)) l = back_in (at t) (s.branch_in t t_in)
  place_in (suc (suc (suc zero))) l = merged_in y (inr refl)
  place_in (suc (suc (suc (suc zero)))) l = back_in (at p) (s.branch_in p p_in)
  place_in (suc (suc (suc (suc (suc zero))))) l = back_in (at q) (s.branch_in q q_in)
  place_in (suc (suc (suc (suc (suc (suc i)))))) l = absurd (omega arith)

  over_same : (i j : ℕ) → i < 6 → j < 6 → place i ≡ place j → over i ≡ over j
  over_same i j l k u = system.branch_once (over i) (over j) (over_in i l) (over_in j k) (sym (stands i l) ∙ ap vertex u ∙ stands j k)

  -- x and y differ
  not_both : (i j : ℕ) → (i ≡ 0) × (j ≡ 3) → place i ≢ place j
  not_both i j w u = ends-differ g h e x y edge vertex og oh c (subst (λ n. place n ≡ y) w.0 (subst (λ n. place i ≡ place n) w.1 u))

  place_once : (i j : ℕ) → i < 6 → j < 6 → place i ≡ place j → i ≡ j
  place_once i j l k u = elim (cases_lt i 3) [
    | inl a ↦ elim (cases_lt j 3) [
      | inl b ↦ lows i j a b (over_same i j l k u)
      | inr b ↦ absurd (not_both i j (cross i j a b k (over_same i j l k u)) u)
    ]
    | inr a ↦ elim (cases_lt j 3) [
      | inl b ↦ absurd (not_both j i (cross j i b a l (sym (over_same i j l k u))) (sym u))
      | inr b ↦ highs i j a l b k (over_same i j l k u)
    ]
  ]

  links : (i j : ℕ) → i < 6 → j < 6 → is_across i j ≡ true → is_joined K5 (over i) (over j) ≡ true
  links i j l k u = five-joined (over i) (over j) (over_in i l) (over_in j k)

  -- a path at which an end of the contracted edge is touched is one from the vertex m
  passes : (i j z : ℕ) → i < 6 → j < 6 → IsContractedEnd x y z → touches g z (map edge (path (over i) (over j))) ≡ true → (m ≡ over i) ⊎ (m ≡ over j)
  passes i j z l k o u = system.off_branch (over i) (over j) m (over_in i l) (over_in j k) m_in (five-joined (over i) (over j) (over_in i l) (over_in j k))
      (subst (λ v. is_member v (walk_vertices h (at (over i)) (path (over i) (over j))) ≡ true) (merged-vertex g h e x y edge vertex og oh c z o ∙ sym top)
      (touches-met g h e x y edge vertex og oh c (at (over i)) (path (over i) (over j)) z (system.are_paths (over i) (over j) (over_in i l) (over_in j k) (five-joined (over i) (over j) (over_in i l) (over_in j k))).walk u))

  -- a path from the vertex m that begins at y does not touch x
  not_x : (i : ℕ) → i < 5 → on_y i ≡ true → touches g x (map edge (path m i)) ≡ true → ⊥
  not_x i l u v = touches-one g h e x y edge vertex og oh c (at m) (path m i) (at i) (system.are_paths m i m_in l (five-joined m i m_in l)) top v u

  own : (i j n : ℕ) → i < 6 → j < 6 → n < 6 → is_across i j ≡ true → IsContractedEnd x y (place n) → touches g (place n) (map edge (path (over i) (over j))) ≡ true → (n ≡ i) ⊎ (n ≡ j)
  own i j n l k a u o v = elim (mids n a (system.branch_once (over n) m (over_in n a) m_in (sym (stands n a) ∙ merged-vertex g h e x y edge vertex og oh c (place n) o ∙ sym top))) [
    | inl w ↦ first w (subst (λ z. touches g (place z) (map edge (path (over i) (over j))) ≡ true) w v)
    | inr w ↦ second w (subst (λ z. touches g (place z) (map edge (path (over i) (over j))) ≡ true) w v)
  ]
    where
      d : (i < 3) × (3 ≤ j) × (j < 6)
      d = across-parts i j u

      mids : (n : ℕ) → n < 6 → over n ≡ m → (n ≡ 0) ⊎ (n ≡ 3)
      mids n a f = elim (cases_lt n 3) [
        | inl b ↦ inl (lows n 0 b (omega arith) f)
        | inr b ↦ inr (highs n 3 b a (omega arith) (omega arith) f)
      ]

      first : n ≡ 0 → touches g x (map edge (path (over i) (over j))) ≡ true → (n ≡ i) ⊎ (n ≡ j)
      first w v = elim (low i d.0) [
        | inl f ↦ inl (w ∙ sym f)
        | inr f ↦ absurd (elim (passes i j x l k (inl refl) v) [
          | inl b ↦ apart_by (over i) m f self_off (sym b)
          | inr b ↦ not_x (over i) (over_in i l) f (touches-turned g x edge (pattern_edges K5) paths (over i) m ∙ subst (λ z. touches g x (map edge (path (over i) z)) ≡ true) (sym b) v)
        ])
      ]

      second : n ≡ 3 → touches g y (map edge (path (over i) (over j))) ≡ true → (n ≡ i) ⊎ (n ≡ j)
      second w v = elim (high j d.1 d.2) [
        | inl f ↦ inr (w ∙ sym f)
        | inr f ↦ absurd (elim (passes i j y l k (inr refl) v) [
          | inl b ↦ both_ways (on_y (over j)) f.0 (subst (λ z. touches g y (map edge (path z (over j))) ≡ true) (sym b) v)
          | inr b ↦ f.1 b
        ])
      ]

  once : (i j n k z : ℕ) → i < 6 → j < 6 → n < 6 → k < 6 → is_across i j ≡ true → is_across n k ≡ true → IsContractedEnd x y z
      → touches g z (map edge (path (over i) (over j))) ≡ true → touches g z (map edge (path (over n) (over k))) ≡ true → SamePair i j n k ⊎ IsBranch 6 place z
  once i j n k z a b d f u v (inl w) o l = inr (0, omega arith, sym w)
  once i j n k z a b d f u v (inr w) o l = inr (3, omega arith, sym w)

  same : (i j n k : ℕ) → i < 6 → j < 6 → n < 6 → k < 6 → is_across i j ≡ true → is_across n k ≡ true → SamePair (over i) (over j) (over n) (over k) → SamePair i j n k
  same i j n k a b d f u v w = by (across-parts i j u) (across-parts n k v) w
    where
      by : (i < 3) × (3 ≤ j) × (j < 6) → (n < 3) × (3 ≤ k) × (k < 6) → SamePair (over i) (over j) (over n) (over k) → SamePair i j n k
      by r o (inl w) = inl (lows i n r.0 o.0 w.0, highs j k r.1 r.2 o.1 o.2 w.1)
      by r o (inr w) =
          let one = cross i k r.0 o.1 o.2 w.0 in
          let two = cross n j o.0 r.1 r.2 (sym w.1) in
          inl (one.0 ∙ sym two.0, two.1 ∙ sym one.1)

  -- the nine paths are a subdivision of K3,3
  pub split-subdivision : IsSubdivision g K33 split_branch (map (λ p. split_path p.0 p.1) (pattern_edges K33))
  split-subdivision = system-subdivision g 6 is_across split_branch split_path
      (lift-system g h e x y edge vertex og oh c 5 (is_joined K5) at path system 6 is_across over place over_in place_in place_once stands links own once same)
      K33 refl refl (each-joined 6 is_across (pattern_edges K33) refl)
