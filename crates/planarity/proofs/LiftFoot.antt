-- A subdivision lifted over a contracted edge, where a vertex of the edge can stand for the vertex that its ends become.
use Rattle.std.proofs.Common.{◌≡◌, ◌≢◌, ℕ, ◌<◌, ◌⊎◌, inl, inr, true, false, ◌==◌, if◌then◌else◌, List, map, refl, sym, ap, ◌∙◌, subst, arith}
use Rattle.std.proofs.lemmas.Bool.{cases_eq, eq-eqb, ne_eqb}
use Rattle.std.proofs.lemmas.List.{get_or-map, length-map}
use Rattle.permutations.specs.Members.{is_member}
use Rattle.multigraph.specs.Graph.{Multigraph, IsGraph}
use Rattle.graph_theory.specs.Path.{walk_vertices}
use Rattle.contractions.specs.Contraction.{IsContraction}
use Rattle.kuratowski.specs.declared.subdivision.Pattern.{Pattern}
use Rattle.kuratowski.specs.declared.subdivision.Pattern.TheVariants.{K5, K33}
use Rattle.kuratowski.specs.Subdivision.{branch_count, pattern_edges, branch_at, IsSubdivision}
use Rattle.planarity.specs.Lift.{touches, lifted, path_of_pair}
use Rattle.planarity.proofs.LiftSystem.{SamePair, IsBranch, IsPathSystem, IsContractedEnd, lift-system}
use Rattle.planarity.proofs.LiftPairs.{is_joined, joined-turned, subdivision-system}
use Rattle.planarity.proofs.LiftBack.{all_joined, each-joined, system-subdivision}
use Rattle.planarity.proofs.LiftSpokes.{touches-met, touches-turned, merged-vertex}

-- each edge of a pattern joins two of its vertices
pub pattern-joined : (kind : Pattern) → all_joined (branch_count kind) (is_joined kind) (pattern_edges kind) ≡ true
pattern-joined K5 = refl
pattern-joined K33 = refl

module _ (g h : Multigraph) (e x y : ℕ) (edge vertex : ℕ → ℕ) (og : IsGraph g) (oh : IsGraph h) (c : IsContraction g h e x y edge vertex)
    (kind : Pattern) (branch : List ℕ) (paths : List (List ℕ)) (s : IsSubdivision h kind branch paths)
    (back : ℕ → ℕ) (back_in : (v : ℕ) → v < h.vertex_count → back v < g.vertex_count) (back_is : (v : ℕ) → v < h.vertex_count → vertex (back v) ≡ v)
    (foot : ℕ) (foot_in : foot < g.vertex_count) (foot_merged : IsContractedEnd x y foot) where
  abbrev path : ℕ → ℕ → List ℕ
  path = path_of_pair (pattern_edges kind) paths

  abbrev at : ℕ → ℕ
  at = branch_at branch

  -- the vertex of g that stands for a vertex of h
  abbrev pub root : ℕ → ℕ
  root v = (if v == vertex x then foot else back v)

  -- the branch vertices of g
  abbrev pub roots : List ℕ
  roots = map root branch

  -- the path from i to j, lifted
  abbrev pub climbed : ℕ → ℕ → List ℕ
  climbed i j = lifted g e (branch_at roots i) (map edge (path i j)) (branch_at roots j)

  system : IsPathSystem h (branch_count kind) (is_joined kind) at path
  system = subdivision-system h kind branch paths s

  root-at : (i : ℕ) → i < branch_count kind → branch_at roots i ≡ root (at i)
  root-at i l = get_or-map root branch i 0 0 (omega (arith, s.branches))

  root-in : (v : ℕ) → v < h.vertex_count → (root v < g.vertex_count) × (vertex (root v) ≡ v)
  root-in v l = elim (cases_eq v (vertex x)) [
    | inl q ↦ let t : (v == vertex x) ≡ true = eq-eqb v (vertex x) q in rw t (foot_in, merged-vertex g h e x y edge vertex og oh c foot foot_merged ∙ sym q)
    | inr n ↦ let t : (v == vertex x) ≡ false = ne_eqb v (vertex x) n in rw t (back_in v l, back_is v l)
  ]

  root-foot : (v : ℕ) → v ≡ vertex x → root v ≡ foot
  root-foot v q = let t : (v == vertex x) ≡ true = eq-eqb v (vertex x) q in rw t refl

  place_in : (i : ℕ) → i < branch_count kind → branch_at roots i < g.vertex_count
  place_in i l = subst (λ u. u < g.vertex_count) (sym (root-at i l)) ((root-in (at i) (s.branch_in i l)).0)

  stands : (i : ℕ) → i < branch_count kind → vertex (branch_at roots i) ≡ at i
  stands i l = ap vertex (root-at i l) ∙ (root-in (at i) (s.branch_in i l)).1

  place_once : (i j : ℕ) → i < branch_count kind → j < branch_count kind → branch_at roots i ≡ branch_at roots j → i ≡ j
  place_once i j l k q = system.branch_once i j l k (sym (stands i l) ∙ ap vertex q ∙ stands j k)

  -- a vertex of the contracted edge that is touched by a path becomes a vertex of it
  touched-met : (i j z : ℕ) → i < branch_count kind → j < branch_count kind → is_joined kind i j ≡ true → touches g z (map edge (path i j)) ≡ true → is_member (vertex z) (walk_vertices h (at i) (path i j)) ≡ true
  touched-met i j z l k t u = touches-met g h e x y edge vertex og oh c (at i) (path i j) z (system.are_paths i j l k t).walk u

  own : (i j m : ℕ) → i < branch_count kind → j < branch_count kind → m < branch_count kind → is_joined kind i j ≡ true → IsContractedEnd x y (branch_at roots m) → touches g (branch_at roots m) (map edge (path i j)) ≡ true → (m ≡ i) ⊎ (m ≡ j)
  own i j m l k r t u v = system.off_branch i j m l k r t (subst (λ z. is_member z (walk_vertices h (at i) (path i j)) ≡ true) (stands m r) (touched-met i j (branch_at roots m) l k t v))

  module _ (few : (m i j z : ℕ) → m < branch_count kind → at m ≡ vertex x → i < branch_count kind → j < branch_count kind → is_joined kind m i ≡ true → is_joined kind m j ≡ true → IsContractedEnd x y z → z ≢ foot
      → touches g z (map edge (path m i)) ≡ true → touches g z (map edge (path m j)) ≡ true → i ≡ j) where
    once : (i j p q z : ℕ) → i < branch_count kind → j < branch_count kind → p < branch_count kind → q < branch_count kind → is_joined kind i j ≡ true → is_joined kind p q ≡ true → IsContractedEnd x y z
        → touches g z (map edge (path i j)) ≡ true → touches g z (map edge (path p q)) ≡ true → SamePair i j p q ⊎ IsBranch (branch_count kind) (branch_at roots) z
    once i j p q z a b d f t u m v w = elim (system.apart i j p q (vertex z) a b d f t u (touched-met i j z a b t v) (touched-met p q z d f u w)) [
      | inl r ↦ inl r
      | inr r ↦ elim (cases_eq z foot) [
        | inl o ↦ inr (r.0, r.1, root-at (r.0) r.1 ∙ root-foot (at (r.0)) (r.2 ∙ top) ∙ sym o)
        | inr o ↦ inl (both r.0 r.1 (r.2 ∙ top) o
            (system.off_branch i j (r.0) a b r.1 t (subst (λ n. is_member n (walk_vertices h (at i) (path i j)) ≡ true) (sym r.2) (touched-met i j z a b t v)))
            (system.off_branch p q (r.0) d f r.1 u (subst (λ n. is_member n (walk_vertices h (at p) (path p q)) ≡ true) (sym r.2) (touched-met p q z d f u w))))
      ]
    ]
      where
        top : vertex z ≡ vertex x
        top = merged-vertex g h e x y edge vertex og oh c z m

        over : (i j : ℕ) → touches g z (map edge (path i j)) ≡ true → touches g z (map edge (path j i)) ≡ true
        over i j o = touches-turned g z edge (pattern_edges kind) paths i j ∙ o

        -- both are paths from the branch vertex with number n
        both : (n : ℕ) → n < branch_count kind → at n ≡ vertex x → z ≢ foot → (n ≡ i) ⊎ (n ≡ j) → (n ≡ p) ⊎ (n ≡ q) → SamePair i j p q
        both n l o nf (inl k) (inl r) = inl (
          sym k ∙ r,
          few n j q z l o b f (subst (λ n. is_joined kind n j ≡ true) (sym k) t) (subst (λ n. is_joined kind n q ≡ true) (sym r) u) m nf
              (subst (λ n. touches g z (map edge (path n j)) ≡ true) (sym k) v) (subst (λ n. touches g z (map edge (path n q)) ≡ true) (sym r) w),
        )
        both n l o nf (inl k) (inr r) = inr (
          sym k ∙ r,
          few n j p z l o b d (subst (λ n. is_joined kind n j ≡ true) (sym k) t) (subst (λ n. is_joined kind n p ≡ true) (sym r) (joined-turned kind p q u)) m nf
              (subst (λ n. touches g z (map edge (path n j)) ≡ true) (sym k) v) (subst (λ n. touches g z (map edge (path n p)) ≡ true) (sym r) (over p q w)),
        )
        both n l o nf (inr k) (inl r) = inr (
          few n i q z l o a f (subst (λ n. is_joined kind n i ≡ true) (sym k) (joined-turned kind i j t)) (subst (λ n. is_joined kind n q ≡ true) (sym r) u) m nf
              (subst (λ n. touches g z (map edge (path n i)) ≡ true) (sym k) (over i j v)) (subst (λ n. touches g z (map edge (path n q)) ≡ true) (sym r) w),
          sym k ∙ r,
        )
        both n l o nf (inr k) (inr r) = inl (
          few n i p z l o a d (subst (λ n. is_joined kind n i ≡ true) (sym k) (joined-turned kind i j t)) (subst (λ n. is_joined kind n p ≡ true) (sym r) (joined-turned kind p q u)) m nf
              (subst (λ n. touches g z (map edge (path n i)) ≡ true) (sym k) (over i j v)) (subst (λ n. touches g z (map edge (path n p)) ≡ true) (sym r) (over p q w)),
          sym k ∙ r,
        )

    -- the branch vertices over those of h, and the paths lifted, are a subdivision of g
    pub foot-subdivision : IsSubdivision g kind roots (map (λ p. climbed p.0 p.1) (pattern_edges kind))
    foot-subdivision = system-subdivision g (branch_count kind) (is_joined kind) roots climbed
        (lift-system g h e x y edge vertex og oh c (branch_count kind) (is_joined kind) at path system (branch_count kind) (is_joined kind) (λ i. i) (branch_at roots)
        (λ i l. l) place_in place_once stands (λ i j l k t. t) own once (λ i j p q a b d f t u v. v))
        kind refl (length-map branch root ∙ s.branches) (each-joined (branch_count kind) (is_joined kind) (pattern_edges kind) (pattern-joined kind))
