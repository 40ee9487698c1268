-- A system of paths that joins the vertices of a pattern is a subdivision.
use Rattle.std.proofs.Common.{◌≡◌, ◌≢◌, ℕ, zero, suc, ◌<◌, inl, inr, Bool, true, false, not, ◌&&◌, ◌==◌, ltb, List, [], ◌∷◌, length, map, get_or, refl, sym, ap, ◌∙◌, subst, arith}
use Rattle.std.proofs.lemmas.Bool.{both_ways, false_from_ne_true, and_parts, ltb-true, and_from, or_left, or_right, not-true, eq-eqb}
use Rattle.std.proofs.lemmas.List.{get_or_default, get_or-map, length-map}
use Rattle.permutations.specs.Members.{is_member, is_distinct}
use Rattle.permutations.proofs.Members.{member-append_cases, distinct-append}
use Rattle.permutations.proofs.Arrangements.{contains-from_member}
use Rattle.permutations.proofs.Places.{told-distinct}
use Rattle.multigraph.specs.Graph.{Multigraph}
use Rattle.graph_theory.specs.Path.{walk_vertices, IsPath}
use Rattle.kuratowski.specs.declared.subdivision.Pattern.{Pattern}
use Rattle.kuratowski.specs.declared.subdivision.Pattern.TheVariants.{K5, K33}
use Rattle.kuratowski.specs.Subdivision.{branch_count, pattern_edges, branch_at, pair_at, inner_vertices, all_inner, IsSubdivision}
use Rattle.planarity.specs.Lift.{is_pair, is_listed}
use Rattle.planarity.proofs.LiftSystem.{SamePair, IsPathSystem}
use Rattle.planarity.proofs.LiftPairs.{listed-turned, inside-met, inside-distinct}

-- whether no two of the pairs are the same, in either order
abbrev pub listed_once : List (ℕ × ℕ) → Bool
listed_once [] = true
listed_once (p ∷ ps) = not (is_listed ps p.0 p.1) && listed_once ps

-- no edge of a pattern is listed twice
pub pattern-listed_once : (kind : Pattern) → listed_once (pattern_edges kind) ≡ true
pattern-listed_once K5 = refl
pattern-listed_once K33 = refl

-- so what is the same pair is listed
pub listed-same : (pairs : List (ℕ × ℕ)) (i j k l : ℕ) → SamePair i j k l → is_listed pairs k l ≡ true → is_listed pairs i j ≡ true
listed-same pairs i j k l (inl q) t = subst (λ u. is_listed pairs u j ≡ true) (sym q.0) (subst (λ u. is_listed pairs k u ≡ true) (sym q.1) t)
listed-same pairs i j k l (inr q) t = subst (λ u. is_listed pairs u j ≡ true) (sym q.0) (subst (λ u. is_listed pairs l u ≡ true) (sym q.1) (listed-turned pairs k l t))

-- the first pair is listed
pub listed-first : (p : ℕ × ℕ) (ps : List (ℕ × ℕ)) → is_listed (p ∷ ps) p.0 p.1 ≡ true
listed-first p ps = or_left (is_pair p p.0 p.1) (is_listed ps p.0 p.1) (or_left (p.0 == p.0 && p.1 == p.1) (p.0 == p.1 && p.1 == p.0) (and_from (p.0 == p.0) (p.1 == p.1) (eq-eqb p.0 p.0 refl) (eq-eqb p.1 p.1 refl)))

-- something holds of each pair
abbrev pub EachPair : (ℕ × ℕ → Type 0) → List (ℕ × ℕ) → Type 0
EachPair P [] = Unit {0}
EachPair P (p ∷ ps) = P p × EachPair P ps

-- so of the one at place k
each-at : (P : ℕ × ℕ → Type 0) (ps : List (ℕ × ℕ)) (k : ℕ) → EachPair P ps → k < length ps → P (get_or ps k (0, 0))
each-at P [] k a l = absurd (omega arith)
each-at P (p ∷ ps) zero a l = a.0
each-at P (p ∷ ps) (suc k) a l = each-at P ps k a.1 (omega arith)

-- the pair is of two of n vertices that are joined
abbrev pub AreJoined : ℕ → (ℕ → ℕ → Bool) → ℕ × ℕ → Type 0
AreJoined n joined p = (p.0 < n) × (p.1 < n) × (joined p.0 p.1 ≡ true)

-- whether each pair is of two of n vertices that are joined
abbrev pub all_joined : ℕ → (ℕ → ℕ → Bool) → List (ℕ × ℕ) → Bool
all_joined n joined [] = true
all_joined n joined (p ∷ ps) = (ltb p.0 n && (ltb p.1 n && joined p.0 p.1)) && all_joined n joined ps

-- then each is
pub each-joined : (n : ℕ) (joined : ℕ → ℕ → Bool) (ps : List (ℕ × ℕ)) → all_joined n joined ps ≡ true → EachPair (AreJoined n joined) ps
each-joined n joined [] t = tt
each-joined n joined (p ∷ ps) t =
    let w = and_parts (ltb p.0 n && (ltb p.1 n && joined p.0 p.1)) (all_joined n joined ps) t in
    let v = and_parts (ltb p.0 n) (ltb p.1 n && joined p.0 p.1) w.0 in
    let u = and_parts (ltb p.1 n) (joined p.0 p.1) v.1 in
    ((ltb-true p.0 n v.0, ltb-true p.1 n u.0, u.1), each-joined n joined ps w.1)

module _ (g : Multigraph) (n : ℕ) (joined : ℕ → ℕ → Bool) (branch : List ℕ) (path : ℕ → ℕ → List ℕ) (s : IsPathSystem g n joined (branch_at branch) path) where
  -- the paths of these pairs, one after the other
  abbrev paths_of : List (ℕ × ℕ) → List (List ℕ)
  paths_of pairs = map (λ p. path p.0 p.1) pairs

  abbrev inner : ℕ → ℕ → List ℕ
  inner i j = inner_vertices g (branch_at branch i) (path i j)

  -- a vertex inside the path of one of the pairs
  record Inside (pairs : List (ℕ × ℕ)) (z : ℕ) : Type 0 where
    first : ℕ
    second : ℕ
    joins : AreJoined n joined (first, second)
    listed : is_listed pairs first second ≡ true
    on : is_member z (inner_vertices g (branch_at branch first) (path first second)) ≡ true

  inside_one : (pairs : List (ℕ × ℕ)) (z : ℕ) → EachPair (AreJoined n joined) pairs → is_member z (all_inner g branch pairs (paths_of pairs)) ≡ true → Inside pairs z
  inside_one [] z a m = absurd (both_ways false refl m)
  inside_one (p ∷ ps) z a m = elim (member-append_cases z (inner p.0 p.1) (all_inner g branch ps (paths_of ps)) m) [
    | inl u ↦ record { first = p.0; second = p.1; joins = a.0; listed = listed-first p ps; on = u }
    | inr u ↦ more (inside_one ps z a.1 u)
  ]
    where
      more : Inside ps z → Inside (p ∷ ps) z
      more w = record { first = w.first; second = w.second; joins = w.joins; listed = or_right (is_pair p (w.first) (w.second)) (is_listed ps (w.first) (w.second)) w.listed; on = w.on }

  -- it is none of the branch vertices
  inside-no_branch : (i j m z : ℕ) → AreJoined n joined (i, j) → is_member z (inner_vertices g (branch_at branch i) (path i j)) ≡ true → m < n → branch_at branch m ≢ z
  inside-no_branch i j m z a u l q =
      let w = inside-met g (branch_at branch i) (path i j) (branch_at branch j) z (s.are_paths i j a.0 a.1 a.2) u in
      elim (s.off_branch i j m a.0 a.1 l a.2 (subst (λ v. is_member v (walk_vertices g (branch_at branch i) (path i j)) ≡ true) (sym q) w.0)) [
        | inl r ↦ w.1 (sym q ∙ ap (branch_at branch) r)
        | inr r ↦ w.2 (sym q ∙ ap (branch_at branch) r)
      ]

  -- the vertices inside the paths have no repetition
  inner-distinct : (pairs : List (ℕ × ℕ)) → EachPair (AreJoined n joined) pairs → listed_once pairs ≡ true → is_distinct (all_inner g branch pairs (paths_of pairs)) ≡ true
  inner-distinct [] a t = refl
  inner-distinct (p ∷ ps) a t = distinct-append (inner p.0 p.1) (all_inner g branch ps (paths_of ps))
      (inside-distinct g (branch_at branch p.0) (path p.0 p.1) (branch_at branch p.1) (s.are_paths p.0 p.1 (a.0).0 (a.0).1 (a.0).2))
      (inner-distinct ps a.1 w.1)
      (λ z m. false_from_ne_true (is_member z (all_inner g branch ps (paths_of ps))) (λ u. twice z m (inside_one ps z a.1 u)))
    where
      w : (not (is_listed ps p.0 p.1) ≡ true) × (listed_once ps ≡ true)
      w = and_parts (not (is_listed ps p.0 p.1)) (listed_once ps) t

      twice : (z : ℕ) → is_member z (inner_vertices g (branch_at branch p.0) (path p.0 p.1)) ≡ true → Inside ps z → ⊥
      twice z m v = elim (s.apart p.0 p.1 (v.first) (v.second) z (a.0).0 (a.0).1 v.joins.0 v.joins.1 (a.0).2 v.joins.2
          ((inside-met g (branch_at branch p.0) (path p.0 p.1) (branch_at branch p.1) z (s.are_paths p.0 p.1 (a.0).0 (a.0).1 (a.0).2) m).0)
          ((inside-met g (branch_at branch (v.first)) (path (v.first) (v.second)) (branch_at branch (v.second)) z (s.are_paths (v.first) (v.second) v.joins.0 v.joins.1 v.joins.2) v.on).0)) [
            | inl q ↦ both_ways (is_listed ps p.0 p.1) (not-true (is_listed ps p.0 p.1) w.0) (listed-same ps p.0 p.1 (v.first) (v.second) q v.listed)
            | inr b ↦ inside-no_branch p.0 p.1 (b.0) z a.0 m b.1 b.2
          ]

  -- so if n vertices are joined as those of the pattern are, the paths are a subdivision of it
  pub system-subdivision : (kind : Pattern) → branch_count kind ≡ n → length branch ≡ n → EachPair (AreJoined n joined) (pattern_edges kind) → IsSubdivision g kind branch (paths_of (pattern_edges kind))
  system-subdivision kind e l a = record {
    branches = l ∙ sym e;
    branch_in = λ i k. s.branch_in i (omega arith);
    one_each = length-map (pattern_edges kind) (λ p. path p.0 p.1);
    are_paths = λ k m.
        let w : AreJoined n joined (pair_at kind k) = each-at (AreJoined n joined) (pattern_edges kind) k a m in
        subst (λ u. IsPath g (branch_at branch (pair_at kind k).0) u (branch_at branch (pair_at kind k).1))
        (sym (get_or-map (λ p. path p.0 p.1) (pattern_edges kind) k (0, 0) [] m))
        (s.are_paths (pair_at kind k).0 (pair_at kind k).1 w.0 w.1 w.2);
    apart = distinct-append branch (all_inner g branch (pattern_edges kind) (paths_of (pattern_edges kind)))
        (told-distinct branch (λ i j b c q. s.branch_once i j (omega arith) (omega arith) q))
        (inner-distinct (pattern_edges kind) a (pattern-listed_once kind))
        (λ z m. false_from_ne_true (is_member z (all_inner g branch (pattern_edges kind) (paths_of (pattern_edges kind)))) (λ u.
        let v : Inside (pattern_edges kind) z = inside_one (pattern_edges kind) z a u in
        let b = contains-from_member branch z m in
        inside-no_branch (v.first) (v.second) (b.0) z v.joins v.on (omega (arith, b.1)) (get_or_default branch (b.0) 0 z b.1 ∙ b.2)));
  }
