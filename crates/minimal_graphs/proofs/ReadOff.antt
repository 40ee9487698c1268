-- K5 and K3,3 read off: what the functions find is the pattern that the graph is.
use Rattle.std.proofs.Common.{◌≡◌, ◌≢◌, ℕ, ◌+◌, ◌<◌, inl, inr, true, false, not, ◌==◌, List, [], ◌∷◌, ◌++◌, length, filter, refl, sym, ap, ◌∙◌, subst, arith}
use Rattle.std.proofs.lemmas.List.{get_or_push, get_or_append_left}
use Rattle.std.proofs.lemmas.Bool.{cases_eq, ne_eqb}
use Rattle.permutations.proofs.Search.{some-from}
use Rattle.multigraph.specs.Graph.{Multigraph, IsGraph, edge_count, numbers_below}
use Rattle.kuratowski.specs.Subdivision.{branch_at, branch_count, pair_at, path_at, pattern_edges, IsWritten}
use Rattle.kuratowski.specs.declared.subdivision.Pattern.{Pattern}
use Rattle.kuratowski.specs.declared.subdivision.Pattern.TheVariants.{K5, K33}
use Rattle.minimal_graphs.specs.Whole.{joins, are_joined, is_far, first_side, IsPattern, IsEdgePath, AreEdges}
use Rattle.minimal_graphs.proofs.Sides.{sides-branch, first-long, pair-joined, edges-written}

-- a vertex that an edge joins with the vertex 0 is not on its side
pub far-edge : (g : Multigraph) (v e : ℕ) → v ≢ 0 → e < edge_count g → joins g 0 v e ≡ true → is_far g v ≡ false
far-edge g v e n l j =
    let z : (v == 0) ≡ false = ne_eqb v 0 n in
    let t : are_joined g 0 v ≡ true = some-from (edge_count g) (joins g 0 v) e l j in
    rw (z, t) refl

-- one path more
pub edges-more : (g : Multigraph) (kind : Pattern) (branch : List ℕ) (paths : List (List ℕ)) (path : List ℕ) (n : ℕ) → length paths ≡ n
    → ((k : ℕ) → k < n → IsEdgePath g kind branch k (path_at paths k)) → IsEdgePath g kind branch n path
    → (k : ℕ) → k < n + 1 → IsEdgePath g kind branch k (path_at (paths ++ path ∷ []) k)
edges-more g kind branch paths path n long each last k l = elim (cases_eq k n) [
  | inl q ↦ subst (λ (p : List ℕ). IsEdgePath g kind branch k p) (sym (get_or_push paths path [] k (long ∙ sym q))) (subst (λ (j : ℕ). IsEdgePath g kind branch j path) (sym q) last)
  | inr d ↦ let m : k < n = omega (arith, l, d) in
      subst (λ (p : List ℕ). IsEdgePath g kind branch k p) (sym (get_or_append_left paths (path ∷ []) [] k (omega (arith, m, long)))) (each k m)
]

module _ (g : Multigraph) (ok : IsGraph g) (p : IsPattern g) where
  -- there are vertices
  some_vertex : 0 < g.vertex_count
  some_vertex = some p.0 p.3.written.subdivision.branch_in
    where
      some : (kind : Pattern) → ((i : ℕ) → i < branch_count kind → branch_at p.1 i < g.vertex_count) → 0 < g.vertex_count
      some K5 h = omega (arith, h 0 (omega arith))
      some K33 h = omega (arith, h 0 (omega arith))

  -- the first side is as long as that of the pattern
  pub read-kind : (far : List ℕ) → far ≡ filter (is_far g) (numbers_below g.vertex_count) → length far ≡ first_side p.0
  read-kind far q = ap (λ (l : List ℕ). length l) q ∙ first-long g ok p.0 p.1 p.2 p.3 some_vertex

  -- both sides are the branch vertices
  pub read-branch : (far near branch : List ℕ) → far ≡ filter (is_far g) (numbers_below g.vertex_count) → near ≡ filter (λ v. not (is_far g v)) (numbers_below g.vertex_count) → branch ≡ far ++ near → branch ≡ p.1
  read-branch far near branch f n b = b ∙ ap (λ (l : List ℕ). l ++ near) f ∙ ap (λ (l : List ℕ). filter (is_far g) (numbers_below g.vertex_count) ++ l) n ∙ sides-branch g ok p.0 p.1 p.2 p.3 some_vertex

  module _ (kind : Pattern) (branch : List ℕ) (k_is : kind ≡ p.0) (b_is : branch ≡ p.1) where
    -- as many as the pattern has
    pub read-long : length branch ≡ branch_count kind
    read-long = ap (λ (l : List ℕ). length l) b_is ∙ p.3.written.subdivision.branches ∙ ap branch_count (sym k_is)

    -- an edge joins each two that a path joins
    pub read-joined : (k : ℕ) → k < length (pattern_edges kind) → are_joined g (branch_at branch (pair_at kind k).0) (branch_at branch (pair_at kind k).1) ≡ true
    read-joined =
        subst (λ (x : Pattern). (k : ℕ) → k < length (pattern_edges x) → are_joined g (branch_at branch (pair_at x k).0) (branch_at branch (pair_at x k).1) ≡ true) (sym k_is)
        (subst (λ (x : List ℕ). (k : ℕ) → k < length (pattern_edges p.0) → are_joined g (branch_at x (pair_at p.0 k).0) (branch_at x (pair_at p.0 k).1) ≡ true) (sym b_is)
        (pair-joined g ok p.0 p.1 p.2 p.3))

    -- and these edges are the subdivision
    pub read-written : (written_branch : List ℕ) (paths written_paths : List (List ℕ)) → AreEdges g kind branch paths → written_branch ≡ branch → written_paths ≡ paths → IsWritten g kind written_branch written_paths
    read-written written_branch paths written_paths a q r =
        subst (λ (x : List ℕ). IsWritten g kind x written_paths) (sym q)
        (subst (λ (x : List (List ℕ)). IsWritten g kind branch x) (sym r)
        (edges-written g ok kind branch p.2 paths
        (subst (λ (x : Pattern). IsWritten g x branch p.2) (sym k_is) (subst (λ (x : List ℕ). IsWritten g p.0 x p.2) (sym b_is) p.3.written)) a))
