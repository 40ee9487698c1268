-- The two ends of a contracted edge and four neighbours, of the one and of the other in turn, on a cycle that avoids the merged
-- vertex: a subdivision of K3,3.
use Rattle.std.proofs.Common.{◌≡◌, ◌≢◌, ℕ, zero, suc, ◌<◌, ◌⊎◌, inl, inr, true, List, [], ◌∷◌, length, get_or, refl, sym, arith}
use Rattle.permutations.specs.Members.{is_distinct}
use Rattle.permutations.proofs.Places.{same-place}
use Rattle.multigraph.specs.Graph.{Multigraph, IsGraph}
use Rattle.contractions.specs.Contraction.{IsContraction}
use Rattle.kuratowski.specs.declared.subdivision.Pattern.TheVariants.{K33}
use Rattle.kuratowski.specs.Subdivision.{pattern_edges, branch_at, IsSubdivision}
use Rattle.planarity.specs.Lift.{path_of_pair}
use Rattle.planarity.specs.Circle.{IsCircle, six_paths}
use Rattle.planarity.proofs.LiftSystem.{IsBranch, IsContractedEnd}
use Rattle.planarity.proofs.LiftBack.{EachPair, each-joined, system-subdivision}
use Rattle.planarity.proofs.LiftSpokes.{ends-differ}
use Rattle.planarity.proofs.FoundSystem.{IsWire, IsArc, arc-forth, arc-back, spot-differ, spot-unmerged, found-system}
use Rattle.planarity.proofs.Found.{IsSpoke, differ-distinct, is_ordered, each-ordered, spoke-wire, spoke-back, base, merged_in}

-- four neighbours on a cycle, in turn of y and of x
module _ (g h : Multigraph) (e x y : ℕ) (edge vertex : ℕ → ℕ) (og : IsGraph g) (oh : IsGraph h) (ic : IsContraction g h e x y edge vertex)
    (p q r t yp xq yr xt : ℕ) (p_in : p < g.vertex_count) (q_in : q < g.vertex_count) (r_in : r < g.vertex_count) (t_in : t < g.vertex_count)
    (syp : IsSpoke g y p yp) (sxq : IsSpoke g x q xq) (syr : IsSpoke g y r yr) (sxt : IsSpoke g x t xt)
    (k l m o : List ℕ) (c : IsCircle h (vertex x) (vertex p) ((vertex p, k) ∷ ((vertex q, l) ∷ ((vertex r, m) ∷ ((vertex t, o) ∷ []))))) where
  abbrev others : List (ℕ × List ℕ)
  others = (vertex q, l) ∷ ((vertex r, m) ∷ ((vertex t, o) ∷ []))

  abbrev spot : ℕ → ℕ
  spot i = get_or (p ∷ q ∷ r ∷ t ∷ []) i 0

  spot_in : (i : ℕ) → i < 4 → spot i < g.vertex_count
  spot_in zero u = p_in
  spot_in (suc zero) u = q_in
  spot_in (suc (suc zero)) u = r_in
  spot_in (suc (suc (suc zero))) u = t_in
  spot_in (suc (suc (suc (suc i)))) u = absurd (omega arith)

  spot_is : (i : ℕ) → i < 4 → vertex (spot i) ≡ (get_or ((vertex p, k) ∷ others) i (vertex p, [])).0
  spot_is zero u = refl
  spot_is (suc zero) u = refl
  spot_is (suc (suc zero)) u = refl
  spot_is (suc (suc (suc zero))) u = refl
  spot_is (suc (suc (suc (suc i)))) u = absurd (omega arith)

  two : 0 < length others
  two = omega arith

  abbrev six_branch : List ℕ
  six_branch = x ∷ p ∷ r ∷ y ∷ q ∷ t ∷ []

  abbrev all_paths : List (List ℕ)
  all_paths = six_paths g e edge p q r t yp xq yr xt k l m o

  abbrev path : ℕ → ℕ → List ℕ
  path = path_of_pair (pattern_edges K33) all_paths

  apart : (i j : ℕ) → i < 4 → j < 4 → i ≢ j → spot i ≢ spot j
  apart = spot-differ g h e x y edge vertex og oh ic (vertex p, k) others c two spot spot_in spot_is

  off : (i z : ℕ) → i < 4 → IsContractedEnd x y z → spot i ≢ z
  off = spot-unmerged g h e x y edge vertex og oh ic (vertex p, k) others c two spot spot_in spot_is

  -- what is an arc of the cycle
  abbrev Arc : ℕ → ℕ → List ℕ → Type 0
  Arc = IsArc g h e x y edge vertex og oh ic (vertex p, k) others c two spot spot_in spot_is

  six-distinct : is_distinct six_branch ≡ true
  six-distinct = differ-distinct six_branch ((off 0 x (omega arith) (inl refl), (off 2 x (omega arith) (inl refl), (λ q. ends-differ g h e x y edge vertex og oh ic (sym q), (off 1 x (omega arith) (inl refl), (off 3 x (omega arith) (inl refl), tt))))), ((apart 2 0 (omega arith) (omega arith) (λ q. omega (arith, q)), (λ q. off 0 y (omega arith) (inr refl) (sym q), (apart 1 0 (omega arith) (omega arith) (λ q. omega (arith, q)), (apart 3 0 (omega arith) (omega arith) (λ q. omega (arith, q)), tt)))), ((λ q. off 2 y (omega arith) (inr refl) (sym q), (apart 1 2 (omega arith) (omega arith) (λ q. omega (arith, q)), (apart 3 2 (omega arith) (omega arith) (λ q. omega (arith, q)), tt))), ((off 1 y (omega arith) (inr refl), (off 3 y (omega arith) (inr refl), tt)), ((apart 3 1 (omega arith) (omega arith) (λ q. omega (arith, q)), tt), (tt, tt))))))

  six-which : (i : ℕ) → i < 6 → IsContractedEnd x y (branch_at six_branch i) ⊎ ((j : ℕ) × (j < 4) × (branch_at six_branch i ≡ spot j))
  six-which zero o = inl (inl refl)
  six-which (suc zero) o = inr (0, omega arith, refl)
  six-which (suc (suc zero)) o = inr (2, omega arith, refl)
  six-which (suc (suc (suc zero))) o = inl (inr refl)
  six-which (suc (suc (suc (suc zero)))) o = inr (1, omega arith, refl)
  six-which (suc (suc (suc (suc (suc zero))))) o = inr (3, omega arith, refl)
  six-which (suc (suc (suc (suc (suc (suc i)))))) o = absurd (omega arith)

  six-in : (i : ℕ) → i < 6 → branch_at six_branch i < g.vertex_count
  six-in zero o = merged_in g h e x y edge vertex og oh ic x (inl refl)
  six-in (suc zero) o = spot_in 0 (omega arith)
  six-in (suc (suc zero)) o = spot_in 2 (omega arith)
  six-in (suc (suc (suc zero))) o = merged_in g h e x y edge vertex og oh ic y (inr refl)
  six-in (suc (suc (suc (suc zero)))) o = spot_in 1 (omega arith)
  six-in (suc (suc (suc (suc (suc zero))))) o = spot_in 3 (omega arith)
  six-in (suc (suc (suc (suc (suc (suc i)))))) o = absurd (omega arith)

  six-spots : (i : ℕ) → i < 4 → IsBranch 6 (branch_at six_branch) (spot i)
  six-spots zero o = (1, omega arith, refl)
  six-spots (suc zero) o = (4, omega arith, refl)
  six-spots (suc (suc zero)) o = (2, omega arith, refl)
  six-spots (suc (suc (suc zero))) o = (5, omega arith, refl)
  six-spots (suc (suc (suc (suc i)))) o = absurd (omega arith)

  -- each path is an edge or an arc
  six-each : EachPair (λ p. IsWire g (branch_at six_branch p.0) (branch_at six_branch p.1) (path p.0 p.1) ⊎ Arc (branch_at six_branch p.0) (branch_at six_branch p.1) (path p.0 p.1)) (pattern_edges K33)
  six-each = (inl (base g h e x y edge vertex og oh ic), (inl (spoke-wire g x q xq sxq), (inl (spoke-wire g x t xt sxt), (inl (spoke-back g og y p yp syp), (inr (arc-forth g h e x y edge vertex og oh ic (vertex p, k) others c two spot spot_in spot_is 0 (omega arith)), (inr (arc-back g h e x y edge vertex og oh ic (vertex p, k) others c two spot spot_in spot_is 3 (omega arith)), (inl (spoke-back g og y r yr syr), (inr (arc-back g h e x y edge vertex og oh ic (vertex p, k) others c two spot spot_in spot_is 1 (omega arith)), (inr (arc-forth g h e x y edge vertex og oh ic (vertex p, k) others c two spot spot_in spot_is 2 (omega arith)), tt)))))))))

  -- so the two ends and the four neighbours are the branch vertices of a subdivision of K3,3
  pub k33_found : IsSubdivision g K33 (x ∷ p ∷ r ∷ y ∷ q ∷ t ∷ []) (six_paths g e edge p q r t yp xq yr xt k l m o)
  k33_found = system-subdivision g 6 (is_ordered (pattern_edges K33)) six_branch path
      (found-system g h e x y edge vertex og oh ic (vertex p, k) others c two spot spot_in spot_is 6 (is_ordered (pattern_edges K33)) (branch_at six_branch) path
      six-in (λ i j o u q. same-place six_branch i j six-distinct (omega arith) (omega arith) q) six-which six-spots
      (λ i j o u t. each-ordered (λ p. IsWire g (branch_at six_branch p.0) (branch_at six_branch p.1) (path p.0 p.1) ⊎ Arc (branch_at six_branch p.0) (branch_at six_branch p.1) (path p.0 p.1)) (pattern_edges K33) i j six-each t))
      K33 refl refl (each-joined 6 (is_ordered (pattern_edges K33)) (pattern_edges K33) refl)
