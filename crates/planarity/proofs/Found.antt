-- The two ends of a contracted edge and three neighbours in common, on a cycle that avoids the merged vertex: a subdivision of
-- K5.
use Rattle.std.proofs.Common.{◌≡◌, ◌≢◌, ℕ, zero, suc, ◌<◌, ◌⊎◌, inl, inr, Bool, true, false, ◌||◌, ◌&&◌, ◌==◌, List, [], ◌∷◌, length, get_or, refl, sym, ap, ◌∙◌, subst, arith}
use Rattle.std.proofs.lemmas.Bool.{both_ways, or_cases, and_parts, eqb-true}
use Rattle.permutations.specs.Members.{is_member, is_distinct}
use Rattle.permutations.proofs.Members.{no_member-cons, distinct-cons}
use Rattle.permutations.proofs.Places.{same-place}
use Rattle.multigraph.specs.Graph.{Multigraph, IsGraph, edge_count, is_end, other_end}
use Rattle.multigraph.proofs.OtherEnd.{end-in, other_end-is_end, other_end-twice}
use Rattle.contractions.specs.Contraction.{IsContraction}
use Rattle.kuratowski.specs.declared.subdivision.Pattern.TheVariants.{K5}
use Rattle.kuratowski.specs.Subdivision.{pattern_edges, branch_at, IsSubdivision}
use Rattle.planarity.specs.Lift.{path_of_pair}
use Rattle.planarity.specs.Circle.{IsCircle, five_paths}
use Rattle.planarity.proofs.LiftSystem.{IsBranch, IsContractedEnd}
use Rattle.planarity.proofs.LiftPath.{two_ends}
use Rattle.planarity.proofs.LiftBack.{EachPair, each-joined, system-subdivision}
use Rattle.planarity.proofs.LiftSpokes.{ends-differ}
use Rattle.planarity.proofs.FoundSystem.{IsWire, IsArc, arc-forth, arc-back, spot-differ, spot-unmerged, found-system}

-- the edge f joins z with p
pub record IsSpoke (g : Multigraph) (z p f : ℕ) : Type 0 where
  pub is_edge : f < edge_count g
  pub leaves : is_end g z f ≡ true
  pub arrives : other_end g f z ≡ p

-- none of the numbers is z
abbrev pub NoneIs : ℕ → List ℕ → Type 0
NoneIs z [] = Unit {0}
NoneIs z (a ∷ l) = (a ≢ z) × NoneIs z l

-- the numbers are different
abbrev pub AllDiffer : List ℕ → Type 0
AllDiffer [] = Unit {0}
AllDiffer (a ∷ l) = NoneIs a l × AllDiffer l

pub none-member : (z : ℕ) (l : List ℕ) → NoneIs z l → is_member z l ≡ false
none-member z [] a = refl
none-member z (b ∷ l) a = no_member-cons z b l a.0 (none-member z l a.1)

pub differ-distinct : (l : List ℕ) → AllDiffer l → is_distinct l ≡ true
differ-distinct [] a = refl
differ-distinct (b ∷ l) a = distinct-cons b l (none-member b l a.0) (differ-distinct l a.1)

-- whether (i, j) is one of the pairs, in this order
abbrev pub is_ordered : List (ℕ × ℕ) → ℕ → ℕ → Bool
is_ordered [] i j = false
is_ordered (p ∷ ps) i j = (p.0 == i && p.1 == j) || is_ordered ps i j

-- what holds of each pair holds of it
pub each-ordered : (P : ℕ × ℕ → Type 0) (ps : List (ℕ × ℕ)) (i j : ℕ) → EachPair P ps → is_ordered ps i j ≡ true → P (i, j)
each-ordered P [] i j a t = absurd (both_ways false refl t)
each-ordered P (p ∷ ps) i j a t = elim (or_cases (p.0 == i && p.1 == j) (is_ordered ps i j) t) [
  | inl u ↦ let w = and_parts (p.0 == i) (p.1 == j) u in subst (λ k. P (k, j)) (eqb-true p.0 i w.0) (subst (λ k. P (p.0, k)) (eqb-true p.1 j w.1) a.0)
  | inr u ↦ each-ordered P ps i j a.1 u
]

-- a spoke as a path, and turned round
pub spoke-wire : (g : Multigraph) (z p f : ℕ) → IsSpoke g z p f → IsWire g z p (f ∷ [])
spoke-wire g z p f s = record { edge = f; alone = refl; is_edge = s.is_edge; leaves = s.leaves; arrives = s.arrives }

pub spoke-back : (g : Multigraph) → IsGraph g → (z p f : ℕ) → IsSpoke g z p f → IsWire g p z (f ∷ [])
spoke-back g ok z p f s = record {
  edge = f;
  alone = refl;
  is_edge = s.is_edge;
  leaves = subst (λ v. is_end g v f ≡ true) s.arrives (other_end-is_end g f z);
  arrives = ap (other_end g f) (sym s.arrives) ∙ other_end-twice g f z ok s.is_edge s.leaves;
}

module _ (g h : Multigraph) (e x y : ℕ) (edge vertex : ℕ → ℕ) (og : IsGraph g) (oh : IsGraph h) (ic : IsContraction g h e x y edge vertex) where
  -- the contracted edge as a path
  pub base : IsWire g x y (e ∷ [])
  base = record { edge = e; alone = refl; is_edge = ic.edge_in; leaves = ic.first_end; arrives = ic.second_end }

  pub merged_in : (z : ℕ) → IsContractedEnd x y z → z < g.vertex_count
  merged_in z o = end-in g z e og ic.edge_in (two_ends g h e x y edge vertex og oh ic z o)

  -- three neighbours of both ends on a cycle
  module _ (a b d xa xb xd ya yb yd : ℕ) (a_in : a < g.vertex_count) (b_in : b < g.vertex_count) (d_in : d < g.vertex_count)
      (sxa : IsSpoke g x a xa) (sxb : IsSpoke g x b xb) (sxd : IsSpoke g x d xd) (sya : IsSpoke g y a ya) (syb : IsSpoke g y b yb) (syd : IsSpoke g y d yd)
      (k l m : List ℕ) (c : IsCircle h (vertex x) (vertex a) ((vertex a, k) ∷ ((vertex b, l) ∷ ((vertex d, m) ∷ [])))) where
    abbrev others : List (ℕ × List ℕ)
    others = (vertex b, l) ∷ ((vertex d, m) ∷ [])

    abbrev spot : ℕ → ℕ
    spot i = get_or (a ∷ b ∷ d ∷ []) i 0

    spot_in : (i : ℕ) → i < 3 → spot i < g.vertex_count
    spot_in zero o = a_in
    spot_in (suc zero) o = b_in
    spot_in (suc (suc zero)) o = d_in
    spot_in (suc (suc (suc i))) o = absurd (omega arith)

    spot_is : (i : ℕ) → i < 3 → vertex (spot i) ≡ (get_or ((vertex a, k) ∷ others) i (vertex a, [])).0
    spot_is zero o = refl
    spot_is (suc zero) o = refl
    spot_is (suc (suc zero)) o = refl
    spot_is (suc (suc (suc i))) o = absurd (omega arith)

    two : 0 < length others
    two = omega arith

    abbrev five_branch : List ℕ
    five_branch = x ∷ y ∷ a ∷ b ∷ d ∷ []

    abbrev all_paths : List (List ℕ)
    all_paths = five_paths g e edge a b d xa xb xd ya yb yd k l m

    abbrev path : ℕ → ℕ → List ℕ
    path = path_of_pair (pattern_edges K5) all_paths

    apart : (i j : ℕ) → i < 3 → j < 3 → i ≢ j → spot i ≢ spot j
    apart = spot-differ g h e x y edge vertex og oh ic (vertex a, k) others c two spot spot_in spot_is

    off : (i z : ℕ) → i < 3 → IsContractedEnd x y z → spot i ≢ z
    off = spot-unmerged g h e x y edge vertex og oh ic (vertex a, k) others c two spot spot_in spot_is

    -- what is an arc of the cycle
    abbrev Arc : ℕ → ℕ → List ℕ → Type 0
    Arc = IsArc g h e x y edge vertex og oh ic (vertex a, k) others c two spot spot_in spot_is

    five-distinct : is_distinct five_branch ≡ true
    five-distinct = differ-distinct five_branch ((λ q. ends-differ g h e x y edge vertex og oh ic (sym q), (off 0 x (omega arith) (inl refl), (off 1 x (omega arith) (inl refl), (off 2 x (omega arith) (inl refl), tt)))), ((off 0 y (omega arith) (inr refl), (off 1 y (omega arith) (inr refl), (off 2 y (omega arith) (inr refl), tt))), ((apart 1 0 (omega arith) (omega arith) (λ q. omega (arith, q)), (apart 2 0 (omega arith) (omega arith) (λ q. omega (arith, q)), tt)), ((apart 2 1 (omega arith) (omega arith) (λ q. omega (arith, q)), tt), (tt, tt)))))

    five-which : (i : ℕ) → i < 5 → IsContractedEnd x y (branch_at five_branch i) ⊎ ((j : ℕ) × (j < 3) × (branch_at five_branch i ≡ spot j))
    five-which zero o = inl (inl refl)
    five-which (suc zero) o = inl (inr refl)
    five-which (suc (suc zero)) o = inr (0, omega arith, refl)
    five-which (suc (suc (suc zero))) o = inr (1, omega arith, refl)
    five-which (suc (suc (suc (suc zero)))) o = inr (2, omega arith, refl)
    five-which (suc (suc (suc (suc (suc i))))) o = absurd (omega arith)

    five-in : (i : ℕ) → i < 5 → branch_at five_branch i < g.vertex_count
    five-in zero o = merged_in x (inl refl)
    five-in (suc zero) o = merged_in y (inr refl)
    five-in (suc (suc zero)) o = spot_in 0 (omega arith)
    five-in (suc (suc (suc zero))) o = spot_in 1 (omega arith)
    five-in (suc (suc (suc (suc zero)))) o = spot_in 2 (omega arith)
    five-in (suc (suc (suc (suc (suc i))))) o = absurd (omega arith)

    five-spots : (i : ℕ) → i < 3 → IsBranch 5 (branch_at five_branch) (spot i)
    five-spots zero o = (2, omega arith, refl)
    five-spots (suc zero) o = (3, omega arith, refl)
    five-spots (suc (suc zero)) o = (4, omega arith, refl)
    five-spots (suc (suc (suc i))) o = absurd (omega arith)

    -- each path is an edge or an arc
    five-each : EachPair (λ p. IsWire g (branch_at five_branch p.0) (branch_at five_branch p.1) (path p.0 p.1) ⊎ Arc (branch_at five_branch p.0) (branch_at five_branch p.1) (path p.0 p.1)) (pattern_edges K5)
    five-each = (inl base, (inl (spoke-wire g x a xa sxa), (inl (spoke-wire g x b xb sxb), (inl (spoke-wire g x d xd sxd), (inl (spoke-wire g y a ya sya), (inl (spoke-wire g y b yb syb), (inl (spoke-wire g y d yd syd), (inr (arc-forth g h e x y edge vertex og oh ic (vertex a, k) others c two spot spot_in spot_is 0 (omega arith)), (inr (arc-back g h e x y edge vertex og oh ic (vertex a, k) others c two spot spot_in spot_is 2 (omega arith)), (inr (arc-forth g h e x y edge vertex og oh ic (vertex a, k) others c two spot spot_in spot_is 1 (omega arith)), tt))))))))))

    -- so the two ends and the three neighbours are the branch vertices of a subdivision of K5
    pub k5_found : IsSubdivision g K5 (x ∷ y ∷ a ∷ b ∷ d ∷ []) (five_paths g e edge a b d xa xb xd ya yb yd k l m)
    k5_found = system-subdivision g 5 (is_ordered (pattern_edges K5)) five_branch path
        (found-system g h e x y edge vertex og oh ic (vertex a, k) others c two spot spot_in spot_is 5 (is_ordered (pattern_edges K5)) (branch_at five_branch) path
        five-in (λ i j o u q. same-place five_branch i j five-distinct (omega arith) (omega arith) q) five-which five-spots
        (λ i j o u t. each-ordered (λ p. IsWire g (branch_at five_branch p.0) (branch_at five_branch p.1) (path p.0 p.1) ⊎ Arc (branch_at five_branch p.0) (branch_at five_branch p.1) (path p.0 p.1)) (pattern_edges K5) i j five-each t))
        K5 refl refl (each-joined 5 (is_ordered (pattern_edges K5)) (pattern_edges K5) refl)
