-- Lifted paths of a contraction as walks of the graph, and the edges that paths lead over.
use Rattle.std.proofs.Common.{◌≡◌, ℕ, zero, suc, ◌<◌, ◌≤◌, inl, inr, true, false, ◌==◌, ◌&&◌, if◌then◌else◌, Bool, List, [], ◌∷◌, length, map, reverse, slice_index, refl, sym, ap, ◌∙◌, subst, arith}
use Rattle.std.proofs.lemmas.Bool.{cases_Bool, both_ways, cases_lt}
use Rattle.std.proofs.lemmas.List.{get_or-map, length-map, reverse-reverse}
use Rattle.permutations.specs.Members.{is_member}
use Rattle.permutations.proofs.Members.{member-reverse}
use Rattle.permutations.proofs.Arrangements.{member-at}
use Rattle.multigraph.specs.Graph.{Multigraph, edge_count}
use Rattle.graph_theory.specs.Path.{IsWalk, IsPath}
use Rattle.graph_theory.proofs.Walks.{walk-edge}
use Rattle.graph_theory.proofs.Paths.{path-reverse}
use Rattle.kuratowski.specs.declared.subdivision.Pattern.{Pattern}
use Rattle.kuratowski.specs.Subdivision.{branch_at, path_at, pair_at, pattern_edges, IsSubdivision}
use Rattle.planarity.specs.Lift.{path_of_pair}
use Rattle.contractions.specs.declared.level.Level.{Level}
use Rattle.contractions.specs.Level.{IsLevel, contraction}
use Rattle.contractions.proofs.LevelFacts.{level-contraction}
use Rattle.contract_obstruct.specs.declared.crossing.Sector.{Sector}
use Rattle.contract_obstruct.specs.Crossing.{side_of}
use Rattle.contract_obstruct.specs.Lifting.{LeadOverEdges}

-- a member of a path from one vertex of the pattern to another is one of a path
between-member : (pairs : List (ℕ × ℕ)) (paths : List (List ℕ)) (i j z : ℕ) → is_member z (path_of_pair pairs paths i j) ≡ true → (k : ℕ) × (is_member z (path_at paths k) ≡ true)
between-member [] paths i j z m = absurd (both_ways false refl m)
between-member (pair ∷ pairs) [] i j z m = absurd (both_ways false refl m)
between-member (pair ∷ pairs) (path ∷ paths) i j z m = elim (cases_Bool (pair.0 == i && pair.1 == j)) [
  | inl t ↦ (0, subst (λ (l : List ℕ). is_member z l ≡ true) (ap (λ (b : Bool). if b then path else (if pair.0 == j && pair.1 == i then reverse path else path_of_pair pairs paths i j)) t) m)
  | inr f ↦ elim (cases_Bool (pair.0 == j && pair.1 == i)) [
    | inl t ↦ (0, sym (member-reverse z path) ∙ subst (λ (l : List ℕ). is_member z l ≡ true) (passed f ∙ ap (λ (b : Bool). if b then reverse path else path_of_pair pairs paths i j) t) m)
    | inr n ↦
        let w = between-member pairs paths i j z (subst (λ (l : List ℕ). is_member z l ≡ true) (passed f ∙ ap (λ (b : Bool). if b then reverse path else path_of_pair pairs paths i j) n) m) in
        (suc w.0, w.1)
  ]
]
  where
    passed : (pair.0 == i && pair.1 == j) ≡ false → path_of_pair (pair ∷ pairs) (path ∷ paths) i j ≡ (if pair.0 == j && pair.1 == i then reverse path else path_of_pair pairs paths i j)
    passed f = ap (λ (b : Bool). if b then path else (if pair.0 == j && pair.1 == i then reverse path else path_of_pair pairs paths i j)) f

-- so the edges of such a path were edges of the graph
pub between-edges : (level : Level) (pairs : List (ℕ × ℕ)) (paths : List (List ℕ)) (i j : ℕ) → LeadOverEdges level paths
    → (t : ℕ) → t < length (map (slice_index level.kept.items) (path_of_pair pairs paths i j)) → slice_index (map (slice_index level.kept.items) (path_of_pair pairs paths i j)) t < edge_count level.graph
between-edges level pairs paths i j over t l =
    let p = path_of_pair pairs paths i j in
    let below : t < length p = omega (arith, l, length-map p (slice_index level.kept.items)) in
    let w = between-member pairs paths i j (slice_index p t) (member-at p t 0 below) in
    subst (λ (n : ℕ). n < edge_count level.graph) (sym (get_or-map (slice_index level.kept.items) p t 0 0 below)) (over w.0 (slice_index p t) w.1)

-- the paths of a subdivision of the contraction lead over edges of the graph
pub subdivision-edges : (level : Level) → IsLevel level → (kind : Pattern) (branch : List ℕ) (paths : List (List ℕ)) → IsSubdivision (contraction level) kind branch paths → LeadOverEdges level paths
subdivision-edges level k kind branch paths s i z m = elim (cases_lt i (length (pattern_edges kind))) [
  | inl l ↦ (level-contraction level k).edges z (walk-edge (contraction level) (branch_at branch (pair_at kind i).0) (path_at paths i) (s.are_paths i l).walk z m)
  | inr n ↦ absurd (both_ways (is_member z (path_at paths i)) (none paths i (omega (arith, n, s.one_each))) m)
]
  where
    none : (paths : List (List ℕ)) (i : ℕ) → length paths ≤ i → is_member z (path_at paths i) ≡ false
    none [] i l = refl
    none (path ∷ paths) zero l = absurd (omega (arith, l))
    none (path ∷ paths) (suc i) l = none paths i (omega (arith, l))

-- the path of each edge of the pattern is a walk
pub pattern-walk : (g : Multigraph) (kind : Pattern) (branch : List ℕ) (f : ℕ × ℕ → List ℕ) → IsSubdivision g kind branch (map f (pattern_edges kind))
    → (i : ℕ) → i < length (pattern_edges kind) → IsWalk g (branch_at branch (pair_at kind i).0) (f (pair_at kind i))
pattern-walk g kind branch f s i l = subst (IsWalk g (branch_at branch (pair_at kind i).0)) (get_or-map f (pattern_edges kind) i (0, 0) [] l) (s.are_paths i l).walk

-- a side from one end to the other, where these are named otherwise
pub side-walk : (level : Level) (h : Multigraph) (next : List ℕ) (i : ℕ) (sector : Sector) (p q u v : ℕ) → p ≡ u → q ≡ v → IsWalk level.graph u (side_of level h next i sector u v) → IsWalk level.graph p (side_of level h next i sector p q)
side-walk level h next i sector p q u v e f w = subst (λ (z : ℕ × ℕ). IsWalk level.graph z.0 (side_of level h next i sector z.0 z.1)) (sym (λ j. (e j, f j))) w

-- a path read backwards is a walk
pub back-walk : (g : Multigraph) (x : ℕ) (es : List ℕ) (y : ℕ) → IsPath g y (reverse es) x → IsWalk g x es
back-walk g x es y p = subst (IsWalk g x) (reverse-reverse es) (path-reverse g y (reverse es) x p).walk
