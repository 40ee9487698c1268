-- In a triconnected graph of at least five vertices the two ends of an edge with at most two common neighbours are not both
-- without a private one: else the common neighbours would part the two from the rest.
use Rattle.std.proofs.Common.{◌≡◌, ◌≢◌, ℕ, ◌<◌, ◌≤◌, ◌⊎◌, inl, inr, Bool, true, false, ◌&&◌, ◌||◌, ◌==◌, List, [], ◌∷◌, refl, sym, ap, ◌∙◌, subst, arith}
use Rattle.std.proofs.lemmas.Bool.{cases_Bool, cases_eq, both_ways, and_from, and_parts, false_from_ne_true, or_cases, or_left, or_right, or_from, eq-eqb, ne_eqb, eqb-true, true_from_ne_false}
use Rattle.permutations.specs.Count.{some}
use Rattle.permutations.specs.Members.{is_member}
use Rattle.permutations.proofs.Members.{no_member-head, no_member-tail}
use Rattle.permutations.proofs.Count.{count-ext}
use Rattle.permutations.proofs.Search.{some-none}
use Rattle.multigraph.specs.Graph.{Multigraph, edge_count, is_end, other_end, IsGraph}
use Rattle.multigraph.proofs.OtherEnd.{other_end-is_end, other_end-twice, other_end-in, end-in}
use Rattle.graph_theory.specs.Triconnected.{IsTriconnected}
use Rattle.contractions.specs.Contraction.{IsContractible, ContractibleEdge, are_adjacent, is_common_neighbour, common_count, is_private}
use Rattle.graph_theory.proofs.Removed.{closed-without}
use Rattle.contractions.proofs.Outside.{outside, out-two, two-out}
use Rattle.contractions.proofs.Tests.{contractible-turned}
use Rattle.contractions.proofs.Counting.{count-two}
use Rattle.contractions.proofs.Joined.{joined-from, joined-apart, private-from}

-- where no edge is private to y, its neighbours are x and neighbours of x
no_private : (g : Multigraph) (e x y : ℕ) → some (edge_count g) (is_private g e x y) ≡ false
    → (f : ℕ) → f < edge_count g → is_end g y f ≡ true → f ≢ e → are_adjacent g x (other_end g f y) ≡ true
no_private g e x y n f l h k = true_from_ne_false (are_adjacent g x (other_end g f y)) (λ j.
    both_ways (is_private g e x y f) (some-none (edge_count g) (is_private g e x y) n f l) (private-from g e x y f h k j))

-- so where no edge is private to either, the two have no neighbours but each other and their common ones
closed_pair : (g : Multigraph) → IsGraph g → (e x y : ℕ) → e < edge_count g → is_end g x e ≡ true → other_end g e x ≡ y
    → some (edge_count g) (is_private g e x y) ≡ false → some (edge_count g) (is_private g e y x) ≡ false
    → (f p : ℕ) → f < edge_count g → is_end g p f ≡ true → is_common_neighbour g x y (other_end g f p) ≡ false → ((p == x) || (p == y)) ≡ true → ((other_end g f p == x) || (other_end g f p == y)) ≡ true
closed_pair g i e x y l h k ny nx f p m o c d = elim (cases_eq f e) [
  | inl s ↦ elim (or_cases (p == x) (p == y) d) [
    | inl a ↦ or_right (other_end g f p == x) (other_end g f p == y) (eq-eqb (other_end g f p) y (ap (λ (j : ℕ). other_end g j p) s ∙ (ap (other_end g e) (eqb-true p x a) ∙ k)))
    | inr b ↦ or_left (other_end g f p == x) (other_end g f p == y)
        (eq-eqb (other_end g f p) x (ap (λ (j : ℕ). other_end g j p) s ∙ (ap (other_end g e) (eqb-true p y b ∙ sym k) ∙ other_end-twice g e x i l h)))
  ]
  | inr n ↦ elim (or_cases (p == x) (p == y) d) [
    | inl a ↦ let same : p ≡ x = eqb-true p x a in
        absurd (both_ways (is_common_neighbour g x y (other_end g f p)) c (and_from (are_adjacent g x (other_end g f p)) (are_adjacent g y (other_end g f p))
        (subst (λ (q : ℕ). are_adjacent g q (other_end g f p) ≡ true) same (joined-from g f p m o))
        (subst (λ (q : ℕ). are_adjacent g y (other_end g f q) ≡ true) (sym same) (no_private g e y x nx f m (subst (λ (q : ℕ). is_end g q f ≡ true) same o) n))))
    | inr b ↦ let same : p ≡ y = eqb-true p y b in
        absurd (both_ways (is_common_neighbour g x y (other_end g f p)) c (and_from (are_adjacent g x (other_end g f p)) (are_adjacent g y (other_end g f p))
        (subst (λ (q : ℕ). are_adjacent g x (other_end g f q) ≡ true) (sym same) (no_private g e x y ny f m (subst (λ (q : ℕ). is_end g q f ≡ true) same o) n))
        (subst (λ (q : ℕ). are_adjacent g q (other_end g f p) ≡ true) same (joined-from g f p m o))))
  ]
]

-- one end of the edge has a private neighbour
pub orient : (g : Multigraph) → IsGraph g → IsTriconnected g → 5 ≤ g.vertex_count → (e x y : ℕ) → e < edge_count g → is_end g x e ≡ true → other_end g e x ≡ y → common_count g x y ≤ 2
    → (some (edge_count g) (is_private g e x y) ≡ true) ⊎ (some (edge_count g) (is_private g e y x) ≡ true)
orient g i t five e x y l h k c = elim (cases_Bool (some (edge_count g) (is_private g e x y))) [
  | inl p ↦ inl p
  | inr ny ↦ elim (cases_Bool (some (edge_count g) (is_private g e y x))) [ inl p ↦ inr p | inr nx ↦ absurd (neither ny nx) ]
]
  where
    two : (a b : ℕ) × (a < g.vertex_count → is_common_neighbour g x y a ≡ true) × (b < g.vertex_count → is_common_neighbour g x y b ≡ true) × ((w : ℕ) → w < g.vertex_count → is_common_neighbour g x y w ≡ true → (w ≡ a) ⊎ (w ≡ b))
    two = count-two g.vertex_count (is_common_neighbour g x y) c

    removed : List ℕ
    removed = two.0 ∷ two.1 ∷ []

    x_in : x < g.vertex_count
    x_in = end-in g x e i l h

    off : (a : ℕ) → (a < g.vertex_count → is_common_neighbour g x y a ≡ true) → a ≢ x
    off a p s = joined-apart g i x a (and_parts (are_adjacent g x a) (are_adjacent g y a) (p (omega (arith, x_in)))).0 (sym s)

    left : (w : ℕ) → w < g.vertex_count → is_member w removed ≡ false → is_common_neighbour g x y w ≡ false
    left w m n = false_from_ne_true (is_common_neighbour g x y w) (λ d. let o = two-out two.0 two.1 w n in elim (two.4 w m d) [ inl s ↦ o.0 (sym s) | inr s ↦ o.1 (sym s) ])

    neither : some (edge_count g) (is_private g e x y) ≡ false → some (edge_count g) (is_private g e y x) ≡ false → ⊥
    neither ny nx =
        let z = outside g.vertex_count (x ∷ y ∷ removed) (omega arith) in
        let o : x ≢ z.0 = no_member-head z.0 x (y ∷ removed) z.2 in
        let r : is_member z.0 (y ∷ removed) ≡ false = no_member-tail z.0 x (y ∷ removed) z.2 in
        let same : ((x == x) || (x == y)) ≡ ((z.0 == x) || (z.0 == y)) = closed-without g removed (λ w. (w == x) || (w == y))
        (λ f p m d a b s. closed_pair g i e x y l h k ny nx f p m d (left (other_end g f p) (other_end-in g f p i m) b) s) x z.0
        (t.stays_connected two.0 two.1 x z.0 x_in z.1 (out-two two.0 two.1 x (off two.0 two.2) (off two.1 two.3)) (no_member-tail z.0 y removed r)) in
        both_ways ((z.0 == x) || (z.0 == y))
        (or_from (z.0 == x) (z.0 == y) (ne_eqb z.0 x (λ s. o (sym s))) (ne_eqb z.0 y (λ s. no_member-head z.0 y removed r (sym s))))
        (sym same ∙ or_left (x == x) (x == y) (eq-eqb x x refl))

-- the common neighbours are the same for the ends named the other way round
pub common_count-turned : (g : Multigraph) (x y : ℕ) → common_count g x y ≡ common_count g y x
common_count-turned g x y = count-ext g.vertex_count (is_common_neighbour g x y) (is_common_neighbour g y x) (λ b l. either (are_adjacent g x b) (are_adjacent g y b))
  where
    either : (a b : Bool) → (a && b) ≡ (b && a)
    either a b = grind (arith, cases_Bool a, cases_Bool b)

-- an edge that may be contracted, whose ends have at most two common neighbours, named such that the second has a private one
pub record OrientedEdge (g : Multigraph) : Type 0 where
  pub edge : ℕ
  pub first : ℕ
  pub second : ℕ
  pub edge_in : edge < edge_count g
  pub first_end : is_end g first edge ≡ true
  pub second_end : other_end g edge first ≡ second
  pub contractible : IsContractible g first second
  pub few : common_count g first second ≤ 2
  pub private : some (edge_count g) (is_private g edge first second) ≡ true

-- each edge that may be contracted, whose ends have at most two common neighbours, can be named so
pub oriented : (g : Multigraph) → IsGraph g → IsTriconnected g → 5 ≤ g.vertex_count → (c : ContractibleEdge g) → common_count g c.first c.second ≤ 2 → OrientedEdge g
oriented g i t five c few = elim (orient g i t five c.edge c.first c.second c.edge_in c.first_end c.second_end few) [
  | inl p ↦ record {
    edge = c.edge;
    first = c.first;
    second = c.second;
    edge_in = c.edge_in;
    first_end = c.first_end;
    second_end = c.second_end;
    contractible = c.contractible;
    few = few;
    private = p;
  }
  | inr p ↦ record {
    edge = c.edge;
    first = c.second;
    second = c.first;
    edge_in = c.edge_in;
    first_end = subst (λ (q : ℕ). is_end g q c.edge ≡ true) c.second_end (other_end-is_end g c.edge c.first);
    second_end = ap (other_end g c.edge) (sym c.second_end) ∙ other_end-twice g c.edge c.first i c.edge_in c.first_end;
    contractible = contractible-turned g c.first c.second c.contractible;
    few = omega (arith, common_count-turned g c.first c.second);
    private = p;
  }
]
