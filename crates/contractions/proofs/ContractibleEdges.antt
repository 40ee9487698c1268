-- A triconnected graph has an edge that may be contracted (Thomassen 1980).
use Rattle.std.proofs.Common.{◌≡◌, ◌≢◌, ℕ, zero, suc, ◌+◌, ◌<◌, ◌≤◌, ◌⊎◌, inl, inr, true, false, List, [], ◌∷◌, refl, subst, arith}
use Rattle.std.proofs.lemmas.Bool.{cases_Bool, both_ways, false_from_ne_true}
use Rattle.permutations.specs.Count.{count}
use Rattle.permutations.specs.Members.{is_member}
use Rattle.permutations.specs.Relation.{connected}
use Rattle.permutations.proofs.Count.{count-same, count-all}
use Rattle.permutations.proofs.Relation.{connected-symmetric, connected-transitive}
use Rattle.multigraph.specs.Graph.{Multigraph, edge_count, is_end, other_end, IsGraph}
use Rattle.multigraph.proofs.OtherEnd.{other_end-in, end-in}
use Rattle.graph_theory.specs.Triconnected.{ends_without, IsTriconnected}
use Rattle.graph_theory.proofs.Triconnected.{four-vertices}
use Rattle.contractions.specs.Contraction.{ContractibleEdge, is_contractible}
use Rattle.graph_theory.proofs.Removed.{kept-without}
use Rattle.contractions.proofs.Neighbours.{neighbour, attach}
use Rattle.contractions.proofs.Tests.{TwoApart, connected_without-fails, contractible-fails, contractible-true}
use Rattle.contractions.proofs.Growth.{grown}

-- an edge that joins x and y, and a third vertex z: without the three, u and another vertex are left, not connected
pub record Parted (g : Multigraph) (x y z u : ℕ) : Type 0 where
  pub edge : ℕ
  pub other : ℕ
  pub edge_in : edge < edge_count g
  pub first_end : is_end g x edge ≡ true
  pub second_end : other_end g edge x ≡ y
  pub third_in : z < g.vertex_count
  pub third_first : z ≢ x
  pub third_second : z ≢ y
  pub left_in : u < g.vertex_count
  pub other_in : other < g.vertex_count
  pub left : is_member u (x ∷ y ∷ z ∷ []) ≡ false
  pub other_left : is_member other (x ∷ y ∷ z ∷ []) ≡ false
  pub apart : connected (ends_without g (x ∷ y ∷ z ∷ [])) u other ≡ false

-- how many vertices u is connected with when x, y and z are removed
abbrev pub reached_count : Multigraph → ℕ → ℕ → ℕ → ℕ → ℕ
reached_count g x y z u = count g.vertex_count (connected (ends_without g (x ∷ y ∷ z ∷ [])) u)

-- another such edge, with more vertices
pub record Greater (g : Multigraph) (x y z u : ℕ) : Type 0 where
  pub first : ℕ
  pub second : ℕ
  pub third : ℕ
  pub left : ℕ
  pub parted : Parted g first second third left
  pub more : reached_count g x y z u + 1 ≤ reached_count g first second third left

-- an edge may be contracted, or with some third vertex it parts the others
edge-cases : (g : Multigraph) → IsGraph g → IsTriconnected g → (e x y : ℕ) → e < edge_count g → is_end g x e ≡ true → other_end g e x ≡ y
    → ContractibleEdge g ⊎ ((z : ℕ) × (z < g.vertex_count) × (z ≢ x) × (z ≢ y) × TwoApart g (x ∷ y ∷ z ∷ []))
edge-cases g i t e x y l h k = elim (cases_Bool (is_contractible g x y)) [
  | inl c ↦ inl (record { edge = e; first = x; second = y; edge_in = l; first_end = h; second_end = k; contractible = contractible-true g i t x y c })
  | inr f ↦ let w = contractible-fails g x y f in inr (w.0, w.1, w.2, w.3, connected_without-fails g (x ∷ y ∷ w.0 ∷ []) w.4)
]

-- one of two vertices that are not connected is not connected with a
apart-from : (g : Multigraph) (removed : List ℕ) (a : ℕ) → TwoApart g removed
    → (b : ℕ) × (b < g.vertex_count) × (is_member b removed ≡ false) × (connected (ends_without g removed) a b ≡ false)
apart-from g removed a w = elim (cases_Bool (connected (ends_without g removed) a w.first)) [
  | inl c ↦ (
    w.second,
    w.second_in,
    w.second_left,
    false_from_ne_true (connected (ends_without g removed) a w.second) (λ d. both_ways (connected (ends_without g removed) w.first w.second) w.apart
        (connected-transitive (ends_without g removed) w.first a w.second (connected-symmetric (ends_without g removed) a w.first c) d)),
  )
  | inr f ↦ (w.first, w.first_in, w.first_left, f)
]

-- an edge that parts the others leads to one that may be contracted, or to one with more vertices
grow : (g : Multigraph) → IsGraph g → IsTriconnected g → (x y z u : ℕ) → Parted g x y z u → ContractibleEdge g ⊎ Greater g x y z u
grow g i t x y z u p =
    let f = attach g i t x y z p.other p.third_in p.other_in p.third_first p.third_second p.other_left in
    let w : ℕ = other_end g f.0 z in
    let wl : is_member w (x ∷ y ∷ z ∷ []) ≡ false = kept-without g (x ∷ y ∷ z ∷ []) p.other w p.other_left f.3 in
    let far : connected (ends_without g (x ∷ y ∷ z ∷ [])) u w ≡ false = false_from_ne_true (connected (ends_without g (x ∷ y ∷ z ∷ [])) u w) (λ c.
    both_ways (connected (ends_without g (x ∷ y ∷ z ∷ [])) u p.other) p.apart
    (connected-transitive (ends_without g (x ∷ y ∷ z ∷ [])) u w p.other c (connected-symmetric (ends_without g (x ∷ y ∷ z ∷ [])) p.other w f.3))) in
    elim (edge-cases g i t f.0 z w f.1 f.2 refl) [
      | inl c ↦ inl c
      | inr v ↦
          let a = grown g i t x y z u w v.0 (record {
            edge = p.edge;
            edge_in = p.edge_in;
            first_end = p.first_end;
            second_end = p.second_end;
            first_in = end-in g x p.edge i p.edge_in p.first_end;
            second_in = subst (λ (q : ℕ). q < g.vertex_count) p.second_end (other_end-in g p.edge x i p.edge_in);
            third_first = p.third_first;
            third_second = p.third_second;
            left = p.left;
            other_left = wl;
            apart = far;
            off_third = v.2;
            off_other = v.3;
          }) in
          let b = apart-from g (z ∷ w ∷ v.0 ∷ []) a.0 v.4 in
          inr (record {
            first = z;
            second = w;
            third = v.0;
            left = a.0;
            parted = record {
              edge = f.0;
              other = b.0;
              edge_in = f.1;
              first_end = f.2;
              second_end = refl;
              third_in = v.1;
              third_first = v.2;
              third_second = v.3;
              left_in = a.1;
              other_in = b.1;
              left = a.2;
              other_left = b.2;
              apart = b.3;
            };
            more = a.3;
          })
    ]

-- so some edge may be contracted
grow-ends : (g : Multigraph) → IsGraph g → IsTriconnected g → (fuel x y z u : ℕ) → Parted g x y z u → g.vertex_count ≤ fuel + reached_count g x y z u → ContractibleEdge g
grow-ends g i t zero x y z u p l = absurd (both_ways (connected (ends_without g (x ∷ y ∷ z ∷ [])) u p.other) p.apart
    (count-same g.vertex_count (connected (ends_without g (x ∷ y ∷ z ∷ [])) u) (λ v. true) (λ v m h. refl) (omega (arith, count-all g.vertex_count (λ v. true) (λ v m. refl))) p.other p.other_in))
grow-ends g i t (suc fuel) x y z u p l = elim (grow g i t x y z u p) [
  | inl c ↦ c
  | inr r ↦ grow-ends g i t fuel r.first r.second r.third r.left r.parted (omega (arith, r.more))
]

-- a triconnected graph has an edge that may be contracted
pub contractible_exists : (g : Multigraph) → IsGraph g → IsTriconnected g → ContractibleEdge g
contractible_exists g i t =
    let e = neighbour g i t 0 0 0 (omega (arith, four-vertices g t)) in
    elim (edge-cases g i t e.0 0 (other_end g e.0 0) e.1 e.2 refl) [
      | inl c ↦ c
      | inr z ↦
          let w : TwoApart g (0 ∷ other_end g e.0 0 ∷ z.0 ∷ []) = z.4 in
          grow-ends g i t g.vertex_count 0 (other_end g e.0 0) z.0 w.first (record {
            edge = e.0;
            other = w.second;
            edge_in = e.1;
            first_end = e.2;
            second_end = refl;
            third_in = z.1;
            third_first = z.2;
            third_second = z.3;
            left_in = w.first_in;
            other_in = w.second_in;
            left = w.first_left;
            other_left = w.second_left;
            apart = w.apart;
          }) (omega arith)
    ]
