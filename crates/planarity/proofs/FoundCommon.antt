-- Where the ends of the contracted edge have three neighbours in common, the graph has a subdivision of K5, if the contracted
-- graph is triconnected and has a plane rotation system.
use Rattle.std.proofs.Common.{◌≡◌, ◌≢◌, ℕ, ◌+◌, ◌≤◌, ◌⊎◌, inl, inr, Bool, true, List, ◌∷◌, ◌++◌, sym, ap, ◌∙◌, subst, arith, append_assoc}
use Rattle.permutations.specs.Count.{count}
use Rattle.permutations.specs.Members.{is_member}
use Rattle.permutations.specs.Cyclic.{IsTurn}
use Rattle.permutations.proofs.Members.{member-cases, member-append_cases, CutAt, cut_at}
use Rattle.permutations.proofs.Turned.{IsTurn-member, IsTurn-swap, IsTurn-same}
use Rattle.permutations.proofs.Count.{last-passing}
use Rattle.multigraph.specs.Graph.{Multigraph, IsGraph, other_end}
use Rattle.rotations.specs.Rotation.{order_at, IsRotationSystem}
use Rattle.graph_theory.specs.Triconnected.{IsSimple, IsTriconnected}
use Rattle.contractions.specs.Contraction.{are_adjacent, is_common_neighbour, common_count, IsContraction}
use Rattle.faces.specs.Euler.{IsPlane}
use Rattle.planarity.proofs.LiftCases.{HasSubdivision, subdivided}
use Rattle.planarity.proofs.Found.{IsSpoke}
use Rattle.planarity.proofs.FoundCircle.{IsTip, joined-spoke, tip-first, three-found}
use Rattle.planarity.proofs.FoundTurn.{round-edge, common-edge}

-- a cyclic order, from a on, with b and c behind it in this order
pub record InTurn (l : List ℕ) (a b c : ℕ) : Type 0 where
  pub behind_a : List ℕ
  pub behind_b : List ℕ
  pub behind_c : List ℕ
  pub around : IsTurn l ((a ∷ behind_a) ++ ((b ∷ behind_b) ++ (c ∷ behind_c)))

-- three different members are met in one order or in the other
pub turn-of_three : (l : List ℕ) (a b c : ℕ) → is_member a l ≡ true → is_member b l ≡ true → is_member c l ≡ true → a ≢ b → a ≢ c → b ≢ c → InTurn l a b c ⊎ InTurn l a c b
turn-of_three l a b c ma mb mc ab ac bc = at_first (cut_at a l ma)
  where
    at_first : CutAt a l → InTurn l a b c ⊎ InTurn l a c b
    at_first k = at_second (cut_at b rest (behind b mb ab)) (behind c mc ac)
      where
        rest : List ℕ
        rest = k.back ++ k.front

        turn : IsTurn l (a ∷ rest)
        turn = IsTurn-same l (k.front ++ a ∷ k.back) (a ∷ rest) k.is (IsTurn-swap k.front (a ∷ k.back))

        behind : (z : ℕ) → is_member z l ≡ true → a ≢ z → is_member z rest ≡ true
        behind z m n = elim (member-cases z a rest (IsTurn-member l (a ∷ rest) z turn ∙ m)) [ inl q ↦ absurd (n q) | inr o ↦ o ]

        at_second : CutAt b rest → is_member c rest ≡ true → InTurn l a b c ⊎ InTurn l a c b
        at_second u m = elim (member-append_cases c u.front (b ∷ u.back) (subst (λ (z : List ℕ). is_member c z ≡ true) u.is m)) [
          | inl o ↦ inr (before (cut_at c u.front o))
          | inr o ↦ elim (member-cases c b u.back o) [ inl q ↦ absurd (bc q) | inr v ↦ inl (after (cut_at c u.back v)) ]
        ]
          where
            before : CutAt c u.front → InTurn l a c b
            before v = record {
              behind_a = v.front;
              behind_b = v.back;
              behind_c = u.back;
              around = subst (IsTurn l) (ap (λ (z : List ℕ). a ∷ z) (u.is ∙ ap (λ (z : List ℕ). z ++ b ∷ u.back) v.is ∙ append_assoc v.front (c ∷ v.back) (b ∷ u.back))) turn;
            }

            after : CutAt c u.back → InTurn l a b c
            after v = record {
              behind_a = u.front;
              behind_b = v.front;
              behind_c = v.back;
              around = subst (IsTurn l) (ap (λ (z : List ℕ). a ∷ z) (u.is ∙ ap (λ (z : List ℕ). u.front ++ b ∷ z) v.is)) turn;
            }

-- three different numbers that pass
pub record ThreePassing (p : ℕ → Bool) : Type 0 where
  pub first : ℕ
  pub second : ℕ
  pub third : ℕ
  pub first_passes : p first ≡ true
  pub second_passes : p second ≡ true
  pub third_passes : p third ≡ true
  pub first_second : first ≢ second
  pub first_third : first ≢ third
  pub second_third : second ≢ third

-- where three or more pass
pub three-passing : (n : ℕ) (p : ℕ → Bool) → 3 ≤ count n p → ThreePassing p
three-passing n p l =
    let c = last-passing n p (omega (arith, l)) in
    let b = last-passing c.0 p (omega (arith, l, c.3)) in
    let a = last-passing b.0 p (omega (arith, l, c.3, b.3)) in
    record {
      first = a.0;
      second = b.0;
      third = c.0;
      first_passes = a.2;
      second_passes = b.2;
      third_passes = c.2;
      first_second = λ q. omega (arith, q, a.1);
      first_third = λ q. omega (arith, q, a.1, b.1);
      second_third = λ q. omega (arith, q, b.1);
    }

module _ (g h : Multigraph) (e x y : ℕ) (edge vertex : ℕ → ℕ) (og : IsGraph g) (oh : IsGraph h) (ic : IsContraction g h e x y edge vertex) (simple : IsSimple g)
    (s : List (List ℕ)) (rot : IsRotationSystem h s) (plane : IsPlane h s) (tri : IsTriconnected h) where
  -- an edge round the merged vertex that leads from x to the common neighbour p
  record ToCommon (p : ℕ) : Type 0 where
    at : ℕ
    member : is_member at (order_at s (vertex x)) ≡ true
    tip : IsTip g h e x y edge vertex og oh ic at p
    first : IsSpoke g x p (edge at)
    second_edge : ℕ
    second : IsSpoke g y p second_edge

  to_common : (p : ℕ) → is_common_neighbour g x y p ≡ true → ToCommon p
  to_common p t = made (common-edge g h e x y edge vertex og oh ic simple s rot p t)
    where
      made : (i : ℕ) × (is_member i (order_at s (vertex x)) ≡ true) × (IsSpoke g x p (edge i)) × (are_adjacent g y p ≡ true) → ToCommon p
      made w =
          let v = tip-first g h e x y edge vertex og oh ic w.0 (round-edge g h e x y edge vertex og oh ic simple s rot w.0 w.1).0 (w.2).leaves in
          let b = joined-spoke g y p w.3 in
          record {
            at = w.0;
            member = w.1;
            tip = subst (IsTip g h e x y edge vertex og oh ic w.0) (w.2).arrives v.0;
            first = w.2;
            second_edge = b.0;
            second = b.1;
          }

  -- edges to different vertices are different
  apart : (p q : ℕ) (a : ToCommon p) (b : ToCommon q) → p ≢ q → a.at ≢ b.at
  apart p q a b n k = n (sym a.first.arrives ∙ ap (λ z. other_end g (edge z) x) k ∙ b.first.arrives)

  by_turn : (p q r : ℕ) (a : ToCommon p) (b : ToCommon q) (c : ToCommon r) → InTurn (order_at s (vertex x)) a.at b.at c.at → HasSubdivision g
  by_turn p q r a b c t = subdivided (three-found g h e x y edge vertex og oh ic s rot plane tri a.at b.at c.at t.behind_a t.behind_b t.behind_c t.around p q r a.tip b.tip c.tip
      (edge a.at) (edge b.at) (edge c.at) a.second_edge b.second_edge c.second_edge a.first b.first c.first a.second b.second c.second)

  -- three common neighbours
  pub common-found : (p q r : ℕ) → is_common_neighbour g x y p ≡ true → is_common_neighbour g x y q ≡ true → is_common_neighbour g x y r ≡ true → p ≢ q → p ≢ r → q ≢ r → HasSubdivision g
  common-found p q r t u v pq pr qr = found (to_common p t) (to_common q u) (to_common r v)
    where
      found : ToCommon p → ToCommon q → ToCommon r → HasSubdivision g
      found a b c = elim (turn-of_three (order_at s (vertex x)) a.at b.at c.at a.member b.member c.member (apart p q a b pq) (apart p r a c pr) (apart q r b c qr)) [
        | inl w ↦ by_turn p q r a b c w
        | inr w ↦ by_turn p r q a c b w
      ]

  -- at least three common neighbours
  pub common-subdivision : 3 ≤ common_count g x y → HasSubdivision g
  common-subdivision l =
      let w = three-passing g.vertex_count (is_common_neighbour g x y) l in
      common-found w.first w.second w.third w.first_passes w.second_passes w.third_passes w.first_second w.first_third w.second_third
