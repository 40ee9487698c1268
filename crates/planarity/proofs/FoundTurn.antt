-- Round the merged vertex of a plane rotation system of the contracted graph, the edges at x stand together, or the graph has a
-- subdivision of K3,3.
use Rattle.std.proofs.Common.{◌≡◌, ◌≢◌, ℕ, ◌<◌, ◌≤◌, ◌⊎◌, inl, inr, Bool, true, false, ◌||◌, List, ◌∷◌, ◌++◌, length, filter, sym, ap, ◌∙◌, subst, arith}
use Rattle.std.proofs.lemmas.Bool.{cases_Bool, cases_eq, cases_lt, both_ways, false_from_ne_true, or_cases, or_left, or_right, and_parts}
use Rattle.permutations.specs.Members.{is_member}
use Rattle.permutations.proofs.Members.{member-head, member-append_right}
use Rattle.permutations.proofs.Filter.{filter-member}
use Rattle.permutations.proofs.Turned.{IsTurn-member}
use Rattle.multigraph.specs.Graph.{Multigraph, IsGraph, edge_count, is_end, other_end}
use Rattle.multigraph.proofs.OtherEnd.{end-in}
use Rattle.rotations.specs.Rotation.{order_at, IsRotationSystem}
use Rattle.rotations.proofs.Membership.{member-edge, member-end}
use Rattle.graph_theory.specs.Triconnected.{IsSimple, IsTriconnected}
use Rattle.graph_theory.proofs.Ends.{end-cases}
use Rattle.contractions.specs.Contraction.{are_adjacent, is_common_neighbour, is_private, is_kept, IsContraction}
use Rattle.contractions.proofs.Joined.{joined-apart, simple-same, kept-from, private-kept, private-parts}
use Rattle.contractions.proofs.Neighbours.{ThreeNeighbours, three_neighbours}
use Rattle.faces.specs.Euler.{IsPlane}
use Rattle.faces.proofs.DartLemmas.{member-incident, order-member}
use Rattle.planarity.specs.Alternation.{StandTogether, Alternates}
use Rattle.planarity.specs.Circle.{leads_near}
use Rattle.planarity.proofs.Alternation.{alternation}
use Rattle.planarity.proofs.LiftPath.{image-end}
use Rattle.planarity.proofs.LiftCases.{HasSubdivision, subdivided, one-member}
use Rattle.planarity.proofs.LiftSpokes.{ends-differ}
use Rattle.planarity.proofs.Found.{IsSpoke}
use Rattle.planarity.proofs.FoundCircle.{IsTip, joined-spoke, tip-first, tip-second, tip-either, four-found}

-- two different members that pass a test
pub two-pass : (p : ℕ → Bool) (l : List ℕ) (i j : ℕ) → i ≢ j → is_member i l ≡ true → is_member j l ≡ true → p i ≡ true → p j ≡ true → 2 ≤ length (filter p l)
two-pass p l i j d m n t u = elim (cases_lt (length (filter p l)) 2) [
  | inl a ↦ absurd (d (one-member (filter p l) i j (omega arith) (filter-member p l i m t) (filter-member p l j n u)))
  | inr a ↦ a
]

module _ (g h : Multigraph) (e x y : ℕ) (edge vertex : ℕ → ℕ) (og : IsGraph g) (oh : IsGraph h) (ic : IsContraction g h e x y edge vertex) (simple : IsSimple g) where
  -- an edge at both ends is the contracted edge
  pub both-ends : (f : ℕ) → f < edge_count g → is_end g x f ≡ true → is_end g y f ≡ true → f ≡ e
  both-ends f l t u = simple-same g simple f e x l ic.edge_in t ic.first_end (other ∙ sym ic.second_end)
    where
      other : other_end g f x ≡ y
      other = elim (end-cases g f x y t u) [ inl q ↦ absurd (ends-differ g h e x y edge vertex og oh ic (sym q)) | inr q ↦ sym q ]

  -- an edge at x that is not contracted is kept
  pub first-kept : (f : ℕ) → f < edge_count g → is_end g x f ≡ true → f ≢ e → is_kept g e x y f ≡ true
  first-kept f l t n = kept-from g e x y f n (λ u _. n (both-ends f l t u))

  module _ (s : List (List ℕ)) (rot : IsRotationSystem h s) where
    v_in : vertex x < h.vertex_count
    v_in = ic.vertices x (end-in g x e og ic.edge_in ic.first_end)

    -- the edges round the merged vertex
    pub round-edge : (i : ℕ) → is_member i (order_at s (vertex x)) ≡ true → (i < edge_count h) × (is_end h (vertex x) i ≡ true)
    round-edge i m = let k = member-incident h s (vertex x) i rot v_in m in (member-edge h (vertex x) i k, member-end h (vertex x) i k)

    pub round-from : (i : ℕ) → i < edge_count h → is_end h (vertex x) i ≡ true → is_member i (order_at s (vertex x)) ≡ true
    round-from i l t = order-member h s (vertex x) i rot v_in l t

    -- a kept edge at x is one of them
    pub round-first : (f : ℕ) → f < edge_count g → is_end g x f ≡ true → f ≢ e → (i : ℕ) × (is_member i (order_at s (vertex x)) ≡ true) × (edge i ≡ f)
    round-first f l t n =
        let w = ic.edges_met f l (first-kept f l t n) in
        (w.0, round-from w.0 w.1 ((image-end g h e x y edge vertex og oh ic w.0 x w.1 (subst (λ k. is_end g x k ≡ true) (sym w.2) t)).0), w.2)

    -- and so is a kept edge at y
    pub round-second : (f : ℕ) → f < edge_count g → is_end g y f ≡ true → is_kept g e x y f ≡ true → (i : ℕ) × (is_member i (order_at s (vertex x)) ≡ true) × (edge i ≡ f)
    round-second f l t n =
        let w = ic.edges_met f l n in
        (w.0, round-from w.0 w.1 (subst (λ u. is_end h u w.0 ≡ true) (sym ic.merged) ((image-end g h e x y edge vertex og oh ic w.0 y w.1 (subst (λ k. is_end g y k ≡ true) (sym w.2) t)).0)), w.2)

    -- each of them is at x, or leads to a neighbour of y
    pub round-either : (i : ℕ) → is_member i (order_at s (vertex x)) ≡ true → (is_end g x (edge i) || leads_near g x y edge i) ≡ true
    round-either i m = elim (cases_Bool (is_end g x (edge i))) [
      | inl t ↦ or_left (is_end g x (edge i)) (leads_near g x y edge i) t
      | inr n ↦
          let k = round-edge i m in
          or_right (is_end g x (edge i)) (leads_near g x y edge i) (or_left (is_end g y (edge i)) (are_adjacent g y (other_end g (edge i) x)) (tip-either g h e x y edge vertex og oh ic i k.0 k.1 n))
    ]

    -- where one leads to a neighbour of y, there is an edge from y to it
    reach : (i : ℕ) → i < edge_count h → is_end h (vertex x) i ≡ true → leads_near g x y edge i ≡ true → (p : ℕ) × IsTip g h e x y edge vertex og oh ic i p × ((f : ℕ) × IsSpoke g y p f)
    reach i l t u = elim (cases_Bool (is_end g y (edge i))) [
      | inl k ↦ let w = tip-second g h e x y edge vertex og oh ic i l k in (other_end g (edge i) y, w.0, (edge i, w.1))
      | inr k ↦ elim (cases_Bool (is_end g x (edge i))) [
        | inr n ↦ absurd (both_ways (is_end g y (edge i)) k (tip-either g h e x y edge vertex og oh ic i l t n))
        | inl n ↦ elim (or_cases (is_end g y (edge i)) (are_adjacent g y (other_end g (edge i) x)) u) [
          | inl o ↦ absurd (both_ways (is_end g y (edge i)) k o)
          | inr o ↦ (other_end g (edge i) x, (tip-first g h e x y edge vertex og oh ic i l n).0, joined-spoke g y (other_end g (edge i) x) o)
        ]
      ]
    ]

    -- with a private neighbour of y: the edges at x stand together, or they alternate
    pub turn-alternates : IsTriconnected g → (f : ℕ) → f < edge_count g → is_private g e x y f ≡ true
        → StandTogether (λ i. is_end g x (edge i)) (leads_near g x y edge) (order_at s (vertex x)) ⊎ Alternates (λ i. is_end g x (edge i)) (leads_near g x y edge) (order_at s (vertex x))
    turn-alternates trig f l t = alternation (λ i. is_end g x (edge i)) (leads_near g x y edge) (order_at s (vertex x)) round-either d.0 d.1 fails (several (three_neighbours g og trig x (end-in g x e og ic.edge_in ic.first_end)))
      where
        parts : (is_end g y f ≡ true) × (f ≢ e) × (are_adjacent g x (other_end g f y) ≡ false)
        parts = private-parts g e x y f t

        d : (i : ℕ) × (is_member i (order_at s (vertex x)) ≡ true) × (edge i ≡ f)
        d = round-second f l parts.0 ((and_parts (is_end g y f) (is_kept g e x y f) (sym (private-kept g e x y f) ∙ t)).1)

        fails : is_end g x (edge d.0) ≡ false
        fails = false_from_ne_true (is_end g x (edge d.0)) (λ u. parts.1 (both-ends f l (subst (λ k. is_end g x k ≡ true) d.2 u) parts.0))

        pair : (p q : ℕ) → p < edge_count g → q < edge_count g → is_end g x p ≡ true → is_end g x q ≡ true → other_end g p x ≢ other_end g q x → p ≢ e → q ≢ e → 2 ≤ length (filter (λ i. is_end g x (edge i)) (order_at s (vertex x)))
        pair p q a b u v n m o =
            let i = round-first p a u m in
            let j = round-first q b v o in
            two-pass (λ i. is_end g x (edge i)) (order_at s (vertex x)) i.0 j.0 (λ k. n (ap (λ z. other_end g z x) (sym i.2 ∙ ap edge k ∙ j.2))) i.1 j.1
            (subst (λ k. is_end g x k ≡ true) (sym i.2) u) (subst (λ k. is_end g x k ≡ true) (sym j.2) v)

        several : ThreeNeighbours g x → 2 ≤ length (filter (λ i. is_end g x (edge i)) (order_at s (vertex x)))
        several n = elim (cases_eq n.first e) [
          | inl a ↦ pair n.second n.third n.second_edge n.third_edge n.second_end n.third_end n.second_third (λ q. n.first_second (ap (λ z. other_end g z x) (a ∙ sym q))) (λ q. n.first_third (ap (λ z. other_end g z x) (a ∙ sym q)))
          | inr a ↦ elim (cases_eq n.second e) [
            | inl b ↦ pair n.first n.third n.first_edge n.third_edge n.first_end n.third_end n.first_third a (λ q. n.second_third (ap (λ z. other_end g z x) (b ∙ sym q)))
            | inr b ↦ pair n.first n.second n.first_edge n.second_edge n.first_end n.second_end n.first_second a b
          ]
        ]

    -- an edge round the merged vertex leads from x to each common neighbour
    pub common-edge : (p : ℕ) → is_common_neighbour g x y p ≡ true → (i : ℕ) × (is_member i (order_at s (vertex x)) ≡ true) × (IsSpoke g x p (edge i)) × (are_adjacent g y p ≡ true)
    common-edge p t = made (joined-spoke g x p both.0).0 (joined-spoke g x p both.0).1
      where
        both : (are_adjacent g x p ≡ true) × (are_adjacent g y p ≡ true)
        both = and_parts (are_adjacent g x p) (are_adjacent g y p) t

        made : (f : ℕ) → IsSpoke g x p f → (i : ℕ) × (is_member i (order_at s (vertex x)) ≡ true) × (IsSpoke g x p (edge i)) × (are_adjacent g y p ≡ true)
        made f a =
            let w = round-first f a.is_edge a.leaves (λ q. joined-apart g og y p both.1 (sym ic.second_end ∙ ap (λ z. other_end g z x) (sym q) ∙ a.arrives)) in
            (w.0, w.1, subst (λ z. IsSpoke g x p z) (sym w.2) a, both.1)

    module _ (plane : IsPlane h s) (tri : IsTriconnected h) where
      -- where edges at x alternate with an edge to a neighbour of y and an edge not at x, there is a subdivision of K3,3
      pub turn-found : Alternates (λ i. is_end g x (edge i)) (leads_near g x y edge) (order_at s (vertex x)) → HasSubdivision g
      turn-found w = found (tip-first g h e x y edge vertex og oh ic w.a a_is.0 w.first_passes) (reach w.b b_is.0 b_is.1 w.second_passes)
          (tip-first g h e x y edge vertex og oh ic w.c c_is.0 w.third_passes) (tip-second g h e x y edge vertex og oh ic w.d d_is.0 (tip-either g h e x y edge vertex og oh ic w.d d_is.0 d_is.1 w.fourth_fails))
        where
          l : List ℕ
          l = (w.a ∷ w.behind_a) ++ ((w.b ∷ w.behind_b) ++ ((w.c ∷ w.behind_c) ++ (w.d ∷ w.behind_d)))

          on : (i : ℕ) → is_member i l ≡ true → (i < edge_count h) × (is_end h (vertex x) i ≡ true)
          on i m = round-edge i (sym (IsTurn-member (order_at s (vertex x)) l i w.around) ∙ m)

          a_is : (w.a < edge_count h) × (is_end h (vertex x) w.a ≡ true)
          a_is = on w.a (member-head w.a (w.behind_a ++ ((w.b ∷ w.behind_b) ++ ((w.c ∷ w.behind_c) ++ (w.d ∷ w.behind_d)))))

          b_is : (w.b < edge_count h) × (is_end h (vertex x) w.b ≡ true)
          b_is = on w.b (member-append_right w.b (w.a ∷ w.behind_a) ((w.b ∷ w.behind_b) ++ ((w.c ∷ w.behind_c) ++ (w.d ∷ w.behind_d))) (member-head w.b (w.behind_b ++ ((w.c ∷ w.behind_c) ++ (w.d ∷ w.behind_d)))))

          c_is : (w.c < edge_count h) × (is_end h (vertex x) w.c ≡ true)
          c_is = on w.c (member-append_right w.c (w.a ∷ w.behind_a) ((w.b ∷ w.behind_b) ++ ((w.c ∷ w.behind_c) ++ (w.d ∷ w.behind_d)))
              (member-append_right w.c (w.b ∷ w.behind_b) ((w.c ∷ w.behind_c) ++ (w.d ∷ w.behind_d)) (member-head w.c (w.behind_c ++ (w.d ∷ w.behind_d)))))

          d_is : (w.d < edge_count h) × (is_end h (vertex x) w.d ≡ true)
          d_is = on w.d (member-append_right w.d (w.a ∷ w.behind_a) ((w.b ∷ w.behind_b) ++ ((w.c ∷ w.behind_c) ++ (w.d ∷ w.behind_d)))
              (member-append_right w.d (w.b ∷ w.behind_b) ((w.c ∷ w.behind_c) ++ (w.d ∷ w.behind_d)) (member-append_right w.d (w.c ∷ w.behind_c) (w.d ∷ w.behind_d) (member-head w.d w.behind_d))))

          found : IsTip g h e x y edge vertex og oh ic w.a (other_end g (edge w.a) x) × IsSpoke g x (other_end g (edge w.a) x) (edge w.a) → (p : ℕ) × IsTip g h e x y edge vertex og oh ic w.b p × ((f : ℕ) × IsSpoke g y p f)
              → IsTip g h e x y edge vertex og oh ic w.c (other_end g (edge w.c) x) × IsSpoke g x (other_end g (edge w.c) x) (edge w.c) → IsTip g h e x y edge vertex og oh ic w.d (other_end g (edge w.d) y) × IsSpoke g y (other_end g (edge w.d) y) (edge w.d) → HasSubdivision g
          found a b c d = subdivided (four-found g h e x y edge vertex og oh ic s rot plane tri w.a w.b w.c w.d w.behind_a w.behind_b w.behind_c w.behind_d w.around
              (other_end g (edge w.a) x) b.0 (other_end g (edge w.c) x) (other_end g (edge w.d) y) a.0 b.1 c.0 d.0 (edge w.a) ((b.2).0) (edge w.c) (edge w.d) a.1 ((b.2).1) c.1 d.1)

      -- with a private neighbour of y: the edges at x stand together, or there is a subdivision
      pub turn-cases : IsTriconnected g → (f : ℕ) → f < edge_count g → is_private g e x y f ≡ true
          → StandTogether (λ i. is_end g x (edge i)) (leads_near g x y edge) (order_at s (vertex x)) ⊎ HasSubdivision g
      turn-cases trig f l t = elim (turn-alternates trig f l t) [ inl w ↦ inl w | inr w ↦ inr (turn-found w) ]
