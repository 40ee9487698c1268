-- Where the cyclic order of the merged vertex shows no subdivision from any of its places on, its darts fall in runs.
use Rattle.std.proofs.Common.{◌≡◌, ◌≢◌, ℕ, ◌<◌, ◌≤◌, inl, inr, Bool, true, List, ◌∷◌, ◌++◌, length, slice_index, sym, ap, ◌∙◌, subst, arith, append_assoc, length-append}
use Rattle.std.proofs.lemmas.Bool.{cases_lt, or_right}
use Rattle.permutations.specs.Members.{is_member}
use Rattle.permutations.specs.Cyclic.{IsTurn}
use Rattle.permutations.proofs.Arrangements.{member-at}
use Rattle.permutations.proofs.Search.{some-witness}
use Rattle.permutations.proofs.Turned.{IsTurn-member}
use Rattle.multigraph.specs.Graph.{Multigraph, edge_count, is_end, other_end}
use Rattle.multigraph.proofs.OtherEnd.{end-in}
use Rattle.rotations.specs.Rotation.{order_at}
use Rattle.graph_theory.specs.Triconnected.{IsSimple}
use Rattle.contractions.specs.Contraction.{are_adjacent, is_common_neighbour, common_count, is_private}
use Rattle.contractions.specs.Contracted.{contracted_vertex}
use Rattle.planarity.specs.Alternation.{Alternates}
use Rattle.planarity.specs.Circle.{leads_near}
use Rattle.planarity.proofs.ExpandedRuns.{runs-together}
use Rattle.planarity.proofs.FoundCommon.{InTurn, turn-of_three, three-passing}
use Rattle.planarity.proofs.FoundTurn.{turn-alternates, common-edge}
use Rattle.contractions.specs.Level.{IsLevel, contraction, edge_before}
use Rattle.contract_obstruct.specs.Steps.{AreSteps}
use Rattle.contract_obstruct.specs.Obstruction.{HaveNoRuns}
use Rattle.contract_obstruct.specs.Sectors.{IsCommonEdge}
use Rattle.contract_obstruct.specs.Obstruction.{rotated, StandForEdges, IsTripleAt, IsCrossingAt, ShowsNothing}
use Rattle.contractions.specs.declared.level.Level.{Level}
use Rattle.contract_obstruct.proofs.Alternating.{round-in, edge-out}
use Rattle.contract_obstruct.proofs.OneSystem.{no_runs-in}
use Rattle.contractions.proofs.LevelFacts.{level-contraction, level-graph}
use Rattle.contract_obstruct.proofs.Rotations.{at-join, rotated-turn, turn-last, turn-rotated}

module _ (level : Level) (k : IsLevel level) where
  abbrev g : Multigraph
  g = level.graph

  abbrev h : Multigraph
  h = contraction level

  abbrev e : ℕ
  e = level.edge

  abbrev x : ℕ
  x = level.x

  abbrev y : ℕ
  y = level.y

  abbrev vertex : ℕ → ℕ
  vertex = contracted_vertex level.x level.y

  abbrev from_x : ℕ → Bool
  from_x i = is_end level.graph level.x (edge_before level i)

  abbrev near : ℕ → Bool
  near = leads_near level.graph level.x level.y (edge_before level)

  simple : IsSimple g
  simple = k.triconnected.simple

  x_in : x < g.vertex_count
  x_in = end-in g x e k.graph k.oriented.edge_in k.oriented.first_end

  -- a list of alternating edges, from the one on that does not lead from x
  crossing-shown : (l : List ℕ) → Alternates from_x near l → (m : ℕ) × (m < length l) × ((i j n : ℕ) × IsCrossingAt level (rotated l m) i j n)
  crossing-shown l w = placed (turn-rotated l (dd ++ (aa ++ (bb ++ cc))) turn (omega arith))
    where
      aa : List ℕ
      aa = w.a ∷ w.behind_a

      bb : List ℕ
      bb = w.b ∷ w.behind_b

      cc : List ℕ
      cc = w.c ∷ w.behind_c

      dd : List ℕ
      dd = w.d ∷ w.behind_d

      turn : IsTurn l (dd ++ (aa ++ (bb ++ cc)))
      turn = turn-last l aa bb cc dd w.around

      at_a : slice_index (dd ++ (aa ++ (bb ++ cc))) (length dd) ≡ w.a
      at_a = at-join dd w.a (w.behind_a ++ (bb ++ cc))

      at_b : slice_index (dd ++ (aa ++ (bb ++ cc))) (length (dd ++ aa)) ≡ w.b
      at_b = ap (λ (z : List ℕ). slice_index z (length (dd ++ aa))) (sym (append_assoc dd aa (bb ++ cc))) ∙ at-join (dd ++ aa) w.b (w.behind_b ++ cc)

      at_c : slice_index (dd ++ (aa ++ (bb ++ cc))) (length ((dd ++ aa) ++ bb)) ≡ w.c
      at_c = ap (λ (z : List ℕ). slice_index z (length ((dd ++ aa) ++ bb))) (sym (append_assoc dd aa (bb ++ cc)) ∙ sym (append_assoc (dd ++ aa) bb cc)) ∙ at-join ((dd ++ aa) ++ bb) w.c w.behind_c

      crossing : IsCrossingAt level (dd ++ (aa ++ (bb ++ cc))) (length dd) (length (dd ++ aa)) (length ((dd ++ aa) ++ bb))
      crossing = record {
        behind = omega arith;
        rise = omega (arith, length-append dd aa);
        rise_on = omega (arith, length-append (dd ++ aa) bb);
        within = omega (arith, length-append dd (aa ++ (bb ++ cc)), length-append aa (bb ++ cc), length-append bb cc, length-append dd aa, length-append (dd ++ aa) bb);
        first = ap from_x at_a ∙ w.first_passes;
        second = ap near at_b ∙ w.second_passes;
        third = ap from_x at_c ∙ w.third_passes;
        fourth = w.fourth_fails;
      }

      placed : (m : ℕ) × (m < length l) × (rotated l m ≡ dd ++ (aa ++ (bb ++ cc))) → (m : ℕ) × (m < length l) × ((i j n : ℕ) × IsCrossingAt level (rotated l m) i j n)
      placed q = (
        q.0,
        q.1,
        (
          length dd,
          length (dd ++ aa),
          length ((dd ++ aa) ++ bb),
          subst (λ (z : List ℕ). IsCrossingAt level z (length dd) (length (dd ++ aa)) (length ((dd ++ aa) ++ bb))) (sym q.2) crossing,
        ),
      )

  -- three edges to common neighbours, from the first on
  triple-shown : (l : List ℕ) (a b c : ℕ) → InTurn l a b c → IsCommonEdge level a → IsCommonEdge level b → IsCommonEdge level c → (m : ℕ) × (m < length l) × ((i j : ℕ) × IsTripleAt level (rotated l m) i j)
  triple-shown l a b c w ha hb hc = placed (turn-rotated l (aa ++ (bb ++ cc)) w.around (omega arith))
    where
      aa : List ℕ
      aa = a ∷ w.behind_a

      bb : List ℕ
      bb = b ∷ w.behind_b

      cc : List ℕ
      cc = c ∷ w.behind_c

      at_b : slice_index (aa ++ (bb ++ cc)) (length aa) ≡ b
      at_b = at-join aa b (w.behind_b ++ cc)

      at_c : slice_index (aa ++ (bb ++ cc)) (length (aa ++ bb)) ≡ c
      at_c = ap (λ (z : List ℕ). slice_index z (length (aa ++ bb))) (sym (append_assoc aa bb cc)) ∙ at-join (aa ++ bb) c w.behind_c

      triple : IsTripleAt level (aa ++ (bb ++ cc)) (length aa) (length (aa ++ bb))
      triple = record {
        behind = omega arith;
        rise = omega (arith, length-append aa bb);
        within = omega (arith, length-append aa (bb ++ cc), length-append bb cc, length-append aa bb);
        first = ha;
        second = subst (IsCommonEdge level) (sym at_b) hb;
        third = subst (IsCommonEdge level) (sym at_c) hc;
      }

      placed : (m : ℕ) × (m < length l) × (rotated l m ≡ aa ++ (bb ++ cc)) → (m : ℕ) × (m < length l) × ((i j : ℕ) × IsTripleAt level (rotated l m) i j)
      placed q = (q.0, q.1, (length aa, length (aa ++ bb), subst (λ (z : List ℕ). IsTripleAt level z (length aa) (length (aa ++ bb))) (sym q.2) triple))

  module _ (s : List (List ℕ)) (next : List ℕ) (are : AreSteps (contraction level) s next) where
    abbrev order : List ℕ
    order = order_at s (contracted_vertex level.x level.y level.x)

    -- its members stand for edges, from each place on
    pub rotated-edges : (l : List ℕ) (m : ℕ) → l ≡ order_at s (contracted_vertex level.x level.y level.x) → StandForEdges level (rotated l m)
    rotated-edges l m q t p =
        let at : is_member (slice_index (rotated l m) t) order ≡ true = sym (IsTurn-member order (rotated l m) (slice_index (rotated l m) t) (rotated-turn order l m q)) ∙ member-at (rotated l m) t 0 p in
        let w = round-in level k s are.system (slice_index (rotated l m) t) at in
        edge-out level k (slice_index (rotated l m) t) w.0 w.1

    -- an edge to a common neighbour
    common-at : (p : ℕ) → is_common_neighbour g x y p ≡ true → (i : ℕ) × (is_member i order ≡ true) × (IsCommonEdge level i) × (other_end g (edge_before level i) x ≡ p)
    common-at p t =
        let w = common-edge g h e x y (edge_before level) vertex k.graph (level-graph level k) (level-contraction level k) simple s are.system p t in
        (w.0, w.1, ((w.2).leaves, ap (are_adjacent g y) (w.2).arrives ∙ w.3), (w.2).arrives)

    -- three common neighbours
    many-shown : 3 ≤ common_count g x y → (m : ℕ) × (m < length order) × ((i j : ℕ) × IsTripleAt level (rotated order m) i j)
    many-shown l =
        let w = three-passing g.vertex_count (is_common_neighbour g x y) l in
        found w.first w.second w.third w.first_passes w.second_passes w.third_passes w.first_second w.first_third w.second_third
      where
        found : (p q r : ℕ) → is_common_neighbour g x y p ≡ true → is_common_neighbour g x y q ≡ true → is_common_neighbour g x y r ≡ true → p ≢ q → p ≢ r → q ≢ r → (m : ℕ) × (m < length order) × ((i j : ℕ) × IsTripleAt level (rotated order m) i j)
        found p q r t u v pq pr qr =
            let a = common-at p t in
            let b = common-at q u in
            let c = common-at r v in
            elim (turn-of_three order a.0 b.0 c.0 a.1 b.1 c.1
            (λ z. pq (sym a.3 ∙ ap (λ i. other_end g (edge_before level i) x) z ∙ b.3)) (λ z. pr (sym a.3 ∙ ap (λ i. other_end g (edge_before level i) x) z ∙ c.3)) (λ z. qr (sym b.3 ∙ ap (λ i. other_end g (edge_before level i) x) z ∙ c.3))) [
              | inl w ↦ triple-shown order a.0 b.0 c.0 w a.2 b.2 c.2
              | inr w ↦ triple-shown order a.0 c.0 b.0 w a.2 c.2 b.2
            ]

    -- where there are no runs, something is shown
    pub something-shown : HaveNoRuns level next → (l : List ℕ) → l ≡ order_at s (contracted_vertex level.x level.y level.x) → ((m : ℕ) → m < length l → ShowsNothing level (rotated l m)) → ⊥
    something-shown none l same nothing = elim (cases_lt (common_count g x y) 3) [
      | inl few ↦ with-private (some-witness (edge_count g) (is_private g e x y) (k.oriented.private (omega (arith, few))))
      | inr many ↦ let w = many-shown (omega (arith, many)) in (at w.0 w.1).no_triple ((w.2).0) ((w.2).1) ((w.2).2)
    ]
      where
        at : (m : ℕ) → m < length order → ShowsNothing level (rotated order m)
        at = subst (λ (z : List ℕ). (m : ℕ) → m < length z → ShowsNothing level (rotated z m)) same nothing

        with-private : (f : ℕ) × (f < edge_count g) × (is_private g e x y f ≡ true) → ⊥
        with-private f = elim (turn-alternates g h e x y (edge_before level) vertex k.graph (level-graph level k) (level-contraction level k) simple s are.system k.triconnected f.0 f.1 f.2) [
          | inl t ↦ no_runs-in level next none s are _ _ (runs-together g h e x y (edge_before level) vertex k.graph (level-graph level k) (level-contraction level k) simple s are.system near
              (λ i l u v. or_right (is_end g y (edge_before level i)) (are_adjacent g y (other_end g (edge_before level i) x)) v) x_in t)
          | inr a ↦ let w = crossing-shown order a in (at w.0 w.1).no_crossing ((w.2).0) ((w.2).1) ((w.2).2) ((w.2).3)
        ]
