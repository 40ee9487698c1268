-- What lists of moves lead to, from what single moves do.
use Rattle.std.proofs.Common.{◌≡◌, ◌≢◌, ℕ, zero, suc, ◌<◌, ◌≤◌, inl, inr, Bool, true, false, not, cond, List, [], ◌∷◌, ◌++◌, length, reverse, refl, sym, ap, ◌∙◌, subst, arith, All, IsPermutation}
use Rattle.std.specs.Prelude.{◌↔◌}
use Rattle.std.proofs.lemmas.Bool.{cases_Bool, cases_eq, both_ways, true≢false, false_from_ne_true, and_parts, and_from, not-true, not_from_false}
use Rattle.std.proofs.lemmas.List.Elements.{All-nil, All-cons, All-head, All-tail, All-append, All-weaker}
use Rattle.permutations.specs.Cyclic.{from_least}
use Rattle.permutations.specs.Runs.{group_keys, InRuns}
use Rattle.permutations.proofs.Arrangements.{permutation-from_members}
use Rattle.permutations.proofs.NormalForm.{from_least-twice, from_least-distinct, from_least-member}
use Rattle.permutations.proofs.Places.{told-distinct}
use Rattle.multigraph.specs.Graph.{Multigraph}
use Rattle.multigraph.proofs.Places.{rises-once}
use Rattle.rotations.specs.Rotation.{order_at, IsRotationSystem}
use Rattle.pair_split.specs.Tutte.{Node, node_at, group, is_before}
use Rattle.pair_split.specs.declared.components.Kind.{Kind}
use Rattle.pair_split.specs.declared.components.Kind.TheVariants.{S, P, R, B}
use Rattle.skeletons.specs.Items.{node_keys, least_vertex, IsBlockTree}
use Rattle.skeletons.specs.Round.{keys_round, IsContiguous}
use Rattle.faces.specs.Euler.{IsPlaneSystem}
use Rattle.skeletons.specs.Choices.{choice_of_kind, choice}
use Rattle.skeletons.specs.Moves.{Move, flip, permute, moved_node, IsNodeOfKind, MoveLeads, Lead, is_same, move_of_kind, move_at, moves_below, moves_between}
use Rattle.skeletons.specs.Lists.{IsListOf, IsKept, IsKeptList, IsReached, IsReachedList}
use Rattle.skeletons.specs.Laws.{MovesNameDifferent, UnlockedListIsFull}
use Rattle.skeletons.proofs.KeyRuns.{met-runs}
use Rattle.skeletons.proofs.Before.{before-irreflexive, before-total}
use Rattle.skeletons.proofs.Vertices.{least-has, bond-keys}
use Rattle.skeletons.proofs.Moved.{runs-keys, flip-exists, permute-exists, move-others, flip-turns, permute-sets}

-- the test tells whether lists are the same
pub same-is : (c d : List ℕ) → is_same c d ≡ true → c ≡ d
same-is c d h = let p = and_parts (not (is_before c d)) (not (is_before d c)) h in before-total c d (not-true (is_before c d) p.0) (not-true (is_before d c) p.1)

pub is-same : (c d : List ℕ) → c ≡ d → is_same c d ≡ true
is-same c d e = subst (λ (z : List ℕ). is_same c z ≡ true) e (and_from (not (is_before c c)) (not (is_before c c)) (not_from_false (is_before c c) n) (not_from_false (is_before c c) n))
  where
    n : is_before c c ≡ false
    n = false_from_ne_true (is_before c c) (before-irreflexive c)

-- a move of a node names the node
named : (kind : Kind) (k : ℕ) (keys : List ℕ) (Q : ℕ → Type 0) → Q k → All (λ (move : Move). Q (moved_node move)) (move_of_kind kind k keys)
named S k keys Q q = All-nil (λ (move : Move). Q (moved_node move))
named P k keys Q q = All-cons (λ (move : Move). Q (moved_node move)) (permute k keys) [] q (All-nil (λ (move : Move). Q (moved_node move)))
named R k keys Q q = All-cons (λ (move : Move). Q (moved_node move)) (flip k) [] q (All-nil (λ (move : Move). Q (moved_node move)))
named B k keys Q q = All-nil (λ (move : Move). Q (moved_node move))

-- the moves name nodes at which the choices differ
pub moves-differ : (nodes : List Node) (r q : List (List ℕ)) (n : ℕ) → n ≤ length nodes → All (λ (move : Move). (moved_node move < length nodes) × (choice nodes r (moved_node move) ≡ choice nodes q (moved_node move) → ⊥)) (moves_below nodes r q n)
moves-differ nodes r q zero l = All-nil (λ (move : Move). (moved_node move < length nodes) × (choice nodes r (moved_node move) ≡ choice nodes q (moved_node move) → ⊥))
moves-differ nodes r q (suc n) l = All-append Q (moves_below nodes r q n) (move_at nodes r q n) (moves-differ nodes r q n (omega (arith, l))) (elim (cases_Bool (is_same (choice nodes r n) (choice nodes q n))) [
  | inl y ↦ subst (All Q) (sym (ap (λ (z : Bool). cond z [] (move_of_kind (node_at nodes n).kind n (choice nodes q n))) y)) (All-nil Q)
  | inr o ↦ subst (All Q) (sym (ap (λ (z : Bool). cond z [] (move_of_kind (node_at nodes n).kind n (choice nodes q n))) o))
      (named (node_at nodes n).kind n (choice nodes q n) (λ k. (k < length nodes) × (choice nodes r k ≡ choice nodes q k → ⊥)) (omega (arith, l), λ e. both_ways (is_same (choice nodes r n) (choice nodes q n)) o (is-same (choice nodes r n) (choice nodes q n) e)))
])
  where
    Q : Move → Type 0
    Q move = (moved_node move < length nodes) × (choice nodes r (moved_node move) ≡ choice nodes q (moved_node move) → ⊥)

pub moves-name : MovesNameDifferent
moves-name nodes r q = moves-differ nodes r q (length nodes) (omega arith)

-- moves one after the other
pub lead-append : (g : Multigraph) (nodes : List Node) (Through : List (List ℕ) → Type 0) (ms ns : List Move) (r s q : List (List ℕ)) → Lead g nodes Through ms r s → Lead g nodes Through ns s q → Lead g nodes Through (ms ++ ns) r q
lead-append g nodes Through [] ns r s q a b = subst (λ (z : List (List ℕ)). Lead g nodes Through ns z q) (sym a) b
lead-append g nodes Through (move ∷ ms) ns r s q a b = (a.0, a.1, a.2, lead-append g nodes Through ms ns a.0 s q a.3 b)

-- under a weaker condition
pub lead-weaker : (g : Multigraph) (nodes : List Node) (Through Less : List (List ℕ) → Type 0) → ((s : List (List ℕ)) → Through s → Less s) → (ms : List Move) (r q : List (List ℕ)) → Lead g nodes Through ms r q → Lead g nodes Less ms r q
lead-weaker g nodes Through Less h [] r q a = a
lead-weaker g nodes Through Less h (move ∷ ms) r q a = (a.0, a.1, h a.0 a.2, lead-weaker g nodes Through Less h ms a.0 q a.3)

-- lists of properties that are the same are the same lists
pub same-lists_of : (nodes : List Node) (M L : List (List ℕ) → Type 0) → ((r : List (List ℕ)) → M r ↔ L r) → (l : List (List (List ℕ))) → IsListOf nodes M l → IsListOf nodes L l
same-lists_of nodes M L h l a = record { rising = a.rising; members = λ r. ((λ c. (h r).0 ((a.members r).0 c)), λ p. (a.members r).1 ((h r).1 p)) }

-- with no node locked the list is the full one
pub unlocked-full : UnlockedListIsFull
unlocked-full g nodes r l = (same-lists_of nodes (IsKept g nodes (λ k. false) r) (IsPlaneSystem g) there l, same-lists_of nodes (IsPlaneSystem g) (IsKept g nodes (λ k. false) r) back l)
  where
    there : (q : List (List ℕ)) → IsKept g nodes (λ k. false) r q ↔ IsPlaneSystem g q
    there q = ((λ k. k.plane), λ p. record { plane = p; keeps = λ k l e. absurd (true≢false (sym e)) })

    back : (q : List (List ℕ)) → IsPlaneSystem g q ↔ IsKept g nodes (λ k. false) r q
    back q = ((there q).1, (there q).0)

module _ (g : Multigraph) (nodes : List Node) (b : IsBlockTree g nodes) where
  -- the choice of a bond: an arrangement of its keys, from the least on
  pub bond-choice : (r : List (List ℕ)) (k : ℕ) → IsRotationSystem g r → IsContiguous nodes r → IsNodeOfKind nodes k P → IsPermutation (node_keys nodes k) (choice nodes r k) × (from_least (choice nodes r k) ≡ choice nodes r k)
  bond-choice r k s c is = subst (λ (z : List ℕ). IsPermutation (node_keys nodes k) z × (from_least z ≡ z)) (sym keys) (arranged, from_least-twice (group_keys w.0) w.1.once)
    where
      v : ℕ
      v = least_vertex nodes k

      w : (gs : List (ℕ × List ℕ)) × InRuns (group nodes k) (order_at r v) gs
      w = c k v (least-has g nodes b k is.0)

      keys : choice nodes r k ≡ from_least (group_keys w.0)
      keys = ap (λ (kind : Kind). choice_of_kind kind (keys_round nodes r k v)) is.1 ∙ met-runs (group nodes k) (order_at r v) w.0 w.1

      arranged : IsPermutation (node_keys nodes k) (from_least (group_keys w.0))
      arranged = permutation-from_members (node_keys nodes k) (from_least (group_keys w.0)) (told-distinct (node_keys nodes k) (rises-once (node_keys nodes k) (b.tree.in_order.keys_rise k is.0))) (from_least-distinct (group_keys w.0) w.1.once)
          (λ x. sym (from_least-member (group_keys w.0) x ∙ runs-keys g nodes b r k v w.0 s (least-has g nodes b k is.0) w.1 x ∙ bond-keys g nodes b k is v x (least-has g nodes b k is.0)))

  -- what is to be known of plane rotation systems
  module _ (runs : (r : List (List ℕ)) → IsPlaneSystem g r → IsContiguous nodes r)
      (keep : (move : Move) (r q : List (List ℕ)) → IsPlaneSystem g r → MoveLeads g nodes move r q → IsPlaneSystem g q)
      (tell : (r q : List (List ℕ)) → IsPlaneSystem g r → IsPlaneSystem g q → ((k : ℕ) → k < length nodes → choice nodes r k ≡ choice nodes q k) → r ≡ q)
      (two : (r q : List (List ℕ)) (k : ℕ) → IsPlaneSystem g r → IsPlaneSystem g q → IsNodeOfKind nodes k R → choice nodes r k ≢ choice nodes q k → choice nodes q k ≡ from_least (reverse (choice nodes r k))) where
    -- one node's choice made another
    pub record Turned (k : ℕ) (s : List (List ℕ)) (keys : List ℕ) (moves : List Move) : Type 0 where
      pub result : List (List ℕ)
      pub plane : IsPlaneSystem g result
      pub lead : Lead g nodes (IsPlaneSystem g) moves s result
      pub own : choice nodes result k ≡ keys
      pub others : (j : ℕ) → j < length nodes → j ≢ k → choice nodes result j ≡ choice nodes s j

    single : (k : ℕ) (s q : List (List ℕ)) → k < length nodes → IsPlaneSystem g s → IsPlaneSystem g q → choice nodes s k ≢ choice nodes q k → Turned k s (choice nodes q k) (move_of_kind (node_at nodes k).kind k (choice nodes q k))
    single k s q l ps pq n = by_kind (node_at nodes k).kind refl
      where
        none : (kind : Kind) → (node_at nodes k).kind ≡ kind → ((keys : List ℕ) → choice_of_kind kind keys ≡ []) → ⊥
        none kind e h = n (empty s ∙ sym (empty q))
          where
            empty : (r : List (List ℕ)) → choice nodes r k ≡ []
            empty r = ap (λ (z : Kind). choice_of_kind z (keys_round nodes r k (least_vertex nodes k))) e ∙ h (keys_round nodes r k (least_vertex nodes k))

        by_kind : (kind : Kind) → (node_at nodes k).kind ≡ kind → Turned k s (choice nodes q k) (move_of_kind kind k (choice nodes q k))
        by_kind S e = absurd (none S e (λ keys. refl))
        by_kind B e = absurd (none B e (λ keys. refl))
        by_kind R e =
            let is : IsNodeOfKind nodes k R = (l, e) in
            let w = flip-exists g nodes s b ps.system (runs s ps) k is in
            let p : IsPlaneSystem g w.0 = keep (flip k) s w.0 ps (is, w.1) in
            record {
              result = w.0;
              plane = p;
              lead = (w.0, (is, w.1), p, refl);
              own = flip-turns g nodes k s w.0 b ps.system (runs s ps) is w.1 ∙ sym (two s q k ps pq is n);
              others = λ j d m. move-others g nodes (flip k) s w.0 b ps.system (runs s ps) (is, w.1) j d m;
            }
        by_kind P e =
            let is : IsNodeOfKind nodes k P = (l, e) in
            let keys : List ℕ = choice nodes q k in
            let c = bond-choice q k pq.system (runs q pq) is in
            let w = permute-exists g nodes s b ps.system (runs s ps) k is keys c.0 in
            let p : IsPlaneSystem g w.0 = keep (permute k keys) s w.0 ps (is, w.1) in
            record {
              result = w.0;
              plane = p;
              lead = (w.0, (is, w.1), p, refl);
              own = permute-sets g nodes k keys s w.0 b ps.system (runs s ps) is w.1 ∙ c.1;
              others = λ j d m. move-others g nodes (permute k keys) s w.0 b ps.system (runs s ps) (is, w.1) j d m;
            }

    -- the nodes below n have the choices of q, the others those of r
    pub record Halfway (r q : List (List ℕ)) (n : ℕ) : Type 0 where
      pub result : List (List ℕ)
      pub plane : IsPlaneSystem g result
      pub lead : Lead g nodes (IsPlaneSystem g) (moves_below nodes r q n) r result
      pub low : (j : ℕ) → j < n → choice nodes result j ≡ choice nodes q j
      pub high : (j : ℕ) → j < length nodes → n ≤ j → choice nodes result j ≡ choice nodes r j

    halfway : (r q : List (List ℕ)) (n : ℕ) → n ≤ length nodes → IsPlaneSystem g r → IsPlaneSystem g q → Halfway r q n
    halfway r q zero l pr pq = record { result = r; plane = pr; lead = refl; low = λ j d. absurd (omega (arith, d)); high = λ j d m. refl }
    halfway r q (suc n) l pr pq = step (halfway r q n (omega (arith, l)) pr pq)
      where
        step : Halfway r q n → Halfway r q (suc n)
        step h = elim (cases_Bool (is_same (choice nodes r n) (choice nodes q n))) [
          | inl y ↦ record {
            result = h.result;
            plane = h.plane;
            lead = lead-append g nodes (IsPlaneSystem g) (moves_below nodes r q n) (move_at nodes r q n) r h.result h.result h.lead
                (subst (λ (z : List Move). Lead g nodes (IsPlaneSystem g) z h.result h.result) (sym (ap (λ (z : Bool). cond z [] (move_of_kind (node_at nodes n).kind n (choice nodes q n))) y)) refl);
            low = λ j d. elim (cases_eq j n) [
              | inl e ↦ subst (λ z. choice nodes h.result z ≡ choice nodes q z) (sym e) (h.high n (omega (arith, l)) (omega arith) ∙ same-is (choice nodes r n) (choice nodes q n) y)
              | inr m ↦ h.low j (omega (arith, d, m))
            ];
            high = λ j d m. h.high j d (omega (arith, m));
          }
          | inr o ↦
              let here : choice nodes h.result n ≡ choice nodes r n = h.high n (omega (arith, l)) (omega arith) in
              let w : Turned n h.result (choice nodes q n) (move_of_kind (node_at nodes n).kind n (choice nodes q n)) = single n h.result q (omega (arith, l)) h.plane pq
              (λ e. both_ways (is_same (choice nodes r n) (choice nodes q n)) o (is-same (choice nodes r n) (choice nodes q n) (sym here ∙ e))) in
              record {
                result = w.result;
                plane = w.plane;
                lead = lead-append g nodes (IsPlaneSystem g) (moves_below nodes r q n) (move_at nodes r q n) r h.result w.result h.lead
                    (subst (λ (z : List Move). Lead g nodes (IsPlaneSystem g) z h.result w.result) (sym (ap (λ (z : Bool). cond z [] (move_of_kind (node_at nodes n).kind n (choice nodes q n))) o)) w.lead);
                low = λ j d. elim (cases_eq j n) [
                  | inl e ↦ subst (λ z. choice nodes w.result z ≡ choice nodes q z) (sym e) w.own
                  | inr m ↦ w.others j (omega (arith, l, d)) m ∙ h.low j (omega (arith, d, m))
                ];
                high = λ j d m. w.others j d (λ e. omega (arith, m, e)) ∙ h.high j d (omega (arith, m));
              }
        ]

    -- the moves from r to q lead from r to q
    pub moves-lead : (r q : List (List ℕ)) → IsPlaneSystem g r → IsPlaneSystem g q → Lead g nodes (IsPlaneSystem g) (moves_between nodes r q) r q
    moves-lead r q pr pq =
        let h : Halfway r q (length nodes) = halfway r q (length nodes) (omega arith) pr pq in
        subst (Lead g nodes (IsPlaneSystem g) (moves_between nodes r q) r) (tell h.result q h.plane pq (λ k l. h.low k l)) h.lead

    -- what is reached is kept
    reached : (locked : ℕ → Bool) (moves : List Move) (r q : List (List ℕ)) → IsPlaneSystem g r → All (λ (move : Move). locked (moved_node move) ≡ false) moves → Lead g nodes (λ s. Unit {0}) moves r q → IsKept g nodes locked r q
    reached locked [] r q p a l = record { plane = subst (IsPlaneSystem g) l p; keeps = λ k d y. ap (λ (z : List (List ℕ)). choice nodes z k) (sym l) }
    reached locked (move ∷ moves) r q p a l =
        let ps : IsPlaneSystem g l.0 = keep move r l.0 p l.1 in
        let w : IsKept g nodes locked l.0 q = reached locked moves l.0 q ps (All-tail (λ (move : Move). locked (moved_node move) ≡ false) move moves a) l.3 in
        let free : locked (moved_node move) ≡ false = All-head (λ (move : Move). locked (moved_node move) ≡ false) move moves a in
        record { plane = w.plane; keeps = λ k d y. w.keeps k d y ∙ move-others g nodes move r l.0 b p.system (runs r p) l.1 k d (λ e. both_ways (locked k) (ap locked e ∙ free) y) }

    pub reached-kept : (locked : ℕ → Bool) (r q : List (List ℕ)) → IsPlaneSystem g r → (IsReached g nodes locked r q ↔ IsKept g nodes locked r q)
    reached-kept locked r q p = (
      (λ w. reached locked w.moves r q p w.unlocked w.lead),
      λ w. record {
        moves = moves_between nodes r q;
        unlocked = All-weaker (λ (move : Move). (moved_node move < length nodes) × (choice nodes r (moved_node move) ≡ choice nodes q (moved_node move) → ⊥)) (λ (move : Move). locked (moved_node move) ≡ false)
            (λ move d. false_from_ne_true (locked (moved_node move)) (λ y. d.1 (sym (w.keeps (moved_node move) d.0 y)))) (moves_between nodes r q) (moves-name nodes r q);
        lead = lead-weaker g nodes (IsPlaneSystem g) (λ s. Unit {0}) (λ s u. tt) (moves_between nodes r q) r q (moves-lead r q p w.plane);
      },
    )

    pub reached-list : (locked : ℕ → Bool) (r : List (List ℕ)) (l : List (List (List ℕ))) → IsPlaneSystem g r → (IsReachedList g nodes locked r l ↔ IsKeptList g nodes locked r l)
    reached-list locked r l p = (
      same-lists_of nodes (IsReached g nodes locked r) (IsKept g nodes locked r) (λ q. reached-kept locked r q p) l,
      same-lists_of nodes (IsKept g nodes locked r) (IsReached g nodes locked r) (λ q. let w = reached-kept locked r q p in (w.1, w.0)) l,
    )
