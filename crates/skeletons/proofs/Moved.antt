-- Moves of one node: they exist, lead to one rotation system, and change the choice of no other node.
use Rattle.std.proofs.Common.{◌≡◌, ◌≢◌, ℕ, zero, suc, ◌<◌, ◌≤◌, inl, inr, true, false, List, [], ◌∷◌, ◌++◌, length, map, reverse, slice_index_or, refl, sym, ap, ◌∙◌, subst, arith, IsPermutation}
use Rattle.std.proofs.lemmas.Bool.{cases_Bool, cases_eq, cases_lt, both_ways}
use Rattle.std.proofs.lemmas.List.Sorted.{IsPermutation-trans, IsPermutation-reverse, length_permutation}
use Rattle.permutations.specs.Cyclic.{IsTurn, from_least}
use Rattle.permutations.specs.Members.{is_member, is_distinct}
use Rattle.std.proofs.lemmas.List.Elements.{All-head}
use Rattle.permutations.specs.Runs.{joined, group_keys, IsGroup, InRuns, mirrored}
use Rattle.permutations.proofs.Arrangements.{permutation-member, permutation-from_members}
use Rattle.permutations.proofs.NormalForm.{from_least-same, from_least-turn, from_least-distinct, from_least-member}
use Rattle.permutations.proofs.Relation.{same-tests}
use Rattle.permutations.proofs.Members.{member-head, member-append_left, distinct-reverse}
use Rattle.permutations.proofs.Runs.{first-of, runs-turn, runs-turned, runs-mirrored, keys-mirrored}
use Rattle.permutations.proofs.RunsByKey.{keys-member}
use Rattle.permutations.proofs.Turned.{IsTurn-refl, IsTurn-reverse, IsTurn-member}
use Rattle.permutations.proofs.Places.{told-distinct}
use Rattle.multigraph.specs.Graph.{Multigraph, edge_count, is_end, incident_edges}
use Rattle.multigraph.proofs.Places.{rises-once}
use Rattle.rotations.specs.Rotation.{order_at, IsRotationSystem}
use Rattle.rotations.proofs.Membership.{member-edge, member-end, incident-member}
use Rattle.rotations.specs.Runs.{mirror_image}
use Rattle.faces.proofs.DartLemmas.{order-distinct}
use Rattle.faces.proofs.MapMirror.{mirror-order}
use Rattle.pair_split.specs.Tutte.{Node, node_at, group, IsTutte}
use Rattle.pair_split.specs.declared.components.Kind.{Kind}
use Rattle.pair_split.specs.declared.components.Kind.TheVariants.{S, P, R, B}
use Rattle.skeletons.specs.Items.{keys_at, node_keys, has_vertex, least_vertex, greatest_vertex, IsBlockTree}
use Rattle.skeletons.specs.Round.{keys_met, keys_round, IsContiguous}
use Rattle.skeletons.specs.Choices.{choice_of_kind, choice}
use Rattle.skeletons.specs.Moves.{AreReversed, AreRegrouped, OthersStay, FlipLeads, PermuteLeads, Move, flip, permute, moved_node, IsNodeOfKind, MoveLeads}
use Rattle.skeletons.specs.Families.{StandInOrder}
use Rattle.skeletons.specs.Laws.{KeysRoundAreOfItems, FlipExists, PermuteExists, MoveIsUnique, MoveKeepsContiguous, MoveKeepsOthers, FlipTurnsChoice, PermuteSetsChoice, MirrorTurnsChoices}
use Rattle.skeletons.proofs.NodeItems.{vertex-node, group-at, key-edge, keys-at_distinct}
use Rattle.skeletons.proofs.Towards.{Toward, toward, key_toward, group-either}
use Rattle.skeletons.proofs.KeyRuns.{met-runs, met-order, order-met}
use Rattle.skeletons.proofs.Rearranged.{AreRearranged, reversed-rearranged, regrouped-rearranged, group-with, others-keep, keys-reverse, reversed-exists, regrouped-exists, reversed-once, regrouped-once}
use Rattle.skeletons.proofs.Systems.{order-written, same-turns, made, made-order, made-system}
use Rattle.skeletons.proofs.Vertices.{vertex-in, least-has, greatest-has, poles-differ, bond-vertex, bond-keys}

-- beyond its end a list has the default
pub beyond-end : (l : List (List ℕ)) (i : ℕ) → length l ≤ i → slice_index_or l i [] ≡ []
beyond-end [] i h = refl
beyond-end (x ∷ l) zero h = absurd (omega (arith, h))
beyond-end (x ∷ l) (suc i) h = beyond-end l i (omega (arith, h))

-- another writing of the order that comes of it
reversed-turn : (key : ℕ → ℕ) (l m n : List ℕ) → IsTurn m n → AreReversed key l m → AreReversed key l n
reversed-turn key l m n t a = record { groups = a.groups; before = a.before; after = runs-turned key m n (reverse a.groups) a.after t }

regrouped-turn : (key : ℕ → ℕ) (l keys m n : List ℕ) → IsTurn m n → AreRegrouped key l keys m → AreRegrouped key l keys n
regrouped-turn key l keys m n t a = record { before = a.before; after = a.after; runs_before = a.runs_before; runs_after = runs-turned key m n a.after a.runs_after t; same_groups = a.same_groups; order = a.order }

-- a cyclic order reversed, from the least on
pub mirror-normal : (keys : List ℕ) → is_distinct keys ≡ true → from_least (reverse (from_least keys)) ≡ from_least (reverse keys)
mirror-normal keys d =
    let t : IsTurn (reverse keys) (reverse (from_least keys)) = IsTurn-reverse keys (from_least keys) (from_least-turn keys) in
    sym (from_least-same (reverse keys) (reverse (from_least keys)) t (distinct-reverse keys d))

kind-mirror : (kind : Kind) (keys : List ℕ) → choice_of_kind kind (from_least (reverse keys)) ≡ from_least (reverse (choice_of_kind kind keys))
kind-mirror S keys = refl
kind-mirror P keys = refl
kind-mirror R keys = refl
kind-mirror B keys = refl

module _ (g : Multigraph) (nodes : List Node) (b : IsBlockTree g nodes) where
  abbrev t : IsTutte g nodes
  t = b.tree

  -- the edges round a vertex
  pub order-edge : (r : List (List ℕ)) (v e : ℕ) → IsRotationSystem g r → v < g.vertex_count → is_member e (order_at r v) ≡ true → (e < edge_count g) × (is_end g v e ≡ true)
  order-edge r v e s l m =
      let i : is_member e (incident_edges g v) ≡ true = sym (permutation-member (incident_edges g v) (order_at r v) e (s.orders v l).arranged) ∙ m in
      (member-edge g v e i, member-end g v e i)

  pub edge-order : (r : List (List ℕ)) (v e : ℕ) → IsRotationSystem g r → v < g.vertex_count → e < edge_count g → is_end g v e ≡ true → is_member e (order_at r v) ≡ true
  edge-order r v e s l m h = permutation-member (incident_edges g v) (order_at r v) e (s.orders v l).arranged ∙ incident-member g v e m h

  -- the keys of the groups of a node round its vertex are those of its items there
  pub runs-keys : (r : List (List ℕ)) (k v : ℕ) (gs : List (ℕ × List ℕ)) → IsRotationSystem g r → has_vertex nodes k v ≡ true → InRuns (group nodes k) (order_at r v) gs → (x : ℕ) → is_member x (group_keys gs) ≡ is_member x (keys_at nodes k v)
  runs-keys r k v gs s h runs x = same-tests (is_member x (group_keys gs)) (is_member x (keys_at nodes k v))
      (λ m. at (group-with x gs m))
      (λ m. let e = key-edge g nodes t k v x m in subst (λ z. is_member z (group_keys gs) ≡ true) e.3 (keys-member (group nodes k) (order_at r v) gs e.0 runs (edge-order r v e.0 s (vertex-in g nodes b k v h) e.1 e.2)))
    where
      at : (us : List (ℕ × List ℕ)) × (f : ℕ × List ℕ) × (vs : List (ℕ × List ℕ)) × (gs ≡ us ++ f ∷ vs) × (f.0 ≡ x) → is_member x (keys_at nodes k v) ≡ true
      at w =
          let turned : InRuns (group nodes k) (order_at r v) (w.1 ∷ (w.2 ++ w.0)) = runs-turn (group nodes k) (order_at r v) gs (w.1 ∷ (w.2 ++ w.0)) runs (record { front = w.0; back = w.1 ∷ w.2; before = w.3; after = refl }) in
          let own : IsGroup (group nodes k) w.1 = All-head (IsGroup (group nodes k)) w.1 (w.2 ++ w.0) turned.groups in
          let f = first-of w.1.1 own.filled in
          let i : is_member f.0 w.1.1 ≡ true = ap (is_member f.0) f.2 ∙ member-head f.0 f.1 in
          let e = order-edge r v f.0 s (vertex-in g nodes b k v h) (sym (IsTurn-member (order_at r v) (w.1.1 ++ joined (w.2 ++ w.0)) f.0 turned.around) ∙ member-append_left f.0 w.1.1 (joined (w.2 ++ w.0)) i) in
          subst (λ z. is_member z (keys_at nodes k v) ≡ true) (own.same_key f.0 i ∙ w.4) (group-at g nodes t k v f.0 h e.0 e.1)

  -- a rotation system with other arrangements at the vertices of one node
  pub made-at : (r : List (List ℕ)) (k : ℕ) (A : ℕ → List ℕ → Type 0) → IsRotationSystem g r → ((v : ℕ) (m n : List ℕ) → IsTurn m n → A v m → A v n)
      → ((v : ℕ) → has_vertex nodes k v ≡ true → (m : List ℕ) × IsPermutation (order_at r v) m × A v m)
      → (q : List (List ℕ)) × IsRotationSystem g q × ((v : ℕ) → has_vertex nodes k v ≡ true → A v (order_at q v)) × OthersStay nodes k r q
  made-at r k A s turns each = (q, system, there, stay)
    where
      at : (v : ℕ) → (m : List ℕ) × (v < g.vertex_count → IsPermutation (incident_edges g v) m) × (has_vertex nodes k v ≡ true → A v m) × (has_vertex nodes k v ≡ false → m ≡ order_at r v)
      at v = elim (cases_Bool (has_vertex nodes k v)) [
        | inl h ↦ let w = each v h in (w.0, (λ l. IsPermutation-trans (incident_edges g v) (order_at r v) w.0 (s.orders v l).arranged w.1), (λ i. w.2), λ i. absurd (both_ways (has_vertex nodes k v) i h))
        | inr h ↦ (order_at r v, (λ l. (s.orders v l).arranged), (λ i. absurd (both_ways (has_vertex nodes k v) h i)), λ i. refl)
      ]

      orders : ℕ → List ℕ
      orders v = (at v).0

      q : List (List ℕ)
      q = made g orders

      system : IsRotationSystem g q
      system = made-system g orders (λ v l. (at v).1 l)

      order : (v : ℕ) → v < g.vertex_count → order_at q v ≡ from_least (orders v)
      order v l = made-order g orders v l

      there : (v : ℕ) → has_vertex nodes k v ≡ true → A v (order_at q v)
      there v h = subst (A v) (sym (order v (vertex-in g nodes b k v h))) (turns v (orders v) (from_least (orders v)) (from_least-turn (orders v)) ((at v).2 h))

      stay : OthersStay nodes k r q
      stay v h = elim (cases_lt v g.vertex_count) [
        | inl l ↦ order v l ∙ ap from_least ((at v).3 h) ∙ order-written g r v s l
        | inr n ↦ beyond-end q v (subst (λ z. z ≤ v) (sym system.vertices) n) ∙ sym (beyond-end r v (subst (λ z. z ≤ v) (sym s.vertices) n))
      ]

  -- what a move leads to: at the vertices of the node the same groups in another order, and the others stay
  pub record IsMoved (k : ℕ) (r q : List (List ℕ)) : Type 0 where
    pub system : IsRotationSystem g q
    pub moved : (v : ℕ) → has_vertex nodes k v ≡ true → AreRearranged (group nodes k) (order_at r v) (order_at q v)
    pub stays : OthersStay nodes k r q

  pub flip-moved : (k : ℕ) (r q : List (List ℕ)) → FlipLeads g nodes k r q → IsMoved k r q
  flip-moved k r q f = record { system = f.system; moved = λ v h. reversed-rearranged (group nodes k) (order_at r v) (order_at q v) (f.turned v h); stays = f.stays }

  pub permute-moved : (k : ℕ) (keys : List ℕ) (r q : List (List ℕ)) → IsNodeOfKind nodes k P → PermuteLeads g nodes k keys r q → IsMoved k r q
  permute-moved k keys r q is p = record {
    system = p.system;
    moved = λ v h. elim (bond-vertex g nodes b k is v h) [
      | inl e ↦ subst (λ z. AreRearranged (group nodes k) (order_at r z) (order_at q z)) (sym e) (regrouped-rearranged (group nodes k) (order_at r (least_vertex nodes k)) keys (order_at q (least_vertex nodes k)) p.lesser)
      | inr e ↦ subst (λ z. AreRearranged (group nodes k) (order_at r z) (order_at q z)) (sym e) (regrouped-rearranged (group nodes k) (order_at r (greatest_vertex nodes k)) (reverse keys) (order_at q (greatest_vertex nodes k)) p.greater)
    ];
    stays = p.stays;
  }

  pub move-moved : (move : Move) (r q : List (List ℕ)) → MoveLeads g nodes move r q → IsMoved (moved_node move) r q
  move-moved (flip k) r q m = flip-moved k r q m.1
  move-moved (permute k keys) r q m = permute-moved k keys r q m.0 m.1

  -- other nodes see the same order
  pub moved-other : (k j v : ℕ) (r q : List (List ℕ)) (keys : List ℕ) → IsRotationSystem g r → IsMoved k r q → j ≢ k → has_vertex nodes j v ≡ true → StandInOrder (group nodes j) (order_at r v) keys → StandInOrder (group nodes j) (order_at q v) keys
  moved-other k j v r q keys s m n h a = elim (cases_Bool (has_vertex nodes k v)) [
    | inr o ↦ subst (λ (z : List ℕ). StandInOrder (group nodes j) z keys) (sym (m.stays v o)) a
    | inl i ↦ both i (toward g nodes t k j (vertex-node nodes k v i) (vertex-node nodes j v h) n) (toward g nodes t j k (vertex-node nodes j v h) (vertex-node nodes k v i) (λ e. n (sym e)))
  ]
    where
      l : v < g.vertex_count
      l = vertex-in g nodes b j v h

      both : has_vertex nodes k v ≡ true → Toward g nodes t k j → Toward g nodes t j k → StandInOrder (group nodes j) (order_at q v) keys
      both i w u = others-keep (group nodes k) (group nodes j) (key_toward g nodes t k j w) (key_toward g nodes t j k u) (order_at r v) (order_at q v) keys (m.moved v i)
          (omega (arith, length_permutation (incident_edges g v) (order_at r v) (s.orders v l).arranged, length_permutation (incident_edges g v) (order_at q v) (m.system.orders v l).arranged))
          (λ z. permutation-member (incident_edges g v) (order_at r v) z (s.orders v l).arranged ∙ sym (permutation-member (incident_edges g v) (order_at q v) z (m.system.orders v l).arranged))
          (λ e x. group-either g nodes t k j e (λ y. n (sym y)) w u (order-edge r v e s l x).0) a

  -- all groups stay in runs
  pub moved-contiguous : (k : ℕ) (r q : List (List ℕ)) → IsRotationSystem g r → IsContiguous nodes r → IsMoved k r q → IsContiguous nodes q
  moved-contiguous k r q s c m j v h = elim (cases_eq j k) [
    | inl e ↦ let w = m.moved v (subst (λ z. has_vertex nodes z v ≡ true) e h) in (w.after, subst (λ z. InRuns (group nodes z) (order_at q v) w.after) (sym e) w.runs_after)
    | inr n ↦
        let w = c j v h in
        let o : StandInOrder (group nodes j) (order_at q v) (keys_met (group nodes j) (order_at r v)) = moved-other k j v r q (keys_met (group nodes j) (order_at r v)) s m n h (order-met (group nodes j) (order_at r v) w.0 w.1) in
        (o.groups, o.runs)
  ]

  -- and all other choices stay
  pub moved-round : (k j v : ℕ) (r q : List (List ℕ)) → IsRotationSystem g r → IsContiguous nodes r → IsMoved k r q → j ≢ k → has_vertex nodes j v ≡ true → keys_round nodes q j v ≡ keys_round nodes r j v
  moved-round k j v r q s c m n h =
      let w = c j v h in
      let keys : List ℕ = keys_met (group nodes j) (order_at r v) in
      let o : StandInOrder (group nodes j) (order_at r v) keys = order-met (group nodes j) (order_at r v) w.0 w.1 in
      met-order (group nodes j) (order_at q v) keys (moved-other k j v r q keys s m n h o) ∙ sym (met-order (group nodes j) (order_at r v) keys o)

  pub moved-choice : (k j : ℕ) (r q : List (List ℕ)) → IsRotationSystem g r → IsContiguous nodes r → IsMoved k r q → j < length nodes → j ≢ k → choice nodes q j ≡ choice nodes r j
  moved-choice k j r q s c m l n = ap (choice_of_kind (node_at nodes j).kind) (moved-round k j (least_vertex nodes j) r q s c m n (least-has g nodes b j l))

  -- the keys round a vertex after a flip
  pub flip-round : (k v : ℕ) (r q : List (List ℕ)) → FlipLeads g nodes k r q → has_vertex nodes k v ≡ true → keys_round nodes q k v ≡ from_least (reverse (keys_round nodes r k v))
  flip-round k v r q f h =
      let a = f.turned v h in
      met-runs (group nodes k) (order_at q v) (reverse a.groups) a.after ∙ ap from_least (keys-reverse a.groups)
      ∙ sym (mirror-normal (group_keys a.groups) a.before.once) ∙ ap (λ (z : List ℕ). from_least (reverse z)) (sym (met-runs (group nodes k) (order_at r v) a.groups a.before))

  -- the keys round a vertex in the mirror image
  pub mirror-round : (k v : ℕ) (r : List (List ℕ)) → IsContiguous nodes r → has_vertex nodes k v ≡ true → keys_round nodes (mirror_image r) k v ≡ from_least (reverse (keys_round nodes r k v))
  mirror-round k v r c h =
      let w = c k v h in
      let l : List ℕ = order_at r v in
      ap (keys_met (group nodes k)) (mirror-order r v)
      ∙ met-runs (group nodes k) (from_least (reverse l)) (reverse (map mirrored w.0)) (runs-turned (group nodes k) (reverse l) (from_least (reverse l)) (reverse (map mirrored w.0)) (runs-mirrored (group nodes k) l w.0 w.1) (from_least-turn (reverse l)))
      ∙ ap from_least (keys-mirrored w.0) ∙ sym (mirror-normal (group_keys w.0) w.1.once) ∙ ap (λ (z : List ℕ). from_least (reverse z)) (sym (met-runs (group nodes k) l w.0 w.1))

-- the keys round a vertex are those of the items there
pub keys-round_items : KeysRoundAreOfItems
keys-round_items g nodes r b s c k v h =
    let w = c k v h in
    permutation-from_members (keys_at nodes k v) (keys_round nodes r k v) (keys-at_distinct g nodes b.tree k v)
    (ap is_distinct (met-runs (group nodes k) (order_at r v) w.0 w.1) ∙ from_least-distinct (group_keys w.0) w.1.once)
    (λ x. sym (ap (is_member x) (met-runs (group nodes k) (order_at r v) w.0 w.1) ∙ from_least-member (group_keys w.0) x ∙ runs-keys g nodes b r k v w.0 s h w.1 x))

-- the laws on moves
pub flip-exists : FlipExists
flip-exists g nodes r b s c k is =
    let w = made-at g nodes b r k (λ v m. AreReversed (group nodes k) (order_at r v) m) s (λ v m n. reversed-turn (group nodes k) (order_at r v) m n)
    (λ v h. let a = c k v h in reversed-exists (group nodes k) (order_at r v) a.0 (order-distinct g r v s (vertex-in g nodes b k v h)) a.1) in
    (w.0, record { system = w.1; turned = w.2; stays = w.3 })

pub permute-exists : PermuteExists
permute-exists g nodes r b s c k is keys p = (
  w.0,
  record {
    system = w.1;
    arrangement = p;
    lesser = (w.2 (least_vertex nodes k) (least-has g nodes b k is.0)).0 refl;
    greater = (w.2 (greatest_vertex nodes k) (greatest-has g nodes b k is.0)).1 refl;
    stays = w.3;
  },
)
  where
    A : ℕ → List ℕ → Type 0
    A v m = (v ≡ least_vertex nodes k → AreRegrouped (group nodes k) (order_at r v) keys m) × (v ≡ greatest_vertex nodes k → AreRegrouped (group nodes k) (order_at r v) (reverse keys) m)

    turn : (v : ℕ) (m n : List ℕ) → IsTurn m n → A v m → A v n
    turn v m n t a = ((λ e. regrouped-turn (group nodes k) (order_at r v) keys m n t (a.0 e)), λ e. regrouped-turn (group nodes k) (order_at r v) (reverse keys) m n t (a.1 e))

    arranged : (v : ℕ) (h : has_vertex nodes k v ≡ true) → IsPermutation (group_keys (c k v h).0) keys
    arranged v h = IsPermutation-trans (group_keys (c k v h).0) (node_keys nodes k) keys
        (permutation-from_members (group_keys (c k v h).0) (node_keys nodes k) (c k v h).1.once keys-once (λ x. runs-keys g nodes b r k v (c k v h).0 s h (c k v h).1 x ∙ bond-keys g nodes b k is v x h)) p
      where
        keys-once : is_distinct (node_keys nodes k) ≡ true
        keys-once = told-distinct (node_keys nodes k) (rises-once (node_keys nodes k) (b.tree.in_order.keys_rise k is.0))

    each : (v : ℕ) → has_vertex nodes k v ≡ true → (m : List ℕ) × IsPermutation (order_at r v) m × A v m
    each v h =
        let d : is_distinct (order_at r v) ≡ true = order-distinct g r v s (vertex-in g nodes b k v h) in
        elim (bond-vertex g nodes b k is v h) [
          | inl e ↦ let m = regrouped-exists (group nodes k) (order_at r v) keys (c k v h).0 d (c k v h).1 (arranged v h) in
              (m.0, m.1, ((λ q. m.2), λ q. absurd (poles-differ g nodes b k is (sym e ∙ q))))
          | inr e ↦ let m = regrouped-exists (group nodes k) (order_at r v) (reverse keys) (c k v h).0 d (c k v h).1 (IsPermutation-trans (group_keys (c k v h).0) keys (reverse keys) (arranged v h) (IsPermutation-reverse keys)) in
              (m.0, m.1, ((λ q. absurd (poles-differ g nodes b k is (sym q ∙ e))), λ q. m.2))
        ]

    w : (q : List (List ℕ)) × IsRotationSystem g q × ((v : ℕ) → has_vertex nodes k v ≡ true → A v (order_at q v)) × OthersStay nodes k r q
    w = made-at g nodes b r k A s turn each

pub move-unique : MoveIsUnique
move-unique g nodes (flip k) r q s b sys m n = same-turns g q s m.1.system n.1.system (λ v l. elim (cases_Bool (has_vertex nodes k v)) [
  | inl h ↦ reversed-once (group nodes k) (order_at r v) (order_at q v) (order_at s v) (order-distinct g r v sys l) (m.1.turned v h) (n.1.turned v h)
  | inr h ↦ subst (λ (z : List ℕ). IsTurn z (order_at s v)) (sym (m.1.stays v h)) (subst (IsTurn (order_at r v)) (sym (n.1.stays v h)) (IsTurn-refl (order_at r v)))
])
move-unique g nodes (permute k keys) r q s b sys m n = same-turns g q s m.1.system n.1.system (λ v l. elim (cases_Bool (has_vertex nodes k v)) [
  | inl h ↦ elim (bond-vertex g nodes b k m.0 v h) [
    | inl e ↦ regrouped-once (group nodes k) (order_at r v) keys (order_at q v) (order_at s v) (order-distinct g r v sys l)
        (subst (λ z. AreRegrouped (group nodes k) (order_at r z) keys (order_at q z)) (sym e) m.1.lesser) (subst (λ z. AreRegrouped (group nodes k) (order_at r z) keys (order_at s z)) (sym e) n.1.lesser)
    | inr e ↦ regrouped-once (group nodes k) (order_at r v) (reverse keys) (order_at q v) (order_at s v) (order-distinct g r v sys l)
        (subst (λ z. AreRegrouped (group nodes k) (order_at r z) (reverse keys) (order_at q z)) (sym e) m.1.greater) (subst (λ z. AreRegrouped (group nodes k) (order_at r z) (reverse keys) (order_at s z)) (sym e) n.1.greater)
  ]
  | inr h ↦ subst (λ (z : List ℕ). IsTurn z (order_at s v)) (sym (m.1.stays v h)) (subst (IsTurn (order_at r v)) (sym (n.1.stays v h)) (IsTurn-refl (order_at r v)))
])

pub move-contiguous : MoveKeepsContiguous
move-contiguous g nodes move r q b s c m = moved-contiguous g nodes b (moved_node move) r q s c (move-moved g nodes b move r q m)

pub move-others : MoveKeepsOthers
move-others g nodes move r q b s c m j l n = moved-choice g nodes b (moved_node move) j r q s c (move-moved g nodes b move r q m) l n

pub flip-turns : FlipTurnsChoice
flip-turns g nodes k r q b s c is f =
    ap (λ (kind : Kind). choice_of_kind kind (keys_round nodes q k (least_vertex nodes k))) is.1 ∙ flip-round g nodes b k (least_vertex nodes k) r q f (least-has g nodes b k is.0)
    ∙ ap (λ (kind : Kind). from_least (reverse (choice_of_kind kind (keys_round nodes r k (least_vertex nodes k))))) (sym is.1)

pub permute-sets : PermuteSetsChoice
permute-sets g nodes k keys r q b s c is p =
    ap (λ (kind : Kind). choice_of_kind kind (keys_round nodes q k (least_vertex nodes k))) is.1
    ∙ met-runs (group nodes k) (order_at q (least_vertex nodes k)) p.lesser.after p.lesser.runs_after ∙ ap from_least p.lesser.order

pub mirror-turns : MirrorTurnsChoices
mirror-turns g nodes r b s c k l =
    ap (choice_of_kind (node_at nodes k).kind) (mirror-round g nodes b k (least_vertex nodes k) r c (least-has g nodes b k l))
    ∙ kind-mirror (node_at nodes k).kind (keys_round nodes r k (least_vertex nodes k))
