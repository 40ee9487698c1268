-- Any orders of the items at the vertices of the nodes are those of the groups of a rotation system: at each vertex the orders
-- are put in one after the other, from a node with the vertex outwards, each within the run of the link that leads to it.
use Rattle.std.proofs.Common.{◌≡◌, ◌≢◌, ℕ, zero, suc, ◌+◌, ◌<◌, ◌≤◌, ◌⊎◌, ◌||◌, inl, inr, Bool, true, List, [], ◌∷◌, ◌++◌, length, refl, sym, ap, ◌∙◌, subst, arith, IsPermutation}
use Rattle.std.proofs.lemmas.Bool.{cases_Bool, cases_eq, cases_lt, both_ways, true≢false, false_from_ne_true, not_from_true, not_from_false}
use Rattle.std.proofs.lemmas.List.Elements.{All-cons, All-head}
use Rattle.std.proofs.lemmas.List.Sorted.{IsPermutation-refl}
use Rattle.permutations.specs.Cyclic.{IsTurn, from_least}
use Rattle.permutations.specs.Members.{is_member, is_distinct}
use Rattle.permutations.specs.Runs.{joined, group_keys, IsGroup, InRuns}
use Rattle.permutations.proofs.Arrangements.{permutation-member, permutation-distinct, permutation-from_members, length-from_members}
use Rattle.permutations.proofs.CyclicSame.{IsTurn-trans}
use Rattle.permutations.proofs.Members.{member-append, member-tail, member-cases, member-append_cases, member-append_left, member-append_right, distinct-append, distinct-append_left, distinct-append_right, distinct-append_apart, distinct-head, distinct-tail, CutAt, cut_at}
use Rattle.permutations.proofs.Relation.{same-tests}
use Rattle.permutations.proofs.Runs.{other-groups, runs-turn}
use Rattle.permutations.proofs.Turned.{IsTurn-refl, IsTurn-sym, IsTurn-swap, IsTurn-member, IsTurn-distinct}
use Rattle.multigraph.specs.Graph.{Multigraph, edge_count, incident_edges}
use Rattle.rotations.specs.Rotation.{order_at, IsRotationSystem}
use Rattle.rotations.proofs.Membership.{member-edge, member-end, incident-member, incident-distinct}
use Rattle.pair_split.specs.Split.{is_beyond, side, LinksTo, IsTree, AreLinked}
use Rattle.pair_split.specs.Tutte.{Node, components, node_at, node_item, group, IsTutte}
use Rattle.pair_split.specs.declared.components.Comp.{Comp}
use Rattle.pair_split.specs.declared.components.What.TheVariants.{Link}
use Rattle.pair_split.proofs.Groups.{side-other}
use Rattle.pair_split.proofs.Rerooted.{rerooted, rerooted-root}
use Rattle.pair_split.proofs.TreeSides.{link-differs, beyond-far}
use Rattle.pair_split.proofs.Subtrees.{is_below, below-root, below-parent, below-rank, side-above}
use Rattle.skeletons.specs.Items.{ends_item, keys_at, has_vertex, IsBlockTree}
use Rattle.skeletons.specs.Families.{StandInOrder}
use Rattle.skeletons.proofs.NodeItems.{comp-in, node-in, item-of, stands-of, key-at_from, vertex-node, group-at, key-edge}
use Rattle.skeletons.proofs.Towards.{Toward, toward, key_toward, group-either, group-side, shared-end, link-vertex, far-item}
use Rattle.skeletons.proofs.KeyRuns.{order-turned, order-exchanged}
use Rattle.skeletons.proofs.Rearranged.{group-with, gathered, gathered-keys, gathered-member, member-gathered, gathered-distinct, gathered-groups, gathered-runs}
use Rattle.skeletons.proofs.Systems.{made, made-order, made-system}
use Rattle.skeletons.proofs.Vertices.{vertex-in}
use Rattle.permutations.proofs.NormalForm.{from_least-turn}

module _ (g : Multigraph) (nodes : List Node) (b : IsBlockTree g nodes) where
  abbrev t : IsTutte g nodes
  t = b.tree

  abbrev comps : List Comp
  comps = components nodes

  -- an order of the items at each vertex of each node
  pub record AreOrders (keys : ℕ → ℕ → List ℕ) : Type 0 where
    pub once : (k v : ℕ) → has_vertex nodes k v ≡ true → is_distinct (keys k v) ≡ true
    pub members : (k v x : ℕ) → has_vertex nodes k v ≡ true → is_member x (keys k v) ≡ is_member x (keys_at nodes k v)

  module _ (keys : ℕ → ℕ → List ℕ) (orders : AreOrders keys) (v : ℕ) (l : v < g.vertex_count) where
    -- a cyclic order of the edges at v in which the groups of the nodes that pass stand in order
    pub record Stage (D : ℕ → Type 0) : Type 0 where
      pub list : List ℕ
      pub arranged : IsPermutation (incident_edges g v) list
      pub stand : (j : ℕ) → D j → has_vertex nodes j v ≡ true → StandInOrder (group nodes j) list (keys j v)

    -- each key at v is that of an edge round v
    key-member : (list : List ℕ) → IsPermutation (incident_edges g v) list → (k x : ℕ) → has_vertex nodes k v ≡ true → is_member x (keys k v) ≡ true → (e : ℕ) × (e < edge_count g) × (is_member e list ≡ true) × (group nodes k e ≡ x)
    key-member list p k x h m =
        let e = key-edge g nodes t k v x (sym (orders.members k v x h) ∙ m) in
        (e.0, e.1, permutation-member (incident_edges g v) list e.0 p ∙ incident-member g v e.0 e.1 e.2, e.3)

    -- and the key of each edge round v is one at v
    member-key : (list : List ℕ) → IsPermutation (incident_edges g v) list → (k e : ℕ) → has_vertex nodes k v ≡ true → is_member e list ≡ true → (e < edge_count g) × (is_member (group nodes k e) (keys k v) ≡ true)
    member-key list p k e h m =
        let i : is_member e (incident_edges g v) ≡ true = sym (permutation-member (incident_edges g v) list e p) ∙ m in
        (member-edge g v e i, orders.members k v (group nodes k e) h ∙ group-at g nodes t k v e h (member-edge g v e i) (member-end g v e i))

    -- the first node
    first : (h : ℕ) → has_vertex nodes h v ≡ true → Stage (λ j. j ≡ h)
    first h x = record {
      list = joined (gathered (group nodes h) base (keys h v));
      arranged = permutation-from_members base (joined (gathered (group nodes h) base (keys h v))) (incident-distinct g v) (gathered-distinct (group nodes h) base (keys h v) (incident-distinct g v) (orders.once h v x))
          (λ z. same-tests (is_member z base) (is_member z (joined (gathered (group nodes h) base (keys h v))))
          (λ m. member-gathered (group nodes h) base (keys h v) z m (member-key base (IsPermutation-refl base) h z x m).1)
          (λ m. (gathered-member (group nodes h) base (keys h v) z m).0));
      stand = λ j e y. subst (λ z. StandInOrder (group nodes z) (joined (gathered (group nodes h) base (keys h v))) (keys z v)) (sym e) (record {
        groups = gathered (group nodes h) base (keys h v);
        runs = gathered-runs (group nodes h) base (keys h v) (orders.once h v x) (λ k m. let e = key-member base (IsPermutation-refl base) h k x m in (e.0, e.2, e.3));
        order = subst (λ (z : List ℕ). IsTurn z (keys h v)) (sym (gathered-keys (group nodes h) base (keys h v))) (IsTurn-refl (keys h v));
      });
    }
      where
        base : List ℕ
        base = incident_edges g v

    -- one node more: the link of k leads to p, towards all nodes that pass
    module _ (k p i : ℕ) (ik : i < length (node_at nodes k).items) (link : (node_item nodes k i).what ≡ Link p) (hk : has_vertex nodes k v ≡ true) (hp : has_vertex nodes p v ≡ true)
        (ends : ends_item v (node_item nodes k i) ≡ true) where
      dk : k < length nodes
      dk = vertex-node nodes k v hk

      dp : p < length nodes
      dp = vertex-node nodes p v hp

      -- the key of the link at k, and at p
      back : (q : ℕ) × (q < length (node_at nodes p).items) × ((node_item nodes p q).what ≡ Link k) × ((v : ℕ) → ends_item v (node_item nodes k i) ≡ ends_item v (node_item nodes p q))
      back = far-item g nodes t k i p ik link

      abbrev a : ℕ
      a = (node_item nodes k i).key

      abbrev c : ℕ
      c = (node_item nodes p back.0).key

      linked-kp : LinksTo comps k p
      linked-kp = (i, stands-of g nodes t k i (Link p) ik link)

      -- an edge in the group of the link at p is not in that of the link at k
      not-both : (e : ℕ) → e < edge_count g → group nodes p e ≡ c → group nodes k e ≢ a
      not-both e m q r = both_ways (side comps k p e)
          (side-other g comps t.split k p e linked-kp m ∙ not_from_true (side comps p k e) (group-side g nodes t p back.0 k e dp back.1 back.2 m q))
          (group-side g nodes t k i p e dk ik link m r)

      -- and otherwise it is
      one-of : (e : ℕ) → e < edge_count g → group nodes p e ≢ c → group nodes k e ≡ a
      one-of e m q = group-either g nodes t p k e (λ r. link-differs comps t.split.linked k p linked-kp (sym r))
          (record { place = back.0; next = k; is_item = back.1; is_link = back.2; beyond = beyond-far comps t.split.linked p k })
          (record { place = i; next = p; is_item = ik; is_link = link; beyond = beyond-far comps t.split.linked k p }) m q

      pub further : (D : ℕ → Type 0) → Stage D → D p → ((j : ℕ) → D j → (j ≢ k) × (is_beyond comps k p j ≡ true)) → Stage (λ j. D j ⊎ (j ≡ k))
      further D s there away = at (group-with c stand.groups c-there) (cut_at a (keys k v) a-there)
        where
          stand : StandInOrder (group nodes p) s.list (keys p v)
          stand = s.stand p there hp

          c-there : is_member c (group_keys stand.groups) ≡ true
          c-there = sym (IsTurn-member (group_keys stand.groups) (keys p v) c stand.order) ∙ orders.members p v c hp ∙ key-at_from v (node_at nodes p).items back.0 back.1 (sym (back.3 v) ∙ ends)

          a-there : is_member a (keys k v) ≡ true
          a-there = orders.members k v a hk ∙ key-at_from v (node_at nodes k).items i ik ends

          at : (us : List (ℕ × List ℕ)) × (f : ℕ × List ℕ) × (vs : List (ℕ × List ℕ)) × (stand.groups ≡ us ++ f ∷ vs) × (f.0 ≡ c) → CutAt a (keys k v) → Stage (λ j. D j ⊎ (j ≡ k))
          at w cut = record {
            list = O ++ new;
            arranged = permutation-from_members (incident_edges g v) (O ++ new) (incident-distinct g v) distinct-new (λ z. sym (permutation-member (incident_edges g v) s.list z s.arranged) ∙ same z);
            stand = λ j x h. elim x [ inl d ↦ others j d h | inr e ↦ subst (λ z. StandInOrder (group nodes z) (O ++ new) (keys z v)) (sym e) own ];
          }
            where
              C : List ℕ
              C = w.1.1

              O : List ℕ
              O = joined (w.2 ++ w.0)

              rest : List ℕ
              rest = cut.back ++ cut.front

              new : List ℕ
              new = joined (gathered (group nodes k) C rest)

              runs : InRuns (group nodes p) s.list (w.1 ∷ (w.2 ++ w.0))
              runs = runs-turn (group nodes p) s.list stand.groups (w.1 ∷ (w.2 ++ w.0)) stand.runs (record { front = w.0; back = w.1 ∷ w.2; before = w.3; after = refl })

              turned : IsTurn s.list (O ++ C)
              turned = IsTurn-trans s.list (C ++ O) (O ++ C) runs.around (IsTurn-swap C O)

              inside : (e : ℕ) → is_member e (O ++ C) ≡ true → is_member e s.list ≡ true
              inside e m = sym (IsTurn-member s.list (O ++ C) e turned) ∙ m

              in_C : (e : ℕ) → is_member e C ≡ true → is_member e s.list ≡ true
              in_C e m = inside e (member-append_right e O C m)

              in_O : (e : ℕ) → is_member e O ≡ true → is_member e s.list ≡ true
              in_O e m = inside e (member-append_left e O C m)

              edge : (e : ℕ) → is_member e s.list ≡ true → e < edge_count g
              edge e m = (member-key s.list s.arranged k e hk m).0

              C-key : (e : ℕ) → is_member e C ≡ true → group nodes k e ≢ a
              C-key e m = not-both e (edge e (in_C e m)) ((All-head (IsGroup (group nodes p)) w.1 (w.2 ++ w.0) runs.groups).same_key e m ∙ w.4)

              O-key : (e : ℕ) → is_member e O ≡ true → group nodes k e ≡ a
              O-key e m = one-of e (edge e (in_O e m)) (λ q. other-groups (group nodes p) w.1 (w.2 ++ w.0) e runs.once runs.groups m (q ∙ sym w.4))

              keys-turn : IsTurn (a ∷ rest) (keys k v)
              keys-turn = record { front = a ∷ cut.back; back = cut.front; before = refl; after = cut.is }

              keys-once : is_distinct (a ∷ rest) ≡ true
              keys-once = IsTurn-distinct (keys k v) (a ∷ rest) (IsTurn-sym (a ∷ rest) (keys k v) keys-turn) (orders.once k v hk)

              -- a key of k at v is that of the link, or one of the others
              C-rest : (e : ℕ) → is_member e C ≡ true → is_member (group nodes k e) rest ≡ true
              C-rest e m = elim (member-cases (group nodes k e) a rest (sym (IsTurn-member (a ∷ rest) (keys k v) (group nodes k e) keys-turn) ∙ (member-key s.list s.arranged k e hk (in_C e m)).1)) [
                | inl q ↦ absurd (C-key e m (sym q))
                | inr n ↦ n
              ]

              whole-distinct : is_distinct (O ++ C) ≡ true
              whole-distinct = IsTurn-distinct s.list (O ++ C) turned (permutation-distinct (incident_edges g v) s.list s.arranged (incident-distinct g v))

              C-distinct : is_distinct C ≡ true
              C-distinct = distinct-append_right O C whole-distinct

              new-distinct : is_distinct new ≡ true
              new-distinct = gathered-distinct (group nodes k) C rest C-distinct (distinct-tail a rest keys-once)

              new-member : (z : ℕ) → is_member z C ≡ is_member z new
              new-member z = same-tests (is_member z C) (is_member z new) (λ m. member-gathered (group nodes k) C rest z m (C-rest z m)) (λ m. (gathered-member (group nodes k) C rest z m).0)

              distinct-new : is_distinct (O ++ new) ≡ true
              distinct-new = distinct-append O new (distinct-append_left O C whole-distinct) new-distinct (λ z m. sym (new-member z) ∙ distinct-append_apart O C whole-distinct z m)

              same : (z : ℕ) → is_member z s.list ≡ is_member z (O ++ new)
              same z = sym (IsTurn-member s.list (O ++ C) z turned) ∙ member-append z O C ∙ ap (λ (x : Bool). is_member z O || x) (new-member z) ∙ sym (member-append z O new)

              long : length C ≡ length new
              long = length-from_members C new C-distinct new-distinct new-member

              -- the nodes that pass see no change
              others : (j : ℕ) → D j → has_vertex nodes j v ≡ true → StandInOrder (group nodes j) (O ++ new) (keys j v)
              others j d h =
                  let n : j ≢ k = (away j d).0 in
                  let way : Toward g nodes t k j = record { place = i; next = p; is_item = ik; is_link = link; beyond = (away j d).1 } in
                  let u : Toward g nodes t j k = toward g nodes t j k (vertex-node nodes j v h) dk (λ e. n (sym e)) in
                  let far : (e : ℕ) → is_member e C ≡ true → group nodes j e ≡ key_toward g nodes t j k u = λ e m. group-either g nodes t k j e (λ q. n (sym q)) way u (edge e (in_C e m)) (C-key e m) in
                  order-exchanged (group nodes j) (key_toward g nodes t j k u) O C new (keys j v) (order-turned (group nodes j) s.list (O ++ C) (keys j v) (s.stand j d h) turned) far (λ e m. far e (new-member e ∙ m)) long

              -- an edge in the group of the link at k
              O-filled : 0 < length O
              O-filled = let e = key-member s.list s.arranged k a hk a-there in
                  elim (member-append_cases e.0 O C (IsTurn-member s.list (O ++ C) e.0 turned ∙ e.2)) [ inl m ↦ some O e.0 m | inr m ↦ absurd (C-key e.0 m e.3) ]
                where
                  some : (y : List ℕ) (x : ℕ) → is_member x y ≡ true → 0 < length y
                  some [] x m = absurd (true≢false (sym m))
                  some (z ∷ y) x m = omega arith

              filled : (x : ℕ) → is_member x rest ≡ true → (e : ℕ) × (is_member e C ≡ true) × (group nodes k e ≡ x)
              filled x m = let e = key-member s.list s.arranged k x hk (IsTurn-member (a ∷ rest) (keys k v) x keys-turn ∙ member-tail x a rest m) in
                  elim (member-append_cases e.0 O C (IsTurn-member s.list (O ++ C) e.0 turned ∙ e.2)) [
                    | inr i ↦ (e.0, i, e.3)
                    | inl i ↦ absurd (both_ways (is_member a rest) (distinct-head a rest keys-once) (subst (λ z. is_member z rest ≡ true) (sym e.3 ∙ O-key e.0 i) m))
                  ]

              own : StandInOrder (group nodes k) (O ++ new) (keys k v)
              own = record {
                groups = (a, O) ∷ gathered (group nodes k) C rest;
                runs = record {
                  once = ap (λ (z : List ℕ). is_distinct (a ∷ z)) (gathered-keys (group nodes k) C rest) ∙ keys-once;
                  groups = All-cons (IsGroup (group nodes k)) (a, O) (gathered (group nodes k) C rest) (record { filled = O-filled; same_key = O-key }) (gathered-groups (group nodes k) C rest filled);
                  around = IsTurn-refl (O ++ new);
                };
                order = subst (λ (z : List ℕ). IsTurn (a ∷ z) (keys k v)) (sym (gathered-keys (group nodes k) C rest)) keys-turn;
              }

    pub weaker : (D E : ℕ → Type 0) → Stage D → ((j : ℕ) → E j → has_vertex nodes j v ≡ true → D j) → Stage E
    weaker D E s h = record { list = s.list; arranged = s.arranged; stand = λ j e x. s.stand j (h j e x) x }

    -- all nodes one after the other, from a node with the vertex outwards, by their ranks
    module _ (h : ℕ) (hv : has_vertex nodes h v ≡ true) where
      dh : h < length comps
      dh = comp-in g nodes t h (vertex-node nodes h v hv)

      abbrev tree : IsTree comps
      tree = rerooted comps t.split.linked h dh

      abbrev linked : AreLinked comps
      linked = record { once = t.split.linked.once; back = t.split.linked.back; tree = tree }

      root-is : tree.root ≡ h
      root-is = rerooted-root comps t.split.linked h dh

      -- the nodes of smaller rank, and of this rank the first i
      abbrev Passed : ℕ → ℕ → ℕ → Type 0
      Passed s i j = (j < length nodes) × ((j ≡ h) ⊎ ((tree.rank j < s) ⊎ ((tree.rank j ≡ s) × (j < i))))

      -- what has no greater rank and is another node is on the side of the parent
      parent-side : (k j : ℕ) → k < length comps → k ≢ h → j < length comps → j ≢ k → (j ≡ h) ⊎ (tree.rank j ≤ tree.rank k) → is_beyond comps k (tree.parent k) j ≡ true
      parent-side k j lk nk lj n c = side-above comps linked k j lk root-differs lj ∙ not_from_false (is_below comps linked k j) (false_from_ne_true (is_below comps linked k j) (λ y. no y))
        where
          root-differs : k ≢ tree.root
          root-differs e = nk (e ∙ root-is)

          no : is_below comps linked k j ≡ true → ⊥
          no y = elim (cases_eq j tree.root) [
            | inl e ↦ both_ways (is_below comps linked k tree.root) (below-root comps linked k (λ q. root-differs (sym q))) (subst (λ z. is_below comps linked k z ≡ true) e y)
            | inr m ↦
                let low : tree.rank k ≤ tree.rank (tree.parent j) = below-rank comps linked k (tree.parent j) (tree.parent_in j lj m) (sym (below-parent comps linked k j lj n m) ∙ y) in
                let falls : tree.rank (tree.parent j) < tree.rank j = tree.rank_falls j lj m in
                elim c [ inl e ↦ m (e ∙ sym root-is) | inr r ↦ omega (arith, low, falls, r) ]
          ]

      one-more : (s i : ℕ) → i < length nodes → Stage (Passed s i) → Stage (Passed s (suc i))
      one-more s i l st = elim (cases_Bool (has_vertex nodes i v)) [
        | inr n ↦ weaker (Passed s i) (Passed s (suc i)) st (λ j p x. elim p.1 [
          | inl e ↦ (p.0, inl e)
          | inr q ↦ elim q [
            | inl r ↦ (p.0, inr (inl r))
            | inr r ↦ (p.0, inr (inr (r.0, other j r.1 (λ e. both_ways (has_vertex nodes i v) n (subst (λ z. has_vertex nodes z v ≡ true) e x)))))
          ]
        ])
        | inl y ↦ elim (cases_eq i h) [
          | inl e ↦ weaker (Passed s i) (Passed s (suc i)) st (λ j p x. elim p.1 [
            | inl q ↦ (p.0, inl q)
            | inr q ↦ elim q [
              | inl r ↦ (p.0, inr (inl r))
              | inr r ↦ elim (cases_eq j i) [ inl d ↦ (p.0, inl (d ∙ e)) | inr d ↦ (p.0, inr (inr (r.0, other j r.1 d))) ]
            ]
          ])
          | inr n ↦ elim (cases_eq (tree.rank i) s) [
            | inr m ↦ weaker (Passed s i) (Passed s (suc i)) st (λ j p x. elim p.1 [
              | inl q ↦ (p.0, inl q)
              | inr q ↦ elim q [
                | inl r ↦ (p.0, inr (inl r))
                | inr r ↦ (p.0, inr (inr (r.0, other j r.1 (λ d. m (ap tree.rank (sym d) ∙ r.0)))))
              ]
            ])
            | inl m ↦ weaker (λ j. Passed s i j ⊎ (j ≡ i)) (Passed s (suc i)) (next y n m) (λ j p x. elim (cases_eq j i) [
              | inl d ↦ inr d
              | inr d ↦ inl (
                p.0,
                elim p.1 [
                  | inl q ↦ inl q
                  | inr q ↦ inr (elim q [ inl r ↦ inl r | inr r ↦ inr (r.0, other j r.1 d) ])
                ],
              )
            ])
          ]
        ]
      ]
        where
          other : (j : ℕ) → j < suc i → j ≢ i → j < i
          other j a n = omega (arith, a, n)

          next : has_vertex nodes i v ≡ true → i ≢ h → tree.rank i ≡ s → Stage (λ j. Passed s i j ⊎ (j ≡ i))
          next y n m = further i p place in_place link y (link-vertex g nodes t i place p v in_place link ends) ends (Passed s i) st
              (node-in g nodes t p parent-in, inr (inl (omega (arith, m, tree.rank_falls i li differs)))) (λ j q. (apart j q.1, parent-side i j li n (comp-in g nodes t j q.0) (apart j q.1) (low j q.1)))
            where
              li : i < length comps
              li = comp-in g nodes t i l

              differs : i ≢ tree.root
              differs e = n (e ∙ root-is)

              p : ℕ
              p = tree.parent i

              parent-in : p < length comps
              parent-in = tree.parent_in i li differs

              place : ℕ
              place = (tree.to_parent i li differs).0

              in_place : place < length (node_at nodes i).items
              in_place = (item-of g nodes t i place (Link p) (tree.to_parent i li differs).1).0

              link : (node_item nodes i place).what ≡ Link p
              link = (item-of g nodes t i place (Link p) (tree.to_parent i li differs).1).1

              ends : ends_item v (node_item nodes i place) ≡ true
              ends = shared-end g nodes t i h v n (record { place = place; next = p; is_item = in_place; is_link = link; beyond = parent-side i h li n dh (λ e. n (sym e)) (inl refl) }) y hv

              apart : (j : ℕ) → (j ≡ h) ⊎ ((tree.rank j < s) ⊎ ((tree.rank j ≡ s) × (j < i))) → j ≢ i
              apart j c e = elim c [
                | inl q ↦ n (sym e ∙ q)
                | inr q ↦ elim q [ inl r ↦ omega (arith, r, m, ap tree.rank e) | inr r ↦ omega (arith, r.1, e) ]
              ]

              low : (j : ℕ) → (j ≡ h) ⊎ ((tree.rank j < s) ⊎ ((tree.rank j ≡ s) × (j < i))) → (j ≡ h) ⊎ (tree.rank j ≤ tree.rank i)
              low j c = elim c [
                | inl q ↦ inl q
                | inr q ↦ inr (elim q [ inl r ↦ omega (arith, r, m) | inr r ↦ omega (arith, r.0, m) ])
              ]

      level : (s i : ℕ) → i ≤ length nodes → Stage (Passed s 0) → Stage (Passed s i)
      level s zero l st = st
      level s (suc i) l st = one-more s i (omega (arith, l)) (level s i (omega (arith, l)) st)

      up : (s : ℕ) → Stage (Passed s 0)
      up zero = weaker (λ j. j ≡ h) (Passed 0 0) (first h hv) (λ j p x. elim p.1 [
        | inl e ↦ e
        | inr q ↦ elim q [ inl r ↦ absurd (omega (arith, r)) | inr r ↦ absurd (omega (arith, r.1)) ]
      ])
      up (suc s) = weaker (Passed s (length nodes)) (Passed (suc s) 0) (level s (length nodes) (omega arith) (up s)) (λ j p x. (
        p.0,
        elim p.1 [
          | inl e ↦ inl e
          | inr q ↦ elim q [
            | inr r ↦ absurd (omega (arith, r.1))
            | inl r ↦ elim (cases_eq (tree.rank j) s) [ inl e ↦ inr (inr (e, p.0)) | inr n ↦ inr (inl (omega (arith, r, n))) ]
          ]
        ],
      ))

      -- ranks are bounded
      bound : (n : ℕ) → (s : ℕ) × ((j : ℕ) → j < n → tree.rank j < s)
      bound zero = (0, λ j l. absurd (omega (arith, l)))
      bound (suc n) = let w = bound n in (
        w.0 + tree.rank n + 1,
        λ j l. elim (cases_eq j n) [
          | inl e ↦ omega (arith, ap tree.rank e)
          | inr m ↦ let d = w.1 j (omega (arith, l, m)) in omega (arith, d)
        ],
      )

      all-passed : Stage (λ j. j < length nodes)
      all-passed = let w = bound (length nodes) in weaker (Passed w.0 0) (λ j. j < length nodes) (up w.0) (λ j p x. (p, inr (inl (w.1 j p))))

    -- a cyclic order of the edges at v in which the groups of all nodes stand in order
    pub vertex-order : Stage (λ j. j < length nodes)
    vertex-order =
        let w = t.split.covers.vertices v l in
        all-passed w.0 (t.in_order.vertices w.0 v (node-in g nodes t w.0 w.1) ∙ w.2)

  -- so there is a rotation system with these orders
  pub composed : (keys : ℕ → ℕ → List ℕ) → AreOrders keys → (r : List (List ℕ)) × IsRotationSystem g r × ((k v : ℕ) → has_vertex nodes k v ≡ true → StandInOrder (group nodes k) (order_at r v) (keys k v))
  composed keys orders = (
    made g list,
    made-system g list arranged,
    λ k v h. let l = vertex-in g nodes b k v h in
        subst (λ (z : List ℕ). StandInOrder (group nodes k) z (keys k v)) (sym (made-order g list v l)) (order-turned (group nodes k) (list v) (from_least (list v)) (keys k v) (stand k v h l) (from_least-turn (list v))),
  )
    where
      at : (v : ℕ) → (m : List ℕ) × (v < g.vertex_count → IsPermutation (incident_edges g v) m × ((k : ℕ) → has_vertex nodes k v ≡ true → StandInOrder (group nodes k) m (keys k v)))
      at v = elim (cases_lt v g.vertex_count) [
        | inl l ↦ let s = vertex-order keys orders v l in (s.list, λ d. (s.arranged, λ k h. s.stand k (vertex-node nodes k v h) h))
        | inr n ↦ ([], λ d. absurd (omega (arith, d, n)))
      ]

      list : ℕ → List ℕ
      list v = (at v).0

      arranged : (v : ℕ) → v < g.vertex_count → IsPermutation (incident_edges g v) (list v)
      arranged v l = ((at v).1 l).0

      stand : (k v : ℕ) → has_vertex nodes k v ≡ true → v < g.vertex_count → StandInOrder (group nodes k) (list v) (keys k v)
      stand k v h l = ((at v).1 l).1 k h
