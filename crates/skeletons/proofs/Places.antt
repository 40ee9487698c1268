-- Families: the rotation systems of the skeletons under numbers of their own, as orders of keys and back.
use Rattle.std.proofs.Common.{◌≡◌, ℕ, ◌<◌, ◌==◌, ◌||◌, inl, inr, Bool, true, List, [], length, map, slice_index_or, refl, sym, ap, ap₂, ◌∙◌, subst, arith, IsPermutation}
use Rattle.std.proofs.lemmas.Bool.{cases_lt, eq-eqb, eqb-true, or_left, or_right}
use Rattle.std.proofs.lemmas.List.{get_or-map, get_or_default, length-map, same_lists}
use Rattle.permutations.specs.Cyclic.{IsTurn, from_least}
use Rattle.permutations.specs.Members.{is_member, is_distinct, place_of}
use Rattle.permutations.specs.Runs.{group_keys}
use Rattle.permutations.proofs.Arrangements.{permutation-member, permutation-distinct, permutation-from_members, member-at}
use Rattle.permutations.proofs.NormalForm.{same-from_least, from_least-turn, from_least-distinct, from_least-member}
use Rattle.permutations.proofs.Relation.{same-tests}
use Rattle.permutations.proofs.Turned.{IsTurn-map}
use Rattle.permutations.proofs.Places.{place-at, place-below, place-holds, told-distinct}
use Rattle.permutations.proofs.Mapped.{map-member, member-map, distinct-map}
use Rattle.multigraph.specs.Graph.{Multigraph, numbers_below, edge_count, ends_of, is_end, incident_edges}
use Rattle.multigraph.proofs.Below.{get_or-numbers_below, length-numbers_below}
use Rattle.multigraph.proofs.Places.{rises-once}
use Rattle.rotations.specs.Rotation.{order_at, IsRotationSystem}
use Rattle.rotations.proofs.Membership.{incident-member, incident-distinct, member-edge, member-end}
use Rattle.faces.proofs.MapLists.{map-back}
use Rattle.pair_split.specs.Tutte.{Node, node_at, node_item, group, IsTutte}
use Rattle.pair_split.specs.declared.components.Item.{Item}
use Rattle.skeletons.specs.Items.{ends_item, item_key, keys_at, node_keys, has_vertex, IsBlockTree}
use Rattle.skeletons.specs.Round.{keys_round}
use Rattle.skeletons.specs.Families.{end_places, skeleton_graph, system_at, AreSkeletonSystems, keys_of, keys_in, FollowsFamily}
use Rattle.skeletons.specs.Laws.{FamilyIsFollowed, ContiguousFollows, FamilyIsUnique}
use Rattle.skeletons.proofs.NodeItems.{no_item, key-at_from, key-at_item, keys-once, item-vertex, vertex-node}
use Rattle.skeletons.proofs.KeyRuns.{met-runs, met-order, order-met, order-rewritten}
use Rattle.skeletons.proofs.Systems.{same-turns, made, made-order, made-system}
use Rattle.skeletons.proofs.Moved.{runs-keys}
use Rattle.skeletons.proofs.Composing.{AreOrders, composed}

module _ (g : Multigraph) (nodes : List Node) (t : IsTutte g nodes) (k : ℕ) (lk : k < length nodes) where
  abbrev vertices : List ℕ
  vertices = (node_at nodes k).vertices

  abbrev items : List Item
  items = (node_at nodes k).items

  abbrev skel : Multigraph
  skel = skeleton_graph nodes k

  abbrev key : ℕ → ℕ
  key i = (node_item nodes k i).key

  vertices-once : is_distinct vertices ≡ true
  vertices-once = told-distinct vertices (rises-once vertices (t.in_order.vertices_rise k lk))

  number : edge_count skel ≡ length items
  number = length-map items (end_places vertices)

  skel-ends : (i : ℕ) → i < length items → ends_of skel i ≡ end_places vertices (node_item nodes k i)
  skel-ends i l = get_or-map (end_places vertices) items i no_item (0, 0) l

  -- vertices are told by their places
  same-number : (x v : ℕ) → is_member x vertices ≡ true → is_member v vertices ≡ true → (place_of vertices x == place_of vertices v) ≡ (x == v)
  same-number x v m n = same-tests (place_of vertices x == place_of vertices v) (x == v)
      (λ h. eq-eqb x v (sym (place-holds vertices x m) ∙ ap (λ z. slice_index_or vertices z 0) (eqb-true (place_of vertices x) (place_of vertices v) h) ∙ place-holds vertices v n))
      (λ h. eq-eqb (place_of vertices x) (place_of vertices v) (ap (place_of vertices) (eqb-true x v h)))

  first-vertex : (i : ℕ) → i < length items → is_member (node_item nodes k i).a vertices ≡ true
  first-vertex i l = item-vertex g nodes t k (node_item nodes k i).a i lk l (or_left ((node_item nodes k i).a == (node_item nodes k i).a) ((node_item nodes k i).b == (node_item nodes k i).a) (eq-eqb (node_item nodes k i).a (node_item nodes k i).a refl))

  second-vertex : (i : ℕ) → i < length items → is_member (node_item nodes k i).b vertices ≡ true
  second-vertex i l = item-vertex g nodes t k (node_item nodes k i).b i lk l (or_right ((node_item nodes k i).a == (node_item nodes k i).b) ((node_item nodes k i).b == (node_item nodes k i).b) (eq-eqb (node_item nodes k i).b (node_item nodes k i).b refl))

  -- the ends of an item, in the skeleton and in the node
  pub skel-end : (v i : ℕ) → has_vertex nodes k v ≡ true → i < length items → is_end skel (place_of vertices v) i ≡ ends_item v (node_item nodes k i)
  skel-end v i h l =
      ap (λ (e : ℕ × ℕ). (e.0 == place_of vertices v) || (e.1 == place_of vertices v)) (skel-ends i l)
      ∙ ap₂ (λ (x y : Bool). x || y) (same-number (node_item nodes k i).a v (first-vertex i l) h) (same-number (node_item nodes k i).b v (second-vertex i l) h)

  -- an item round a vertex of the skeleton
  pub round-item : (s : List (List ℕ)) (v i : ℕ) → IsRotationSystem skel s → has_vertex nodes k v ≡ true → is_member i (order_at s (place_of vertices v)) ≡ true → (i < length items) × (ends_item v (node_item nodes k i) ≡ true)
  round-item s v i r h m =
      let p : ℕ = place_of vertices v in
      let n : is_member i (incident_edges skel p) ≡ true = sym (permutation-member (incident_edges skel p) (order_at s p) i (r.orders p (place-below vertices v h)).arranged) ∙ m in
      let l : i < length items = subst (λ z. i < z) number (member-edge skel p i n) in
      (l, sym (skel-end v i h l) ∙ member-end skel p i n)

  pub item-round : (s : List (List ℕ)) (v i : ℕ) → IsRotationSystem skel s → has_vertex nodes k v ≡ true → i < length items → ends_item v (node_item nodes k i) ≡ true → is_member i (order_at s (place_of vertices v)) ≡ true
  item-round s v i r h l e =
      let p : ℕ = place_of vertices v in
      permutation-member (incident_edges skel p) (order_at s p) i (r.orders p (place-below vertices v h)).arranged ∙ incident-member skel p i (subst (λ z. i < z) (sym number) l) (skel-end v i h l ∙ e)

  round-once : (s : List (List ℕ)) (v : ℕ) → IsRotationSystem skel s → has_vertex nodes k v ≡ true → is_distinct (order_at s (place_of vertices v)) ≡ true
  round-once s v r h = let p : ℕ = place_of vertices v in permutation-distinct (incident_edges skel p) (order_at s p) (r.orders p (place-below vertices v h)).arranged (incident-distinct skel p)

  -- its keys round a vertex: each once, and those of the items there
  pub keys-round_once : (s : List (List ℕ)) (v : ℕ) → IsRotationSystem skel s → has_vertex nodes k v ≡ true → is_distinct (keys_of nodes k (order_at s (place_of vertices v))) ≡ true
  keys-round_once s v r h = distinct-map key (order_at s (place_of vertices v)) (λ i j m n e. keys-once g nodes t k i j (round-item s v i r h m).0 (round-item s v j r h n).0 e) (round-once s v r h)

  pub keys-round_members : (s : List (List ℕ)) (v x : ℕ) → IsRotationSystem skel s → has_vertex nodes k v ≡ true → is_member x (keys_of nodes k (order_at s (place_of vertices v))) ≡ is_member x (keys_at nodes k v)
  keys-round_members s v x r h = same-tests (is_member x (keys_of nodes k (order_at s (place_of vertices v)))) (is_member x (keys_at nodes k v))
      (λ m. let w = map-member key (order_at s (place_of vertices v)) x m in let i = round-item s v w.0 r h w.1 in subst (λ z. is_member z (keys_at nodes k v) ≡ true) w.2 (key-at_from v items w.0 i.0 i.1))
      (λ m. let w = key-at_item v x items m in subst (λ z. is_member z (keys_of nodes k (order_at s (place_of vertices v))) ≡ true) w.3 (member-map key (order_at s (place_of vertices v)) w.0 (item-round s v w.0 r h w.1 w.2)))

  -- the place of an item by its key
  abbrev place : ℕ → ℕ
  place x = place_of (node_keys nodes k) x

  keys-distinct : is_distinct (node_keys nodes k) ≡ true
  keys-distinct = told-distinct (node_keys nodes k) (rises-once (node_keys nodes k) (t.in_order.keys_rise k lk))

  key-is : (i : ℕ) → i < length items → slice_index_or (node_keys nodes k) i 0 ≡ key i
  key-is i l = get_or-map item_key items i no_item 0 l

  in_keys : (i : ℕ) → i < length items → i < length (node_keys nodes k)
  in_keys i l = subst (λ n. i < n) (sym (length-map items item_key)) l

  pub place-key : (i : ℕ) → i < length items → place (key i) ≡ i
  place-key i l = ap place (sym (key-is i l)) ∙ place-at (node_keys nodes k) i keys-distinct (in_keys i l)

  -- orders of keys that are one come of orders of items that are one
  pub items-turn : (s q : List (List ℕ)) (v : ℕ) → IsRotationSystem skel s → IsRotationSystem skel q → has_vertex nodes k v ≡ true
      → IsTurn (keys_of nodes k (order_at s (place_of vertices v))) (keys_of nodes k (order_at q (place_of vertices v))) → IsTurn (order_at s (place_of vertices v)) (order_at q (place_of vertices v))
  items-turn s q v r u h turn = subst (λ (z : List ℕ). IsTurn z (order_at q p)) (back s r) (subst (IsTurn (map place (map key (order_at s p)))) (back q u) (IsTurn-map place (map key (order_at s p)) (map key (order_at q p)) turn))
    where
      p : ℕ
      p = place_of vertices v

      back : (s : List (List ℕ)) → IsRotationSystem skel s → map place (map key (order_at s p)) ≡ order_at s p
      back s r = map-back place key (order_at s p) (λ i m. place-key i (round-item s v i r h m).0)

  -- orders of keys make a rotation system of the skeleton
  module _ (keys : ℕ → List ℕ) (once : (v : ℕ) → has_vertex nodes k v ≡ true → is_distinct (keys v) ≡ true) (members : (v x : ℕ) → has_vertex nodes k v ≡ true → is_member x (keys v) ≡ is_member x (keys_at nodes k v)) where
    -- the item of a key
    key-item : (v x : ℕ) → has_vertex nodes k v ≡ true → is_member x (keys v) ≡ true → (place x < length items) × (ends_item v (node_item nodes k (place x)) ≡ true) × (key (place x) ≡ x)
    key-item v x h m =
        let w = key-at_item v x items (sym (members v x h) ∙ m) in
        let e : place x ≡ w.0 = ap place (sym w.3) ∙ place-key w.0 w.1 in
        (subst (λ z. z < length items) (sym e) w.1, subst (λ z. ends_item v (node_item nodes k z) ≡ true) (sym e) w.2, ap key e ∙ w.3)

    abbrev vertex : ℕ → ℕ
    vertex p = slice_index_or vertices p 0

    vertex-has : (p : ℕ) → p < length vertices → has_vertex nodes k (vertex p) ≡ true
    vertex-has p l = member-at vertices p 0 l

    abbrev listed : ℕ → List ℕ
    listed p = map place (keys (vertex p))

    listed-arranged : (p : ℕ) → p < length vertices → IsPermutation (incident_edges skel p) (listed p)
    listed-arranged p l = permutation-from_members (incident_edges skel p) (listed p) (incident-distinct skel p)
        (distinct-map place (keys v) (λ x y m n e. sym (key-item v x h m).2 ∙ ap key e ∙ (key-item v y h n).2) (once v h))
        (λ i. same-tests (is_member i (incident_edges skel p)) (is_member i (listed p)) (forth i) (back i))
      where
        v : ℕ
        v = vertex p

        h : has_vertex nodes k v ≡ true
        h = vertex-has p l

        at : place_of vertices v ≡ p
        at = place-at vertices p vertices-once l

        forth : (i : ℕ) → is_member i (incident_edges skel p) ≡ true → is_member i (listed p) ≡ true
        forth i m =
            let b : i < length items = subst (λ z. i < z) number (member-edge skel p i m) in
            let e : ends_item v (node_item nodes k i) ≡ true = sym (skel-end v i h b) ∙ ap (λ z. is_end skel z i) at ∙ member-end skel p i m in
            subst (λ z. is_member z (listed p) ≡ true) (place-key i b) (member-map place (keys v) (key i) (members v (key i) h ∙ key-at_from v items i b e))

        back : (i : ℕ) → is_member i (listed p) ≡ true → is_member i (incident_edges skel p) ≡ true
        back i m =
            let w = map-member place (keys v) i m in
            let y = key-item v w.0 h w.1 in
            subst (λ z. is_member z (incident_edges skel p) ≡ true) w.2
            (incident-member skel p (place w.0) (subst (λ z. place w.0 < z) (sym number) y.0) (ap (λ z. is_end skel z (place w.0)) (sym at) ∙ skel-end v (place w.0) h y.0 ∙ y.1))

    pub skeleton-system : List (List ℕ)
    skeleton-system = made skel listed

    pub skeleton-is : IsRotationSystem skel skeleton-system
    unfolding skeleton-system
    skeleton-is = made-system skel listed listed-arranged

    -- its keys are these
    pub skeleton-keys : (v : ℕ) → has_vertex nodes k v ≡ true → IsTurn (keys v) (keys_of nodes k (order_at skeleton-system (place_of vertices v)))
    unfolding skeleton-system
    skeleton-keys v h =
        let p : ℕ = place_of vertices v in
        subst (λ (z : List ℕ). IsTurn (keys v) (map key z)) (sym (made-order skel listed p (place-below vertices v h) ∙ ap (λ z. from_least (map place (keys z))) (place-holds vertices v h)))
        (subst (λ (z : List ℕ). IsTurn z (map key (from_least (map place (keys v))))) (map-back key place (keys v) (λ x m. (key-item v x h m).2))
        (IsTurn-map key (map place (keys v)) (from_least (map place (keys v))) (from_least-turn (map place (keys v)))))

-- a family gives an order at each vertex of each node
pub family-orders : (g : Multigraph) (nodes : List Node) (b : IsBlockTree g nodes) (family : List (List (List ℕ))) → AreSkeletonSystems nodes family → AreOrders g nodes b (keys_in nodes family)
family-orders g nodes b family f = record {
  once = λ k v h. let l = vertex-node nodes k v h in keys-round_once g nodes b.tree k l (system_at family k) v (f.systems k l) h;
  members = λ k v x h. let l = vertex-node nodes k v h in keys-round_members g nodes b.tree k l (system_at family k) v x (f.systems k l) h;
}

-- each family is followed
pub family-followed : FamilyIsFollowed
family-followed g nodes family b f = composed g nodes b (keys_in nodes family) (family-orders g nodes b family f)

-- each rotation system in runs follows a family
pub contiguous-follows : ContiguousFollows
contiguous-follows g nodes r b s c = (family, record { each = length-map (numbers_below (length nodes)) member ∙ length-numbers_below (length nodes); systems = λ k l. subst (IsRotationSystem (skeleton_graph nodes k)) (sym (at k l)) (member-is k l) }, follows)
  where
    once : (k v : ℕ) → has_vertex nodes k v ≡ true → is_distinct (keys_round nodes r k v) ≡ true
    once k v h = let w = c k v h in ap is_distinct (met-runs (group nodes k) (order_at r v) w.0 w.1) ∙ from_least-distinct (group_keys w.0) w.1.once

    members : (k v x : ℕ) → has_vertex nodes k v ≡ true → is_member x (keys_round nodes r k v) ≡ is_member x (keys_at nodes k v)
    members k v x h = let w = c k v h in ap (is_member x) (met-runs (group nodes k) (order_at r v) w.0 w.1) ∙ from_least-member (group_keys w.0) x ∙ runs-keys g nodes b r k v w.0 s h w.1 x

    chosen : (k : ℕ) → (s : List (List ℕ)) × (k < length nodes → IsRotationSystem (skeleton_graph nodes k) s × ((v : ℕ) → has_vertex nodes k v ≡ true → IsTurn (keys_round nodes r k v) (keys_of nodes k (order_at s (place_of (node_at nodes k).vertices v)))))
    chosen k = elim (cases_lt k (length nodes)) [
      | inl l ↦ (
        skeleton-system g nodes b.tree k l (keys_round nodes r k) (once k) (members k),
        λ d.
            (skeleton-is g nodes b.tree k l (keys_round nodes r k) (once k) (members k), skeleton-keys g nodes b.tree k l (keys_round nodes r k) (once k) (members k)),
      )
      | inr n ↦ ([], λ d. absurd (omega (arith, d, n)))
    ]

    member : ℕ → List (List ℕ)
    member k = (chosen k).0

    family : List (List (List ℕ))
    family = map member (numbers_below (length nodes))

    at : (k : ℕ) → k < length nodes → system_at family k ≡ member k
    at k l = get_or-map member (numbers_below (length nodes)) k 0 [] (subst (λ n. k < n) (sym (length-numbers_below (length nodes))) l) ∙ ap member (get_or-numbers_below (length nodes) k 0 l)

    member-is : (k : ℕ) → k < length nodes → IsRotationSystem (skeleton_graph nodes k) (member k)
    member-is k l = ((chosen k).1 l).0

    follows : FollowsFamily nodes family r
    follows k v h =
        let l = vertex-node nodes k v h in
        let w = c k v h in
        order-rewritten (group nodes k) (order_at r v) (keys_round nodes r k v) (keys_in nodes family k v) (order-met (group nodes k) (order_at r v) w.0 w.1)
        (subst (λ (z : List (List ℕ)). IsTurn (keys_round nodes r k v) (keys_of nodes k (order_at z (place_of (node_at nodes k).vertices v)))) (sym (at k l)) (((chosen k).1 l).1 v h))

-- one only
pub family-unique : FamilyIsUnique
family-unique g nodes family other r t f o s a c = same_lists family other (f.each ∙ sym o.each) each
  where
    same : (k : ℕ) → k < length nodes → system_at family k ≡ system_at other k
    same k l = same-turns (skeleton_graph nodes k) (system_at family k) (system_at other k) (f.systems k l) (o.systems k l) (λ p d.
        let v : ℕ = slice_index_or (node_at nodes k).vertices p 0 in
        let h : has_vertex nodes k v ≡ true = member-at (node_at nodes k).vertices p 0 d in
        let at : place_of (node_at nodes k).vertices v ≡ p = place-at (node_at nodes k).vertices p (told-distinct (node_at nodes k).vertices (rises-once (node_at nodes k).vertices (t.in_order.vertices_rise k l))) d in
        subst (λ z. IsTurn (order_at (system_at family k) z) (order_at (system_at other k) z)) at
        (items-turn g nodes t k l (system_at family k) (system_at other k) v (f.systems k l) (o.systems k l) h
        (same-from_least (keys_in nodes family k v) (keys_in nodes other k v)
        (sym (met-order (group nodes k) (order_at r v) (keys_in nodes family k v) (a k v h)) ∙ met-order (group nodes k) (order_at r v) (keys_in nodes other k v) (c k v h)))))

    each : (k : ℕ) (d : List (List ℕ)) → k < length family → slice_index_or family k d ≡ slice_index_or other k d
    each k d l =
        let n : k < length nodes = subst (λ z. k < z) f.each l in
        get_or_default family k d [] l ∙ same k n ∙ sym (get_or_default other k d [] (subst (λ z. k < z) (sym o.each) n))
