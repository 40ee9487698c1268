-- The keys round the vertices of a node, in a rotation system of its skeleton.
use Rattle.std.proofs.Common.{◌≡◌, ℕ, ◌<◌, true, List, [], ◌∷◌, ◌++◌, length, map, reverse, slice_index_or, refl, sym, ap, ◌∙◌, subst}
use Rattle.std.proofs.lemmas.List.{length-map, map-append, reverse-append}
use Rattle.std.proofs.lemmas.List.Sorted.{length_permutation}
use Rattle.permutations.specs.Cyclic.{IsTurn, from_least}
use Rattle.permutations.specs.Members.{is_distinct, place_of}
use Rattle.permutations.proofs.Arrangements.{member-at, permutation-distinct}
use Rattle.permutations.proofs.Members.{distinct-reverse}
use Rattle.permutations.proofs.NormalForm.{from_least-same, from_least-turn, from_least-distinct, from_least-twice, same-from_least}
use Rattle.permutations.proofs.Turned.{IsTurn-map, IsTurn-length}
use Rattle.permutations.proofs.Places.{told-distinct, place-at, place-below}
use Rattle.multigraph.specs.Graph.{Multigraph, incident_edges}
use Rattle.multigraph.proofs.Places.{rises-once}
use Rattle.rotations.specs.Rotation.{order_at, IsRotationSystem}
use Rattle.rotations.proofs.Membership.{incident-distinct}
use Rattle.rotations.specs.Runs.{mirror_image}
use Rattle.faces.proofs.MapLists.{map-back}
use Rattle.faces.proofs.MapMirror.{mirror-order}
use Rattle.pair_split.specs.Tutte.{Node, node_at, node_item, IsTutte}
use Rattle.skeletons.specs.Items.{node_keys, has_vertex}
use Rattle.skeletons.specs.Families.{skeleton_graph, keys_of}
use Rattle.skeletons.proofs.Systems.{same-turns, order-written}
use Rattle.skeletons.proofs.Moved.{mirror-normal}
use Rattle.skeletons.proofs.Places.{round-item, keys-round_once, place-key, items-turn}

pub map-reverse : (f : ℕ → ℕ) (l : List ℕ) → map f (reverse l) ≡ reverse (map f l)
map-reverse f [] = refl
map-reverse f (x ∷ l) = ap (map f) (reverse-append (x ∷ []) l) ∙ map-append f (reverse l) (x ∷ []) ∙ ap (λ (v : List ℕ). v ++ f x ∷ []) (map-reverse f l) ∙ sym (reverse-append (f x ∷ []) (map f l))

module _ (g : Multigraph) (nodes : List Node) (t : IsTutte g nodes) (k : ℕ) (l : k < length nodes) where
  abbrev vertices : List ℕ
  vertices = (node_at nodes k).vertices

  abbrev key : ℕ → ℕ
  key i = (node_item nodes k i).key

  -- the items round vertex v of the node
  abbrev items_round : List (List ℕ) → ℕ → List ℕ
  items_round s v = order_at s (place_of vertices v)

  -- their keys, from the least on
  abbrev pub skeleton_round : List (List ℕ) → ℕ → List ℕ
  skeleton_round s v = from_least (keys_of nodes k (items_round s v))

  module _ (s : List (List ℕ)) (system : IsRotationSystem (skeleton_graph nodes k) s) where
    keys-once : (v : ℕ) → has_vertex nodes k v ≡ true → is_distinct (keys_of nodes k (items_round s v)) ≡ true
    keys-once v h = keys-round_once g nodes t k l s v system h

    items-once : (v : ℕ) → has_vertex nodes k v ≡ true → is_distinct (items_round s v) ≡ true
    items-once v h = permutation-distinct (incident_edges (skeleton_graph nodes k) (place_of vertices v)) (items_round s v) (system.orders (place_of vertices v) (place-below vertices v h)).arranged (incident-distinct (skeleton_graph nodes k) (place_of vertices v))

    -- the other way round in the mirror image
    reversed-keys : (u v : ℕ) (q : List (List ℕ)) → has_vertex nodes k u ≡ true → items_round q v ≡ from_least (reverse (items_round s u)) → skeleton_round q v ≡ from_least (reverse (skeleton_round s u))
    reversed-keys u v q h e =
        let keys : List ℕ = keys_of nodes k (items_round s u) in
        let turn : IsTurn (reverse keys) (map key (from_least (reverse (items_round s u)))) =
        subst (λ (z : List ℕ). IsTurn z (map key (from_least (reverse (items_round s u))))) (map-reverse key (items_round s u)) (IsTurn-map key (reverse (items_round s u)) (from_least (reverse (items_round s u))) (from_least-turn (reverse (items_round s u)))) in
        ap (λ (z : List ℕ). from_least (map key z)) e
        ∙ sym (from_least-same (reverse keys) (map key (from_least (reverse (items_round s u)))) turn (distinct-reverse keys (keys-once u h)))
        ∙ sym (mirror-normal keys (keys-once u h))

    pub round-distinct : (v : ℕ) → has_vertex nodes k v ≡ true → is_distinct (skeleton_round s v) ≡ true
    round-distinct v h = from_least-distinct (keys_of nodes k (items_round s v)) (keys-once v h)

    pub round-normal : (v : ℕ) → has_vertex nodes k v ≡ true → from_least (skeleton_round s v) ≡ skeleton_round s v
    round-normal v h = from_least-twice (keys_of nodes k (items_round s v)) (keys-once v h)

    pub mirror-keys : (v : ℕ) → has_vertex nodes k v ≡ true → skeleton_round (mirror_image s) v ≡ from_least (reverse (skeleton_round s v))
    mirror-keys v h = reversed-keys v v (mirror_image s) h (mirror-order s (place_of vertices v))

    pub reversed-round : (u v : ℕ) → has_vertex nodes k u ≡ true → items_round s v ≡ from_least (reverse (items_round s u)) → skeleton_round s v ≡ from_least (reverse (skeleton_round s u))
    reversed-round u v h e = reversed-keys u v s h e

    -- items by their keys
    back : (v : ℕ) → has_vertex nodes k v ≡ true → map (place_of (node_keys nodes k)) (keys_of nodes k (items_round s v)) ≡ items_round s v
    back v h = map-back (place_of (node_keys nodes k)) key (items_round s v) (λ i m. place-key g nodes t k l i (round-item g nodes t k l s v i system h m).0)

    -- keys the other way round come of items the other way round
    pub round-reversed : (u v : ℕ) → has_vertex nodes k u ≡ true → has_vertex nodes k v ≡ true → skeleton_round s v ≡ from_least (reverse (skeleton_round s u)) → items_round s v ≡ from_least (reverse (items_round s u))
    round-reversed u v hu hv e =
        let keys : List ℕ = keys_of nodes k (items_round s u) in
        let turn : IsTurn (keys_of nodes k (items_round s v)) (reverse keys) = same-from_least (keys_of nodes k (items_round s v)) (reverse keys) (e ∙ mirror-normal keys (keys-once u hu)) in
        let items : IsTurn (items_round s v) (reverse (items_round s u)) = subst (λ (z : List ℕ). IsTurn z (reverse (items_round s u))) (back v hv)
        (subst (IsTurn (map (place_of (node_keys nodes k)) (keys_of nodes k (items_round s v)))) (map-reverse (place_of (node_keys nodes k)) keys ∙ ap reverse (back u hu))
        (IsTurn-map (place_of (node_keys nodes k)) (keys_of nodes k (items_round s v)) (reverse keys) turn)) in
        sym (order-written (skeleton_graph nodes k) s (place_of vertices v) system (place-below vertices v hv))
        ∙ from_least-same (items_round s v) (reverse (items_round s u)) items (items-once v hv)

    -- as many keys as items
    pub round-length : (v : ℕ) → has_vertex nodes k v ≡ true → length (skeleton_round s v) ≡ length (incident_edges (skeleton_graph nodes k) (place_of vertices v))
    round-length v h =
        IsTurn-length (keys_of nodes k (items_round s v)) (skeleton_round s v) (from_least-turn (keys_of nodes k (items_round s v))) ∙ length-map (items_round s v) key
        ∙ length_permutation (incident_edges (skeleton_graph nodes k) (place_of vertices v)) (items_round s v) (system.orders (place_of vertices v) (place-below vertices v h)).arranged

  -- systems with the same keys are equal
  pub same-rounds : (s q : List (List ℕ)) → IsRotationSystem (skeleton_graph nodes k) s → IsRotationSystem (skeleton_graph nodes k) q → ((v : ℕ) → has_vertex nodes k v ≡ true → skeleton_round s v ≡ skeleton_round q v) → s ≡ q
  same-rounds s q a b same = same-turns (skeleton_graph nodes k) s q a b (λ p d.
      let v : ℕ = slice_index_or vertices p 0 in
      let h : has_vertex nodes k v ≡ true = member-at vertices p 0 d in
      let at : place_of vertices v ≡ p = place-at vertices p (told-distinct vertices (rises-once vertices (t.in_order.vertices_rise k l))) d in
      subst (λ z. IsTurn (order_at s z) (order_at q z)) at
      (items-turn g nodes t k l s q v a b h (same-from_least (keys_of nodes k (items_round s v)) (keys_of nodes k (items_round q v)) (same v h))))
