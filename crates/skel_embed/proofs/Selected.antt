-- Rotation systems of the skeletons that give the nodes other choices, and the one rotation system of the block that follows them.
use Rattle.std.proofs.Common.{◌≡◌, ◌≢◌, ℕ, ◌<◌, ◌≤◌, ◌⊎◌, inl, inr, true, List, [], length, map, slice_index_or, refl, sym, ap, ◌∙◌, subst}
use Rattle.std.proofs.lemmas.List.{length-map, get_or-map}
use Rattle.permutations.specs.Members.{is_member, is_distinct, place_of}
use Rattle.permutations.proofs.Arrangements.{member-at, contains-from_member}
use Rattle.permutations.proofs.Mapped.{map-member}
use Rattle.permutations.proofs.Places.{told-distinct, place-at}
use Rattle.multigraph.specs.Graph.{Multigraph, max_edges}
use Rattle.multigraph.specs.Part.{Rises}
use Rattle.multigraph.proofs.Places.{rises-once}
use Rattle.rotations.specs.Rotation.{order_at, IsRotationSystem}
use Rattle.rotations.specs.Runs.{mirror_image}
use Rattle.faces.specs.Euler.{IsPlaneSystem}
use Rattle.faces.proofs.DartLemmas.{order-distinct}
use Rattle.faces.proofs.MapLists.{map-back}
use Rattle.planarity.proofs.TwoSystems.{two-systems}
use Rattle.pair_split.specs.Skeleton.{HasPoles}
use Rattle.pair_split.specs.Split.{skeleton}
use Rattle.pair_split.specs.Tutte.{Node, components, node_at, node_item}
use Rattle.pair_split.specs.declared.components.Kind.TheVariants.{S, P, R, B}
use Rattle.pair_split.specs.declared.components.Item.{Item}
use Rattle.skeletons.specs.Items.{item_key, node_keys, IsBlockTree}
use Rattle.skeletons.specs.Families.{skeleton_graph, system_at, keys_of, AreSkeletonSystems, FollowsFamily}
use Rattle.skeletons.proofs.NodeItems.{no_item, nth_item}
use Rattle.skeletons.proofs.Places.{place-key}
use Rattle.skeleton_runs.proofs.SkeletonGraph.{skeleton-triconnected}
use Rattle.skeleton_planes.proofs.Followed.{follows-plane, follows-plane_back}
use Rattle.skeleton_planes.proofs.OneSystem.{kind-of, bond-law}
use Rattle.skeleton_choices.proofs.Plane.{Parts, parts}
use Rattle.skeleton_choices.proofs.Told.{tell}
use Rattle.skel_compose.specs.Followers.{IsRow, HasTurns}
use Rattle.skel_compose.proofs.BondRows.{zero-in, order-length, bond-made}
use Rattle.skel_embed.specs.Block.{choices_by}
use Rattle.skel_embed.specs.First.{choice_in}
use Rattle.skel_embed.specs.Selected.{HasChoice, ArePossible, GiveChoices}
use Rattle.skel_embed.proofs.First.{choice-keys, choice-followed, item-in, low-is}
use Rattle.skel_embed.proofs.FirstRows.{no-choice}
use Rattle.skel_embed.proofs.KeptKeys.{choices-by_at}

-- an item with a key that is one of those of the items
pub item-held : (items : List Item) (key : ℕ) → is_member key (map item_key items) ≡ true → (i : ℕ) × (i < length items) × ((nth_item items i).key ≡ key)
item-held items key m =
    let w = contains-from_member (map item_key items) key m in
    let d : w.0 < length items = subst (λ n. w.0 < n) (length-map items item_key) w.1 in
    (w.0, d, sym (get_or-map item_key items w.0 no_item key d) ∙ w.2)

-- its place, where the keys increase
pub item-place : (items : List Item) (key : ℕ) → Rises (map item_key items) → (i : ℕ) → i < length items → (nth_item items i).key ≡ key → i ≡ place_of (map item_key items) key
item-place items key r i d e =
    let m : i < length (map item_key items) = subst (λ n. i < n) (sym (length-map items item_key)) d in
    sym (ap (place_of (map item_key items)) (sym e ∙ sym (get_or-map item_key items i no_item 0 d)) ∙ place-at (map item_key items) i (told-distinct (map item_key items) (rises-once (map item_key items) r)) m)

-- the key of an item is one of them
own-key : (items : List Item) (i : ℕ) → i < length items → is_member (nth_item items i).key (map item_key items) ≡ true
own-key items i d = subst (λ z. is_member z (map item_key items) ≡ true) (get_or-map item_key items i no_item 0 d) (member-at (map item_key items) i 0 (subst (λ n. i < n) (sym (length-map items item_key)) d))

-- the new choice of node k in the list, where it is the old one
pub same-choice : (nodes : List Node) (k : ℕ) (old new : List ℕ) (s : List (List ℕ)) → HasChoice nodes k old s → old ≡ new → HasChoice nodes k new s
same-choice nodes k old new s h e = subst (λ (z : List ℕ). HasChoice nodes k z s) e h

module _ (g : Multigraph) (nodes : List Node) (b : IsBlockTree g nodes) (k : ℕ) (l : k < length nodes) where
  abbrev graph : Multigraph
  graph = skeleton_graph nodes k

  -- another choice of a triconnected node is that of the mirror image
  pub rigid-mirrored : (node_at nodes k).kind ≡ R → (old new : List ℕ) (s t : List (List ℕ)) → HasChoice nodes k old s → HasChoice nodes k new t → old ≢ new → HasChoice nodes k new (mirror_image s)
  rigid-mirrored e old new s t h i n =
      let ok = skeleton-triconnected g nodes b k (l, e) in
      elim (two-systems graph ok.0 ok.1 t s i.plane.system h.plane.system i.plane.plane h.plane.plane) [
        | inl q ↦ absurd (n (sym h.chosen ∙ ap (choice_in nodes k) (sym q) ∙ i.chosen))
        | inr q ↦ subst (HasChoice nodes k new) q i
      ]

  -- a bond
  module _ (e : (node_at nodes k).kind ≡ P) (keys : List ℕ) (t : List (List ℕ)) (h : HasChoice nodes k keys t) where
    poles : HasPoles (skeleton (components nodes) k)
    poles = (kind-of g nodes b k P (l, e)).two

    -- the keys of the items at the lesser pole
    keys-are : keys ≡ keys_of nodes k (order_at t 0)
    keys-are = sym h.chosen ∙ sym (choice-keys g nodes b k l t h.plane.system (keys_of nodes k (order_at t 0)) (inl e) refl)

    item-there : (i : ℕ) → is_member i (order_at t 0) ≡ true → i < length (node_at nodes k).items
    item-there i m = item-in g nodes b k l t h.plane.system i (subst (λ p. is_member i (order_at t p) ≡ true) (sym (low-is g nodes b k l)) m)

    -- each is the key of an item
    pub key-held : (x : ℕ) → is_member x keys ≡ true → is_member x (node_keys nodes k) ≡ true
    key-held x m =
        let w = map-member (λ i. (node_item nodes k i).key) (order_at t 0) x (subst (λ (z : List ℕ). is_member x z ≡ true) keys-are m) in
        subst (λ z. is_member z (node_keys nodes k) ≡ true) w.2 (own-key (node_at nodes k).items w.0 (item-there w.0 w.1))

    -- so the items are found by their keys
    numbers-are : map (place_of (node_keys nodes k)) keys ≡ order_at t 0
    numbers-are = ap (map (place_of (node_keys nodes k))) keys-are ∙ map-back (place_of (node_keys nodes k)) (λ i. (node_item nodes k i).key) (order_at t 0) (λ i m. place-key g nodes b.tree k l i (item-there i m))

    -- and are those around it
    module _ (numbers : List ℕ) (is : numbers ≡ map (place_of (node_keys nodes k)) keys) where
      pub numbers-around : numbers ≡ order_at t 0
      numbers-around = is ∙ numbers-are

      pub numbers-once : is_distinct numbers ≡ true
      numbers-once = subst (λ (z : List ℕ). is_distinct z ≡ true) (sym numbers-around) (order-distinct graph t 0 h.plane.system (zero-in g nodes b k l poles))

      numbers-many : length numbers ≡ length (node_at nodes k).items
      numbers-many = ap length numbers-around ∙ order-length g nodes b k l poles t h.plane.system

      pub numbers-below : (x : ℕ) → is_member x numbers ≡ true → x < length numbers
      numbers-below x m = subst (λ n. x < n) (sym numbers-many) (item-there x (subst (λ (z : List ℕ). is_member x z ≡ true) numbers-around m))

      pub numbers-few : length (node_at nodes k).items ≤ max_edges → length numbers ≤ max_edges
      numbers-few f = subst (λ n. n ≤ max_edges) (sym numbers-many) f

      -- the list of what follows them is that of the node
      pub bond-changed : (row : List ℕ) → HasTurns numbers row → IsRow nodes k t row
      bond-changed row r = bond-made g nodes b k l poles t h.plane.system ((bond-law g nodes b k (l, e) t h.plane.system).0 h.plane.plane) row (subst (λ (z : List ℕ). HasTurns z row) numbers-around r)

-- a node without a choice has no other one
pub never-other : (nodes : List Node) (k : ℕ) (old new : List ℕ) (s t : List (List ℕ)) → ((node_at nodes k).kind ≡ S) ⊎ ((node_at nodes k).kind ≡ B) → HasChoice nodes k old s → HasChoice nodes k new t → old ≡ new
never-other nodes k old new s t c h i = sym h.chosen ∙ no-choice nodes k s c ∙ sym (no-choice nodes k t c) ∙ i.chosen

module _ (g : Multigraph) (nodes : List Node) (b : IsBlockTree g nodes) where
  -- the choices of a plane rotation system are possible
  pub own-possible : (q : List (List ℕ)) → IsPlaneSystem g q → (new : List (List ℕ)) → new ≡ choices_by nodes q → ArePossible nodes new
  own-possible q p new e k l =
      let y : Parts g nodes b q = parts g nodes b q p in (
        system_at y.family k,
        record {
          plane = record { system = y.systems.systems k l; plane = y.plane k l };
          chosen = sym (choice-followed g nodes b y.family q y.follows k l) ∙ sym (choices-by_at nodes q k l) ∙ ap (λ (z : List (List ℕ)). slice_index_or z k []) (sym e);
        },
      )

  -- the members of the present one
  pub present-choices : (r : List (List ℕ)) → IsPlaneSystem g r → (old : List (List ℕ)) → old ≡ choices_by nodes r → (family : List (List (List ℕ))) → AreSkeletonSystems nodes family → FollowsFamily nodes family r → GiveChoices nodes old (length nodes) family
  present-choices r p old e family systems follows = record {
    each = systems.each;
    chosen = λ k l. record {
      plane = record { system = systems.systems k l; plane = follows-plane_back g nodes b family systems r p.system follows p.plane k l };
      chosen = sym (choice-followed g nodes b family r follows k l) ∙ sym (choices-by_at nodes r k l) ∙ ap (λ (z : List (List ℕ)). slice_index_or z k []) (sym e);
    };
  }

  -- what follows members that give other choices is the one with these choices
  module _ (new : List (List ℕ)) (family : List (List (List ℕ))) (a : GiveChoices nodes new (length nodes) family) where
    pub chosen-systems : AreSkeletonSystems nodes family
    chosen-systems = record { each = a.each; systems = λ k l. (a.chosen k l).plane.system }

    pub all-chosen : (q s : List (List ℕ)) → IsPlaneSystem g q → new ≡ choices_by nodes q → IsRotationSystem g s → FollowsFamily nodes family s → s ≡ q
    all-chosen q s p e system follows = tell g nodes b s q
        (record { system = system; plane = follows-plane g nodes b family chosen-systems s system follows (λ k l. (a.chosen k l).plane.plane) }) p
        (λ k l. choice-followed g nodes b family s follows k l ∙ (a.chosen k l).chosen ∙ ap (λ (z : List (List ℕ)). slice_index_or z k []) e ∙ choices-by_at nodes q k l)
