-- The choices that make wanted faces are possible, and what they say of the rotation systems of the skeletons.
use Rattle.std.proofs.Common.{◌≡◌, ◌≢◌, ℕ, ◌*◌, ◌/◌, ◌<◌, ◌⊎◌, true, List, length, reverse, inl, inr, sym, ap, ◌∙◌, subst, arith, IsPermutation}
use Rattle.std.proofs.lemmas.List.{length-map, get_or-map}
use Rattle.permutations.specs.Cyclic.{from_least, successor}
use Rattle.permutations.specs.Members.{is_member, is_distinct}
use Rattle.permutations.proofs.Arrangements.{permutation-member, permutation-distinct, permutation-from_members, member-at}
use Rattle.permutations.proofs.Mapped.{distinct-map}
use Rattle.permutations.proofs.NormalForm.{from_least-successor}
use Rattle.permutations.proofs.Orbits.{orbit-ext}
use Rattle.permutations.proofs.Successor.{successor-member}
use Rattle.multigraph.specs.Graph.{Multigraph, IsGraph, edge_count}
use Rattle.rotations.specs.Rotation.{IsRotationSystem}
use Rattle.rotations.specs.Runs.{mirror_image}
use Rattle.dart_maps.specs.Map.{twin, face}
use Rattle.dart_maps.proofs.Darts.{twin-below}
use Rattle.faces.specs.Euler.{IsPlaneSystem}
use Rattle.faces.specs.Maps.{dart_after, dart_before}
use Rattle.faces.proofs.MapLists.{successor-map}
use Rattle.faces.proofs.MapMirror.{mirror-after}
use Rattle.faces.proofs.MapSteps.{map-permutes}
use Rattle.planarity.proofs.TwoSystems.{two-systems}
use Rattle.pair_split.specs.Tutte.{Node, node_at, node_item}
use Rattle.pair_split.specs.declared.components.Kind.TheVariants.{P, R}
use Rattle.skeletons.specs.Items.{item_key, node_keys, least_vertex, IsBlockTree}
use Rattle.skeletons.specs.Round.{keys_round, IsContiguous}
use Rattle.skeletons.specs.Choices.{choice}
use Rattle.skeletons.specs.Families.{skeleton_graph, system_at, IsPossible}
use Rattle.skeletons.specs.Moves.{flip, permute, IsNodeOfKind}
use Rattle.skeletons.proofs.NodeItems.{no_item, keys-once}
use Rattle.skeletons.proofs.Vertices.{least-has}
use Rattle.skeletons.proofs.Moved.{flip-exists, permute-exists, flip-turns, permute-sets}
use Rattle.skeletons.proofs.Leading.{bond-choice}
use Rattle.skeleton_runs.proofs.Contiguous.{plane-contiguous}
use Rattle.skeleton_runs.proofs.SkeletonGraph.{skeleton-triconnected, rises-distinct}
use Rattle.skeleton_choices.proofs.Rounds.{skeleton_round, mirror-keys}
use Rattle.skeleton_choices.proofs.Plane.{three-differ, Parts, parts, same-round, choice-round, move-plane}
use Rattle.skeleton_choices.proofs.Told.{round-once, round-written, rigid-three, choice-possible}
use Rattle.skel_embed.specs.Exchanges.{other_of, exchanged, turned_choice}
use Rattle.skel_embed.proofs.ExchangeSteps.{other-first, other-none}
use Rattle.skel_embed.proofs.KeptLists.{other-back, exchanged-members}
use Rattle.skeleton_faces.specs.Faces.{on_one_face}
use Rattle.skeleton_faces.proofs.EachFamily.{back-face, bond-moves}
use Rattle.long_face.proofs.Bonds.{bond-next}

-- the faces of the mirror image are those of the rotation system, seen from the other side
pub mirror-on : (h : Multigraph) (s : List (List ℕ)) → IsGraph h → IsRotationSystem h s → (d y : ℕ) → on_one_face h (mirror_image s) d y ≡ on_one_face h s (twin d) (twin y)
mirror-on h s ok system d y = orbit-ext (2 * edge_count h) (face (dart_after h (mirror_image s))) (face (dart_before h s)) (λ x l. mirror-after h s ok system (twin x) (twin-below (edge_count h) x l)) d y
    ∙ back-face (edge_count h) (dart_after h s) (dart_before h s) (map-permutes h s ok system) d y

module _ (g : Multigraph) (nodes : List Node) (b : IsBlockTree g nodes) where
  -- the keys around the least vertex of a bond, in its skeleton
  pub bond-round : (r : List (List ℕ)) (x : Parts g nodes b r) (k : ℕ) (is : IsNodeOfKind nodes k P) → skeleton_round g nodes b.tree k is.0 (system_at x.family k) (least_vertex nodes k) ≡ choice nodes r k
  bond-round r x k is = sym (choice-round g nodes b r k P is.1 ∙ same-round g nodes b r x.family k (least_vertex nodes k) is.0 x.follows (least-has g nodes b k is.0))

  -- those of a triconnected node
  rigid-round : (r : List (List ℕ)) (x : Parts g nodes b r) (k : ℕ) (is : IsNodeOfKind nodes k R) → choice nodes r k ≡ skeleton_round g nodes b.tree k is.0 (system_at x.family k) (least_vertex nodes k)
  rigid-round r x k is = choice-round g nodes b r k R is.1 ∙ same-round g nodes b r x.family k (least_vertex nodes k) is.0 x.follows (least-has g nodes b k is.0)

  -- a block with a plane rotation system
  module _ (r : List (List ℕ)) (p : IsPlaneSystem g r) where
    contiguous : IsContiguous nodes r
    contiguous = plane-contiguous g nodes r b p

    -- its present choice is possible
    pub present-possible : (k : ℕ) → k < length nodes → IsPossible nodes k (choice nodes r k)
    present-possible k l = choice-possible g nodes r b p k l

    -- so is the reverse of that of a triconnected node
    pub turned-possible : (k : ℕ) → IsNodeOfKind nodes k R → IsPossible nodes k (turned_choice (choice nodes r k))
    turned-possible k is =
        let f = flip-exists g nodes r b p.system contiguous k is in
        let q = move-plane g nodes (flip k) r f.0 b p (is, f.1) in
        subst (IsPossible nodes k) (flip-turns g nodes k r f.0 b p.system contiguous is f.1) (choice-possible g nodes f.0 b q k is.0)

    -- which differs
    pub turned-differs : (k : ℕ) → IsNodeOfKind nodes k R → turned_choice (choice nodes r k) ≢ choice nodes r k
    turned-differs k is =
        let u : ℕ = least_vertex nodes k in
        let h = least-has g nodes b k is.0 in
        subst (λ (z : List ℕ). from_least (reverse z) ≢ z) (sym (choice-round g nodes b r k R is.1))
        (three-differ (keys_round nodes r k u) (round-once g nodes b r k u p h) (round-written g nodes b r k u p h) (rigid-three g nodes b r k u p is h))

    -- a plane rotation system with the same choice of a triconnected node has the same rotation system of its skeleton, and one with the
    -- reverse the mirror image
    module _ (x : Parts g nodes b r) (q : List (List ℕ)) (y : Parts g nodes b q) (k : ℕ) (is : IsNodeOfKind nodes k R) where
      either : (system_at y.family k ≡ system_at x.family k) ⊎ (system_at y.family k ≡ mirror_image (system_at x.family k))
      either = let ok = skeleton-triconnected g nodes b k is in
          two-systems (skeleton_graph nodes k) ok.0 ok.1 (system_at y.family k) (system_at x.family k) (y.systems.systems k is.0) (x.systems.systems k is.0) (y.plane k is.0) (x.plane k is.0)

      same-choice : system_at y.family k ≡ system_at x.family k → choice nodes q k ≡ choice nodes r k
      same-choice e = rigid-round q y k is ∙ ap (λ z. skeleton_round g nodes b.tree k is.0 z (least_vertex nodes k)) e ∙ sym (rigid-round r x k is)

      mirror-choice : system_at y.family k ≡ mirror_image (system_at x.family k) → choice nodes q k ≡ turned_choice (choice nodes r k)
      mirror-choice e = rigid-round q y k is ∙ ap (λ z. skeleton_round g nodes b.tree k is.0 z (least_vertex nodes k)) e
          ∙ mirror-keys g nodes b.tree k is.0 (system_at x.family k) (x.systems.systems k is.0) (least_vertex nodes k) (least-has g nodes b k is.0) ∙ ap turned_choice (sym (rigid-round r x k is))

      pub rigid-kept : choice nodes q k ≡ choice nodes r k → system_at y.family k ≡ system_at x.family k
      rigid-kept h = elim either [ inl e ↦ e | inr e ↦ absurd (turned-differs k is (sym (mirror-choice e) ∙ h)) ]

      pub rigid-turned : choice nodes q k ≡ turned_choice (choice nodes r k) → system_at y.family k ≡ mirror_image (system_at x.family k)
      rigid-turned h = elim either [ inl e ↦ absurd (turned-differs k is (sym h ∙ same-choice e)) | inr e ↦ e ]

    -- two items of a bond
    module _ (k : ℕ) (is : IsNodeOfKind nodes k P) (a c : ℕ) (la : a < length (node_at nodes k).items) (lc : c < length (node_at nodes k).items) (two : a ≢ c) where
      -- the keys
      abbrev keys : List ℕ
      keys = choice nodes r k

      -- of an item
      abbrev key : ℕ → ℕ
      key i = (node_item nodes k i).key

      -- what follows the first
      abbrev after : ℕ
      after = successor (choice nodes r k) (node_item nodes k a).key

      -- exchanged
      abbrev new : List ℕ
      new = exchanged (successor (choice nodes r k) (node_item nodes k a).key) (node_item nodes k c).key (choice nodes r k)

      arranged : IsPermutation (node_keys nodes k) (choice nodes r k)
      arranged = (bond-choice g nodes b r k p.system contiguous is).0

      keys-distinct : is_distinct (node_keys nodes k) ≡ true
      keys-distinct = rises-distinct (node_keys nodes k) (b.tree.in_order.keys_rise k is.0)

      pub once : is_distinct (choice nodes r k) ≡ true
      once = permutation-distinct (node_keys nodes k) keys arranged keys-distinct

      pub key-in : (i : ℕ) → i < length (node_at nodes k).items → is_member (node_item nodes k i).key (choice nodes r k) ≡ true
      key-in i m = permutation-member (node_keys nodes k) keys (key i) arranged
          ∙ subst (λ z. is_member z (node_keys nodes k) ≡ true) (get_or-map item_key (node_at nodes k).items i no_item 0 m) (member-at (node_keys nodes k) i 0 (subst (λ n. i < n) (sym (length-map (node_at nodes k).items item_key)) m))

      pub after-in : is_member after (choice nodes r k) ≡ true
      after-in = successor-member keys (key a) (key-in a la)

      -- exchanging twice changes nothing
      same-before : (x y : ℕ) → other_of after (node_item nodes k c).key x ≡ other_of after (node_item nodes k c).key y → x ≡ y
      same-before x y e = sym (other-back after (key c) x) ∙ ap (other_of after (key c)) e ∙ other-back after (key c) y

      new-once : is_distinct new ≡ true
      new-once = distinct-map (other_of after (key c)) keys (λ x y m n e. same-before x y e) once

      new-arranged : IsPermutation (node_keys nodes k) new
      new-arranged = permutation-from_members (node_keys nodes k) new keys-distinct new-once (λ z. sym (exchanged-members after (key c) keys z after-in (key-in c lc) ∙ permutation-member (node_keys nodes k) keys z arranged))

      -- it is a possible choice
      pub exchanged-possible : IsPossible nodes k (from_least new)
      exchanged-possible =
          let f = permute-exists g nodes r b p.system contiguous k is new new-arranged in
          let q = move-plane g nodes (permute k new) r f.0 b p (is, f.1) in
          subst (IsPossible nodes k) (permute-sets g nodes k new r f.0 b p.system contiguous is f.1) (choice-possible g nodes f.0 b q k is.0)

      -- no item follows itself
      moves : (node_item nodes k a).key ≢ after
      moves e =
          let x : Parts g nodes b r = parts g nodes b r p in
          bond-moves g nodes b k is (system_at x.family k) (x.systems.systems k is.0) (x.plane k is.0) (2 * a) (subst (λ n. n < length (node_at nodes k).items) (half a) la)
          (bond-next g nodes b k is (system_at x.family k) (x.systems.systems k is.0) (x.plane k is.0) keys (bond-round r x k is) a a la la (sym e))
        where
          half : (n : ℕ) → n ≡ (2 * n) / 2
          half n = omega arith

      -- and the second follows the first
      pub exchanged-next : successor (from_least new) (node_item nodes k a).key ≡ (node_item nodes k c).key
      exchanged-next =
          from_least-successor new (key a) new-once
          ∙ ap (successor new) (sym (other-none after (key c) (key a) moves (λ e. two (keys-once g nodes b.tree k a c la lc e))))
          ∙ successor-map (other_of after (key c)) keys (key a) (λ z m e. same-before z (key a) e) ∙ other-first after (key c)
