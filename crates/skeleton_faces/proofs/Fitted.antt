-- The faces chosen in a family of plane rotation systems make one face of the block.
use Rattle.std.proofs.Common.{◌≡◌, ◌≢◌, ℕ, zero, suc, ◌+◌, ◌*◌, ◌/◌, ◌%◌, ◌<◌, ◌≤◌, ◌⊎◌, Bool, true, false, not, ◌&&◌, ◌||◌, ◌==◌, cond, List, [], ◌∷◌, length, inl, inr, refl, sym, ap, ap₂, ◌∙◌, subst, arith, lt-ltb, ltb-true, le-ltb, All}
use Rattle.std.proofs.lemmas.Bool.{cases_Bool, cases_eq, cases_lt, both_ways, and_from, and_parts, or_left, or_right, ne_eqb}
use Rattle.std.proofs.lemmas.List.Elements.{All-head, All-tail}
use Rattle.permutations.specs.Count.{sum_below}
use Rattle.permutations.specs.Relation.{connected}
use Rattle.permutations.proofs.Sums.{sum_below-add, sum_below-le}
use Rattle.permutations.proofs.Relation.{connected-reflexive, connected-symmetric, connected-transitive}
use Rattle.multigraph.specs.Graph.{Multigraph, edge_count}
use Rattle.rotations.specs.Rotation.{IsRotationSystem}
use Rattle.dart_maps.specs.Map.{twin, same_face}
use Rattle.dart_maps.specs.Order.{one_of_four}
use Rattle.dart_maps.proofs.Darts.{twin-below, twin-edge, twin-cases, twin-twin, edge-twin}
use Rattle.dart_maps.proofs.FourDarts.{four-cases, four-members}
use Rattle.faces.specs.Euler.{dart_count, IsPlane}
use Rattle.faces.specs.Maps.{dart_after}
use Rattle.pair_split.specs.Tutte.{Node, node_at, node_item}
use Rattle.pair_split.specs.declared.components.What.{What}
use Rattle.pair_split.specs.declared.components.What.TheVariants.{Real, Link}
use Rattle.skeletons.specs.Items.{IsBlockTree}
use Rattle.skeletons.specs.Families.{skeleton_graph, system_at, AreSkeletonSystems, FollowsFamily}
use Rattle.skeletons.proofs.NodeItems.{stands-of}
use Rattle.skeleton_planes.proofs.LinkLists.{all_glued, is_used, part_links, AreLinksOf}
use Rattle.skeleton_planes.proofs.Numbering.{coded, part_of, local_of, united}
use Rattle.skeleton_planes.proofs.RunTests.{is_dart}
use Rattle.skeleton_planes.proofs.Coded.{part-coded, local-coded, coded-local, coded-below, coded-twin, part-below, part-twin}
use Rattle.skeleton_planes.proofs.SkeletonDarts.{item-dart, dart-item}
use Rattle.skeleton_planes.proofs.Stages.{used-twin}
use Rattle.skeleton_planes.proofs.Whole.{stepped, stepped_back, dart-fits, place_in, ends_in, begins_in, whole-map, whole-part, whole-places, whole-follows}
use Rattle.skeleton_planes.proofs.TreeLinks.{AreOfLink}
use Rattle.skeleton_planes.proofs.Followed.{IsCarried, is_real}
use Rattle.skeleton_faces.specs.Faces.{face_length, skeleton_weight, on_one_face, IsSkeletonDart, AreAcross, EdgesWeighOne, LinksAreHeavy}
use Rattle.skeleton_faces.specs.Demands.{AreDemands}
use Rattle.skeleton_faces.specs.Laws.{FacesFitTogether}
use Rattle.skeleton_faces.proofs.FaceSums.{sum_of, sum_of-more, sum_of-one, sum_of-injection}
use Rattle.skeleton_faces.proofs.EachFamily.{sum_of-single}
use Rattle.skeleton_faces.proofs.Falling.{AreOnTwo, light-two}
use Rattle.skeleton_faces.proofs.Meeting.{AreMatched, on_links, link_weight, link_weights, meet, left-weight}
use Rattle.skeleton_faces.proofs.BlockFaces.{numbered-face, face-at_least}
use Rattle.skeleton_faces.proofs.InSkeletons.{dart_weight, skeleton-inside, weight-coded, weight-twin}
use Rattle.skeleton_faces.proofs.NoLonger.{c, block-inside, live-one, all-light}
use Rattle.skeleton_faces.proofs.Reached.{used-joined, sum-united, sum-positive}

-- a link leads to one node
same-far : (x y : ℕ) → Link x ≡ Link y → x ≡ y
same-far x y e = ap far e
  where
    far : What → ℕ
    far (Real n) = 0
    far (Link n) = n

-- a block with its tree, a plane family, a rotation system that follows it, weights, and faces chosen
module _ (g : Multigraph) (nodes : List Node) (b : IsBlockTree g nodes) (family : List (List (List ℕ))) (systems : AreSkeletonSystems nodes family) (r : List (List ℕ)) (system : IsRotationSystem g r) (follows : FollowsFamily nodes family r)
    (plane : (k : ℕ) → k < length nodes → IsPlane (skeleton_graph nodes k) (system_at family k)) (weight : ℕ → ℕ → ℕ) (ones : EdgesWeighOne nodes weight) (heavy : LinksAreHeavy nodes family weight)
    (top len : ℕ) (is_on : ℕ → Bool) (on : ℕ → ℕ → Bool) (up rank : ℕ → ℕ) (a : AreDemands nodes family weight top len is_on on up rank) where
  -- room
  abbrev width : ℕ
  width = edge_count g

  -- how many edges all skeletons have room for
  abbrev size : ℕ
  size = edge_count g * length nodes

  -- their map
  abbrev whole : ℕ → ℕ
  whole = united (edge_count g) (stepped nodes family)

  -- the glued map
  abbrev carrier : IsCarried g nodes b family systems r system
  carrier = c g nodes b family systems r system follows plane weight ones

  -- the links
  abbrev links : List (ℕ × ℕ)
  links = carrier.links.links

  -- the weights
  abbrev weights : ℕ → ℕ
  weights = dart_weight (edge_count g) nodes weight

  -- a chosen dart of the map of all skeletons
  abbrev chosen : ℕ → Bool
  chosen x = is_dart nodes (part_of (edge_count g) x) (local_of (edge_count g) x) && on (part_of (edge_count g) x) (local_of (edge_count g) x)

  -- of a skeleton
  chosen-at : (k z : ℕ) → k < length nodes → z / 2 < length (node_at nodes k).items → chosen (coded (edge_count g) k z) ≡ on k z
  chosen-at k z l m = ap₂ (λ p q. is_dart nodes p q && on p q) (part-coded width k z fits) (local-coded width k z fits) ∙ ap (λ (t : Bool). t && on k z) (lt-ltb (z / 2) (length (node_at nodes k).items) m)
    where
      fits : z < 2 * edge_count g
      fits = dart-fits g nodes b family systems k z l m

  -- it is a dart there
  chosen-parts : (x : ℕ) → x < 2 * (edge_count g * length nodes) → chosen x ≡ true → IsSkeletonDart nodes (part_of (edge_count g) x) (local_of (edge_count g) x) × (on (part_of (edge_count g) x) (local_of (edge_count g) x) ≡ true)
  chosen-parts x l h = let p = and_parts (is_dart nodes (part_of width x) (local_of width x)) (on (part_of width x) (local_of width x)) h in
      let n : part_of width x < length nodes = part-below width (length nodes) x l in
      ((n, item-dart g nodes b (part_of width x) n (local_of width x) (ltb-true (local_of width x / 2) (length (node_at nodes (part_of width x)).items) p.0)), p.1)

  -- chosen darts of one skeleton lie on one face
  one : (x y : ℕ) → x < 2 * (edge_count g * length nodes) → y < 2 * (edge_count g * length nodes) → chosen x ≡ true → chosen y ≡ true → part_of (edge_count g) x ≡ part_of (edge_count g) y
      → same_face (edge_count g * length nodes) (united (edge_count g) (stepped nodes family)) x y ≡ true
  one x y lx ly ox oy q = subst (λ u. same_face size whole u y ≡ true) (coded-local width x)
      (subst (λ u. same_face size whole (coded width k (local_of width x)) u ≡ true) (ap (λ n. coded width n (local_of width y)) q ∙ coded-local width y)
      (sym (numbered-face (edge_count (skeleton_graph nodes k)) (dart_after (skeleton_graph nodes k) (system_at family k)) size whole _ (coded width k) (local_of width) (skeleton-inside g nodes b family systems k (px.0.0)) (local_of width x) (local_of width y) (px.0.1) dy)
      ∙ sym (a.faces k (local_of width x) (local_of width y) px.0 (px.0.0, dy) px.1) ∙ subst (λ n. on n (local_of width y) ≡ true) (sym q) py.1))
    where
      k : ℕ
      k = part_of (edge_count g) x

      px : IsSkeletonDart nodes (part_of (edge_count g) x) (local_of (edge_count g) x) × (on (part_of (edge_count g) x) (local_of (edge_count g) x) ≡ true)
      px = chosen-parts x lx ox

      py : IsSkeletonDart nodes (part_of (edge_count g) y) (local_of (edge_count g) y) × (on (part_of (edge_count g) y) (local_of (edge_count g) y) ≡ true)
      py = chosen-parts y ly oy

      dy : local_of (edge_count g) y < dart_count (skeleton_graph nodes k)
      dy = subst (λ n. local_of (edge_count g) y < dart_count (skeleton_graph nodes n)) (sym q) (py.0.1)

  -- a number doubled and halved
  half : (n : ℕ) → (2 * n) / 2 ≡ n
  half n = omega arith

  -- the darts of a link and of the link back
  half-twin : (n : ℕ) → twin (2 * n) / 2 ≡ n
  half-twin n = twin-edge (2 * n) ∙ half n

  -- are of one parity
  even : (n : ℕ) → (2 * n) % 2 ≡ 0
  even n = omega arith

  -- and so are their twins
  odd : (n : ℕ) → twin (2 * n) % 2 ≡ 1
  odd n = elim (twin-cases (2 * n)) [ inl p ↦ omega (arith, p.0, p.1) | inr p ↦ absurd (omega (arith, p.0, even n)) ]

  -- darts of the two items of a link at one end
  across-at : (k j i h y z : ℕ) → k < length nodes → j < length nodes → i < length (node_at nodes k).items → h < length (node_at nodes j).items → (node_item nodes k i).what ≡ Link j → (node_item nodes j h).what ≡ Link k
      → y / 2 ≡ i → z / 2 ≡ h → y % 2 ≡ z % 2 → AreAcross nodes k y j z
  across-at k j i h y z lk lj mi mh to from p q e = record {
    first = (lk, item-dart g nodes b k lk y (subst (λ n. n < length (node_at nodes k).items) (sym p) mi));
    second = (lj, item-dart g nodes b j lj z (subst (λ n. n < length (node_at nodes j).items) (sym q) mh));
    to = ap (λ n. (node_item nodes k n).what) p ∙ to;
    from = ap (λ n. (node_item nodes j n).what) q ∙ from;
    end = e;
  }

  -- a link is matched
  match : (d e : ℕ) → AreOfLink g nodes (d, e) → (chosen d ≡ chosen (twin e)) × (chosen (twin d) ≡ chosen e)
  match d e (k, j, i, h, q, p, lk, lj, mi, mh, to, from) = (
    ap chosen q ∙ chosen-at k (2 * i) lk (item-k (2 * i) (half i)) ∙ a.across k (2 * i) j (2 * h) (across-at k j i h (2 * i) (2 * h) lk lj mi mh to from (half i) (half h) (even i ∙ sym (even h)))
        ∙ sym (chosen-at j (twin (2 * h)) lj (item-j (twin (2 * h)) (half-twin h))) ∙ ap chosen (coded-twin width j (2 * h) ∙ ap twin (sym p)),
    ap chosen (ap twin q ∙ sym (coded-twin width k (2 * i))) ∙ chosen-at k (twin (2 * i)) lk (item-k (twin (2 * i)) (half-twin i))
        ∙ a.across k (twin (2 * i)) j (twin (2 * h)) (across-at k j i h (twin (2 * i)) (twin (2 * h)) lk lj mi mh to from (half-twin i) (half-twin h) (odd i ∙ sym (odd h)))
        ∙ ap (on j) (twin-twin (2 * h)) ∙ sym (chosen-at j (2 * h) lj (item-j (2 * h) (half h))) ∙ ap chosen (sym p),
  )
    where
      item-k : (y : ℕ) → y / 2 ≡ i → y / 2 < length (node_at nodes k).items
      item-k y o = subst (λ n. n < length (node_at nodes k).items) (sym o) mi

      item-j : (y : ℕ) → y / 2 ≡ h → y / 2 < length (node_at nodes j).items
      item-j y o = subst (λ n. n < length (node_at nodes j).items) (sym o) mh

  -- and so are all
  matched : (l : List (ℕ × ℕ)) → All (AreOfLink g nodes) l → AreMatched chosen l
  matched [] q = tt
  matched (link ∷ l) q = let m = match link.0 link.1 (All-head (AreOfLink g nodes) link l q) in (m.0, m.1, matched l (All-tail (AreOfLink g nodes) link l q))

  -- all links are
  all-matched : AreMatched chosen links
  all-matched = matched links carrier.links.pairs

  -- at first the darts of links are on two faces
  all-two : AreOnTwo (edge_count g * length nodes) (united (edge_count g) (stepped nodes family)) links
  all-two = light-two size whole weights links (all-light g nodes b family systems r system follows plane weight ones heavy links carrier.links.pairs carrier.links.are)

  -- the links with chosen darts, between nodes
  abbrev joins : List (ℕ × ℕ)
  joins = part_links (part_of (edge_count g)) (on_links chosen links)

  -- the four darts of a link and of the link back, by node and item
  link-node : (link : ℕ × ℕ) → AreOfLink g nodes link → (k z j : ℕ) → k < length nodes → z / 2 < length (node_at nodes k).items → (node_item nodes k (z / 2)).what ≡ Link j
      → one_of_four link.0 (twin link.0) link.1 (twin link.1) (coded (edge_count g) k z) ≡ true → ((part_of (edge_count g) link.0 ≡ k) × (part_of (edge_count g) link.1 ≡ j)) ⊎ ((part_of (edge_count g) link.1 ≡ k) × (part_of (edge_count g) link.0 ≡ j))
  link-node link (k1, j1, i, h, q, p, lk, lj, mi, mh, to, from) k z j l m w t = elim (four-cases link.0 (twin link.0) link.1 (twin link.1) (coded width k z) t) [
    | inl e ↦ inl (first (2 * i) (half i) (e ∙ q))
    | inr t ↦ elim t [
      | inl e ↦ inl (first (twin (2 * i)) (half-twin i) (e ∙ ap twin q ∙ sym (coded-twin width k1 (2 * i))))
      | inr t ↦ elim t [
        | inl e ↦ inr (second (2 * h) (half h) (e ∙ p))
        | inr e ↦ inr (second (twin (2 * h)) (half-twin h) (e ∙ ap twin p ∙ sym (coded-twin width j1 (2 * h))))
      ]
    ]
  ]
    where
      fits : z < 2 * edge_count g
      fits = dart-fits g nodes b family systems k z l m

      part-first : part_of (edge_count g) link.0 ≡ k1
      part-first = ap (part_of width) q ∙ part-coded width k1 (2 * i) (dart-fits g nodes b family systems k1 (2 * i) lk (subst (λ n. n < length (node_at nodes k1).items) (sym (half i)) mi))

      part-second : part_of (edge_count g) link.1 ≡ j1
      part-second = ap (part_of width) p ∙ part-coded width j1 (2 * h) (dart-fits g nodes b family systems j1 (2 * h) lj (subst (λ n. n < length (node_at nodes j1).items) (sym (half h)) mh))

      same-code : (k2 y : ℕ) → y < 2 * edge_count g → coded (edge_count g) k z ≡ coded (edge_count g) k2 y → (k ≡ k2) × (z ≡ y)
      same-code k2 y f e = (sym (part-coded width k z fits) ∙ ap (part_of width) e ∙ part-coded width k2 y f, sym (local-coded width k z fits) ∙ ap (local_of width) e ∙ local-coded width k2 y f)

      first : (y : ℕ) → y / 2 ≡ i → coded (edge_count g) k z ≡ coded (edge_count g) k1 y → (part_of (edge_count g) link.0 ≡ k) × (part_of (edge_count g) link.1 ≡ j)
      first y o e = let s = same-code k1 y (dart-fits g nodes b family systems k1 y lk (subst (λ n. n < length (node_at nodes k1).items) (sym o) mi)) e in
          (part-first ∙ sym s.0, part-second ∙ same-far j1 j (sym to ∙ ap₂ (λ u v. (node_item nodes u v).what) (sym s.0) (sym o ∙ ap (λ u. u / 2) (sym s.1)) ∙ w))

      second : (y : ℕ) → y / 2 ≡ h → coded (edge_count g) k z ≡ coded (edge_count g) j1 y → (part_of (edge_count g) link.1 ≡ k) × (part_of (edge_count g) link.0 ≡ j)
      second y o e = let s = same-code j1 y (dart-fits g nodes b family systems j1 y lj (subst (λ n. n < length (node_at nodes j1).items) (sym o) mh)) e in
          (part-second ∙ sym s.0, part-first ∙ same-far k1 j (sym from ∙ ap₂ (λ u v. (node_item nodes u v).what) (sym s.0) (sym o ∙ ap (λ u. u / 2) (sym s.1)) ∙ w))

  -- a node with a chosen face is joined to the node to which its link leads
  joined-up : (k j e : ℕ) → AreAcross nodes k (up k) j e → on k (up k) ≡ true → connected joins k j ≡ true
  joined-up k j e acr o = elim (link-node w.0 w.1 k (up k) j (acr.first.0) m (acr.to) w.2) [
    | inl p ↦ subst (λ u. connected joins u j ≡ true) p.0 (subst (λ u. connected joins (part_of width w.0.0) u ≡ true) p.1 w.3)
    | inr p ↦ connected-symmetric joins j k (subst (λ u. connected joins u k ≡ true) p.1 (subst (λ u. connected joins (part_of width w.0.0) u ≡ true) p.0 w.3))
  ]
    where
      m : up k / 2 < length (node_at nodes k).items
      m = dart-item g nodes b k (acr.first.0) (up k) (acr.first.1)

      fits : up k < 2 * edge_count g
      fits = dart-fits g nodes b family systems k (up k) (acr.first.0) m

      x : ℕ
      x = coded (edge_count g) k (up k)

      lx : coded (edge_count g) k (up k) < 2 * (edge_count g * length nodes)
      lx = coded-below width (length nodes) k (up k) (acr.first.0) fits

      used : is_used links (coded (edge_count g) k (up k)) ≡ true
      used = carrier.link_used (coded width k (up k)) lx j (subst (λ u. u / 2 < length (node_at nodes (part_of width (coded width k (up k)))).items) (sym (local-coded width k (up k) fits))
          (subst (λ u. up k / 2 < length (node_at nodes u).items) (sym (part-coded width k (up k) fits)) m))
          (ap₂ (λ u v. (node_item nodes u (v / 2)).what) (part-coded width k (up k) fits) (local-coded width k (up k) fits) ∙ acr.to)

      w : (link : ℕ × ℕ) × AreOfLink g nodes link × (one_of_four link.0 (twin link.0) link.1 (twin link.1) (coded (edge_count g) k (up k)) ≡ true) × (connected joins (part_of (edge_count g) link.0) (part_of (edge_count g) link.1) ≡ true)
      w = used-joined (part_of width) chosen (AreOfLink g nodes) links carrier.links.pairs all-matched (coded width k (up k)) (chosen-at k (up k) (acr.first.0) m ∙ o) used

  -- so all are joined to the top
  joined-top : (fuel k : ℕ) → rank k < fuel → k < length nodes → is_on k ≡ true → connected joins k top ≡ true
  joined-top zero k f l o = absurd (omega (arith, f))
  joined-top (suc fuel) k f l o = elim (cases_eq k top) [
    | inl e ↦ subst (λ u. connected joins k u ≡ true) e (connected-reflexive joins k)
    | inr n ↦ let w = a.upward k l o n in
        connected-transitive joins k w.0 top (joined-up k w.0 w.1 w.2 w.3)
        (joined-top fuel w.0 (less (rank w.0) (rank k) fuel w.4 f) (w.2.second.0) (a.node_on w.0 (twin w.1) (w.2.second.0, twin-below (edge_count (skeleton_graph nodes w.0)) w.1 (w.2.second.1)) (sym (a.across k (up k) w.0 w.1 w.2) ∙ w.3)))
  ]
    where
      less : (x y z : ℕ) → x < y → y < suc z → x < z
      less x y z p q = omega (arith, p, q)

  -- the nodes of two chosen darts are joined
  chosen-joined : (x y : ℕ) → x < 2 * (edge_count g * length nodes) → y < 2 * (edge_count g * length nodes) → chosen x ≡ true → chosen y ≡ true → connected joins (part_of (edge_count g) x) (part_of (edge_count g) y) ≡ true
  chosen-joined x y lx ly ox oy = connected-transitive joins (part_of width x) top (part_of width y) (to-top x lx ox) (connected-symmetric joins (part_of width y) top (to-top y ly oy))
    where
      to-top : (x : ℕ) → x < 2 * (edge_count g * length nodes) → chosen x ≡ true → connected joins (part_of (edge_count g) x) top ≡ true
      to-top x l o = let p = chosen-parts x l o in joined-top (suc (rank (part_of width x))) (part_of width x) (omega arith) (p.0.0) (a.node_on (part_of width x) (local_of width x) p.0 p.1)

  -- what the chosen darts of node k weigh
  abbrev node_sum : ℕ → ℕ
  node_sum k = sum_below (2 * edge_count g) (λ z. cond (is_dart nodes k z && on k z) (cond (is_dart nodes k z) (weight k (z / 2)) 0) 0)

  -- as much as their face at least
  node-face : (k d : ℕ) → IsSkeletonDart nodes k d → on k d ≡ true → skeleton_weight nodes family weight k d ≤ node_sum k
  node-face k d i o = sum_of-injection (dart_count (skeleton_graph nodes k)) (2 * edge_count g) (on_one_face (skeleton_graph nodes k) (system_at family k) d) (λ z. is_dart nodes k z && on k z)
      (λ y. weight k (y / 2)) (λ z. cond (is_dart nodes k z) (weight k (z / 2)) 0) (λ z. z)
      (λ z l t. dart-fits g nodes b family systems k z (i.0) (dart-item g nodes b k (i.0) z l))
      (λ z l t. and_from (is_dart nodes k z) (on k z) (lt-ltb (z / 2) (length (node_at nodes k).items) (dart-item g nodes b k (i.0) z l)) (a.faces k d z i (i.0, l) o ∙ t))
      (λ z l t. subst (λ (u : Bool). weight k (z / 2) ≤ cond u (weight k (z / 2)) 0) (sym (lt-ltb (z / 2) (length (node_at nodes k).items) (dart-item g nodes b k (i.0) z l))) (omega arith))
      (λ x y l m s t q. q)

  -- a node other than the top, the link of which is used
  abbrev is_done : List (ℕ × ℕ) → ℕ → Bool
  is_done l k = (is_on k && not (k == top)) && is_used l (coded (edge_count g) k (up k))

  -- one link more
  module _ (link : ℕ × ℕ) (l : List (ℕ × ℕ)) (of : AreOfLink g nodes link) (fresh : is_used l link.0 ≡ false) (fresh_too : is_used l link.1 ≡ false) where
    -- a node whose link it is
    more-done : (k : ℕ) → k < length nodes → is_on k ≡ true → k ≢ top → one_of_four link.0 (twin link.0) link.1 (twin link.1) (coded (edge_count g) k (up k)) ≡ true → weights link.0 + weights link.1 ≤ node_sum k
        → sum_of (length nodes) (is_done l) node_sum + (weights link.0 + weights link.1) ≤ sum_of (length nodes) (is_done (link ∷ l)) node_sum
    more-done k lk o n t w = omega (arith, old, sum_of-one (length nodes) (is_done (link ∷ l)) node_sum k lk there, w)
      where
        unused : is_used l (coded (edge_count g) k (up k)) ≡ false
        unused = elim (four-cases link.0 (twin link.0) link.1 (twin link.1) (coded width k (up k)) t) [
          | inl e ↦ ap (is_used l) e ∙ fresh
          | inr q ↦ elim q [
            | inl e ↦ ap (is_used l) e ∙ used-twin l link.0 ∙ fresh
            | inr q ↦ elim q [
              | inl e ↦ ap (is_used l) e ∙ fresh_too
              | inr e ↦ ap (is_used l) e ∙ used-twin l link.1 ∙ fresh_too
            ]
          ]
        ]

        there : is_done (link ∷ l) k ≡ true
        there = and_from (is_on k && not (k == top)) (is_used (link ∷ l) (coded width k (up k))) (and_from (is_on k) (not (k == top)) o (ap not (ne_eqb k top n)))
            (or_left (one_of_four link.0 (twin link.0) link.1 (twin link.1) (coded width k (up k))) (is_used l (coded width k (up k))) t)

        old : sum_of (length nodes) (is_done l) node_sum ≤ sum_of (length nodes) (λ y. is_done (link ∷ l) y && not (y == k)) node_sum
        old = sum_of-more (length nodes) (is_done l) (λ y. is_done (link ∷ l) y && not (y == k)) node_sum (λ y m h. let p = and_parts (is_on y && not (y == top)) (is_used l (coded width y (up y))) h in
            and_from (is_done (link ∷ l) y) (not (y == k)) (and_from (is_on y && not (y == top)) (is_used (link ∷ l) (coded width y (up y))) p.0 (or_right (one_of_four link.0 (twin link.0) link.1 (twin link.1) (coded width y (up y))) (is_used l (coded width y (up y))) p.1))
            (ap not (ne_eqb y k (λ e. both_ways (is_used l (coded width k (up k))) unused (subst (λ u. is_used l (coded width u (up u)) ≡ true) e p.1)))))

    -- without it
    less-done : sum_of (length nodes) (is_done l) node_sum ≤ sum_of (length nodes) (is_done (link ∷ l)) node_sum
    less-done = sum_of-more (length nodes) (is_done l) (is_done (link ∷ l)) node_sum (λ y m h. let p = and_parts (is_on y && not (y == top)) (is_used l (coded width y (up y))) h in
        and_from (is_on y && not (y == top)) (is_used (link ∷ l) (coded width y (up y))) p.0 (or_right (one_of_four link.0 (twin link.0) link.1 (twin link.1) (coded width y (up y))) (is_used l (coded width y (up y))) p.1))

  -- the node below a link with a chosen dart weighs as much as the link and the link back
  below-weight : (k j i h : ℕ) → k < length nodes → j < length nodes → i < length (node_at nodes k).items → h < length (node_at nodes j).items → (node_item nodes k i).what ≡ Link j → (node_item nodes j h).what ≡ Link k
      → is_on k ≡ true → k ≢ top → up k / 2 ≡ i → weight k i + weight j h ≤ node_sum k
  below-weight k j i h lk lj mi mh to from o n e = omega (arith, node-face k (up k) (w.2.first) w.3, w.5 (up k) (w.2.first) w.3, ap (weight k) e, far)
    where
      w : (j : ℕ) × (e : ℕ) × AreAcross nodes k (up k) j e × (on k (up k) ≡ true) × (rank j < rank k) × ((d : ℕ) → IsSkeletonDart nodes k d → on k d ≡ true → skeleton_weight nodes family weight k d ≡ weight k (up k / 2) + weight j (e / 2))
      w = a.upward k lk o n

      same-node : w.0 ≡ j
      same-node = same-far w.0 j (sym (w.2.to) ∙ ap (λ u. (node_item nodes k u).what) e ∙ to)

      same-item : w.1 / 2 ≡ h
      same-item = b.tree.split.linked.once j k (w.1 / 2) h
          (stands-of g nodes b.tree j (w.1 / 2) (Link k) (subst (λ u. w.1 / 2 < length (node_at nodes u).items) same-node (dart-item g nodes b w.0 (w.2.second.0) w.1 (w.2.second.1))) (ap (λ u. (node_item nodes u (w.1 / 2)).what) (sym same-node) ∙ w.2.from))
          (stands-of g nodes b.tree j h (Link k) mh from)

      far : weight w.0 (w.1 / 2) ≡ weight j h
      far = ap₂ weight same-node same-item

  -- one link: the node below it, where it has a chosen dart
  module _ (link : ℕ × ℕ) (l : List (ℕ × ℕ)) (of : AreOfLink g nodes link) (fresh : is_used l link.0 ≡ false) (fresh_too : is_used l link.1 ≡ false) where
    -- the node and the item of the link
    abbrev k : ℕ
    k = of.0

    -- the node to which it leads
    abbrev j : ℕ
    j = of.1

    -- its item
    abbrev i : ℕ
    i = of.2

    -- that of the link back
    abbrev h : ℕ
    h = of.3

    -- both are items
    here : of.2 < length (node_at nodes of.0).items
    here = of.8

    -- the second
    there : of.3 < length (node_at nodes of.1).items
    there = of.9

    -- what the darts weigh
    weight-first : weights link.0 ≡ weight of.0 of.2
    weight-first = ap weights of.4 ∙ weight-coded g nodes b family systems k (of.6) weight (2 * i) (subst (λ n. n < length (node_at nodes k).items) (sym (half i)) here) ∙ ap (weight k) (half i)

    -- the second
    weight-second : weights link.1 ≡ weight of.1 of.3
    weight-second = ap weights of.5 ∙ weight-coded g nodes b family systems j (of.7) weight (2 * h) (subst (λ n. n < length (node_at nodes j).items) (sym (half h)) there) ∙ ap (weight j) (half h)

    -- a dart of the item of the link is one of the four
    four-first : (y : ℕ) → y / 2 ≡ of.2 → one_of_four link.0 (twin link.0) link.1 (twin link.1) (coded (edge_count g) of.0 y) ≡ true
    four-first y e = let m = four-members link.0 (twin link.0) link.1 (twin link.1) in elim (edge-twin y (2 * i) (e ∙ sym (half i))) [
      | inl q ↦ subst (λ u. one_of_four link.0 (twin link.0) link.1 (twin link.1) u ≡ true) (of.4 ∙ ap (coded width k) (sym q)) m.0
      | inr q ↦ subst (λ u. one_of_four link.0 (twin link.0) link.1 (twin link.1) u ≡ true) (ap twin of.4 ∙ sym (coded-twin width k (2 * i)) ∙ ap (coded width k) (sym q)) m.1
    ]

    -- and one of that of the link back
    four-second : (y : ℕ) → y / 2 ≡ of.3 → one_of_four link.0 (twin link.0) link.1 (twin link.1) (coded (edge_count g) of.1 y) ≡ true
    four-second y e = let m = four-members link.0 (twin link.0) link.1 (twin link.1) in elim (edge-twin y (2 * h) (e ∙ sym (half h))) [
      | inl q ↦ subst (λ u. one_of_four link.0 (twin link.0) link.1 (twin link.1) u ≡ true) (of.5 ∙ ap (coded width j) (sym q)) m.2
      | inr q ↦ subst (λ u. one_of_four link.0 (twin link.0) link.1 (twin link.1) u ≡ true) (ap twin of.5 ∙ sym (coded-twin width j (2 * h)) ∙ ap (coded width j) (sym q)) m.3
    ]

    -- the node below
    below-link : (y z : ℕ) → y / 2 ≡ of.2 → z / 2 ≡ of.3 → y % 2 ≡ z % 2 → on of.0 y ≡ true
        → sum_of (length nodes) (is_done l) node_sum + (weights link.0 + weights link.1) ≤ sum_of (length nodes) (is_done (link ∷ l)) node_sum
    below-link y z ey ez e o =
        let acr = across-at k j i h y z (of.6) (of.7) here there (of.10) (of.11) ey ez e in
        elim (a.only k y j z acr o) [
          | inl p ↦ let w = below-weight k j i h (of.6) (of.7) here there (of.10) (of.11) (a.node_on k y (acr.first) o) p.0 (p.1 ∙ ey) in
              more-done link l of fresh fresh_too k (of.6) (a.node_on k y (acr.first) o) p.0 (four-first (up k) (p.1 ∙ ey)) (omega (arith, w, weight-first, weight-second))
          | inr p ↦ let w = below-weight j k h i (of.7) (of.6) there here (of.11) (of.10) (on-second acr) p.0 (p.1 ∙ ez) in
              more-done link l of fresh fresh_too j (of.7) (on-second acr) p.0 (four-second (up j) (p.1 ∙ ez)) (omega (arith, w, weight-first, weight-second))
        ]
      where
        on-second : AreAcross nodes of.0 y of.1 z → is_on of.1 ≡ true
        on-second acr = a.node_on j (twin z) (of.7, twin-below (edge_count (skeleton_graph nodes j)) z (acr.second.1)) (sym (a.across k y j z acr) ∙ o)

    -- whichever darts of it are chosen
    link-step : same_face (edge_count g * length nodes) (united (edge_count g) (stepped nodes family)) link.0 (twin link.0) ≡ false → link.0 < 2 * (edge_count g * length nodes)
        → sum_of (length nodes) (is_done l) node_sum + link_weight chosen weights link ≤ sum_of (length nodes) (is_done (link ∷ l)) node_sum
    link-step two lx = elim (cases_Bool (chosen link.0)) [
      | inl o ↦ elim (cases_Bool (chosen (twin link.0))) [
        | inl u ↦ absurd (both_ways (same_face size whole link.0 (twin link.0)) two (one link.0 (twin link.0) lx (twin-below size link.0 lx) o u (sym (part-twin width link.0))))
        | inr u ↦ rw (o, u) (let p = below-link (2 * i) (2 * h) (half i) (half h) (even i ∙ sym (even h)) (sym (chosen-at k (2 * i) (of.6) (subst (λ n. n < length (node_at nodes k).items) (sym (half i)) here)) ∙ ap chosen (sym of.4) ∙ o) in omega (arith, p))
      ]
      | inr o ↦ elim (cases_Bool (chosen (twin link.0))) [
        | inl u ↦ rw (o, u) (let p = below-link (twin (2 * i)) (twin (2 * h)) (half-twin i) (half-twin h) (odd i ∙ sym (odd h))
            (sym (chosen-at k (twin (2 * i)) (of.6) (subst (λ n. n < length (node_at nodes k).items) (sym (half-twin i)) here)) ∙ ap chosen (coded-twin width k (2 * i) ∙ ap twin (sym of.4)) ∙ u) in omega (arith, p))
        | inr u ↦ rw (o, u) (let p = less-done link l of fresh fresh_too in omega (arith, p))
      ]
    ]

  -- the links weigh no more than the nodes below them
  links-below : (l : List (ℕ × ℕ)) → All (AreOfLink g nodes) l → AreLinksOf (edge_count g * length nodes) (united (edge_count g) (stepped nodes family)) (place_in g nodes) (ends_in g nodes r) (begins_in g nodes r) (part_of (edge_count g)) l
      → AreOnTwo (edge_count g * length nodes) (united (edge_count g) (stepped nodes family)) l → link_weights chosen weights l ≤ sum_of (length nodes) (is_done l) node_sum
  links-below [] q s t = omega arith
  links-below (link ∷ l) q s t = add-up (link_weights chosen weights l) (sum_of (length nodes) (is_done l) node_sum) (sum_of (length nodes) (is_done (link ∷ l)) node_sum) (link_weight chosen weights link) (links-below l (All-tail (AreOfLink g nodes) link l q) s.4 t.2) (link-step link l (All-head (AreOfLink g nodes) link l q) s.1 s.2 t.0 (s.0.darts.0))
    where
      add-up : (x y z u : ℕ) → x ≤ y → y + u ≤ z → x + u ≤ z
      add-up x y z u p q = omega (arith, p, q)

  -- all chosen darts weigh as much as the nodes' chosen faces
  all-weight : sum_of (2 * (edge_count g * length nodes)) chosen weights ≡ sum_below (length nodes) node_sum
  all-weight = sum-united width (b.block.has_edge) (length nodes) (λ k z. cond (is_dart nodes k z && on k z) (cond (is_dart nodes k z) (weight k (z / 2)) 0) 0)

  -- the chosen darts that are left weigh as much as the face at the top, at least
  left-top : len ≤ sum_of (2 * (edge_count g * length nodes)) (λ y. chosen y && not (is_used links y)) weights
  left-top = omega (arith, at_top, split, links-below links carrier.links.pairs carrier.links.are all-two, left, all-weight)
    where
      left : sum_of (2 * (edge_count g * length nodes)) (λ y. chosen y && not (is_used links y)) weights + link_weights chosen weights links ≡ sum_of (2 * (edge_count g * length nodes)) chosen weights
      left = left-weight size whole (united width (stepped_back nodes family)) (whole-map g nodes b family systems) (place_in g nodes) (whole-places g nodes b family systems) (ends_in g nodes r) (begins_in g nodes r) (part_of width)
          (whole-part g nodes b family systems) (λ x l. part-twin width x) (whole-follows g nodes b family systems r system follows) chosen one weights (weight-twin width nodes weight) links carrier.links.are all-matched

      at_top : len ≤ node_sum top
      at_top = let w = a.some top (a.top_on.0) (a.top_on.1) in omega (arith, node-face top w.0 w.1 w.2, a.at_top w.0 w.1 w.2)

      split : sum_of (length nodes) (is_done links) node_sum + node_sum top ≤ sum_below (length nodes) node_sum
      split = subst (λ n. sum_of (length nodes) (is_done links) node_sum + n ≤ sum_below (length nodes) node_sum) (sum_of-single (length nodes) top node_sum (a.top_on.0))
          (subst (λ n. n ≤ sum_below (length nodes) node_sum) (sum_below-add (length nodes) (λ k. cond (is_done links k) (node_sum k) 0) (λ k. cond (k == top) (node_sum k) 0))
          (sum_below-le (length nodes) (λ k. cond (is_done links k) (node_sum k) 0 + cond (k == top) (node_sum k) 0) node_sum (λ k l. elim (cases_Bool (k == top)) [
            | inl e ↦ rw e (few (is_on k) (is_used links (coded width k (up k))) (node_sum k))
            | inr e ↦ rw e (most (is_on k) (not false) (is_used links (coded width k (up k))) (node_sum k))
          ])))
        where
          few : (x y : Bool) (n : ℕ) → cond ((x && false) && y) n 0 + n ≤ n
          few x y n = grind (arith, cases_Bool x)

          most : (x z y : Bool) (n : ℕ) → cond ((x && z) && y) n 0 + 0 ≤ n
          most x z y n = elim (cases_Bool ((x && z) && y)) [ inl e ↦ rw e (omega arith) | inr e ↦ rw e (omega arith) ]

  -- a chosen dart that is left and weighs something is of an edge of the block
  left-live : (x : ℕ) → x < 2 * (edge_count g * length nodes) → chosen x && not (is_used links x) ≡ true → carrier.live x ≡ false → weights x ≡ 0
  left-live x l t dead = elim (cases_lt (local_of width x / 2) (length (node_at nodes (part_of width x)).items)) [
    | inl m ↦ kind ((node_item nodes (part_of width x) (local_of width x / 2)).what) refl m
    | inr m ↦ ap (λ (u : Bool). cond u (weight (part_of width x) (local_of width x / 2)) 0) (le-ltb (local_of width x / 2) (length (node_at nodes (part_of width x)).items) m)
  ]
    where
      kind : (w : What) → (node_item nodes (part_of (edge_count g) x) (local_of (edge_count g) x / 2)).what ≡ w → local_of (edge_count g) x / 2 < length (node_at nodes (part_of (edge_count g) x)).items → weights x ≡ 0
      kind (Real e) q m = absurd (both_ways (carrier.live x) dead (carrier.live_is x ∙ and_from (is_dart nodes (part_of width x) (local_of width x)) (is_real (node_item nodes (part_of width x) (local_of width x / 2)).what)
          (lt-ltb (local_of width x / 2) (length (node_at nodes (part_of width x)).items) m) (ap is_real q)))
      kind (Link j) q m = absurd (both_ways (not (is_used links x)) (ap not (carrier.link_used x l j m q)) (and_parts (chosen x) (not (is_used links x)) t).1)

  -- so the face of the block with a chosen dart is as long
  face-reached : (y : ℕ) → y < 2 * edge_count g → chosen (carrier.into y) && not (is_used links (carrier.into y)) ≡ true → len ≤ face_length g r y
  face-reached y l t = up-to left-top (face-at_least width (dart_after g r) size (all_glued links whole) carrier.live carrier.into carrier.back (block-inside g nodes b family systems r system follows plane weight ones) weights
      (λ x i h. live-one g nodes b family systems r system follows plane weight ones x h) (λ x. chosen x && not (is_used links x)) y l
      (λ x i s h. let p = and_parts (chosen x) (not (is_used links x)) s in meets x i p.0 (unused x p.1)) left-live)
    where
      up-to : {x y z : ℕ} → x ≤ y → y ≤ z → x ≤ z
      up-to p q = omega (arith, p, q)

      unused : (x : ℕ) → not (is_used links x) ≡ true → is_used links x ≡ false
      unused x h = elim (cases_Bool (is_used links x)) [ inl e ↦ absurd (both_ways (not (is_used links x)) (ap not e) h) | inr e ↦ e ]

      mine : (chosen (carrier.into y) ≡ true) × (not (is_used links (carrier.into y)) ≡ true)
      mine = and_parts (chosen (carrier.into y)) (not (is_used links (carrier.into y))) t

      meets : (x : ℕ) → x < 2 * (edge_count g * length nodes) → chosen x ≡ true → is_used links x ≡ false → same_face (edge_count g * length nodes) (all_glued links (united (edge_count g) (stepped nodes family))) (carrier.into y) x ≡ true
      meets x i o u = meet size whole (united width (stepped_back nodes family)) (whole-map g nodes b family systems) (place_in g nodes) (whole-places g nodes b family systems) (ends_in g nodes r) (begins_in g nodes r) (part_of width)
          (whole-part g nodes b family systems) (λ x l. part-twin width x) (whole-follows g nodes b family systems r system follows) chosen one links carrier.links.are all-two all-matched
          (carrier.into y) x (carrier.renumbering.darts y l) i mine.0 o (unused (carrier.into y) mine.1) u (chosen-joined (carrier.into y) x (carrier.renumbering.darts y l) i mine.0 o)

  -- there is such a face
  pub some-face : (y : ℕ) × (y < 2 * edge_count g) × (len ≤ face_length g r y)
  some-face = elim (cases_eq len 0) [
    | inl e ↦ (0, first (edge_count g) (b.block.has_edge), least len (face_length g r 0) e)
    | inr e ↦ let w = sum-positive (2 * size) (λ y. chosen y && not (is_used links y)) weights (positive len (sum_of (2 * size) (λ y. chosen y && not (is_used links y)) weights) e left-top) in
        elim (cases_Bool (carrier.live w.0)) [
          | inl h ↦ (
            carrier.back w.0,
            carrier.renumbering.darts_back w.0 w.1 h,
            face-reached (carrier.back w.0) (carrier.renumbering.darts_back w.0 w.1 h)
                (ap (λ u. chosen u && not (is_used links u)) (carrier.renumbering.into_back w.0 w.1 h) ∙ w.2),
          )
          | inr h ↦ absurd (nothing (weights w.0) (left-live w.0 w.1 w.2 h) w.3)
        ]
  ]
    where
      first : (e : ℕ) → 0 < e → 0 < 2 * e
      first e p = omega (arith, p)

      least : (x y : ℕ) → x ≡ 0 → x ≤ y
      least x y e = omega (arith, e)

      positive : (x y : ℕ) → (x ≡ 0 → ⊥) → x ≤ y → 0 < y
      positive x y n p = omega (arith, n, p)

      nothing : (x : ℕ) → x ≡ 0 → 0 < x → ⊥
      nothing x e p = omega (arith, e, p)

-- the law
pub faces-fit : FacesFitTogether
faces-fit g nodes family r weight top len is_on on up rank b systems system follows plane ones heavy a = some-face g nodes b family systems r system follows plane weight ones heavy top len is_on on up rank a
