-- The walk in the tree from an edge to the one that follows it round a vertex.
use Rattle.std.proofs.Common.{◌≡◌, ◌≢◌, ℕ, ◌+◌, ◌<◌, inl, inr, true, false, List, length, refl, sym, ap, ◌∙◌, subst, arith, eqb-true}
use Rattle.std.proofs.lemmas.Bool.{cases_eq, both_ways, false_from_ne_true, not_from_false, not_from_true}
use Rattle.permutations.specs.Count.{count}
use Rattle.permutations.specs.Members.{is_member, is_distinct}
use Rattle.permutations.specs.Cyclic.{successor}
use Rattle.permutations.proofs.Arrangements.{permutation-member}
use Rattle.permutations.proofs.Count.{count-within, count-positive, count-less}
use Rattle.permutations.proofs.Successor.{successor-member}
use Rattle.multigraph.specs.Graph.{Multigraph, edge_count, ends_of, is_end, incident_edges}
use Rattle.multigraph.proofs.OtherEnd.{end-in}
use Rattle.rotations.specs.Rotation.{order_at, IsRotationSystem}
use Rattle.rotations.proofs.Membership.{member-edge, member-end}
use Rattle.faces.proofs.DartLemmas.{order-distinct, order-member}
use Rattle.pair_split.specs.Split.{piece_ends, item_at, is_beyond, side, LinksTo, StandsFor, IsSplit, AreLinked}
use Rattle.pair_split.specs.Tutte.{Node, components, node_at, node_item, has_in_group, group, IsTutte}
use Rattle.pair_split.specs.declared.components.Comp.{Comp}
use Rattle.pair_split.specs.declared.components.What.TheVariants.{Real, Link}
use Rattle.pair_split.proofs.Groups.{same-end, side-other, in_group-real}
use Rattle.pair_split.proofs.Subtrees.{link-in}
use Rattle.pair_split.proofs.TreeSides.{beyond-near, beyond-far}
use Rattle.skeletons.specs.Items.{ends_item, has_vertex, IsBlockTree}
use Rattle.skeletons.specs.Families.{system_at, AreSkeletonSystems, keys_in, FollowsFamily}
use Rattle.skeletons.proofs.KeyRuns.{order-successor}
use Rattle.skeletons.proofs.NodeItems.{number, comp-in, node-in, stands-of, ends-at, keys-once, group-is, group-item, item-vertex, edge-end, group-at, key-edge}
use Rattle.skeletons.proofs.Places.{keys-round_members}
use Rattle.skeletons.proofs.Towards.{side-group, group-side, link-vertex, beyond-falls}
use Rattle.skeleton_planes.proofs.Complements.{follows-itself}

-- the walk from edge e round v towards the edge that follows it has come to item i of node k: e is in the item's group, the item
-- that follows it in the family is the one with the edge that follows e, and that is another item, or e itself is the item
pub record LeadsOn (nodes : List Node) (family : List (List (List ℕ))) (v e next k i : ℕ) : Type 0 where
  pub is_node : k < length nodes
  pub is_item : i < length (node_at nodes k).items
  pub end : ends_item v (node_item nodes k i) ≡ true
  pub own : group nodes k e ≡ (node_item nodes k i).key
  pub behind : successor (keys_in nodes family k v) (node_item nodes k i).key ≡ group nodes k next
  pub apart : group nodes k next ≡ (node_item nodes k i).key → (node_item nodes k i).what ≡ Real e

-- after so many links the nodes that are still beyond the next one are few
pub record IsNear (nodes : List Node) (next k steps : ℕ) : Type 0 where
  pub more : steps < length nodes
  pub near : (x : ℕ) → LinksTo (components nodes) k x → side (components nodes) k x next ≡ true → count (length (components nodes)) (is_beyond (components nodes) k x) + steps < length nodes

-- and back
pub order-edge_at : (g : Multigraph) (r : List (List ℕ)) (v e : ℕ) → IsRotationSystem g r → v < g.vertex_count → is_member e (order_at r v) ≡ true → (e < edge_count g) × (is_end g v e ≡ true)
order-edge_at g r v e s lv m =
    let i : is_member e (incident_edges g v) ≡ true = sym (permutation-member (incident_edges g v) (order_at r v) e (s.orders v lv).arranged) ∙ m in
    (member-edge g v e i, member-end g v e i)

module _ (g : Multigraph) (nodes : List Node) (b : IsBlockTree g nodes) (family : List (List (List ℕ))) (f : AreSkeletonSystems nodes family)
    (r : List (List ℕ)) (s : IsRotationSystem g r) (follows : FollowsFamily nodes family r) (v e : ℕ) (le : e < edge_count g) (ve : is_end g v e ≡ true) where
  abbrev comps : List Comp
  comps = components nodes

  abbrev t : IsTutte g nodes
  t = b.tree

  abbrev split : IsSplit g comps
  split = t.split

  abbrev linked : AreLinked comps
  linked = split.linked

  abbrev round : List ℕ
  round = order_at r v

  abbrev next : ℕ
  next = successor (order_at r v) e

  lv : v < g.vertex_count
  lv = end-in g v e b.graph le ve

  once : is_distinct (order_at r v) ≡ true
  once = order-distinct g r v s lv

  member : is_member e (order_at r v) ≡ true
  member = order-member g r v e s lv le ve

  next-edge : (next < edge_count g) × (is_end g v next ≡ true)
  next-edge = order-edge_at g r v next s lv (successor-member round e member)

  -- where the groups of e and of the next edge differ, the one follows the other
  differ : (k : ℕ) → has_vertex nodes k v ≡ true → group nodes k next ≢ group nodes k e → group nodes k next ≡ successor (keys_in nodes family k v) (group nodes k e)
  differ k h n = order-successor (group nodes k) round (keys_in nodes family k v) e once (follows k v h) member n

  -- where e is alone, its group is
  single : (k : ℕ) → k < length nodes → has_vertex nodes k v ≡ true → next ≡ e → successor (keys_in nodes family k v) (group nodes k e) ≡ group nodes k e
  single k d h q = sym x.3 ∙ ap (group nodes k) (follows-itself round e once member q x.0 (order-member g r v x.0 s lv x.1 x.2))
    where
      keys : List ℕ
      keys = keys_in nodes family k v

      there : is_member (group nodes k e) (keys_in nodes family k v) ≡ true
      there = keys-round_members g nodes t k d (system_at family k) v (group nodes k e) (f.systems k d) h ∙ group-at g nodes t k v e h le ve

      x : (y : ℕ) × (y < edge_count g) × (is_end g v y ≡ true) × (group nodes k y ≡ successor (keys_in nodes family k v) (group nodes k e))
      x = key-edge g nodes t k v (successor (keys_in nodes family k v) (group nodes k e))
          (sym (keys-round_members g nodes t k d (system_at family k) v (successor (keys_in nodes family k v) (group nodes k e)) (f.systems k d) h) ∙ successor-member (keys_in nodes family k v) (group nodes k e) there)

  -- the walk starts at the item that is e
  pub starts : (k i : ℕ) → k < length nodes → i < length (node_at nodes k).items → (node_item nodes k i).what ≡ Real e → LeadsOn nodes family v e next k i
  starts k i d l w = record {
    is_node = d;
    is_item = l;
    end = end;
    own = own;
    behind = elim (cases_eq (group nodes k next) (group nodes k e)) [
      | inr n ↦ ap (successor (keys_in nodes family k v)) (sym own) ∙ sym (differ k h n)
      | inl q ↦
          let same : next ≡ e = sym (eqb-true e next (sym (ap (has_in_group comps k next) w) ∙ group-item g nodes t k i next d l next-edge.0 (q ∙ own))) in
          ap (successor (keys_in nodes family k v)) (sym own) ∙ single k d h same ∙ sym q
    ];
    apart = λ q. w;
  }
    where
      stands : StandsFor comps k i (Real e)
      stands = stands-of g nodes t k i (Real e) l w

      end : ends_item v (node_item nodes k i) ≡ true
      end = sym (ends-at g nodes t k i v l) ∙ same-end (piece_ends (item_at comps k i)) (ends_of g e) v (split.covers.edges e k i stands).1 ve

      h : has_vertex nodes k v ≡ true
      h = item-vertex g nodes t k v i d l end

      own : group nodes k e ≡ (node_item nodes k i).key
      own = group-is g nodes t k i e l le (in_group-real g comps split k e (node_item nodes k i).what w)

  -- at a node on the way
  module _ (k i p : ℕ) (on : LeadsOn nodes family v e next k i) (lp : p < length (node_at nodes k).items) (kp : (node_item nodes k p).key ≡ successor (keys_in nodes family k v) (node_item nodes k i).key) where
    -- the next edge is in the group of the item behind
    ahead : group nodes k next ≡ (node_item nodes k p).key
    ahead = sym on.behind ∙ sym kp

    -- if the item behind is an edge, it is the next one
    pub arrives : (x : ℕ) → (node_item nodes k p).what ≡ Real x → x ≡ next
    arrives x w = eqb-true x next (sym (ap (has_in_group comps k next) w) ∙ group-item g nodes t k p next on.is_node lp next-edge.0 ahead)

    -- if it is a link, the walk goes on at the link back
    module _ (j q : ℕ) (ep : ends_item v (node_item nodes k p) ≡ true) (w : (node_item nodes k p).what ≡ Link j) (lq : q < length (node_at nodes j).items) (wq : (node_item nodes j q).what ≡ Link k) where
      link : LinksTo comps k j
      link = (p, stands-of g nodes t k p (Link j) lp w)

      back : LinksTo comps j k
      back = (q, stands-of g nodes t j q (Link k) lq wq)

      dj : j < length nodes
      dj = node-in g nodes t j (link-in comps linked k j link)

      -- e isn't beyond it
      near-side : side comps k j e ≡ false
      near-side = false_from_ne_true (side comps k j e) (λ z.
          let same : i ≡ p = keys-once g nodes t k i p on.is_item lp (sym on.own ∙ side-group g nodes t k p j e on.is_node lp w le z) in
          let real : (node_item nodes k i).what ≡ Real e = on.apart (ahead ∙ ap (λ y. (node_item nodes k y).key) (sym same)) in
          no-both (sym real ∙ ap (λ y. (node_item nodes k y).what) same ∙ w))
        where
          no-both : Real e ≡ Link j → ⊥
          no-both z = absurd (cc)

      -- the next edge is
      far-side : side comps k j next ≡ true
      far-side = group-side g nodes t k p j next on.is_node lp w next-edge.0 ahead

      far-back : side comps j k next ≡ false
      far-back = side-other g comps split j k next back next-edge.0 ∙ not_from_true (side comps k j next) far-side

      own-back : group nodes j e ≡ (node_item nodes j q).key
      own-back = side-group g nodes t j q k e dj lq wq le (side-other g comps split j k e back le ∙ not_from_false (side comps k j e) near-side)

      other : group nodes j next ≢ (node_item nodes j q).key
      other z = both_ways (side comps j k next) far-back (group-side g nodes t j q k next dj lq wq next-edge.0 z)

      has : has_vertex nodes j v ≡ true
      has = link-vertex g nodes t k p j v lp w ep

      pub goes-on : LeadsOn nodes family v e next j q
      goes-on = record {
        is_node = dj;
        is_item = lq;
        end = edge-end g nodes t j v q e has lq le ve (group-item g nodes t j q e dj lq le own-back);
        own = own-back;
        behind = ap (successor (keys_in nodes family j v)) (sym own-back) ∙ sym (differ j has (λ z. other (z ∙ own-back)));
        apart = λ z. absurd (other z);
      }

      -- and nearer
      pub near-next : (steps : ℕ) → IsNear nodes next k steps → IsNear nodes next j (steps + 1)
      near-next steps n =
          let here = n.near j link far-side in
          let some : 0 < count (length comps) (is_beyond comps k j) = count-positive (length comps) (is_beyond comps k j) j (comp-in g nodes t j dj) (beyond-far comps linked k j) in
          record {
            more = omega (arith, here, some);
            near = λ x m z.
                let apart : x ≢ k = λ y. both_ways (side comps j k next) far-back (subst (λ u. side comps j u next ≡ true) y z) in
                let fewer = beyond-falls g nodes t k j x link m apart in
                omega (arith, here, fewer);
          }

  -- at the start all nodes but one are beyond a link at most
  pub near-start : (k : ℕ) → k < length nodes → IsNear nodes next k 0
  near-start k d = record {
    more = omega (arith, d);
    near = λ x m z.
        let less = count-less (length comps) (is_beyond comps k x) (λ y. true) k (λ y a c. refl) (comp-in g nodes t k d) (beyond-near comps linked k x m) refl in
        omega (arith, less, count-within (length comps) (λ y. true), number g nodes t);
  }
