-- A table that has what follows the last edge of each run of a group has what follows each item.
use Rattle.std.proofs.Common.{◌≡◌, ℕ, ◌+◌, ◌*◌, ◌/◌, ◌<◌, ◌==◌, inl, inr, true, List, length, get_or, slice_index_or, sym, ap, ◌∙◌, subst, arith, refl, eq-eqb, eqb-true}
use Rattle.std.proofs.lemmas.Bool.{cases_eq, or_cases, or_left, or_right}
use Rattle.std.proofs.lemmas.List.{get_or_default}
use Rattle.permutations.specs.Cyclic.{successor}
use Rattle.permutations.specs.Members.{is_member}
use Rattle.permutations.proofs.Chains.{chain-test}
use Rattle.multigraph.specs.Graph.{Multigraph, edge_count, ends_of, is_end}
use Rattle.multigraph.proofs.OtherEnd.{end-in}
use Rattle.rotations.specs.Rotation.{order_at}
use Rattle.faces.specs.Steps.{AreFaceSteps}
use Rattle.faces.proofs.DartLemmas.{dart_from-edge, order-distinct, order-member}
use Rattle.faces.proofs.FaceSteps.{face_step-first, face_step-second}
use Rattle.pair_split.specs.Tutte.{Node, components, node_item, has_in_group, group, IsTutte}
use Rattle.pair_split.specs.declared.components.What.TheVariants.{Real}
use Rattle.pair_split.proofs.Groups.{what-cases}
use Rattle.skeletons.specs.Items.{has_vertex}
use Rattle.skeletons.proofs.NodeItems.{item-edge, item-vertex, group-is, outside-edge}
use Rattle.skel_compose.specs.Homes.{IsHome, HasHomes}
use Rattle.skel_compose.proofs.Found.{home-is}
use Rattle.skel_compose.proofs.Walk.{order-edge_at}
use Rattle.skel_compose.specs.Followers.{IsItemEnd, follower, row_at, item_place, HasFollower}
use Rattle.skel_decompose.specs.Followers.{IsInRuns, IsStep, Keeps, IsLastOf, HasLast, HaveLasts}

module _ (g : Multigraph) (nodes : List Node) (r : List (List ℕ)) (d : IsInRuns g nodes r) where
  -- the home of an edge as it is read
  pub home-read : (homes : List (ℕ × ℕ)) → HasHomes g nodes (length nodes) 0 homes → (e : ℕ) → e < edge_count g → (x : ℕ × ℕ) → x ≡ slice_index_or homes e x → (x.0 < length nodes) × IsHome nodes x.0 x.1 e
  home-read homes h e l x q =
      let w = home-is g nodes d.block.tree homes e h l in
      let same : (w.0, w.1) ≡ x = sym w.4 ∙ get_or_default homes e (0, 0) x (subst (λ n. e < n) (sym h.each) l) ∙ sym q in
      (subst (λ (p : ℕ × ℕ). p.0 < length nodes) same w.2, subst (λ (p : ℕ × ℕ). IsHome nodes p.0 p.1 e) same w.3)

  -- the steps over both ends of an edge
  module _ (steps : List ℕ) (s : AreFaceSteps g r steps) (e : ℕ) (l : e < edge_count g) where
    pub step-first : IsStep g nodes r (ends_of g e).0 e (get_or steps (2 * e + 1) 0 / 2)
    step-first = record {
      runs = d;
      edge = l;
      end = or_left ((ends_of g e).0 == (ends_of g e).0) ((ends_of g e).1 == (ends_of g e).0) (eq-eqb (ends_of g e).0 (ends_of g e).0 refl);
      follows = ap (λ (x : ℕ). x / 2) (s.each (2 * e + 1) (omega arith) ∙ face_step-second g r e d.block.graph l) ∙ dart_from-edge g (ends_of g e).0 (successor (order_at r (ends_of g e).0) e);
    }

    pub step-second : IsStep g nodes r (ends_of g e).1 e (get_or steps (2 * e) 0 / 2)
    step-second = record {
      runs = d;
      edge = l;
      end = or_right ((ends_of g e).0 == (ends_of g e).1) ((ends_of g e).1 == (ends_of g e).1) (eq-eqb (ends_of g e).1 (ends_of g e).1 refl);
      follows = ap (λ (x : ℕ). x / 2) (s.each (2 * e) (omega arith) ∙ face_step-first g r e) ∙ dart_from-edge g (ends_of g e).1 (successor (order_at r (ends_of g e).1) e);
    }

  module _ (family : List (List (List ℕ))) where
    -- one edge more
    pub lasts-more : (n : ℕ) (old mid new : List (List ℕ)) → HaveLasts g nodes r family old n → Keeps nodes family old mid → HasLast nodes r family mid (ends_of g n).0 n → Keeps nodes family mid new → HasLast nodes r family new (ends_of g n).1 n
        → HaveLasts g nodes r family new (n + 1)
    lasts-more n old mid new lasts one first two second x v l t j i last = elim (cases_eq x n) [
      | inr o ↦ two j i v last.place (one j i v last.place (lasts x v (omega (arith, l, o)) t j i last))
      | inl q ↦ own v (subst (λ z. is_end g v z ≡ true) q t) j i (subst (λ z. IsLastOf nodes r v z j i) q last)
    ]
      where
        own : (u : ℕ) → is_end g u n ≡ true → HasLast nodes r family new u n
        own u t = elim (or_cases ((ends_of g n).0 == u) ((ends_of g n).1 == u) t) [
          | inl q ↦ subst (λ z. HasLast nodes r family new z n) (eqb-true (ends_of g n).0 u q) (λ j i m. two j i (ends_of g n).0 m.place (first j i m))
          | inr q ↦ subst (λ z. HasLast nodes r family new z n) (eqb-true (ends_of g n).1 u q) second
        ]

    -- so each item has what follows it: else no edge of the item would be the last of its run, and it would have all edges of the vertex
    module _ (table : List (List ℕ)) (lasts : HaveLasts g nodes r family table (edge_count g)) (k i v : ℕ) (place : IsItemEnd nodes k i v) where
      abbrev t : IsTutte g nodes
      t = d.block.tree

      abbrev key : ℕ
      key = (node_item nodes k i).key

      has : has_vertex nodes k v ≡ true
      has = item-vertex g nodes t k v i place.is_node place.is_item place.end

      x : (e : ℕ) × (e < edge_count g) × (is_end g v e ≡ true) × (has_in_group (components nodes) k e (node_item nodes k i).what ≡ true)
      x = item-edge g nodes t k v i place.is_item place.end

      own : group nodes k x.0 ≡ key
      own = group-is g nodes t k i x.0 place.is_item x.1 x.3

      module _ (missing : HasFollower nodes family table k i v → ⊥) where
        stays : (z : ℕ) → is_member z (order_at r v) ≡ true → (group nodes k z == key) ≡ true → (group nodes k (successor (order_at r v) z) == key) ≡ true
        stays z n q = elim (cases_eq (group nodes k (successor (order_at r v) z)) key) [
          | inl s ↦ eq-eqb (group nodes k (successor (order_at r v) z)) key s
          | inr s ↦
              let y = order-edge_at g r v z d.system (end-in g v x.0 d.block.graph x.1 x.2) n in
              absurd (missing (lasts z v y.0 y.1 k i (record { place = place; own = eqb-true (group nodes k z) key q; apart = λ u. absurd (s u) })))
        ]

        whole : (z : ℕ) → z < edge_count g → is_end g v z ≡ true → group nodes k z ≡ key
        whole z l end =
            let lv : v < g.vertex_count = end-in g v x.0 d.block.graph x.1 x.2 in
            eqb-true (group nodes k z) key (chain-test (λ y. group nodes k y == key) (order_at r v) (order-distinct g r v d.system lv) stays x.0 z
            (order-member g r v x.0 d.system lv x.1 x.2) (order-member g r v z d.system lv l end) (eq-eqb (group nodes k x.0) key own))

        none : ⊥
        none = elim (what-cases (node_item nodes k i).what) [
          | inr w ↦ let f = outside-edge g nodes t k i w.0 v place.is_item w.1 has in f.3 (whole f.0 f.1 f.2)
          | inl w ↦
              let same : w.0 ≡ x.0 = eqb-true w.0 x.0 (sym (ap (has_in_group (components nodes) k x.0) w.1) ∙ x.3) in
              missing (lasts x.0 v x.1 x.2 k i (record { place = place; own = own; apart = λ u. w.1 ∙ ap (λ z. Real z) same }))
        ]

      pub all-followed : HasFollower nodes family table k i v
      all-followed = elim (cases_eq (slice_index_or (row_at table k) (item_place nodes k i v) 0) (follower nodes family k i v)) [
        | inl q ↦ q
        | inr missing ↦ absurd (none missing)
      ]
