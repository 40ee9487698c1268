-- In the tree of a block with three edges at a vertex some node is a bond or triconnected.
use Rattle.std.proofs.Common.{◌≡◌, ◌≢◌, ℕ, ◌<◌, ◌⊎◌, inl, inr, Bool, ◌==◌, ◌||◌, true, false, List, length, get_or, refl, sym, ap, ◌∙◌, subst, arith}
use Rattle.std.proofs.lemmas.Bool.{true≢false, cases_eq, cases_lt}
use Rattle.std.proofs.lemmas.List.{length-map, get_or-map}
use Rattle.multigraph.specs.Graph.{Multigraph, edge_count, ends_of, is_end}
use Rattle.pair_split.specs.Tutte.{Node, node_at, components, IsTutte}
use Rattle.pair_split.specs.Skeleton.{is_end_of, SameEnds, IsOfKind, IsPolygon, IsSmall}
use Rattle.pair_split.specs.Split.{component_at, items_of, item_at, piece_ends, skeleton, StandsFor}
use Rattle.pair_split.specs.declared.components.Kind.{Kind}
use Rattle.pair_split.specs.declared.components.Kind.TheVariants.{S, P, R, B}
use Rattle.std.proofs.Math.ListN.{get_or-eq_default}
use Rattle.pair_split.specs.declared.components.Comp.{Comp}
use Rattle.pair_split.specs.declared.components.What.{What}
use Rattle.pair_split.specs.declared.components.What.TheVariants.{Real, Link}
use Rattle.pair_split.proofs.NodeParts.{node-kind}
use Rattle.skeleton_runs.proofs.Sturdy.{polygon-two}
use Rattle.made_graph.specs.Laws.{HasFork}
use Rattle.made_summary.specs.Kinds.{NoneHasChoices}
use Rattle.pair_split.specs.Kinds.{has_choices}

-- a kind without choices
without-choices : (kind : Kind) → has_choices kind ≡ false → (kind ≡ S) ⊎ (kind ≡ B)
without-choices S h = inl refl
without-choices P h = absurd (true≢false h)
without-choices R h = absurd (true≢false h)
without-choices B h = inr refl

-- the edge that an item is
edge_in : What → ℕ
edge_in (Real e) = e
edge_in (Link j) = 0

-- three different numbers are not all below two
three-in-two : (i j k : ℕ) → i < 2 → j < 2 → k < 2 → i ≢ j → i ≢ k → j ≢ k → ⊥
three-in-two i j k a b c x y z = z (omega (arith, a, b, c, x, y))

-- a disjunction the other way round
or_swap : (a b : Bool) → (a || b) ≡ true → (b || a) ≡ true
or_swap true true h = refl
or_swap true false h = refl
or_swap false true h = refl
or_swap false false h = h

module _ (g : Multigraph) (nodes : List Node) (t : IsTutte g nodes) (none : NoneHasChoices nodes (length nodes)) where
  comps-long : length (components nodes) ≡ length nodes
  comps-long = length-map nodes _

  -- its kind
  kind-in : (k : ℕ) → k < length (components nodes) → ((node_at nodes k).kind ≡ S) ⊎ ((node_at nodes k).kind ≡ B)
  kind-in k l = without-choices (node_at nodes k).kind (none k (omega (arith, l, comps-long)))

  -- a component of one or two edges is alone
  alone : (k : ℕ) → k < length (components nodes) → (node_at nodes k).kind ≡ B → length (components nodes) ≡ 1
  alone k l h = t.split.of_kind.small_alone k l (node-kind nodes k ∙ h)

  -- so there is one component alone
  one : (k : ℕ) → k < length (components nodes) → k ≡ t.split.linked.tree.root
  one k l = elim (cases_eq k t.split.linked.tree.root) [
    | inl e ↦ e
    | inr n ↦
        let p = t.split.linked.tree.parent_in k l n in
        let r = t.split.linked.tree.root_in in
        elim (kind-in k l) [
          | inl a ↦ elim (kind-in (t.split.linked.tree.parent k) p) [
            | inl b ↦ absurd (t.no_polygons_joined k (t.split.linked.tree.parent k) (t.split.linked.tree.to_parent k l n) (node-kind nodes k ∙ a) (node-kind nodes (t.split.linked.tree.parent k) ∙ b))
            | inr b ↦ let s = alone (t.split.linked.tree.parent k) p b in omega (arith, s, l, r)
          ]
          | inr a ↦ let s = alone k l a in omega (arith, s, l, r)
        ]
  ]

  abbrev root : ℕ
  root = t.split.linked.tree.root

  abbrev skel : List (ℕ × ℕ)
  skel = skeleton (components nodes) root

  -- where an edge stands in it
  record Stands (e : ℕ) : Type 0 where
    place : ℕ
    stands : StandsFor (components nodes) root place (Real e)

  stands : (e : ℕ) → e < edge_count g → Stands e
  stands e l =
      let p = t.split.covers.present e l in
      let in_range : p.0 < length (components nodes) = inside p.0 p.1 p.2.0 in
      record { place = p.1; stands = subst (λ (k : ℕ). StandsFor (components nodes) k p.1 (Real e)) (one p.0 in_range) p.2 }
    where
      inside : (k i : ℕ) → i < length (items_of (components nodes) k) → k < length (components nodes)
      inside k i l = elim (cases_lt k (length (components nodes))) [
        | inl a ↦ a
        | inr a ↦ let e : length (items_of (components nodes) k) ≡ 0 = ap (λ (c : Comp). length c.items) (get_or-eq_default (components nodes) _ a) in omega (arith, l, e)
      ]

  -- it is an edge of the skeleton with its own ends
  place-in : (e : ℕ) (s : Stands e) → s.place < length skel
  place-in e s = omega (arith, s.stands.0, length-map (items_of (components nodes) root) piece_ends)

  place-end : (e v : ℕ) (s : Stands e) → is_end g v e ≡ true → is_end_of v (get_or skel s.place (0, 0)) ≡ true
  place-end e v s h = subst (λ (p : ℕ × ℕ). is_end_of v p ≡ true) (sym (get_or-map piece_ends (items_of (components nodes) root) s.place _ (0, 0) s.stands.0))
      (same (piece_ends (item_at (components nodes) root s.place)) (ends_of g e) (t.split.covers.edges e root s.place s.stands).1 h)
    where
      same : (p q : ℕ × ℕ) → SameEnds p q → is_end_of v q ≡ true → is_end_of v p ≡ true
      same p q m i = elim m [
        | inl a ↦ subst (λ (z : ℕ). ((z == v) || (p.1 == v)) ≡ true) (sym a.0) (subst (λ (z : ℕ). ((q.0 == v) || (z == v)) ≡ true) (sym a.1) i)
        | inr a ↦ subst (λ (z : ℕ). ((z == v) || (p.1 == v)) ≡ true) (sym a.0) (subst (λ (z : ℕ). ((q.1 == v) || (z == v)) ≡ true) (sym a.1) (or_swap (q.0 == v) (q.1 == v) i))
      ]

  -- different edges stand at different places
  apart : (e f : ℕ) (s : Stands e) (r : Stands f) → e ≢ f → s.place ≢ r.place
  unfolding edge_in
  apart e f s r n h = n (ap edge_in (sym s.stands.1 ∙ ap (λ i. (item_at (components nodes) root i).what) h ∙ r.stands.1))

  -- a polygon, or one or two edges, have no fork
  pub no-fork : HasFork g → ⊥
  no-fork f = elim (kind-in root t.split.linked.tree.root_in) [
    | inl a ↦ polygon (subst (λ kind. IsOfKind kind skel) (node-kind nodes root ∙ a) of_kind)
    | inr a ↦ small (subst (λ kind. IsOfKind kind skel) (node-kind nodes root ∙ a) of_kind)
  ]
    where
      of_kind : IsOfKind (component_at (components nodes) root).kind skel
      of_kind = (t.split.of_kind.kinds root t.split.linked.tree.root_in).of_kind

      first : Stands f.first
      first = stands f.first f.first_in

      second : Stands f.second
      second = stands f.second f.second_in

      third : Stands f.third
      third = stands f.third f.third_in

      polygon : IsPolygon skel → ⊥
      polygon p = elim (polygon-two skel f.vertex first.place second.place third.place p (place-in f.first first) (place-in f.second second) (place-in f.third third)
          (apart f.first f.second first second f.first_second) (place-end f.first f.vertex first f.first_there) (place-end f.second f.vertex second f.second_there) (place-end f.third f.vertex third f.third_there)) [
            | inl e ↦ apart f.first f.third first third f.first_third (sym e)
            | inr e ↦ apart f.second f.third second third f.second_third (sym e)
          ]

      small : IsSmall skel → ⊥
      small p =
          let a = place-in f.first first in
          let b = place-in f.second second in
          let c = place-in f.third third in
          let few = p.few in
          let x = apart f.first f.second first second f.first_second in
          let y = apart f.first f.third first third f.first_third in
          let z = apart f.second f.third second third f.second_third in
          three-in-two first.place second.place third.place (omega (arith, a, few)) (omega (arith, b, few)) (omega (arith, c, few)) x y z
