-- The group of an item of a component: at which vertices of the component it has edges, and what it joins.
use Rattle.std.proofs.Common.{◌≡◌, ◌≢◌, ℕ, zero, suc, ◌<◌, ◌⊎◌, ◌==◌, inl, inr, Bool, true, false, List, [], ◌∷◌, length, slice_index_or, sym, ◌∙◌, subst, arith}
use Rattle.std.proofs.lemmas.Bool.{cases_eq, both_ways, or_cases, or_left, or_right, eqb-true, true≢false}
use Rattle.std.proofs.lemmas.List.{get_or-map, length-map}
use Rattle.std.proofs.lemmas.List.Elements.{All-get_or}
use Rattle.permutations.specs.Members.{is_member}
use Rattle.permutations.proofs.Members.{member-head, member-tail, member-cases}
use Rattle.multigraph.specs.Graph.{Multigraph, edge_count, is_end, other_end, IsGraph}
use Rattle.multigraph.proofs.OtherEnd.{other_end-is_end}
use Rattle.graph_theory.specs.Block.{IsOneBlock}
use Rattle.graph_theory.specs.Path.{walk_vertices, IsWalk}
use Rattle.graph_theory.proofs.Walks.{walk-edge}
use Rattle.pair_split.specs.Skeleton.{is_end_of, is_vertex}
use Rattle.pair_split.specs.Split.{items_of, item_at, piece_ends, skeleton, IsSplit}
use Rattle.pair_split.specs.Tutte.{has_in_group}
use Rattle.pair_split.specs.declared.components.Comp.{Comp}
use Rattle.pair_split.specs.declared.components.What.TheVariants.{Real}
use Rattle.pair_split.proofs.Groups.{group-some, group-common, Touched, end-touched}
use Rattle.pair_split.proofs.LargeSides.{vertex-item}
use Rattle.graph_theory.specs.Joined.{joined_where, avoiding, PathWhere}
use Rattle.skeleton_runs.proofs.Reach.{reach, reach-both, reach-path}

-- an item with the two ends u and v has them as its pair
pub ends-are : (ends : ℕ × ℕ) (u v : ℕ) → u ≢ v → is_end_of u ends ≡ true → is_end_of v ends ≡ true → ((ends.0 ≡ u) × (ends.1 ≡ v)) ⊎ ((ends.0 ≡ v) × (ends.1 ≡ u))
ends-are ends u v n h i = elim (or_cases (ends.0 == u) (ends.1 == u) h) [
  | inl a ↦ elim (or_cases (ends.0 == v) (ends.1 == v) i) [
    | inl b ↦ absurd (n (sym (eqb-true ends.0 u a) ∙ eqb-true ends.0 v b))
    | inr b ↦ inl (eqb-true ends.0 u a, eqb-true ends.1 v b)
  ]
  | inr a ↦ elim (or_cases (ends.0 == v) (ends.1 == v) i) [
    | inl b ↦ inr (eqb-true ends.0 v b, eqb-true ends.1 u a)
    | inr b ↦ absurd (n (sym (eqb-true ends.1 u a) ∙ eqb-true ends.1 v b))
  ]
]

-- and no other
pub ends-two : (ends : ℕ × ℕ) (u v w : ℕ) → u ≢ v → is_end_of u ends ≡ true → is_end_of v ends ≡ true → is_end_of w ends ≡ true → (w ≡ u) ⊎ (w ≡ v)
ends-two ends u v w n h i j = elim (ends-are ends u v n h i) [
  | inl a ↦ elim (or_cases (ends.0 == w) (ends.1 == w) j) [ inl b ↦ inl (sym (eqb-true ends.0 w b) ∙ a.0) | inr b ↦ inr (sym (eqb-true ends.1 w b) ∙ a.1) ]
  | inr a ↦ elim (or_cases (ends.0 == w) (ends.1 == w) j) [ inl b ↦ inr (sym (eqb-true ends.0 w b) ∙ a.0) | inr b ↦ inl (sym (eqb-true ends.1 w b) ∙ a.1) ]
]

-- an end of the edge at a place of a skeleton is a vertex of it
pub place-vertex : (skel : List (ℕ × ℕ)) (i v : ℕ) → i < length skel → is_end_of v (slice_index_or skel i (0, 0)) ≡ true → is_vertex skel v ≡ true
place-vertex [] i v l h = absurd (omega (arith, l))
place-vertex (ends ∷ skel) zero v l h = or_left (is_end_of v ends) (is_vertex skel v) h
place-vertex (ends ∷ skel) (suc i) v l h = or_right (is_end_of v ends) (is_vertex skel v) (place-vertex skel i v (omega (arith, l)) h)

-- a vertex of a walk is where it begins, or an end of one of its edges
pub met-edge_end : (g : Multigraph) (x : ℕ) (es : List ℕ) → IsWalk g x es → (w : ℕ) → is_member w (walk_vertices g x es) ≡ true → (w ≡ x) ⊎ ((e : ℕ) × (is_member e es ≡ true) × (is_end g w e ≡ true))
met-edge_end g x [] k w m = elim (member-cases w x [] m) [ inl q ↦ inl (sym q) | inr n ↦ absurd (true≢false (sym n)) ]
met-edge_end g x (e ∷ es) k w m = elim (member-cases w x (walk_vertices g (other_end g e x) es) m) [
  | inl q ↦ inl (sym q)
  | inr n ↦ elim (met-edge_end g (other_end g e x) es k.1 w n) [
    | inl q ↦ inr (e, member-head e es, subst (λ z. is_end g z e ≡ true) (sym q) (other_end-is_end g e x))
    | inr f ↦ inr (f.0, member-tail f.0 e es f.1, f.2)
  ]
]

module _ (g : Multigraph) (comps : List Comp) (s : IsSplit g comps) where
  -- whether an edge is in the group of item i of component k
  abbrev pub in_item : ℕ → ℕ → ℕ → Bool
  in_item k i e = has_in_group comps k e (item_at comps k i).what

  -- the edge at a place of the skeleton is the item's
  pub skeleton-at : (k i : ℕ) → i < length (items_of comps k) → slice_index_or (skeleton comps k) i (0, 0) ≡ piece_ends (item_at comps k i)
  skeleton-at k i l = get_or-map piece_ends (items_of comps k) i (record { a = 0; b = 0; what = Real 0 }) (0, 0) l

  pub skeleton-in : (k i : ℕ) → i < length (items_of comps k) → i < length (skeleton comps k)
  skeleton-in k i l = subst (λ z. i < z) (sym (length-map (items_of comps k) piece_ends)) l

  pub in-skeleton : (k i : ℕ) → i < length (skeleton comps k) → i < length (items_of comps k)
  in-skeleton k i l = subst (λ z. i < z) (length-map (items_of comps k) piece_ends) l

  -- an end of an item is a vertex of the component
  pub item-vertex : (k i v : ℕ) → i < length (items_of comps k) → is_end_of v (piece_ends (item_at comps k i)) ≡ true → is_vertex (skeleton comps k) v ≡ true
  item-vertex k i v l h = place-vertex (skeleton comps k) i v (skeleton-in k i l) (subst (λ z. is_end_of v z ≡ true) (sym (skeleton-at k i l)) h)

  -- the two ends of an item differ
  pub item-ends_differ : (k i : ℕ) → k < length comps → i < length (items_of comps k) → (item_at comps k i).a ≢ (item_at comps k i).b
  item-ends_differ k i l m = subst (λ (z : ℕ × ℕ). z.0 ≢ z.1) (skeleton-at k i m) (All-get_or (λ (z : ℕ × ℕ). z.0 ≢ z.1) (skeleton comps k) i (0, 0) (skeleton-in k i m) (s.of_kind.kinds k l).no_loops)

  -- a vertex of the component at which the group has an edge is an end of the item
  pub item-at : (k i e v : ℕ) → is_vertex (skeleton comps k) v ≡ true → i < length (items_of comps k) → e < edge_count g → is_end g v e ≡ true → in_item k i e ≡ true → is_end_of v (piece_ends (item_at comps k i)) ≡ true
  item-at k i e v x l b h m =
      let j = vertex-item (items_of comps k) v x in
      elim (cases_eq i j.0) [
        | inl q ↦ subst (λ z. is_end_of v (piece_ends (item_at comps k z)) ≡ true) (sym q) j.2
        | inr n ↦ let f : Touched g comps s k j.0 v = end-touched g comps s k j.0 v j.1 j.2 in
            group-common g comps s k i j.0 e f.edge v l j.1 n b f.edge_in m f.in_group h f.end
      ]

  -- a vertex with an edge in the group and one outside is an end of the item
  pub item-meet : (k i e f v : ℕ) → k < length comps → i < length (items_of comps k) → e < edge_count g → f < edge_count g → is_end g v e ≡ true → is_end g v f ≡ true
      → in_item k i e ≡ true → in_item k i f ≡ false → is_end_of v (piece_ends (item_at comps k i)) ≡ true
  item-meet k i e f v l li le lf he hf me mf =
      let j = group-some g comps s k f l lf in
      group-common g comps s k i j.0 e f v li j.1 (λ q. both_ways (in_item k i f) mf (subst (λ z. in_item k z f ≡ true) (sym q) j.2)) le lf me j.2 he hf

  -- an item of a block's component, with its ends u and v
  module _ (ok : IsGraph g) (block : IsOneBlock g) (k i u v : ℕ) (k_in : k < length comps) (i_in : i < length (items_of comps k)) (differ : u ≢ v)
      (first : is_end_of u (piece_ends (item_at comps k i)) ≡ true) (second : is_end_of v (piece_ends (item_at comps k i)) ≡ true) where
    meet : (w e f : ℕ) → e < edge_count g → f < edge_count g → is_end g w e ≡ true → is_end g w f ≡ true → in_item k i e ≡ true → in_item k i f ≡ false → (w ≡ u) ⊎ (w ≡ v)
    meet w e f le lf he hf me mf = ends-two (piece_ends (item_at comps k i)) u v w differ first second (item-meet k i e f w k_in i_in le lf he hf me mf)

    at_first : Touched g comps s k i u
    at_first = end-touched g comps s k i u i_in first

    at_second : Touched g comps s k i v
    at_second = end-touched g comps s k i v i_in second

    -- what the group touches, other than u, reaches v by edges of the group without the end u
    pub item-reach : (e z : ℕ) → e < edge_count g → is_end g z e ≡ true → in_item k i e ≡ true → z ≢ u → joined_where g (avoiding g u (in_item k i)) z v ≡ true
    item-reach = reach g ok block (in_item k i) u v differ meet at_second.edge at_second.edge_in at_second.end at_second.in_group

    -- the group joins the two ends of its item
    pub item-joined : joined_where g (in_item k i) u v ≡ true
    item-joined = reach-both g ok block (in_item k i) u v differ meet at_second.edge at_second.edge_in at_second.end at_second.in_group at_first.edge at_first.edge_in at_first.end at_first.in_group

    -- by a path
    pub item-path : PathWhere g (in_item k i) u v
    item-path = reach-path g ok block (in_item k i) u v differ meet at_second.edge at_second.edge_in at_second.end at_second.in_group at_first.edge at_first.edge_in at_first.end at_first.in_group

  -- which meets no other vertex of the component
  pub item-path_vertex : (k i u v : ℕ) → i < length (items_of comps k) → is_end_of u (piece_ends (item_at comps k i)) ≡ true → (p : PathWhere g (in_item k i) u v)
      → (w : ℕ) → is_member w (walk_vertices g u p.along) ≡ true → is_vertex (skeleton comps k) w ≡ true → is_end_of w (piece_ends (item_at comps k i)) ≡ true
  item-path_vertex k i u v l h p w m x = elim (met-edge_end g u p.along p.path.walk w m) [
    | inl q ↦ subst (λ z. is_end_of z (piece_ends (item_at comps k i)) ≡ true) (sym q) h
    | inr f ↦ item-at k i f.0 w x l (walk-edge g u p.along p.path.walk f.0 f.1) f.2 (p.passes f.0 f.1)
  ]
