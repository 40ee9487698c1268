-- The edges of a block, by the place of the item of one component in whose group they are.
use Rattle.std.proofs.Common.{◌≡◌, ◌≢◌, ℕ, zero, suc, ◌<◌, ◌⊎◌, ◌==◌, inl, inr, Bool, true, false, List, [], ◌∷◌, length, slice_index_or, refl, sym, ap, ◌∙◌, subst, arith}
use Rattle.std.proofs.lemmas.Bool.{both_ways, or_cases, or_left, or_right, eq-eqb, eqb-true}
use Rattle.std.proofs.lemmas.List.{get_or-map, length-map}
use Rattle.std.proofs.lemmas.List.Elements.{All-get_or}
use Rattle.permutations.specs.Count.{least}
use Rattle.permutations.proofs.Search.{some-from, least-below, least-passes}
use Rattle.multigraph.specs.Graph.{Multigraph, edge_count, is_end}
use Rattle.pair_split.specs.Skeleton.{is_end_of, SameEnds, is_vertex}
use Rattle.pair_split.specs.Split.{items_of, item_at, piece_ends, skeleton, side, LinksTo, IsSplit}
use Rattle.pair_split.specs.Tutte.{has_in_group}
use Rattle.pair_split.specs.declared.components.Comp.{Comp}
use Rattle.pair_split.specs.declared.components.What.{What}
use Rattle.pair_split.specs.declared.components.What.TheVariants.{Real, Link}
use Rattle.pair_split.proofs.Links.{no_piece}
use Rattle.pair_split.proofs.Groups.{group-cases, group-some, group-common, in_group-link, in_group-real, Touched, end-touched}
use Rattle.pair_split.proofs.LargeSides.{vertex-item}
use Rattle.pair_split.proofs.SkeletonFamily.{group_index, index-is}

-- an end of a pair
pub end-cases : (v : ℕ) (ends : ℕ × ℕ) → is_end_of v ends ≡ true → (v ≡ ends.0) ⊎ (v ≡ ends.1)
end-cases v ends h = elim (or_cases (ends.0 == v) (ends.1 == v) h) [ inl a ↦ inl (sym (eqb-true ends.0 v a)) | inr a ↦ inr (sym (eqb-true ends.1 v a)) ]

pub first-end : (ends : ℕ × ℕ) → is_end_of ends.0 ends ≡ true
first-end ends = or_left (ends.0 == ends.0) (ends.1 == ends.0) (eq-eqb ends.0 ends.0 refl)

pub second-end : (ends : ℕ × ℕ) → is_end_of ends.1 ends ≡ true
second-end ends = or_right (ends.0 == ends.1) (ends.1 == ends.1) (eq-eqb ends.1 ends.1 refl)

-- of two different ends each end is one
pub end-of_two : (ends : ℕ × ℕ) (c d v : ℕ) → c ≢ d → is_end_of c ends ≡ true → is_end_of d ends ≡ true → is_end_of v ends ≡ true → (v ≡ c) ⊎ (v ≡ d)
end-of_two ends c d v n x y z = pick (end-cases c ends x) (end-cases d ends y) (end-cases v ends z)
  where
    pick : (c ≡ ends.0) ⊎ (c ≡ ends.1) → (d ≡ ends.0) ⊎ (d ≡ ends.1) → (v ≡ ends.0) ⊎ (v ≡ ends.1) → (v ≡ c) ⊎ (v ≡ d)
    pick a b e = grind (arith, n, a, b, e)

-- pairs with the same two different ends
pub same-pairs : (p q : ℕ × ℕ) (c d : ℕ) → c ≢ d → is_end_of c p ≡ true → is_end_of d p ≡ true → is_end_of c q ≡ true → is_end_of d q ≡ true → SameEnds p q
same-pairs p q c d n x y z w = pick (end-cases c p x) (end-cases d p y) (end-cases c q z) (end-cases d q w)
  where
    pick : (c ≡ p.0) ⊎ (c ≡ p.1) → (d ≡ p.0) ⊎ (d ≡ p.1) → (c ≡ q.0) ⊎ (c ≡ q.1) → (d ≡ q.0) ⊎ (d ≡ q.1) → SameEnds p q
    pick (inl a) (inl b) e f = absurd (n (a ∙ sym b))
    pick (inr a) (inr b) e f = absurd (n (a ∙ sym b))
    pick (inl a) (inr b) (inl e) (inl f) = absurd (n (e ∙ sym f))
    pick (inl a) (inr b) (inr e) (inr f) = absurd (n (e ∙ sym f))
    pick (inl a) (inr b) (inl e) (inr f) = inl (sym a ∙ e, sym b ∙ f)
    pick (inl a) (inr b) (inr e) (inl f) = inr (sym a ∙ e, sym b ∙ f)
    pick (inr a) (inl b) (inl e) (inl f) = absurd (n (e ∙ sym f))
    pick (inr a) (inl b) (inr e) (inr f) = absurd (n (e ∙ sym f))
    pick (inr a) (inl b) (inl e) (inr f) = inr (sym b ∙ f, sym a ∙ e)
    pick (inr a) (inl b) (inr e) (inl f) = inl (sym b ∙ f, sym a ∙ e)

-- an end of a pair of a skeleton is a vertex
pub pair-vertex : (skel : List (ℕ × ℕ)) (i v : ℕ) → i < length skel → is_end_of v (slice_index_or skel i (0, 0)) ≡ true → is_vertex skel v ≡ true
pair-vertex [] i v l h = absurd (omega (arith, l))
pair-vertex (ends ∷ skel) zero v l h = or_left (is_end_of v ends) (is_vertex skel v) h
pair-vertex (ends ∷ skel) (suc i) v l h = or_right (is_end_of v ends) (is_vertex skel v) (pair-vertex skel i v (omega (arith, l)) h)

-- whether v is an end of item i of component k
abbrev pub is_at : List Comp → ℕ → ℕ → ℕ → Bool
is_at comps k i v = is_end_of v (piece_ends (item_at comps k i))

-- the pairs of the skeleton are the ends of the items
pub skeleton-at : (comps : List Comp) (k i : ℕ) → i < length (items_of comps k) → slice_index_or (skeleton comps k) i (0, 0) ≡ piece_ends (item_at comps k i)
skeleton-at comps k i l = get_or-map piece_ends (items_of comps k) i no_piece (0, 0) l

pub skeleton-length : (comps : List Comp) (k : ℕ) → length (skeleton comps k) ≡ length (items_of comps k)
skeleton-length comps k = length-map (items_of comps k) piece_ends

pub at-vertex : (comps : List Comp) (k i v : ℕ) → i < length (items_of comps k) → is_at comps k i v ≡ true → is_vertex (skeleton comps k) v ≡ true
at-vertex comps k i v l h = pair-vertex (skeleton comps k) i v (omega (arith, l, skeleton-length comps k)) (subst (λ (z : ℕ × ℕ). is_end_of v z ≡ true) (sym (skeleton-at comps k i l)) h)

pub vertex-at : (comps : List Comp) (k v : ℕ) → is_vertex (skeleton comps k) v ≡ true → (i : ℕ) × (i < length (items_of comps k)) × (is_at comps k i v ≡ true)
vertex-at comps k v h = vertex-item (items_of comps k) v h

module _ (g : Multigraph) (comps : List Comp) (s : IsSplit g comps) (k : ℕ) (l : k < length comps) where
  abbrev size : ℕ
  size = length (items_of comps k)

  -- the place of an edge: that of the item in whose group it is
  abbrev pub place : ℕ → ℕ
  place e = group_index g comps s k l e

  pub index-in : (e : ℕ) → e < edge_count g → (place e < size) × (has_in_group comps k e (item_at comps k (place e)).what ≡ true)
  index-in e b =
      let w = group-some g comps s k e l b in
      subst (λ z. (z < size) × (has_in_group comps k e (item_at comps k z).what ≡ true)) (sym (index-is g comps s k l e w.0 b w.1 w.2)) (w.1, w.2)

  pub place-in : (e : ℕ) → e < edge_count g → place e < size
  place-in e b = (index-in e b).0

  -- the two ends of an item differ
  pub ends-differ : (i : ℕ) → i < size → (piece_ends (item_at comps k i)).0 ≢ (piece_ends (item_at comps k i)).1
  ends-differ i b = subst (λ (z : ℕ × ℕ). z.0 ≢ z.1) (skeleton-at comps k i b) (All-get_or (λ (z : ℕ × ℕ). z.0 ≢ z.1) (skeleton comps k) i (0, 0) (omega (arith, b, skeleton-length comps k)) (s.of_kind.kinds k l).no_loops)

  -- an end of an item, and the other one
  pub other-end : (i p : ℕ) → i < size → is_at comps k i p ≡ true → (y : ℕ) × (y ≢ p) × ((v : ℕ) → is_at comps k i v ≡ true → (v ≡ p) ⊎ (v ≡ y))
  other-end i p b h = elim (end-cases p (piece_ends (item_at comps k i)) h) [
    | inl e ↦ ((piece_ends (item_at comps k i)).1, (λ q. ends-differ i b (sym (q ∙ e))), λ v t. elim (end-cases v (piece_ends (item_at comps k i)) t) [ inl f ↦ inl (f ∙ sym e) | inr f ↦ inr f ])
    | inr e ↦ ((piece_ends (item_at comps k i)).0, (λ q. ends-differ i b (q ∙ e)), λ v t. elim (end-cases v (piece_ends (item_at comps k i)) t) [ inl f ↦ inr f | inr f ↦ inl (f ∙ sym e) ])
  ]

  -- an edge of a place with a given end
  pub record PlaceAt (i v : ℕ) : Type 0 where
    pub edge : ℕ
    pub edge_in : edge < edge_count g
    pub end : is_end g v edge ≡ true
    pub place_is : place edge ≡ i

  -- each end of an item is an end of an edge of its place
  pub at-edge : (i v : ℕ) → i < size → is_at comps k i v ≡ true → PlaceAt i v
  at-edge i v b h =
      let t : Touched g comps s k i v = end-touched g comps s k i v b h in
      record { edge = t.edge; edge_in = t.edge_in; end = t.end; place_is = index-is g comps s k l t.edge i t.edge_in b t.in_group }

  -- a vertex with edges of two places is an end of both items
  pub edges-at : (e f v : ℕ) → e < edge_count g → f < edge_count g → place e ≢ place f → is_end g v e ≡ true → is_end g v f ≡ true → is_at comps k (place e) v ≡ true
  edges-at e f v b c n x y =
      let i = index-in e b in
      let h = index-in f c in
      group-common g comps s k (place e) (place f) e f v i.0 h.0 n b c i.1 h.1 x y

  pub edges-at_place : (i e f v : ℕ) → e < edge_count g → f < edge_count g → place e ≡ i → place f ≢ i → is_end g v e ≡ true → is_end g v f ≡ true → is_at comps k i v ≡ true
  edges-at_place i e f v b c p n x y = subst (λ z. is_at comps k z v ≡ true) p (edges-at e f v b c (λ q. n (sym q ∙ p)) x y)

  -- an edge of each place
  pub some-edge : (i : ℕ) → i < size → PlaceAt i (piece_ends (item_at comps k i)).0
  some-edge i b = at-edge i (piece_ends (item_at comps k i)).0 b (first-end (piece_ends (item_at comps k i)))

  abbrev pub chosen : ℕ → ℕ
  chosen i = least (edge_count g) (λ e. place e == i)

  pub chosen-in : (i : ℕ) → i < size → (chosen i < edge_count g) × (place (chosen i) ≡ i)
  chosen-in i b =
      let w = some-edge i b in
      let h = some-from (edge_count g) (λ e. place e == i) w.edge w.edge_in (eq-eqb (place w.edge) i w.place_is) in
      (least-below (edge_count g) (λ e. place e == i) h, eqb-true (place (chosen i)) i (least-passes (edge_count g) (λ e. place e == i) h))

  -- the place of the edges beyond a link is the link's
  pub link-place : (j e : ℕ) → (w : LinksTo comps k j) → e < edge_count g → side comps k j e ≡ true → place e ≡ w.0
  link-place j e w b h = index-is g comps s k l e w.0 b (w.1).0 (in_group-link g comps s k j e (item_at comps k w.0).what (w.1).1 ∙ h)

  pub place-link : (j e : ℕ) → (w : LinksTo comps k j) → e < edge_count g → place e ≡ w.0 → side comps k j e ≡ true
  place-link j e w b h = sym (in_group-link g comps s k j e (item_at comps k w.0).what (w.1).1) ∙ subst (λ z. has_in_group comps k e (item_at comps k z).what ≡ true) h (index-in e b).1

  -- the one edge of an edge's item
  pub place-real : (i e f : ℕ) → e < edge_count g → place e ≡ i → (item_at comps k i).what ≡ Real f → e ≡ f
  place-real i e f b h q = eq (group-cases g comps s k e (Real f) (subst (λ (w : What). has_in_group comps k e w ≡ true) q (subst (λ z. has_in_group comps k e (item_at comps k z).what ≡ true) h (index-in e b).1)))
    where
      number : What → ℕ
      number (Real e) = e
      number (Link j) = j

      kind : What → Bool
      kind (Real e) = true
      kind (Link j) = false

      eq : (Real f ≡ Real e) ⊎ ((j : ℕ) × (Real f ≡ Link j) × (side comps k j e ≡ true)) → e ≡ f
      eq (inl r) = sym (ap number r)
      eq (inr r) = absurd (both_ways false refl (sym (ap kind r.1)))

  -- the place of the edge that an item stands for
  pub real-place : (i f : ℕ) → i < size → (item_at comps k i).what ≡ Real f → (f < edge_count g) × (place f ≡ i)
  real-place i f b q = let c = (s.covers.edges f k i (b, q)).0 in (c, index-is g comps s k l f i c b (in_group-real g comps s k f (item_at comps k i).what q))

-- the place does not depend on how the component is known to be one
pub place-any : (g : Multigraph) (comps : List Comp) (s : IsSplit g comps) (k : ℕ) (l m : k < length comps) (e : ℕ) → e < edge_count g → place g comps s k l e ≡ place g comps s k m e
place-any g comps s k l m e b = index-is g comps s k l e (place g comps s k m e) b (index-in g comps s k m e b).0 (index-in g comps s k m e b).1
