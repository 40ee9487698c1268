-- Split components put together to groups, and these numbered and written in another order, are split components.
use Rattle.std.proofs.Common.{◌≡◌, ℕ, ◌<◌, ◌==◌, ◌&&◌, Bool, not, cond, List, length, map, refl, sym, ap, ◌∙◌, subst}
use Rattle.std.proofs.lemmas.Bool.{eq-eqb, eqb-true}
use Rattle.permutations.proofs.Relation.{same-tests}
use Rattle.permutations.proofs.Sums.{sum_below-ext}
use Rattle.multigraph.specs.Graph.{Multigraph}
use Rattle.pair_split.specs.Skeleton.{IsSkeleton}
use Rattle.pair_split.specs.Split.{component_at, items_of, item_at, piece_ends, skeleton, AreLinked, IsSplit}
use Rattle.pair_split.specs.declared.components.What.{What}
use Rattle.pair_split.specs.declared.components.What.TheVariants.{Real, Link}
use Rattle.pair_split.specs.declared.components.Piece.{Piece}
use Rattle.pair_split.specs.declared.components.Comp.{Comp}
use Rattle.pair_split.proofs.Links.{no_piece}
use Rattle.pair_split.proofs.Subtrees.{link-in}
use Rattle.spqr_tree.specs.Merged.{how_many, is_outer, gathered, IsJoined, AreGroups, redirect, IsSymmetric, AreRearranged}
use Rattle.spqr_tree.proofs.MergeCounts.{number-map, number-within, share}
use Rattle.spqr_tree.proofs.MergeItems.{IsContraction}
use Rattle.spqr_tree.proofs.MergedSplit.{contracted-split}
use Rattle.spqr_tree.proofs.RearrangedKinds.{AreAlike, alike-skeleton}

module _ (comps : List Comp) (a : AreLinked comps) (lead π : ℕ → ℕ) (groups others : List Comp) (grouped : AreGroups comps lead groups) (r : AreRearranged lead π groups others) where
  -- where a component goes
  abbrev pub placed : ℕ → ℕ
  placed x = π (lead x)

  -- a component goes to the place of a group just where it is in the group
  placed-same : (k x : ℕ) → k < length groups → x < length comps → (lead x == k) ≡ (placed x == π k)
  placed-same k x l m = same-tests (lead x == k) (placed x == π k) (λ h. eq-eqb (placed x) (π k) (ap π (eqb-true (lead x) k h))) (λ h. eq-eqb (lead x) k (r.differ (lead x) k (grouped.into x m) l (eqb-true (placed x) (π k) h)))

  -- the same pieces are gathered
  placed-gathered : (k : ℕ) (t : Piece → Bool) → k < length groups → gathered comps lead k t ≡ gathered comps placed (π k) t
  placed-gathered k t l = sum_below-ext (length comps) (share comps lead k t) (share comps placed (π k) t) (λ x m.
      ap (λ (b : Bool). cond b (how_many (λ p. is_outer lead k p.what && t p) (items_of comps x)) 0) (placed-same k x l m)
      ∙ ap (λ z. cond (placed x == π k) z 0) (number-within no_piece (λ p. is_outer lead k p.what && t p) (λ p. is_outer placed (π k) p.what && t p) (items_of comps x) (λ i n. ap (λ (b : Bool). b && t (item_at comps x i)) (outer x i n (item_at comps x i).what refl))))
    where
      outer : (x i : ℕ) → i < length (items_of comps x) → (w : What) → (item_at comps x i).what ≡ w → is_outer lead k (item_at comps x i).what ≡ is_outer placed (π k) (item_at comps x i).what
      outer x i n (Real e) q = ap (is_outer lead k) q ∙ sym (ap (is_outer placed (π k)) q)
      outer x i n (Link j) q = ap (is_outer lead k) q ∙ ap not (placed-same k j l (link-in comps a x j (i, (n, q)))) ∙ sym (ap (is_outer placed (π k)) q)

  -- the groups in their new order are a contraction of the components
  pub rearranged-contraction : IsContraction comps placed others
  rearranged-contraction = record { into = into; onto = onto; joined = joined; pieces = pieces }
    where
      -- the group at a place
      group : (h : ℕ) → h < length others → (k : ℕ) × (k < length groups) × (π k ≡ h)
      group h l = r.onto h (subst (λ z. h < z) r.number l)

      into : (x : ℕ) → x < length comps → placed x < length others
      into x l = subst (λ z. placed x < z) (sym r.number) (r.into (lead x) (grouped.into x l))

      onto : (h : ℕ) → h < length others → (x : ℕ) × (x < length comps) × (placed x ≡ h)
      onto h l = let k = group h l in let m = (grouped.each k.0 k.1).member in (m.0, m.1, ap π m.2 ∙ k.2)

      joined : (h : ℕ) → h < length others → IsJoined comps placed h
      joined h l t q x y lx ly ex ey =
          let k = group h l in
          let back : (z : ℕ) → z < length comps → placed z ≡ h → lead z ≡ k.0 = λ z lz ez. r.differ (lead z) k.0 (grouped.into z lz) k.1 (ez ∙ sym k.2) in
          (grouped.each k.0 k.1).joined t (λ u v s fu fv. q u v s (ap π fu ∙ k.2) (ap π fv ∙ k.2)) x y lx ly (back x lx ex) (back y ly ey)

      pieces : (h : ℕ) (t : Piece → Bool) → h < length others → IsSymmetric t → how_many t (items_of others h) ≡ gathered comps placed h (λ p. t (redirect placed p))
      pieces h t l s = let k = group h l in subst (λ z. how_many t (items_of others z) ≡ gathered comps placed z (λ p. t (redirect placed p))) k.2
          (r.pieces k.0 t k.1 s ∙ (grouped.each k.0 k.1).gathers (λ p. t (redirect placed p)) ∙ placed-gathered k.0 (λ p. t (redirect placed p)) k.1)

  -- a node is of the kind of its group
  pub rearranged-skeleton : (h : ℕ) → h < length others → IsSkeleton (component_at others h).kind (skeleton others h)
  rearranged-skeleton h l =
      let k = r.onto h (subst (λ z. h < z) r.number l) in
      subst (λ z. IsSkeleton (component_at others z).kind (skeleton others z)) k.2 (subst (λ z. IsSkeleton z (skeleton others (π k.0))) (sym (r.kinds k.0 k.1))
      (alike-skeleton (map piece_ends (items_of groups k.0)) (skeleton others (π k.0)) (alike k.0 k.1) (component_at groups k.0).kind (grouped.each k.0 k.1).of_kind))
    where
      alike : (k : ℕ) → k < length groups → AreAlike (map piece_ends (items_of groups k)) (skeleton others (π k))
      alike k m t e = number-map piece_ends t (items_of others (π k)) ∙ r.pieces k (λ p. t (piece_ends p)) m (λ x y w. e x y) ∙ sym (number-map piece_ends t (items_of groups k))

  -- its kind is that of its components
  pub placed-kind : (x : ℕ) → x < length comps → (component_at others (placed x)).kind ≡ (component_at comps x).kind
  placed-kind x l = r.kinds (lead x) (grouped.into x l) ∙ sym ((grouped.each (lead x) (grouped.into x l)).kinds x l refl)

-- the groups of split components, numbered and written in another order, are split components
pub rearranged-split : (g : Multigraph) (comps : List Comp) (lead π : ℕ → ℕ) (groups others : List Comp) → IsSplit g comps → AreGroups comps lead groups → AreRearranged lead π groups others → IsSplit g others
rearranged-split g comps lead π groups others split grouped r =
    contracted-split g comps split (placed comps split.linked lead π groups others grouped r) others (rearranged-contraction comps split.linked lead π groups others grouped r)
    (placed-kind comps split.linked lead π groups others grouped r) (rearranged-skeleton comps split.linked lead π groups others grouped r)
