-- A vertex of a component has an edge on each side of a link on which the component is.
use Rattle.std.proofs.Common.{◌≡◌, ℕ, ◌<◌, ◌==◌, ◌||◌, inl, inr, Bool, true, not, List, length, refl, sym, ap, ◌∙◌, subst, arith}
use Rattle.std.proofs.lemmas.Bool.{cases_Bool, both_ways}
use Rattle.multigraph.specs.Graph.{Multigraph, edge_count, ends_of, is_end}
use Rattle.graph_theory.specs.Side.{IsCommon}
use Rattle.pair_split.specs.Skeleton.{is_end_of, SameEnds}
use Rattle.pair_split.specs.Split.{items_of, item_at, piece_ends, StandsFor, is_beyond, side, LinksTo, IsSplit}
use Rattle.pair_split.specs.declared.components.What.{What}
use Rattle.pair_split.specs.declared.components.What.TheVariants.{Real, Link}
use Rattle.pair_split.specs.declared.components.Comp.{Comp}
use Rattle.pair_split.proofs.Links.{side-home, stands-in}
use Rattle.pair_split.proofs.TreeSides.{beyond-near, beyond-other}
use Rattle.pair_split.proofs.LinkSides.{other-cases, beyond-respects, beyond-within}

-- the ends of one pair are those of another
pub ends-same : (p q : ℕ × ℕ) (v : ℕ) → SameEnds p q → is_end_of v p ≡ is_end_of v q
ends-same p q v (inl w) = rw (w.0, w.1) refl
ends-same p q v (inr w) = rw (w.0, w.1) (swap (q.1 == v) (q.0 == v))
  where
    swap : (a b : Bool) → (a || b) ≡ (b || a)
    swap a b = grind (arith, cases_Bool a, cases_Bool b)

module _ (g : Multigraph) (comps : List Comp) (split : IsSplit g comps) where
  -- an edge is on the far side of a link where its component is
  pub side-where : (k j x i e : ℕ) → StandsFor comps x i (Real e) → side comps k j e ≡ is_beyond comps k j x
  side-where k j x i e s = side-home comps k j x i e s (λ d f t. (split.covers.once e d f x i t s).0)

  -- the two sides of a link, seen from the one and from the other
  pub side-opposite : (k j e : ℕ) → LinksTo comps k j → e < edge_count g → side comps k j e ≡ not (side comps j k e)
  side-opposite k j e s l =
      let h = split.covers.present e l in
      side-where k j h.0 h.1 e h.2 ∙ beyond-other comps split.linked k j h.0 s (stands-in comps h.0 h.1 (Real e) h.2) ∙ ap not (sym (side-where j k h.0 h.1 e h.2))

  -- an edge at v on the far side
  pub record Touches (k j v : ℕ) : Type 0 where
    pub edge : ℕ
    pub below : edge < edge_count g
    pub end : is_end g v edge ≡ true
    pub beyond : side comps k j edge ≡ true

  -- an edge of one side of another link, that lies within the far side
  touches-within : (k j v : ℕ) (t : ℕ → Bool) → ((d : ℕ) → d < length comps → t d ≡ true → is_beyond comps k j d ≡ true)
      → (e : ℕ) → e < edge_count g → is_end g v e ≡ true → ((x i : ℕ) → StandsFor comps x i (Real e) → t x ≡ true) → Touches k j v
  touches-within k j v t w e l h p =
      let s = split.covers.present e l in
      record { edge = e; below = l; end = h; beyond = side-where k j s.0 s.1 e s.2 ∙ w s.0 (stands-in comps s.0 s.1 (Real e) s.2) (p s.0 s.1 s.2) }

  -- an end of an item of a component on the far side of a link has an edge there
  pub touches : (k j x i v : ℕ) → LinksTo comps k j → is_beyond comps k j x ≡ true → i < length (items_of comps x) → is_end_of v (piece_ends (item_at comps x i)) ≡ true → Touches k j v
  touches k j x i v s b l h = go (item_at comps x i).what refl
    where
      link-item : (y : ℕ) → StandsFor comps x i (Link y) → Touches k j v
      link-item y w = elim (other-cases k j x y) [
        | inl n ↦ elim (cases_Bool (is_beyond comps x y k)) [
          | inr f ↦ touches-within k j v (is_beyond comps x y) (beyond-within comps split.linked k j x y s (i, w) n b (is_beyond comps x y) (beyond-respects comps split.linked x y) f)
              common.inside common.inside_edge common.inside_end (λ d f t. sym (side-where x y d f common.inside t) ∙ common.inside_side)
          | inl t ↦ touches-within k j v (λ d. not (is_beyond comps x y d)) (beyond-within comps split.linked k j x y s (i, w) n b (λ d. not (is_beyond comps x y d)) (λ a c u m. ap not (beyond-respects comps split.linked x y a c u m)) (ap not t))
              common.outside common.outside_edge common.outside_end (λ d f t. ap not (sym (side-where x y d f common.outside t) ∙ common.outside_side))
        ]
        | inr c ↦ elim c [
          | inl p ↦ absurd (both_ways (is_beyond comps k j x) (ap (is_beyond comps k j) p.0 ∙ beyond-near comps split.linked k j s) b)
          | inr p ↦ touches-within k j v (λ d. not (is_beyond comps x y d)) (λ d l t. beyond-other comps split.linked k j d s l ∙ subst (λ z. not (is_beyond comps z k d) ≡ true) p.0 (subst (λ z. not (is_beyond comps x z d) ≡ true) p.1 t))
              common.outside common.outside_edge common.outside_end (λ d f t. ap not (sym (side-where x y d f common.outside t) ∙ common.outside_side))
        ]
      ]
        where
          common : IsCommon g (side comps x y) v
          common = (split.sides_meet x y i w v).1 h

      go : (what : What) → (item_at comps x i).what ≡ what → Touches k j v
      go (Real e) q = let c = split.covers.edges e x i (l, q) in
          record { edge = e; below = c.0; end = sym (ends-same (piece_ends (item_at comps x i)) (ends_of g e) v c.1) ∙ h; beyond = side-where k j x i e (l, q) ∙ b }
      go (Link y) q = link-item y (l, q)
