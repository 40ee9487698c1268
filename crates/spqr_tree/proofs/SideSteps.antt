-- The edges on the side of a link, one component further along the tree.
use Rattle.std.proofs.Common.{◌≡◌, ◌≢◌, ℕ, ◌<◌, ◌⊎◌, inl, inr, true, false, List, length, sym, ◌∙◌, subst}
use Rattle.std.proofs.lemmas.Bool.{cases_eq, both_ways, not_from_true, not_from_false}
use Rattle.multigraph.specs.Graph.{Multigraph, edge_count}
use Rattle.pair_split.specs.Split.{StandsFor, is_beyond, side, LinksTo, IsSplit}
use Rattle.pair_split.specs.declared.components.What.TheVariants.{Real}
use Rattle.pair_split.specs.declared.components.Comp.{Comp}
use Rattle.pair_split.proofs.Links.{stands-in}
use Rattle.pair_split.proofs.Groups.{side-at}
use Rattle.pair_split.proofs.Subtrees.{link-in}
use Rattle.pair_split.proofs.TreeSides.{link-back, beyond-far, beyond-other, beyond-apart, beyond-some}

module _ (g : Multigraph) (comps : List Comp) (s : IsSplit g comps) where
  -- the edges of component j are on the side of each link to j
  pub side-own : (k j i e : ℕ) → StandsFor comps j i (Real e) → side comps k j e ≡ true
  side-own k j i e a = side-at g comps s k j j i e a ∙ beyond-far comps s.linked k j

  -- so are those on the side of another link of j
  pub side-on : (k j h e : ℕ) → LinksTo comps k j → LinksTo comps j h → h ≢ k → e < edge_count g → side comps j h e ≡ true → side comps k j e ≡ true
  side-on k j h e l m n b t =
      let w = s.covers.present e b in
      let far : is_beyond comps j h w.0 ≡ true = sym (side-at g comps s j h w.0 w.1 e w.2) ∙ t in
      side-at g comps s k j w.0 w.1 e w.2 ∙ beyond-other comps s.linked k j w.0 l (stands-in comps w.0 w.1 (Real e) w.2)
      ∙ not_from_false (is_beyond comps j k w.0) (beyond-apart comps s.linked j h k w.0 m (link-back comps s.linked k j l) n far)

  -- and no others
  pub side-back : (k j e : ℕ) → LinksTo comps k j → e < edge_count g → side comps k j e ≡ true
      → ((i : ℕ) × StandsFor comps j i (Real e)) ⊎ ((h : ℕ) × LinksTo comps j h × (h ≢ k) × (side comps j h e ≡ true))
  side-back k j e l b t =
      let w = s.covers.present e b in
      let in_range : w.0 < length comps = stands-in comps w.0 w.1 (Real e) w.2 in
      elim (cases_eq w.0 j) [
        | inl q ↦ inl (w.1, subst (λ z. StandsFor comps z w.1 (Real e)) q w.2)
        | inr n ↦
            let d = beyond-some comps s.linked j w.0 (link-in comps s.linked k j l) in_range n in
            let near : is_beyond comps j k w.0 ≡ false = beyond-other comps s.linked j k w.0 (link-back comps s.linked k j l) in_range ∙ not_from_true (is_beyond comps k j w.0) (sym (side-at g comps s k j w.0 w.1 e w.2) ∙ t) in
            inr (d.0, d.1, (λ q. both_ways (is_beyond comps j k w.0) near (subst (λ z. is_beyond comps j z w.0 ≡ true) q d.2)), side-at g comps s j d.0 w.0 w.1 e w.2 ∙ d.2)
      ]
