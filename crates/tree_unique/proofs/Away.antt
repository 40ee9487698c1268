-- Two components of one tree: what is away from the one lies in one group of the other; so each side tells its link, and the
-- groups of a component tell it.
use Rattle.std.proofs.Common.{◌≡◌, ◌≢◌, ℕ, ◌<◌, inl, inr, true, false, List, length, sym, ap, ◌∙◌, subst}
use Rattle.std.proofs.lemmas.Bool.{cases_eq, both_ways}
use Rattle.multigraph.specs.Graph.{Multigraph, edge_count}
use Rattle.graph_theory.specs.Block.{IsOneBlock}
use Rattle.pair_split.specs.Split.{items_of, item_at, is_beyond, side, LinksTo, IsSplit}
use Rattle.pair_split.specs.Tutte.{has_in_group}
use Rattle.pair_split.specs.declared.components.Comp.{Comp}
use Rattle.pair_split.specs.declared.components.What.{What}
use Rattle.pair_split.specs.declared.components.What.TheVariants.{Real, Link}
use Rattle.pair_split.proofs.GraphFamily.{one_block-tight}
use Rattle.pair_split.proofs.LargeSides.{three-items, side-two}
use Rattle.pair_split.proofs.TreeSides.{link-from, beyond-apart, beyond-some}
use Rattle.graph_theory.specs.Separation.{AreSameSide}
use Rattle.graph_theory.proofs.Counting.{Two, two-others, third-other}
use Rattle.tree_unique.proofs.Toward.{toward}
use Rattle.tree_unique.proofs.Items.{place, index-in, chosen, chosen-in, link-place}

-- the number that an item names
abbrev pub number_of : What → ℕ
number_of (Real e) = e
number_of (Link j) = j

module _ (g : Multigraph) (block : IsOneBlock g) (comps : List Comp) (s : IsSplit g comps) where
  -- an edge of a place of y other than that of the link towards x is on the side where y is, as seen from x
  pub away : (x h y q r e : ℕ) → LinksTo comps x h → is_beyond comps x h y ≡ true → (b : LinksTo comps y q) → is_beyond comps y q x ≡ true → (ly : y < length comps) → r < length (items_of comps y) → r ≢ b.0
      → e < edge_count g → place g comps s y ly e ≡ r → side comps x h e ≡ true
  away x h y q r e l t b u ly lr n be p = toward g comps s x h y r e l t lr off be (subst (λ z. has_in_group comps y e (item_at comps y z).what ≡ true) p (index-in g comps s y ly e be).1)
    where
      off : (z : ℕ) → (item_at comps y r).what ≡ Link z → is_beyond comps y z x ≡ false
      off z w = elim (cases_eq q z) [
        | inl e ↦ absurd (n (s.linked.once y q r b.0 (lr, w ∙ ap Link (sym e)) b.1))
        | inr m ↦ beyond-apart comps s.linked y q z x b (r, (lr, w)) m u
      ]

  -- what is on the side of a link that leads away from k lies in one place of k
  pub side-within : (k h i : ℕ) (lk : k < length comps) → LinksTo comps h i → is_beyond comps h i k ≡ false → (e f : ℕ) → e < edge_count g → f < edge_count g → side comps h i e ≡ true → side comps h i f ≡ true
      → place g comps s k lk e ≡ place g comps s k lk f
  side-within k h i lk l n e f b c y z = elim (cases_eq k h) [
    | inl q ↦
        let m : LinksTo comps k i = subst (λ v. LinksTo comps v i) (sym q) l in
        link-place g comps s k lk i e m b (subst (λ v. side comps v i e ≡ true) (sym q) y) ∙ sym (link-place g comps s k lk i f m c (subst (λ v. side comps v i f ≡ true) (sym q) z))
    | inr q ↦
        let lh : h < length comps = link-from comps s.linked h i l in
        let w = beyond-some comps s.linked k h lk lh (λ p. q (sym p)) in
        let v = beyond-some comps s.linked h k lh lk q in
        let apart : l.0 ≢ (v.1).0 = λ p. both_ways (is_beyond comps h i k) n (subst (λ u. is_beyond comps h u k ≡ true)
        (ap number_of (sym ((v.1).1).1 ∙ ap (λ u. (item_at comps h u).what) (sym p) ∙ (l.1).1)) v.2) in
        let at : (d : ℕ) → d < edge_count g → side comps h i d ≡ true → place g comps s k lk d ≡ (w.1).0 = λ d bd t.
        link-place g comps s k lk w.0 d w.1 bd (away k w.0 h v.0 l.0 d w.1 w.2 v.1 v.2 lh (l.1).0 apart bd (link-place g comps s h lh i d l bd t)) in
        at e b y ∙ sym (at f c z)
  ]

  -- where the places of x are within places of y, the two are one
  pub places-tell : (x y : ℕ) (lx : x < length comps) (ly : y < length comps)
      → ((e f : ℕ) → e < edge_count g → f < edge_count g → place g comps s x lx e ≡ place g comps s x lx f → place g comps s y ly e ≡ place g comps s y ly f) → x ≡ y
  places-tell x y lx ly within = elim (cases_eq x y) [
    | inl e ↦ e
    | inr n ↦
        let v = beyond-some comps s.linked x y lx ly (λ p. n (sym p)) in
        let u = beyond-some comps s.linked y x ly lx n in
        let r = two-others (length (items_of comps y)) (u.1).0 (three-items g comps s (one_block-tight g block) y u.0 u.1) in
        let e = chosen-in g comps s y ly r.0 r.2 in
        let f = chosen-in g comps s y ly r.1 r.3 in
        let same : place g comps s x lx (chosen g comps s y ly r.0) ≡ place g comps s x lx (chosen g comps s y ly r.1) =
        link-place g comps s x lx v.0 (chosen g comps s y ly r.0) v.1 e.0 (away x v.0 y u.0 r.0 (chosen g comps s y ly r.0) v.1 v.2 u.1 u.2 ly r.2 r.5 e.0 e.1)
        ∙ sym (link-place g comps s x lx v.0 (chosen g comps s y ly r.1) v.1 f.0 (away x v.0 y u.0 r.1 (chosen g comps s y ly r.1) v.1 v.2 u.1 u.2 ly r.3 r.6 f.0 f.1)) in
        absurd (r.4 (sym e.1 ∙ within (chosen g comps s y ly r.0) (chosen g comps s y ly r.1) e.0 f.0 same ∙ f.1))
  ]

  -- links of one component with the same side are one
  same-from : (k j i : ℕ) (l : LinksTo comps k j) (m : LinksTo comps k i) → AreSameSide g (side comps k j) (side comps k i) → j ≡ i
  same-from k j i l m same =
      let lk : k < length comps = link-from comps s.linked k j l in
      let t : Two (edge_count g) (side comps k j) = side-two g comps s (one_block-tight g block) k j l in
      let p : l.0 ≡ m.0 = sym (link-place g comps s k lk j t.first l t.first_in t.first_on) ∙ link-place g comps s k lk i t.first m t.first_in (sym (same t.first t.first_in) ∙ t.first_on) in
      ap number_of (sym (l.1).1 ∙ ap (λ u. (item_at comps k u).what) p ∙ (m.1).1)

  -- links of different components do not have the same side
  apart-from : (k j h i : ℕ) (l : LinksTo comps k j) (m : LinksTo comps h i) → k ≢ h → AreSameSide g (side comps k j) (side comps h i) → ⊥
  apart-from k j h i l m n same = elim (cases_eq v.0 j) [
    | inl p ↦
        let r = third-other (length (items_of comps h)) m.0 (w.1).0 (three-items g comps s (one_block-tight g block) h i m) in
        let e = chosen-in g comps s h lh r.0 r.1 in
        let on : side comps k j (chosen g comps s h lh r.0) ≡ true = away k j h w.0 r.0 (chosen g comps s h lh r.0) l (subst (λ z. is_beyond comps k z h ≡ true) p v.2) w.1 w.2 lh r.1 r.3 e.0 e.1 in
        r.2 (sym e.1 ∙ link-place g comps s h lh i (chosen g comps s h lh r.0) m e.0 (sym (same (chosen g comps s h lh r.0) e.0) ∙ on))
    | inr q ↦ elim (cases_eq w.0 i) [
      | inl p ↦
          let r = third-other (length (items_of comps k)) l.0 (v.1).0 (three-items g comps s (one_block-tight g block) k j l) in
          let e = chosen-in g comps s k lk r.0 r.1 in
          let on : side comps h i (chosen g comps s k lk r.0) ≡ true = away h i k v.0 r.0 (chosen g comps s k lk r.0) m (subst (λ z. is_beyond comps h z k ≡ true) p w.2) v.1 v.2 lk r.1 r.3 e.0 e.1 in
          r.2 (sym e.1 ∙ link-place g comps s k lk j (chosen g comps s k lk r.0) l e.0 (same (chosen g comps s k lk r.0) e.0 ∙ on))
      | inr p ↦
          let t : Two (edge_count g) (side comps k j) = side-two g comps s (one_block-tight g block) k j l in
          let apart : l.0 ≢ (v.1).0 = λ d. q (ap number_of (sym ((v.1).1).1 ∙ ap (λ u. (item_at comps k u).what) (sym d) ∙ (l.1).1)) in
          let on : side comps h w.0 t.first ≡ true = away h w.0 k v.0 l.0 t.first w.1 w.2 v.1 v.2 lk (l.1).0 apart t.first_in (link-place g comps s k lk j t.first l t.first_in t.first_on) in
          let d : (w.1).0 ≡ m.0 = sym (link-place g comps s h lh w.0 t.first w.1 t.first_in on) ∙ link-place g comps s h lh i t.first m t.first_in (sym (same t.first t.first_in) ∙ t.first_on) in
          p (ap number_of (sym ((w.1).1).1 ∙ ap (λ u. (item_at comps h u).what) d ∙ (m.1).1))
    ]
  ]
    where
      lk : k < length comps
      lk = link-from comps s.linked k j l

      lh : h < length comps
      lh = link-from comps s.linked h i m

      v : (z : ℕ) × LinksTo comps k z × (is_beyond comps k z h ≡ true)
      v = beyond-some comps s.linked k h lk lh (λ p. n (sym p))

      w : (z : ℕ) × LinksTo comps h z × (is_beyond comps h z k ≡ true)
      w = beyond-some comps s.linked h k lh lk n

  -- so a side tells its link
  pub side-tells : (k j h i : ℕ) → LinksTo comps k j → LinksTo comps h i → AreSameSide g (side comps k j) (side comps h i) → (k ≡ h) × (j ≡ i)
  side-tells k j h i l m same = elim (cases_eq k h) [
    | inl e ↦ (e, same-from k j i l (subst (λ z. LinksTo comps z i) (sym e) m) (λ d b. same d b ∙ ap (λ z. side comps z i d) (sym e)))
    | inr n ↦ absurd (apart-from k j h i l m n same)
  ]
