-- Two trees of one block, of which each link's side in the one is a link's side in the other: to each component of the one a
-- component of the other that has the same groups.
use Rattle.std.proofs.Common.{◌≡◌, ℕ, ◌<◌, ◌==◌, ◌&&◌, inl, inr, Bool, true, false, not, List, length, refl, sym, ap, ◌∙◌, subst}
use Rattle.std.proofs.lemmas.Bool.{cases_Bool, cases_eq, both_ways, and_from, and_parts, eq-eqb, ne_eqb, not-true, not_from_false, not_from_true, false_from_ne_true}
use Rattle.permutations.specs.Count.{some}
use Rattle.permutations.proofs.Search.{some-witness, some-none}
use Rattle.multigraph.specs.Graph.{Multigraph, edge_count}
use Rattle.graph_theory.specs.Block.{IsOneBlock}
use Rattle.pair_split.specs.Split.{item_at, is_beyond, side, LinksTo, IsSplit}
use Rattle.pair_split.specs.declared.components.Comp.{Comp}
use Rattle.pair_split.proofs.Groups.{what-cases, side-other}
use Rattle.pair_split.proofs.TreeSides.{link-back, beyond-other}
use Rattle.graph_theory.specs.Separation.{AreSameSide}
use Rattle.tree_unique.proofs.Toward.{sink}
use Rattle.tree_unique.proofs.Items.{place, place-in, place-any, place-link, place-real}
use Rattle.tree_unique.proofs.Away.{side-within, places-tell}

-- each side of a link of the second is one of a link of the first
abbrev pub HasSides : Multigraph → List Comp → List Comp → Type 0
HasSides g comps others = (x y : ℕ) → LinksTo others x y → (h i : ℕ) × LinksTo comps h i × AreSameSide g (side others x y) (side comps h i)

-- edges in one group of x are in one group of k
abbrev pub IsWithin : (g : Multigraph) (others : List Comp) → IsSplit g others → (x : ℕ) → x < length others → (comps : List Comp) → IsSplit g comps → (k : ℕ) → k < length comps → Type 0
IsWithin g others t x lx comps s k lk = (e f : ℕ) → e < edge_count g → f < edge_count g → place g others t x lx e ≡ place g others t x lx f → place g comps s k lk e ≡ place g comps s k lk f

module _ (g : Multigraph) (block : IsOneBlock g) (comps : List Comp) (s : IsSplit g comps) (others : List Comp) (t : IsSplit g others) (has : HasSides g comps others) (k : ℕ) (lk : k < length comps) where
  abbrev m : ℕ
  m = edge_count g

  abbrev pl : ℕ → ℕ
  pl e = place g comps s k lk e

  -- whether two edges of a side are of different groups of k
  abbrev differ : ℕ → ℕ → ℕ → ℕ → Bool
  differ x y e f = (side others x y e && side others x y f) && not (pl e == pl f)

  -- whether the side lies in one group
  abbrev is_one : ℕ → ℕ → Bool
  is_one x y = not (some m (λ e. some m (differ x y e)))

  one-from : (x y : ℕ) → ((e f : ℕ) → e < m → f < m → side others x y e ≡ true → side others x y f ≡ true → pl e ≡ pl f) → is_one x y ≡ true
  one-from x y h = not_from_false (some m (λ e. some m (differ x y e))) (false_from_ne_true (some m (λ e. some m (differ x y e))) (λ w.
      let e = some-witness m (λ e. some m (differ x y e)) w in
      let f = some-witness m (differ x y e.0) e.2 in
      let p = and_parts (side others x y e.0 && side others x y f.0) (not (pl e.0 == pl f.0)) f.2 in
      let q = and_parts (side others x y e.0) (side others x y f.0) p.0 in
      both_ways (pl e.0 == pl f.0) (not-true (pl e.0 == pl f.0) p.1) (eq-eqb (pl e.0) (pl f.0) (h e.0 f.0 e.1 f.1 q.0 q.1))))

  one-at : (x y : ℕ) → is_one x y ≡ true → (e f : ℕ) → e < m → f < m → side others x y e ≡ true → side others x y f ≡ true → pl e ≡ pl f
  one-at x y h e f b c i j = elim (cases_eq (pl e) (pl f)) [
    | inl q ↦ q
    | inr n ↦ absurd (both_ways (differ x y e f) (some-none m (differ x y e) (some-none m (λ e. some m (differ x y e)) (not-true (some m (λ e. some m (differ x y e))) h) e b) f c)
        (and_from (side others x y e && side others x y f) (not (pl e == pl f)) (and_from (side others x y e) (side others x y f) i j) (not_from_false (pl e == pl f) (ne_eqb (pl e) (pl f) n))))
  ]

  -- one of the two sides of each link does
  turn : (x y : ℕ) → LinksTo others x y → is_one x y ≡ false → is_one y x ≡ true
  turn x y l n =
      let w = has x y l in
      elim (cases_Bool (is_beyond comps w.0 w.1 k)) [
        | inr far ↦ absurd (both_ways (is_one x y) n (one-from x y (λ e f b c i j. side-within g block comps s k w.0 w.1 lk w.2 far e f b c (sym (w.3 e b) ∙ i) (sym (w.3 f c) ∙ j))))
        | inl near ↦
            let back : LinksTo comps w.1 w.0 = link-back comps s.linked w.0 w.1 w.2 in
            let far : is_beyond comps w.1 w.0 k ≡ false = beyond-other comps s.linked w.1 w.0 k back lk ∙ not_from_true (is_beyond comps w.0 w.1 k) near in
            let same : (e : ℕ) → e < m → side others y x e ≡ side comps w.1 w.0 e = λ e b.
            side-other g others t y x e (link-back others t.linked x y l) b ∙ ap not (w.3 e b) ∙ sym (side-other g comps s w.1 w.0 e back b) in
            one-from y x (λ e f b c i j. side-within g block comps s k w.1 w.0 lk back far e f b c (sym (same e b) ∙ i) (sym (same f c) ∙ j))
      ]

  -- so some component has all its groups within those of k
  pub within : (x : ℕ) × (lx : x < length others) × IsWithin g others t x lx comps s k lk
  within = let w = sink others t.linked is_one turn in (w.0, w.1, λ e f b c p. inside w.0 w.1 w.2 e f b c p)
    where
      inside : (x : ℕ) (lx : x < length others) → ((y : ℕ) → LinksTo others x y → is_one x y ≡ true) → (e f : ℕ) → e < m → f < m → place g others t x lx e ≡ place g others t x lx f → pl e ≡ pl f
      inside x lx all e f b c p = elim (what-cases (item_at others x (place g others t x lx f)).what) [
        | inl r ↦ ap pl (place-real g others t x lx (place g others t x lx f) e r.0 b p r.1 ∙ sym (place-real g others t x lx (place g others t x lx f) f r.0 c refl r.1))
        | inr r ↦
            let l : LinksTo others x r.0 = (place g others t x lx f, (place-in g others t x lx f c, r.1)) in
            one-at x r.0 (all r.0 l) e f b c (place-link g others t x lx r.0 e l b p) (place-link g others t x lx r.0 f l c refl)
      ]

-- components with the same groups
pub record HaveSameGroups (g : Multigraph) (comps : List Comp) (s : IsSplit g comps) (k : ℕ) (others : List Comp) (t : IsSplit g others) (x : ℕ) : Type 0 where
  pub first_in : k < length comps
  pub second_in : x < length others
  pub forth : IsWithin g comps s k first_in others t x second_in
  pub back : IsWithin g others t x second_in comps s k first_in

pub same-groups_back : (g : Multigraph) (comps : List Comp) (s : IsSplit g comps) (k : ℕ) (others : List Comp) (t : IsSplit g others) (x : ℕ) → HaveSameGroups g comps s k others t x → HaveSameGroups g others t x comps s k
same-groups_back g comps s k others t x h = record { first_in = h.second_in; second_in = h.first_in; forth = h.back; back = h.forth }

-- each component has one with the same groups in the other tree
pub match : (g : Multigraph) (block : IsOneBlock g) (comps : List Comp) (s : IsSplit g comps) (others : List Comp) (t : IsSplit g others) → HasSides g comps others → HasSides g others comps
    → (k : ℕ) → k < length comps → (x : ℕ) × HaveSameGroups g comps s k others t x
match g block comps s others t has back k lk =
    let x = within g block comps s others t has k lk in
    let y = within g block others t comps s back x.0 x.1 in
    let e : y.0 ≡ k = places-tell g block comps s y.0 k y.1 lk (λ e f b c p. x.2 e f b c (y.2 e f b c p)) in
    let all : (lk : k < length comps) × IsWithin g comps s k lk others t x.0 x.1 = subst (λ (z : ℕ). (lz : z < length comps) × IsWithin g comps s z lz others t x.0 x.1) e (y.1, y.2) in
    (x.0, record { first_in = lk; second_in = x.1; forth = λ e f b c p. all.1 e f b c (place-any g comps s k all.0 lk e b ∙ p ∙ place-any g comps s k lk all.0 f c); back = x.2 })
