-- Seen from one component, all of another one but what lies on the way back is beyond one link; and a walk along links comes to
-- its end.
use Rattle.std.proofs.Common.{◌≡◌, ◌≢◌, ℕ, zero, suc, ◌<◌, inl, inr, Bool, true, false, not, List, length, refl, sym, ap, ◌∙◌, subst, arith}
use Rattle.std.proofs.lemmas.Bool.{cases_Bool, cases_lt, both_ways, not_from_false, not-true}
use Rattle.permutations.specs.Count.{count, some}
use Rattle.permutations.proofs.Count.{count-same}
use Rattle.permutations.proofs.Search.{some-from, some-witness}
use Rattle.multigraph.specs.Graph.{Multigraph, edge_count}
use Rattle.pair_split.specs.Split.{items_of, item_at, is_beyond, side, LinksTo, AreLinked, IsSplit}
use Rattle.pair_split.specs.Tutte.{has_in_group}
use Rattle.pair_split.specs.declared.components.Comp.{Comp}
use Rattle.pair_split.specs.declared.components.What.{What}
use Rattle.pair_split.specs.declared.components.What.TheVariants.{Real, Link}
use Rattle.pair_split.proofs.Links.{stands-in}
use Rattle.pair_split.proofs.Subtrees.{link-in}
use Rattle.pair_split.proofs.Groups.{side-at, group-cases}
use Rattle.pair_split.proofs.TreeSides.{link-back, beyond-far, beyond-near, beyond-apart}
use Rattle.pair_split.proofs.LinkSides.{IsOther, beyond-respects, beyond-within}

module _ (comps : List Comp) (a : AreLinked comps) where
  -- what is beyond a link that leads away from x, from a component beyond another link of x, is beyond that one
  pub beyond-nest : (x h y z d : ℕ) → LinksTo comps x h → LinksTo comps y z → is_beyond comps x h y ≡ true → is_beyond comps y z x ≡ false → d < length comps → is_beyond comps y z d ≡ true → is_beyond comps x h d ≡ true
  beyond-nest x h y z d s w b f l p = beyond-within comps a x h y z s w other b (is_beyond comps y z) (beyond-respects comps a y z) f d l p
    where
      other : IsOther x h y z
      other = (
        (λ e i. both_ways (is_beyond comps x h x) (beyond-near comps a x h s) (subst (λ v. is_beyond comps x h v ≡ true) e b)),
        (λ e i. both_ways (is_beyond comps y z x) f (subst (λ v. is_beyond comps y v x ≡ true) (sym i) (beyond-far comps a y x))),
      )

  -- a walk along links that leads away from where it comes from ends, at a component of which no link is to be followed
  pub sink : (good : ℕ → ℕ → Bool) → ((k j : ℕ) → LinksTo comps k j → good k j ≡ false → good j k ≡ true)
      → (k : ℕ) × (k < length comps) × ((j : ℕ) → LinksTo comps k j → good k j ≡ true)
  sink good turn = elim (cases_Bool (leaves a.tree.root)) [
    | inr n ↦ (a.tree.root, a.tree.root_in, stays a.tree.root n)
    | inl y ↦ let w = leaving a.tree.root y in walk (suc (count (length comps) (is_beyond comps a.tree.root w.0))) a.tree.root w.0 w.1 (turn a.tree.root w.0 w.1 w.2) (omega arith)
  ]
    where
      -- whether an item of component k is a link to be followed
      follows : ℕ → What → Bool
      follows k (Real e) = false
      follows k (Link j) = not (good k j)

      leaves : ℕ → Bool
      leaves k = some (length (items_of comps k)) (λ i. follows k (item_at comps k i).what)

      followed : (k : ℕ) (what : What) → follows k what ≡ true → (j : ℕ) × (what ≡ Link j) × (good k j ≡ false)
      followed k (Real e) h = absurd (both_ways false refl h)
      followed k (Link j) h = (j, refl, not-true (good k j) h)

      leaving : (k : ℕ) → leaves k ≡ true → (j : ℕ) × LinksTo comps k j × (good k j ≡ false)
      leaving k h =
          let i = some-witness (length (items_of comps k)) (λ i. follows k (item_at comps k i).what) h in
          let w = followed k (item_at comps k i.0).what i.2 in
          (w.0, (i.0, (i.1, w.1)), w.2)

      stays : (k : ℕ) → leaves k ≡ false → (j : ℕ) → LinksTo comps k j → good k j ≡ true
      stays k h j l = elim (cases_Bool (good k j)) [
        | inl y ↦ y
        | inr n ↦ absurd (both_ways (leaves k) h (some-from (length (items_of comps k)) (λ i. follows k (item_at comps k i).what) l.0 (l.1).0
            (ap (follows k) (l.1).1 ∙ not_from_false (good k j) n)))
      ]

      walk : (fuel k j : ℕ) → LinksTo comps k j → good j k ≡ true → count (length comps) (is_beyond comps k j) < fuel → (k : ℕ) × (k < length comps) × ((j : ℕ) → LinksTo comps k j → good k j ≡ true)
      walk zero k j l b c = absurd (omega (arith, c))
      walk (suc fuel) k j l b c = elim (cases_Bool (leaves j)) [
        | inr n ↦ (j, link-in comps a k j l, stays j n)
        | inl y ↦
            let w = leaving j y in
            let other : w.0 ≢ k = λ e. both_ways (good j k) (subst (λ v. good j v ≡ false) e w.2) b in
            walk fuel j w.0 w.1 (turn j w.0 w.1 w.2) (omega (arith, c, falls k j w.0 l w.1 other))
      ]
        where
          falls : (k j h : ℕ) → LinksTo comps k j → LinksTo comps j h → h ≢ k → count (length comps) (is_beyond comps j h) < count (length comps) (is_beyond comps k j)
          falls k j h l m n = elim (cases_lt (count (length comps) (is_beyond comps j h)) (count (length comps) (is_beyond comps k j))) [
            | inl less ↦ less
            | inr more ↦ absurd (both_ways (is_beyond comps j h j) (beyond-near comps a j h m)
                (count-same (length comps) (is_beyond comps j h) (is_beyond comps k j) (λ d b p. beyond-nest k j j h d l m (beyond-far comps a k j) back b p) more j (link-in comps a k j l) ∙ beyond-far comps a k j))
          ]
            where
              back : is_beyond comps j h k ≡ false
              back = beyond-apart comps a j k h k (link-back comps a k j l) m (λ e. n (sym e)) (beyond-far comps a j k)

module _ (g : Multigraph) (comps : List Comp) (s : IsSplit g comps) where
  -- an edge in the group of an item of y that is no link to the side of x is on the side where y is, as seen from x
  pub toward : (x h y i e : ℕ) → LinksTo comps x h → is_beyond comps x h y ≡ true → i < length (items_of comps y) → ((z : ℕ) → (item_at comps y i).what ≡ Link z → is_beyond comps y z x ≡ false)
      → e < edge_count g → has_in_group comps y e (item_at comps y i).what ≡ true → side comps x h e ≡ true
  toward x h y i e l b k away m t =
      let w = s.covers.present e m in
      side-at g comps s x h w.0 w.1 e w.2 ∙ elim (group-cases g comps s y e (item_at comps y i).what t) [
        | inl r ↦ subst (λ v. is_beyond comps x h v ≡ true) (sym (s.covers.once e w.0 w.1 y i w.2 (k, r)).0) b
        | inr r ↦ beyond-nest comps s.linked x h y r.0 w.0 l (i, (k, r.1)) b (away r.0 r.1) (stands-in comps w.0 w.1 (Real e) w.2) (sym (side-at g comps s y r.0 w.0 w.1 e w.2) ∙ r.2)
      ]
