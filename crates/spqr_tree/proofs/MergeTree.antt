-- The links of components contracted along a map form a tree.
use Rattle.std.proofs.Common.{◌≡◌, ◌≢◌, ℕ, zero, suc, ◌<◌, ◌==◌, ◌&&◌, ◌||◌, inl, inr, Bool, true, not, List, length, refl, sym, ap, ◌∙◌, subst, arith}
use Rattle.std.proofs.lemmas.Bool.{cases_eq, and_parts, and_from, or_cases, or_left, or_right, both_ways, eq-eqb, eqb-true, ne_eqb}
use Rattle.permutations.specs.Count.{some, least}
use Rattle.permutations.proofs.Search.{some-from, least-below, least-passes}
use Rattle.pair_split.specs.Split.{item_at, LinksTo, IsTree, AreLinked}
use Rattle.pair_split.specs.declared.components.Comp.{Comp}
use Rattle.pair_split.proofs.Subtrees.{link-in, is_below, below-own, below-root, below-parent, below-rank}
use Rattle.spqr_tree.specs.Merged.{relinked}
use Rattle.pair_split.proofs.TreeSides.{link-from}
use Rattle.spqr_tree.proofs.JoinedMerging.{link-outer, outer-link}
use Rattle.spqr_tree.proofs.MergeItems.{IsContraction, origin, arrives, renamed-link}

module _ (comps : List Comp) (a : AreLinked comps) (f : ℕ → ℕ) (others : List Comp) (c : IsContraction comps f others) where
  -- the tree of the components
  abbrev t : IsTree comps
  t = a.tree

  -- whether x is the top of group h: it goes there, and it is the root, or its parent goes elsewhere
  is_top : ℕ → ℕ → Bool
  is_top h x = (f x == h) && ((x == t.root) || not (f (t.parent x) == h))

  top-from : (h x : ℕ) → f x ≡ h → (x ≢ t.root → f (t.parent x) ≢ h) → is_top h x ≡ true
  unfolding is_top
  top-from h x e n = and_from (f x == h) ((x == t.root) || not (f (t.parent x) == h)) (eq-eqb (f x) h e) (elim (cases_eq x t.root) [
    | inl r ↦ or_left (x == t.root) (not (f (t.parent x) == h)) (eq-eqb x t.root r)
    | inr r ↦ or_right (x == t.root) (not (f (t.parent x) == h)) (ap not (ne_eqb (f (t.parent x)) h (n r)))
  ])

  top-led : (h x : ℕ) → is_top h x ≡ true → f x ≡ h
  unfolding is_top
  top-led h x e = eqb-true (f x) h (and_parts (f x == h) ((x == t.root) || not (f (t.parent x) == h)) e).0

  top-out : (h x : ℕ) → is_top h x ≡ true → x ≢ t.root → f (t.parent x) ≢ h
  unfolding is_top
  top-out h x e n i = elim (or_cases (x == t.root) (not (f (t.parent x) == h)) (and_parts (f x == h) ((x == t.root) || not (f (t.parent x) == h)) e).1) [
    | inl r ↦ n (eqb-true x t.root r)
    | inr r ↦ both_ways (not (f (t.parent x) == h)) (ap not (eq-eqb (f (t.parent x)) h i)) r
  ]

  -- from a member the parents lead to a top
  top-exists : (steps h x : ℕ) → x < length comps → f x ≡ h → t.rank x < steps → some (length comps) (is_top h) ≡ true
  top-exists zero h x l e r = absurd (omega (arith, r))
  top-exists (suc steps) h x l e r = elim (cases_eq x t.root) [
    | inl i ↦ some-from (length comps) (is_top h) x l (top-from h x e (λ n. absurd (n i)))
    | inr n ↦ elim (cases_eq (f (t.parent x)) h) [
      | inl i ↦ top-exists steps h (t.parent x) (t.parent_in x l n) i (omega (arith, r, t.rank_falls x l n))
      | inr m ↦ some-from (length comps) (is_top h) x l (top-from h x e (λ z. m))
    ]
  ]

  -- all members are below a top
  top-above : (h x u : ℕ) → h < length others → is_top h x ≡ true → x < length comps → u < length comps → f u ≡ h → is_below comps a x u ≡ true
  top-above h x u hl e l m i = c.joined h hl (is_below comps a x) respects u x m l i (top-led h x e) ∙ below-own comps a x
    where
      -- the two ends of a link from a member to its parent, a member
      upward : (p : ℕ) → p < length comps → p ≢ t.root → f p ≡ h → f (t.parent p) ≡ h → is_below comps a x p ≡ is_below comps a x (t.parent p)
      upward p pl pr fp fq = below-parent comps a x p pl (λ z. top-out h x e (λ r. pr (z ∙ r)) (ap (λ w. f (t.parent w)) (sym z) ∙ fq)) pr

      respects : (p q : ℕ) → LinksTo comps p q → f p ≡ h → f q ≡ h → is_below comps a x p ≡ is_below comps a x q
      respects p q s fp fq = elim (t.linked p q s) [
        | inl w ↦ upward p (link-from comps a p q s) w.0 fp (ap f w.1 ∙ fq) ∙ ap (is_below comps a x) w.1
        | inr w ↦ sym (upward q (link-in comps a p q s) w.0 fq (ap f w.1 ∙ fp) ∙ ap (is_below comps a x) w.1)
      ]

  -- a group has one top
  top-once : (h x y : ℕ) → h < length others → x < length comps → y < length comps → is_top h x ≡ true → is_top h y ≡ true → x ≡ y
  top-once h x y hl l m e i = elim (cases_eq y x) [
    | inl z ↦ sym z
    | inr n ↦
        let under = top-above h x y hl e l m (top-led h y i) in
        elim (cases_eq y t.root) [
          | inl r ↦ absurd (both_ways (is_below comps a x y) (ap (is_below comps a x) r ∙ below-root comps a x (λ z. n (r ∙ z))) under)
          | inr r ↦ absurd (omega (
            arith,
            below-rank comps a x (t.parent y) (t.parent_in y m r) (sym (below-parent comps a x y m n r) ∙ under),
            t.rank_falls y m r,
            below-rank comps a y x l (top-above h y x hl i m l (top-led h x e)),
          ))
        ]
  ]

  -- the top of group h
  top : ℕ → ℕ
  top h = least (length comps) (is_top h)

  top-some : (h : ℕ) → h < length others → some (length comps) (is_top h) ≡ true
  top-some h hl = let w = c.onto h hl in top-exists (suc (t.rank w.0)) h w.0 w.1 w.2 (omega arith)

  top-in : (h : ℕ) → h < length others → top h < length comps
  unfolding top
  top-in h hl = least-below (length comps) (is_top h) (top-some h hl)

  top-is : (h : ℕ) → h < length others → is_top h (top h) ≡ true
  unfolding top
  top-is h hl = least-passes (length comps) (is_top h) (top-some h hl)

  -- a component goes where its number says
  top-of : (x : ℕ) → x < length comps → is_top (f x) x ≡ true → top (f x) ≡ x
  top-of x l e = top-once (f x) (top (f x)) x (c.into x l) (top-in (f x) (c.into x l)) l (top-is (f x) (c.into x l)) e

  -- a component whose parent goes elsewhere is the top of its group, and that is not the group of the root
  child : (x : ℕ) → x < length comps → x ≢ t.root → f (t.parent x) ≢ f x → (f x ≢ f t.root) × (f (t.parent (top (f x))) ≡ f (t.parent x))
  child x l r n = (
    (λ e. r (top-once (f x) x t.root (c.into x l) l t.root_in own (top-from (f x) t.root (sym e) (λ z. absurd (z refl))))),
    ap (λ z. f (t.parent z)) (top-of x l own),
  )
    where
      own : is_top (f x) x ≡ true
      own = top-from (f x) x refl (λ z. n)

  -- the links form a tree
  pub contracted-tree : IsTree others
  contracted-tree = record {
    root = f t.root;
    parent = λ h. f (t.parent (top h));
    rank = λ h. t.rank (top h);
    root_in = c.into t.root t.root_in;
    parent_in = λ h l n. c.into (t.parent (top h)) (t.parent_in (top h) (top-in h l) (below h l n));
    rank_falls = λ h l n.
        let q = t.parent (top h) in
        let ql = t.parent_in (top h) (top-in h l) (below h l n) in
        omega (
          arith,
          below-rank comps a (top (f q)) q ql (top-above (f q) (top (f q)) q (c.into q ql) (top-is (f q) (c.into q ql)) (top-in (f q) (c.into q ql)) ql refl),
          t.rank_falls (top h) (top-in h l) (below h l n),
        );
    to_parent = λ h l n.
        let e = top-led h (top h) (top-is h l) in
        let r = t.to_parent (top h) (top-in h l) (below h l n) in
        let w = arrives comps f others c (top h) r.0 (top-in h l) r.1.0 (link-outer f (f (top h)) (t.parent (top h)) (item_at comps (top h) r.0).what r.1.1 (λ z. top-out h (top h) (top-is h l) (below h l n) (z ∙ e))) in
        subst (λ z. LinksTo others z (f (t.parent (top h)))) e (w.0, (w.1.0, w.1.1 ∙ ap (relinked f) r.1.1));
    linked = λ h j s.
        let o = origin comps f others c h s.0 s.1.0 in
        let r = renamed-link f (item_at comps o.home o.place).what j (o.what ∙ s.1.1) in
        let n = outer-link f h r.0 (item_at comps o.home o.place).what r.1 o.outer in
        let link : LinksTo comps o.home r.0 = (o.place, (o.place_in, r.1)) in
        elim (t.linked o.home r.0 link) [
          | inl p ↦ let w = child o.home o.home_in p.0 (λ z. n (ap f (sym p.1) ∙ z ∙ o.led)) in
              inl (subst (λ z. z ≢ f t.root) o.led w.0, subst (λ z. f (t.parent (top z)) ≡ j) o.led (w.1 ∙ ap f p.1 ∙ r.2))
          | inr p ↦ let w = child r.0 (link-in comps a o.home r.0 link) p.0 (λ z. n (sym z ∙ ap f p.1 ∙ o.led)) in
              inr (subst (λ z. z ≢ f t.root) r.2 w.0, subst (λ z. f (t.parent (top z)) ≡ h) r.2 (w.1 ∙ ap f p.1 ∙ o.led))
        ];
  }
    where
      below : (h : ℕ) → h < length others → h ≢ f t.root → top h ≢ t.root
      below h l n e = n (sym (top-led h (top h) (top-is h l)) ∙ ap f e)
