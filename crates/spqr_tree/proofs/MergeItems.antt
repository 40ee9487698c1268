-- Components contracted along a map of their numbers: where each item comes from and goes to.
use Rattle.std.proofs.Common.{◌≡◌, ℕ, ◌<◌, ◌≤◌, ◌==◌, ◌&&◌, ◌||◌, inl, inr, Bool, true, List, length, refl, sym, ap, ◌∙◌, subst, arith}
use Rattle.std.proofs.lemmas.Bool.{cases_Bool, cases_eq, eq-eqb, eqb-true, true≢false}
use Rattle.pair_split.specs.Skeleton.{SameEnds}
use Rattle.pair_split.specs.Split.{items_of, item_at, piece_ends, StandsFor}
use Rattle.pair_split.specs.declared.components.What.{What}
use Rattle.pair_split.specs.declared.components.What.TheVariants.{Real, Link}
use Rattle.pair_split.specs.declared.components.Piece.{Piece}
use Rattle.pair_split.specs.declared.components.Comp.{Comp}
use Rattle.pair_split.proofs.Links.{no_piece, stands-in}
use Rattle.spqr_tree.specs.Merged.{how_many, is_outer, gathered, IsJoined, relinked, redirect, IsSymmetric}
use Rattle.spqr_tree.proofs.MergeCounts.{number-from, number-some, number-two, gathered-from, gathered-some, gathered-once}
use Rattle.spqr_tree.proofs.JoinedMerging.{is_link}
use Rattle.spqr_tree.proofs.JoinedGrows.{is_this, is_this-true, this-own, is_like, like-own, like-parts}

-- the others are the components contracted: component x goes into number f x, and of the items of those that go there just
-- the links between them are missing, and all links are turned to the numbers
pub record IsContraction (comps : List Comp) (f : ℕ → ℕ) (others : List Comp) : Type 0 where
  pub into : (x : ℕ) → x < length comps → f x < length others
  pub onto : (h : ℕ) → h < length others → (x : ℕ) × (x < length comps) × (f x ≡ h)
  pub joined : (h : ℕ) → h < length others → IsJoined comps f h
  pub pieces : (h : ℕ) (t : Piece → Bool) → h < length others → IsSymmetric t → how_many t (items_of others h) ≡ gathered comps f h (λ p. t (redirect f p))

-- the tests that are used do not look at the order of the ends
this-symmetric : (w : What) → IsSymmetric (λ p. is_this w p.what)
this-symmetric w a b what = refl

like-symmetric : (p : Piece) → IsSymmetric (is_like p)
like-symmetric p a b what = ap (λ c. is_this p.what what && c) (swap ((p.a == a) && (p.b == b)) ((p.a == b) && (p.b == a)))
  where
    swap : (x y : Bool) → (x || y) ≡ (y || x)
    swap x y = grind (arith, cases_Bool x, cases_Bool y)

-- links are equal where they lead to the same number, and no link is an edge
pub same-link : (i j : ℕ) → Link i ≡ Link j → i ≡ j
same-link i j e = eqb-true i j (ap (is_link j) e ∙ eq-eqb j j refl)

pub real-link : (e j : ℕ) → Real e ≡ Link j → ⊥
real-link e j h = true≢false (sym (ap (is_link j) h ∙ eq-eqb j j refl))

-- what a link is turned from, and an edge
pub renamed-link : (f : ℕ → ℕ) (w : What) (j : ℕ) → relinked f w ≡ Link j → (y : ℕ) × (w ≡ Link y) × (f y ≡ j)
renamed-link f (Real e) j h = absurd (real-link e j h)
renamed-link f (Link y) j h = (y, refl, same-link (f y) j h)

pub renamed-real : (f : ℕ → ℕ) (w : What) (e : ℕ) → relinked f w ≡ Real e → w ≡ Real e
renamed-real f (Real d) e h = h
renamed-real f (Link y) e h = absurd (real-link e (f y) (sym h))

module _ (comps : List Comp) (f : ℕ → ℕ) (others : List Comp) (c : IsContraction comps f others) where
  -- the item of a component from which an item comes
  pub record Origin (h i : ℕ) : Type 0 where
    pub home : ℕ
    pub place : ℕ
    pub home_in : home < length comps
    pub led : f home ≡ h
    pub place_in : place < length (items_of comps home)
    pub outer : is_outer f h (item_at comps home place).what ≡ true
    pub what : relinked f (item_at comps home place).what ≡ (item_at others h i).what
    pub ends : SameEnds (piece_ends (item_at others h i)) (piece_ends (item_at comps home place))

  pub origin : (h i : ℕ) → i < length (items_of others h) → Origin h i
  origin h i l =
      let t = is_like (item_at others h i) in
      let m = stands-in others h i (item_at others h i).what (l, refl) in
      let w = gathered-some comps f h (λ p. t (redirect f p)) (subst (λ z. 1 ≤ z) (c.pieces h t m (like-symmetric (item_at others h i))) (number-from no_piece t (items_of others h) i l (like-own (item_at others h i)))) in
      let p = like-parts (item_at others h i) (redirect f (item_at comps w.home w.place)) w.passes in
      record { home = w.home; place = w.place; home_in = w.home_in; led = w.led; place_in = w.place_in; outer = w.outer; what = p.0; ends = p.1 }

  -- the item to which one goes that is no link within the group
  pub arrives : (x j : ℕ) → x < length comps → j < length (items_of comps x) → is_outer f (f x) (item_at comps x j).what ≡ true
      → (i : ℕ) × StandsFor others (f x) i (relinked f (item_at comps x j).what) × SameEnds (piece_ends (item_at comps x j)) (piece_ends (item_at others (f x) i))
  arrives x j l m o =
      let p = redirect f (item_at comps x j) in
      let w = number-some no_piece (is_like p) (items_of others (f x)) (subst (λ z. 1 ≤ z) (sym (c.pieces (f x) (is_like p) (c.into x l) (like-symmetric p)))
      (gathered-from comps f (f x) (λ q. is_like p (redirect f q)) x j l refl m o (like-own p))) in
      let v = like-parts p (item_at others (f x) w.0) w.2 in
      (w.0, (w.1, v.0), v.1)

  -- two places that stand for the same are one, where only one item of all components goes there
  pub arrives-once : (h i j : ℕ) (w : What)
      → ((x m y n : ℕ) → x < length comps → y < length comps → f x ≡ h → f y ≡ h → m < length (items_of comps x) → n < length (items_of comps y)
      → is_outer f h (item_at comps x m).what ≡ true → is_outer f h (item_at comps y n).what ≡ true → relinked f (item_at comps x m).what ≡ w → relinked f (item_at comps y n).what ≡ w → (x ≡ y) × (m ≡ n))
      → StandsFor others h i w → StandsFor others h j w → i ≡ j
  arrives-once h i j w u s t = elim (cases_eq i j) [
    | inl e ↦ e
    | inr n ↦ absurd (omega (
      arith,
      number-two no_piece (λ p. is_this w p.what) (items_of others h) i j s.0 t.0 n (subst (λ v. is_this w v ≡ true) (sym s.1) (this-own w)) (subst (λ v. is_this w v ≡ true) (sym t.1) (this-own w)),
      c.pieces h (λ p. is_this w p.what) (stands-in others h i w s) (this-symmetric w),
      gathered-once comps f h (λ p. is_this w (relinked f p.what)) (λ x m y n lx ly fx fy lm ln om on hm hn. u x m y n lx ly fx fy lm ln om on (is_this-true w (relinked f (item_at comps x m).what) hm) (is_this-true w (relinked f (item_at comps y n).what) hn)),
    ))
  ]
