-- The ring of a number under a permutation: its orbit as a list without repetition, whose successor is the permutation.
use Rattle.std.proofs.Common.{◌≡◌, ◌≢◌, ℕ, zero, suc, ◌+◌, ◌-◌, ◌<◌, ◌≤◌, inl, inr, true, ◌==◌, List, ◌∷◌, ◌++◌, length, refl, sym, ap, ◌∙◌, subst, arith, add-one}
use Rattle.std.proofs.lemmas.Bool.{cases_Bool, both_ways, true≢false, false_from_ne_true, eqb-true, eqb-false, eq-eqb}
use Rattle.permutations.specs.Count.{some, least}
use Rattle.permutations.specs.Members.{is_member, is_distinct}
use Rattle.permutations.specs.Cyclic.{first_or, successor, turned}
use Rattle.permutations.specs.Permutation.{Permutes, iterate, same_orbit}
use Rattle.permutations.specs.Ring.{images, orbit_length, ring}
use Rattle.permutations.proofs.Search.{some-from, least-passes, least-before}
use Rattle.permutations.proofs.Relation.{same-tests}
use Rattle.permutations.proofs.Members.{member-head, member-tail, member-cases, distinct-cons}
use Rattle.permutations.proofs.Successor.{successor-cut, successor-member, successor-absent}
use Rattle.permutations.proofs.Turned.{turned-first}
use Rattle.permutations.proofs.CyclicSame.{turned-from_successor}
use Rattle.permutations.proofs.Chains.{apart-front, chain-typed}
use Rattle.permutations.proofs.Orbits.{orbit-equivalence, orbit-step, orbit-kept}
use Rattle.permutations.proofs.Iterates.{iterate-below, iterate-first, iterate-more, iterate-between, iterate-orbit, period}

-- the images of x, one step later
pub images-first : (f : ℕ → ℕ) (k x : ℕ) → images f (k + 1) x ≡ x ∷ images f k (f x)
images-first f k x = ap (λ (j : ℕ). images f j x) (add-one k)

-- the number of images
pub length-images : (f : ℕ → ℕ) (k x : ℕ) → length (images f k x) ≡ k
length-images f zero x = refl
length-images f (suc k) x = ap suc (length-images f k (f x))

-- the images in two parts
pub images-append : (f : ℕ → ℕ) (j k x : ℕ) → images f (j + k) x ≡ images f j x ++ images f k (iterate f j x)
images-append f zero k x = ap (λ (i : ℕ). images f i x) (omega arith)
images-append f (suc j) k x =
    let e : suc j + k ≡ suc (j + k) = omega arith in
    let s : iterate f j (f x) ≡ iterate f (suc j) x = sym (iterate-first f j x) ∙ ap (λ (i : ℕ). iterate f i x) (add-one j) in
    ap (λ (i : ℕ). images f i x) e ∙ ap (λ (l : List ℕ). x ∷ l) (images-append f j k (f x) ∙ ap (λ (y : ℕ). images f j (f x) ++ images f k y) s)

-- an image after fewer than k steps is one of the first k
pub member-images : (f : ℕ → ℕ) (k x i : ℕ) → i < k → is_member (iterate f i x) (images f k x) ≡ true
member-images f zero x i l = absurd (omega arith)
member-images f (suc k) x zero l = member-head x (images f k (f x))
member-images f (suc k) x (suc i) l = member-tail (iterate f (suc i) x) x (images f k (f x))
    (subst (λ (y : ℕ). is_member y (images f k (f x)) ≡ true) (sym (iterate-first f i x) ∙ ap (λ (j : ℕ). iterate f j x) (add-one i)) (member-images f k (f x) i (omega arith)))

-- one of the first k images is an image after fewer than k steps
pub images-member : (f : ℕ → ℕ) (k x y : ℕ) → is_member y (images f k x) ≡ true → (i : ℕ) × (i < k) × (iterate f i x ≡ y)
images-member f zero x y m = absurd (true≢false (sym m))
images-member f (suc k) x y m = elim (member-cases y x (images f k (f x)) m) [
  | inl e ↦ (0, omega arith, e)
  | inr n ↦ let w : (i : ℕ) × (i < k) × (iterate f i (f x) ≡ y) = images-member f k (f x) y n in (w.0 + 1, omega (arith, w.1), iterate-first f w.0 x ∙ w.2)
]

-- images that are all different make a list without repetition
pub images-distinct : (f : ℕ → ℕ) (k x : ℕ) → ((i j : ℕ) → i < j → j < k → iterate f i x ≡ iterate f j x → ⊥) → is_distinct (images f k x) ≡ true
images-distinct f zero x h = refl
images-distinct f (suc k) x h = distinct-cons x (images f k (f x))
    (false_from_ne_true (is_member x (images f k (f x))) (λ m. let w : (i : ℕ) × (i < k) × (iterate f i (f x) ≡ x) = images-member f k (f x) x m in h 0 (w.0 + 1) (omega arith) (omega (arith, w.1)) (sym (iterate-first f w.0 x ∙ w.2))))
    (images-distinct f k (f x) (λ i j l m e. h (i + 1) (j + 1) (omega arith) (omega arith) (iterate-first f i x ∙ e ∙ sym (iterate-first f j x))))

-- in a list of images that closes up each is followed by its image
images-successor : (f : ℕ → ℕ) (x i r : ℕ) → is_distinct (images f (i + (r + 1)) x) ≡ true → (r ≡ 0 → iterate f (i + 1) x ≡ x) → successor (images f (i + (r + 1)) x) (iterate f i x) ≡ f (iterate f i x)
images-successor f x i r h c = ap (λ (z : List ℕ). successor z y) cut ∙ successor-cut (images f i x) y (images f r (f y)) (apart-front (images f i x) y (images f r (f y)) (subst (λ (z : List ℕ). is_distinct z ≡ true) cut h)) ∙ next r i c
  where
    y : ℕ
    y = iterate f i x

    cut : images f (i + (r + 1)) x ≡ images f i x ++ y ∷ images f r (f y)
    cut = images-append f i (r + 1) x ∙ ap (λ (z : List ℕ). images f i x ++ z) (images-first f r y)

    next : (r i : ℕ) → (r ≡ 0 → iterate f (i + 1) x ≡ x) → first_or (first_or (iterate f i x) (images f i x)) (images f r (f (iterate f i x))) ≡ f (iterate f i x)
    next (suc r) i c = refl
    next zero zero c = sym (c refl)
    next zero (suc i) c = sym (c refl) ∙ iterate-more f (suc i) x

module _ (n : ℕ) (f g : ℕ → ℕ) (b : Permutes n f g) (x : ℕ) (l : x < n) where
  -- some number of steps below n leads back
  back-some : some n (λ k. iterate f (k + 1) x == x) ≡ true
  back-some = let w : (k : ℕ) × (0 < k) × (k ≤ n) × (iterate f k x ≡ x) = period n f g b x l in
      let e : w.0 - 1 + 1 ≡ w.0 = omega (arith, w.1) in
      some-from n (λ k. iterate f (k + 1) x == x) (w.0 - 1) (omega (arith, w.1, w.2)) (eq-eqb (iterate f (w.0 - 1 + 1) x) x (ap (λ (j : ℕ). iterate f j x) e ∙ w.3))

  -- as many steps as the orbit is long lead back
  pub orbit_length-back : iterate f (orbit_length n f x) x ≡ x
  orbit_length-back = eqb-true (iterate f (orbit_length n f x) x) x (least-passes n (λ k. iterate f (k + 1) x == x) back-some)

  -- fewer steps do not
  pub orbit_length-least : (k : ℕ) → 0 < k → k < orbit_length n f x → iterate f k x ≢ x
  orbit_length-least k p q e =
      let d : k - 1 + 1 ≡ k = omega arith in
      eqb-false (iterate f (k - 1 + 1) x) x (least-before n (λ k. iterate f (k + 1) x == x) (k - 1) (omega arith)) (ap (λ (j : ℕ). iterate f j x) d ∙ e)

  -- the ring has no repetition
  pub ring-distinct : is_distinct (ring n f x) ≡ true
  ring-distinct = images-distinct f (orbit_length n f x) x (λ i j p q e.
      let d : i + (j - i) ≡ j = omega arith in
      orbit_length-least (j - i) (omega arith) (omega arith) (iterate-between n f g b x l i (j - i) (e ∙ ap (λ (k : ℕ). iterate f k x) (sym d))))

  -- the ring begins with x
  pub ring-first : (r : List ℕ) × (ring n f x ≡ x ∷ r)
  ring-first = (images f (least n (λ k. iterate f (k + 1) x == x)) (f x), images-first f (least n (λ k. iterate f (k + 1) x == x)) x)

  -- x is in its ring
  pub ring-itself : is_member x (ring n f x) ≡ true
  ring-itself = member-images f (orbit_length n f x) x 0 (omega arith)

  -- what the ring holds is below n
  pub ring-below : (y : ℕ) → is_member y (ring n f x) ≡ true → y < n
  ring-below y m = let w : (i : ℕ) × (i < orbit_length n f x) × (iterate f i x ≡ y) = images-member f (orbit_length n f x) x y m in subst (λ (z : ℕ). z < n) w.2 (iterate-below n f g b w.0 x l)

  -- in its ring each number is followed by its image
  pub ring-successor : (y : ℕ) → is_member y (ring n f x) ≡ true → successor (ring n f x) y ≡ f y
  ring-successor y m = subst (λ (z : ℕ). successor (ring n f x) z ≡ f z) w.2 (at w.0 w.1)
    where
      w : (i : ℕ) × (i < orbit_length n f x) × (iterate f i x ≡ y)
      w = images-member f (orbit_length n f x) x y m

      at : (i : ℕ) → i < orbit_length n f x → successor (ring n f x) (iterate f i x) ≡ f (iterate f i x)
      at i k =
          let e : i + (orbit_length n f x - i - 1 + 1) ≡ orbit_length n f x = omega arith in
          ap (λ (j : ℕ). successor (images f j x) (iterate f i x)) (sym e)
          ∙ images-successor f x i (orbit_length n f x - i - 1) (subst (λ (j : ℕ). is_distinct (images f j x) ≡ true) (sym e) ring-distinct)
          (λ d. let s : i + 1 ≡ orbit_length n f x = omega arith in ap (λ (j : ℕ). iterate f j x) s ∙ orbit_length-back)

  -- the ring holds the orbit
  pub ring-member : (y : ℕ) → is_member y (ring n f x) ≡ same_orbit n f x y
  ring-member y = same-tests (is_member y (ring n f x)) (same_orbit n f x y)
      (λ m. let w : (i : ℕ) × (i < orbit_length n f x) × (iterate f i x ≡ y) = images-member f (orbit_length n f x) x y m in subst (λ (z : ℕ). same_orbit n f x z ≡ true) w.2 (iterate-orbit n f g b w.0 x l))
      (λ m. sym (orbit-kept n f g b (λ z. is_member z (ring n f x)) (λ z k t. subst (λ (v : ℕ). is_member v (ring n f x) ≡ true) (ring-successor z t) (successor-member (ring n f x) z t)) x y m) ∙ ring-itself)

-- a list without repetition in which each member is followed by its image is the ring of each member, turned to it
pub ring-from_list : (n : ℕ) (f g : ℕ → ℕ) → Permutes n f g → (l : List ℕ) → is_distinct l ≡ true → ((z : ℕ) → is_member z l ≡ true → successor l z ≡ f z) → (y : ℕ) → y < n → is_member y l ≡ true → ring n f y ≡ turned l y
ring-from_list n f g b l h s y k m = sym (ap (λ (z : List ℕ). turned z y) w.1 ∙ turned-first y w.0 ∙ sym w.1) ∙ turned-from_successor (ring n f y) l y (ring-distinct n f g b y k) h (ring-itself n f g b y k) m same
  where
    w : (r : List ℕ) × (ring n f y ≡ y ∷ r)
    w = ring-first n f g b y k

    R : ℕ → ℕ → Type 0
    R u v = u < n → (v < n) × (same_orbit n f u v ≡ true)

    into : (z : ℕ) → is_member z l ≡ true → same_orbit n f y z ≡ true
    into z q = (chain-typed R (λ u p. (p, (orbit-equivalence n f).reflexive u))
        (λ u v t c d p. let i : (v < n) × (same_orbit n f u v ≡ true) = c p in let j : (t < n) × (same_orbit n f v t ≡ true) = d i.0 in (j.0, (orbit-equivalence n f).transitive u v t i.1 j.1))
        l h (λ u p q. subst (λ (v : ℕ). (v < n) × (same_orbit n f u v ≡ true)) (sym (s u p)) (b.forth u q, orbit-step n f u q)) y z m q k).1

    out : (z : ℕ) → same_orbit n f y z ≡ true → is_member z l ≡ true
    out z q = sym (orbit-kept n f g b (λ v. is_member v l) (λ v p t. subst (λ (u : ℕ). is_member u l ≡ true) (s v t) (successor-member l v t)) y z q) ∙ m

    same : (z : ℕ) → successor (ring n f y) z ≡ successor l z
    same z = elim (cases_Bool (is_member z l)) [
      | inl t ↦ ring-successor n f g b y k z (ring-member n f g b y k z ∙ into z t) ∙ sym (s z t)
      | inr t ↦ successor-absent (ring n f y) z (false_from_ne_true (is_member z (ring n f y)) (λ q. both_ways (is_member z l) t (out z (sym (ring-member n f g b y k z) ∙ q)))) ∙ sym (successor-absent l z t)
    ]

-- the ring of another number of the orbit is the same, turned to it
pub ring-turn : (n : ℕ) (f g : ℕ → ℕ) → Permutes n f g → (x y : ℕ) → x < n → is_member y (ring n f x) ≡ true → ring n f y ≡ turned (ring n f x) y
ring-turn n f g b x y l m = ring-from_list n f g b (ring n f x) (ring-distinct n f g b x l) (ring-successor n f g b x l) y (ring-below n f g b x l y m) m
