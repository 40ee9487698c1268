-- Things that are told by their choices: they can be listed, in the order of their choices, as the product of the possible ones.
-- The things are of any kind, n is the number of places, and `pick` gives the choice of a thing at a place.
use Rattle.std.proofs.Common.{◌≡◌, ℕ, zero, suc, ◌+◌, ◌*◌, ◌<◌, ◌↔◌, inl, inr, Bool, true, List, [], ◌∷◌, ◌++◌, length, map, slice_index_or, AllPairs, Contains, refl, sym, ap, ap₂, ◌∙◌, subst, arith}
use Rattle.choice_lists.specs.Order.{is_before, vector_before}
use Rattle.choice_lists.specs.Products.{product, product_of, IsSelection, IsFirst, IsLast, AreFirsts, AreLasts}
use Rattle.choice_lists.proofs.Places.{At, Has, at-within, at-any, at-get, at-same, at-place, has-from, contains-from, Ascends}
use Rattle.choice_lists.proofs.Orders.{linear-before, lex-cases}
use Rattle.choice_lists.proofs.Products.{product-length, selection-has, has-selection, product-ascends, product-first, product-last, selection-firsts, first-at, last-at}
use Rattle.std.proofs.lemmas.Bool.{true≢false}
use Rattle.choice_lists.proofs.Numbers.{product_of-append}
use Rattle.choice_lists.proofs.Choices.{before-never}

-- the values of f at n places, from place k on
abbrev pub values_from : {Y : Type 0} → ℕ → ℕ → (ℕ → Y) → List Y
values_from k zero f = []
values_from k (suc n) f = f k ∷ values_from (k + 1) n f

-- the product of n numbers
abbrev pub product_to : ℕ → (ℕ → ℕ) → ℕ
product_to zero f = 1
product_to (suc n) f = product_to n f * f n

-- r comes before q: at the least place with different choices that of r is the smaller
pub record ComesBefore {X : Type 0} (pick : X → ℕ → List ℕ) (n : ℕ) (r q : X) : Type 0 where
  pub place : ℕ
  pub within : place < n
  pub same : (j : ℕ) → j < place → pick r j ≡ pick q j
  pub smaller : is_before (pick r place) (pick q place) ≡ true

-- the things with the property M are told by their choices, and have all selections of the possible ones
pub record AreTold {X : Type 0} (pick : X → ℕ → List ℕ) (n : ℕ) (possible : ℕ → List (List ℕ)) (M : X → Type 0) : Type 0 where
  pub rising : (k : ℕ) → k < n → Ascends is_before (possible k)
  pub each : (r : X) (k : ℕ) → k < n → M r → Contains (possible k) (pick r k)
  pub any : (f : ℕ → List ℕ) → ((k : ℕ) → k < n → Contains (possible k) (f k)) → (r : X) × M r × ((k : ℕ) → k < n → pick r k ≡ f k)
  pub tell : (r q : X) → M r → M q → ((k : ℕ) → k < n → pick r k ≡ pick q k) → r ≡ q

-- the list of them
pub record IsListOfAll {X : Type 0} (pick : X → ℕ → List ℕ) (n : ℕ) (M : X → Type 0) (l : List X) : Type 0 where
  pub rises : AllPairs (ComesBefore pick n) l
  pub exactly : (r : X) → Contains l r ↔ M r

-- nothing added
zero-more : (m : ℕ) → 0 + m ≡ m
zero-more m = omega arith

-- the value at a place
pub values-at : {Y : Type 0} (k n : ℕ) (f : ℕ → Y) (i : ℕ) (d : Y) → i < n → slice_index_or (values_from k n f) i d ≡ f (k + i)
values-at k zero f i d h = absurd (omega arith)
values-at k (suc n) f zero d h = ap f (omega arith)
values-at k (suc n) f (suc i) d h = values-at (k + 1) n f i d (omega arith) ∙ ap f (omega arith)

-- a list with the values at its places is the list of the values
same-values : {Y : Type 0} (k n : ℕ) (f : ℕ → List Y) (v : List (List Y)) → length v ≡ n → ((i : ℕ) → i < n → slice_index_or v i [] ≡ f (k + i)) → v ≡ values_from k n f
same-values k zero f [] e h = refl
same-values k zero f (x ∷ v) e h = absurd (omega arith)
same-values k (suc n) f [] e h = absurd (omega arith)
same-values k (suc n) f (x ∷ v) e h = ap₂ (λ a b. a ∷ b) (h 0 (omega arith) ∙ ap f (omega arith)) (same-values (k + 1) n f v (omega arith) (λ i l. h (suc i) (omega arith) ∙ ap f (omega arith)))

-- their number
values-length : {Y : Type 0} (k n : ℕ) (f : ℕ → Y) → length (values_from k n f) ≡ n
values-length k zero f = refl
values-length k (suc n) f = ap suc (values-length (k + 1) n f)

-- one value more
pub values-more : {Y : Type 0} (k n : ℕ) (f : ℕ → Y) → values_from k (suc n) f ≡ values_from k n f ++ f (k + n) ∷ []
values-more k zero f = ap (λ z. f z ∷ []) (omega arith)
values-more k (suc n) f = ap (λ z. f k ∷ z) (values-more (k + 1) n f ∙ ap (λ z. values_from (k + 1) n f ++ f z ∷ []) (omega arith))

-- what stands in the list of values is a value
pub values-back : {Y : Type 0} (k n : ℕ) (f : ℕ → Y) (i : ℕ) (y : Y) → At (values_from k n f) i y → (i < n) × (f (k + i) ≡ y)
values-back k n f i y a =
    let w : i < length (values_from k n f) = at-within (values_from k n f) i y a in
    let l : i < n = omega (arith, w, values-length k n f) in
    (l, sym (values-at k n f i y l) ∙ at-get (values_from k n f) i y y a)

-- images of values
pub values-map : {Y Z : Type 0} (k n : ℕ) (f : ℕ → Y) (g : Y → Z) → map g (values_from k n f) ≡ values_from k n (λ i. g (f i))
values-map k zero f g = refl
values-map k (suc n) f g = ap (λ z. g (f k) ∷ z) (values-map (k + 1) n f g)

-- the product of values
values-product : (n : ℕ) (f : ℕ → ℕ) → product_of (values_from 0 n f) ≡ product_to n f
values-product zero f = refl
values-product (suc n) f =
    let a : product_of (values_from 0 n f ++ f (0 + n) ∷ []) ≡ product_of (values_from 0 n f) * (f (0 + n) * 1) = product_of-append (values_from 0 n f) (f (0 + n) ∷ []) in
    let e : f (0 + n) * 1 ≡ f n = omega (arith, ap f (zero-more n)) in
    ap product_of (values-more 0 n f) ∙ a ∙ ap₂ (λ u v. u * v) (values-product n f) e

-- choices that are possible are a selection
selection-from : (k n : ℕ) (possible : ℕ → List (List ℕ)) (f : ℕ → List ℕ) → ((i : ℕ) → i < n → Contains (possible (k + i)) (f (k + i))) → IsSelection (values_from k n possible) (values_from k n f)
selection-from k zero possible f h = tt
selection-from k (suc n) possible f h = (
  subst (λ z. Contains (possible z) (f z)) (omega arith) (h 0 (omega arith)),
  selection-from (k + 1) n possible f (λ i l. subst (λ z. Contains (possible z) (f z)) (omega arith) (h (suc i) (omega arith))),
)

-- and a selection has possible choices
selection-place : (k n : ℕ) (possible : ℕ → List (List ℕ)) (v : List (List ℕ)) → IsSelection (values_from k n possible) v → (i : ℕ) → i < n → Contains (possible (k + i)) (slice_index_or v i [])
selection-place k zero possible v s i h = absurd (omega arith)
selection-place k (suc n) possible [] s i h = absurd s
selection-place k (suc n) possible (x ∷ v) s zero h = subst (λ z. Contains (possible z) x) (omega arith) s.0
selection-place k (suc n) possible (x ∷ v) s (suc i) h = subst (λ z. Contains (possible z) (slice_index_or v i [])) (omega arith) (selection-place (k + 1) n possible v s.1 i (omega arith))

-- it has n members
selection-length : {Y : Type 0} (k n : ℕ) (possible : ℕ → List Y) (v : List Y) → IsSelection (values_from k n possible) v → length v ≡ n
selection-length k zero possible [] s = refl
selection-length k zero possible (x ∷ v) s = absurd s
selection-length k (suc n) possible [] s = absurd s
selection-length k (suc n) possible (x ∷ v) s = ap suc (selection-length (k + 1) n possible v s.1)

-- where two vectors differ first
record Difference (v w : List (List ℕ)) (n : ℕ) : Type 0 where
  pub place : ℕ
  pub within : place < n
  pub same : (j : ℕ) → j < place → slice_index_or v j [] ≡ slice_index_or w j []
  pub smaller : is_before (slice_index_or v place []) (slice_index_or w place []) ≡ true

-- the first difference of two vectors in order
difference : (v w : List (List ℕ)) (n : ℕ) → length v ≡ n → length w ≡ n → vector_before v w ≡ true → Difference v w n
difference [] [] n a b h = absurd (true≢false (sym h))
difference [] (y ∷ w) n a b h = absurd (omega arith)
difference (x ∷ v) [] n a b h = absurd (omega arith)
difference (x ∷ v) (y ∷ w) zero a b h = absurd (omega arith)
difference (x ∷ v) (y ∷ w) (suc n) a b h = elim (lex-cases is_before x y v w h) [
  | inl e ↦ record { place = 0; within = omega arith; same = λ j l. absurd (omega arith); smaller = e }
  | inr e ↦ further (difference v w n (omega arith) (omega arith) e.2) (linear-before.one_of_three x y e.0 e.1)
]
  where
    further : Difference v w n → x ≡ y → Difference (x ∷ v) (y ∷ w) (suc n)
    further d e = record { place = suc d.place; within = omega (arith, d.within); same = at; smaller = d.smaller }
      where
        at : (j : ℕ) → j < suc d.place → slice_index_or (x ∷ v) j [] ≡ slice_index_or (y ∷ w) j []
        at zero l = e
        at (suc j) l = d.same j (omega arith)

-- one thing for each vector of a list, at the same place
record Realised {X : Type 0} (P : List (List ℕ) → X → Type 0) (vs : List (List (List ℕ))) : Type 0 where
  pub things : List X
  pub long : length things ≡ length vs
  pub with : (i : ℕ) (v : List (List ℕ)) → At vs i v → (r : X) × At things i r × P v r

-- realised one by one
realise : {X : Type 0} (P : List (List ℕ) → X → Type 0) (vs : List (List (List ℕ))) → ((v : List (List ℕ)) → Has vs v → (r : X) × P v r) → Realised P vs
realise P [] h = record { things = []; long = refl; with = λ i v a. absurd a }
realise {X} P (v ∷ vs) h = front (h v (0, refl)) (realise P vs (λ w m. h w (suc m.0, m.1)))
  where
    front : ((r : X) × P v r) → Realised P vs → Realised P (v ∷ vs)
    front t rest = record { things = t.0 ∷ rest.things; long = ap suc rest.long; with = at }
      where
        at : (i : ℕ) (w : List (List ℕ)) → At (v ∷ vs) i w → (r : X) × At (t.0 ∷ rest.things) i r × P w r
        at zero w e = (t.0, refl, subst (λ (z : List (List ℕ)). P z t.0) e t.1)
        at (suc i) w e = rest.with i w e

-- the vectors rise between any two places
ascends-places : {X : Type 0} (before : X → X → Bool) (l : List X) → Ascends before l → (i j : ℕ) (x y : X) → i < j → At l i x → At l j y → before x y ≡ true
ascends-places before [] h i j x y l a b = absurd a
ascends-places before (z ∷ k) h i zero x y l a b = absurd (omega arith)
ascends-places before (z ∷ k) h zero (suc j) x y l a b = subst (λ v. before v y ≡ true) a (h.0 j y b)
ascends-places before (z ∷ k) h (suc i) (suc j) x y l a b = ascends-places before k h.1 i j x y (omega arith) a b

-- each member of a vector of values is first in its list
firsts-place : (k n : ℕ) (possible : ℕ → List (List ℕ)) (v : List (List ℕ)) → AreFirsts (values_from k n possible) v → (i : ℕ) → i < n → IsFirst (possible (k + i)) (slice_index_or v i [])
firsts-place k zero possible v s i h = absurd (omega arith)
firsts-place k (suc n) possible [] s i h = absurd s
firsts-place k (suc n) possible (x ∷ v) s zero h = subst (λ z. IsFirst (possible z) x) (omega arith) s.0
firsts-place k (suc n) possible (x ∷ v) s (suc i) h = subst (λ z. IsFirst (possible z) (slice_index_or v i [])) (omega arith) (firsts-place (k + 1) n possible v s.1 i (omega arith))

-- values that are last in their lists
lasts-from : (k n : ℕ) (possible : ℕ → List (List ℕ)) (f : ℕ → List ℕ) → ((i : ℕ) → i < n → IsLast (possible (k + i)) (f (k + i))) → AreLasts (values_from k n possible) (values_from k n f)
lasts-from k zero possible f h = tt
lasts-from k (suc n) possible f h = (
  subst (λ z. IsLast (possible z) (f z)) (omega arith) (h 0 (omega arith)),
  lasts-from (k + 1) n possible f (λ i l. subst (λ z. IsLast (possible z) (f z)) (omega arith) (h (suc i) (omega arith))),
)

-- the vector at place 0 has first members
firsts-at : {X : Type 0} (cs : List (List X)) (v : List X) → At (product cs) 0 v → AreFirsts cs v
firsts-at {X} cs v m =
    let f = selection-firsts cs v (has-selection cs 0 v m) in
    subst (λ (z : List X). AreFirsts cs z) (at-same (product cs) 0 f.0 v (product-first cs f.0 f.1) m) f.1

-- r is one of the things, and has the choices of the vector v
pub record Fits {X : Type 0} (pick : X → ℕ → List ℕ) (n : ℕ) (M : X → Type 0) (v : List (List ℕ)) (r : X) : Type 0 where
  pub one : M r
  pub choices : (k : ℕ) → k < n → pick r k ≡ slice_index_or v k []

-- a list of the things, one for each vector, each at the place of its vector
pub record ListedByVectors {X : Type 0} (pick : X → ℕ → List ℕ) (n : ℕ) (possible : ℕ → List (List ℕ)) (M : X → Type 0) : Type 0 where
  pub list : List X
  pub is : IsListOfAll pick n M list
  pub count : length list ≡ product_to n (λ k. length (possible k))
  pub vector : (i : ℕ) (r : X) → At list i r → At (product (values_from 0 n possible)) i (values_from 0 n (pick r))
  pub mirrored : (mirror : List ℕ → List ℕ) → ((k : ℕ) → k < n → (x : List ℕ) → IsFirst (possible k) x → IsLast (possible k) (mirror x))
      → (r q : X) → IsFirst list r → IsLast list q → (k : ℕ) → k < n → pick q k ≡ mirror (pick r k)

module _ {X : Type 0} (pick : X → ℕ → List ℕ) (n : ℕ) (possible : ℕ → List (List ℕ)) (M : X → Type 0) (t : AreTold pick n possible M) where
  -- the lists of possible choices
  abbrev lists : List (List (List ℕ))
  lists = values_from 0 n possible

  vectors-rise : Ascends vector_before (product lists)
  vectors-rise = product-ascends is_before lists before-never (λ k c a. let b = values-back 0 n possible k c a in subst (λ (z : List (List ℕ)). Ascends is_before z) b.1 (t.rising (0 + k) (omega (arith, b.0))))

  -- for each vector a thing
  thing : (v : List (List ℕ)) → Has (product lists) v → (r : X) × Fits pick n M v r
  thing v h =
      let s = has-selection lists h.0 v h.1 in
      let r = t.any (λ k. slice_index_or v k []) (λ k l. subst (λ z. Contains (possible z) (slice_index_or v k [])) (omega arith) (selection-place 0 n possible v s k l)) in
      (r.0, record { one = r.1; choices = r.2 })

  -- all of them
  abbrev all : Realised (Fits pick n M) (product lists)
  all = realise (Fits pick n M) (product lists) thing

  -- the vector of a thing of the list
  fitting : (things : List X) → ((i : ℕ) (v : List (List ℕ)) → At (product lists) i v → (r : X) × At things i r × Fits pick n M v r) → length things ≡ length (product lists)
      → (i : ℕ) (r : X) → At things i r → (v : List (List ℕ)) × At (product lists) i v × Fits pick n M v r
  fitting things with e i r a =
      let v = at-any (product lists) i (omega (arith, e, at-within things i r a)) in
      let q = with i v.0 v.1 in
      (v.0, v.1, subst (λ z. Fits pick n M v.0 z) (at-same things i q.0 r q.1 a) q.2)

  -- a vector with the choices of r is the vector of r
  own : (i : ℕ) (r : X) (v : List (List ℕ)) → At (product lists) i v → ((k : ℕ) → k < n → pick r k ≡ slice_index_or v k []) → v ≡ values_from 0 n (pick r)
  own i r v a h = same-values 0 n (pick r) v (selection-length 0 n possible v (has-selection lists i v a)) (λ k l. sym (h (0 + k) (omega arith) ∙ ap (λ z. slice_index_or v z []) (omega arith)))

  -- the vector of a thing is a member of the product
  own-has : (r : X) → M r → Has (product lists) (values_from 0 n (pick r))
  own-has r m = selection-has lists (values_from 0 n (pick r)) (selection-from 0 n possible (pick r) (λ i l. t.each r (0 + i) (omega arith) m))

  -- the list
  pub listed-by_vectors : ListedByVectors pick n possible M
  listed-by_vectors = made all.things all.with all.long
    where
      made : (things : List X) → ((i : ℕ) (v : List (List ℕ)) → At (product lists) i v → (r : X) × At things i r × Fits pick n M v r) → length things ≡ length (product lists) → ListedByVectors pick n possible M
      made things with e = record {
        list = things;
        is = record { rises = rises; exactly = λ r. (inside r, listed r) };
        count = e ∙ product-length lists ∙ ap product_of (values-map 0 n possible length) ∙ values-product n (λ k. length (possible k));
        vector = placed;
        mirrored = turned;
      }
        where
          fit : (i : ℕ) (r : X) → At things i r → (v : List (List ℕ)) × At (product lists) i v × Fits pick n M v r
          fit i r a = fitting things with e i r a

          placed : (i : ℕ) (r : X) → At things i r → At (product lists) i (values_from 0 n (pick r))
          placed i r a = let f = fit i r a in subst (λ (z : List (List ℕ)). At (product lists) i z) (own i r f.0 f.1 f.2.choices) f.1

          inside : (r : X) → Contains things r → M r
          inside r c = let h = has-from things r c in (fit h.0 r h.1).2.one

          listed : (r : X) → M r → Contains things r
          listed r m =
              let h = own-has r m in
              let q = with h.0 (values_from 0 n (pick r)) h.1 in
              let s : r ≡ q.0 = t.tell r q.0 m q.2.one (λ k l. sym (q.2.choices k l ∙ values-at 0 n (pick r) k [] l ∙ ap (pick r) (zero-more k))) in
              contains-from things r (h.0, subst (λ z. At things h.0 z) (sym s) q.1)

          rises : AllPairs (ComesBefore pick n) things
          rises i j d l b =
              let r = at-any things i (omega (arith, l, b)) in
              let q = at-any things j b in
              let f = fit i r.0 r.1 in
              let g = fit j q.0 q.1 in
              let c = difference f.0 g.0 n (selection-length 0 n possible f.0 (has-selection lists i f.0 f.1)) (selection-length 0 n possible g.0 (has-selection lists j g.0 g.1))
              (ascends-places vector_before (product lists) vectors-rise i j f.0 g.0 l f.1 g.1) in
              subst (λ z. ComesBefore pick n z (slice_index_or things j d)) (sym (at-get things i r.0 d r.1))
              (subst (λ z. ComesBefore pick n r.0 z) (sym (at-get things j q.0 d q.1)) (record {
                place = c.place;
                within = c.within;
                same = λ k m. f.2.choices k (omega (arith, m, c.within)) ∙ c.same k m ∙ sym (g.2.choices k (omega (arith, m, c.within)));
                smaller = subst (λ z. is_before z (pick q.0 c.place) ≡ true) (sym (f.2.choices c.place c.within)) (subst (λ z. is_before (slice_index_or f.0 c.place []) z ≡ true) (sym (g.2.choices c.place c.within)) c.smaller);
              }))

          turned : (mirror : List ℕ → List ℕ) → ((k : ℕ) → k < n → (x : List ℕ) → IsFirst (possible k) x → IsLast (possible k) (mirror x))
              → (r q : X) → IsFirst things r → IsLast things q → (k : ℕ) → k < n → pick q k ≡ mirror (pick r k)
          turned mirror m r q a b k l =
              let f = fit 0 r (first-at things r a) in
              let z = last-at things q b in
              let g = fit z.0 q z.1 in
              let first = firsts-at lists f.0 f.1 in
              let w = values_from 0 n (λ j. mirror (slice_index_or f.0 j [])) in
              let last = product-last lists w (lasts-from 0 n possible (λ j. mirror (slice_index_or f.0 j [])) (λ i h. m (0 + i) (omega arith) (slice_index_or f.0 (0 + i) [])
              (subst (λ y. IsFirst (possible (0 + i)) (slice_index_or f.0 y [])) (omega arith) (firsts-place 0 n possible f.0 first i h)))) in
              let e2 : z.0 ≡ last.0 = omega (arith, e, z.2, last.2) in
              let same : g.0 ≡ w = at-same (product lists) last.0 g.0 w (at-place (product lists) z.0 last.0 g.0 e2 g.1) last.1 in
              g.2.choices k l ∙ ap (λ (y : List (List ℕ)). slice_index_or y k []) same ∙ values-at 0 n (λ j. mirror (slice_index_or f.0 j [])) k [] l
              ∙ ap (λ j. mirror (slice_index_or f.0 j [])) (zero-more k) ∙ ap mirror (sym (f.2.choices k l))
