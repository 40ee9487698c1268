-- All vectors with a value for each of some places, out of the list of its place; and lists that increase by a relation.
use Rattle.std.proofs.Common.{◌≡◌, ℕ, zero, suc, ◌+◌, ◌<◌, inl, inr, List, [], ◌∷◌, ◌++◌, length, map, slice_index, slice_index_or, AllPairs, refl, sym, ap, subst, arith}
use Rattle.choice_lists.proofs.Places.{At, Has, at-within, at-get, at-any, at-left, at-right, at-append, at-map, at-map_back}

-- each member is related to all later ones
abbrev pub RisesBy : {X : Type 0} → (X → X → Type 0) → List X → Type 0
RisesBy L [] = Unit {0}
RisesBy {X} L (x ∷ l) = ((i : ℕ) (y : X) → At l i y → L x y) × RisesBy L l

-- to the public form
pub pairs-from : {X : Type 0} (L : X → X → Type 0) (l : List X) → RisesBy L l → AllPairs L l
pairs-from L [] h i j d a b = absurd (omega arith)
pairs-from L (x ∷ l) h i zero d a b = absurd (omega arith)
pairs-from L (x ∷ l) h zero (suc j) d a b = let m = at-any l j (omega arith) in subst (L x) (sym (at-get l j m.0 d m.1)) (h.0 j m.0 m.1)
pairs-from L (x ∷ l) h (suc i) (suc j) d a b = pairs-from L l h.1 i j d (omega arith) (omega arith)

-- and from it
pub pairs-to : {X : Type 0} (L : X → X → Type 0) (l : List X) → AllPairs L l → RisesBy L l
pairs-to L [] h = tt
pairs-to L (x ∷ l) h = (
  λ i y a. subst (L x) (at-get l i y x a) (h 0 (suc i) x (omega arith) (let w : i < length l = at-within l i y a in omega arith)),
  pairs-to L l (λ i j d a b. h (suc i) (suc j) d (omega arith) (omega arith)),
)

-- two lists one after the other
rises-append : {X : Type 0} (L : X → X → Type 0) (xs ys : List X) → RisesBy L xs → RisesBy L ys → ((i j : ℕ) (x y : X) → At xs i x → At ys j y → L x y) → RisesBy L (xs ++ ys)
rises-append L [] ys a b h = b
rises-append {X} L (x ∷ xs) ys a b h = (front, rises-append L xs ys a.1 b (λ i j y z m n. h (suc i) j y z m n))
  where
    front : (i : ℕ) (y : X) → At (xs ++ ys) i y → L x y
    front i y m = elim (at-append xs ys i y m) [
      | inl l ↦ a.0 i y l
      | inr r ↦ h 0 r.0 x y refl r.2
    ]

-- images of related members
pub rises-map : {X Y : Type 0} (L : X → X → Type 0) (K : Y → Y → Type 0) (f : X → Y) (l : List X) → RisesBy L l → ((i j : ℕ) (x y : X) → At l i x → At l j y → L x y → K (f x) (f y)) → RisesBy K (map f l)
rises-map L K f [] a h = tt
rises-map L K f (x ∷ l) a h = (
  λ i z m. let w = at-map_back f l i z m in subst (K (f x)) w.2 (h 0 (suc i) x w.0 refl w.1 (a.0 i w.0 w.1)),
  rises-map L K f l a.1 (λ i j y z m n r. h (suc i) (suc j) y z m n r),
)

-- the lists of all members, one after the other
abbrev pub joined : {X Y : Type 0} → (X → List Y) → List X → List Y
joined f [] = []
joined f (x ∷ l) = f x ++ joined f l

pub joined-has : {X Y : Type 0} (f : X → List Y) (l : List X) (x : X) (y : Y) → Has l x → Has (f x) y → Has (joined f l) y
joined-has f [] x y a b = absurd a.1
joined-has {X} {Y} f (z ∷ l) x y (zero, e) b = (b.0, at-left (f z) (joined f l) b.0 y (subst (λ (u : X). At (f u) b.0 y) (sym e) b.1))
joined-has f (z ∷ l) x y (suc i, a) b = let r = joined-has f l x y (i, a) b in (length (f z) + r.0, at-right (f z) (joined f l) r.0 y r.1)

pub has-joined : {X Y : Type 0} (f : X → List Y) (l : List X) (i : ℕ) (y : Y) → At (joined f l) i y → (x : X) × Has l x × Has (f x) y
has-joined f [] i y a = absurd a
has-joined f (z ∷ l) i y a = elim (at-append (f z) (joined f l) i y a) [
  | inl b ↦ (z, (0, refl), (i, b))
  | inr b ↦ let r = has-joined f l b.0 y b.2 in (r.0, (suc r.1.0, r.1.1), r.2)
]

pub joined-rises : {X Y : Type 0} (L : X → X → Type 0) (K : Y → Y → Type 0) (f : X → List Y) (l : List X) → RisesBy L l → ((x : X) → Has l x → RisesBy K (f x))
    → ((x z : X) → Has l x → Has l z → L x z → (i j : ℕ) (y w : Y) → At (f x) i y → At (f z) j w → K y w) → RisesBy K (joined f l)
joined-rises L K f [] a h g = tt
joined-rises {X} {Y} L K f (x ∷ l) a h g =
    rises-append K (f x) (joined f l) (h x (0, refl)) (joined-rises L K f l a.1 (λ z m. h z (suc m.0, m.1)) (λ z u m n r i j y w p q. g z u (suc m.0, m.1) (suc n.0, n.1) r i j y w p q)) across
  where
    across : (i j : ℕ) (y w : Y) → At (f x) i y → At (joined f l) j w → K y w
    across i j y w p q = let m = has-joined f l j w q in g x m.0 (0, refl) (suc m.1.0, m.1.1) (a.0 m.1.0 m.0 m.1.1) i m.2.0 y w p m.2.1

-- all vectors
abbrev pub vectors : {R : Type 0} → List ℕ → (ℕ → List R) → List (List R)
vectors [] C = [] ∷ []
vectors (b ∷ bs) C = joined (λ x. map (λ v. x ∷ v) (vectors bs C)) (C b)

-- one value for each place, out of its list
pub record IsVector {R : Type 0} (d : R) (bs : List ℕ) (C : ℕ → List R) (v : List R) : Type 0 where
  pub long : length v ≡ length bs
  pub each : (i : ℕ) → i < length bs → Has (C (slice_index bs i)) (slice_index_or v i d)

pub has-vector : {R : Type 0} (d : R) (bs : List ℕ) (C : ℕ → List R) (i : ℕ) (v : List R) → At (vectors bs C) i v → IsVector d bs C v
has-vector d [] C zero v a = subst (IsVector d [] C) a (record { long = refl; each = λ i l. absurd (omega arith) })
has-vector d [] C (suc i) v a = absurd a
has-vector {R} d (b ∷ bs) C i v a =
    let w = has-joined (λ x. map (λ u. x ∷ u) (vectors bs C)) (C b) i v a in
    let m = at-map_back (λ u. w.0 ∷ u) (vectors bs C) w.2.0 v w.2.1 in
    let r = has-vector d bs C w.2.0 m.0 m.1 in
    subst (IsVector d (b ∷ bs) C) m.2 (record { long = ap suc r.long; each = at w.0 m.0 w.1 r })
  where
    at : (x : R) (u : List R) → Has (C b) x → IsVector d bs C u → (i : ℕ) → i < length (b ∷ bs) → Has (C (slice_index (b ∷ bs) i)) (slice_index_or (x ∷ u) i d)
    at x u h r zero l = h
    at x u h r (suc i) l = r.each i (omega arith)

pub vector-has : {R : Type 0} (d : R) (bs : List ℕ) (C : ℕ → List R) (v : List R) → IsVector d bs C v → Has (vectors bs C) v
vector-has d [] C [] h = (0, refl)
vector-has d [] C (x ∷ v) h = absurd (let e : suc (length v) ≡ 0 = h.long in omega (arith, e))
vector-has d (b ∷ bs) C [] h = absurd (let e : 0 ≡ suc (length bs) = h.long in omega (arith, e))
vector-has d (b ∷ bs) C (x ∷ v) h =
    let e : suc (length v) ≡ suc (length bs) = h.long in
    let r = vector-has d bs C v (record { long = omega (arith, e); each = λ i l. h.each (suc i) (omega arith) }) in
    joined-has (λ y. map (λ u. y ∷ u) (vectors bs C)) (C b) x (x ∷ v) (h.each 0 (omega arith)) (r.0, at-map (λ u. x ∷ u) (vectors bs C) r.0 v r.1)

-- v comes before w at the first place at which they differ
pub record IsLess {R : Type 0} (L : ℕ → R → R → Type 0) (d : R) (bs : List ℕ) (v w : List R) : Type 0 where
  pub place : ℕ
  pub within : place < length bs
  pub same : (j : ℕ) → j < place → slice_index_or v j d ≡ slice_index_or w j d
  pub smaller : L (slice_index bs place) (slice_index_or v place d) (slice_index_or w place d)

-- the first values are the same, and then the rest decides
less-behind : {R : Type 0} (L : ℕ → R → R → Type 0) (d : R) (b : ℕ) (bs : List ℕ) (x : R) (v w : List R) → IsLess L d bs v w → IsLess L d (b ∷ bs) (x ∷ v) (x ∷ w)
less-behind L d b bs x v w r = record { place = suc r.place; within = let k = r.within in omega (arith, k); same = same; smaller = r.smaller }
  where
    same : (j : ℕ) → j < suc r.place → slice_index_or (x ∷ v) j d ≡ slice_index_or (x ∷ w) j d
    same zero l = refl
    same (suc j) l = r.same j (omega arith)

-- the first values decide
less-here : {R : Type 0} (L : ℕ → R → R → Type 0) (d : R) (b : ℕ) (bs : List ℕ) (x z : R) → L b x z → (i j : ℕ) (u t y w : List R) → x ∷ u ≡ y → z ∷ t ≡ w → IsLess L d (b ∷ bs) y w
less-here {R} L d b bs x z r i j u t y w e f =
    subst (λ (a : List R). IsLess L d (b ∷ bs) a w) e (subst (λ (a : List R). IsLess L d (b ∷ bs) (x ∷ u) a) f (record { place = 0; within = omega arith; same = λ j l. absurd (omega (arith, l)); smaller = r }))

pub vectors-rise : {R : Type 0} (L : ℕ → R → R → Type 0) (d : R) (bs : List ℕ) (C : ℕ → List R) → ((i : ℕ) → i < length bs → RisesBy (L (slice_index bs i)) (C (slice_index bs i))) → RisesBy (IsLess L d bs) (vectors bs C)
vectors-rise L d [] C h = (λ i y a. absurd a, tt)
vectors-rise {R} L d (b ∷ bs) C h =
    let rest : RisesBy (IsLess L d bs) (vectors bs C) = vectors-rise L d bs C (λ i l. h (suc i) (omega arith)) in
    joined-rises (L b) (IsLess L d (b ∷ bs)) (λ x. map (λ u. x ∷ u) (vectors bs C)) (C b) (h 0 (omega arith))
    (λ x m. rises-map (IsLess L d bs) (IsLess L d (b ∷ bs)) (λ u. x ∷ u) (vectors bs C) rest (λ i j v w p q r. less-behind L d b bs x v w r))
    (λ x z m n r i j y w p q.
    let u = at-map_back (λ u. x ∷ u) (vectors bs C) i y p in
    let t = at-map_back (λ u. z ∷ u) (vectors bs C) j w q in
    less-here L d b bs x z r i j u.0 t.0 y w u.2 t.2)
