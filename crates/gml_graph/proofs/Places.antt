-- The place of an id in a list without repetition.
use Rattle.std.proofs.Common.{◌≡◌, ◌≢◌, inl, inr, ℕ, zero, suc, ◌+◌, ◌<◌, ◌≤◌, ℤ, Bool, true, false, cond, not, List, [], ◌∷◌, length, get_or, slice_get, position, Option, Some, None, IsNone, refl, ap, sym, ◌∙◌, arith}
use Rattle.std.proofs.lemmas.Bool.{cases_lt}
use Rattle.std.proofs.lemmas.Bool.Decides.{Decides-int_eq, nat_tests}
use Rattle.std.proofs.lemmas.List.Quantifiers.{position-Some}
use Rattle.std.proofs.lemmas.Map.Keys.{apart_from_distinct}
use Rattle.std.proofs.lemmas.Option.{slice_get-get_or, slice_get_within, get_or_from_slice_get}
use Rattle.std.specs.List.{IsDistinct, position_or_len}
use Rattle.std.specs.Ordering.{int_eq}

-- a place found of an equal id in an equal list
pub position-equal : (ids others : List ℤ) (id other : ℤ) (found : Option ℕ) → found ≡ position (int_eq id) ids → id ≡ other → ids ≡ others → found ≡ position (int_eq other) others
position-equal ids others id other found h same equal = h ∙ ap (λ i. position (int_eq i) ids) same ∙ ap (position (int_eq other)) equal

-- where an id is found, there it stands
pub position-stands : (ids : List ℤ) (id : ℤ) (v : ℕ) → position (int_eq id) ids ≡ Some v → slice_get ids v ≡ Some id
position-stands ids id v e =
    let p = position-Some (int_eq id) ids v id e in
    slice_get-get_or ids v id p.0 ∙ ap Some (sym ((Decides-int_eq id (get_or ids v id)).0 p.1))

-- a place that passes a test isn't before the first one
pub position_or_len-le : {A : Type 0} (p : A → Bool) (xs : List A) (v : ℕ) (x : A) → slice_get xs v ≡ Some x → p x ≡ true → position_or_len p xs ≤ v
position_or_len-le p [] v x e h = absurd (cc)
position_or_len-le p (y ∷ ys) zero x e h = let same : y ≡ x = cc in let t : p y ≡ true = rw same h in rw t (omega arith)
position_or_len-le p (y ∷ ys) (suc v) x e h = later (p y) (position_or_len-le p ys v x e h)
  where
    later : (passes : Bool) → position_or_len p ys ≤ v → cond (not passes) (1 + position_or_len p ys) 0 ≤ suc v
    later true l = omega arith
    later false l = omega arith

-- where an id stands, some place is found
pub position-reached : {A : Type 0} (p : A → Bool) (xs : List A) (v : ℕ) (x : A) → slice_get xs v ≡ Some x → p x ≡ true → position p xs ≡ Some (position_or_len p xs)
position-reached p xs v x e h =
    let l : position_or_len p xs < length xs = omega (arith, position_or_len-le p xs v x e h, slice_get_within xs v x e) in
    grind (arith, nat_tests)

-- where an id stands, there it is found
pub position-found : (ids : List ℤ) (id : ℤ) (v : ℕ) → IsDistinct int_eq ids → slice_get ids v ≡ Some id → position (int_eq id) ids ≡ Some v
position-found ids id v distinct e =
    let same : int_eq id id ≡ true = (Decides-int_eq id id).1 refl in
    let u : ℕ = position_or_len (int_eq id) ids in
    let first : u ≤ v = position_or_len-le (int_eq id) ids v id e same in
    let found : position (int_eq id) ids ≡ Some u = position-reached (int_eq id) ids v id e same in
    let stands : slice_get ids u ≡ Some id = position-stands ids id u found in
    elim (cases_lt u v) [
      | inl l ↦ absurd (twice u l stands)
      | inr l ↦ let z : u ≡ v = omega arith in found ∙ ap Some z
    ]
  where
    twice : (u : ℕ) → u < v → slice_get ids u ≡ Some id → ⊥
    twice u l stands =
        let apart : int_eq (get_or ids u id) (get_or ids v id) ≡ false = apart_from_distinct int_eq ids u v id distinct l (slice_get_within ids v id e) in
        let at_u : get_or ids u id ≡ id = get_or_from_slice_get ids u id id stands in
        let at_v : get_or ids v id ≡ id = get_or_from_slice_get ids v id id e in
        let wrong : int_eq id id ≡ false = rw (at_u, at_v) at apart in
        let right : int_eq id id ≡ true = (Decides-int_eq id id).1 refl in cc

-- nothing is found exactly where the id stands nowhere
pub position-none : (ids : List ℤ) (id : ℤ) (found : Option ℕ) → IsDistinct int_eq ids → found ≡ position (int_eq id) ids → IsNone found → (v : ℕ) → slice_get ids v ≢ Some id
position-none ids id None distinct e h v stands = let z : None ≡ Some v = e ∙ position-found ids id v distinct stands in cc
position-none ids id (Some u) distinct e h v stands = cc

pub position-nowhere : (ids : List ℤ) (id : ℤ) (found : Option ℕ) → found ≡ position (int_eq id) ids → ((v : ℕ) → slice_get ids v ≢ Some id) → IsNone found
position-nowhere ids id None e h = refl
position-nowhere ids id (Some u) e h = absurd (h u (position-stands ids id u (sym e)))
