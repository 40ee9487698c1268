-- A cyclic order written from another member on: `turned` and `IsTurn`.
use Rattle.std.proofs.Common.{◌≡◌, ℕ, inl, inr, Bool, true, false, List, [], ◌∷◌, ◌++◌, length, map, filter, reverse, refl, sym, ap, ◌∙◌, subst, arith, append_assoc, append-nil, IsPermutation}
use Rattle.std.proofs.lemmas.Bool.{cases_Bool, eq-eqb, ne_eqb}
use Rattle.std.proofs.lemmas.List.{reverse-append, length-append, map-append}
use Rattle.std.proofs.lemmas.List.Elements.{filter-append}
use Rattle.std.proofs.lemmas.List.Sorted.{IsPermutation-append_comm}
use Rattle.permutations.specs.Members.{is_member, is_distinct}
use Rattle.permutations.specs.Cyclic.{first_or, successor, predecessor, turned_past, turned, IsTurn}
use Rattle.permutations.proofs.Members.{no_member-head, no_member-tail, member-append_comm, distinct-append_comm, CutAt, cut_at}
use Rattle.permutations.proofs.Successor.{successor-swap, predecessor-swap}

-- the walk to y goes past the members before it
turned_past-cut : (p a : List ℕ) (y : ℕ) (b : List ℕ) → is_member y a ≡ false → turned_past p (a ++ y ∷ b) y ≡ (y ∷ b) ++ (p ++ a)
turned_past-cut p [] y b h = rw (eq-eqb y y refl) (ap (λ (l : List ℕ). y ∷ (b ++ l)) (sym (append-nil p)))
turned_past-cut p (x ∷ a) y b h = rw (ne_eqb x y (no_member-head y x a h))
    (turned_past-cut (p ++ x ∷ []) a y b (no_member-tail y x a h) ∙ ap (λ (l : List ℕ). (y ∷ b) ++ l) (append_assoc p (x ∷ []) a))

-- the walk to one who is no member ends where it began
turned_past-absent : (p l : List ℕ) (y : ℕ) → is_member y l ≡ false → turned_past p l y ≡ p ++ l
turned_past-absent p [] y h = sym (append-nil p)
turned_past-absent p (x ∷ l) y h = rw (ne_eqb x y (no_member-head y x l h)) (turned_past-absent (p ++ x ∷ []) l y (no_member-tail y x l h) ∙ append_assoc p (x ∷ []) l)

-- a list cut at y, turned to y: y and what is behind it, then what was before
pub turned-cut : (a : List ℕ) (y : ℕ) (b : List ℕ) → is_member y a ≡ false → turned (a ++ y ∷ b) y ≡ (y ∷ b) ++ a
turned-cut a y b h = turned_past-cut [] a y b h

-- turned to one who is no member, a list stays as it is
pub turned-absent : (l : List ℕ) (y : ℕ) → is_member y l ≡ false → turned l y ≡ l
turned-absent l y h = turned_past-absent [] l y h

-- turned to its first member, a list stays as it is
pub turned-first : (x : ℕ) (xs : List ℕ) → turned (x ∷ xs) x ≡ x ∷ xs
turned-first x xs = turned-cut [] x xs refl ∙ append-nil (x ∷ xs)

-- a list is a turn of itself
pub IsTurn-refl : {X : Type 0} (l : List X) → IsTurn l l
IsTurn-refl l = record { front = []; back = l; before = refl; after = sym (append-nil l) }

-- turns go both ways
pub IsTurn-sym : {X : Type 0} (l k : List X) → IsTurn l k → IsTurn k l
IsTurn-sym l k t = record { front = t.back; back = t.front; before = t.after; after = t.before }

-- two parts change places
pub IsTurn-swap : {X : Type 0} (a b : List X) → IsTurn (a ++ b) (b ++ a)
IsTurn-swap a b = record { front = a; back = b; before = refl; after = refl }

-- a turn of an equal list
pub IsTurn-same : {X : Type 0} (l k m : List X) → l ≡ k → IsTurn k m → IsTurn l m
IsTurn-same l k m e t = record { front = t.front; back = t.back; before = e ∙ t.before; after = t.after }

-- a list turned to a number is a turn of it
pub turned-turn : (l : List ℕ) (y : ℕ) → IsTurn l (turned l y)
turned-turn l y = elim (cases_Bool (is_member y l)) [
  | inr n ↦ IsTurn-sym (turned l y) l (IsTurn-same (turned l y) l l (turned-absent l y n) (IsTurn-refl l))
  | inl m ↦ let c : CutAt y l = cut_at y l m in record {
    front = c.front;
    back = y ∷ c.back;
    before = c.is;
    after = ap (λ (k : List ℕ). turned k y) c.is ∙ turned-cut c.front y c.back c.first;
  }
]

-- a turn has the same members
pub IsTurn-member : (l k : List ℕ) (x : ℕ) → IsTurn l k → is_member x k ≡ is_member x l
IsTurn-member l k x t = ap (is_member x) t.after ∙ member-append_comm x t.back t.front ∙ sym (ap (is_member x) t.before)

-- a turn of a list without repetition has none
pub IsTurn-distinct : (l k : List ℕ) → IsTurn l k → is_distinct l ≡ true → is_distinct k ≡ true
IsTurn-distinct l k t h = subst (λ (m : List ℕ). is_distinct m ≡ true) (sym t.after) (distinct-append_comm t.front t.back (subst (λ (m : List ℕ). is_distinct m ≡ true) t.before h))

-- a turn is as long
pub IsTurn-length : {X : Type 0} (l k : List X) → IsTurn l k → length k ≡ length l
IsTurn-length l k t = omega (arith, ap length t.after, ap length t.before, length-append t.back t.front, length-append t.front t.back)

-- a turn is an arrangement of the same members
pub IsTurn-permutation : {X : Type 0} (l k : List X) → IsTurn l k → IsPermutation l k
IsTurn-permutation {X} l k t = subst (λ (m : List X). IsPermutation m k) (sym t.before) (subst (λ (m : List X). IsPermutation (t.front ++ t.back) m) (sym t.after) (IsPermutation-append_comm t.front t.back))

-- a turn leaves each member its successor
pub IsTurn-successor : (l k : List ℕ) (x : ℕ) → IsTurn l k → is_distinct l ≡ true → successor k x ≡ successor l x
IsTurn-successor l k x t h = ap (λ (m : List ℕ). successor m x) t.after ∙ sym (successor-swap t.front t.back x (subst (λ (m : List ℕ). is_distinct m ≡ true) t.before h)) ∙ sym (ap (λ (m : List ℕ). successor m x) t.before)

-- a turn leaves each member its predecessor
pub IsTurn-predecessor : (l k : List ℕ) (x : ℕ) → IsTurn l k → is_distinct l ≡ true → predecessor k x ≡ predecessor l x
IsTurn-predecessor l k x t h = ap (λ (m : List ℕ). predecessor m x) t.after ∙ sym (predecessor-swap t.front t.back x (subst (λ (m : List ℕ). is_distinct m ≡ true) t.before h)) ∙ sym (ap (λ (m : List ℕ). predecessor m x) t.before)

-- the mirror of a turn is a turn of the mirror
pub IsTurn-reverse : {X : Type 0} (l k : List X) → IsTurn l k → IsTurn (reverse l) (reverse k)
IsTurn-reverse l k t = record { front = reverse t.back; back = reverse t.front; before = ap reverse t.before ∙ reverse-append t.front t.back; after = ap reverse t.after ∙ reverse-append t.back t.front }

-- a turn, member by member
pub IsTurn-map : {X Y : Type 0} (f : X → Y) (l k : List X) → IsTurn l k → IsTurn (map f l) (map f k)
IsTurn-map f l k t = record { front = map f t.front; back = map f t.back; before = ap (map f) t.before ∙ map-append f t.front t.back; after = ap (map f) t.after ∙ map-append f t.back t.front }

-- the members of a turn that pass a test are a turn of those that do
pub IsTurn-filter : {X : Type 0} (p : X → Bool) (l k : List X) → IsTurn l k → IsTurn (filter p l) (filter p k)
IsTurn-filter p l k t = record { front = filter p t.front; back = filter p t.back; before = ap (filter p) t.before ∙ filter-append p t.front t.back; after = ap (filter p) t.after ∙ filter-append p t.back t.front }

-- a list turned has the same members
pub turned-member : (l : List ℕ) (y x : ℕ) → is_member x (turned l y) ≡ is_member x l
turned-member l y x = IsTurn-member l (turned l y) x (turned-turn l y)

-- a list without repetition has none when it is turned
pub turned-distinct : (l : List ℕ) (y : ℕ) → is_distinct l ≡ true → is_distinct (turned l y) ≡ true
turned-distinct l y h = IsTurn-distinct l (turned l y) (turned-turn l y) h

-- a list turned is as long
pub turned-length : (l : List ℕ) (y : ℕ) → length (turned l y) ≡ length l
turned-length l y = IsTurn-length l (turned l y) (turned-turn l y)

-- a list turned is an arrangement of its members
pub turned-permutation : (l : List ℕ) (y : ℕ) → IsPermutation l (turned l y)
turned-permutation l y = IsTurn-permutation l (turned l y) (turned-turn l y)

-- turning leaves each member its successor
pub turned-successor : (l : List ℕ) (y x : ℕ) → is_distinct l ≡ true → successor (turned l y) x ≡ successor l x
turned-successor l y x h = IsTurn-successor l (turned l y) x (turned-turn l y) h

-- turning leaves each member its predecessor
pub turned-predecessor : (l : List ℕ) (y x : ℕ) → is_distinct l ≡ true → predecessor (turned l y) x ≡ predecessor l x
turned-predecessor l y x h = IsTurn-predecessor l (turned l y) x (turned-turn l y) h

-- a list turned to a member begins with it
pub turned-head : (l : List ℕ) (y : ℕ) → is_member y l ≡ true → (r : List ℕ) × (turned l y ≡ y ∷ r)
turned-head l y m = let c : CutAt y l = cut_at y l m in (c.back ++ c.front, ap (λ (k : List ℕ). turned k y) c.is ∙ turned-cut c.front y c.back c.first)

-- the first of a list turned to a member is that member
pub turned-first_or : (l : List ℕ) (y d : ℕ) → is_member y l ≡ true → first_or d (turned l y) ≡ y
turned-first_or l y d m = let w : (r : List ℕ) × (turned l y ≡ y ∷ r) = turned-head l y m in ap (first_or d) w.1

-- turned to its first member a list stays
pub turned-own : (l : List ℕ) → turned l (first_or 0 l) ≡ l
turned-own [] = refl
turned-own (x ∷ xs) = turned-first x xs
