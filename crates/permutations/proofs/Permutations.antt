-- Permutations with their inverses: composition, exchanges, and what they keep.
use Rattle.std.proofs.Common.{◌≡◌, ℕ, ◌<◌, ◌≤◌, ◌⊎◌, inl, inr, Bool, true, refl, sym, ap, ◌∙◌, subst, arith}
use Rattle.std.proofs.lemmas.Bool.{cases_eq}
use Rattle.std.proofs.lemmas.Bool.Decides.{eqb_tells}
use Rattle.permutations.specs.Count.{count}
use Rattle.permutations.specs.Permutation.{Permutes}
use Rattle.permutations.specs.Exchange.{swapped, exchange}
use Rattle.permutations.proofs.Count.{count-same}
use Rattle.permutations.proofs.Injection.{count-injection}
use mathlib.Core.Path.{fun_ext}

-- the inverse is a permutation, with the first as its inverse
pub permutes-inverse : (n : ℕ) (f g : ℕ → ℕ) → Permutes n f g → Permutes n g f
permutes-inverse n f g b = record { forth = b.back; back = b.forth; back_forth = b.forth_back; forth_back = b.back_forth }

-- nothing moves
pub permutes-identity : (n : ℕ) → Permutes n (λ x. x) (λ x. x)
permutes-identity n = record { forth = λ x l. l; back = λ x l. l; back_forth = λ x l. refl; forth_back = λ x l. refl }

-- one permutation after another
pub permutes-after : (n : ℕ) (f g h k : ℕ → ℕ) → Permutes n f g → Permutes n h k → Permutes n (λ x. f (h x)) (λ x. k (g x))
permutes-after n f g h k b c = record {
  forth = λ x l. b.forth (h x) (c.forth x l);
  back = λ x l. c.back (g x) (b.back x l);
  back_forth = λ x l. ap k (b.back_forth (h x) (c.forth x l)) ∙ c.back_forth x l;
  forth_back = λ x l. ap f (c.forth_back (g x) (b.back x l)) ∙ b.forth_back x l;
}

-- functions that agree with a permutation and its inverse below n
pub permutes-ext : (n : ℕ) (f g h k : ℕ → ℕ) → Permutes n f g → ((x : ℕ) → x < n → h x ≡ f x) → ((x : ℕ) → x < n → k x ≡ g x) → Permutes n h k
permutes-ext n f g h k b s t = record {
  forth = λ x l. subst (λ (z : ℕ). z < n) (sym (s x l)) (b.forth x l);
  back = λ x l. subst (λ (z : ℕ). z < n) (sym (t x l)) (b.back x l);
  back_forth = λ x l. ap k (s x l) ∙ t (f x) (b.forth x l) ∙ b.back_forth x l;
  forth_back = λ x l. ap h (t x l) ∙ s (g x) (b.back x l) ∙ b.forth_back x l;
}

-- different numbers have different images
pub permutes-one-to-one : (n : ℕ) (f g : ℕ → ℕ) → Permutes n f g → (x y : ℕ) → x < n → y < n → f x ≡ f y → x ≡ y
permutes-one-to-one n f g b x y l k e = sym (b.back_forth x l) ∙ ap g e ∙ b.back_forth y k

-- the image is y exactly where the inverse image of y is meant
pub permutes-back : (n : ℕ) (f g : ℕ → ℕ) → Permutes n f g → (x y : ℕ) → x < n → f x ≡ y → g y ≡ x
permutes-back n f g b x y l e = ap g (sym e) ∙ b.back_forth x l

-- what a permutation carries into itself, its inverse does too
pub kept-back : (n : ℕ) (f g : ℕ → ℕ) → Permutes n f g → (a : ℕ → Bool) → ((x : ℕ) → x < n → a x ≡ true → a (f x) ≡ true) → (x : ℕ) → x < n → a (f x) ≡ a x
kept-back n f g b a h x l = sym (count-same n a (λ y. a (f y)) h fewer x l)
  where
    fewer : count n (λ y. a (f y)) ≤ count n a
    fewer = count-injection n n (λ y. a (f y)) a f (λ y k t. b.forth y k) (λ y k t. t) (λ y z k m t u e. permutes-one-to-one n f g b y z k m e)

-- p becomes q
pub swapped-left : (p q : ℕ) → swapped p q p ≡ q
unfolding swapped
swapped-left p q = grind (arith, eqb_tells)

-- q becomes p
pub swapped-right : (p q : ℕ) → swapped p q q ≡ p
unfolding swapped
swapped-right p q = grind (arith, eqb_tells)

-- all else stays
pub swapped-other : (p q x : ℕ) → (x ≡ p → ⊥) → (x ≡ q → ⊥) → swapped p q x ≡ x
unfolding swapped
swapped-other p q x a b = grind (arith, eqb_tells)

-- twice is nothing
pub swapped-twice : (p q x : ℕ) → swapped p q (swapped p q x) ≡ x
swapped-twice p q x = elim (cases_eq x p) [
  | inl e ↦ rw e (ap (swapped p q) (swapped-left p q) ∙ swapped-right p q)
  | inr a ↦ elim (cases_eq x q) [
    | inl e ↦ rw e (ap (swapped p q) (swapped-right p q) ∙ swapped-left p q)
    | inr c ↦ ap (swapped p q) (swapped-other p q x a c) ∙ swapped-other p q x a c
  ]
]

-- it does not matter which comes first
pub swapped-sides : (p q x : ℕ) → swapped p q x ≡ swapped q p x
unfolding swapped
swapped-sides p q x = grind (arith, eqb_tells)

-- numbers below n stay below n
pub swapped-below : (n p q x : ℕ) → p < n → q < n → x < n → swapped p q x < n
swapped-below n p q x a c l = elim (cases_eq x p) [
  | inl e ↦ rw e (subst (λ (z : ℕ). z < n) (sym (swapped-left p q)) c)
  | inr u ↦ elim (cases_eq x q) [
    | inl e ↦ rw e (subst (λ (z : ℕ). z < n) (sym (swapped-right p q)) a)
    | inr v ↦ subst (λ (z : ℕ). z < n) (sym (swapped-other p q x u v)) l
  ]
]

-- an exchange permutes
pub swapped-permutes : (n p q : ℕ) → p < n → q < n → Permutes n (swapped p q) (swapped p q)
swapped-permutes n p q a c = record {
  forth = λ x l. swapped-below n p q x a c l;
  back = λ x l. swapped-below n p q x a c l;
  back_forth = λ x l. swapped-twice p q x;
  forth_back = λ x l. swapped-twice p q x;
}

-- after an exchange, what followed q follows p
pub exchange-left : (p q : ℕ) (f : ℕ → ℕ) → exchange p q f p ≡ f q
unfolding exchange
exchange-left p q f = ap f (swapped-left p q)

-- after an exchange, what followed p follows q
pub exchange-right : (p q : ℕ) (f : ℕ → ℕ) → exchange p q f q ≡ f p
unfolding exchange
exchange-right p q f = ap f (swapped-right p q)

-- elsewhere an exchange changes nothing
pub exchange-other : (p q : ℕ) (f : ℕ → ℕ) (x : ℕ) → (x ≡ p → ⊥) → (x ≡ q → ⊥) → exchange p q f x ≡ f x
unfolding exchange
exchange-other p q f x a c = ap f (swapped-other p q x a c)

-- exchanging twice is nothing
pub exchange-twice : (p q : ℕ) (f : ℕ → ℕ) → exchange p q (exchange p q f) ≡ f
unfolding exchange
exchange-twice p q f = fun_ext (λ x. ap f (swapped-twice p q x))

-- it does not matter which of the two comes first
pub exchange-sides : (p q : ℕ) (f : ℕ → ℕ) → exchange p q f ≡ exchange q p f
unfolding exchange
exchange-sides p q f = fun_ext (λ x. ap f (swapped-sides p q x))

-- an exchange makes a permutation, whose inverse ends with the same two changing places
pub exchange-permutes : (n p q : ℕ) (f g : ℕ → ℕ) → p < n → q < n → Permutes n f g → Permutes n (exchange p q f) (λ x. swapped p q (g x))
unfolding exchange
exchange-permutes n p q f g a c b = permutes-after n f g (swapped p q) (swapped p q) b (swapped-permutes n p q a c)

-- the three cases of an exchange: at p, at q, and elsewhere
pub exchange-cases : (p q : ℕ) (f : ℕ → ℕ) (x : ℕ) → ((x ≡ p) × (exchange p q f x ≡ f q)) ⊎ (((x ≡ q) × (exchange p q f x ≡ f p)) ⊎ ((x ≡ p → ⊥) × (x ≡ q → ⊥) × (exchange p q f x ≡ f x)))
exchange-cases p q f x = elim (cases_eq x p) [
  | inl e ↦ inl (e, ap (exchange p q f) e ∙ exchange-left p q f)
  | inr a ↦ elim (cases_eq x q) [
    | inl e ↦ inr (inl (e, ap (exchange p q f) e ∙ exchange-right p q f))
    | inr c ↦ inr (inr (a, c, exchange-other p q f x a c))
  ]
]
