-- Equivalences as tests: one link more, and the equivalence that a list of links generates.
use Rattle.std.proofs.Common.{◌≡◌, ℕ, ◌<◌, ◌≤◌, ◌⊎◌, inl, inr, Bool, true, false, ◌&&◌, ◌||◌, ◌==◌, List, [], ◌∷◌, refl, sym, ◌∙◌, subst, arith, All, Contains}
use Rattle.std.proofs.lemmas.Bool.{cases_Bool, both_ways, false_from_ne_true, and_parts, or_cases, or_left, eq-eqb, eqb-true}
use Rattle.std.proofs.lemmas.List.Elements.{All-head, All-tail, All-cons, All-weaker, All-contains, All-contains_itself}
use Rattle.permutations.specs.Relation.{IsEquivalence, join, connected}

-- two tests with the same answer `true` are equal
pub same-tests : (a b : Bool) → (a ≡ true → b ≡ true) → (b ≡ true → a ≡ true) → a ≡ b
same-tests a b f g = grind (arith, f, g, cases_Bool a, cases_Bool b)

-- the test of equality is an equivalence
pub equal-equivalence : IsEquivalence (λ x y. x == y)
equal-equivalence = record {
  reflexive = λ x. eq-eqb x x refl;
  symmetric = λ x y h. eq-eqb y x (sym (eqb-true x y h));
  transitive = λ x y z h k. eq-eqb x z (eqb-true x y h ∙ eqb-true y z k);
}

-- having one value under f is an equivalence
pub kernel-equivalence : (f : ℕ → ℕ) → IsEquivalence (λ x y. f x == f y)
kernel-equivalence f = record {
  reflexive = λ x. eq-eqb (f x) (f x) refl;
  symmetric = λ x y h. eq-eqb (f y) (f x) (sym (eqb-true (f x) (f y) h));
  transitive = λ x y z h k. eq-eqb (f x) (f z) (eqb-true (f x) (f y) h ∙ eqb-true (f y) (f z) k);
}

-- what was related stays so after one link more
pub join-old : (r : ℕ → ℕ → Bool) (p q x y : ℕ) → r x y ≡ true → join r p q x y ≡ true
join-old r p q x y h = or_left (r x y) ((r x p && r q y) || (r x q && r p y)) h

-- across the link, from p's side to q's
pub join-across : (r : ℕ → ℕ → Bool) (p q x y : ℕ) → r x p ≡ true → r q y ≡ true → join r p q x y ≡ true
join-across r p q x y h k = grind arith

-- across the link, from q's side to p's
pub join-back : (r : ℕ → ℕ → Bool) (p q x y : ℕ) → r x q ≡ true → r p y ≡ true → join r p q x y ≡ true
join-back r p q x y h k = grind arith

-- the three ways to be related after one link more
pub join-cases : (r : ℕ → ℕ → Bool) (p q x y : ℕ) → join r p q x y ≡ true → (r x y ≡ true) ⊎ ((r x p ≡ true) × (r q y ≡ true)) ⊎ ((r x q ≡ true) × (r p y ≡ true))
join-cases r p q x y h = elim (or_cases (r x y) ((r x p && r q y) || (r x q && r p y)) h) [
  | inl a ↦ inl a
  | inr b ↦ elim (or_cases (r x p && r q y) (r x q && r p y) b) [
    | inl c ↦ inr (inl (and_parts (r x p) (r q y) c))
    | inr d ↦ inr (inr (and_parts (r x q) (r p y) d))
  ]
]

-- with one link more an equivalence is one still
pub join-equivalence : (r : ℕ → ℕ → Bool) (p q : ℕ) → IsEquivalence r → IsEquivalence (join r p q)
join-equivalence r p q e = record { reflexive = λ x. join-old r p q x x (e.reflexive x); symmetric = s; transitive = t }
  where
    s : (x y : ℕ) → join r p q x y ≡ true → join r p q y x ≡ true
    s x y h = grind (arith, join-cases r p q x y h, e.symmetric)

    t : (x y z : ℕ) → join r p q x y ≡ true → join r p q y z ≡ true → join r p q x z ≡ true
    t x y z h k = grind (arith, join-cases r p q x y h, join-cases r p q y z k, e.symmetric, e.transitive)

-- the two ends of the link are related
pub join-link : (r : ℕ → ℕ → Bool) (p q : ℕ) → IsEquivalence r → join r p q p q ≡ true
join-link r p q e = join-across r p q p q (e.reflexive p) (e.reflexive q)

-- an equivalence that contains r and the link contains the join, with values in types
pub join-least-typed : (r : ℕ → ℕ → Bool) (p q : ℕ) (S : ℕ → ℕ → Type 0)
    → ((x y : ℕ) → S x y → S y x) → ((x y z : ℕ) → S x y → S y z → S x z)
    → ((x y : ℕ) → r x y ≡ true → S x y) → S p q
    → (x y : ℕ) → join r p q x y ≡ true → S x y
join-least-typed r p q S s t c l x y h = elim (join-cases r p q x y h) [
  | inl a ↦ c x y a
  | inr b ↦ elim b [
    | inl d ↦ t x p y (c x p d.0) (t p q y l (c q y d.1))
    | inr d ↦ t x q y (c x q d.0) (t q p y (s p q l) (c p y d.1))
  ]
]

-- an equivalence that contains r and the link contains the join
pub join-least : (r s : ℕ → ℕ → Bool) (p q : ℕ) → IsEquivalence s → ((x y : ℕ) → r x y ≡ true → s x y ≡ true) → s p q ≡ true → (x y : ℕ) → join r p q x y ≡ true → s x y ≡ true
join-least r s p q e c l x y h = join-least-typed r p q (λ a b. s a b ≡ true) e.symmetric e.transitive c l x y h

-- a link between related numbers adds nothing
pub join-trivial : (r : ℕ → ℕ → Bool) (p q : ℕ) → IsEquivalence r → r p q ≡ true → (x y : ℕ) → join r p q x y ≡ r x y
join-trivial r p q e l x y = same-tests (join r p q x y) (r x y) (join-least r r p q e (λ a b h. h) l x y) (join-old r p q x y)

-- relations that agree have one join
pub join-ext : (r s : ℕ → ℕ → Bool) (p q : ℕ) → ((x y : ℕ) → r x y ≡ s x y) → (x y : ℕ) → join r p q x y ≡ join s p q x y
join-ext r s p q h x y = rw (h x y, h x p, h q y, h x q, h p y) refl

-- being connected by links is an equivalence
pub connected-equivalence : (links : List (ℕ × ℕ)) → IsEquivalence (connected links)
connected-equivalence [] = equal-equivalence
connected-equivalence (link ∷ links) = join-equivalence (connected links) link.0 link.1 (connected-equivalence links)

-- each number is connected to itself
pub connected-reflexive : (links : List (ℕ × ℕ)) (x : ℕ) → connected links x x ≡ true
connected-reflexive links x = (connected-equivalence links).reflexive x

-- connected, read the other way round
pub connected-symmetric : (links : List (ℕ × ℕ)) (x y : ℕ) → connected links x y ≡ true → connected links y x ≡ true
connected-symmetric links x y h = (connected-equivalence links).symmetric x y h

-- connected one after the other
pub connected-transitive : (links : List (ℕ × ℕ)) (x y z : ℕ) → connected links x y ≡ true → connected links y z ≡ true → connected links x z ≡ true
connected-transitive links x y z h k = (connected-equivalence links).transitive x y z h k

-- connected by the links behind the first
pub connected-more : (link : ℕ × ℕ) (links : List (ℕ × ℕ)) (x y : ℕ) → connected links x y ≡ true → connected (link ∷ links) x y ≡ true
connected-more link links x y h = join-old (connected links) link.0 link.1 x y h

-- the ends of the first link are connected
pub connected-first : (link : ℕ × ℕ) (links : List (ℕ × ℕ)) → connected (link ∷ links) link.0 link.1 ≡ true
connected-first link links = join-link (connected links) link.0 link.1 (connected-equivalence links)

-- the ends of each link are connected
pub connected-links : (links : List (ℕ × ℕ)) → All (λ link. connected links link.0 link.1 ≡ true) links
connected-links [] = λ k d l. absurd (omega arith)
connected-links (link ∷ links) = All-cons (λ l. connected (link ∷ links) l.0 l.1 ≡ true) link links (connected-first link links)
    (All-weaker (λ l. connected links l.0 l.1 ≡ true) (λ l. connected (link ∷ links) l.0 l.1 ≡ true) (λ l h. connected-more link links l.0 l.1 h) links (connected-links links))

-- the ends of a link of the list are connected
pub connected-link : (links : List (ℕ × ℕ)) (p q : ℕ) → Contains links (p, q) → connected links p q ≡ true
connected-link links p q c = All-contains (λ l. connected links l.0 l.1 ≡ true) links (p, q) (connected-links links) c

-- the least: a relation with values in types, reflexive, symmetric and transitive, that contains each link contains `connected`
pub connected-least-typed : (links : List (ℕ × ℕ)) (S : ℕ → ℕ → Type 0)
    → ((x : ℕ) → S x x) → ((x y : ℕ) → S x y → S y x) → ((x y z : ℕ) → S x y → S y z → S x z)
    → All (λ link. S link.0 link.1) links
    → (x y : ℕ) → connected links x y ≡ true → S x y
connected-least-typed [] S r s t a x y h = subst (λ (z : ℕ). S x z) (eqb-true x y h) (r x)
connected-least-typed (link ∷ links) S r s t a x y h = join-least-typed (connected links) link.0 link.1 S s t
    (connected-least-typed links S r s t (All-tail (λ l. S l.0 l.1) link links a))
    (All-head (λ l. S l.0 l.1) link links a) x y h

-- the least: an equivalence that contains each link contains `connected`
pub connected-least : (links : List (ℕ × ℕ)) (s : ℕ → ℕ → Bool) → IsEquivalence s → All (λ link. s link.0 link.1 ≡ true) links → (x y : ℕ) → connected links x y ≡ true → s x y ≡ true
connected-least links s e a x y h = connected-least-typed links (λ u v. s u v ≡ true) e.reflexive e.symmetric e.transitive a x y h

-- the same, with the links named one by one
pub connected-least_containing : (links : List (ℕ × ℕ)) (s : ℕ → ℕ → Bool) → IsEquivalence s → ((p q : ℕ) → Contains links (p, q) → s p q ≡ true) → (x y : ℕ) → connected links x y ≡ true → s x y ≡ true
connected-least_containing links s e a x y h = connected-least links s e (All-weaker (Contains links) (λ link. s link.0 link.1 ≡ true) (λ link c. a link.0 link.1 c) links (All-contains_itself links)) x y h

-- a value that the two ends of each link share is constant on classes
pub connected-value : {X : Type 0} (links : List (ℕ × ℕ)) (f : ℕ → X) → All (λ link. f link.0 ≡ f link.1) links → (x y : ℕ) → connected links x y ≡ true → f x ≡ f y
connected-value links f a x y h = connected-least-typed links (λ u v. f u ≡ f v) (λ u. refl) (λ u v e. sym e) (λ u v w e d. e ∙ d) a x y h

-- a test that the links respect is constant on classes
pub connected-closed : (links : List (ℕ × ℕ)) (a : ℕ → Bool) → All (λ link. a link.0 ≡ a link.1) links → (x y : ℕ) → connected links x y ≡ true → a x ≡ a y
connected-closed links a h x y c = connected-value links a h x y c

-- two numbers that a test respected by the links tells apart are not connected
pub connected-apart : (links : List (ℕ × ℕ)) (a : ℕ → Bool) → All (λ link. a link.0 ≡ a link.1) links → (x y : ℕ) → a x ≡ true → a y ≡ false → connected links x y ≡ false
connected-apart links a h x y t f = false_from_ne_true (connected links x y) (λ c. both_ways (a y) f (sym (connected-closed links a h x y c) ∙ t))

-- links that are connected by others add nothing to them: order and repetition do not matter
pub connected-subset : (links others : List (ℕ × ℕ)) → All (λ link. connected others link.0 link.1 ≡ true) links → (x y : ℕ) → connected links x y ≡ true → connected others x y ≡ true
connected-subset links others a x y h = connected-least links (connected others) (connected-equivalence others) a x y h
