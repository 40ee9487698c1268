-- Lists whose members are related to the next ones, and other forms of lists by recursion.
use Rattle.std.proofs.Common.{◌≡◌, ℕ, zero, suc, ◌⊎◌, inl, inr, List, [], ◌∷◌, ◌++◌, All, Any, arith, refl, sym, subst, ap}
use Rattle.plane_points.proofs.Rising.{Each, Rises}
use Rattle.stacked_points.specs.Contours.{Successive}

pub chain-map : (R S : ℕ × ℕ → ℕ × ℕ → Type 0) → ((a b : ℕ × ℕ) → R a b → S a b) → (l : List (ℕ × ℕ)) → Successive R l → Successive S l
chain-map R S f [] c = tt
chain-map R S f (a ∷ []) c = tt
chain-map R S f (a ∷ b ∷ l) c = (f a b c.0, chain-map R S f (b ∷ l) c.1)

pub chain-both : (R S : ℕ × ℕ → ℕ × ℕ → Type 0) (l : List (ℕ × ℕ)) → Successive R l → Successive S l → Successive (λ a b. R a b × S a b) l
chain-both R S [] c d = tt
chain-both R S (a ∷ []) c d = tt
chain-both R S (a ∷ b ∷ l) c d = ((c.0, d.0), chain-both R S (b ∷ l) c.1 d.1)

-- with a property of each member
pub chain-each : (P : ℕ × ℕ → Type 0) (R : ℕ × ℕ → ℕ × ℕ → Type 0) (l : List (ℕ × ℕ)) → Each P l → Successive R l → Successive (λ a b. (P a × P b) × R a b) l
chain-each P R [] e c = tt
chain-each P R (a ∷ []) e c = tt
chain-each P R (a ∷ b ∷ l) e c = (((e.0, e.1.0), c.0), chain-each P R (b ∷ l) e.1 c.1)

pub rises-chain : (R : ℕ × ℕ → ℕ × ℕ → Type 0) (l : List (ℕ × ℕ)) → Rises R l → Successive R l
rises-chain R [] r = tt
rises-chain R (a ∷ []) r = tt
rises-chain R (a ∷ b ∷ l) r = (r.0.0, rises-chain R (b ∷ l) r.1)

-- lists that share one member
pub chain-first : (R : ℕ × ℕ → ℕ × ℕ → Type 0) (f : List (ℕ × ℕ)) (x : ℕ × ℕ) (g : List (ℕ × ℕ)) → Successive R (f ++ x ∷ g) → Successive R (f ++ x ∷ [])
chain-first R [] x g c = tt
chain-first R (a ∷ []) x g c = (c.0, tt)
chain-first R (a ∷ b ∷ f) x g c = (c.0, chain-first R (b ∷ f) x g c.1)

pub chain-second : (R : ℕ × ℕ → ℕ × ℕ → Type 0) (f : List (ℕ × ℕ)) (x : ℕ × ℕ) (g : List (ℕ × ℕ)) → Successive R (f ++ x ∷ g) → Successive R (x ∷ g)
chain-second R [] x g c = c
chain-second R (a ∷ []) x g c = c.1
chain-second R (a ∷ b ∷ f) x g c = chain-second R (b ∷ f) x g c.1

pub chain-join : (R : ℕ × ℕ → ℕ × ℕ → Type 0) (f : List (ℕ × ℕ)) (x : ℕ × ℕ) (g : List (ℕ × ℕ)) → Successive R (f ++ x ∷ []) → Successive R (x ∷ g) → Successive R (f ++ x ∷ g)
chain-join R [] x g c d = d
chain-join R (a ∷ []) x g c d = (c.0, d)
chain-join R (a ∷ b ∷ f) x g c d = (c.0, chain-join R (b ∷ f) x g c.1 d)

-- to and from the forms by places
pub all-each : (P : ℕ × ℕ → Type 0) (l : List (ℕ × ℕ)) → All P l → Each P l
all-each P [] e = tt
all-each P (x ∷ l) e = (e 0 x (omega arith), all-each P l (λ j d h. e (suc j) d (omega (arith, h))))

pub each-all : (P : ℕ × ℕ → Type 0) (l : List (ℕ × ℕ)) → Each P l → All P l
each-all P [] e j d h = absurd (omega (arith, h))
each-all P (x ∷ l) e zero d h = e.0
each-all P (x ∷ l) e (suc j) d h = each-all P l e.1 j d (omega (arith, h))

-- some member has the property
abbrev pub Found : (ℕ × ℕ → Type 0) → List (ℕ × ℕ) → Type 0
Found P [] = ⊥
Found P (x ∷ l) = P x ⊎ Found P l

pub any-found : (P : ℕ × ℕ → Type 0) (l : List (ℕ × ℕ)) → Any P l → Found P l
any-found P [] (k, x, h, e, p) = absurd (omega (arith, h))
any-found P (y ∷ l) (zero, x, h, e, p) = inl (subst P (sym e) p)
any-found P (y ∷ l) (suc k, x, h, e, p) = inr (any-found P l (k, x, omega (arith, h), e, p))

pub found-any : (P : ℕ × ℕ → Type 0) (l : List (ℕ × ℕ)) → Found P l → Any P l
found-any P [] f = absurd f
found-any P (y ∷ l) (inl p) = (0, y, omega arith, refl, p)
found-any P (y ∷ l) (inr f) = later (found-any P l f)
  where
    later : Any P l → Any P (y ∷ l)
    later (k, x, h, e, p) = (suc k, x, omega (arith, h), e, p)

-- what holds of a member wherever the list is cut at it
pub each-cut : (P : ℕ × ℕ → Type 0) (l : List (ℕ × ℕ)) → ((f : List (ℕ × ℕ)) (w : ℕ × ℕ) (g : List (ℕ × ℕ)) → f ++ w ∷ g ≡ l → P w) → Each P l
each-cut P [] c = tt
each-cut P (x ∷ l) c = (c [] x l refl, each-cut P l (λ f w g e. c (x ∷ f) w g (ap (λ (m : List (ℕ × ℕ)). x ∷ m) e)))

-- two properties of each member
pub each-both : (P Q : ℕ × ℕ → Type 0) (l : List (ℕ × ℕ)) → Each P l → Each Q l → Each (λ a. P a × Q a) l
each-both P Q [] e f = tt
each-both P Q (x ∷ l) e f = ((e.0, f.0), each-both P Q l e.1 f.1)

-- lists that end earlier
pub each-short : (P : ℕ × ℕ → Type 0) (f : List (ℕ × ℕ)) (x : ℕ × ℕ) (g : List (ℕ × ℕ)) → Each P (f ++ x ∷ g) → Each P (f ++ x ∷ [])
each-short P [] x g e = (e.0, tt)
each-short P (a ∷ f) x g e = (e.0, each-short P f x g e.1)

pub rises-short : (R : ℕ × ℕ → ℕ × ℕ → Type 0) (f : List (ℕ × ℕ)) (x : ℕ × ℕ) (g : List (ℕ × ℕ)) → Rises R (f ++ x ∷ g) → Rises R (f ++ x ∷ [])
rises-short R [] x g r = (tt, tt)
rises-short R (a ∷ f) x g r = (each-short (R a) f x g r.0, rises-short R f x g r.1)

-- the member that has a property, and what each has
pub found-each : (P Q : ℕ × ℕ → Type 0) (C : Type 0) → ((x : ℕ × ℕ) → P x → Q x → C) → (l : List (ℕ × ℕ)) → Each P l → Found Q l → C
found-each P Q C f [] e s = absurd s
found-each P Q C f (x ∷ l) e (inl q) = f x e.0 q
found-each P Q C f (x ∷ l) e (inr s) = found-each P Q C f l e.1 s

pub found-parts : (P : ℕ × ℕ → Type 0) (a b : List (ℕ × ℕ)) → Found P (a ++ b) → Found P a ⊎ Found P b
found-parts P [] b s = inr s
found-parts P (x ∷ a) b (inl p) = inl (inl p)
found-parts P (x ∷ a) b (inr s) = elim (found-parts P a b s) [ inl t ↦ inl (inr t) | inr t ↦ inr t ]

pub found-first : (P : ℕ × ℕ → Type 0) (a b : List (ℕ × ℕ)) → Found P a → Found P (a ++ b)
found-first P [] b s = absurd s
found-first P (x ∷ a) b (inl p) = inl p
found-first P (x ∷ a) b (inr s) = inr (found-first P a b s)

pub found-second : (P : ℕ × ℕ → Type 0) (a b : List (ℕ × ℕ)) → Found P b → Found P (a ++ b)
found-second P [] b s = s
found-second P (x ∷ a) b s = inr (found-second P a b s)
