-- Lists each of whose members is related to all later ones, by recursion.
use Rattle.std.proofs.Common.{ℕ, zero, suc, ◌<◌, List, [], ◌∷◌, ◌++◌, length, slice_index_or, AllPairs, arith}

-- each member has the property
abbrev pub Each : {X : Type 0} → (X → Type 0) → List X → Type 0
Each P [] = Unit {0}
Each P (x ∷ l) = P x × Each P l

-- each member is related to all later ones
abbrev pub Rises : {X : Type 0} → (X → X → Type 0) → List X → Type 0
Rises L [] = Unit {0}
Rises L (x ∷ l) = Each (L x) l × Rises L l

pub each-map : {X : Type 0} (P Q : X → Type 0) → ((x : X) → P x → Q x) → (l : List X) → Each P l → Each Q l
each-map P Q f [] e = tt
each-map P Q f (x ∷ l) e = (f x e.0, each-map P Q f l e.1)

pub rises-map : {X : Type 0} (L K : X → X → Type 0) → ((x y : X) → L x y → K x y) → (l : List X) → Rises L l → Rises K l
rises-map L K f [] r = tt
rises-map L K f (x ∷ l) r = (each-map (L x) (K x) (f x) l r.0, rises-map L K f l r.1)

each-at : {X : Type 0} (P : X → Type 0) (l : List X) → Each P l → (j : ℕ) (d : X) → j < length l → P (slice_index_or l j d)
each-at P [] e j d h = absurd (omega (arith, h))
each-at P (x ∷ l) e zero d h = e.0
each-at P (x ∷ l) e (suc j) d h = each-at P l e.1 j d (omega (arith, h))

each-from : {X : Type 0} (P : X → Type 0) (l : List X) → ((j : ℕ) (d : X) → j < length l → P (slice_index_or l j d)) → Each P l
each-from P [] e = tt
each-from P (x ∷ l) e = (e 0 x (omega arith), each-from P l (λ j d h. e (suc j) d (omega (arith, h))))

-- to and from the form by places
pub rises-pairs : {X : Type 0} (L : X → X → Type 0) (l : List X) → Rises L l → AllPairs L l
rises-pairs L [] r i j d a b = absurd (omega (arith, b))
rises-pairs L (x ∷ l) r i zero d a b = absurd (omega (arith, a))
rises-pairs L (x ∷ l) r zero (suc j) d a b = each-at (L x) l r.0 j d (omega (arith, b))
rises-pairs L (x ∷ l) r (suc i) (suc j) d a b = rises-pairs L l r.1 i j d (omega (arith, a)) (omega (arith, b))

pub pairs-rises : {X : Type 0} (L : X → X → Type 0) (l : List X) → AllPairs L l → Rises L l
pairs-rises L [] r = tt
pairs-rises L (x ∷ l) r = (each-from (L x) l (λ j d h. r 0 (suc j) d (omega arith) (omega (arith, h))), pairs-rises L l (λ i j d a b. r (suc i) (suc j) d (omega (arith, a)) (omega (arith, b))))

-- lists one after the other
pub each-append : {X : Type 0} (P : X → Type 0) (a b : List X) → Each P a → Each P b → Each P (a ++ b)
each-append P [] b e f = f
each-append P (x ∷ a) b e f = (e.0, each-append P a b e.1 f)

pub each-first : {X : Type 0} (P : X → Type 0) (a b : List X) → Each P (a ++ b) → Each P a
each-first P [] b e = tt
each-first P (x ∷ a) b e = (e.0, each-first P a b e.1)

pub each-second : {X : Type 0} (P : X → Type 0) (a b : List X) → Each P (a ++ b) → Each P b
each-second P [] b e = e
each-second P (x ∷ a) b e = each-second P a b e.1

pub rises-append : {X : Type 0} (L : X → X → Type 0) (a b : List X) → Rises L a → Rises L b → Each (λ x. Each (L x) b) a → Rises L (a ++ b)
rises-append L [] b r s e = s
rises-append L (x ∷ a) b r s e = (each-append (L x) a b r.0 e.0, rises-append L a b r.1 s e.1)

pub rises-first : {X : Type 0} (L : X → X → Type 0) (a b : List X) → Rises L (a ++ b) → Rises L a
rises-first L [] b r = tt
rises-first L (x ∷ a) b r = (each-first (L x) a b r.0, rises-first L a b r.1)

pub rises-second : {X : Type 0} (L : X → X → Type 0) (a b : List X) → Rises L (a ++ b) → Rises L b
rises-second L [] b r = r
rises-second L (x ∷ a) b r = rises-second L a b r.1

pub rises-across : {X : Type 0} (L : X → X → Type 0) (a b : List X) → Rises L (a ++ b) → Each (λ x. Each (L x) b) a
rises-across L [] b r = tt
rises-across L (x ∷ a) b r = (each-second (L x) a b r.0, rises-across L a b r.1)
