-- What is proved of counting, relations, permutations and cyclic orders, as statements.
use Rattle.std.specs.Prelude.{◌≡◌, ◌≢◌, ℕ, ◌+◌, ◌<◌, ◌≤◌, ◌↔◌, Bool, true, false, cond, List, [], ◌∷◌, ◌++◌, reverse, length, map, filter, ◌==◌, Contains, IsPermutation}
use Rattle.permutations.specs.Count.{count, sum_below}
use Rattle.permutations.specs.Relation.{IsEquivalence, join, connected, leads, class_count, class_count_in, class_size}
use Rattle.permutations.specs.Permutation.{Permutes, same_orbit, reaches, orbit_count}
use Rattle.permutations.specs.Exchange.{exchange, taken_out}
use Rattle.permutations.specs.Members.{is_member, is_distinct}
use Rattle.permutations.specs.Cyclic.{first_or, successor, predecessor, turned, from_least, IsTurn}
use Rattle.permutations.specs.Ring.{ring}
use Rattle.permutations.specs.Runs.{joined, group_keys, InRuns, NothingCrosses}

-- of n + 1 numbers below n two are equal
abbrev pub TwoShareAHole : Type 0
TwoShareAHole = (n : ℕ) (f : ℕ → ℕ) → ((x : ℕ) → x < n + 1 → f x < n) → (i j : ℕ) × (i < j) × (j < n + 1) × (f i ≡ f j)

-- what f carries one to one into the numbers that pass q is no more than those
abbrev pub InjectionsCount : Type 0
InjectionsCount = (n m : ℕ) (p q : ℕ → Bool) (f : ℕ → ℕ)
    → ((x : ℕ) → x < n → p x ≡ true → f x < m) → ((x : ℕ) → x < n → p x ≡ true → q (f x) ≡ true)
    → ((x y : ℕ) → x < n → y < n → p x ≡ true → p y ≡ true → f x ≡ f y → x ≡ y) → count n p ≤ count m q

-- being connected by links is an equivalence
abbrev pub ConnectionIsEquivalence : Type 0
ConnectionIsEquivalence = (links : List (ℕ × ℕ)) → IsEquivalence (connected links)

-- the two ends of each link are connected
abbrev pub LinksConnect : Type 0
LinksConnect = (links : List (ℕ × ℕ)) (p q : ℕ) → Contains links (p, q) → connected links p q ≡ true

-- each equivalence that contains the links contains what they connect
abbrev pub ConnectionIsLeast : Type 0
ConnectionIsLeast = (links : List (ℕ × ℕ)) (s : ℕ → ℕ → Bool) → IsEquivalence s → ((p q : ℕ) → Contains links (p, q) → s p q ≡ true) → (x y : ℕ) → connected links x y ≡ true → s x y ≡ true

-- a link within a class leaves the number of classes
abbrev pub LinkWithinAClass : Type 0
LinkWithinAClass = (n : ℕ) (r : ℕ → ℕ → Bool) (p q : ℕ) → IsEquivalence r → r p q ≡ true → class_count n (join r p q) ≡ class_count n r

-- a link between two classes makes one of them
abbrev pub LinkBetweenClasses : Type 0
LinkBetweenClasses = (n : ℕ) (r : ℕ → ℕ → Bool) (p q : ℕ) → IsEquivalence r → p < n → q < n → r p q ≡ false → class_count n (join r p q) + 1 ≡ class_count n r

-- a finer equivalence has at least as many classes
abbrev pub FinerHasMore : Type 0
FinerHasMore = (n : ℕ) (r s : ℕ → ℕ → Bool) → ((x y : ℕ) → r x y ≡ true → s x y ≡ true) → class_count n s ≤ class_count n r

-- with no more classes it is the same below n
abbrev pub FinerIsSame : Type 0
FinerIsSame = (n : ℕ) (r s : ℕ → ℕ → Bool) → IsEquivalence r → IsEquivalence s → ((x y : ℕ) → r x y ≡ true → s x y ≡ true) → class_count n r ≤ class_count n s → (x y : ℕ) → x < n → y < n → s x y ≡ r x y

-- f renumbers the members of d as members of e, keeps the relation, and reaches each class: equally many classes here and there
abbrev pub RenumberingKeepsClasses : Type 0
RenumberingKeepsClasses = (n m : ℕ) (d e : ℕ → Bool) (r s : ℕ → ℕ → Bool) (f : ℕ → ℕ) → IsEquivalence s
    → ((x : ℕ) → x < n → d x ≡ true → f x < m) → ((x : ℕ) → x < n → d x ≡ true → e (f x) ≡ true)
    → ((x y : ℕ) → x < n → y < n → d x ≡ true → d y ≡ true → r x y ≡ s (f x) (f y))
    → ((y : ℕ) → y < m → e y ≡ true → (x : ℕ) × (x < n) × (d x ≡ true) × (s (f x) y ≡ true))
    → class_count_in n d r ≡ class_count_in m e s

-- the sizes of the classes add up to the number of all
abbrev pub SizesAddUp : Type 0
SizesAddUp = (n : ℕ) (t : ℕ → Bool) (r : ℕ → ℕ → Bool) → IsEquivalence r → sum_below n (λ x. cond (leads r x) (class_size n t r x) 0) ≡ count n t

-- numbers are in one orbit exactly where steps lead from one to the other
abbrev pub OrbitsAreReached : Type 0
OrbitsAreReached = (n : ℕ) (f g : ℕ → ℕ) → Permutes n f g → (x y : ℕ) → x < n → same_orbit n f x y ≡ reaches n f x y

-- exchanging what follows two numbers of different orbits makes one orbit of them
abbrev pub ExchangeJoins : Type 0
ExchangeJoins = (n : ℕ) (f g : ℕ → ℕ) → Permutes n f g → (p q : ℕ) → p < n → q < n → same_orbit n f p q ≡ false → orbit_count n (exchange p q f) + 1 ≡ orbit_count n f

-- exchanging what follows two numbers of one orbit parts it in two
abbrev pub ExchangeParts : Type 0
ExchangeParts = (n : ℕ) (f g : ℕ → ℕ) → Permutes n f g → (p q : ℕ) → p < n → q < n → p ≢ q → same_orbit n f p q ≡ true → orbit_count n (exchange p q f) ≡ orbit_count n f + 1

-- the successor of a member is a member
abbrev pub SuccessorStays : Type 0
SuccessorStays = (l : List ℕ) (x : ℕ) → is_member x l ≡ true → is_member (successor l x) l ≡ true

-- the predecessor of the successor is the member
abbrev pub PredecessorOfSuccessor : Type 0
PredecessorOfSuccessor = (l : List ℕ) (x : ℕ) → is_distinct l ≡ true → predecessor l (successor l x) ≡ x

-- the successor of the predecessor is the member
abbrev pub SuccessorOfPredecessor : Type 0
SuccessorOfPredecessor = (l : List ℕ) (x : ℕ) → is_distinct l ≡ true → successor l (predecessor l x) ≡ x

-- a list turned to a member begins with it
abbrev pub TurnedBegins : Type 0
TurnedBegins = (l : List ℕ) (y d : ℕ) → is_member y l ≡ true → first_or d (turned l y) ≡ y

-- a list turned holds the same members in another order
abbrev pub TurnedRearranges : Type 0
TurnedRearranges = (l : List ℕ) (y : ℕ) → IsPermutation l (turned l y)

-- turning leaves each member its successor
abbrev pub TurnedKeepsSuccessors : Type 0
TurnedKeepsSuccessors = (l : List ℕ) (y x : ℕ) → is_distinct l ≡ true → successor (turned l y) x ≡ successor l x

-- lists without repetition with the same first member, the same members and the same successors are equal
abbrev pub SuccessorsTellLists : Type 0
SuccessorsTellLists = (l k : List ℕ) → is_distinct l ≡ true → is_distinct k ≡ true → first_or 0 l ≡ first_or 0 k → ((z : ℕ) → is_member z l ≡ is_member z k) → ((z : ℕ) → successor l z ≡ successor k z) → l ≡ k

-- lists without repetition are one cyclic order exactly where they have one normal form
abbrev pub NormalFormsTellOrders : Type 0
NormalFormsTellOrders = (l k : List ℕ) → is_distinct l ≡ true → (from_least l ≡ from_least k) ↔ IsTurn l k

-- the mirror is reversed
abbrev pub MirrorGoesBack : Type 0
MirrorGoesBack = (l : List ℕ) (x : ℕ) → is_distinct l ≡ true → successor (from_least (reverse l)) x ≡ predecessor l x

-- the mirror of the mirror is the normal form
abbrev pub MirrorTwice : Type 0
MirrorTwice = (l : List ℕ) → is_distinct l ≡ true → from_least (reverse (from_least (reverse l))) ≡ from_least l

-- the ring of a number holds its orbit
abbrev pub RingHoldsOrbit : Type 0
RingHoldsOrbit = (n : ℕ) (f g : ℕ → ℕ) → Permutes n f g → (x : ℕ) → x < n → (y : ℕ) → is_member y (ring n f x) ≡ same_orbit n f x y

-- without repetition
abbrev pub RingIsDistinct : Type 0
RingIsDistinct = (n : ℕ) (f g : ℕ → ℕ) → Permutes n f g → (x : ℕ) → x < n → is_distinct (ring n f x) ≡ true

-- each followed by its image
abbrev pub RingFollows : Type 0
RingFollows = (n : ℕ) (f g : ℕ → ℕ) → Permutes n f g → (x : ℕ) → x < n → (y : ℕ) → is_member y (ring n f x) ≡ true → successor (ring n f x) y ≡ f y

-- what fails the test taken out of a permutation: the ring of a number that passes is what passes of its ring
abbrev pub RingTakenOut : Type 0
RingTakenOut = (n : ℕ) (keep : ℕ → Bool) (f g : ℕ → ℕ) → Permutes n f g → (x : ℕ) → x < n → keep x ≡ true → ring n (taken_out keep n f) x ≡ filter keep (ring n f x)

-- two rings, one that ends in p and one that ends in q: exchanged there, they are one ring, one after the other
abbrev pub RingsJoined : Type 0
RingsJoined = (n : ℕ) (f g : ℕ → ℕ) → Permutes n f g → (x y p q : ℕ) (a c : List ℕ) → x < n → y < n → same_orbit n f p q ≡ false
    → ring n f x ≡ a ++ p ∷ [] → ring n f y ≡ c ++ q ∷ [] → ring n (exchange p q f) x ≡ (a ++ p ∷ []) ++ (c ++ q ∷ [])

-- one ring of two parts, that end in p and in q: exchanged there, the first part is a ring
abbrev pub RingParted : Type 0
RingParted = (n : ℕ) (f g : ℕ → ℕ) → Permutes n f g → (x p q : ℕ) (a c : List ℕ) → x < n → ring n f x ≡ (a ++ p ∷ []) ++ (c ++ q ∷ []) → ring n (exchange p q f) x ≡ a ++ p ∷ []

-- a cyclic order falls into runs exactly where nothing crosses
abbrev pub RunsWhereNothingCrosses : Type 0
RunsWhereNothingCrosses = (key : ℕ → ℕ) (l : List ℕ) → is_distinct l ≡ true → ((gs : List (ℕ × List ℕ)) × InRuns key l gs) ↔ NothingCrosses key l

-- with at least two keys it does so in one way, but for the run that is begun with
abbrev pub RunsAreUnique : Type 0
RunsAreUnique = (key : ℕ → ℕ) (l : List ℕ) (gs hs : List (ℕ × List ℕ)) → is_distinct l ≡ true → InRuns key l gs → InRuns key l hs → 1 < length gs → IsTurn gs hs

-- each run is what has its key, in the order of the whole
abbrev pub RunsToldByKeys : Type 0
RunsToldByKeys = (key : ℕ → ℕ) (l : List ℕ) (gs : List (ℕ × List ℕ)) → InRuns key l gs → map (λ k. (k, filter (λ x. key x == k) (joined gs))) (group_keys gs) ≡ gs
