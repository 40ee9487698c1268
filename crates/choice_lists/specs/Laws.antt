-- What is proved of lists of choices, as statements.
use Rattle.std.specs.Prelude.{◌≡◌, ◌≢◌, ℕ, ◌+◌, ◌*◌, ◌<◌, ◌≤◌, ◌⊎◌, ◌↔◌, Bool, true, false, nat_lt, cond, List, [], ◌∷◌, ◌++◌, length, map, reverse, All, Contains, IsPermutation, Some, None}
use Rattle.permutations.specs.Members.{is_member, is_distinct}
use Rattle.permutations.specs.Cyclic.{first_or, last_or, from_least}
use Rattle.choice_lists.specs.Order.{IsLinear, IsRising, IsFalling, IsAt, Lists, IsLessWhereTheyDiffer, is_before, vector_before}
use Rattle.choice_lists.specs.Arrangements.{factorial, arrangements, factorial_number, lehmer_code, numbered, IsNextArrangement}
use Rattle.choice_lists.specs.Choices.{mirror_choice, IsBondChoice, bond_choices, rigid_choices, IsChoiceList}
use Rattle.choice_lists.specs.Products.{product, IsSelection, product_of, AreDigits, IsFirst, IsLast, AreFirsts, AreLasts, IsNextVector}
use Rattle.choice_lists.specs.Numbers.{radix_number, AreDigitsBelow, digits_of, horner, product_below, from_one_to}
use Rattle.choice_lists.specs.Locks.{locked_lists, AgreeWhereLocked, radices_from, digits_from}

-- the order of choices is a strict linear order
abbrev pub ChoicesAreOrdered : Type 0
ChoicesAreOrdered = IsLinear is_before

-- so is the order of vectors
abbrev pub VectorsAreOrdered : Type 0
VectorsAreOrdered = IsLinear vector_before

-- of two vectors of one length, the first comes before exactly where it is less at the first place where they differ
abbrev pub FirstDifferenceDecides : Type 0
FirstDifferenceDecides = (v w : List (List ℕ)) → length v ≡ length w → ((vector_before v w ≡ true) ↔ IsLessWhereTheyDiffer is_before v w)

-- one place more decides exactly where all places before it are equal
abbrev pub OnePlaceMore : Type 0
OnePlaceMore = (v w : List (List ℕ)) (x y : List ℕ) → length v ≡ length w
    → vector_before (v ++ x ∷ []) (w ++ y ∷ []) ≡ cond (vector_before v w) true (cond (vector_before w v) false (is_before x y))

-- two lists that increase by one order, in which never two come before each other, are equal where they have the same members
abbrev pub MembersTellRisingLists : Type 0
MembersTellRisingLists = (before : List (List ℕ) → List (List ℕ) → Bool) → ((v w : List (List ℕ)) → before v w ≡ true → before w v ≡ false)
    → (l k : List (List (List ℕ))) → IsRising before l → IsRising before k → ((v : List (List ℕ)) → Contains l v ↔ Contains k v) → l ≡ k

-- the arrangements of increasing keys: all of them, in lexicographic order
abbrev pub ArrangementsAreListed : Type 0
ArrangementsAreListed = (keys : List ℕ) → IsRising nat_lt keys → Lists is_before (IsPermutation keys) (arrangements keys)

-- they are as many as the factorial says
abbrev pub ArrangementsAreCounted : Type 0
ArrangementsAreCounted = (keys : List ℕ) → length (arrangements keys) ≡ factorial (length keys)

-- an arrangement is at the place that is its number in the factorial number system
abbrev pub NumberIsPlace : Type 0
NumberIsPlace = (keys a : List ℕ) → IsRising nat_lt keys → IsPermutation keys a → IsAt (arrangements keys) (factorial_number a) a

-- at place i is the arrangement that is worked out from the number i
abbrev pub PlaceIsNumber : Type 0
PlaceIsNumber = (keys : List ℕ) (i : ℕ) → i < factorial (length keys) → IsAt (arrangements keys) i (numbered keys i)

-- the number of the arrangement with the number i is i
abbrev pub NumberOfNumbered : Type 0
NumberOfNumbered = (keys : List ℕ) (i : ℕ) → IsRising nat_lt keys → i < factorial (length keys) → factorial_number (numbered keys i) ≡ i

-- the arrangement with the number of a is a
abbrev pub NumberedByNumber : Type 0
NumberedByNumber = (keys a : List ℕ) → IsRising nat_lt keys → IsPermutation keys a → numbered keys (factorial_number a) ≡ a

-- the factorial number system is a mixed radix: radices n, n - 1, .. , 1, digits the Lehmer code
abbrev pub LehmerDigits : Type 0
LehmerDigits = (a : List ℕ) → AreDigitsBelow (from_one_to (length a)) (lehmer_code a) × (factorial_number a ≡ radix_number (from_one_to (length a)) (lehmer_code a))

-- of the arrangements of increasing keys, each is determined by its number
abbrev pub NumberTellsArrangement : Type 0
NumberTellsArrangement = (keys a b : List ℕ) → IsRising nat_lt keys → IsPermutation keys a → IsPermutation keys b → factorial_number a ≡ factorial_number b → a ≡ b

-- a number is below the factorial
abbrev pub NumberIsBelow : Type 0
NumberIsBelow = (a : List ℕ) → factorial_number a < factorial (length a)

-- the next arrangement is at the next place
abbrev pub NextArrangementFollows : Type 0
NextArrangementFollows = (keys a b : List ℕ) (i : ℕ) → IsRising nat_lt keys → IsAt (arrangements keys) i a → IsNextArrangement a b → IsAt (arrangements keys) (i + 1) b

-- it is an arrangement of the same keys, and its number is one more
abbrev pub NextArrangementRearranges : Type 0
NextArrangementRearranges = (a b : List ℕ) → IsNextArrangement a b → IsPermutation a b × (factorial_number b ≡ factorial_number a + 1)

-- a list without repetition is decreasing, or there is a next arrangement
abbrev pub FallsOrHasNext : Type 0
FallsOrHasNext = (a : List ℕ) → is_distinct a ≡ true → IsFalling nat_lt a ⊎ ((b : List ℕ) × IsNextArrangement a b)

-- and not both
abbrev pub FallingHasNoNext : Type 0
FallingHasNoNext = (a b : List ℕ) → IsFalling nat_lt a → IsNextArrangement a b → ⊥

-- the choices of a bond: all arrangements of its keys with the least first, in lexicographic order
abbrev pub BondChoicesAreListed : Type 0
BondChoicesAreListed = (key : ℕ) (keys : List ℕ) → IsRising nat_lt (key ∷ keys) → Lists is_before (IsBondChoice (key ∷ keys)) (bond_choices (key ∷ keys))

-- with k keys there are (k - 1)!
abbrev pub BondChoicesAreCounted : Type 0
BondChoicesAreCounted = (key : ℕ) (keys : List ℕ) → length (bond_choices (key ∷ keys)) ≡ factorial (length keys)

-- a choice of a bond is at the place that its number says
abbrev pub BondChoiceIsNumbered : Type 0
BondChoiceIsNumbered = (key : ℕ) (keys choice : List ℕ) → IsRising nat_lt (key ∷ keys) → IsBondChoice (key ∷ keys) choice → IsAt (bond_choices (key ∷ keys)) (factorial_number choice) choice

-- the first choice of a bond is its keys in increasing order
abbrev pub BondBeginsRising : Type 0
BondBeginsRising = (key : ℕ) (keys : List ℕ) → IsRising nat_lt (key ∷ keys) → IsAt (bond_choices (key ∷ keys)) 0 (key ∷ keys)

-- the last is the mirror image of the first
abbrev pub BondEndsMirrored : Type 0
BondEndsMirrored = (key : ℕ) (keys : List ℕ) → IsRising nat_lt (key ∷ keys) → IsLast (bond_choices (key ∷ keys)) (mirror_choice (key ∷ keys))

-- the next choice of a bond: after the first key the next arrangement
abbrev pub NextBondChoice : Type 0
NextBondChoice = (key : ℕ) (keys a b : List ℕ) (i : ℕ) → IsRising nat_lt (key ∷ keys) → IsAt (bond_choices (key ∷ keys)) i (key ∷ a) → IsNextArrangement a b
    → IsAt (bond_choices (key ∷ keys)) (i + 1) (key ∷ b)

-- the mirror image is the cyclic order reversed, written from its least key
abbrev pub MirrorTurnsRound : Type 0
MirrorTurnsRound = (key : ℕ) (keys : List ℕ) → is_distinct (key ∷ keys) ≡ true → ((z : ℕ) → is_member z keys ≡ true → key ≤ z) → from_least (reverse (key ∷ keys)) ≡ mirror_choice (key ∷ keys)

-- the mirror image of the mirror image
abbrev pub MirrorTwice : Type 0
MirrorTwice = (choice : List ℕ) → mirror_choice (mirror_choice choice) ≡ choice

-- a choice of three keys or more is not its own mirror image
abbrev pub MirrorDiffers : Type 0
MirrorDiffers = (choice : List ℕ) → is_distinct choice ≡ true → 3 ≤ length choice → mirror_choice choice ≢ choice

-- the choices of a rigid node: one and its mirror image, in lexicographic order
abbrev pub RigidChoicesAreListed : Type 0
RigidChoicesAreListed = (choice : List ℕ) → mirror_choice choice ≢ choice → Lists is_before (λ c. (c ≡ choice) ⊎ (c ≡ mirror_choice choice)) (rigid_choices choice)

-- there are two
abbrev pub RigidChoicesAreCounted : Type 0
RigidChoicesAreCounted = (choice : List ℕ) → length (rigid_choices choice) ≡ 2

-- the same two from either
abbrev pub RigidChoicesFromEither : Type 0
RigidChoicesFromEither = (choice : List ℕ) → mirror_choice choice ≢ choice → rigid_choices (mirror_choice choice) ≡ rigid_choices choice

-- a choice is the first of the two where the key after the first one is smaller than the last, the second where it is greater
abbrev pub SecondKeyDecides : Type 0
SecondKeyDecides = (key : ℕ) (keys : List ℕ)
    → (first_or key keys < last_or key keys → IsAt (rigid_choices (key ∷ keys)) 0 (key ∷ keys)) × (last_or key keys < first_or key keys → IsAt (rigid_choices (key ∷ keys)) 1 (key ∷ keys))

-- the choices of a node increase
abbrev pub ChoiceListsRise : Type 0
ChoiceListsRise = (l : List (List ℕ)) → IsChoiceList l → IsRising is_before l

-- the last is the mirror image of the first
abbrev pub ChoiceListsEndMirrored : Type 0
ChoiceListsEndMirrored = (l : List (List ℕ)) (choice : List ℕ) → IsChoiceList l → IsFirst l choice → IsLast l (mirror_choice choice)

-- the product of increasing lists: all selections, in the order of vectors
abbrev pub SelectionsAreListed : Type 0
SelectionsAreListed = (lists : List (List (List ℕ))) → All (IsRising is_before) lists → Lists vector_before (IsSelection lists) (product lists)

-- they are as many as the product of the lengths
abbrev pub SelectionsAreCounted : Type 0
SelectionsAreCounted = (lists : List (List (List ℕ))) → length (product lists) ≡ product_of (map length lists)

-- the first vector has each first choice
abbrev pub FirstVector : Type 0
FirstVector = (lists : List (List (List ℕ))) (v : List (List ℕ)) → AreFirsts lists v → IsFirst (product lists) v

-- the last vector has each last choice
abbrev pub LastVector : Type 0
LastVector = (lists : List (List (List ℕ))) (v : List (List ℕ)) → AreLasts lists v → IsLast (product lists) v

-- of the choices of nodes, the last vector is the first one with each choice mirrored
abbrev pub LastVectorIsMirrored : Type 0
LastVectorIsMirrored = (lists : List (List (List ℕ))) (v : List (List ℕ)) → All IsChoiceList lists → IsFirst (product lists) v → IsLast (product lists) (map mirror_choice v)

-- a vector is at the place whose number has its digits: the place of each choice in its own list
abbrev pub PlaceOfVector : Type 0
PlaceOfVector = (lists : List (List (List ℕ))) (v : List (List ℕ)) (digits : List ℕ) → AreDigits lists v digits → IsAt (product lists) (radix_number (map length lists) digits) v

-- each selection has digits, each below its radix
abbrev pub SelectionsHaveDigits : Type 0
SelectionsHaveDigits = (lists : List (List (List ℕ))) (v : List (List ℕ)) → IsSelection lists v → (digits : List ℕ) × AreDigits lists v digits × AreDigitsBelow (map length lists) digits

-- and what is at a place has the digits of its number
abbrev pub DigitsOfPlace : Type 0
DigitsOfPlace = (lists : List (List (List ℕ))) (i : ℕ) (v : List (List ℕ)) → All (IsRising is_before) lists → IsAt (product lists) i v → AreDigits lists v (digits_of (map length lists) i)

-- a number is below the product of its radices
abbrev pub NumberBelowProduct : Type 0
NumberBelowProduct = (radices digits : List ℕ) → AreDigitsBelow radices digits → radix_number radices digits < product_of radices

-- digits to number to digits
abbrev pub DigitsOfNumber : Type 0
DigitsOfNumber = (radices digits : List ℕ) → AreDigitsBelow radices digits → digits_of radices (radix_number radices digits) ≡ digits

-- number to digits to number
abbrev pub NumberOfDigits : Type 0
NumberOfDigits = (radices : List ℕ) (n : ℕ) → n < product_of radices → AreDigitsBelow radices (digits_of radices n) × (radix_number radices (digits_of radices n) ≡ n)

-- one digit after the other from the first
abbrev pub NumberFromTheFirst : Type 0
NumberFromTheFirst = (radices digits : List ℕ) → AreDigitsBelow radices digits → horner 0 radices digits ≡ radix_number radices digits

-- digits in two parts: the number of the first part counts the product of the radices after it
abbrev pub NumberInParts : Type 0
NumberInParts = (radices digits more_radices more_digits : List ℕ) → AreDigitsBelow radices digits
    → radix_number (radices ++ more_radices) (digits ++ more_digits) ≡ radix_number radices digits * product_of more_radices + radix_number more_radices more_digits

-- a product in two parts
abbrev pub ProductInParts : Type 0
ProductInParts = (factors more : List ℕ) → product_of (factors ++ more) ≡ product_of factors * product_of more

-- one digit more at the end: the number so far times the radix, and the digit
abbrev pub NumberFromTheLast : Type 0
NumberFromTheLast = (radices digits : List ℕ) (radix digit : ℕ) → AreDigitsBelow radices digits
    → radix_number (radices ++ radix ∷ []) (digits ++ digit ∷ []) ≡ radix_number radices digits * radix + digit

-- the next vector is at the next place
abbrev pub NextVectorFollows : Type 0
NextVectorFollows = (lists : List (List (List ℕ))) (v w : List (List ℕ)) (i : ℕ) → All (IsRising is_before) lists → IsAt (product lists) i v → IsNextVector lists v w → IsAt (product lists) (i + 1) w

-- a selection has each last choice, or there is a next vector
abbrev pub LastOrHasNext : Type 0
LastOrHasNext = (lists : List (List (List ℕ))) (v : List (List ℕ)) → IsSelection lists v → AreLasts lists v ⊎ ((w : List (List ℕ)) × IsNextVector lists v w)

-- and not both
abbrev pub LastHasNoNext : Type 0
LastHasNoNext = (lists : List (List (List ℕ))) (v w : List (List ℕ)) → All (IsRising is_before) lists → AreLasts lists v → IsNextVector lists v w → ⊥

-- with some places locked: the selections that agree there with the vector, in the order of vectors
abbrev pub LockedAreListed : Type 0
LockedAreListed = (locked : ℕ → Bool) (lists : List (List (List ℕ))) (v : List (List ℕ)) → All (IsRising is_before) lists → IsSelection lists v
    → Lists vector_before (λ w. IsSelection lists w × AgreeWhereLocked locked v w) (product (locked_lists locked v lists))

-- the lists with locked places increase too, so all that is said of products holds of them
abbrev pub LockedListsRise : Type 0
LockedListsRise = (locked : ℕ → Bool) (lists : List (List (List ℕ))) (v : List (List ℕ)) → All (IsRising is_before) lists → All (IsRising is_before) (locked_lists locked v lists)

-- the radices are those of the lists, with 1 at the locked places
abbrev pub LockedRadices : Type 0
LockedRadices = (locked : ℕ → Bool) (lists : List (List (List ℕ))) (v : List (List ℕ)) → IsSelection lists v → map length (locked_lists locked v lists) ≡ radices_from 0 locked (map length lists)

-- the digits are those in the lists, with 0 at the locked places
abbrev pub LockedDigits : Type 0
LockedDigits = (locked : ℕ → Bool) (lists : List (List (List ℕ))) (v w : List (List ℕ)) (digits : List ℕ) → IsSelection lists v → AgreeWhereLocked locked v w → AreDigits lists w digits
    → AreDigits (locked_lists locked v lists) w (digits_from 0 locked digits)

-- with no place locked they are the lists
abbrev pub NoneLocked : Type 0
NoneLocked = (lists : List (List (List ℕ))) (v : List (List ℕ)) → IsSelection lists v → locked_lists (λ k. false) v lists ≡ lists

-- with each factor at least 1, the product taken factor after factor stays below the limit exactly where the whole product does
abbrev pub ProductWithinLimit : Type 0
ProductWithinLimit = (limit : ℕ) (factors : List ℕ) → 1 < limit → All (λ f. 0 < f) factors
    → product_below limit 1 factors ≡ cond (nat_lt (product_of factors) limit) (Some (product_of factors)) None

-- a factorial is the product of the numbers from one
abbrev pub FactorialIsProduct : Type 0
FactorialIsProduct = (n : ℕ) → product_of (from_one_to n) ≡ factorial n
