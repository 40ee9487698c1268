-- Each definition on small instances, by computation.
use Rattle.std.proofs.Common.{◌≡◌, ℕ, zero, suc, ◌+◌, ◌*◌, Bool, true, false, not, ◌&&◌, ◌%◌, ltb, leb, List, [], ◌∷◌, reverse, filter, get_or, refl}
use Rattle.permutations.specs.Count.{count, some, least, sum_below}
use Rattle.permutations.specs.Relation.{join, connected, leads, leader, class_count, class_count_in, class_size}
use Rattle.permutations.specs.Permutation.{iterate, reaches, same_orbit, orbit_count}
use Rattle.permutations.specs.Exchange.{swapped, exchange, unlink, taken_out}
use Rattle.permutations.specs.Members.{is_member, is_distinct}
use Rattle.permutations.specs.Cyclic.{first_or, last_or, least_or, successor, predecessor, turned, from_least, Follows, FollowsAround}
use Rattle.permutations.specs.Ring.{images, orbit_length, ring}
use Rattle.permutations.specs.Runs.{joined, group_keys, grouped, mirrored}

-- the even numbers among 0 to 6
even : ℕ → Bool
even zero = true
even (suc n) = not (even n)

-- 0, 2, 4 and 6
counted : count 7 even ≡ 4
unfolding even
counted = refl

-- none below 0
counted_none : count 0 (λ x. true) ≡ 0
counted_none = refl

-- 5 is greater than 4, nothing below 5 is
searched : some 6 (λ x. ltb 4 x) ≡ true
searched = refl

searched_none : some 5 (λ x. ltb 4 x) ≡ false
searched_none = refl

-- the first number that passes, and the bound where none does
least_there : least 6 (λ x. ltb 2 x) ≡ 3
least_there = refl

least_none : least 3 (λ x. ltb 2 x) ≡ 3
least_none = refl

-- 0 + 1 + 4 + 9
summed : sum_below 4 (λ x. x * x) ≡ 14
summed = refl

-- a path 0 - 2 - 4, a pair 1 - 3, and 5 alone
links : List (ℕ × ℕ)
links = (0, 2) ∷ (3, 1) ∷ (2, 4) ∷ []

linked : connected links 4 0 ≡ true
unfolding links
linked = refl

unlinked : connected links 4 1 ≡ false
unfolding links
unlinked = refl

alone : connected links 5 5 ≡ true
unfolding links
alone = refl

-- the link 1 - 4 makes one class of the path and the pair
joins : join (connected links) 1 4 0 3 ≡ true
unfolding links
joins = refl

-- the leaders are 0, 1 and 5
leaders : filter (leads (connected links)) (0 ∷ 1 ∷ 2 ∷ 3 ∷ 4 ∷ 5 ∷ []) ≡ 0 ∷ 1 ∷ 5 ∷ []
unfolding links
leaders = refl

led : leader (connected links) 4 ≡ 0
unfolding links
led = refl

three_classes : class_count 6 (connected links) ≡ 3
unfolding links
three_classes = refl

-- of 2, 3 and 4 the classes of 2, which has 4 as well, and of 3
classes_among : class_count_in 6 (λ x. leb 2 x && leb x 4) (connected links) ≡ 2
unfolding links
classes_among = refl

size_of_path : class_size 6 (λ x. true) (connected links) 2 ≡ 3
unfolding links
size_of_path = refl

-- the permutation 0 to 3 to 1 to 0, 2 to 4 to 2
turn : ℕ → ℕ
turn x = get_or (3 ∷ 0 ∷ 4 ∷ 1 ∷ 2 ∷ []) x x

thrice : iterate turn 3 1 ≡ 1
unfolding turn
thrice = refl

reached : reaches 5 turn 3 0 ≡ true
unfolding turn
reached = refl

not_reached : reaches 5 turn 3 2 ≡ false
unfolding turn
not_reached = refl

in_orbit : same_orbit 5 turn 1 3 ≡ true
unfolding turn
in_orbit = refl

two_orbits : orbit_count 5 turn ≡ 2
unfolding turn
two_orbits = refl

-- 3 and 2 are in different orbits: exchanged there, the orbits are one
one_orbit : orbit_count 5 (exchange 3 2 turn) ≡ 1
unfolding turn exchange swapped
one_orbit = refl

-- 3 and 0 are in one orbit: exchanged there, it is parted
three_orbits : orbit_count 5 (exchange 3 0 turn) ≡ 3
unfolding turn exchange swapped
three_orbits = refl

taken : unlink 3 turn 0 ≡ 1
unfolding turn unlink
taken = refl

-- without 3 and 4
rest : images (taken_out (λ x. ltb x 3) 5 turn) 3 0 ≡ 0 ∷ 1 ∷ 0 ∷ []
unfolding turn unlink
rest = refl

-- the rings of 0 and of 4
ring_of_three : ring 5 turn 0 ≡ 0 ∷ 3 ∷ 1 ∷ []
unfolding turn
ring_of_three = refl

ring_of_two : ring 5 turn 4 ≡ 4 ∷ 2 ∷ []
unfolding turn
ring_of_two = refl

length_of_orbit : orbit_length 5 turn 3 ≡ 3
unfolding turn
length_of_orbit = refl

rings_joined : ring 5 (exchange 1 2 turn) 0 ≡ 0 ∷ 3 ∷ 1 ∷ 4 ∷ 2 ∷ []
unfolding turn exchange swapped
rings_joined = refl

member : is_member 4 (3 ∷ 1 ∷ 4 ∷ []) ≡ true
member = refl

not_distinct : is_distinct (3 ∷ 1 ∷ 4 ∷ 1 ∷ []) ≡ false
not_distinct = refl

distinct : is_distinct (3 ∷ 1 ∷ 4 ∷ 2 ∷ []) ≡ true
distinct = refl

-- in the cyclic order 3, 1, 4, 2
next : successor (3 ∷ 1 ∷ 4 ∷ 2 ∷ []) 1 ≡ 4
next = refl

next_of_last : successor (3 ∷ 1 ∷ 4 ∷ 2 ∷ []) 2 ≡ 3
next_of_last = refl

next_of_none : successor (3 ∷ 1 ∷ 4 ∷ 2 ∷ []) 7 ≡ 7
next_of_none = refl

previous : predecessor (3 ∷ 1 ∷ 4 ∷ 2 ∷ []) 3 ≡ 2
previous = refl

turned_to : turned (3 ∷ 1 ∷ 4 ∷ 2 ∷ []) 4 ≡ 4 ∷ 2 ∷ 3 ∷ 1 ∷ []
turned_to = refl

turned_to_none : turned (3 ∷ 1 ∷ 4 ∷ 2 ∷ []) 5 ≡ 3 ∷ 1 ∷ 4 ∷ 2 ∷ []
turned_to_none = refl

normal : from_least (3 ∷ 1 ∷ 4 ∷ 2 ∷ []) ≡ 1 ∷ 4 ∷ 2 ∷ 3 ∷ []
normal = refl

normal_of_none : from_least [] ≡ []
normal_of_none = refl

mirror : from_least (reverse (1 ∷ 4 ∷ 2 ∷ 3 ∷ [])) ≡ 1 ∷ 3 ∷ 2 ∷ 4 ∷ []
mirror = refl

ends : first_or 9 (3 ∷ 1 ∷ []) + last_or 9 (3 ∷ 1 ∷ []) + least_or 9 [] ≡ 13
ends = refl

-- 1 and 2 are met in this order along the list; 2, 3 and 4 in this order on the way round
met : Follows (3 ∷ 1 ∷ 4 ∷ 2 ∷ []) (1 ∷ 2 ∷ [])
met = refl

met_around : FollowsAround (3 ∷ 1 ∷ 4 ∷ 2 ∷ []) (2 ∷ 3 ∷ 4 ∷ [])
met_around = record { front = 3 ∷ 4 ∷ []; back = 2 ∷ []; before = refl; after = refl }

-- by the remainder by 2: 3 and 1, then 4 and 2, then 5
groups : grouped (λ x. x % 2) (3 ∷ 1 ∷ 4 ∷ 2 ∷ 5 ∷ []) ≡ (1, 3 ∷ 1 ∷ []) ∷ (0, 4 ∷ 2 ∷ []) ∷ (1, 5 ∷ []) ∷ []
groups = refl

keys : group_keys (grouped (λ x. x % 2) (3 ∷ 1 ∷ 4 ∷ 2 ∷ [])) ≡ 1 ∷ 0 ∷ []
keys = refl

whole : joined ((1, 3 ∷ 1 ∷ []) ∷ (0, 4 ∷ 2 ∷ []) ∷ []) ≡ 3 ∷ 1 ∷ 4 ∷ 2 ∷ []
whole = refl

backwards : mirrored (1, 3 ∷ 1 ∷ []) ≡ (1, 1 ∷ 3 ∷ [])
backwards = refl
