-- The digit of a choice, its place among the possible choices of its node; and the number with given digits. Contracts of private
-- functions cite these; what is promised outside speaks of places in lists.
use Rattle.std.specs.Prelude.{ℕ, zero, suc, ◌+◌, ◌*◌, Bool, cond, nat_lt, List, [], ◌∷◌, length}
use Rattle.permutations.specs.Cyclic.{first_or, last_or}
use Rattle.pair_split.specs.Tutte.{Node, node_at}
use Rattle.pair_split.specs.declared.components.Kind.{Kind}
use Rattle.pair_split.specs.declared.components.Kind.TheVariants.{S, P, R, B}
use Rattle.choice_lists.specs.Arrangements.{factorial_number}
use Rattle.skeletons.specs.Choices.{choice}
use Rattle.skeletons.specs.Lists.{choice_count}

-- of a choice and its mirror image the one with the smaller second key has the digit 0
abbrev pub rigid_digit : List ℕ → ℕ
rigid_digit [] = 0
rigid_digit (key ∷ keys) = cond (nat_lt (first_or key keys) (last_or key keys)) 0 1

-- the place of a choice among those of its node, by its kind
abbrev pub digit_of : Kind → List ℕ → ℕ
digit_of P c = factorial_number c
digit_of R c = rigid_digit c
digit_of S c = 0
digit_of B c = 0

-- how many choices are open to node k
abbrev pub radix_at : List Node → (ℕ → Bool) → ℕ → ℕ
radix_at nodes locked k = cond (locked k) 1 (choice_count (node_at nodes k).kind (length (node_at nodes k).items))

-- the place of its present one among them
abbrev pub digit_at : List Node → (ℕ → Bool) → List (List ℕ) → ℕ → ℕ
digit_at nodes locked r k = cond (locked k) 0 (digit_of (node_at nodes k).kind (choice nodes r k))

-- the number with these digits at n places, the first most significant
abbrev pub number_to : ℕ → (ℕ → ℕ) → (ℕ → ℕ) → ℕ
number_to zero radix digit = 0
number_to (suc n) radix digit = number_to n radix digit * radix n + digit n
