-- Numbers as decimal digits spell them.
use Rattle.std.specs.Prelude.{◌≡◌, ℕ, ◌+◌, ◌-◌, ◌*◌, ◌<◌, Bool, false, ◌&&◌, nat_lt, if◌then◌else◌, List, [], ◌∷◌, Option, Some, None, IsTrue}
use Rattle.std.specs.Char.{is_ascii_digit}
use Rattle.std.specs.List.{list_all}

-- one or more decimal digits
abbrev pub are_digits : List ℕ → Bool
are_digits [] = false
are_digits (d ∷ ds) = list_all is_ascii_digit (d ∷ ds)

-- the number that the digits of n with these after them spell
abbrev pub spelled_after : ℕ → List ℕ → ℕ
spelled_after n [] = n
spelled_after n (d ∷ ds) = spelled_after (n * 10 + (d - 48)) ds

-- the number that decimal digits spell
abbrev pub value_of : List ℕ → ℕ
value_of text = spelled_after 0 text

-- the text is one or more decimal digits, leading zeros allowed, and spells n, which is below the limit
abbrev pub SpellsNumber : ℕ → List ℕ → ℕ → Type 0
SpellsNumber limit text n = IsTrue (are_digits text) × (value_of text ≡ n) × (n < limit)

-- the number that a text spells, where it is one or more decimal digits and the number is below the limit
abbrev pub number_below : ℕ → List ℕ → Option ℕ
number_below limit text = (if are_digits text && nat_lt (value_of text) limit then Some (value_of text) else None)

-- the number so far with one more digit after it, where that is below the limit
abbrev pub with_digit : ℕ → ℕ → ℕ → Option ℕ
with_digit limit value digit = (if is_ascii_digit digit && nat_lt (value * 10 + (digit - 48)) limit then Some (value * 10 + (digit - 48)) else None)
