-- Classes of bytes, as tests.
use Rattle.std.specs.Prelude.{ℕ, ◌+◌, Bool, not, ◌&&◌, ◌||◌, nat_le, ◌==◌}

-- tab, line feed, vertical tab, form feed, carriage return and space
abbrev pub is_white : ℕ → Bool
is_white b = (nat_le 9 b && nat_le b 13) || b == 32

-- a line feed or a carriage return
abbrev pub is_line_end : ℕ → Bool
is_line_end b = b == 10 || b == 13

-- a letter of ASCII
abbrev pub is_letter : ℕ → Bool
is_letter b = (nat_le 65 b && nat_le b 90) || (nat_le 97 b && nat_le b 122)

-- a decimal digit
abbrev pub is_digit : ℕ → Bool
is_digit b = nat_le 48 b && nat_le b 57

-- a letter, a digit or `_`
abbrev pub is_key_byte : ℕ → Bool
is_key_byte b = is_letter b || is_digit b || b == 95

-- `+` or `-`
abbrev pub is_sign : ℕ → Bool
is_sign b = b == 43 || b == 45

-- `E` or `e`, before an exponent
abbrev pub is_mark : ℕ → Bool
is_mark b = b == 69 || b == 101

-- a capital letter or its small one
abbrev pub is_either : ℕ → ℕ → Bool
is_either capital b = b == capital || b == capital + 32

-- what may follow a key or a number: whitespace, a bracket, `"` or `#`
abbrev pub ends_word : ℕ → Bool
ends_word b = is_white b || b == 91 || b == 93 || b == 34 || b == 35

-- any other byte
abbrev pub is_word_byte : ℕ → Bool
is_word_byte b = not (ends_word b)

-- a byte that may occur in a string
abbrev pub is_no_quote : ℕ → Bool
is_no_quote b = not (b == 34)
