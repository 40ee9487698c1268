-- Whole numbers of 64 bits, as a text spells them.
use Rattle.std.specs.Prelude.{ℕ, ◌-◌, ◌^◌, ◌&&◌, ◌==◌, nat_le, if◌then◌else◌, List, [], ◌∷◌, Option, Some, None, option_map, ℤ, pos, neg_ℤ}
pub use Rattle.decimals.specs.Number.{are_digits, spelled_after}

-- the number that one or more decimal digits spell, where it is at most `most`
abbrev pub digits_up_to : ℕ → List ℕ → Option ℕ
digits_up_to most ds = (if are_digits ds && nat_le (spelled_after 0 ds) most then Some (spelled_after 0 ds) else None)

-- the greatest whole number of 64 bits; the least is one further from zero
abbrev pub greatest : ℕ
greatest = 2 ^ 63 - 1

-- the value of an integer, which is a `+` or a `-` or neither and then one or more digits, where it fits 64 bits
abbrev pub whole_number : List ℕ → Option ℤ
whole_number [] = None
whole_number (b ∷ bs) =
    (if b == 45 then option_map (λ n. neg_ℤ (pos n)) (digits_up_to (2 ^ 63) bs)
    else if b == 43 then option_map pos (digits_up_to greatest bs)
    else option_map pos (digits_up_to greatest (b ∷ bs)))
