-- A number as it is recognised, byte by byte.
use Rattle.std.specs.Prelude.{ℕ, Bool, true, false, cond, Option, Some, None, List, [], ◌∷◌, ◌==◌}
use Rattle.gml_text.specs.Bytes.{is_digit, is_sign, is_mark, is_either}
use Rattle.gml_text.specs.declared.number.Part.{Part}
use Rattle.gml_text.specs.declared.number.Part.TheVariants.{Nothing, Sign, Whole, Point, Fraction, Mark, MarkSign, Exponent, I, In, N, Na, Special}

-- a part under a condition
abbrev pub on : Bool → Part → Option Part
on met part = cond met (Some part) None

-- the part that the first byte after a sign begins
abbrev pub begin : ℕ → Option Part
begin b = cond (is_digit b) (Some Whole) (cond (b == 46) (Some Point) (cond (is_either 73 b) (Some I) (on (is_either 78 b) N)))

-- the part that one more byte leads to
abbrev pub step : Part → ℕ → Option Part
step Nothing b = cond (is_sign b) (Some Sign) (begin b)
step Sign b = begin b
step Whole b = cond (is_digit b) (Some Whole) (cond (b == 46) (Some Fraction) (on (is_mark b) Mark))
step Point b = on (is_digit b) Fraction
step Fraction b = cond (is_digit b) (Some Fraction) (on (is_mark b) Mark)
step Mark b = cond (is_sign b) (Some MarkSign) (on (is_digit b) Exponent)
step MarkSign b = on (is_digit b) Exponent
step Exponent b = on (is_digit b) Exponent
step I b = on (is_either 78 b) In
step In b = on (is_either 70 b) Special
step N b = on (is_either 65 b) Na
step Na b = on (is_either 78 b) Special
step Special b = None

-- whether a number may end here
abbrev pub is_whole : Part → Bool
is_whole Nothing = false
is_whole Sign = false
is_whole Whole = true
is_whole Point = false
is_whole Fraction = true
is_whole Mark = false
is_whole MarkSign = false
is_whole Exponent = true
is_whole I = false
is_whole In = false
is_whole N = false
is_whole Na = false
is_whole Special = true

-- whether these bytes complete a number
abbrev pub passes : Option Part → List ℕ → Bool
passes None [] = false
passes None (b ∷ bs) = false
passes (Some part) [] = is_whole part
passes (Some part) (b ∷ bs) = passes (step part b) bs
