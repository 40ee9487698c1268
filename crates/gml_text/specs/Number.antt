-- The bytes of a number: an integer, a real or a special one.
use Rattle.std.specs.Prelude.{◌≡◌, ℕ, ◌+◌, ◌<◌, ◌⊎◌, Bool, true, false, ◌&&◌, List, [], ◌∷◌, ◌++◌, length, codes}
use Rattle.std.specs.List.{list_all}
use Rattle.gml_text.specs.Bytes.{is_digit, is_sign, is_mark, is_either}

-- one sign, or none
abbrev pub is_sign_text : List ℕ → Bool
is_sign_text [] = true
is_sign_text (b ∷ []) = is_sign b
is_sign_text (b ∷ c ∷ bs) = false

-- one or more digits
pub record IsDigits (text : List ℕ) : Type 0 where
  pub digits : list_all is_digit text ≡ true
  pub some : 0 < length text

-- an optional sign, then digits
pub record IsInteger (text : List ℕ) : Type 0 where
  pub sign : List ℕ
  pub digits : List ℕ
  pub whole : text ≡ sign ++ digits
  pub is_sign : is_sign_text sign ≡ true
  pub is_digits : IsDigits digits

-- digits with one point before, within or after them, at least one digit in all
pub record IsPointed (text : List ℕ) : Type 0 where
  pub before : List ℕ
  pub after : List ℕ
  pub whole : text ≡ before ++ (46 ∷ after)
  pub before_digits : list_all is_digit before ≡ true
  pub after_digits : list_all is_digit after ≡ true
  pub some : 0 < length before + length after

-- a mark, an optional sign, one or more digits
pub record IsExponent (text : List ℕ) : Type 0 where
  pub mark : ℕ
  pub power : List ℕ
  pub whole : text ≡ mark ∷ power
  pub is_mark : is_mark mark ≡ true
  pub is_power : IsInteger power

-- an optional sign; digits, with or without a point; then an exponent or none. An integer is one of these too
pub record IsReal (text : List ℕ) : Type 0 where
  pub sign : List ℕ
  pub mantissa : List ℕ
  pub exponent : List ℕ
  pub whole : text ≡ sign ++ (mantissa ++ exponent)
  pub is_sign : is_sign_text sign ≡ true
  pub is_mantissa : IsDigits mantissa ⊎ IsPointed mantissa
  pub is_exponent : (exponent ≡ []) ⊎ IsExponent exponent

-- the letters of a name, each in either case
abbrev pub is_name : List ℕ → List ℕ → Bool
is_name [] [] = true
is_name [] (b ∷ bs) = false
is_name (capital ∷ capitals) [] = false
is_name (capital ∷ capitals) (b ∷ bs) = is_either capital b && is_name capitals bs

-- an optional sign, then INF or NAN
pub record IsSpecial (text : List ℕ) : Type 0 where
  pub sign : List ℕ
  pub name : List ℕ
  pub whole : text ≡ sign ++ name
  pub is_sign : is_sign_text sign ≡ true
  pub named : (is_name (codes "INF") name ≡ true) ⊎ (is_name (codes "NAN") name ≡ true)

-- an integer, a real or a special number
abbrev pub IsNumber : List ℕ → Type 0
IsNumber text = IsInteger text ⊎ IsReal text ⊎ IsSpecial text
