-- Where bytes break off: the longest of their prefixes with which something begins.
use Rattle.std.specs.Prelude.{◌≡◌, ℕ, ◌⊎◌, true, false, Some, List, [], ◌∷◌, ◌++◌, length}
use Rattle.gml_text.specs.Grammar.{is_key, KeyStands, NumberStands, StringStands}
use Rattle.gml_text.specs.Items.{NoValue, Stuck}
use Rattle.gml_text.specs.Recognised.{passes}
use Rattle.gml_text.specs.declared.number.Part.TheVariants.{Nothing}

-- this prefix can be continued to something whole, and this many bytes are left after it; with the next of them, however the
-- bytes continue, it cannot
pub record Breaks (Whole No : List ℕ → Type 0) (bytes : List ℕ) (left : ℕ) : Type 0 where
  pub front : List ℕ
  pub tail : List ℕ
  pub split : bytes ≡ front ++ tail
  pub count : length tail ≡ left
  pub more : List ℕ
  pub whole : Whole (front ++ more)
  pub breaks : (b : ℕ) (rest others : List ℕ) → tail ≡ b ∷ rest → No (front ++ (b ∷ others))
  pub none : No bytes

-- a word that is not a key
abbrev pub KeyBreaks : List ℕ → ℕ → Type 0
KeyBreaks word left = Breaks (λ t. is_key t ≡ true) (λ t. is_key t ≡ false) word left

-- a word that is not a number
abbrev pub NumberBreaks : List ℕ → ℕ → Type 0
NumberBreaks word left = Breaks (λ t. passes (Some Nothing) t ≡ true) (λ t. passes (Some Nothing) t ≡ false) word left

-- a number or a string, and nothing after it
pub record WholeValue (bytes : List ℕ) : Type 0 where
  pub text : List ℕ
  pub stands : NumberStands text bytes [] ⊎ StringStands text bytes []

-- a key with such a value
pub record WholePair (bytes : List ℕ) : Type 0 where
  pub key : List ℕ
  pub value : List ℕ
  pub stands : KeyStands key bytes value
  pub whole : WholeValue value

-- no value begins here
abbrev pub ValueBreaks : List ℕ → ℕ → Type 0
ValueBreaks bytes left = Breaks WholeValue NoValue bytes left

-- no item begins here
abbrev pub PairBreaks : List ℕ → ℕ → Type 0
PairBreaks bytes left = Breaks WholePair Stuck bytes left
