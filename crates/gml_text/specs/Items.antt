-- What comes next among the pairs of a document, as it is read.
use Rattle.std.specs.Prelude.{◌≡◌, ℕ, ◌<◌, ◌⊎◌, true, List, length}
use Rattle.gml_text.specs.Document.{Document}
use Rattle.gml_text.specs.Grammar.{is_gap, KeyStands, NumberStands, StringStands, OpenStands, CloseStands, PairsStand}
use Rattle.gml_text.specs.declared.item.Found.{Found}
use Rattle.gml_text.specs.declared.item.Found.TheVariants.{Number, Text, Open}
use Rattle.gml_text.specs.declared.item.Item.{Item}
use Rattle.gml_text.specs.declared.item.Item.TheVariants.{Pair, Close, End}

-- the next token is this beginning of a value
abbrev pub FoundStands : Found → List ℕ → List ℕ → Type 0
FoundStands (Number text) bytes rest = NumberStands text.now bytes rest
FoundStands (Text text) bytes rest = StringStands text.now bytes rest
FoundStands Open bytes rest = OpenStands bytes rest

-- no value begins here
pub record NoValue (bytes : List ℕ) : Type 0 where
  pub no_number : (text rest : List ℕ) → NumberStands text bytes rest → ⊥
  pub no_string : (text rest : List ℕ) → StringStands text bytes rest → ⊥
  pub no_open : (rest : List ℕ) → OpenStands bytes rest → ⊥

-- a key with the beginning of its value, a closing bracket, or the end
abbrev pub ItemStands : Item → List ℕ → Type 0
ItemStands (Pair key found rest) bytes = (value : List ℕ) × KeyStands key.now bytes value × FoundStands found value rest.now
ItemStands (Close rest) bytes = CloseStands bytes rest.now
ItemStands End bytes = is_gap true bytes ≡ true

-- a run of pairs is over: the end of the text or a closing bracket follows
abbrev pub Stops : List ℕ → Type 0
Stops bytes = (is_gap true bytes ≡ true) ⊎ ((behind : List ℕ) × CloseStands bytes behind)

-- no run of pairs begins here
abbrev pub Stuck : List ℕ → Type 0
Stuck bytes = (d : Document) (rest : List ℕ) → PairsStand d bytes rest → Stops rest → ⊥

-- fewer bytes follow the item
abbrev pub IsShorter : Item → List ℕ → Type 0
IsShorter (Pair key found rest) bytes = length rest.now < length bytes
IsShorter (Close rest) bytes = length rest.now < length bytes
IsShorter End bytes = Unit {0}
