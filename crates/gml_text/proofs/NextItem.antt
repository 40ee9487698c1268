-- What may stand next: at most one of a key, a closing bracket and the end, and at most one value.
use Rattle.std.proofs.Common.{◌≡◌, ℕ, true, false, eqb, Some, List, [], ◌∷◌, ◌++◌, length, refl, sym, ap, subst, ◌∙◌, inl, inr, arith}
use Rattle.std.specs.List.{list_all}
use Rattle.std.proofs.lemmas.Bool.{false≢true, eqb-true}
use Rattle.gml_text.specs.Bytes.{is_word_byte, is_no_quote}
use Rattle.gml_text.specs.Recognised.{passes}
use Rattle.gml_text.specs.declared.number.Part.TheVariants.{Nothing}
use Rattle.gml_text.specs.Document.{empty, number, string, list}
use Rattle.gml_text.specs.Grammar.{is_gap, is_key, KeyStands, NumberStands, StringStands, OpenStands, CloseStands}
use Rattle.gml_text.specs.Reading.{after_gap, IsWord}
use Rattle.gml_text.specs.Items.{NoValue, Stops, Stuck}
use Rattle.gml_text.proofs.Gaps.{after_gap-last}
use Rattle.gml_text.proofs.Words.{both_true, word_one, quoted_one, IsSome, key_word, key_here, string_here, open_here, close_here}
use Rattle.gml_text.proofs.NumberWords.{number_word, number_here}

-- the first byte of a word that isn't empty is a word's byte
first_word : (w here rest : List ℕ) (c : ℕ) (more : List ℕ) → IsSome w → here ≡ w ++ rest → here ≡ c ∷ more → is_word_byte c ≡ true
first_word [] here rest c more is e f = absurd (omega arith)
first_word (b ∷ bs) here rest c more is e f =
    let same : b ∷ (bs ++ rest) ≡ c ∷ more = sym e ∙ f in
    let head : b ≡ c = cc in
    subst (λ (x : ℕ). is_word_byte x ≡ true) head (both_true (is_word_byte b) (list_all is_word_byte bs) is.is_word).0

-- a word isn't nothing
word_some : (w here rest : List ℕ) → IsSome w → here ≡ w ++ rest → here ≡ [] → ⊥
word_some [] here rest is e f = absurd (omega arith)
word_some (b ∷ bs) here rest is e f = let same : b ∷ (bs ++ rest) ≡ [] = sym e ∙ f in cc

-- a text with a quote in it
quote_in : (text rest : List ℕ) → list_all is_no_quote (text ++ (34 ∷ rest)) ≡ true → ⊥
quote_in [] rest h = false≢true h
quote_in (b ∷ bs) rest h = quote_in bs rest (both_true (is_no_quote b) (list_all is_no_quote (bs ++ (34 ∷ rest))) h).1

-- a string without its second quote is no value
pub no_value-unquoted : (bytes quoted : List ℕ) → after_gap bytes ≡ 34 ∷ quoted → list_all is_no_quote quoted ≡ true → NoValue bytes
no_value-unquoted bytes quoted here is =
    record {
      no_number = λ text rest s. false≢true (first_word text (after_gap bytes) rest 34 quoted (number_word text s.is_number) (number_here text bytes rest s).whole here);
      no_string = λ text rest s.
          let same : 34 ∷ quoted ≡ 34 ∷ (text ++ (34 ∷ rest)) = sym here ∙ string_here text bytes rest s in
          let tail : quoted ≡ text ++ (34 ∷ rest) = cc in
          quote_in text rest (subst (λ (xs : List ℕ). list_all is_no_quote xs ≡ true) tail is);
      no_open = λ rest s.
          let same : 34 ∷ quoted ≡ 91 ∷ rest = sym here ∙ open_here bytes rest s in
          let head : ◌≡◌ {A = ℕ} 34 91 = cc in
          omega arith;
    }

-- a word that is no number is no value
pub no_value-word : (bytes w rest : List ℕ) → IsWord w (after_gap bytes) rest → false ≡ passes (Some Nothing) w → ((more : List ℕ) → after_gap bytes ≡ 34 ∷ more → ⊥) → ((more : List ℕ) → after_gap bytes ≡ 91 ∷ more → ⊥) → NoValue bytes
no_value-word bytes w rest word no_pass no_quote no_bracket =
    record {
      no_number = λ text behind s.
          let here = number_here text bytes behind s in
          let same : text ≡ w = (word_one text w (after_gap bytes) behind rest here.word word).0 in
          false≢true (no_pass ∙ ap (passes (Some Nothing)) (sym same) ∙ here.passes);
      no_string = λ text behind s. no_quote (text ++ (34 ∷ behind)) (string_here text bytes behind s);
      no_open = λ behind s. no_bracket behind (open_here bytes behind s);
    }

-- beside a key there is no closing bracket and no end
key_close : (k bytes rest behind : List ℕ) → KeyStands k bytes rest → CloseStands bytes behind → ⊥
key_close k bytes rest behind s c = false≢true (first_word k (after_gap bytes) rest 93 behind (key_word k s.is_key) (key_here k bytes rest s).whole (close_here bytes behind c))

key_last : (k bytes rest : List ℕ) → KeyStands k bytes rest → is_gap true bytes ≡ true → ⊥
key_last k bytes rest s h = word_some k (after_gap bytes) rest (key_word k s.is_key) (key_here k bytes rest s).whole (after_gap-last bytes h)

pub key_stops : (k bytes rest : List ℕ) → KeyStands k bytes rest → Stops bytes → ⊥
key_stops k bytes rest s (inl h) = key_last k bytes rest s h
key_stops k bytes rest s (inr c) = key_close k bytes rest c.0 s c.1

-- beside a closing bracket there is no end
pub close_last : (bytes rest : List ℕ) → CloseStands bytes rest → is_gap true bytes ≡ true → ⊥
close_last bytes rest c h = let same : 93 ∷ rest ≡ [] = sym (close_here bytes rest c) ∙ after_gap-last bytes h in cc

-- the next token is one key, one number, one string
pub key_one : (k l bytes r s : List ℕ) → KeyStands k bytes r → KeyStands l bytes s → (k ≡ l) × (r ≡ s)
key_one k l bytes r s a b = word_one k l (after_gap bytes) r s (key_here k bytes r a) (key_here l bytes s b)

pub number_one : (t u bytes r s : List ℕ) → NumberStands t bytes r → NumberStands u bytes s → (t ≡ u) × (r ≡ s)
number_one t u bytes r s a b = word_one t u (after_gap bytes) r s (number_here t bytes r a).word (number_here u bytes s b).word

pub string_one : (t u bytes r s : List ℕ) → StringStands t bytes r → StringStands u bytes s → (t ≡ u) × (r ≡ s)
string_one t u bytes r s a b =
    let same : 34 ∷ (t ++ (34 ∷ r)) ≡ 34 ∷ (u ++ (34 ∷ s)) = sym (string_here t bytes r a) ∙ string_here u bytes s b in
    let tail : t ++ (34 ∷ r) ≡ u ++ (34 ∷ s) = cc in
    quoted_one t u (t ++ (34 ∷ r)) r s (record { whole = refl; no_quote = a.no_quote }) (record { whole = tail; no_quote = b.no_quote })

pub open_one : (bytes r s : List ℕ) → OpenStands bytes r → OpenStands bytes s → r ≡ s
open_one bytes r s a b = let same : 91 ∷ r ≡ 91 ∷ s = sym (open_here bytes r a) ∙ open_here bytes s b in cc

pub close_one : (bytes r s : List ℕ) → CloseStands bytes r → CloseStands bytes s → r ≡ s
close_one bytes r s a b = let same : 93 ∷ r ≡ 93 ∷ s = sym (close_here bytes r a) ∙ close_here bytes s b in cc

-- a number is no string and no list, and a string is no list
pub number_string : (t u bytes r s : List ℕ) → NumberStands t bytes r → StringStands u bytes s → ⊥
number_string t u bytes r s a b = false≢true (first_word t (after_gap bytes) r 34 (u ++ (34 ∷ s)) (number_word t a.is_number) (number_here t bytes r a).whole (string_here u bytes s b))

pub number_open : (t bytes r s : List ℕ) → NumberStands t bytes r → OpenStands bytes s → ⊥
number_open t bytes r s a b = false≢true (first_word t (after_gap bytes) r 91 s (number_word t a.is_number) (number_here t bytes r a).whole (open_here bytes s b))

pub string_open : (t bytes r s : List ℕ) → StringStands t bytes r → OpenStands bytes s → ⊥
string_open t bytes r s a b =
    let same : 34 ∷ (t ++ (34 ∷ r)) ≡ 91 ∷ s = sym (string_here t bytes r a) ∙ open_here bytes s b in
    let head : ◌≡◌ {A = ℕ} 34 91 = cc in
    omega arith

-- no pairs stand where no key, no closing bracket and no end do
pub stuck-none : (bytes : List ℕ) → ((k rest : List ℕ) → KeyStands k bytes rest → ⊥) → (Stops bytes → ⊥) → Stuck bytes
stuck-none bytes no_key no_stop empty rest s stop = no_stop (subst Stops (sym s) stop)
stuck-none bytes no_key no_stop (number key text more) rest s stop = no_key key s.0 s.2
stuck-none bytes no_key no_stop (string key text more) rest s stop = no_key key s.0 s.2
stuck-none bytes no_key no_stop (list key inner more) rest s stop = no_key key s.0 s.4

-- the same of a word that is no key
pub stuck-word : (bytes w rest : List ℕ) → IsWord w (after_gap bytes) rest → false ≡ is_key w → (after_gap bytes ≡ [] → ⊥) → ((more : List ℕ) → after_gap bytes ≡ 93 ∷ more → ⊥) → Stuck bytes
stuck-word bytes w rest word not_key some no_close =
    stuck-none bytes
    (λ k behind s.
    let same : k ≡ w = (word_one k w (after_gap bytes) behind rest (key_here k bytes behind s) word).0 in
    false≢true (not_key ∙ ap is_key (sym same) ∙ s.is_key))
    (λ stop. elim stop [ inl h ↦ some (after_gap-last bytes h) | inr c ↦ no_close c.0 (close_here bytes c.0 c.1) ])

-- no pairs stand where a key has no value
pub stuck-value : (bytes k value : List ℕ) → KeyStands k bytes value → NoValue value → Stuck bytes
stuck-value bytes k value is none empty rest s stop = key_stops k bytes value is (subst Stops (sym s) stop)
stuck-value bytes k value is none (number key text more) rest s stop =
    none.no_number text s.1 (subst (λ (v : List ℕ). NumberStands text v s.1) (key_one key k bytes s.0 value s.2 is).1 s.3)
stuck-value bytes k value is none (string key text more) rest s stop =
    none.no_string text s.1 (subst (λ (v : List ℕ). StringStands text v s.1) (key_one key k bytes s.0 value s.2 is).1 s.3)
stuck-value bytes k value is none (list key inner more) rest s stop =
    none.no_open s.1 (subst (λ (v : List ℕ). OpenStands v s.1) (key_one key k bytes s.0 value s.4 is).1 s.5)

-- what the test for no bytes tells
pub empty_bytes : (bytes : List ℕ) → true ≡ eqb (length bytes) 0 → bytes ≡ []
empty_bytes [] h = refl
empty_bytes (b ∷ bs) h = absurd (omega (arith, eqb-true (length (b ∷ bs)) 0 (sym h)))

pub some_bytes : (bytes : List ℕ) → false ≡ eqb (length bytes) 0 → bytes ≡ [] → ⊥
some_bytes bytes h e = false≢true (h ∙ ap (λ (xs : List ℕ). eqb (length xs) 0) e)
