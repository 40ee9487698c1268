-- What stands next, told by what is left behind the longest gap: keys and numbers are words, and bytes are split into a word
-- and the rest in one way.
use Rattle.std.proofs.Common.{◌≡◌, ℕ, ◌<◌, Bool, true, false, not, ◌&&◌, ◌||◌, eqb, List, [], ◌∷◌, ◌++◌, length, refl, sym, ap, subst, ◌∙◌, arith, append_assoc}
use Rattle.std.specs.List.{list_all}
use Rattle.std.proofs.lemmas.Bool.{false≢true}
use Rattle.gml_text.specs.Bytes.{is_letter, is_key_byte, is_word_byte, is_no_quote}
use Rattle.gml_text.specs.Grammar.{is_key, is_behind_word, Stands, KeyStands, StringStands, OpenStands, CloseStands}
use Rattle.gml_text.specs.Reading.{after_gap, IsWord, IsQuoted}
use Rattle.gml_text.proofs.ByteClasses.{key_byte-word, letter-key_byte, word-white, word-hash}
use Rattle.gml_text.proofs.Gaps.{begins, after_gap-gap, gap_before}

-- both tests of a conjunction
pub both_true : (a b : Bool) → (a && b) ≡ true → (a ≡ true) × (b ≡ true)
both_true true b h = (refl, h)
both_true false b h = absurd (false≢true h)

-- whether bytes begin with none of a class
abbrev pub stops : (ℕ → Bool) → List ℕ → Bool
stops p [] = true
stops p (b ∷ bs) = not (p b)

no_stop : (p : ℕ → Bool) (y : ℕ) (ys r : List ℕ) → stops p r ≡ true → p y ≡ true → r ≡ y ∷ ys → ⊥
no_stop p y ys r stop test e =
    let stop_y : not (p y) ≡ true = subst (λ (xs : List ℕ). stops p xs ≡ true) e stop in
    false≢true (sym (ap not test) ∙ stop_y)

-- a longest run of a class, and what stops it, are found in one way
pub split_one : (p : ℕ → Bool) (xs ys r s : List ℕ) → list_all p xs ≡ true → list_all p ys ≡ true → stops p r ≡ true → stops p s ≡ true → xs ++ r ≡ ys ++ s → (xs ≡ ys) × (r ≡ s)
split_one p [] [] r s of_xs of_ys of_r of_s e = (refl, e)
split_one p [] (y ∷ ys) r s of_xs of_ys of_r of_s e = absurd (no_stop p y (ys ++ s) r of_r (both_true (p y) (list_all p ys) of_ys).0 e)
split_one p (x ∷ xs) [] r s of_xs of_ys of_r of_s e = absurd (no_stop p x (xs ++ r) s of_s (both_true (p x) (list_all p xs) of_xs).0 (sym e))
split_one p (x ∷ xs) (y ∷ ys) r s of_xs of_ys of_r of_s e =
    let head : x ≡ y = cc in
    let tail : xs ++ r ≡ ys ++ s = cc in
    let rest : (xs ≡ ys) × (r ≡ s) = split_one p xs ys r s (both_true (p x) (list_all p xs) of_xs).1 (both_true (p y) (list_all p ys) of_ys).1 of_r of_s tail in
    ((λ i. head i ∷ rest.0 i), rest.1)

behind_word-stops : (r : List ℕ) → is_behind_word r ≡ true → stops is_word_byte r ≡ true
behind_word-stops [] h = refl
behind_word-stops (b ∷ bs) h = ap (λ t. not (not t)) h

-- bytes are split into a word and the rest in one way
pub word_one : (w v bytes r s : List ℕ) → IsWord w bytes r → IsWord v bytes s → (w ≡ v) × (r ≡ s)
word_one w v bytes r s a b =
    split_one is_word_byte w v r s a.is_word b.is_word (behind_word-stops r a.ends) (behind_word-stops s b.ends) (sym a.whole ∙ b.whole)

-- and at the first quote in one way
pub quoted_one : (t u bytes r s : List ℕ) → IsQuoted t bytes r → IsQuoted u bytes s → (t ≡ u) × (r ≡ s)
quoted_one t u bytes r s a b =
    let rest : (t ≡ u) × (34 ∷ r ≡ 34 ∷ s) = split_one is_no_quote t u (34 ∷ r) (34 ∷ s) a.no_quote b.no_quote refl refl (sym a.whole ∙ b.whole) in
    let same : 34 ∷ r ≡ 34 ∷ s = rest.1 in
    (rest.0, cc)

-- a text that begins as a token does, behind a gap, is what is left behind the longest
pub stands_here : (text bytes rest : List ℕ) → begins (text ++ rest) ≡ true → Stands text bytes rest → after_gap bytes ≡ text ++ rest
stands_here text bytes rest h s = ap after_gap s.whole ∙ after_gap-gap s.gap (text ++ rest) s.is_gap h

pub here_stands : (text bytes rest : List ℕ) → 0 < length (text ++ rest) → after_gap bytes ≡ text ++ rest → Stands text bytes rest
here_stands text bytes rest some e =
    let before = gap_before bytes (subst (λ (xs : List ℕ). 0 < length xs) (sym e) some) in
    record { gap = before.0; whole = before.1 ∙ ap (λ (xs : List ℕ). before.0 ++ xs) e; is_gap = before.2 }

-- a word's first byte begins a token
pub begins_word : (w rest : List ℕ) → list_all is_word_byte w ≡ true → 0 < length w → begins (w ++ rest) ≡ true
begins_word [] rest h some = absurd (omega arith)
begins_word (b ∷ bs) rest h some =
    let word = (both_true (is_word_byte b) (list_all is_word_byte bs) h).0 in
    ap (λ t. not (t || eqb b 35)) (word-white b word) ∙ ap not (word-hash b word)

some_more : (w rest : List ℕ) → 0 < length w → 0 < length (w ++ rest)
some_more [] rest h = absurd (omega arith)
some_more (b ∷ bs) rest h = omega arith

-- a word that isn't empty
pub record IsSome (w : List ℕ) : Type 0 where
  pub is_word : list_all is_word_byte w ≡ true
  pub some : 0 < length w

pub word_here : (w bytes rest : List ℕ) → IsSome w → Stands w bytes rest → is_behind_word rest ≡ true → IsWord w (after_gap bytes) rest
word_here w bytes rest is s ends = record { whole = stands_here w bytes rest (begins_word w rest is.is_word is.some) s; is_word = is.is_word; ends = ends }

pub here_word : (w bytes rest : List ℕ) → IsSome w → IsWord w (after_gap bytes) rest → Stands w bytes rest
here_word w bytes rest is s = here_stands w bytes rest (some_more w rest is.some) s.whole

key_bytes-word : (bs : List ℕ) → list_all is_key_byte bs ≡ true → list_all is_word_byte bs ≡ true
key_bytes-word [] h = refl
key_bytes-word (b ∷ bs) h =
    let both = both_true (is_key_byte b) (list_all is_key_byte bs) h in
    ap (λ t. t && list_all is_word_byte bs) (key_byte-word b both.0) ∙ key_bytes-word bs both.1

-- a key is a word
pub key_word : (k : List ℕ) → is_key k ≡ true → IsSome k
key_word [] h = absurd (false≢true h)
key_word (b ∷ bs) h =
    let both = both_true (is_letter b) (list_all is_key_byte bs) h in
    record {
      is_word = ap (λ t. t && list_all is_word_byte bs) (key_byte-word b (letter-key_byte b both.0)) ∙ key_bytes-word bs both.1;
      some = omega arith;
    }

-- a key stands next exactly where the word behind the gap is this key
pub key_here : (k bytes rest : List ℕ) → KeyStands k bytes rest → IsWord k (after_gap bytes) rest
key_here k bytes rest s = word_here k bytes rest (key_word k s.is_key) s.stands s.ends

pub here_key : (k bytes rest : List ℕ) → IsWord k (after_gap bytes) rest → is_key k ≡ true → KeyStands k bytes rest
here_key k bytes rest s is = record { stands = here_word k bytes rest (key_word k is) s; is_key = is; ends = s.ends }

-- a string stands next exactly where a quote and a quoted text are left behind the gap
quote_out : (text rest : List ℕ) → (34 ∷ (text ++ (34 ∷ []))) ++ rest ≡ 34 ∷ (text ++ (34 ∷ rest))
quote_out text rest = ap (λ (xs : List ℕ). 34 ∷ xs) (append_assoc text (34 ∷ []) rest)

pub string_here : (text bytes rest : List ℕ) → StringStands text bytes rest → after_gap bytes ≡ 34 ∷ (text ++ (34 ∷ rest))
string_here text bytes rest s = stands_here (34 ∷ (text ++ (34 ∷ []))) bytes rest refl s.stands ∙ quote_out text rest

pub here_string : (text bytes rest : List ℕ) → after_gap bytes ≡ 34 ∷ (text ++ (34 ∷ rest)) → list_all is_no_quote text ≡ true → StringStands text bytes rest
here_string text bytes rest e is =
    record { stands = here_stands (34 ∷ (text ++ (34 ∷ []))) bytes rest (omega arith) (e ∙ sym (quote_out text rest)); no_quote = is }

-- a bracket stands next exactly where it is left behind the gap
pub open_here : (bytes rest : List ℕ) → OpenStands bytes rest → after_gap bytes ≡ 91 ∷ rest
open_here bytes rest s = stands_here (91 ∷ []) bytes rest refl s

pub here_open : (bytes rest : List ℕ) → after_gap bytes ≡ 91 ∷ rest → OpenStands bytes rest
here_open bytes rest e = here_stands (91 ∷ []) bytes rest (omega arith) e

pub close_here : (bytes rest : List ℕ) → CloseStands bytes rest → after_gap bytes ≡ 93 ∷ rest
close_here bytes rest s = stands_here (93 ∷ []) bytes rest refl s

pub here_close : (bytes rest : List ℕ) → after_gap bytes ≡ 93 ∷ rest → CloseStands bytes rest
here_close bytes rest e = here_stands (93 ∷ []) bytes rest (omega arith) e
