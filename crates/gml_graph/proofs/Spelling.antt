-- The numbers of a text, read byte by byte.
use Rattle.std.proofs.Common.{◌≡◌, ℕ, ◌<◌, ◌+◌, ◌^◌, true, false, not, ◌&&◌, ◌*◌, ◌-◌, ◌==◌, ltb, List, [], ◌∷◌, ◌++◌, length, drop, get_or, Option, Some, None, option_map, refl, sym, ap, ◌∙◌, subst, inl, inr, arith, append_assoc}
use Rattle.std.specs.Prelude.{IfSome}
use Rattle.std.specs.Option.{unwrap_or}
use Rattle.std.specs.List.{filter, slice_split, onto_first}
use Rattle.std.specs.Char.{is_ascii_digit}
use Rattle.std.proofs.lemmas.Bool.{cases_Bool, cond-true, cond-false, lt-ltb, ltb-true, ne_eqb, and_parts}
use Rattle.std.proofs.lemmas.Option.{cond_some}
use Rattle.std.proofs.lemmas.List.{drop_more}
use Rattle.decimals.specs.Number.{with_digit}
use Rattle.decimals.proofs.Digits.{number_behind, number_from_none, digit_taken, digit_refused}
use Rattle.gml_text.specs.Bytes.{is_white}
use Rattle.gml_graph.specs.Start.{with_first, numbers_of, spelled_numbers}

-- the numbers that the pieces of a text between whitespace spell, those without bytes left out
abbrev pub piece_numbers : List (List ℕ) → Option (List ℕ)
piece_numbers pieces = numbers_of (filter (λ word. not (length word == 0)) pieces)

-- the same where the first piece goes on with the digits of a number, if there is one
abbrev pub after_digits : Option ℕ → List (List ℕ) → Option (List ℕ)
after_digits None pieces = piece_numbers pieces
after_digits (Some n) [] = piece_numbers []
after_digits (Some n) (piece ∷ pieces) = with_first (number_behind (2 ^ 32) n piece) (piece_numbers pieces)

-- values, and others after them if they are there
abbrev pub put_behind : {A : Type 0} → List A → Option (List A) → Option (List A)
put_behind before others = option_map (λ xs. before ++ xs) others

-- the numbers so far, the digits of one more, and what is still to be read
abbrev pub spelled_from : List ℕ → Option ℕ → List ℕ → Option (List ℕ)
spelled_from numbers current text = put_behind numbers (after_digits current (slice_split is_white text))

-- a text has a first piece
split_some : (text : List ℕ) → (piece : List ℕ) × (pieces : List (List ℕ)) × (slice_split is_white text ≡ piece ∷ pieces)
split_some [] = ([], [], refl)
split_some (b ∷ text) = elim (cases_Bool (is_white b)) [
  | inl white ↦ ([], slice_split is_white text, cond-true (is_white b) ([] ∷ slice_split is_white text) (onto_first b (slice_split is_white text)) white)
  | inr other ↦ let first = split_some text in (
    b ∷ first.0,
    first.1,
    cond-false (is_white b) ([] ∷ slice_split is_white text) (onto_first b (slice_split is_white text)) other ∙ ap (onto_first b) first.2,
  )
]

split_white : (b : ℕ) (text : List ℕ) → is_white b ≡ true → slice_split is_white (b ∷ text) ≡ [] ∷ slice_split is_white text
split_white b text white = cond-true (is_white b) ([] ∷ slice_split is_white text) (onto_first b (slice_split is_white text)) white

split_other : (b : ℕ) (text piece : List ℕ) (pieces : List (List ℕ)) → is_white b ≡ false → slice_split is_white text ≡ piece ∷ pieces → slice_split is_white (b ∷ text) ≡ (b ∷ piece) ∷ pieces
split_other b text piece pieces other e = cond-false (is_white b) ([] ∷ slice_split is_white text) (onto_first b (slice_split is_white text)) other ∙ ap (onto_first b) e

-- no digits after those of a number
behind_nothing : (n : ℕ) → n < 2 ^ 32 → number_behind (2 ^ 32) n [] ≡ Some n
behind_nothing n below = cond-true (ltb n (2 ^ 32)) (Some n) None (lt-ltb n (2 ^ 32) below)

-- a value more, and others after it
pub put_one : {A : Type 0} (before : List A) (x : A) (others : Option (List A)) → put_behind before (with_first (Some x) others) ≡ put_behind (before ++ x ∷ []) others
put_one before x None = refl
put_one before x (Some xs) = ap Some (sym (append_assoc before (x ∷ []) xs))

-- whitespace, where no number is being read
pub white-nothing : (numbers : List ℕ) (b : ℕ) (text : List ℕ) → is_white b ≡ true → spelled_from numbers None (b ∷ text) ≡ spelled_from numbers None text
white-nothing numbers b text white = ap (λ pieces. put_behind numbers (piece_numbers pieces)) (split_white b text white)

-- whitespace ends a number
pub white-number : (numbers : List ℕ) (n b : ℕ) (text : List ℕ) → n < 2 ^ 32 → is_white b ≡ true → spelled_from numbers (Some n) (b ∷ text) ≡ spelled_from (numbers ++ n ∷ []) None text
white-number numbers n b text below white =
    ap (λ pieces. put_behind numbers (after_digits (Some n) pieces)) (split_white b text white)
    ∙ ap (λ first. put_behind numbers (with_first first (piece_numbers (slice_split is_white text)))) (behind_nothing n below)
    ∙ put_one numbers n (piece_numbers (slice_split is_white text))

-- another byte after the digits so far
after_byte : (current : Option ℕ) (b : ℕ) (piece : List ℕ) (pieces : List (List ℕ)) → after_digits current ((b ∷ piece) ∷ pieces) ≡ with_first (number_behind (2 ^ 32) (unwrap_or current 0) (b ∷ piece)) (piece_numbers pieces)
after_byte None b piece pieces =
    let filled : not (length (b ∷ piece) == 0) ≡ true = ap not (ne_eqb (length (b ∷ piece)) 0 (λ e. omega (arith, e))) in
    let rest : List (List ℕ) = filter (λ word. not (length word == 0)) pieces in
    ap numbers_of (cond-true (not (length (b ∷ piece) == 0)) ((b ∷ piece) ∷ rest) rest filled)
    ∙ ap (λ first. with_first first (piece_numbers pieces)) (number_from_none (2 ^ 32) (b ∷ piece) (omega arith))
after_byte (Some n) b piece pieces = refl

-- a digit more
pub digit-more : (numbers : List ℕ) (current : Option ℕ) (b next : ℕ) (text : List ℕ) → is_white b ≡ false → with_digit (2 ^ 32) (unwrap_or current 0) b ≡ Some next → spelled_from numbers current (b ∷ text) ≡ spelled_from numbers (Some next) text
digit-more numbers current b next text other e =
    let first = split_some text in
    ap (λ pieces. put_behind numbers (after_digits current pieces)) (split_other b text first.0 first.1 other first.2)
    ∙ ap (put_behind numbers) (after_byte current b first.0 first.1)
    ∙ ap (λ number. put_behind numbers (with_first number (piece_numbers first.1))) (digit_taken (2 ^ 32) (unwrap_or current 0) b next first.0 e)
    ∙ ap (λ pieces. put_behind numbers (after_digits (Some next) pieces)) (sym first.2)

-- no digit, or a number past the limit
pub digit-none : (numbers : List ℕ) (current : Option ℕ) (b : ℕ) (text : List ℕ) → is_white b ≡ false → with_digit (2 ^ 32) (unwrap_or current 0) b ≡ None → spelled_from numbers current (b ∷ text) ≡ None
digit-none numbers current b text other e =
    let first = split_some text in
    ap (λ pieces. put_behind numbers (after_digits current pieces)) (split_other b text first.0 first.1 other first.2)
    ∙ ap (put_behind numbers) (after_byte current b first.0 first.1)
    ∙ ap (λ number. put_behind numbers (with_first number (piece_numbers first.1))) (digit_refused (2 ^ 32) (unwrap_or current 0) b first.0 e)

-- the number so far is below the limit
pub digit-below : (value digit next : ℕ) → with_digit (2 ^ 32) value digit ≡ Some next → next < 2 ^ 32
digit-below value digit next e =
    let p = cond_some (is_ascii_digit digit && ltb (value * 10 + (digit - 48)) (2 ^ 32)) (value * 10 + (digit - 48)) next e in
    let a = and_parts (is_ascii_digit digit) (ltb (value * 10 + (digit - 48)) (2 ^ 32)) p.0 in
    subst (λ (n : ℕ). n < 2 ^ 32) p.1 (ltb-true (value * 10 + (digit - 48)) (2 ^ 32) a.1)

-- ---- one byte of a text

module _ (text : List ℕ) (i : ℕ) (numbers : List ℕ) (current : Option ℕ) (l : i < length text) (so_far : spelled_from numbers current (drop i text) ≡ spelled_numbers text) where
  here : spelled_from numbers current (get_or text i 0 ∷ drop (i + 1) text) ≡ spelled_numbers text
  here = ap (spelled_from numbers current) (sym (drop_more text i 0 l)) ∙ so_far

  pub step-white : current ≡ None → is_white (get_or text i 0) ≡ true → spelled_from numbers current (drop (i + 1) text) ≡ spelled_numbers text
  step-white none white =
      ap (λ c. spelled_from numbers c (drop (i + 1) text)) none
      ∙ sym (white-nothing numbers (get_or text i 0) (drop (i + 1) text) white)
      ∙ ap (λ c. spelled_from numbers c (get_or text i 0 ∷ drop (i + 1) text)) (sym none) ∙ here

  pub step-number : (n : ℕ) → current ≡ Some n → IfSome current (λ number. number < 2 ^ 32) → is_white (get_or text i 0) ≡ true → spelled_from (numbers ++ n ∷ []) None (drop (i + 1) text) ≡ spelled_numbers text
  step-number n some below white =
      sym (white-number numbers n (get_or text i 0) (drop (i + 1) text) (subst (λ (o : Option ℕ). IfSome o (λ number. number < 2 ^ 32)) some below) white)
      ∙ ap (λ c. spelled_from numbers c (get_or text i 0 ∷ drop (i + 1) text)) (sym some) ∙ here

  pub step-digit : (value next : ℕ) → value ≡ unwrap_or current 0 → is_white (get_or text i 0) ≡ false → Some next ≡ with_digit (2 ^ 32) value (get_or text i 0) → spelled_from numbers (Some next) (drop (i + 1) text) ≡ spelled_numbers text
  step-digit value next is other e = sym (digit-more numbers current (get_or text i 0) next (drop (i + 1) text) other (ap (λ v. with_digit (2 ^ 32) v (get_or text i 0)) (sym is) ∙ sym e)) ∙ here

  pub step-none : (value : ℕ) → value ≡ unwrap_or current 0 → is_white (get_or text i 0) ≡ false → None ≡ with_digit (2 ^ 32) value (get_or text i 0) → None ≡ spelled_numbers text
  step-none value is other e = sym (digit-none numbers current (get_or text i 0) (drop (i + 1) text) other (ap (λ v. with_digit (2 ^ 32) v (get_or text i 0)) (sym is) ∙ sym e)) ∙ here
