-- Numbers in decimal with one space between any two: the parts between the spaces spell these numbers, and no byte is a quote.
use Rattle.std.proofs.Common.{◌≡◌, ℕ, zero, suc, ◌+◌, ◌<◌, ◌^◌, ◌/◌, ◌%◌, true, false, not, ◌==◌, List, [], ◌∷◌, ◌++◌, length, map, Some, refl, ap, ◌∙◌, inl, inr, decimal, arith}
use Rattle.std.specs.Char.{is_ascii_digit}
use Rattle.std.specs.Fmt.{digits, digits_onto, digit_glyph}
use Rattle.std.specs.Int.{IsInRange}
use Rattle.std.specs.List.{All, list_all, filter, slice_split}
use Rattle.std.proofs.lemmas.Bool.{and_parts, and_from, lt-ltb, le-ltb, ne_eqb, not_from_false, cases_lt, cases_Bool}
use Rattle.std.proofs.lemmas.List.{append-nil}
use Rattle.std.proofs.lemmas.List.Elements.{All-head, All-tail, All-nil, All-cons}
use Rattle.std.proofs.lemmas.List.Splits.{slice_split_none, slice_split_at}
use Rattle.std.proofs.lemmas.Str.Parse.{IsNumeralModel, numerals_by_fold}
use Rattle.std.proofs.lemmas.Fmt.{digits_decimal, digits_value-decimal, decimal_is_IsNumeral}
use Rattle.decimals.specs.Text.{spaced_numbers}
use Rattle.gml_text.specs.Bytes.{is_white, is_no_quote}
use Rattle.decimals.specs.Number.{are_digits, spelled_after, number_below}
use Rattle.gml_graph.specs.Start.{numbers_of, spelled_numbers}
use Rattle.gml_graph.specs.Marked.{numbers_text, IsQuotable, AreQuotable}

-- numbers of 32 bits
abbrev pub AreNarrow : List ℕ → Type 0
AreNarrow ns = All (λ n. n < 2 ^ 32) ns

-- ---- digits

abbrev AreDigits : List ℕ → Type 0
AreDigits ds = list_all is_ascii_digit ds ≡ true

digit_parts : (c : ℕ) (cs : List ℕ) → AreDigits (c ∷ cs) → IsInRange 48 57 c × AreDigits cs
digit_parts c cs e =
    let p = and_parts (is_ascii_digit c) (list_all is_ascii_digit cs) e in
    (grind (arith, p.0), p.1)

digit_more : (c : ℕ) (cs : List ℕ) → IsInRange 48 57 c → AreDigits cs → AreDigits (c ∷ cs)
digit_more c cs r e = and_from (is_ascii_digit c) (list_all is_ascii_digit cs) (grind (arith, r.0, r.1)) e

numerals : IsNumeralModel AreDigits (spelled_after 0)
numerals = numerals_by_fold AreDigits (record { empty = refl; parts = digit_parts; more = digit_more }) spelled_after (record { empty = λ n. refl; more = λ n c cs r. refl })

filled : (ds : List ℕ) → 0 < length ds → AreDigits ds → are_digits ds ≡ true
filled [] some e = absurd (omega arith)
filled (d ∷ ds) some e = e

-- a digit is not white
digit_black : (c : ℕ) → IsInRange 48 57 c → is_white c ≡ false
digit_black c r = grind (arith, r.0, r.1)

digits_black : (ds : List ℕ) → AreDigits ds → All (λ c. is_white c ≡ false) ds
digits_black [] e = All-nil (λ c. is_white c ≡ false)
digits_black (d ∷ ds) e =
    let p = digit_parts d ds e in
    All-cons (λ c. is_white c ≡ false) d ds (digit_black d p.0) (digits_black ds p.1)

-- ---- a number

decimal_black : (n : ℕ) → n < 2 ^ 32 → All (λ c. is_white c ≡ false) (decimal n)
decimal_black n narrow = digits_black (decimal n) (digits_decimal numerals n (omega arith))

pub decimal_filled : (n : ℕ) → n < 2 ^ 32 → 0 < length (decimal n)
decimal_filled n narrow = (decimal_is_IsNumeral n (omega arith)).0.0

-- the digits of a number spell it
pub decimal_spelled : (n : ℕ) → n < 2 ^ 32 → number_below (2 ^ 32) (decimal n) ≡ Some n
decimal_spelled n narrow =
    let wide : n < 2 ^ 64 = omega arith in
    let all : are_digits (decimal n) ≡ true = filled (decimal n) (decimal_filled n narrow) (digits_decimal numerals n wide) in
    let value : spelled_after 0 (decimal n) ≡ n = digits_value-decimal numerals n wide in
    rw (all, value, lt-ltb n (2 ^ 32) narrow) refl

-- ---- numbers with spaces between them

-- the parts of the text of one number or more, where it is cut at each byte of white space
pub numbers_split : (n : ℕ) (ns : List ℕ) → AreNarrow (n ∷ ns) → slice_split is_white (numbers_text (n ∷ ns)) ≡ map decimal (n ∷ ns)
numbers_split n [] narrow = ap (slice_split is_white) (append-nil (decimal n)) ∙ slice_split_none is_white (decimal n) (decimal_black n (All-head (λ k. k < 2 ^ 32) n [] narrow))
numbers_split n (m ∷ ms) narrow =
    slice_split_at is_white (decimal n) 32 (decimal m ++ spaced_numbers ms) (decimal_black n (All-head (λ k. k < 2 ^ 32) n (m ∷ ms) narrow)) refl
    ∙ ap (λ (parts : List (List ℕ)). decimal n ∷ parts) (numbers_split m ms (All-tail (λ k. k < 2 ^ 32) n (m ∷ ms) narrow))

-- no part is empty
parts_kept : (ns : List ℕ) → AreNarrow ns → filter (λ (word : List ℕ). not (length word == 0)) (map decimal ns) ≡ map decimal ns
parts_kept [] narrow = refl
parts_kept (n ∷ ns) narrow =
    let filled : (length (decimal n) == 0) ≡ false = ne_eqb (length (decimal n)) 0 (λ e. absurd (omega (arith, e, decimal_filled n (All-head (λ k. k < 2 ^ 32) n ns narrow)))) in
    rw (filled, parts_kept ns (All-tail (λ k. k < 2 ^ 32) n ns narrow)) refl

-- each part spells its number
parts_spelled : (ns : List ℕ) → AreNarrow ns → numbers_of (map decimal ns) ≡ Some ns
parts_spelled [] narrow = refl
parts_spelled (n ∷ ns) narrow = rw (decimal_spelled n (All-head (λ k. k < 2 ^ 32) n ns narrow), parts_spelled ns (All-tail (λ k. k < 2 ^ 32) n ns narrow)) refl

-- the text of numbers spells them
pub numbers_spelled : (ns : List ℕ) → AreNarrow ns → spelled_numbers (numbers_text ns) ≡ Some ns
numbers_spelled [] narrow = refl
numbers_spelled (n ∷ ns) narrow =
    ap (λ (parts : List (List ℕ)). numbers_of (filter (λ (word : List ℕ). not (length word == 0)) parts)) (numbers_split n ns narrow)
    ∙ ap numbers_of (parts_kept (n ∷ ns) narrow) ∙ parts_spelled (n ∷ ns) narrow

-- ---- no quote

glyph_quotable : (d : ℕ) → is_no_quote (digit_glyph false d) ≡ true
glyph_quotable d =
    elim (cases_lt d 10) [
      | inl small ↦ rw (lt-ltb d 10 small) (not_from_false (48 + d == 34) (ne_eqb (48 + d) 34 (λ e. absurd (omega (arith, e)))))
      | inr large ↦ rw (le-ltb d 10 large) (not_from_false (87 + d == 34) (ne_eqb (87 + d) 34 (λ e. absurd (omega (arith, e)))))
    ]

digits_quotable : (k n : ℕ) (after : List ℕ) → IsQuotable after → IsQuotable (digits_onto k 10 false n after)
digits_quotable zero n after quotable = quotable
digits_quotable (suc k) n after quotable =
    let more : IsQuotable (digit_glyph false (n % 10) ∷ after) = and_from (is_no_quote (digit_glyph false (n % 10))) (list_all is_no_quote after) (glyph_quotable (n % 10)) quotable in
    elim (cases_Bool (n / 10 == 0)) [
      | inl last ↦ rw last more
      | inr other ↦ rw other (digits_quotable k (n / 10) (digit_glyph false (n % 10) ∷ after) more)
    ]

decimal_quotable : (n : ℕ) → IsQuotable (decimal n)
unfolding digits
decimal_quotable n = digits_quotable 64 n [] refl

quotable-append : (xs ys : List ℕ) → IsQuotable xs → IsQuotable ys → IsQuotable (xs ++ ys)
quotable-append [] ys one other = other
quotable-append (x ∷ xs) ys one other =
    let p = and_parts (is_no_quote x) (list_all is_no_quote xs) one in
    and_from (is_no_quote x) (list_all is_no_quote (xs ++ ys)) p.0 (quotable-append xs ys p.1 other)

spaced_quotable : (ns : List ℕ) → IsQuotable (spaced_numbers ns)
spaced_quotable [] = refl
spaced_quotable (n ∷ ns) = quotable-append (decimal n) (spaced_numbers ns) (decimal_quotable n) (spaced_quotable ns)

pub numbers_quotable : (ns : List ℕ) → IsQuotable (numbers_text ns)
numbers_quotable [] = refl
numbers_quotable (n ∷ ns) = quotable-append (decimal n) (spaced_numbers ns) (decimal_quotable n) (spaced_quotable ns)

pub lists_quotable : (lists : List (List ℕ)) → AreQuotable (map numbers_text lists)
lists_quotable [] = All-nil IsQuotable
lists_quotable (ns ∷ lists) = All-cons IsQuotable (numbers_text ns) (map numbers_text lists) (numbers_quotable ns) (lists_quotable lists)
