-- What stands behind the bar of a rotation line is read back as its entries.
use Rattle.std.proofs.Common.{◌≡◌, ℕ, ◌<◌, ◌^◌, Bool, true, false, ◌==◌, List, [], ◌∷◌, ◌++◌, length, map, refl, sym, ap, subst, ◌∙◌, inl, inr, codes, decimal, append_assoc, arith}
use Rattle.std.specs.Char.{is_ascii_digit}
use Rattle.std.specs.Int.{IsInRange}
use Rattle.std.specs.List.{All, AllZip, list_any, list_all, slice_split}
use Rattle.std.proofs.lemmas.Bool.{and_parts, and_from, or_from}
use Rattle.std.proofs.lemmas.List.{append-nil}
use Rattle.std.proofs.lemmas.List.Elements.{All-head, All-tail}
use Rattle.std.proofs.lemmas.List.Folds.{list_any-append}
use Rattle.std.proofs.lemmas.Str.Parse.{IsNumeralModel, numerals_by_fold}
use Rattle.std.proofs.lemmas.Fmt.{digits_decimal, digits_value-decimal, decimal_is_IsNumeral}
use Rattle.decimals.specs.Number.{are_digits, spelled_after}
use Rattle.rotations.specs.Entries.{IsRising}
use Rattle.spqr_script.specs.Number.{index_limit}
use Rattle.spqr_script.specs.Text.{spaced_numbers}
use Rattle.spqr_script.specs.Line.{is_word_byte, begins_word, tokens_of}
use Rattle.spqr_script.specs.Script.{SpellsIndex, SpellsIndices, SpellsEntry, SpellsRotation, is_semicolon}
use Rattle.spqr_script.specs.Answers.Rotation.{IsIndexEntry, entry_text, entries_text}
use Rattle.spqr_script.proofs.FromFront.{blank_skipped, mark_token, word_token, no_tokens}
use Rattle.spqr_script.proofs.Parts.{part_before, last_part}

-- ---- a number

abbrev AreDigits : List ℕ → Type 0
AreDigits ds = list_all is_ascii_digit ds ≡ true

digit_parts : (c : ℕ) (cs : List ℕ) → AreDigits (c ∷ cs) → IsInRange 48 57 c × AreDigits cs
digit_parts c cs e =
    let p = and_parts (is_ascii_digit c) (list_all is_ascii_digit cs) e in
    (grind (arith, p.0), p.1)

digit_more : (c : ℕ) (cs : List ℕ) → IsInRange 48 57 c → AreDigits cs → AreDigits (c ∷ cs)
digit_more c cs r e = and_from (is_ascii_digit c) (list_all is_ascii_digit cs) (grind (arith, r.0, r.1)) e

numerals : IsNumeralModel AreDigits (spelled_after 0)
numerals = numerals_by_fold AreDigits (record { empty = refl; parts = digit_parts; more = digit_more }) spelled_after (record { empty = λ n. refl; more = λ n c cs r. refl })

filled : (ds : List ℕ) → 0 < length ds → AreDigits ds → are_digits ds ≡ true
filled [] some e = absurd (omega arith)
filled (d ∷ ds) some e = e

index_printed : (n : ℕ) → n < index_limit → SpellsIndex (decimal n) n
index_printed n small =
    let narrow : n < 2 ^ 64 = omega arith in
    (filled (decimal n) (decimal_is_IsNumeral n narrow).0.0 (digits_decimal numerals n narrow), digits_value-decimal numerals n narrow, small)

-- a digit is a byte of words
digits_are : (ds : List ℕ) → AreDigits ds → list_all is_word_byte ds ≡ true
digits_are [] e = refl
digits_are (d ∷ ds) e =
    let p = digit_parts d ds e in
    and_from (is_word_byte d) (list_all is_word_byte ds) (grind (arith, p.0)) (digits_are ds p.1)

-- a test that no digit passes
abbrev pub PassesNoDigit : (ℕ → Bool) → Type 0
PassesNoDigit p = (c : ℕ) → IsInRange 48 57 c → p c ≡ false

digits_without : (p : ℕ → Bool) → PassesNoDigit p → (ds : List ℕ) → AreDigits ds → list_any p ds ≡ false
digits_without p fails [] e = refl
digits_without p fails (d ∷ ds) e =
    let q = digit_parts d ds e in
    or_from (p d) (list_any p ds) (fails d q.0) (digits_without p fails ds q.1)

decimal_is : (n : ℕ) → n < index_limit → (0 < length (decimal n)) × (list_all is_word_byte (decimal n) ≡ true)
decimal_is n small =
    let narrow : n < 2 ^ 64 = omega arith in
    ((decimal_is_IsNumeral n narrow).0.0, digits_are (decimal n) (digits_decimal numerals n narrow))

decimal_without : (p : ℕ → Bool) → PassesNoDigit p → (n : ℕ) → n < index_limit → list_any p (decimal n) ≡ false
decimal_without p fails n small = digits_without p fails (decimal n) (digits_decimal numerals n (omega arith))

-- a digit is no semicolon
no_semicolon : PassesNoDigit (λ b. b == 59)
no_semicolon c r = grind (arith, r.0, r.1)

-- ---- numbers with spaces before them

abbrev pub AreIndices : List ℕ → Type 0
AreIndices ns = All (λ n. n < index_limit) ns

pub no_word : (ns : List ℕ) → begins_word (spaced_numbers ns) ≡ false
no_word [] = refl
no_word (n ∷ ns) = refl

pub numbers_tokens : (ns : List ℕ) → AreIndices ns → tokens_of (spaced_numbers ns) ≡ map decimal ns
numbers_tokens [] small = no_tokens
numbers_tokens (n ∷ ns) small =
    let here = decimal_is n (All-head (λ n. n < index_limit) n ns small) in
    blank_skipped 32 (decimal n ++ spaced_numbers ns) refl ∙ word_token (decimal n) (spaced_numbers ns) here.0 here.1 (no_word ns)
    ∙ ap (λ (ts : List (List ℕ)). decimal n ∷ ts) (numbers_tokens ns (All-tail (λ n. n < index_limit) n ns small))

pub numbers_spelled : (ns : List ℕ) → AreIndices ns → SpellsIndices (map decimal ns) ns
numbers_spelled [] small = tt
numbers_spelled (n ∷ ns) small =
    (index_printed n (All-head (λ n. n < index_limit) n ns small), numbers_spelled ns (All-tail (λ n. n < index_limit) n ns small))

pub numbers_without : (p : ℕ → Bool) → PassesNoDigit p → p 32 ≡ false → (ns : List ℕ) → AreIndices ns → list_any p (spaced_numbers ns) ≡ false
numbers_without p fails blank [] small = refl
numbers_without p fails blank (n ∷ ns) small =
    let here = decimal_without p fails n (All-head (λ n. n < index_limit) n ns small) in
    let rest = numbers_without p fails blank ns (All-tail (λ n. n < index_limit) n ns small) in
    or_from (p 32) (list_any p (decimal n ++ spaced_numbers ns)) blank
    (list_any-append p (decimal n) (spaced_numbers ns) ∙ or_from (list_any p (decimal n)) (list_any p (spaced_numbers ns)) here rest)

-- ---- an entry

-- with the space before it
abbrev spaced_entry : ℕ × List ℕ → List ℕ
spaced_entry entry = codes " " ++ entry_text entry

entry_tokens : (entry : ℕ × List ℕ) → IsIndexEntry entry → tokens_of (spaced_entry entry) ≡ decimal entry.0 ∷ codes ":" ∷ map decimal entry.1
entry_tokens entry small =
    let here = decimal_is entry.0 small.0 in
    blank_skipped 32 (entry_text entry) refl ∙ ap tokens_of (append_assoc (decimal entry.0) (codes ":") (spaced_numbers entry.1))
    ∙ word_token (decimal entry.0) (58 ∷ spaced_numbers entry.1) here.0 here.1 refl
    ∙ ap (λ (ts : List (List ℕ)). decimal entry.0 ∷ ts) (mark_token 58 (spaced_numbers entry.1) refl refl ∙ ap (λ (ts : List (List ℕ)). codes ":" ∷ ts) (numbers_tokens entry.1 small.1))

entry_spelled : (entry : ℕ × List ℕ) → IsIndexEntry entry → SpellsEntry (tokens_of (spaced_entry entry)) entry
entry_spelled entry small =
    subst (λ (ts : List (List ℕ)). SpellsEntry ts entry) (sym (entry_tokens entry small)) (index_printed entry.0 small.0, refl, numbers_spelled entry.1 small.1)

entry_unmarked : (entry : ℕ × List ℕ) → IsIndexEntry entry → list_any (λ b. b == 59) (spaced_entry entry) ≡ false
entry_unmarked entry small =
    let here = decimal_without (λ b. b == 59) no_semicolon entry.0 small.0 in
    ap (λ (t : List ℕ). list_any (λ b. b == 59) t) (append_assoc (decimal entry.0) (codes ":") (spaced_numbers entry.1))
    ∙ list_any-append (λ b. b == 59) (decimal entry.0) (58 ∷ spaced_numbers entry.1)
    ∙ or_from (list_any (λ b. b == 59) (decimal entry.0)) (list_any (λ b. b == 59) (58 ∷ spaced_numbers entry.1)) here (numbers_without (λ b. b == 59) no_semicolon refl entry.1 small.1)

-- ---- the entries

entries_spelled : (entry : ℕ × List ℕ) (entries : List (ℕ × List ℕ)) → All IsIndexEntry (entry ∷ entries)
    → AllZip SpellsEntry (slice_split is_semicolon (tokens_of (entries_text (codes " ") (entry ∷ entries)))) (entry ∷ entries)
entries_spelled entry [] small =
    let here : IsIndexEntry entry = All-head IsIndexEntry entry [] small in
    let alone : entries_text (codes " ") (entry ∷ []) ≡ spaced_entry entry = append-nil (spaced_entry entry) in
    let parts = ap (λ (t : List ℕ). slice_split is_semicolon (tokens_of t)) alone ∙ last_part (spaced_entry entry) (entry_unmarked entry here) in
    subst (λ (ps : List (List (List ℕ))). AllZip SpellsEntry ps (entry ∷ [])) (sym parts) (entry_spelled entry here, tt)
entries_spelled entry (next ∷ entries) small =
    let here : IsIndexEntry entry = All-head IsIndexEntry entry (next ∷ entries) small in
    let rest : All IsIndexEntry (next ∷ entries) = All-tail IsIndexEntry entry (next ∷ entries) small in
    let parts = part_before (entries_text (codes " ") (entry ∷ next ∷ entries)) (spaced_entry entry) (entries_text (codes " ") (next ∷ entries)) refl (entry_unmarked entry here) in
    subst (λ (ps : List (List (List ℕ))). AllZip SpellsEntry ps (entry ∷ next ∷ entries)) (sym parts.0) (entry_spelled entry here, entries_spelled next entries rest)

pub printed_entries : (entries : List (ℕ × List ℕ)) → IsRising entries → All IsIndexEntry entries → SpellsRotation (tokens_of (entries_text (codes " ") entries)) entries
printed_entries [] rising small = inl (no_tokens, refl)
printed_entries (entry ∷ entries) rising small = inr (entries_spelled entry entries small, rising)
