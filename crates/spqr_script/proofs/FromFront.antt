-- Lines and tokens from the front of a text.
use Rattle.std.proofs.Common.{◌≡◌, ℕ, suc, ◌<◌, ◌≤◌, take, drop, true, false, not, ◌||◌, ◌==◌, List, [], ◌∷◌, ◌++◌, length, refl, sym, ap, ◌∙◌, arith}
use Rattle.std.specs.List.{list_any, list_all, onto_first}
use Rattle.std.proofs.lemmas.Bool.{and_parts, or_parts, or_from, not-true, both_ways}
use Rattle.std.proofs.lemmas.List.{nil_from_length, length-append, take_all, drop_all}
use Rattle.spqr_script.specs.Line.{cut_lines, is_blank, begins_blank, is_passed_over, is_mark, is_word_byte, begins_word, tokens_of}

-- ---- lines

-- the line before the first line feed
pub first_line : (line rest : List ℕ) → list_any (λ b. b == 10) line ≡ false → cut_lines (line ++ 10 ∷ rest) ≡ line ∷ cut_lines rest
unfolding cut_lines
first_line [] rest none = refl
first_line (b ∷ bs) rest none =
    let p = or_parts (b == 10) (list_any (λ b. b == 10) bs) none in
    rw (p.0, first_line bs rest p.1) refl

-- the last line, without a line feed
pub last_line : (b : ℕ) (bs : List ℕ) → list_any (λ b. b == 10) (b ∷ bs) ≡ false → cut_lines (b ∷ bs) ≡ (b ∷ bs) ∷ []
unfolding cut_lines
last_line b [] none = rw (or_parts (b == 10) false none).0 refl
last_line b (c ∷ bs) none =
    let p = or_parts (b == 10) (list_any (λ b. b == 10) (c ∷ bs)) none in
    rw (p.0) (ap (λ (ls : List (List ℕ)). onto_first b ls) (last_line c bs p.1))

-- ---- tokens

pub blank_skipped : (b : ℕ) (bs : List ℕ) → is_blank b ≡ true → tokens_of (b ∷ bs) ≡ tokens_of bs
unfolding tokens_of
blank_skipped b bs blank = rw blank refl

pub blank_passed : (b : ℕ) (bs : List ℕ) → is_blank b ≡ true → is_passed_over (b ∷ bs) ≡ is_passed_over bs
unfolding is_passed_over
blank_passed b bs blank = rw blank refl

-- a line that begins with another byte
pub other_passed : (b : ℕ) (bs : List ℕ) → is_blank b ≡ false → is_passed_over (b ∷ bs) ≡ (b == 35)
unfolding is_passed_over
other_passed b bs other = rw other refl

pub none_passed : is_passed_over [] ≡ true
unfolding is_passed_over
none_passed = refl

pub no_tokens : tokens_of [] ≡ []
unfolding tokens_of
no_tokens = refl

pub mark_token : (b : ℕ) (bs : List ℕ) → is_blank b ≡ false → is_mark b ≡ true → tokens_of (b ∷ bs) ≡ (b ∷ []) ∷ tokens_of bs
unfolding tokens_of
mark_token b bs blank mark = rw (blank, mark) refl

pub word_byte_is : (b : ℕ) → is_word_byte b ≡ true → (is_blank b ≡ false) × (is_mark b ≡ false)
word_byte_is b word = or_parts (is_blank b) (is_mark b) (not-true (is_blank b || is_mark b) word)

pub word_byte_from : (b : ℕ) → is_blank b ≡ false → is_mark b ≡ false → is_word_byte b ≡ true
word_byte_from b blank mark = ap not (or_from (is_blank b) (is_mark b) blank mark)

pub word_token : (word rest : List ℕ) → 0 < length word → list_all is_word_byte word ≡ true → begins_word rest ≡ false → tokens_of (word ++ rest) ≡ word ∷ tokens_of rest
unfolding tokens_of
word_token [] rest some all ends = absurd (omega arith)
word_token (b ∷ []) rest some all ends =
    let byte = word_byte_is b (and_parts (is_word_byte b) true all).0 in
    rw (byte.0, byte.1, ends) refl
word_token (b ∷ c ∷ word) rest some all ends =
    let p = and_parts (is_word_byte b) (list_all is_word_byte (c ∷ word)) all in
    let byte = word_byte_is b p.0 in
    let next : is_word_byte c ≡ true = (and_parts (is_word_byte c) (list_all is_word_byte word) p.1).0 in
    rw (byte.0, byte.1, next) (ap (λ (ts : List (List ℕ)). onto_first b ts) (word_token (c ∷ word) rest (omega arith) p.1 ends))

-- ---- the first token

pub nothing_left : (line text : List ℕ) → tokens_of text ≡ tokens_of line → length text ≡ 0 → tokens_of line ≡ []
nothing_left line text same none = sym same ∙ ap tokens_of (nil_from_length text none) ∙ no_tokens

pub first_is_mark : (line text : List ℕ) (first : ℕ) (after token rest : List ℕ) → tokens_of text ≡ tokens_of line → begins_blank text ≡ false → length text ≤ length line → text ≡ first ∷ after
    → is_mark first ≡ true → token ≡ take 1 text → rest ≡ drop 1 text → (tokens_of line ≡ token ∷ tokens_of rest) × (length rest < length line)
first_is_mark line text first after token rest same other bound e mark front back =
    let blank : is_blank first ≡ false = sym (ap begins_blank e) ∙ other in
    let token-is : token ≡ first ∷ [] = front ∙ ap (λ (t : List ℕ). take 1 t) e in
    let rest-is : rest ≡ after = back ∙ ap (λ (t : List ℕ). drop 1 t) e in
    let long : length text ≡ suc (length after) = ap length e in
    let shorter : length rest ≡ length after = ap length rest-is in
    (sym same ∙ ap tokens_of e ∙ mark_token first after blank mark ∙ cc, omega arith)

pub first_is_word : (line text : List ℕ) (first : ℕ) (after word rest : List ℕ) → tokens_of text ≡ tokens_of line → begins_blank text ≡ false → length text ≤ length line → text ≡ first ∷ after
    → is_mark first ≡ false → text ≡ word ++ rest → list_all is_word_byte word ≡ true → begins_word rest ≡ false → (tokens_of line ≡ word ∷ tokens_of rest) × (length rest < length line)
first_is_word line text first after [] rest same other bound e mark parts all ends =
    let blank : is_blank first ≡ false = sym (ap begins_blank e) ∙ other in
    absurd (both_ways (begins_word rest) ends (ap begins_word (sym parts ∙ e) ∙ word_byte_from first blank mark))
first_is_word line text first after (b ∷ bs) rest same other bound e mark parts all ends =
    let long : length text ≡ length ((b ∷ bs) ++ rest) = ap length parts in
    (sym same ∙ ap tokens_of parts ∙ word_token (b ∷ bs) rest (omega arith) all ends, omega (arith, length-append (b ∷ bs) rest))

-- ---- blanks in front

pub blank_dropped : (line text : List ℕ) (b : ℕ) (after : List ℕ) → (tokens_of text ≡ tokens_of line) × (is_passed_over text ≡ is_passed_over line) × (length text ≤ length line) → text ≡ b ∷ after → is_blank b ≡ true
    → (tokens_of after ≡ tokens_of line) × (is_passed_over after ≡ is_passed_over line) × (length after ≤ length line)
blank_dropped line text b after so_far e blank =
    let long : length text ≡ suc (length after) = ap length e in
    (sym (blank_skipped b after blank) ∙ sym (ap tokens_of e) ∙ so_far.0, sym (blank_passed b after blank) ∙ sym (ap is_passed_over e) ∙ so_far.1, omega (arith, so_far.2))

-- ---- the first line

pub line_before : (bytes line rest : List ℕ) → bytes ≡ line ++ 10 ∷ rest → list_any (λ b. b == 10) line ≡ false → (cut_lines bytes ≡ line ∷ cut_lines rest) × (length rest < length bytes)
line_before bytes line rest e none =
    let long : length bytes ≡ length (line ++ 10 ∷ rest) = ap length e in
    (ap cut_lines e ∙ first_line line rest none, omega (arith, length-append line (10 ∷ rest)))

no_lines : cut_lines [] ≡ []
unfolding cut_lines
no_lines = refl

pub whole_line : (bytes line rest : List ℕ) → 0 < length bytes → list_any (λ b. b == 10) bytes ≡ false → line ≡ take (length bytes) bytes → rest ≡ drop (length bytes) bytes
    → (cut_lines bytes ≡ line ∷ cut_lines rest) × (length rest < length bytes)
whole_line [] line rest some none front back = absurd (omega arith)
whole_line (b ∷ bs) line rest some none front back =
    let all : line ≡ b ∷ bs = front ∙ take_all (length (b ∷ bs)) (b ∷ bs) (omega arith) in
    let nothing : rest ≡ [] = back ∙ drop_all (length (b ∷ bs)) (b ∷ bs) (omega arith) in
    (last_line b bs none ∙ (λ i. sym all i ∷ sym (ap cut_lines nothing ∙ no_lines) i), rw nothing (omega arith))

-- ---- lines that are passed over

pub passed_end : (line text : List ℕ) → is_passed_over text ≡ is_passed_over line → length text ≡ 0 → true ≡ is_passed_over line
passed_end line text same none = sym (ap is_passed_over (nil_from_length text none) ∙ none_passed) ∙ same

pub passed_other : (line text : List ℕ) (b : ℕ) (after : List ℕ) → is_passed_over text ≡ is_passed_over line → begins_blank text ≡ false → text ≡ b ∷ after → (b == 35) ≡ is_passed_over line
passed_other line text b after same other e = sym (ap is_passed_over e ∙ other_passed b after (sym (ap begins_blank e) ∙ other)) ∙ same
