-- The parts of a line between semicolons, by its tokens.
use Rattle.std.proofs.Common.{◌≡◌, ℕ, ◌<◌, Bool, true, false, ◌==◌, List, [], ◌∷◌, ◌++◌, length, refl, ap, ◌∙◌, inl, inr, bytes_eq, arith}
use Rattle.std.specs.List.{list_any, onto_first, slice_split}
use Rattle.std.proofs.lemmas.Bool.{or_parts, or_from, and_left, cases_Bool}
use Rattle.std.proofs.lemmas.List.{length-append}
use Rattle.spqr_script.specs.Line.{is_blank, is_mark, begins_word, tokens_of}
use Rattle.spqr_script.specs.Script.{is_semicolon}
use Rattle.spqr_script.proofs.FromFront.{word_byte_is}

-- ---- a list cut at the elements that pass a test

pub split_at_first : {A : Type 0} (p : A → Bool) (front : List A) (y : A) (back : List A) → list_any p front ≡ false → p y ≡ true → slice_split p (front ++ y ∷ back) ≡ front ∷ slice_split p back
split_at_first p [] y back none passes = rw passes refl
split_at_first p (x ∷ front) y back none passes =
    let a = or_parts (p x) (list_any p front) none in
    rw (a.0, split_at_first p front y back a.1 passes) refl

pub split_nowhere : {A : Type 0} (p : A → Bool) (xs : List A) → list_any p xs ≡ false → slice_split p xs ≡ xs ∷ []
split_nowhere p [] none = refl
split_nowhere p (x ∷ xs) none =
    let a = or_parts (p x) (list_any p xs) none in
    rw (a.0, split_nowhere p xs a.1) refl

-- ---- the tokens of a text that is cut at a semicolon

onto_first_some : (b : ℕ) (ts : List (List ℕ)) → (w : List ℕ) × (ws : List (List ℕ)) × (onto_first b ts ≡ w ∷ ws)
onto_first_some b [] = (b ∷ [], [], refl)
onto_first_some b (w ∷ ws) = (b ∷ w, ws, refl)

word_first : (bs : List ℕ) → begins_word bs ≡ true → (w : List ℕ) × (ws : List (List ℕ)) × (tokens_of bs ≡ w ∷ ws)
unfolding tokens_of
word_first [] word = absurd cc
word_first (b ∷ bs) word =
    let byte = word_byte_is b word in
    elim (cases_Bool (begins_word bs)) [
      | inl next ↦ rw (byte.0, byte.1, next) (onto_first_some b (tokens_of bs))
      | inr ends ↦ rw (byte.0, byte.1, ends) (b ∷ [], tokens_of bs, refl)
    ]

-- what comes first in a text is no word of the semicolon behind it
begins_before : (bs after : List ℕ) → begins_word (bs ++ 59 ∷ after) ≡ begins_word bs
begins_before [] after = refl
begins_before (b ∷ bs) after = refl

tokens_before : (part after : List ℕ) → tokens_of (part ++ 59 ∷ after) ≡ tokens_of part ++ (59 ∷ []) ∷ tokens_of after
unfolding tokens_of
tokens_before [] after = refl
tokens_before (b ∷ bs) after =
    let rest = tokens_before bs after in
    elim (cases_Bool (is_blank b)) [
      | inl blank ↦ rw blank rest
      | inr other ↦
          elim (cases_Bool (is_mark b)) [
            | inl mark ↦ rw (other, mark) (ap (λ (ts : List (List ℕ)). (b ∷ []) ∷ ts) rest)
            | inr letter ↦
                elim (cases_Bool (begins_word bs)) [
                  | inl word ↦
                      let f = word_first bs word in
                      rw (other, letter, begins_before bs after, word, rest, f.2) refl
                  | inr ends ↦ rw (other, letter, begins_before bs after, ends, rest) refl
                ]
          ]
    ]

onto_first_none : (b : ℕ) (ts : List (List ℕ)) → (b == 59) ≡ false → list_any is_semicolon ts ≡ false → list_any is_semicolon (onto_first b ts) ≡ false
onto_first_none b [] other none = or_from (is_semicolon (b ∷ [])) false (and_left (b == 59) true other) refl
onto_first_none b (w ∷ ws) other none =
    let p = or_parts (is_semicolon w) (list_any is_semicolon ws) none in
    or_from (is_semicolon (b ∷ w)) (list_any is_semicolon ws) (and_left (b == 59) (bytes_eq w []) other) p.1

no_semicolons : (part : List ℕ) → list_any (λ b. b == 59) part ≡ false → list_any is_semicolon (tokens_of part) ≡ false
unfolding tokens_of
no_semicolons [] none = refl
no_semicolons (b ∷ bs) none =
    let p = or_parts (b == 59) (list_any (λ b. b == 59) bs) none in
    let rest = no_semicolons bs p.1 in
    let alone = or_from (is_semicolon (b ∷ [])) (list_any is_semicolon (tokens_of bs)) (and_left (b == 59) true p.0) rest in
    elim (cases_Bool (is_blank b)) [
      | inl blank ↦ rw blank rest
      | inr other ↦
          elim (cases_Bool (is_mark b)) [
            | inl mark ↦ rw (other, mark) alone
            | inr letter ↦
                elim (cases_Bool (begins_word bs)) [
                  | inl word ↦ rw (other, letter, word) (onto_first_none b (tokens_of bs) p.0 rest)
                  | inr ends ↦ rw (other, letter, ends) alone
                ]
          ]
    ]

pub part_before : (text part after : List ℕ) → text ≡ part ++ 59 ∷ after → list_any (λ b. b == 59) part ≡ false
    → (slice_split is_semicolon (tokens_of text) ≡ tokens_of part ∷ slice_split is_semicolon (tokens_of after)) × (length after < length text)
part_before text part after e none =
    let long : length text ≡ length (part ++ 59 ∷ after) = ap length e in (
      ap (λ (t : List ℕ). slice_split is_semicolon (tokens_of t)) e ∙ ap (λ (ts : List (List ℕ)). slice_split is_semicolon ts) (tokens_before part after)
          ∙ split_at_first is_semicolon (tokens_of part) (59 ∷ []) (tokens_of after) (no_semicolons part none) refl,
      omega (arith, length-append part (59 ∷ after)),
    )

pub last_part : (text : List ℕ) → list_any (λ b. b == 59) text ≡ false → slice_split is_semicolon (tokens_of text) ≡ tokens_of text ∷ []
last_part text none = split_nowhere is_semicolon (tokens_of text) (no_semicolons text none)
