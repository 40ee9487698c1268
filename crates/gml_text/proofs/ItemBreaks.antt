-- Items that break off: where no key, no closing bracket and no value goes on.
use Rattle.std.proofs.Common.{◌≡◌, ℕ, ◌+◌, ◌<◌, true, false, Some, List, [], ◌∷◌, ◌++◌, length, refl, sym, ap, subst, ◌∙◌, inl, inr, arith, append_assoc}
use Rattle.std.specs.List.{list_all}
use Rattle.std.proofs.lemmas.Bool.{false≢true}
use Rattle.std.proofs.lemmas.List.{append-nil, length-append}
use Rattle.gml_text.specs.Bytes.{is_no_quote}
use Rattle.gml_text.specs.Grammar.{is_gap, is_key, is_behind_word, KeyStands}
use Rattle.gml_text.specs.Recognised.{passes}
use Rattle.gml_text.specs.declared.number.Part.TheVariants.{Nothing}
use Rattle.gml_text.specs.Reading.{after_gap, IsWord, BeginAlike}
use Rattle.gml_text.specs.Items.{NoValue}
use Rattle.gml_text.specs.Breaks.{Breaks, KeyBreaks, NumberBreaks, WholeValue, WholePair, ValueBreaks, PairBreaks}
use Rattle.gml_text.proofs.Gaps.{begins, after_gap-gap, gap_before, after_gap_begins, last-after_gap}
use Rattle.gml_text.proofs.PassesNumber.{passes_number}
use Rattle.gml_text.proofs.NextItem.{no_value-unquoted, no_value-word, stuck-word, stuck-value}
use Rattle.gml_text.proofs.OtherRest.{alike_byte, alike_behind, key_before, key_split}
use Rattle.gml_text.proofs.Closing.{gap_line, quotes_value}
use Rattle.gml_text.proofs.WordBreaks.{WordIn, word_in}

-- a gap, the two parts of a word, and the rest
regroup : (gap front tail rest : List ℕ) → gap ++ ((front ++ tail) ++ rest) ≡ (gap ++ front) ++ (tail ++ rest)
regroup gap front tail rest = ap (λ (xs : List ℕ). gap ++ xs) (append_assoc front tail rest) ∙ sym (append_assoc gap front (tail ++ rest))

begins_some : (here : List ℕ) → begins here ≡ true → 0 < length here
begins_some [] h = absurd (false≢true h)
begins_some (b ∷ bs) h = omega arith

-- bytes that begin alike begin tokens alike
alike_begins : (one two : List ℕ) → BeginAlike one two → begins two ≡ true → begins one ≡ true
alike_begins one two a h = ap begins a.of_one ∙ sym (ap begins a.of_two) ∙ h

alike_first : (one two : List ℕ) → BeginAlike one two → (c : ℕ) → ((more : List ℕ) → two ≡ c ∷ more → ⊥) → (more : List ℕ) → one ≡ c ∷ more → ⊥
alike_first one two a c fails more e =
    let same : a.first ∷ a.more ≡ c ∷ more = sym a.of_one ∙ e in
    let head : a.first ≡ c = cc in
    fails a.rest (a.of_two ∙ ap (λ (x : ℕ). x ∷ a.rest) head)

some_there : (xs : List ℕ) (b : ℕ) (others : List ℕ) → xs ++ (b ∷ others) ≡ [] → ⊥
some_there [] b others e = cc
some_there (x ∷ xs) b others e = let same : x ∷ (xs ++ (b ∷ others)) ≡ [] = e in cc

-- another text with the same front, where the word is none either
pub record Other (No : List ℕ → Type 0) (bytes other : List ℕ) : Type 0 where
  pub word : WordIn No (after_gap other)
  pub first : (c : ℕ) → ((more : List ℕ) → after_gap bytes ≡ c ∷ more → ⊥) → (more : List ℕ) → after_gap other ≡ c ∷ more → ⊥
  pub some : after_gap other ≡ [] → ⊥

-- a word behind a gap that breaks off
pub record Broken (Whole No : List ℕ → Type 0) (bytes : List ℕ) (left : ℕ) : Type 0 where
  pub gap : List ℕ
  pub front : List ℕ
  pub tail : List ℕ
  pub split : bytes ≡ (gap ++ front) ++ tail
  pub count : length tail ≡ left
  pub more : List ℕ
  pub whole : Whole (front ++ more)
  pub other : (b : ℕ) (rest others : List ℕ) → tail ≡ b ∷ rest → Other No bytes ((gap ++ front) ++ (b ∷ others))
  pub is_gap : is_gap false gap ≡ true

module _ (Whole No : List ℕ → Type 0) (bytes w rest : List ℕ) (left : ℕ) (word : IsWord w (after_gap bytes) rest) (broken : Breaks Whole No w left) (here : begins (after_gap bytes) ≡ true) where
  abbrev Before : Type 0
  Before = (gap : List ℕ) × (bytes ≡ gap ++ after_gap bytes) × (is_gap false gap ≡ true)

  before : Before
  before = gap_before bytes (begins_some (after_gap bytes) here)

  abbrev left_behind : List ℕ
  left_behind = broken.tail ++ rest

  here_parts : after_gap bytes ≡ broken.front ++ left_behind
  here_parts = word.whole ∙ ap (λ (xs : List ℕ). xs ++ rest) broken.split ∙ append_assoc broken.front broken.tail rest

  -- another text with the same front and one byte more
  module _ (b : ℕ) (r others : List ℕ) (e : left_behind ≡ b ∷ r) where
    abbrev there : List ℕ
    there = broken.front ++ (b ∷ others)

    abbrev other : List ℕ
    other = (before.0 ++ broken.front) ++ (b ∷ others)

    there_alike : BeginAlike there (after_gap bytes)
    there_alike = subst (λ (xs : List ℕ). BeginAlike there xs) (sym (here_parts ∙ ap (λ (xs : List ℕ). broken.front ++ xs) e)) (alike_byte broken.front b others r)

    there_after : after_gap other ≡ there
    there_after =
        ap after_gap (append_assoc before.0 broken.front (b ∷ others))
        ∙ after_gap-gap before.0 there before.2 (alike_begins there (after_gap bytes) there_alike here)

    is_other : Other No bytes other
    is_other =
        record {
          word =
              subst (λ (xs : List ℕ). WordIn No xs) (sym there_after)
              (word_in No w broken.front broken.tail rest broken.split word.is_word word.ends broken.none broken.breaks b r others e);
          first = λ c fails more f. alike_first there (after_gap bytes) there_alike c fails more (sym there_after ∙ f);
          some = λ f. some_there broken.front b others (sym there_after ∙ f);
        }

  pub is_broken : Broken Whole No bytes (left + length rest)
  is_broken =
      record {
        gap = before.0;
        front = broken.front;
        tail = left_behind;
        split = before.1 ∙ ap (λ (xs : List ℕ). before.0 ++ xs) here_parts ∙ sym (append_assoc before.0 broken.front left_behind);
        count = omega (arith, length-append broken.tail rest, broken.count);
        more = broken.more;
        whole = broken.whole;
        other = is_other;
        is_gap = before.2;
      }

-- a word that is no key
key_broken : (bytes w rest : List ℕ) (left : ℕ) → IsWord w (after_gap bytes) rest → false ≡ is_key w → (after_gap bytes ≡ [] → ⊥) → ((more : List ℕ) → after_gap bytes ≡ 93 ∷ more → ⊥) → Broken (λ t. is_key t ≡ true) (λ t. is_key t ≡ false) bytes left → PairBreaks bytes left
key_broken bytes w rest left word fails some no_close k =
    record {
      front = k.gap ++ k.front;
      tail = k.tail;
      split = k.split;
      count = k.count;
      more = k.more ++ (34 ∷ 34 ∷ []);
      whole =
          record {
            key = k.front ++ k.more;
            value = 34 ∷ 34 ∷ [];
            stands = record { stands = record { gap = k.gap; whole = sym (regroup k.gap k.front k.more (34 ∷ 34 ∷ [])); is_gap = k.is_gap }; is_key = k.whole; ends = refl };
            whole = quotes_value;
          };
      breaks = λ b r others e.
          let o = k.other b r others e in
          stuck-word ((k.gap ++ k.front) ++ (b ∷ others)) o.word.word o.word.rest o.word.is (sym o.word.no) o.some (o.first 93 no_close);
      none = stuck-word bytes w rest word fails some no_close;
    }

pub break_key : (bytes w rest : List ℕ) (left : ℕ) → IsWord w (after_gap bytes) rest → KeyBreaks w left → (after_gap bytes ≡ [] → ⊥) → ((more : List ℕ) → after_gap bytes ≡ 93 ∷ more → ⊥) → PairBreaks bytes (left + length rest)
break_key bytes w rest left word broken some no_close = elim (after_gap_begins bytes) [
  | inl e ↦ absurd (some e)
  | inr h ↦
      key_broken bytes w rest (left + length rest) word (sym broken.none) some no_close
      (is_broken (λ t. is_key t ≡ true) (λ t. is_key t ≡ false) bytes w rest left word broken h)
]

-- two quotes behind a gap at the end of the input, whose comment a line end closes
value_last : (bytes : List ℕ) → is_gap true bytes ≡ true → WholeValue (bytes ++ (10 ∷ 34 ∷ 34 ∷ []))
value_last bytes h =
    record {
      text = [];
      stands = inr (record { stands = record { gap = bytes ++ (10 ∷ []); whole = sym (append_assoc bytes (10 ∷ []) (34 ∷ 34 ∷ [])); is_gap = gap_line bytes h }; no_quote = refl });
    }

nil_cons : (b : ℕ) (rest : List ℕ) → [] ≡ b ∷ rest → ⊥
nil_cons b rest e = cc

break_last : (bytes : List ℕ) (left : ℕ) → 0 ≡ left → is_gap true bytes ≡ true → NoValue bytes → ValueBreaks bytes left
break_last bytes left e h none =
    record {
      front = bytes;
      tail = [];
      split = sym (append-nil bytes);
      count = e;
      more = 10 ∷ 34 ∷ 34 ∷ [];
      whole = value_last bytes h;
      breaks = λ b rest others f. absurd (nil_cons b rest f);
      none = none;
    }

-- a word that is no number
number_broken : (bytes w rest : List ℕ) (left : ℕ) → IsWord w (after_gap bytes) rest → false ≡ passes (Some Nothing) w → ((more : List ℕ) → after_gap bytes ≡ 34 ∷ more → ⊥) → ((more : List ℕ) → after_gap bytes ≡ 91 ∷ more → ⊥) → Broken (λ t. passes (Some Nothing) t ≡ true) (λ t. passes (Some Nothing) t ≡ false) bytes left → ValueBreaks bytes left
number_broken bytes w rest left word fails no_quote no_bracket k =
    record {
      front = k.gap ++ k.front;
      tail = k.tail;
      split = k.split;
      count = k.count;
      more = k.more;
      whole =
          record {
            text = k.front ++ k.more;
            stands =
                inl (record {
                  stands =
                      record {
                        gap = k.gap;
                        whole = append_assoc k.gap k.front k.more ∙ ap (λ (xs : List ℕ). k.gap ++ xs) (sym (append-nil (k.front ++ k.more)));
                        is_gap = k.is_gap;
                      };
                  is_number = passes_number (k.front ++ k.more) k.whole;
                  ends = refl;
                });
          };
      breaks = λ b r others e.
          let o = k.other b r others e in
          no_value-word ((k.gap ++ k.front) ++ (b ∷ others)) o.word.word o.word.rest o.word.is (sym o.word.no) (o.first 34 no_quote) (o.first 91 no_bracket);
      none = no_value-word bytes w rest word fails no_quote no_bracket;
    }

pub break_number : (bytes w rest : List ℕ) (left : ℕ) → IsWord w (after_gap bytes) rest → NumberBreaks w left → ((more : List ℕ) → after_gap bytes ≡ 34 ∷ more → ⊥) → ((more : List ℕ) → after_gap bytes ≡ 91 ∷ more → ⊥) → ValueBreaks bytes (left + length rest)
break_number bytes w rest left word broken no_quote no_bracket = elim (after_gap_begins bytes) [
  | inl e ↦
      break_last bytes (left + length rest)
      (omega (arith, ap length e, ap length word.whole, length-append w rest, ap length broken.split, length-append broken.front broken.tail, broken.count))
      (last-after_gap bytes e)
      (no_value-word bytes w rest word (sym broken.none) no_quote no_bracket)
  | inr h ↦
      number_broken bytes w rest (left + length rest) word (sym broken.none) no_quote no_bracket
      (is_broken (λ t. passes (Some Nothing) t ≡ true) (λ t. passes (Some Nothing) t ≡ false) bytes w rest left word broken h)
]

-- a string without its second quote
pub break_string : (bytes quoted : List ℕ) → after_gap bytes ≡ 34 ∷ quoted → list_all is_no_quote quoted ≡ true → ValueBreaks bytes 0
break_string bytes quoted here is =
    let before = gap_before bytes (subst (λ (xs : List ℕ). 0 < length xs) (sym here) (omega arith)) in
    record {
      front = bytes;
      tail = [];
      split = sym (append-nil bytes);
      count = refl;
      more = 34 ∷ [];
      whole =
          record {
            text = quoted;
            stands =
                inr (record {
                  stands =
                      record {
                        gap = before.0;
                        whole =
                            ap (λ (xs : List ℕ). xs ++ (34 ∷ [])) (before.1 ∙ ap (λ (xs : List ℕ). before.0 ++ xs) here)
                            ∙ append_assoc before.0 (34 ∷ quoted) (34 ∷ [])
                            ∙ ap (λ (xs : List ℕ). before.0 ++ xs) (sym (append-nil (34 ∷ (quoted ++ (34 ∷ [])))));
                        is_gap = before.2;
                      };
                  no_quote = is;
                });
          };
      breaks = λ b rest others f. absurd (nil_cons b rest f);
      none = no_value-unquoted bytes quoted here is;
    }

-- a key with the front of a value goes on to a pair: with two quotes where that front is empty
record KeyGoesOn (front : List ℕ) : Type 0 where
  pub more : List ℕ
  pub whole : WholePair (front ++ more)

key_goes_on : (key bytes value : List ℕ) (s : KeyStands key bytes value) (front tail more : List ℕ) → value ≡ front ++ tail → WholeValue (front ++ more) → KeyGoesOn ((s.stands.gap ++ key) ++ front)
key_goes_on key bytes value s [] tail more e v =
    record {
      more = 34 ∷ 34 ∷ [];
      whole = record { key = key; value = 34 ∷ 34 ∷ []; stands = key_before key bytes value s [] (34 ∷ 34 ∷ []) refl; whole = quotes_value };
    }
key_goes_on key bytes value s (c ∷ cs) tail more e v =
    record {
      more = more;
      whole = record { key = key; value = (c ∷ cs) ++ more; stands = key_before key bytes value s (c ∷ cs) more (sym (ap is_behind_word e) ∙ s.ends); whole = v };
    }

-- a key without a value
pub break_value : (bytes key value : List ℕ) (left : ℕ) → KeyStands key bytes value → ValueBreaks value left → PairBreaks bytes left
break_value bytes key value left s v =
    let goes_on = key_goes_on key bytes value s v.front v.tail v.more v.split v.whole in
    record {
      front = (s.stands.gap ++ key) ++ v.front;
      tail = v.tail;
      split = key_split key bytes value s v.front v.tail v.split;
      count = v.count;
      more = goes_on.more;
      whole = goes_on.whole;
      breaks = λ b r others e.
          stuck-value (((s.stands.gap ++ key) ++ v.front) ++ (b ∷ others)) key (v.front ++ (b ∷ others))
          (key_before key bytes value s v.front (b ∷ others)
          (alike_behind (v.front ++ (b ∷ others)) (v.front ++ (b ∷ r)) (alike_byte v.front b others r)
          (subst (λ (xs : List ℕ). is_behind_word xs ≡ true) (v.split ∙ ap (λ (xs : List ℕ). v.front ++ xs) e) s.ends)))
          (v.breaks b r others e);
      none = stuck-value bytes key value s v.none;
    }
