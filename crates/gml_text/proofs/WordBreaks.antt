-- Words that break off: where no key and no number goes on.
use Rattle.std.proofs.Common.{◌≡◌, ℕ, ◌+◌, ◌-◌, ◌<◌, ◌≤◌, Bool, true, false, not, ◌&&◌, Option, Some, None, List, [], ◌∷◌, ◌++◌, length, get_or, take, drop, suc, zero, refl, sym, ap, subst, ◌∙◌, inl, inr, arith, append_assoc}
use Rattle.std.specs.List.{list_all}
use Rattle.std.proofs.lemmas.Bool.{false≢true, cases_Bool}
use Rattle.std.proofs.lemmas.List.{append-nil, take-append-drop, drop_more, drop_all, length-drop}
use Rattle.gml_text.specs.Bytes.{is_letter, is_key_byte, ends_word, is_word_byte}
use Rattle.gml_text.specs.Grammar.{is_key, is_behind_word}
use Rattle.gml_text.specs.Reading.{IsWord}
use Rattle.gml_text.specs.Breaks.{Breaks, KeyBreaks, NumberBreaks}
use Rattle.gml_text.specs.Recognised.{step, passes}
use Rattle.gml_text.specs.declared.number.Part.{Part}
use Rattle.gml_text.specs.declared.number.Part.TheVariants.{Nothing, Sign, Whole, Point, Fraction, Mark, MarkSign, Exponent, I, In, N, Na, Special}
use Rattle.gml_text.proofs.ByteClasses.{letter-key_byte}
use Rattle.gml_text.proofs.Numbers.{passes-none}
use Rattle.gml_text.proofs.Words.{both_true}

-- the same with the number of bytes that are left said in another way
pub breaks_with : (Goes No : List ℕ → Type 0) (bytes : List ℕ) (left other : ℕ) → left ≡ other → Breaks Goes No bytes left → Breaks Goes No bytes other
breaks_with Goes No bytes left other e b = subst (λ (n : ℕ). Breaks Goes No bytes n) e b

-- a test of all bytes of two runs
pub all_parts : (p : ℕ → Bool) (xs ys : List ℕ) → list_all p (xs ++ ys) ≡ true → (list_all p xs ≡ true) × (list_all p ys ≡ true)
all_parts p [] ys h = (refl, h)
all_parts p (x ∷ xs) ys h =
    let both = both_true (p x) (list_all p (xs ++ ys)) h in
    let rest = all_parts p xs ys both.1 in
    (ap (λ t. t && list_all p xs) both.0 ∙ rest.0, rest.1)

pub all_join : (p : ℕ → Bool) (xs ys : List ℕ) → list_all p xs ≡ true → list_all p ys ≡ true → list_all p (xs ++ ys) ≡ true
all_join p [] ys h k = k
all_join p (x ∷ xs) ys h k =
    let both = both_true (p x) (list_all p xs) h in
    ap (λ t. t && list_all p (xs ++ ys)) both.0 ∙ all_join p xs ys both.1 k

-- no key begins with a byte that is no letter
key_first : (b : ℕ) (more : List ℕ) → is_letter b ≡ false → is_key (b ∷ more) ≡ false
key_first b more e = ap (λ t. t && list_all is_key_byte more) e

-- nor goes on with a byte that may not stand in it
not_all : (p : ℕ → Bool) (xs : List ℕ) (b : ℕ) (more : List ℕ) → p b ≡ false → list_all p (xs ++ (b ∷ more)) ≡ false
not_all p [] b more e = ap (λ t. t && list_all p more) e
not_all p (x ∷ xs) b more e = elim (cases_Bool (p x)) [
  | inl t ↦ ap (λ s. s && list_all p (xs ++ (b ∷ more))) t ∙ not_all p xs b more e
  | inr t ↦ ap (λ s. s && list_all p (xs ++ (b ∷ more))) t
]

key_later : (c : ℕ) (cs : List ℕ) (b : ℕ) (more : List ℕ) → is_key_byte b ≡ false → is_key (c ∷ (cs ++ (b ∷ more))) ≡ false
key_later c cs b more e = elim (cases_Bool (is_letter c)) [
  | inl t ↦ ap (λ s. s && list_all is_key_byte (cs ++ (b ∷ more))) t ∙ not_all is_key_byte cs b more e
  | inr t ↦ ap (λ s. s && list_all is_key_byte (cs ++ (b ∷ more))) t
]

-- a word without a letter in front
pub key_breaks-first : (word : List ℕ) → (0 < length word → is_letter (get_or word 0 0) ≡ false) → KeyBreaks word (length word - 0)
key_breaks-first [] fails =
    record { front = []; tail = []; split = refl; count = omega arith; more = 97 ∷ []; whole = refl; breaks = λ b rest others e. absurd (cons_nil b rest e); none = refl }
  where
    cons_nil : (b : ℕ) (rest : List ℕ) → [] ≡ b ∷ rest → ⊥
    cons_nil b rest e = cc
key_breaks-first (c ∷ cs) fails =
    record {
      front = [];
      tail = c ∷ cs;
      split = refl;
      count = omega arith;
      more = 97 ∷ [];
      whole = refl;
      breaks = λ b rest others e. key_first b others (subst (λ (x : ℕ). is_letter x ≡ false) (same b rest e) (fails (omega arith)));
      none = key_first c cs (fails (omega arith));
    }
  where
    same : (b : ℕ) (rest : List ℕ) → c ∷ cs ≡ b ∷ rest → c ≡ b
    same b rest e = cc

-- a word with a byte that may not stand in a key
key_at : (c : ℕ) (cs : List ℕ) (j : ℕ) → is_letter c ≡ true → j < length cs → list_all is_key_byte (take j cs) ≡ true → is_key_byte (get_or cs j 0) ≡ false → KeyBreaks (c ∷ cs) (length cs - j)
key_at c cs j letter within all fails =
    record {
      front = c ∷ take j cs;
      tail = drop j cs;
      split = ap (λ (xs : List ℕ). c ∷ xs) (sym (take-append-drop j cs));
      count = length-drop j cs;
      more = [];
      whole = ap (λ (xs : List ℕ). is_key (c ∷ xs)) (append-nil (take j cs)) ∙ ap (λ t. t && list_all is_key_byte (take j cs)) letter ∙ all;
      breaks = λ b rest others e. key_later c (take j cs) b others (subst (λ (x : ℕ). is_key_byte x ≡ false) (same b rest e) fails);
      none =
          ap (λ (xs : List ℕ). is_key (c ∷ xs)) (sym (take-append-drop j cs) ∙ ap (λ (xs : List ℕ). take j cs ++ xs) (drop_more cs j 0 within))
          ∙ key_later c (take j cs) (get_or cs j 0) (drop (j + 1) cs) fails;
    }
  where
    same : (b : ℕ) (rest : List ℕ) → drop j cs ≡ b ∷ rest → get_or cs j 0 ≡ b
    same b rest e = let both : get_or cs j 0 ∷ drop (j + 1) cs ≡ b ∷ rest = sym (drop_more cs j 0 within) ∙ e in cc

pub key_breaks-later : (word : List ℕ) (i : ℕ) → i < length word → is_letter (get_or word 0 0) ≡ true → list_all is_key_byte (take i word) ≡ true → is_key_byte (get_or word i 0) ≡ false → KeyBreaks word (length word - i)
key_breaks-later [] i within letter all fails = absurd (omega arith)
key_breaks-later (c ∷ cs) zero within letter all fails = absurd (false≢true (sym fails ∙ letter-key_byte c letter))
key_breaks-later (c ∷ cs) (suc j) within letter all fails =
    breaks_with (λ t. is_key t ≡ true) (λ t. is_key t ≡ false) (c ∷ cs) (length cs - j) (length (c ∷ cs) - suc j) (omega arith)
    (key_at c cs j letter (omega arith) (both_true (is_key_byte c) (list_all is_key_byte (take j cs)) all).1 fails)

-- what makes a number of each part
abbrev completion : Part → List ℕ
completion Nothing = 48 ∷ []
completion Sign = 48 ∷ []
completion Whole = []
completion Point = 48 ∷ []
completion Fraction = []
completion Mark = 48 ∷ []
completion MarkSign = 48 ∷ []
completion Exponent = []
completion I = 78 ∷ 70 ∷ []
completion In = 70 ∷ []
completion N = 65 ∷ 78 ∷ []
completion Na = 78 ∷ []
completion Special = []

completion_passes : (part : Part) → passes (Some part) (completion part) ≡ true
completion_passes Nothing = refl
completion_passes Sign = refl
completion_passes Whole = refl
completion_passes Point = refl
completion_passes Fraction = refl
completion_passes Mark = refl
completion_passes MarkSign = refl
completion_passes Exponent = refl
completion_passes I = refl
completion_passes In = refl
completion_passes N = refl
completion_passes Na = refl
completion_passes Special = refl

-- these bytes lead to this part
abbrev pub LeadsTo : List ℕ → Part → Type 0
LeadsTo bytes part = (more : List ℕ) → passes (Some part) more ≡ passes (Some Nothing) (bytes ++ more)

-- what is left completes a number exactly where the whole is one
pub leads_rest : (word : List ℕ) (i : ℕ) (part : Part) → LeadsTo (take i word) part → passes (Some part) (drop i word) ≡ passes (Some Nothing) word
leads_rest word i part leads = leads (drop i word) ∙ ap (passes (Some Nothing)) (take-append-drop i word)

pub leads_end : (word : List ℕ) (i : ℕ) (part : Part) → length word ≤ i → LeadsTo (take i word) part → passes (Some part) [] ≡ passes (Some Nothing) word
leads_end word i part past leads = ap (passes (Some part)) (sym (drop_all i word past)) ∙ leads_rest word i part leads

-- a word with a byte with which no number goes on, or at whose end none is over
pub number_breaks : (word : List ℕ) (i : ℕ) (part : Part) → LeadsTo (take i word) part → (i < length word → step part (get_or word i 0) ≡ None) → passes (Some Nothing) word ≡ false → NumberBreaks word (length word - i)
number_breaks word i part leads stuck fails =
    record {
      front = take i word;
      tail = drop i word;
      split = sym (take-append-drop i word);
      count = length-drop i word;
      more = completion part;
      whole = sym (leads (completion part)) ∙ completion_passes part;
      breaks = λ b rest others e. sym (leads (b ∷ others)) ∙ ap (λ (p : Option Part). passes p others) (stuck_at b rest e) ∙ passes-none others;
      none = fails;
    }
  where
    within : (b : ℕ) (rest : List ℕ) → drop i word ≡ b ∷ rest → i < length word
    within b rest e = omega (arith, ap length e, length-drop i word)

    same : (b : ℕ) (rest : List ℕ) → drop i word ≡ b ∷ rest → get_or word i 0 ≡ b
    same b rest e = let both : get_or word i 0 ∷ drop (i + 1) word ≡ b ∷ rest = sym (drop_more word i 0 (within b rest e)) ∙ e in cc

    stuck_at : (b : ℕ) (rest : List ℕ) → drop i word ≡ b ∷ rest → step part b ≡ None
    stuck_at b rest e = subst (λ (x : ℕ). step part x ≡ None) (same b rest e) (stuck (within b rest e))

-- a word that begins so, where no such word goes on
pub record WordIn (No : List ℕ → Type 0) (bytes : List ℕ) : Type 0 where
  pub word : List ℕ
  pub rest : List ℕ
  pub is : IsWord word bytes rest
  pub no : No word

-- any bytes are a word and the rest
pub record Word (bytes : List ℕ) : Type 0 where
  pub word : List ℕ
  pub rest : List ℕ
  pub is : IsWord word bytes rest

word_split : (bytes : List ℕ) → Word bytes
word_split [] = record { word = []; rest = []; is = record { whole = refl; is_word = refl; ends = refl } }
word_split (b ∷ bs) = elim (cases_Bool (ends_word b)) [
  | inl e ↦ record { word = []; rest = b ∷ bs; is = record { whole = refl; is_word = refl; ends = e } }
  | inr e ↦
      let more = word_split bs in
      record {
        word = b ∷ more.word;
        rest = more.rest;
        is = record { whole = ap (λ (xs : List ℕ). b ∷ xs) more.is.whole; is_word = ap (λ t. not t && list_all is_word_byte more.word) e ∙ more.is.is_word; ends = more.is.ends };
      }
]

pub word_in : (No : List ℕ → Type 0) (w front tail rest : List ℕ) → w ≡ front ++ tail → list_all is_word_byte w ≡ true → is_behind_word rest ≡ true → No w → ((b : ℕ) (r others : List ℕ) → tail ≡ b ∷ r → No (front ++ (b ∷ others))) → (b : ℕ) (r others : List ℕ) → tail ++ rest ≡ b ∷ r → WordIn No (front ++ (b ∷ others))
word_in No w front [] rest split all ends none breaks b r others e =
    let same : w ≡ front = split ∙ append-nil front in
    record {
      word = front;
      rest = b ∷ others;
      is = record { whole = refl; is_word = subst (λ (xs : List ℕ). list_all is_word_byte xs ≡ true) same all; ends = sym (ap is_behind_word e) ∙ ends };
      no = subst No same none;
    }
word_in No w front (c ∷ cs) rest split all ends none breaks b r others e =
    let cons : c ∷ (cs ++ rest) ≡ b ∷ r = e in
    let head : c ≡ b = cc in
    let parts = all_parts is_word_byte front (c ∷ cs) (subst (λ (xs : List ℕ). list_all is_word_byte xs ≡ true) split all) in
    let of_b : is_word_byte b ≡ true = subst (λ (x : ℕ). is_word_byte x ≡ true) head (both_true (is_word_byte c) (list_all is_word_byte cs) parts.1).0 in
    let more = word_split others in
    record {
      word = front ++ (b ∷ more.word);
      rest = more.rest;
      is =
          record {
            whole = ap (λ (xs : List ℕ). front ++ (b ∷ xs)) more.is.whole ∙ sym (append_assoc front (b ∷ more.word) more.rest);
            is_word = all_join is_word_byte front (b ∷ more.word) parts.0 (ap (λ t. t && list_all is_word_byte more.word) of_b ∙ more.is.is_word);
            ends = more.is.ends;
          };
      no = breaks b cs more.word (ap (λ (x : ℕ). x ∷ cs) head);
    }
