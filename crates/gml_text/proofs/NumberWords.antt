-- Numbers are words, and those words that are recognised.
use Rattle.std.proofs.Common.{◌≡◌, ℕ, ◌<◌, Bool, true, false, cond, not, ◌&&◌, Option, Some, None, List, [], ◌∷◌, ◌++◌, length, refl, sym, ap, ◌∙◌, inl, inr, arith, nat_eq}
use Rattle.std.specs.List.{list_all}
use Rattle.std.proofs.lemmas.Bool.{false≢true, cases_Bool}
use Rattle.gml_text.specs.Bytes.{is_digit, is_sign, is_mark, is_either, ends_word, is_word_byte}
use Rattle.gml_text.specs.Number.{IsNumber}
use Rattle.gml_text.specs.Recognised.{on, begin, step, passes}
use Rattle.gml_text.specs.declared.number.Part.{Part}
use Rattle.gml_text.specs.declared.number.Part.TheVariants.{Nothing, Sign, Whole, Point, Fraction, Mark, MarkSign, Exponent, I, In, N, Na, Special}
use Rattle.gml_text.specs.Grammar.{NumberStands}
use Rattle.gml_text.specs.Reading.{after_gap, IsWord}
use Rattle.gml_text.proofs.ByteClasses.{ends-digit, ends-point, ends-sign, ends-mark, ends-either_i, ends-either_n, ends-either_f, ends-either_a}
use Rattle.gml_text.proofs.Numbers.{passes-none}
use Rattle.gml_text.proofs.NumberPasses.{number_passes}
use Rattle.gml_text.proofs.Words.{IsSome, word_here, here_word}

-- none of several choices
none_1 : (t : Bool) (p : Part) → t ≡ false → on t p ≡ None
none_1 t p e = ap (λ (s : Bool). on s p) e

none_2 : (t : Bool) (p : Part) (x : Option Part) → t ≡ false → x ≡ None → cond t (Some p) x ≡ None
none_2 t p x e n = ap (λ (s : Bool). cond s (Some p) x) e ∙ n

-- no number goes on with a byte that ends a word
begin_ends : (b : ℕ) → ends_word b ≡ true → begin b ≡ None
begin_ends b h =
    none_2 (is_digit b) Whole (cond (nat_eq b 46) (Some Point) (cond (is_either 73 b) (Some I) (on (is_either 78 b) N))) (ends-digit b h)
    (none_2 (nat_eq b 46) Point (cond (is_either 73 b) (Some I) (on (is_either 78 b) N)) (ends-point b h)
    (none_2 (is_either 73 b) I (on (is_either 78 b) N) (ends-either_i b h) (none_1 (is_either 78 b) N (ends-either_n b h))))

step_ends : (part : Part) (b : ℕ) → ends_word b ≡ true → step part b ≡ None
step_ends Nothing b h = none_2 (is_sign b) Sign (begin b) (ends-sign b h) (begin_ends b h)
step_ends Sign b h = begin_ends b h
step_ends Whole b h =
    none_2 (is_digit b) Whole (cond (nat_eq b 46) (Some Fraction) (on (is_mark b) Mark)) (ends-digit b h)
    (none_2 (nat_eq b 46) Fraction (on (is_mark b) Mark) (ends-point b h) (none_1 (is_mark b) Mark (ends-mark b h)))
step_ends Point b h = none_1 (is_digit b) Fraction (ends-digit b h)
step_ends Fraction b h = none_2 (is_digit b) Fraction (on (is_mark b) Mark) (ends-digit b h) (none_1 (is_mark b) Mark (ends-mark b h))
step_ends Mark b h = none_2 (is_sign b) MarkSign (on (is_digit b) Exponent) (ends-sign b h) (none_1 (is_digit b) Exponent (ends-digit b h))
step_ends MarkSign b h = none_1 (is_digit b) Exponent (ends-digit b h)
step_ends Exponent b h = none_1 (is_digit b) Exponent (ends-digit b h)
step_ends I b h = none_1 (is_either 78 b) In (ends-either_n b h)
step_ends In b h = none_1 (is_either 70 b) Special (ends-either_f b h)
step_ends N b h = none_1 (is_either 65 b) Na (ends-either_a b h)
step_ends Na b h = none_1 (is_either 78 b) Special (ends-either_n b h)
step_ends Special b h = refl

-- so what is recognised is a word
passes_word : (part : Option Part) (bs : List ℕ) → passes part bs ≡ true → list_all is_word_byte bs ≡ true
passes_word part [] h = refl
passes_word None (b ∷ bs) h = absurd (false≢true h)
passes_word (Some part) (b ∷ bs) h = elim (cases_Bool (ends_word b)) [
  | inl e ↦ absurd (false≢true (sym (ap (λ (next : Option Part). passes next bs) (step_ends part b e) ∙ passes-none bs) ∙ h))
  | inr e ↦ ap (λ t. not t && list_all is_word_byte bs) e ∙ passes_word (step part b) bs h
]

passes_some : (bs : List ℕ) → passes (Some Nothing) bs ≡ true → 0 < length bs
passes_some [] h = absurd (false≢true h)
passes_some (b ∷ bs) h = omega arith

pub recognised_word : (t : List ℕ) → passes (Some Nothing) t ≡ true → IsSome t
recognised_word t h = record { is_word = passes_word (Some Nothing) t h; some = passes_some t h }

pub number_word : (t : List ℕ) → IsNumber t → IsSome t
number_word t is = recognised_word t (number_passes t is)

-- a number stands next, told by what is left behind the gap
pub record NumberHere (t here rest : List ℕ) : Type 0 where
  pub whole : here ≡ t ++ rest
  pub word : IsWord t here rest
  pub passes : passes (Some Nothing) t ≡ true

pub number_here : (t bytes rest : List ℕ) → NumberStands t bytes rest → NumberHere t (after_gap bytes) rest
number_here t bytes rest s =
    let word = word_here t bytes rest (number_word t s.is_number) s.stands s.ends in
    record { whole = word.whole; word = word; passes = number_passes t s.is_number }

pub here_number : (t bytes rest : List ℕ) → IsWord t (after_gap bytes) rest → IsNumber t → NumberStands t bytes rest
here_number t bytes rest word is = record { stands = here_word t bytes rest (number_word t is) word; is_number = is; ends = word.ends }
