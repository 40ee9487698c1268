-- The search among words finds a word by its spelling, and finds each word of the table.
use Rattle.std.proofs.Common.{◌≡◌, ℕ, suc, ◌+◌, ◌<◌, ◌≤◌, true, false, List, [], ◌∷◌, length, drop, get_or, Some, None, refl, sym, ap, ◌∙◌, inl, inr, bytes_eq, add-one}
use Rattle.std.proofs.lemmas.Bool.{cases_Bool}
use Rattle.std.proofs.lemmas.Option.{same_Some, none-some}
use Rattle.std.proofs.lemmas.List.{drop_all}
use Rattle.std.proofs.lemmas.Slice.Eq.{bytes_eq-Decides}
use Rattle.std.proofs.Math.Seq.{drop-cons}
use Rattle.spqr_script.specs.Words.{spelling, all_words, word_among}
use Rattle.spqr_script.specs.declared.word.Word.{Word}
use Rattle.spqr_script.specs.declared.word.Word.TheVariants as word
use Rattle.spqr_script.specs.declared.word.Word.TheVariants.{Euler, Show, Faces, Flip, Permute, Mirror, First, Next, Goto, Convert, Take, Undo, Redo, Gml, Count, Rank, Longest, Draw, Lock, Unlock, Whole, Regroup, NextWhole, ListWhole, ConvertWhole}

-- what is found is spelled so
pub found_spelled : (words : List Word) (name : List ℕ) (w : Word) → word_among words name ≡ Some w → name ≡ spelling w
unfolding word_among
found_spelled [] name w e = absurd (none-some w e)
found_spelled (x ∷ xs) name w e =
    elim (cases_Bool (bytes_eq (spelling x) name)) [
      | inl same ↦ sym ((bytes_eq-Decides (spelling x) name).0 same) ∙ ap spelling (same_Some x w (rw same at e))
      | inr other ↦ found_spelled xs name w (rw other at e)
    ]

-- each word is found by its spelling
pub word_found : (w : Word) → word_among all_words (spelling w) ≡ Some w
unfolding word_among
word_found Euler = refl
word_found Show = refl
word_found Faces = refl
word_found Flip = refl
word_found Permute = refl
word_found Mirror = refl
word_found First = refl
word_found Next = refl
word_found word.List = refl
word_found Goto = refl
word_found Convert = refl
word_found Take = refl
word_found Undo = refl
word_found Redo = refl
word_found Gml = refl
word_found Count = refl
word_found Rank = refl
word_found Longest = refl
word_found Draw = refl
word_found Lock = refl
word_found Unlock = refl
word_found Whole = refl
word_found Regroup = refl
word_found NextWhole = refl
word_found ListWhole = refl
word_found ConvertWhole = refl

-- ---- the search word by word

-- the words from the i-th on: it, and those behind it
from_word : (words : List Word) (name : List ℕ) (i : ℕ) → i < length words
    → word_among (drop i words) name ≡ word_among (get_or words i Euler ∷ drop (suc i) words) name
from_word words name i h = ap (λ (ws : List Word). word_among ws name) (drop-cons words i Euler h)

-- the i-th word is spelled so
pub search_hit : (words : List Word) (name : List ℕ) (i : ℕ) (spelled : List ℕ) → i < length words → spelled ≡ spelling (get_or words i Euler) → true ≡ bytes_eq spelled name
    → word_among (drop i words) name ≡ word_among words name → Some (get_or words i Euler) ≡ word_among words name
unfolding word_among
search_hit words name i spelled h is same e =
    let test : bytes_eq (spelling (get_or words i Euler)) name ≡ true = ap (λ (t : List ℕ). bytes_eq t name) (sym is) ∙ sym same in
    sym (sym e ∙ from_word words name i h ∙ hit test)
  where
    hit : bytes_eq (spelling (get_or words i Euler)) name ≡ true → word_among (get_or words i Euler ∷ drop (suc i) words) name ≡ Some (get_or words i Euler)
    hit test = rw test refl

-- it is not: the search goes on behind it
pub search_miss : (words : List Word) (name : List ℕ) (i : ℕ) (spelled : List ℕ) → i < length words → spelled ≡ spelling (get_or words i Euler) → false ≡ bytes_eq spelled name
    → word_among (drop i words) name ≡ word_among words name → word_among (drop (i + 1) words) name ≡ word_among words name
unfolding word_among
search_miss words name i spelled h is other e =
    let test : bytes_eq (spelling (get_or words i Euler)) name ≡ false = ap (λ (t : List ℕ). bytes_eq t name) (sym is) ∙ sym other in
    rw add-one (sym (miss test) ∙ sym (from_word words name i h) ∙ e)
  where
    miss : bytes_eq (spelling (get_or words i Euler)) name ≡ false → word_among (get_or words i Euler ∷ drop (suc i) words) name ≡ word_among (drop (suc i) words) name
    miss test = rw test refl

-- no word is left
pub search_end : (words : List Word) (name : List ℕ) (i : ℕ) → length words ≤ i → word_among (drop i words) name ≡ word_among words name → None ≡ word_among words name
unfolding word_among
search_end words name i h e = sym (ap (λ (ws : List Word). word_among ws name) (drop_all i words h)) ∙ e
