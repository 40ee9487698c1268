-- Words that do not begin with `-`: clap takes three of them, and refuses fewer and more.
use Rattle.std.proofs.Common.{◌≡◌, Bool, true, false, not, ◌==◌, cond, List, [], ◌∷◌, Some, None, is_some, codes, refl, sym, ap, ◌∙◌}
use Rattle.std.proofs.lemmas.Bool.{true≢false}
use Rattle.std.specs.List.{list_all}
use Rattle.clap.specs.Walk.{Text, first_of}
use Rattle.clap.specs.Simple.{matches_of}
use Rattle.clap.specs.Takes.{takes}
use Rattle.clap.specs.Kinds.{Kinds}
use Rattle.clap.specs.Faults.{fault_of}
use Rattle.clap.proofs.WalkLemmas.{both}
use Rattle.clap.specs.declared.error.kind.ErrorKind.{ErrorKind}
use Rattle.command_words.specs.Form.{is_plain, three_in}
use Rattle.command_words.specs.Laws.{ThreeWordsAreTaken, OtherWordsAreRefused}
use Rattle.command_words.specs.Positionals.{three, all_three, texts_in}
use Rattle.command_words.proofs.Plain.{IsValue, three-matches, three-takes}
use Rattle.command_words.proofs.OtherWords.{none-missing, one-missing, two-missing, four-unknown}

-- a plain word is a value
plain-value : (w : Text) → is_plain w ≡ true → IsValue w
plain-value [] h = refl
plain-value (x ∷ xs) h = off (x == 45) h
  where
    off : (t : Bool) → not t ≡ true → cond t (Some xs) None ≡ None
    off true e = absurd (true≢false (sym e))
    off false e = refl

-- whether there is a kind
abbrev is_some_kind : Kinds → Bool
is_some_kind [] = false
is_some_kind (x ∷ xs) = true

-- no list with a first kind is empty
some-kind : (k : ErrorKind) (kinds : Kinds) → kinds ≡ k ∷ [] → kinds ≡ [] → ⊥
some-kind k kinds e n = true≢false (ap is_some_kind (sym e ∙ n))

-- the first of plain words, and the others
first-plain : (w : Text) (ws : List Text) → list_all is_plain (w ∷ ws) ≡ true → IsValue w
first-plain w ws p = plain-value w (both (is_plain w) (list_all is_plain ws) p).0

others-plain : (w : Text) (ws : List Text) → list_all is_plain (w ∷ ws) ≡ true → list_all is_plain ws ≡ true
others-plain w ws p = (both (is_plain w) (list_all is_plain ws) p).1

-- where clap finds no fault, the texts are the three words
pub taken-three : (words : List Text) → list_all is_plain words ≡ true → fault_of three words ≡ [] → texts_in (matches_of three words) ≡ three_in words
taken-three [] p n = absurd (some-kind _ (fault_of three []) none-missing n)
taken-three (a ∷ []) p n = absurd (some-kind _ (fault_of three (a ∷ [])) (one-missing a (first-plain a [] p)) n)
taken-three (a ∷ b ∷ []) p n = absurd (some-kind _ (fault_of three (a ∷ b ∷ [])) (two-missing a b (first-plain a (b ∷ []) p) (first-plain b [] (others-plain a (b ∷ []) p))) n)
taken-three (a ∷ b ∷ c ∷ []) p n =
    let q = others-plain a (b ∷ c ∷ []) p in
    let m = three-matches a b c (first-plain a (b ∷ c ∷ []) p) (first-plain b (c ∷ []) q) (first-plain c [] (others-plain b (c ∷ []) q)) in
    ap (λ o. all_three o (first_of (codes "first") (matches_of three (a ∷ b ∷ c ∷ []))) (first_of (codes "second") (matches_of three (a ∷ b ∷ c ∷ [])))) m.0
    ∙ ap (λ o. all_three (Some a) o (first_of (codes "second") (matches_of three (a ∷ b ∷ c ∷ [])))) m.1 ∙ ap (all_three (Some a) (Some b)) m.2
taken-three (a ∷ b ∷ c ∷ d ∷ rest) p n =
    let q = others-plain a (b ∷ c ∷ d ∷ rest) p in
    let r = others-plain b (c ∷ d ∷ rest) q in
    absurd (some-kind _ (fault_of three (a ∷ b ∷ c ∷ d ∷ rest))
    (four-unknown a b c d rest (first-plain a (b ∷ c ∷ d ∷ rest) p) (first-plain b (c ∷ d ∷ rest) q) (first-plain c (d ∷ rest) r) (first-plain d rest (others-plain c (d ∷ rest) r))) n)

-- where it does not take the words, they are not three
pub refused-other : (words : List Text) → list_all is_plain words ≡ true → (takes three words ≡ true → ⊥) → three_in words ≡ None
refused-other [] p n = refl
refused-other (a ∷ []) p n = refl
refused-other (a ∷ b ∷ []) p n = refl
refused-other (a ∷ b ∷ c ∷ []) p n =
    let q = others-plain a (b ∷ c ∷ []) p in
    absurd (n (three-takes a b c (first-plain a (b ∷ c ∷ []) p) (first-plain b (c ∷ []) q) (first-plain c [] (others-plain b (c ∷ []) q))))
refused-other (a ∷ b ∷ c ∷ d ∷ rest) p n = refl

-- three plain words are taken
pub plain-takes : ThreeWordsAreTaken
plain-takes a b c p =
    let q = others-plain a (b ∷ c ∷ []) p in
    three-takes a b c (first-plain a (b ∷ c ∷ []) p) (first-plain b (c ∷ []) q) (first-plain c [] (others-plain b (c ∷ []) q))

-- in others a fault is found
pub other-faults : OtherWordsAreRefused
other-faults [] p t n = some-kind _ (fault_of three []) none-missing n
other-faults (a ∷ []) p t n = some-kind _ (fault_of three (a ∷ [])) (one-missing a (first-plain a [] p)) n
other-faults (a ∷ b ∷ []) p t n = some-kind _ (fault_of three (a ∷ b ∷ [])) (two-missing a b (first-plain a (b ∷ []) p) (first-plain b [] (others-plain a (b ∷ []) p))) n
other-faults (a ∷ b ∷ c ∷ []) p t n = true≢false (ap is_some t)
other-faults (a ∷ b ∷ c ∷ d ∷ rest) p t n =
    let q = others-plain a (b ∷ c ∷ d ∷ rest) p in
    let r = others-plain b (c ∷ d ∷ rest) q in
    some-kind _ (fault_of three (a ∷ b ∷ c ∷ d ∷ rest)) (four-unknown a b c d rest (first-plain a (b ∷ c ∷ d ∷ rest) p) (first-plain b (c ∷ d ∷ rest) q) (first-plain c (d ∷ rest) r) (first-plain d rest (others-plain c (d ∷ rest) r))) n
