-- What the tokens in front say of an entry, a rotation and a command.
use Rattle.std.proofs.Common.{◌≡◌, ℕ, Bool, true, false, not, cond, List, [], ◌∷◌, Option, Some, None, MatchOption, refl, sym, ap, ◌∙◌, codes, bytes_eq}
use Rattle.std.specs.Option.{is_some}
use Rattle.std.specs.List.{slice_split}
use Rattle.std.proofs.lemmas.Bool.{cond-true, cond-false, not-true, not-false, both_ways}
use Rattle.spqr_script.specs.Script.{is_semicolon}
use Rattle.spqr_script.specs.Reading.{index_of, indices_of, put_behind, pair_of, entry_of, entries_after, rotation_of, command_with, command_of}
use Rattle.spqr_script.specs.Words.{all_words, word_among}
use Rattle.spqr_script.specs.declared.word.Word.{Word}

-- ---- entries

pub entry_empty : (tokens : List (List ℕ)) → tokens ≡ [] → None ≡ entry_of tokens
unfolding entry_of
entry_empty tokens e = sym (ap entry_of e)

pub entry_short : (tokens : List (List ℕ)) (v : List ℕ) (behind : List (List ℕ)) → tokens ≡ v ∷ behind → behind ≡ [] → None ≡ entry_of tokens
unfolding entry_of
entry_short tokens v behind e none = sym (ap entry_of (e ∙ ap (λ (ts : List (List ℕ)). v ∷ ts) none))

entry_by : (tokens : List (List ℕ)) (v : List ℕ) (behind : List (List ℕ)) (mark : List ℕ) (rest : List (List ℕ)) → tokens ≡ v ∷ behind → behind ≡ mark ∷ rest
    → entry_of tokens ≡ cond (bytes_eq mark (codes ":")) (pair_of (index_of v) (indices_of rest)) None
unfolding entry_of
entry_by tokens v behind mark rest e then = ap entry_of (e ∙ ap (λ (ts : List (List ℕ)). v ∷ ts) then)

pub entry_unmarked : (tokens : List (List ℕ)) (v : List ℕ) (behind : List (List ℕ)) (mark : List ℕ) (rest : List (List ℕ)) (colon : List ℕ) → tokens ≡ v ∷ behind → behind ≡ mark ∷ rest
    → colon ≡ codes ":" → true ≡ not (bytes_eq mark colon) → None ≡ entry_of tokens
entry_unmarked tokens v behind mark rest colon e then is other =
    let differs : bytes_eq mark (codes ":") ≡ false = sym (ap (bytes_eq mark) is) ∙ not-true (bytes_eq mark colon) (sym other) in
    sym (entry_by tokens v behind mark rest e then ∙ cond-false (bytes_eq mark (codes ":")) (pair_of (index_of v) (indices_of rest)) None differs)

nothing_before : (o : Option (List ℕ)) → put_behind [] o ≡ o
nothing_before None = refl
nothing_before (Some ns) = refl

no_pair : (o : Option ℕ) → pair_of o None ≡ None
no_pair None = refl
no_pair (Some v) = refl

-- the edges of an entry, as they were read behind nothing
edges_read : (rest : List (List ℕ)) (front new : List ℕ) (all : Bool) → front ≡ [] → put_behind front (indices_of rest) ≡ cond all (Some new) None → indices_of rest ≡ cond all (Some new) None
edges_read rest front new all empty e = sym (nothing_before (indices_of rest)) ∙ ap (λ (xs : List ℕ). put_behind xs (indices_of rest)) (sym empty) ∙ e

marked : (tokens : List (List ℕ)) (v : List ℕ) (behind : List (List ℕ)) (mark : List ℕ) (rest : List (List ℕ)) (colon : List ℕ) → tokens ≡ v ∷ behind → behind ≡ mark ∷ rest
    → colon ≡ codes ":" → false ≡ not (bytes_eq mark colon) → entry_of tokens ≡ pair_of (index_of v) (indices_of rest)
marked tokens v behind mark rest colon e then is same =
    let equal : bytes_eq mark (codes ":") ≡ true = sym (ap (bytes_eq mark) is) ∙ not-false (bytes_eq mark colon) (sym same) in
    entry_by tokens v behind mark rest e then ∙ cond-true (bytes_eq mark (codes ":")) (pair_of (index_of v) (indices_of rest)) None equal

pub entry_no_edges : (tokens : List (List ℕ)) (v : List ℕ) (behind : List (List ℕ)) (mark : List ℕ) (rest : List (List ℕ)) (colon front new : List ℕ) (all : Bool) → tokens ≡ v ∷ behind → behind ≡ mark ∷ rest
    → colon ≡ codes ":" → false ≡ not (bytes_eq mark colon) → front ≡ [] → put_behind front (indices_of rest) ≡ cond all (Some new) None → all ≡ false → None ≡ entry_of tokens
entry_no_edges tokens v behind mark rest colon front new all e then is same empty read bad =
    let none : indices_of rest ≡ None = edges_read rest front new all empty read ∙ cond-false all (Some new) None bad in
    sym (marked tokens v behind mark rest colon e then is same ∙ ap (pair_of (index_of v)) none ∙ no_pair (index_of v))

pub entry_whole : (tokens : List (List ℕ)) (v : List ℕ) (behind : List (List ℕ)) (mark : List ℕ) (rest : List (List ℕ)) (colon front new : List ℕ) (all : Bool) (vertex : Option ℕ) → tokens ≡ v ∷ behind → behind ≡ mark ∷ rest
    → colon ≡ codes ":" → false ≡ not (bytes_eq mark colon) → front ≡ [] → put_behind front (indices_of rest) ≡ cond all (Some new) None → all ≡ true → vertex ≡ index_of v → pair_of vertex (Some new) ≡ entry_of tokens
entry_whole tokens v behind mark rest colon front new all vertex e then is same empty read good number =
    let found : indices_of rest ≡ Some new = edges_read rest front new all empty read ∙ cond-true all (Some new) None good in
    ap (λ (o : Option ℕ). pair_of o (Some new)) number ∙ sym (marked tokens v behind mark rest colon e then is same ∙ ap (pair_of (index_of v)) found)

-- ---- rotations

pub at_none : {A : Type 0} (o : Option A) (P : Type 0) (Q : A → Type 0) → is_some o ≡ false → MatchOption o P Q → P
at_none None P Q e h = h
at_none (Some x) P Q e h = absurd (both_ways true e refl)

pub at_some : {A : Type 0} (o : Option A) (P : Type 0) (Q : A → Type 0) → is_some o ≡ true → MatchOption o P Q → (x : A) × Q x
at_some None P Q e h = absurd (both_ways false refl e)
at_some (Some x) P Q e h = (x, h)

pub rotation_empty : (tokens : List (List ℕ)) (entries : List (ℕ × List ℕ)) → tokens ≡ [] → entries ≡ [] → Some entries ≡ rotation_of tokens
unfolding rotation_of
rotation_empty tokens entries e none = ap (λ (xs : List (ℕ × List ℕ)). Some xs) none ∙ sym (ap rotation_of e)

pub rotation_parts : (tokens : List (List ℕ)) (token : List ℕ) (rest : List (List ℕ)) → tokens ≡ token ∷ rest → entries_after [] (slice_split is_semicolon tokens) ≡ rotation_of tokens
unfolding rotation_of
rotation_parts tokens token rest e = ap (λ (ts : List (List ℕ)). entries_after [] (slice_split is_semicolon ts)) e ∙ sym (ap rotation_of e)

-- the first part, and others where there are more
pub first_of_parts : {A : Type 0} (o : Option A) (parts : List (List (List ℕ))) (part : List (List ℕ)) (more : A → List (List (List ℕ))) (Q : A → Type 0)
    → MatchOption o (parts ≡ part ∷ []) (λ a. (parts ≡ part ∷ more a) × Q a) → (others : List (List (List ℕ))) × (parts ≡ part ∷ others)
first_of_parts None parts part more Q h = ([], h)
first_of_parts (Some a) parts part more Q h = (more a, h.0)

-- ---- commands

pub command_empty : (tokens : List (List ℕ)) → tokens ≡ [] → None ≡ command_of tokens
unfolding command_of
command_empty tokens e = sym (ap command_of e)

-- what the first token and those behind it say
pub command_first : (tokens : List (List ℕ)) (name : List ℕ) (rest : List (List ℕ)) (o : Option Word) → tokens ≡ name ∷ rest → o ≡ word_among all_words name → command_with o rest ≡ command_of tokens
unfolding command_of
command_first tokens name rest o e found = ap (λ (w : Option Word). command_with w rest) found ∙ sym (ap command_of e)
