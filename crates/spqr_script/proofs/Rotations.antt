-- A rotation read part by part: where it stops, goes on and ends.
use Rattle.std.proofs.Common.{◌≡◌, ℕ, ◌<◌, Bool, true, false, cond, List, [], ◌∷◌, length, Option, Some, None, MatchOption, Bor, sym, ◌∙◌}
use Rattle.std.specs.List.{slice_split}
use Rattle.std.proofs.lemmas.Bool.{cond-true, cond-false}
use Rattle.std.proofs.lemmas.Option.{MatchOption-at_some, MatchOption-at_none}
use Rattle.spqr_script.specs.Line.{tokens_of}
use Rattle.spqr_script.specs.Script.{is_semicolon}
use Rattle.spqr_script.specs.Reading.{entry_of, entry_then, entries_after, rotation_of}
use Rattle.spqr_script.proofs.Steps.{rotation_parts, first_of_parts}
use Rattle.spqr_script.proofs.Loops.{entries_stop, entries_more, entries_end}

-- the parts between semicolons of a text
abbrev parts_of : List ℕ → List (List (List ℕ))
parts_of text = slice_split is_semicolon (tokens_of text)

-- what cutting off the first part says
abbrev pub IsCut : List ℕ → List ℕ → Option (Bor (List ℕ)) → Type 0
IsCut text part after =
    MatchOption after (parts_of text ≡ tokens_of part ∷ []) (λ behind. (parts_of text ≡ tokens_of part ∷ parts_of behind.now) × (length behind.now < length text))

-- what putting an entry behind others says
abbrev pub IsPut : List (ℕ × List ℕ) → List (ℕ × List ℕ) → List ℕ → Bool → Type 0
IsPut so_far new part taken = entry_then so_far (entry_of (tokens_of part)) (λ longer. Some longer) ≡ cond taken (Some new) None

-- the entries so far, and those that are still read
abbrev pub IsSoFar : List (ℕ × List ℕ) → List ℕ → List ℕ → Type 0
IsSoFar so_far rest text = entries_after so_far (parts_of rest) ≡ entries_after [] (parts_of text)

pub rotation_stops : (text rest part token behind : List ℕ) (after : Option (Bor (List ℕ))) (so_far new : List (ℕ × List ℕ)) (taken : Bool) → tokens_of text ≡ token ∷ tokens_of behind → IsSoFar so_far rest text
    → IsCut rest part after → IsPut so_far new part taken → taken ≡ false → None ≡ rotation_of (tokens_of text)
rotation_stops text rest part token behind after so_far new taken e so_far_is parts put bad =
    let p = first_of_parts after (parts_of rest) (tokens_of part) (λ b. parts_of b.now) (λ b. length b.now < length rest) parts in
    sym (entries_stop so_far (tokens_of part) p.0 (parts_of rest) (entries_after [] (parts_of text)) so_far_is p.1 (put ∙ cond-false taken (Some new) None bad)) ∙ rotation_parts (tokens_of text) token (tokens_of behind) e

pub rotation_goes_on : (text rest part : List ℕ) (after : Option (Bor (List ℕ))) (next : Bor (List ℕ)) (so_far new : List (ℕ × List ℕ)) (taken : Bool) → IsSoFar so_far rest text
    → IsCut rest part after → IsPut so_far new part taken → taken ≡ true → after ≡ Some next → IsSoFar new next.now text
rotation_goes_on text rest part after next so_far new taken so_far_is parts put good some =
    let p = MatchOption-at_some (parts_of rest ≡ tokens_of part ∷ []) (λ b. (parts_of rest ≡ tokens_of part ∷ parts_of b.now) × (length b.now < length rest)) next some parts in
    entries_more so_far new (tokens_of part) (parts_of next.now) (parts_of rest) (entries_after [] (parts_of text)) so_far_is p.0 (put ∙ cond-true taken (Some new) None good)

pub rotation_ends : (text rest part token behind : List ℕ) (after : Option (Bor (List ℕ))) (so_far new : List (ℕ × List ℕ)) (taken : Bool) → tokens_of text ≡ token ∷ tokens_of behind → IsSoFar so_far rest text
    → IsCut rest part after → IsPut so_far new part taken → taken ≡ true → after ≡ None → Some new ≡ rotation_of (tokens_of text)
rotation_ends text rest part token behind after so_far new taken e so_far_is parts put good none =
    let p = MatchOption-at_none (parts_of rest ≡ tokens_of part ∷ []) (λ b. (parts_of rest ≡ tokens_of part ∷ parts_of b.now) × (length b.now < length rest)) none parts in
    let q = entries_more so_far new (tokens_of part) [] (parts_of rest) (entries_after [] (parts_of text)) so_far_is p (put ∙ cond-true taken (Some new) None good) in
    sym (entries_end new (entries_after [] (parts_of text)) q) ∙ rotation_parts (tokens_of text) token (tokens_of behind) e
