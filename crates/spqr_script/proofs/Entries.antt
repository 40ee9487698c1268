-- Reading numbers, entries and rotations gives what the tokens spell, and all that they spell.
use Rattle.std.proofs.Common.{◌≡◌, ℕ, ◌-◌, ◌<◌, ◌==◌, true, ◌&&◌, ltb, List, [], ◌∷◌, ◌++◌, append_assoc, length, Option, Some, None, refl, sym, ap, subst, ◌∙◌, inl, inr, codes, bytes_eq, arith}
use Rattle.std.specs.Option.{option_map}
use Rattle.std.specs.List.{AllZip, slice_split}
use Rattle.rotations.specs.Entries.{entry, IsRising, IsAbove}
use Rattle.rotations.proofs.Rising.{rising-push}
use Rattle.std.proofs.lemmas.List.{append-nil, length-append, get_or_append_left, get_or_at}
use Rattle.std.proofs.lemmas.Bool.{and_parts, and_from, ltb-true, lt-ltb, eqb-true, or_cases, or_right, cond-true}
use Rattle.std.proofs.lemmas.Option.{same_Some, none-some, cond_some}
use Rattle.std.proofs.lemmas.Slice.Eq.{bytes_eq-Decides}
use Rattle.decimals.specs.Number.{are_digits}
use Rattle.spqr_script.specs.Number.{SpellsNumber, number_below, value_of, index_limit}
use Rattle.spqr_script.specs.Script.{SpellsIndex, SpellsEntry, SpellsRotation, is_semicolon}
use Rattle.gml_graph.specs.Start.{with_first}
use Rattle.spqr_script.specs.Reading.{index_of, indices_of, pair_of, entry_of, is_above, entry_then, entries_after, rotation_of}
use Rattle.spqr_script.proofs.Options.{cond_some_of, first_some, pair_some, then_some}

-- ---- numbers

pub number_spelled : (limit : ℕ) (text : List ℕ) (n : ℕ) → number_below limit text ≡ Some n → SpellsNumber limit text n
number_spelled limit text n e =
    let p = cond_some (are_digits text && ltb (value_of text) limit) (value_of text) n e in
    let a = and_parts (are_digits text) (ltb (value_of text) limit) p.0 in
    (a.0, p.1, subst (λ (k : ℕ). k < limit) p.1 (ltb-true (value_of text) limit a.1))

pub number_read : (limit : ℕ) (text : List ℕ) (n : ℕ) → SpellsNumber limit text n → number_below limit text ≡ Some n
number_read limit text n s =
    let small : ltb (value_of text) limit ≡ true = lt-ltb (value_of text) limit (subst (λ (k : ℕ). k < limit) (sym s.1) s.2) in
    cond-true (are_digits text && ltb (value_of text) limit) (Some (value_of text)) None (and_from (are_digits text) (ltb (value_of text) limit) s.0 small)
    ∙ ap (λ (k : ℕ). Some k) s.1

pub indices_spelled : (tokens : List (List ℕ)) (ns : List ℕ) → indices_of tokens ≡ Some ns → AllZip SpellsIndex tokens ns
unfolding indices_of
indices_spelled [] ns e = subst (λ (xs : List ℕ). AllZip SpellsIndex [] xs) (same_Some [] ns e) tt
indices_spelled (token ∷ tokens) ns e =
    let p = first_some (index_of token) (indices_of tokens) ns e in
    subst (λ (xs : List ℕ). AllZip SpellsIndex (token ∷ tokens) xs) p.4 (number_spelled index_limit token p.0 p.2, indices_spelled tokens p.1 p.3)

pub indices_read : (tokens : List (List ℕ)) (ns : List ℕ) → AllZip SpellsIndex tokens ns → indices_of tokens ≡ Some ns
unfolding indices_of
indices_read [] [] s = refl
indices_read [] (n ∷ ns) s = absurd s
indices_read (token ∷ tokens) [] s = absurd s
indices_read (token ∷ tokens) (n ∷ ns) s =
    ap (λ (o : Option ℕ). with_first o (indices_of tokens)) (number_read index_limit token n s.0) ∙ ap (λ (o : Option (List ℕ)). option_map (λ xs. n ∷ xs) o) (indices_read tokens ns s.1)

-- ---- entries

pub entry_spelled : (tokens : List (List ℕ)) (entry : ℕ × List ℕ) → entry_of tokens ≡ Some entry → SpellsEntry tokens entry
unfolding entry_of
entry_spelled [] entry e = absurd (none-some entry e)
entry_spelled (v ∷ []) entry e = absurd (none-some entry e)
entry_spelled (v ∷ mark ∷ edges) entry e =
    let p = cond_some_of (bytes_eq mark (codes ":")) (pair_of (index_of v) (indices_of edges)) entry e in
    let q = pair_some (index_of v) (indices_of edges) entry p.1 in
    subst (λ (x : ℕ × List ℕ). SpellsEntry (v ∷ mark ∷ edges) x) q.4 (number_spelled index_limit v q.0 q.2, (bytes_eq-Decides mark (codes ":")).0 p.0, indices_spelled edges q.1 q.3)

pub entry_read : (tokens : List (List ℕ)) (entry : ℕ × List ℕ) → SpellsEntry tokens entry → entry_of tokens ≡ Some entry
unfolding entry_of
entry_read [] entry s = absurd s
entry_read (v ∷ []) entry s = absurd s
entry_read (v ∷ mark ∷ edges) (n, ns) s =
    cond-true (bytes_eq mark (codes ":")) (pair_of (index_of v) (indices_of edges)) None ((bytes_eq-Decides mark (codes ":")).1 s.1)
    ∙ ap (λ (o : Option ℕ). pair_of o (indices_of edges)) (number_read index_limit v n s.0)
    ∙ ap (λ (o : Option (List ℕ)). option_map (λ es. (n, es)) o) (indices_read edges ns s.2)

-- ---- rising vertices

pub above_is : (entries : List (ℕ × List ℕ)) (v : ℕ) → is_above entries v ≡ true → IsAbove entries v
above_is entries v e some =
    elim (or_cases (length entries == 0) (ltb (entry entries (length entries - 1)).0 v) e) [
      | inl none ↦ let nothing : length entries ≡ 0 = eqb-true (length entries) 0 none in absurd (omega arith)
      | inr above ↦ ltb-true (entry entries (length entries - 1)).0 v above
    ]

pub above_from : (entries : List (ℕ × List ℕ)) (v : ℕ) → IsAbove entries v → is_above entries v ≡ true
above_from [] v above = refl
above_from (e ∷ es) v above = or_right (length (e ∷ es) == 0) (ltb (entry (e ∷ es) (length (e ∷ es) - 1)).0 v) (lt-ltb (entry (e ∷ es) (length (e ∷ es) - 1)).0 v (above (omega arith)))

-- an entry that stands behind others in a rising list is above them
above_in : (front : List (ℕ × List ℕ)) (next : ℕ × List ℕ) (back : List (ℕ × List ℕ)) → IsRising (front ++ next ∷ back) → IsAbove front next.0
above_in front next back rising some =
    let last_in : length front - 1 < length front = omega arith in
    let long = length-append front (next ∷ back) in
    let el : entry (front ++ next ∷ back) (length front - 1) ≡ entry front (length front - 1) = get_or_append_left front (next ∷ back) (0, []) (length front - 1) last_in in
    let en : entry (front ++ next ∷ back) (length front) ≡ next = get_or_at front next back (0, []) (length front) refl in
    let below : (entry (front ++ next ∷ back) (length front - 1)).0 < (entry (front ++ next ∷ back) (length front)).0 = rising (length front - 1) (length front) last_in (omega arith) in
    subst (λ (p : ℕ × List ℕ). (entry front (length front - 1)).0 < p.0) en (subst (λ (p : ℕ × List ℕ). p.0 < (entry (front ++ next ∷ back) (length front)).0) el below)

-- what was put behind the entries so far
pub record PutsBehind (so_far entries : List (ℕ × List ℕ)) (parts : List (List (List ℕ))) : Type 0 where
  pub rest : List (ℕ × List ℕ)
  pub joined : entries ≡ so_far ++ rest
  pub spelled : AllZip SpellsEntry parts rest
  pub rising : IsRising entries

entries_spelled : (so_far : List (ℕ × List ℕ)) (parts : List (List (List ℕ))) (entries : List (ℕ × List ℕ)) → IsRising so_far → entries_after so_far parts ≡ Some entries → PutsBehind so_far entries parts
unfolding entries_after
entries_spelled so_far [] entries rising e =
    let same : so_far ≡ entries = same_Some so_far entries e in
    record { rest = []; joined = sym same ∙ sym (append-nil so_far); spelled = tt; rising = subst IsRising same rising }
entries_spelled so_far (part ∷ parts) entries rising e =
    let p = then_some so_far (entry_of part) (λ longer. entries_after longer parts) entries e in
    let longer : IsRising (so_far ++ p.0 ∷ []) = rising-push so_far p.0.0 p.0.1 rising (above_is so_far p.0.0 p.2) in
    let q = entries_spelled (so_far ++ p.0 ∷ []) parts entries longer p.3 in
    record {
      rest = p.0 ∷ q.rest;
      joined = q.joined ∙ append_assoc so_far (p.0 ∷ []) q.rest;
      spelled = (entry_spelled part p.0 p.1, q.spelled);
      rising = q.rising;
    }

entries_read : (so_far : List (ℕ × List ℕ)) (parts : List (List (List ℕ))) (rest : List (ℕ × List ℕ)) → AllZip SpellsEntry parts rest → IsRising (so_far ++ rest) → entries_after so_far parts ≡ Some (so_far ++ rest)
unfolding entries_after
entries_read so_far [] [] s rising = ap (λ (xs : List (ℕ × List ℕ)). Some xs) (sym (append-nil so_far))
entries_read so_far [] (next ∷ rest) s rising = absurd s
entries_read so_far (part ∷ parts) [] s rising = absurd s
entries_read so_far (part ∷ parts) (next ∷ rest) s rising =
    let regrouped : (so_far ++ next ∷ []) ++ rest ≡ so_far ++ next ∷ rest = append_assoc so_far (next ∷ []) rest in
    ap (λ (o : Option (ℕ × List ℕ)). entry_then so_far o (λ longer. entries_after longer parts)) (entry_read part next s.0)
    ∙ cond-true (is_above so_far next.0) (entries_after (so_far ++ next ∷ []) parts) None (above_from so_far next.0 (above_in so_far next rest rising))
    ∙ entries_read (so_far ++ next ∷ []) parts rest s.1 (subst IsRising (sym regrouped) rising)
    ∙ ap (λ (xs : List (ℕ × List ℕ)). Some xs) regrouped

-- ---- rotations

none_rises : IsRising []
none_rises i j below within = absurd (omega arith)

pub rotation_spelled : (tokens : List (List ℕ)) (entries : List (ℕ × List ℕ)) → rotation_of tokens ≡ Some entries → SpellsRotation tokens entries
unfolding rotation_of
rotation_spelled [] entries e = inl (refl, sym (same_Some [] entries e))
rotation_spelled (token ∷ tokens) entries e =
    let p = entries_spelled [] (slice_split is_semicolon (token ∷ tokens)) entries none_rises e in
    inr (subst (λ (xs : List (ℕ × List ℕ)). AllZip SpellsEntry (slice_split is_semicolon (token ∷ tokens)) xs) (sym p.joined) p.spelled, p.rising)

one_empty_part : (entries : List (ℕ × List ℕ)) → AllZip SpellsEntry ([] ∷ []) entries → ⊥
one_empty_part [] s = s
one_empty_part (entry ∷ entries) s = s.0

pub rotation_read : (tokens : List (List ℕ)) (entries : List (ℕ × List ℕ)) → SpellsRotation tokens entries → rotation_of tokens ≡ Some entries
unfolding rotation_of
rotation_read [] entries (inl s) = ap (λ (xs : List (ℕ × List ℕ)). Some xs) (sym s.1)
rotation_read [] entries (inr s) = absurd (one_empty_part entries s.0)
rotation_read (token ∷ tokens) entries (inl s) = absurd (cc (s.0))
rotation_read (token ∷ tokens) entries (inr s) =
    entries_read [] (slice_split is_semicolon (token ∷ tokens)) entries s.0 s.1
