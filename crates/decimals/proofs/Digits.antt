-- Numbers read digit by digit.
use Rattle.std.proofs.Common.{◌≡◌, ℕ, ◌+◌, ◌-◌, ◌*◌, ◌<◌, ◌≤◌, Bool, true, false, ◌&&◌, ◌==◌, cond, ltb, List, [], ◌∷◌, length, Option, Some, None, refl, sym, ap, subst, ◌∙◌, inl, inr, arith}
use Rattle.std.specs.Char.{is_ascii_digit}
use Rattle.std.specs.List.{list_all}
use Rattle.std.proofs.lemmas.Bool.{and_parts, and_left, and_right, and_cases, eqb-false, ltb-true, ltb-false, lt-ltb, le-ltb, cond-true, cond-false}
use Rattle.std.proofs.lemmas.Option.{cond_some, none-some}
use Rattle.std.proofs.lemmas.List.{nil_from_length}
use Rattle.decimals.specs.Number.{spelled_after, number_below, with_digit}

-- the number that the digits spell behind those of `value`
abbrev pub number_behind : ℕ → ℕ → List ℕ → Option ℕ
number_behind limit value digits = cond (list_all is_ascii_digit digits && ltb (spelled_after value digits) limit) (Some (spelled_after value digits)) None

pub number_from_none : (limit : ℕ) (text : List ℕ) → 0 < length text → number_below limit text ≡ number_behind limit 0 text
number_from_none limit [] some = absurd (omega arith)
number_from_none limit (d ∷ ds) some = refl

spelled-ge : (n : ℕ) (ds : List ℕ) → n ≤ spelled_after n ds
spelled-ge n [] = omega arith
spelled-ge n (d ∷ ds) = omega (arith, spelled-ge (n * 10 + (d - 48)) ds)

-- one digit more
pub digit_taken : (limit value digit next : ℕ) (rest : List ℕ) → with_digit limit value digit ≡ Some next → number_behind limit value (digit ∷ rest) ≡ number_behind limit next rest
digit_taken limit value digit next rest e =
    let p = cond_some (is_ascii_digit digit && ltb (value * 10 + (digit - 48)) limit) (value * 10 + (digit - 48)) next e in
    let a = and_parts (is_ascii_digit digit) (ltb (value * 10 + (digit - 48)) limit) p.0 in
    ap (λ (b : Bool). cond ((b && list_all is_ascii_digit rest) && ltb (spelled_after (value * 10 + (digit - 48)) rest) limit) (Some (spelled_after (value * 10 + (digit - 48)) rest)) None) a.0
    ∙ ap (λ (n : ℕ). number_behind limit n rest) p.1

none_is_no_digit : (b c : Bool) (n : ℕ) → cond (b && c) (Some n) None ≡ None → (b && c) ≡ false
none_is_no_digit true true n e = absurd (none-some n (sym e))
none_is_no_digit true false n e = refl
none_is_no_digit false c n e = refl

-- no digit, or a number past the limit, which stays past it
pub digit_refused : (limit value digit : ℕ) (rest : List ℕ) → with_digit limit value digit ≡ None → number_behind limit value (digit ∷ rest) ≡ None
digit_refused limit value digit rest e =
    let v : ℕ = value * 10 + (digit - 48) in
    let all : Bool = is_ascii_digit digit && list_all is_ascii_digit rest in
    elim (and_cases (is_ascii_digit digit) (ltb v limit) (none_is_no_digit (is_ascii_digit digit) (ltb v limit) v e)) [
      | inl other ↦ cond-false (all && ltb (spelled_after v rest) limit) (Some (spelled_after v rest)) None (and_left all (ltb (spelled_after v rest) limit) (and_left (is_ascii_digit digit) (list_all is_ascii_digit rest) other))
      | inr past ↦
          let over : limit ≤ spelled_after v rest = omega (arith, ltb-false v limit past, spelled-ge v rest) in
          cond-false (all && ltb (spelled_after v rest) limit) (Some (spelled_after v rest)) None (and_right all (ltb (spelled_after v rest) limit) (le-ltb (spelled_after v rest) limit over))
    ]

-- ---- the smaller range, by the greater one

pub number_refused : (limit value digit : ℕ) (text rest after : List ℕ) → (length text == 0) ≡ false → number_behind limit value rest ≡ number_behind limit 0 text → rest ≡ digit ∷ after
    → with_digit limit value digit ≡ None → None ≡ number_below limit text
number_refused limit value digit text rest after some so_far e bad =
    let filled : 0 < length text = omega (arith, eqb-false (length text) 0 some) in
    sym (number_from_none limit text filled ∙ sym so_far ∙ ap (λ (ds : List ℕ). number_behind limit value ds) e ∙ digit_refused limit value digit after bad)

pub number_ended : (limit value : ℕ) (text rest : List ℕ) → (length text == 0) ≡ false → number_behind limit value rest ≡ number_behind limit 0 text → length rest ≡ 0
    → value < limit → Some value ≡ number_below limit text
number_ended limit value text rest some so_far nothing below =
    let filled : 0 < length text = omega (arith, eqb-false (length text) 0 some) in
    let ended : rest ≡ [] = nil_from_length rest nothing in
    sym (number_from_none limit text filled ∙ sym so_far ∙ ap (λ (ds : List ℕ). number_behind limit value ds) ended ∙ cond-true (ltb value limit) (Some value) None (lt-ltb value limit below))

pub digit_goes_on : (limit value digit next : ℕ) (text rest after : List ℕ) → number_behind limit value rest ≡ number_behind limit 0 text → rest ≡ digit ∷ after → with_digit limit value digit ≡ Some next
    → (number_behind limit next after ≡ number_behind limit 0 text) × (next < limit)
digit_goes_on limit value digit next text rest after so_far e taken =
    let p = cond_some (is_ascii_digit digit && ltb (value * 10 + (digit - 48)) limit) (value * 10 + (digit - 48)) next taken in
    let a = and_parts (is_ascii_digit digit) (ltb (value * 10 + (digit - 48)) limit) p.0 in
    (sym (digit_taken limit value digit next after taken) ∙ sym (ap (λ (ds : List ℕ). number_behind limit value ds) e) ∙ so_far, subst (λ (n : ℕ). n < limit) p.1 (ltb-true (value * 10 + (digit - 48)) limit a.1))
