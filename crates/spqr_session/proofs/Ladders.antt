-- Ladders of codes: the first code that applies is the lowest, and a command that is refused by it has one answer.
use Rattle.std.proofs.Common.{◌≡◌, ℕ, ◌<◌, ◌≤◌, Bool, true, false, List, [], ◌∷◌, Option, None, Some, inl, inr, refl, sym, ap, ◌∙◌, subst, arith}
use Rattle.std.specs.Prelude.{nat_lt}
use Rattle.std.proofs.lemmas.Bool.{and_parts, ltb-true, true≢false}
use Rattle.spqr_session.specs.State.{State}
use Rattle.spqr_session.specs.Codes.{code_number, code_numbers, code_text, IsLowest, NoneApplies, Carries, Ladder, Applies, rises_above, first_code}
use Rattle.spqr_session.specs.declared.code.Code.{Code}
use Rattle.spqr_session.proofs.Carried.{TellsOne, DoesOne, carries-one}

-- the numbers of a ladder that rises from above n on are above n
above : (n : ℕ) (ladder : Ladder) (code : Code) → rises_above n ladder ≡ true → Applies ladder code → n < code_number code
above n [] code r a = absurd a
above n (rung ∷ ladder) code r (inl a) = subst (λ (c : Code). n < code_number c) a.0 (ltb-true n (code_number rung.0) (and_parts (nat_lt n (code_number rung.0)) (rises_above (code_number rung.0) ladder) r).0)
above n (rung ∷ ladder) code r (inr a) =
    let p = and_parts (nat_lt n (code_number rung.0)) (rises_above (code_number rung.0) ladder) r in
    omega (arith, ltb-true n (code_number rung.0) p.0, above (code_number rung.0) ladder code p.1 a)

-- codes of one number that apply are the same
one-code : (n : ℕ) (ladder : Ladder) (c d : Code) → rises_above n ladder ≡ true → Applies ladder c → Applies ladder d → code_number c ≡ code_number d → c ≡ d
one-code n [] c d r a b e = absurd a
one-code n (rung ∷ ladder) c d r (inl a) (inl b) e = sym a.0 ∙ b.0
one-code n (rung ∷ ladder) c d r (inl a) (inr b) e =
    let p = and_parts (nat_lt n (code_number rung.0)) (rises_above (code_number rung.0) ladder) r in
    absurd (omega (arith, above (code_number rung.0) ladder d p.1 b, ap code_number a.0, e))
one-code n (rung ∷ ladder) c d r (inr a) (inl b) e =
    let p = and_parts (nat_lt n (code_number rung.0)) (rises_above (code_number rung.0) ladder) r in
    absurd (omega (arith, above (code_number rung.0) ladder c p.1 a, ap code_number b.0, e))
one-code n (rung ∷ ladder) c d r (inr a) (inr b) e =
    let p = and_parts (nat_lt n (code_number rung.0)) (rises_above (code_number rung.0) ladder) r in
    one-code (code_number rung.0) ladder c d p.1 a b e

pub ladder-tells : (n : ℕ) (ladder : Ladder) → rises_above n ladder ≡ true → TellsOne (Applies ladder)
ladder-tells n ladder r k l a b e = ap code_numbers (one-code n ladder k l r a b e)

-- where there is no first code none applies
pub none-first : (ladder : Ladder) → first_code ladder ≡ None → NoneApplies (Applies ladder)
none-first [] e code a = a
none-first ((c, true) ∷ ladder) e code a = absurd (let both : Some c ≡ None = e in cc)
none-first ((c, false) ∷ ladder) e code (inl a) = true≢false (sym a.1)
none-first ((c, false) ∷ ladder) e code (inr a) = none-first ladder e code a

-- the first code that applies is the lowest
pub first-lowest : (n : ℕ) (ladder : Ladder) (code : Code) → rises_above n ladder ≡ true → first_code ladder ≡ Some code → IsLowest (Applies ladder) code
first-lowest n [] code r e = absurd (let both : None ≡ Some code = e in cc)
first-lowest n ((c, true) ∷ ladder) code r e =
    let same : c ≡ code = (let both : Some c ≡ Some code = e in cc) in
    let p = and_parts (nat_lt n (code_number c)) (rises_above (code_number c) ladder) r in
    record { met = inl (same, refl); least = least p.1 same }
  where
    least : rises_above (code_number c) ladder ≡ true → c ≡ code → (other : Code) → Applies ((c, true) ∷ ladder) other → code_number code ≤ code_number other
    least q same other (inl a) = omega (arith, ap code_number same, ap code_number a.0)
    least q same other (inr a) = omega (arith, ap code_number same, above (code_number c) ladder other q a)
first-lowest n ((c, false) ∷ ladder) code r e =
    let p = and_parts (nat_lt n (code_number c)) (rises_above (code_number c) ladder) r in
    let others = first-lowest (code_number c) ladder code p.1 e in
    record { met = inr others.met; least = least others }
  where
    least : IsLowest (Applies ladder) code → (other : Code) → Applies ((c, false) ∷ ladder) other → code_number code ≤ code_number other
    least others other (inl a) = absurd (true≢false (sym a.1))
    least others other (inr a) = others.least other a

-- finding the first code, rung by rung
pub rung-hit : (c : Code) (t : Bool) (ladder : Ladder) → t ≡ true → first_code ((c, t) ∷ ladder) ≡ Some c
rung-hit c t ladder e = ap (λ (x : Bool). first_code ((c, x) ∷ ladder)) e

pub rung-missed : (c : Code) (t : Bool) (ladder : Ladder) (o : Option Code) → t ≡ false → first_code ladder ≡ o → first_code ((c, t) ∷ ladder) ≡ o
rung-missed c t ladder o e f = ap (λ (x : Bool). first_code ((c, x) ∷ ladder)) e ∙ f

-- a rung that is not hit
pub rung-none : (c : Code) (t : Bool) (ladder : Ladder) → first_code ((c, t) ∷ ladder) ≡ None → (t ≡ false) × (first_code ladder ≡ None)
rung-none c true ladder e = absurd (let both : Some c ≡ None = e in cc)
rung-none c false ladder e = (refl, e)

module _ (ladder : Ladder) (r : rises_above 0 ladder ≡ true) (does : State → List ℕ → State → Type 0) (s : State) where
  -- the line of the first code is the answer
  pub refused-first : (code : Code) (text : List ℕ) → first_code ladder ≡ Some code → text ≡ code_text code → Carries (Applies ladder) does s text s
  refused-first code text e line = inl (record { code = code; lowest = first-lowest 0 ladder code r e; line = line; stays = refl })

  -- where there is none, the command does what is its own
  pub carried-out : (text : List ℕ) (after : State) → first_code ladder ≡ None → does s text after → Carries (Applies ladder) does s text after
  carried-out text after e d = inr (none-first ladder e, d)

  -- there is an answer, where there is one as no code applies
  pub ladder-answers : (first_code ladder ≡ None → (text : List ℕ) × (after : State) × does s text after) → (text : List ℕ) × (after : State) × Carries (Applies ladder) does s text after
  ladder-answers each = by (first_code ladder) refl
    where
      by : (o : Option Code) → first_code ladder ≡ o → (text : List ℕ) × (after : State) × Carries (Applies ladder) does s text after
      by None e = let a = each e in (a.0, a.1, carried-out a.0 a.1 e a.2)
      by (Some code) e = (code_text code, s, refused-first code (code_text code) e refl)

  -- and one only, where it does one thing
  pub ladder-one : DoesOne does s → (t u : List ℕ) (after other : State) → Carries (Applies ladder) does s t after → Carries (Applies ladder) does s u other → (t ≡ u) × (after ≡ other)
  ladder-one one t u after other p q = carries-one (Applies ladder) does s t u after other (ladder-tells 0 ladder r) one p q
