-- A command that is carried out has one text and one state after it, if its codes tell the same numbers and it does one thing.
use Rattle.std.proofs.Common.{◌≡◌, ℕ, List, inl, inr, sym, ap, ◌∙◌, arith}
use Rattle.spqr_script.specs.Answers.Error.{error_text}
use Rattle.spqr_session.specs.State.{State}
use Rattle.spqr_session.specs.Codes.{code_number, code_numbers, code_text, Carries}
use Rattle.spqr_session.specs.declared.code.Code.{Code}

-- codes of one number that apply tell the same numbers
abbrev pub TellsOne : (Code → Type 0) → Type 0
TellsOne applies = (k l : Code) → applies k → applies l → code_number k ≡ code_number l → code_numbers k ≡ code_numbers l

-- from one state there is one text and one state after it
abbrev pub DoesOne : (State → List ℕ → State → Type 0) → State → Type 0
DoesOne does before = (s t : List ℕ) (after other : State) → does before s after → does before t other → (s ≡ t) × (after ≡ other)

pub carries-one : (applies : Code → Type 0) (does : State → List ℕ → State → Type 0) (before : State) (s t : List ℕ) (after other : State) → TellsOne applies → DoesOne does before
    → Carries applies does before s after → Carries applies does before t other → (s ≡ t) × (after ≡ other)
carries-one applies does before s t after other tells one (inl p) (inl q) =
    let same : code_number p.code ≡ code_number q.code = omega (arith, p.lowest.least q.code q.lowest.met, q.lowest.least p.code p.lowest.met) in
    let line : code_text p.code ≡ code_text q.code = ap (λ (n : ℕ). error_text n (code_numbers p.code)) same ∙ ap (λ (ns : List ℕ). error_text (code_number q.code) ns) (tells p.code q.code p.lowest.met q.lowest.met same) in
    (p.line ∙ line ∙ sym q.line, p.stays ∙ sym q.stays)
carries-one applies does before s t after other tells one (inl p) (inr q) = absurd (q.0 p.code p.lowest.met)
carries-one applies does before s t after other tells one (inr p) (inl q) = absurd (p.0 q.code q.lowest.met)
carries-one applies does before s t after other tells one (inr p) (inr q) = one s t after other p.1 q.1
