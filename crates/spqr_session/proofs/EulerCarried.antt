-- What `euler` answers: there is an answer, and one only.
use Rattle.std.proofs.Common.{◌≡◌, ℕ, ◌≤◌, List, [], ◌∷◌, inl, inr, refl, sym, ap, ◌∙◌, arith}
use Rattle.multigraph.specs.Graph.{Multigraph}
use Rattle.rotations.specs.Given.{IsFirstBad}
use Rattle.rotations.proofs.FirstBad.{bad-one, bad-none}
use Rattle.spqr_script.specs.Answers.Euler.{euler_text}
use Rattle.spqr_session.specs.State.{State}
use Rattle.spqr_session.specs.Codes.{code_number, code_numbers, code_text}
use Rattle.spqr_session.specs.Commands.Euler.{EulerApplies, EulerDoes, EulerOn, IsGiven, euler_numbers}
use Rattle.spqr_session.specs.declared.code.Code.{Code}
use Rattle.spqr_session.specs.declared.code.Code.TheVariants.{NoBlock, NoNode, WrongKind, BadOrder, NonPlanar, BadRotation, NotGenusZero, NothingToUndo, NothingToRedo, CountOver, RankOut, Locked, Parallel, LockedIn, NoComponent, NoCut, BlockOrder, Cross}
use Rattle.spqr_session.proofs.Arranging.{arranged_or_bad, given-exists, given-one}
use Rattle.spqr_session.proofs.Carried.{TellsOne, DoesOne, carries-one}

module _ (g : Multigraph) (entries : List (ℕ × List ℕ)) where
  -- no code that applies is lower than 6
  least-code : (v : ℕ) (other : Code) → EulerApplies g entries other → code_number (BadRotation v) ≤ code_number other
  least-code v NoBlock a = absurd a
  least-code v NoNode a = absurd a
  least-code v WrongKind a = absurd a
  least-code v BadOrder a = absurd a
  least-code v NonPlanar a = absurd a
  least-code v (BadRotation w) a = omega arith
  least-code v (NotGenusZero x y z) a = absurd a
  least-code v NothingToUndo a = absurd a
  least-code v NothingToRedo a = absurd a
  least-code v CountOver a = absurd a
  least-code v (RankOut n) a = absurd a
  least-code v (Locked k) a = absurd a
  least-code v (Parallel x y) a = absurd a
  least-code v (LockedIn x y) a = absurd a
  least-code v NoComponent a = absurd a
  least-code v NoCut a = absurd a
  least-code v (BlockOrder x) a = absurd a
  least-code v (Cross x y) a = absurd a

  -- where the lists are a rotation system no code applies
  none-applies : (r : List (List ℕ)) → IsGiven g entries r → (code : Code) → EulerApplies g entries code → ⊥
  none-applies r is NoBlock a = a
  none-applies r is NoNode a = a
  none-applies r is WrongKind a = a
  none-applies r is BadOrder a = a
  none-applies r is NonPlanar a = a
  none-applies r is (BadRotation v) a = bad-none g entries v is.arranged a
  none-applies r is (NotGenusZero x y z) a = a
  none-applies r is NothingToUndo a = a
  none-applies r is NothingToRedo a = a
  none-applies r is CountOver a = a
  none-applies r is (RankOut n) a = a
  none-applies r is (Locked k) a = a
  none-applies r is (Parallel x y) a = a
  none-applies r is (LockedIn x y) a = a
  none-applies r is NoComponent a = a
  none-applies r is NoCut a = a
  none-applies r is (BlockOrder x) a = a
  none-applies r is (Cross x y) a = a

  -- the line of the first bad number is the answer
  pub euler-refused : (v : ℕ) (s : State) (text : List ℕ) → IsFirstBad g entries v → text ≡ code_text (BadRotation v) → EulerOn g entries s text s
  euler-refused v s text bad e = inl (record { code = BadRotation v; lowest = record { met = bad; least = least-code v }; line = e; stays = refl })

  -- the numbers of the rotation system are the answer
  pub euler-done : (r : List (List ℕ)) (s : State) (text : List ℕ) → IsGiven g entries r → text ≡ euler_text (euler_numbers g r) → EulerOn g entries s text s
  euler-done r s text is e = inr (none-applies r is, record { rotation = r; given = is; answer = e; stays = refl })

  -- there is an answer
  pub euler-answers : (s : State) → (text : List ℕ) × (after : State) × EulerOn g entries s text after
  euler-answers s = elim (arranged_or_bad g entries) [
    | inl a ↦ (let is = given-exists g entries a in (euler_text (euler_numbers g is.0), s, euler-done is.0 s (euler_text (euler_numbers g is.0)) is.1 refl))
    | inr bad ↦ (code_text (BadRotation bad.0), s, euler-refused bad.0 s (code_text (BadRotation bad.0)) bad.1 refl)
  ]

  -- and one only: the code tells one number, and the lists are one rotation system
  bad-of : (code : Code) → EulerApplies g entries code → (v : ℕ) × IsFirstBad g entries v × (code ≡ BadRotation v)
  bad-of NoBlock a = absurd a
  bad-of NoNode a = absurd a
  bad-of WrongKind a = absurd a
  bad-of BadOrder a = absurd a
  bad-of NonPlanar a = absurd a
  bad-of (BadRotation v) a = (v, a, refl)
  bad-of (NotGenusZero x y z) a = absurd a
  bad-of NothingToUndo a = absurd a
  bad-of NothingToRedo a = absurd a
  bad-of CountOver a = absurd a
  bad-of (RankOut n) a = absurd a
  bad-of (Locked k) a = absurd a
  bad-of (Parallel x y) a = absurd a
  bad-of (LockedIn x y) a = absurd a
  bad-of NoComponent a = absurd a
  bad-of NoCut a = absurd a
  bad-of (BlockOrder x) a = absurd a
  bad-of (Cross x y) a = absurd a

  euler-tells : TellsOne (EulerApplies g entries)
  euler-tells k l a b e =
      let p = bad-of k a in
      let q = bad-of l b in
      ap code_numbers p.2 ∙ ap (λ (n : ℕ). n ∷ []) (bad-one g entries p.0 q.0 p.1 q.1) ∙ sym (ap code_numbers q.2)

  euler-does : (before : State) → DoesOne (EulerDoes g entries) before
  euler-does before s t after other p q =
      (p.answer ∙ ap (λ (r : List (List ℕ)). euler_text (euler_numbers g r)) (given-one g entries p.rotation q.rotation p.given q.given) ∙ sym q.answer, p.stays ∙ sym q.stays)

  pub euler-one : (before : State) (s t : List ℕ) (after other : State) → EulerOn g entries before s after → EulerOn g entries before t other → (s ≡ t) × (after ≡ other)
  euler-one before s t after other p q = carries-one (EulerApplies g entries) (EulerDoes g entries) before s t after other euler-tells (euler-does before) p q

  -- the state stays
  pub euler-stays : (before : State) (text : List ℕ) (after : State) → EulerOn g entries before text after → after ≡ before
  euler-stays before text after (inl p) = p.stays
  euler-stays before text after (inr p) = p.1.stays
