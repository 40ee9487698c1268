-- Some bytes of a file that was read.
use Rattle.std.proofs.Common.{◌≡◌, ℕ, List, [], Option, None, Some, Err, refl, sym, subst}
use Rattle.spqr_run.specs.Outcome.{Answers}
use Rattle.spqr_run.specs.Reading.{IsFileReason, SomeBytes}
use Rattle.spqr_run.specs.declared.halt.Halt.{Halt}
use Rattle.spqr_run.specs.declared.halt.Halt.TheVariants.{Refused, Memory}
use Rattle.spqr_run.specs.declared.reading.FileFault.{FileFault}
use Rattle.spqr_run.specs.declared.reading.FileFault.TheVariants.{Failed}

-- whatever the bytes are
pub some_any : (told : Option (List ℕ)) (such : List ℕ → Type 0) → ((bytes : List ℕ) → such bytes) → SomeBytes told such
some_any None such p = record { bytes = []; are_told = tt; is_such = p [] }
some_any (Some file) such p = record { bytes = file; are_told = refl; is_such = p file }

-- a call failed, whatever the bytes are
pub failed_any : {T U : Type 0} (told : Option (List ℕ)) (limit : ℕ) (halt : Halt FileFault) (P : T → Type 0) (Q : U → Type 0) → Answers (Err halt) P (λ fault. fault ≡ Failed)
    → Answers (Err halt) Q (λ fault. SomeBytes told (λ bytes. IsFileReason limit bytes fault))
failed_any told limit (Refused fault) P Q e = some_any told (λ bytes. IsFileReason limit bytes fault) (λ bytes. subst (λ (f : FileFault). IsFileReason limit bytes f) (sym e) tt)
failed_any told limit Memory P Q e = tt
