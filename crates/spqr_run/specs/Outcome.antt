-- Results that may run out of memory.
use Rattle.std.specs.Prelude.{Result, Ok, Err, ⊤}
use Rattle.spqr_run.specs.declared.halt.Halt.{Halt}
use Rattle.spqr_run.specs.declared.halt.Halt.TheVariants.{Refused, Memory}

-- P holds of the value and Q of the refusal; nothing is said if memory runs out
abbrev pub Answers : {T R : Type 0} → Result T (Halt R) → (T → Type 0) → (R → Type 0) → Type 0
Answers (Ok value) P Q = P value
Answers (Err (Refused refusal)) P Q = Q refusal
Answers (Err Memory) P Q = ⊤
