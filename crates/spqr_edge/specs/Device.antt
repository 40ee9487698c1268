-- What a call of a device does to its counts and to its bytes.
use Rattle.std.specs.Io.KnownBytes.{IsAtEnd}
use Rattle.std.specs.Prelude.{◌≡◌, ℕ, ◌+◌, ◌-◌, ◌^◌, ◌≤◌, min, List, [], Option, Some, Result, Ok, Err, OnOk, OnErr, IfSome, unwrap_or}

-- the greatest number that a count reaches
abbrev pub count_end : ℕ
count_end = 2 ^ 64 - 1

-- one more, or the end of counting
abbrev pub counted : ℕ → ℕ
counted n = min (n + 1) count_end

-- the count increased, or is at its end
abbrev pub Rose : ℕ → ℕ → Type 0
Rose before now = counted before ≤ now

-- the count of faults does not decrease, stays if the call succeeded, and increased if it failed
pub record HasCause {T E : Type 0} (before now : ℕ) (result : Result T E) : Type 0 where
  pub never_falls : before ≤ now
  pub ok : OnOk result (now ≡ before)
  pub err : OnErr result (Rose before now)

-- a count of calls increased by one, if it is known
abbrev pub CountsCall : Option ℕ → Option ℕ → Type 0
CountsCall before now = IfSome before (λ n. now ≡ Some (counted n))

-- the bytes of files by their names
abbrev pub Files : Type 0
Files = List ℕ → Option (List ℕ)

-- the bytes of the file of this name, and no bytes if there is no such file
abbrev pub contents : Files → List ℕ → List ℕ
contents files name = unwrap_or (files name) []

-- after an Ok the whole file is left to read; after an Err no file is open
abbrev pub Opens : {T E : Type 0} → Option Files → List ℕ → Option (List ℕ) → Result T E → Type 0
Opens told name left (Ok _) = IfSome told (λ files. left ≡ Some (contents files name))
Opens told name left (Err _) = IsAtEnd left
