-- What reading a file takes, and when it is refused.
use Rattle.std.specs.Prelude.{◌≡◌, ℕ, ◌<◌, ◌≤◌, List, ◌++◌, length, Option, None, Some, IfSome, ⊤}
use Rattle.std.specs.Io.KnownBytes.{Consumes, IsAtEnd}
use Rattle.spqr_edge.specs.Device.{Files, contents}
use Rattle.spqr_run.specs.declared.reading.FileFault.{FileFault}
use Rattle.spqr_run.specs.declared.reading.FileFault.TheVariants.{Failed, Long}

-- a call took a piece of what was left, of n bytes and at most `room`, and appended it to the bytes from before: no byte only
-- where none was left
pub record TakesPiece (left left_after : Option (List ℕ)) (bytes bytes_after : List ℕ) (room n : ℕ) : Type 0 where
  pub piece : List ℕ
  pub size : length piece ≡ n
  pub within : n ≤ room
  pub appended : bytes_after ≡ bytes ++ piece
  pub consumed : Consumes left left_after piece
  pub end : n ≡ 0 → IsAtEnd left_after

-- these are all the bytes of a file, and they are within its limit
pub record IsWhole (limit : ℕ) (told : Option (List ℕ)) (bytes : List ℕ) : Type 0 where
  pub within : length bytes ≤ limit
  pub whole : IfSome told (λ file. bytes ≡ file)

-- why a file was not read, by its bytes: a call may fail whatever they are; else it is longer than its limit
abbrev pub IsFileReason : ℕ → List ℕ → FileFault → Type 0
IsFileReason limit bytes Failed = ⊤
IsFileReason limit bytes Long = limit < length bytes

-- some bytes are such, and where the file is known they are its bytes
pub record SomeBytes (told : Option (List ℕ)) (such : List ℕ → Type 0) : Type 0 where
  pub bytes : List ℕ
  pub are_told : IfSome told (λ file. bytes ≡ file)
  pub is_such : such bytes

-- a file was not read, for this reason: by some bytes, its own where it is known
abbrev pub IsUnread : ℕ → Option (List ℕ) → FileFault → Type 0
IsUnread limit told fault = SomeBytes told (λ bytes. IsFileReason limit bytes fault)

-- the bytes of the file of this name, where the files are known
abbrev pub told_file : Option Files → List ℕ → Option (List ℕ)
told_file None name = None
told_file (Some files) name = Some (contents files name)
