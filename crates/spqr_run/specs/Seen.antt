-- What is observed outside at one moment.
use Rattle.std.specs.Prelude.{ℕ, List, Option}
use Rattle.spqr_edge.specs.Device.{Files}

-- of the shelf: the files and how many were opened, where they are known, and the count of its faults
pub record ShelfSeen : Type 0 where
  pub files : Option Files
  pub opens : Option ℕ
  pub faults : ℕ

abbrev pub seen_shelf : Option Files → Option ℕ → ℕ → ShelfSeen
seen_shelf files opens faults = record { files = files; opens = opens; faults = faults }

-- of the sink: the bytes written, where they are known, and the count of its faults
pub record SinkSeen : Type 0 where
  pub written : Option (List ℕ)
  pub faults : ℕ

abbrev pub seen_sink : Option (List ℕ) → ℕ → SinkSeen
seen_sink written faults = record { written = written; faults = faults }

-- of both
pub record Seen : Type 0 where
  pub shelf : ShelfSeen
  pub sink : SinkSeen

abbrev pub seen : ShelfSeen → SinkSeen → Seen
seen shelf sink = record { shelf = shelf; sink = sink }
