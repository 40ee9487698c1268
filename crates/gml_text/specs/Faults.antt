-- When bytes are rejected.
use Rattle.std.specs.Prelude.{◌≡◌, ℕ, ◌<◌, List, length}
use Rattle.gml_text.specs.Document.{Document}
use Rattle.gml_text.specs.Grammar.{Spells}
use Rattle.gml_text.specs.Front.{At}
use Rattle.gml_text.specs.declared.document.GmlFault.{GmlFault}
use Rattle.gml_text.specs.declared.document.GmlFault.TheVariants.{Bad, End, Memory}

-- the bytes spell no document
abbrev pub IsNoDocument : List ℕ → Type 0
IsNoDocument bytes = (d : Document) → Spells bytes d → ⊥

-- no document is spelled, and the place is the length of the longest such prefix: the end of the bytes, or before it; out of
-- memory has no condition
abbrev pub IsFault : GmlFault → List ℕ → Type 0
IsFault (Bad at) bytes = IsNoDocument bytes × At bytes at × (at < length bytes)
IsFault (End at) bytes = IsNoDocument bytes × At bytes at × (at ≡ length bytes)
IsFault Memory bytes = Unit {0}
