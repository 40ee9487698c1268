-- A document of which some pairs have been read, with the lists that are open.
use Rattle.std.specs.Prelude.{◌≡◌, ℕ, ◌<◌, ◌≤◌, true, List, [], ◌∷◌, ◌++◌, length, Option, Some, None, Result, Ok, Err}
use Rattle.gml_text.specs.Document.{Document, empty, number, string, list, append, max_depth, IsWithinDepth}
use Rattle.gml_text.specs.Grammar.{is_gap, CloseStands, PairsStand}
use Rattle.gml_text.specs.Pairs.{document_of, pair_before}
use Rattle.gml_text.specs.Reading.{Follows}
use Rattle.gml_text.specs.Breaks.{Breaks}
use Rattle.gml_text.specs.declared.document.Value.{Value}
use Rattle.gml_text.specs.declared.partial.Stop.{Stop}
use Rattle.gml_text.specs.declared.partial.Stop.TheVariants.{Fault, Memory}
use Rattle.std.proofs.Common.{Bor}
use Rattle.gml_text.specs.declared.partial.OpenList.{OpenList}
use Rattle.gml_text.specs.declared.partial.Partial.{Partial}
use Rattle.gml_text.specs.declared.item.Found.{Found}
use Rattle.gml_text.specs.declared.item.Found.TheVariants.{Number, Text, Open}

-- an open list: the pairs before it, and its key
pub record Frame : Type 0 where
  pub before : Document
  pub key : List ℕ

-- the pairs of the list around an open one, when that is closed with these pairs in it
abbrev pub closed : Frame → Document → Document
closed frame inner = append frame.before (list frame.key inner empty)

-- the document with all open lists closed, the innermost first
abbrev pub plug : List Frame → Document → Document
plug [] d = d
plug (frame ∷ frames) d = plug frames (closed frame d)

-- the innermost open list is over with these pairs in it, and what follows makes the whole this document
abbrev pub Ends : List Frame → Document → List ℕ → Document → Type 0
Ends [] pairs rest d = (is_gap true rest ≡ true) × (d ≡ pairs)
Ends (frame ∷ frames) pairs rest d =
    (behind : List ℕ) × CloseStands rest behind × ((more : Document) × (after : List ℕ) × PairsStand more behind after × Ends frames (append (closed frame pairs) more) after d)

-- the bytes that are left make the whole this document
abbrev pub Completes : List Frame → Document → List ℕ → Document → Type 0
Completes frames pairs bytes d = (more : Document) × (rest : List ℕ) × PairsStand more bytes rest × Ends frames (append pairs more) rest d

-- the open lists of a vector, of which the last is the innermost
abbrev pub frames_onto : List OpenList → List Frame → List Frame
frames_onto [] frames = frames
frames_onto (open_list ∷ open_lists) frames = frames_onto open_lists (record { before = document_of open_list.before.items; key = open_list.key } ∷ frames)

abbrev pub frames_of : Partial → List Frame
frames_of p = frames_onto p.open_lists.items []

abbrev pub pairs_of : Partial → Document
pairs_of p = document_of p.pairs.items

-- what is left makes the partial document this one
abbrev pub Finishes : Partial → List ℕ → Document → Type 0
Finishes p bytes d = Completes (frames_of p) (pairs_of p) bytes d

-- no list so far is nested too deep
abbrev pub IsPartial : Partial → Type 0
IsPartial p = IsWithinDepth (plug (frames_of p) (pairs_of p))

-- some bytes are read in a step: whatever follows them, the same documents are completed before it and after it
pub record Advances (old : Partial) (bytes : List ℕ) (new : Partial) (behind : List ℕ) : Type 0 where
  pub read : List ℕ
  pub split : bytes ≡ read ++ behind
  pub some : 0 < length read
  pub forth : (more : List ℕ) → Follows more behind → (d : Document) → Finishes old (read ++ more) d → Finishes new more d
  pub back : (more : List ℕ) → Follows more behind → (d : Document) → Finishes new more d → Finishes old (read ++ more) d
  pub within : IsPartial new
  pub shorter : length behind < length bytes

-- nothing is left, and this is the document
pub record IsOver (p : Partial) (bytes : List ℕ) : Type 0 where
  pub forth : (d : Document) → Finishes p bytes d → d ≡ pairs_of p
  pub back : Finishes p bytes (pairs_of p)
  pub within : IsWithinDepth (pairs_of p)

-- bytes instead of those that are left complete a document
abbrev pub CanFinish : Partial → List ℕ → List ℕ → Type 0
CanFinish p rest bytes = Follows bytes rest × (d : Document) × Finishes p bytes d × IsWithinDepth d

-- and these complete none
abbrev pub NeverFinishes : Partial → List ℕ → Type 0
NeverFinishes p bytes = (d : Document) → Finishes p bytes d → IsWithinDepth d → ⊥

-- no document continues where this many bytes are left
abbrev pub IsRefused : Partial → List ℕ → ℕ → Type 0
IsRefused p bytes left = Breaks (CanFinish p bytes) (NeverFinishes p) bytes left

-- one more pair, or one more list open
abbrev pub IsTaken : List ℕ → Found → Partial → Partial → Type 0
IsTaken key (Number text) old new = (frames_of new ≡ frames_of old) × (pairs_of new ≡ append (pairs_of old) (number key text.now empty))
IsTaken key (Text text) old new = (frames_of new ≡ frames_of old) × (pairs_of new ≡ append (pairs_of old) (string key text.now empty))
IsTaken key Open old new = (frames_of new ≡ record { before = pairs_of old; key = key } ∷ frames_of old) × (pairs_of new ≡ empty) × (length (frames_of old) < max_depth)

-- a list that would be nested too deep
abbrev pub IsTooDeep : Found → Partial → Type 0
IsTooDeep (Number text) old = ⊥
IsTooDeep (Text text) old = ⊥
IsTooDeep Open old = 32 ≤ length (frames_of old)

-- the innermost open list closed
pub record IsClosed (old new : Partial) : Type 0 where
  pub frame : Frame
  pub frames : frames_of old ≡ frame ∷ frames_of new
  pub pairs : pairs_of new ≡ closed frame (pairs_of old)

-- one more pair in the innermost list
pub record IsAdded (key : List ℕ) (value : Value) (old new : Partial) : Type 0 where
  pub frames : frames_of new ≡ frames_of old
  pub pairs : pairs_of new ≡ append (pairs_of old) (pair_before key value empty)

-- one more list open, with nothing in it
pub record IsOpened (key : List ℕ) (old new : Partial) : Type 0 where
  pub frames : frames_of new ≡ record { before = pairs_of old; key = key } ∷ frames_of old
  pub pairs : pairs_of new ≡ empty

-- what a step gives
abbrev pub Stepped : Partial → List ℕ → Result (Option (Bor (List ℕ))) Stop → Partial → Type 0
Stepped old bytes (Ok (Some behind)) new = Advances old bytes new behind.now
Stepped old bytes (Ok None) new = IsOver old bytes × (new ≡ old)
Stepped old bytes (Err (Fault left)) new = IsRefused old bytes left × (left ≤ length bytes)
Stepped old bytes (Err Memory) new = Unit {0}

-- some of the bytes have been read: whatever follows them, the documents that are spelled, whatever their depth, are
-- those that it completes
pub record IsRead (bytes : List ℕ) (p : Partial) (rest : List ℕ) : Type 0 where
  pub read : List ℕ
  pub split : bytes ≡ read ++ rest
  pub forth : (more : List ℕ) → Follows more rest → (d : Document) → Completes [] empty (read ++ more) d → Finishes p more d
  pub back : (more : List ℕ) → Follows more rest → (d : Document) → Finishes p more d → Completes [] empty (read ++ more) d
  pub within : IsPartial p
  pub shorter : length rest ≤ length bytes
