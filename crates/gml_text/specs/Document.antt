-- What a GML text contains: its pairs of a key and a value, in order.
use Rattle.std.specs.Prelude.{ℕ, ◌+◌, ◌≤◌, max, List}

-- a run of pairs: none, or a first pair and the pairs after it. Keys, numbers and strings are bytes: a number's are as
-- written, a string's are those between its quotes
pub data Document : Type 0 where
  empty : Document
  number : (key : List ℕ) (text : List ℕ) (rest : Document) → Document
  string : (key : List ℕ) (text : List ℕ) (rest : Document) → Document
  list : (key : List ℕ) (inner : Document) (rest : Document) → Document

-- how many pairs there are, those of inner lists counted too
abbrev pub pair_count : Document → ℕ
pair_count empty = 0
pair_count (number key text rest) = pair_count rest + 1
pair_count (string key text rest) = pair_count rest + 1
pair_count (list key inner rest) = pair_count inner + pair_count rest + 1

-- how many lists enclose the innermost pair; the innermost list counts even if it is empty
abbrev pub depth : Document → ℕ
depth empty = 0
depth (number key text rest) = depth rest
depth (string key text rest) = depth rest
depth (list key inner rest) = max (depth inner + 1) (depth rest)

-- how deep lists may be nested
abbrev pub max_depth : ℕ
max_depth = 32

-- a list is nested in at most 31 other lists
abbrev pub IsWithinDepth : Document → Type 0
IsWithinDepth d = depth d ≤ max_depth

-- the pairs of one document, and then those of another
abbrev pub append : Document → Document → Document
append empty e = e
append (number key text rest) e = number key text (append rest e)
append (string key text rest) e = string key text (append rest e)
append (list key inner rest) e = list key inner (append rest e)
