-- The words that commands begin with: how each is spelled, the table of all, and which of them a name is.
use Rattle.std.specs.Prelude.{ℕ, if◌then◌else◌, List, [], ◌∷◌, Option, Some, None, bytes_eq, codes}
use Rattle.spqr_script.specs.declared.word.Word.{Word}
use Rattle.spqr_script.specs.declared.word.Word.TheVariants as word
use Rattle.spqr_script.specs.declared.word.Word.TheVariants.{Euler, Show, Faces, Flip, Permute, Mirror, First, Next, Goto, Convert, Take, Undo, Redo, Gml, Count, Rank, Longest, Draw, Lock, Unlock, Whole, Regroup, NextWhole, ListWhole, ConvertWhole}

-- how a word is spelled
abbrev pub spelling : Word → List ℕ
spelling Euler = codes "euler"
spelling Show = codes "show"
spelling Faces = codes "faces"
spelling Flip = codes "flip"
spelling Permute = codes "permute"
spelling Mirror = codes "mirror"
spelling First = codes "first"
spelling Next = codes "next"
spelling word.List = codes "list"
spelling Goto = codes "goto"
spelling Convert = codes "convert"
spelling Take = codes "take"
spelling Undo = codes "undo"
spelling Redo = codes "redo"
spelling Gml = codes "gml"
spelling Count = codes "count"
spelling Rank = codes "rank"
spelling Longest = codes "longest"
spelling Draw = codes "draw"
spelling Lock = codes "lock"
spelling Unlock = codes "unlock"
spelling Whole = codes "whole"
spelling Regroup = codes "regroup"
spelling NextWhole = codes "nextwhole"
spelling ListWhole = codes "listwhole"
spelling ConvertWhole = codes "convertwhole"

-- every word, in the order of the table
abbrev pub all_words : List Word
all_words =
    Euler ∷ Show ∷ Faces ∷ Flip ∷ Permute ∷ Mirror ∷ First ∷ Next ∷ word.List ∷ Goto
    ∷ Convert ∷ Take ∷ Undo ∷ Redo ∷ Gml ∷ Count ∷ Rank ∷ Longest ∷ Draw ∷ Lock ∷ Unlock
    ∷ Whole ∷ Regroup ∷ NextWhole ∷ ListWhole ∷ ConvertWhole ∷ []

-- the first of some words that is spelled so
unfoldable pub word_among : List Word → List ℕ → Option Word
word_among [] name = None
word_among (word ∷ words) name = (if bytes_eq (spelling word) name then Some word else word_among words name)
