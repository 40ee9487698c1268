-- What the definitions of a session say of one another.
use Rattle.std.specs.Prelude.{◌≡◌, ℕ, ◌<◌, false, List, ◌++◌, length, Some, Ok}
use Rattle.gml_text.specs.Document.{Document}
use Rattle.gml_text.specs.WellFormed.{IsWellFormed}
use Rattle.gml_graph.specs.Named.{NamedGraph}
use Rattle.gml_graph.specs.Answer.{graph_of_document}
use Rattle.gml_graph.specs.Marked.{marked, told_lists}
use Rattle.spqr_script.specs.declared.command.Command.{Command}
use Rattle.spqr_session.specs.Trees.{tree_at}
use Rattle.spqr_session.specs.Setting.{Setting, IsSetting}
use Rattle.spqr_session.specs.Start.{StartsAt, IsStartFault}
use Rattle.spqr_session.specs.State.{Embedding, Family, State, entry_at, IsState, IsStart}
use Rattle.spqr_session.specs.Members.{AreMembers}
use Rattle.spqr_session.specs.Products.{member_count}
use Rattle.spqr_session.specs.Commands.Gml.{present_lists, marks}
use Rattle.spqr_session.specs.Step.{Step}
use Rattle.spqr_session.specs.Open.{leaves_open, may_lack_answer, NoneOpen, AllAnswered, AgreeOnTexts}
use Rattle.spqr_session.specs.Report.{IsReport}

-- each command that may not lack an answer has one in each state
abbrev pub EachHasAnswer : Type 0
EachHasAnswer =
    (setting : Setting) (before : State) (command : Command) → IsSetting setting → IsState setting before
    → may_lack_answer command ≡ false → (text : List ℕ) × (after : State) × Step setting before command text after

-- there is one state after it; and one text, where the command leaves none open
abbrev pub OneAnswer : Type 0
OneAnswer =
    (setting : Setting) (before : State) (command : Command) (s t : List ℕ) (after other : State) → IsSetting setting → IsState setting before
    → Step setting before command s after → Step setting before command t other → (leaves_open command ≡ false → s ≡ t) × (after ≡ other)

-- a step leads from a state to a state: the current rotation systems of planar blocks are plane
abbrev pub StepKeepsState : Type 0
StepKeepsState =
    (setting : Setting) (before : State) (command : Command) (text : List ℕ) (after : State) → IsSetting setting → IsState setting before
    → Step setting before command text after → IsState setting after

-- there is one state at the start
abbrev pub OneStart : Type 0
OneStart = (setting : Setting) (a b : State) → IsSetting setting → IsStart setting a → IsStart setting b → a ≡ b

-- there is one fault of a start, with one set of numbers
abbrev pub OneStartFault : Type 0
OneStartFault =
    (named : NamedGraph) (b v e f c x y z : ℕ) → IsStartFault named b v e f → IsStartFault named c x y z
    → (b ≡ c) × (v ≡ x) × (e ≡ y) × (f ≡ z)

-- and none where a session starts
abbrev pub StartHasNoFault : Type 0
StartHasNoFault =
    (setting : Setting) (state : State) (b v e f : ℕ) → IsSetting setting → IsStart setting state → ¬ IsStartFault setting.named b v e f

-- what is read in the document that `gml` writes, which has a text where the first has one: the same graph with the same ids, on which
-- a session starts with the present rotation system of each planar block
pub record IsReadBack (setting : Setting) (family : Family) (document : Document) (named : NamedGraph) : Type 0 where
  pub well_formed : IsWellFormed setting.document → IsWellFormed document
  pub read : graph_of_document document ≡ Ok named
  pub graph : named.graph ≡ setting.named.graph
  pub ids : named.ids ≡ setting.named.ids
  pub present : (b : ℕ) (e : Embedding) → b < length setting.trees → entry_at family b ≡ Some e → StartsAt named.start (tree_at setting.trees b) e.rotation
  pub no_fault : (b v e f : ℕ) → ¬ IsStartFault named b v e f

-- each vertex has its present edges in it
abbrev pub GmlIsReadBack : Type 0
GmlIsReadBack =
    (setting : Setting) (state : State) → IsSetting setting → IsState setting state
    → IsReadBack setting state.present
    (marked (marks setting.named.graph.vertex_count setting.trees state.present) setting.document)
    (record setting.named { start = told_lists (present_lists setting.named.graph.vertex_count setting.trees state.present) })

-- there is one report on a setting and commands, as far as reports agree on the texts that commands leave open
abbrev pub OneReport : Type 0
OneReport =
    (setting : Setting) (commands : List Command) (s t : List ℕ) → IsSetting setting → (p : IsReport setting commands s) (q : IsReport setting commands t)
    → AgreeOnTexts commands p.texts q.texts → s ≡ t

-- and one only, where none of the commands leaves a text open
abbrev pub OneClosedReport : Type 0
OneClosedReport =
    (setting : Setting) (commands : List Command) (s t : List ℕ) → IsSetting setting → NoneOpen commands
    → IsReport setting commands s → IsReport setting commands t → s ≡ t

-- a report on commands is the beginning of one on these and more, where each of the others has an answer
abbrev pub ReportGoesOn : Type 0
ReportGoesOn =
    (setting : Setting) (commands more : List Command) (s : List ℕ) → IsSetting setting → AllAnswered more → IsReport setting commands s
    → (rest : List ℕ) × IsReport setting (commands ++ more) (s ++ rest)

-- the list of a block has as many members as the product over its nodes that are not locked says
abbrev pub MembersAreCounted : Type 0
MembersAreCounted =
    (setting : Setting) (state : State) (b : ℕ) (e : Embedding) (l : List (List (List ℕ))) → IsSetting setting → IsState setting state
    → entry_at state.present b ≡ Some e → AreMembers (tree_at setting.trees b) e l → length l ≡ member_count (tree_at setting.trees b) e
