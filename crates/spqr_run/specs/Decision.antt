-- What a run decides before it writes: what is to be done, or why it is refused; and what is correct for the words and the bytes.
use Rattle.std.specs.Prelude.{◌≡◌, ◌≢◌, ℕ, ◌≤◌, List, length, Option, None, Some, Result, Ok, Err, IfSome, IsSome, ⊤}
use Rattle.gml_text.specs.Document.{Document}
use Rattle.gml_text.specs.Grammar.{Spells}
use Rattle.gml_text.specs.Faults.{IsFault as IsGmlFault}
use Rattle.gml_text.specs.declared.document.GmlFault.{GmlFault}
use Rattle.gml_text.specs.declared.document.GmlFault.TheVariants.{Bad, End, Memory as GmlMemory}
use Rattle.gml_graph.specs.Named.{NamedGraph}
use Rattle.gml_graph.specs.Answer.{graph_of_document}
use Rattle.gml_graph.specs.declared.fault.GraphFault.TheVariants.{Memory as GraphMemory}
use Rattle.spqr_script.specs.Script.{Commands, IsFirstBadLine}
use Rattle.spqr_script.specs.declared.command.Command.{Command}
use Rattle.spqr_edge.specs.Device.{Files, contents}
use Rattle.spqr_session.specs.Setting.{Setting, IsSetting}
use Rattle.spqr_session.specs.Start.{IsStartFault}
use Rattle.command_words.specs.Form.{Make, form_of}
use Rattle.spqr_run.specs.Words.{Names, names_of}
use Rattle.spqr_run.specs.Reading.{IsFileReason, SomeBytes, told_file}
use Rattle.spqr_run.specs.declared.refusal.Refusal.{Refusal}
use Rattle.spqr_run.specs.declared.refusal.Refusal.TheVariants.{Usage, OfGraph, OfScript}
use Rattle.spqr_run.specs.declared.refusal.GraphRefusal.{GraphRefusal}
use Rattle.spqr_run.specs.declared.refusal.GraphRefusal.TheVariants.{File, Gml, Rule, Start}
use Rattle.spqr_run.specs.declared.refusal.ScriptRefusal.{ScriptRefusal}
use Rattle.spqr_run.specs.declared.refusal.ScriptRefusal.TheVariants.{File as Script, Line}

-- the greatest lengths of the two files
abbrev pub graph_limit : ℕ
graph_limit = 16777216

abbrev pub script_limit : ℕ
script_limit = 1048576

-- the bytes of the graph file and of the script file
pub record Sources : Type 0 where
  pub graph : List ℕ
  pub script : List ℕ

-- where the files of the shelf are known and the words name two, these are their bytes
abbrev pub AreContents : List (List ℕ) → Option Files → Sources → Type 0
AreContents words told sources =
    IfSome told (λ files. IfSome (names_of words) (λ names.
    (sources.graph ≡ contents files names.graph) × (sources.script ≡ contents files names.script)))

-- what a report is on: the setting, and the commands
pub record Work : Type 0 where
  pub setting : Setting
  pub commands : List Command

-- what is to be done: the report on a work, or the summary of the graph that is made from a number, of this many edges or a few more
pub data Task : Type 0 where
  Report : Work → Task
  Summary : ℕ → ℕ → Task

-- the bytes of a graph file: within the limit, they spell the document
pub record SayDocument (bytes : List ℕ) (d : Document) : Type 0 where
  pub within : length bytes ≤ graph_limit
  pub spelled : Spells bytes d

-- the bytes of a script file: within the limit, they spell the commands
pub record SayCommands (bytes : List ℕ) (commands : List Command) : Type 0 where
  pub within : length bytes ≤ script_limit
  pub spelled : Commands bytes commands

-- the graph file is accepted: it says a document that has a graph, at which a session can start
pub record AcceptsGraph (bytes : List ℕ) : Type 0 where
  pub document : Document
  pub named : NamedGraph
  pub says : SayDocument bytes document
  pub graph : graph_of_document document ≡ Ok named
  pub starts : (b v e f : ℕ) → ¬ IsStartFault named b v e f

-- the script file is accepted
pub record AcceptsScript (bytes : List ℕ) : Type 0 where
  pub commands : List Command
  pub says : SayCommands bytes commands

-- the words name two files, and both are accepted
pub record IsAccepted (words : List (List ℕ)) (files : Files) : Type 0 where
  pub names : Names
  pub form : names_of words ≡ Some names
  pub graph : AcceptsGraph (contents files names.graph)
  pub script : AcceptsScript (contents files names.script)

-- the work is what both files say: a setting on the document, at whose graph a session can start, and the commands
pub record IsWork (sources : Sources) (work : Work) : Type 0 where
  pub graph : SayDocument sources.graph work.setting.document
  pub setting : IsSetting work.setting
  pub starts : (b v e f : ℕ) → ¬ IsStartFault work.setting.named b v e f
  pub script : SayCommands sources.script work.commands

-- why bytes are not a document; running out of memory is not such a reason
abbrev pub IsGmlReason : List ℕ → GmlFault → Type 0
IsGmlReason bytes (Bad at) = IsGmlFault (Bad at) bytes
IsGmlReason bytes (End at) = IsGmlFault (End at) bytes
IsGmlReason bytes GmlMemory = ⊥

-- why no session can start at a graph: the only such refusal is that of a rotation system that is not plane
abbrev pub IsStartReason : NamedGraph → GraphRefusal → Type 0
IsStartReason named (File fault) = ⊥
IsStartReason named (Gml fault) = ⊥
IsStartReason named (Rule fault) = ⊥
IsStartReason named (Start b v e f) = IsStartFault named b v e f

-- why the bytes of the graph file are refused
abbrev pub IsGraphReason : List ℕ → GraphRefusal → Type 0
IsGraphReason bytes (File fault) = IsFileReason graph_limit bytes fault
IsGraphReason bytes (Gml fault) = (length bytes ≤ graph_limit) × IsGmlReason bytes fault
IsGraphReason bytes (Rule fault) = (length bytes ≤ graph_limit) × ((d : Document) × Spells bytes d × (graph_of_document d ≡ Err fault))
IsGraphReason bytes (Start b v e f) = (length bytes ≤ graph_limit) × ((d : Document) × (named : NamedGraph) × Spells bytes d × (graph_of_document d ≡ Ok named) × IsStartFault named b v e f)

-- why the bytes of the script file are refused
abbrev pub IsScriptReason : List ℕ → ScriptRefusal → Type 0
IsScriptReason bytes (Script fault) = IsFileReason script_limit bytes fault
IsScriptReason bytes (Line line) = (length bytes ≤ script_limit) × IsFirstBadLine bytes line

-- a graph file says a document, and a script file commands; or it is refused: by some bytes, its own where the files are known
abbrev pub GraphFileSays : Option Files → List ℕ → Document → Type 0
GraphFileSays told name d = SomeBytes (told_file told name) (λ bytes. SayDocument bytes d)

abbrev pub GraphFileRefused : Option Files → List ℕ → GraphRefusal → Type 0
GraphFileRefused told name refusal = SomeBytes (told_file told name) (λ bytes. IsGraphReason bytes refusal)

abbrev pub ScriptFileSays : Option Files → List ℕ → List Command → Type 0
ScriptFileSays told name commands = SomeBytes (told_file told name) (λ bytes. SayCommands bytes commands)

abbrev pub ScriptFileRefused : Option Files → List ℕ → ScriptRefusal → Type 0
ScriptFileRefused told name refusal = SomeBytes (told_file told name) (λ bytes. IsScriptReason bytes refusal)

-- a decision: what is to be done, or a refusal
abbrev pub Decision : Type 0
Decision = Result Task Refusal

-- a decision that is correct for the words, by the bytes. The script is refused only where the graph is accepted. For words that ask
-- for a graph from a number nothing but its summary is correct
abbrev pub IsDue : List (List ℕ) → Sources → Decision → Type 0
IsDue words sources (Ok (Report work)) = IsSome (names_of words) × IsWork sources work
IsDue words sources (Ok (Summary n seed)) = form_of words ≡ Some (Make n seed)
IsDue words sources (Err Usage) = form_of words ≡ None
IsDue words sources (Err (OfGraph refusal)) = IsSome (names_of words) × IsGraphReason sources.graph refusal
IsDue words sources (Err (OfScript refusal)) = IsSome (names_of words) × AcceptsGraph sources.graph × IsScriptReason sources.script refusal

-- a refusal has a line: running out of memory has none
abbrev pub HasLine : GraphRefusal → Type 0
HasLine (File fault) = ⊤
HasLine (Gml fault) = fault ≢ GmlMemory
HasLine (Rule fault) = fault ≢ GraphMemory
HasLine (Start b v e f) = ⊤

-- a decision has a text
abbrev pub DecisionHasLine : Decision → Type 0
DecisionHasLine (Ok task) = ⊤
DecisionHasLine (Err Usage) = ⊤
DecisionHasLine (Err (OfGraph refusal)) = HasLine refusal
DecisionHasLine (Err (OfScript refusal)) = ⊤
