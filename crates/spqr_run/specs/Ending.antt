-- The text and the status of a decision.
use Rattle.std.specs.Prelude.{ℕ, ◌≤◌, zero, suc, List, Option, Some, Result, Ok, Err, IfSome, ⊤, ◌≡◌}
use Rattle.spqr_script.specs.Refusal.{read_text, long_text, gml_text, rule_text, start_genus_text, script_text, usage_text}
use Rattle.spqr_script.specs.declared.refusals.Which.{Which}
use Rattle.spqr_script.specs.declared.refusals.Which.TheVariants.{GraphFile, ScriptFile}
use Rattle.spqr_edge.specs.Device.{counted, Rose}
use Rattle.spqr_run.specs.declared.halt.Halt.{Halt}
use Rattle.spqr_run.specs.declared.halt.Halt.TheVariants.{Refused, Memory as OutOfMemory}
use Rattle.spqr_session.specs.Machine.{IsStarted}
use Rattle.spqr_session.specs.Report.{IsReport}
use Rattle.made_graph.specs.Made.{made, max_asked}
use Rattle.made_summary.specs.Summary.{IsSummary}
use Rattle.spqr_run.specs.Seen.{ShelfSeen}
use Rattle.spqr_run.specs.Decision.{Sources, AreContents, Work, Task, Report, Summary, Decision, IsDue, DecisionHasLine}
use Rattle.spqr_run.specs.declared.reading.FileFault.{FileFault}
use Rattle.spqr_run.specs.declared.reading.FileFault.TheVariants.{Failed, Long}
use Rattle.spqr_run.specs.declared.refusal.Refusal.{Refusal}
use Rattle.spqr_run.specs.declared.refusal.Refusal.TheVariants.{Usage as NoForm, OfGraph, OfScript}
use Rattle.spqr_run.specs.declared.refusal.GraphRefusal.{GraphRefusal}
use Rattle.spqr_run.specs.declared.refusal.ScriptRefusal.{ScriptRefusal}
use Rattle.spqr_run.specs.declared.refusal.GraphRefusal.TheVariants.{File, Gml, Rule, Start}
use Rattle.spqr_run.specs.declared.refusal.ScriptRefusal.TheVariants.{File as Script, Line}
use Rattle.spqr_run.specs.declared.decision.Accepted.{Accepted}
use Rattle.spqr_run.specs.declared.decision.Plan.{Plan}
use Rattle.spqr_run.specs.declared.decision.Plan.TheVariants as plan
use Rattle.spqr_run.specs.declared.status.Status.{Status}
use Rattle.spqr_run.specs.declared.status.Status.TheVariants.{Done, Usage, ReadFault, TooLong, GmlRefused, GraphRefused, ScriptRefused}

-- the line for a file that was not read
abbrev pub file_text : Which → FileFault → List ℕ
file_text which Failed = read_text which
file_text which Long = long_text which

-- the line of a refusal
abbrev pub refusal_text : Refusal → List ℕ
refusal_text NoForm = usage_text
refusal_text (OfGraph (File fault)) = file_text GraphFile fault
refusal_text (OfGraph (Gml fault)) = gml_text fault
refusal_text (OfGraph (Rule fault)) = rule_text fault
refusal_text (OfGraph (Start b v e f)) = start_genus_text b v e f
refusal_text (OfScript (Script fault)) = file_text ScriptFile fault
refusal_text (OfScript (Line line)) = script_text line

-- a text of a decision: a report, a summary, or the line of the refusal
abbrev pub IsTextOf : Decision → List ℕ → Type 0
IsTextOf (Ok (Report work)) text = IsReport work.setting work.commands text
IsTextOf (Ok (Summary n seed)) text = IsSummary (made n seed) text
IsTextOf (Err refusal) text = text ≡ refusal_text refusal

-- the status for a file that was not read
abbrev pub file_status : FileFault → Status
file_status Failed = ReadFault
file_status Long = TooLong

-- the status for a graph file that is refused
abbrev pub graph_status : GraphRefusal → Status
graph_status (File fault) = file_status fault
graph_status (Gml fault) = GmlRefused
graph_status (Rule fault) = GraphRefused
graph_status (Start b v e f) = GraphRefused

-- the status for a script file that is refused
abbrev pub script_status : ScriptRefusal → Status
script_status (Script fault) = file_status fault
script_status (Line line) = ScriptRefused

-- the status of a refusal
abbrev pub refusal_status : Refusal → Status
refusal_status NoForm = Usage
refusal_status (OfGraph refusal) = graph_status refusal
refusal_status (OfScript refusal) = script_status refusal

-- the status of a decision, where nothing ends the run before
abbrev pub status_of : Decision → Status
status_of (Ok task) = Done
status_of (Err refusal) = refusal_status refusal

-- how many files are opened until a decision
abbrev pub opens_of : Decision → ℕ
opens_of (Ok (Report work)) = 2
opens_of (Ok (Summary n seed)) = 0
opens_of (Err NoForm) = 0
opens_of (Err (OfGraph refusal)) = 1
opens_of (Err (OfScript refusal)) = 2

-- a count of faults by a refusal's status: it increased for a read that failed, and is as before for each other
abbrev pub CountsFor : Status → ℕ → ℕ → Type 0
CountsFor ReadFault before now = (before ≤ now) × Rose before now
CountsFor status before now = now ≡ before

-- the count of the shelf's faults by what a call returns
abbrev pub CountsFaults : {T R : Type 0} → (R → Status) → ℕ → ℕ → Result T (Halt R) → Type 0
CountsFaults status before now (Ok _) = now ≡ before
CountsFaults status before now (Err (Refused refusal)) = CountsFor (status refusal) before now
CountsFaults status before now (Err OutOfMemory) = now ≡ before

-- this many calls more
abbrev pub counted_times : ℕ → ℕ → ℕ
counted_times zero n = n
counted_times (suc k) n = counted (counted_times k n)

-- the count of opened files went up as far as the decision says, where it is known
abbrev pub CountsOpens : Option ℕ → Option ℕ → Decision → Type 0
CountsOpens before now decision = IfSome before (λ n. now ≡ Some (counted_times (opens_of decision) n))

-- a decision was made on these words: it has a text; it is correct for some bytes, which are those of the files, where these are
-- known; this many files were opened; and a call of the shelf failed where the decision says so, and none else
pub record IsDecided (words : List (List ℕ)) (before after : ShelfSeen) (decision : Decision) : Type 0 where
  pub sources : Sources
  pub contents : AreContents words before.files sources
  pub due : IsDue words sources decision
  pub line : DecisionHasLine decision
  pub opens : CountsOpens before.opens after.opens decision
  pub reads : CountsFor (status_of decision) before.faults after.faults

-- the work on what was accepted
abbrev pub work_of : Accepted → Work
work_of accepted = record { setting = accepted.session.setting; commands = accepted.commands.items }

-- what a plan is to do
abbrev pub task_of : Plan → Task
task_of (plan.Report accepted) = Report (work_of accepted)
task_of (plan.Summary edges seed) = Summary edges seed

-- a plan can be carried out: its session is at its start, or its number of edges is in the range
abbrev pub IsReady : Plan → Type 0
IsReady (plan.Report accepted) = IsStarted accepted.session
IsReady (plan.Summary edges seed) = (6 ≤ edges) × (edges ≤ max_asked)

-- a fact on the decision that a call returns, where memory suffices: what its plan is to do, or the refusal
abbrev pub OnDecision : Result Plan (Halt Refusal) → (Decision → Type 0) → Type 0
OnDecision (Ok planned) P = P (Ok (task_of planned))
OnDecision (Err (Refused refusal)) P = P (Err refusal)
OnDecision (Err OutOfMemory) P = ⊤
