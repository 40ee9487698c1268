-- How a run may end: what was written, and which counts increased.
use Rattle.std.specs.Prelude.{◌≡◌, ℕ, ◌<◌, ◌≤◌, ◌⊎◌, ⊤, List, Option, None, Some, IfSome, IsSome, Ok, Err, Result, take}
use Rattle.std.specs.Io.KnownBytes.{Appends, Keeps}
use Rattle.spqr_edge.specs.Device.{counted, Rose}
use Rattle.spqr_edge.specs.declared.Failed.{Failed}
use Rattle.command_words.specs.Form.{Make, form_of}
use Rattle.spqr_run.specs.Front.{AppendsFront}
use Rattle.made_graph.specs.Made.{made}
use Rattle.made_summary.specs.Summary.{IsSummary}
use Rattle.spqr_run.specs.Writing.{AppendsReport, AppendsReportFront}
use Rattle.spqr_run.specs.Decision.{Sources, AreContents, Work, Task, Report, Summary, Decision, IsAccepted, IsDue}
use Rattle.spqr_run.specs.Ending.{refusal_text, refusal_status, IsTextOf, status_of, CountsFor, IsDecided}
use Rattle.spqr_run.specs.Seen.{Seen}
use Rattle.spqr_run.specs.declared.refusal.Refusal.{Refusal}
use Rattle.spqr_run.specs.declared.halt.Halt.{Halt}
use Rattle.spqr_run.specs.declared.halt.Halt.TheVariants.{Refused, Memory as OutOfMemory}
use Rattle.spqr_run.specs.declared.status.Status.{Status}
use Rattle.spqr_run.specs.declared.status.Status.TheVariants.{Done, Usage, WriteFault, Memory}

-- the count of the sink's faults by what a call returns: it increased where a put failed
abbrev pub CountsPut : {T : Type 0} → ℕ → ℕ → Result T (Halt Failed) → Type 0
CountsPut before now (Ok _) = now ≡ before
CountsPut before now (Err (Refused _)) = Rose before now
CountsPut before now (Err OutOfMemory) = now ≡ before

-- a text of the decision was written whole
pub record AppendsText (decision : Decision) (before now : Option (List ℕ)) : Type 0 where
  pub text : List ℕ
  pub is_text : IsTextOf decision text
  pub written : Appends before now text

-- a prefix of the summary of the graph that is made from a number was written
pub record AppendsSummaryFront (n seed : ℕ) (before now : Option (List ℕ)) : Type 0 where
  pub text : List ℕ
  pub summary : IsSummary (made n seed) text
  pub written : AppendsFront before now text

-- a prefix of a text of a task was written: of a report, of the head and the answers of the first commands, for some number of them
abbrev pub AppendsTaskFront : Task → Option (List ℕ) → Option (List ℕ) → Type 0
AppendsTaskFront (Report work) before now = (count : ℕ) × AppendsReportFront work.setting (take count work.commands) before now
AppendsTaskFront (Summary n seed) before now = AppendsSummaryFront n seed before now

-- so it was of a decision: of a refusal, a prefix of its line
abbrev pub AppendsTextFront : Decision → Option (List ℕ) → Option (List ℕ) → Type 0
AppendsTextFront (Ok task) before now = AppendsTaskFront task before now
AppendsTextFront (Err refusal) before now = AppendsFront before now (refusal_text refusal)

-- the report on the first commands was written whole; a summary has no such part
abbrev pub AppendsFirst : Task → Option (List ℕ) → Option (List ℕ) → Type 0
AppendsFirst (Report work) before now = (count : ℕ) × AppendsReport work.setting (take count work.commands) before now
AppendsFirst (Summary n seed) before now = ⊥

-- a task was carried out: a text of it was written, with the status that says so; a prefix, where a put failed; nothing, or
-- the report on the first commands, where memory ran out. There is no other status
abbrev pub CarriesOut : Task → Option (List ℕ) → Option (List ℕ) → Status → Type 0
CarriesOut task before now Done = AppendsText (Ok task) before now
CarriesOut task before now WriteFault = AppendsTaskFront task before now
CarriesOut task before now Memory = Keeps before now ⊎ AppendsFirst task before now
CarriesOut task before now status = ⊥

-- the line of a refusal was written, with its status; a prefix of it, where a put failed; nothing, where memory ran out
abbrev pub RefusesWith : Refusal → Option (List ℕ) → Option (List ℕ) → Status → Type 0
RefusesWith refusal before now WriteFault = AppendsFront before now (refusal_text refusal)
RefusesWith refusal before now Memory = Keeps before now
RefusesWith refusal before now status = (status ≡ refusal_status refusal) × Appends before now (refusal_text refusal)

-- one decision was made, a text of it was written and nothing else, and its status is given
pub record Finishes (words : List (List ℕ)) (before after : Seen) (status : Status) : Type 0 where
  pub decision : Decision
  pub decided : IsDecided words before.shelf after.shelf decision
  pub status_is : status ≡ status_of decision
  pub text : AppendsText decision before.sink.written after.sink.written

-- one decision was made, and a prefix of a text of it was written, of a report on the first commands, for some number of them
pub record StopsWriting (words : List (List ℕ)) (before after : Seen) : Type 0 where
  pub decision : Decision
  pub decided : IsDecided words before.shelf after.shelf decision
  pub text : AppendsTextFront decision before.sink.written after.sink.written

-- the work was accepted, and the report on its first commands was written whole
pub record RunsShort (words : List (List ℕ)) (before after : Seen) : Type 0 where
  pub work : Work
  pub decided : IsDecided words before.shelf after.shelf (Ok (Report work))
  pub count : ℕ
  pub report : AppendsReport work.setting (take count work.commands) before.sink.written after.sink.written

-- the end of a run by its status. After a failed put a prefix of a correct text was written, of a report of that on the first commands;
-- if memory ran out, nothing, or the report on the first commands
abbrev pub Ends : List (List ℕ) → Seen → Seen → Status → Type 0
Ends words before after WriteFault = StopsWriting words before after
Ends words before after Memory = Keeps before.sink.written after.sink.written ⊎ RunsShort words before after
Ends words before after status = Finishes words before after status

-- a text was written of a task that is correct for some bytes, which are the whole contents of the files, where these are known
pub record WritesDue (words : List (List ℕ)) (before after : Seen) : Type 0 where
  pub sources : Sources
  pub contents : AreContents words before.shelf.files sources
  pub task : Task
  pub due : IsDue words sources (Ok task)
  pub text : AppendsText (Ok task) before.sink.written after.sink.written

-- a fact for the status Done
abbrev pub OnDone : Status → Type 0 → Type 0
OnDone Done P = P
OnDone status P = ⊤

-- the status for words without a valid form comes only for these
abbrev pub FitsWords : List (List ℕ) → Status → Type 0
FitsWords words Usage = form_of words ≡ None
FitsWords words WriteFault = ⊤
FitsWords words Memory = ⊤
FitsWords words status = IsSome (form_of words)

-- the count of the shelf's faults by the status: where writing failed or memory ran out it may have increased; for each other status
-- it did as a decision of this status says
abbrev pub CountsReads : ℕ → ℕ → Status → Type 0
CountsReads before now WriteFault = before ≤ now
CountsReads before now Memory = before ≤ now
CountsReads before now status = CountsFor status before now

-- the count of the sink's faults by the status: it increased where writing failed, and is as before for each other status
abbrev pub CountsPuts : ℕ → ℕ → Status → Type 0
CountsPuts before now WriteFault = Rose before now
CountsPuts before now status = now ≡ before

-- the status of a run in which nothing failed and memory sufficed, or memory ran out
abbrev pub IsDoneOrMemory : Status → Type 0
IsDoneOrMemory Done = ⊤
IsDoneOrMemory Memory = ⊤
IsDoneOrMemory status = ⊥

-- neither count increased, and neither is at its greatest value
abbrev pub NothingFailed : Seen → Seen → Type 0
NothingFailed before after =
    (after.shelf.faults < counted before.shelf.faults) × (after.sink.faults < counted before.sink.faults)

-- a run on these words, by what is observed before and after it
pub record IsRun (words : List (List ℕ)) (before after : Seen) (status : Status) : Type 0 where
  -- one decision is correct and made, and a text of it is written
  pub ends : Ends words before after status
  -- Done says that the report of the whole contents of both files was written, or the summary that was asked for
  pub done : OnDone status (WritesDue words before after)
  -- words that ask for a graph from a number are answered by its summary alone
  pub making : (n seed : ℕ) → form_of words ≡ Some (Make n seed) → CarriesOut (Summary n seed) before.sink.written after.sink.written status
  -- faults of the words, of the shelf and of the sink come where they are required, whatever the devices make known
  pub form : FitsWords words status
  pub reads : CountsReads before.shelf.faults after.shelf.faults status
  pub puts : CountsPuts before.sink.faults after.sink.faults status
  -- where the words and the files are accepted and nothing failed, the run is done, or memory ran out; so it is where a summary
  -- is asked for and no put failed
  pub complete : IfSome before.shelf.files (λ files. IsAccepted words files → NothingFailed before after → IsDoneOrMemory status)
  pub complete_making : (n seed : ℕ) → form_of words ≡ Some (Make n seed) → after.sink.faults < counted before.sink.faults → IsDoneOrMemory status
