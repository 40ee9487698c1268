-- How a run is made of its parts: a decision, and what was written of a text of it.
use Rattle.std.proofs.Common.{◌≡◌, ℕ, ◌<◌, ◌≤◌, List, Option, None, Some, Ok, Err, IfSome, IsSome, inl, inr, refl, sym, subst, arith}
use Rattle.std.specs.Io.KnownBytes.{Appends}
use Rattle.spqr_edge.specs.Device.{Files, counted}
use Rattle.command_words.specs.Form.{form_of}
use Rattle.spqr_run.specs.Decision.{Sources, Task, Report, Summary, IsAccepted, IsDue}
use Rattle.spqr_run.specs.Ending.{refusal_text, refusal_status, CountsFor, IsDecided}
use Rattle.spqr_run.specs.Laws.{NoRefusal}
use Rattle.spqr_run.specs.Seen.{Seen}
use Rattle.spqr_run.specs.Run.{AppendsFirst, CarriesOut, RefusesWith, Finishes, RunsShort, Ends, WritesDue, OnDone, FitsWords, CountsReads, CountsPuts, IsDoneOrMemory, NothingFailed, IsRun}
use Rattle.spqr_run.specs.declared.refusal.Refusal.{Refusal}
use Rattle.spqr_run.specs.declared.refusal.Refusal.TheVariants.{Usage as NoForm, OfGraph, OfScript}
use Rattle.spqr_run.specs.declared.refusal.GraphRefusal.TheVariants.{File, Gml, Rule, Start}
use Rattle.spqr_run.specs.declared.refusal.ScriptRefusal.TheVariants.{File as Script, Line}
use Rattle.spqr_run.specs.declared.reading.FileFault.TheVariants.{Failed, Long}
use Rattle.spqr_run.specs.declared.status.Status.{Status}
use Rattle.spqr_run.specs.declared.status.Status.TheVariants.{Done, Usage, ReadFault, TooLong, GmlRefused, GraphRefused, ScriptRefused, WriteFault, Memory}
use Rattle.spqr_run.proofs.Complete.{complete_refused}
use Rattle.spqr_run.proofs.Forms.{named-form, task-form, making-task, making-not_refused}

-- whatever the files are
if-told : (o : Option Files) (P : Files → Type 0) → ((files : Files) → P files) → IfSome o P
if-told None P h = tt
if-told (Some files) P h = h files

-- ---- a task that was carried out

-- the report on the first commands was written
short-run : (words : List (List ℕ)) (before after : Seen) (task : Task) → IsDecided words before.shelf after.shelf (Ok task) → AppendsFirst task before.sink.written after.sink.written → RunsShort words before after
short-run words before after (Report work) d w = record { work = work; decided = d; count = w.0; report = w.1 }
short-run words before after (Summary n seed) d w = absurd w

-- the run ends as it is due
carried-ends :
    (words : List (List ℕ)) (before after : Seen) (task : Task) (status : Status) → IsDecided words before.shelf after.shelf (Ok task)
    → CarriesOut task before.sink.written after.sink.written status → Ends words before after status
carried-ends words before after task Done d w = record { decision = Ok task; decided = d; status_is = refl; text = w }
carried-ends words before after task Usage d w = absurd w
carried-ends words before after task ReadFault d w = absurd w
carried-ends words before after task TooLong d w = absurd w
carried-ends words before after task GmlRefused d w = absurd w
carried-ends words before after task GraphRefused d w = absurd w
carried-ends words before after task ScriptRefused d w = absurd w
carried-ends words before after task WriteFault d w = record { decision = Ok task; decided = d; text = w }
carried-ends words before after task Memory d w = elim w [ inl kept ↦ inl kept | inr first ↦ inr (short-run words before after task d first) ]

-- Done is due
carried-done :
    (words : List (List ℕ)) (before after : Seen) (task : Task) (status : Status) → IsDecided words before.shelf after.shelf (Ok task)
    → CarriesOut task before.sink.written after.sink.written status → OnDone status (WritesDue words before after)
carried-done words before after task Done d w = record { sources = d.sources; contents = d.contents; task = task; due = d.due; text = w }
carried-done words before after task Usage d w = tt
carried-done words before after task ReadFault d w = tt
carried-done words before after task TooLong d w = tt
carried-done words before after task GmlRefused d w = tt
carried-done words before after task GraphRefused d w = tt
carried-done words before after task ScriptRefused d w = tt
carried-done words before after task WriteFault d w = tt
carried-done words before after task Memory d w = tt

-- the status is none of those of refusals
carried-form : (words : List (List ℕ)) (task : Task) (before now : Option (List ℕ)) (status : Status) → IsSome (form_of words) → CarriesOut task before now status → FitsWords words status
carried-form words task before now Done f w = f
carried-form words task before now Usage f w = absurd w
carried-form words task before now ReadFault f w = absurd w
carried-form words task before now TooLong f w = absurd w
carried-form words task before now GmlRefused f w = absurd w
carried-form words task before now GraphRefused f w = absurd w
carried-form words task before now ScriptRefused f w = absurd w
carried-form words task before now WriteFault f w = tt
carried-form words task before now Memory f w = tt

-- no read failed
carried-reads : (first last : ℕ) (task : Task) (before now : Option (List ℕ)) (status : Status) → last ≡ first → CarriesOut task before now status → CountsReads first last status
carried-reads first last task before now Done e w = e
carried-reads first last task before now Usage e w = absurd w
carried-reads first last task before now ReadFault e w = absurd w
carried-reads first last task before now TooLong e w = absurd w
carried-reads first last task before now GmlRefused e w = absurd w
carried-reads first last task before now GraphRefused e w = absurd w
carried-reads first last task before now ScriptRefused e w = absurd w
carried-reads first last task before now WriteFault e w = omega (arith, e)
carried-reads first last task before now Memory e w = omega (arith, e)

-- where no put failed it is done, or memory ran out
carried-complete :
    (first last : ℕ) (task : Task) (before now : Option (List ℕ)) (status : Status) → CarriesOut task before now status → CountsPuts first last status
    → last < counted first → IsDoneOrMemory status
carried-complete first last task before now Done w c l = tt
carried-complete first last task before now Usage w c l = absurd w
carried-complete first last task before now ReadFault w c l = absurd w
carried-complete first last task before now TooLong w c l = absurd w
carried-complete first last task before now GmlRefused w c l = absurd w
carried-complete first last task before now GraphRefused w c l = absurd w
carried-complete first last task before now ScriptRefused w c l = absurd w
carried-complete first last task before now WriteFault w c l = absurd (omega (arith, c, l))
carried-complete first last task before now Memory w c l = tt

-- a run that carried out its task
pub carried-run :
    (words : List (List ℕ)) (before after : Seen) (task : Task) (status : Status) → IsDecided words before.shelf after.shelf (Ok task)
    → CarriesOut task before.sink.written after.sink.written status → CountsPuts before.sink.faults after.sink.faults status → IsRun words before after status
carried-run words before after task status d w c =
    let done-or_memory : after.sink.faults < counted before.sink.faults → IsDoneOrMemory status = carried-complete before.sink.faults after.sink.faults task before.sink.written after.sink.written status w c in
    record {
      ends = carried-ends words before after task status d w;
      done = carried-done words before after task status d w;
      making = λ n seed e. subst (λ (t : Task). CarriesOut t before.sink.written after.sink.written status) (making-task words d.sources task n seed e d.due) w;
      form = carried-form words task before.sink.written after.sink.written status (task-form words d.sources task d.due) w;
      reads = carried-reads before.shelf.faults after.shelf.faults task before.sink.written after.sink.written status d.reads w;
      puts = c;
      complete = if-told before.shelf.files (λ files. IsAccepted words files → NothingFailed before after → IsDoneOrMemory status) (λ files accepted kept. done-or_memory kept.1);
      complete_making = λ n seed e kept. done-or_memory kept;
    }

-- ---- a refusal

-- its status ends a run that wrote the whole line
refused-ends : (words : List (List ℕ)) (before after : Seen) (refusal : Refusal) → Finishes words before after (refusal_status refusal) → Ends words before after (refusal_status refusal)
refused-ends words before after NoForm w = w
refused-ends words before after (OfGraph (File Failed)) w = w
refused-ends words before after (OfGraph (File Long)) w = w
refused-ends words before after (OfGraph (Gml fault)) w = w
refused-ends words before after (OfGraph (Rule fault)) w = w
refused-ends words before after (OfGraph (Start b v e f)) w = w
refused-ends words before after (OfScript (Script Failed)) w = w
refused-ends words before after (OfScript (Script Long)) w = w
refused-ends words before after (OfScript (Line line)) w = w

-- it is not Done
refused-done : (P : Type 0) (refusal : Refusal) → OnDone (refusal_status refusal) P
refused-done P NoForm = tt
refused-done P (OfGraph (File Failed)) = tt
refused-done P (OfGraph (File Long)) = tt
refused-done P (OfGraph (Gml fault)) = tt
refused-done P (OfGraph (Rule fault)) = tt
refused-done P (OfGraph (Start b v e f)) = tt
refused-done P (OfScript (Script Failed)) = tt
refused-done P (OfScript (Script Long)) = tt
refused-done P (OfScript (Line line)) = tt

-- it fits the words
refused-form : (words : List (List ℕ)) (sources : Sources) (refusal : Refusal) → IsDue words sources (Err refusal) → FitsWords words (refusal_status refusal)
refused-form words sources NoForm d = d
refused-form words sources (OfGraph (File Failed)) d = named-form words d.0
refused-form words sources (OfGraph (File Long)) d = named-form words d.0
refused-form words sources (OfGraph (Gml fault)) d = named-form words d.0
refused-form words sources (OfGraph (Rule fault)) d = named-form words d.0
refused-form words sources (OfGraph (Start b v e f)) d = named-form words d.0
refused-form words sources (OfScript (Script Failed)) d = named-form words d.0
refused-form words sources (OfScript (Script Long)) d = named-form words d.0
refused-form words sources (OfScript (Line line)) d = named-form words d.0

-- and the count of failed reads
refused-reads : (first last : ℕ) (refusal : Refusal) → CountsFor (refusal_status refusal) first last → CountsReads first last (refusal_status refusal)
refused-reads first last NoForm c = c
refused-reads first last (OfGraph (File Failed)) c = c
refused-reads first last (OfGraph (File Long)) c = c
refused-reads first last (OfGraph (Gml fault)) c = c
refused-reads first last (OfGraph (Rule fault)) c = c
refused-reads first last (OfGraph (Start b v e f)) c = c
refused-reads first last (OfScript (Script Failed)) c = c
refused-reads first last (OfScript (Script Long)) c = c
refused-reads first last (OfScript (Line line)) c = c

-- the count of failed reads does not fall
refused-rising : (first last : ℕ) (refusal : Refusal) → CountsFor (refusal_status refusal) first last → first ≤ last
refused-rising first last NoForm c = omega (arith, c)
refused-rising first last (OfGraph (File Failed)) c = c.0
refused-rising first last (OfGraph (File Long)) c = omega (arith, c)
refused-rising first last (OfGraph (Gml fault)) c = omega (arith, c)
refused-rising first last (OfGraph (Rule fault)) c = omega (arith, c)
refused-rising first last (OfGraph (Start b v e f)) c = omega (arith, c)
refused-rising first last (OfScript (Script Failed)) c = c.0
refused-rising first last (OfScript (Script Long)) c = omega (arith, c)
refused-rising first last (OfScript (Line line)) c = omega (arith, c)

module _ (none : NoRefusal) (words : List (List ℕ)) (before after : Seen) (refusal : Refusal) (d : IsDecided words before.shelf after.shelf (Err refusal)) where
  -- the line was written whole
  refused-whole : Appends before.sink.written after.sink.written (refusal_text refusal) → CountsPuts before.sink.faults after.sink.faults (refusal_status refusal) → IsRun words before after (refusal_status refusal)
  refused-whole w c = record {
    ends = refused-ends words before after refusal
        (record { decision = Err refusal; decided = d; status_is = refl; text = record { text = refusal_text refusal; is_text = refl; written = w } });
    done = refused-done (WritesDue words before after) refusal;
    making = λ n seed e. absurd (making-not_refused words d.sources refusal n seed e d.due);
    form = refused-form words d.sources refusal d.due;
    reads = refused-reads before.shelf.faults after.shelf.faults refusal d.reads;
    puts = c;
    complete = complete_refused none words before after refusal (refusal_status refusal) d;
    complete_making = λ n seed e kept. absurd (making-not_refused words d.sources refusal n seed e d.due);
  }

  -- with this status it was
  refused-with : (status : Status) → status ≡ refusal_status refusal → Appends before.sink.written after.sink.written (refusal_text refusal) → CountsPuts before.sink.faults after.sink.faults status → IsRun words before after status
  refused-with status e w c =
      subst (λ (s : Status). IsRun words before after s) (sym e)
      (refused-whole w (subst (λ (s : Status). CountsPuts before.sink.faults after.sink.faults s) e c))

  -- a run that was refused
  pub refused-run : (status : Status) → RefusesWith refusal before.sink.written after.sink.written status → CountsPuts before.sink.faults after.sink.faults status → IsRun words before after status
  refused-run Done w c = refused-with Done w.0 w.1 c
  refused-run Usage w c = refused-with Usage w.0 w.1 c
  refused-run ReadFault w c = refused-with ReadFault w.0 w.1 c
  refused-run TooLong w c = refused-with TooLong w.0 w.1 c
  refused-run GmlRefused w c = refused-with GmlRefused w.0 w.1 c
  refused-run GraphRefused w c = refused-with GraphRefused w.0 w.1 c
  refused-run ScriptRefused w c = refused-with ScriptRefused w.0 w.1 c
  refused-run WriteFault w c = record {
    ends = record { decision = Err refusal; decided = d; text = w };
    done = tt;
    making = λ n seed e. absurd (making-not_refused words d.sources refusal n seed e d.due);
    form = tt;
    reads = refused-rising before.shelf.faults after.shelf.faults refusal d.reads;
    puts = c;
    complete = complete_refused none words before after refusal WriteFault d;
    complete_making = λ n seed e kept. absurd (making-not_refused words d.sources refusal n seed e d.due);
  }
  refused-run Memory w c = record {
    ends = inl w;
    done = tt;
    making = λ n seed e. absurd (making-not_refused words d.sources refusal n seed e d.due);
    form = tt;
    reads = refused-rising before.shelf.faults after.shelf.faults refusal d.reads;
    puts = c;
    complete = complete_refused none words before after refusal Memory d;
    complete_making = λ n seed e kept. absurd (making-not_refused words d.sources refusal n seed e d.due);
  }

-- ---- want of memory
