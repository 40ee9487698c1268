-- How a decision is made of what was read.
use Rattle.std.proofs.Common.{◌≡◌, ℕ, List, [], Option, None, Some, Ok, Err, IfSome, IsSome, refl, sym, ◌∙◌, subst}
use Rattle.command_words.specs.Form.{Make, form_of}
use Rattle.std.specs.Bool.{⊤}
use Rattle.spqr_edge.specs.Device.{Files, contents, counted, CountsCall}
use Rattle.spqr_script.specs.declared.command.Command.{Command}
use Rattle.spqr_run.specs.Words.{Names, names_of}
use Rattle.spqr_session.specs.Machine.{Machine, IsStarted}
use Rattle.spqr_session.specs.Start.{IsStartFault}
use Rattle.spqr_run.specs.Seen.{ShelfSeen}
use Rattle.spqr_run.specs.Reading.{SomeBytes, told_file}
use Rattle.spqr_run.specs.Decision.{Sources, Report, Summary, AreContents, SayDocument, SayCommands, AcceptsGraph, IsGraphReason, IsScriptReason, HasLine}
use Rattle.spqr_run.specs.Ending.{graph_status, script_status, CountsFor, IsDecided}
use Rattle.spqr_run.specs.declared.refusal.Refusal.TheVariants.{Usage, OfGraph, OfScript}
use Rattle.spqr_run.specs.declared.refusal.GraphRefusal.{GraphRefusal}
use Rattle.spqr_run.specs.declared.refusal.ScriptRefusal.{ScriptRefusal}
use Rattle.spqr_session.proofs.StartFaults.{start-no_fault}
use Rattle.spqr_run.proofs.Files.{some_any}
use Rattle.spqr_run.proofs.Forms.{none-named, making-named}

-- these are the bytes of the files of these names
abbrev AreNamed : Files → Sources → Option Names → Type 0
AreNamed files sources named = IfSome named (λ names. (sources.graph ≡ contents files names.graph) × (sources.script ≡ contents files names.script))

-- words may name no files
no-contents : (words : List (List ℕ)) (told : Option Files) (sources : Sources) → names_of words ≡ None → AreContents words told sources
no-contents words None sources e = tt
no-contents words (Some files) sources e = subst (λ (o : Option Names). AreNamed files sources o) (sym e) tt

-- the bytes are those of the two files
both-contents : (words : List (List ℕ)) (told : Option Files) (names : Names) (graph script : List ℕ) → Some names ≡ names_of words → IfSome (told_file told names.graph) (λ file. graph ≡ file)
    → IfSome (told_file told names.script) (λ file. script ≡ file) → AreContents words told (record { graph = graph; script = script })
both-contents words None names graph script e p q = tt
both-contents words (Some files) names graph script e p q = subst (λ (o : Option Names). AreNamed files (record { graph = graph; script = script }) o) e (p, q)

is-named : (words : List (List ℕ)) (names : Names) → Some names ≡ names_of words → IsSome (names_of words)
is-named words names e = subst (λ (o : Option Names). IsSome o) e refl

-- no file was opened; two were
opened-none : (o : Option ℕ) → IfSome o (λ n. o ≡ Some n)
opened-none None = tt
opened-none (Some n) = refl

opened-two : (before mid now : Option ℕ) → CountsCall before mid → CountsCall mid now → IfSome before (λ n. now ≡ Some (counted (counted n)))
opened-two None mid now p q = tt
opened-two (Some n) mid now p q = subst (λ (o : Option ℕ). IfSome o (λ k. now ≡ Some (counted k))) p q

module _ (words : List (List ℕ)) (before after : ShelfSeen) where
  -- the words are no form
  pub decided-usage : form_of words ≡ None → after.opens ≡ before.opens → after.faults ≡ before.faults → IsDecided words before after (Err Usage)
  decided-usage e opens faults = record {
    sources = record { graph = []; script = [] };
    contents = no-contents words before.files (record { graph = []; script = [] }) (none-named words e);
    due = e;
    line = tt;
    opens = subst (λ (o : Option ℕ). IfSome before.opens (λ n. o ≡ Some n)) (sym opens) (opened-none before.opens);
    reads = faults;
  }

  -- a summary is asked for
  pub decided-summary : (n seed : ℕ) → form_of words ≡ Some (Make n seed) → after.opens ≡ before.opens → after.faults ≡ before.faults → IsDecided words before after (Ok (Summary n seed))
  decided-summary n seed e opens faults = record {
    sources = record { graph = []; script = [] };
    contents = no-contents words before.files (record { graph = []; script = [] }) (making-named words n seed e);
    due = e;
    line = tt;
    opens = subst (λ (o : Option ℕ). IfSome before.opens (λ k. o ≡ Some k)) (sym opens) (opened-none before.opens);
    reads = faults;
  }

  -- the graph file is refused
  pub decided-graph : (names : Names) (r : GraphRefusal) → Some names ≡ names_of words → SomeBytes (told_file before.files names.graph) (λ bytes. IsGraphReason bytes r) → HasLine r
      → CountsCall before.opens after.opens → CountsFor (graph_status r) before.faults after.faults → IsDecided words before after (Err (OfGraph r))
  decided-graph names r e s line opens faults =
      let script : SomeBytes (told_file before.files names.script) (λ bytes. ⊤) = some_any (told_file before.files names.script) (λ bytes. ⊤) (λ bytes. tt) in
      record {
        sources = record { graph = s.bytes; script = script.bytes };
        contents = both-contents words before.files names s.bytes script.bytes e s.are_told script.are_told;
        due = (is-named words names e, s.is_such);
        line = line;
        opens = opens;
        reads = faults;
      }

  module _ (mid : ShelfSeen) (names : Names) (m : Machine) (form : Some names ≡ names_of words) (s : SomeBytes (told_file before.files names.graph) (λ bytes. SayDocument bytes m.setting.document)) (is : IsStarted m)
      (files : mid.files ≡ before.files) (first : CountsCall before.opens mid.opens) (second : CountsCall mid.opens after.opens) (faults : mid.faults ≡ before.faults) where
    -- a session that started has a start without a fault
    starts : (b v e f : ℕ) → ¬ IsStartFault m.setting.named b v e f
    starts b v e f = start-no_fault m.setting m.state b v e f is.setting is.start

    -- both files are accepted
    pub decided-work : (commands : List Command) → SomeBytes (told_file mid.files names.script) (λ bytes. SayCommands bytes commands) → after.faults ≡ mid.faults
        → IsDecided words before after (Ok (Report (record { setting = m.setting; commands = commands })))
    decided-work commands t more =
        let told : IfSome (told_file before.files names.script) (λ file. t.bytes ≡ file) = subst (λ (o : Option Files). IfSome (told_file o names.script) (λ file. t.bytes ≡ file)) files t.are_told in
        record {
          sources = record { graph = s.bytes; script = t.bytes };
          contents = both-contents words before.files names s.bytes t.bytes form s.are_told told;
          due = (is-named words names form, record { graph = s.is_such; setting = is.setting; starts = starts; script = t.is_such });
          line = tt;
          opens = opened-two before.opens mid.opens after.opens first second;
          reads = more ∙ faults;
        }

    -- the script file is refused
    pub decided-script : (r : ScriptRefusal) → SomeBytes (told_file mid.files names.script) (λ bytes. IsScriptReason bytes r) → CountsFor (script_status r) mid.faults after.faults
        → IsDecided words before after (Err (OfScript r))
    decided-script r t more =
        let told : IfSome (told_file before.files names.script) (λ file. t.bytes ≡ file) = subst (λ (o : Option Files). IfSome (told_file o names.script) (λ file. t.bytes ≡ file)) files t.are_told in
        let accepted : AcceptsGraph s.bytes = record { document = m.setting.document; named = m.setting.named; says = s.is_such; graph = is.setting.graph; starts = starts } in
        record {
          sources = record { graph = s.bytes; script = t.bytes };
          contents = both-contents words before.files names s.bytes t.bytes form s.are_told told;
          due = (is-named words names form, accepted, t.is_such);
          line = tt;
          opens = opened-two before.opens mid.opens after.opens first second;
          reads = subst (λ (n : ℕ). CountsFor (script_status r) n after.faults) faults more;
        }
