-- Where the words and the files are accepted and nothing failed, a run is not refused.
use Rattle.std.proofs.Common.{◌≡◌, ℕ, List, Option, None, Some, Err, IfSome, IsSome, sym, subst, refl, arith}
use Rattle.spqr_edge.specs.Device.{Files, contents}
use Rattle.spqr_run.specs.Words.{Names}
use Rattle.spqr_run.specs.Decision.{Sources, AreContents, AcceptsGraph, AcceptsScript, IsAccepted, IsDue}
use Rattle.spqr_run.specs.Ending.{refusal_status, CountsFor, IsDecided}
use Rattle.spqr_run.specs.Laws.{NoRefusal}
use Rattle.spqr_run.specs.Seen.{Seen}
use Rattle.spqr_run.specs.Run.{NothingFailed, IsDoneOrMemory}
use Rattle.spqr_run.specs.declared.refusal.Refusal.{Refusal}
use Rattle.spqr_run.specs.declared.status.Status.{Status}
use Rattle.spqr_run.specs.declared.status.Status.TheVariants.{ReadFault}

-- files that are accepted are not refused, but for a read that failed
refused-told : NoRefusal → (words : List (List ℕ)) (told : Option Files) (sources : Sources) (refusal : Refusal) (P Q : Type 0) → AreContents words told sources → IsDue words sources (Err refusal)
    → (refusal_status refusal ≡ ReadFault → P → ⊥) → IfSome told (λ files. IsAccepted words files → P → Q)
refused-told none words None sources refusal P Q contents-are due failed = tt
refused-told none words (Some files) sources refusal P Q contents-are due failed = λ accepted p.
    let is : (sources.graph ≡ contents files accepted.names.graph) × (sources.script ≡ contents files accepted.names.script) =
    subst (λ (o : Option Names). IfSome o (λ names. (sources.graph ≡ contents files names.graph) × (sources.script ≡ contents files names.script))) accepted.form contents-are in
    absurd (none words sources refusal (subst (λ (o : Option Names). IsSome o) (sym accepted.form) refl) (subst AcceptsGraph (sym is.0) accepted.graph) (subst AcceptsScript (sym is.1) accepted.script) due (λ e. failed e p))

-- a run that refuses met a read that failed, or the files are not accepted
pub complete_refused : NoRefusal → (words : List (List ℕ)) (before after : Seen) (refusal : Refusal) (status : Status) → IsDecided words before.shelf after.shelf (Err refusal)
    → IfSome before.shelf.files (λ files. IsAccepted words files → NothingFailed before after → IsDoneOrMemory status)
complete_refused none words before after refusal status d =
    refused-told none words before.shelf.files d.sources refusal (NothingFailed before after) (IsDoneOrMemory status) d.contents d.due
    (λ e p. let rose = subst (λ (x : Status). CountsFor x before.shelf.faults after.shelf.faults) e d.reads in absurd (omega (arith, rose.1, p.0)))
