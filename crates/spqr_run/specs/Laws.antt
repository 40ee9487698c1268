-- What the definitions of a run say of one another.
use Rattle.std.specs.Prelude.{◌≡◌, ◌≢◌, ◌↔◌, ℕ, List, take, drop, Option, None, Some, Ok, Err, IsSome, ⊤}
use Rattle.made_graph.specs.Made.{made}
use Rattle.made_graph.specs.Laws.{IsPlanarBlock}
use Rattle.command_words.specs.Form.{Make, form_of}
use Rattle.spqr_script.specs.declared.command.Command.{Command}
use Rattle.spqr_session.specs.Certificates.{certificate_at}
use Rattle.spqr_session.specs.Setting.{Setting, IsSetting}
use Rattle.spqr_session.specs.Open.{AllAnswered, AgreeOnTexts}
use Rattle.spqr_run.specs.Words.{names_of}
use Rattle.spqr_run.specs.Decision.{Sources, Work, Report, Summary, Decision, AcceptsGraph, AcceptsScript, IsDue}
use Rattle.spqr_run.specs.Ending.{IsTextOf, status_of}
use Rattle.spqr_run.specs.Writing.{AppendsReportFront}
use Rattle.spqr_run.specs.declared.refusal.Refusal.{Refusal}
use Rattle.spqr_run.specs.declared.status.Status.TheVariants.{ReadFault}

-- texts of two decisions agree on what the definitions leave open: the certificates of blocks that are not planar, and the texts of
-- commands that may have several
abbrev pub AgreeOnOpen : (a b : Decision) (s t : List ℕ) → IsTextOf a s → IsTextOf b t → Type 0
AgreeOnOpen (Ok (Report a)) (Ok (Report b)) s t p q = (a.setting.certificates ≡ b.setting.certificates) × AgreeOnTexts a.commands p.texts q.texts
AgreeOnOpen a b s t p q = ⊤

-- decisions that are correct for the same words and bytes have one status, a read that failed aside
abbrev pub OneStatus : Type 0
OneStatus =
    (words : List (List ℕ)) (sources : Sources) (a b : Decision) → IsDue words sources a → IsDue words sources b
    → status_of a ≢ ReadFault → status_of b ≢ ReadFault → status_of a ≡ status_of b

-- and one text, where they agree on what is left open
abbrev pub OneText : Type 0
OneText =
    (words : List (List ℕ)) (sources : Sources) (a b : Decision) (s t : List ℕ) → IsDue words sources a → IsDue words sources b
    → status_of a ≢ ReadFault → status_of b ≢ ReadFault → (p : IsTextOf a s) (q : IsTextOf b t) → AgreeOnOpen a b s t p q → s ≡ t

-- works are the same but for the certificates, and the same blocks have one
pub record AreAlike (a b : Work) : Type 0 where
  pub document : a.setting.document ≡ b.setting.document
  pub named : a.setting.named ≡ b.setting.named
  pub structure : a.setting.structure ≡ b.setting.structure
  pub trees : a.setting.trees ≡ b.setting.trees
  pub planar : (k : ℕ) → (certificate_at a.setting.certificates k ≡ None) ↔ (certificate_at b.setting.certificates k ≡ None)
  pub commands : a.commands ≡ b.commands

-- works that are correct for the same words and bytes are so, their trees included
abbrev pub OneWork : Type 0
OneWork =
    (words : List (List ℕ)) (sources : Sources) (a b : Work) → IsDue words sources (Ok (Report a)) → IsDue words sources (Ok (Report b)) → AreAlike a b

-- where the words name two files and both are accepted, no refusal is correct, a read that failed aside
abbrev pub NoRefusal : Type 0
NoRefusal =
    (words : List (List ℕ)) (sources : Sources) (refusal : Refusal) → IsSome (names_of words) → AcceptsGraph sources.graph
    → AcceptsScript sources.script → IsDue words sources (Err refusal) → status_of (Err refusal) ≢ ReadFault → ⊥

-- a prefix of the report on the first commands is one of the report on all, where each of the others has an answer
abbrev pub FrontOfWhole : Type 0
FrontOfWhole =
    (setting : Setting) (commands : List Command) (count : ℕ) (before now : Option (List ℕ)) → IsSetting setting → AllAnswered (drop count commands)
    → AppendsReportFront setting (take count commands) before now → AppendsReportFront setting commands before now

-- for words that ask for a graph from a number its summary is the only correct decision
abbrev pub OneSummary : Type 0
OneSummary =
    (words : List (List ℕ)) (sources : Sources) (decision : Decision) (n seed : ℕ) → form_of words ≡ Some (Make n seed)
    → IsDue words sources decision → decision ≡ Ok (Summary n seed)

-- and that graph is one block with a plane rotation system
abbrev pub AskedIsPlanarBlock : Type 0
AskedIsPlanarBlock = (words : List (List ℕ)) (n seed : ℕ) → form_of words ≡ Some (Make n seed) → IsPlanarBlock (made n seed)
