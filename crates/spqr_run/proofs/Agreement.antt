-- Decisions that are due for the same words and bytes are alike, a read that failed aside: so they have one status, and one text but
-- for the certificates and the texts that commands leave open.
use Rattle.std.proofs.Common.{◌≡◌, ◌≢◌, ℕ, List, length, Option, None, Some, Ok, Err, IsSome, inl, inr, refl, sym, ap, ◌∙◌, subst, arith}
use Rattle.std.specs.Bool.{⊤}
use Rattle.std.proofs.lemmas.Bool.{cases_lt}
use Rattle.std.proofs.lemmas.List.{get_or_past}
use Rattle.multigraph.specs.Graph.{Multigraph}
use Rattle.kuratowski.specs.declared.subdivision.Subdivision.{Subdivision}
use Rattle.blocks.specs.Blocks.{BlockStructure, IsBlockStructure}
use Rattle.blocks.proofs.OneStructure.{one-structure}
use Rattle.gml_text.specs.Document.{Document}
use Rattle.gml_graph.specs.Named.{NamedGraph}
use Rattle.gml_graph.specs.Answer.{graph_of_document}
use Rattle.gml_graph.specs.declared.fault.GraphFault.{GraphFault}
use Rattle.gml_text.specs.Grammar.{Spells}
use Rattle.gml_text.specs.declared.document.GmlFault.{GmlFault}
use Rattle.gml_text.proofs.Fronts.{fault_one}
use Rattle.gml_text.specs.declared.document.GmlFault.TheVariants.{Bad, End, Memory as GmlMemory}
use Rattle.spqr_script.specs.declared.command.Command.{Command}
use Rattle.spqr_script.proofs.Scripts.{apart, one_reading, one_bad_line}
use Rattle.spqr_session.specs.Trees.{BlockTree, tree_at, AreBlockTrees}
use Rattle.spqr_session.specs.Report.{IsReport}
use Rattle.spqr_session.specs.Open.{AgreeOnTexts}
use Rattle.spqr_session.specs.Start.{IsStartFault}
use Rattle.spqr_run.specs.Words.{names_of}
use Rattle.spqr_run.specs.Decision.{Sources, Work, Decision, SayDocument, SayCommands, AcceptsGraph, AcceptsScript, IsGmlReason, IsGraphReason, IsScriptReason, IsWork, Task, Report, Summary, IsDue}
use Rattle.spqr_run.specs.Ending.{graph_status, script_status, refusal_status, refusal_text, status_of, IsTextOf}
use Rattle.spqr_session.specs.Certificates.{certificate_at, IsCertificate, AreCertificates}
use Rattle.spqr_session.specs.Setting.{IsSetting}
use Rattle.spqr_run.specs.Laws.{AgreeOnOpen, AreAlike}
use Rattle.spqr_run.specs.declared.reading.FileFault.TheVariants.{Failed, Long}
use Rattle.spqr_run.specs.declared.refusal.Refusal.{Refusal}
use Rattle.spqr_run.specs.declared.refusal.Refusal.TheVariants.{Usage as NoForm, OfGraph, OfScript}
use Rattle.spqr_run.specs.declared.refusal.GraphRefusal.{GraphRefusal}
use Rattle.spqr_run.specs.declared.refusal.GraphRefusal.TheVariants.{File, Gml, Rule, Start}
use Rattle.spqr_run.specs.declared.refusal.ScriptRefusal.{ScriptRefusal}
use Rattle.spqr_run.specs.declared.refusal.ScriptRefusal.TheVariants.{File as Script, Line}
use Rattle.spqr_run.specs.declared.status.Status.TheVariants.{ReadFault}
use Rattle.made_graph.specs.Made.{made}
use Rattle.made_graph.specs.Laws.{IsPlanarBlock}
use Rattle.made_summary.specs.Summary.{IsSummary}
use Rattle.made_summary.proofs.OneSummary.{one-summary}
use Rattle.spqr_run.proofs.Forms.{named-not_none, only-summary, asked-planar}
use Rattle.spqr_session.proofs.Chains.{one-report}
use Rattle.spqr_session.proofs.OneTree.{one-trees}
use Rattle.spqr_session.proofs.StartFaults.{fault-one}

-- bytes spell at most one document
abbrev pub OneDocument : Type 0
OneDocument = (bytes : List ℕ) (d e : Document) → Spells bytes d → Spells bytes e → d ≡ e

-- what is refused spells no document
no_document : (bytes : List ℕ) (d : Document) (fault : GmlFault) → IsGmlReason bytes fault → Spells bytes d → ⊥
no_document bytes d (Bad at) p q = p.0 d q
no_document bytes d (End at) p q = p.0 d q
no_document bytes d GmlMemory p q = p

-- a graph file is not accepted and refused
graph_apart : OneDocument → (bytes : List ℕ) (d : Document) (named : NamedGraph) (r : GraphRefusal) → SayDocument bytes d → graph_of_document d ≡ Ok named → ((b v e f : ℕ) → ¬ IsStartFault named b v e f)
    → IsGraphReason bytes r → graph_status r ≢ ReadFault → ⊥
graph_apart one bytes d named (File Failed) s g h p n = n refl
graph_apart one bytes d named (File Long) s g h p n = absurd (omega (arith, s.within, p))
graph_apart one bytes d named (Gml fault) s g h p n = no_document bytes d fault p.1 s.spelled
graph_apart one bytes d named (Rule fault) s g h p n =
    let e : d ≡ p.1.0 = one bytes d p.1.0 s.spelled p.1.1 in
    let both : Ok named ≡ Err fault = sym g ∙ ap graph_of_document e ∙ p.1.2 in cc
graph_apart one bytes d named (Start b v e f) s g h p n =
    let same : d ≡ p.1.0 = one bytes d p.1.0 s.spelled p.1.2 in
    let both : Ok p.1.1 ≡ Ok named = sym p.1.3 ∙ (ap graph_of_document (sym same) ∙ g) in
    let graph : p.1.1 ≡ named = cc in
    h b v e f (subst (λ (x : NamedGraph). IsStartFault x b v e f) graph p.1.4)

-- bytes are refused for one fault in GML
gml_same : (bytes : List ℕ) (a b : GmlFault) → IsGmlReason bytes a → IsGmlReason bytes b → a ≡ b
gml_same bytes (Bad m) (Bad n) p q = fault_one bytes (Bad m) (Bad n) p q (λ e. (let both : Bad m ≡ GmlMemory = e in cc)) (λ e. (let both : Bad n ≡ GmlMemory = e in cc))
gml_same bytes (Bad m) (End n) p q = fault_one bytes (Bad m) (End n) p q (λ e. (let both : Bad m ≡ GmlMemory = e in cc)) (λ e. (let both : End n ≡ GmlMemory = e in cc))
gml_same bytes (End m) (Bad n) p q = fault_one bytes (End m) (Bad n) p q (λ e. (let both : End m ≡ GmlMemory = e in cc)) (λ e. (let both : Bad n ≡ GmlMemory = e in cc))
gml_same bytes (End m) (End n) p q = fault_one bytes (End m) (End n) p q (λ e. (let both : End m ≡ GmlMemory = e in cc)) (λ e. (let both : End n ≡ GmlMemory = e in cc))
gml_same bytes (Bad m) GmlMemory p q = absurd q
gml_same bytes (End m) GmlMemory p q = absurd q
gml_same bytes GmlMemory b p q = absurd p

-- a graph has no start that is refused, and one refusal of it
rule_no_start : OneDocument → (bytes : List ℕ) (fault : GraphFault) (b v e f : ℕ) → IsGraphReason bytes (Rule fault) → IsGraphReason bytes (Start b v e f) → ⊥
rule_no_start one bytes fault b v e f p q =
    let same : p.1.0 ≡ q.1.0 = one bytes p.1.0 q.1.0 p.1.1 q.1.2 in
    let both : Err fault ≡ Ok q.1.1 = sym p.1.2 ∙ (ap graph_of_document same ∙ q.1.3) in cc

-- refusals of a graph file are the same
graph_same : OneDocument → (bytes : List ℕ) (r q : GraphRefusal) → IsGraphReason bytes r → IsGraphReason bytes q → graph_status r ≢ ReadFault → graph_status q ≢ ReadFault → r ≡ q
graph_same one bytes (File Failed) q p o n m = absurd (n refl)
graph_same one bytes r (File Failed) p o n m = absurd (m refl)
graph_same one bytes (File Long) (File Long) p o n m = refl
graph_same one bytes (File Long) (Gml fault) p o n m = absurd (omega (arith, p, o.0))
graph_same one bytes (File Long) (Rule fault) p o n m = absurd (omega (arith, p, o.0))
graph_same one bytes (File Long) (Start b v e f) p o n m = absurd (omega (arith, p, o.0))
graph_same one bytes (Gml fault) (File Long) p o n m = absurd (omega (arith, o, p.0))
graph_same one bytes (Gml fault) (Gml other) p o n m = ap (λ (f : GmlFault). Gml f) (gml_same bytes fault other p.1 o.1)
graph_same one bytes (Gml fault) (Rule other) p o n m = absurd (no_document bytes o.1.0 fault p.1 o.1.1)
graph_same one bytes (Gml fault) (Start b v e f) p o n m = absurd (no_document bytes o.1.0 fault p.1 o.1.2)
graph_same one bytes (Rule fault) (File Long) p o n m = absurd (omega (arith, o, p.0))
graph_same one bytes (Rule fault) (Gml other) p o n m = absurd (no_document bytes p.1.0 other o.1 p.1.1)
graph_same one bytes (Rule fault) (Rule other) p o n m =
    let e : p.1.0 ≡ o.1.0 = one bytes p.1.0 o.1.0 p.1.1 o.1.1 in
    let both : Err fault ≡ Err other = sym p.1.2 ∙ ap graph_of_document e ∙ o.1.2 in
    let same : fault ≡ other = cc in ap (λ (f : GraphFault). Rule f) same
graph_same one bytes (Rule fault) (Start b v e f) p o n m = absurd (rule_no_start one bytes fault b v e f p o)
graph_same one bytes (Start b v e f) (File Long) p o n m = absurd (omega (arith, o, p.0))
graph_same one bytes (Start b v e f) (Gml other) p o n m = absurd (no_document bytes p.1.0 other o.1 p.1.2)
graph_same one bytes (Start b v e f) (Rule other) p o n m = absurd (rule_no_start one bytes other b v e f o p)
graph_same one bytes (Start b v e f) (Start c x y z) p o n m =
    let same : p.1.0 ≡ o.1.0 = one bytes p.1.0 o.1.0 p.1.2 o.1.2 in
    let both : Ok p.1.1 ≡ Ok o.1.1 = sym p.1.3 ∙ (ap graph_of_document same ∙ o.1.3) in
    let graph : p.1.1 ≡ o.1.1 = cc in
    let all = fault-one o.1.1 b v e f c x y z (subst (λ (g : NamedGraph). IsStartFault g b v e f) graph p.1.4) o.1.4 in
    λ i. Start (all.0 i) (all.1 i) (all.2 i) (all.3 i)

-- a script file is not accepted and refused
script_apart : (bytes : List ℕ) (commands : List Command) (r : ScriptRefusal) → SayCommands bytes commands → IsScriptReason bytes r → script_status r ≢ ReadFault → ⊥
script_apart bytes commands (Script Failed) s p n = n refl
script_apart bytes commands (Script Long) s p n = absurd (omega (arith, s.within, p))
script_apart bytes commands (Line line) s p n = apart bytes commands line s.spelled p.1

-- refusals of a script file are the same
script_same : (bytes : List ℕ) (r q : ScriptRefusal) → IsScriptReason bytes r → IsScriptReason bytes q → script_status r ≢ ReadFault → script_status q ≢ ReadFault → r ≡ q
script_same bytes (Script Failed) q p o n m = absurd (n refl)
script_same bytes r (Script Failed) p o n m = absurd (m refl)
script_same bytes (Script Long) (Script Long) p o n m = refl
script_same bytes (Script Long) (Line line) p o n m = absurd (omega (arith, p, o.0))
script_same bytes (Line line) (Script Long) p o n m = absurd (omega (arith, o, p.0))
script_same bytes (Line line) (Line other) p o n m = ap (λ (l : ℕ). Line l) (one_bad_line bytes line other p.1 o.1)

-- a graph has no certificate where it has none in another work
certificates_alike : (g : Multigraph) (o u : Option Subdivision) → IsCertificate g o → IsCertificate g u → o ≡ None → u ≡ None
certificates_alike g o None p q e = refl
certificates_alike g None (Some s) p q e = absurd (q.1 p.0 p.1)
certificates_alike g (Some t) (Some s) p q e = absurd (let both : Some t ≡ None = e in cc)

planar_alike : (trees : List BlockTree) (a b : List (Option Subdivision)) → AreCertificates trees a → AreCertificates trees b → (k : ℕ) → certificate_at a k ≡ None → certificate_at b k ≡ None
planar_alike trees a b p q k e = elim (cases_lt k (length trees)) [
  | inl l ↦ certificates_alike (tree_at trees k).part.graph (certificate_at a k) (certificate_at b k) (p.each k l) (q.each k l) e
  | inr n ↦ get_or_past b k None (omega (arith, n, q.one_each))
]

-- works are the same but for their certificates
same_work : OneDocument → (sources : Sources) (a b : Work) → IsWork sources a → IsWork sources b → AreAlike a b
same_work one sources a b p q =
    let document : a.setting.document ≡ b.setting.document = one sources.graph a.setting.document b.setting.document p.graph.spelled q.graph.spelled in
    let both : Ok a.setting.named ≡ Ok b.setting.named = sym p.setting.graph ∙ (ap graph_of_document document ∙ q.setting.graph) in
    let named : a.setting.named ≡ b.setting.named = cc in
    let structure : a.setting.structure ≡ b.setting.structure =
    one-structure b.setting.named.graph a.setting.structure b.setting.structure (subst (λ (x : NamedGraph). IsBlockStructure x.graph a.setting.structure) named p.setting.structure) q.setting.structure in
    let trees : a.setting.trees ≡ b.setting.trees = one-trees b.setting.named.graph b.setting.structure.blocks a.setting.trees b.setting.trees q.setting.structure.blocks
    (subst (λ (x : BlockStructure). AreBlockTrees b.setting.named.graph x.blocks a.setting.trees) structure (subst (λ (x : NamedGraph). AreBlockTrees x.graph a.setting.structure.blocks a.setting.trees) named p.setting.trees)) q.setting.trees in
    let certificates : AreCertificates b.setting.trees a.setting.certificates = subst (λ (ts : List BlockTree). AreCertificates ts a.setting.certificates) trees p.setting.certificates in
    record {
      document = document;
      named = named;
      structure = structure;
      trees = trees;
      planar = λ k. (
        planar_alike b.setting.trees a.setting.certificates b.setting.certificates certificates q.setting.certificates k,
        planar_alike b.setting.trees b.setting.certificates a.setting.certificates q.setting.certificates certificates k,
      );
      commands = one_reading sources.script a.commands b.commands p.script.spelled q.script.spelled;
    }

-- with the same certificates they are the same
work_same : (a b : Work) → AreAlike a b → a.setting.certificates ≡ b.setting.certificates → a ≡ b
work_same a b e c = λ i. record { setting = record { document = e.document i; named = e.named i; structure = e.structure i; trees = e.trees i; certificates = c i }; commands = e.commands i }

-- tasks are alike: summaries are the same
abbrev AlikeTasks : Task → Task → Type 0
AlikeTasks (Report a) (Report b) = AreAlike a b
AlikeTasks (Report a) (Summary n seed) = ⊥
AlikeTasks (Summary n seed) (Report b) = ⊥
AlikeTasks (Summary n seed) (Summary m other) = (n ≡ m) × (seed ≡ other)

-- decisions are alike
abbrev Alike : Decision → Decision → Type 0
Alike (Ok a) (Ok b) = AlikeTasks a b
Alike (Ok a) (Err r) = ⊥
Alike (Err r) (Ok b) = ⊥
Alike (Err NoForm) (Err NoForm) = ⊤
Alike (Err NoForm) (Err (OfGraph q)) = ⊥
Alike (Err NoForm) (Err (OfScript q)) = ⊥
Alike (Err (OfGraph r)) (Err NoForm) = ⊥
Alike (Err (OfGraph r)) (Err (OfGraph q)) = r ≡ q
Alike (Err (OfGraph r)) (Err (OfScript q)) = ⊥
Alike (Err (OfScript r)) (Err NoForm) = ⊥
Alike (Err (OfScript r)) (Err (OfGraph q)) = ⊥
Alike (Err (OfScript r)) (Err (OfScript q)) = r ≡ q

-- what is due is alike
due_alike : OneDocument → (words : List (List ℕ)) (sources : Sources) (a b : Decision) → IsDue words sources a → IsDue words sources b → status_of a ≢ ReadFault → status_of b ≢ ReadFault → Alike a b
due_alike one words sources (Ok (Summary k seed)) b p q n m = subst (λ (d : Decision). Alike (Ok (Summary k seed)) d) (sym (only-summary words sources b k seed p q)) (refl, refl)
due_alike one words sources a (Ok (Summary k seed)) p q n m = subst (λ (d : Decision). Alike d (Ok (Summary k seed))) (sym (only-summary words sources a k seed q p)) (refl, refl)
due_alike one words sources (Ok (Report a)) (Ok (Report b)) p q n m = same_work one sources a b p.1 q.1
due_alike one words sources (Ok (Report a)) (Err NoForm) p q n m = named-not_none words p.0 q
due_alike one words sources (Ok (Report a)) (Err (OfGraph r)) p q n m = graph_apart one sources.graph a.setting.document a.setting.named r p.1.graph p.1.setting.graph p.1.starts q.1 m
due_alike one words sources (Ok (Report a)) (Err (OfScript r)) p q n m = script_apart sources.script a.commands r p.1.script q.2 m
due_alike one words sources (Err NoForm) (Ok (Report b)) p q n m = named-not_none words q.0 p
due_alike one words sources (Err NoForm) (Err NoForm) p q n m = tt
due_alike one words sources (Err NoForm) (Err (OfGraph r)) p q n m = named-not_none words q.0 p
due_alike one words sources (Err NoForm) (Err (OfScript r)) p q n m = named-not_none words q.0 p
due_alike one words sources (Err (OfGraph r)) (Ok (Report b)) p q n m = graph_apart one sources.graph b.setting.document b.setting.named r q.1.graph q.1.setting.graph q.1.starts p.1 n
due_alike one words sources (Err (OfGraph r)) (Err NoForm) p q n m = named-not_none words p.0 q
due_alike one words sources (Err (OfGraph r)) (Err (OfGraph s)) p q n m = graph_same one sources.graph r s p.1 q.1 n m
due_alike one words sources (Err (OfGraph r)) (Err (OfScript s)) p q n m = graph_apart one sources.graph q.1.document q.1.named r q.1.says q.1.graph q.1.starts p.1 n
due_alike one words sources (Err (OfScript r)) (Ok (Report b)) p q n m = script_apart sources.script b.commands r q.1.script p.2 n
due_alike one words sources (Err (OfScript r)) (Err NoForm) p q n m = named-not_none words p.0 q
due_alike one words sources (Err (OfScript r)) (Err (OfGraph s)) p q n m = graph_apart one sources.graph p.1.document p.1.named s p.1.says p.1.graph p.1.starts q.1 m
due_alike one words sources (Err (OfScript r)) (Err (OfScript s)) p q n m = script_same sources.script r s p.2 q.2 n m

-- ---- one status

status_alike : (a b : Decision) → Alike a b → status_of a ≡ status_of b
status_alike (Ok a) (Ok b) e = refl
status_alike (Ok a) (Err r) e = absurd e
status_alike (Err r) (Ok b) e = absurd e
status_alike (Err NoForm) (Err NoForm) e = refl
status_alike (Err NoForm) (Err (OfGraph q)) e = absurd e
status_alike (Err NoForm) (Err (OfScript q)) e = absurd e
status_alike (Err (OfGraph r)) (Err NoForm) e = absurd e
status_alike (Err (OfGraph r)) (Err (OfGraph q)) e = ap graph_status e
status_alike (Err (OfGraph r)) (Err (OfScript q)) e = absurd e
status_alike (Err (OfScript r)) (Err NoForm) e = absurd e
status_alike (Err (OfScript r)) (Err (OfGraph q)) e = absurd e
status_alike (Err (OfScript r)) (Err (OfScript q)) e = ap script_status e

pub one_status : OneDocument → (words : List (List ℕ)) (sources : Sources) (a b : Decision) → IsDue words sources a → IsDue words sources b → status_of a ≢ ReadFault → status_of b ≢ ReadFault → status_of a ≡ status_of b
one_status one words sources a b p q n m = status_alike a b (due_alike one words sources a b p q n m)

-- ---- one text

-- a work has one report
report_alike : (a b : Work) (s t : List ℕ) → IsSetting b.setting → a ≡ b → (p : IsReport a.setting a.commands s) (q : IsReport b.setting b.commands t) → AgreeOnTexts a.commands p.texts q.texts → s ≡ t
report_alike a b s t is w p q o =
    (subst (λ (x : Work). (r : IsReport x.setting x.commands s) → AgreeOnTexts x.commands r.texts q.texts → s ≡ t) (sym w) (λ r u. one-report b.setting b.commands s t is r q u)) p o

-- a made graph has one summary
summary_alike : (n m seed other : ℕ) (s t : List ℕ) → IsPlanarBlock (made m other) → n ≡ m → seed ≡ other → IsSummary (made n seed) s → IsSummary (made m other) t → s ≡ t
summary_alike n m seed other s t is e f p q = one-summary (made m other) s t is.one_block (subst (λ (k : ℕ × ℕ). IsSummary (made k.0 k.1) s) (λ i. (e i, f i)) p) q

-- the setting of a work that is due is right, and a graph that is asked for is a block
abbrev IsSound : Decision → Type 0
IsSound (Ok (Report work)) = IsSetting work.setting
IsSound (Ok (Summary n seed)) = IsPlanarBlock (made n seed)
IsSound (Err r) = ⊤

due_sound : (words : List (List ℕ)) (sources : Sources) (d : Decision) → IsDue words sources d → IsSound d
due_sound words sources (Ok (Report work)) h = h.1.setting
due_sound words sources (Ok (Summary n seed)) h = asked-planar words n seed h
due_sound words sources (Err r) h = tt

text_alike : (a b : Decision) (s t : List ℕ) → IsSound b → Alike a b → (p : IsTextOf a s) (q : IsTextOf b t) → AgreeOnOpen a b s t p q → s ≡ t
text_alike (Ok (Report a)) (Ok (Report b)) s t is e p q o = report_alike a b s t is (work_same a b e o.0) p q o.1
text_alike (Ok (Report a)) (Ok (Summary n seed)) s t is e p q o = absurd e
text_alike (Ok (Summary n seed)) (Ok (Report b)) s t is e p q o = absurd e
text_alike (Ok (Summary n seed)) (Ok (Summary m other)) s t is e p q o = summary_alike n m seed other s t is e.0 e.1 p q
text_alike (Ok a) (Err r) s t is e p q o = absurd e
text_alike (Err r) (Ok b) s t is e p q o = absurd e
text_alike (Err NoForm) (Err NoForm) s t is e p q o = p ∙ sym q
text_alike (Err NoForm) (Err (OfGraph r)) s t is e p q o = absurd e
text_alike (Err NoForm) (Err (OfScript r)) s t is e p q o = absurd e
text_alike (Err (OfGraph r)) (Err NoForm) s t is e p q o = absurd e
text_alike (Err (OfGraph r)) (Err (OfGraph k)) s t is e p q o = p ∙ ap (λ (x : GraphRefusal). refusal_text (OfGraph x)) e ∙ sym q
text_alike (Err (OfGraph r)) (Err (OfScript k)) s t is e p q o = absurd e
text_alike (Err (OfScript r)) (Err NoForm) s t is e p q o = absurd e
text_alike (Err (OfScript r)) (Err (OfGraph k)) s t is e p q o = absurd e
text_alike (Err (OfScript r)) (Err (OfScript k)) s t is e p q o = p ∙ ap (λ (x : ScriptRefusal). refusal_text (OfScript x)) e ∙ sym q

pub one_text : OneDocument → (words : List (List ℕ)) (sources : Sources) (a b : Decision) (s t : List ℕ) → IsDue words sources a → IsDue words sources b → status_of a ≢ ReadFault → status_of b ≢ ReadFault → (k : IsTextOf a s) (l : IsTextOf b t) → AgreeOnOpen a b s t k l → s ≡ t
one_text one words sources a b s t p q n m k l o = text_alike a b s t (due_sound words sources b q) (due_alike one words sources a b p q n m) k l o

-- ---- works and refusals

pub one_work : OneDocument → (words : List (List ℕ)) (sources : Sources) (a b : Work) → IsDue words sources (Ok (Report a)) → IsDue words sources (Ok (Report b)) → AreAlike a b
one_work one words sources a b p q = same_work one sources a b p.1 q.1

-- where the words and the files are accepted, no refusal is due
pub no_refusal : OneDocument → (words : List (List ℕ)) (sources : Sources) (refusal : Refusal) → IsSome (names_of words) → AcceptsGraph sources.graph → AcceptsScript sources.script → IsDue words sources (Err refusal) → refusal_status refusal ≢ ReadFault → ⊥
no_refusal one words sources NoForm f g s q n = named-not_none words f q
no_refusal one words sources (OfGraph r) f g s q n = graph_apart one sources.graph g.document g.named r g.says g.graph g.starts q.1 n
no_refusal one words sources (OfScript r) f g s q n = script_apart sources.script s.commands r s.says q.2 n
