-- What words ask for: a report on two files, or the summary of a graph that is made from a number.
use Rattle.std.proofs.Common.{◌≡◌, ℕ, ◌≤◌, Bool, true, false, List, Option, None, Some, IsSome, Ok, Err, option_and_then, option_map, refl, sym, ap, ◌∙◌, subst}
use Rattle.std.proofs.lemmas.Bool.{true≢false}
use Rattle.made_graph.proofs.Growth.{made-planar}
use Rattle.command_words.specs.Form.{Asked, Run, Make, asked, form_of}
use Rattle.command_words.specs.declared.forms.Form.{Form}
use Rattle.command_words.proofs.Ranges.{make-range}
use Rattle.spqr_run.specs.Words.{Names, names_in, names_of}
use Rattle.spqr_run.specs.Decision.{Sources, Task, Report, Summary, IsDue}
use Rattle.spqr_run.specs.Laws.{OneSummary, AskedIsPlanarBlock}
use Rattle.spqr_run.specs.declared.refusal.Refusal.{Refusal}
use Rattle.spqr_run.specs.declared.refusal.Refusal.TheVariants.{Usage as NoForm, OfGraph, OfScript}

-- what was found in the words is what they ask for
pub found-none : (words : List (List ℕ)) (found : Option Form) → option_map asked found ≡ form_of words → found ≡ None → form_of words ≡ None
found-none words found h e = sym h ∙ ap (λ (o : Option Form). option_map asked o) e

pub found-some : (words : List (List ℕ)) (found : Option Form) (form is : Form) → option_map asked found ≡ form_of words → found ≡ Some form → form ≡ is → form_of words ≡ Some (asked is)
found-some words found form is h e f = sym h ∙ ap (λ (o : Option Form). option_map asked o) e ∙ ap (λ (x : Form). Some (asked x)) f

-- what is asked for by its names is asked for
named-asked : (o : Option Asked) → IsSome (option_and_then names_in o) → IsSome o
named-asked None h = h
named-asked (Some x) h = refl

-- words that name files are a form
pub named-form : (words : List (List ℕ)) → IsSome (names_of words) → IsSome (form_of words)
named-form words h = named-asked (form_of words) h

-- words that are no form name no files
pub none-named : (words : List (List ℕ)) → form_of words ≡ None → names_of words ≡ None
none-named words e = ap (λ (o : Option Asked). option_and_then names_in o) e

-- nor do words that ask for a graph from a number
pub making-named : (words : List (List ℕ)) (n seed : ℕ) → form_of words ≡ Some (Make n seed) → names_of words ≡ None
making-named words n seed e = ap (λ (o : Option Asked). option_and_then names_in o) e

-- words that ask for a report name their files
pub run-named : (words : List (List ℕ)) (graph script : List ℕ) → form_of words ≡ Some (Run graph script) → Some (record { graph = graph; script = script }) ≡ names_of words
run-named words graph script e = ap (λ (o : Option Asked). option_and_then names_in o) (sym e)

-- words name files or none
some-and-none : (o : Option Names) → IsSome o → o ≡ None → ⊥
some-and-none o h e = true≢false (sym (subst (λ (x : Option Names). IsSome x) e h))

-- words that name files are a form
pub named-not_none : (words : List (List ℕ)) → IsSome (names_of words) → form_of words ≡ None → ⊥
named-not_none words h e = some-and-none (names_of words) h (none-named words e)

-- and ask for no graph from a number
named-not_making : (words : List (List ℕ)) (n seed : ℕ) → IsSome (names_of words) → form_of words ≡ Some (Make n seed) → ⊥
named-not_making words n seed h e = some-and-none (names_of words) h (making-named words n seed e)

-- words that ask for something are a form
asked-not_none : (x : Asked) → Some x ≡ None → ⊥
asked-not_none x e = true≢false (ap is_asked e)
  where
    is_asked : Option Asked → Bool
    is_asked None = false
    is_asked (Some y) = true

-- words that name files are a form, and so are those for which a task is due
pub task-form : (words : List (List ℕ)) (sources : Sources) (task : Task) → IsDue words sources (Ok task) → IsSome (form_of words)
task-form words sources (Report work) d = named-form words d.0
task-form words sources (Summary n seed) d = subst (λ (o : Option Asked). IsSome o) (sym d) refl

-- the summary that is asked for (elsewhere that of no edges)
abbrev summary_asked : Option Asked → Task
summary_asked None = Summary 0 0
summary_asked (Some (Run graph script)) = Summary 0 0
summary_asked (Some (Make n seed)) = Summary n seed

-- where a graph from a number is asked for, a task that is due is its summary
pub making-task : (words : List (List ℕ)) (sources : Sources) (task : Task) (n seed : ℕ) → form_of words ≡ Some (Make n seed) → IsDue words sources (Ok task) → task ≡ Summary n seed
making-task words sources (Report work) n seed e d = absurd (named-not_making words n seed d.0 e)
making-task words sources (Summary m other) n seed e d = ap summary_asked (sym d ∙ e)

-- a refusal is not due where a graph from a number is asked for
pub making-not_refused : (words : List (List ℕ)) (sources : Sources) (refusal : Refusal) (n seed : ℕ) → form_of words ≡ Some (Make n seed) → IsDue words sources (Err refusal) → ⊥
making-not_refused words sources NoForm n seed e d = asked-not_none (Make n seed) (sym e ∙ d)
making-not_refused words sources (OfGraph r) n seed e d = named-not_making words n seed d.0 e
making-not_refused words sources (OfScript r) n seed e d = named-not_making words n seed d.0 e

-- the summary is the only decision that is due
pub only-summary : OneSummary
only-summary words sources (Ok task) n seed e d = ap (λ (t : Task). Ok t) (making-task words sources task n seed e d)
only-summary words sources (Err refusal) n seed e d = absurd (making-not_refused words sources refusal n seed e d)

-- the graph is one block with a plane rotation system
pub asked-planar : AskedIsPlanarBlock
asked-planar words n seed e = let r : (6 ≤ n) × (n ≤ 20000) = make-range words n seed e in made-planar n seed r.0
