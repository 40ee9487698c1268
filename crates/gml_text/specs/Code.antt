-- A document as a list of marks from which it is read back: by it a proof distinguishes documents.
use Rattle.std.specs.Prelude.{◌≡◌, ℕ, zero, suc, List, [], ◌∷◌, refl}
use Rattle.std.proofs.Common.{ap, ◌∙◌}
use Rattle.std.specs.Coded.{Coded, code_by, coded×, coded_ℕ, coded_list}
use Rattle.gml_text.specs.Document.{Document, empty, number, string, list}

-- a constructor by its number, with its key and its text
abbrev pub Mark : Type 0
Mark = ℕ × (List ℕ × List ℕ)

-- the marks of a document before others: a constructor's mark, then those of its parts
abbrev pub marks_onto : Document → List Mark → List Mark
marks_onto empty marks = (0, ([], [])) ∷ marks
marks_onto (number key text rest) marks = (1, (key, text)) ∷ marks_onto rest marks
marks_onto (string key text rest) marks = (2, (key, text)) ∷ marks_onto rest marks
marks_onto (list key inner rest) marks = (3, (key, [])) ∷ marks_onto inner (marks_onto rest marks)

-- the top document of a stack
abbrev pub top : List Document → Document
top [] = empty
top (d ∷ ds) = d

-- the stack without its top document
abbrev pub below : List Document → List Document
below [] = []
below (d ∷ ds) = ds

-- what the constructor of a number makes of the stack of documents after it
abbrev pub built : ℕ → List ℕ → List ℕ → List Document → List Document
built zero key text ds = empty ∷ ds
built (suc zero) key text ds = number key text (top ds) ∷ below ds
built (suc (suc zero)) key text ds = string key text (top ds) ∷ below ds
built (suc (suc (suc n))) key text ds = list key (top ds) (top (below ds)) ∷ below (below ds)

-- the documents of a list of marks, which is read from its end
abbrev pub documents_of : List Mark → List Document
documents_of [] = []
documents_of (m ∷ ms) = built m.0 m.1.0 m.1.1 (documents_of ms)

-- marks before others give their document on the stack of the others
pub documents_of-marks_onto : (d : Document) (ms : List Mark) → documents_of (marks_onto d ms) ≡ d ∷ documents_of ms
documents_of-marks_onto empty ms = refl
documents_of-marks_onto (number key text rest) ms = ap (built 1 key text) (documents_of-marks_onto rest ms)
documents_of-marks_onto (string key text rest) ms = ap (built 2 key text) (documents_of-marks_onto rest ms)
documents_of-marks_onto (list key inner rest) ms =
    ap (built 3 key []) (documents_of-marks_onto inner (marks_onto rest ms) ∙ ap (λ ds. inner ∷ ds) (documents_of-marks_onto rest ms))

abbrev pub document_code : Coded Document
document_code =
    code_by (List Mark) (coded_list (coded× coded_ℕ (coded× (coded_list coded_ℕ) (coded_list coded_ℕ)))) (λ d. marks_onto d []) (λ ms. top (documents_of ms)) (λ d. ap top (documents_of-marks_onto d []))
