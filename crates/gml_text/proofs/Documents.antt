-- From a slice of pairs to the document that it is: no pair, a first one, some before others, one more, and those from an
-- index on. `document_of []` is `empty` and `document_of (pair ∷ pairs)` is `pair_before pair.key pair.value (document_of pairs)`
-- by computation; `pair_before` computes on each kind of value.
use Rattle.std.proofs.Common.{◌≡◌, ℕ, ◌+◌, ◌<◌, List, [], ◌∷◌, ◌++◌, length, get_or, take, drop, refl, sym, ap, ◌∙◌}
use Rattle.std.proofs.lemmas.List.{drop_more, take-append-drop}
use Rattle.gml_text.specs.Document.{Document, empty, number, string, list, append}
use Rattle.gml_text.specs.Pairs.{pair_before, document_of}
use Rattle.gml_text.specs.declared.document.Pair.{Pair}
use Rattle.gml_text.specs.declared.document.Value.{Value}
use Rattle.gml_text.specs.declared.document.Value.TheVariants.{Num, Str, List as Inner}

-- no pairs after others
pub append-empty : (d : Document) → append d empty ≡ d
append-empty empty = refl
append-empty (number key text rest) = ap (number key text) (append-empty rest)
append-empty (string key text rest) = ap (string key text) (append-empty rest)
append-empty (list key inner rest) = ap (list key inner) (append-empty rest)

-- three runs of pairs, one after another
pub append-assoc : (d e f : Document) → append (append d e) f ≡ append d (append e f)
append-assoc empty e f = refl
append-assoc (number key text rest) e f = ap (number key text) (append-assoc rest e f)
append-assoc (string key text rest) e f = ap (string key text) (append-assoc rest e f)
append-assoc (list key inner rest) e f = ap (list key inner) (append-assoc rest e f)

-- a first pair stays first
pub append-pair_before : (key : List ℕ) (value : Value) (d e : Document) → append (pair_before key value d) e ≡ pair_before key value (append d e)
append-pair_before key (Num text) d e = refl
append-pair_before key (Str text) d e = refl
append-pair_before key (Inner inner) d e = refl

-- some pairs before others
pub document_of-append : (pairs others : List Pair) → document_of (pairs ++ others) ≡ append (document_of pairs) (document_of others)
document_of-append [] others = refl
document_of-append (pair ∷ pairs) others =
    ap (pair_before pair.key pair.value) (document_of-append pairs others)
    ∙ sym (append-pair_before pair.key pair.value (document_of pairs) (document_of others))

-- one more pair at the end
pub document_of-push : (pairs : List Pair) (pair : Pair) → document_of (pairs ++ (pair ∷ [])) ≡ append (document_of pairs) (pair_before pair.key pair.value empty)
document_of-push pairs pair = document_of-append pairs (pair ∷ [])

-- the pairs below an index, and those from it on
pub document_of-split : (pairs : List Pair) (i : ℕ) → document_of pairs ≡ append (document_of (take i pairs)) (document_of (drop i pairs))
document_of-split pairs i = ap document_of (sym (take-append-drop i pairs)) ∙ document_of-append (take i pairs) (drop i pairs)

-- the pairs from an index on: the pair there, and those after it
pub document_of-drop : (pairs : List Pair) (i : ℕ) (pair : Pair) → i < length pairs → pair ≡ get_or pairs i pair → document_of (drop i pairs) ≡ pair_before pair.key pair.value (document_of (drop (i + 1) pairs))
document_of-drop pairs i pair within is =
    ap document_of (drop_more pairs i pair within)
    ∙ ap (λ (p : Pair). pair_before p.key p.value (document_of (drop (i + 1) pairs))) (sym is)
