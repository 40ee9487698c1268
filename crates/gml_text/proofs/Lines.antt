-- A pair is no deeper than those that it is among, and has no more pairs in it.
use Rattle.std.proofs.Common.{◌≡◌, ℕ, ◌+◌, ◌≤◌, ◌<◌, max, List, length, get_or, take, drop, ap, arith}
use Rattle.gml_text.specs.Document.{Document, empty, number, string, list, append, depth, pair_count}
use Rattle.gml_text.specs.Pairs.{pair_before, document_of}
use Rattle.gml_text.specs.declared.document.Pair.{Pair}
use Rattle.gml_text.specs.declared.document.Value.{Value}
use Rattle.gml_text.specs.declared.document.Value.TheVariants.{Num, Str, List as Inner}
use Rattle.gml_text.proofs.Documents.{document_of-drop, document_of-split}
use Rattle.gml_text.proofs.Depth.{depth-append}

-- its depth
depth-pair_before : (key : List ℕ) (value : Value) (rest : Document) → depth (pair_before key value rest) ≡ max (depth (pair_before key value empty)) (depth rest)
depth-pair_before key (Num text) rest = omega arith
depth-pair_before key (Str text) rest = omega arith
depth-pair_before key (Inner inner) rest = omega arith

pub depth-pair : (pairs : List Pair) (i : ℕ) (pair : Pair) → i < length pairs → pair ≡ get_or pairs i pair → depth (pair_before pair.key pair.value empty) ≤ depth (document_of pairs)
depth-pair pairs i pair within is =
    omega (
      arith,
      ap depth (document_of-split pairs i),
      depth-append (document_of (take i pairs)) (document_of (drop i pairs)),
      ap depth (document_of-drop pairs i pair within is),
      depth-pair_before pair.key pair.value (document_of (drop (i + 1) pairs)),
    )

-- its pairs
pair_count-append : (d e : Document) → pair_count (append d e) ≡ pair_count d + pair_count e
pair_count-append empty e = omega arith
pair_count-append (number key text rest) e = omega (arith, pair_count-append rest e)
pair_count-append (string key text rest) e = omega (arith, pair_count-append rest e)
pair_count-append (list key inner rest) e = omega (arith, pair_count-append rest e)

pair_count-pair_before : (key : List ℕ) (value : Value) (rest : Document) → pair_count (pair_before key value rest) ≡ pair_count (pair_before key value empty) + pair_count rest
pair_count-pair_before key (Num text) rest = omega arith
pair_count-pair_before key (Str text) rest = omega arith
pair_count-pair_before key (Inner inner) rest = omega arith

pub pair_count-pair : (pairs : List Pair) (i : ℕ) (pair : Pair) → i < length pairs → pair ≡ get_or pairs i pair → pair_count (pair_before pair.key pair.value empty) ≤ pair_count (document_of pairs)
pair_count-pair pairs i pair within is =
    omega (
      arith,
      ap pair_count (document_of-split pairs i),
      pair_count-append (document_of (take i pairs)) (document_of (drop i pairs)),
      ap pair_count (document_of-drop pairs i pair within is),
      pair_count-pair_before pair.key pair.value (document_of (drop (i + 1) pairs)),
    )
