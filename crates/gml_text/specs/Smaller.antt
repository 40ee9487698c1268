-- The pairs of an inner list are fewer than those of the list that holds it.
use Rattle.std.specs.Prelude.{ℕ, ◌≤◌, max, List, [], ◌∷◌}
use Rattle.std.proofs.Common.{arith}
use denote.Param.Weighed.{most}
use Rattle.gml_text.specs.Document.{Document, pair_count}
use Rattle.gml_text.specs.Pairs.{pair_before, document_of}
use Rattle.gml_text.specs.declared.document.Pair.{Pair}
use Rattle.gml_text.specs.declared.document.Value.{Value}
use Rattle.gml_text.specs.declared.document.Value.TheVariants.{Num, Str, List as Inner}
use Rattle.gml_text.specs.declared.document.Pairs.TheDeep.{deep-Pair, deep-Value}

-- a pair's inner list is smaller than the document that begins with the pair, and so is what follows the pair
pub deep_value-le : (key : List ℕ) (value : Value) (rest : Document) (n : ℕ) → n ≤ pair_count rest → max (deep-Value value) n ≤ pair_count (pair_before key value rest)
deep_value-le key (Num text) rest n h = omega arith
deep_value-le key (Str text) rest n h = omega arith
deep_value-le key (Inner inner) rest n h = omega arith

-- each inner list of some pairs is smaller than all of them
pub most_deep-le : (pairs : List Pair) → most deep-Pair pairs ≤ pair_count (document_of pairs)
most_deep-le [] = omega arith
most_deep-le (pair ∷ pairs) = omega (arith, deep_value-le pair.key pair.value (document_of pairs) (most deep-Pair pairs) (most_deep-le pairs))
