-- A document with texts in its nodes has a text, where it had one before and there is no quote in the texts.
use Rattle.std.proofs.Common.{◌≡◌, ℕ, ◌≤◌, true, List, [], ◌∷◌, refl, inl, inr, codes, bytes_eq, arith}
use Rattle.std.proofs.lemmas.Bool.{cases_Bool}
use Rattle.std.proofs.lemmas.List.Elements.{All-head, All-tail}
use Rattle.gml_text.specs.Document.{Document, empty, number, string, list, depth}
use Rattle.gml_text.specs.Grammar.{is_key}
use Rattle.gml_text.specs.WellFormed.{AreTokens, IsWellFormed}
use Rattle.gml_graph.specs.Start.{start_key}
use Rattle.gml_graph.specs.Marked.{put_first, put_next, later, mark_nodes, marked, IsQuotable, AreQuotable}

-- ---- tokens

pub tokens-put : (key text : List ℕ) (d : Document) → is_key key ≡ true → IsQuotable text → AreTokens d → AreTokens (put_first key text d)
tokens-put key text empty named quotable tokens = (named, quotable, tt)
tokens-put key text (number k old rest) named quotable tokens =
    elim (cases_Bool (bytes_eq k key)) [
      | inl same ↦ rw same (named, quotable, tokens.2)
      | inr differ ↦ rw differ (tokens.0, tokens.1, tokens-put key text rest named quotable tokens.2)
    ]
tokens-put key text (string k old rest) named quotable tokens =
    elim (cases_Bool (bytes_eq k key)) [
      | inl same ↦ rw same (named, quotable, tokens.2)
      | inr differ ↦ rw differ (tokens.0, tokens.1, tokens-put key text rest named quotable tokens.2)
    ]
tokens-put key text (list k inner rest) named quotable tokens =
    elim (cases_Bool (bytes_eq k key)) [
      | inl same ↦ rw same (named, quotable, tokens.2)
      | inr differ ↦ rw differ (tokens.0, tokens.1, tokens-put key text rest named quotable tokens.2)
    ]

tokens-next : (texts : List (List ℕ)) (node : Document) → AreQuotable texts → AreTokens node → AreTokens (put_next texts node)
tokens-next [] node quotable tokens = tokens
tokens-next (text ∷ texts) node quotable tokens = tokens-put start_key text node refl (All-head IsQuotable text texts quotable) tokens

quotable-later : (texts : List (List ℕ)) → AreQuotable texts → AreQuotable (later texts)
quotable-later [] quotable = quotable
quotable-later (text ∷ texts) quotable = All-tail IsQuotable text texts quotable

tokens-nodes : (texts : List (List ℕ)) (d : Document) → AreQuotable texts → AreTokens d → AreTokens (mark_nodes texts d)
tokens-nodes texts empty quotable tokens = tt
tokens-nodes texts (number k old rest) quotable tokens = (tokens.0, tokens.1, tokens-nodes texts rest quotable tokens.2)
tokens-nodes texts (string k old rest) quotable tokens = (tokens.0, tokens.1, tokens-nodes texts rest quotable tokens.2)
tokens-nodes texts (list k inner rest) quotable tokens =
    elim (cases_Bool (bytes_eq k (codes "node"))) [
      | inl node ↦ rw node (tokens.0, tokens-next texts inner quotable tokens.1, tokens-nodes (later texts) rest (quotable-later texts quotable) tokens.2)
      | inr other ↦ rw other (tokens.0, tokens.1, tokens-nodes texts rest quotable tokens.2)
    ]

tokens-marked : (texts : List (List ℕ)) (d : Document) → AreQuotable texts → AreTokens d → AreTokens (marked texts d)
tokens-marked texts empty quotable tokens = tt
tokens-marked texts (number k old rest) quotable tokens = (tokens.0, tokens.1, tokens-marked texts rest quotable tokens.2)
tokens-marked texts (string k old rest) quotable tokens = (tokens.0, tokens.1, tokens-marked texts rest quotable tokens.2)
tokens-marked texts (list k inner rest) quotable tokens =
    elim (cases_Bool (bytes_eq k (codes "graph"))) [
      | inl graph ↦ rw graph (tokens.0, tokens-nodes texts inner quotable tokens.1, tokens.2)
      | inr other ↦ rw other (tokens.0, tokens.1, tokens-marked texts rest quotable tokens.2)
    ]

-- ---- depth

pub depth-put : (key text : List ℕ) (d : Document) → depth (put_first key text d) ≤ depth d
depth-put key text empty = omega arith
depth-put key text (number k old rest) =
    elim (cases_Bool (bytes_eq k key)) [
      | inl same ↦ rw same (omega arith)
      | inr differ ↦ rw differ (depth-put key text rest)
    ]
depth-put key text (string k old rest) =
    elim (cases_Bool (bytes_eq k key)) [
      | inl same ↦ rw same (omega arith)
      | inr differ ↦ rw differ (depth-put key text rest)
    ]
depth-put key text (list k inner rest) =
    elim (cases_Bool (bytes_eq k key)) [
      | inl same ↦ rw same (omega arith)
      | inr differ ↦ rw differ (omega (arith, depth-put key text rest))
    ]

depth-next : (texts : List (List ℕ)) (node : Document) → depth (put_next texts node) ≤ depth node
depth-next [] node = omega arith
depth-next (text ∷ texts) node = depth-put start_key text node

depth-nodes : (texts : List (List ℕ)) (d : Document) → depth (mark_nodes texts d) ≤ depth d
depth-nodes texts empty = omega arith
depth-nodes texts (number k old rest) = depth-nodes texts rest
depth-nodes texts (string k old rest) = depth-nodes texts rest
depth-nodes texts (list k inner rest) =
    elim (cases_Bool (bytes_eq k (codes "node"))) [
      | inl node ↦ rw node (omega (arith, depth-next texts inner, depth-nodes (later texts) rest))
      | inr other ↦ rw other (omega (arith, depth-nodes texts rest))
    ]

depth-marked : (texts : List (List ℕ)) (d : Document) → depth (marked texts d) ≤ depth d
depth-marked texts empty = omega arith
depth-marked texts (number k old rest) = depth-marked texts rest
depth-marked texts (string k old rest) = depth-marked texts rest
depth-marked texts (list k inner rest) =
    elim (cases_Bool (bytes_eq k (codes "graph"))) [
      | inl graph ↦ rw graph (omega (arith, depth-nodes texts inner))
      | inr other ↦ rw other (omega (arith, depth-marked texts rest))
    ]

pub marked_well_formed : (texts : List (List ℕ)) (d : Document) → AreQuotable texts → IsWellFormed d → IsWellFormed (marked texts d)
marked_well_formed texts d quotable formed =
    record { tokens = tokens-marked texts d quotable formed.tokens; depth = omega (arith, depth-marked texts d, formed.depth) }
