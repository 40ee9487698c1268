-- What is written of pairs with texts put in, after the last of them.
use Rattle.std.proofs.Common.{◌≡◌, ℕ, ◌≤◌, Bool, true, false, List, ◌++◌, length, drop, refl, sym, ap, ◌∙◌}
use Rattle.std.proofs.lemmas.List.{drop_all, append-nil}
use Rattle.gml_text.specs.Document.{Document, empty}
use Rattle.gml_text.specs.Layout.{string_line, lines}
use Rattle.gml_text.specs.Pairs.{document_of}
use Rattle.gml_text.specs.declared.document.Pair.{Pair}
use Rattle.gml_graph.specs.Start.{start_key}
use Rattle.gml_graph.specs.Marked.{put_unless, marked_unless}

-- no pairs are to come
all_written : (lists : ℕ) (left : Document → Document) (items : List Pair) (i : ℕ) (out whole : List ℕ) → length items ≤ i → out ++ lines lists (left (document_of (drop i items))) ≡ whole → out ++ lines lists (left empty) ≡ whole
all_written lists left items i out whole over so_far = ap (λ (pairs : List Pair). out ++ lines lists (left (document_of pairs))) (sym (drop_all i items over)) ∙ so_far

-- and nothing is added
pub nothing_added : (lists : ℕ) (left : Document → Document) (items : List Pair) (i : ℕ) (out whole : List ℕ) → length items ≤ i → left empty ≡ empty → out ++ lines lists (left (document_of (drop i items))) ≡ whole → out ≡ whole
nothing_added lists left items i out whole over none so_far =
    sym (append-nil out)
    ∙ ap (λ (d : Document). out ++ lines lists d) (sym none)
    ∙ all_written lists left items i out whole over so_far

-- or the text is
pub text_added : (lists : ℕ) (put : Bool) (key text : List ℕ) (items : List Pair) (i : ℕ) (out after whole : List ℕ) → put ≡ false → length items ≤ i → key ≡ start_key → out ++ lines lists (put_unless put text (document_of (drop i items))) ≡ whole → after ≡ out ++ string_line lists key text → after ≡ whole
text_added lists put key text items i out after whole not_put over is so_far wrote =
    wrote
    ∙ ap (λ (k : List ℕ). out ++ string_line lists k text) is
    ∙ ap (λ (xs : List ℕ). out ++ xs) (sym (append-nil (string_line lists start_key text)))
    ∙ ap (λ (p : Bool). out ++ lines lists (put_unless p text empty)) (sym not_put)
    ∙ all_written lists (put_unless put text) items i out whole over so_far

-- no graph is to come
pub unless-empty : (found : Bool) (texts : List (List ℕ)) → marked_unless found texts empty ≡ empty
unless-empty true texts = refl
unless-empty false texts = refl
