-- The start that nodes give, and that its lists arrange the edges.
use Rattle.std.proofs.Common.{◌≡◌, ℕ, ◌+◌, ◌<◌, Bool, true, false, cond, List, [], ◌∷◌, ◌++◌, length, get_or, Option, Some, None, Result, Ok, Err, refl, ap, sym, ◌∙◌, subst, arith}
use Rattle.std.specs.Prelude.{IfSome}
use Rattle.std.specs.List.Sorted.{IsPermutation}
use Rattle.multigraph.specs.Graph.{Multigraph, incident_edges}
use Rattle.gml_text.specs.Document.{Document}
use Rattle.gml_graph.specs.Arranged.{is_arrangement}
use Rattle.gml_graph.specs.Each.{and_one_more, each_below}
use Rattle.gml_graph.specs.Named.{ArrangeEdges}
use Rattle.gml_graph.specs.Start.{start_key, start_text, with_first, spelled_numbers, arranged_list, list_by, texts_of, start_texts, lists_by, as_start, start_by}
use Rattle.gml_graph.specs.declared.fault.GraphFault.{GraphFault}
use Rattle.gml_graph.specs.declared.fault.GraphFault.TheVariants.{StartVertex}
use Rattle.gml_graph.proofs.Arranged.{passes-arranged}
use Rattle.gml_graph.proofs.Each.{each_below-refused, each_below-more, each_below-length}
use Rattle.gml_graph.proofs.Sound.{each_below-at}

-- ---- the list of a vertex

-- a list that is accepted arranges the edges
list-permutes : (g : Multigraph) (v : ℕ) (read : Option (List ℕ)) (list : List ℕ) → arranged_list g v read ≡ Ok list → IsPermutation (incident_edges g v) list
list-permutes g v None list h = absurd (cc)
list-permutes g v (Some numbers) list h = by_test (is_arrangement (incident_edges g v) numbers) refl h
  where
    by_test : (arranged : Bool) → is_arrangement (incident_edges g v) numbers ≡ arranged → let refused : Result (List ℕ) GraphFault = Err (StartVertex v) in cond arranged (Ok numbers) refused ≡ Ok list → IsPermutation (incident_edges g v) list
    by_test true e r = let z : numbers ≡ list = cc in subst (λ (l : List ℕ). IsPermutation (incident_edges g v) l) z (passes-arranged (incident_edges g v) numbers e)
    by_test false e r = absurd (cc)

-- ---- the lists of all vertices

-- the list of vertex k after those before it
pub lists_by-more : (g : Multigraph) (texts : List (List ℕ)) (k : ℕ) (lists : List (List ℕ)) (text list : List ℕ) → each_below k (λ v. list_by g v (get_or texts v [])) ≡ Ok lists → get_or texts k [] ≡ text → list_by g k text ≡ Ok list → each_below (k + 1) (λ v. list_by g v (get_or texts v [])) ≡ Ok (lists ++ list ∷ [])
lists_by-more g texts k lists text list h t e = each_below-more (λ v. list_by g v (get_or texts v [])) k lists h ∙ ap (and_one_more (Ok lists)) (ap (list_by g k) t ∙ e)

-- a refusal of vertex k, where those before it have none
pub lists_by-refused : (g : Multigraph) (texts : List (List ℕ)) (k : ℕ) (lists : List (List ℕ)) (text : List ℕ) (e : GraphFault) → k < length texts → each_below k (λ v. list_by g v (get_or texts v [])) ≡ Ok lists → get_or texts k [] ≡ text → list_by g k text ≡ Err e → lists_by g texts ≡ Err e
lists_by-refused g texts k lists text e l h t r =
    each_below-refused (λ v. list_by g v (get_or texts v [])) (length texts) (k + 1) e (omega arith)
    (each_below-more (λ v. list_by g v (get_or texts v [])) k lists h ∙ ap (and_one_more (Ok lists)) (ap (list_by g k) t ∙ r))

-- lists that are accepted arrange the edges
lists-arrange : (g : Multigraph) (texts lists : List (List ℕ)) → length texts ≡ g.vertex_count → lists_by g texts ≡ Ok lists → ArrangeEdges g lists
lists-arrange g texts lists long h = record {
  count = each_below-length (λ v. list_by g v (get_or texts v [])) (length texts) lists h ∙ long;
  arranged = λ v l. list-permutes g v (spelled_numbers (get_or texts v [])) (get_or lists v []) (each_below-at (λ w. list_by g w (get_or texts w [])) (length texts) lists v [] h (omega arith));
}

-- ---- the texts of nodes

-- one text for each node
with_first-long : {A : Type 0} (first : Option A) (others : Option (List A)) (xs : List A) (n : ℕ) → ((ys : List A) → others ≡ Some ys → length ys ≡ n) → with_first first others ≡ Some xs → length xs ≡ n + 1
with_first-long None others xs n h e = absurd (cc)
with_first-long (Some x) None xs n h e = absurd (cc)
with_first-long (Some x) (Some ys) xs n h e = let z : x ∷ ys ≡ xs = cc in omega (arith, ap length z, h ys refl)

texts_of-long : (nodes : List Document) (texts : List (List ℕ)) → texts_of nodes ≡ Some texts → length texts ≡ length nodes
texts_of-long [] texts e = let z : [] ≡ texts = cc in ap length (sym z)
texts_of-long (node ∷ nodes) texts e =
    let long : length texts ≡ length nodes + 1 = with_first-long (start_text start_key node) (texts_of nodes) texts (length nodes) (texts_of-long nodes) e in
    omega (arith, long)

pub start_texts-long : (nodes : List Document) (texts : List (List ℕ)) → start_texts nodes ≡ Some texts → length texts ≡ length nodes
start_texts-long [] texts e = absurd (cc)
start_texts-long (node ∷ nodes) texts e = texts_of-long (node ∷ nodes) texts e

-- ---- the start

pub start-given : (g : Multigraph) (nodes : List Document) (texts lists : List (List ℕ)) → Some texts ≡ start_texts nodes → lists_by g texts ≡ Ok lists → start_by g (start_texts nodes) ≡ Ok (Some lists)
start-given g nodes texts lists e h = ap (start_by g) (sym e) ∙ ap as_start h

-- the lists of a start that is accepted arrange the edges
pub start-arranges : (g : Multigraph) (nodes : List Document) (start : Option (List (List ℕ))) → length nodes ≡ g.vertex_count → start_by g (start_texts nodes) ≡ Ok start → IfSome start (ArrangeEdges g)
start-arranges g nodes start long h = by_texts (start_texts nodes) refl h
  where
    by_lists : (texts : List (List ℕ)) (lists : Result (List (List ℕ)) GraphFault) → length texts ≡ g.vertex_count → lists_by g texts ≡ lists → as_start lists ≡ Ok start → IfSome start (ArrangeEdges g)
    by_lists texts (Err e) size same r = absurd (cc)
    by_lists texts (Ok lists) size same r = let z : Some lists ≡ start = cc in subst (λ (s : Option (List (List ℕ))). IfSome s (ArrangeEdges g)) z (lists-arrange g texts lists size same)

    by_texts : (texts : Option (List (List ℕ))) → start_texts nodes ≡ texts → start_by g texts ≡ Ok start → IfSome start (ArrangeEdges g)
    by_texts None same r = let z : None ≡ start = cc in subst (λ (s : Option (List (List ℕ))). IfSome s (ArrangeEdges g)) z tt
    by_texts (Some texts) same r = by_lists texts (lists_by g texts) (start_texts-long nodes texts same ∙ long) refl r
