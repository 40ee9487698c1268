-- One node and one edge more.
use Rattle.std.proofs.Common.{◌≡◌, ℕ, zero, suc, ◌+◌, ◌<◌, ◌≤◌, ℤ, Bool, true, false, cond, List, [], ◌∷◌, ◌++◌, length, take, get_or, map, position, codes, Option, Result, Ok, Err, ap, sym, ◌∙◌, append_assoc, append-nil, arith}
use Rattle.std.proofs.Math.Seq.{take-suc}
use Rattle.std.proofs.lemmas.List.{get_or-map}
use denote.Ref.{Bor}
use Rattle.std.specs.Ordering.{int_eq}
use Rattle.std.specs.List.{list_any}
use Rattle.gml_text.specs.Document.{Document, empty}
use Rattle.gml_graph.specs.Lists.{first_under}
use Rattle.gml_graph.specs.Answer.{and_one_more, each_below, said_by, said_ids, id_among, node_id, node_ids, ends_between, ends_among, ends_by, edge_ends}
use Rattle.gml_graph.specs.declared.integers.Reading.{Reading}
use Rattle.gml_graph.specs.declared.integers.Reading.TheVariants.{Missing, NotWhole, Whole}
use Rattle.gml_graph.specs.declared.fault.GraphFault.{GraphFault}
use Rattle.gml_graph.specs.declared.fault.GraphFault.TheVariants.{SameId}
use Rattle.gml_graph.proofs.Each.{one_more-accepted, each_below-more, each_below-refused}

-- the ids that one list more says
pub said_ids-push : (nodes : List Document) (node : Document) → said_ids (nodes ++ node ∷ []) ≡ said_ids nodes ++ said_by (first_under (codes "id") node)
said_ids-push [] node = append-nil (said_by (first_under (codes "id") node))
said_ids-push (first ∷ nodes) node = rw append_assoc (ap (λ l. said_by (first_under (codes "id") first) ++ l) (said_ids-push nodes node))

-- an id that is accepted is what the list says
pub id_among-accepted : (ids : List ℤ) (k : ℕ) (reading : Reading) (id : ℤ) → id_among ids k reading ≡ Ok id → said_by reading ≡ id ∷ []
id_among-accepted ids k Missing id h = cc
id_among-accepted ids k NotWhole id h = cc
id_among-accepted ids k (Whole z) id h = ap (λ i. i ∷ []) (by_test (list_any (int_eq z) ids) h)
  where
    by_test : (same : Bool) → let refused : Result ℤ GraphFault = Err (SameId k) in cond same refused (Ok z) ≡ Ok id → z ≡ id
    by_test true e = cc
    by_test false e = cc

-- where the nodes before k are accepted, their ids are what their lists say
pub said_ids-accepted : (nodes : List Document) (k : ℕ) (ids : List ℤ) → k ≤ length nodes → each_below k (node_id nodes) ≡ Ok ids → said_ids (take k nodes) ≡ ids
said_ids-accepted nodes zero ids l h = cc
said_ids-accepted nodes (suc k) ids l h =
    let m = one_more-accepted (each_below k (node_id nodes)) (node_id nodes k) ids h in
    let before : said_ids (take k nodes) ≡ m.before = said_ids-accepted nodes k m.before (omega arith) m.was_before in
    let last : said_by (first_under (codes "id") (get_or nodes k empty)) ≡ m.last ∷ [] = id_among-accepted (said_ids (take k nodes)) k (first_under (codes "id") (get_or nodes k empty)) m.last m.was_last in
    let t : take (suc k) nodes ≡ take k nodes ++ get_or nodes k empty ∷ [] = take-suc nodes k empty (omega arith) in
    ap said_ids t ∙ said_ids-push (take k nodes) (get_or nodes k empty) ∙ ap (λ l. l ++ said_by (first_under (codes "id") (get_or nodes k empty))) before ∙ ap (λ l. m.before ++ l) last ∙ sym m.all

-- node k after those before it
pub node_ids-more : (nodes : List Document) (k : ℕ) (ids : List ℤ) (reading : Reading) → k ≤ length nodes → each_below k (node_id nodes) ≡ Ok ids → reading ≡ first_under (codes "id") (get_or nodes k empty) → each_below (k + 1) (node_id nodes) ≡ and_one_more (Ok ids) (id_among ids k reading)
node_ids-more nodes k ids reading l h r =
    each_below-more (node_id nodes) k ids h
    ∙ ap (λ earlier. and_one_more (Ok ids) (id_among earlier k (first_under (codes "id") (get_or nodes k empty)))) (said_ids-accepted nodes k ids l h)
    ∙ ap (λ found. and_one_more (Ok ids) (id_among ids k found)) (sym r)

-- the ends of an edge by the places of its source and its target
pub ends_among-found : (ids : List ℤ) (k : ℕ) (source target : ℤ) (first second : Option ℕ) (ends : Result (ℕ × ℕ) GraphFault) → ends ≡ ends_between k first second → first ≡ position (int_eq source) ids → second ≡ position (int_eq target) ids → ends ≡ ends_among ids k (Whole source) (Whole target)
ends_among-found ids k source target first second ends h f s = h ∙ ap (λ o. ends_between k o second) f ∙ ap (λ o. ends_between k (position (int_eq source) ids) o) s

-- edge k after those before it
pub edge_ends-more : (ids : List ℤ) (edges : List Document) (k : ℕ) (ends : List (ℕ × ℕ)) (source target : Reading) → each_below k (λ e. ends_by ids e (get_or edges e empty)) ≡ Ok ends → source ≡ first_under (codes "source") (get_or edges k empty) → target ≡ first_under (codes "target") (get_or edges k empty) → each_below (k + 1) (λ e. ends_by ids e (get_or edges e empty)) ≡ and_one_more (Ok ends) (ends_among ids k source target)
edge_ends-more ids edges k ends source target h s t =
    each_below-more (λ e. ends_by ids e (get_or edges e empty)) k ends h
    ∙ ap (λ found. and_one_more (Ok ends) (ends_among ids k found (first_under (codes "target") (get_or edges k empty)))) (sym s)
    ∙ ap (λ found. and_one_more (Ok ends) (ends_among ids k source found)) (sym t)

-- a refusal of edge k, where the edges before it have none
pub edge_ends-refused : (ids : List ℤ) (edges : List Document) (k : ℕ) (ends : List (ℕ × ℕ)) (source target : Reading) (e : GraphFault) → k < length edges → each_below k (λ e. ends_by ids e (get_or edges e empty)) ≡ Ok ends → source ≡ first_under (codes "source") (get_or edges k empty) → target ≡ first_under (codes "target") (get_or edges k empty) → ends_among ids k source target ≡ Err e → edge_ends ids edges ≡ Err e
edge_ends-refused ids edges k ends source target e l h s t r =
    each_below-refused (λ e. ends_by ids e (get_or edges e empty)) (length edges) (k + 1) e (omega arith)
    (edge_ends-more ids edges k ends source target h s t ∙ ap (and_one_more (Ok ends)) r)

-- a refusal of node k, where the nodes before it have none
pub node_ids-refused : (nodes : List Document) (k : ℕ) (ids : List ℤ) (reading : Reading) (e : GraphFault) → k < length nodes → each_below k (node_id nodes) ≡ Ok ids → reading ≡ first_under (codes "id") (get_or nodes k empty) → id_among ids k reading ≡ Err e → node_ids nodes ≡ Err e
node_ids-refused nodes k ids reading e l h r refused =
    each_below-refused (node_id nodes) (length nodes) (k + 1) e (omega arith) (node_ids-more nodes k ids reading (omega arith) h r ∙ ap (and_one_more (Ok ids)) refused)

-- what a reference at a place of a list leads to
pub get_or-now : {A : Type 0} (xs : List (Bor A)) (k : ℕ) (x : Bor A) (d : A) → k < length xs → x ≡ get_or xs k x → get_or (map (λ b. b.now) xs) k d ≡ x.now
get_or-now xs k x d l e = get_or-map (λ b. b.now) xs k x d l ∙ ap (λ b. b.now) (sym e)

-- what is read behind such a reference is what stands there
pub first_under-now : (key : List ℕ) (xs : List (Bor Document)) (k : ℕ) (x : Bor Document) (d : Document) (reading : Reading) → k < length xs → x ≡ get_or xs k x → d ≡ x.now → reading ≡ first_under key d → reading ≡ first_under key (get_or (map (λ b. b.now) xs) k empty)
first_under-now key xs k x d reading l e same r = r ∙ ap (first_under key) (same ∙ sym (get_or-now xs k x empty l e))
