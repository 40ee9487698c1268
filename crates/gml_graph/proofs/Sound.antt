-- Ends that were accepted are those of a graph.
use Rattle.std.proofs.Common.{◌≡◌, ◌≢◌, inl, inr, ℕ, zero, suc, ◌<◌, ◌≤◌, ℤ, Bool, true, false, ◌==◌, cond, List, [], ◌∷◌, ◌++◌, length, get_or, position, Option, Some, None, Result, Ok, Err, refl, ap, sym, ◌∙◌, subst, codes, arith}
use Rattle.std.proofs.Math.ListN.{get_or-append}
use Rattle.std.proofs.Math.Seq.{get_or-append_seam}
use Rattle.std.proofs.lemmas.Bool.{cases_lt}
use Rattle.std.proofs.lemmas.Bool.Decides.{nat_tests}
use Rattle.std.proofs.lemmas.List.Quantifiers.{position-Some}
use Rattle.std.specs.Ordering.{int_eq}
use Rattle.multigraph.specs.Graph.{IsGraph, IsWithinLimits, max_vertices, max_edges}
use Rattle.multigraph.specs.Build.{multigraph_of}
use Rattle.gml_text.specs.Document.{Document, empty}
use Rattle.gml_graph.specs.Lists.{first_under}
use Rattle.gml_graph.specs.Answer.{each_below, ends_between, ends_among, ends_by, edge_ends}
use Rattle.gml_graph.specs.declared.integers.Reading.{Reading}
use Rattle.gml_graph.specs.declared.integers.Reading.TheVariants.{Missing, NotWhole, Whole}
use Rattle.gml_graph.specs.declared.fault.GraphFault.{GraphFault}
use Rattle.gml_graph.specs.declared.fault.GraphFault.TheVariants.{Loop}
use Rattle.gml_graph.proofs.Each.{one_more-accepted, each_below-length}

-- each value of the list is the one at its place
pub each_below-at : {A : Type 0} (f : ℕ → Result A GraphFault) (n : ℕ) (xs : List A) (k : ℕ) (d : A) → each_below n f ≡ Ok xs → k < n → f k ≡ Ok (get_or xs k d)
each_below-at f zero xs k d h l = absurd (omega arith)
each_below-at f (suc n) xs k d h l =
    let m = one_more-accepted (each_below n f) (f n) xs h in
    let size : length m.before ≡ n = each_below-length f n m.before m.was_before in
    elim (cases_lt k n) [
      | inl before ↦ each_below-at f n m.before k d m.was_before before ∙ ap Ok (sym (ap (λ l. get_or l k d) m.all ∙ get_or-append m.before (m.last ∷ []) d k (omega arith)))
      | inr here ↦ let place : k ≡ length m.before = omega arith in
          let same : k ≡ n = omega arith in
          ap f same ∙ m.was_last ∙ ap Ok (sym (ap (λ l. get_or l k d) m.all ∙ ap (λ i. get_or (m.before ++ m.last ∷ []) i d) place ∙ get_or-append_seam m.before m.last [] d))
    ]

-- ends between two places that are found and differ
pub record AreEnds (n : ℕ) (ends : ℕ × ℕ) : Type 0 where
  pub first_in : ends.0 < n
  pub second_in : ends.1 < n
  pub no_loop : ends.0 ≢ ends.1

pub ends_between-accepted : (ids : List ℤ) (k : ℕ) (s t : ℤ) (first second : Option ℕ) (ends : ℕ × ℕ) → first ≡ position (int_eq s) ids → second ≡ position (int_eq t) ids → ends_between k first second ≡ Ok ends → AreEnds (length ids) ends
ends_between-accepted ids k s t None second ends f g h = absurd (cc)
ends_between-accepted ids k s t (Some v) None ends f g h = absurd (cc)
ends_between-accepted ids k s t (Some v) (Some w) ends f g h = by_test (v == w) refl h
  where
    differ : (v w : ℕ) → (v == w) ≡ false → v ≢ w
    differ v w e = grind (arith, nat_tests)

    first_in : v < length ids
    first_in = (position-Some (int_eq s) ids v s (sym f)).0

    second_in : w < length ids
    second_in = (position-Some (int_eq t) ids w t (sym g)).0

    by_test : (same : Bool) → (v == w) ≡ same → let refused : Result (ℕ × ℕ) GraphFault = Err (Loop k) in cond same refused (Ok (v, w)) ≡ Ok ends → AreEnds (length ids) ends
    by_test true e r = absurd (cc)
    by_test false e r =
        let z : (v, w) ≡ ends = cc in
        subst (λ (p : ℕ × ℕ). AreEnds (length ids) p) z (record { first_in = first_in; second_in = second_in; no_loop = differ v w e })

pub ends_among-accepted : (ids : List ℤ) (k : ℕ) (source target : Reading) (ends : ℕ × ℕ) → ends_among ids k source target ≡ Ok ends → AreEnds (length ids) ends
ends_among-accepted ids k Missing target ends h = absurd (cc)
ends_among-accepted ids k NotWhole Missing ends h = absurd (cc)
ends_among-accepted ids k NotWhole NotWhole ends h = absurd (cc)
ends_among-accepted ids k NotWhole (Whole t) ends h = absurd (cc)
ends_among-accepted ids k (Whole s) Missing ends h = absurd (cc)
ends_among-accepted ids k (Whole s) NotWhole ends h = absurd (cc)
ends_among-accepted ids k (Whole s) (Whole t) ends h = ends_between-accepted ids k s t (position (int_eq s) ids) (position (int_eq t) ids) ends refl refl h

-- the multigraph of accepted ends is a graph
pub edge_ends-graph : (ids : List ℤ) (edges : List Document) (ends : List (ℕ × ℕ)) → edge_ends ids edges ≡ Ok ends → IsGraph (multigraph_of (length ids) ends)
edge_ends-graph ids edges ends h =
    let size : length ends ≡ length edges = each_below-length (λ k. ends_by ids k (get_or edges k empty)) (length edges) ends h in
    record {
      first_in = λ e l. (at e (omega arith)).first_in;
      second_in = λ e l. (at e (omega arith)).second_in;
      no_loop = λ e l. (at e (omega arith)).no_loop;
    }
  where
    at : (e : ℕ) → e < length edges → AreEnds (length ids) (get_or ends e (0, 0))
    at e l = ends_among-accepted ids e (first_under (codes "source") (get_or edges e empty)) (first_under (codes "target") (get_or edges e empty)) (get_or ends e (0, 0)) (each_below-at (λ k. ends_by ids k (get_or edges k empty)) (length edges) ends e (0, 0) h l)

-- within the limits, where the lists are
pub edge_ends-limits : (ids : List ℤ) (edges : List Document) (ends : List (ℕ × ℕ)) → length ids ≤ max_vertices → length edges ≤ max_edges → edge_ends ids edges ≡ Ok ends → IsWithinLimits (multigraph_of (length ids) ends)
edge_ends-limits ids edges ends few many h =
    let size : length ends ≡ length edges = each_below-length (λ k. ends_by ids k (get_or edges k empty)) (length edges) ends h in
    record { few_vertices = few; few_edges = omega arith }
