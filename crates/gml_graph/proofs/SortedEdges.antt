-- Numbers that are sorted and compared with the edges at a vertex.
use Rattle.std.proofs.Common.{◌≡◌, ◌≢◌, ℕ, ◌<◌, ◌≤◌, Bool, true, false, List, get_or, refl, sym, subst, arith}
use Rattle.std.specs.List.Sorted.{IsPermutation, IsSorted}
use Rattle.std.specs.Ordering.{nat_cmp}
use Rattle.std.proofs.lemmas.Bool.{true≢false, false_from_ne_true}
use Rattle.std.proofs.lemmas.List.Sorted.{IsPermutation-sym, IsPermutation-trans, IsNonDecreasingBy-from_sort}
use Rattle.permutations.specs.Members.{is_distinct}
use Rattle.permutations.proofs.Places.{places-differ}
use Rattle.multigraph.specs.Graph.{Multigraph, incident_edges}
use Rattle.multigraph.specs.Part.{Rises}
use Rattle.multigraph.proofs.Incident.{incident-rises}
use Rattle.graph_theory.proofs.Rising.{members-same}
use Rattle.rotations.proofs.Membership.{incident-distinct}
use Rattle.rotations.proofs.Arrangements.{permutation-member, permutation-member_back, permutation-distinct}
use Rattle.gml_graph.specs.Arranged.{is_arrangement}
use Rattle.gml_graph.proofs.Arranged.{arranged-passes, passes-arranged}

-- sorted numbers, all different, rise
rises-sorted : (list : List ℕ) → is_distinct list ≡ true → IsSorted nat_cmp list → Rises list
rises-sorted list d s i j w b = strict (IsNonDecreasingBy-from_sort (λ x. x) list s i j 0 (omega arith) b) (places-differ list i j d w b)
  where
    strict : get_or list i 0 ≤ get_or list j 0 → get_or list i 0 ≢ get_or list j 0 → get_or list i 0 < get_or list j 0
    strict a n = omega arith

module _ (g : Multigraph) (v : ℕ) (list sorted : List ℕ) (p : IsPermutation list sorted) where
  -- an arrangement, sorted, is the list of the edges
  arrangement-sorted : IsSorted nat_cmp sorted → is_arrangement (incident_edges g v) list ≡ true → sorted ≡ incident_edges g v
  arrangement-sorted s t =
      let q : IsPermutation (incident_edges g v) sorted = IsPermutation-trans (incident_edges g v) list sorted (passes-arranged (incident_edges g v) list t) p in
      members-same sorted (incident_edges g v)
      (rises-sorted sorted (permutation-distinct (incident_edges g v) sorted q (incident-distinct g v)) s)
      (λ i j w b. incident-rises g v i j 0 w b)
      (λ x m. permutation-member_back (incident_edges g v) sorted x q m)
      (λ x m. permutation-member (incident_edges g v) sorted x q m)

  -- and where it is that list, it was an arrangement
  sorted-arrangement : sorted ≡ incident_edges g v → is_arrangement (incident_edges g v) list ≡ true
  sorted-arrangement e = arranged-passes (incident_edges g v) list (incident-distinct g v) (IsPermutation-sym list (incident_edges g v) (subst (λ (l : List ℕ). IsPermutation list l) e p))

  -- so the comparison is the test
  pub sorted-decides : (same : Bool) → IsSorted nat_cmp sorted → (same ≡ true → sorted ≡ incident_edges g v) → (sorted ≡ incident_edges g v → same ≡ true) → same ≡ is_arrangement (incident_edges g v) list
  sorted-decides true s to back = sym (sorted-arrangement (to refl))
  sorted-decides false s to back = sym (false_from_ne_true (is_arrangement (incident_edges g v) list) (λ t. true≢false (sym (back (arrangement-sorted s t)))))
