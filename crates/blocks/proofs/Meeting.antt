-- Cut vertices: those with edges of two different numbers.
use Rattle.std.proofs.Common.{◌≡◌, ◌≢◌, ℕ, ◌+◌, ◌<◌, ◌≤◌, inl, inr, Bool, true, false, not, ◌||◌, ◌==◌, List, length, filter, get_or, sym, ap, ◌∙◌, arith}
use Rattle.std.proofs.lemmas.Bool.{cases_Bool, both_ways, eq-eqb, eqb-true, false_from_ne_true}
use Rattle.std.proofs.lemmas.List.{get_or_default}
use Rattle.permutations.specs.Count.{some}
use Rattle.permutations.specs.Members.{is_member}
use Rattle.permutations.proofs.Search.{some-from, some-witness, some-none, some-more}
use Rattle.permutations.proofs.Arrangements.{contains-from_member, member-from_contains}
use Rattle.multigraph.specs.Graph.{Multigraph, edge_count, is_end, incident_edges, numbers_below}
use Rattle.multigraph.proofs.Below.{filter_below-has, filter_below-only, filter_below-rises}
use Rattle.multigraph.proofs.Incident.{incident-has, incident_at-edge, incident_at-end}
use Rattle.graph_theory.specs.Block.{SameBlock}
use Rattle.blocks.specs.Cuts.{meets_two}
use Rattle.blocks.specs.Blocks.{IsCutVertex, AreCutVertices}
use Rattle.blocks.specs.Finding.{AreBlockNumbers}

-- whether edge k has another number than the first
pub differs : List ℕ → List ℕ → ℕ → Bool
differs numbers edges k = not (get_or numbers (get_or edges k 0) 0 == get_or numbers (get_or edges 0 0) 0)

-- numbers that are not equal make the test true
pub differs-yes : (numbers edges : List ℕ) (k : ℕ) → get_or numbers (get_or edges k 0) 0 ≢ get_or numbers (get_or edges 0 0) 0 → differs numbers edges k ≡ true
unfolding differs
differs-yes numbers edges k n = ap not (false_from_ne_true (get_or numbers (get_or edges k 0) 0 == get_or numbers (get_or edges 0 0) 0) (λ t. n (eqb-true (get_or numbers (get_or edges k 0) 0) (get_or numbers (get_or edges 0 0) 0) t)))

-- the test is false exactly where the numbers are equal
pub differs-no : (numbers edges : List ℕ) (k : ℕ) → differs numbers edges k ≡ false → get_or numbers (get_or edges k 0) 0 ≡ get_or numbers (get_or edges 0 0) 0
unfolding differs
differs-no numbers edges k h = eqb-true (get_or numbers (get_or edges k 0) 0) (get_or numbers (get_or edges 0 0) 0) (flip (get_or numbers (get_or edges k 0) 0 == get_or numbers (get_or edges 0 0) 0) h)
  where
    flip : (b : Bool) → not b ≡ false → b ≡ true
    flip b h = grind (arith, cases_Bool b, h)

-- a true test refutes that the numbers are equal
pub differs-apart : (numbers edges : List ℕ) (k : ℕ) → differs numbers edges k ≡ true → get_or numbers (get_or edges k 0) 0 ≢ get_or numbers (get_or edges 0 0) 0
unfolding differs
differs-apart numbers edges k h e = both_ways (differs numbers edges k) (ap not (eq-eqb (get_or numbers (get_or edges k 0) 0) (get_or numbers (get_or edges 0 0) 0) e)) h

-- the test of the definition, by this one
pub meets-opened : (numbers edges : List ℕ) → meets_two numbers edges ≡ true → some (length edges) (differs numbers edges) ≡ true
unfolding differs
meets-opened numbers edges h = h

pub meets-shut : (numbers edges : List ℕ) → meets_two numbers edges ≡ false → some (length edges) (differs numbers edges) ≡ false
unfolding differs
meets-shut numbers edges h = h

-- an edge with another number than the first is met
pub meets-yes : (numbers edges : List ℕ) (k : ℕ) → k < length edges → get_or numbers (get_or edges k 0) 0 ≢ get_or numbers (get_or edges 0 0) 0 → meets_two numbers edges ≡ true
unfolding differs
meets-yes numbers edges k l n = some-from (length edges) (differs numbers edges) k l (differs-yes numbers edges k n)

-- the first edges have one number, and one edge more has it
pub meets-more : (numbers edges : List ℕ) (k : ℕ) → some k (differs numbers edges) ≡ false → get_or numbers (get_or edges k 0) 0 ≡ get_or numbers (get_or edges 0 0) 0 → some (k + 1) (differs numbers edges) ≡ false
unfolding differs
meets-more numbers edges k h e = some-more k (differs numbers edges) ∙ none (some k (differs numbers edges)) (differs numbers edges k) h (ap not (eq-eqb (get_or numbers (get_or edges k 0) 0) (get_or numbers (get_or edges 0 0) 0) e))
  where
    none : (a b : Bool) → a ≡ false → b ≡ false → (a || b) ≡ false
    none a b p q = grind (arith, p, q)

-- edges of two blocks at v are met, and what is met are edges of two blocks
pub cuts-right : (g : Multigraph) (numbers : List ℕ) (total : ℕ) → AreBlockNumbers g numbers total → AreCutVertices g (filter (λ v. meets_two numbers (incident_edges g v)) (numbers_below g.vertex_count))
cuts-right g numbers total n = record {
  rising = λ i j l m. filter_below-rises test g.vertex_count i j 0 l m;
  vertices = λ v m. (member v m).0;
  sound = λ v m. sound v (member v m).1;
  complete = λ v l c. member-from_contains (filter test (numbers_below g.vertex_count)) v (filter_below-has test g.vertex_count v l (complete v c));
}
  where
    test : ℕ → Bool
    test v = meets_two numbers (incident_edges g v)

    member : (v : ℕ) → is_member v (filter (λ v. meets_two numbers (incident_edges g v)) (numbers_below g.vertex_count)) ≡ true → (v < g.vertex_count) × (meets_two numbers (incident_edges g v) ≡ true)
    member v m = filter_below-only test g.vertex_count v (contains-from_member (filter test (numbers_below g.vertex_count)) v m)

    -- two edges of one block have one number
    one_number : (e f : ℕ) → e < edge_count g → f < edge_count g → SameBlock g e f → get_or numbers e 0 ≡ get_or numbers f 0
    one_number e f l m s = n.numbering.same e f (omega (arith, l, n.labelled)) (omega (arith, m, n.labelled)) ((n.same e f l m).1 s)

    -- two edges with one number are in one block
    one_block : (e f : ℕ) → e < edge_count g → f < edge_count g → get_or numbers e 0 ≡ get_or numbers f 0 → SameBlock g e f
    one_block e f l m q = (n.same e f l m).0 (n.numbering.different e f (omega (arith, l, n.labelled)) (omega (arith, m, n.labelled)) q)

    sound : (v : ℕ) → meets_two numbers (incident_edges g v) ≡ true → IsCutVertex g v
    sound v t = from (some-witness (length (incident_edges g v)) (differs numbers (incident_edges g v)) (opened t))
      where
        opened : meets_two numbers (incident_edges g v) ≡ true → some (length (incident_edges g v)) (differs numbers (incident_edges g v)) ≡ true
        opened q = meets-opened numbers (incident_edges g v) q

        from : (k : ℕ) × (k < length (incident_edges g v)) × (differs numbers (incident_edges g v) k ≡ true) → IsCutVertex g v
        from w =
            let z : 0 < length (incident_edges g v) = omega (arith, w.1) in
            record {
              first = get_or (incident_edges g v) w.0 0;
              second = get_or (incident_edges g v) 0 0;
              first_edge = incident_at-edge g v w.0 0 w.1;
              second_edge = incident_at-edge g v 0 0 z;
              first_end = incident_at-end g v w.0 0 w.1;
              second_end = incident_at-end g v 0 0 z;
              apart = λ s. differs-apart numbers (incident_edges g v) w.0 w.2 (one_number (get_or (incident_edges g v) w.0 0) (get_or (incident_edges g v) 0 0) (incident_at-edge g v w.0 0 w.1) (incident_at-edge g v 0 0 z) s);
            }

    complete : (v : ℕ) → IsCutVertex g v → meets_two numbers (incident_edges g v) ≡ true
    complete v c = elim (cases_Bool (meets_two numbers (incident_edges g v))) [
      | inl t ↦ t
      | inr f ↦ absurd (c.apart (one_block c.first c.second c.first_edge c.second_edge (first c.first c.first_edge c.first_end f ∙ sym (first c.second c.second_edge c.second_end f))))
    ]
      where
        first : (e : ℕ) → e < edge_count g → is_end g v e ≡ true → meets_two numbers (incident_edges g v) ≡ false → get_or numbers e 0 ≡ get_or numbers (get_or (incident_edges g v) 0 0) 0
        first e l i f = from (incident-has g v e l i)
          where
            from : (k : ℕ) × (k < length (incident_edges g v)) × (get_or (incident_edges g v) k e ≡ e) → get_or numbers e 0 ≡ get_or numbers (get_or (incident_edges g v) 0 0) 0
            from w =
                let q : get_or (incident_edges g v) w.0 0 ≡ e = get_or_default (incident_edges g v) w.0 0 e w.1 ∙ w.2 in
                ap (λ (z : ℕ). get_or numbers z 0) (sym q) ∙ differs-no numbers (incident_edges g v) w.0 (some-none (length (incident_edges g v)) (differs numbers (incident_edges g v)) (meets-shut numbers (incident_edges g v) f) w.0 w.1)

-- where none of the edges differs, two numbers are not met
pub meets-none : (numbers edges : List ℕ) (k : ℕ) → length edges ≤ k → some k (differs numbers edges) ≡ false → meets_two numbers edges ≡ false
meets-none numbers edges k l h = false_from_ne_true (meets_two numbers edges) (λ t.
    let w = some-witness (length edges) (differs numbers edges) (meets-opened numbers edges t) in
    both_ways (differs numbers edges w.0) (some-none k (differs numbers edges) h w.0 (omega (arith, w.1))) w.2)
