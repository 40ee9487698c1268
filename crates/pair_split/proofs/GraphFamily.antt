-- The family of a graph: it is a family, and a tight one where the graph is one block.
use Rattle.std.proofs.Common.{◌≡◌, ◌≢◌, ℕ, zero, suc, ◌<◌, inl, inr, Bool, true, false, not, List, [], ◌∷◌, map, refl, sym, ap, ◌∙◌, subst, arith, slice_index_or, Contains, All}
use Rattle.std.proofs.lemmas.Bool.{both_ways, cases_eq, not-true, not_from_false}
use Rattle.std.proofs.lemmas.List.Elements.{Contains-append_left, Contains-append_right, Contains-append_cases, Contains-get_or}
use Rattle.permutations.specs.Members.{is_member, is_distinct}
use Rattle.permutations.proofs.Members.{no_member-cons, distinct-append}
use Rattle.permutations.proofs.Arrangements.{contains-from_member}
use Rattle.multigraph.specs.Graph.{Multigraph, edge_count, numbers_below, IsGraph}
use Rattle.graph_theory.specs.Side.{IsCommon}
use Rattle.graph_theory.proofs.Crossings.{TwoCommon, cycle-two_common}
use Rattle.pair_split.specs.Family.{Entry, IsFamily, names, is_common, IsTight}
use Rattle.pair_split.specs.Edges.{graph_entry, graph_family}
use Rattle.graph_theory.specs.Block.{IsOneBlock}
use Rattle.pair_split.proofs.Elements.{contains-here, contains-cases, contains-none, contains-map, map-contains}
use Rattle.pair_split.proofs.Sides.{OnSide, entry-from_one, common-from}

-- a number below n is one of them
pub below-contains : (n x : ℕ) → x < n → Contains (numbers_below n) x
below-contains zero x l = absurd (omega (arith, l))
below-contains (suc n) x l = elim (cases_eq x n) [
  | inl e ↦ Contains-append_right (numbers_below n) (n ∷ []) x (subst (λ (z : ℕ). Contains (n ∷ []) z) (sym e) (contains-here n []))
  | inr d ↦ Contains-append_left (numbers_below n) (n ∷ []) x (below-contains n x (omega (arith, l, d)))
]

-- each of them is below n
pub contains-below : (n x : ℕ) → Contains (numbers_below n) x → x < n
contains-below zero x c = absurd (contains-none x c)
contains-below (suc n) x c = elim (Contains-append_cases (numbers_below n) (n ∷ []) x c) [
  | inl d ↦ omega (arith, contains-below n x d)
  | inr d ↦ elim (contains-cases x n [] d) [ inl e ↦ omega (arith, e) | inr k ↦ absurd (contains-none x k) ]
]

-- none of them stands there twice
pub numbers-distinct : (n : ℕ) → is_distinct (numbers_below n) ≡ true
numbers-distinct zero = refl
numbers-distinct (suc n) = distinct-append (numbers_below n) (n ∷ []) (numbers-distinct n) refl (λ z m. no_member-cons z n [] (apart z m) refl)
  where
    apart : (z : ℕ) → is_member z (numbers_below n) ≡ true → n ≡ z → ⊥
    apart z m e = absurd (omega (arith, e, contains-below n z (contains-from_member (numbers_below n) z m)))

-- each edge is an entry
pub graph-contains : (g : Multigraph) (e : ℕ) → e < edge_count g → Contains (graph_family g) (graph_entry g e)
graph-contains g e l = contains-map (graph_entry g) e (numbers_below (edge_count g)) (below-contains (edge_count g) e l)

-- each entry is an edge
pub graph-entry : (g : Multigraph) (entry : Entry) → Contains (graph_family g) entry → (e : ℕ) × (e < edge_count g) × (graph_entry g e ≡ entry)
graph-entry g entry c = let w = map-contains (graph_entry g) entry (numbers_below (edge_count g)) c in (w.0, contains-below (edge_count g) w.0 w.1, w.2)

-- the names are the numbers of the edges
graph-names : (g : Multigraph) (ns : List ℕ) → names (map (graph_entry g) ns) ≡ ns
graph-names g [] = refl
graph-names g (n ∷ ns) = ap (λ (l : List ℕ). n ∷ l) (graph-names g ns)

-- what holds of each element, as found in the list
pub all-from_contained : {X : Type 0} (P : X → Type 0) (xs : List X) → ((x : X) → Contains xs x → P x) → All P xs
all-from_contained P xs h k d l = h (slice_index_or xs k d) (Contains-get_or xs k d l)

-- the family of a graph is a family
pub graph-is_family : (g : Multigraph) → IsGraph g → IsFamily (graph_family g)
graph-is_family g graph = record {
  names_once = subst (λ (l : List ℕ). is_distinct l ≡ true) (sym (graph-names g (numbers_below (edge_count g)))) (numbers-distinct (edge_count g));
  no_loops = all-from_contained (λ (entry : Entry). entry.first ≢ entry.second) (graph_family g) (λ entry c.
      let w = graph-entry g entry c in subst (λ (z : Entry). z.first ≢ z.second) w.2 (graph.no_loop w.0 w.1));
}

-- a vertex that two sides of the edges have in common is one of the family
pub common-in_family : (g : Multigraph) (s : ℕ → Bool) (v : ℕ) → IsCommon g s v → is_common (graph_family g) s v ≡ true
common-in_family g s v c = common-from (graph_family g) s v
    (record { entry = graph_entry g c.inside; within = graph-contains g c.inside c.inside_edge; side = c.inside_side; end = c.inside_end })
    (record { entry = graph_entry g c.outside; within = graph-contains g c.outside c.outside_edge; side = not_from_false (s c.outside) c.outside_side; end = c.outside_end })

-- the family of a graph that is one block is tight
pub one_block-tight : (g : Multigraph) → IsOneBlock g → IsTight (graph_family g)
one_block-tight g block s a b = found (entry-from_one (graph_family g) s a) (entry-from_one (graph_family g) (λ n. not (s n)) b)
  where
    two : TwoCommon g s → (p q : ℕ) × (p ≢ q) × (is_common (graph_family g) s p ≡ true) × (is_common (graph_family g) s q ≡ true)
    two t = (t.first, t.second, t.differ, common-in_family g s t.first t.first_common, common-in_family g s t.second t.second_common)

    found : OnSide (graph_family g) s → OnSide (graph_family g) (λ n. not (s n)) → (p q : ℕ) × (p ≢ q) × (is_common (graph_family g) s p ≡ true) × (is_common (graph_family g) s q ≡ true)
    found i o =
        let e = graph-entry g i.entry i.within in
        let f = graph-entry g o.entry o.within in
        let on : s e.0 ≡ true = subst (λ (z : Entry). s z.name ≡ true) (sym e.2) i.side in
        let off : s f.0 ≡ false = not-true (s f.0) (subst (λ (z : Entry). not (s z.name) ≡ true) (sym f.2) o.side) in
        elim (block.same_block e.0 f.0 e.1 f.1) [
          | inl same ↦ absurd (both_ways (s f.0) off (ap s (sym same) ∙ on))
          | inr c ↦ two (cycle-two_common g s c.start c.along e.0 f.0 c.cycle c.first_on c.second_on on off)
        ]
