-- The steps of splitting a block: the start, and a minimal side made a finished component.
use Rattle.std.proofs.Common.{◌≡◌, ◌≢◌, ℕ, suc, ◌+◌, ◌<◌, ◌≤◌, inl, inr, Bool, false, not, List, [], ◌∷◌, ◌++◌, length, map, sym, ap, ◌∙◌, subst, arith, Contains, All, take, drop, ◌-◌, slice_index_or}
use Rattle.std.proofs.lemmas.Bool.{false_from_ne_true}
use Rattle.std.proofs.lemmas.List.{length-map, map-append, map_push, length-append, drop_more, take_rest}
use Rattle.std.proofs.lemmas.List.Elements.{All-contains}
use Rattle.permutations.specs.Members.{is_member}
use Rattle.multigraph.specs.Graph.{Multigraph, edge_count, ends_of, numbers_below, IsGraph}
use Rattle.multigraph.proofs.Below.{length-numbers_below}
use Rattle.pair_split.specs.Family.{Entry, names, on_side, off_side, IsFamily, IsTight, IsPrime}
use Rattle.pair_split.specs.Edges.{graph_entry, graph_family, family_skeleton}
use Rattle.graph_theory.specs.Block.{IsOneBlock}
use Rattle.pair_split.specs.Skeleton.{IsSkeleton}
use Rattle.multigraph.specs.Marks.{is_marked}
use Rattle.pair_split.specs.Bridges.{entry_of, family_of, HaveEndsBelow, HaveNamesBelow}
use Rattle.pair_split.specs.Search.{IsSearchable, IsMinimalSide}
use Rattle.pair_split.specs.State.{Part, SplitState, split_off, start_state, IsSplitState, AreSplitComponents}
use Rattle.pair_split.specs.Split.{IsSplit}
use Rattle.pair_split.specs.Splitting.{part_of, state_of, IsSplitting}
use Rattle.pair_split.specs.declared.family.NamedEdge.{NamedEdge}
use Rattle.pair_split.specs.declared.search.Side.{Side}
use Rattle.pair_split.specs.declared.splitting.Finished.{Finished}
use Rattle.pair_split.specs.declared.components.Comp.{Comp}
use Rattle.pair_split.specs.declared.components.Kind.TheVariants.{B}
use Rattle.pair_split.proofs.Elements.{contains-cases, contains-map, map-contains, filter-contains}
use Rattle.pair_split.proofs.Sides.{length-sides}
use Rattle.pair_split.proofs.Names.{member-name}
use Rattle.pair_split.proofs.GraphFamily.{all-from_contained, graph-entry, one_block-tight}
use Rattle.pair_split.proofs.Minimal.{minimal-prime}
use Rattle.pair_split.proofs.Layers.{layer-current, current-layer}
use Rattle.pair_split.proofs.Start.{state-start}
use Rattle.pair_split.proofs.Places.{state-tight}
use Rattle.pair_split.proofs.SplitOff.{family-cons, kept-family, state-split_off}
use Rattle.pair_split.proofs.Marking.{nothing}
use Rattle.pair_split.proofs.SmallBlock.{small-split}
use Rattle.pair_split.proofs.Searching.{separation-below}

-- marks for the names of a family's entries are marks for the edges
pub names-within : (edges : List NamedEdge) (bound : ℕ) → All (λ (entry : Entry). entry.name < bound) (family_of edges) → HaveNamesBelow bound edges
names-within edges bound h = all-from_contained (λ (edge : NamedEdge). edge.name < bound) edges (λ edge c. All-contains (λ (entry : Entry). entry.name < bound) (family_of edges) (entry_of edge) h (contains-map entry_of edge edges c))

-- ends of a family's entries are ends of the edges
ends-within : (edges : List NamedEdge) (n : ℕ) → ((entry : Entry) → Contains (family_of edges) entry → (entry.first < n) × (entry.second < n)) → HaveEndsBelow n edges
ends-within edges n h = all-from_contained (λ (edge : NamedEdge). (edge.first < n) × (edge.second < n)) edges (λ edge c. h (entry_of edge) (contains-map entry_of edge edges c))

-- the first ends and the second ends of a family's entries are below n
family-ends : (edges : List NamedEdge) (n : ℕ) → HaveEndsBelow n edges → (entry : Entry) → Contains (family_of edges) entry → (entry.first < n) × (entry.second < n)
family-ends edges n h entry c = let e = map-contains entry_of entry edges c in
    subst (λ (z : Entry). (z.first < n) × (z.second < n)) e.2 (All-contains (λ (edge : NamedEdge). (edge.first < n) × (edge.second < n)) edges e.0 h e.1)

module _ (g : Multigraph) (graph : IsGraph g) (block : IsOneBlock g) (parts : List Finished) (current : List NamedEdge) (s : IsSplitting g parts current) where
  abbrev state : SplitState
  state = state_of parts current

  -- the current family is a family
  pub current-family : IsFamily (family_of current)
  current-family = subst IsFamily (layer-current state) (s.state.families (length state.parts))

  -- and tight
  pub current-tight : IsTight (family_of current)
  current-tight = state-tight g state s.state (one_block-tight g block)

  -- a current family of four or more entries may have a 2-separation
  pub current-searchable : 4 ≤ length current → IsSearchable (family_of current)
  current-searchable l = record { family = current-family; tight = current-tight; four = subst (λ (k : ℕ). 4 ≤ k) (sym (length-map current entry_of)) l }

  -- its names are those of edges and of finished components
  current-name : (entry : Entry) → Contains (family_of current) entry → entry.name < edge_count g + length parts
  current-name entry c = elim (s.state.nothing_else (length state.parts) entry (current-layer state entry c)) [
    | inl e ↦ omega (arith, e.1, ap (λ (z : Entry). z.name) e.2)
    | inr e ↦ omega (arith, e.1, ap (λ (z : Entry). z.name) e.2, s.state.own_names e.0 e.1, length-map parts part_of)
  ]

  -- so they are below this bound
  pub current-names : (bound : ℕ) → edge_count g + length parts ≤ bound → HaveNamesBelow bound current
  current-names bound l = names-within current bound (all-from_contained (λ (entry : Entry). entry.name < bound) (family_of current) (λ entry c. omega (arith, l, current-name entry c)))

  module _ (side : Side) (minimal : IsMinimalSide (family_of current) side) where
    abbrev cut : ℕ → Bool
    cut n = is_marked side.marks.items n

    -- the virtual edge in place of the side
    abbrev own : Entry
    own = record { name = edge_count g + length parts; first = side.first; second = side.second }

    -- it and the side are a family
    pub inside-family : IsFamily (own ∷ on_side cut (family_of current))
    inside-family = family-cons own (on_side cut (family_of current)) minimal.separates.differ fresh (kept-family (λ (entry : Entry). cut entry.name) (family_of current) current-family)
      where
        fresh : is_member own.name (names (on_side cut (family_of current))) ≡ false
        fresh = false_from_ne_true (is_member own.name (names (on_side cut (family_of current)))) (λ m.
            let w = member-name (on_side cut (family_of current)) own.name m in
            let c = filter-contains (λ (entry : Entry). cut entry.name) w.0 (family_of current) w.1 in
            absurd (omega (arith, w.2, current-name w.0 c.0)))

    -- a prime one
    pub inside-prime : IsPrime (own ∷ on_side cut (family_of current))
    inside-prime = minimal-prime (family_of current) cut own minimal.separates current-tight minimal.minimal

    -- with the side made a finished component, the state is one of splitting the graph
    pub split_off-splitting : (new : Finished) (left : List NamedEdge) → entry_of new.own ≡ own → family_of new.edges ≡ on_side cut (family_of current) → family_of left ≡ own ∷ off_side cut (family_of current)
        → IsSkeleton new.kind (family_skeleton (own ∷ on_side cut (family_of current))) → new.kind ≢ B → IsSplitting g (parts ++ new ∷ []) left
    split_off-splitting new left is inside outside skeleton large = record {
      graph = graph;
      state = subst (IsSplitState g) (sym same) (state-split_off g state s.state cut new.kind own (ap (λ (k : ℕ). edge_count g + k) (sym (length-map parts part_of))) minimal.separates skeleton large);
      ends = ends-within left g.vertex_count (λ entry c. elim (contains-cases entry own (off_side cut (family_of current)) (subst (λ (l : List Entry). Contains l entry) outside c)) [
        | inl e ↦ subst (λ (z : Entry). (z.first < g.vertex_count) × (z.second < g.vertex_count)) e (separation-below current g.vertex_count s.ends cut side.first side.second minimal.separates)
        | inr o ↦ family-ends current g.vertex_count s.ends entry (filter-contains (λ (e : Entry). not (cut e.name)) entry (family_of current) o).0
      ]);
      three = omega (arith, sizes, minimal.separates.two_outside);
      few = omega (arith, s.few, sizes, minimal.separates.two_inside, length-append parts (new ∷ []), length-map current entry_of, length-sides (family_of current) cut);
    }
      where
        sizes : length left ≡ length (off_side cut (family_of current)) + 1
        sizes = omega (arith, length-map left entry_of, ap length outside)

        fresh-part : part_of new ≡ record { kind = new.kind; own = own; entries = on_side cut (family_of current) }
        fresh-part = λ i. record { kind = new.kind; own = is i; entries = inside i }

        same : state_of (parts ++ new ∷ []) left ≡ split_off state cut new.kind own
        same = λ i. record { parts = (map-append part_of parts (new ∷ []) ∙ ap (λ (p : Part). map part_of parts ++ p ∷ []) fresh-part) i; current = outside i }

    -- and fewer entries are left
    pub split_off-fewer : (left : List NamedEdge) → family_of left ≡ own ∷ off_side cut (family_of current) → length left < length current
    split_off-fewer left outside = omega (arith, length-map left entry_of, ap length outside, length-map current entry_of, length-sides (family_of current) cut, minimal.separates.two_inside)

-- at the start nothing is split
pub start-state : (g : Multigraph) → IsGraph g → (parts : List Finished) (current : List NamedEdge) → parts ≡ [] → family_of current ≡ graph_family g → IsSplitState g (state_of parts current)
start-state g graph parts current none all = subst (IsSplitState g) (sym same) (state-start g graph)
  where
    same : state_of parts current ≡ start_state g
    same = λ i. record { parts = map part_of (none i); current = all i }

-- the start of splitting a block of three or more edges
pub start-splitting : (g : Multigraph) → IsGraph g → (parts : List Finished) (current : List NamedEdge) → parts ≡ [] → family_of current ≡ graph_family g → 3 ≤ edge_count g → IsSplitting g parts current
start-splitting g graph parts current none all l = record {
  graph = graph;
  state = start-state g graph parts current none all;
  ends = ends-within current g.vertex_count (λ entry c.
      let e = graph-entry g entry (subst (λ (k : List Entry). Contains k entry) all c) in
      subst (λ (z : Entry). (z.first < g.vertex_count) × (z.second < g.vertex_count)) e.2 (graph.first_in e.0 e.1, graph.second_in e.0 e.1));
  three = omega (arith, l, sizes);
  few = omega (arith, sizes, ap length none);
}
  where
    sizes : length current ≡ edge_count g
    sizes = sym (length-map current entry_of) ∙ (ap length all ∙ (length-map (numbers_below (edge_count g)) (graph_entry g) ∙ length-numbers_below (edge_count g)))

-- a tight family of at most three entries is prime
pub small-prime : (entries : List Entry) → IsTight entries → length entries ≤ 3 → IsPrime entries
small-prime entries tight l = record { tight = tight; none = λ s p q c. absurd (omega (arith, l, c.two_inside, c.two_outside, length-sides entries s)) }

-- the marked edges, where lists go by two names
pub inside-is : (current given : List NamedEdge) (marks given-marks : List Bool) (inside made : List NamedEdge) → made ≡ inside → given ≡ current → given-marks ≡ marks
    → family_of inside ≡ on_side (is_marked given-marks) (family_of given) → family_of made ≡ on_side (is_marked marks) (family_of current)
inside-is current given marks given-marks inside made a b c h = ap family_of a ∙ (h ∙ (λ i. on_side (is_marked (c i)) (family_of (b i))))

-- the other edges, where lists go by two names
pub outside-is : (current given : List NamedEdge) (marks given-marks : List Bool) (left : List NamedEdge) (x y : Entry) → x ≡ y → given ≡ current → given-marks ≡ marks
    → family_of left ≡ x ∷ off_side (is_marked given-marks) (family_of given) → family_of left ≡ y ∷ off_side (is_marked marks) (family_of current)
outside-is current given marks given-marks left x y a b c h = h ∙ (λ i. a i ∷ off_side (is_marked (c i)) (family_of (b i)))

-- a virtual edge with the sum of two numbers as its name
pub own-is : (m r n k first second : ℕ) → n ≡ m → k ≡ r → entry_of (record { name = n + k; first = first; second = second }) ≡ record { name = m + r; first = first; second = second }
own-is m r n k first second a b = λ i. record { name = a i + b i; first = first; second = second }

-- a list in two parts: the first element and the rest
pub first-rest : (edges : List NamedEdge) → 3 ≤ length edges → family_of edges ≡ entry_of (slice_index_or edges 0 nothing) ∷ family_of (take (length edges - 1) (drop 1 edges))
first-rest edges l = ap family_of (drop_more edges 0 nothing (omega (arith, l)) ∙ ap (λ (es : List NamedEdge). slice_index_or edges 0 nothing ∷ es) (sym (take_rest edges 1)))

-- how many the rest are
pub rest-length : (edges : List NamedEdge) → 3 ≤ length edges → 2 ≤ length (take (length edges - 1) (drop 1 edges))
rest-length edges l = omega (arith, l, ap length (first-rest edges l), length-map edges entry_of, length-map (take (length edges - 1) (drop 1 edges)) entry_of)

-- the components of the start of a block of one edge or two are split components
pub start-split : (g : Multigraph) → IsGraph g → IsOneBlock g → edge_count g ≤ 2 → (parts : List Finished) (current : List NamedEdge) → parts ≡ [] → family_of current ≡ graph_family g → (comps : List Comp) → AreSplitComponents (edge_count g) (state_of parts current) B comps → IsSplit g comps
start-split g graph block few parts current none all comps w = small-split g graph block few comps (subst (λ (st : SplitState). AreSplitComponents (edge_count g) st B comps) (λ i. record { parts = map part_of (none i); current = all i }) w)

-- one more edge of the graph
pub graph-pushed : (g : Multigraph) (e first second : ℕ) (edges now : List NamedEdge) → (first, second) ≡ ends_of g e → now ≡ edges ++ record { name = e; first = first; second = second } ∷ [] → family_of edges ≡ map (graph_entry g) (numbers_below e) → family_of now ≡ map (graph_entry g) (numbers_below (e + 1))
graph-pushed g e first second edges now ends pushed before =
    let next : numbers_below (e + 1) ≡ numbers_below e ++ e ∷ [] = ap numbers_below (add-one e) in
    ap family_of pushed ∙ (map_push entry_of edges (record { name = e; first = first; second = second }) ∙ ((λ i. before i ++ record { name = e; first = (ends i).0; second = (ends i).1 } ∷ [])
    ∙ (sym (map_push (graph_entry g) (numbers_below e) e) ∙ ap (map (graph_entry g)) (sym next))))
  where
    add-one : (k : ℕ) → k + 1 ≡ suc k
    add-one k = omega arith
