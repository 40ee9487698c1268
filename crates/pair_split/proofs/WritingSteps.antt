-- Steps of writing out the components of a state.
use Rattle.std.proofs.Common.{◌≡◌, ℕ, ◌+◌, ◌<◌, ◌≤◌, inl, inr, List, [], ◌∷◌, ◌++◌, length, map, take, slice_index_or, slice_set, refl, sym, ap, ◌∙◌, subst, arith, Contains}
use Rattle.std.proofs.lemmas.Bool.{cases_eq}
use Rattle.std.proofs.lemmas.List.{length-map, length-append, get_or-map, get_or_default, get_or_append_left, get_or_push, get_or-set_same, get_or-set_other, take_all}
use Rattle.std.proofs.lemmas.List.Elements.{Contains-append_left, Contains-push, Contains-push_cases}
use Rattle.multigraph.specs.Graph.{Multigraph, edge_count}
use Rattle.pair_split.specs.Family.{Entry}
use Rattle.pair_split.specs.Edges.{entry_ends}
use Rattle.pair_split.specs.Bridges.{entry_of, family_of, HaveNamesBelow}
use Rattle.pair_split.specs.Split.{piece_ends, component_at, items_of}
use Rattle.pair_split.specs.State.{Part, SplitState, part_at, own_at, layer, family_at, IsWrittenIn, AreWritten, AreSplitComponents, IsSplitState}
use Rattle.pair_split.specs.Splitting.{part_of, state_of}
use Rattle.pair_split.specs.Writing.{IsListed, AreUps, HavePartNamesBelow, finished_at, ArePartsWritten}
use Rattle.pair_split.specs.declared.family.NamedEdge.{NamedEdge}
use Rattle.pair_split.specs.declared.splitting.Finished.{Finished}
use Rattle.pair_split.specs.declared.components.Comp.{Comp}
use Rattle.pair_split.specs.declared.components.Piece.{Piece}
use Rattle.pair_split.specs.declared.components.Kind.{Kind}
use Rattle.pair_split.proofs.Elements.{contains-cases}
use Rattle.pair_split.proofs.GraphFamily.{all-from_contained}
use Rattle.pair_split.proofs.Marking.{nothing, family-more}
use Rattle.pair_split.proofs.Layers.{layer-part, layer-current, layer-cases, family-part, family-current}
use Rattle.pair_split.proofs.SplitSteps.{names-within}

-- what is noted while the edges of a layer are gone through
abbrev pub IsNoted : ℕ → ℕ → List NamedEdge → List ℕ → List ℕ → Type 0
IsNoted m layer edges old ups =
    ((entry : Entry) (c : ℕ) → Contains (family_of edges) entry → entry.name ≡ m + c → slice_index_or ups c 0 ≡ layer)
    × ((c : ℕ) → ((entry : Entry) → Contains (family_of edges) entry → entry.name ≡ m + c → ⊥) → slice_index_or ups c 0 ≡ slice_index_or old c 0)

-- one edge more
noted-more : (m at : ℕ) (edges : List NamedEdge) (i : ℕ) (old ups new : List ℕ) → i < length edges → IsNoted m at (take i edges) old ups
    → ((c : ℕ) → (slice_index_or edges i nothing).name ≡ m + c → slice_index_or new c 0 ≡ at)
    → ((c : ℕ) → ((slice_index_or edges i nothing).name ≡ m + c → ⊥) → slice_index_or new c 0 ≡ slice_index_or ups c 0) → IsNoted m at (take (i + 1) edges) old new
noted-more m at edges i old ups new l h on off = (noted, kept)
  where
    e : Entry
    e = entry_of (slice_index_or edges i nothing)

    noted : (entry : Entry) (c : ℕ) → Contains (family_of (take (i + 1) edges)) entry → entry.name ≡ m + c → slice_index_or new c 0 ≡ at
    noted entry c w n = elim (Contains-push_cases (family_of (take i edges)) (entry_of (slice_index_or edges i nothing)) entry (subst (λ (k : List Entry). Contains k entry) (family-more edges i nothing l) w)) [
      | inl d ↦ elim (cases_eq (slice_index_or edges i nothing).name (m + c)) [ inl s ↦ on c s | inr s ↦ off c s ∙ h.0 entry c d n ]
      | inr s ↦ on c (ap (λ (z : Entry). z.name) s ∙ n)
    ]

    kept : (c : ℕ) → ((entry : Entry) → Contains (family_of (take (i + 1) edges)) entry → entry.name ≡ m + c → ⊥) → slice_index_or new c 0 ≡ slice_index_or old c 0
    kept c none =
        off c (none (entry_of (slice_index_or edges i nothing)) (subst (λ (k : List Entry). Contains k (entry_of (slice_index_or edges i nothing))) (sym (family-more edges i nothing l)) (Contains-push (family_of (take i edges)) (entry_of (slice_index_or edges i nothing)))))
        ∙ h.1 c (λ entry w. none entry (subst (λ (k : List Entry). Contains k entry) (sym (family-more edges i nothing l)) (Contains-append_left (family_of (take i edges)) (entry_of (slice_index_or edges i nothing) ∷ []) entry w)))

-- a virtual edge is noted
pub noted-set : (m at : ℕ) (edges : List NamedEdge) (i : ℕ) (old ups : List ℕ) (place : ℕ) → i < length edges → IsNoted m at (take i edges) old ups → (slice_index_or edges i nothing).name ≡ m + place → place < length ups → IsNoted m at (take (i + 1) edges) old (slice_set ups place at)
noted-set m at edges i old ups place l h n w = noted-more m at edges i old ups (slice_set ups place at) l h
    (λ c s. subst (λ (k : ℕ). slice_index_or (slice_set ups place at) k 0 ≡ at) (omega (arith, n, s)) (get_or-set_same ups place at 0 w))
    (λ c s. get_or-set_other ups place c at 0 (λ e. s (n ∙ ap (λ (k : ℕ). m + k) (sym e))))

-- an edge of the graph is passed over
pub noted-skip : (m at : ℕ) (edges : List NamedEdge) (i : ℕ) (old ups : List ℕ) → i < length edges → IsNoted m at (take i edges) old ups → (slice_index_or edges i nothing).name < m → IsNoted m at (take (i + 1) edges) old ups
noted-skip m at edges i old ups l h n = noted-more m at edges i old ups ups l h (λ c s. absurd (omega (arith, n, s))) (λ c s. refl)

-- all edges
pub noted-all : (m at : ℕ) (edges : List NamedEdge) (i : ℕ) (old ups : List ℕ) → length edges ≤ i → IsNoted m at (take i edges) old ups → IsNoted m at edges old ups
noted-all m at edges i old ups l h = subst (λ (k : List NamedEdge). IsNoted m at k old ups) (take_all i edges l) h

-- a component that is read at its place
pub read-finished : (parts : List Finished) (k : ℕ) (finished : Finished) → k < length parts → finished ≡ slice_index_or parts k finished → finished ≡ finished_at parts k
read-finished parts k finished l e = e ∙ get_or_default parts k finished _ l

-- the finished component of the state
pub part-finished : (parts : List Finished) (current : List NamedEdge) (k : ℕ) → k < length parts → part_at (state_of parts current) k ≡ part_of (finished_at parts k)
part-finished parts current k l = get_or-map part_of parts k _ _ l

-- its layer
pub layer-finished : (parts : List Finished) (current : List NamedEdge) (k : ℕ) → k < length parts → layer (state_of parts current) k ≡ family_of (finished_at parts k).edges
layer-finished parts current k l = layer-part (state_of parts current) k (omega (arith, l, length-map parts part_of)) ∙ ap (λ (part : Part). part.entries) (part-finished parts current k l)

-- the last layer
pub layer-last : (parts : List Finished) (current : List NamedEdge) → layer (state_of parts current) (length parts) ≡ family_of current
layer-last parts current = ap (layer (state_of parts current)) (sym (length-map parts part_of)) ∙ layer-current (state_of parts current)

-- the current family is written out as component k
abbrev pub IsLastWritten : ℕ → List NamedEdge → List ℕ → ℕ → Comp → Type 0
IsLastWritten m current ups k last =
    (s : SplitState) → ((entry : Entry) → Contains (family_of current) entry → entry.name ≡ m + k → Contains (layer s (slice_index_or ups k 0)) entry) → AreWritten m s k (family_of current) last.items

module _ (m : ℕ) (parts : List Finished) (current : List NamedEdge) (listed : IsListed m (state_of parts current)) where
  abbrev state : SplitState
  state = state_of parts current

  -- names of a layer
  layer-names : (k : ℕ) (edges : List NamedEdge) (bound : ℕ) → layer state k ≡ family_of edges → bound ≡ length parts → HaveNamesBelow (m + bound) edges
  layer-names k edges bound e b = names-within edges (m + bound) (all-from_contained (λ (entry : Entry). entry.name < m + bound) (family_of edges) (λ entry c.
      omega (arith, listed.below k entry (subst (λ (l : List Entry). Contains l entry) (sym e) c), b, length-map parts part_of)))

  pub finished-names : (k bound : ℕ) → k < length parts → bound ≡ length parts → HaveNamesBelow (m + bound) (finished_at parts k).edges
  finished-names k bound l b = layer-names k (finished_at parts k).edges bound (layer-finished parts current k l) b

  pub last-names : (bound : ℕ) → bound ≡ length parts → HaveNamesBelow (m + bound) current
  last-names bound b = layer-names (length parts) current bound (layer-last parts current) b

  -- the name of a component's own virtual edge
  pub own-name : (k : ℕ) → k < length parts → (finished_at parts k).own.name ≡ m + k
  own-name k l = ap (λ (part : Part). part.own.name) (sym (part-finished parts current k l)) ∙ listed.own_names k (omega (arith, l, length-map parts part_of))

  -- all names of finished components
  pub part-names : (bound : ℕ) → bound ≡ length parts → HavePartNamesBelow (m + bound) parts
  part-names bound b k d l = subst (λ (finished : Finished). (finished.own.name < m + bound) × HaveNamesBelow (m + bound) finished.edges) (get_or_default parts k _ d l) (omega (arith, own-name k l, b, l), finished-names k bound l b)

  -- after a layer more is noted, the layers so far are
  pub ups-more : (n : ℕ) (edges : List NamedEdge) (old ups : List ℕ) → layer state n ≡ family_of edges
      → ((k : ℕ) (entry : Entry) (c : ℕ) → k < n → Contains (layer state k) entry → entry.name ≡ m + c → slice_index_or old c 0 ≡ k)
      → IsNoted m n edges old ups
      → (k : ℕ) (entry : Entry) (c : ℕ) → k < n + 1 → Contains (layer state k) entry → entry.name ≡ m + c → slice_index_or ups c 0 ≡ k
  ups-more n edges old ups e h noted k entry c l w s = elim (cases_eq k n) [
    | inl i ↦ noted.0 entry c (subst (λ (z : List Entry). Contains z entry) (ap (layer state) i ∙ e) w) s ∙ sym i
    | inr d ↦ noted.1 c (λ other v t. d (listed.once k n entry other w (subst (λ (z : List Entry). Contains z other) (sym e) v) (s ∙ sym t))) ∙ h k entry c (omega (arith, l, d)) w s
  ]

  -- when all layers are noted, each virtual edge has its layer
  pub ups-all : (ups : List ℕ) → ((k : ℕ) (entry : Entry) (c : ℕ) → k < length parts + 1 → Contains (layer state k) entry → entry.name ≡ m + c → slice_index_or ups c 0 ≡ k) → AreUps m state ups
  ups-all ups h k entry c w s = h k entry c (elim (layer-cases state k entry w) [ inl l ↦ omega (arith, l, length-map parts part_of) | inr l ↦ omega (arith, l.0, length-map parts part_of) ]) w s

  module _ (ups : List ℕ) (are : AreUps m state ups) where
    -- an entry that is named as a virtual edge lies in the layer that is noted for it
    noted-layer : (k : ℕ) (entry : Entry) (c : ℕ) → Contains (layer state k) entry → entry.name ≡ m + c → Contains (layer state (slice_index_or ups c 0)) entry
    noted-layer k entry c w s = subst (λ (z : ℕ). Contains (layer state z) entry) (sym (are k entry c w s)) w

    -- the entries of a finished component lie in the layers that are noted for them
    part-noted : (k : ℕ) → k < length parts → (entry : Entry) → Contains (entry_of (finished_at parts k).own ∷ family_of (finished_at parts k).edges) entry → entry.name ≡ m + k → Contains (layer state (slice_index_or ups k 0)) entry
    part-noted k l entry w s = elim (contains-cases entry (entry_of (finished_at parts k).own) (family_of (finished_at parts k).edges) w) [
      | inl i ↦
          let o = listed.own_listed k (omega (arith, l, length-map parts part_of)) in
          let same : own_at state k ≡ entry = ap (λ (part : Part). part.own) (part-finished parts current k l) ∙ i in
          noted-layer o.0 entry k (subst (λ (z : Entry). Contains (layer state o.0) z) same o.1) s
      | inr d ↦ noted-layer k entry k (subst (λ (z : List Entry). Contains z entry) (sym (layer-finished parts current k l)) d) s
    ]

    -- the components of the state, once its parts and its current family are written out
    pub all-written : (kind : Kind) (comps : List Comp) (last : Comp) → ArePartsWritten m parts ups (length parts) comps → last.kind ≡ kind
        → IsLastWritten m current ups (length parts) last
        → AreSplitComponents m state kind (comps ++ last ∷ [])
    all-written kind comps last w k h = record {
      number = omega (arith, length-append comps (last ∷ []), w.number, length-map parts part_of);
      last_kind = ap (λ (comp : Comp). comp.kind) (at-last (length (map part_of parts)) (length-map parts part_of)) ∙ k;
      kinds = λ j l. ap (λ (comp : Comp). comp.kind) (at-part j (omega (arith, l, length-map parts part_of))) ∙ (w.kinds j (omega (arith, l, length-map parts part_of)) ∙ ap (λ (part : Part). part.kind) (sym (part-finished parts current j (omega (arith, l, length-map parts part_of)))));
      written = λ j l. elim (cases_eq j (length parts)) [
        | inl i ↦ subst (λ (z : ℕ). AreWritten m state z (family_at state z) (items_of (comps ++ last ∷ []) z)) (sym i) last-written
        | inr d ↦ part-written j (omega (arith, l, d, length-map parts part_of))
      ];
    }
      where
        at-part : (j : ℕ) → j < length parts → component_at (comps ++ last ∷ []) j ≡ component_at comps j
        at-part j l = get_or_append_left comps (last ∷ []) _ j (omega (arith, l, w.number))

        at-last : (j : ℕ) → j ≡ length parts → component_at (comps ++ last ∷ []) j ≡ last
        at-last j e = get_or_push comps last _ j (w.number ∙ sym e)

        part-written : (j : ℕ) → j < length parts → AreWritten m state j (family_at state j) (items_of (comps ++ last ∷ []) j)
        part-written j l =
            subst (λ (es : List Entry). AreWritten m state j es (items_of (comps ++ last ∷ []) j))
            (sym (family-part state j (omega (arith, l, length-map parts part_of)) ∙ (λ i. (part-finished parts current j l i).own ∷ layer-finished parts current j l i)))
            (subst (λ (comp : Comp). AreWritten m state j (entry_of (finished_at parts j).own ∷ family_of (finished_at parts j).edges) comp.items) (sym (at-part j l))
            (w.written j l state (part-noted j l)))

        last-written : AreWritten m state (length parts) (family_at state (length parts)) (items_of (comps ++ last ∷ []) (length parts))
        last-written =
            subst (λ (es : List Entry). AreWritten m state (length parts) es (items_of (comps ++ last ∷ []) (length parts)))
            (sym (ap (family_at state) (sym (length-map parts part_of)) ∙ family-current state))
            (subst (λ (comp : Comp). AreWritten m state (length parts) (family_of current) comp.items) (sym (at-last (length parts) refl))
            (h state (λ entry c s. noted-layer (length parts) entry (length parts) (subst (λ (z : List Entry). Contains z entry) (sym (layer-last parts current)) c) s)))

-- one piece more
pub written-push : (m : ℕ) (st : SplitState) (k : ℕ) (entries : List Entry) (pieces : List Piece) (entry : Entry) (piece : Piece) → AreWritten m st k entries pieces
    → piece_ends piece ≡ entry_ends entry → IsWrittenIn m st k entry piece.what → AreWritten m st k (entries ++ entry ∷ []) (pieces ++ piece ∷ [])
written-push m st k [] [] entry piece w e h = ((e, h), tt)
written-push m st k [] (p ∷ pieces) entry piece w e h = absurd w
written-push m st k (x ∷ entries) [] entry piece w e h = absurd w
written-push m st k (x ∷ entries) (p ∷ pieces) entry piece w e h = (w.0, written-push m st k entries pieces entry piece w.1 e h)

-- one finished component more
pub parts-more : (m : ℕ) (parts : List Finished) (ups : List ℕ) (n : ℕ) (comps : List Comp) (comp : Comp) (finished : Finished) → n < length parts → finished ≡ slice_index_or parts n finished → ArePartsWritten m parts ups n comps → comp.kind ≡ finished.kind
    → ((state : SplitState) → ((entry : Entry) → Contains (entry_of finished.own ∷ family_of finished.edges) entry → entry.name ≡ m + n → Contains (layer state (slice_index_or ups n 0)) entry) → AreWritten m state n (entry_of finished.own ∷ family_of finished.edges) comp.items)
    → ArePartsWritten m parts ups (n + 1) (comps ++ comp ∷ [])
parts-more m parts ups n comps comp finished l r w k h = record {
  number = omega (arith, length-append comps (comp ∷ []), w.number);
  kinds = λ j b. elim (cases_eq j n) [
    | inl i ↦ ap (λ (c : Comp). c.kind) (at-last j i) ∙ (k ∙ ap (λ (c : Finished). c.kind) (read-finished parts n finished l r ∙ ap (finished_at parts) (sym i)))
    | inr d ↦ ap (λ (c : Comp). c.kind) (at-part j (omega (arith, b, d))) ∙ w.kinds j (omega (arith, b, d))
  ];
  written = λ j b. elim (cases_eq j n) [
    | inl i ↦ subst W (sym i) (subst (λ (c : Comp). V n (finished_at parts n) c) (sym (at-last n refl)) (subst (λ (c : Finished). V n c comp) (read-finished parts n finished l r) h))
    | inr d ↦ subst (λ (c : Comp). V j (finished_at parts j) c) (sym (at-part j (omega (arith, b, d)))) (w.written j (omega (arith, b, d)))
  ];
}
  where
    V : ℕ → Finished → Comp → Type 0
    V j finished comp = (state : SplitState) → ((entry : Entry) → Contains (entry_of finished.own ∷ family_of finished.edges) entry → entry.name ≡ m + j → Contains (layer state (slice_index_or ups j 0)) entry) → AreWritten m state j (entry_of finished.own ∷ family_of finished.edges) comp.items

    W : ℕ → Type 0
    W j = V j (finished_at parts j) (component_at (comps ++ comp ∷ []) j)

    at-part : (j : ℕ) → j < n → component_at (comps ++ comp ∷ []) j ≡ component_at comps j
    at-part j b = get_or_append_left comps (comp ∷ []) _ j (omega (arith, b, w.number))

    at-last : (j : ℕ) → j ≡ n → component_at (comps ++ comp ∷ []) j ≡ comp
    at-last j e = get_or_push comps comp _ j (w.number ∙ sym e)

-- a state of splitting is listed
pub state-listed : (g : Multigraph) (state : SplitState) → IsSplitState g state → IsListed (edge_count g) state
state-listed g state s = record {
  own_names = s.own_names;
  own_listed = λ c l. let w = s.own_listed c l in (w.0, w.2);
  below = λ k entry c. elim (s.nothing_else k entry c) [
    | inl e ↦ omega (arith, e.1, ap (λ (z : Entry). z.name) e.2)
    | inr e ↦ omega (arith, e.1, ap (λ (z : Entry). z.name) e.2, s.own_names e.0 e.1)
  ];
  once = s.once;
}
