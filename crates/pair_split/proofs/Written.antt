-- The components of a state, written as lists of pieces: their links form a tree.
use Rattle.std.proofs.Common.{◌≡◌, ◌≢◌, ℕ, zero, suc, ◌+◌, ◌-◌, ◌<◌, ◌≤◌, ◌⊎◌, inl, inr, true, List, [], ◌∷◌, length, map, slice_index_or, refl, sym, ap, ap₂, ◌∙◌, subst, arith, Contains}
use Rattle.std.proofs.lemmas.Bool.{cases_lt, false_from_ne_true}
use Rattle.std.proofs.lemmas.List.{get_or_past, get_or_default}
use Rattle.std.proofs.lemmas.List.Elements.{Contains-get_or}
use Rattle.permutations.specs.Members.{is_member, is_distinct}
use Rattle.permutations.proofs.Members.{distinct-cons}
use Rattle.multigraph.specs.Graph.{Multigraph, edge_count}
use Rattle.pair_split.specs.Family.{Entry, names}
use Rattle.pair_split.specs.Edges.{entry_ends, family_skeleton}
use Rattle.pair_split.specs.Skeleton.{SameEnds}
use Rattle.pair_split.specs.Split.{component_at, items_of, item_at, piece_ends, StandsFor, IsTree, AreLinked}
use Rattle.pair_split.specs.State.{SplitState, own_at, layer, family_at, IsWrittenIn, AreWritten, AreSplitComponents, IsSplitState}
use Rattle.pair_split.specs.declared.components.Kind.{Kind}
use Rattle.pair_split.specs.declared.components.What.{What}
use Rattle.pair_split.specs.declared.components.What.TheVariants.{Real, Link}
use Rattle.pair_split.specs.declared.components.Piece.{Piece}
use Rattle.pair_split.specs.declared.components.Comp.{Comp}
use Rattle.pair_split.proofs.Elements.{contains-here, contains-later, contains-cases}
use Rattle.pair_split.proofs.Names.{member-name, same-place}
use Rattle.pair_split.proofs.Layers.{layer-in, layer-current, family-part, family-current}
use Rattle.pair_split.proofs.Links.{no_piece}

-- an entry where there is none
abbrev pub no_entry : Entry
no_entry = record { name = 0; first = 0; second = 0 }

-- pieces that are these entries are as many
pub written-length : (m : ℕ) (state : SplitState) (k : ℕ) (entries : List Entry) (pieces : List Piece) → AreWritten m state k entries pieces → length pieces ≡ length entries
written-length m state k [] [] w = refl
written-length m state k [] (piece ∷ pieces) w = absurd w
written-length m state k (entry ∷ entries) [] w = absurd w
written-length m state k (entry ∷ entries) (piece ∷ pieces) w = omega (arith, written-length m state k entries pieces w.1)

-- and each is the entry at its place
pub written-at : (m : ℕ) (state : SplitState) (k : ℕ) (entries : List Entry) (pieces : List Piece) → AreWritten m state k entries pieces → (i : ℕ) → i < length pieces
    → (piece_ends (slice_index_or pieces i no_piece) ≡ entry_ends (slice_index_or entries i no_entry)) × IsWrittenIn m state k (slice_index_or entries i no_entry) (slice_index_or pieces i no_piece).what
written-at m state k [] [] w i l = absurd (omega (arith, l))
written-at m state k [] (piece ∷ pieces) w i l = absurd w
written-at m state k (entry ∷ entries) [] w i l = absurd w
written-at m state k (entry ∷ entries) (piece ∷ pieces) w zero l = w.0
written-at m state k (entry ∷ entries) (piece ∷ pieces) w (suc i) l = written-at m state k entries pieces w.1 i (omega (arith, l))

-- they have the same skeleton
pub written-skeleton : (m : ℕ) (state : SplitState) (k : ℕ) (entries : List Entry) (pieces : List Piece) → AreWritten m state k entries pieces → map piece_ends pieces ≡ family_skeleton entries
written-skeleton m state k [] [] w = refl
written-skeleton m state k [] (piece ∷ pieces) w = absurd w
written-skeleton m state k (entry ∷ entries) [] w = absurd w
written-skeleton m state k (entry ∷ entries) (piece ∷ pieces) w = ap₂ (λ (x : ℕ × ℕ) (l : List (ℕ × ℕ)). x ∷ l) (w.0).0 (written-skeleton m state k entries pieces w.1)

-- an edge is written as an edge
pub written-edge : (m : ℕ) (state : SplitState) (k : ℕ) (entry : Entry) (what : What) → IsWrittenIn m state k entry what → entry.name < m → what ≡ Real entry.name
written-edge m state k entry (Real e) w l = ap Real (sym w.1)
written-edge m state k entry (Link j) w l = elim w [ inl h ↦ absurd (omega (arith, l, h.0)) | inr h ↦ absurd (omega (arith, l, h.0)) ]

-- the virtual edge of another component is written as a link to it
written-other : (m : ℕ) (state : SplitState) (k : ℕ) (entry : Entry) (what : What) (c : ℕ) → IsWrittenIn m state k entry what → entry.name ≡ m + c → c ≢ k → what ≡ Link c
written-other m state k entry (Real e) c w n d = absurd (omega (arith, w.0, w.1, n))
written-other m state k entry (Link j) c w n d = elim w [ inl h ↦ ap Link (omega (arith, h.0, n)) | inr h ↦ absurd (d (omega (arith, h.0, n))) ]

-- the component's own virtual edge is written as a link to the component in which it stands as well
written-own : (m : ℕ) (state : SplitState) (k : ℕ) (entry : Entry) (what : What) → IsWrittenIn m state k entry what → entry.name ≡ m + k → (j : ℕ) × (what ≡ Link j) × Contains (layer state j) entry
written-own m state k entry (Real e) w n = absurd (omega (arith, w.0, w.1, n))
written-own m state k entry (Link j) w n = elim w [ inl h ↦ absurd (h.1 (omega (arith, h.0, n))) | inr h ↦ (j, refl, h.1) ]

module _ (g : Multigraph) (state : SplitState) (s : IsSplitState g state) (kind : Kind) (comps : List Comp) (w : AreSplitComponents (edge_count g) state kind comps) where
  -- the number of the last component
  abbrev r : ℕ
  r = length state.parts

  -- the entry at place i of component k
  abbrev entry_at : ℕ → ℕ → Entry
  entry_at k i = slice_index_or (family_at state k) i no_entry

  -- an item of a component is one of at most r
  item-in : (k i : ℕ) → i < length (items_of comps k) → k ≤ r
  item-in k i l = elim (cases_lt k (length comps)) [
    | inl b ↦ omega (arith, b, w.number)
    | inr b ↦ absurd (omega (arith, l, ap (λ (comp : Comp). length comp.items) (get_or_past comps k (component_at [] 0) b)))
  ]

  -- as many items as entries
  items-length : (k : ℕ) → k ≤ r → length (items_of comps k) ≡ length (family_at state k)
  items-length k l = written-length (edge_count g) state k (family_at state k) (items_of comps k) (w.written k l)

  -- an item has the ends of its entry
  pub item-ends : (k i : ℕ) → i < length (items_of comps k) → piece_ends (item_at comps k i) ≡ entry_ends (entry_at k i)
  item-ends k i l = (written-at (edge_count g) state k (family_at state k) (items_of comps k) (w.written k (item-in k i l)) i l).0

  pub item-written : (k i : ℕ) → i < length (items_of comps k) → IsWrittenIn (edge_count g) state k (entry_at k i) (item_at comps k i).what
  item-written k i l = (written-at (edge_count g) state k (family_at state k) (items_of comps k) (w.written k (item-in k i l)) i l).1

  -- the virtual edge of a component stands in later layers only
  pub listed-later : (c k : ℕ) → c < r → Contains (layer state k) (own_at state c) → c < k
  listed-later c k l b = let o = s.own_listed c l in omega (arith, o.1, s.once k o.0 (own_at state c) (own_at state c) b o.2 refl)

  -- an entry of a component: its own virtual edge at the first place, or one of its layer
  pub entry-cases : (k i : ℕ) → i < length (items_of comps k) → ((k < r) × (entry_at k i ≡ own_at state k)) ⊎ Contains (layer state k) (entry_at k i)
  entry-cases k i l = elim (cases_lt k r) [
    | inl b ↦ elim (contains-cases (entry_at k i) (own_at state k) (layer state k) (subst (λ (z : List Entry). Contains z (entry_at k i)) (family-part state k b) within)) [ inl e ↦ inl (b, sym e) | inr c ↦ inr c ]
    | inr b ↦ let e : k ≡ r = omega (arith, b, item-in k i l) in
        inr (subst (λ (z : List Entry). Contains z (entry_at k i)) (ap (family_at state) e ∙ family-current state ∙ sym (ap (layer state) e ∙ layer-current state)) within)
  ]
    where
      within : Contains (family_at state k) (entry_at k i)
      within = Contains-get_or (family_at state k) i no_entry (omega (arith, l, items-length k (item-in k i l)))

  -- the place of an entry of a component
  place-of : (k : ℕ) (x : Entry) → k ≤ r → Contains (family_at state k) x → (i : ℕ) × (i < length (items_of comps k)) × (entry_at k i ≡ x)
  place-of k x l c = (c.0, omega (arith, c.1, items-length k l), get_or_default (family_at state k) c.0 no_entry x c.1 ∙ c.2)

  -- an entry of a layer is one of the component
  layer-family : (k : ℕ) (x : Entry) → Contains (layer state k) x → Contains (family_at state k) x
  layer-family k x c = elim (cases_lt k r) [
    | inl b ↦ subst (λ (z : List Entry). Contains z x) (sym (family-part state k b)) (contains-later x (own_at state k) (layer state k) c)
    | inr b ↦ let e : k ≡ r = omega (arith, b, layer-in state k x c) in
        subst (λ (z : List Entry). Contains z x) (ap (layer state) e ∙ layer-current state ∙ sym (ap (family_at state) e ∙ family-current state)) c
  ]

  -- the place of an entry of a layer
  pub layer-place : (k : ℕ) (x : Entry) → Contains (layer state k) x → (i : ℕ) × (i < length (items_of comps k)) × (entry_at k i ≡ x)
  layer-place k x c = place-of k x (layer-in state k x c) (layer-family k x c)

  -- no two entries of a component have one name
  names-once : (k : ℕ) → k ≤ r → is_distinct (names (family_at state k)) ≡ true
  names-once k l = elim (cases_lt k r) [
    | inl b ↦ subst (λ (z : List Entry). is_distinct (names z) ≡ true) (sym (family-part state k b))
        (distinct-cons (own_at state k).name (names (layer state k)) (false_from_ne_true (is_member (own_at state k).name (names (layer state k))) (λ m.
        let x = member-name (layer state k) (own_at state k).name m in
        let o = s.own_listed k b in
        omega (arith, o.1, s.once k o.0 x.0 (own_at state k) x.1 o.2 x.2))) (s.families k).names_once)
    | inr b ↦ let e : k ≡ r = omega (arith, b, l) in
        subst (λ (z : List Entry). is_distinct (names z) ≡ true) (ap (layer state) e ∙ layer-current state ∙ sym (ap (family_at state) e ∙ family-current state)) (s.families k).names_once
  ]

  -- places of a component with one name are the same
  pub one-place : (k i h : ℕ) → i < length (items_of comps k) → h < length (items_of comps k) → (entry_at k i).name ≡ (entry_at k h).name → i ≡ h
  one-place k i h l b e =
      let n : length (items_of comps k) ≡ length (family_at state k) = items-length k (item-in k i l) in
      same-place (family_at state k) (names-once k (item-in k i l)) i h no_entry (omega (arith, l, n)) (omega (arith, b, n)) e

  -- a link of component k to component j: the one has the virtual edge of the other
  abbrev IsChild : ℕ → ℕ → ℕ → Type 0
  IsChild k i j = (j < r) × Contains (layer state k) (own_at state j) × (entry_at k i ≡ own_at state j)

  abbrev IsParent : ℕ → ℕ → ℕ → Type 0
  IsParent k i j = (k < r) × Contains (layer state j) (own_at state k) × (entry_at k i ≡ own_at state k)

  pub link-cases : (k i j : ℕ) → StandsFor comps k i (Link j) → IsChild k i j ⊎ IsParent k i j
  link-cases k i j h = elim (subst (IsWrittenIn (edge_count g) state k (entry_at k i)) h.1 (item-written k i h.0)) [
    | inl x ↦ elim (entry-cases k i h.0) [
      | inl a ↦ absurd (x.1 (omega (arith, x.0, s.own_names k a.0, ap (λ (z : Entry). z.name) a.1)))
      | inr c ↦ elim (s.nothing_else k (entry_at k i) c) [
        | inl e ↦ absurd (omega (arith, x.0, e.1, ap (λ (z : Entry). z.name) e.2))
        | inr d ↦ let q : d.0 ≡ j = omega (arith, x.0, s.own_names d.0 d.1, ap (λ (z : Entry). z.name) d.2) in
            let is : entry_at k i ≡ own_at state j = d.2 ∙ ap (own_at state) q in
            inl (omega (arith, d.1, q), subst (Contains (layer state k)) is c, is)
      ]
    ]
    | inr x ↦ elim (entry-cases k i h.0) [
      | inl a ↦ inr (a.0, subst (Contains (layer state j)) a.1 x.1, a.1)
      | inr c ↦ elim (s.nothing_else k (entry_at k i) c) [
        | inl e ↦ absurd (omega (arith, x.0, e.1, ap (λ (z : Entry). z.name) e.2))
        | inr d ↦ let q : d.0 ≡ k = omega (arith, x.0, s.own_names d.0 d.1, ap (λ (z : Entry). z.name) d.2) in
            absurd (omega (arith, q, listed-later d.0 k d.1 (subst (Contains (layer state k)) d.2 c)))
      ]
    ]
  ]

  -- the virtual edge of component c in the layer of k is a link from k to c
  pub child-link : (c k : ℕ) → c < r → Contains (layer state k) (own_at state c) → (i : ℕ) × StandsFor comps k i (Link c) × (entry_at k i ≡ own_at state c)
  child-link c k l b =
      let p = layer-place k (own_at state c) b in
      let n : (entry_at k p.0).name ≡ edge_count g + c = ap (λ (z : Entry). z.name) p.2 ∙ s.own_names c l in
      (p.0, (p.1, written-other (edge_count g) state k (entry_at k p.0) (item_at comps k p.0).what c (item-written k p.0 p.1) n (λ e. omega (arith, e, listed-later c k l b))), p.2)

  -- the place of a component's own virtual edge
  own-place : (c : ℕ) → c < r → (i : ℕ) × (i < length (items_of comps c)) × (entry_at c i ≡ own_at state c)
  own-place c l = place-of c (own_at state c) (omega (arith, l)) (subst (λ (z : List Entry). Contains z (own_at state c)) (sym (family-part state c l)) (contains-here (own_at state c) (layer state c)))

  -- it is written as a link to k
  own-written : (c k i : ℕ) → c < r → Contains (layer state k) (own_at state c) → i < length (items_of comps c) → entry_at c i ≡ own_at state c → (item_at comps c i).what ≡ Link k
  own-written c k i l b h e =
      let n : (entry_at c i).name ≡ edge_count g + c = ap (λ (z : Entry). z.name) e ∙ s.own_names c l in
      let o = written-own (edge_count g) state c (entry_at c i) (item_at comps c i).what (item-written c i h) n in
      o.1 ∙ ap Link (s.once o.0 k (own_at state c) (own_at state c) (subst (Contains (layer state o.0)) e o.2) b refl)

  -- in c itself it is a link from c to k
  pub own-link : (c k : ℕ) → c < r → Contains (layer state k) (own_at state c) → (i : ℕ) × StandsFor comps c i (Link k) × (entry_at c i ≡ own_at state c)
  own-link c k l b = let p = own-place c l in (p.0, (p.1, own-written c k p.0 l b p.1 p.2), p.2)

  -- the component in which the virtual edge of c stands as well
  up-at : (c : ℕ) → (c < r) ⊎ (r ≤ c) → ℕ
  up-at c (inl l) = (s.own_listed c l).0
  up-at c (inr l) = 0

  abbrev up : ℕ → ℕ
  up c = up-at c (cases_lt c r)

  up-at-listed : (c : ℕ) (h : (c < r) ⊎ (r ≤ c)) → c < r → Contains (layer state (up-at c h)) (own_at state c)
  unfolding up-at
  up-at-listed c (inl l) b = (s.own_listed c l).2
  up-at-listed c (inr l) b = absurd (omega (arith, l, b))

  up-listed : (c : ℕ) → c < r → Contains (layer state (up c)) (own_at state c)
  up-listed c l = up-at-listed c (cases_lt c r) l

  up-only : (c k : ℕ) → c < r → Contains (layer state k) (own_at state c) → up c ≡ k
  up-only c k l b = s.once (up c) k (own_at state c) (own_at state c) (up-listed c l) b refl

  -- the links form a tree, with the current family as the root
  tree : IsTree comps
  tree = record {
    root = r;
    parent = up;
    rank = λ c. r - c;
    root_in = omega (arith, w.number);
    parent_in = λ k l n. let b : k < r = omega (arith, l, n, w.number) in omega (arith, w.number, layer-in state (up k) (own_at state k) (up-listed k b));
    rank_falls = λ k l n. let b : k < r = omega (arith, l, n, w.number) in omega (arith, b, listed-later k (up k) b (up-listed k b), layer-in state (up k) (own_at state k) (up-listed k b));
    to_parent = λ k l n. let b : k < r = omega (arith, l, n, w.number) in let o = own-link k (up k) b (up-listed k b) in (o.0, o.1);
    linked = λ k j h. elim (link-cases k h.0 j h.1) [
      | inl c ↦ inr (λ e. omega (arith, e, c.0), up-only j k c.0 c.1)
      | inr p ↦ inl (λ e. omega (arith, e, p.0), up-only k j p.0 p.1)
    ];
  }

  once : (k j i h : ℕ) → StandsFor comps k i (Link j) → StandsFor comps k h (Link j) → i ≡ h
  once k j i h a b = elim (link-cases k i j a) [
    | inl x ↦ elim (link-cases k h j b) [
      | inl y ↦ one-place k i h a.0 b.0 (ap (λ (z : Entry). z.name) (x.2 ∙ sym y.2))
      | inr y ↦ absurd (omega (arith, listed-later j k x.0 x.1, listed-later k j y.0 y.1))
    ]
    | inr x ↦ elim (link-cases k h j b) [
      | inl y ↦ absurd (omega (arith, listed-later j k y.0 y.1, listed-later k j x.0 x.1))
      | inr y ↦ one-place k i h a.0 b.0 (ap (λ (z : Entry). z.name) (x.2 ∙ sym y.2))
    ]
  ]

  -- two items of one entry have the same ends
  ends-agree : (k i j h : ℕ) → i < length (items_of comps k) → h < length (items_of comps j) → entry_at k i ≡ entry_at j h → SameEnds (piece_ends (item_at comps k i)) (piece_ends (item_at comps j h))
  ends-agree k i j h l b e =
      let q : piece_ends (item_at comps k i) ≡ piece_ends (item_at comps j h) = item-ends k i l ∙ ap entry_ends e ∙ sym (item-ends j h b) in
      inl (ap (λ (z : ℕ × ℕ). z.0) q, ap (λ (z : ℕ × ℕ). z.1) q)

  back : (k j i : ℕ) → StandsFor comps k i (Link j) → (h : ℕ) × StandsFor comps j h (Link k) × SameEnds (piece_ends (item_at comps k i)) (piece_ends (item_at comps j h))
  back k j i a = elim (link-cases k i j a) [
    | inl x ↦ let o = own-link j k x.0 x.1 in (o.0, o.1, ends-agree k i j o.0 a.0 (o.1).0 (x.2 ∙ sym o.2))
    | inr x ↦ let o = child-link k j x.0 x.1 in (o.0, o.1, ends-agree k i j o.0 a.0 (o.1).0 (x.2 ∙ sym o.2))
  ]

  -- the components are linked as they should be
  pub state-linked : AreLinked comps
  state-linked = record { once = once; back = back; tree = tree }

  -- the root is the current family
  pub root-is : state-linked.tree.root ≡ r
  unfolding state-linked tree
  root-is = refl

  -- the parent of c is the component in whose layer its virtual edge is
  pub parent-is : (c k : ℕ) → c < r → Contains (layer state k) (own_at state c) → state-linked.tree.parent c ≡ k
  unfolding state-linked tree
  parent-is c k l b = up-only c k l b
