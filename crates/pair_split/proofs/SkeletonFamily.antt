-- The skeleton of a component as a family, each item under its place; its common vertices are those of the graph, so that it
-- is tight where the graph is.
use Rattle.std.proofs.Common.{◌≡◌, ◌≢◌, ℕ, zero, suc, ◌+◌, ◌<◌, ◌≤◌, ◌==◌, inl, inr, Bool, true, not, List, [], ◌∷◌, length, map, slice_index_or, refl, sym, ap, ◌∙◌, subst, arith, Contains, All}
use Rattle.std.proofs.lemmas.Bool.{both_ways, not_from_false, true≢false, or_left, eq-eqb, false_from_ne_true}
use Rattle.std.proofs.lemmas.List.Elements.{All-nil, All-cons, All-tail, All-contains}
use Rattle.permutations.specs.Count.{least}
use Rattle.permutations.specs.Members.{is_member, is_distinct}
use Rattle.permutations.proofs.Search.{some-from, least-passes, least-below}
use Rattle.permutations.proofs.Members.{member-cases, distinct-cons}
use Rattle.multigraph.specs.Graph.{Multigraph, edge_count, is_end}
use Rattle.graph_theory.specs.Side.{IsCommon}
use Rattle.pair_split.specs.Family.{Entry, has_end, names, on_side, is_common, IsTight, IsFamily}
use Rattle.pair_split.specs.Edges.{graph_entry, graph_family, family_skeleton}
use Rattle.pair_split.specs.Split.{items_of, item_at, piece_ends, IsSplit}
use Rattle.pair_split.specs.Tutte.{has_in_group}
use Rattle.pair_split.specs.declared.components.Piece.{Piece}
use Rattle.pair_split.specs.declared.components.Comp.{Comp}
use Rattle.pair_split.proofs.Elements.{contains-here, contains-later, contains-cases, contains-none}
use Rattle.pair_split.proofs.Sides.{entry-from_one, one-from_entry, common-from}
use Rattle.pair_split.proofs.GraphFamily.{graph-contains}
use Rattle.pair_split.proofs.GraphSides.{family-common}
use Rattle.pair_split.proofs.Links.{no_piece}
use Rattle.pair_split.proofs.Groups.{group-some, group-once, group-common, Touched, end-touched}

-- a piece under a name
abbrev pub named : ℕ → Piece → Entry
named n piece = record { name = n; first = piece.a; second = piece.b }

-- pieces under numbers from n on
abbrev pub numbered : ℕ → List Piece → List Entry
numbered n [] = []
numbered n (piece ∷ pieces) = named n piece ∷ numbered (n + 1) pieces

-- the skeleton of component k as a family
abbrev pub skeleton_family : List Comp → ℕ → List Entry
skeleton_family comps k = numbered 0 (items_of comps k)

numbered-has : (n : ℕ) (pieces : List Piece) (i : ℕ) → i < length pieces → Contains (numbered n pieces) (named (n + i) (slice_index_or pieces i no_piece))
numbered-has n [] i l = absurd (omega (arith, l))
numbered-has n (piece ∷ pieces) zero l = subst (λ z. Contains (numbered n (piece ∷ pieces)) (named z piece)) (omega arith) (contains-here (named n piece) (numbered (n + 1) pieces))
numbered-has n (piece ∷ pieces) (suc i) l = subst (λ z. Contains (numbered n (piece ∷ pieces)) (named z (slice_index_or pieces i no_piece))) (omega arith)
    (contains-later (named (n + 1 + i) (slice_index_or pieces i no_piece)) (named n piece) (numbered (n + 1) pieces) (numbered-has (n + 1) pieces i (omega (arith, l))))

numbered-only : (n : ℕ) (pieces : List Piece) (x : Entry) → Contains (numbered n pieces) x → (i : ℕ) × (i < length pieces) × (x ≡ named (n + i) (slice_index_or pieces i no_piece))
numbered-only n [] x c = absurd (contains-none x c)
numbered-only n (piece ∷ pieces) x c = elim (contains-cases x (named n piece) (numbered (n + 1) pieces) c) [
  | inl e ↦ (0, omega arith, sym e ∙ ap (λ z. named z piece) (omega arith))
  | inr r ↦ let w = numbered-only (n + 1) pieces x r in (suc w.0, omega (arith, w.1), w.2 ∙ ap (λ z. named z (slice_index_or pieces w.0 no_piece)) (omega arith))
]

-- the family has the skeleton of the pieces
pub numbered-skeleton : (n : ℕ) (pieces : List Piece) → family_skeleton (numbered n pieces) ≡ map piece_ends pieces
numbered-skeleton n [] = refl
numbered-skeleton n (piece ∷ pieces) = ap (λ (l : List (ℕ × ℕ)). piece_ends piece ∷ l) (numbered-skeleton (n + 1) pieces)

-- as many entries as pieces
pub numbered-length : (n : ℕ) (pieces : List Piece) → length (numbered n pieces) ≡ length pieces
numbered-length n [] = refl
numbered-length n (piece ∷ pieces) = omega (arith, numbered-length (n + 1) pieces)

numbered-from : (n : ℕ) (pieces : List Piece) (x : ℕ) → is_member x (names (numbered n pieces)) ≡ true → n ≤ x
numbered-from n [] x m = absurd (true≢false (sym m))
numbered-from n (piece ∷ pieces) x m = elim (member-cases x n (names (numbered (n + 1) pieces)) m) [ inl e ↦ omega (arith, e) | inr r ↦ omega (arith, numbered-from (n + 1) pieces x r) ]

numbered-distinct : (n : ℕ) (pieces : List Piece) → is_distinct (names (numbered n pieces)) ≡ true
numbered-distinct n [] = refl
numbered-distinct n (piece ∷ pieces) = distinct-cons n (names (numbered (n + 1) pieces))
    (false_from_ne_true (is_member n (names (numbered (n + 1) pieces))) (λ m. omega (arith, numbered-from (n + 1) pieces n m))) (numbered-distinct (n + 1) pieces)

numbered-no_loops : (n : ℕ) (pieces : List Piece) → All (λ ends. ends.0 ≢ ends.1) (map piece_ends pieces) → All (λ entry. entry.first ≢ entry.second) (numbered n pieces)
numbered-no_loops n [] h = All-nil (λ (entry : Entry). entry.first ≢ entry.second)
numbered-no_loops n (piece ∷ pieces) h = All-cons (λ (entry : Entry). entry.first ≢ entry.second) (named n piece) (numbered (n + 1) pieces)
    (All-contains (λ (ends : ℕ × ℕ). ends.0 ≢ ends.1) (map piece_ends (piece ∷ pieces)) (piece_ends piece) h (contains-here (piece_ends piece) (map piece_ends pieces)))
    (numbered-no_loops (n + 1) pieces (All-tail (λ (ends : ℕ × ℕ). ends.0 ≢ ends.1) (piece_ends piece) (map piece_ends pieces) h))

module _ (g : Multigraph) (comps : List Comp) (s : IsSplit g comps) (k : ℕ) (l : k < length comps) where
  -- the items of component k
  abbrev size : ℕ
  size = length (items_of comps k)

  -- item i is an entry
  pub item-entry : (i : ℕ) → i < size → Contains (skeleton_family comps k) (named i (item_at comps k i))
  item-entry i b = subst (λ z. Contains (skeleton_family comps k) (named z (item_at comps k i))) (omega arith) (numbered-has 0 (items_of comps k) i b)

  -- each entry is an item
  pub entry-item : (x : Entry) → Contains (skeleton_family comps k) x → (i : ℕ) × (i < size) × (x ≡ named i (item_at comps k i))
  entry-item x c = let w = numbered-only 0 (items_of comps k) x c in (w.0, w.1, w.2 ∙ ap (λ z. named z (item_at comps k w.0)) (omega arith))

  -- it is a family
  pub skeleton-is_family : IsFamily (skeleton_family comps k)
  skeleton-is_family = record { names_once = numbered-distinct 0 (items_of comps k); no_loops = numbered-no_loops 0 (items_of comps k) (s.of_kind.kinds k l).no_loops }

  -- the place of the item in whose group an edge is
  pub group_index : ℕ → ℕ
  group_index e = least size (λ i. has_in_group comps k e (item_at comps k i).what)

  index-in : (e : ℕ) → e < edge_count g → (group_index e < size) × (has_in_group comps k e (item_at comps k (group_index e)).what ≡ true)
  unfolding group_index
  index-in e b =
      let w = group-some g comps s k e l b in
      let h = some-from size (λ i. has_in_group comps k e (item_at comps k i).what) w.0 w.1 w.2 in
      (least-below size (λ i. has_in_group comps k e (item_at comps k i).what) h, least-passes size (λ i. has_in_group comps k e (item_at comps k i).what) h)

  -- it is the only one
  pub index-is : (e i : ℕ) → e < edge_count g → i < size → has_in_group comps k e (item_at comps k i).what ≡ true → group_index e ≡ i
  index-is e i b c h = let w = index-in e b in group-once g comps s k e (group_index e) i w.0 c b w.1 h

  -- an end of an entry that is an item is an end of an edge in its group
  touched : (x : Entry) (v : ℕ) → Contains (skeleton_family comps k) x → has_end v x ≡ true → (e : ℕ) × (e < edge_count g) × (is_end g v e ≡ true) × (group_index e ≡ x.name)
  touched x v c h =
      let i = entry-item x c in
      let t : Touched g comps s k i.0 v = end-touched g comps s k i.0 v i.1 (subst (λ (z : Entry). has_end v z ≡ true) i.2 h) in
      (t.edge, t.edge_in, t.end, index-is t.edge i.0 t.edge_in i.1 t.in_group ∙ sym (ap (λ (z : Entry). z.name) i.2))

  -- a vertex that a side of the edges and the rest have in common, this side of the skeleton and its rest have in common
  pub lift-common : (t : ℕ → Bool) (v : ℕ) → IsCommon g (λ e. t (group_index e)) v → is_common (skeleton_family comps k) t v ≡ true
  lift-common t v c =
      let i = index-in c.inside c.inside_edge in
      let o = index-in c.outside c.outside_edge in
      let n : group_index c.inside ≢ group_index c.outside = λ e. both_ways (t (group_index c.outside)) c.outside_side (ap t (sym e) ∙ c.inside_side) in
      common-from (skeleton_family comps k) t v
      (record {
        entry = named (group_index c.inside) (item_at comps k (group_index c.inside));
        within = item-entry (group_index c.inside) i.0;
        side = c.inside_side;
        end = group-common g comps s k (group_index c.inside) (group_index c.outside) c.inside c.outside v i.0 o.0 n c.inside_edge c.outside_edge i.1 o.1 c.inside_end c.outside_end;
      })
      (record {
        entry = named (group_index c.outside) (item_at comps k (group_index c.outside));
        within = item-entry (group_index c.outside) o.0;
        side = not_from_false (t (group_index c.outside)) c.outside_side;
        end = group-common g comps s k (group_index c.outside) (group_index c.inside) c.outside c.inside v o.0 i.0 (λ e. n (sym e)) c.outside_edge c.inside_edge o.1 i.1 c.outside_end c.inside_end;
      })

  -- a side of the skeleton with an entry is one of the graph with an edge
  side-edge : (t : ℕ → Bool) → 1 ≤ length (on_side t (skeleton_family comps k)) → 1 ≤ length (on_side (λ e. t (group_index e)) (graph_family g))
  side-edge t b =
      let x = entry-from_one (skeleton_family comps k) t b in
      let e = touched x.entry x.entry.first x.within (or_left (x.entry.first == x.entry.first) (x.entry.second == x.entry.first) (eq-eqb x.entry.first x.entry.first refl)) in
      one-from_entry (graph_family g) (λ n. t (group_index n)) (record { entry = graph_entry g e.0; within = graph-contains g e.0 e.1; side = ap t e.3 ∙ x.side })

  -- the skeleton is tight where the graph is
  pub skeleton-tight : IsTight (graph_family g) → IsTight (skeleton_family comps k)
  skeleton-tight tight t i o =
      let w = tight (λ e. t (group_index e)) (side-edge t i) (side-edge (λ n. not (t n)) o) in
      (w.0, w.1, w.2, lift-common t w.0 (family-common g (λ e. t (group_index e)) w.0 w.3), lift-common t w.1 (family-common g (λ e. t (group_index e)) w.1 w.4))
