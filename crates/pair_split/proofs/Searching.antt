-- The search for a smallest side of a 2-separation: what each step of it gives.
use Rattle.std.proofs.Common.{◌≡◌, ℕ, ◌+◌, ◌<◌, ◌≤◌, inl, inr, Bool, true, ◌||◌, ◌==◌, List, [], ◌∷◌, length, slice_index_or, sym, ap, ◌∙◌, subst, arith, Contains, All}
use mathlib.Core.Path.{fun_ext}
use Rattle.std.proofs.lemmas.Bool.{cases_order}
use Rattle.std.proofs.lemmas.List.{length-map, get_or-map, get_or_default}
use Rattle.std.proofs.lemmas.List.Elements.{All-map, All-contains, Contains-get_or}
use Rattle.pair_split.specs.Family.{Entry, has_end, names, on_side, IsSeparation}
use Rattle.graph_theory.specs.Labels.{label_at, IsLabelling, AreLabelsBelow}
use Rattle.graph_theory.proofs.Removed.{avoids-from}
use Rattle.pair_split.specs.Edges.{entry_ends, family_skeleton}
use Rattle.pair_split.specs.Skeleton.{SameEnds}
use Rattle.multigraph.specs.Marks.{is_marked}
use Rattle.pair_split.specs.Bridges.{entry_of, family_of, HaveEndsBelow, HaveNamesBelow, side_of, in_bridge, IsClosed, has_label, bridge_size, AreParallelAt}
use Rattle.pair_split.specs.Search.{IsSearchable, HasNoParallels, IsBest, IsLeastAt, IsLeastBefore, IsMinimalSide}
use Rattle.pair_split.specs.declared.family.NamedEdge.{NamedEdge}
use Rattle.pair_split.specs.declared.search.Side.{Side}
use Rattle.pair_split.proofs.Elements.{map-contains, contains-map}
use Rattle.pair_split.proofs.Sides.{Touching, common-inside, on_side-ext, length-sides}
use Rattle.pair_split.proofs.Replaced.{end-cases}
use Rattle.pair_split.proofs.Names.{same-place}
use Rattle.pair_split.proofs.Marking.{nothing}
use Rattle.pair_split.proofs.BridgeSides.{side_of-filter}
use Rattle.pair_split.proofs.PrimeSimple.{pair, pair-few, parallel-separation}
use Rattle.pair_split.proofs.Candidates.{bridge-separation, BridgeInside, bridge-inside}

-- sides that agree separate alike
pub separation-ext : (entries : List Entry) (s t : ℕ → Bool) (p q : ℕ) → ((n : ℕ) → s n ≡ t n) → IsSeparation entries s p q → IsSeparation entries t p q
separation-ext entries s t p q h c = subst (λ (u : ℕ → Bool). IsSeparation entries u p q) (fun_ext h) c

-- the other order of the two vertices
separation-swap : (entries : List Entry) (s : ℕ → Bool) (p q : ℕ) → IsSeparation entries s p q → IsSeparation entries s q p
separation-swap entries s p q c = record {
  differ = λ e. c.differ (sym e);
  first_common = c.second_common;
  second_common = c.first_common;
  no_other = λ x h. elim (c.no_other x h) [ inl i ↦ inr i | inr i ↦ inl i ];
  two_inside = c.two_inside;
  two_outside = c.two_outside;
}

-- names below the number of marks
pub names-below : (edges : List NamedEdge) (bound : ℕ) (marks : List Bool) → HaveNamesBelow bound edges → length marks ≡ bound → All (λ (entry : Entry). entry.name < length marks) (family_of edges)
names-below edges bound marks h e = All-map (λ (entry : Entry). entry.name < length marks) entry_of edges (λ k d l. subst (λ (b : ℕ). (slice_index_or edges k d).name < b) (sym e) (h k d l))

-- an end of an entry is below the number of vertices
pub end-below : (edges : List NamedEdge) (n : ℕ) → HaveEndsBelow n edges → (entry : Entry) (x : ℕ) → Contains (family_of edges) entry → has_end x entry ≡ true → x < n
end-below edges n ends entry x c h =
    let e = map-contains entry_of entry edges c in
    let b = All-contains (λ (edge : NamedEdge). (edge.first < n) × (edge.second < n)) edges e.0 ends e.1 in
    elim (end-cases x (entry_of e.0) (subst (λ (z : Entry). has_end x z ≡ true) (sym e.2) h)) [ inl i ↦ subst (λ (z : ℕ). z < n) (sym i) b.0 | inr i ↦ subst (λ (z : ℕ). z < n) (sym i) b.1 ]

-- a bridge with two entries in it and two outside it, as the best side
pub best-bridge : (edges : List NamedEdge) (labels : List ℕ) (a b label bound : ℕ) (side : Side) → IsSearchable (family_of edges) → IsLabelling (family_skeleton (family_of edges)) (a ∷ b ∷ []) (label_at labels) → HaveNamesBelow bound edges
    → side.first ≡ a → side.second ≡ b → side.size ≡ bridge_size (family_of edges) a b labels label → 2 ≤ side.size → side.size + 2 ≤ length edges
    → ((n : ℕ) → is_marked side.marks.items n ≡ side_of (family_of edges) (in_bridge a b (has_label labels label)) n) → length side.marks.items ≡ bound → IsBest (family_of edges) side
best-bridge edges labels a b label bound side searchable labelling names first second size two rest marks number = record {
  within = omega (arith, rest, length-map edges entry_of);
  found = λ l. record {
    separates = subst (λ (x : ℕ). IsSeparation entries (is_marked side.marks.items) x side.second) (sym first) (subst (λ (y : ℕ). IsSeparation entries (is_marked side.marks.items) a y) (sym second)
        (separation-ext entries (side_of entries (in_bridge a b (has_label labels label))) (is_marked side.marks.items) a b (λ n. sym (marks n))
        (bridge-separation entries searchable.family searchable.tight a b (has_label labels label) closed
        (subst (λ (k : ℕ). 2 ≤ k) size two)
        (subst (λ (k : ℕ). k + 2 ≤ length entries) size (subst (λ (k : ℕ). side.size + 2 ≤ k) (sym (length-map edges entry_of)) rest)))));
    size = ap length (on_side-ext entries (is_marked side.marks.items) (side_of entries (in_bridge a b (has_label labels label))) marks ∙ side_of-filter entries (in_bridge a b (has_label labels label)) searchable.family.names_once) ∙ sym size;
    named = names-below edges bound side.marks.items names number;
  };
}
  where
    entries : List Entry
    entries = family_of edges

    closed : IsClosed (family_of edges) a b (has_label labels label)
    closed e c m n = ap (λ (z : ℕ). z == label)
        (labelling.agree (entry_ends e) (contains-map entry_ends e (family_of edges) c) (avoids-from (a ∷ b ∷ []) (entry_ends e) m n))

-- a size that is no larger than that of any bridge is that of a least side between the two vertices
pub least-between : (edges : List NamedEdge) (labels : List ℕ) (n a b size : ℕ) → IsSearchable (family_of edges) → HasNoParallels (family_of edges) → HaveEndsBelow n edges → IsLabelling (family_skeleton (family_of edges)) (a ∷ b ∷ []) (label_at labels) → AreLabelsBelow n labels
    → ((label : ℕ) → label < n → label_at labels label ≡ label → 2 ≤ bridge_size (family_of edges) a b labels label → bridge_size (family_of edges) a b labels label + 2 ≤ length edges → size ≤ bridge_size (family_of edges) a b labels label)
    → IsLeastAt (family_of edges) a b size
least-between edges labels n a b size searchable simple ends labelling below least s c = smallest (bridge-inside (family_of edges) searchable.family searchable.tight simple a b (label_at labels) labelling s c)
  where
    smallest : BridgeInside (family_of edges) s a b (label_at labels) → size ≤ length (on_side s (family_of edges))
    smallest w = omega (
      arith,
      w.few,
      least (label_at labels w.vertex) (below w.vertex inside) (labelling.own w.vertex) w.two
          (omega (arith, w.few, c.two_outside, length-sides (family_of edges) s, length-map edges entry_of)),
    )
      where
        inside : w.vertex < n
        inside = end-below edges n ends w.entry w.vertex w.within w.end

-- a least size is no larger than any side of a 2-separation, in either order of its two vertices
least-any : (entries : List Entry) (n size : ℕ) → IsLeastBefore entries n 0 size → ((s : ℕ → Bool) (p q : ℕ) → IsSeparation entries s p q → (p < n) × (q < n)) → (s : ℕ → Bool) (p q : ℕ) → IsSeparation entries s p q → size ≤ length (on_side s entries)
least-any entries n size least below s p q c = let w = below s p q c in elim (cases_order p q) [
  | inl e ↦ absurd (c.differ e)
  | inr o ↦ elim o [
    | inl l ↦ least q p l (inl w.1) s (separation-swap entries s p q c)
    | inr l ↦ least p q l (inl w.0) s c
  ]
]

-- the two vertices of a 2-separation are ends
pub separation-below : (edges : List NamedEdge) (n : ℕ) → HaveEndsBelow n edges → (s : ℕ → Bool) (p q : ℕ) → IsSeparation (family_of edges) s p q → (p < n) × (q < n)
separation-below edges n ends s p q c = (below p (common-inside (family_of edges) s p c.first_common), below q (common-inside (family_of edges) s q c.second_common))
  where
    below : (x : ℕ) → Touching (family_of edges) s x → x < n
    below x t = end-below edges n ends t.entry x t.within t.end

-- a best side whose size no side of a 2-separation is below is minimal
pub best-minimal : (entries : List Entry) (n : ℕ) (side : Side) → IsBest entries side → IsLeastBefore entries n 0 side.size → ((s : ℕ → Bool) (p q : ℕ) → IsSeparation entries s p q → (p < n) × (q < n)) → side.size < length entries → IsMinimalSide entries side
best-minimal entries n side best least below l = record {
  separates = (best.found l).separates;
  minimal = λ s p q c inside. omega (arith, (best.found l).size, least-any entries n side.size least below s p q c);
  named = (best.found l).named;
}

-- where the least size is that of the whole family there is no 2-separation
pub least-none : (entries : List Entry) (n : ℕ) (side : Side) → IsLeastBefore entries n 0 side.size → ((s : ℕ → Bool) (p q : ℕ) → IsSeparation entries s p q → (p < n) × (q < n)) → length entries ≤ side.size → (s : ℕ → Bool) (p q : ℕ) → IsSeparation entries s p q → ⊥
least-none entries n side least below l s p q c = absurd (omega (arith, l, least-any entries n side.size least below s p q c, c.two_outside, length-sides entries s))

-- an entry of the family stands at some place
place-of : (edges : List NamedEdge) (e : Entry) → Contains (family_of edges) e → (i : ℕ) × (i < length edges) × (entry_of (slice_index_or edges i nothing) ≡ e)
place-of edges e c = let w = map-contains entry_of e edges c in
    (w.1.0, w.1.1, ap entry_of (get_or_default edges w.1.0 nothing w.0 w.1.1 ∙ w.1.2) ∙ w.2)

-- the same two ends, read the other way round
same_ends-swap : (e f : Entry) → SameEnds (entry_ends e) (entry_ends f) → SameEnds (entry_ends f) (entry_ends e)
same_ends-swap e f (inl s) = inl (sym s.0, sym s.1)
same_ends-swap e f (inr s) = inr (sym s.1, sym s.0)

-- where no two places are parallel there are no parallel entries
pub no_parallels : (edges : List NamedEdge) → ((i j : ℕ) → i < j → j < length edges → AreParallelAt edges i j → ⊥) → HasNoParallels (family_of edges)
no_parallels edges none e f c k s = elim (cases_order u.0 v.0) [
  | inl i ↦ ap (λ (z : Entry). z.name) (sym u.2 ∙ (ap (λ (z : ℕ). entry_of (slice_index_or edges z nothing)) i ∙ v.2))
  | inr o ↦ elim o [
    | inl l ↦ absurd (none u.0 v.0 l v.1 (subst (λ (z : Entry). SameEnds (entry_ends z) (entry_ends (entry_of (slice_index_or edges v.0 nothing)))) (sym u.2) (subst (λ (z : Entry). SameEnds (entry_ends e) (entry_ends z)) (sym v.2) s)))
    | inr l ↦ absurd (none v.0 u.0 l u.1 (subst (λ (z : Entry). SameEnds (entry_ends z) (entry_ends (entry_of (slice_index_or edges u.0 nothing)))) (sym v.2) (subst (λ (z : Entry). SameEnds (entry_ends f) (entry_ends z)) (sym u.2) (same_ends-swap e f s))))
  ]
]
  where
    u : (i : ℕ) × (i < length edges) × (entry_of (slice_index_or edges i nothing) ≡ e)
    u = place-of edges e c

    v : (i : ℕ) × (i < length edges) × (entry_of (slice_index_or edges i nothing) ≡ f)
    v = place-of edges f k

-- two parallel entries are a minimal side
pub parallel-minimal : (edges : List NamedEdge) (i j bound : ℕ) (side : Side) → IsSearchable (family_of edges) → HaveNamesBelow bound edges → i < j → j < length edges → AreParallelAt edges i j
    → side.first ≡ (slice_index_or edges i nothing).first → side.second ≡ (slice_index_or edges i nothing).second
    → ((n : ℕ) → is_marked side.marks.items n ≡ ((n == (slice_index_or edges i nothing).name) || (n == (slice_index_or edges j nothing).name))) → length side.marks.items ≡ bound → IsMinimalSide (family_of edges) side
parallel-minimal edges i j bound side searchable names l m parallel first second marks number = record {
  separates = subst (λ (x : ℕ). IsSeparation entries (is_marked side.marks.items) x side.second) (sym first) (subst (λ (y : ℕ). IsSeparation entries (is_marked side.marks.items) e.first y) (sym second)
      (separation-ext entries (pair e f) (is_marked side.marks.items) e.first e.second (λ n. sym (marks n)) (parallel-separation entries searchable.family searchable.tight searchable.four e f in-e in-f apart parallel)));
  minimal = λ s p q c inside. omega (arith, c.two_inside, ap length (on_side-ext entries (is_marked side.marks.items) (pair e f) marks), pair-few entries searchable.family e f);
  named = names-below edges bound side.marks.items names number;
}
  where
    entries : List Entry
    entries = family_of edges

    e : Entry
    e = entry_of (slice_index_or edges i nothing)

    f : Entry
    f = entry_of (slice_index_or edges j nothing)

    in-e : Contains (family_of edges) (entry_of (slice_index_or edges i nothing))
    in-e = contains-map entry_of (slice_index_or edges i nothing) edges (Contains-get_or edges i nothing (omega (arith, l, m)))

    in-f : Contains (family_of edges) (entry_of (slice_index_or edges j nothing))
    in-f = contains-map entry_of (slice_index_or edges j nothing) edges (Contains-get_or edges j nothing m)

    apart : (slice_index_or edges i nothing).name ≡ (slice_index_or edges j nothing).name → ⊥
    apart same = absurd (omega (
      arith,
      l,
      same-place (family_of edges) searchable.family.names_once i j (entry_of nothing) (omega (arith, l, m, length-map edges entry_of)) (omega (arith, m, length-map edges entry_of))
          (ap (λ (z : Entry). z.name) (get_or-map entry_of edges i nothing (entry_of nothing) (omega (arith, l, m))) ∙ (same ∙ ap (λ (z : Entry). z.name) (sym (get_or-map entry_of edges j nothing (entry_of nothing) m)))),
    ))
