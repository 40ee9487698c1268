-- The state of splitting along the pass: when it may be split, and what it is afterwards.
use Rattle.std.proofs.Common.{◌≡◌, ℕ, ◌+◌, ◌-◌, ◌<◌, ◌≤◌, inl, inr, Bool, true, false, not, List, [], ◌∷◌, ◌++◌, length, map, filter, drop, slice_index, refl, sym, ap, ◌∙◌, subst, arith, Contains}
use Rattle.std.proofs.lemmas.Bool.{cases_Bool, cases_lt, lt-ltb, le-ltb, false_from_ne_true}
use Rattle.std.proofs.lemmas.List.{length-map, length-append, map-append}
use Rattle.permutations.specs.Members.{is_member}
use Rattle.permutations.proofs.Filter.{filter-yes, filter-no}
use Rattle.permutations.proofs.Arrangements.{length-from_members}
use Rattle.permutations.proofs.Relation.{same-tests}
use Rattle.multigraph.specs.Graph.{Multigraph, edge_count}
use Rattle.pair_split.specs.Family.{Entry, names, on_side, off_side, IsFamily, IsTight, IsSeparation, IsPrime}
use Rattle.pair_split.specs.Skeleton.{SameEnds, IsSkeleton}
use Rattle.pair_split.specs.Edges.{entry_ends, family_skeleton}
use Rattle.pair_split.specs.State.{Part, SplitState, split_off, IsSplitState}
use Rattle.pair_split.specs.Splitting.{part_of}
use Rattle.pair_split.specs.Bridges.{entry_of}
use Rattle.pair_split.specs.Writing.{entry_total}
use Rattle.pair_split.specs.declared.splitting.Finished.{Finished}
use Rattle.pair_split.proofs.Elements.{contains-here, contains-later, contains-cases, contains-map, map-contains, contains-filter, filter-contains}
use Rattle.pair_split.proofs.Names.{name-member, member-name}
use Rattle.pair_split.proofs.GraphFamily.{one_block-tight}
use Rattle.pair_split.proofs.Layers.{layer-current, current-layer}
use Rattle.pair_split.proofs.Places.{state-tight}
use Rattle.pair_split.proofs.SplitOff.{family-cons, kept-family, state-split_off}
use Rattle.pair_split.proofs.Minimal.{minimal-prime}
use Rattle.pair_split.proofs.SameEntries.{IsWithin}
use Rattle.pair_split.proofs.Sides.{length-sides}
use Rattle.split_comp.specs.declared.items.StackEntry.{StackEntry}
use Rattle.split_comp.specs.Stack.{item, entry, family}
use Rattle.split_comp.specs.Sides.{IsCutOff, IsLeast}
use Rattle.split_comp.specs.Pass.{NumberedTree, IsNumbered, PassState, drawn, drawn_items, drawn_family, next_name, own_entry, CanSplitOff, IsSplitOff, IsHeld}
use Rattle.split_comp.proofs.Entries.{stack-contains}
use Rattle.split_comp.proofs.Stretch.{cut-is}
use Rattle.split_comp.proofs.LeastSides.{least-minimal}
use Rattle.split_comp.proofs.Renamed.{renamed-family, renamed-separation, renamed-minimal}
use Rattle.split_comp.proofs.Reordered.{state-reordered}

-- families with the same entries have as many
pub same-length : (one other : List Entry) → IsFamily one → IsFamily other → IsWithin one other → IsWithin other one → length one ≡ length other
same-length one other f g into back = sym (length-map one (λ (e : Entry). e.name)) ∙ (length-from_members (names one) (names other) f.names_once g.names_once (λ z. same-tests (is_member z (names one)) (is_member z (names other)) (to one other into z) (to other one back z)) ∙ length-map other (λ (e : Entry). e.name))
  where
    to : (l k : List Entry) → IsWithin l k → (z : ℕ) → is_member z (names l) ≡ true → is_member z (names k) ≡ true
    to l k h z m = let w = member-name l z m in subst (λ (y : ℕ). is_member y (names k) ≡ true) w.2 (name-member k w.0 (h w.0 w.1))

module _ (g : Multigraph) (t : NumberedTree) (numbered : IsNumbered g t) (s : PassState) (rest : List Entry) (held : IsHeld g t.vertex s rest) (fam-K : IsFamily (family s.items rest)) where
  abbrev n : ℕ
  n = g.vertex_count

  abbrev vertex : ℕ → ℕ
  vertex x = slice_index t.vertex x

  abbrev K : List Entry
  K = family s.items rest

  abbrev f : Entry → Entry
  f = drawn g t.vertex

  -- different numbers are numbers of different vertices
  pub apart : (x y : ℕ) → x < n → y < n → slice_index t.vertex x ≡ slice_index t.vertex y → x ≡ y
  apart x y a b e = sym (numbered.vertices.number x a) ∙ (ap (λ (z : ℕ). slice_index t.palm.number z) e ∙ numbered.vertices.number y b)

  pub drawn-name : (x : Entry) → (drawn g t.vertex x).name ≡ x.name
  drawn-name x = elim (cases_lt x.name (edge_count g)) [ inl l ↦ rw (lt-ltb x.name (edge_count g) l) refl | inr l ↦ rw (le-ltb x.name (edge_count g) l) refl ]

  abbrev state : SplitState
  state = record { parts = map part_of s.parts; current = drawn_family g t.vertex s.items rest }

  -- names in use
  current-name : (x : Entry) → Contains (drawn_family g t.vertex s.items rest) x → x.name < next_name g s
  current-name x c = elim (held.state.nothing_else (length (map part_of s.parts)) x (current-layer state x c)) [
    | inl e ↦ omega (arith, e.1, ap (λ (z : Entry). z.name) e.2)
    | inr e ↦ omega (arith, e.1, ap (λ (z : Entry). z.name) e.2, held.state.own_names e.0 e.1, length-map s.parts part_of)
  ]

  pub item-name : (y : Entry) → Contains (family s.items rest) y → y.name < next_name g s
  item-name y c = omega (arith, current-name (drawn g t.vertex y) (contains-map (drawn g t.vertex) y (family s.items rest) c), drawn-name y)

  -- a side of the drawn family
  side-drawn : (side : ℕ → Bool) (l : List Entry) → on_side side (map (drawn g t.vertex) l) ≡ map (drawn g t.vertex) (on_side side l)
  side-drawn side [] = refl
  side-drawn side (x ∷ l) = elim (cases_Bool (side x.name)) [
    | inl h ↦ filter-yes (λ (e : Entry). side e.name) (drawn g t.vertex x) (map (drawn g t.vertex) l) (ap side (drawn-name x) ∙ h) ∙ (ap (λ (k : List Entry). drawn g t.vertex x ∷ k) (side-drawn side l) ∙ ap (map (drawn g t.vertex)) (sym (filter-yes (λ (e : Entry). side e.name) x l h)))
    | inr h ↦ filter-no (λ (e : Entry). side e.name) (drawn g t.vertex x) (map (drawn g t.vertex) l) (ap side (drawn-name x) ∙ h) ∙ (side-drawn side l ∙ ap (map (drawn g t.vertex)) (sym (filter-no (λ (e : Entry). side e.name) x l h)))
  ]

  pub map-items : (l : List StackEntry) → map (drawn g t.vertex) (map entry l) ≡ drawn_items g t.vertex l
  map-items [] = refl
  map-items (x ∷ l) = ap (λ (k : List Entry). drawn g t.vertex (entry x) ∷ k) (map-items l)

  pub drawn-tight : IsTight (drawn_family g t.vertex s.items rest)
  drawn-tight = state-tight g state held.state (one_block-tight g numbered.block)

  pub drawn-is_family : IsFamily (drawn_family g t.vertex s.items rest)
  drawn-is_family = subst IsFamily (layer-current state) (held.state.families (length (map part_of s.parts)))

  module _ (keeps : StackEntry → Bool) (k up low : ℕ) (side : ℕ → Bool) (cut : IsCutOff keeps s.items rest k side) (sep : IsSeparation (family s.items rest) side up low) (up-in : up < n) (low-in : low < n) where
    abbrev own : Entry
    own = own_entry g t.vertex up low s

    sep-drawn : IsSeparation (drawn_family g t.vertex s.items rest) side (slice_index t.vertex up) (slice_index t.vertex low)
    sep-drawn = renamed-separation n vertex apart f K (λ x c. drawn-name x) held.ends side up low sep

    pub side-items : on_side side (drawn_family g t.vertex s.items rest) ≡ drawn_items g t.vertex (filter keeps (drop k s.items))
    side-items = side-drawn side K ∙ (ap (map f) (cut-is keeps s.items rest k side cut) ∙ map-items (filter keeps (drop k s.items)))

    side-length : length (filter keeps (drop k s.items)) ≡ length (on_side side K)
    side-length = sym (length-map (filter keeps (drop k s.items)) entry) ∙ sym (ap length (cut-is keeps s.items rest k side cut))

    own-fresh : is_member own.name (names (on_side side (drawn_family g t.vertex s.items rest))) ≡ false
    own-fresh = false_from_ne_true (is_member own.name (names (on_side side (drawn_family g t.vertex s.items rest)))) (λ m.
        let w = member-name (on_side side (drawn_family g t.vertex s.items rest)) own.name m in
        let c = filter-contains (λ (e : Entry). side e.name) w.0 (drawn_family g t.vertex s.items rest) w.1 in
        omega (arith, w.2, current-name w.0 c.0))

    own-family : IsFamily (own ∷ on_side side (drawn_family g t.vertex s.items rest))
    own-family = family-cons own (on_side side (drawn_family g t.vertex s.items rest)) sep-drawn.differ own-fresh (kept-family (λ (e : Entry). side e.name) (drawn_family g t.vertex s.items rest) drawn-is_family)

    pub can-split_off : IsLeast s.items rest side → k ≤ length s.items → CanSplitOff g t.vertex keeps k up low s
    can-split_off least within = record {
      within = within;
      ends = λ i l. let e = held.ends (entry (item s.items i)) (stack-contains s.items rest i l) in (omega (arith, e.0, numbered.vertices.places), omega (arith, e.1, numbered.vertices.places));
      up_in = omega (arith, up-in, numbered.vertices.places);
      low_in = omega (arith, low-in, numbered.vertices.places);
      is_family = subst (λ (l : List Entry). IsFamily (own ∷ l)) side-items own-family;
      is_prime = subst (λ (l : List Entry). IsPrime (own ∷ l)) side-items (minimal-prime (drawn_family g t.vertex s.items rest) side own sep-drawn drawn-tight
          (renamed-minimal n vertex apart f K (λ x c. drawn-name x) held.ends side (least-minimal s.items rest side cut.off least)));
      two = omega (arith, side-length, sep.two_inside);
      few = omega (arith, held.few, numbered.limits.few_edges);
      total = omega (arith, side-length, held.total, length-sides K side);
      fits = omega (arith, held.few, numbered.limits.few_edges);
    }

    -- two entries or more went
    pub split_off-two : (mid : PassState) (e : IsSplitOff g t.vertex keeps k up low s mid) → 2 ≤ length e.edges
    split_off-two mid e = omega (arith, sep.two_inside, side-length, sym (length-map e.edges entry_of), ap length e.are_edges, length-map (filter keeps (drop k s.items)) (λ (y : StackEntry). drawn g t.vertex (entry y)))

    -- afterwards
    pub held-split_off : (old-mid new : PassState) (x : StackEntry) → IsSplitOff g t.vertex keeps k up low s old-mid → new.parts ≡ old-mid.parts → new.total ≡ old-mid.total → x.name ≡ next_name g s → x.up ≡ up → x.low ≡ low
        → IsFamily (family new.items rest) → IsWithin (entry x ∷ off_side side (family s.items rest)) (family new.items rest) → IsWithin (family new.items rest) (entry x ∷ off_side side (family s.items rest)) → IsHeld g t.vertex new rest
    held-split_off mid new x e same-parts same-total named x-up x-low fam into back = record {
      total = total;
      state = state-now;
      few = omega (arith, held.few, parts-length, new-total, edges-two, held.total, lengths);
      entries = omega (arith, held.entries, ap entry_total parts-are, entry-push s.parts (record { kind = e.kind; own = record { name = next_name g s; first = slice_index t.vertex up; second = slice_index t.vertex low }; edges = e.edges }), parts-length, new-total, lengths, held.total, edges-length);
      three = omega (arith, new-total, edges-length, held.total, lengths, sep.two_outside);
      ends = ends;
    }
      where
        finished-new : Finished
        finished-new = record { kind = e.kind; own = record { name = next_name g s; first = slice_index t.vertex up; second = slice_index t.vertex low }; edges = e.edges }

        parts-are : new.parts ≡ s.parts ++ record { kind = e.kind; own = record { name = next_name g s; first = slice_index t.vertex up; second = slice_index t.vertex low }; edges = e.edges } ∷ []
        parts-are = same-parts ∙ ap (λ (p : PassState). p.parts) e.now

        parts-length : length new.parts ≡ length s.parts + 1
        parts-length = ap length parts-are ∙ length-append s.parts (record { kind = e.kind; own = record { name = next_name g s; first = slice_index t.vertex up; second = slice_index t.vertex low }; edges = e.edges } ∷ [])

        edges-length : length e.edges ≡ length (on_side side K)
        edges-length = sym (length-map e.edges entry_of) ∙ (ap length e.are_edges ∙ (length-map (filter keeps (drop k s.items)) (λ (y : StackEntry). drawn g t.vertex (entry y)) ∙ side-length))

        edges-two : 2 ≤ length e.edges
        edges-two = omega (arith, edges-length, sep.two_inside)

        new-total : new.total ≡ s.total + 1 - length e.edges
        new-total = same-total ∙ ap (λ (p : PassState). p.total) e.now

        lengths : length (on_side side K) + length (off_side side K) ≡ length K
        lengths = length-sides K side

        entry-push : (l : List Finished) (c : Finished) → entry_total (l ++ c ∷ []) ≡ entry_total l + length c.edges
        entry-push [] c = omega arith
        entry-push (y ∷ l) c = omega (arith, entry-push l c)

        left-family : IsFamily (entry x ∷ off_side side K)
        left-family = family-cons (entry x) (off_side side K) (λ q. sep.differ (sym x-up ∙ (q ∙ x-low)))
            (false_from_ne_true (is_member x.name (names (off_side side K))) (λ m.
            let w = member-name (off_side side K) x.name m in
            let c = filter-contains (λ (y : Entry). not (side y.name)) w.0 K w.1 in
            omega (arith, w.2, named, item-name w.0 c.0)))
            (kept-family (λ (y : Entry). not (side y.name)) K fam-K)

        total : new.total ≡ length (family new.items rest)
        total = omega (arith, new-total, edges-length, held.total, lengths, edges-two, same-length (family new.items rest) (entry x ∷ off_side side K) fam left-family back into)

        -- the virtual edge, drawn
        drawn-own : drawn g t.vertex (entry x) ≡ own
        drawn-own = rw (le-ltb x.name (edge_count g) (omega (arith, named))) (λ i. record { name = named i; first = slice_index t.vertex (x-up i); second = slice_index t.vertex (x-low i) })

        ends : (y : Entry) → Contains (family new.items rest) y → (y.first < g.vertex_count) × (y.second < g.vertex_count) × SameEnds (slice_index t.vertex y.first, slice_index t.vertex y.second) (entry_ends (drawn g t.vertex y))
        ends y c = elim (contains-cases y (entry x) (off_side side K) (back y c)) [
          | inr d ↦ held.ends y (filter-contains (λ (z : Entry). not (side z.name)) y K d).0
          | inl q ↦ subst (λ (z : Entry). (z.first < g.vertex_count) × (z.second < g.vertex_count) × SameEnds (slice_index t.vertex z.first, slice_index t.vertex z.second) (entry_ends (drawn g t.vertex z))) q
              (omega (arith, x-up, up-in), omega (arith, x-low, low-in), inl (ap (λ (z : ℕ). slice_index t.vertex z) x-up ∙ sym (ap (λ (z : Entry). z.first) drawn-own), ap (λ (z : ℕ). slice_index t.vertex z) x-low ∙ sym (ap (λ (z : Entry). z.second) drawn-own)))
        ]

        skeleton : IsSkeleton e.kind (family_skeleton (own ∷ on_side side (drawn_family g t.vertex s.items rest)))
        skeleton = subst (λ (l : List Entry). IsSkeleton e.kind (family_skeleton (own ∷ l))) (e.are_edges ∙ sym side-items) e.skeleton

        split_off-state : IsSplitState g (split_off state side e.kind own)
        split_off-state = state-split_off g state held.state side e.kind own (ap (λ (z : ℕ). edge_count g + z) (sym (length-map s.parts part_of))) sep-drawn skeleton e.large

        parts-same : (split_off state side e.kind own).parts ≡ map part_of new.parts
        parts-same = ap (λ (l : List Entry). map part_of s.parts ++ record { kind = e.kind; own = own; entries = l } ∷ []) (side-items ∙ sym e.are_edges)
            ∙ (sym (map-append part_of s.parts (finished-new ∷ [])) ∙ ap (map part_of) (sym parts-are))

        into-drawn : IsWithin (own ∷ off_side side (drawn_family g t.vertex s.items rest)) (drawn_family g t.vertex new.items rest)
        into-drawn y c = elim (contains-cases y own (off_side side (drawn_family g t.vertex s.items rest)) c) [
          | inl q ↦ subst (λ (z : Entry). Contains (drawn_family g t.vertex new.items rest) z) (drawn-own ∙ q) (contains-map f (entry x) (family new.items rest) (into (entry x) (contains-here (entry x) (off_side side K))))
          | inr d ↦
              let w = filter-contains (λ (z : Entry). not (side z.name)) y (drawn_family g t.vertex s.items rest) d in
              let z = map-contains f y K w.0 in
              subst (λ (q : Entry). Contains (drawn_family g t.vertex new.items rest) q) z.2 (contains-map f z.0 (family new.items rest)
              (into z.0 (contains-later z.0 (entry x) (off_side side K) (contains-filter (λ (q : Entry). not (side q.name)) z.0 K z.1 (ap (λ (q : ℕ). not (side q)) (sym (drawn-name z.0)) ∙ (ap (λ (q : Entry). not (side q.name)) z.2 ∙ w.1))))))
        ]

        back-drawn : IsWithin (drawn_family g t.vertex new.items rest) (own ∷ off_side side (drawn_family g t.vertex s.items rest))
        back-drawn y c =
            let z = map-contains f y (family new.items rest) c in
            subst (λ (q : Entry). Contains (own ∷ off_side side (drawn_family g t.vertex s.items rest)) q) z.2 (elim (contains-cases z.0 (entry x) (off_side side K) (back z.0 z.1)) [
              | inl q ↦ subst (λ (p : Entry). Contains (own ∷ off_side side (drawn_family g t.vertex s.items rest)) p) (sym drawn-own ∙ ap f q) (contains-here own (off_side side (drawn_family g t.vertex s.items rest)))
              | inr d ↦
                  let w = filter-contains (λ (p : Entry). not (side p.name)) z.0 K d in
                  contains-later (f z.0) own (off_side side (drawn_family g t.vertex s.items rest)) (contains-filter (λ (p : Entry). not (side p.name)) (f z.0) (drawn_family g t.vertex s.items rest) (contains-map f z.0 K w.0) (ap (λ (p : ℕ). not (side p)) (drawn-name z.0) ∙ w.1))
            ])

        state-now : IsSplitState g (record { parts = map part_of new.parts; current = drawn_family g t.vertex new.items rest })
        state-now = subst (λ (p : List Part). IsSplitState g (record { parts = p; current = drawn_family g t.vertex new.items rest })) parts-same
            (state-reordered g (split_off state side e.kind own) (drawn_family g t.vertex new.items rest) split_off-state (renamed-family n vertex apart f (family new.items rest) (λ y c. drawn-name y) ends fam) into-drawn back-drawn)

  -- an entry of the rest is pushed
  pub held-pushed : (new : PassState) (left : List Entry) → new.parts ≡ s.parts → new.total ≡ s.total → IsFamily (family new.items left) → IsWithin (family s.items rest) (family new.items left) → IsWithin (family new.items left) (family s.items rest) → IsHeld g t.vertex new left
  held-pushed new left same-parts same-total fam into back = record {
    total = same-total ∙ (held.total ∙ same-length (family s.items rest) (family new.items left) fam-K fam into back);
    state = subst (λ (p : List Finished). IsSplitState g (record { parts = map part_of p; current = drawn_family g t.vertex new.items left })) (sym same-parts)
        (state-reordered g state (drawn_family g t.vertex new.items left) held.state (renamed-family n vertex apart f (family new.items left) (λ y c. drawn-name y) (λ y c. held.ends y (back y c)) fam) (within-map (family s.items rest) (family new.items left) into) (within-map (family new.items left) (family s.items rest) back));
    few = omega (arith, held.few, ap length same-parts, same-total);
    entries = omega (arith, held.entries, ap entry_total same-parts, ap length same-parts, same-total);
    three = omega (arith, held.three, same-total);
    ends = λ y c. held.ends y (back y c);
  }
    where
      within-map : (l k : List Entry) → IsWithin l k → IsWithin (map (drawn g t.vertex) l) (map (drawn g t.vertex) k)
      within-map l k h y c = let z = map-contains (drawn g t.vertex) y l c in subst (λ (q : Entry). Contains (map (drawn g t.vertex) k) q) z.2 (contains-map (drawn g t.vertex) z.0 k (h z.0 z.1))
