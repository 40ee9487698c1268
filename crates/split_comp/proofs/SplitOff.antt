-- One component is split off where the search has come back, for the values that the code has.
use Rattle.std.proofs.Common.{◌≡◌, ℕ, ◌+◌, ◌-◌, ◌*◌, ◌<◌, ◌≤◌, Bool, true, false, not, Option, None, Some, List, length, filter, drop, refl, sym, ap, ◌∙◌, subst, arith}
use Rattle.std.proofs.lemmas.List.{length-take-le, length-drop}
use Rattle.std.proofs.lemmas.List.Filters.{length-filter_both}
use Rattle.std.proofs.lemmas.List.Elements.{Contains-get_or}
use Rattle.multigraph.specs.Graph.{Multigraph}
use Rattle.pair_split.proofs.Elements.{contains-filter, element-some}
use Rattle.split_comp.specs.declared.items.StackEntry.{StackEntry}
use Rattle.split_comp.specs.declared.items.StackCut.{StackCut}
use Rattle.split_comp.specs.Stack.{no_item, item, entry}
use Rattle.split_comp.specs.Cuts.{cut}
use Rattle.split_comp.specs.Sides.{is_frond_to}
use Rattle.split_comp.specs.Pass.{NumberedTree, IsNumbered, PassState, at_place, IsRaised, IsBack, IsAsFar, IsReducedOnce, IsSplitOff, CanSplitOff, CanJoin, IsTreeAdded, IsTriangle, IsStale, IsStaleDropped, IsCutTo, IsFrondFound, IsApart, number_apart, top_item, below_item, new_tree, pushed, cuts_dropped, next_name, goes, lowered, weight}
use Rattle.split_comp.proofs.Entries.{stack-contains}
use Rattle.split_comp.proofs.Firsts.{lowered-length}
use Rattle.split_comp.proofs.Reducing.{stale-back, triangle-can, triangle-raised, triangle-starts, added-can, added-back}
use Rattle.split_comp.proofs.Pairing.{pair-can, alone-raised, alone-starts, both-raised, both-starts}
use Rattle.split_comp.proofs.AsFar.{tree-far}

-- one entry stays apart at most
pub apart-one : (frond : Option ℕ) → number_apart frond ≤ 1
apart-one None = omega arith
apart-one (Some name) = omega arith

-- what goes and what stays apart are no more than all
pub apart-few : (frond : Option ℕ) (items : List StackEntry) (up low : ℕ) → IsFrondFound up low items frond → length (filter (goes (Some (up, low))) items) + number_apart frond ≤ length items
apart-few frond items up low found = omega (arith, length-filter_both (goes (Some (up, low))) (is_frond_to up low) other items, some frond found)
  where
    other : (x : StackEntry) → is_frond_to up low x ≡ not (goes (Some (up, low)) x)
    other x = twice (is_frond_to up low x)
      where
        twice : (b : Bool) → b ≡ not (not b)
        twice true = refl
        twice false = refl

    some : (found : Option ℕ) → IsFrondFound up low items found → number_apart found ≤ length (filter (is_frond_to up low) items)
    some None f = omega arith
    some (Some name) f = element-some (item items f.0) (filter (is_frond_to up low) items) (contains-filter (is_frond_to up low) (item items f.0) items (Contains-get_or items f.0 no_item f.1) f.2)

module _ (g : Multigraph) (t : NumberedTree) (numbered : IsNumbered g t) (s : PassState) (b : IsBack g t s.done s) where
  pub two-items : 2 ≤ length s.items
  two-items = omega (arith, b.raised.atop.size, b.raised.atop.stands.laid.tree_start b.raised.height (omega (arith, b.raised.atop.size)) b.raised.atop.tree)

  top-in : (top_item s).low < g.vertex_count
  top-in = (b.raised.held.ends (entry (top_item s)) (stack-contains s.items b.raised.rest (length s.items - 1) (omega (arith, two-items)))).1

  pub top-first : (top_item s).low < length s.first
  top-first = omega (arith, top-in, b.raised.first.places)

  below-in : (below_item s).low < g.vertex_count
  below-in = (b.raised.held.ends (entry (below_item s)) (stack-contains s.items b.raised.rest (length s.items - 2) (omega (arith, two-items)))).1

  -- a cut is dropped
  pub stale-once : (v base : ℕ) → v ≡ s.at → base ≡ at_place s.base s.done → (new : PassState) → IsStaleDropped v base s new true → IsReducedOnce g t s new true
  stale-once v base here from new d =
      let there = subst (λ (y : ℕ × ℕ). IsStaleDropped y.0 y.1 s new true) (λ i. (here i, from i)) d in (
        subst (IsBack g t s.done) (sym there.1) (stale-back g t s.done s b there.0),
        record { at = ap (λ (z : PassState). z.at) there.1; done = ap (λ (z : PassState). z.done) there.1; gone = ap (λ (z : PassState). z.gone) there.1 },
      )

  -- a triangle
  module _ (fresh : IsStale s.at (at_place s.base s.done) s → ⊥) (tri : IsTriangle s) (v place : ℕ) (below : StackEntry) (here : v ≡ s.at) (second : place ≡ length s.items - 2) (read : below ≡ item s.items place) where
    below-is : below ≡ below_item s
    below-is = read ∙ ap (item s.items) second

    pub corner-can : CanSplitOff g t.vertex (goes None) place v below.low s
    corner-can = subst (λ (y : ℕ × ℕ × StackEntry). CanSplitOff g t.vertex (λ (x : StackEntry). true) y.0 y.1 y.2.low s) (λ i. (sym second i, sym here i, sym below-is i)) (triangle-can g t numbered s.done s b tri fresh)

    module _ (mid : PassState) (e : IsSplitOff g t.vertex (goes None) place v below.low s mid) (name : ℕ) (named : name ≡ next_name g s) where
      split_off : IsSplitOff g t.vertex (λ x. true) (length s.items - 2) s.at (below_item s).low s mid
      split_off = subst (λ (y : ℕ × ℕ × StackEntry). IsSplitOff g t.vertex (λ (x : StackEntry). true) y.0 y.1 y.2.low s mid) (λ i. (second i, here i, below-is i)) e

      abbrev now : PassState
      now = pushed mid (new_tree name v below.low below.start)

      raised : (r : IsRaised g t s.done now) × ((c : ℕ) → c < length (drop (at_place now.base s.done) now.cuts) → (cut (drop (at_place now.base s.done) now.cuts) c).start < r.height)
      raised = subst (λ (z : PassState). (r : IsRaised g t s.done z) × ((c : ℕ) → c < length (drop (at_place z.base s.done) z.cuts) → (cut (drop (at_place z.base s.done) z.cuts) c).start < r.height))
          (λ i. pushed (sym split_off.now i) (new_tree (sym named i) (sym here i) (sym below-is i).low (sym below-is i).start))
          (triangle-raised g t numbered s.done s b tri fresh mid split_off, triangle-starts g t numbered s.done s b tri fresh mid split_off)

      pub corner-joins : CanJoin g t.vertex (pushed mid (new_tree name v below.low below.start))
      corner-joins = added-can g t numbered s.done now raised.0

      pub corner-low : below.low < length mid.first
      corner-low = omega (arith, ap (λ (z : PassState). length z.first) e.now, b.raised.first.places, below-in, ap (λ (x : StackEntry). x.low) below-is)

      -- two entries less
      pub corner-weight : weight mid + 16 ≡ weight s
      corner-weight = omega (arith, ap (λ (z : PassState). length z.items) e.now, ap (λ (z : PassState). length z.cuts) e.now, length-take-le place s.items (omega (arith, second)), second, two-items)

      pub corner-once : (new : PassState) → IsTreeAdded g t.vertex name v below.low below.start mid new → IsReducedOnce g t s new true
      corner-once new a =
          let f = tree-far g t.vertex name v below.low below.start mid new a in (
            added-back g t numbered s.done now new raised.0 raised.1 a.joined a.join,
            record { at = f.at ∙ ap (λ (z : PassState). z.at) e.now; done = f.done ∙ ap (λ (z : PassState). z.done) e.now; gone = f.gone ∙ ap (λ (z : PassState). z.gone) e.now },
          )

  -- a pair
  module _ (fresh : IsStale s.at (at_place s.base s.done) s → ⊥) (none : IsTriangle s → ⊥) (to : IsCutTo s.at (at_place s.base s.done) s) (v : ℕ) (last : StackCut) (dropped : PassState)
      (here : v ≡ s.at) (is : last ≡ cut s.cuts (length s.cuts - 1)) (d : dropped ≡ cuts_dropped s (length s.cuts - 1)) where
    pub end-can : CanSplitOff g t.vertex (goes (Some (v, last.low))) last.start v last.low dropped
    end-can = subst (λ (y : ℕ × StackCut × PassState). CanSplitOff g t.vertex (goes (Some (y.0, y.1.low))) y.1.start y.0 y.1.low y.2) (λ i. (sym here i, sym is i, sym d i)) (pair-can g t numbered s.done s b fresh none to.some to.up)

    pub end-start : last.start ≤ length dropped.items
    end-start = end-can.within

    -- what is behind the cut is gone, and the cut
    module _ (mid : PassState) (e : IsSplitOff g t.vertex (goes (Some (v, last.low))) last.start v last.low dropped mid) where
      pub end-low : last.low < length mid.first
      end-low = omega (arith, ap (λ (z : PassState). length z.first) e.now, ap (λ (z : PassState). length z.first) d, b.raised.first.places, end-can.low_in, numbered.vertices.places)

      pub end-weight : weight mid + 2 + 8 * length dropped.items ≡ weight s + 8 * last.start
      end-weight = omega (
        arith,
        ap (λ (z : PassState). length z.items) e.now,
        ap (λ (z : PassState). length z.cuts) e.now,
        length-take-le last.start dropped.items end-can.within,
        ap (λ (z : PassState). length z.items) d,
        ap (λ (z : PassState). length z.cuts) d,
        length-take-le (length s.cuts - 1) s.cuts (omega arith),
        to.some,
      )

    module _ (frond : Option ℕ) (found : IsFrondFound v last.low (drop last.start dropped.items) frond) where
      pub end-few : last.start + 2 + number_apart frond ≤ length dropped.items
      end-few = omega (arith, end-can.two, end-can.within, apart-few frond (drop last.start dropped.items) v last.low found, length-drop last.start dropped.items)

      module _ (mid : PassState) (e : IsSplitOff g t.vertex (goes (Some (v, last.low))) last.start v last.low dropped mid) (name : ℕ) (named : name ≡ next_name g dropped) (apart : PassState) (a : IsApart frond v last.low last.start mid apart) (start : ℕ) (from : start ≡ at_place s.start s.done) where
        abbrev c : StackCut
        c = cut s.cuts (length s.cuts - 1)

        taken : IsSplitOff g t.vertex (goes (Some (s.at, c.low))) c.start s.at c.low (cuts_dropped s (length s.cuts - 1)) mid
        taken = subst (λ (y : ℕ × StackCut × PassState). IsSplitOff g t.vertex (goes (Some (y.0, y.1.low))) y.1.start y.0 y.1.low y.2 mid) (λ i. (here i, is i, d i)) e

        found-there : IsFrondFound s.at c.low (drop c.start s.items) frond
        found-there = subst (λ (y : ℕ × StackCut × PassState). IsFrondFound y.0 y.1.low (drop y.1.start y.2.items) frond) (λ i. (here i, is i, d i)) found

        abbrev x : StackEntry
        x = new_tree (next_name g s) s.at c.low (at_place s.start s.done)

        abbrev Raises : PassState → Type 0
        Raises z = (r : IsRaised g t s.done z) × ((i : ℕ) → i < length (drop (at_place z.base s.done) z.cuts) → (cut (drop (at_place z.base s.done) z.cuts) i).start < r.height)

        raised-by : (frond : Option ℕ) → IsFrondFound s.at c.low (drop c.start s.items) frond → IsApart frond s.at c.low c.start mid apart → Raises (pushed apart x)
        raised-by None f q = subst (λ (z : PassState). Raises (pushed z x)) (sym (q ∙ taken.now))
            (alone-raised g t numbered s.done s b fresh none to.some to.up mid taken f, alone-starts g t numbered s.done s b fresh none to.some to.up mid taken f)
        raised-by (Some name) f q = subst (λ (z : PassState). Raises (pushed z x)) (sym (q ∙ ap (λ (z : PassState). pushed z (record { name = name; up = s.at; low = c.low; tree = false; start = c.start })) taken.now))
            (both-raised g t numbered s.done s b fresh none to.some to.up mid taken name f, both-starts g t numbered s.done s b fresh none to.some to.up mid taken name f)

        raised-end : Raises (pushed apart (new_tree name v last.low start))
        raised-end = subst Raises (λ i. pushed apart (new_tree (sym (named ∙ ap (next_name g) d) i) (sym here i) (sym is i).low (sym from i)))
            (raised-by frond found-there (subst (λ (y : ℕ × StackCut). IsApart frond y.0 y.1.low y.1.start mid apart) (λ i. (here i, is i)) a))

        first-apart : (frond : Option ℕ) → IsApart frond v last.low last.start mid apart → length apart.first ≡ length mid.first
        first-apart None q = ap (λ (z : PassState). length z.first) q
        first-apart (Some name) q = ap (λ (z : PassState). length z.first) q ∙ (lowered-length (lowered mid.first v (length mid.items)) last.low (length mid.items) ∙ lowered-length mid.first v (length mid.items))

        pub end-low-apart : last.low < length apart.first
        end-low-apart = omega (arith, end-low mid e, first-apart frond a)

        pub end-joins : CanJoin g t.vertex (pushed apart (new_tree name v last.low start))
        end-joins = added-can g t numbered s.done (pushed apart (new_tree name v last.low start)) raised-end.0

        far-apart : (frond : Option ℕ) → IsApart frond v last.low last.start mid apart → IsAsFar mid apart
        far-apart None q = record { at = ap (λ (z : PassState). z.at) q; done = ap (λ (z : PassState). z.done) q; gone = ap (λ (z : PassState). z.gone) q }
        far-apart (Some name) q = record { at = ap (λ (z : PassState). z.at) q; done = ap (λ (z : PassState). z.done) q; gone = ap (λ (z : PassState). z.gone) q }

        pub end-once : (new : PassState) → IsTreeAdded g t.vertex name v last.low start apart new → IsReducedOnce g t s new true
        end-once new q =
            let f = tree-far g t.vertex name v last.low start apart new q in
            let m = far-apart frond a in (
              added-back g t numbered s.done (pushed apart (new_tree name v last.low start)) new raised-end.0 raised-end.1 q.joined q.join,
              record {
                at = f.at ∙ (m.at ∙ ap (λ (z : PassState). z.at) taken.now);
                done = f.done ∙ (m.done ∙ ap (λ (z : PassState). z.done) taken.now);
                gone = f.gone ∙ (m.gone ∙ ap (λ (z : PassState). z.gone) taken.now);
              },
            )
