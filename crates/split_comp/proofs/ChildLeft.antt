-- The dart to a child is finished, for the values that the code has.
use Rattle.std.proofs.Common.{◌≡◌, ℕ, ◌+◌, ◌-◌, ◌*◌, ◌<◌, ◌≤◌, inl, inr, true, length, take, sym, ap, ◌∙◌, subst, arith, None}
use Rattle.std.proofs.lemmas.Bool.{cases_lt}
use Rattle.std.proofs.lemmas.List.{length-take-le}
use Rattle.multigraph.specs.Graph.{Multigraph}
use Rattle.split_comp.specs.declared.items.StackEntry.{StackEntry}
use Rattle.split_comp.specs.declared.items.Dart.{Dart}
use Rattle.split_comp.specs.Cuts.{cut}
use Rattle.split_comp.specs.Noting.{IsNoted}
use Rattle.split_comp.specs.Palm.{tree_dart}
use Rattle.split_comp.specs.Pass.{NumberedTree, IsNumbered, PassState, at_place, IsPass, IsBack, IsFronted, IsAsFar, IsReduced, IsSplitOff, CanSplitOff, CanJoin, IsFrondAdded, IsDartNoted, IsMetDropped, IsWhole, last_dart, new_frond, pushed, cuts_dropped, next_name, goes, weight}
use Rattle.split_comp.proofs.Leaving.{child-can, child-fronted, noted-pass, killed-pass, base-within, base-rises}
use Rattle.split_comp.proofs.AsFar.{frond-far}
use Rattle.split_comp.proofs.Onward.{fronted-joins, fronted-added}

module _ (g : Multigraph) (t : NumberedTree) (numbered : IsNumbered g t) (s : PassState) (r : IsReduced g t s) where
  b : IsBack g t s.done s
  b = r.back

  last-cut : at_place s.base s.done < length s.cuts → (cut s.cuts (length s.cuts - 1)).up ≡ s.at → ⊥
  last-cut l u = r.no_cut (record { some = l; up = u })

  -- what was gone along last
  place-is : b.raised.place ≡ at_place s.gone s.at - 1
  place-is = omega (arith, b.raised.last_gone)

  dart-is : tree_dart g t.palm t.vertex s.at b.raised.place ≡ last_dart g t s
  dart-is = ap (tree_dart g t.palm t.vertex s.at) place-is

  base-in : at_place s.base s.done ≤ length s.cuts
  base-in = base-within g t numbered s.done s b r.no_triangle last-cut

  base-kept : at_place s.base s.at ≤ length (take (at_place s.base s.done) s.cuts)
  base-kept = omega (arith, base-rises g t numbered s.done s b r.no_triangle last-cut, length-take-le (at_place s.base s.done) s.cuts base-in)

  -- all below the child is split off
  module _ (whole : IsWhole (last_dart g t s).class (at_place s.start s.done) s) (v start reach : ℕ) (dropped : PassState) (here : v ≡ s.at) (from : start ≡ at_place s.start s.done) (to : reach ≡ (last_dart g t s).reach) (d : dropped ≡ cuts_dropped s (at_place s.base s.done)) where
    class-two : (tree_dart g t.palm t.vertex s.at b.raised.place).class ≡ 2
    class-two = ap (λ (x : Dart). x.class) dart-is ∙ whole.class_two

    reaches : reach ≡ (tree_dart g t.palm t.vertex s.at b.raised.place).reach
    reaches = to ∙ ap (λ (x : Dart). x.reach) (sym dart-is)

    pub whole-can : CanSplitOff g t.vertex (goes None) start reach v dropped
    whole-can = subst (λ (y : ℕ × ℕ × ℕ × PassState). CanSplitOff g t.vertex (λ (x : StackEntry). true) y.0 y.1 y.2 y.3) (λ i. (sym from i, sym reaches i, sym here i, sym d i)) (child-can g t numbered s.done s b r.no_triangle last-cut class-two whole.two)

    module _ (mid : PassState) (e : IsSplitOff g t.vertex (goes None) start reach v dropped mid) where
      pub whole-up : reach < length mid.first
      whole-up = omega (arith, ap (λ (z : PassState). length z.first) e.now, ap (λ (z : PassState). length z.first) d, b.raised.first.places, whole-can.up_in, numbered.vertices.places)

      pub whole-within : at_place mid.base v ≤ length mid.cuts
      whole-within = omega (
        arith,
        ap (λ (z : PassState). at_place z.base v) e.now,
        ap (λ (z : PassState). length z.cuts) e.now,
        subst (λ (y : ℕ × PassState). at_place y.1.base y.0 ≤ length y.1.cuts) (λ i. (sym here i, sym d i)) base-kept,
      )

      -- all entries from the start on are gone
      pub whole-weight : weight mid + 8 * length dropped.items ≤ weight s + 8 * start
      whole-weight = omega (
        arith,
        ap (λ (z : PassState). length z.items) e.now,
        ap (λ (z : PassState). length z.cuts) e.now,
        length-take-le start dropped.items whole-can.within,
        ap (λ (z : PassState). length z.items) d,
        ap (λ (z : PassState). length z.cuts) d,
        length-take-le (at_place s.base s.done) s.cuts base-in,
        base-in,
      )

    module _ (mid : PassState) (e : IsSplitOff g t.vertex (goes None) start reach v dropped mid) (name : ℕ) (named : name ≡ next_name g dropped) where
      split_off : IsSplitOff g t.vertex (λ x. true) (at_place s.start s.done) (tree_dart g t.palm t.vertex s.at b.raised.place).reach s.at (cuts_dropped s (at_place s.base s.done)) mid
      split_off = subst (λ (y : ℕ × ℕ × ℕ × PassState). IsSplitOff g t.vertex (λ (x : StackEntry). true) y.0 y.1 y.2 y.3 mid) (λ i. (from i, reaches i, here i, d i)) e

      at-mid : v ≡ mid.at
      at-mid = here ∙ sym (ap (λ (z : PassState). z.at) split_off.now)

      fronted : IsFronted g t (pushed mid (new_frond name mid.at reach mid))
      fronted = subst (λ (y : ℕ × ℕ × PassState). IsFronted g t (pushed y.2 (new_frond y.0 y.2.at y.1 y.2))) (λ i. (sym (named ∙ ap (next_name g) d) i, sym reaches i, sym split_off.now i))
          (child-fronted g t numbered s.done s b r.no_triangle last-cut class-two whole.two mid split_off)

      pub whole-joins : CanJoin g t.vertex (pushed mid (new_frond name v reach mid))
      whole-joins = subst (λ (y : ℕ). CanJoin g t.vertex (pushed mid (new_frond name y reach mid))) (sym at-mid) (λ par. fronted-joins g t numbered mid name reach fronted par)

      pub whole-left : (new : PassState) → IsFrondAdded g t.vertex name v reach mid new → IsPass g t new × IsAsFar s new
      whole-left new a =
          let f = frond-far g t.vertex name v reach mid new a in (
            fronted-added g t numbered mid name reach fronted new (subst (λ (y : ℕ). IsFrondAdded g t.vertex name y reach mid new) at-mid a),
            record { at = f.at ∙ ap (λ (z : PassState). z.at) split_off.now; done = f.done ∙ ap (λ (z : PassState). z.done) split_off.now; gone = f.gone ∙ ap (λ (z : PassState). z.gone) split_off.now },
          )

  -- nothing is split off
  module _ (part : IsWhole (last_dart g t s).class (at_place s.start s.done) s → ⊥) where
    kept : (tree_dart g t.palm t.vertex s.at b.raised.place).class ≡ 2 → s.total < length s.items - at_place s.start s.done + 2
    kept q = elim (cases_lt s.total (length s.items - at_place s.start s.done + 2)) [
      | inl l ↦ l
      | inr l ↦ absurd (part (record { class_two = ap (λ (x : Dart). x.class) (sym dart-is) ∙ q; two = l }))
    ]

    -- a further dart is noted
    later-left : (v start reach : ℕ) (dropped new : PassState) → v ≡ s.at → start ≡ at_place s.start s.done → reach ≡ (last_dart g t s).reach → dropped ≡ cuts_dropped s (at_place s.base s.done) → at_place s.start s.at < at_place s.start s.done
        → IsDartNoted v start reach dropped new → IsPass g t new × IsAsFar s new
    later-left v start reach dropped new here from to d late noted =
        let n = there.later late in (
          subst (IsPass g t) (sym n.2) (noted-pass g t numbered s.done s b r.no_triangle last-cut kept late n.0
              (subst (λ (y : ℕ). IsNoted (at_place s.base s.at) (record { start = at_place s.start s.done; up = y; low = s.at }) (take (at_place s.base s.done) s.cuts) n.0) (ap (λ (x : Dart). x.reach) (sym dart-is)) n.1)),
          record { at = ap (λ (z : PassState). z.at) n.2; done = ap (λ (z : PassState). z.done) n.2; gone = ap (λ (z : PassState). z.gone) n.2 },
        )
      where
        there : IsDartNoted s.at (at_place s.start s.done) (last_dart g t s).reach (cuts_dropped s (at_place s.base s.done)) new
        there = subst (λ (y : ℕ × ℕ × ℕ × PassState). IsDartNoted y.0 y.1 y.2 y.3 new) (λ i. (here i, from i, to i, d i)) noted

    -- the first dart takes over the cuts of the child
    first-left : (v base : ℕ) (new : PassState) → v ≡ s.at → base ≡ at_place s.base s.done → at_place s.start s.done ≤ at_place s.start s.at → IsMetDropped v base s new → IsPass g t new × IsAsFar s new
    first-left v base new here from early dropped =
        let n = there in (
          subst (IsPass g t) (sym n.2) (killed-pass g t numbered s.done s b r.no_triangle last-cut kept early n.0 n.1),
          record { at = ap (λ (z : PassState). z.at) n.2; done = ap (λ (z : PassState). z.done) n.2; gone = ap (λ (z : PassState). z.gone) n.2 },
        )
      where
        there : IsMetDropped s.at (at_place s.base s.done) s new
        there = subst (λ (y : ℕ × ℕ). IsMetDropped y.0 y.1 s new) (λ i. (here i, from i)) dropped

  -- the same, for what the code has read
  module _ (v start base k : ℕ) (dart : Dart) (here : v ≡ s.at) (from : start ≡ at_place s.start s.done) (bases : base ≡ at_place s.base s.done) (gone : k ≡ at_place s.gone v) (is : dart ≡ tree_dart g t.palm t.vertex v (k - 1)) where
    dart-last : dart ≡ last_dart g t s
    dart-last = is ∙ (λ i. tree_dart g t.palm t.vertex (here i) ((gone ∙ ap (at_place s.gone) here) i - 1))

    pub noted-within : (dropped : PassState) → dropped ≡ cuts_dropped s base → at_place dropped.base v ≤ length dropped.cuts
    noted-within dropped d = subst (λ (y : ℕ × PassState). at_place y.1.base y.0 ≤ length y.1.cuts) (λ i. (sym here i, sym (d ∙ ap (cuts_dropped s) bases) i)) base-kept

    pub met-within : base ≤ length s.cuts
    met-within = omega (arith, bases, base-in)

    module _ (part : IsWhole dart.class start s → ⊥) (own : ℕ) (owns : own ≡ at_place s.start v) where
      parted : IsWhole (last_dart g t s).class (at_place s.start s.done) s → ⊥
      parted w = part (subst (λ (y : ℕ × ℕ). IsWhole y.0 y.1 s) (λ i. ((sym dart-last i).class, sym from i)) w)

      own-is : own ≡ at_place s.start s.at
      own-is = owns ∙ ap (at_place s.start) here

      pub noted-left : own < start → (dropped new : PassState) → dropped ≡ cuts_dropped s base → IsDartNoted v start dart.reach dropped new → IsPass g t new × IsAsFar s new
      noted-left late dropped new d noted = later-left parted v start dart.reach dropped new here from (ap (λ (x : Dart). x.reach) dart-last) (d ∙ ap (cuts_dropped s) bases) (omega (arith, late, own-is, from)) noted

      pub met-left : start ≤ own → (new : PassState) → IsMetDropped v base s new → IsPass g t new × IsAsFar s new
      met-left early new dropped = first-left parted v base new here bases (omega (arith, early, own-is, from)) dropped
