use Rattle.std.proofs.Common.{◌≡◌, ◌<◌, ◌≤◌, ℕ, inl, inr, List, [], ◌∷◌, ◌++◌, length, map, take, slice_index, slice_set, sym, ap, ◌∙◌, arith}
use Rattle.std.proofs.Math.ListN.{length-set}
use Rattle.std.proofs.lemmas.Bool.{cases_eq}
use Rattle.std.proofs.lemmas.List.{take_all, take_more_set, map_more, get_or-set_same, get_or-set_other}
use Rattle.std.proofs.lemmas.List.Sorted.{length_permutation}
use Rattle.permutations.proofs.Arrangements.{permutation-member, member-at}
use Rattle.arrangements.specs.Tables.{rank_in}
use Rattle.arrangements.proofs.crossings.write_ranks.Goals as goal
use Rattle.arrangements.proofs.crossings.write_ranks.Goals.{then-rank-bound, else-rank-bound}

-- each of the list is an edge
pub place-requires : goal.place-requires
place-requires c =
    let x : ℕ = slice_index c.args.list.now c.loop-i.i in
    sym (permutation-member c.args.tables.now.edges c.args.list.now x c.requires.list) ∙ member-at c.args.list.now c.loop-i.i 0 c.loop-i-test.true

-- there is a place for each rank
pub bounds-ranks-i : goal.bounds-ranks-i
bounds-ranks-i c = omega (arith, c.loop-i.invariant.size, c.loop-i-test.true, length_permutation c.args.tables.now.edges c.args.list.now c.requires.list)

-- one place more
pub loop-i-preserved : goal.loop-i-preserved
loop-i-preserved c =
    let i : ℕ = c.loop-i.i in
    let y : ℕ = c.rank-rank.result in
    let t = c.args.tables.now in
    let inside : i < length c.loop-i.ranks = omega (arith, c.loop-i.invariant.size, c.loop-i-test.true, length_permutation c.args.tables.now.edges c.args.list.now c.requires.list) in
    let is : y ≡ rank_in t (slice_index c.args.list.now i) = c.rank-rank.ensures.is ∙ ap (slice_index t.ranks) c.place.ensures.is in
    let above : (y < c.if-rank-bound.bound) × (c.loop-i.bound ≤ c.if-rank-bound.bound) × (c.if-rank-bound.bound ≤ length t.edges) = elim c.if-rank-bound.branch [
      | then-rank-bound w ↦ (omega (arith, w.bound-is), omega (arith, w.bound-is, w.if-rank-bound.true), omega (arith, w.bound-is, c.rank-rank.ensures.below))
      | else-rank-bound w ↦ (omega (arith, w.bound-is, w.if-rank-bound.false), omega (arith, w.bound-is), omega (arith, w.bound-is, c.loop-i.invariant.bound))
    ] in
    record {
      size = length-set c.loop-i.ranks i y ∙ c.loop-i.invariant.size;
      ranks =
          take_more_set c.loop-i.ranks i y inside
          ∙ ap (λ (z : List ℕ). z ++ y ∷ []) c.loop-i.invariant.ranks
          ∙ ap (λ (z : ℕ). map (rank_in t) (take i c.args.list.now) ++ z ∷ []) is
          ∙ sym (map_more (rank_in t) c.args.list.now i 0 c.loop-i-test.true);
      below = λ j h. elim (cases_eq j i) [
        | inl e ↦ omega (arith, ap (slice_index (slice_set c.loop-i.ranks i y)) e ∙ get_or-set_same c.loop-i.ranks i y 0 inside, above.0)
        | inr n ↦ let less : j < i = omega (arith, h, n) in omega (arith, get_or-set_other c.loop-i.ranks i j y 0 n, c.loop-i.invariant.below j less, above.1)
      ];
      bound = above.2;
    }

-- all ranks are written
pub returns-clause-ranks : goal.returns-clause-ranks
returns-clause-ranks c =
    let e : length c.args.list.now ≡ length c.args.tables.now.edges = length_permutation c.args.tables.now.edges c.args.list.now c.requires.list in
    sym (take_all c.loop-i.i c.loop-i.ranks (omega (arith, e, c.loop-i-test.false, c.loop-i.invariant.size)))
    ∙ c.loop-i.invariant.ranks
    ∙ ap (map (rank_in c.args.tables.now)) (take_all c.loop-i.i c.args.list.now (omega (arith, c.loop-i-test.false)))

-- and are below the bound
pub returns-clause-below : goal.returns-clause-below
returns-clause-below c i h =
    c.loop-i.invariant.below i (omega (arith, h, c.loop-i.invariant.size, c.loop-i-test.false, length_permutation c.args.tables.now.edges c.args.list.now c.requires.list))
