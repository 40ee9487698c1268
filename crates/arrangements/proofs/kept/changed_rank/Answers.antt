use Rattle.std.proofs.Common.{◌≡◌, ◌≤◌, ℕ, true, false, List, None, Some, sym, ap, ◌∙◌, subst, arith, length, take, get_or}
use Rattle.std.proofs.Math.ListN.{length-set}
use Rattle.std.proofs.lemmas.List.{take_more, take_all}
use Rattle.permutations.specs.Members.{is_member, place_of}
use Rattle.permutations.proofs.Arrangements.{permutation-member}
use Rattle.arrangements.specs.Options.{follower}
use Rattle.arrangements.specs.Changed.{is_other}
use Rattle.arrangements.proofs.Noted.{member-at}
use Rattle.arrangements.proofs.Passed.{IsPassed, passed-on, passed-worse, passed-kept, passed-changed, passed-as}
use Rattle.arrangements.proofs.kept.changed_rank.Goals as goal
use Rattle.arrangements.proofs.kept.changed_rank.Goals.{then-rank-least+then-is_other, else-rank-least, else-rank-least-via-then-rank-least+else-is_other, else-rank-least-via-else-rank-least}

-- the list has no other edges
pub place-place-requires : goal.place-place-requires
place-place-requires c = sym (permutation-member c.args.tables.now.edges c.args.list.now (get_or c.args.list.now c.loop-edge.edge-index 0) c.requires.all) ∙ member-at c.args.list.now c.loop-edge.edge-index c.loop-edge-test.true

-- one edge more
pub loop-edge-preserved : goal.loop-edge-preserved
loop-edge-preserved c =
    let l : List ℕ = c.args.list.now in
    let edges : List ℕ = c.args.tables.now.edges in
    let e : ℕ = get_or l c.loop-edge.edge-index 0 in
    let m : is_member e edges ≡ true = sym (permutation-member edges l e c.requires.all) ∙ member-at l c.loop-edge.edge-index c.loop-edge-test.true in
    let rank : c.rank-rank.result ≡ get_or c.args.tables.now.ranks (place_of edges e) 0 = c.rank-rank.ensures.is ∙ ap (λ (p : ℕ). get_or c.args.tables.now.ranks p 0) c.place-place.ensures.is in
    record {
      room = length-set c.loop-edge.expected c.rank-rank.result (Some c.follower.result) ∙ c.loop-edge.invariant.room;
      least = elim c.if-rank-least.branch [
        | then-rank-least+then-is_other w ↦ omega (arith, w.least-is, c.rank-rank.ensures.below)
        | else-rank-least w ↦ omega (arith, w.least-is, c.loop-edge.invariant.least)
      ];
      passed = λ block order a.
          let next : c.follower.result ≡ follower block order e = c.follower.ensures.is ∙ ap (λ (p : ℕ). get_or c.args.tables.now.followers p 0) c.place-place.ensures.is ∙ a.follows e m in
          let old = c.loop-edge.invariant.passed block order a in
          elim c.if-rank-least.branch [
            | then-rank-least+then-is_other w ↦
                passed-as c.args.tables.now block order c.loop-edge.expected _ _ _ _ _ _ _ _ rank next (w.least-is ∙ rank) (take_more l c.loop-edge.edge-index 0 c.loop-edge-test.true)
                (passed-worse c.args.tables.now block order c.keeps.ensures a c.loop-edge.expected c.loop-edge.invariant.room c.loop-edge.least (take c.loop-edge.edge-index l) e m old
                (omega (arith, rank, w.if-rank-least.true))
                (subst (λ (r : ℕ). is_other (get_or c.loop-edge.expected r None) e ≡ true) rank (sym w.is_other.ensures ∙ w.if-is_other.true)))
            | else-rank-least w ↦
                passed-as c.args.tables.now block order c.loop-edge.expected _ _ _ _ _ _ _ _ rank next w.least-is (take_more l c.loop-edge.edge-index 0 c.loop-edge-test.true)
                (passed-on c.args.tables.now block order c.keeps.ensures a c.loop-edge.expected c.loop-edge.invariant.room c.loop-edge.least (take c.loop-edge.edge-index l) e m old
                (λ h. elim w.else-rank-least.branch [
                  | else-rank-least-via-then-rank-least+else-is_other v ↦ subst (λ (r : ℕ). is_other (get_or c.loop-edge.expected r None) e ≡ false) rank (sym v.is_other.ensures ∙ v.if-is_other.false)
                  | else-rank-least-via-else-rank-least v ↦ absurd (omega (arith, rank, h, v.if-rank-least.false))
                ]))
          ];
    }

-- all blocks are kept
pub returns-clause-none : goal.returns-clause-none
returns-clause-none c = λ h block order a.
    let e : length c.args.list.now ≤ c.loop-edge.edge-index = omega (arith, c.loop-edge-test.false) in
    passed-kept c.args.tables.now block order c.loop-edge.expected c.loop-edge.least c.args.list.now c.keeps.ensures a c.requires.all
    (subst (λ (k : List ℕ). IsPassed c.args.tables.now c.loop-edge.expected c.loop-edge.least k block order) (take_all c.loop-edge.edge-index c.args.list.now e) (c.loop-edge.invariant.passed block order a)) h

-- one is not
pub returns-clause-some : goal.returns-clause-some
returns-clause-some c = λ h block order a.
    let e : length c.args.list.now ≤ c.loop-edge.edge-index = omega (arith, c.loop-edge-test.false) in
    passed-changed c.args.tables.now block order c.loop-edge.expected c.loop-edge.least c.args.list.now c.keeps.ensures a c.requires.all
    (subst (λ (k : List ℕ). IsPassed c.args.tables.now c.loop-edge.expected c.loop-edge.least k block order) (take_all c.loop-edge.edge-index c.args.list.now e) (c.loop-edge.invariant.passed block order a)) h
