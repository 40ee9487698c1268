use Rattle.std.proofs.Common.{◌≡◌, ◌+◌, ◌-◌, List, [], ℕ, slice_index_or, slice_set, Contains, ◌∙◌, sym, subst, arith, inl, inr}
use Rattle.std.proofs.lemmas.Bool.{cases_eq}
use Rattle.choice_lists.specs.Order.{IsAt}
use Rattle.choice_lists.specs.Products.{IsLast}
use Rattle.whole_embed.specs.Cuts.{CutState, blocks_in}
use Rattle.whole_embed.specs.Walk.{arrangements_at_place}
use Rattle.whole_embed.proofs.WalkSteps.{next-made}
use Rattle.whole_embed.proofs.walking.next_lists.Goals as goal

pub set_next-requires-clause-arranged : goal.set_next-requires-clause-arranged
set_next-requires-clause-arranged c =
    let h = c.loop-i.invariant in
    subst (λ (s : CutState). Contains (arrangements_at_place s.component (blocks_in c.args.all.now) (c.loop-i.i - 1)) (slice_index_or s.lists (c.loop-i.i - 1) [])) (sym h.same)
    (c.requires.arranged.each (c.loop-i.i - 1) (omega (arith, h.within, c.loop-i-test.true)))

pub returns-then-set_next-clause-next : goal.returns-then-set_next-clause-next
returns-then-set_next-clause-next c = λ t.
    let h = c.loop-i.invariant in
    let old : CutState = c.args.cuts.now in
    let block = blocks_in c.args.all.now in
    let place : ℕ = c.loop-i.i - 1 in
    let w = subst (λ (s : CutState). (list : List ℕ) × (c.set_next.new.self ≡ record { component = s.component; lists = slice_set s.lists place list })
    × ((j : ℕ) → IsAt (arrangements_at_place s.component block place) j (slice_index_or s.lists place []) → IsAt (arrangements_at_place s.component block place) (j + 1) list)) h.same (c.set_next.ensures.next c.if-set_next.true) in
    next-made block old c.set_next.new.self place c.first_from.new.cuts.lists c.requires.arranged.one_each (omega (arith, h.within, c.loop-i-test.true)) w (λ j a b. h.last j (omega (arith, a, c.loop-i-test.true)) b) c.first_from.ensures.lists

pub loop-i-preserved : goal.loop-i-preserved
loop-i-preserved c =
    let h = c.loop-i.invariant in
    let old : CutState = c.args.cuts.now in
    let block = blocks_in c.args.all.now in
    let last = subst (λ (s : CutState). IsLast (arrangements_at_place s.component block (c.loop-i.i - 1)) (slice_index_or s.lists (c.loop-i.i - 1) [])) h.same (c.set_next.ensures.last c.if-set_next.false) in
    record {
      same = c.set_next.ensures.as_before c.if-set_next.false ∙ h.same;
      within = omega (arith, h.within);
      last = λ j a b. elim (cases_eq j (c.loop-i.i - 1)) [
        | inl e ↦ subst (λ z. IsLast (arrangements_at_place old.component block z) (slice_index_or old.lists z [])) (sym e) last
        | inr n ↦ h.last j (omega (arith, a, n)) b
      ];
    }
