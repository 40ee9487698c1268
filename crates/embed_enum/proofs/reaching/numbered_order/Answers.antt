use Rattle.std.proofs.Common.{◌≡◌, ◌+◌, ◌-◌, ◌/◌, ◌%◌, ℕ, List, drop, length, slice_index_or, sym, ap, ◌∙◌, subst, arith}
use Rattle.permutations.specs.Members.{is_distinct}
use Rattle.choice_lists.proofs.Smaller.{smaller}
use Rattle.skeletons.specs.Choices.{choice}
use Rattle.skeletons.specs.Moves.{permute}
use Rattle.embed_enum.specs.Changes.{IsMoveTo}
use Rattle.embed_enum.proofs.Leads.{ok-held}
use Rattle.embed_enum.proofs.Reaches.{ArePlaced, placed-begins, placed-once, placed-long, placed-digit, placed-next, placed-to}
use Rattle.embed_enum.proofs.reaching.numbered_order.Goals as goal

pub loop-i-init : goal.loop-i-init
loop-i-init c =
    let e : c.in_ok-keys.keys.items ≡ choice c.args.p.now.tree c.args.p.now.rotation c.args.k = c.in_ok-keys.ensures.items_if_clones_equal (λ y z k. k) ∙ c.keys.ensures in
    placed-begins c.args.p.now c.belongs.ensures c.args.k c.requires.node c.in_ok-keys.keys.items c.len-items.result c.args.number c.args.orders e (c.len-items.ensures ∙ c.in_ok-keys.ensures.len ∙ ap length c.keys.ensures) c.requires.orders c.requires.below

pub nonzero_div-left : goal.nonzero_div-left
nonzero_div-left c = (placed-digit c.args.p.now c.belongs.ensures c.args.k c.requires.node c.loop-i.keys.items c.len-items.result c.loop-i.i c.loop-i.left c.loop-i.factor c.args.number c.loop-i.invariant c.loop-i-test.true).some

pub place_with_smaller-j-requires-clause-once : goal.place_with_smaller-j-requires-clause-once
place_with_smaller-j-requires-clause-once c = ap is_distinct c.deref.ensures.value ∙ placed-once c.args.p.now c.belongs.ensures c.args.k c.requires.node c.loop-i.keys.items c.len-items.result c.loop-i.i c.loop-i.left c.loop-i.factor c.args.number c.loop-i.invariant

pub place_with_smaller-j-requires-clause-some : goal.place_with_smaller-j-requires-clause-some
place_with_smaller-j-requires-clause-some c =
    let n : length c.deref.result.now ≡ c.len-items.result = ap length c.deref.ensures.value ∙ placed-long c.args.p.now c.belongs.ensures c.args.k c.requires.node c.loop-i.keys.items c.len-items.result c.loop-i.i c.loop-i.left c.loop-i.factor c.args.number c.loop-i.invariant in
    let d = placed-digit c.args.p.now c.belongs.ensures c.args.k c.requires.node c.loop-i.keys.items c.len-items.result c.loop-i.i c.loop-i.left c.loop-i.factor c.args.number c.loop-i.invariant c.loop-i-test.true in
    let w = d.wanted in
    (omega (arith, n, c.loop-i-test.true), omega (arith, n, w))

pub loop-i-preserved : goal.loop-i-preserved
loop-i-preserved c =
    let items : ℕ = c.len-items.result in
    let i : ℕ = c.loop-i.i in
    let j : ℕ = c.place_with_smaller-j.result in
    let left : ℕ = c.loop-i.left in
    let factor : ℕ = c.loop-i.factor in
    let keys : List ℕ = c.loop-i.keys.items in
    let found : smaller (slice_index_or keys j 0) (drop i keys) ≡ left / (factor / (items - i)) = ap (λ (z : List ℕ). smaller (slice_index_or z j 0) (drop i z)) (sym c.deref.ensures.value) ∙ c.place_with_smaller-j.ensures.found in
    let place = c.place_with_smaller-j.ensures.place in
    subst (λ (z : List ℕ). ArePlaced (choice c.args.p.now.tree c.args.p.now.rotation c.args.k) z items (i + 1) (left % (factor / (items - i))) (factor / (items - i)) c.args.number) (sym c.swap.ensures.items)
    (placed-next c.args.p.now c.belongs.ensures c.args.k c.requires.node keys items i left factor c.args.number c.loop-i.invariant j (omega (arith, c.loop-i.auto.i)) c.loop-i-test.true place.0 (omega (arith, place.1, ap length c.deref.ensures.value)) found)

pub returns : goal.returns
returns c =
    ok-held c.of.result (λ keys. keys ≡ c.deref-2.result.now) (λ keys. IsMoveTo c.args.p.now c.args.k c.args.number (permute c.args.k keys))
    (λ keys e. subst (λ (z : List ℕ). IsMoveTo c.args.p.now c.args.k c.args.number (permute c.args.k z)) (sym (e ∙ c.deref-2.ensures.value))
    (placed-to c.args.p.now c.belongs.ensures c.args.k c.requires.node c.loop-i.keys.items c.len-items.result c.loop-i.i c.loop-i.left c.loop-i.factor c.args.number c.loop-i.invariant c.loop-i-test.false)) c.of.ensures
