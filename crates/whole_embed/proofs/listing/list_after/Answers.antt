use Rattle.std.proofs.Common.{◌≡◌, ℕ, ◌+◌, List, ◌++◌, length, map, take, drop, take_at, sym, ◌∙◌, subst, arith}
use Rattle.whole_embed.specs.declared.members.Member.{Member}
use Rattle.whole_embed.specs.Cuts.{blocks_in, HavePlanes}
use Rattle.whole_embed.specs.Whole.{AreArranged, whole_lists}
use Rattle.whole_embed.specs.Walk.{system_lists}
use Rattle.whole_embed.proofs.Following.{IsWalked, walked-begins, walked-more, found-all}
use Rattle.whole_embed.proofs.listing.list_after.Goals as goal

pub loop-turn-init : goal.loop-turn-init
loop-turn-init c =
    subst (λ (z : List (List (ℕ × List ℕ))). IsWalked c.args.cuts.now c.args.all.now c.in_ok-walker.walker c.in_ok-blocks.blocks.items 0 z) (sym c.new-found.ensures.items)
    (walked-begins c.args.cuts.now c.args.all.now c.in_ok-walker.walker c.in_ok-blocks.blocks.items c.requires.component c.requires.planes c.requires.arranged (c.in_ok-walker.ensures {u = tt}) (c.in_ok-blocks.ensures {u = tt}))

pub returns-then-not-next_whole : goal.returns-then-not-next_whole
returns-then-not-next_whole c = λ l i w r.
    let h = subst (λ (b : List Member). IsWalked c.args.cuts.now c.args.all.now c.loop-turn.walker b c.loop-turn._turn c.loop-turn.found.items) (sym c.deref_mut.ensures.value) c.loop-turn.invariant in
    let e : i + c.loop-turn._turn + 1 ≡ length l = c.next_whole.ensures.last l (i + c.loop-turn._turn) (h.list l w) (h.place l i w r) c.if-not-next_whole.true in
    found-all (system_lists c.args.cuts.now.component) l i c.loop-turn._turn c.args.n c.loop-turn.found.items (h.found_is l i w r) e (omega (arith, c.loop-turn-test.true))

pub loop-turn-preserved : goal.loop-turn-preserved
loop-turn-preserved c =
    let n = c.next_whole.ensures in
    let new : List Member = c.next_whole.new.all in
    let next = c.next_whole.new.cuts in
    let h = subst (λ (b : List Member). IsWalked c.args.cuts.now c.args.all.now c.loop-turn.walker b c.loop-turn._turn c.loop-turn.found.items) (sym c.deref_mut.ensures.value) c.loop-turn.invariant in
    let e : take c.loop-turn.blocks.len (new ++ drop (length new) c.loop-turn.blocks.items) ≡ new = take_at new (drop (length new) c.loop-turn.blocks.items) c.loop-turn.blocks.len (c.next_whole.auto.all ∙ c.deref_mut.ensures.len) in
    let w : c.in_ok-whole.field-0 ≡ whole_lists next.component (blocks_in new) next.lists =
    subst (λ (b : List Member). c.in_ok-whole.field-0 ≡ whole_lists next.component (blocks_in b) next.lists) (c.deref.ensures.value ∙ e) c.in_ok-whole.ensures.lists in
    subst (λ (b : List Member). IsWalked c.args.cuts.now c.args.all.now next b (c.loop-turn._turn + 1) c.push.new.self.items) (sym e)
    (walked-more c.args.cuts.now c.args.all.now c.loop-turn.walker c.deref_mut.result.now c.loop-turn._turn c.loop-turn.found.items next new c.in_ok-whole.field-0 c.push.new.self.items
    h n.same n.component n.planes n.arranged n.list (λ l i u r. n.next l i u r c.if-not-next_whole.false) w (c.in_ok-push.ensures {u = tt}).items)

pub whole-requires-clause-planes : goal.whole-requires-clause-planes
whole-requires-clause-planes c =
    let new : List Member = c.next_whole.new.all in
    let e : take c.loop-turn.blocks.len (new ++ drop (length new) c.loop-turn.blocks.items) ≡ new = take_at new (drop (length new) c.loop-turn.blocks.items) c.loop-turn.blocks.len (c.next_whole.auto.all ∙ c.deref_mut.ensures.len) in
    subst (λ (b : List Member). HavePlanes c.next_whole.new.cuts.component b) (sym (c.deref.ensures.value ∙ e)) c.next_whole.ensures.planes

pub whole-requires-clause-arranged : goal.whole-requires-clause-arranged
whole-requires-clause-arranged c =
    let new : List Member = c.next_whole.new.all in
    let e : take c.loop-turn.blocks.len (new ++ drop (length new) c.loop-turn.blocks.items) ≡ new = take_at new (drop (length new) c.loop-turn.blocks.items) c.loop-turn.blocks.len (c.next_whole.auto.all ∙ c.deref_mut.ensures.len) in
    subst (λ (b : List Member). AreArranged c.next_whole.new.cuts.component (blocks_in b) c.next_whole.new.cuts.lists) (sym (c.deref.ensures.value ∙ e)) c.next_whole.ensures.arranged

pub returns : goal.returns
returns c = λ l i w r.
    let t : c.loop-turn._turn ≡ c.args.n = omega (arith, c.loop-turn-test.false, c.loop-turn.auto._turn-end) in
    subst (λ z. c.loop-turn.found.items ≡ map (system_lists c.args.cuts.now.component) (take z (drop (i + 1) l))) t (c.loop-turn.invariant.found_is l i w r)
