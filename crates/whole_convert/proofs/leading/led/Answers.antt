use Rattle.std.proofs.Common.{◌≡◌, Some, refl, subst}
use Rattle.whole_embed.specs.declared.members.Member.{Member}
use Rattle.whole_embed.specs.Cuts.{member_at}
use Rattle.whole_embed.specs.Whole.{block_part}
use Rattle.whole_convert.specs.Led.{IsLedTo, IsLeadRefusal}
use Rattle.whole_embed.specs.Cuts.{blocks_in}
use Rattle.whole_convert.proofs.Takes.{taken-led, taken-refusal}
use Rattle.whole_convert.proofs.DealtBlocks.{err-from, read-block, dealt-long, dealt-ready, dealt-refusal}
use Rattle.whole_convert.proofs.leading.led.Goals as goal

pub cut_up-requires : goal.cut_up-requires
cut_up-requires c =
    let k = c.args.frame.now in
    let m = c.index-all-b.result in
    let e : m ≡ member_at c.args.all.now c.args.b = read-block k c.args.all.now c.args.b m c.requires.planes c.requires.block c.index-all-b.is in
    dealt-long k c.args.all.now c.requires.edges.0 c.args.b c.args.edges.now m c.requires.component c.requires.block c.requires.edges.1 e

pub taken-requires-clause-given : goal.taken-requires-clause-given
taken-requires-clause-given c =
    let k = c.args.frame.now in
    let m = c.index-all-b.result in
    let e : m ≡ member_at c.args.all.now c.args.b = read-block k c.args.all.now c.args.b m c.requires.planes c.requires.block c.index-all-b.is in
    let ready = dealt-ready k c.args.all.now c.requires.edges.0 c.args.b c.args.edges.now m c.requires.component c.requires.block c.requires.edges.1 e c.in_ok-lists-in-Some.lists (c.in_ok-lists-in-Some.ensures {u = tt}) in
    (block_part k m.part c.requires.edges.0, ready.given, ready.plane)

pub returns-in_err-new-in-Some-clause-refused : goal.returns-in_err-new-in-Some-clause-refused
returns-in_err-new-in-Some-clause-refused c q dealt =
    let k = c.args.frame.now in
    let m = c.index-all-b.result in
    let e : m ≡ member_at c.args.all.now c.args.b = read-block k c.args.all.now c.args.b m c.requires.planes c.requires.block c.index-all-b.is in
    let ready = dealt-ready k c.args.all.now q c.args.b c.args.edges.now m c.requires.component c.requires.block dealt e c.in_ok-lists-in-Some.lists (c.in_ok-lists-in-Some.ensures {u = tt}) in
    let fault = c.in_err-new-in-Some.field-0.0 in
    err-from c.from_residual-in_err-new-in-Some.result fault (IsLeadRefusal c.args.b (blocks_in c.args.all.now c.args.b) (block_part k (member_at c.args.all.now c.args.b).part q)) c.from_residual-in_err-new-in-Some.ensures.1
    (dealt-refusal k c.args.all.now q c.args.b c.args.edges.now m c.requires.component c.requires.block dealt e fault
    (taken-refusal m c.in-Some.plane c.args.b c.in_ok-lists-in-Some.lists (block_part k m.part q) fault c.in-Some.is ready.numbered ready.given (c.in_err-new-in-Some.ensures {u = tt}).refused))

pub returns-clause-led : goal.returns-clause-led
returns-clause-led c q dealt =
    let k = c.args.frame.now in
    let m = c.index-all-b.result in
    let e : m ≡ member_at c.args.all.now c.args.b = read-block k c.args.all.now c.args.b m c.requires.planes c.requires.block c.index-all-b.is in
    let ready = dealt-ready k c.args.all.now q c.args.b c.args.edges.now m c.requires.component c.requires.block dealt e c.in_ok-lists-in-Some.lists (c.in_ok-lists-in-Some.ensures {u = tt}) in
    let new : Member = record { part = c.in_ok-copy-in-Some.field-0; plane = Some c.in_ok-new-in-Some.new } in
    subst (λ (z : Member). IsLedTo z (block_part k z.part q) new) e
    (taken-led m new c.in-Some.plane c.in_ok-new-in-Some.new c.in_ok-lists-in-Some.lists (block_part k m.part q) c.in-Some.is refl (c.in_ok-copy-in-Some.ensures {u = tt}) ready.numbered ready.given (c.in_ok-new-in-Some.ensures {u = tt}).taken)
