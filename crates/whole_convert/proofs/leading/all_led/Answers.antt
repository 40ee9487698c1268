use Rattle.std.proofs.Common.{◌≡◌, ◌<◌, ◌+◌, ℕ, List, true, length, flat_map, slice_index, slice_set, sym, ap, ◌∙◌, subst, arith}
use Rattle.permutations.specs.Members.{is_member}
use Rattle.permutations.proofs.Arrangements.{member-at}
use Rattle.multigraph.specs.Part.{GraphPart}
use Rattle.whole_embed.specs.Around.{outer_at}
use Rattle.whole_embed.specs.Cuts.{blocks_in, member_at}
use Rattle.whole_embed.specs.Whole.{block_part}
use Rattle.whole_embed.proofs.Assembly.{assembled}
use Rattle.whole_convert.specs.Led.{IsLedTo, IsLeadRefusal, IsLeadAllRefusal, AreLedBelow}
use Rattle.whole_convert.proofs.Pieces.{orders-edges, blocks-within}
use Rattle.whole_convert.proofs.Takes.{lead-refusal}
use Rattle.whole_convert.proofs.LedAll.{led-more}
use Rattle.whole_convert.proofs.DealtBlocks.{err-from, dealt-edges}
use Rattle.whole_convert.proofs.leading.all_led.Goals as goal

pub deal-requires-clause-edges : goal.deal-requires-clause-edges
deal-requires-clause-edges c e m =
    let k = c.args.frame.now in
    let q = c.args.q.now in
    let is : c.deref.result.now ≡ flat_map (outer_at k.part q) k.part.vertices =
    c.deref.ensures.value ∙ (c.in_ok-orders.ensures {u = tt} ∙ ap (λ (p : GraphPart). flat_map (outer_at p q) p.vertices) c.part.ensures.value) in
    orders-edges k (blocks_in c.args.all.now) q (assembled k (blocks_in c.args.all.now) c.requires.component) c.requires.plane.system e (ap (is_member e) (sym is) ∙ m)

pub deal-requires-clause-within : goal.deal-requires-clause-within
deal-requires-clause-within c = blocks-within c.args.frame.now c.args.all.now (assembled c.args.frame.now (blocks_in c.args.all.now) c.requires.component) c.part.ensures.frame c.requires.planes

pub index-requires : goal.index-requires
index-requires c =
    let k = c.args.frame.now in
    let l : c.loop-j.j < length k.blocks = omega (arith, c.loop-j-test.true, ap length c.blocks-blocks.ensures) in
    let read : slice_index c.blocks-blocks.result.now c.loop-j.j ≡ slice_index k.blocks c.loop-j.j = ap (λ (z : List ℕ). slice_index z c.loop-j.j) c.blocks-blocks.ensures in
    let within : slice_index k.blocks c.loop-j.j < length c.args.all.now = c.requires.planes.within (slice_index k.blocks c.loop-j.j) (member-at k.blocks c.loop-j.j 0 l) in
    omega (arith, read, within, (c.in_ok-dealt.ensures {u = tt}).each, c.in_ok-dealt.dealt.ok.0)

pub led-requires-clause-block : goal.led-requires-clause-block
led-requires-clause-block c =
    let k = c.args.frame.now in
    let l : c.loop-j.j < length k.blocks = omega (arith, c.loop-j-test.true, ap length c.blocks-blocks.ensures) in
    subst (λ (z : List ℕ). is_member (slice_index z c.loop-j.j) k.blocks ≡ true) (sym c.blocks-blocks.ensures) (member-at k.blocks c.loop-j.j 0 l)

pub led-requires-clause-edges : goal.led-requires-clause-edges
led-requires-clause-edges c =
    let k = c.args.frame.now in
    let q = c.args.q.now in
    let l : c.loop-j.j < length k.blocks = omega (arith, c.loop-j-test.true, ap length c.blocks-blocks.ensures) in
    let inside : slice_index c.blocks-blocks.result.now c.loop-j.j < length c.args.all.now =
    subst (λ (z : List ℕ). slice_index z c.loop-j.j < length c.args.all.now) (sym c.blocks-blocks.ensures) (c.requires.planes.within (slice_index k.blocks c.loop-j.j) (member-at k.blocks c.loop-j.j 0 l)) in
    let dealt =
    dealt-edges k c.part.result.now q (slice_index c.blocks-blocks.result.now c.loop-j.j) (length c.args.all.now) c.as_slice.result.now c.index.result.now c.in_ok-orders.orders.items c.deref.result.now c.in_ok-dealt.dealt.items c.requires.plane c.part.ensures.value
    (c.in_ok-orders.ensures {u = tt}) c.deref.ensures.value (c.in_ok-dealt.ensures {u = tt}).each (c.in_ok-dealt.ensures {u = tt}).dealt inside c.index.ensures c.as_slice.ensures in
    (q, dealt)

pub returns-in_err-member-clause-refused : goal.returns-in_err-member-clause-refused
returns-in_err-member-clause-refused c =
    let k = c.args.frame.now in
    let all = c.args.all.now in
    let q = c.args.q.now in
    let l : c.loop-j.j < length k.blocks = omega (arith, c.loop-j-test.true, ap length c.blocks-blocks.ensures) in
    let read : slice_index c.blocks-blocks.result.now c.loop-j.j ≡ slice_index k.blocks c.loop-j.j = ap (λ (z : List ℕ). slice_index z c.loop-j.j) c.blocks-blocks.ensures in
    let fault = c.in_err-member.field-0.0 in
    let inside : slice_index c.blocks-blocks.result.now c.loop-j.j < length c.args.all.now =
    subst (λ (z : List ℕ). slice_index z c.loop-j.j < length c.args.all.now) (sym c.blocks-blocks.ensures) (c.requires.planes.within (slice_index k.blocks c.loop-j.j) (member-at k.blocks c.loop-j.j 0 l)) in
    let dealt =
    dealt-edges k c.part.result.now q (slice_index c.blocks-blocks.result.now c.loop-j.j) (length c.args.all.now) c.as_slice.result.now c.index.result.now c.in_ok-orders.orders.items c.deref.result.now c.in_ok-dealt.dealt.items c.requires.plane c.part.ensures.value
    (c.in_ok-orders.ensures {u = tt}) c.deref.ensures.value (c.in_ok-dealt.ensures {u = tt}).each (c.in_ok-dealt.ensures {u = tt}).dealt inside c.index.ensures c.as_slice.ensures in
    let refused : IsLeadRefusal (slice_index k.blocks c.loop-j.j) (blocks_in all (slice_index k.blocks c.loop-j.j)) (block_part k (member_at all (slice_index k.blocks c.loop-j.j)).part q) fault =
    subst (λ z. IsLeadRefusal z (blocks_in all z) (block_part k (member_at all z).part q) fault) read ((c.in_err-member.ensures {u = tt}).refused q dealt) in
    err-from c.from_residual-in_err-member.result fault (IsLeadAllRefusal k (blocks_in all) q) c.from_residual-in_err-member.ensures.1
    (lead-refusal k all c.loop-j.new.items q c.loop-j.j fault (assembled k (blocks_in all) c.requires.component).blocks_rise l c.loop-j.invariant refused)

pub index_mut-requires : goal.index_mut-requires
index_mut-requires c =
    let k = c.args.frame.now in
    let l : c.loop-j.j < length k.blocks = omega (arith, c.loop-j-test.true, ap length c.blocks-blocks.ensures) in
    let read : slice_index c.blocks-blocks.result.now c.loop-j.j ≡ slice_index k.blocks c.loop-j.j = ap (λ (z : List ℕ). slice_index z c.loop-j.j) c.blocks-blocks.ensures in
    let within : slice_index k.blocks c.loop-j.j < length c.args.all.now = c.requires.planes.within (slice_index k.blocks c.loop-j.j) (member-at k.blocks c.loop-j.j 0 l) in
    omega (arith, read, within, c.loop-j.invariant.count, c.loop-j.new.ok.0)

pub loop-j-preserved : goal.loop-j-preserved
loop-j-preserved c =
    let k = c.args.frame.now in
    let all = c.args.all.now in
    let q = c.args.q.now in
    let m = c.in_ok-member.member in
    let l : c.loop-j.j < length k.blocks = omega (arith, c.loop-j-test.true, ap length c.blocks-blocks.ensures) in
    let read : slice_index c.blocks-blocks.result.now c.loop-j.j ≡ slice_index k.blocks c.loop-j.j = ap (λ (z : List ℕ). slice_index z c.loop-j.j) c.blocks-blocks.ensures in
    let within : slice_index k.blocks c.loop-j.j < length all = c.requires.planes.within (slice_index k.blocks c.loop-j.j) (member-at k.blocks c.loop-j.j 0 l) in
    let inside : slice_index c.blocks-blocks.result.now c.loop-j.j < length c.args.all.now =
    subst (λ (z : List ℕ). slice_index z c.loop-j.j < length c.args.all.now) (sym c.blocks-blocks.ensures) (c.requires.planes.within (slice_index k.blocks c.loop-j.j) (member-at k.blocks c.loop-j.j 0 l)) in
    let dealt =
    dealt-edges k c.part.result.now q (slice_index c.blocks-blocks.result.now c.loop-j.j) (length c.args.all.now) c.as_slice.result.now c.index.result.now c.in_ok-orders.orders.items c.deref.result.now c.in_ok-dealt.dealt.items c.requires.plane c.part.ensures.value
    (c.in_ok-orders.ensures {u = tt}) c.deref.ensures.value (c.in_ok-dealt.ensures {u = tt}).each (c.in_ok-dealt.ensures {u = tt}).dealt inside c.index.ensures c.as_slice.ensures in
    let led : IsLedTo (member_at all (slice_index k.blocks c.loop-j.j)) (block_part k (member_at all (slice_index k.blocks c.loop-j.j)).part q) m =
    subst (λ z. IsLedTo (member_at all z) (block_part k (member_at all z).part q) m) read ((c.in_ok-member.ensures {u = tt}).led q dealt) in
    subst (λ z. AreLedBelow k all q (slice_set c.loop-j.new.items z m) (c.loop-j.j + 1)) (sym read)
    (led-more k all c.loop-j.new.items q c.loop-j.j m (assembled k (blocks_in all) c.requires.component).blocks_rise l within c.loop-j.invariant led)
