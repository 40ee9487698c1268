use Rattle.std.proofs.Common.{◌<◌, ◌≤◌, ◌++◌, ℕ, List, [], length, map, drop, slice_index_or, refl, sym, ap, ◌∙◌, arith, append-nil}
use Rattle.std.proofs.lemmas.List.{length-set, take_all, drop_all}
use Rattle.permutations.specs.Cyclic.{from_least}
use Rattle.permutations.specs.Members.{is_distinct}
use Rattle.skel_embed.specs.Exchanges.{turned_choice}
use Rattle.skel_embed.specs.Flat.{lists_in}
use Rattle.skel_embed.proofs.Flat.{ends-count}
use Rattle.skel_embed.proofs.KeptLists.{turn-more, turn-next}
use Rattle.skel_embed.proofs.choices.turn_all.Goals as goal

pub turn_choice-requires-clause-node : goal.turn_choice-requires-clause-node
turn_choice-requires-clause-node c =
    let old = lists_in c.args.keys.now.items c.args.ends.now in
    omega (arith, c.loop-k-test.true, ends-count old c.args.keys.now.items c.args.ends.now c.requires.flat, c.loop-k.invariant.1)

pub turn_choice-requires-clause-once : goal.turn_choice-requires-clause-once
turn_choice-requires-clause-once c =
    let old = lists_in c.args.keys.now.items c.args.ends.now in
    let now = lists_in c.loop-k.keys.items c.args.ends.now in
    let h : c.loop-k.k < length old = omega (arith, c.loop-k-test.true, ends-count old c.args.keys.now.items c.args.ends.now c.requires.flat) in
    ap is_distinct (turn-next old now c.loop-k.k h c.loop-k.invariant.0) ∙ (c.requires.written c.loop-k.k h).0

pub turn_choice-requires-clause-written : goal.turn_choice-requires-clause-written
turn_choice-requires-clause-written c =
    let old = lists_in c.args.keys.now.items c.args.ends.now in
    let now = lists_in c.loop-k.keys.items c.args.ends.now in
    let h : c.loop-k.k < length old = omega (arith, c.loop-k-test.true, ends-count old c.args.keys.now.items c.args.ends.now c.requires.flat) in
    let e = turn-next old now c.loop-k.k h c.loop-k.invariant.0 in
    ap from_least e ∙ (c.requires.written c.loop-k.k h).1 ∙ sym e

pub loop-k-preserved : goal.loop-k-preserved
loop-k-preserved c =
    let old = lists_in c.args.keys.now.items c.args.ends.now in
    let now = lists_in c.loop-k.keys.items c.args.ends.now in
    let h : c.loop-k.k < length old = omega (arith, c.loop-k-test.true, ends-count old c.args.keys.now.items c.args.ends.now c.requires.flat) in (
      c.turn_choice.ensures.turned ∙ turn-more old now c.loop-k.k (slice_index_or now c.loop-k.k []) (turned_choice (slice_index_or now c.loop-k.k [])) h c.loop-k.invariant.0 refl refl,
      ap length c.turn_choice.ensures.turned ∙ length-set now c.loop-k.k (turned_choice (slice_index_or now c.loop-k.k [])) ∙ c.loop-k.invariant.1,
      c.turn_choice.ensures.flat,
    )

pub returns-clause-turned : goal.returns-clause-turned
returns-clause-turned c =
    let old = lists_in c.args.keys.now.items c.args.ends.now in
    let k = c.loop-k.k in
    let l : length old ≤ k = omega (arith, c.loop-k-test.false, ends-count old c.args.keys.now.items c.args.ends.now c.requires.flat) in
    c.loop-k.invariant.0 ∙ ap (λ (z : List (List ℕ)). map turned_choice z ++ drop k old) (take_all k old l) ∙ ap (λ (z : List (List ℕ)). map turned_choice old ++ z) (drop_all k old l) ∙ append-nil (map turned_choice old)
