use Rattle.std.proofs.Common.{◌<◌, ◌≤◌, ◌++◌, List, ℕ, length, map, slice_index_or, ap, ap₂, ◌∙◌, arith, append-nil}
use Rattle.std.proofs.lemmas.List.{length-set, take_all, drop_all}
use Rattle.pair_split.specs.declared.components.What.TheVariants.{Real}
use Rattle.skeletons.specs.Items.{item_key}
use Rattle.skel_embed.proofs.KeptLists.{write-more}
use Rattle.skel_embed.proofs.kept.write_keys.Goals as goal

pub loop-i-preserved : goal.loop-i-preserved
loop-i-preserved c =
    let l : c.loop-i.i < length c.args.items.now = omega (arith, c.loop-i-test.true, c.loop-i.auto) in (
      write-more c.args.items.now c.args.keys.now c.loop-i.keys c.loop-i.i l (omega (arith, c.requires)) c.loop-i.invariant.0,
      length-set c.loop-i.keys c.loop-i.i (slice_index_or c.args.items.now c.loop-i.i (record { key = 0; a = 0; b = 0; what = Real 0 })).key ∙ c.loop-i.invariant.1,
    )

pub returns : goal.returns
returns c =
    let l : length c.args.items.now ≤ c.loop-i.i = omega (arith, c.loop-i-test.false, c.loop-i.auto) in
    c.loop-i.invariant.0 ∙ ap₂ (λ (x y : List ℕ). x ++ y) (ap (map item_key) (take_all c.loop-i.i c.args.items.now l)) (drop_all c.loop-i.i c.args.keys.now (omega (arith, l, c.requires))) ∙ append-nil (map item_key c.args.items.now)
