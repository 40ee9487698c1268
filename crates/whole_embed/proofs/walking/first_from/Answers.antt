use Rattle.std.proofs.Common.{◌≡◌, ◌<◌, ◌+◌, List, ℕ, length, slice_set, ap, ◌∙◌, sym, refl, subst, arith}
use Rattle.whole_embed.specs.Component.{Component}
use Rattle.whole_embed.specs.Cuts.{CutState, blocks_in}
use Rattle.whole_embed.specs.Walk.{first_around, AreFirstLists}
use Rattle.whole_embed.proofs.WalkSteps.{first-lists_begin, first-lists_more}
use Rattle.whole_embed.proofs.walking.first_from.Goals as goal

pub loop-i-init : goal.loop-i-init
loop-i-init c = record {
  component = refl;
  lists = first-lists_begin c.args.cuts.now.component (blocks_in c.args.all.now) c.args.cuts.now.lists c.args.from;
}

pub loop-i-preserved : goal.loop-i-preserved
loop-i-preserved c =
    let k = c.args.cuts.now.component in
    let block = blocks_in c.args.all.now in
    let h = c.loop-i.invariant in
    let l : c.loop-i.i < length c.args.cuts.now.lists = omega (arith, c.loop-i-test.true, c.count-i-end.ensures, c.keeps.ensures) in
    let e : c.set_first.new.self.lists ≡ slice_set c.loop-i.cuts.lists c.loop-i.i (first_around k block c.loop-i.i) =
    ap (λ (s : CutState). s.lists) c.set_first.ensures ∙ ap (λ (z : Component). slice_set c.loop-i.cuts.lists c.loop-i.i (first_around z block c.loop-i.i)) h.component in
    record {
      component = ap (λ (s : CutState). s.component) c.set_first.ensures ∙ h.component;
      lists = subst (λ (z : List (List ℕ)). AreFirstLists k block c.args.cuts.now.lists z c.args.from (c.loop-i.i + 1)) (sym e) (first-lists_more k block c.args.cuts.now.lists c.loop-i.cuts.lists c.args.from c.loop-i.i c.loop-i.auto.i l h.lists);
    }
