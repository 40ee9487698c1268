use Rattle.std.proofs.Common.{◌+◌, ◌≤◌, slice_index, ap, ◌∙◌, arith}
use Rattle.std.proofs.lemmas.Result.{IfOk-weaker}
use Rattle.split_comp.specs.Pass.{IsPass, IsAsFar, cuts_dropped, weight}
use Rattle.split_comp.proofs.ChildLeft.{whole-can, whole-up, whole-within, whole-weight, whole-joins, whole-left}
use Rattle.split_comp.proofs.pass.Pass.split_child.Goals as goal

pub split_off-requires : goal.split_off-requires
split_off-requires g c = record {
  can = whole-can c.args.g.now c.args.tree.now c.requires.numbered c.args.self.now c.requires.reduced c.requires.whole c.here-v.result c.start_of-start.result c.args.reach c.drop_cuts.new.self c.here-v.ensures (c.start_of-start.ensures ∙ ap (slice_index c.args.self.now.start) c.child.ensures) c.requires.reach
      (c.drop_cuts.ensures ∙ ap (cuts_dropped c.args.self.now) (c.base_of.ensures ∙ ap (slice_index c.args.self.now.base) c.child-2.ensures));
}

pub add_frond-requires-clause-can : goal.add_frond-requires-clause-can
add_frond-requires-clause-can g c = whole-joins c.args.g.now c.args.tree.now c.requires.numbered c.args.self.now c.requires.reduced c.requires.whole c.here-v.result c.start_of-start.result c.args.reach c.drop_cuts.new.self c.here-v.ensures (c.start_of-start.ensures ∙ ap (slice_index c.args.self.now.start) c.child.ensures) c.requires.reach
    (c.drop_cuts.ensures ∙ ap (cuts_dropped c.args.self.now) (c.base_of.ensures ∙ ap (slice_index c.args.self.now.base) c.child-2.ensures)) c.split_off.new.self c.in_ok-name.ensures.split_off c.in_ok-name.name c.in_ok-name.ensures.name

pub add_frond-requires-clause-up : goal.add_frond-requires-clause-up
add_frond-requires-clause-up g c = whole-up c.args.g.now c.args.tree.now c.requires.numbered c.args.self.now c.requires.reduced c.requires.whole c.here-v.result c.start_of-start.result c.args.reach c.drop_cuts.new.self c.here-v.ensures (c.start_of-start.ensures ∙ ap (slice_index c.args.self.now.start) c.child.ensures) c.requires.reach
    (c.drop_cuts.ensures ∙ ap (cuts_dropped c.args.self.now) (c.base_of.ensures ∙ ap (slice_index c.args.self.now.base) c.child-2.ensures)) c.split_off.new.self c.in_ok-name.ensures.split_off

pub add_frond-requires-clause-within : goal.add_frond-requires-clause-within
add_frond-requires-clause-within g c = whole-within c.args.g.now c.args.tree.now c.requires.numbered c.args.self.now c.requires.reduced c.requires.whole c.here-v.result c.start_of-start.result c.args.reach c.drop_cuts.new.self c.here-v.ensures (c.start_of-start.ensures ∙ ap (slice_index c.args.self.now.start) c.child.ensures) c.requires.reach
    (c.drop_cuts.ensures ∙ ap (cuts_dropped c.args.self.now) (c.base_of.ensures ∙ ap (slice_index c.args.self.now.base) c.child-2.ensures)) c.split_off.new.self c.in_ok-name.ensures.split_off

pub returns-clause-left : goal.returns-clause-left
returns-clause-left g c = IfOk-weaker c.add_frond.result _ (λ x. IsPass c.args.g.now c.args.tree.now c.add_frond.new.self × IsAsFar c.args.self.now c.add_frond.new.self)
    (λ x a. whole-left c.args.g.now c.args.tree.now c.requires.numbered c.args.self.now c.requires.reduced c.requires.whole c.here-v.result c.start_of-start.result c.args.reach c.drop_cuts.new.self c.here-v.ensures (c.start_of-start.ensures ∙ ap (slice_index c.args.self.now.start) c.child.ensures) c.requires.reach
    (c.drop_cuts.ensures ∙ ap (cuts_dropped c.args.self.now) (c.base_of.ensures ∙ ap (slice_index c.args.self.now.base) c.child-2.ensures)) c.split_off.new.self c.in_ok-name.ensures.split_off c.in_ok-name.name c.in_ok-name.ensures.name c.add_frond.new.self a)
    c.add_frond.ensures.added

pub returns-clause-cost : goal.returns-clause-cost
returns-clause-cost g c = IfOk-weaker c.add_frond.result _ (λ x. c.add_frond.new.steps + weight c.add_frond.new.self ≤ c.args.steps.now + weight c.args.self.now + 10)
    (λ x a. omega (
      arith,
      a,
      c.split_off.ensures.at_most,
      whole-weight c.args.g.now c.args.tree.now c.requires.numbered c.args.self.now c.requires.reduced c.requires.whole c.here-v.result c.start_of-start.result c.args.reach c.drop_cuts.new.self c.here-v.ensures (c.start_of-start.ensures ∙ ap (slice_index c.args.self.now.start) c.child.ensures) c.requires.reach
          (c.drop_cuts.ensures ∙ ap (cuts_dropped c.args.self.now) (c.base_of.ensures ∙ ap (slice_index c.args.self.now.base) c.child-2.ensures)) c.split_off.new.self c.in_ok-name.ensures.split_off,
    ))
    c.add_frond.ensures.cost
