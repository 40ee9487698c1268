use Rattle.std.proofs.Common.{[], ◌∷◌, ◌++◌, ◌∙◌, ◌≡◌, sym, ap, List}
use Rattle.std.proofs.lemmas.List.{append_assoc}
use Rattle.pair_split.specs.declared.components.Comp.{Comp}
use Rattle.spqr_tree.proofs.LiveSteps.{held-next}
use Rattle.spqr_tree.proofs.merging.Live.new.Goals as goal

-- one component more is moved from the list
pub loop-comp-preserved : goal.loop-comp-preserved
loop-comp-preserved c =
    let e : c.loop-comp.yielded ++ c.in-Some.comp ∷ c.next.new.self.rest.items ≡ c.args.comps.items = ap (λ (l : List Comp). c.loop-comp.yielded ++ l) (sym c.in-Some.ensures.steps.0) ∙ c.loop-comp.invariant.1 in (
      held-next c.args.comps.items c.loop-comp.yielded c.next.new.self.rest.items c.in-Some.comp c.loop-comp.live c.add.new.self c.loop-comp.invariant.0 e c.in_ok-add.ensures,
      append_assoc c.loop-comp.yielded (c.in-Some.comp ∷ []) c.next.new.self.rest.items ∙ e,
    )
