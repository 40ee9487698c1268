use Rattle.std.proofs.Common.{ℕ, List, length, sym, ap, ◌∙◌, subst}
use Rattle.pair_split.specs.State.{AreSplitComponents}
use Rattle.pair_split.specs.Splitting.{state_of}
use Rattle.pair_split.specs.Writing.{ArePartsWritten}
use Rattle.pair_split.specs.declared.components.Comp.{Comp}
use Rattle.pair_split.proofs.WritingSteps.{part-names, last-names, all-written, IsLastWritten}
use Rattle.pair_split.proofs.writing.write_components.Goals as goal

pub write_parts-requires-clause-names : goal.write_parts-requires-clause-names
write_parts-requires-clause-names g c = part-names c.args.m c.args.parts.now c.args.current.now c.requires.listed (length c.deref.result.now) (ap length c.deref.ensures.value ∙ c.in_ok-ups.ensures.number)

pub last_of-requires : goal.last_of-requires
last_of-requires g c = last-names c.args.m c.args.parts.now c.args.current.now c.requires.listed (length c.deref-2.result.now) (ap length c.deref-2.ensures.value ∙ c.in_ok-ups.ensures.number)

pub returns-clause-components : goal.returns-clause-components
returns-clause-components g c = subst (λ (comps : List Comp). AreSplitComponents c.args.m (state_of c.args.parts.now c.args.current.now) c.args.kind comps) (sym (c.of.ensures ∙ c.in_ok-push.ensures.items))
    (all-written c.args.m c.args.parts.now c.args.current.now c.requires.listed c.in_ok-ups.ups.items c.in_ok-ups.ensures.ups c.args.kind c.in_ok-comps.comps.items c.in_ok-last_of.field-0
    (subst (λ (ups : List ℕ). ArePartsWritten c.args.m c.args.parts.now ups (length c.args.parts.now) c.in_ok-comps.comps.items) c.deref.ensures.value c.in_ok-comps.ensures.written)
    c.in_ok-last_of.ensures.kind
    (subst (λ (ups : List ℕ). IsLastWritten c.args.m c.args.current.now ups (length c.args.parts.now) c.in_ok-last_of.field-0) c.deref-2.ensures.value c.in_ok-last_of.ensures.written))
