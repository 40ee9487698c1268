use Rattle.std.proofs.Common.{◌∙◌, ℕ, List, length, drop, sym, subst}
use Rattle.std.proofs.lemmas.List.{take_at}
use Rattle.pair_split.specs.Splitting.{state_of}
use Rattle.pair_split.specs.Writing.{AreUps}
use Rattle.pair_split.proofs.writing.ups_of.Goals as goal

pub returns-clause-ups : goal.returns-clause-ups
returns-clause-ups g c = subst (λ (ups : List ℕ). AreUps c.args.m (state_of c.args.parts.now c.args.current.now) ups)
    (sym (take_at c.note_layers.new.ups (drop (length c.note_layers.new.ups) c.in_ok-ups.ups.items) c.in_ok-ups.ups.len (c.note_layers.auto.ups ∙ c.deref_mut.ensures.len))) c.note_layers.ensures.ups
