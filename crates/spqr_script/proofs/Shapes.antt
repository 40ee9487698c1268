-- Commands made from what was read.
use Rattle.std.proofs.Common.{◌≡◌, Option, None, Some, MatchOption, IsSomeAnd, ap, sym, ◌∙◌}
use Rattle.std.specs.Option.{option_map}
use Rattle.spqr_script.specs.declared.command.Command.{Command}

-- what `map` gives is the command of what was read
pub made_as : {A : Type 0} (make : A → Command) (o : Option A) (r due : Option Command) → option_map make o ≡ due → MatchOption o (r ≡ None) (λ x. IsSomeAnd r (λ y. y ≡ make x)) → r ≡ due
made_as make None r due e h = h ∙ e
made_as make (Some x) (Some y) due e h = ap (λ z. Some z) h ∙ e
made_as make (Some x) None due e h = absurd h

-- and so where it is read off
pub made_from : {A : Type 0} (make : A → Command) (o : Option A) (x : A) (due : Option Command) → option_map make o ≡ due → o ≡ Some x → Some (make x) ≡ due
made_from make o x due e is = sym (ap (option_map make) is) ∙ e

pub none_from : {A : Type 0} (make : A → Command) (o : Option A) (due : Option Command) → option_map make o ≡ due → o ≡ None → None ≡ due
none_from make o due e is = sym (ap (option_map make) is) ∙ e
