-- A session from its start on: setting and state stay right.
use Rattle.std.proofs.Common.{◌≡◌, ℕ, List, Result, Ok, Err, IfOk, OnErr, sym, ap, ◌∙◌, subst}
use Rattle.std.specs.Global.{Vec}
use Rattle.blocks.specs.Blocks.{BlockStructure}
use Rattle.gml_text.specs.Document.{Document}
use Rattle.gml_graph.specs.Named.{NamedGraph}
use Rattle.spqr_script.specs.declared.command.Command.{Command}
use Rattle.spqr_session.specs.Setting.{Setting}
use Rattle.spqr_session.specs.State.{IsState}
use Rattle.spqr_session.specs.Step.{Step}
use Rattle.spqr_session.specs.Machine.{Machine, IsMachine}
use Rattle.spqr_session.specs.Embedded.{BlockView, setting_of}
use Rattle.spqr_session.specs.Board.{BoardView, board_state, IsCarried}
use Rattle.spqr_session.proofs.Chains.{step-keeps}

-- the setting stays where trees and certificates do
pub setting-kept : (document : Document) (named : NamedGraph) (structure : BlockStructure) (old new : List BlockView) → IsCarried old new → setting_of document named structure new ≡ setting_of document named structure old
setting-kept document named structure old new h = λ i. record { document = document; named = named; structure = structure; trees = h.trees i; certificates = h.certificates i }

-- a step, or none where memory ran out, leads from a right session to a right one
pub stepped-machine : {E : Type 0} (document : Document) (named : NamedGraph) (structure : BlockStructure) (command : Command) (old new : BoardView) (r : Result (Vec ℕ) E)
    → IsMachine (record { setting = setting_of document named structure old.views; state = board_state (setting_of document named structure old.views) old }) → IsCarried old.views new.views
    → IfOk r (λ text. Step (setting_of document named structure old.views) (board_state (setting_of document named structure old.views) old) command text.items (board_state (setting_of document named structure old.views) new)) → OnErr r (new ≡ old)
    → IsMachine (record { setting = setting_of document named structure new.views; state = board_state (setting_of document named structure new.views) new })
stepped-machine document named structure command old new r h c step memory =
    subst (λ (x : Setting). IsMachine (record { setting = x; state = board_state x new })) (sym (setting-kept document named structure old.views new.views c)) (record { setting = h.setting; state = by r step memory })
  where
    by : {E : Type 0} (r : Result (Vec ℕ) E)
        → IfOk r (λ text. Step (setting_of document named structure old.views) (board_state (setting_of document named structure old.views) old) command text.items (board_state (setting_of document named structure old.views) new)) → OnErr r (new ≡ old)
        → IsState (setting_of document named structure old.views) (board_state (setting_of document named structure old.views) new)
    by (Ok text) s e = step-keeps (setting_of document named structure old.views) (board_state (setting_of document named structure old.views) old) command text.items (board_state (setting_of document named structure old.views) new) h.setting h.state s
    by (Err x) s e = subst (λ (b : BoardView). IsState (setting_of document named structure old.views) (board_state (setting_of document named structure old.views) b)) (sym e) h.state

-- what is seen of a session with a board
abbrev pub machine_on : Document → NamedGraph → BlockStructure → BoardView → Machine
machine_on document named structure board = record { setting = setting_of document named structure board.views; state = board_state (setting_of document named structure board.views) board }

-- without memory what is seen of a session stays
pub memory-machine : {E : Type 0} (document : Document) (named : NamedGraph) (structure : BlockStructure) (old new : BoardView) (r : Result (Vec ℕ) E) (seen : Machine)
    → machine_on document named structure old ≡ seen → OnErr r (new ≡ old) → OnErr r (machine_on document named structure new ≡ seen)
memory-machine document named structure old new (Ok text) seen is e = tt
memory-machine document named structure old new (Err x) seen is e = ap (machine_on document named structure) e ∙ is

-- the step is one of what was seen, to what is seen now
pub step-seen : {E : Type 0} (document : Document) (named : NamedGraph) (structure : BlockStructure) (command : Command) (old new : BoardView) (r : Result (Vec ℕ) E) (seen : Machine) → machine_on document named structure old ≡ seen → IsCarried old.views new.views
    → IfOk r (λ text. Step (setting_of document named structure old.views) (board_state (setting_of document named structure old.views) old) command text.items (board_state (setting_of document named structure old.views) new))
    → IfOk r (λ text. Step seen.setting seen.state command text.items (machine_on document named structure new).state)
step-seen document named structure command old new r seen is c step =
    subst (λ (m : Machine). IfOk r (λ text. Step m.setting m.state command text.items (machine_on document named structure new).state)) is
    (subst (λ (x : Setting). IfOk r (λ text. Step (setting_of document named structure old.views) (board_state (setting_of document named structure old.views) old) command text.items (board_state x new)))
    (sym (setting-kept document named structure old.views new.views c)) step)
