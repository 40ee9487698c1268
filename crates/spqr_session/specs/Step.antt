-- One step of the machine, by one line for each command; and steps one after another.
use Rattle.std.specs.Prelude.{◌≡◌, ℕ, true, false, List, [], ◌∷◌}
use Rattle.spqr_script.specs.declared.command.Command.{Command}
use Rattle.spqr_script.specs.declared.command.Command.TheVariants as command
use Rattle.spqr_session.specs.Setting.{Setting}
use Rattle.spqr_session.specs.State.{State}
use Rattle.spqr_session.specs.Commands.Euler.{EulerStep}
use Rattle.spqr_session.specs.Commands.Gml.{GmlStep}
use Rattle.spqr_session.specs.Commands.Show.{ShowStep}
use Rattle.spqr_session.specs.Commands.Faces.{FacesStep}
use Rattle.spqr_session.specs.Commands.Flip.{FlipStep}
use Rattle.spqr_session.specs.Commands.Permute.{PermuteStep}
use Rattle.spqr_session.specs.Commands.Mirror.{MirrorStep}
use Rattle.spqr_session.specs.Commands.Lock.{LockStep}
use Rattle.spqr_session.specs.Commands.History.{UndoStep, RedoStep}
use Rattle.spqr_session.specs.Commands.Count.{CountStep, RankStep}
use Rattle.spqr_session.specs.Commands.Walk.{FirstStep, NextStep, GotoStep}
use Rattle.spqr_session.specs.Commands.Listing.{ListStep}
use Rattle.spqr_session.specs.Commands.Take.{TakeStep}
use Rattle.spqr_session.specs.Commands.Convert.{ConvertRankStep, ConvertToStep}
use Rattle.spqr_session.specs.Commands.Longest.{LongestStep}
use Rattle.spqr_session.specs.Commands.Draw.{DrawStep}
use Rattle.spqr_session.specs.Commands.Whole.{WholeStep}
use Rattle.spqr_session.specs.Commands.Regroup.{RegroupStep}
use Rattle.spqr_session.specs.Commands.NextWhole.{NextWholeStep}
use Rattle.spqr_session.specs.Commands.ListWhole.{ListWholeStep}
use Rattle.spqr_session.specs.Commands.ConvertWhole.{ConvertWholeStep}

-- a command gives this text and leads to this state
abbrev pub Step : Setting → State → Command → List ℕ → State → Type 0
Step setting before (command.Euler entries) text after = EulerStep setting entries before text after
Step setting before command.Gml text after = GmlStep setting before text after
Step setting before (command.Show b) text after = ShowStep setting b before text after
Step setting before (command.Faces b) text after = FacesStep setting b before text after
Step setting before (command.Flip b k) text after = FlipStep setting b k before text after
Step setting before (command.Permute b k keys) text after = PermuteStep setting b k keys before text after
Step setting before (command.Mirror b) text after = MirrorStep setting b before text after
Step setting before (command.Lock b k) text after = LockStep true setting b k before text after
Step setting before (command.Unlock b k) text after = LockStep false setting b k before text after
Step setting before command.Undo text after = UndoStep before text after
Step setting before command.Redo text after = RedoStep before text after
Step setting before (command.First b) text after = FirstStep setting b before text after
Step setting before (command.Next b) text after = NextStep setting b before text after
Step setting before (command.List b n) text after = ListStep setting b n before text after
Step setting before (command.Count b) text after = CountStep setting b before text after
Step setting before (command.Rank b) text after = RankStep setting b before text after
Step setting before (command.Longest b) text after = LongestStep setting b before text after
Step setting before (command.Draw b) text after = DrawStep setting b before text after
Step setting before (command.Goto b r) text after = GotoStep setting b r before text after
Step setting before (command.ConvertRank b r) text after = ConvertRankStep setting b r before text after
Step setting before (command.ConvertTo b entries) text after = ConvertToStep setting b entries before text after
Step setting before (command.Take b entries) text after = TakeStep setting b entries before text after
Step setting before (command.Whole c) text after = WholeStep setting c before text after
Step setting before (command.Regroup v edges) text after = RegroupStep setting v edges before text after
Step setting before (command.NextWhole c) text after = NextWholeStep setting c before text after
Step setting before (command.ListWhole c n) text after = ListWholeStep setting c n before text after
Step setting before (command.ConvertWhole c entries) text after = ConvertWholeStep setting c entries before text after

-- the commands give these texts, one after another, from the one state to the other
abbrev pub IsChain : Setting → State → List Command → List (List ℕ) → State → Type 0
IsChain setting before [] [] after = after ≡ before
IsChain setting before [] (text ∷ texts) after = ⊥
IsChain setting before (command ∷ commands) [] after = ⊥
IsChain setting before (command ∷ commands) (text ∷ texts) after =
    (next : State) × Step setting before command text next × IsChain setting next commands texts after
