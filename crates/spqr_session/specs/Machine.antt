-- A session, as callers see it.
use Rattle.spqr_session.specs.Setting.{Setting, IsSetting}
use Rattle.spqr_session.specs.State.{State, IsState, IsStart}

-- what stays, and what commands change
pub record Machine : Type 0 where
  pub setting : Setting
  pub state : State

-- the setting is right, and the state is one on it
pub record IsMachine (machine : Machine) : Type 0 where
  pub setting : IsSetting machine.setting
  pub state : IsState machine.setting machine.state

-- it is at the start of a run
pub record IsStarted (machine : Machine) : Type 0 where
  pub setting : IsSetting machine.setting
  pub start : IsStart machine.setting machine.state
