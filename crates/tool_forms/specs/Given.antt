-- What words give (own).
use Rattle.std.specs.Prelude.{ℕ}
use Rattle.world_events.specs.declared.event.Side.{Side as EndSide}
use Rattle.tool_forms.specs.declared.settings.Setting.{Setting}

-- what a setting is given: a number within its bounds, a side, or only its name
pub data Value : Type 0 where
  Number : (number : ℕ) → Value
  End : (side : EndSide) → Value
  Mark : Value

-- a setting with the value that is given to it
pub record Assignment : Type 0 where
  pub setting : Setting
  pub value : Value
