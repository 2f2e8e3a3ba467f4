-- The answers of the calls, as rows give them.
use Rattle.std.specs.Prelude.{ℕ, Bool, true, false, not, List}
use Rattle.feature_machine.specs.declared.answers.Answer.{Answer}
use Rattle.feature_machine.specs.declared.answers.Answer.TheVariants as answer
use Rattle.feature_machine.specs.declared.answers.Settling.{Settling}
use Rattle.feature_machine.specs.declared.answers.Settling.TheVariants as settling
use Rattle.feature_machine.specs.declared.answers.Opening.{Opening}
use Rattle.feature_machine.specs.declared.answers.Opening.TheVariants as opening
use Rattle.feature_machine.specs.declared.row.RowReply.{RowReply}
use Rattle.feature_machine.specs.declared.row.RowReply.TheVariants as reply
use Rattle.feature_machine.specs.Rows.{RowAnswer, Confirms, Ignored, Settled, Fatal, Opens}

-- a row's reply to a Change
abbrev pub reply_of : RowReply → RowAnswer
reply_of (reply.Confirm body) = Confirms body.items
reply_of reply.Ignored = Ignored
reply_of reply.Fatal = Fatal 6

-- what a Change leads to
pub data ChangeAnswer : Type 0 where
  Confirming : (left : Bool) (feature : ℕ) (body : List ℕ) → ChangeAnswer
  Ignoring Failing : ChangeAnswer

-- the answer of the call as plain data: the Confirm letter by letter, or why none goes out
abbrev pub shown : Answer → ChangeAnswer
shown (answer.Confirm out) = Confirming out.left out.feature out.body.items
shown answer.Ignored = Ignoring
shown answer.Fatal = Failing

-- a Change is answered by a Confirm with its feature number and the other letter (RFC 4340, section 6.2)
abbrev pub answered : Bool → ℕ → RowAnswer → ChangeAnswer
answered left feature (Confirms body) = Confirming (not left) feature body
answered left feature (Fatal _) = Failing
answered left feature _ = Ignoring

-- what a Confirm leads to: the row settles, the connection ends, or the Confirm is ignored
abbrev pub settling_of : RowAnswer → Settling
settling_of Settled = settling.Settled
settling_of (Fatal _) = settling.Fatal
settling_of _ = settling.Ignored

-- whether the Change of a new preference goes out now or on a later occasion
abbrev pub opening_of : RowAnswer → Opening
opening_of Opens = opening.Now
opening_of _ = opening.Later

-- the row's Change is due now
abbrev pub is_opening : RowAnswer → Bool
is_opening Opens = true
is_opening _ = false
