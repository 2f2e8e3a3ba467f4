-- What the form's command reads is what it gives.
use Rattle.std.proofs.Common.{IfOk, subst}
use Rattle.clap.specs.Simple.{App}
use Rattle.tool_forms.specs.Commands.{IsReadBy}
use Rattle.tool_forms.proofs.Taken.{command-simple}
use Rattle.tool_forms.proofs.commands.read.Goals as goal

pub read_by-requires : goal.read_by-requires
read_by-requires c = record { simple = command-simple c.args.table _ c.in_ok-command.ensures }

pub returns : goal.returns
returns c = subst (λ (app : App). IfOk c.read_by.result (IsReadBy app c.args.words.now)) c.in_ok-command.ensures c.read_by.ensures
