use Rattle.std.proofs.Common.{◌≡◌, drop}
use Rattle.bridge_command.specs.Members.{members_seen, with_numbers}
use Rattle.bridge_command.proofs.json.objects.Object.numbers.Given as goal

abbrev pub invariant-loop-named : goal.invariant-loop-named
invariant-loop-named l = with_numbers (drop l.named-index l.numbers) (members_seen l.self) ≡ with_numbers l.numbers (members_seen l.initial.self)
