-- A fault of the header's bytes.
use Rattle.std.proofs.Common.{◌≡◌, ◌∙◌, ap, refl, ◌++◌, List, ℕ, Some, subst}
use Rattle.packet_show.specs.declared.show.Tally.{Tally}
use Rattle.packet_show.specs.CaptureText.{last_line, fault_line, first_tally}
use Rattle.packet_show.specs.Show.{Closes}
use Rattle.packet_show.proofs.Showing.{memory-for, refused-as}
use Rattle.tool_text.proofs.Ending.{ends-for-more}
use Rattle.packet_show.proofs.show.refuse_header.Goals as goal

pub returns-in-ReadFault-clause-refuses : goal.returns-in-ReadFault-clause-refuses
returns-in-ReadFault-clause-refuses g c = rw c.in-ReadFault.is (refl, refl)

pub returns-in-NoMemory-clause-refuses : goal.returns-in-NoMemory-clause-refuses
returns-in-NoMemory-clause-refuses g c = rw c.in-NoMemory.is (refl, refl)

pub returns-in-NoMemory-clause-cause : goal.returns-in-NoMemory-clause-cause
returns-in-NoMemory-clause-cause g c = memory-for

pub returns-in_default : goal.returns-in_default
returns-in_default g c =
    let line : c.new.result.items ++ last_line c.new-in_default.result (Some c.args.why) ≡ fault_line first_tally c.args.why =
    ap (λ (front : List ℕ). front ++ last_line c.new-in_default.result (Some c.args.why)) c.new.ensures.items
    ∙ ap (λ (tally : Tally). fault_line tally c.args.why) c.new-in_default.ensures in
    record {
      refuses = refused-as c.args.why c.finish.result (g.K.Sink.taken c.args.output.now)
          (g.K.Sink.taken c.finish.new.output) c.in_default.not-ReadFault c.in_default.not-NoMemory
          (subst (λ (text : List ℕ). Closes text (Some c.args.why) c.finish.result (g.K.Sink.taken c.args.output.now)
          (g.K.Sink.taken c.finish.new.output)) line c.finish.ensures.closes);
      cause = ends-for-more c.finish.result _ _ _ (λ (no : ⊥). absurd no) c.finish.ensures.cause;
    }
