-- What the gathered bytes tell, all bytes tell.
use Rattle.std.proofs.Common.{rules, arith, ◌≡◌, ◌≤◌, ◌∙◌, ap, sym, subst, Ok, Err, length, take, drop, Option, List, ℕ}
use Rattle.std.proofs.lemmas.List.{length-drop}
use Rattle.std.specs.Prelude.{option_map}
use Rattle.dccp_io.specs.Ahead.{ahead_of}
use Rattle.capture_reader.specs.Format.{format_of, header_fault, or_fault, shown_links}
use Rattle.capture_reader.specs.State.{RefusesHeader}
use Rattle.capture_reader.proofs.Opening.{header-not-memory, header-not-read, header-told, refuses_header, ahead-passed}
use Rattle.capture_reader.proofs.captures.open.Goals as goal

pub returns-in-Err-clause-read : goal.returns-in-Err-clause-read
returns-in-Err-clause-read g c =
    let same : ahead_of c.gather.new.ahead (g.S.Source.left c.gather.new.source) ≡ g.S.Source.left c.args.source.now = search rules in
    let enough : 24 ≤ length c.gather.new.ahead.pending = search rules in
    let told : format_of shown_links (take 24 c.gather.new.ahead.pending) ≡ Err c.in-Err.fault = search rules in
    let why : c.from.result ≡ header_fault c.in-Err.fault = search rules in (
      same,
      subst (RefusesHeader g.S.Source.left g.S.Source.faults c.args.source.now c.gather.new.source) (sym why)
          (refuses_header g.S.Source.left g.S.Source.faults c.args.source.now c.gather.new.source (header_fault c.in-Err.fault)
          (header-not-read c.in-Err.fault) (header-not-memory c.in-Err.fault)
          (header-told g.S.Source.left (Err (header_fault c.in-Err.fault)) c.gather.new.ahead.pending c.args.source.now c.gather.new.source enough same
          (ap or_fault told))),
    )

pub returns-clause-read : goal.returns-clause-read
returns-clause-read g c =
    let same : ahead_of c.gather.new.ahead (g.S.Source.left c.gather.new.source) ≡ g.S.Source.left c.args.source.now = search rules in
    let enough : 24 ≤ length c.gather.new.ahead.pending = search rules in
    let full : length c.gather.new.ahead.pending ≤ 262144 = search rules in
    let told : format_of shown_links (take 24 c.gather.new.ahead.pending) ≡ Ok c.in-Ok.format = search rules in (
      rw (c.pass.ensures, length-drop 24 c.gather.new.ahead.pending) (omega (arith, full)),
      rw c.pass.ensures
          (ahead-passed 24 c.gather.new.ahead.pending (g.S.Source.left c.gather.new.source) enough ∙ ap (λ (o : Option (List ℕ)). option_map (drop 24) o) same),
      header-told g.S.Source.left (Ok c.in-Ok.format) c.gather.new.ahead.pending c.args.source.now c.gather.new.source enough same (ap or_fault told),
    )
