use Rattle.std.proofs.Common.{◌≡◌, ◌+◌, ◌≤◌, ◌∙◌, ap, length, arith, rules}
use Rattle.std.proofs.lemmas.List.{append_assoc}
use Rattle.dccp_packets.specs.Grammar.{decoded, header_length, padded, spelling}
use Rattle.dccp_packets.proofs.ReadBack.{reads_back}
use Rattle.dccp_packets.proofs.writing.encode.Goals as goal

pub returns-clause-read_back : goal.returns-clause-read_back
returns-clause-read_back c =
    let header = c.args.header.now in
    let options = c.args.options.now in
    let payload = c.args.payload.now in
    let written : c.append.new.self ≡ spelling header options payload = search (rules, append_assoc) in
    let room : header_length header + length (padded options) ≤ 1020 = omega (arith, c.length-fixed.ensures, c.padding.ensures.filled) in
    ap decoded written ∙ reads_back header options payload c.known_to_fit.ensures c.requires.valid room
