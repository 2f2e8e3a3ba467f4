use Rattle.std.proofs.Common.{ap}
use Rattle.dccp_packets.specs.Grammar.{Parts}
use Rattle.tests_claims.proofs.Saying.{one-packet}
use Rattle.tests_claims.proofs.tables.bytes_are_a_packet_by_the_table.Goals as goal

pub returns-clause-exact : goal.returns-clause-exact
returns-clause-exact c = λ header options payload bytes.
    (c.what_is_read_is_the_table.ensures.sound header options payload bytes, c.what_is_read_is_the_table.ensures.complete header options payload bytes)

pub returns-clause-one : goal.returns-clause-one
returns-clause-one c = λ one other options payload others_options others_payload bytes is others.
    let same = one-packet bytes (record { header = one; options = options; payload = payload })
    (record { header = other; options = others_options; payload = others_payload })
    (c.what_is_read_is_the_table.ensures.complete one options payload bytes is)
    (c.what_is_read_is_the_table.ensures.complete other others_options others_payload bytes others) in
    (ap (λ (p : Parts). p.header) same, (ap (λ (p : Parts). p.options) same, ap (λ (p : Parts). p.payload) same))
