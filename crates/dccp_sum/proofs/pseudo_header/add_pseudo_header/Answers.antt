-- The sum of the addresses, and with it the words that are no addresses.
use Rattle.dccp_sum.proofs.Sums.{same-v4, same-v6, length-pseudo_header_v4, length-pseudo_header_v6}
use Rattle.dccp_sum.proofs.pseudo_header.add_pseudo_header.Goals as goal
use Rattle.dccp_sum.proofs.pseudo_header.add_pseudo_header.Goals.{in-V4, in-V6}

pub returns-clause-value : goal.returns-clause-value
returns-clause-value c = elim c.match-pseudo.branch [
  | in-V4 w ↦ same-v4 c.args.pseudo.now w.in-V4.from w.in-V4.to c.args.size c.match-pseudo.addresses w.add_v4-addresses.result w.in-V4.is
      w.add_v4-addresses.ensures.from_length w.add_v4-addresses.ensures.to_length c.requires w.addresses-is w.add_v4-addresses.ensures.value
  | in-V6 w ↦ same-v6 c.args.pseudo.now w.in-V6.from w.in-V6.to c.args.size c.match-pseudo.addresses w.add_v6-addresses.result w.in-V6.is
      w.add_v6-addresses.ensures.from_length w.add_v6-addresses.ensures.to_length c.requires w.addresses-is w.add_v6-addresses.ensures.value
]

pub returns-clause-whole_words : goal.returns-clause-whole_words
returns-clause-whole_words c = elim c.match-pseudo.branch [
  | in-V4 w ↦ length-pseudo_header_v4 c.args.pseudo.now w.in-V4.from w.in-V4.to c.args.size w.in-V4.is w.add_v4-addresses.ensures.from_length
      w.add_v4-addresses.ensures.to_length
  | in-V6 w ↦ length-pseudo_header_v6 c.args.pseudo.now w.in-V6.from w.in-V6.to c.args.size w.in-V6.is w.add_v6-addresses.ensures.from_length
      w.add_v6-addresses.ensures.to_length
]
