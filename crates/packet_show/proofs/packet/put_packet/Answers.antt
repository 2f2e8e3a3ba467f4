-- The parts of a packet's line, one after the other.
use Rattle.std.proofs.Common.{◌≡◌, ap, ◌∙◌, List, ℕ, ◌++◌, append_assoc}
use Rattle.capture_reader.specs.Records.{entry_of}
use Rattle.packet_show.specs.Network.{carried_by}
use Rattle.packet_show.specs.Lines.{stamp_text, sender_text, receiver_text, header_text, rest_text, parts_by}
use Rattle.tool_text.proofs.Keeping.{keeps_through}
use Rattle.packet_show.proofs.packet.put_packet.Goals as goal

following : (old mid new piece more : List ℕ) → mid ≡ old ++ piece → new ≡ mid ++ more → new ≡ old ++ (piece ++ more)
following old mid new piece more first then_on = then_on ∙ ap (λ (text : List ℕ). text ++ more) first ∙ append_assoc old piece more

pub returns-clause-ok : goal.returns-clause-ok
returns-clause-ok c =
    let text : List ℕ = c.args.text.now.items in
    let stamp = stamp_text (entry_of c.args.item.now) in
    let sender = sender_text (carried_by c.args.there.now) c.args.packet.now.header.from c.args.flow in
    let receiver = receiver_text (carried_by c.args.there.now) c.args.packet.now.header.to in
    let header = header_text c.args.packet.now.header in
    let rest = rest_text (carried_by c.args.there.now) (parts_by c.args.packet.now) in
    following text _ _ (stamp ++ sender ++ receiver ++ header) rest
    (following text _ _ (stamp ++ sender ++ receiver) header
    (following text _ _ (stamp ++ sender) receiver
    (following text _ _ stamp sender c.in_ok-put_stamp.ensures.ok c.in_ok-put_sender.ensures.ok)
    c.in_ok-put_receiver.ensures.ok)
    c.in_ok-put_header.ensures.ok)
    c.in_ok-put_rest.ensures.ok

pub returns-in_err-put_sender-clause-front : goal.returns-in_err-put_sender-clause-front
returns-in_err-put_sender-clause-front c = search keeps_through

pub returns-in_err-put_receiver-clause-front : goal.returns-in_err-put_receiver-clause-front
returns-in_err-put_receiver-clause-front c = search keeps_through

pub returns-in_err-put_header-clause-front : goal.returns-in_err-put_header-clause-front
returns-in_err-put_header-clause-front c = search keeps_through

pub returns-in_err-put_rest-clause-front : goal.returns-in_err-put_rest-clause-front
returns-in_err-put_rest-clause-front c = search keeps_through

pub returns-clause-front : goal.returns-clause-front
returns-clause-front c = search keeps_through
