-- A run of a pair of sides, to show that moves lead somewhere: a whole vector is heard, and a floor rises above what it reported (own).
use Rattle.std.specs.Prelude.{◌==◌, true}
use Rattle.two_ends.specs.MarkView.{MarkSide}
use Rattle.two_ends.specs.MarkMoves.{with_first_frame, with_processed, with_floor, told, ack_frame, other_frame, with_sent_frame, unmoved_side}

-- the client sends a Request
abbrev pub client_requesting : MarkSide
client_requesting = with_sent_frame unmoved_side (other_frame unmoved_side 0)

-- the server takes it and sends a Response
abbrev pub server_requested : MarkSide
server_requested = with_first_frame unmoved_side 1

-- and sends the Response
abbrev pub server_answering : MarkSide
server_answering = with_sent_frame server_requested (other_frame server_requested 1)

-- the client takes that and sends an Ack with its vector
abbrev pub client_answered : MarkSide
client_answered = with_first_frame client_requesting 1

-- and sends the Ack
abbrev pub client_acking : MarkSide
client_acking = with_sent_frame client_answered (ack_frame client_answered true true)

-- the server takes the Ack, and its own Ack reports both frames that it has processed
abbrev pub server_acked : MarkSide
server_acked = with_processed server_answering 2

-- and sends its own Ack, with its vector
abbrev pub server_telling : MarkSide
server_telling = with_sent_frame server_acked (ack_frame server_acked true true)

-- the client takes that, learns that its Ack was received, and acknowledges the vector
abbrev pub client_told : MarkSide
client_told = with_processed client_acking 2

-- and learns that its Ack was received
abbrev pub client_learning : MarkSide
client_learning = told client_told (λ n. n == 2)

-- and acknowledges the vector
abbrev pub client_exchanged : MarkSide
client_exchanged = with_sent_frame client_learning (ack_frame client_learning true true)

-- the server takes that, and need not report the first two any more
abbrev pub server_heard : MarkSide
server_heard = with_processed server_telling 3

-- and raises its floor above the two
abbrev pub server_exchanged : MarkSide
server_exchanged = with_floor server_heard 3
