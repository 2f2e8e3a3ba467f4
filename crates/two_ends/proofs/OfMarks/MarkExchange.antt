-- The exchange, move by move.
use Rattle.std.proofs.Common.{◌≡◌, ℕ, ◌==◌, ◌⊎◌, inr, true, refl, subst, arith}
use Rattle.two_ends.specs.MarkView.{frame_at}
use Rattle.two_ends.specs.MarkMoves.{unmoved_side, IsReportedBy, ReachedByMarks}
use Rattle.two_ends.specs.MarkMoves.MarkMove.{Begins, Joins, Raises, Hears, Acks, Sends}
use Rattle.two_ends.specs.MarkMoves.ReachedByMarks.{Starts, Server_moves, Client_moves}
use Rattle.two_ends.specs.MarkExchange.{client_requesting, server_requested, server_answering, client_answered, client_acking, server_acked, server_telling, client_told, client_learning, client_exchanged, server_heard, server_exchanged}

asked : ReachedByMarks server_requested client_requesting
asked = Server_moves unmoved_side client_requesting server_requested (Client_moves unmoved_side unmoved_side client_requesting Starts (Sends 0))
    (Begins 1 refl refl (omega arith) (omega arith))

answered : ReachedByMarks server_answering client_answered
answered =
    Client_moves server_answering client_requesting client_answered
    (Server_moves server_requested client_requesting server_answering asked (Sends 1)) (Begins 1 refl refl (omega arith) (omega arith))

acked : ReachedByMarks server_acked client_acking
acked =
    Server_moves server_answering client_acking server_acked
    (Client_moves server_answering client_answered client_acking answered (Acks true true (omega arith) refl))
    (Joins 2 (omega arith) refl (omega arith) (omega arith) refl)

was_told : ReachedByMarks server_telling client_told
was_told =
    Client_moves server_telling client_acking client_told
    (Server_moves server_acked client_acking server_telling acked (Acks true true (omega arith) refl))
    (Joins 2 (omega arith) refl (omega arith) (omega arith) refl)

two : (n : ℕ) → (n == 2) ≡ true → 2 ≡ n
two n is = grind arith

reports_two : IsReportedBy (frame_at server_telling.frames 2) 2
reports_two = record { carries = refl; from_floor = omega arith; up_to = omega arith; received = refl }

reports : (n : ℕ) → (n == 2) ≡ true → (client_told.reported n ≡ true) ⊎ IsReportedBy (frame_at server_telling.frames 2) n
reports n is = inr (subst (λ m. IsReportedBy (frame_at server_telling.frames 2) m) (two n is) reports_two)

learned : ReachedByMarks server_telling client_exchanged
learned =
    Client_moves server_telling client_learning client_exchanged
    (Client_moves server_telling client_told client_learning was_told (Hears 2 (λ n. n == 2) reports))
    (Acks true true (omega arith) refl)

pub exchanged : ReachedByMarks server_exchanged client_exchanged
exchanged =
    Server_moves server_heard client_exchanged server_exchanged
    (Server_moves server_telling client_exchanged server_heard learned (Joins 3 (omega arith) refl (omega arith) (omega arith) refl))
    (Raises 3 2 (omega arith) refl refl refl refl)
