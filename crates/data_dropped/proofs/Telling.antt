-- What is read of a frame that reports its drops.
use Rattle.std.proofs.Common.{◌≡◌, ℕ, ◌^◌, ◌<◌, Bool, true, false, List, [], ◌++◌, length, Option, Some, None, ap, sym, subst, ◌∙◌, inl, inr, append-nil}
use Rattle.std.proofs.lemmas.Bool.{cases_eq, eq-eqb, ne_eqb}
use Rattle.std.proofs.lemmas.Option.{same_Some}
use Rattle.dccp_options.specs.Vectors.{VectorReport, joined_report}
use Rattle.dccp_sum.specs.declared.pseudo_header.Pseudo.{Pseudo}
use Rattle.dccp_packets.specs.Outgoing.{Outgoing}
use Rattle.dccp_endpoint.specs.End.{EndState, IsProper}
use Rattle.dccp_endpoint.specs.Inputs.{Input, end_stepped}
use Rattle.data_dropped.specs.Drops.{HaveCodes, drop_bytes}
use Rattle.dccp_endpoint.specs.Lengthening.{says_more}
use Rattle.data_dropped.specs.Frames.{acknowledged_by, buffered_frame, buffered_sent, said}
use Rattle.data_dropped.specs.Inbox.{InboxState}
use Rattle.data_dropped.specs.Telling.{FrameTells, IsReadAsDrops, TellsItsDrops, drops_in_packet, one_option, report_in_packet, told_by_ack, told_if}
use Rattle.data_dropped.proofs.OwnFrames.{step-tells}
use Rattle.data_dropped.proofs.ReadBack.{all_codes_read, only_codes_read}

option-is : (ack : ℕ) (bytes : List ℕ) (r : VectorReport) → joined_report ack (one_option bytes) ≡ Some r → record { ack = ack; bytes = bytes } ≡ r
option-is ack bytes r is =
    elim (cases_eq (length bytes) 0) [
      | inl none ↦ let nothing : ◌≡◌ {A = Option VectorReport} None (Some r) = rw (eq-eqb (length bytes) 0 none) at is in absurd cc
      | inr some ↦
          let one : ◌≡◌ {A = Option VectorReport} (Some (record { ack = ack; bytes = bytes ++ [] })) (Some r) = rw (ne_eqb (length bytes) 0 some) at is in
          ap (λ (all : List ℕ). record { ack = ack; bytes = all }) (sym (append-nil bytes)) ∙ same_Some _ r one
    ]

told-is : (ack : ℕ) (says : Bool) (bytes : List ℕ) (r : VectorReport) → joined_report ack (told_if says bytes) ≡ Some r → record { ack = ack; bytes = bytes } ≡ r
told-is ack true bytes r is = option-is ack bytes r is
told-is ack false bytes r is = absurd cc

pub read_as_drops : (pseudo : Pseudo) (held : InboxState) (own frame : Outgoing) (tells : TellsItsDrops pseudo held own frame) (ack : ℕ) (r : VectorReport)
    → acknowledged_by frame.ack tells.packet.header.kind ≡ Some ack → report_in_packet ack tells.packet ≡ Some r → HaveCodes held.drops → ack < 2 ^ 48
    → IsReadAsDrops held ack r
read_as_drops pseudo held own frame tells ack r acks is have fits =
    let before : acknowledged_by own.ack tells.before.header.kind ≡ Some ack =
    ap (acknowledged_by own.ack) (sym tells.same_kind)
    ∙ ap (λ (f : Outgoing). acknowledged_by f.ack tells.packet.header.kind) (sym tells.same_told) ∙ acks in
    let told : drops_in_packet tells.packet ≡ told_if (says_more tells.before (said held ack)) (drop_bytes held.drops ack) =
    tells.tells ∙ ap (told_by_ack held tells.before) before in
    let report : record { ack = ack; bytes = drop_bytes held.drops ack } ≡ r =
    told-is ack (says_more tells.before (said held ack)) (drop_bytes held.drops ack) r (sym (ap (joined_report ack) told) ∙ is) in
    subst (λ (x : VectorReport). IsReadAsDrops held ack x) report
    (record {
      only = λ n code small found. only_codes_read held.drops ack n code have fits small found;
      all = λ n small whole near. all_codes_read held.drops ack n have fits small whole near;
    })

-- a step of the end on any input, beside an inbox
pub calls-tell : (e : EndState) (held : InboxState) (given : Input) (own : Outgoing) → IsProper e → (end_stepped e given).frame ≡ Some own
    → FrameTells (end_stepped e given).after.config.pseudo_out held own
    (buffered_frame (end_stepped e given).after.config.pseudo_out held (end_stepped e given).frame)
calls-tell e held given own proper is =
    record {
      frame = buffered_sent (end_stepped e given).after.config.pseudo_out held own;
      goes_out = ap (buffered_frame (end_stepped e given).after.config.pseudo_out held) is;
      tells = step-tells e given own held proper is;
    }

pub silent-stay : (pseudo : Pseudo) (held : InboxState) (sent : Option Outgoing) → sent ≡ None → buffered_frame pseudo held sent ≡ None
silent-stay pseudo held sent is = ap (buffered_frame pseudo held) is
