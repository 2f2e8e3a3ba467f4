-- Marks, and the verdicts on packets that follow from them (RFC 4340, sections 7.1 and 7.5), as stories, computed from the definitions. The
-- values were written by hand.
use Rattle.std.specs.Prelude.{◌≡◌, refl, ℕ, Bool, true, false, List, [], ◌∷◌, Option, None, Some}
use Rattle.dccp_packets.specs.declared.header.PacketType.{PacketType}
use Rattle.dccp_packets.specs.declared.header.PacketType.TheVariants as types
use Rattle.validity_windows.specs.Beginning.{begun, new_marks}
use Rattle.validity_windows.specs.Verdict.{is_ack_within, taken, verdict}
use Rattle.validity_windows.specs.Windows.{ack_high, ack_low, windows}
use Rattle.validity_windows.specs.declared.marks.Marks.{Marks}
use Rattle.validity_windows.specs.declared.marks.Windows.{Windows}
use Rattle.validity_windows.specs.declared.verdict.Verdict.{Verdict}
use Rattle.validity_windows.specs.declared.verdict.Verdict.TheVariants.{Drop, SyncFor, Valid}

-- marks by ISS, GSS, GAR, ISR, GSR, OSR, and the widths of this end's and of the peer's window
abbrev pub marks : ℕ → ℕ → ℕ → ℕ → ℕ → ℕ → ℕ → ℕ → Marks
marks iss gss gar isr gsr osr own_w peer_w = record {
  iss = iss;
  gss = gss;
  gar = gar;
  isr = isr;
  gsr = gsr;
  osr = osr;
  own_w = own_w;
  peer_w = peer_w;
}

-- both ends have sent much
abbrev pub later : Marks
later = marks 1000 1500 1450 2000 3000 2001 100 100

-- round the end of the circle, soon after the connection began
abbrev pub wrapped : Marks
wrapped = marks 281474976710654 0 281474976710655 2000 2001 2001 100 100

-- windows of two widths, of which the peer's is no multiple of four
abbrev pub uneven : Marks
uneven = marks 1000 1500 1450 2000 3000 2001 210 101

-- SWL, SWH, AWL and AWH
abbrev pub ends : ℕ → ℕ → ℕ → ℕ → Windows
ends swl swh awl awh = record { swl = swl; swh = swh; awl = awl; awh = awh }

-- whether what this end sent is acknowledged
abbrev pub acknowledges : Marks → Option ℕ → Bool
acknowledges m ack = is_ack_within (ack_low m) (ack_high m) ack

-- packets that are taken, one after another: the verdict on each, and GSR and GAR after it
abbrev pub takes : Marks → List (PacketType × ℕ × ℕ) → List (Verdict × ℕ × ℕ)
takes m [] = []
takes m ((kind, number, ack) ∷ rest) =
    (verdict m kind number (Some ack), (taken m kind number (Some ack)).gsr, (taken m kind number (Some ack)).gar)
    ∷ takes (taken m kind number (Some ack)) rest

stories_of_marks :
    -- SWL, SWH, AWL and AWH. By hand: 101 / 4 is 25.25, rounded down for SWL, and 303 / 4 is 75.75, rounded up for SWH
    (windows later ≡ ends 2976 3075 1401 1500)
    × (windows wrapped ≡ ends 2000 2076 281474976710654 0)
    × (windows uneven ≡ ends 2976 3076 1291 1500)
    -- 103 / 4 is 25.75, and 309 / 4 is 77.25
    × (windows (marks 1000 1500 1450 2000 3000 2001 210 103) ≡ ends 2976 3078 1291 1500)
    -- Verdicts, with the number that a Sync is for: both windows
    × (verdict later types.Data 2975 None ≡ SyncFor 2975)
    × (verdict later types.Data 2976 None ≡ Valid)
    × (verdict later types.Data 3075 None ≡ Valid)
    × (verdict later types.Data 3076 None ≡ SyncFor 3076)
    × (verdict later types.Ack 3001 (Some 1400) ≡ SyncFor 3001)
    × (verdict later types.Ack 3001 (Some 1401) ≡ Valid)
    × (verdict later types.DataAck 3001 (Some 1500) ≡ Valid)
    × (verdict later types.Response 3001 (Some 1501) ≡ SyncFor 3001)
    × (verdict wrapped types.Ack 2002 (Some 281474976710655) ≡ Valid)
    × (verdict wrapped types.Ack 2002 (Some 1) ≡ SyncFor 2002)
    × (verdict uneven types.Data 2975 None ≡ SyncFor 2975)
    × (verdict uneven types.Data 2976 None ≡ Valid)
    × (verdict uneven types.Data 3076 None ≡ Valid)
    × (verdict uneven types.Data 3077 None ≡ SyncFor 3077)
    × (verdict uneven types.Ack 3001 (Some 1290) ≡ SyncFor 3001)
    × (verdict uneven types.Ack 3001 (Some 1291) ≡ Valid)
    × (verdict uneven types.Reset 3076 (Some 1450) ≡ Valid)
    × (verdict uneven types.Reset 3077 (Some 1450) ≡ SyncFor 3000)
    -- A greater number than any before, for what ends the connection
    × (verdict later types.Close 3000 (Some 1450) ≡ SyncFor 3000)
    × (verdict later types.Close 3001 (Some 1450) ≡ Valid)
    × (verdict later types.CloseReq 3001 (Some 1449) ≡ SyncFor 3001)
    × (verdict later types.Reset 3075 (Some 1500) ≡ Valid)
    × (verdict later types.Reset 3076 (Some 1500) ≡ SyncFor 3000)
    -- Syncs from beyond the window: the last two are half the circle from SWL - 1, and one more
    × (verdict later types.Sync 2975 (Some 1401) ≡ Drop)
    × (verdict later types.Sync 5000 (Some 1401) ≡ Valid)
    × (verdict later types.SyncAck 5000 (Some 1400) ≡ Drop)
    × (verdict later types.Sync 140737488358303 (Some 1401) ≡ Valid)
    × (verdict later types.Sync 140737488358304 (Some 1401) ≡ Drop)
    -- Valid packets that are taken, one after another: GSR and GAR after each
    × (takes later
    ((types.Ack, 3050, 1480) ∷ (types.Sync, 3060, 1490) ∷ (types.DataAck, 3040, 1460) ∷ (types.SyncAck, 3061, 1481)
    ∷ (types.Response, 3062, 1482) ∷ (types.CloseReq, 3063, 1483) ∷ (types.Close, 3064, 1484) ∷ [])
    ≡ (Valid, 3050, 1480) ∷ (Valid, 3060, 1480) ∷ (Valid, 3060, 1480) ∷ (Valid, 3061, 1481) ∷ (Valid, 3062, 1482) ∷ (Valid, 3063, 1483) ∷ (Valid, 3064, 1484) ∷ [])
    -- Acknowledgement numbers, and whether what this end sent is acknowledged by them
    × (acknowledges uneven None ≡ true)
    × (acknowledges uneven (Some 1290) ≡ false)
    × (acknowledges uneven (Some 1291) ≡ true)
    × (acknowledges uneven (Some 1500) ≡ true)
    × (acknowledges uneven (Some 1501) ≡ false)
    -- The first packet received: the eight numbers before it and after it
    × (new_marks 0 100 ≡ marks 0 281474976710655 0 0 0 0 100 100)
    × (begun (new_marks 0 100) types.Response 2000 (Some 2) ≡ marks 0 281474976710655 2 2000 2000 2000 100 100)
    × (begun (begun (new_marks 0 100) types.Response 2000 (Some 2)) types.Request 7 None ≡ marks 0 281474976710655 2 7 7 7 100 100)
stories_of_marks = (refl, refl, refl, refl, refl, refl, refl, refl, refl, refl, refl, refl, refl, refl, refl, refl, refl, refl, refl, refl, refl, refl, refl, refl, refl, refl, refl, refl, refl, refl, refl, refl, refl, refl, refl, refl, refl, refl, refl, refl, refl)
