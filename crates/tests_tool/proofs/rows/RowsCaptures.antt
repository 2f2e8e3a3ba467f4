-- Transcripts as captures: worked bytes, and what is refused (own).
use Rattle.std.proofs.Common.{◌≡◌, refl, ℕ, Bool, false, true, List, ◌++◌, codes}
use Rattle.std.specs.Fmt.{digits}
use Rattle.bridge_command.specs.Capturing.{frames_capture, transcript_judged, transcript_refusal, transcript_refused}
use Rattle.bridge_command.specs.Complaints.{complaint_text, line_complaint}
use Rattle.bridge_command.specs.FrameRecords.{ip_packet}
use Rattle.tests_tool.proofs.rows.RowsSeen.{bytes, refused_after}

-- what `capture` writes of an input, what it also reports, and whether it refuses the input
abbrev pub captured : List ℕ → List ℕ × Bool
captured input = (frames_capture input ++ complaint_text (line_complaint (transcript_refusal input)), transcript_refused input)

-- What a client and a server of a schedule answer, and a replay's first lines.
abbrev pub transcript : List ℕ
transcript =
    codes "2 open: ok\nsent c0 9c401389050031ec01000000000003e80000002a\n3 deliver c0: took\n"
    ++ codes "sent s0 13899c400700261403000000000007d000000000000003e80000002a\nend client REQUEST window 4 flight 0 1=2/2\n# the next transcript\n"
    ++ codes "\nopen: ok\n1: sent reset 4 2 0 0\nsent c1 9c4013890700163b0f000000000003e900000000000007d004020000\n"

-- The file header; and for each record its header, then that of IPv4, whose checksum was worked out separately, and the frame.
abbrev pub capture : List ℕ
capture =
    bytes
    (codes "a1b2c3d40002000400000000000000000004000000000065000000020000000000000028000000284500002800004000402126b30a0000010a0000029c401389"
    ++ codes "050031ec01000000000003e80000002a000000030000000000000030000000304500003000004000402126ab0a0000020a00000113899c400700261403000000"
    ++ codes "000007d000000000000003e80000002a000000010000000000000030000000304500003000004000402126ab0a0000010a0000029c4013890700163b0f000000"
    ++ codes "000003e900000000000007d004020000")

-- The whole of it.
frames_of_a_transcript :
    captured transcript ≡ (capture, false)
unfolding transcript_judged ip_packet digits
frames_of_a_transcript = refl

-- Lines, and the refusal of each after the file header.
refused_lines_of_transcripts :
    (captured (codes "sent") ≡ refused_after capture 24 "line 1 column 6: Missing\n")
    × (captured (codes "sent c0") ≡ refused_after capture 24 "line 1 column 9: Missing\n")
    × (captured (codes "sent d0 00") ≡ refused_after capture 24 "line 1 column 6: UnknownWord\n")
    × (captured (codes "sent c 00") ≡ refused_after capture 24 "line 1 column 6: BadNumber\n")
    × (captured (codes "sent c01 00") ≡ refused_after capture 24 "line 1 column 6: BadNumber\n")
    × (captured (codes "sent s140737488355328 00") ≡ refused_after capture 24 "line 1 column 6: BadNumber\n")
    × (captured (codes "sent c0 0") ≡ refused_after capture 24 "line 1 column 10: BadHex\n")
    × (captured (codes "sent c0 -") ≡ refused_after capture 24 "line 1 column 9: BadHex\n")
    × (captured (codes "sent c0 00 x") ≡ refused_after capture 24 "line 1 column 12: Trailing\n")
    × (captured (codes "plain") ≡ refused_after capture 24 "line 1 column 1: UnknownWord\n")
    × (captured (codes "open") ≡ refused_after capture 24 "line 1 column 1: UnknownWord\n")
    × (captured (codes "4294967296 open: ok") ≡ refused_after capture 24 "line 1 column 1: UnknownWord\n")
    × (captured (codes " 1 open: ok") ≡ refused_after capture 24 "line 1 column 1: Missing\n")
    × (captured (codes "line 4 column 1: BadHex\n") ≡ refused_after capture 24 "line 1 column 1: UnknownWord\n")
unfolding transcript_judged ip_packet digits
refused_lines_of_transcripts = (refl, refl, refl, refl, refl, refl, refl, refl, refl, refl, refl, refl, refl, refl)
