-- The lines of a captured packet in a replay (own).
use Rattle.std.specs.Prelude.{ℕ, nat_lt, if◌then◌else◌, List, ◌++◌, length, take, codes, Result, Ok, Err}
use Rattle.hex.specs.Hex.{encode_lower}
use Rattle.bridge_command.specs.declared.frames.mapping.NoFrame.{NoFrame}
use Rattle.bridge_command.specs.declared.frames.mapping.NoFrame.TheVariants as none

-- a comment with its newline, cut to the 4,096 bytes that a line of a replay has room for
abbrev pub cut_comment : List ℕ → List ℕ
cut_comment comment = if nat_lt 4097 (length comment) then take 4096 comment ++ codes "\n" else comment

-- a line of `show` as a comment
abbrev pub comment_line : List ℕ → List ℕ
comment_line line = cut_comment (codes "# " ++ line)

-- the words of a frame of these bytes, whose checksum is to be set
abbrev pub sealed_words : List ℕ → List ℕ
sealed_words bytes = codes "seal " ++ encode_lower bytes

-- the word for why a packet has no frame
abbrev pub no_frame_name : NoFrame → List ℕ
no_frame_name none.NumberUnknown = codes "NumberUnknown"
no_frame_name none.FrameTooLong = codes "FrameTooLong"

-- the comment on a packet without a frame
abbrev pub no_frame_words : NoFrame → List ℕ
no_frame_words why = codes "# no frame: " ++ no_frame_name why

-- the words of a packet's frame, or why it has none
abbrev pub packet_frame_words : Result (List ℕ) NoFrame → List ℕ
packet_frame_words (Ok bytes) = sealed_words bytes
packet_frame_words (Err why) = no_frame_words why

-- the line of a packet's frame, or why it has none
abbrev pub packet_frame_line : Result (List ℕ) NoFrame → List ℕ
packet_frame_line frame = packet_frame_words frame ++ codes "\n"
