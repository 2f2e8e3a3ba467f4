-- Data that wait until C reads them (own).
use Rattle.std.specs.Prelude.{ℕ, List, Option, Some, None}
use Rattle.std.specs.Option.{option_map}
use Rattle.data_dropped.specs.Inbox.{InboxState}
use Rattle.data_dropped.specs.Intakes.{count_held, first_read, read_over, without_first, without_listener}
use Rattle.dccp_c.specs.Stepping.{CEnd}
use Rattle.dccp_c.specs.declared.reading.ReadData.{ReadData}

-- the end once the first data were read
abbrev pub without_first_read : Option CEnd → Option CEnd
without_first_read = option_map (λ (s : CEnd). record s { inbox = without_first s.inbox })

-- what C gets: the number and the length of the first data, if some wait, and their bytes over what was there
abbrev pub read_data_of : Option (ℕ × ℕ) → List ℕ → ReadData → ReadData
read_data_of None bytes old = record old { bytes = bytes }
read_data_of (Some first) bytes old = record { length = first.1; number = first.0; bytes = bytes }

-- the same, if there is an end
abbrev pub data_read : Option CEnd → ReadData → ReadData
data_read None old = old
data_read (Some s) old = read_data_of (first_read s.inbox) (read_over s.inbox old.bytes) old

-- 0 if data were read, 12 if none wait
abbrev pub code_of_first : Option (ℕ × ℕ) → ℕ
code_of_first None = 12
code_of_first (Some first) = 0

-- the same, with 1 if there is no end
abbrev pub read_code : Option CEnd → ℕ
read_code None = 1
read_code (Some s) = code_of_first (first_read s.inbox)

-- the end once its application has stopped listening
abbrev pub with_stop : Option CEnd → Option CEnd
with_stop = option_map (λ (s : CEnd). record s { inbox = without_listener s.inbox })

-- 0 if it has an inbox, otherwise 12
abbrev pub code_of_inbox : Option InboxState → ℕ
code_of_inbox None = 12
code_of_inbox (Some held) = 0

-- the same, with 1 if there is no end
abbrev pub stop_code : Option CEnd → ℕ
stop_code None = 1
stop_code (Some s) = code_of_inbox s.inbox

-- how many packets' data wait
abbrev pub held_in : Option CEnd → ℕ
held_in None = 0
held_in (Some s) = count_held s.inbox
