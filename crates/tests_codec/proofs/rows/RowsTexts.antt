-- Worked lines of records for what no capture can say: the greatest number of a record and another link type. All other lines are shown by the
-- captures of `examples/`. The values are by hand, after the texts of the tool's forms (own).
use Rattle.std.proofs.Common.{◌≡◌, refl, ℕ, false, [], length, codes}
use Rattle.std.specs.Fmt.{digits}
use Rattle.capture_reader.specs.Records.{RecordParts}
use Rattle.packet_show.specs.Lines.{ShowStep, shows}
use Rattle.packet_show.specs.declared.flows.Shown.TheVariants.{Line, Skipped}
use Rattle.tests_codec.proofs.rows.RowsSeen.{bytes}

-- the shortest Data in IPv4, from port 1 to port 1, in a record with the greatest numbers
abbrev shortest : ℕ → RecordParts
shortest link = record {
  number = 18446744073709551615;
  seconds = 4294967295;
  fraction = 999999;
  nanos = false;
  link = link;
  original = 1500;
  bytes = bytes "4500002000010000402100000a0000010a000002000100010300e4cd04000000";
}

-- the line in raw IP, and of one flow
abbrev in_raw_ip : ShowStep
in_raw_ip = shows [] (shortest 101)

-- A line in raw IP, which notes its flow; and nothing on a link that is neither, whatever flows were seen
lines_after_a_text :
    (in_raw_ip.text
    ≡ codes "18446744073709551615 4294967295.999999 flow 1 10.0.0.1 1 > 10.0.0.2 1 Data seq 0 data 0 sum ok\n")
    × (in_raw_ip.shown ≡ Line)
    × (length in_raw_ip.flows ≡ 1)
    × (shows in_raw_ip.flows (shortest 113) ≡ record { text = []; shown = Skipped; flows = in_raw_ip.flows })
unfolding digits
lines_after_a_text = (refl, refl, refl, refl)
