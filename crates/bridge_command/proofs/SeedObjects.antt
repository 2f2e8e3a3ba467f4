-- The object of a seed has only a text and whole numbers.
use Rattle.std.proofs.Common.{◌≡◌, refl, false, List, codes, ℕ}
use Rattle.serde_json.specs.Data.{Members, no_members, number, string, unsigned}
use Rattle.serde_json.specs.Written.{members_have_float}
use Rattle.fault_campaign.specs.declared.report.Report.{Report}
use Rattle.bridge_command.specs.Members.{with_number_named}
use Rattle.bridge_command.specs.SeedLines.{seed_members, seed_state, with_outcomes, with_frames_counted, with_state}
use Rattle.bridge_command.proofs.WholeNumbers.{plain_put}

-- no member is a float
abbrev HasNoFloat : Members → Type 0
HasNoFloat ms = members_have_float ms ≡ false

whole : (name : List ℕ) (n : ℕ) (ms : Members) → HasNoFloat ms → HasNoFloat (with_number_named name n ms)
whole name n ms plain = plain_put name (number (unsigned n)) ms refl plain

whole-sent : (seed : ℕ) (r : Report) (ms : Members) → HasNoFloat ms → HasNoFloat (with_frames_counted seed r ms)
whole-sent seed r ms plain =
    let a : Members = with_number_named (codes "seed") seed ms in
    let b : Members = with_number_named (codes "events") r.events a in
    let c : Members = with_number_named (codes "client_frames") r.client_frames b in
    whole (codes "server_frames") r.server_frames c
    (whole (codes "client_frames") r.client_frames b (whole (codes "events") r.events a (whole (codes "seed") seed ms plain)))

whole-outcomes : (r : Report) (ms : Members) → HasNoFloat ms → HasNoFloat (with_outcomes r ms)
whole-outcomes r ms plain =
    let a : Members = with_number_named (codes "took") r.took ms in
    let b : Members = with_number_named (codes "delivered") r.delivered a in
    let c : Members = with_number_named (codes "dropped") r.dropped b in
    let d : Members = with_number_named (codes "synced") r.synced c in
    let e : Members = with_number_named (codes "was_reset") r.was_reset d in
    whole (codes "sent_reset") r.sent_reset e
    (whole (codes "was_reset") r.was_reset d
    (whole (codes "synced") r.synced c (whole (codes "dropped") r.dropped b (whole (codes "delivered") r.delivered a (whole (codes "took") r.took ms plain)))))

whole-state : (r : Report) (ms : Members) → HasNoFloat ms → HasNoFloat (with_state r ms)
whole-state r ms plain =
    let a : Members = with_number_named (codes "refused") r.refused ms in
    let b : Members = with_number_named (codes "settled") r.settled a in
    plain_put (codes "state") (string (seed_state r)) b refl (whole (codes "settled") r.settled a (whole (codes "refused") r.refused ms plain))

pub whole_seed : (seed : ℕ) (r : Report) → members_have_float (seed_members seed r) ≡ false
unfolding seed_members
whole_seed seed r =
    let a : Members = with_frames_counted seed r no_members in
    let b : Members = with_outcomes r a in
    whole-state r b (whole-outcomes r a (whole-sent seed r no_members refl))
