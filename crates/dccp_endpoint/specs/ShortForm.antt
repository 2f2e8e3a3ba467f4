-- Which packets of an end go out with short numbers (RFC 4340, section 7.6.1; that an end sends them wherever it may is own).
use Rattle.std.specs.Prelude.{◌==◌, ◌&&◌, not, nat_le, ℕ, Bool, true, false}
use Rattle.std.specs.List.{list_any}
use Rattle.dccp_options.specs.Written.{Item}
use Rattle.dccp_packets.specs.Forms.{may_be_short}
use Rattle.dccp_packets.specs.Grammar.{packet_type}
use Rattle.feature_lists.specs.declared.features.Feature.TheVariants.{ShortSeqnos}
use Rattle.feature_lists.specs.declared.features.Place.TheVariants.{Here}
use Rattle.feature_machine.specs.declared.stands.Held.{Held}
use Rattle.feature_machine.specs.declared.stands.Stand.{Stand}
use Rattle.feature_machine.specs.declared.stands.Stand.TheVariants.{Stable, Changing, Unstable}
use Rattle.dccp_endpoint.specs.Drafts.{Draft}
use Rattle.dccp_endpoint.specs.End.{EndState, held_of, is_open}
use Rattle.dccp_endpoint.specs.Heeding.{is_of_negotiation}

-- nothing is under way for the row
abbrev pub is_stable : Stand → Bool
is_stable Stable = true
is_stable Changing = false
is_stable Unstable = false

-- the peer knows that short numbers may come
abbrev pub is_settled_on_one : Held → Bool
is_settled_on_one held = is_stable held.stand && (held.value == 1)

-- The widest window under which short numbers go out: 2^22, so that no valid number of a packet is far (own).
abbrev pub widest_short : ℕ
widest_short = 4194304

-- The end may send short numbers: in OPEN, where the feature is settled here, with windows that are not too wide (own).
abbrev pub allows_short : EndState → Bool
allows_short e =
    is_open e.phase
    && (is_settled_on_one (held_of e ShortSeqnos Here) && (nat_le e.marks.own_w widest_short && nat_le e.marks.peer_w widest_short))

-- a Change or a Confirm
abbrev pub is_negotiating : Item → Bool
is_negotiating item = is_of_negotiation item.kind

-- A packet goes out with short numbers if its type may have them, the end may send them, and it says nothing about features (own).
abbrev pub goes_short : EndState → Draft → Bool
goes_short e draft = may_be_short (packet_type draft.kind) && (allows_short e && not (list_any is_negotiating draft.options))
