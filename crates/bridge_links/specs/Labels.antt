-- IP under the labels of MPLS (RFC 3032, section 2.1). Each label has four bytes, and the lowest bit of the third says that it is the last.
use Rattle.std.specs.Prelude.{ℕ, zero, suc, ◌+◌, ◌%◌, ◌==◌, nat_lt, if◌then◌else◌, List, length, slice_index, Option, None}
use Rattle.bridge_links.specs.Starts.{ip_at_either}

-- IP after this many labels at most, the first at a place; its version says which IP it is
unfoldable pub ip_under_labels : ℕ → ℕ → List ℕ → Option ℕ
ip_under_labels zero place bytes = None
ip_under_labels (suc left) place bytes =
    if nat_lt (length bytes) (place + 4) then None
    else if slice_index bytes (place + 2) % 2 == 1 then ip_at_either (place + 4) bytes
    else ip_under_labels left (place + 4) bytes

-- IP after 16 labels at most (own)
abbrev pub ip_in_labels : ℕ → List ℕ → Option ℕ
ip_in_labels place bytes = ip_under_labels 16 place bytes
