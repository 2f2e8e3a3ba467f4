-- Rows of how C learns that a client begins anew, computed from the definitions. The numbers of outcomes and causes are those of the header
-- for C; the Reset is one of a client in REQUEST, and acknowledges 2000; all was worked out by hand.
use Rattle.std.proofs.Common.{◌≡◌, refl, ℕ, List, true, false, [], ◌∷◌, Some, None}
use Rattle.dccp_c.specs.LastSyncs.{client_began_anew, sync_kept, sync_noted}
use Rattle.dccp_c.specs.Outcomes.{told_quiet}
use Rattle.dccp_c.specs.declared.told.Told.{Told}

-- what C is told of a datagram: taken, dropped since its Sync was bad, left out, answered with a Sync
abbrev taken : Told
taken = told_quiet

abbrev dropped : Told
dropped = record told_quiet { kind = 2; cause = 11 }

abbrev left_out : Told
left_out = record told_quiet { kind = 2; cause = 12 }

abbrev synced : Told
synced = record told_quiet { kind = 3; number = 1001 }

-- a Reset of number 1001 with this code, which acknowledges 2000
abbrev reset : ℕ → List ℕ
reset code =
    156 ∷ 64 ∷ 19 ∷ 137 ∷ 7 ∷ 0 ∷ 22 ∷ 59 ∷ 15 ∷ 0 ∷ 0 ∷ 0 ∷ 0 ∷ 0 ∷ 3 ∷ 233 ∷ 0 ∷ 0 ∷ 0 ∷ 0 ∷ 0 ∷ 0 ∷ 7 ∷ 208 ∷ code ∷ 2 ∷ 0 ∷ 0 ∷ []

-- a Request of number 1000
abbrev request : List ℕ
request = 156 ∷ 64 ∷ 19 ∷ 137 ∷ 5 ∷ 0 ∷ 49 ∷ 236 ∷ 1 ∷ 0 ∷ 0 ∷ 0 ∷ 0 ∷ 0 ∷ 3 ∷ 232 ∷ 0 ∷ 0 ∷ 0 ∷ 42 ∷ []

-- A Packet Error refuses the very Sync that was the last, and the end has answered it with a Sync, or left it out.
when_a_client_begins_anew :
    (client_began_anew (Some 2000) (reset 4) synced ≡ true)
    × (client_began_anew (Some 2000) (reset 4) left_out ≡ true)
    × (client_began_anew (Some 2000) (reset 4) dropped ≡ false)
    × (client_began_anew (Some 2000) (reset 4) taken ≡ false)
    × (client_began_anew (Some 2001) (reset 4) synced ≡ false)
    × (client_began_anew (Some 1999) (reset 4) synced ≡ false)
    × (client_began_anew None (reset 4) synced ≡ false)
    × (client_began_anew (Some 2000) (reset 3) synced ≡ false)
    × (client_began_anew (Some 2000) (reset 5) synced ≡ false)
    × (client_began_anew (Some 2000) request synced ≡ false)
when_a_client_begins_anew = (refl, refl, refl, refl, refl, refl, refl, refl, refl, refl)

-- The last Sync is the one that answers a datagram, except where that refuses a Sync, whichever it was.
which_sync_was_the_last :
    (sync_noted None request synced 2002 ≡ Some 2002)
    × (sync_noted (Some 2000) request synced 2002 ≡ Some 2002)
    × (sync_noted (Some 2000) (reset 4) synced 2002 ≡ Some 2000)
    × (sync_noted (Some 1990) (reset 4) synced 2002 ≡ Some 1990)
    × (sync_noted (Some 2000) (reset 3) synced 2002 ≡ Some 2002)
    × (sync_noted (Some 2000) request left_out 2002 ≡ Some 2000)
    × (sync_noted (Some 2000) request taken 2002 ≡ Some 2000)
    × (sync_kept (record { number = 2000; is_there = true }) ≡ Some 2000)
    × (sync_kept (record { number = 2000; is_there = false }) ≡ None)
which_sync_was_the_last = (refl, refl, refl, refl, refl, refl, refl, refl, refl)
