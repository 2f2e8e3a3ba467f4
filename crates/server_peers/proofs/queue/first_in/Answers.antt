use Rattle.std.proofs.Common.{◌≡◌, ◌≤◌, ◌∙◌, Option, Some, ap, arith, inl, inr, length, refl, slice_get, sym, ℕ}
use Rattle.std.proofs.lemmas.Bool.{cases_lt, false≢true}
use Rattle.std.proofs.lemmas.List.{length-map}
use Rattle.std.proofs.lemmas.Option.{slice_get-get_or, slice_get-map, slice_get_past}
use Rattle.std.specs.Option.{option_map}
use Rattle.server_peers.specs.Queues.{ticket_at, tickets_at}
use Rattle.server_peers.proofs.Classes.{first_at, if_of_class}
use Rattle.server_peers.proofs.queue.first_in.Goals as goal

pub returns-in-Some : goal.returns-in-Some
returns-in-Some c =
    let there : slice_get c.args.tickets.now.items c.front-at.result ≡ Some c.in-Some.ticket.now =
    slice_get-get_or c.args.tickets.now.items c.front-at.result c.in-Some.ticket.now
    (omega (arith, c.in-Some.ensures.variant.0 refl, c.args.tickets.now.ok.0))
    ∙ ap Some (sym c.in-Some.ensures.lookup)
    in
    c.of_class.ensures
    ∙ sym
    (first_at c.args.class (tickets_at c.args.tickets.now.items) c.front-at.result c.requires c.front-at.ensures.begins
    ∙ ap (if_of_class c.args.class) (slice_get-map ticket_at c.args.tickets.now.items c.front-at.result ∙ ap (λ (found : Option ℕ). option_map ticket_at found) there))

pub returns-in-None : goal.returns-in-None
returns-in-None c =
    let past : length c.args.tickets.now.items ≤ c.front-at.result =
    elim (cases_lt c.front-at.result (length c.args.tickets.now.items)) [
      | inl before ↦ absurd (false≢true (c.in-None.ensures.variant.1 (omega (arith, before, c.args.tickets.now.ok.0))))
      | inr from ↦ from
    ]
    in
    sym
    (first_at c.args.class (tickets_at c.args.tickets.now.items) c.front-at.result c.requires c.front-at.ensures.begins
    ∙ ap (if_of_class c.args.class)
    (slice_get_past (tickets_at c.args.tickets.now.items) c.front-at.result (omega (arith, past, length-map c.args.tickets.now.items ticket_at))))
