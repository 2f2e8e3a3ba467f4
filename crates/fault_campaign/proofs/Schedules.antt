-- The run of a seed as that of a schedule, from a client and a server whose fields fit.
use Rattle.std.proofs.Common.{◌≡◌, ◌≢◌, refl, sym, ap, subst, ◌∙◌, ℕ, zero, suc, ◌+◌, ◌-◌, ◌*◌, ◌/◌, ◌%◌, ◌^◌, ◌≤◌, ◌<◌, List, length, Result, Ok, Err, bit_xor, arith}
use Rattle.std.proofs.Math.Dec.{lit<}
use Rattle.std.proofs.Math.Nat.{div-le_self}
use Rattle.std.proofs.lemmas.Nat.{mod_below, or_lt}
use Rattle.rand_pcg.specs.Lcg.{Lcg}
use Rattle.ccid_two.specs.Kinds.{Both, at_first, kinds_control}
use Rattle.dccp_endpoint.specs.Drafts.{Fits}
use Rattle.dccp_endpoint.specs.declared.config.Config.{Config}
use Rattle.dccp_states.specs.declared.phase.Role.TheVariants as role
use Rattle.feature_machine.proofs.Listing.{usual_are_lists}
use Rattle.two_ends.specs.Controlled.{ControlledWorld, ControlledStep, begins_with, controlled_after, happens_to, plays}
use Rattle.two_ends.specs.Delivered.{IsDeliveredOnce}
use Rattle.two_ends.specs.Safe.{Safe}
use Rattle.world_events.specs.declared.event.Event.{Event}
use Rattle.world_events.specs.declared.event.Event.TheVariants.{Open}
use Rattle.world_events.specs.declared.event.WorldFault.{WorldFault}
use Rattle.world_events.specs.declared.event.WorldFault.TheVariants as fault
use Rattle.fault_campaign.specs.Draws.{after_two, after_one, generator, initial_number, word}
use Rattle.fault_campaign.specs.Seeded.{RunState, after_event, begun_run, goes_on, goes_on_for, next_event, next_events, opened_run, played, seeded, seeded_events, usual_from}

after-world : (run : RunState) (result : Result (ControlledStep Both) WorldFault) → (after_event run result).world ≡ controlled_after run.world result
after-world run (Ok step) = refl
after-world run (Err why) = refl

played-world : (run : RunState) (event : Event) → (played run event).world ≡ controlled_after run.world (happens_to kinds_control run.world event)
unfolding played
played-world run event = after-world run (happens_to kinds_control run.world event)

rest-plays : (n : ℕ) (run : RunState) → (goes_on_for n run).world ≡ plays kinds_control run.world (next_events n run)
rest-plays zero run = refl
rest-plays (suc n) run =
    rest-plays n (goes_on run)
    ∙ ap (λ (w : ControlledWorld Both). plays kinds_control w (next_events n (goes_on run)))
    (played-world (record run { words = after_two run.words }) (next_event run))

pub schedule : (seed events : ℕ) → (seeded seed events).world ≡ plays kinds_control (begun_run (generator seed)).world (seeded_events seed events)
schedule seed events =
    rest-plays (events - 1) (opened_run seed)
    ∙ ap (λ (w : ControlledWorld Both). plays kinds_control w (next_events (events - 1) (opened_run seed))) (played-world (begun_run (generator seed)) Open)

rest-many : (n : ℕ) (run : RunState) → length (next_events n run) ≡ n
rest-many zero run = refl
rest-many (suc n) run = ap suc (rest-many n (goes_on run))

pub many : (seed events : ℕ) → 1 ≤ events → length (seeded_events seed events) ≡ events
many seed events some = omega (arith, rest-many (events - 1) (opened_run seed))

-- a word is below 2^32
word-fits : (g : Lcg) → word g < 2 ^ 32
unfolding word
word-fits g =
    let mixed = bit_xor (g.state / 2 ^ 18) g.state / 2 ^ 27 % 2 ^ 32 in
    let by = g.state / 2 ^ 59 % 32 in
    let less = div-le_self mixed (2 ^ by) in
    let below = mod_below (bit_xor (g.state / 2 ^ 18) g.state / 2 ^ 27) (2 ^ 32) (lit< tt) in
    or_lt 32 (mixed / 2 ^ by) (mixed * 2 ^ ((32 - by) % 32) % 2 ^ 32) (omega (arith, less, below)) (mod_below (mixed * 2 ^ ((32 - by) % 32)) (2 ^ 32) (lit< tt))

joined-fits : (high low : ℕ) → low < 2 ^ 32 → high % 65536 * 2 ^ 32 + low < 2 ^ 48
joined-fits high low fits = omega arith

pub number-fits : (g : Lcg) → initial_number g < 2 ^ 48
number-fits g = joined-fits (word g) (word (after_one g)) (word-fits (after_one g))

client-fits : (number : ℕ) → number < 2 ^ 48 → Fits (usual_from role.Client number)
client-fits number fits = record { own_port = lit< tt; peer_port = lit< tt; service = lit< tt; iss = fits; lists = usual_are_lists }

server-fits : (number : ℕ) → number < 2 ^ 48 → Fits (usual_from role.Server number)
server-fits number fits = record { own_port = lit< tt; peer_port = lit< tt; service = lit< tt; iss = fits; lists = usual_are_lists }

abbrev AlwaysSafe : Type 0
AlwaysSafe =
    (client server : Config) (for_client for_server : Both) (events : List Event) → client.role ≡ role.Client → server.role ≡ role.Server → Fits client
    → Fits server → Safe kinds_control (plays kinds_control (begins_with kinds_control client server for_client for_server) events)

begun-safe : AlwaysSafe → (g : Lcg) (events : List Event) → Safe kinds_control (plays kinds_control (begun_run g).world events)
unfolding begun_run
begun-safe always g events =
    always (usual_from role.Client (initial_number g)) (usual_from role.Server (initial_number (after_two g))) at_first at_first events refl refl
    (client-fits _ (number-fits g)) (server-fits _ (number-fits (after_two g)))

pub safe : AlwaysSafe → (seed events : ℕ) → Safe kinds_control (seeded seed events).world
safe always seed events =
    subst (Safe kinds_control) (sym (schedule seed events)) (begun-safe always (generator seed) (seeded_events seed events))

abbrev AlwaysOnce : Type 0
AlwaysOnce =
    (client server : Config) (for_client for_server : Both) (events : List Event) → Fits client → Fits server
    → IsDeliveredOnce kinds_control (begins_with kinds_control client server for_client for_server) events

pub once : AlwaysOnce → (seed events : ℕ) → IsDeliveredOnce kinds_control (begun_run (generator seed)).world (seeded_events seed events)
unfolding begun_run
once always seed events =
    let g : Lcg = generator seed in
    always (usual_from role.Client (initial_number g)) (usual_from role.Server (initial_number (after_two g))) at_first at_first
    (seeded_events seed events) (client-fits _ (number-fits g)) (server-fits _ (number-fits (after_two g)))

abbrev pub NeverFar : Type 0
NeverFar =
    (client server : Config) (for_client for_server : Both) (events : List Event) (next : Event) → Fits client → Fits server
    → length (plays kinds_control (begins_with kinds_control client server for_client for_server) events).world.client.frames < 2 ^ 23
    → length (plays kinds_control (begins_with kinds_control client server for_client for_server) events).world.server.frames < 2 ^ 23
    → happens_to kinds_control (plays kinds_control (begins_with kinds_control client server for_client for_server) events) next ≢ Err fault.FarShort

abbrev IsNear : ControlledWorld Both → Event → Type 0
IsNear w next =
    length w.world.client.frames < 2 ^ 23 → length w.world.server.frames < 2 ^ 23 → happens_to kinds_control w next ≢ Err fault.FarShort

begun-near : NeverFar → (g : Lcg) (events : List Event) (next : Event) → IsNear (plays kinds_control (begun_run g).world events) next
unfolding begun_run
begun-near never g events next =
    never (usual_from role.Client (initial_number g)) (usual_from role.Server (initial_number (after_two g))) at_first at_first events next
    (client-fits _ (number-fits g)) (server-fits _ (number-fits (after_two g)))

pub seeded-near : NeverFar → (seed events : ℕ) (next : Event) → IsNear (seeded seed events).world next
seeded-near never seed events next =
    subst (λ (w : ControlledWorld Both). IsNear w next) (sym (schedule seed events)) (begun-near never (generator seed) (seeded_events seed events) next)
