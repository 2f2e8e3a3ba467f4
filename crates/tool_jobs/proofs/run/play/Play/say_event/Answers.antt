-- After an event each side has sent one frame more at most, and its line was judged as it was shown.
use Rattle.std.proofs.Common.{rules, ◌≡◌, ◌<◌, sym, subst, Some, Result, Ok, Err}
use Rattle.tool_jobs.specs.Transcript.{SentFew, ShowsEvent, event_shown, run_job, says_event, world_of}
use Rattle.tool_jobs.specs.declared.run.play.Play.{Play}
use Rattle.tool_jobs.proofs.Judging.{judged-else, judged-then}
use Rattle.tool_jobs.proofs.Room.{few-at, shown-few, playable-after}
use Rattle.two_ends.specs.Controlled.{ControlledWorld}
use Rattle.ccid_two.specs.Kinds.{Both}
use Rattle.tool_jobs.proofs.run.play.Play.say_event.Goals as goal
use Rattle.tool_text.specs.Jobs.{Judges, most_events}
use Rattle.tool_text.specs.declared.lines.error.LineError.{LineError}

pub returns-clause-playable : goal.returns-clause-playable
returns-clause-playable c =
    let old = c.args.self.now in
    let made : c.make_world.new.self ≡ record old { world = Some (world_of old) } = search rules in
    let here : world_of old ≡ c.in-Some.world = search rules in
    let few = subst (λ (w : ControlledWorld Both). SentFew w old.events) here (few-at old.client old.server old.world old.events c.requires.few) in
    playable-after old c.make_world.new.self c.show_event.new.world made c.requires
    (shown-few _ c.in-Some.world c.show_event.new.world c.args.event.now _ _ old.events c.in_ok-show_event.ensures few)

pub returns-clause-verdict : goal.returns-clause-verdict
returns-clause-verdict c =
    let old = c.args.self.now in
    let made : c.make_world.new.self ≡ record old { world = Some (world_of old) } = search rules in
    let here : c.in-Some.world ≡ world_of old = search rules in
    let few : old.events < most_events = search rules in
    judged-then old c.args.text.now.items c.show_event.new.text.items c.show_event.new.world c.args.number c.args.event.now few
    c.make_world.new.self made
    (subst
    (λ (w : ControlledWorld Both).
    ShowsEvent (event_shown c.args.number w c.args.event.now) c.args.text.now.items c.show_event.new.text.items c.show_event.new.world (Ok tt))
    here c.in_ok-show_event.ensures)

pub returns-in_err-show_event-clause-verdict : goal.returns-in_err-show_event-clause-verdict
returns-in_err-show_event-clause-verdict c =
    let old = c.args.self.now in
    let next : Play = record c.make_world.new.self { world = Some c.show_event.new.world } in
    let error : LineError = c.in_err-show_event.field-0.0 in
    let here : c.in-Some.world ≡ world_of old = search rules in
    let few : old.events < most_events = search rules in
    let answer : c.from_residual-in_err-show_event.result ≡ Err error = search rules in
    subst
    (λ (r : Result (Unit {0}) LineError). Judges run_job (says_event old c.args.number c.args.event.now) c.args.text.now.items c.show_event.new.text.items next r)
    (sym answer)
    (judged-else old c.args.text.now.items c.show_event.new.text.items c.show_event.new.world c.args.number c.args.event.now few next c.in-Some.world here error
    c.in_err-show_event.ensures)
