use Rattle.std.proofs.Common.{◌≡◌, ap, ◌∙◌, subst, sym, ℕ, Some, Ok, length, slice_get}
use Rattle.two_ends.specs.Controlled.{ControlledWorld, controlled_after, happens_to}
use Rattle.two_ends.specs.World.{half_of}
use Rattle.world_events.specs.declared.event.Event.TheVariants as event
use Rattle.dccp_states.specs.declared.outcome.Outcome.TheVariants.{Took}
use Rattle.dccp_states.specs.declared.seen.Seen.TheVariants as seen
use Rattle.two_ends_progress.proofs.Leading.{passive-at}
use Rattle.two_ends_progress.proofs.Plainly.{delivered-seen, few-so}
use Rattle.two_ends_progress.proofs.laws.sending_takes_six_events.Goals as goal

pub returns : goal.returns
returns g c =
    let control = g.C.Congestion.control in
    record {
      few = λ w side payload way. way.few;
      passive = λ w side payload way place e there. passive-at way.events place e way.are_passive there;
      taken = λ w side payload through. (through.sent, through.takes_place, through.is_taken);
      handed =
          λ w side payload through.
          let same = ap (controlled_after w) through.takes_place in
          let at = through.place.0 in
          let ends = ap (λ (n : ℕ). seen.Received (Took (Some (at, n)))) through.up_to_the_end in (
            through.frame,
            through.handed,
            at,
            subst (λ (u : ControlledWorld _). slice_get (half_of u.world side).frames (length (half_of w.world side).frames) ≡ Some through.frame) (sym same) through.is_added,
            subst (λ (u : ControlledWorld _). happens_to control u (event.Deliver side (length (half_of w.world side).frames)) ≡ Ok through.handed) (sym same)
                through.arrives,
            delivered-seen through.handed.seen through.place through.is_delivered ∙ ends,
            through.are_the_data,
          );
      counts = few-so;
    }
