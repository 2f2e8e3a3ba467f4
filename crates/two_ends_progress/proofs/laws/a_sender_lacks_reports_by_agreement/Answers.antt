use Rattle.dccp_endpoint.specs.End.{value_in}
use Rattle.feature_lists.specs.declared.features.Feature.TheVariants.{Ccid, SendAckVector}
use Rattle.feature_lists.specs.declared.features.Place.TheVariants.{Here, There}
use Rattle.two_ends.specs.World.{half_of}
use Rattle.two_ends_progress.proofs.Plainly.{lacks-parts}
use Rattle.two_ends_progress.proofs.laws.a_sender_lacks_reports_by_agreement.Goals as goal

pub returns : goal.returns
returns c = record {
  opened = λ w side each lacks. lacks.0.are_open each;
  settled = λ w side each feature place lacks. lacks.0.are_settled each feature place;
  ccid = λ w side lacks. (lacks-parts (value_in (half_of w side).end.rows Ccid Here) (value_in (half_of w side).end.rows SendAckVector There) lacks.1).0;
  vectors = λ w side lacks. (lacks-parts (value_in (half_of w side).end.rows Ccid Here) (value_in (half_of w side).end.rows SendAckVector There) lacks.1).1;
}
