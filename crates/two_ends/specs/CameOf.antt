-- Where a value came from, by frames, in the words of laws (RFC 4340, section 6.3).
use Rattle.std.specs.Prelude.{◌≡◌, ℕ, List, slice_get, Some}
use Rattle.feature_lists.specs.Lists.{IsFirstShared}
use Rattle.world_events.specs.declared.event.Side.TheVariants.{Client, Server}
use Rattle.two_ends.specs.declared.frames.SentFrame.{SentFrame}
use Rattle.two_ends.specs.Negotiated.{list_said, value_said}
use Rattle.two_ends.specs.Pairs.{FeatureAt, said_by}
use Rattle.two_ends.specs.World.{WorldState, half_of}

-- A frame of the server and one of the client carry a list each, and the value is the first of the server's list that is in the client's.
pub record CameOfLists (w : WorldState) (pair : FeatureAt) (value : ℕ) : Type 0 where
  pub servers_place : ℕ
  pub clients_place : ℕ
  pub servers_frame : SentFrame
  pub clients_frame : SentFrame
  pub servers : List ℕ
  pub clients : List ℕ
  pub server_sent : slice_get (half_of w Server).frames servers_place ≡ Some servers_frame
  pub client_sent : slice_get (half_of w Client).frames clients_place ≡ Some clients_frame
  pub server_said : list_said (said_by pair Server servers_frame.bytes) ≡ Some servers
  pub client_said : list_said (said_by pair Client clients_frame.bytes) ≡ Some clients
  pub is_shared : IsFirstShared servers clients value

-- a frame of the location carries the value
pub record CameOfLocation (w : WorldState) (pair : FeatureAt) (value : ℕ) : Type 0 where
  pub place : ℕ
  pub frame : SentFrame
  pub is_sent : slice_get (half_of w pair.location).frames place ≡ Some frame
  pub is_said : value_said (said_by pair pair.location frame.bytes) ≡ Some value
