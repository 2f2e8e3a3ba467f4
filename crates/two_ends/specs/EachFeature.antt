-- What holds of each feature at each end, by what kind of feature it is (RFC 4340, sections 6.3.1 and 6.3.2).
use Rattle.std.specs.Prelude.{ℕ, Bool, true, false}
use Rattle.feature_lists.specs.Features.{described, initial_of}
use Rattle.feature_lists.specs.Lists.{reconciled}
use Rattle.feature_lists.specs.declared.features.Feature.{Feature}
use Rattle.feature_machine.specs.declared.stands.Role2.{Role2}
use Rattle.feature_machine.specs.declared.stands.Role2.TheVariants as end
use Rattle.two_ends.specs.FeatureView.{FeatureSide}
use Rattle.two_ends.specs.FeatureAgreement.{SidesAgree, SidesAreGiven, AgreeByLocation, GivenByLocation}

-- of a server-priority feature by the reconciliation of the two lists, of any other by its location
abbrev pub agree_by : Bool → Role2 → FeatureSide → FeatureSide → Type 0
agree_by true location server client = SidesAgree reconciled server client
agree_by false end.Server server client = AgreeByLocation server client
agree_by false end.Client server client = AgreeByLocation client server

-- both values were given: by lists of the two ends for a server-priority feature, by its location for any other
abbrev pub given_by : Bool → ℕ → Role2 → FeatureSide → FeatureSide → Type 0
given_by true initial location server client = SidesAreGiven initial reconciled server client
given_by false initial end.Server server client = GivenByLocation initial server client
given_by false initial end.Client server client = GivenByLocation initial client server

-- the server's side and the client's agree on the feature that is located at this end
abbrev pub AgreesOn : Feature → Role2 → FeatureSide → FeatureSide → Type 0
AgreesOn feature location server client = agree_by (described feature).is_server_priority location server client

-- both values of the feature were given to their rows
abbrev pub IsGivenFor : Feature → Role2 → FeatureSide → FeatureSide → Type 0
IsGivenFor feature location server client =
    given_by (described feature).is_server_priority (initial_of feature) location server client
