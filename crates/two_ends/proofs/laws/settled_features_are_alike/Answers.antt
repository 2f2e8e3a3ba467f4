use Rattle.world_events.specs.declared.event.Side.TheVariants.{Client, Server}
use Rattle.two_ends.proofs.OfWorlds.Consequences.{alike, list-sent, first-entry, first-shared, told-last}
use Rattle.two_ends.proofs.laws.settled_features_are_alike.Goals as goal

pub returns-clause-clients : goal.returns-clause-clients
returns-clause-clients g c = λ w safe feature own theirs. alike w.world safe.agree (record { feature = feature; location = Client }) (own, theirs) Client Server

pub returns-clause-servers : goal.returns-clause-servers
returns-clause-servers g c = λ w safe feature own theirs. alike w.world safe.agree (record { feature = feature; location = Server }) (own, theirs) Client Server

pub returns-clause-listed : goal.returns-clause-listed
returns-clause-listed g c = λ w safe pair side settled priority negotiated. list-sent w.world safe.agree pair settled side priority negotiated

pub returns-clause-first : goal.returns-clause-first
returns-clause-first g c = λ w safe pair side value later clients settled priority servers_last clients_last shared.
    first-entry w.world safe.agree pair settled side value later clients priority servers_last clients_last shared

pub returns-clause-shared : goal.returns-clause-shared
returns-clause-shared g c = λ w safe pair side value servers clients settled priority servers_last clients_last shared.
    first-shared w.world safe.agree pair settled side value servers clients priority servers_last clients_last shared

pub returns-clause-told : goal.returns-clause-told
returns-clause-told g c = λ w safe pair side value settled located negotiated last. told-last w.world safe.agree pair settled side value located negotiated last
