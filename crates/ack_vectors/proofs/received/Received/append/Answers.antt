use Rattle.std.proofs.Common.{◌≡◌, ◌+◌, ◌<◌, ◌^◌, ◌++◌, ◌∙◌, ap, sym, length, take, nat_le, arith, rules}
use Rattle.std.proofs.lemmas.Bool.{ltb-true}
use Rattle.seq_circle.specs.Circle.{distance}
use Rattle.run_list.proofs.StretchFacts.{laid-stretches}
use Rattle.run_list.specs.Runs.{AreLaid}
use Rattle.ack_vectors.specs.ByRuns.{bytes_by_runs}
use Rattle.ack_vectors.proofs.ByRuns.{bytes_by_runs-all}
use Rattle.ack_vectors.proofs.received.Received.append.Goals as goal

pub put_runs-requires : goal.put_runs-requires
put_runs-requires g c =
    let sound = c.floor-floor.ensures.sound in
    let laid : AreLaid c.floor-floor.result 2048 c.walk.result = rw (c.floor-floor.ensures.value, c.walk.ensures)
    (laid-stretches c.self.inside.set.floor 2048 c.self.inside.set.numbers sound.floor_fits (omega arith) sound.falling).0 in
    (search rules, (c.requires.within, (c.requires.begun, laid)))

pub returns-clause-bytes : goal.returns-clause-bytes
returns-clause-bytes g c =
    let sound = c.floor-floor.ensures.sound in
    let ack : c.args.ack < 2 ^ 48 = search rules in
    let near : distance c.self.inside.set.floor c.args.ack < 2 ^ 47 =
    rw c.floor-floor.ensures.value at (ltb-true (distance c.floor-floor.result c.args.ack) (2 ^ 47) (sym c.if-not-is_from.ensures.value)) in
    let floor : c.floor-floor.result ≡ c.self.inside.set.floor = c.floor-floor.ensures.value in
    let count : c.distance-count.result ≡ distance c.self.inside.set.floor c.args.ack =
    c.distance-count.ensures.value ∙ ap (λ f. distance f c.args.ack) floor in
    rw (← c.self.view_is)
    (c.put_runs.ensures.bytes
    ∙ ap (λ f. take c.args.room (c.args.out.now.items ++ bytes_by_runs f (c.distance-count.result + 1) c.walk.result)) floor
    ∙ ap (λ d. take c.args.room (c.args.out.now.items ++ bytes_by_runs c.self.inside.set.floor (d + 1) c.walk.result)) count
    ∙ ap (λ runs. take c.args.room (c.args.out.now.items ++ bytes_by_runs c.self.inside.set.floor (distance c.self.inside.set.floor c.args.ack + 1) runs)) c.walk.ensures
    ∙ ap (λ xs. take c.args.room (c.args.out.now.items ++ xs)) (bytes_by_runs-all c.self.inside.set c.args.ack sound ack near))

pub returns-clause-whole : goal.returns-clause-whole
returns-clause-whole g c =
    let sound = c.floor-floor.ensures.sound in
    let ack : c.args.ack < 2 ^ 48 = search rules in
    let near : distance c.self.inside.set.floor c.args.ack < 2 ^ 47 =
    rw c.floor-floor.ensures.value at (ltb-true (distance c.floor-floor.result c.args.ack) (2 ^ 47) (sym c.if-not-is_from.ensures.value)) in
    rw (← c.self.view_is)
    (rw (c.distance-count.ensures.value, c.floor-floor.ensures.value, c.walk.ensures) at c.put_runs.ensures.whole
    ∙ ap (λ xs. nat_le (length (c.args.out.now.items ++ xs)) c.args.room) (bytes_by_runs-all c.self.inside.set c.args.ack sound ack near))
