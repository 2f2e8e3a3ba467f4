-- What becomes of a frame that was asked for by its index.
use Rattle.std.proofs.Common.{◌≡◌, ◌≤◌, refl, sym, Some, length, slice_get}
use Rattle.std.proofs.lemmas.Bool.{ltb-false}
use Rattle.std.proofs.lemmas.Option.{slice_get_past, slice_get_read}
use Rattle.two_ends.proofs.OfWorlds.Refusing.{handed-so, none-handed}
use Rattle.two_ends.proofs.sides.deliver.Goals as goal

pub returns-in-Some : goal.returns-in-Some
returns-in-Some g c =
    let frames = c.args.frames.now in
    let found : slice_get frames c.args.index ≡ Some c.in-Some.frame.now =
    slice_get_read frames (length frames) c.args.index c.in-Some.frame.now refl c.in-Some.ensures.lookup.3.0 c.in-Some.ensures.lookup.1 in
    let so =
    handed-so g.C.Congestion.control c.args.half.now c.receive_half.new.half (slice_get frames c.args.index) c.in-Some.frame.now
    c.receive_half.result found c.receive_half.ensures.ok c.receive_half.ensures.full c.receive_half.ensures.far_short
    c.receive_half.ensures.there in
    record { ok = so.ok; no_such_frame = so.no_such_frame; full = so.full; far_short = so.far_short; err = c.receive_half.ensures.err }

pub returns-in-None : goal.returns-in-None
returns-in-None g c =
    let frames = c.args.frames.now in
    let past : length frames ≤ c.args.index = ltb-false c.args.index (length frames) (sym c.in-None.ensures.lookup.0) in
    let so =
    none-handed g.C.Congestion.control c.args.half.now (slice_get frames c.args.index)
    (slice_get_past frames c.args.index past) in
    record { ok = so.ok; no_such_frame = so.no_such_frame; full = so.full; far_short = so.far_short; err = refl }
