use Rattle.std.proofs.Common.{◌≡◌, ℕ, ◌+◌, ◌<◌, [], ◌∷◌, ◌++◌, length, get_or, None, ap, ◌∙◌, arith}
use Rattle.data_dropped.specs.Drops.{drop_byte}
use Rattle.data_dropped.specs.Writing.{bytes_from}
use Rattle.data_dropped.proofs.Runs.{all-front, below_from, bytes_from-run, full-cut, full-front, full_from, more-front}
use Rattle.data_dropped.proofs.writing.put_codes.Goals as goal

-- the option is full
pub returns-then-is_full-clause-bytes : goal.returns-then-is_full-clause-bytes
returns-then-is_full-clause-bytes c =
    let full : length c.loop-place.out.items ≡ 253 = full_from (length c.loop-place.out.items) 253 c.is_full.result c.is_full.ensures.value c.if-is_full.true in
    full-front c.args.codes.now c.loop-place.place c.loop-place.out.items c.loop-place.invariant.joins full

pub returns-then-is_full-clause-whole : goal.returns-then-is_full-clause-whole
returns-then-is_full-clause-whole c =
    let full : length c.loop-place.out.items ≡ 253 = full_from (length c.loop-place.out.items) 253 c.is_full.result c.is_full.ensures.value c.if-is_full.true in
    let run = bytes_from-run c.args.codes.now c.loop-place.place c.run_at-count.result c.run_at-count.ensures.some c.run_at-count.ensures.few
    c.run_at-count.ensures.run in
    full-cut c.args.codes.now c.loop-place.place c.loop-place.out.items c.loop-place.invariant.joins
    (drop_byte (get_or c.args.codes.now c.loop-place.place None) c.run_at-count.result)
    (bytes_from c.args.codes.now (c.loop-place.place + c.run_at-count.result)) run full

-- one byte more
pub loop-place-preserved : goal.loop-place-preserved
loop-place-preserved c =
    let room : length c.loop-place.out.items < 253 =
    below_from (length c.loop-place.out.items) 253 c.is_full.result c.is_full.ensures.value c.if-is_full.false c.loop-place.invariant.fits in
    let run = bytes_from-run c.args.codes.now c.loop-place.place c.run_at-count.result c.run_at-count.ensures.some c.run_at-count.ensures.few
    c.run_at-count.ensures.run in
    let byte : c.push.new.self.items ≡ c.loop-place.out.items ++ drop_byte (get_or c.args.codes.now c.loop-place.place None) c.run_at-count.result ∷ [] =
    c.push.ensures.items ∙ ap (λ (b : ℕ). c.loop-place.out.items ++ b ∷ []) c.drop_byte.ensures in
    record {
      within = c.run_at-count.ensures.within;
      fits = omega (arith, c.push.ensures.len, room);
      joins = more-front c.args.codes.now c.loop-place.place c.loop-place.out.items c.loop-place.invariant.joins
          (drop_byte (get_or c.args.codes.now c.loop-place.place None) c.run_at-count.result)
          (bytes_from c.args.codes.now (c.loop-place.place + c.run_at-count.result)) c.push.new.self.items run byte;
    }

-- every code is written
pub returns-clause-bytes : goal.returns-clause-bytes
returns-clause-bytes c =
    all-front c.args.codes.now c.loop-place.place c.loop-place.out.items c.loop-place.invariant.joins (omega arith) c.loop-place.invariant.fits
