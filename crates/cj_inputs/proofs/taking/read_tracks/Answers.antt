use Rattle.std.proofs.Common.{◌≡◌, ◌∙◌, ◌≤◌, Err, Vec, Global, length, map, ap, refl, arith}
use Rattle.std.proofs.lemmas.Result.{err_from_is_err_and}
use Rattle.cj_io.specs.Faults.{Rose}
use Rattle.cj_io.proofs.FileLemmas.{rose_since}
use Rattle.cj_track.specs.Tracks.{plain_track}
use Rattle.cj_track.specs.declared.track.Track.{Track}
use Rattle.cj_words.specs.Settings.{plain_settings}
use Rattle.cj_inputs.specs.declared.progress.Progress.{Progress}
use Rattle.cj_inputs.specs.declared.reading.InputError.TheVariants.{Failed}
use Rattle.cj_inputs.specs.Readings.{readings_of}
use Rattle.cj_inputs.proofs.EndLemmas.{not_failed, ok_not_err, same_cause}
use Rattle.cj_inputs.proofs.BatchLemmas.{all_taken, begun, begun_fits, reads_fault}
use Rattle.cj_inputs.proofs.taking.read_tracks.Goals as goal

pub loop-alloc-init : goal.loop-alloc-init
loop-alloc-init g c =
    let progress : Progress = record { taken = c.in_ok-taken.taken; batch = c.in_ok-batch.batch } in
    let entries = c.args.entries.now in
    record {
      told = λ told is. begun (plain_settings c.args.settings.now) told entries progress c.in_ok-taken.ensures (c.in_ok-batch.ensures.told told is);
      fits = begun_fits entries progress c.in_ok-taken.ensures c.in_ok-batch.ensures.few c.in_ok-batch.ensures.some;
      fault = c.in_ok-batch.ensures.fault;
      files = c.read_batch.ensures.files;
      count = c.read_batch.ensures.count;
      later = c.read_batch.ensures.later;
    }

pub loop-alloc-preserved : goal.loop-alloc-preserved
loop-alloc-preserved g c =
    let before = c.loop-alloc.invariant in
    let first = g.F.Folder.faults c.args.folder.now in
    let now = g.F.Folder.faults c.go_on.new.folder in
    record {
      told = λ told is. c.in_ok-progress.ensures.told told (before.files ∙ is) (before.told told is);
      fits = c.in_ok-progress.ensures.fits;
      fault = λ stop. rose_since first (g.F.Folder.faults c.loop-alloc.folder) now before.later (c.in_ok-progress.ensures.fault stop);
      files = c.go_on.ensures.files ∙ before.files;
      count = c.go_on.ensures.count ∙ before.count;
      later = omega (arith, before.later, c.go_on.ensures.later);
    }

pub returns-in_err-taken : goal.returns-in_err-taken
returns-in_err-taken g c =
    let p = err_from_is_err_and c.from_residual.result c.from_residual.ensures.1 in
    rw (p.1, p.2)
    (record { fault = not_failed _ tt; told = λ files told. tt; many = tt; frame = tt; nodes = tt; count = refl; files = refl; later = omega arith })

pub returns-in_err-batch : goal.returns-in_err-batch
returns-in_err-batch g c =
    let p = err_from_is_err_and c.from_residual-in_err-batch.result c.from_residual-in_err-batch.ensures.1 in
    rw (p.1, p.2)
    (record {
      fault = not_failed _ tt;
      told = λ files told. tt;
      many = tt;
      frame = tt;
      nodes = tt;
      count = c.read_batch.ensures.count;
      files = c.read_batch.ensures.files;
      later = c.read_batch.ensures.later;
    })

pub returns-in_err-progress : goal.returns-in_err-progress
returns-in_err-progress g c =
    let before = c.loop-alloc.invariant in
    let why = c.in_err-progress.field-0.0 in
    let rose = Rose (g.F.Folder.faults c.args.folder.now) (g.F.Folder.faults c.go_on.new.folder) in
    let risen : why ≡ Failed → rose = λ same.
    let here = before.fault (c.go_on.ensures.stopped (c.in_err-progress.was ∙ ap Err same)) in
    omega (arith, here, c.go_on.ensures.later) in
    let p = err_from_is_err_and c.from_residual-in_err-progress.result c.from_residual-in_err-progress.ensures.1 in
    rw (p.1, p.2)
    (record {
      fault = λ is. risen (same_cause is);
      told = λ files told.
          reads_fault rose (λ (progress : Progress). map plain_track progress.taken.tracks.items)
          (λ (tracks : Vec Track Global). map plain_track tracks.items) why
          (readings_of (plain_settings c.args.settings.now) files c.args.entries.now) risen (c.in_err-progress.ensures.told files (before.files ∙ told) (before.told files told));
      many = tt;
      frame = tt;
      nodes = tt;
      count = c.go_on.ensures.count ∙ before.count;
      files = c.go_on.ensures.files ∙ before.files;
      later = omega (arith, c.go_on.ensures.later, before.later);
    })

pub returns : goal.returns
returns g c =
    let before = c.loop-alloc.invariant in
    let progress = c.loop-alloc.progress in
    let taken = progress.taken in
    let all : length c.args.entries.now ≤ length taken.tracks.items = omega (arith, c.loop-alloc-test.false, c.len.ensures, taken.tracks.ok.0) in
    record {
      fault = ok_not_err;
      told = λ files told. all_taken (plain_settings c.args.settings.now) files c.args.entries.now progress (before.told files told) all;
      many = omega (arith, all, before.fits.few);
      frame = taken.frame;
      nodes = omega (arith, taken.counted, taken.few);
      count = before.count;
      files = before.files;
      later = before.later;
    }
