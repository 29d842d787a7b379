use Rattle.std.proofs.Common.{◌≡◌, ◌≤◌, ◌+◌, ◌∙◌, ap, List, ℕ, take, length, length-drop, arith}
use Rattle.std.proofs.Math.Nat.{le_trans}
use Rattle.std.proofs.lemmas.List.{length-take, length-take-le}
use Rattle.std.proofs.lemmas.Result.{err_from_is_err_and}
use Rattle.cj_io.specs.Files.{bytes_of}
use Rattle.cj_io.proofs.FileLemmas.{part_stands, part_fits, next_part, rose_since}
use Rattle.cj_io.proofs.whole.read_whole.Goals as goal

cut_within : (bytes front : List ℕ) (count limit : ℕ) → front ≡ take count bytes → count ≤ limit → length front ≤ limit
cut_within bytes front count limit e h = rw (e, length-take) (omega arith)

pub loop-bytes-preserved : goal.loop-bytes-preserved
loop-bytes-preserved g c =
    let before = c.loop-bytes.invariant in
    let read = c.loop-bytes.read in
    let count = c.in_ok-count.count in
    let buffer = c.deref_mut.result.now in
    let made = c.in_ok-make_room.ensures in
    let room : read ≤ length buffer = omega (arith, ap length c.deref_mut.ensures.value, made.room) in
    let front_len : length (take read buffer) ≡ read = length-take-le read buffer room in
    let within : count ≤ length c.read.new.buf = c.in_ok-count.ensures.within in
    let fits : read + count ≤ c.make_room.new.bytes.len = omega (arith, c.deref_mut.ensures.len, c.read.auto.buf) in
    record {
      within = omega arith;
      room = part_fits _ _ _ _ read count _ front_len within fits;
      told = λ files told.
          part_stands _ _ _ _ read count _ front_len within fits
          ∙ next_part (bytes_of files c.args.file) _ _ read count
          (ap (λ (xs : List ℕ). take read xs) c.deref_mut.ensures.value ∙ made.front ∙ before.told files told)
          (c.in_ok-count.ensures.told files (before.files ∙ told));
      files = c.read.ensures.files ∙ before.files;
      count = c.read.ensures.count ∙ before.count;
      later = omega (arith, c.read.ensures.later, before.later);
    }

pub make_room-requires-clause-within : goal.make_room-requires-clause-within
make_room-requires-clause-within g c = c.loop-bytes.invariant.within

pub overflow_add-read : goal.overflow_add-read
overflow_add-read g c = record { fits = omega (arith, c.from.ensures, c.if-limit-read.false, c.loop-bytes.invariant.within, c.ranges.limit) }

pub loop-bytes-smaller : goal.loop-bytes-smaller
loop-bytes-smaller g c = omega (arith, c.from.ensures)

-- ---- no room

pub returns-in_err-make_room-clause-failed : goal.returns-in_err-make_room-clause-failed
returns-in_err-make_room-clause-failed g c = λ is.
    let p = err_from_is_err_and c.from_residual.result c.from_residual.ensures.1 in
    let err = p.1 in
    let memory = p.2 in
    absurd cc

pub returns-in_err-make_room-clause-too_large : goal.returns-in_err-make_room-clause-too_large
returns-in_err-make_room-clause-too_large g c = λ files told is.
    let p = err_from_is_err_and c.from_residual.result c.from_residual.ensures.1 in
    let err = p.1 in
    let memory = p.2 in
    absurd cc

-- ---- a part that could not be read

pub returns-in_err-count-clause-failed : goal.returns-in_err-count-clause-failed
returns-in_err-count-clause-failed g c = λ is. rose_since _ _ _ c.loop-bytes.invariant.later c.in_err-count.ensures.failed

pub returns-in_err-count-clause-too_large : goal.returns-in_err-count-clause-too_large
returns-in_err-count-clause-too_large g c = λ files told is.
    let p = err_from_is_err_and c.from_residual-in_err-count.result c.from_residual-in_err-count.ensures.1 in
    let err = p.1 in
    let failed = p.2 in
    absurd cc

pub returns-in_err-count-clause-later : goal.returns-in_err-count-clause-later
returns-in_err-count-clause-later g c = le_trans c.loop-bytes.invariant.later c.read.ensures.later

-- ---- all bytes

pub returns-then-count-eq0-clause-within : goal.returns-then-count-eq0-clause-within
returns-then-count-eq0-clause-within g c = cut_within _ c.shrink_to_fit.new.self.items c.loop-bytes.read c.args.limit (c.shrink_to_fit.ensures.items ∙ c.truncate.ensures.items) c.loop-bytes.invariant.within

pub returns-then-count-eq0-clause-later : goal.returns-then-count-eq0-clause-later
returns-then-count-eq0-clause-later g c = le_trans c.loop-bytes.invariant.later c.read.ensures.later

-- ---- too many bytes

pub returns-then-limit-read-clause-later : goal.returns-then-limit-read-clause-later
returns-then-limit-read-clause-later g c = le_trans c.loop-bytes.invariant.later c.read.ensures.later

pub returns-then-limit-read-clause-too_large : goal.returns-then-limit-read-clause-too_large
returns-then-limit-read-clause-too_large g c = λ files told is.
    let came = c.in_ok-count.ensures.told files (c.loop-bytes.invariant.files ∙ told) in
    omega (arith, came.within, c.from.ensures, c.if-limit-read.true, length-drop c.loop-bytes.read (bytes_of files c.args.file))
