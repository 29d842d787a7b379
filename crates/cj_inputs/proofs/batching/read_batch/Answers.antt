use Rattle.std.proofs.Common.{◌≡◌, ◌∙◌, ◌+◌, ℕ, List, Ok, Err, Some, Vec, Global, length, take, refl, sym, ap, subst, arith}
use Rattle.std.proofs.lemmas.Result.{IfOk-from_err}
use Rattle.std.specs.List.{AllZip}
use Rattle.cj_io.specs.Faults.{Rose}
use Rattle.cj_io.specs.Files.{bytes_of}
use Rattle.cj_inputs.specs.Batches.{WasRead}
use Rattle.cj_inputs.specs.Readings.{within_bytes}
use Rattle.cj_inputs.proofs.EndLemmas.{none_not_some, same_value, some_not_none}
use Rattle.cj_inputs.proofs.BatchLemmas.{batch_ends, read_more}
use Rattle.cj_io.proofs.FileLemmas.{rose_since}
use Rattle.cj_inputs.proofs.batching.read_batch.Goals as goal
use Rattle.cj_inputs.proofs.batching.read_batch.Goals.{else-loop-entry-test, then-loop-entry-test+then-len-most}
use Rattle.cj_inputs.proofs.batching.read_batch.Goals.{then-len-most-via-then-len-most, then-len-most-via-else-len-most+then-total-ge-MANY_BYTES}

pub loop-entry-preserved : goal.loop-entry-preserved
loop-entry-preserved g c =
    let before = c.loop-entry.invariant in
    let i = c.loop-entry.entry-index in
    let entry = c.entry-item.result in
    record {
      front = λ told is.
          subst (AllZip (WasRead told) (take (i + 1) c.args.entries.now)) (sym c.in_ok-push-in-Ok.ensures.items)
          (read_more told c.args.entries.now i entry c.loop-entry.files.items _ c.loop-entry-test.true c.entry-item.is (before.front told is)
          (record {
            name = c.as_slice-name.ensures;
            bytes = subst (λ (name : List ℕ). within_bytes name (bytes_of told entry.number) ≡ Ok c.in-Ok.bytes.items) c.as_slice-name.ensures (c.in-Ok.ensures.told told (before.files ∙ is));
          }));
      many = omega (arith, c.in_ok-push-in-Ok.ensures.len, before.many);
      size = omega (arith, before.size, c.in_ok-push-in-Ok.ensures.len, c.len-in-Ok.ensures, c.in-Ok.bytes.ok.0, c.in-Ok.ensures.small);
      files = c.read_file.ensures.files ∙ before.files;
      count = c.read_file.ensures.count ∙ before.count;
      later = omega (arith, c.read_file.ensures.later, before.later);
    }

pub returns-in-Err : goal.returns-in-Err
returns-in-Err g c =
    let before = c.loop-entry.invariant in
    let entry = c.entry-item.result in
    let first = g.F.Folder.faults c.args.folder.now in
    let last = g.F.Folder.faults c.loop-entry.folder in
    let now = g.F.Folder.faults c.read_file.new.folder in
    let read = c.in-Err.ensures in
    record {
      fault = λ is. rose_since first last now before.later (read.fault (ap Err (same_value is)));
      told = λ told is.
          batch_ends (Rose last now) (λ (bytes : Vec ℕ Global). bytes.items) told c.args.entries.now c.loop-entry.entry-index entry
          c.as_slice-name.result.now (record { files = c.loop-entry.files; stop = Some c.in-Err.why })
          c.in-Err.why c.loop-entry-test.true c.entry-item.is c.as_slice-name.ensures before.many
          (before.front told is) refl (read.told told (before.files ∙ is));
      few = omega (arith, before.many, c.loop-entry.auto.entry-index-end);
      some = some_not_none;
      count = c.read_file.ensures.count ∙ before.count;
      files = c.read_file.ensures.files ∙ before.files;
      later = omega (arith, c.read_file.ensures.later, before.later);
    }

pub returns-in_err-push-in-Ok : goal.returns-in_err-push-in-Ok
returns-in_err-push-in-Ok g c =
    let before = c.loop-entry.invariant in
    let failed = c.from_residual.ensures.0 in
    record {
      fault = IfOk-from_err c.from_residual.result _ failed;
      told = λ told is. IfOk-from_err c.from_residual.result _ failed;
      few = IfOk-from_err c.from_residual.result _ failed;
      some = IfOk-from_err c.from_residual.result _ failed;
      count = c.read_file.ensures.count ∙ before.count;
      files = c.read_file.ensures.files ∙ before.files;
      later = omega (arith, c.read_file.ensures.later, before.later);
    }

pub loop-entry-init : goal.loop-entry-init
loop-entry-init g c =
    let none = c.new-files.ensures.items in
    record { front = λ told is. rw none tt; many = ap length none; size = omega arith; files = refl; count = refl; later = omega arith }

pub returns : goal.returns
returns g c =
    let before = c.loop-entry.invariant in
    record {
      fault = none_not_some;
      told = λ told is. record {
        front = rw before.many (before.front told is);
        stop = tt;
      };
      few = omega (arith, before.many, c.loop-entry.auto.entry-index-end);
      some = λ none left. elim c.loop-entry-test.branch [
        | else-loop-entry-test w ↦ omega (arith, w.loop-entry-test.false, before.many, left)
        | then-loop-entry-test+then-len-most w ↦ elim w.then-len-most.branch [
          | then-len-most-via-then-len-most w' ↦ omega (arith, c.most_files-most.ensures, w'.if-len-most.true, w.len.ensures, c.loop-entry.files.ok.0)
          | then-len-most-via-else-len-most+then-total-ge-MANY_BYTES w' ↦ omega (arith, w'.if-total-ge-MANY_BYTES.true, before.size)
        ]
      ];
      count = before.count;
      files = before.files;
      later = before.later;
    }
