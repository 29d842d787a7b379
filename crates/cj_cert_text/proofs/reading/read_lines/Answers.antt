use Rattle.std.proofs.Common.{Err, Some, arith, ap, sym, subst, ◌+◌, ◌∙◌}
use Rattle.std.specs.Prelude.{◌==◌}
use Rattle.std.specs.List.{slice_split}
use Rattle.cj_cert_text.specs.declared.rank.Rank.{Rank}
use Rattle.cj_cert_text.specs.Lines.{rank_of}
use Rattle.cj_cert_text.specs.Readers.{Gives, plain_draft, plain_line}
use Rattle.cj_cert_text.specs.Reading.{PlainSaid, reads_on}
use Rattle.cj_cert_text.proofs.ReaderLemmas.{begins, ends_well, last_part, line_length, line_refused, line_taken}
use Rattle.cj_cert_text.proofs.reading.read_lines.Goals as goal

pub loop-text-init : goal.loop-text-init
loop-text-init c = record { read = begins c.args.format c.args.bytes.now (plain_draft c.new-draft.result) c.new-draft.ensures; lines = omega arith }

pub returns-in-Err : goal.returns-in-Err
returns-in-Err c =
    sym c.loop-text.invariant.read
    ∙ line_refused c.args.format c.loop-text.number c.loop-text.before (plain_draft c.loop-text.draft) c.loop-text.rest.now c.in-Some.text.now c.in-Some.behind.now c.in-Err.cause
    c.in-Some.ensures.parts c.in-Err.ensures

pub loop-text-preserved : goal.loop-text-preserved
loop-text-preserved c =
    let next = c.loop-text.number + 1 in
    let line = plain_line c.in-Ok.line in
    let parts = slice_split (λ b. b == 10) c.in-Some.behind.now in
    record {
      read =
          ap (λ (r : Rank). reads_on c.args.format next (Some r) (plain_draft c.take.new.self) parts) c.rank.ensures
          ∙ ap (λ (d : PlainSaid). reads_on c.args.format next (Some (rank_of line)) d parts) c.in_ok-take.ensures
          ∙ line_taken c.args.format c.loop-text.number c.loop-text.before (plain_draft c.loop-text.draft) c.loop-text.rest.now c.in-Some.text.now c.in-Some.behind.now line
          c.in-Some.ensures.parts c.in-Ok.ensures
          ∙ c.loop-text.invariant.read;
      lines = omega (arith, c.loop-text.invariant.lines, c.in-Some.ensures.lengths, line_length c.args.format c.loop-text.before c.in-Some.text.now line c.in-Ok.ensures);
    }

pub returns-in-None : goal.returns-in-None
returns-in-None c =
    ends_well c.args.format c.args.bytes.now c.loop-text.number c.loop-text.before (plain_draft c.loop-text.draft) c.loop-text.rest.now c.loop-text.invariant.read c.in_default.ensures.parts
    c.in-None.ensures.none

pub returns-in-Some-end_fault : goal.returns-in-Some-end_fault
returns-in-Some-end_fault c =
    subst (Gives plain_draft (Err c.in-Some-end_fault.fault))
    (sym (last_part c.args.format c.loop-text.number c.loop-text.before (plain_draft c.loop-text.draft) c.loop-text.rest.now c.in_default.ensures.parts) ∙ c.loop-text.invariant.read)
    (c.in-Some-end_fault.ensures.some (plain_draft c.loop-text.draft))
