use Rattle.std.proofs.Common.{◌∙◌, sym, Err}
use Rattle.std.proofs.lemmas.Result.{err_from_is_err_and}
use Rattle.cj_oem.specs.Readers.{body_of}
use Rattle.cj_formats.specs.declared.oem_cause.OemCause.TheVariants.{Name}
use Rattle.cj_kvn.specs.declared.text_fault.TextFault.TheVariants.{At}
use Rattle.cj_oem.proofs.FileLemmas.{body_read, body_refused, few_nodes, name_refused, some_segment}
use Rattle.cj_oem.proofs.GrammarLemmas.{gives_accepts, gives_refuses, gives_says}
use Rattle.cj_oem.proofs.reader.read_oem.Goals as goal

pub returns-then-not-is_file_name-clause-value : goal.returns-then-not-is_file_name-clause-value
returns-then-not-is_file_name-clause-value c = name_refused c.args.name.now c.args.bytes.now c.args.as_hermite3 (sym c.is_file_name.ensures ∙ c.if-not-is_file_name.true)

pub returns-in_err-body-clause-value : goal.returns-in_err-body-clause-value
returns-in_err-body-clause-value c =
    let p = err_from_is_err_and c.from_residual.result c.from_residual.ensures.1 in
    rw (p.1, p.2) (body_refused c.args.name.now c.args.bytes.now c.args.as_hermite3 c.in_err-body.field-0.0 (sym c.is_file_name.ensures ∙ c.if-not-is_file_name.false) c.in_err-body.ensures)

pub track_of-requires-clause-some : goal.track_of-requires-clause-some
track_of-requires-clause-some c = some_segment c.args.as_hermite3 c.args.bytes.now c.in_ok-body.body c.in_ok-body.ensures

pub track_of-requires-clause-few : goal.track_of-requires-clause-few
track_of-requires-clause-few c = few_nodes c.args.as_hermite3 c.args.bytes.now c.in_ok-body.body c.requires c.in_ok-body.ensures

pub returns-clause-value : goal.returns-clause-value
returns-clause-value c =
    body_read c.args.name.now c.args.bytes.now c.args.as_hermite3 (body_of c.in_ok-body.body) c.track_of.result
    (sym c.is_file_name.ensures ∙ c.if-not-is_file_name.false) c.in_ok-body.ensures c.track_of.ensures

pub returns-clause-says : goal.returns-clause-says
returns-clause-says c = gives_says c.args.as_hermite3 c.args.name.now c.args.bytes.now c.track_of.result (returns-clause-value c)

pub returns-clause-accepts : goal.returns-clause-accepts
returns-clause-accepts c = gives_accepts c.args.as_hermite3 c.args.name.now c.args.bytes.now c.track_of.result (returns-clause-value c)

pub returns-clause-refuses : goal.returns-clause-refuses
returns-clause-refuses c = gives_refuses c.args.as_hermite3 c.args.name.now c.args.bytes.now c.track_of.result (returns-clause-value c)

pub returns-then-not-is_file_name-clause-accepts : goal.returns-then-not-is_file_name-clause-accepts
returns-then-not-is_file_name-clause-accepts c =
    gives_accepts c.args.as_hermite3 c.args.name.now c.args.bytes.now (Err (At 0 Name)) (returns-then-not-is_file_name-clause-value c)

pub returns-then-not-is_file_name-clause-refuses : goal.returns-then-not-is_file_name-clause-refuses
returns-then-not-is_file_name-clause-refuses c =
    gives_refuses c.args.as_hermite3 c.args.name.now c.args.bytes.now (Err (At 0 Name)) (returns-then-not-is_file_name-clause-value c)

pub returns-in_err-body-clause-accepts : goal.returns-in_err-body-clause-accepts
returns-in_err-body-clause-accepts c = gives_accepts c.args.as_hermite3 c.args.name.now c.args.bytes.now c.from_residual.result (returns-in_err-body-clause-value c)

pub returns-in_err-body-clause-refuses : goal.returns-in_err-body-clause-refuses
returns-in_err-body-clause-refuses c = gives_refuses c.args.as_hermite3 c.args.name.now c.args.bytes.now c.from_residual.result (returns-in_err-body-clause-value c)
