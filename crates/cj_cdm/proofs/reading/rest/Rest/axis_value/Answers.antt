use Rattle.std.proofs.Common.{◌++◌}
use Rattle.std.specs.Prelude.{codes}
use Rattle.std.proofs.lemmas.Result.{err_from_is_err_and}
use Rattle.cj_cdm.specs.Read.{plain_rest}
use Rattle.cj_cdm.specs.Values.{axis_value_said}
use Rattle.cj_cdm.proofs.ReaderLemmas.{line_failed, line_same}
use Rattle.cj_cdm.proofs.reading.rest.Rest.axis_value.Goals as goal

pub returns-in_err-value : goal.returns-in_err-value
returns-in_err-value c =
    let p = err_from_is_err_and c.from_residual.result c.from_residual.ensures.1 in
    rw (p.1, p.2) (line_failed (c.args.key.now ++ codes " = ") (axis_value_said c.args.unit.now) (plain_rest c.args.self.now) c.in_err-value.field-0.0 c.in_err-value.ensures.value)

pub returns : goal.returns
returns c =
    line_same (c.args.key.now ++ codes " = ") (axis_value_said c.args.unit.now) (plain_rest c.args.self.now) c.in_ok-value.value.now c.axis_value.result c.taken.result c.taken.new.self
    c.in_ok-value.ensures.value c.axis_value.ensures c.taken.ensures
