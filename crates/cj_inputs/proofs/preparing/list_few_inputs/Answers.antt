use Rattle.std.proofs.Common.{arith, ◌≡◌, ◌≤◌, length}
use Rattle.std.proofs.lemmas.Result.{err_from_is_err_and}
use Rattle.cj_inputs.proofs.StepLemmas.{few_enough, too_many}
use Rattle.cj_inputs.proofs.preparing.list_few_inputs.Goals as goal

pub overflow_cast-len : goal.overflow_cast-len
overflow_cast-len c = omega (arith, c.len-then-len-limits.ensures, c.in_ok-entries.ensures.few, c.requires)

pub returns-in_err-entries : goal.returns-in_err-entries
returns-in_err-entries c =
    let p = err_from_is_err_and c.from_residual.result c.from_residual.ensures.1 in
    rw (p.1, p.2) (record { between = tt; told = tt; few = tt; numbers = tt })

pub returns-then-len-limits : goal.returns-then-len-limits
returns-then-len-limits c =
    let entries = c.in_ok-entries.entries.items in
    let same : c.len-then-len-limits.result ≡ length entries = omega (arith, c.len-then-len-limits.ensures, c.in_ok-entries.entries.ok.0) in
    rw (c.too_many_objects.ensures, same)
    (record {
      between = tt;
      told = too_many c.args.limits.objects entries _ c.in_ok-entries.ensures.value (omega (arith, c.len.ensures, c.in_ok-entries.entries.ok.0, c.if-len-limits.true));
      few = tt;
      numbers = tt;
    })

pub returns : goal.returns
returns c =
    let entries = c.in_ok-entries.entries.items in
    let limits = c.args.limits in
    let few : length entries ≤ limits.objects = omega (arith, c.len.ensures, c.if-len-limits.false, c.in_ok-entries.entries.ok.0) in
    record { between = tt; told = few_enough c.args.limits.objects entries _ c.in_ok-entries.ensures.value few; few = omega (arith, few, limits.most_objects); numbers = c.in_ok-entries.ensures.numbers }
