use Rattle.std.proofs.Common.{arith, ◌≡◌, ◌∙◌, ◌≤◌, ap, length}
use Rattle.std.proofs.lemmas.Result.{err_from_is_err_and}
use Rattle.cj_inputs.specs.InputFiles.{PlainApart}
use Rattle.cj_inputs.specs.Updates.{base_of}
use Rattle.cj_inputs.proofs.StepLemmas.{few_enough, too_many}
use Rattle.cj_inputs.proofs.preparing_updates.list_few_base.Goals as goal

pub overflow_cast-len : goal.overflow_cast-len
overflow_cast-len c = omega (arith, c.len-then-len-settings.ensures, c.in_ok-entries.ensures.few, c.requires)

pub returns-in_err-entries : goal.returns-in_err-entries
returns-in_err-entries c =
    let p = err_from_is_err_and c.from_residual.result c.from_residual.ensures.1 in
    rw (p.1, p.2) (record { between = tt; told = tt; few = tt; numbers = tt })

pub returns-then-len-settings : goal.returns-then-len-settings
returns-then-len-settings c =
    let entries = c.in_ok-entries.entries.items in
    let listed = c.in_ok-entries.ensures.value ∙ ap (λ (apart : PlainApart). base_of c.args.settings.now.suffix.now c.args.update.now apart c.args.names.now) c.of.ensures in
    let same : c.len-then-len-settings.result ≡ length entries = omega (arith, c.len-then-len-settings.ensures, c.in_ok-entries.entries.ok.0) in
    rw (c.too_many_objects.ensures, same)
    (record {
      between = tt;
      told = too_many c.args.settings.now.limits.objects entries _ listed (omega (arith, c.len.ensures, c.in_ok-entries.entries.ok.0, c.if-len-settings.true));
      few = tt;
      numbers = tt;
    })

pub returns : goal.returns
returns c =
    let entries = c.in_ok-entries.entries.items in
    let listed = c.in_ok-entries.ensures.value ∙ ap (λ (apart : PlainApart). base_of c.args.settings.now.suffix.now c.args.update.now apart c.args.names.now) c.of.ensures in
    let limits = c.args.settings.now.limits in
    let few : length entries ≤ limits.objects = omega (arith, c.len.ensures, c.if-len-settings.false, c.in_ok-entries.entries.ok.0) in
    record { between = tt; told = few_enough c.args.settings.now.limits.objects entries _ listed few; few = omega (arith, few, limits.most_objects); numbers = c.in_ok-entries.ensures.numbers }
