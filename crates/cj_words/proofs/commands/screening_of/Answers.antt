use Rattle.std.proofs.Common.{Bool, Ok, Result, sym, ap, ◌∙◌, arith}
use Rattle.std.specs.Prelude.{◌||◌, codes}
use Rattle.std.specs.Option.{option_copied}
use Rattle.cj_base.specs.declared.limits.Limits.{Limits}
use Rattle.cj_words.specs.Commands.{PlainScreening, screening_of}
use Rattle.cj_words.specs.Options.{given_of, is_given, listed, value_of}
use Rattle.cj_words.specs.Settings.{format_or, number_or, originator_or, plain_settings}
use Rattle.cj_words.specs.declared.option.Opt.TheVariants.{CertVersion, Brief, Large, Primaries}
use Rattle.cj_words.specs.declared.option.UsageFault.{UsageFault}
use Rattle.cj_words.proofs.FormatLemmas.{in_brief}
use Rattle.cj_words.proofs.commands.screening_of.Goals as goal

pub returns : goal.returns
unfolding screening_of
returns c =
    let originator = c.in-Some.ensures ∙ ap (originator_or (codes "CONJ")) c.value_of.ensures in
    let leaves = c.in_ok-unsized_settings.unsized_settings.limits.leaves in
    let cells = c.in-Some-number_or.ensures.value ∙ ap (number_or 1 leaves leaves) c.value_of-2.ensures in
    let given = listed (given_of c.args.words.now) in
    let format =
    c.in-Some-format_or.ensures ∙ ap (format_or c.asks_brief.result) c.value_of-3.ensures
    ∙ ap (λ (brief : Bool). format_or brief (value_of CertVersion given)) c.asks_brief.ensures in
    let some = sym c.in_ok-unsized_settings.ensures.value in
    let all = sym c.in_ok-settings.ensures.value in
    let screening : Bool → Result PlainScreening UsageFault = λ (rtn : Bool). Ok (record {
      settings = plain_settings c.in_ok-settings.settings;
      workers = c.in_ok-workers.workers;
      originator = c.in-Some.originator.now;
      cells = c.in-Some-number_or.cells;
      format = c.in-Some-format_or.format;
      rtn = rtn;
    }) in
    rw (sym c.in_ok-threshold.ensures.value, sym c.in_ok-workers.ensures.value, some, sym originator, sym cells, all, sym format)
    (ap screening c.is_given.ensures)

pub invariant_of-result : goal.invariant_of-result
invariant_of-result c =
    let given = listed (given_of c.args.words.now) in
    let settings = c.in_ok-settings in
    let unsized = c.in_ok-unsized_settings in
    let workers = c.in_ok-workers.ensures in
    let cells = c.in-Some-number_or.ensures in
    let format = c.in-Some-format_or.ensures ∙ ap (λ (brief : Bool). format_or brief (option_copied c.value_of-3.result)) c.asks_brief.ensures in
    record {
      some_workers = workers.some;
      most_workers = workers.most;
      some_cells = cells.some;
      most_cells = omega (arith, cells.most, ap (λ (limits : Limits). limits.leaves) settings.ensures.limits);
      in_brief = λ large. in_brief (is_given Brief given) (is_given Large given || is_given Primaries given) (option_copied c.value_of-3.result) c.in-Some-format_or.format
          (ap (λ (b : Bool). b || is_given Primaries given) (sym unsized.ensures.large ∙ sym settings.ensures.large ∙ large)) format;
    }
