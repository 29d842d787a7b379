use Rattle.std.proofs.Common.{◌∙◌, sym}
use Rattle.cj_threads.proofs.DealingLemmas.{both_ok}
use Rattle.cj_words.specs.Settings.{plain_settings}
use Rattle.cj_inputs.proofs.BatchLemmas.{parsed_each}
use Rattle.cj_inputs.proofs.parsing.parse_files.Goals as goal

pub returns : goal.returns
returns g c =
    both_ok c.map_dealt.result _ _ _
    (λ v many each. parsed_each (plain_settings c.args.settings.now) c.args.files.now v.items (sym v.ok.0 ∙ many) (λ i d file lt. (each i d lt).1.met file))
    c.map_dealt.ensures.len c.map_dealt.ensures.each
