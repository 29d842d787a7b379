use Rattle.std.proofs.Common.{ap, arith, is_some, ◌++◌, ◌≡◌, ◌≤◌, ◌∙◌, List, subst, sym, ℕ}
use Rattle.std.specs.List.{count_by}
use Rattle.cj_base.specs.Bytes.{is_feed}
use Rattle.cj_case.specs.Problems.{plain_problem}
use Rattle.cj_cdm.specs.Fields.{message_of_fields, stamp_of}
use Rattle.cj_cdm.proofs.MessageLemmas.{message_some}
use Rattle.cj_cdm.specs.Fits.{Fits, HasNames}
use Rattle.cj_cdm.specs.Reading.{reading}
use Rattle.cj_cdm.specs.Texts.{text_of}
use Rattle.cj_cdm.proofs.AddedLemmas.{feeds_in_text}
use Rattle.cj_cdm.proofs.FitsLemmas.{message_fits, some_same}
use Rattle.cj_cdm.proofs.GrammarLemmas.{reading_again}
use Rattle.cj_cdm.proofs.covariance_index.CovarianceIndex.message.Goals as goal

pub returns-in_default-clause-some : goal.returns-in_default-clause-some
returns-in_default-clause-some c =
    ap is_some c.in_default.ensures.value ∙ message_some (plain_problem c.args.self.now) c.args.pair.a c.args.pair.b c.args.tca.micros c.args.miss (stamp_of c.args.stamp)

pub returns-clause-some : goal.returns-clause-some
returns-clause-some c =
    ap is_some c.in-Some.ensures.value ∙ message_some (plain_problem c.args.self.now) c.args.pair.a c.args.pair.b c.args.tca.micros c.args.miss (stamp_of c.args.stamp)

pub returns-clause-again : goal.returns-clause-again
returns-clause-again c = λ m told names.
    let fields = c.in-Some.fields in
    let same : message_of_fields fields ≡ m = some_same (message_of_fields fields) m _ c.in-Some.ensures.value told in
    let fit : Fits m =
    subst Fits same (message_fits fields (omega (arith, c.in-Some.ensures.miss, c.ranges.miss.fits)) (subst HasNames (sym same) names) c.in-Some.ensures.short.0 c.in-Some.ensures.short.1) in
    let text : c.push_message.new.text.items ≡ text_of (message_of_fields fields) =
    c.in_ok-push_message.ensures ∙ ap (λ (v : List ℕ). v ++ text_of (message_of_fields fields)) c.in_ok-text.ensures.items in
    ap reading (text ∙ ap text_of same) ∙ reading_again m fit

pub returns-clause-lines : goal.returns-clause-lines
returns-clause-lines c =
    let message = message_of_fields c.in-Some.fields in
    let text : c.push_message.new.text.items ≡ text_of message = c.in_ok-push_message.ensures ∙ ap (λ (v : List ℕ). v ++ text_of message) c.in_ok-text.ensures.items in
    subst (λ (t : List ℕ). 6 ≤ count_by is_feed t) (sym text) (feeds_in_text message)
