use Rattle.std.proofs.Common.{◌++◌, ap, ◌∙◌}
use Rattle.std.specs.Prelude.{codes}
use Rattle.std.proofs.lemmas.Result.{on_ok_weaker}
use Rattle.cj_epoch.specs.Written.{epoch_of}
use Rattle.cj_kvn.specs.Entries.{line}
use Rattle.cj_cdm.proofs.TextLemmas.{joined_ok}
use Rattle.cj_cdm.proofs.printing.covariance.push_comment.Goals as goal

pub returns : goal.returns
returns c =
    let was = c.extend_from_slice.new.self.items in
    let epoch = on_ok_weaker c.push_line.result (λ e. e ∙ ap (λ v. was ++ line v) c.epoch_text.ensures.exact) c.push_line.ensures.appended in
    joined_ok c.push_line.result c.args.text.now.items was c.push_line.new.text.items (codes "COMMENT COVARIANCE EPOCH ") (line (epoch_of c.args.epoch.micros))
    c.in_ok-extend_from_slice.ensures.items epoch
