use Rattle.std.proofs.Common.{◌∙◌, ap, sym}
use Rattle.std.proofs.lemmas.Result.{err_from_is_err_and}
use Rattle.cj_case.specs.Problems.{plain_problem}
use Rattle.cj_checker.specs.Answers.{failure_of}
use Rattle.cj_outputs.specs.EitherKept.{plain_any}
use Rattle.cj_outputs.proofs.AcceptingLemmas.{accepted_so, refused_so, unreadable}
use Rattle.cj_outputs.proofs.ByPairLemmas.{any_split, names_its_objects}
use Rattle.cj_outputs.proofs.checking.accept.Goals as goal

pub returns-in-Accepted : goal.returns-in-Accepted
returns-in-Accepted g c =
    let case = plain_problem c.args.problem.now in
    let certificate = plain_any c.in_ok-certificate.certificate in
    let read = c.in_ok-certificate.ensures in
    let judged = c.in_ok-judge.ensures in
    let holds = judged.exact.0 c.in-Accepted.is in
    let split = any_split case certificate judged.law holds in
    record {
      between = tt;
      read = λ is. absurd cc;
      told = accepted_so c.args.brief case c.args.bytes.items certificate read.told (sym judged.value ∙ ap failure_of c.in-Accepted.is);
      accepted = record {
        certificate = certificate;
        text = read.only.0;
        fits = read.only.1;
        accepted = holds;
        split = split;
      };
      may = read.may;
      only = read.only;
      holds = holds;
      objects = names_its_objects case certificate holds;
      split = split;
    }

pub returns-in-Refused : goal.returns-in-Refused
returns-in-Refused g c = record {
  between = tt;
  read = λ is. absurd cc;
  told = refused_so c.args.brief (plain_problem c.args.problem.now) c.args.bytes.items (plain_any c.in_ok-certificate.certificate) _ c.in_ok-certificate.ensures.told
      (sym c.in_ok-judge.ensures.value ∙ ap failure_of c.in-Refused.is);
  accepted = tt;
  may = tt;
  only = tt;
  holds = tt;
  objects = tt;
  split = tt;
}

pub returns-in_err-certificate : goal.returns-in_err-certificate
returns-in_err-certificate g c =
    let read = c.in_err-certificate.ensures in
    let p = err_from_is_err_and c.from_residual.result c.from_residual.ensures.1 in
    rw (p.1, p.2) (record {
      between = read.between;
      read = read.read;
      told = unreadable c.args.brief (plain_problem c.args.problem.now) c.args.bytes.items c.in_err-certificate.field-0.0 read.told;
      accepted = tt;
      may = tt;
      only = tt;
      holds = tt;
      objects = tt;
      split = tt;
    })

pub returns-in_err-judge : goal.returns-in_err-judge
returns-in_err-judge g c =
    let p = err_from_is_err_and c.from_residual-in_err-judge.result c.from_residual-in_err-judge.ensures.1 in
    rw (p.1, p.2) (record {
      between = tt;
      read = λ is. absurd cc;
      told = tt;
      accepted = tt;
      may = tt;
      only = tt;
      holds = tt;
      objects = tt;
      split = tt;
    })
