use Rattle.std.proofs.Common.{◌≡◌, ◌∙◌, refl, arith, Result, Err, None, Some, Vec, Global, ℕ, sym}
use Rattle.cj_status.specs.declared.status.CertificateCause.{CertificateCause}
use Rattle.cj_status.specs.declared.status.Status.{Status}
use Rattle.cj_status.specs.declared.status.Status.TheVariants as status
use Rattle.std.proofs.lemmas.Result.{err_from_is_err_and}
use Rattle.cj_io.specs.Faults.{Rose}
use Rattle.cj_inputs.specs.CheckInputs.{input_at}
use Rattle.cj_inputs.proofs.EndLemmas.{ok_not_err}
use Rattle.cj_inputs.proofs.StepLemmas.{input_found, comes_between, folder_failed, input_ends}
use Rattle.cj_inputs.proofs.certificates.read_named.Goals as goal

-- an input that is not there is no fault of the folder
no_file : {X P : Type 0} {line : ℕ} {cause : CertificateCause} → ◌≡◌ {A = Result X Status} (Err (status.NotAccepted line cause)) (Err status.ReadFault) → P
no_file is = absurd cc

pub returns-in_err-read_within-in-Some : goal.returns-in_err-read_within-in-Some
returns-in_err-read_within-in-Some g c =
    let name = c.args.name.now in
    let why = c.in_err-read_within-in-Some.field-0.0 in
    let rose = Rose (g.F.Folder.faults c.args.folder.now) (g.F.Folder.faults c.read_within.new.folder) in
    let p = err_from_is_err_and c.from_residual.result c.from_residual.ensures.1 in
    rw (p.1, p.2)
    (record {
      between = comes_between why;
      read = folder_failed why c.in_err-read_within-in-Some.ensures.fault;
      told = λ files told known.
          rw (input_found c.args.most c.args.missing files name c.args.names.now (Some c.in-Some.number) known (sym c.in-Some.is ∙ c.first_named.ensures.value))
          (input_ends rose (λ (bytes : Vec ℕ Global). bytes.items) why (input_at c.args.most c.args.missing files name (Some c.in-Some.number))
          (c.in_err-read_within-in-Some.ensures.told files told));
      small = tt;
      count = c.read_within.ensures.count;
      files = c.read_within.ensures.files;
      later = c.read_within.ensures.later;
    })

pub returns-in_ok-read_within-in-Some : goal.returns-in_ok-read_within-in-Some
returns-in_ok-read_within-in-Some g c = record {
  between = tt;
  read = ok_not_err;
  told = λ files told known.
      input_found c.args.most c.args.missing files c.args.name.now c.args.names.now (Some c.in-Some.number) known (sym c.in-Some.is ∙ c.first_named.ensures.value)
      ∙ c.in_ok-read_within-in-Some.ensures.told files told;
  small = c.in_ok-read_within-in-Some.ensures.small;
  count = c.read_within.ensures.count;
  files = c.read_within.ensures.files;
  later = c.read_within.ensures.later;
}

pub returns-in-None : goal.returns-in-None
returns-in-None g c = record {
  between = tt;
  read = no_file;
  told = λ files told known. input_found c.args.most c.args.missing files c.args.name.now c.args.names.now None known (sym c.in-None.is ∙ c.first_named.ensures.value);
  small = tt;
  count = refl;
  files = refl;
  later = omega arith;
}
