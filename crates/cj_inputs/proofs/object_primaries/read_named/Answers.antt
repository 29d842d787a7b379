use Rattle.std.proofs.Common.{◌≡◌, ◌∙◌, ◌++◌, ℕ, List, Option, Some, Ok, Err, Result, Vec, Global, Bor, map, option_map, ap, sym, subst}
use Rattle.std.specs.Option.{option_copied}
use Rattle.std.proofs.lemmas.Result.{err_from_is_err_and}
use Rattle.cj_io.specs.Faults.{Rose}
use Rattle.cj_io.specs.Files.{bytes_of}
use Rattle.cj_io.specs.declared.name.Name.{Name}
use Rattle.cj_status.specs.declared.status.Status.{Status}
use Rattle.cj_status.specs.Steps.{◌>>=◌}
use Rattle.cj_track.specs.Tracks.{plain_track}
use Rattle.cj_inputs.specs.ObjectPrimaries.{ids_of, primaries_asked, primaries_of_file}
use Rattle.cj_inputs.specs.ObjectSizes.{first_named}
use Rattle.cj_inputs.specs.Readings.{Reads}
use Rattle.cj_inputs.proofs.EndLemmas.{ok_not_err, same_cause}
use Rattle.cj_inputs.proofs.PrimaryLemmas.{Ids, asked_at, lent}
use Rattle.cj_inputs.proofs.ReadingLemmas.{reads_on}
use Rattle.cj_inputs.proofs.object_primaries.read_named.Goals as goal

abbrev ids_in : Vec (List ℕ) Global → Ids
ids_in ids = ids.items

abbrev named_in : Option (Vec (List ℕ) Global) → Option Ids
named_in named = option_map ids_in named

pub returns-in_err-named : goal.returns-in_err-named
returns-in_err-named g c =
    let rose = Rose (g.F.Folder.faults c.args.folder.now) (g.F.Folder.faults c.named_in.new.folder) in
    let ids = ids_of (map plain_track c.args.tracks.now) ++ ids_of (map plain_track c.args.others.now) in
    let name = c.in-Some.name.now in
    let number = c.in-Some-first_named.number in
    let why = c.in_err-named.field-0.0 in
    let p = err_from_is_err_and c.from_residual-in_err-named.result c.from_residual-in_err-named.ensures.1 in
    rw (p.1, p.2)
    (record {
      fault = λ is. c.in_err-named.ensures.fault (ap Err (same_cause is));
      told = λ files told known.
          let here = subst (λ (ns : List Name). first_named name ns ≡ Some number) known (sym c.in-Some-first_named.ensures.value) in
          subst (λ (due : Result (Option Ids) Status). Reads rose named_in (Err why) due) (sym (ap (λ (file : Option (Bor (List ℕ))). primaries_asked ids files (option_copied file)) c.in-Some.is ∙ asked_at ids files name number here))
          (reads_on rose ids_in named_in why (primaries_of_file ids name (bytes_of files number)) (λ some. Ok (Some some))
          (subst (λ (some : Ids). Reads rose ids_in (Err why) (primaries_of_file some name (bytes_of files number))) (ap (map lent) c.deref.ensures.value ∙ c.in_ok-known.ensures)
          (c.in_err-named.ensures.told files told)));
      count = c.named_in.ensures.count;
      files = c.named_in.ensures.files;
      later = c.named_in.ensures.later;
    })

pub returns : goal.returns
returns g c =
    let ids = ids_of (map plain_track c.args.tracks.now) ++ ids_of (map plain_track c.args.others.now) in
    let name = c.in-Some.name.now in
    let number = c.in-Some-first_named.number in
    record {
      fault = ok_not_err;
      told = λ files told known.
          let here = subst (λ (ns : List Name). first_named name ns ≡ Some number) known (sym c.in-Some-first_named.ensures.value) in
          ap (λ (file : Option (Bor (List ℕ))). primaries_asked ids files (option_copied file)) c.in-Some.is
          ∙ asked_at ids files name number here
          ∙ ap (λ (r : Result Ids Status). r >>= λ some. Ok (Some some))
          (ap (λ (some : Ids). primaries_of_file some name (bytes_of files number)) (sym (ap (map lent) c.deref.ensures.value ∙ c.in_ok-known.ensures))
          ∙ c.in_ok-named.ensures.told files told);
      count = c.named_in.ensures.count;
      files = c.named_in.ensures.files;
      later = c.named_in.ensures.later;
    }
