use Rattle.std.proofs.Common.{◌∙◌, ℕ, List, Option, Err, Vec, Global, map, option_map, ap, arith}
use Rattle.std.proofs.lemmas.Result.{err_from_is_err_and}
use Rattle.cj_io.specs.Faults.{Rose}
use Rattle.cj_io.proofs.FileLemmas.{rose_since}
use Rattle.cj_sizes.specs.Sizes.{Size, sizes_of}
use Rattle.cj_sizes.specs.declared.size_line.SizeLine.{SizeLine}
use Rattle.cj_track.specs.Tracks.{plain_track}
use Rattle.cj_words.specs.Settings.{plain_settings}
use Rattle.cj_inputs.specs.ObjectAttributes.{plain_attributes}
use Rattle.cj_inputs.proofs.EndLemmas.{ok_not_err, same_cause}
use Rattle.cj_inputs.proofs.PrimaryLemmas.{Ids, both_read, named_unread, sizes_unread}
use Rattle.cj_inputs.proofs.object_attributes.read_attributes.Goals as goal

abbrev lines_of : Vec SizeLine Global → List Size
lines_of lines = sizes_of lines.items

abbrev named_in : Option (Vec (List ℕ) Global) → Option Ids
named_in named = option_map (λ (ids : Vec (List ℕ) Global). ids.items) named

pub read_named-requires-clause-count : goal.read_named-requires-clause-count
read_named-requires-clause-count g c = c.read_size_lines.ensures.count ∙ c.requires.count

pub returns-in_err-sizes : goal.returns-in_err-sizes
returns-in_err-sizes g c =
    let rose = Rose (g.F.Folder.faults c.args.folder.now) (g.F.Folder.faults c.read_size_lines.new.folder) in
    let why = c.in_err-sizes.field-0.0 in
    let p = err_from_is_err_and c.from_residual.result c.from_residual.ensures.1 in
    rw (p.1, p.2)
    (record {
      fault = λ is. c.in_err-sizes.ensures.fault (ap Err (same_cause is));
      told = λ files told known.
          sizes_unread rose rose lines_of plain_attributes (map plain_track c.args.tracks.now) (map plain_track c.args.others.now) files (plain_settings c.args.settings.now) why (λ risen. risen)
          (c.in_err-sizes.ensures.told files told known);
      count = c.read_size_lines.ensures.count;
      files = c.read_size_lines.ensures.files;
      later = c.read_size_lines.ensures.later;
    })

pub returns-in_err-primaries : goal.returns-in_err-primaries
returns-in_err-primaries g c =
    let first = g.F.Folder.faults c.args.folder.now in
    let before = g.F.Folder.faults c.read_size_lines.new.folder in
    let now = g.F.Folder.faults c.read_named.new.folder in
    let since = rose_since first before now c.read_size_lines.ensures.later in
    let why = c.in_err-primaries.field-0.0 in
    let p = err_from_is_err_and c.from_residual-in_err-primaries.result c.from_residual-in_err-primaries.ensures.1 in
    rw (p.1, p.2)
    (record {
      fault = λ is. since (c.in_err-primaries.ensures.fault (ap Err (same_cause is)));
      told = λ files told known.
          named_unread (Rose before now) (Rose first now) named_in plain_attributes (map plain_track c.args.tracks.now) (map plain_track c.args.others.now) files (plain_settings c.args.settings.now)
          (lines_of c.in_ok-sizes.sizes) why since (c.in_ok-sizes.ensures.told files told known) (c.in_err-primaries.ensures.told files (c.read_size_lines.ensures.files ∙ told) known);
      count = c.read_named.ensures.count ∙ c.read_size_lines.ensures.count;
      files = c.read_named.ensures.files ∙ c.read_size_lines.ensures.files;
      later = omega (arith, c.read_named.ensures.later, c.read_size_lines.ensures.later);
    })

pub returns : goal.returns
returns g c = record {
  fault = ok_not_err;
  told = λ files told known.
      both_read (map plain_track c.args.tracks.now) (map plain_track c.args.others.now) files (plain_settings c.args.settings.now) (lines_of c.in_ok-sizes.sizes) (named_in c.in_ok-primaries.primaries)
      (c.in_ok-sizes.ensures.told files told known) (c.in_ok-primaries.ensures.told files (c.read_size_lines.ensures.files ∙ told) known);
  count = c.read_named.ensures.count ∙ c.read_size_lines.ensures.count;
  files = c.read_named.ensures.files ∙ c.read_size_lines.ensures.files;
  later = omega (arith, c.read_named.ensures.later, c.read_size_lines.ensures.later);
}
