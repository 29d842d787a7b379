use Rattle.std.proofs.Common.{◌≡◌, ◌∙◌, ◌++◌, ◌-◌, ◌<◌, ◌≤◌, ap, sym, refl, append_assoc, get_or, length, ℕ, List, Option, Some, None, Result, Ok, Err, Bor}
use Rattle.std.specs.Prelude.{IfSome, OnOk, MatchOption, slice_get}
use Rattle.std.specs.List.{HoldsAt}
use Rattle.std.specs.Option.{option_copied}
use Rattle.std.proofs.lemmas.Option.{slice_get_past, slice_get_read}
use Rattle.cj_track.specs.Tracks.{plain_track}
use Rattle.cj_report.specs.Report.{name_lines, size_line}
use Rattle.cj_report.proofs.objects.push_sized.Goals as goal

copied : (xs : List ℕ) (k : ℕ) (r : Option (Bor ℕ)) → IfSome r (λ x. x.now ≡ get_or xs k x.now)
    → MatchOption r (length xs ≤ k) (λ x. (k < length xs) × HoldsAt (λ y. x.now ≡ y) xs k) → option_copied r ≡ slice_get xs k
copied xs k None is past = sym (slice_get_past xs k past)
copied xs k (Some x) is within = sym (slice_get_read xs (length xs) k x.now refl within.0 is)

on_ok : {T E P Q : Type 0} (r : Result T E) → (P → Q) → OnOk r P → OnOk r Q
on_ok (Ok x) then here = then here
on_ok (Err e) then here = tt

pub returns : goal.returns
returns c =
    let text = c.args.text.now.items in
    let names = name_lines c.args.number (plain_track c.args.track.now) in
    let found = c.get.ensures.lookup in
    let size = c.copied.ensures ∙ copied c.args.sizes.now (c.args.number - 1) c.get.result found.1 found.3 in
    on_ok c.push_size.result
    (λ e. e ∙ ap (λ (t : List ℕ). t ++ size_line c.copied.result) c.in_ok-push_names.ensures ∙ append_assoc text names (size_line c.copied.result)
    ∙ ap (λ (s : Option ℕ). text ++ (names ++ size_line s)) size)
    c.push_size.ensures
