-- What the words of a command line ask for.
use Rattle.std.specs.Prelude.{ℕ, ◌-◌, ◌^◌, Bool, true, false, not, ◌&&◌, ◌==◌, nat_le, length, if◌then◌else◌, List, Option, Some, None, Result, Ok, Err, codes, unwrap_or}
use Rattle.std.specs.Borrow.{Bor}
use Rattle.std.specs.List.{list_all}
use Rattle.std.specs.Option.{option_and_then, option_map, option_copied}
use Rattle.std.specs.Char.{is_ascii_digit}
use Rattle.std.specs.Str.{bytes_eq}
use Rattle.std.specs.Str.Parse.{digits_value}
use Rattle.cj_base.specs.Limits.{PlainLimits, plain_limits}
use Rattle.cj_formats.specs.declared.cert_format.CertFormat.{CertFormat}
use Rattle.cj_formats.specs.declared.cert_format.CertFormat.TheVariants.{Full, Brief}
use Rattle.cj_formats.specs.declared.cert_version.CertVersion.{CertVersion}
use Rattle.cj_formats.specs.declared.cert_version.CertVersion.TheVariants.{One}
use Rattle.cj_formats.specs.Versions.{version_of_number}
use Rattle.cj_kvn.specs.Originators.{is_originator}
use Rattle.cj_base.specs.PlainTicks.{micros_of}
use Rattle.cj_epoch.specs.Reading.{reading_of}
use Rattle.cj_epoch.specs.declared.fault.EpochFault.{EpochFault}
use Rattle.cj_words.specs.declared.option.Opt.{Opt}
use Rattle.cj_words.specs.declared.option.UsageFault.{UsageFault}
use Rattle.cj_words.specs.declared.option.UsageFault.TheVariants.{Value}
use Rattle.cj_words.specs.declared.option.Opt.TheVariants.{Threshold, From, To, Suffix, AsHermite3, Sizes, Primaries, Coverage, MustCover, Large}
use Rattle.cj_words.specs.declared.settings.Settings.{Settings}
use Rattle.cj_words.specs.Limits.{limits_of}
use Rattle.cj_words.specs.Options.{Given, value_of, is_given}

-- settings: the threshold in metres, the ends of the window in ticks, where they are given, what the names of the files that are taken
-- end with, whether each file is taken as if it declared the cubic, the names of the files of sizes and of primaries, where they are given,
-- whether the report tells which ticks each object covers, whether each has to cover the window, whether a run may take a whole sky, and how much it may take
pub record PlainSettings : Type 0 where
  pub threshold : ℕ
  pub from : Option ℕ
  pub to : Option ℕ
  pub suffix : List ℕ
  pub as_hermite3 : Bool
  pub sizes : Option (List ℕ)
  pub primaries : Option (List ℕ)
  pub coverage : Bool
  pub must_cover : Bool
  pub large : Bool
  pub limits : PlainLimits

-- the bytes of a text that is lent
abbrev pub lent_bytes : Bor (List ℕ) → List ℕ
lent_bytes text = text.now

-- what settings say
abbrev pub plain_settings : Settings → PlainSettings
plain_settings s = record {
  threshold = s.threshold;
  from = option_map micros_of s.from;
  to = option_map micros_of s.to;
  suffix = s.suffix.now;
  as_hermite3 = s.as_hermite3;
  sizes = option_copied s.sizes;
  primaries = option_copied s.primaries;
  coverage = s.coverage;
  must_cover = s.must_cover;
  large = s.large;
  limits = plain_limits s.limits;
}

-- what is read, seen by `view`
abbrev pub said : {A B : Type 0} → (A → B) → Result A UsageFault → Result B UsageFault
said view (Ok x) = Ok (view x)
said view (Err fault) = Err fault

-- one to twenty decimal digits
abbrev pub is_number : List ℕ → Bool
is_number text = nat_le 1 (length text) && (nat_le (length text) 20 && list_all is_ascii_digit text)

-- the number that a text says, in its range
abbrev pub number_in : ℕ → ℕ → List ℕ → Option ℕ
number_in low high text =
    if is_number text && (nat_le low (digits_value 10 text) && nat_le (digits_value 10 text) high) then Some (digits_value 10 text) else None

-- the same of an option that may be left out
abbrev pub number_or : ℕ → ℕ → ℕ → Option (List ℕ) → Option ℕ
number_or low high left_out None = Some left_out
number_or low high left_out (Some text) = number_in low high text

-- the version that the number of an option tells, which may be left out
abbrev pub version_or : CertVersion → Option (List ℕ) → Option CertVersion
version_or left_out None = Some left_out
version_or left_out (Some text) = option_and_then version_of_number (number_in 0 (2 ^ 64 - 1) text)

-- How a certificate is written: in the version that an option tells, the first one where it is left out; in brief where that is asked, and
-- then no version may be told beside it
abbrev pub format_or : Bool → Option (List ℕ) → Option CertFormat
format_or false value = option_map Full (version_or One value)
format_or true None = Some Brief
format_or true (Some text) = None

-- an end of the window that may be left out, as a tick
abbrev pub epoch_or : Option (List ℕ) → Option (Option ℕ)
epoch_or None = Some None
epoch_or (Some text) = tick_in (reading_of text)
  where
    tick_in : Result ℕ EpochFault → Option (Option ℕ)
    tick_in (Ok tick) = Some (Some tick)
    tick_in (Err fault) = None

-- the last end is not before the first, where both are given
abbrev pub are_in_order : Option ℕ → Option ℕ → Bool
are_in_order None to = true
are_in_order (Some from) None = true
are_in_order (Some from) (Some to) = nat_le from to

-- the last end, where it is not before the first
abbrev pub not_before : Option ℕ → Option (Option ℕ) → Option (Option ℕ)
not_before from None = None
not_before from (Some to) = if are_in_order from to then Some to else None

-- a byte that may stand in the name of a file: printable, no blank and no /
abbrev pub is_file_byte : ℕ → Bool
is_file_byte b = nat_le 33 b && (nat_le b 126 && not (b == 47))

-- one to so many of them
abbrev pub is_file_text : ℕ → List ℕ → Bool
is_file_text longest text = nat_le 1 (length text) && (nat_le (length text) longest && list_all is_file_byte text)

-- such a text, which may be left out
abbrev pub file_text_or : ℕ → List ℕ → Option (List ℕ) → Option (List ℕ)
file_text_or longest left_out None = Some left_out
file_text_or longest left_out (Some text) = if is_file_text longest text then Some text else None

-- a byte that may stand in a path: no control character. Letters beyond ASCII have bytes above 127
abbrev pub is_path_byte : ℕ → Bool
is_path_byte b = nat_le 32 b && not (b == 127)

-- one to a thousand of them
abbrev pub is_path_text : List ℕ → Bool
is_path_text text = nat_le 1 (length text) && (nat_le (length text) 1000 && list_all is_path_byte text)

-- an option that names a directory is left out or names it by a path
abbrev pub is_path_or_none : Option (List ℕ) → Bool
is_path_or_none None = true
is_path_or_none (Some text) = is_path_text text

-- who makes messages, which may be left out
abbrev pub originator_or : List ℕ → Option (List ℕ) → Option (List ℕ)
originator_or left_out None = Some left_out
originator_or left_out (Some text) = if is_originator text then Some text else None

-- the name of a file, which may be left out
abbrev pub name_or : Option (List ℕ) → Option (Option (List ℕ))
name_or None = Some None
name_or (Some text) = if is_file_text 200 text then Some (Some text) else None

-- what the names of update files end with, apart from what those of the files end with that are taken
abbrev pub update_text : List ℕ → List ℕ → Option (List ℕ)
update_text suffix text = if is_file_text 20 text && not (bytes_eq text suffix) then Some text else None

-- the same, which may be left out
abbrev pub update_or : List ℕ → Option (List ℕ) → Option (List ℕ)
update_or suffix value = update_text suffix (unwrap_or value (codes ".new"))

-- the same where no file is an update if it is left out
abbrev pub update_or_none : List ℕ → Option (List ℕ) → Option (Option (List ℕ))
update_or_none suffix None = Some None
update_or_none suffix (Some text) = option_map Some (update_text suffix text)

-- the value of an option, which is out of its range where there is none
abbrev pub in_range : {A : Type 0} → Opt → Option A → Result A UsageFault
in_range option None = Err (Value option)
in_range option (Some value) = Ok value

-- one value after another, up to the first fault
infixl 10 ◌>>=◌
abbrev pub ◌>>=◌ : {A B : Type 0} → Result A UsageFault → (A → Result B UsageFault) → Result B UsageFault
(Ok x) >>= f = f x
(Err fault) >>= f = Err fault

-- the threshold in metres
abbrev pub threshold_of : List Given → Result ℕ UsageFault
threshold_of givens = in_range Threshold (number_or 1 1_000_000 5000 (value_of Threshold givens))

-- what the names of the files that are taken end with
abbrev pub suffix_of : List Given → Result (List ℕ) UsageFault
suffix_of givens = in_range Suffix (file_text_or 20 (codes ".oem") (value_of Suffix givens))

-- the settings with this threshold that options give but for the files of sizes and of primaries, or the first of these options whose value is out of its range
unfoldable pub unsized_of : ℕ → List Given → Result PlainSettings UsageFault
unsized_of threshold givens = do
  from ← in_range From (epoch_or (value_of From givens))
  to ← in_range To (not_before from (epoch_or (value_of To givens)))
  suffix ← suffix_of givens
  Ok (record {
    threshold = threshold;
    from = from;
    to = to;
    suffix = suffix;
    as_hermite3 = is_given AsHermite3 givens;
    sizes = None;
    primaries = None;
    coverage = is_given Coverage givens;
    must_cover = is_given MustCover givens;
    large = is_given Large givens;
    limits = limits_of (is_given Large givens);
  })

-- these settings with the files of sizes and of primaries that options name, where they name them
unfoldable pub sized_of : PlainSettings → List Given → Result PlainSettings UsageFault
sized_of asked givens = do
  sizes ← in_range Sizes (name_or (value_of Sizes givens))
  primaries ← in_range Primaries (name_or (value_of Primaries givens))
  Ok (record asked { sizes = sizes; primaries = primaries })
