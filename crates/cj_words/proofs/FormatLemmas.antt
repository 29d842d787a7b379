-- A run over a whole sky has its certificate in brief.
use Rattle.std.proofs.Common.{◌≡◌, ℕ, Bool, true, false, List, Option, Some, None}
use Rattle.std.specs.Prelude.{◌||◌}
use Rattle.cj_formats.specs.declared.cert_format.CertFormat.{CertFormat}
use Rattle.cj_formats.specs.declared.cert_format.CertFormat.TheVariants.{Brief}
use Rattle.cj_words.specs.Settings.{format_or}

brief_alone : (value : Option (List ℕ)) (format : CertFormat) → Some format ≡ format_or true value → format ≡ Brief
brief_alone None format is = cc
brief_alone (Some text) format is = absurd cc

pub in_brief : (brief large : Bool) (value : Option (List ℕ)) (format : CertFormat) → large ≡ true → Some format ≡ format_or (brief || large) value → format ≡ Brief
in_brief brief false value format asked is = absurd cc
in_brief false true value format asked is = brief_alone value format is
in_brief true true value format asked is = brief_alone value format is
