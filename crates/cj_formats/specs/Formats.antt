-- The formats of certificates: in full, in one of its versions, or in brief.
use Rattle.std.specs.Prelude.{ℕ}
use Rattle.cj_formats.specs.Versions.{most_objects, number_of_version}
use Rattle.cj_formats.specs.declared.cert_format.CertFormat.{CertFormat}
use Rattle.cj_formats.specs.declared.cert_format.CertFormat.TheVariants.{Full, Brief}

-- the number of the version, as the first line tells it
abbrev pub number_of_format : CertFormat → ℕ
number_of_format (Full version) = number_of_version version
number_of_format Brief = 3

-- how many objects a certificate may have
abbrev pub most_objects_in : CertFormat → ℕ
most_objects_in (Full version) = most_objects version
most_objects_in Brief = 65535
