-- The versions of certificates.
use Rattle.std.specs.Prelude.{ℕ, ◌==◌, if◌then◌else◌, Option, Some, None}
use Rattle.cj_formats.specs.declared.cert_version.CertVersion.{CertVersion}
use Rattle.cj_formats.specs.declared.cert_version.CertVersion.TheVariants.{One, Two}

-- the number of a version, as the first line of a certificate tells it
abbrev pub number_of_version : CertVersion → ℕ
number_of_version One = 1
number_of_version Two = 2

-- the version of a number
abbrev pub version_of_number : ℕ → Option CertVersion
version_of_number number = if number == 1 then Some One else if number == 2 then Some Two else None

-- how many objects a certificate of a version may have
abbrev pub most_objects : CertVersion → ℕ
most_objects One = 2000
most_objects Two = 2000
