-- A certificate of either kind, as it is kept.
use Rattle.cj_cert.specs.Certificates.{plain_certificate}
use Rattle.cj_brief.specs.Certificates.{plain_brief}
use Rattle.cj_outputs.specs.declared.any_certificate.AnyCertificate.{AnyCertificate}
use Rattle.cj_outputs.specs.declared.any_certificate.AnyCertificate.TheVariants as kept
use Rattle.cj_outputs.specs.Either.{PlainAnyCertificate, InFull, InBrief}

-- what it says
abbrev pub plain_any : AnyCertificate → PlainAnyCertificate
plain_any (kept.InFull certificate) = InFull (plain_certificate certificate)
plain_any (kept.InBrief certificate) = InBrief (plain_brief certificate)
