-- Certificates whose numbers are in the ranges of the text.
use Rattle.std.specs.Prelude.{◌≡◌, ℕ, ◌^◌, ◌<◌, ◌≤◌, true, List, All, [], IfSome}
use Rattle.cj_formats.specs.declared.cert_version.CertVersion.{CertVersion}
use Rattle.cj_formats.specs.declared.cert_version.CertVersion.TheVariants.{One, Two}
use Rattle.cj_formats.specs.Versions.{most_objects}
use Rattle.cj_base.specs.Ticks.{IsTick}
use Rattle.cj_case.specs.Leaves.{PlainLeaf}
use Rattle.cj_bezier.specs.Shells.{MAX_RADIUS}
use Rattle.cj_cert.specs.declared.cert_lines.ShellLine.{ShellLine}
use Rattle.cj_cert.specs.declared.cert_lines.SizeOfLine.{SizeOfLine}
use Rattle.cj_cert.specs.Certificates.{PlainBoxLine, PlainCertificate}
use Rattle.cj_brief.specs.Certificates.{PlainBrief}
use Rattle.cj_case.specs.CaseLimits.{MAX_SIZE}
use Rattle.cj_formats.specs.declared.cert_format.CertFormat.TheVariants.{Brief}
use Rattle.cj_formats.specs.Formats.{most_objects_in}
use Rattle.cj_cert_text.specs.Lines.{MAX_THRESHOLD, is_reach}

-- lines of one of so many objects

pub record FitsSize (most : ℕ) (s : SizeOfLine) : Type 0 where
  pub object : s.object < most
  pub size : s.size ≤ MAX_SIZE

pub record FitsShell (most : ℕ) (s : ShellLine) : Type 0 where
  pub object : s.object < most
  pub radii : IfSome s.shell (λ r. r.lo ≤ r.hi × r.hi ≤ MAX_RADIUS)

pub record FitsBox (most : ℕ) (b : PlainBoxLine) : Type 0 where
  pub object : b.object < most
  pub some : b.first ≤ b.last
  pub last : b.last < 2 ^ 32
  pub x : is_reach b.area.x.least b.area.x.most ≡ true
  pub y : is_reach b.area.y.least b.area.y.most ≡ true
  pub z : is_reach b.area.z.least b.area.z.most ≡ true

pub record FitsCell (most : ℕ) (s : PlainLeaf) : Type 0 where
  pub ordered : s.a < s.b
  pub objects : s.b < most
  pub first : IsTick s.first
  pub last : IsTick s.last
  pub some : s.first ≤ s.last

-- in version 1 there are no sizes, and each box is of one slot
abbrev pub IsOfVersion : CertVersion → List SizeOfLine → List PlainBoxLine → Type 0
IsOfVersion One sizes boxes = (sizes ≡ []) × All (λ b. b.first ≡ b.last) boxes
IsOfVersion Two sizes boxes = Unit {0}

pub record Fits (c : PlainCertificate) : Type 0 where
  pub version : IsOfVersion c.version c.sizes c.boxes
  pub first : IsTick c.first
  pub last : IsTick c.last
  pub some : 1 ≤ c.threshold
  pub threshold : c.threshold ≤ MAX_THRESHOLD
  pub objects : c.objects ≤ most_objects c.version
  pub sizes : All (FitsSize (most_objects c.version)) c.sizes
  pub shells : All (FitsShell (most_objects c.version)) c.shells
  pub boxes : All (FitsBox (most_objects c.version)) c.boxes
  pub cells : All (FitsCell (most_objects c.version)) c.cells

-- the same of one in brief
pub record FitsInBrief (c : PlainBrief) : Type 0 where
  pub first : IsTick c.first
  pub last : IsTick c.last
  pub some : 1 ≤ c.threshold
  pub threshold : c.threshold ≤ MAX_THRESHOLD
  pub objects : c.objects ≤ most_objects_in Brief
  pub sizes : All (FitsSize (most_objects_in Brief)) c.sizes
  pub primaries : All (λ object. object < most_objects_in Brief) c.primaries
  pub shells : All (FitsShell (most_objects_in Brief)) c.shells
  pub cells : All (FitsCell (most_objects_in Brief)) c.cells
