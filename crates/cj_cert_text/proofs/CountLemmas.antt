-- How many lines a text of some length can have.
use Rattle.std.proofs.Common.{ℕ, ◌≤◌, List, [], ◌∷◌, ◌++◌, arith, length, ℤ, Option, Some, None, length-append}
use Rattle.std.specs.Prelude.{codes, flat_map, map}
use Rattle.std.specs.Fmt.{signed_decimal}
use Rattle.std.specs.List.{join_with_byte}
use Rattle.cj_case.specs.declared.shells.Shell.{Shell}
use Rattle.cj_cert_text.specs.declared.rank.Rank.{Rank}
use Rattle.cj_cert_text.specs.declared.rank.Rank.TheVariants as rank
use Rattle.cj_cert.specs.Certificates.{PlainCertificate, line_count}
use Rattle.cj_brief.specs.Certificates as brief
use Rattle.cj_brief.specs.Certificates.{PlainBrief}
use Rattle.cj_formats.specs.declared.cert_format.CertFormat.TheVariants.{Brief}
use Rattle.cj_kvn.specs.Entries.{line_of_words}
use Rattle.cj_cert_text.specs.Texts.{row, row_ended, size_text, primary_text, shell_row, shell_text, box_text, cell_text, head_text, first_lines_in, text_of, brief_text}
use Rattle.cj_cert_text.proofs.LineLemmas.{word_of}

line_some : (words : List (List ℕ)) → 1 ≤ length (line_of_words words)
line_some words = omega (arith, length-append (join_with_byte 32 words) (10 ∷ []))

row_some : (word : List ℕ) (numbers : List ℤ) → 1 ≤ length (row word numbers)
unfolding row
row_some word numbers = line_some (word ∷ map signed_decimal numbers)

ended_some : (word : List ℕ) (numbers : List ℤ) (last : List ℕ) → 1 ≤ length (row_ended word numbers last)
unfolding row_ended
ended_some word numbers last = line_some (word ∷ (map signed_decimal numbers ++ last ∷ []))

shell_some : (object : ℕ) (shell : Option Shell) → 1 ≤ length (shell_row object shell)
shell_some object None = ended_some _ _ _
shell_some object (Some s) = row_some _ _

-- each of some things has a byte at least
many : {A : Type 0} (f : A → List ℕ) → ((x : A) → 1 ≤ length (f x)) → (xs : List A) → length xs ≤ length (flat_map f xs)
many f some [] = omega arith
many f some (x ∷ xs) = omega (arith, some x, many f some xs, length-append (f x) (flat_map f xs))

-- a text has as many bytes as lines at least
pub lines_within : (c : PlainCertificate) → line_count c ≤ length (text_of c)
unfolding text_of
lines_within c =
    let sizes = flat_map size_text c.sizes in
    let shells = flat_map shell_text c.shells in
    let boxes = flat_map (box_text c.version) c.boxes in
    let cells = flat_map cell_text c.cells in
    omega (
      arith,
      many size_text (λ s. row_some _ _) c.sizes,
      many shell_text (λ s. shell_some s.object s.shell) c.shells,
      many (box_text c.version) (λ b. row_some _ _) c.boxes,
      many cell_text (λ s. ended_some _ _ _) c.cells,
      length-append (head_text c) sizes,
      length-append (head_text c ++ sizes) shells,
      length-append (head_text c ++ sizes ++ shells) boxes,
      length-append (head_text c ++ sizes ++ shells ++ boxes) cells,
      length-append (head_text c ++ sizes ++ shells ++ boxes ++ cells) (row (codes "END") []),
    )

pub brief_lines_within : (c : PlainBrief) → brief.line_count c ≤ length (brief_text c)
unfolding brief_text
brief_lines_within c =
    let sizes = flat_map size_text c.sizes in
    let primaries = flat_map primary_text c.primaries in
    let shells = flat_map shell_text c.shells in
    let cells = flat_map cell_text c.cells in
    let head = first_lines_in Brief c.first c.last c.threshold c.objects in
    omega (
      arith,
      many size_text (λ s. row_some _ _) c.sizes,
      many primary_text (λ object. row_some _ _) c.primaries,
      many shell_text (λ s. shell_some s.object s.shell) c.shells,
      many cell_text (λ s. ended_some _ _ _) c.cells,
      length-append head sizes,
      length-append (head ++ sizes) primaries,
      length-append (head ++ sizes ++ primaries) shells,
      length-append (head ++ sizes ++ primaries ++ shells) cells,
      length-append (head ++ sizes ++ primaries ++ shells ++ cells) (row (codes "END") []),
    )

-- ---- a line is no single byte

word_long : (r : Rank) → 3 ≤ length (word_of r)
word_long rank.Heading = omega arith
word_long rank.Window = omega arith
word_long rank.Threshold = omega arith
word_long rank.Objects = omega arith
word_long rank.Size = omega arith
word_long rank.Primary = omega arith
word_long rank.Shell = omega arith
word_long rank.Box = omega arith
word_long rank.Cell = omega arith
word_long rank.End = omega arith

joined_long : (word : List ℕ) (words : List (List ℕ)) → length word ≤ length (join_with_byte 32 (word ∷ words))
joined_long word [] = omega arith
joined_long word (next ∷ words) = omega (arith, length-append word (32 ∷ join_with_byte 32 (next ∷ words)))

pub line_long : (r : Rank) (words : List (List ℕ)) → 3 ≤ length (join_with_byte 32 (word_of r ∷ words))
line_long r words = omega (arith, word_long r, joined_long (word_of r) words)
