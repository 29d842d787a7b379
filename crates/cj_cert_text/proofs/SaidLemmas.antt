-- What a line says by its numbers and by whether words are left behind them.
use Rattle.std.proofs.Common.{◌≡◌, ℕ, ◌<◌, List, [], ◌∷◌, take, map, arith, ap, ◌∙◌, refl, subst, true, false, Bool, cond, ℤ, Option, None, Result, Ok, Err, length}
use Rattle.std.specs.Prelude.{◌==◌, ◌+◌}
use Rattle.std.proofs.lemmas.Bool.{eqb-true}
use Rattle.cj_cert_text.specs.declared.cert_line.CertLine.{CertLine}
use Rattle.cj_formats.specs.declared.cert_cause.CertCause.{CertCause}
use Rattle.cj_formats.specs.declared.cert_format.CertFormat.{CertFormat}
use Rattle.cj_formats.specs.declared.cert_cause.CertCause.TheVariants as causes
use Rattle.cj_cert_text.specs.declared.rank.Rank.{Rank}
use Rattle.cj_cert_text.specs.declared.rank.Rank.TheVariants as rank
use Rattle.cj_cert_text.specs.Lines as spec
use Rattle.cj_cert_text.specs.Lines.{PlainLine, line_said, said, said_by}
use Rattle.cj_cert_text.specs.Numbers.{numbers_in, others_in}
use Rattle.cj_cert_text.specs.Readers.{Tells, capped, plain_line}
use Rattle.cj_cert_text.specs.Ranks.{has_ended}
use Rattle.cj_cert_text.specs.Reading.{PlainSaid, behind_lines, ends_at}
use Rattle.cj_cert_text.proofs.CapLemmas.{said_by_kept}

pub none_left : (words : List (List ℕ)) → (length words == 0) ≡ true → words ≡ []
none_left [] h = refl
none_left (word ∷ words) h = absurd (let e = eqb-true (length (word ∷ words)) 0 h in omega arith)

pub shell_left : (v : CertFormat) (numbers : List ℤ) (words : List (List ℕ)) → (length words == 0) ≡ false → spec.no_shell v numbers words ≡ spec.shell_or_none v numbers words
shell_left v numbers [] h = absurd cc
shell_left v numbers (word ∷ words) h = refl

-- a line of another kind has no words behind its numbers
pub words_left : (v : CertFormat) (r : Rank) (numbers : List ℤ) (words : List (List ℕ)) → (length words == 0) ≡ false → (r ≡ rank.Shell → ⊥) → (r ≡ rank.Cell → ⊥)
    → said_by v r numbers words ≡ Err causes.Form
words_left v r numbers [] some no_shell no_cell = absurd cc
words_left v rank.Heading numbers (word ∷ words) some no_shell no_cell = refl
words_left v rank.Window numbers (word ∷ words) some no_shell no_cell = refl
words_left v rank.Threshold numbers (word ∷ words) some no_shell no_cell = refl
words_left v rank.Objects numbers (word ∷ words) some no_shell no_cell = refl
words_left v rank.Size numbers (word ∷ words) some no_shell no_cell = refl
words_left v rank.Primary numbers (word ∷ words) some no_shell no_cell = refl
words_left v rank.Shell numbers (word ∷ words) some no_shell no_cell = absurd (no_shell refl)
words_left v rank.Box numbers (word ∷ words) some no_shell no_cell = refl
words_left v rank.Cell numbers (word ∷ words) some no_shell no_cell = absurd (no_cell refl)
words_left v rank.End numbers (word ∷ words) some no_shell no_cell = refl

-- a cell without its kind
pub no_kind : (v : CertFormat) (numbers : List ℤ) → spec.cell v numbers None ≡ Err causes.Form
no_kind v [] = refl
no_kind v (a ∷ []) = refl
no_kind v (a ∷ b ∷ []) = refl
no_kind v (a ∷ b ∷ first ∷ []) = refl
no_kind v (a ∷ b ∷ first ∷ last ∷ []) = refl
no_kind v (a ∷ b ∷ first ∷ last ∷ z ∷ zs) = refl

-- what is said by the numbers that are kept is what the words say
pub tells_kept : (v : CertFormat) (r : Rank) (words others : List (List ℕ)) (kept : List ℤ) (x : Result CertLine CertCause) → kept ≡ take 10 (map capped (numbers_in words))
    → (length (numbers_in words) < 10 → others ≡ others_in words) → Tells plain_line x (said_by v r kept others) → Tells plain_line x (said v r words)
unfolding said
tells_kept v r words others kept x same behind h =
    subst (Tells plain_line x) (ap (λ (ns : List ℤ). said_by v r ns others) same ∙ said_by_kept v r (numbers_in words) others (others_in words) behind) h

-- ---- behind the last LF

pub behind_refused : (v : CertFormat) (number : ℕ) (before : Option Rank) (c : PlainSaid) (rest : List ℕ) (cause : CertCause) → (length rest == 0) ≡ false → line_said v before rest ≡ Err cause
    → behind_lines v number before c rest ≡ Err (record { line = number; cause = cause })
behind_refused v number before c [] cause some is = absurd cc
behind_refused v number before c (b ∷ bs) cause some is = rw is refl

pub behind_taken : (v : CertFormat) (number : ℕ) (before : Option Rank) (c : PlainSaid) (rest : List ℕ) (l : PlainLine) → (length rest == 0) ≡ false → line_said v before rest ≡ Ok l
    → behind_lines v number before c rest ≡ ends_at (number + 1)
behind_taken v number before c [] l some is = absurd cc
behind_taken v number before c (b ∷ bs) l some is = rw is refl

pub behind_nothing : (v : CertFormat) (number : ℕ) (before : Option Rank) (c : PlainSaid) (rest : List ℕ) → (length rest == 0) ≡ true → has_ended before ≡ false
    → behind_lines v number before c rest ≡ ends_at number
behind_nothing v number before c [] none open_end = ap (λ (b : Bool). cond b (Ok c) (ends_at number)) open_end
behind_nothing v number before c (b ∷ bs) none open_end = absurd (let e = eqb-true (length (b ∷ bs)) 0 none in omega arith)

pub no_bytes : (rest : List ℕ) → (length rest == 0) ≡ true → rest ≡ []
no_bytes [] none = refl
no_bytes (b ∷ bs) none = absurd (let e = eqb-true (length (b ∷ bs)) 0 none in omega arith)
