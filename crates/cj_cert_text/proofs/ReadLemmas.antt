-- A text that is read is the text of what is read, which fits.
use Rattle.std.proofs.Common.{◌≡◌, ℕ, ◌+◌, ◌<◌, ◌≤◌, List, [], ◌∷◌, ◌++◌, All, arith, ap, ap₂, sym, ◌∙◌, refl, subst, true, false, Bool, cond, ℤ, pos, Option}
use Rattle.std.proofs.Common.{Some, None, Result, Ok, Err, append_assoc, append-nil}
use Rattle.std.specs.Prelude.{◌==◌, ◌&&◌, if◌then◌else◌, nat_le, nat_lt, flat_map, codes}
use Rattle.std.specs.List.{join_with_byte, slice_split}
use Rattle.std.proofs.lemmas.Bool.{and_parts, eqb-true, leb-true}
use Rattle.std.proofs.lemmas.Bool.Decides.{nat_tests}
use Rattle.std.proofs.lemmas.Grind.{flat_map-append}
use Rattle.std.proofs.lemmas.List.Elements.{All-nil, All-push}
use Rattle.std.proofs.lemmas.List.Splits.{join_with_byte-slice_split}
use Rattle.cj_base.specs.Ticks.{IsTick}
use Rattle.cj_case.specs.declared.shells.Shell.{Shell as Radii}
use Rattle.cj_case.specs.Leaves.{PlainLeaf}
use Rattle.cj_cert.specs.declared.cert_lines.ShellLine.{ShellLine}
use Rattle.cj_cert.specs.declared.cert_lines.SizeOfLine.{SizeOfLine}
use Rattle.cj_formats.specs.declared.cert_cause.CertCause.{CertCause}
use Rattle.cj_formats.specs.declared.cert_version.CertVersion.{CertVersion}
use Rattle.cj_formats.specs.declared.cert_format.CertFormat.{CertFormat}
use Rattle.cj_formats.specs.declared.cert_format.CertFormat.TheVariants.{Full, Brief}
use Rattle.cj_formats.specs.declared.cert_version.CertVersion.TheVariants.{One, Two}
use Rattle.cj_formats.specs.Formats.{most_objects_in, number_of_format}
use Rattle.cj_formats.specs.declared.cert_cause.CertCause.TheVariants as causes
use Rattle.cj_cert_text.specs.declared.rank.Rank.{Rank}
use Rattle.cj_cert_text.specs.declared.rank.Rank.TheVariants as rank
use Rattle.cj_cert.specs.Certificates.{PlainBoxLine, PlainCertificate}
use Rattle.cj_brief.specs.Certificates.{PlainBrief}
use Rattle.cj_cert_text.specs.Fits.{Fits, FitsInBrief, FitsSize, FitsShell, FitsBox, FitsCell, IsOfVersion}
use Rattle.cj_cert_text.specs.Lines.{PlainLine, Heading, Window, Threshold, Objects, Size, Primary, Shell, Box, Cell, End, rank_of, said, said_in, line_said, where_it_may_stand, MAX_THRESHOLD}
use Rattle.cj_cert_text.specs.Numbers.{numbers_in, others_in}
use Rattle.cj_cert_text.specs.Ranks.{has_ended, may_follow, place, rank_of_word}
use Rattle.cj_cert_text.specs.Reading.{Fault, PlainSaid, and_then, at_line, behind_lines, ends_at, in_brief, in_version, lines_said, nothing_said, reading, reading_in_brief, reads_on, version_of, with_line}
use Rattle.cj_kvn.specs.Entries.{line_of_words}
use Rattle.cj_cert_text.specs.Texts.{row, row_ended, number, ends, size_text, primary_text, shell_text, shell_row, cell_text, first_lines_in, kind_word, text_of, brief_text}
use Rattle.cj_cert_text.proofs.AgainLemmas.{numbers_small}
use Rattle.cj_cert_text.proofs.LineLemmas.{FitsLine, FitsPrimaryIn, FitsSizeIn, FitsSlots, IsSaid, numbers_of, slots_in, rank_word, tested, what_is_said, word_of, words_of}
use Rattle.cj_cert_text.proofs.WordLemmas.{AreSmall, texts, words_written}

-- ---- one line

-- a line as the text of what it says
pub record IsLine (v : CertFormat) (before : Option Rank) (text : List ℕ) (l : PlainLine) : Type 0 where
  pub open_end : has_ended before ≡ false
  pub follows : may_follow (rank_of l) before ≡ true
  pub fits : FitsLine v l
  pub joined : text ≡ join_with_byte 32 (word_of (rank_of l) ∷ words_of v l)

words_are : (v : CertFormat) (l : PlainLine) (words : List (List ℕ)) → IsSaid v (rank_of l) (numbers_in words) (others_in words) l → words ≡ words_of v l
words_are v l words is =
    words_written words (subst AreSmall (sym is.its_numbers) (numbers_small v l is.fits))
    ∙ ap₂ (λ (zs : List ℤ) (ws : List (List ℕ)). texts zs ++ ws) is.its_numbers is.its_others

ranked : (v : CertFormat) (before : Option Rank) (word text : List ℕ) (words : List (List ℕ)) (r : Option Rank) (l : PlainLine) → has_ended before ≡ false → rank_of_word word ≡ r
    → text ≡ join_with_byte 32 (word ∷ words) → where_it_may_stand v before r words ≡ Ok l → IsLine v before text l
unfolding said
ranked v before word text words None l open_end is joined h = absurd cc
ranked v before word text words (Some r) l open_end is joined h =
    let c = tested (may_follow r before) (said v r words) _ l h in
    let s = what_is_said v r (numbers_in words) (others_in words) l c.1 in
    let own : IsSaid v (rank_of l) (numbers_in words) (others_in words) l = subst (λ k. IsSaid v k (numbers_in words) (others_in words) l) (sym s.rank) s in
    record {
      open_end = open_end;
      follows = subst (λ k. may_follow k before ≡ true) (sym s.rank) c.0;
      fits = s.fits;
      joined = joined ∙ ap₂ (λ (w : List ℕ) (ws : List (List ℕ)). join_with_byte 32 (w ∷ ws)) (rank_word word r is ∙ ap word_of (sym s.rank)) (words_are v l words own);
    }

split_line : (v : CertFormat) (before : Option Rank) (text : List ℕ) (words : List (List ℕ)) (l : PlainLine) → has_ended before ≡ false → text ≡ join_with_byte 32 words
    → said_in v before words ≡ Ok l → IsLine v before text l
split_line v before text [] l open_end joined h = absurd cc
split_line v before text (word ∷ words) l open_end joined h = ranked v before word text words (rank_of_word word) l open_end refl joined h

ended_or : (v : CertFormat) (before : Option Rank) (text : List ℕ) (l : PlainLine) (ended : Bool) → has_ended before ≡ ended
    → cond ended (Err causes.End) (said_in v before (slice_split (λ b. b == 32) text)) ≡ Ok l → IsLine v before text l
ended_or v before text l true e h = absurd cc
ended_or v before text l false e h = split_line v before text (slice_split (λ b. b == 32) text) l e (sym (join_with_byte-slice_split 32 text)) h

pub line_read : (v : CertFormat) (before : Option Rank) (text : List ℕ) (l : PlainLine) → line_said v before text ≡ Ok l → IsLine v before text l
unfolding line_said
line_read v before text l h = ended_or v before text l (has_ended before) refl h

-- the text of a line, by its kind
abbrev pub line_text : CertFormat → PlainLine → List ℕ
line_text v l = line_of_words (word_of (rank_of l) ∷ words_of v l)

-- the text of a box
abbrev pub box_text_in : CertFormat → PlainBoxLine → List ℕ
box_text_in v b = row (codes "BOX") (number b.object ∷ (slots_in v b ++ ends b.area))

abbrev pub told : CertFormat → PlainLine → List ℕ
told v Heading = row (codes "CONJ-CERT") (pos (number_of_format v) ∷ [])
told v (Window first last) = row (codes "WINDOW") (pos first ∷ pos last ∷ [])
told v (Threshold threshold) = row (codes "THRESHOLD") (pos threshold ∷ [])
told v (Objects count) = row (codes "OBJECTS") (pos count ∷ [])
told v (Size s) = size_text s
told v (Primary object) = primary_text object
told v (Shell s) = shell_text s
told v (Box b) = box_text_in v b
told v (Cell s) = cell_text s
told v End = row (codes "END") []

row_is : (word : List ℕ) (numbers : List ℤ) → line_of_words (word ∷ (texts numbers ++ [])) ≡ row word numbers
unfolding row
row_is word numbers = ap (λ (ws : List (List ℕ)). line_of_words (word ∷ ws)) (append-nil (texts numbers))

ended_is : (word : List ℕ) (numbers : List ℤ) (last : List ℕ) → line_of_words (word ∷ (texts numbers ++ last ∷ [])) ≡ row_ended word numbers last
unfolding row_ended
ended_is word numbers last = refl

shell_is : (v : CertFormat) (o : ℕ) (shell : Option Radii) → line_text v (Shell (record { object = o; shell = shell })) ≡ shell_row o shell
shell_is v o None = ended_is (codes "SHELL") (number o ∷ []) (codes "NONE")
shell_is v o (Some s) = row_is (codes "SHELL") (number o ∷ pos s.lo ∷ pos s.hi ∷ [])

pub text_is_told : (v : CertFormat) (l : PlainLine) → line_text v l ≡ told v l
text_is_told v Heading = row_is (codes "CONJ-CERT") (numbers_of v Heading)
text_is_told v (Window first last) = row_is (codes "WINDOW") (numbers_of v (Window first last))
text_is_told v (Threshold threshold) = row_is (codes "THRESHOLD") (numbers_of v (Threshold threshold))
text_is_told v (Objects count) = row_is (codes "OBJECTS") (numbers_of v (Objects count))
text_is_told v (Size s) = row_is (codes "SIZE") (numbers_of v (Size s))
text_is_told v (Primary object) = row_is (codes "PRIMARY") (numbers_of v (Primary object))
text_is_told v (Shell s) = shell_is v s.object s.shell
text_is_told v (Box b) = row_is (codes "BOX") (numbers_of v (Box b))
text_is_told v (Cell s) = ended_is (codes "CELL") (numbers_of v (Cell s)) (kind_word s.kind)
text_is_told v End = row_is (codes "END") []

-- ---- the text so far

abbrev pub whole : List ℕ → CertFormat → List SizeOfLine → List ℕ → List ShellLine → List PlainBoxLine → List PlainLeaf → List ℕ
whole head v sizes primaries shells boxes cells =
    head ++ flat_map size_text sizes ++ flat_map primary_text primaries ++ flat_map shell_text shells ++ flat_map (box_text_in v) boxes ++ flat_map cell_text cells

abbrev pub head_in : CertFormat → PlainSaid → List ℕ
head_in v c = first_lines_in v c.first c.last c.threshold c.objects

abbrev pub body : CertFormat → PlainSaid → List ℕ
body v c = whole (head_in v c) v c.sizes c.primaries c.shells c.boxes c.cells

-- that of all lines
abbrev pub text_in : CertFormat → PlainSaid → List ℕ
text_in v c = body v c ++ row (codes "END") []

-- the text up to a line of this kind
abbrev text_to : CertFormat → Option Rank → PlainSaid → List ℕ
text_to v None c = []
text_to v (Some rank.Heading) c = told v Heading
text_to v (Some rank.Window) c = told v Heading ++ told v (Window c.first c.last)
text_to v (Some rank.Threshold) c = told v Heading ++ told v (Window c.first c.last) ++ told v (Threshold c.threshold)
text_to v (Some rank.Objects) c = body v c
text_to v (Some rank.Size) c = body v c
text_to v (Some rank.Primary) c = body v c
text_to v (Some rank.Shell) c = body v c
text_to v (Some rank.Box) c = body v c
text_to v (Some rank.Cell) c = body v c
text_to v (Some rank.End) c = text_in v c

-- the place of the line before in their order, 0 where there is none
abbrev last_place : Option Rank → ℕ
last_place None = 0
last_place (Some r) = place r

-- up to this place no line of a later kind is told
record NoneBehind (last : ℕ) (sizes : List SizeOfLine) (primaries : List ℕ) (shells : List ShellLine) (boxes : List PlainBoxLine) (cells : List PlainLeaf) : Type 0 where
  no_sizes : last < 5 → sizes ≡ []
  no_primaries : last < 6 → primaries ≡ []
  no_shells : last < 7 → shells ≡ []
  no_boxes : last < 8 → boxes ≡ []
  no_cells : last < 9 → cells ≡ []

abbrev NoLater : Option Rank → PlainSaid → Type 0
NoLater before c = NoneBehind (last_place before) c.sizes c.primaries c.shells c.boxes c.cells

further : (m n : ℕ) (ss : List SizeOfLine) (ps : List ℕ) (hs : List ShellLine) (bs : List PlainBoxLine) (cs : List PlainLeaf) → m ≤ n
    → NoneBehind m ss ps hs bs cs → NoneBehind n ss ps hs bs cs
further m n ss ps hs bs cs le none = record {
  no_sizes = λ lt. none.no_sizes (omega arith);
  no_primaries = λ lt. none.no_primaries (omega arith);
  no_shells = λ lt. none.no_shells (omega arith);
  no_boxes = λ lt. none.no_boxes (omega arith);
  no_cells = λ lt. none.no_cells (omega arith);
}

-- where a line may stand, by the places of its kind and of the line before
record IsInOrder (r : Rank) (before : Option Rank) : Type 0 where
  reached : 4 ≤ place r → 3 ≤ last_place before
  in_lists : 4 < place r → 4 ≤ last_place before
  no_later : 4 < place r → last_place before ≤ place r

in_order : (r : Rank) (before : Option Rank) → may_follow r before ≡ true → IsInOrder r before
in_order r None f =
    let first = eqb-true (place r) 1 f in
    record { reached = λ low. absurd (omega arith); in_lists = λ low. absurd (omega arith); no_later = λ low. absurd (omega arith) }
in_order r (Some b) f = go (nat_lt (place b) 4) refl f
  where
    go : (early : Bool) → nat_lt (place b) 4 ≡ early
        → (if early then place r == place b + 1 else (nat_lt 4 (place r) && nat_le (place b) (place r))) ≡ true → IsInOrder r (Some b)
    go true is f =
        let next = eqb-true (place r) (place b + 1) f in
        let below : place b < 4 = grind (arith, nat_tests) in
        record { reached = λ low. omega arith; in_lists = λ low. absurd (omega arith); no_later = λ low. absurd (omega arith) }
    go false is f =
        let parts = and_parts (nat_lt 4 (place r)) (nat_le (place b) (place r)) f in
        let lists : 4 ≤ place b = grind (arith, nat_tests) in
        let order = leb-true (place b) (place r) parts.1 in
        record { reached = λ low. omega arith; in_lists = λ low. lists; no_later = λ low. order }

flat_more : {A : Type 0} (f : A → List ℕ) (xs : List A) (x : A) → flat_map f (xs ++ x ∷ []) ≡ flat_map f xs ++ f x
flat_more f xs x = flat_map-append f xs (x ∷ []) ∙ ap (λ (t : List ℕ). flat_map f xs ++ t) (append-nil (f x))

regroup1 : (h a t : List ℕ) → (h ++ a ++ [] ++ [] ++ [] ++ []) ++ t ≡ h ++ (a ++ t) ++ [] ++ [] ++ [] ++ []
regroup1 h a t = simp (append_assoc, append-nil)

regroup2 : (h a b t : List ℕ) → (h ++ a ++ b ++ [] ++ [] ++ []) ++ t ≡ h ++ a ++ (b ++ t) ++ [] ++ [] ++ []
regroup2 h a b t = simp (append_assoc, append-nil)

regroup3 : (h a b d t : List ℕ) → (h ++ a ++ b ++ d ++ [] ++ []) ++ t ≡ h ++ a ++ b ++ (d ++ t) ++ [] ++ []
regroup3 h a b d t = simp (append_assoc, append-nil)

regroup4 : (h a b d e t : List ℕ) → (h ++ a ++ b ++ d ++ e ++ []) ++ t ≡ h ++ a ++ b ++ d ++ (e ++ t) ++ []
regroup4 h a b d e t = simp (append_assoc, append-nil)

regroup5 : (h a b d e f t : List ℕ) → (h ++ a ++ b ++ d ++ e ++ f) ++ t ≡ h ++ a ++ b ++ d ++ e ++ (f ++ t)
regroup5 h a b d e f t = simp append_assoc

size_more : (h : List ℕ) (v : CertFormat) (ss : List SizeOfLine) (s : SizeOfLine) (ps : List ℕ) (hs : List ShellLine) (bs : List PlainBoxLine) (cs : List PlainLeaf)
    → ps ≡ [] → hs ≡ [] → bs ≡ [] → cs ≡ [] → whole h v ss ps hs bs cs ++ size_text s ≡ whole h v (ss ++ s ∷ []) ps hs bs cs
size_more h v ss s [] [] [] [] ep eh eb ec =
    regroup1 h (flat_map size_text ss) (size_text s) ∙ ap (λ (t : List ℕ). h ++ t ++ [] ++ [] ++ [] ++ []) (sym (flat_more size_text ss s))
size_more h v ss s [] [] [] (c ∷ cs) ep eh eb ec = absurd cc
size_more h v ss s [] [] (b ∷ bs) cs ep eh eb ec = absurd cc
size_more h v ss s [] (x ∷ hs) bs cs ep eh eb ec = absurd cc
size_more h v ss s (p ∷ ps) hs bs cs ep eh eb ec = absurd cc

primary_more : (h : List ℕ) (v : CertFormat) (ss : List SizeOfLine) (ps : List ℕ) (p : ℕ) (hs : List ShellLine) (bs : List PlainBoxLine) (cs : List PlainLeaf)
    → hs ≡ [] → bs ≡ [] → cs ≡ [] → whole h v ss ps hs bs cs ++ primary_text p ≡ whole h v ss (ps ++ p ∷ []) hs bs cs
primary_more h v ss ps p [] [] [] eh eb ec =
    regroup2 h (flat_map size_text ss) (flat_map primary_text ps) (primary_text p)
    ∙ ap (λ (t : List ℕ). h ++ flat_map size_text ss ++ t ++ [] ++ [] ++ []) (sym (flat_more primary_text ps p))
primary_more h v ss ps p [] [] (c ∷ cs) eh eb ec = absurd cc
primary_more h v ss ps p [] (b ∷ bs) cs eh eb ec = absurd cc
primary_more h v ss ps p (x ∷ hs) bs cs eh eb ec = absurd cc

shell_more : (h : List ℕ) (v : CertFormat) (ss : List SizeOfLine) (ps : List ℕ) (hs : List ShellLine) (s : ShellLine) (bs : List PlainBoxLine) (cs : List PlainLeaf) → bs ≡ [] → cs ≡ []
    → whole h v ss ps hs bs cs ++ shell_text s ≡ whole h v ss ps (hs ++ s ∷ []) bs cs
shell_more h v ss ps hs s [] [] eb ec =
    regroup3 h (flat_map size_text ss) (flat_map primary_text ps) (flat_map shell_text hs) (shell_text s)
    ∙ ap (λ (t : List ℕ). h ++ flat_map size_text ss ++ flat_map primary_text ps ++ t ++ [] ++ []) (sym (flat_more shell_text hs s))
shell_more h v ss ps hs s [] (c ∷ cs) eb ec = absurd cc
shell_more h v ss ps hs s (b ∷ bs) cs eb ec = absurd cc

box_more : (h : List ℕ) (v : CertFormat) (ss : List SizeOfLine) (ps : List ℕ) (hs : List ShellLine) (bs : List PlainBoxLine) (b : PlainBoxLine) (cs : List PlainLeaf) → cs ≡ []
    → whole h v ss ps hs bs cs ++ box_text_in v b ≡ whole h v ss ps hs (bs ++ b ∷ []) cs
box_more h v ss ps hs bs b [] ec =
    regroup4 h (flat_map size_text ss) (flat_map primary_text ps) (flat_map shell_text hs) (flat_map (box_text_in v) bs) (box_text_in v b)
    ∙ ap (λ (t : List ℕ). h ++ flat_map size_text ss ++ flat_map primary_text ps ++ flat_map shell_text hs ++ t ++ []) (sym (flat_more (box_text_in v) bs b))
box_more h v ss ps hs bs b (c ∷ cs) ec = absurd cc

cell_more : (h : List ℕ) (v : CertFormat) (ss : List SizeOfLine) (ps : List ℕ) (hs : List ShellLine) (bs : List PlainBoxLine) (cs : List PlainLeaf) (c : PlainLeaf)
    → whole h v ss ps hs bs cs ++ cell_text c ≡ whole h v ss ps hs bs (cs ++ c ∷ [])
cell_more h v ss ps hs bs cs c =
    regroup5 h (flat_map size_text ss) (flat_map primary_text ps) (flat_map shell_text hs) (flat_map (box_text_in v) bs) (flat_map cell_text cs) (cell_text c)
    ∙ ap (λ (t : List ℕ). h ++ flat_map size_text ss ++ flat_map primary_text ps ++ flat_map shell_text hs ++ flat_map (box_text_in v) bs ++ t) (sym (flat_more cell_text cs c))

objects_more : (a b d e : List ℕ) (v : CertFormat) (ss : List SizeOfLine) (ps : List ℕ) (hs : List ShellLine) (bs : List PlainBoxLine) (cs : List PlainLeaf)
    → ss ≡ [] → ps ≡ [] → hs ≡ [] → bs ≡ [] → cs ≡ [] → a ++ b ++ d ++ e ≡ whole (a ++ b ++ d ++ e) v ss ps hs bs cs
objects_more a b d e v [] [] [] [] [] es ep eh eb ec = simp (append_assoc, append-nil)
objects_more a b d e v [] [] [] [] (c ∷ cs) es ep eh eb ec = absurd cc
objects_more a b d e v [] [] [] (x ∷ bs) cs es ep eh eb ec = absurd cc
objects_more a b d e v [] [] (x ∷ hs) bs cs es ep eh eb ec = absurd cc
objects_more a b d e v [] (p ∷ ps) hs bs cs es ep eh eb ec = absurd cc
objects_more a b d e v (s ∷ ss) ps hs bs cs es ep eh eb ec = absurd cc

-- one more line
record Goes (v : CertFormat) (before : Option Rank) (c : PlainSaid) (l : PlainLine) : Type 0 where
  text : text_to v before c ++ told v l ≡ text_to v (Some (rank_of l)) (with_line c l)
  later : NoLater (Some (rank_of l)) (with_line c l)

-- among the lists the text so far is that of the head and the lists
body_to : (v : CertFormat) (before : Option Rank) (c : PlainSaid) → 4 ≤ last_place before → has_ended before ≡ false → text_to v before c ≡ body v c
body_to v None c low open_end = absurd (omega arith)
body_to v (Some rank.Heading) c low open_end = absurd (omega arith)
body_to v (Some rank.Window) c low open_end = absurd (omega arith)
body_to v (Some rank.Threshold) c low open_end = absurd (omega arith)
body_to v (Some rank.End) c low open_end = absurd cc
body_to v (Some r) c low open_end = refl

goes : (v : CertFormat) (before : Option Rank) (c : PlainSaid) (l : PlainLine) → NoLater before c → has_ended before ≡ false → may_follow (rank_of l) before ≡ true → Goes v before c l
goes v None c Heading none e f = record { text = refl; later = further 0 1 _ _ _ _ _ (omega arith) none }
goes v (Some rank.Heading) c (Window first last) none e f = record { text = refl; later = further 1 2 _ _ _ _ _ (omega arith) none }
goes v (Some rank.Window) c (Threshold threshold) none e f = record { text = refl; later = further 2 3 _ _ _ _ _ (omega arith) none }
goes v (Some rank.Threshold) c (Objects count) none e f = record {
  text = objects_more (told v Heading) (told v (Window c.first c.last)) (told v (Threshold c.threshold)) (told v (Objects count))
      v c.sizes c.primaries c.shells c.boxes c.cells
      (none.no_sizes (omega arith)) (none.no_primaries (omega arith)) (none.no_shells (omega arith)) (none.no_boxes (omega arith)) (none.no_cells (omega arith));
  later = further 3 4 _ _ _ _ _ (omega arith) none;
}
goes v before c (Size s) none e f =
    let order = in_order rank.Size before f in
    let on : NoneBehind 5 c.sizes c.primaries c.shells c.boxes c.cells = further _ _ _ _ _ _ _ (order.no_later (omega arith)) none in
    record {
      text = ap (λ (t : List ℕ). t ++ size_text s) (body_to v before c (order.in_lists (omega arith)) e)
          ∙ size_more (head_in v c) v c.sizes s c.primaries c.shells c.boxes c.cells
          (on.no_primaries (omega arith)) (on.no_shells (omega arith)) (on.no_boxes (omega arith)) (on.no_cells (omega arith));
      later = record {
        no_sizes = λ lt. absurd (omega arith);
        no_primaries = on.no_primaries;
        no_shells = on.no_shells;
        no_boxes = on.no_boxes;
        no_cells = on.no_cells;
      };
    }
goes v before c (Primary object) none e f =
    let order = in_order rank.Primary before f in
    let on : NoneBehind 6 c.sizes c.primaries c.shells c.boxes c.cells = further _ _ _ _ _ _ _ (order.no_later (omega arith)) none in
    record {
      text = ap (λ (t : List ℕ). t ++ primary_text object) (body_to v before c (order.in_lists (omega arith)) e)
          ∙ primary_more (head_in v c) v c.sizes c.primaries object c.shells c.boxes c.cells
          (on.no_shells (omega arith)) (on.no_boxes (omega arith)) (on.no_cells (omega arith));
      later = record {
        no_sizes = on.no_sizes;
        no_primaries = λ lt. absurd (omega arith);
        no_shells = on.no_shells;
        no_boxes = on.no_boxes;
        no_cells = on.no_cells;
      };
    }
goes v before c (Shell s) none e f =
    let order = in_order rank.Shell before f in
    let on : NoneBehind 7 c.sizes c.primaries c.shells c.boxes c.cells = further _ _ _ _ _ _ _ (order.no_later (omega arith)) none in
    record {
      text = ap (λ (t : List ℕ). t ++ shell_text s) (body_to v before c (order.in_lists (omega arith)) e)
          ∙ shell_more (head_in v c) v c.sizes c.primaries c.shells s c.boxes c.cells (on.no_boxes (omega arith)) (on.no_cells (omega arith));
      later = record {
        no_sizes = on.no_sizes;
        no_primaries = on.no_primaries;
        no_shells = λ lt. absurd (omega arith);
        no_boxes = on.no_boxes;
        no_cells = on.no_cells;
      };
    }
goes v before c (Box b) none e f =
    let order = in_order rank.Box before f in
    let on : NoneBehind 8 c.sizes c.primaries c.shells c.boxes c.cells = further _ _ _ _ _ _ _ (order.no_later (omega arith)) none in
    record {
      text = ap (λ (t : List ℕ). t ++ box_text_in v b) (body_to v before c (order.in_lists (omega arith)) e)
          ∙ box_more (head_in v c) v c.sizes c.primaries c.shells c.boxes b c.cells (on.no_cells (omega arith));
      later = record {
        no_sizes = on.no_sizes;
        no_primaries = on.no_primaries;
        no_shells = on.no_shells;
        no_boxes = λ lt. absurd (omega arith);
        no_cells = on.no_cells;
      };
    }
goes v before c (Cell s) none e f =
    let order = in_order rank.Cell before f in
    let on : NoneBehind 9 c.sizes c.primaries c.shells c.boxes c.cells = further _ _ _ _ _ _ _ (order.no_later (omega arith)) none in
    record {
      text = ap (λ (t : List ℕ). t ++ cell_text s) (body_to v before c (order.in_lists (omega arith)) e)
          ∙ cell_more (head_in v c) v c.sizes c.primaries c.shells c.boxes c.cells s;
      later = record {
        no_sizes = on.no_sizes;
        no_primaries = on.no_primaries;
        no_shells = on.no_shells;
        no_boxes = on.no_boxes;
        no_cells = λ lt. absurd (omega arith);
      };
    }
goes v before c End none e f =
    let order = in_order rank.End before f in
    record {
      text = ap (λ (t : List ℕ). t ++ told v End) (body_to v before c (order.in_lists (omega arith)) e);
      later = further _ _ _ _ _ _ _ (order.no_later (omega arith)) none;
    }
goes v before c l none e f = absurd cc

-- ---- ranges

-- the ranges of the head
pub record HeadFits (v : CertFormat) (f l thr n : ℕ) : Type 0 where
  pub first : IsTick f
  pub last : IsTick l
  pub threshold : thr ≤ MAX_THRESHOLD
  pub objects : n ≤ most_objects_in v

-- in full what the version says of sizes and boxes, and no primaries; in brief there are no boxes
abbrev pub IsOfFormat : CertFormat → List SizeOfLine → List ℕ → List PlainBoxLine → Type 0
IsOfFormat (Full version) sizes primaries boxes = IsOfVersion version sizes boxes × (primaries ≡ [])
IsOfFormat Brief sizes primaries boxes = boxes ≡ []

-- the ranges of the lists
pub record ListsFit (v : CertFormat) (ss : List SizeOfLine) (ps : List ℕ) (hs : List ShellLine) (bs : List PlainBoxLine) (cs : List PlainLeaf) : Type 0 where
  pub version : IsOfFormat v ss ps bs
  pub sizes : All (FitsSize (most_objects_in v)) ss
  pub primaries : All (λ object. object < most_objects_in v) ps
  pub shells : All (FitsShell (most_objects_in v)) hs
  pub boxes : All (FitsBox (most_objects_in v)) bs
  pub cells : All (FitsCell (most_objects_in v)) cs

-- the ranges of what is told so far
pub record FitsSoFar (v : CertFormat) (c : PlainSaid) : Type 0 where
  pub head : HeadFits v c.first c.last c.threshold c.objects
  pub lists : ListsFit v c.sizes c.primaries c.shells c.boxes c.cells

-- one size or box more of a line that fits
size_fits : (v : CertFormat) (s : SizeOfLine) → FitsSizeIn v s → FitsSize (most_objects_in v) s
size_fits (Full One) s is = absurd is
size_fits (Full Two) s is = is
size_fits Brief s is = is

size_allowed : (v : CertFormat) (ss : List SizeOfLine) (s : SizeOfLine) (ps : List ℕ) (bs : List PlainBoxLine) → IsOfFormat v ss ps bs → FitsSizeIn v s
    → IsOfFormat v (ss ++ s ∷ []) ps bs
size_allowed (Full One) ss s ps bs of is = absurd is
size_allowed (Full Two) ss s ps bs of is = (tt, of.1)
size_allowed Brief ss s ps bs of is = of

primary_fits : (v : CertFormat) (object : ℕ) → FitsPrimaryIn v object → object < most_objects_in v
primary_fits (Full version) object is = absurd is
primary_fits Brief object is = is

primary_allowed : (v : CertFormat) (ss : List SizeOfLine) (ps : List ℕ) (object : ℕ) (bs : List PlainBoxLine) → IsOfFormat v ss ps bs → FitsPrimaryIn v object
    → IsOfFormat v ss (ps ++ object ∷ []) bs
primary_allowed (Full version) ss ps object bs of is = absurd is
primary_allowed Brief ss ps object bs of is = of

box_allowed : (v : CertFormat) (ss : List SizeOfLine) (ps : List ℕ) (bs : List PlainBoxLine) (b : PlainBoxLine) → IsOfFormat v ss ps bs → FitsSlots v b
    → IsOfFormat v ss ps (bs ++ b ∷ [])
box_allowed (Full One) ss ps bs b of is = ((of.0.0, All-push (λ (x : PlainBoxLine). x.first ≡ x.last) bs b of.0.1 is), of.1)
box_allowed (Full Two) ss ps bs b of is = (tt, of.1)
box_allowed Brief ss ps bs b of is = absurd is

fits_more : (v : CertFormat) (c : PlainSaid) (l : PlainLine) → FitsSoFar v c → FitsLine v l → FitsSoFar v (with_line c l)
fits_more v c Heading so is = so
fits_more v c (Window first last) so is =
    let h = so.head in
    record { head = record { first = is.0; last = is.1; threshold = h.threshold; objects = h.objects }; lists = so.lists }
fits_more v c (Threshold threshold) so is =
    let h = so.head in
    record { head = record { first = h.first; last = h.last; threshold = is.1; objects = h.objects }; lists = so.lists }
fits_more v c (Objects count) so is =
    let h = so.head in
    record { head = record { first = h.first; last = h.last; threshold = h.threshold; objects = is }; lists = so.lists }
fits_more v c (Size s) so is =
    let ls = so.lists in
    let sizes = All-push (FitsSize (most_objects_in v)) c.sizes s ls.sizes (size_fits v s is) in
    let version = size_allowed v c.sizes s c.primaries c.boxes ls.version is in
    record { head = so.head; lists = record { version = version; sizes = sizes; primaries = ls.primaries; shells = ls.shells; boxes = ls.boxes; cells = ls.cells } }
fits_more v c (Primary object) so is =
    let ls = so.lists in
    let primaries = All-push (λ (k : ℕ). k < most_objects_in v) c.primaries object ls.primaries (primary_fits v object is) in
    let version = primary_allowed v c.sizes c.primaries object c.boxes ls.version is in
    record { head = so.head; lists = record { version = version; sizes = ls.sizes; primaries = primaries; shells = ls.shells; boxes = ls.boxes; cells = ls.cells } }
fits_more v c (Shell s) so is =
    let ls = so.lists in
    let shells = All-push (FitsShell (most_objects_in v)) c.shells s ls.shells is in
    record { head = so.head; lists = record { version = ls.version; sizes = ls.sizes; primaries = ls.primaries; shells = shells; boxes = ls.boxes; cells = ls.cells } }
fits_more v c (Box b) so is =
    let ls = so.lists in
    let boxes = All-push (FitsBox (most_objects_in v)) c.boxes b ls.boxes is.0 in
    let version = box_allowed v c.sizes c.primaries c.boxes b ls.version is.1 in
    record { head = so.head; lists = record { version = version; sizes = ls.sizes; primaries = ls.primaries; shells = ls.shells; boxes = boxes; cells = ls.cells } }
fits_more v c (Cell s) so is =
    let ls = so.lists in
    let cells = All-push (FitsCell (most_objects_in v)) c.cells s ls.cells is in
    record { head = so.head; lists = record { version = ls.version; sizes = ls.sizes; primaries = ls.primaries; shells = ls.shells; boxes = ls.boxes; cells = cells } }
fits_more v c End so is = so

-- behind its line the threshold is told
abbrev HasThreshold : Option Rank → PlainSaid → Type 0
HasThreshold before c = 3 ≤ last_place before → 1 ≤ c.threshold

threshold_more : (v : CertFormat) (before : Option Rank) (c : PlainSaid) (l : PlainLine) → HasThreshold before c → may_follow (rank_of l) before ≡ true
    → FitsLine v l → HasThreshold (Some (rank_of l)) (with_line c l)
threshold_more v before c Heading has f is low = absurd (omega arith)
threshold_more v before c (Window first last) has f is low = absurd (omega arith)
threshold_more v before c (Threshold threshold) has f is low = is.0
threshold_more v before c l has f is low = has ((in_order (rank_of l) before f).reached (omega arith))

-- ---- the whole text

-- a text that was read, from the part that was left
record IsWhole (v : CertFormat) (before : Option Rank) (c d : PlainSaid) (left : List ℕ) : Type 0 where
  text : text_to v before c ++ left ≡ text_in v d
  fits : FitsSoFar v d
  some : 1 ≤ d.threshold

behind : (v : CertFormat) (before : Option Rank) (c d : PlainSaid) → has_ended before ≡ true → c ≡ d → FitsSoFar v c → HasThreshold before c → IsWhole v before c d []
behind v (Some rank.End) c d e same so some =
    subst (λ x. IsWhole v (Some rank.End) c x []) same (record { text = append-nil (text_in v c); fits = so; some = some (omega arith) })
behind v before c d e same so some = absurd cc

at_end : (b : Bool) (number : ℕ) (c d : PlainSaid) → cond b (Ok c) (ends_at number) ≡ Ok d → (b ≡ true) × (c ≡ d)
at_end true number c d h = (refl, cc)
at_end false number c d h = absurd cc

no_more : (number : ℕ) (x : Result PlainLine CertCause) (d : PlainSaid) → and_then (at_line number x) (λ l. ends_at (number + 1)) ≡ Ok d → ⊥
no_more number (Ok l) d h = cc
no_more number (Err cause) d h = cc

last_part : (v : CertFormat) (number : ℕ) (before : Option Rank) (c d : PlainSaid) (text : List ℕ) → FitsSoFar v c → HasThreshold before c → behind_lines v number before c text ≡ Ok d
    → IsWhole v before c d text
last_part v number before c d [] so some h = let e = at_end (has_ended before) number c d h in behind v before c d e.0 e.1 so some
last_part v number before c d (b ∷ bs) so some h = absurd (no_more number (line_said v before (b ∷ bs)) d h)

-- what the other parts say, given what a line says
one_part : (v : CertFormat) (number : ℕ) (before : Option Rank) (c d : PlainSaid) (text : List ℕ) (rest : List ℕ) (parts : List (List ℕ)) (x : Result PlainLine CertCause)
    → NoLater before c → FitsSoFar v c → HasThreshold before c → line_said v before text ≡ x
    → and_then (at_line number x) (λ l. reads_on v (number + 1) (Some (rank_of l)) (with_line c l) parts) ≡ Ok d
    → ((l : PlainLine) → NoLater (Some (rank_of l)) (with_line c l) → FitsSoFar v (with_line c l) → HasThreshold (Some (rank_of l)) (with_line c l)
    → reads_on v (number + 1) (Some (rank_of l)) (with_line c l) parts ≡ Ok d → IsWhole v (Some (rank_of l)) (with_line c l) d rest)
    → IsWhole v before c d (text ++ 10 ∷ rest)
one_part v number before c d text rest parts (Err cause) later so some is h next = absurd cc
one_part v number before c d text rest parts (Ok l) later so some is h next =
    let read = line_read v before text l is in
    let on = goes v before c l later read.open_end read.follows in
    let w = next l on.later (fits_more v c l so read.fits) (threshold_more v before c l some read.follows read.fits) h in
    let here : text ++ 10 ∷ [] ≡ told v l = ap (λ (t : List ℕ). t ++ 10 ∷ []) read.joined ∙ text_is_told v l in
    record {
      text = ap (λ (t : List ℕ). text_to v before c ++ t) (sym (append_assoc text (10 ∷ []) rest) ∙ ap (λ (t : List ℕ). t ++ rest) here)
          ∙ sym (append_assoc (text_to v before c) (told v l) rest) ∙ ap (λ (t : List ℕ). t ++ rest) on.text ∙ w.text;
      fits = w.fits;
      some = w.some;
    }

all_read : (v : CertFormat) (number : ℕ) (before : Option Rank) (c d : PlainSaid) (parts : List (List ℕ)) → NoLater before c → FitsSoFar v c → HasThreshold before c
    → reads_on v number before c parts ≡ Ok d → IsWhole v before c d (join_with_byte 10 parts)
unfolding reads_on
all_read v number before c d [] later so some h = absurd cc
all_read v number before c d (text ∷ []) later so some h = last_part v number before c d text so some h
all_read v number before c d (text ∷ next ∷ parts) later so some h =
    one_part v number before c d text (join_with_byte 10 (next ∷ parts)) (next ∷ parts) (line_said v before text) later so some refl h
    (λ l later' so' some' h'. all_read v (number + 1) (Some (rank_of l)) (with_line c l) d (next ∷ parts) later' so' some' h')

nothing_allowed : (v : CertFormat) → IsOfFormat v [] [] []
nothing_allowed (Full One) = ((refl, All-nil (λ (b : PlainBoxLine). b.first ≡ b.last)), refl)
nothing_allowed (Full Two) = (tt, refl)
nothing_allowed Brief = refl

nothing_fits : (v : CertFormat) → FitsSoFar v nothing_said
nothing_fits v = record {
  head = record { first = omega arith; last = omega arith; threshold = omega arith; objects = omega arith };
  lists = record {
    version = nothing_allowed v;
    sizes = All-nil (FitsSize (most_objects_in v));
    primaries = All-nil (λ (object : ℕ). object < most_objects_in v);
    shells = All-nil (FitsShell (most_objects_in v));
    boxes = All-nil (FitsBox (most_objects_in v));
    cells = All-nil (FitsCell (most_objects_in v));
  };
}

-- a text whose lines are read is the text of what they say
pub record IsRead (v : CertFormat) (bytes : List ℕ) (c : PlainSaid) : Type 0 where
  pub text : bytes ≡ text_in v c
  pub fits : FitsSoFar v c
  pub some : 1 ≤ c.threshold

pub lines_read : (v : CertFormat) (bytes : List ℕ) (c : PlainSaid) → lines_said v bytes ≡ Ok c → IsRead v bytes c
unfolding lines_said
lines_read v bytes c h =
    let none : NoLater None nothing_said = record {
      no_sizes = λ lt. refl;
      no_primaries = λ lt. refl;
      no_shells = λ lt. refl;
      no_boxes = λ lt. refl;
      no_cells = λ lt. refl;
    } in
    let w = all_read v 1 None nothing_said c (slice_split (λ b. b == 10) bytes) none (nothing_fits v) (λ low. absurd (omega arith)) h in
    record { text = sym (join_with_byte-slice_split 10 bytes) ∙ w.text; fits = w.fits; some = w.some }

-- ---- in full

no_primary_text : (front primaries : List ℕ) → primaries ≡ [] → front ++ flat_map primary_text primaries ≡ front
no_primary_text front primaries none = ap (λ (ps : List ℕ). front ++ flat_map primary_text ps) none ∙ append-nil front

pub full_text : (version : CertVersion) (c : PlainSaid) → c.primaries ≡ [] → text_in (Full version) c ≡ text_of (in_version version c)
unfolding text_of
full_text version c none =
    ap (λ (t : List ℕ). t ++ flat_map shell_text c.shells ++ flat_map (box_text_in (Full version)) c.boxes ++ flat_map cell_text c.cells ++ row (codes "END") [])
    (no_primary_text (head_in (Full version) c ++ flat_map size_text c.sizes) c.primaries none)

full_fits : (version : CertVersion) (bytes : List ℕ) (c : PlainSaid) → IsRead (Full version) bytes c → Fits (in_version version c)
full_fits version bytes c read = record {
  version = read.fits.lists.version.0;
  first = read.fits.head.first;
  last = read.fits.head.last;
  some = read.some;
  threshold = read.fits.head.threshold;
  objects = read.fits.head.objects;
  sizes = read.fits.lists.sizes;
  shells = read.fits.lists.shells;
  boxes = read.fits.lists.boxes;
  cells = read.fits.lists.cells;
}

-- what is read is the text of the certificate, which fits
pub reading_only : (bytes : List ℕ) (c : PlainCertificate) → reading bytes ≡ Ok c → (bytes ≡ text_of c) × Fits c
unfolding reading
reading_only bytes c h = go (lines_said (Full version) bytes) refl h
  where
    version : CertVersion
    version = version_of bytes

    go : (r : Result PlainSaid Fault) → lines_said (Full version) bytes ≡ r → and_then r (λ s. Ok (in_version version s)) ≡ Ok c → (bytes ≡ text_of c) × Fits c
    go (Err fault) is h = absurd cc
    go (Ok s) is h =
        let same : in_version version s ≡ c = cc in
        let read = lines_read (Full version) bytes s is in
        subst (λ (d : PlainCertificate). (bytes ≡ text_of d) × Fits d) same (read.text ∙ full_text version s read.fits.lists.version.1, full_fits version bytes s read)

-- ---- in brief

no_box_text : (v : CertFormat) (front : List ℕ) (boxes : List PlainBoxLine) → boxes ≡ [] → front ++ flat_map (box_text_in v) boxes ≡ front
no_box_text v front boxes none = ap (λ (bs : List PlainBoxLine). front ++ flat_map (box_text_in v) bs) none ∙ append-nil front

pub in_brief_text : (c : PlainSaid) → c.boxes ≡ [] → text_in Brief c ≡ brief_text (in_brief c)
unfolding brief_text
in_brief_text c none =
    ap (λ (t : List ℕ). t ++ flat_map cell_text c.cells ++ row (codes "END") []) (no_box_text Brief (head_in Brief c ++ flat_map size_text c.sizes ++ flat_map primary_text c.primaries ++ flat_map shell_text c.shells) c.boxes none)

brief_fits : (bytes : List ℕ) (c : PlainSaid) → IsRead Brief bytes c → FitsInBrief (in_brief c)
brief_fits bytes c read = record {
  first = read.fits.head.first;
  last = read.fits.head.last;
  some = read.some;
  threshold = read.fits.head.threshold;
  objects = read.fits.head.objects;
  sizes = read.fits.lists.sizes;
  primaries = read.fits.lists.primaries;
  shells = read.fits.lists.shells;
  cells = read.fits.lists.cells;
}

pub brief_only : (bytes : List ℕ) (c : PlainBrief) → reading_in_brief bytes ≡ Ok c → (bytes ≡ brief_text c) × FitsInBrief c
unfolding reading_in_brief
brief_only bytes c h = go (lines_said Brief bytes) refl h
  where
    go : (r : Result PlainSaid Fault) → lines_said Brief bytes ≡ r → and_then r (λ s. Ok (in_brief s)) ≡ Ok c → (bytes ≡ brief_text c) × FitsInBrief c
    go (Err fault) is h = absurd cc
    go (Ok s) is h =
        let same : in_brief s ≡ c = cc in
        let read = lines_read Brief bytes s is in
        subst (λ (d : PlainBrief). (bytes ≡ brief_text d) × FitsInBrief d) same (read.text ∙ in_brief_text s read.fits.lists.version, brief_fits bytes s read)
