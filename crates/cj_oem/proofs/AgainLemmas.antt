-- The canonical text of an ephemeris is read again.
use Rattle.std.proofs.Common.{◌≡◌, ℕ, ◌<◌, List, ◌++◌, true, false, length, ◌∙◌, refl, Ok, All}
use Rattle.std.specs.Prelude.{flat_map}
use Rattle.cj_kvn.specs.Lines.{Form, Mark, Numbered}
use Rattle.cj_kvn.specs.Lines as kvn
use Rattle.cj_kvn.specs.declared.lines.MarkKind.TheVariants.{MetaStart}
use Rattle.cj_oem.specs.Canonical.{header_text, segment_text, text_of}
use Rattle.cj_track.specs.PlainTracks.{PlainTrack}
use Rattle.cj_track.specs.Labels.{is_file_name, is_label}
use Rattle.cj_oem.specs.Metadata.{EMPTY}
use Rattle.cj_oem.specs.Reading.{lines_read, read_on, reading}
use Rattle.cj_oem.specs.Stages.{Header, Meta, NO_BODY, Start, follows}
use Rattle.cj_oem.proofs.MetadataAgainLemmas.{WHOLE_HEAD, header_forms, header_told, header_walk, known_none, label_neat, object_of}
use Rattle.cj_oem.proofs.PrintedLineLemmas.{Tells, numbered_from, reading_told, told_append, told_each}
use Rattle.cj_oem.proofs.SegmentAgainLemmas.{IsSegment, Later, segment_forms, body, segment_told, segments_pass}
use Rattle.cj_oem.proofs.WalkLemmas.{read_walk, walk_append}

-- an ephemeris that can be read
pub record IsWritten (e : PlainTrack) : Type 0 where
  pub file : is_file_name e.file ≡ true
  pub name : is_label e.name ≡ true
  pub id : is_label e.id ≡ true
  pub some : 0 < length e.segments
  pub segments : All IsSegment e.segments
  pub order : Later 0 e.segments

abbrev forms_of : PlainTrack → List Form
forms_of e = header_forms ++ flat_map (segment_forms (object_of e)) e.segments

text_told : (e : PlainTrack) → IsWritten e → Tells (text_of e) (forms_of e)
unfolding text_of
text_told e is =
    told_append header_text (flat_map (segment_text e) e.segments) header_forms (flat_map (segment_forms (object_of e)) e.segments) header_told
    (told_each IsSegment (segment_text e) (segment_forms (object_of e)) (segment_told e (label_neat e.name is.name) (label_neat e.id is.id)) e.segments is.segments)

head_follows : follows false (Header WHOLE_HEAD) (Mark MetaStart) ≡ Ok (Meta NO_BODY EMPTY)
unfolding follows
head_follows = refl

body_read : (e : PlainTrack) → IsWritten e → read_on false Start 1 (numbered_from 1 (forms_of e)) ≡ Ok (body (object_of e) e.segments)
body_read e is =
    let o = object_of e in
    let segments = flat_map (segment_forms o) e.segments in
    let passes = segments_pass (Header WHOLE_HEAD) NO_BODY o e.segments head_follows (known_none o) (label_neat e.name is.name) (label_neat e.id is.id) is.some is.segments is.order in
    read_walk Start passes.end (forms_of e) 1 (body o e.segments) (walk_append Start (Header WHOLE_HEAD) header_forms segments header_walk ∙ passes.walked) passes.rests.done

lines_again : (e : PlainTrack) → IsWritten e → lines_read false e.file (numbered_from 1 (forms_of e)) ≡ Ok e
unfolding lines_read
lines_again e is = rw (body_read e is) refl

pub reading_lines : (file bytes : List ℕ) (lines : List Numbered) → is_file_name file ≡ true → kvn.reading bytes ≡ Ok lines → reading file bytes false ≡ lines_read false file lines
unfolding reading
reading_lines file bytes lines named read = rw (named, read) refl

pub text_again : (e : PlainTrack) → IsWritten e → reading e.file (text_of e) false ≡ Ok e
text_again e is =
    reading_lines e.file (text_of e) (numbered_from 1 (forms_of e)) is.file (reading_told (text_of e) (forms_of e) (text_told e is)) ∙ lines_again e is
