-- The files that are accepted are those of the grammar, and what they say is what it says.
use Rattle.std.proofs.Common.{◌≡◌, ℕ, ◌↔◌, inl, inr, List, [], ◌∷◌, ◌++◌, Bool, true, false, Some, IfOk, IfErr, Result, Ok, Err, ap, sym, ◌∙◌, refl, subst}
use Rattle.std.specs.Prelude.{◌&&◌, ◌||◌, codes, if◌then◌else◌}
use Rattle.cj_kvn.specs.Lines as kvn
use Rattle.cj_kvn.specs.Lines.{Form, Blank, Comment, Mark, Pair, Row, Numbered, telling}
use Rattle.cj_kvn.specs.declared.lines.KvnCause.{KvnCause}
use Rattle.cj_kvn.specs.declared.text_fault.LineFault.{LineFault}
use Rattle.cj_kvn.specs.declared.lines.MarkKind.TheVariants.{MetaStart, MetaStop, CovarianceStart, CovarianceStop}
use Rattle.cj_formats.specs.declared.oem_cause.OemCause.{OemCause}
use Rattle.cj_formats.specs.declared.oem_cause.OemCause.TheVariants as causes
use Rattle.cj_kvn.specs.declared.text_fault.TextFault.{TextFault}
use Rattle.cj_kvn.specs.declared.text_fault.TextFault.TheVariants.{Memory, At}
use Rattle.cj_track.specs.declared.track.Track.{Track}
use Rattle.cj_track.specs.PlainTracks.{PlainSegment, PlainTrack}
use Rattle.cj_oem.specs.Grammar.{AreBlocks, Entry, IsFile, IsVersion, Says, pair_lines}
use Rattle.cj_track.specs.Labels.{is_file_name}
use Rattle.cj_oem.specs.Words.{is_text}
use Rattle.cj_kvn.specs.Faults.{◌>>=◌, lines_or}
use Rattle.cj_oem.specs.Metadata.{EMPTY, Object}
use Rattle.cj_oem.specs.Reading.{Fault, Gives, IsOfFile, IsTrackOf, lines_read, read_on, reading, with_object}
use Rattle.cj_oem.specs.Stages.{Body, Head, Start, Header, Meta, After, NO_BODY, NO_HEAD, finished, is_version, with_head_key}
use Rattle.cj_track.specs.Tracks.{plain_track}
use Rattle.cj_oem.proofs.BlockLemmas.{Begins, blocks_again, blocks_are, blocks_begin}
use Rattle.cj_oem.proofs.HeaderLemmas.{head_from, header_again, header_is}
use Rattle.cj_oem.proofs.MetadataAgainLemmas.{object_of}
use Rattle.cj_oem.proofs.RunLemmas.{run, run_header, run_lines, without_line}
use Rattle.cj_kvn.proofs.FaultLemmas.{bind_ok, lines_ok}
use Rattle.cj_oem.proofs.StepLemmas.{bind_into, text_is, wanted}

-- ---- the version

version_of : (a b c : Bool) (value : List ℕ) → is_text (codes "1.0") value ≡ a → is_text (codes "2.0") value ≡ b → is_text (codes "3.0") value ≡ c → (a || b || c) ≡ true → IsVersion value
version_of true b c value x y z e = inl (text_is (codes "1.0") value x)
version_of false true c value x y z e = inr (inl (text_is (codes "2.0") value y))
version_of false false true value x y z e = inr (inr (text_is (codes "3.0") value z))
version_of false false false value x y z e = absurd cc

version_is : (value : List ℕ) → is_version value ≡ true → IsVersion value
version_is value = version_of (is_text (codes "1.0") value) (is_text (codes "2.0") value) (is_text (codes "3.0") value) value refl refl refl

version_again : (value : List ℕ) → IsVersion value → is_version value ≡ true
version_again value (inl e) = ap is_version e
version_again value (inr (inl e)) = ap is_version e
version_again value (inr (inr e)) = ap is_version e

-- ---- the header

-- entries up to the first block
record IsHeaderRead (as_hermite3 : Bool) (h : Head) (forms : List Form) (body : Body) : Type 0 where
  entries : List Entry
  end : Head
  rest : List Form
  shape : forms ≡ pair_lines entries ++ Mark MetaStart ∷ rest
  read : head_from h entries ≡ Ok end
  enough : (end.date && end.originator) ≡ true
  next : run as_hermite3 (Meta NO_BODY EMPTY) rest ≡ Ok body

header_end : (as_hermite3 : Bool) (h : Head) (b : Bool) (forms : List Form) (body : Body) → (h.date && h.originator) ≡ b
    → ((if b then Ok (Meta NO_BODY EMPTY) else Err causes.Missing) >>= λ next. run as_hermite3 next forms) ≡ Ok body → IsHeaderRead as_hermite3 h (Mark MetaStart ∷ forms) body
header_end as_hermite3 h true forms body both e =
    record { entries = []; end = h; rest = forms; shape = refl; read = refl; enough = both; next = e }
header_end as_hermite3 h false forms body both e = absurd cc

header_more : (as_hermite3 : Bool) (h next : Head) (key value : List ℕ) (forms : List Form) (body : Body) → with_head_key h key ≡ Ok next
    → IsHeaderRead as_hermite3 next forms body → IsHeaderRead as_hermite3 h (Pair key value ∷ forms) body
header_more as_hermite3 h next key value forms body e r = record {
  entries = record { key = key; value = value } ∷ r.entries;
  end = r.end;
  rest = r.rest;
  shape = ap (λ (fs : List Form). Pair key value ∷ fs) r.shape;
  read = ap (λ (x : Result Head OemCause). x >>= λ n. head_from n r.entries) e ∙ r.read;
  enough = r.enough;
  next = r.next;
}

header_read : (as_hermite3 : Bool) (forms : List Form) (h : Head) (body : Body) → run as_hermite3 (Header h) forms ≡ Ok body → IsHeaderRead as_hermite3 h forms body
unfolding finished
header_read as_hermite3 [] h body e = absurd cc
header_read as_hermite3 (Blank ∷ forms) h body e = absurd cc
header_read as_hermite3 (Comment ∷ forms) h body e = absurd cc
header_read as_hermite3 (Mark MetaStart ∷ forms) h body e = header_end as_hermite3 h (h.date && h.originator) forms body refl e
header_read as_hermite3 (Mark MetaStop ∷ forms) h body e = absurd cc
header_read as_hermite3 (Mark CovarianceStart ∷ forms) h body e = absurd cc
header_read as_hermite3 (Mark CovarianceStop ∷ forms) h body e = absurd cc
header_read as_hermite3 (Pair key value ∷ forms) h body e =
    let step = bind_into (with_head_key h key) (λ head. Header head) (λ next. run as_hermite3 next forms) body e in
    header_more as_hermite3 h step.0 key value forms body step.1 (header_read as_hermite3 forms step.0 body step.2)
header_read as_hermite3 (Row text ∷ forms) h body e = absurd cc

-- ---- the whole file

-- what a body says of its object
abbrev said : List ℕ → Object → List PlainSegment → PlainTrack
said file o segments = record { file = file; name = o.name; id = o.id; frame = o.frame; segments = segments }

-- the lines say an object with its segments
record IsFileRead (as_hermite3 : Bool) (file : List ℕ) (forms : List Form) (body : Body) : Type 0 where
  object : Object
  named : body.object ≡ Some object
  whole : IsFile as_hermite3 forms (said file object body.segments)

file_is : (as_hermite3 : Bool) (file key value : List ℕ) (forms : List Form) (body : Body) → key ≡ codes "CCSDS_OEM_VERS" → IsVersion value
    → IsHeaderRead as_hermite3 NO_HEAD forms body → IsFileRead as_hermite3 file (Pair key value ∷ forms) body
file_is as_hermite3 file key value forms body e version r =
    let blocks = blocks_are as_hermite3 NO_BODY r.rest body r.next in
    record {
      object = blocks.object;
      named = blocks.named;
      whole = record {
        version = value;
        entries = r.entries;
        blocks = Mark MetaStart ∷ r.rest;
        shape = ap (λ (k : List ℕ). Pair k value ∷ forms) e ∙ ap (λ (fs : List Form). Pair (codes "CCSDS_OEM_VERS") value ∷ fs) r.shape;
        known = version;
        header = header_is r.entries r.end r.read r.enough;
        segments = subst (AreBlocks as_hermite3 blocks.object 0 (Mark MetaStart ∷ r.rest)) (sym blocks.whole) blocks.blocks;
      };
    }

begun_read : (as_hermite3 : Bool) (file key value : List ℕ) (forms : List Form) (a b : Bool) (body : Body) → is_text (codes "CCSDS_OEM_VERS") key ≡ a → is_version value ≡ b
    → ((if a then (if b then Ok (Header NO_HEAD) else Err causes.Version) else Err causes.Order) >>= λ next. run as_hermite3 next forms) ≡ Ok body
    → IsFileRead as_hermite3 file (Pair key value ∷ forms) body
begun_read as_hermite3 file key value forms true true body x y e =
    file_is as_hermite3 file key value forms body (text_is (codes "CCSDS_OEM_VERS") key x) (version_is value y) (header_read as_hermite3 forms NO_HEAD body e)
begun_read as_hermite3 file key value forms true false body x y e = absurd cc
begun_read as_hermite3 file key value forms false b body x y e = absurd cc

file_read : (as_hermite3 : Bool) (file : List ℕ) (forms : List Form) (body : Body) → run as_hermite3 Start forms ≡ Ok body → IsFileRead as_hermite3 file forms body
unfolding finished
file_read as_hermite3 file [] body e = absurd cc
file_read as_hermite3 file (Blank ∷ forms) body e = absurd cc
file_read as_hermite3 file (Comment ∷ forms) body e = absurd cc
file_read as_hermite3 file (Mark mark ∷ forms) body e = absurd cc
file_read as_hermite3 file (Pair key value ∷ forms) body e =
    begun_read as_hermite3 file key value forms (is_text (codes "CCSDS_OEM_VERS") key) (is_version value) body refl refl e
file_read as_hermite3 file (Row text ∷ forms) body e = absurd cc

-- ---- back again

abbrev body_of : PlainTrack → Body
body_of e = record { object = Some (object_of e); segments = e.segments }

header_enough : (as_hermite3 : Bool) (h : Head) (rest : List Form) → (h.date && h.originator) ≡ true
    → run as_hermite3 (Header h) (Mark MetaStart ∷ rest) ≡ run as_hermite3 (Meta NO_BODY EMPTY) rest
header_enough as_hermite3 h rest e = ap (λ (b : Bool). (if b then Ok (Meta NO_BODY EMPTY) else Err causes.Missing) >>= λ next. run as_hermite3 next rest) e

-- the header leads to where a block may begin
run_blocks : (as_hermite3 : Bool) (h : Head) (blocks : List Form) → (h.date && h.originator) ≡ true → Begins blocks
    → run as_hermite3 (Header h) blocks ≡ run as_hermite3 (After NO_BODY) blocks
run_blocks as_hermite3 h blocks e b =
    ap (run as_hermite3 (Header h)) b.1 ∙ header_enough as_hermite3 h b.0 e ∙ ap (run as_hermite3 (After NO_BODY)) (sym b.1)

file_again : (as_hermite3 : Bool) (forms : List Form) (e : PlainTrack) → IsFile as_hermite3 forms e → run as_hermite3 Start forms ≡ Ok (body_of e)
file_again as_hermite3 forms e f =
    let header = header_again f.entries f.header in
    let rest = pair_lines f.entries ++ f.blocks in
    ap (run as_hermite3 Start) f.shape
    ∙ ap (λ (b : Bool). (if b then Ok (Header NO_HEAD) else Err causes.Version) >>= λ next. run as_hermite3 next rest) (version_again f.version f.known)
    ∙ run_header as_hermite3 f.entries NO_HEAD header.0 f.blocks header.1
    ∙ run_blocks as_hermite3 header.0 f.blocks header.2 (blocks_begin as_hermite3 (object_of e) 0 f.blocks e.segments f.segments)
    ∙ blocks_again as_hermite3 (object_of e) 0 f.blocks e.segments f.segments NO_BODY tt refl

-- ---- the bytes

ok_without_line : {A : Type 0} (r : Result A Fault) (x : A) → without_line r ≡ Ok x → r ≡ Ok x
ok_without_line (Ok y) x e = cc
ok_without_line (Err fault) x e = absurd cc

lines_say : (as_hermite3 : Bool) (file : List ℕ) (lines : List Numbered) (e : PlainTrack) → lines_read as_hermite3 file lines ≡ Ok e
    → IsFile as_hermite3 (telling lines) e × (e.file ≡ file)
unfolding lines_read
lines_say as_hermite3 file lines e read =
    let step = bind_ok (read_on as_hermite3 Start 1 lines) (λ body. with_object file body body.object) e read in
    let body = step.0 in
    let r = file_read as_hermite3 file (telling lines) body (sym (run_lines as_hermite3 lines Start 1) ∙ ap without_line step.1) in
    let told : ◌≡◌ {A = Result PlainTrack Fault} (Ok (said file r.object body.segments)) (Ok e) = ap (with_object file body) (sym r.named) ∙ step.2 in
    let same : said file r.object body.segments ≡ e = cc in
    (subst (IsFile as_hermite3 (telling lines)) same r.whole, ap (λ (x : PlainTrack). x.file) (sym same))

lines_again : (as_hermite3 : Bool) (file : List ℕ) (lines : List Numbered) (e : PlainTrack) → IsFile as_hermite3 (telling lines) e → e.file ≡ file → lines_read as_hermite3 file lines ≡ Ok e
unfolding lines_read
lines_again as_hermite3 file lines e f named =
    let read = ok_without_line (read_on as_hermite3 Start 1 lines) (body_of e) (run_lines as_hermite3 lines Start 1 ∙ file_again as_hermite3 (telling lines) e f) in
    ap (λ (r : Result Body Fault). r >>= λ body. with_object file body body.object) read
    ∙ ap (λ (name : List ℕ). Ok (record e { file = name })) (sym named)

-- a file that is read says by the grammar what was read
pub reading_says : (as_hermite3 : Bool) (file bytes : List ℕ) (e : PlainTrack) → reading file bytes as_hermite3 ≡ Ok e → Says as_hermite3 file bytes e
unfolding reading
reading_says as_hermite3 file bytes e read =
    let named = wanted (is_file_name file) (lines_or causes.Kvn (kvn.reading bytes) >>= lines_read as_hermite3 file) _ e read in
    let step = bind_ok (lines_or causes.Kvn (kvn.reading bytes)) (lines_read as_hermite3 file) e named.1 in
    let says = lines_say as_hermite3 file step.0 e step.2 in
    record { name = named.0; lines = step.0; named = says.1; readable = lines_ok causes.Kvn (kvn.reading bytes) step.0 step.1; whole = says.0 }

-- what a file says by the grammar is read
pub says_reading : (as_hermite3 : Bool) (file bytes : List ℕ) (e : PlainTrack) → Says as_hermite3 file bytes e → reading file bytes as_hermite3 ≡ Ok e
unfolding reading
says_reading as_hermite3 file bytes e says =
    ap (λ (b : Bool). if b then lines_or causes.Kvn (kvn.reading bytes) >>= lines_read as_hermite3 file else Err (record { line = 0; cause = causes.Name })) says.name
    ∙ ap (λ (r : Result (List Numbered) (LineFault KvnCause)). lines_or causes.Kvn r >>= lines_read as_hermite3 file) says.readable
    ∙ lines_again as_hermite3 file says.lines e says.whole says.named

-- so the grammar says just which files are read, and what they say
pub reading_iff : (as_hermite3 : Bool) (file bytes : List ℕ) (e : PlainTrack) → (reading file bytes as_hermite3 ≡ Ok e) ↔ Says as_hermite3 file bytes e
reading_iff as_hermite3 file bytes e = (reading_says as_hermite3 file bytes e, says_reading as_hermite3 file bytes e)

-- a file says one ephemeris at most
pub says_one : (as_hermite3 : Bool) (file bytes : List ℕ) (d e : PlainTrack) → Says as_hermite3 file bytes d → Says as_hermite3 file bytes e → d ≡ e
says_one as_hermite3 file bytes d e a b =
    let first = says_reading as_hermite3 file bytes d a in
    let second = says_reading as_hermite3 file bytes e b in
    let both : ◌≡◌ {A = Result PlainTrack Fault} (Ok d) (Ok e) = sym first ∙ second in
    cc

-- ---- what a program answers

-- a track that it gives is said by the grammar
pub gives_says : (as_hermite3 : Bool) (file bytes : List ℕ) (result : Result Track (TextFault OemCause)) → Gives result (reading file bytes as_hermite3)
    → IfOk result (λ track. Says as_hermite3 file bytes (plain_track track))
gives_says as_hermite3 file bytes (Ok track) e = reading_says as_hermite3 file bytes (plain_track track) e
gives_says as_hermite3 file bytes (Err fault) e = tt

is_track_of : (e : PlainTrack) (result : Result Track (TextFault OemCause)) → Gives result (Ok e) → IsTrackOf result e
is_track_of e (Ok track) same = cc
is_track_of e (Err (At line cause)) same = absurd cc
is_track_of e (Err Memory) same = tt

-- what the grammar says it gives
pub gives_accepts : (as_hermite3 : Bool) (file bytes : List ℕ) (result : Result Track (TextFault OemCause)) → Gives result (reading file bytes as_hermite3)
    → (e : PlainTrack) → Says as_hermite3 file bytes e → IsTrackOf result e
gives_accepts as_hermite3 file bytes result gives e says = is_track_of e result (subst (Gives result) (says_reading as_hermite3 file bytes e says) gives)

-- where it finds a fault the grammar says nothing
pub gives_refuses : (as_hermite3 : Bool) (file bytes : List ℕ) (result : Result Track (TextFault OemCause)) → Gives result (reading file bytes as_hermite3)
    → IfErr result (λ fault. IsOfFile fault → (e : PlainTrack) → Says as_hermite3 file bytes e → ⊥)
gives_refuses as_hermite3 file bytes (Ok track) gives = tt
gives_refuses as_hermite3 file bytes (Err (At line cause)) gives = λ _ e says. gives_accepts as_hermite3 file bytes (Err (At line cause)) gives e says
gives_refuses as_hermite3 file bytes (Err Memory) gives = λ none e says. none
