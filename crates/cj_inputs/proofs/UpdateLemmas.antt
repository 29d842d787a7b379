-- Base files and updates that are read, and the updated files, which then are read too.
use Rattle.std.proofs.Common.{◌≡◌, ℕ, ◌+◌, ◌≤◌, Bool, true, false, List, [], ◌∷◌, ◌++◌, length, cond, Ok, Err, Result, refl, sym, ap, subst, ◌∙◌, append_assoc, arith}
use Rattle.std.specs.Prelude.{fold, nat_le}
use Rattle.std.specs.Cmp.Lexicographic.{slice_cmp}
use Rattle.std.specs.List.{AllZip}
use Rattle.std.specs.Ordering.{is_lt, nat_cmp}
use Rattle.std.specs.Str.{bytes_eq}
use Rattle.std.proofs.lemmas.Bool.Decides.{nat_tests}
use Rattle.std.proofs.lemmas.List.{append-nil}
use Rattle.std.proofs.lemmas.List.Sums.{sum_by-cons}
use Rattle.cj_io.specs.declared.file.FileBytes.{FileBytes}
use Rattle.cj_io.specs.Files.{bytes_of}
use Rattle.cj_track.specs.PlainTracks.{PlainTrack}
use Rattle.cj_track.specs.declared.frame.Frame.{Frame}
use Rattle.cj_track.specs.declared.frame.Frame.TheVariants as frames
use Rattle.cj_oem.specs.Metadata.{same_frame}
use Rattle.cj_oem.specs.Reading.{Fault, reading}
use Rattle.cj_words.specs.Settings.{PlainSettings}
use Rattle.cj_status.specs.declared.status.Status.{Status}
use Rattle.cj_status.specs.declared.status.Status.TheVariants.{BadFile, Limit}
use Rattle.cj_status.specs.declared.status.FileCause.TheVariants.{MixedFrames}
use Rattle.cj_status.specs.declared.status.LimitFault.TheVariants.{FileBytes as LongFile, Nodes}
use Rattle.cj_status.specs.Steps.{◌>>=◌}
use Rattle.cj_inputs.specs.declared.input_files.Entry.{Entry}
use Rattle.cj_inputs.specs.Orders.{inserted}
use Rattle.cj_inputs.specs.Readings.{checked_after, has_frame_of, nodes_in, nodes_of, reading_after, reading_of, readings_after, readings_of, refused_of, same_frame_as, within_bytes, within_nodes}
use Rattle.cj_inputs.specs.Updates.{as_updated, by_name, entry_name, filled, is_filled, said_behind, update_after, updated_name, updated_names, updated_of, updates_after, with_others, without_first}
use Rattle.cj_inputs.specs.Trims.{left_said, trims_of}
use Rattle.cj_inputs.proofs.BatchLemmas.{said_named}
use Rattle.cj_inputs.proofs.ReadingLemmas.{frames_tied, within_most}
use Rattle.cj_inputs.proofs.TrimLemmas.{left_file, left_ok, left_there}
use Rattle.cj_inputs.proofs.WithinLemmas.{let_through, step_there}

-- the name of the file of an ephemeris
abbrev pub file_name : PlainTrack → List ℕ
file_name track = track.file

-- this is taken of a file of this name and with this number
pub record IsRead (settings : PlainSettings) (files : List FileBytes) (entry : Entry) (track : PlainTrack) : Type 0 where
  pub said : left_said (trims_of settings) (reading_of settings.as_hermite3 entry.name (bytes_of files entry.number)) ≡ Ok track
  pub named : track.file ≡ entry.name

ok_is : {A : Type 0} {x y : A} → ◌≡◌ {A = Result A Status} (Ok x) (Ok y) → x ≡ y
ok_is is = cc

-- ---- lists of which one names what the other has

alike_first : {X Y : Type 0} (R : X → Y → Type 0) (n : X → List ℕ) (m : Y → List ℕ) → ((x : X) (y : Y) → R x y → m y ≡ n x) → (xs : List X) (ys : List Y) (name : List ℕ)
    → AllZip R xs ys → AllZip R (without_first n xs name) (without_first m ys name)
alike_first R n m same [] [] name all = tt
alike_first R n m same [] (y ∷ ys) name all = absurd all
alike_first R n m same (x ∷ xs) [] name all = absurd all
alike_first {X} {Y} R n m same (x ∷ xs) (y ∷ ys) name all =
    let one : bytes_eq (m y) name ≡ bytes_eq (n x) name = ap (λ (text : List ℕ). bytes_eq text name) (same x y all.0) in
    rw one (decided (bytes_eq (n x) name) (alike_first R n m same xs ys name all.1))
  where
    decided : (b : Bool) → AllZip R (without_first n xs name) (without_first m ys name)
        → AllZip R (cond b xs (x ∷ without_first n xs name)) (cond b ys (y ∷ without_first m ys name))
    decided true later = all.1
    decided false later = (all.0, later)

pub alike_without : {X Y : Type 0} (R : X → Y → Type 0) (n : X → List ℕ) (m : Y → List ℕ) → ((x : X) (y : Y) → R x y → m y ≡ n x) → (names : List (List ℕ)) (xs : List X) (ys : List Y)
    → AllZip R xs ys → AllZip R (fold (without_first n) xs names) (fold (without_first m) ys names)
alike_without R n m same [] xs ys all = all
alike_without R n m same (name ∷ names) xs ys all =
    alike_without R n m same names (without_first n xs name) (without_first m ys name) (alike_first R n m same xs ys name all)

alike_inserted : {X Y : Type 0} (R : X → Y → Type 0) (n : X → List ℕ) (m : Y → List ℕ) → ((x : X) (y : Y) → R x y → m y ≡ n x) → (x : X) (y : Y) (xs : List X) (ys : List Y) → R x y
    → AllZip R xs ys → AllZip R (inserted (by_name n) x xs) (inserted (by_name m) y ys)
alike_inserted R n m same x y [] [] one all = (one, tt)
alike_inserted R n m same x y [] (w ∷ ys) one all = absurd all
alike_inserted R n m same x y (z ∷ xs) [] one all = absurd all
alike_inserted {X} {Y} R n m same x y (z ∷ xs) (w ∷ ys) one all =
    let first : is_lt (by_name m w y) ≡ is_lt (slice_cmp nat_cmp (n z) (m y)) = ap (λ (text : List ℕ). is_lt (slice_cmp nat_cmp text (m y))) (same z w all.0) in
    let tied : is_lt (by_name m w y) ≡ is_lt (by_name n z x) = first ∙ ap (λ (text : List ℕ). is_lt (slice_cmp nat_cmp (n z) text)) (same x y one) in
    rw tied (decided (is_lt (by_name n z x)) (alike_inserted R n m same x y xs ys one all.1))
  where
    decided : (b : Bool) → AllZip R (inserted (by_name n) x xs) (inserted (by_name m) y ys)
        → AllZip R (cond b (z ∷ inserted (by_name n) x xs) (x ∷ z ∷ xs)) (cond b (w ∷ inserted (by_name m) y ys) (y ∷ w ∷ ys))
    decided true later = (all.0, later)
    decided false later = (one, all)

pub alike_others : {X Y : Type 0} (R : X → Y → Type 0) (n : X → List ℕ) (m : Y → List ℕ) → ((x : X) (y : Y) → R x y → m y ≡ n x) → (others : List X) (more : List Y) (xs : List X) (ys : List Y)
    → AllZip R others more → AllZip R xs ys → AllZip R (with_others n others xs) (with_others m more ys)
alike_others R n m same [] [] xs ys some all = all
alike_others R n m same [] (y ∷ more) xs ys some all = absurd some
alike_others R n m same (x ∷ others) [] xs ys some all = absurd some
alike_others R n m same (x ∷ others) (y ∷ more) xs ys some all =
    alike_inserted R n m same x y (with_others n others xs) (with_others m more ys) some.0 (alike_others R n m same others more xs ys some.1 all)

pub alike_long : {X Y : Type 0} (R : X → Y → Type 0) (xs : List X) (ys : List Y) → AllZip R xs ys → length xs ≡ length ys
alike_long R [] [] all = refl
alike_long R [] (y ∷ ys) all = absurd all
alike_long R (x ∷ xs) [] all = absurd all
alike_long R (x ∷ xs) (y ∷ ys) all = omega (arith, alike_long R xs ys all.1)

alike_appended : {X Y : Type 0} (R : X → Y → Type 0) (xs : List X) (ys : List Y) (x : X) (y : Y) → AllZip R xs ys → R x y → AllZip R (xs ++ x ∷ []) (ys ++ y ∷ [])
alike_appended R [] [] x y all one = (one, tt)
alike_appended R [] (z ∷ ys) x y all one = absurd all
alike_appended R (z ∷ xs) [] x y all one = absurd all
alike_appended R (z ∷ xs) (w ∷ ys) x y all one = (all.0, alike_appended R xs ys x y all.1 one)

-- ---- ephemerides of one frame and of few nodes

-- each has this frame
abbrev pub AreOf : Frame → List PlainTrack → Type 0
AreOf frame [] = Unit {0}
AreOf frame (track ∷ tracks) = (track.frame ≡ frame) × AreOf frame tracks

of_append : (frame : Frame) (some more : List PlainTrack) → AreOf frame some → AreOf frame more → AreOf frame (some ++ more)
of_append frame [] more are also = also
of_append frame (track ∷ some) more are also = (are.0, of_append frame some more are.1 also)

pub of_behind : (frame : Frame) (some more : List PlainTrack) → AreOf frame (some ++ more) → AreOf frame more
of_behind frame [] more are = are
of_behind frame (track ∷ some) more are = of_behind frame some more are.1

pub of_front : (frame : Frame) (some more : List PlainTrack) → AreOf frame (some ++ more) → AreOf frame some
of_front frame [] more are = tt
of_front frame (track ∷ some) more are = (are.0, of_front frame some more are.1)

of_first : (frame : Frame) (tracks : List PlainTrack) (name : List ℕ) → AreOf frame tracks → AreOf frame (without_first file_name tracks name)
of_first frame [] name are = tt
of_first frame (track ∷ tracks) name are = decided (bytes_eq track.file name) (of_first frame tracks name are.1)
  where
    decided : (b : Bool) → AreOf frame (without_first file_name tracks name) → AreOf frame (cond b tracks (track ∷ without_first file_name tracks name))
    decided true later = are.1
    decided false later = (are.0, later)

of_without : (frame : Frame) (names : List (List ℕ)) (tracks : List PlainTrack) → AreOf frame tracks → AreOf frame (fold (without_first file_name) tracks names)
of_without frame [] tracks are = are
of_without frame (name ∷ names) tracks are = of_without frame names (without_first file_name tracks name) (of_first frame tracks name are)

of_inserted : (frame : Frame) (track : PlainTrack) (tracks : List PlainTrack) → track.frame ≡ frame → AreOf frame tracks → AreOf frame (inserted (by_name file_name) track tracks)
of_inserted frame track [] one are = (one, tt)
of_inserted frame track (first ∷ tracks) one are = decided (is_lt (by_name file_name first track)) (of_inserted frame track tracks one are.1)
  where
    decided : (b : Bool) → AreOf frame (inserted (by_name file_name) track tracks) → AreOf frame (cond b (first ∷ inserted (by_name file_name) track tracks) (track ∷ first ∷ tracks))
    decided true later = (are.0, later)
    decided false later = (one, are)

-- so has each where some take the places of others
pub of_others : (frame : Frame) (others tracks : List PlainTrack) → AreOf frame others → AreOf frame tracks → AreOf frame (with_others file_name others tracks)
of_others frame [] tracks some are = are
of_others frame (other ∷ others) tracks some are = of_inserted frame other (with_others file_name others tracks) some.0 (of_others frame others tracks some.1 are)

pub of_updated : (frame : Frame) (names : List (List ℕ)) (others tracks : List PlainTrack) → AreOf frame others → AreOf frame tracks
    → AreOf frame (with_others file_name others (fold (without_first file_name) tracks names))
of_updated frame names others tracks some are = of_others frame others (fold (without_first file_name) tracks names) some (of_without frame names tracks are)

-- how many nodes there are with one more, and with others
nodes_more : (track : PlainTrack) (tracks : List PlainTrack) → nodes_in (track ∷ tracks) ≡ nodes_of track + nodes_in tracks
nodes_more track tracks = sum_by-cons nodes_of track tracks

pub nodes_both : (some more : List PlainTrack) → nodes_in (some ++ more) ≡ nodes_in some + nodes_in more
nodes_both [] more = omega arith
nodes_both (track ∷ some) more = omega (arith, nodes_more track (some ++ more), nodes_both some more, nodes_more track some)

fewer_first : (tracks : List PlainTrack) (name : List ℕ) → nodes_in (without_first file_name tracks name) ≤ nodes_in tracks
fewer_first [] name = omega arith
fewer_first (track ∷ tracks) name = decided (bytes_eq track.file name) (fewer_first tracks name)
  where
    decided : (b : Bool) → nodes_in (without_first file_name tracks name) ≤ nodes_in tracks
        → nodes_in (cond b tracks (track ∷ without_first file_name tracks name)) ≤ nodes_in (track ∷ tracks)
    decided true later = omega (arith, nodes_more track tracks)
    decided false later = omega (arith, later, nodes_more track tracks, nodes_more track (without_first file_name tracks name))

fewer_without : (names : List (List ℕ)) (tracks : List PlainTrack) → nodes_in (fold (without_first file_name) tracks names) ≤ nodes_in tracks
fewer_without [] tracks = omega arith
fewer_without (name ∷ names) tracks = omega (arith, fewer_without names (without_first file_name tracks name), fewer_first tracks name)

nodes_inserted : (track : PlainTrack) (tracks : List PlainTrack) → nodes_in (inserted (by_name file_name) track tracks) ≡ nodes_of track + nodes_in tracks
nodes_inserted track [] = nodes_more track []
nodes_inserted track (first ∷ tracks) = decided (is_lt (by_name file_name first track)) (nodes_inserted track tracks)
  where
    decided : (b : Bool) → nodes_in (inserted (by_name file_name) track tracks) ≡ nodes_of track + nodes_in tracks
        → nodes_in (cond b (first ∷ inserted (by_name file_name) track tracks) (track ∷ first ∷ tracks)) ≡ nodes_of track + nodes_in (first ∷ tracks)
    decided true later = omega (arith, later, nodes_more first (inserted (by_name file_name) track tracks), nodes_more first tracks)
    decided false later = nodes_more track (first ∷ tracks)

nodes_others : (others tracks : List PlainTrack) → nodes_in (with_others file_name others tracks) ≡ nodes_in others + nodes_in tracks
nodes_others [] tracks = omega arith
nodes_others (other ∷ others) tracks = omega (arith, nodes_inserted other (with_others file_name others tracks), nodes_others others tracks, nodes_more other others)

-- the updated files have no more nodes than base and updates together
pub nodes_fewer : (names : List (List ℕ)) (others tracks : List PlainTrack)
    → nodes_in (with_others file_name others (fold (without_first file_name) tracks names)) ≤ nodes_in (tracks ++ others)
nodes_fewer names others tracks = omega (arith, nodes_others others (fold (without_first file_name) tracks names), fewer_without names tracks, nodes_both tracks others)

-- they have one frame and at most so many nodes
pub record AreGood (most : ℕ) (tracks : List PlainTrack) : Type 0 where
  pub frame : Frame
  pub are : AreOf frame tracks
  pub few : nodes_in tracks ≤ most

pub none_good : (most : ℕ) → AreGood most []
none_good most = record { frame = frames.Eme2000; are = tt; few = omega arith }

-- what may stand behind those before it
checked_there : (most : ℕ) (before : List PlainTrack) (name : List ℕ) (track kept : PlainTrack) → checked_after most before name track ≡ Ok kept
    → (has_frame_of before track ≡ true) × (nodes_in (before ++ track ∷ []) ≤ most) × (track ≡ kept)
checked_there most before name track kept is =
    let one = step_there (same_frame_as before name track) (within_nodes most before) kept is in
    let framed = same (has_frame_of before track) one.0 one.1 in
    let few = let_through (nodes_in (before ++ one.0 ∷ [])) most one.0 kept (Limit (Nodes (nodes_in (before ++ one.0 ∷ [])))) one.2 in
    (framed.0, subst (λ (t : PlainTrack). nodes_in (before ++ t ∷ []) ≤ most) (sym framed.1) few.0, framed.1 ∙ few.1)
  where
    same : (b : Bool) (other : PlainTrack) → ◌≡◌ {A = Result PlainTrack Status} (cond b (Ok track) (Err (BadFile name 0 MixedFrames))) (Ok other) → (b ≡ true) × (track ≡ other)
    same true other h = (refl, cc)
    same false other h = absurd cc

frame_of_first : (frame : Frame) (first : PlainTrack) (before : List PlainTrack) (track : PlainTrack) → AreOf frame (first ∷ before) → has_frame_of (first ∷ before) track ≡ true
    → track.frame ≡ frame
frame_of_first frame first before track are tied = sym (frames_tied first.frame track.frame tied) ∙ are.0

good_more : (most : ℕ) (before : List PlainTrack) (name : List ℕ) (track kept : PlainTrack) → AreGood most before → checked_after most before name track ≡ Ok kept
    → AreGood most (before ++ kept ∷ [])
good_more most before name track kept good is =
    let there = checked_there most before name track kept is in
    subst (λ (t : PlainTrack). AreGood most (before ++ t ∷ [])) there.2 (whole before good there.0 there.1)
  where
    whole : (before : List PlainTrack) → AreGood most before → has_frame_of before track ≡ true → nodes_in (before ++ track ∷ []) ≤ most → AreGood most (before ++ track ∷ [])
    whole [] good tied few = record { frame = track.frame; are = (refl, tt); few = few }
    whole (first ∷ before) good tied few =
        record {
          frame = good.frame;
          are = of_append good.frame (first ∷ before) (track ∷ []) good.are (frame_of_first good.frame first before track good.are tied, tt);
          few = few;
        }

-- ---- what is read

pub unrefused : (name : List ℕ) (r : Result PlainTrack Fault) (track : PlainTrack) → refused_of name r ≡ Ok track → r ≡ Ok track
unrefused name (Ok kept) track is = let one : kept ≡ track = cc in ap Ok one
unrefused name (Err fault) track is = absurd cc

whole_named : (as_hermite3 : Bool) (name bytes : List ℕ) (track : PlainTrack) → reading_of as_hermite3 name bytes ≡ Ok track → track.file ≡ name
unfolding reading_of
whole_named as_hermite3 name bytes track is =
    let whole = step_there (within_bytes name bytes) (λ some. refused_of name (reading name some as_hermite3)) track is in
    said_named as_hermite3 name whole.0 track whole.2

read_named : (settings : PlainSettings) (name bytes : List ℕ) (track : PlainTrack) → left_said (trims_of settings) (reading_of settings.as_hermite3 name bytes) ≡ Ok track → track.file ≡ name
read_named settings name bytes track is =
    let whole = left_there (trims_of settings) (reading_of settings.as_hermite3 name bytes) track is in
    ap (λ (e : PlainTrack). e.file) (sym whole.2) ∙ left_file (trims_of settings) whole.0 ∙ whole_named settings.as_hermite3 name bytes whole.0 whole.1

-- what is read behind others, file by file
pub record AreRead (settings : PlainSettings) (files : List FileBytes) (before all : List PlainTrack) (entries : List Entry) : Type 0 where
  pub more : List PlainTrack
  pub whole : all ≡ before ++ more
  pub each : AllZip (IsRead settings files) entries more
  pub good : AreGood settings.limits.nodes all

one_read : (settings : PlainSettings) (files : List FileBytes) (before all : List PlainTrack) (entry : Entry) (entries : List Entry) (track : PlainTrack)
    → IsRead settings files entry track → AreRead settings files (before ++ track ∷ []) all entries → AreRead settings files before all (entry ∷ entries)
one_read settings files before all entry entries track one rest = record {
  more = track ∷ rest.more;
  whole = rest.whole ∙ append_assoc before (track ∷ []) rest.more;
  each = (one, rest.each);
  good = rest.good;
}

pub files_read : (settings : PlainSettings) (files : List FileBytes) (before all : List PlainTrack) (entries : List Entry) → AreGood settings.limits.nodes before
    → readings_after settings files before entries ≡ Ok all → AreRead settings files before all entries
files_read settings files before all [] good is =
    let same : before ≡ all = cc in
    record { more = []; whole = sym same ∙ sym (append-nil before); each = tt; good = subst (AreGood settings.limits.nodes) same good }
files_read settings files before all (entry ∷ entries) good is =
    let bytes = bytes_of files entry.number in
    let most = settings.limits.nodes in
    let one = step_there (reading_after settings files before entry) (λ track. readings_after settings files (before ++ track ∷ []) entries) all is in
    let due = left_said (trims_of settings) (reading_of settings.as_hermite3 entry.name bytes) in
    let said = step_there due (checked_after most before entry.name) one.0 one.1 in
    let kept = (checked_there most before entry.name said.0 one.0 said.2).2 in
    let read : due ≡ Ok one.0 = said.1 ∙ ap (λ (t : PlainTrack). Ok t) kept in
    one_read settings files before all entry entries one.0 (record { said = read; named = read_named settings entry.name bytes one.0 read })
    (files_read settings files (before ++ one.0 ∷ []) all entries (good_more most before entry.name said.0 one.0 good said.2) one.2)

-- what the bytes of an update say that has some
one_said : (as_hermite3 : Bool) (name read bytes : List ℕ) (track : PlainTrack) → length bytes ≤ 67_108_864 → refused_of name (reading read bytes as_hermite3) ≡ Ok track
    → reading_of as_hermite3 read bytes ≡ Ok track
unfolding reading_of
one_said as_hermite3 name read bytes track small is =
    ap (λ (r : Result (List ℕ) Status). r >>= λ whole. refused_of read (reading read whole as_hermite3)) (within_most 67_108_864 read bytes bytes refl small)
    ∙ ap (refused_of read) (unrefused name (reading read bytes as_hermite3) track is)

-- updates that are read: each that has bytes says an ephemeris under the name that it updates
pub updates_read : (settings : PlainSettings) (update : List ℕ) (files : List FileBytes) (before all : List PlainTrack) (updates : List Entry) → AreGood settings.limits.nodes before
    → updates_after settings update files before updates ≡ Ok all → AreRead settings files before all (filled update files updates)
updates_read settings update files before all [] good is = files_read settings files before all [] good is
updates_read settings update files before all (entry ∷ entries) good is =
    let one = step_there (update_after settings update files before entry) (λ some. updates_after settings update files some entries) all is in
    let whole = step_there (within_bytes entry.name (bytes_of files entry.number)) (said_behind settings update before entry.name) one.0 one.1 in
    let small = let_through (length (bytes_of files entry.number)) 67_108_864 (bytes_of files entry.number) whole.0 (Limit (LongFile entry.name)) whole.1 in
    let said = subst (λ (some : List ℕ). said_behind settings update before entry.name some ≡ Ok one.0) (sym small.1) whole.2 in
    decided (bytes_of files entry.number) refl one.0 small.0 said (λ some fine. updates_read settings update files some all entries fine) one.2
  where
    others : List Entry
    others = filled update files entries

    decided : (bytes : List ℕ) → bytes_of files entry.number ≡ bytes → (next : List PlainTrack) → length bytes ≤ 67_108_864
        → said_behind settings update before entry.name bytes ≡ Ok next
        → ((some : List PlainTrack) → AreGood settings.limits.nodes some → updates_after settings update files some entries ≡ Ok all → AreRead settings files some all others)
        → updates_after settings update files next entries ≡ Ok all → AreRead settings files before all (filled update files (entry ∷ entries))
    decided [] empty next small said later rest =
        let same : before ≡ next = ok_is said in
        let none : filled update files (entry ∷ entries) ≡ others = ap (λ (bytes : List ℕ). cond (is_filled bytes) (as_updated update entry ∷ others) others) empty in
        subst (AreRead settings files before all) (sym none)
        (later before good (subst (λ (some : List PlainTrack). updates_after settings update files some entries ≡ Ok all) (sym same) rest))
    decided (b ∷ bytes) full next small said later rest =
        let most = settings.limits.nodes in
        let read = updated_name update entry.name in
        let text = reading read (b ∷ bytes) settings.as_hermite3 in
        let trims = trims_of settings in
        let kept = step_there (left_said trims (refused_of entry.name text) >>= checked_after most before entry.name) (λ track. Ok (before ++ track ∷ [])) next said in
        let first = step_there (left_said trims (refused_of entry.name text)) (checked_after most before entry.name) kept.0 kept.1 in
        let whole = left_there trims (refused_of entry.name text) first.0 first.1 in
        let same : before ++ kept.0 ∷ [] ≡ next = ok_is kept.2 in
        let tied = (checked_there most before entry.name first.0 kept.0 first.2).2 in
        let told : left_said trims (reading_of settings.as_hermite3 read (b ∷ bytes)) ≡ Ok kept.0 =
        left_ok trims (reading_of settings.as_hermite3 read (b ∷ bytes)) whole.0 (one_said settings.as_hermite3 entry.name read (b ∷ bytes) whole.0 small whole.1)
        ∙ ap (λ (t : PlainTrack). Ok t) (whole.2 ∙ tied) in
        let here = subst (λ (some : List ℕ). left_said trims (reading_of settings.as_hermite3 read some) ≡ Ok kept.0) (sym full) told in
        let some : filled update files (entry ∷ entries) ≡ as_updated update entry ∷ others =
        ap (λ (bytes : List ℕ). cond (is_filled bytes) (as_updated update entry ∷ others) others) full in
        subst (AreRead settings files before all) (sym some)
        (one_read settings files before all (as_updated update entry) others kept.0
        (record { said = here; named = read_named settings read (bytes_of files entry.number) kept.0 here })
        (later (before ++ kept.0 ∷ []) (good_more most before entry.name first.0 kept.0 good first.2)
        (subst (λ (some : List PlainTrack). updates_after settings update files some entries ≡ Ok all) (sym same) rest)))

-- ---- what was read once is read again in any order

frame_tied : (frame : Frame) → same_frame frame frame ≡ true
frame_tied frames.Eme2000 = refl
frame_tied frames.Gcrf = refl

frame_there : (frame : Frame) (before : List PlainTrack) (track : PlainTrack) (more : List PlainTrack) → AreOf frame (before ++ track ∷ more) → has_frame_of before track ≡ true
frame_there frame [] track more are = refl
frame_there frame (first ∷ before) track more are =
    let here = (of_behind frame (first ∷ before) (track ∷ more) are).0 in
    ap (λ (f : Frame). same_frame f track.frame) are.0 ∙ ap (same_frame frame) here ∙ frame_tied frame

may_stand : (most : ℕ) (frame : Frame) (before : List PlainTrack) (name : List ℕ) (track : PlainTrack) (more : List PlainTrack) → AreOf frame (before ++ track ∷ more)
    → nodes_in (before ++ track ∷ more) ≤ most → checked_after most before name track ≡ Ok track
may_stand most frame before name track more are few =
    let fewer : nodes_in (before ++ track ∷ []) ≤ most =
    omega (arith, few, nodes_both before (track ∷ []), nodes_both before (track ∷ more), nodes_more track [], nodes_more track more) in
    let small : nat_le (nodes_in (before ++ track ∷ [])) most ≡ true = grind (arith, nat_tests) in
    let tied = frame_there frame before track more are in
    rw (tied, small) refl

pub read_anew : (settings : PlainSettings) (files : List FileBytes) (frame : Frame) (before : List PlainTrack) (entries : List Entry) (tracks : List PlainTrack)
    → AllZip (IsRead settings files) entries tracks → AreOf frame (before ++ tracks) → nodes_in (before ++ tracks) ≤ settings.limits.nodes
    → readings_after settings files before entries ≡ Ok (before ++ tracks)
read_anew settings files frame before [] [] each are few = ap (λ (ts : List PlainTrack). Ok ts) (sym (append-nil before))
read_anew settings files frame before [] (track ∷ tracks) each are few = absurd each
read_anew settings files frame before (entry ∷ entries) [] each are few = absurd each
read_anew settings files frame before (entry ∷ entries) (track ∷ tracks) each are few =
    let most = settings.limits.nodes in
    let here : reading_after settings files before entry ≡ Ok track =
    ap (λ (r : Result PlainTrack Status). r >>= checked_after most before entry.name) each.0.said ∙ may_stand most frame before entry.name track tracks are few in
    let one = append_assoc before (track ∷ []) tracks in
    ap (λ (r : Result PlainTrack Status). r >>= λ t. readings_after settings files (before ++ t ∷ []) entries) here
    ∙ read_anew settings files frame (before ++ track ∷ []) entries tracks each.1 (subst (AreOf frame) (sym one) are)
    (subst (λ (ts : List PlainTrack). nodes_in ts ≤ most) (sym one) few)
    ∙ ap (λ (ts : List PlainTrack). Ok ts) one

-- what the updated files say
pub record SaysUpdated (settings : PlainSettings) (update : List ℕ) (files : List FileBytes) (entries updates : List Entry) (base all : List PlainTrack) : Type 0 where
  pub others : List PlainTrack
  pub whole : all ≡ base ++ others
  pub long : length (updated_of update files entries updates) ≡ length (with_others file_name others (fold (without_first file_name) base (updated_names update updates)))
  pub read : readings_of settings files (updated_of update files entries updates)
      ≡ Ok (with_others file_name others (fold (without_first file_name) base (updated_names update updates)))

-- where base files and updates are read, the updated files are
pub updated_read : (settings : PlainSettings) (update : List ℕ) (files : List FileBytes) (entries updates : List Entry) (base all : List PlainTrack)
    → readings_of settings files entries ≡ Ok base → updates_after settings update files base updates ≡ Ok all → SaysUpdated settings update files entries updates base all
unfolding updated_of
updated_read settings update files entries updates base all is more =
    let most = settings.limits.nodes in
    let R = IsRead settings files in
    let names = updated_names update updates in
    let first = files_read settings files [] base entries (none_good most) is in
    let also = updates_read settings update files base all updates first.good more in
    let placed = with_others file_name also.more (fold (without_first file_name) base names) in
    let same : (e : Entry) (t : PlainTrack) → R e t → file_name t ≡ entry_name e = λ e t one. one.named in
    let each = subst (AllZip R entries) (sym first.whole) first.each in
    let zipped = alike_others R entry_name file_name same (filled update files updates) also.more (fold (without_first entry_name) entries names) (fold (without_first file_name) base names)
    also.each (alike_without R entry_name file_name same names entries base each) in
    let frame = also.good.frame in
    let all_are : AreOf frame (base ++ also.more) = subst (AreOf frame) also.whole also.good.are in
    let are : AreOf frame placed = of_updated frame names also.more base (of_behind frame base also.more all_are) (of_front frame base also.more all_are) in
    let few : nodes_in placed ≤ most = omega (arith, nodes_fewer names also.more base, ap nodes_in also.whole, also.good.few) in
    record {
      others = also.more;
      whole = also.whole;
      long = alike_long R (with_others entry_name (filled update files updates) (fold (without_first entry_name) entries names)) placed zipped;
      read = read_anew settings files frame [] (with_others entry_name (filled update files updates) (fold (without_first entry_name) entries names)) placed zipped are few;
    }
