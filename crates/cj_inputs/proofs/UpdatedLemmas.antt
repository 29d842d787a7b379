-- Tracks of the updated files: those of the base, some let go and some put in their places.
use Rattle.std.proofs.Common.{◌≡◌, ◌∙◌, ℕ, ◌+◌, ◌<◌, ◌≤◌, Bool, true, false, List, [], ◌∷◌, ◌++◌, length, map, take, drop, cond, Ok, Err, Result, refl, sym, ap, subst, arith}
use Rattle.std.specs.Prelude.{fold}
use Rattle.std.specs.Str.{bytes_eq}
use Rattle.std.proofs.lemmas.List.{length-map, map-append, take-append-drop}
use Rattle.cj_case.specs.CaseLimits.{node_total}
use Rattle.cj_case.specs.Frames.{HaveOneFrame}
use Rattle.cj_io.specs.declared.file.FileBytes.{FileBytes}
use Rattle.cj_track.specs.PlainTracks.{PlainTrack}
use Rattle.cj_track.specs.Tracks.{plain_track}
use Rattle.cj_track.specs.declared.track.Track.{Track}
use Rattle.cj_words.specs.Settings.{PlainSettings}
use Rattle.cj_status.specs.declared.status.Status.{Status}
use Rattle.cj_status.specs.declared.status.Status.TheVariants as status
use Rattle.cj_status.specs.declared.status.LimitFault.TheVariants.{Objects}
use Rattle.cj_inputs.specs.declared.input_files.Entry.{Entry}
use Rattle.cj_inputs.specs.Places.{file_of}
use Rattle.cj_inputs.specs.Readings.{nodes_in, readings_of}
use Rattle.cj_inputs.specs.Updates.{PlainUpdated, updated_names, updated_with, updates_after, with_others, without_first}
use Rattle.cj_inputs.proofs.FrameLemmas.{frame_said, one_frame}
use Rattle.cj_inputs.proofs.PlaceLemmas.{others_long, places_said}
use Rattle.cj_inputs.proofs.ReadingLemmas.{same_nodes}
use Rattle.cj_inputs.proofs.UpdateLemmas.{AreOf, file_name, nodes_both, nodes_fewer, of_behind, of_front, of_updated, updated_read}
use Rattle.cj_inputs.proofs.UpdateStepLemmas.{updated_made, updated_too_many}

-- no more are left than there were
pub fewer_stay : {X : Type 0} (n : X → List ℕ) (names : List (List ℕ)) (xs : List X) → length (fold (without_first n) xs names) ≤ length xs
fewer_stay n [] xs = omega arith
fewer_stay {X} n (name ∷ names) xs = omega (arith, fewer_stay n names (without_first n xs name), one_less xs)
  where
    one_less : (xs : List X) → length (without_first n xs name) ≤ length xs
    one_less [] = omega arith
    one_less (x ∷ xs) = decided (bytes_eq (n x) name) (one_less xs)
      where
        decided : (b : Bool) → length (without_first n xs name) ≤ length xs → length (cond b xs (x ∷ without_first n xs name)) ≤ length (x ∷ xs)
        decided true later = omega arith
        decided false later = omega (arith, later)

-- of tracks of which the first so many are the base, the updates let go of some of its copies, and put the others in their places
pub record ArePlaced (many : ℕ) (names : List (List ℕ)) (all base others copies left new : List Track) : Type 0 where
  pub first : base ≡ take many all
  pub last : others ≡ drop many all
  pub alike : map plain_track copies ≡ map plain_track base
  pub stay : left ≡ fold (without_first file_of) copies names
  pub whole : new ≡ with_others file_of others left

-- what they say
pub placed_said : (many : ℕ) (names : List (List ℕ)) (all base others copies left new : List Track) → ArePlaced many names all base others copies left new
    → map plain_track new ≡ with_others file_name (map plain_track others) (fold (without_first file_name) (map plain_track base) names)
placed_said many names all base others copies left new placed =
    ap (λ (ts : List Track). map plain_track ts) (placed.whole ∙ ap (λ (ts : List Track). with_others file_of others ts) placed.stay)
    ∙ places_said names others copies
    ∙ ap (λ (ts : List PlainTrack). with_others file_name (map plain_track others) (fold (without_first file_name) ts names)) placed.alike

-- all are the base and the others
both_said : (many : ℕ) (all base others : List Track) → base ≡ take many all → others ≡ drop many all → map plain_track all ≡ map plain_track base ++ map plain_track others
both_said many all base others is also =
    ap (λ (ts : List Track). map plain_track ts) (sym (take-append-drop many all) ∙ ap (λ (ts : List Track). ts ++ drop many all) (sym is) ∙ ap (λ (ts : List Track). base ++ ts) (sym also))
    ∙ map-append plain_track base others

-- base and updated tracks are of one frame, and of no more nodes than all
pub record AreSound (all base new : List Track) : Type 0 where
  pub base_frame : HaveOneFrame base
  pub new_frame : HaveOneFrame new
  pub base_nodes : node_total base ≤ node_total all
  pub new_nodes : node_total new ≤ node_total all

pub placed_sound : (many : ℕ) (names : List (List ℕ)) (all base others copies left new : List Track) → ArePlaced many names all base others copies left new → HaveOneFrame all
    → AreSound all base new
placed_sound many names all base others copies left new placed one =
    let framed = frame_said all one in
    let both = both_said many all base others placed.first placed.last in
    let says = placed_said many names all base others copies left new placed in
    let are : AreOf framed.0 (map plain_track base ++ map plain_track others) = subst (AreOf framed.0) both framed.1 in
    let first = of_front framed.0 (map plain_track base) (map plain_track others) are in
    let last = of_behind framed.0 (map plain_track base) (map plain_track others) are in
    let total : node_total all ≡ nodes_in (map plain_track base ++ map plain_track others) = sym (same_nodes all) ∙ ap nodes_in both in
    record {
      base_frame = one_frame framed.0 base first;
      new_frame = one_frame framed.0 new (subst (AreOf framed.0) (sym says) (of_updated framed.0 names (map plain_track others) (map plain_track base) last first));
      base_nodes = omega (arith, total, same_nodes base, nodes_both (map plain_track base) (map plain_track others));
      new_nodes = omega (arith, total, same_nodes new, ap nodes_in says, nodes_fewer names (map plain_track others) (map plain_track base));
    }

-- lists that are put together alike have the same parts
same_parts : (some more first rest : List PlainTrack) → some ++ more ≡ first ++ rest → length some ≡ length first → (some ≡ first) × (more ≡ rest)
same_parts [] more [] rest is long = (refl, is)
same_parts [] more (t ∷ first) rest is long = absurd (omega (arith, long))
same_parts (t ∷ some) more [] rest is long = absurd (omega (arith, long))
same_parts (t ∷ some) more (u ∷ first) rest is long =
    let here : t ≡ u = cc in
    let behind : some ++ more ≡ first ++ rest = cc in
    let parts = same_parts some more first rest behind (omega (arith, long)) in
    (ap (λ (x : PlainTrack). x ∷ some) here ∙ ap (λ (xs : List PlainTrack). u ∷ xs) parts.0, parts.1)

-- where they are not too many, they are what the updated files say
pub placed_made : (files : List FileBytes) (settings : PlainSettings) (update : List ℕ) (entries updates : List Entry) (many : ℕ) (all base others copies left new : List Track)
    (told : List PlainTrack) → ArePlaced many (updated_names update updates) all base others copies left new → length base ≡ many → length told ≡ many
    → readings_of settings files entries ≡ Ok told → updates_after settings update files told updates ≡ Ok (map plain_track all) → length new ≤ settings.limits.objects
    → updated_with files settings update entries updates told ≡ Ok (record { base = map plain_track base; new = map plain_track new })
placed_made files settings update entries updates many all base others copies left new told placed long count is more few =
    let names = updated_names update updates in
    let says = updated_read settings update files entries updates told (map plain_track all) is more in
    let both = both_said many all base others placed.first placed.last in
    let parts = same_parts told says.others (map plain_track base) (map plain_track others) (sym says.whole ∙ both) (omega (arith, long, count, length-map base plain_track)) in
    let said = placed_said many names all base others copies left new placed in
    let due : map plain_track new ≡ with_others file_name says.others (fold (without_first file_name) told names) =
    said
    ∙ ap (λ (ts : List PlainTrack). with_others file_name ts (fold (without_first file_name) (map plain_track base) names)) (sym parts.1)
    ∙ ap (λ (ts : List PlainTrack). with_others file_name says.others (fold (without_first file_name) ts names)) (sym parts.0) in
    let made : List PlainTrack → Result PlainUpdated Status = λ some. Ok (record { base = some; new = map plain_track new }) in
    updated_made files settings update entries updates told (map plain_track all) (map plain_track new) says (omega (arith, few, length-map new plain_track)) due
    ∙ ap made parts.0

-- where they are, it is told how many
pub placed_too_many : (files : List FileBytes) (settings : PlainSettings) (update : List ℕ) (entries updates : List Entry) (many count : ℕ) (all base others copies left : List Track)
    (told : List PlainTrack) → ArePlaced many (updated_names update updates) all base others copies left (with_others file_of others left) → length base ≡ many → length told ≡ many
    → readings_of settings files entries ≡ Ok told → updates_after settings update files told updates ≡ Ok (map plain_track all)
    → count ≡ length left + length others → settings.limits.objects < count
    → updated_with files settings update entries updates told ≡ Err (status.Limit (Objects count))
placed_too_many files settings update entries updates many count all base others copies left told placed long same is more counted beyond =
    let names = updated_names update updates in
    let new = with_others file_of others left in
    let says = updated_read settings update files entries updates told (map plain_track all) is more in
    let both = both_said many all base others placed.first placed.last in
    let parts = same_parts told says.others (map plain_track base) (map plain_track others) (sym says.whole ∙ both) (omega (arith, long, same, length-map base plain_track)) in
    let said = placed_said many names all base others copies left new placed in
    let due : map plain_track new ≡ with_others file_name says.others (fold (without_first file_name) told names) =
    said
    ∙ ap (λ (ts : List PlainTrack). with_others file_name ts (fold (without_first file_name) (map plain_track base) names)) (sym parts.1)
    ∙ ap (λ (ts : List PlainTrack). with_others file_name says.others (fold (without_first file_name) ts names)) (sym parts.0) in
    updated_too_many files settings update entries updates told count
    (omega (arith, counted, says.long, ap (λ (ts : List PlainTrack). length ts) due, length-map new plain_track, others_long file_of others left)) beyond
