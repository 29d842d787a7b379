-- The bytes of a file by its place in the list, and parts of a file that come one after another.
use Rattle.std.proofs.Common.{◌≡◌, ℕ, zero, suc, ◌+◌, List, [], ◌∷◌, ◌++◌, ◌<◌, ◌≤◌, length, take, drop, sym, ap, ◌∙◌, arith, append_assoc, append-nil, length-append, slice_index_or, get_or}
use Rattle.std.proofs.lemmas.List.{length-take, take-take, take-append-le, take_all}
use Rattle.std.proofs.Math.Seq.{take-add, take-append-add}
use Rattle.cj_io.specs.declared.file.FileBytes.{FileBytes}
use Rattle.std.specs.Global.{Vec}
use Rattle.cj_io.specs.Faults.{Rose}
use Rattle.cj_io.specs.Files.{bytes_of, names_of, ReadsFrom}
use Rattle.cj_io.specs.Parts.{joined}

pub bytes_of-at : (files : List FileBytes) (n : ℕ) (file : FileBytes) → n < length files → file ≡ slice_index_or files n file → file.bytes ≡ bytes_of files n
bytes_of-at [] n file below is = absurd (omega arith)
bytes_of-at (f ∷ files) zero file below is = ap (λ (x : FileBytes). x.bytes) is
bytes_of-at (f ∷ files) (suc n) file below is = bytes_of-at files n file (omega arith) is

-- a part that was read behind a front stands there, in a buffer with more behind it
pub part_stands : (front part more rest : List ℕ) (read count room : ℕ) → length front ≡ read → count ≤ length part → read + count ≤ room
    → take (read + count) (take room (front ++ (part ++ more) ++ rest)) ≡ front ++ take count part
part_stands front part more rest read count room is within fits =
    take-take (read + count) room (front ++ (part ++ more) ++ rest) fits
    ∙ ap (λ (n : ℕ). take (n + count) (front ++ (part ++ more) ++ rest)) (sym is)
    ∙ ap (λ (xs : List ℕ). take (length front + count) xs) (simp append_assoc)
    ∙ take-append-add front (part ++ (more ++ rest)) count
    ∙ ap (λ (xs : List ℕ). front ++ xs) (take-append-le count part (more ++ rest) within)

-- and is within what is kept of that buffer
pub part_fits : (front part more rest : List ℕ) (read count room : ℕ) → length front ≡ read → count ≤ length part → read + count ≤ room
    → read + count ≤ length (take room (front ++ (part ++ more) ++ rest))
part_fits front part more rest read count room is within fits = simp (length-take, length-append) (omega arith)

-- what was read so far, with the part that came
pub next_part : (bytes front buffer : List ℕ) (read count : ℕ) → front ≡ take read bytes → ReadsFrom bytes read count buffer → front ++ take count buffer ≡ take (read + count) bytes
next_part bytes front buffer read count so_far came =
    ap (λ (xs : List ℕ). front ++ xs) came.front
    ∙ ap (λ (xs : List ℕ). xs ++ take count (drop read bytes)) so_far
    ∙ sym (take-add read count bytes)

-- a count that rose has risen since any earlier time
pub rose_since : (first before now : ℕ) → first ≤ before → Rose before now → Rose first now
rose_since first before now later rose = omega arith

-- the first parts with one more
pub joined_more : (parts : List (Vec ℕ)) (i : ℕ) (part : Vec ℕ) → i < length parts → part ≡ get_or parts i part → joined (take (i + 1) parts) ≡ joined (take i parts) ++ part.items
joined_more [] i part below is = absurd (omega arith)
joined_more (p ∷ parts) zero part below is = append-nil p.items ∙ ap (λ (q : Vec ℕ). q.items) (sym is)
joined_more (p ∷ parts) (suc i) part below is =
    let next : suc i + 1 ≡ suc (i + 1) = omega arith in
    rw next (ap (λ (xs : List ℕ). p.items ++ xs) (joined_more parts i part (omega arith) is) ∙ simp append_assoc)

-- the names of the first files with one more
named_more : (files : List FileBytes) (i : ℕ) (file : FileBytes) → i < length files → file ≡ get_or files i file
    → names_of (take (i + 1) files) ≡ names_of (take i files) ++ file.name ∷ []
named_more [] i file below is = absurd (omega arith)
named_more (f ∷ files) zero file below is = ap (λ (g : FileBytes). g.name ∷ []) (sym is)
named_more (f ∷ files) (suc i) file below is =
    let next : suc i + 1 ≡ suc (i + 1) = omega arith in
    rw next (ap (λ (names : List (List ℕ)). f.name ∷ names) (named_more files i file (omega arith) is))

-- and what names were copied, with a copy of the next one
pub names_grow : (files : List FileBytes) (i : ℕ) (file : FileBytes) (was now : List (List ℕ)) (name shown : List ℕ) → i < length files → file ≡ get_or files i file
    → was ≡ names_of (take i files) → now ≡ was ++ name ∷ [] → name ≡ shown → shown ≡ file.name → now ≡ names_of (take (i + 1) files)
names_grow files i file was now name shown below is so_far added copied same =
    added
    ∙ ap (λ (copy : List ℕ). was ++ copy ∷ []) (copied ∙ same)
    ∙ ap (λ (names : List (List ℕ)). names ++ file.name ∷ []) so_far
    ∙ sym (named_more files i file below is)

-- until all are copied
pub all_named : (files : List FileBytes) (i : ℕ) (names : List (List ℕ)) → names ≡ names_of (take i files) → length files ≤ i → names ≡ names_of files
all_named files i names so_far past = so_far ∙ ap names_of (take_all i files past)
