-- The kinds of lines of a certificate, and in which order they stand.
use Rattle.std.specs.Prelude.{ℕ, ◌+◌, ◌==◌, Bool, false, ◌&&◌, nat_le, nat_lt, if◌then◌else◌, List, codes, Option, Some, None}
use Rattle.std.specs.Str.{bytes_eq}
use Rattle.cj_cert_text.specs.declared.rank.Rank.{Rank}
use Rattle.cj_cert_text.specs.declared.rank.Rank.TheVariants.{Heading, Window, Threshold, Objects, Size, Primary, Shell, Box, Cell, End}

-- the place of a kind in their order
abbrev pub place : Rank → ℕ
place Heading = 1
place Window = 2
place Threshold = 3
place Objects = 4
place Size = 5
place Primary = 6
place Shell = 7
place Box = 8
place Cell = 9
place End = 10

-- the kind of the lines that begin with a word
unfoldable pub rank_of_word : List ℕ → Option Rank
rank_of_word word =
    if bytes_eq word (codes "CELL") then Some Cell
    else if bytes_eq word (codes "BOX") then Some Box
    else if bytes_eq word (codes "SHELL") then Some Shell
    else if bytes_eq word (codes "SIZE") then Some Size
    else if bytes_eq word (codes "PRIMARY") then Some Primary
    else if bytes_eq word (codes "CONJ-CERT") then Some Heading
    else if bytes_eq word (codes "WINDOW") then Some Window
    else if bytes_eq word (codes "THRESHOLD") then Some Threshold
    else if bytes_eq word (codes "OBJECTS") then Some Objects
    else if bytes_eq word (codes "END") then Some End
    else None

-- a line may stand first of all, or behind one of another kind: one of each of the first four in their order, then any number of each
abbrev pub may_follow : Rank → Option Rank → Bool
may_follow rank None = place rank == 1
may_follow rank (Some before) =
    if nat_lt (place before) 4 then place rank == place before + 1 else (nat_lt 4 (place rank) && nat_le (place before) (place rank))

-- the last line was there
abbrev pub has_ended : Option Rank → Bool
has_ended None = false
has_ended (Some before) = place before == 10
