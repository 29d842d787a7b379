-- What an epoch text says.
use Rattle.std.specs.Prelude.{◌≡◌, ℕ, ◌+◌, ◌-◌, ◌*◌, ◌^◌, ◌&&◌, ◌||◌, not, ◌==◌, nat_lt, if◌then◌else◌, List, [], ◌∷◌, length, take, drop, codes, Option, Some, None, Result, Ok, Err}
use Rattle.std.specs.Char.{is_ascii_digit}
use Rattle.std.specs.Io.BufRead.{strip_last}
use Rattle.std.specs.List.{list_all}
use Rattle.std.specs.Str.Parse.{digits_value}
use Rattle.cj_base.specs.Calendar.{day_at_date, day_at_ordinal}
use Rattle.cj_epoch.specs.Picture.{begins_like, number_at}
use Rattle.cj_base.specs.Ticks.{DAY, SECOND}
use Rattle.cj_base.specs.declared.tick.Tick.{Tick}
use Rattle.cj_epoch.specs.declared.fault.EpochFault.{EpochFault}
use Rattle.cj_epoch.specs.declared.fault.EpochFault.TheVariants.{Form, Range, SecondSixty, TooFine}

-- a date by month and day of the month, and a time of the day
abbrev pub CALENDAR : List ℕ
CALENDAR = codes "YYYY-MM-DDThh:mm:ss"

-- a date by the day of the year, and a time of the day
abbrev pub ORDINAL : List ℕ
ORDINAL = codes "YYYY-DDDThh:mm:ss"

-- the seconds from midnight to hh:mm:ss
abbrev pub second_at : ℕ → ℕ → ℕ → Result ℕ EpochFault
second_at hour minute second =
    if nat_lt 23 hour || nat_lt 59 minute || nat_lt 60 second then Err Range
    else if second == 60 then Err SecondSixty
    else Ok ((hour * 60 + minute) * 60 + second)

-- the decimals of a fraction: none where none is written, and else one or more behind a point
abbrev pub fraction_of : List ℕ → Option (List ℕ)
fraction_of [] = Some []
fraction_of (b ∷ digits) =
    if (b == 46) && not (length digits == 0) && list_all is_ascii_digit digits then Some digits else None

-- the decimals of the second, where nothing follows them but perhaps a Z
abbrev pub decimals_of : List ℕ → Option (List ℕ)
decimals_of ending = fraction_of (strip_last 90 ending)

-- the microseconds that decimals of a second say, where each digit past the sixth is 0
abbrev pub micros_of : List ℕ → Result ℕ EpochFault
micros_of decimals =
    if list_all (λ d. d == 48) (drop 6 decimals) then Ok (digits_value 10 (take 6 decimals) * 10 ^ (6 - length decimals))
    else Err TooFine

-- one step after another, up to the first fault
infixl 10 ◌>>=◌
abbrev pub ◌>>=◌ : {A B : Type 0} → Result A EpochFault → (A → Result B EpochFault) → Result B EpochFault
(Ok x) >>= f = f x
(Err e) >>= f = Err e

-- what is there, and else the fault
abbrev pub ok_or : {A : Type 0} → EpochFault → Option A → Result A EpochFault
ok_or fault None = Err fault
ok_or fault (Some x) = Ok x

-- the moment on a day, if there is such a day, at a second of it, with what stands behind; the faults come in this order
abbrev pub moment_of : Option ℕ → Result ℕ EpochFault → List ℕ → Result ℕ EpochFault
moment_of day second ending = do
  decimals ← ok_or Form (decimals_of ending)
  d ← ok_or Range day
  s ← second
  micros ← micros_of decimals
  Ok (d * DAY + s * SECOND + micros)

-- the time of the day that a text writes where the picture has hh, mm and ss
abbrev pub clock_at : List ℕ → List ℕ → Result ℕ EpochFault
clock_at picture text = second_at (number_at picture text "h") (number_at picture text "m") (number_at picture text "s")

-- what a text with month and day says
unfoldable pub calendar_reading : List ℕ → Result ℕ EpochFault
calendar_reading text =
    moment_of (day_at_date (number_at CALENDAR text "Y") (number_at CALENDAR text "M") (number_at CALENDAR text "D"))
    (clock_at CALENDAR text)
    (drop (length CALENDAR) text)

-- what a text with the day of the year says
unfoldable pub ordinal_reading : List ℕ → Result ℕ EpochFault
ordinal_reading text =
    moment_of (day_at_ordinal (number_at ORDINAL text "Y") (number_at ORDINAL text "D"))
    (clock_at ORDINAL text)
    (drop (length ORDINAL) text)

-- the microseconds from 1970-01-01T00:00:00 to the moment that an epoch text says, or what is wrong with it
unfoldable pub reading_of : List ℕ → Result ℕ EpochFault
reading_of text =
    if begins_like CALENDAR text then calendar_reading text
    else if begins_like ORDINAL text then ordinal_reading text
    else Err Form

-- what is answered is what is read
abbrev pub Gives : Result Tick EpochFault → Result ℕ EpochFault → Type 0
Gives (Ok t) reading = reading ≡ Ok t.micros
Gives (Err e) reading = reading ≡ Err e
