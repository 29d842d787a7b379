-- Both forms are read by the numbers at their places.
use Rattle.std.proofs.Common.{◌≡◌, ℕ, List, take, drop, Option, Result, subst, ap, ◌∙◌}
use Rattle.std.specs.Str.Parse.{digits_value}
use Rattle.cj_epoch.specs.declared.fault.EpochFault.{EpochFault}
use Rattle.cj_base.specs.declared.tick.Tick.{Tick}
use Rattle.cj_base.specs.Calendar.{day_at_date, day_at_ordinal}
use Rattle.cj_epoch.specs.Picture.{number_at}
use Rattle.cj_epoch.specs.Reading.{CALENDAR, ORDINAL, Gives, second_at, clock_at, moment_of, calendar_reading, ordinal_reading}
use Rattle.cj_epoch.proofs.PictureLemmas.{IsNumber, CalendarNumbers, OrdinalNumbers}

number_here : {picture text bytes : List ℕ} (n : ℕ) → (letter : _) → n ≡ digits_value 10 bytes → IsNumber picture text letter bytes → n ≡ number_at picture text letter
number_here n letter value number = value ∙ ap (digits_value 10) number.here

pub second_is : (h m s h' m' s' : ℕ) → h ≡ h' → m ≡ m' → s ≡ s' → second_at h m s ≡ second_at h' m' s'
second_is h m s h' m' s' a b c =
    ap (λ (i : ℕ). second_at i m s) a ∙ ap (λ (i : ℕ). second_at h' i s) b ∙ ap (second_at h' m') c

pub date_is : (y m d y' m' d' : ℕ) → y ≡ y' → m ≡ m' → d ≡ d' → day_at_date y m d ≡ day_at_date y' m' d'
date_is y m d y' m' d' a b c =
    ap (λ (i : ℕ). day_at_date i m d) a ∙ ap (λ (i : ℕ). day_at_date y' i d) b ∙ ap (day_at_date y' m') c

ordinal_is : (y d y' d' : ℕ) → y ≡ y' → d ≡ d' → day_at_ordinal y d ≡ day_at_ordinal y' d'
ordinal_is y d y' d' a c = ap (λ (i : ℕ). day_at_ordinal i d) a ∙ ap (day_at_ordinal y') c

pub moment_is : (day day' : Option ℕ) (second second' : Result ℕ EpochFault) (ending ending' : List ℕ) → day ≡ day' → second ≡ second' → ending ≡ ending' → moment_of day second ending ≡ moment_of day' second' ending'
moment_is day day' second second' ending ending' a b c =
    ap (λ (o : Option ℕ). moment_of o second ending) a ∙ ap (λ (r : Result ℕ EpochFault). moment_of day' r ending) b ∙ ap (moment_of day' second') c

pub calendar_gives : (result : Result Tick EpochFault) (text : List ℕ) (day : Option ℕ) (second : Result ℕ EpochFault) (ending : List ℕ) (y m d h n s : ℕ) → CalendarNumbers text
    → y ≡ digits_value 10 (take 4 text) → m ≡ digits_value 10 (take 2 (drop 5 text)) → d ≡ digits_value 10 (take 2 (drop 8 text)) → day ≡ day_at_date y m d
    → h ≡ digits_value 10 (take 2 (drop 11 text)) → n ≡ digits_value 10 (take 2 (drop 14 text)) → s ≡ digits_value 10 (take 2 (drop 17 text)) → second ≡ second_at h n s
    → ending ≡ drop 19 text → Gives result (moment_of day second ending) → Gives result (calendar_reading text)
unfolding calendar_reading
calendar_gives result text day second ending y m d h n s numbers year month date day_read hour minute sec second_read rest =
    let date' = date_is y m d _ _ _ (number_here y "Y" year numbers.year) (number_here m "M" month numbers.month) (number_here d "D" date numbers.day) in
    let clock' = second_is h n s _ _ _ (number_here h "h" hour numbers.hour) (number_here n "m" minute numbers.minute) (number_here s "s" sec numbers.second) in
    subst (Gives result) (moment_is day _ second (clock_at CALENDAR text) ending (drop 19 text) (day_read ∙ date') (second_read ∙ clock') rest)

pub ordinal_gives : (result : Result Tick EpochFault) (text : List ℕ) (day : Option ℕ) (second : Result ℕ EpochFault) (ending : List ℕ) (y d h n s : ℕ) → OrdinalNumbers text
    → y ≡ digits_value 10 (take 4 text) → d ≡ digits_value 10 (take 3 (drop 5 text)) → day ≡ day_at_ordinal y d
    → h ≡ digits_value 10 (take 2 (drop 9 text)) → n ≡ digits_value 10 (take 2 (drop 12 text)) → s ≡ digits_value 10 (take 2 (drop 15 text)) → second ≡ second_at h n s
    → ending ≡ drop 17 text → Gives result (moment_of day second ending) → Gives result (ordinal_reading text)
unfolding ordinal_reading
ordinal_gives result text day second ending y d h n s numbers year date day_read hour minute sec second_read rest =
    let date' = ordinal_is y d _ _ (number_here y "Y" year numbers.year) (number_here d "D" date numbers.day) in
    let clock' = second_is h n s _ _ _ (number_here h "h" hour numbers.hour) (number_here n "m" minute numbers.minute) (number_here s "s" sec numbers.second) in
    subst (Gives result) (moment_is day _ second (clock_at ORDINAL text) ending (drop 17 text) (day_read ∙ date') (second_read ∙ clock') rest)
