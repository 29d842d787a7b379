-- The text of a message with the state of its second object relative to its first.
use Rattle.std.specs.Prelude.{◌≡◌, ℕ, zero, suc, List, [], ◌∷◌, ◌++◌, codes, Option, Some, None, true}
use Rattle.std.specs.List.{after_first, before_first}
use Rattle.cj_base.specs.Bytes.{is_feed}
use Rattle.cj_rtn.specs.declared.relative.AxisValues.{AxisValues}
use Rattle.cj_rtn.specs.declared.relative.Rtn.{Rtn}
use Rattle.cj_cdm.specs.Messages.{PlainMessage}
use Rattle.cj_cdm.specs.Texts.{front_text, metres, period_text, quantity, side_text, text_of}
use Rattle.cj_cdm.specs.Values.{is_axis_value}

-- the six lines of a relative state
unfoldable pub relative_text : Rtn → List ℕ
relative_text x =
    quantity (codes "RELATIVE_POSITION_R") (metres x.place.r) (codes "m")
    ++ quantity (codes "RELATIVE_POSITION_T") (metres x.place.t) (codes "m")
    ++ quantity (codes "RELATIVE_POSITION_N") (metres x.place.n) (codes "m")
    ++ quantity (codes "RELATIVE_VELOCITY_R") (metres x.rate.r) (codes "m/s")
    ++ quantity (codes "RELATIVE_VELOCITY_T") (metres x.rate.t) (codes "m/s")
    ++ quantity (codes "RELATIVE_VELOCITY_N") (metres x.rate.n) (codes "m/s")

-- the message, and behind its miss distance the relative state, where there is one: 82 lines, or 88
unfoldable pub text_with : Option Rtn → PlainMessage → List ℕ
text_with None m = text_of m
text_with (Some x) m = front_text m ++ relative_text x ++ period_text m ++ side_text (codes "OBJECT1") m.object1 ++ side_text (codes "OBJECT2") m.object2

-- the first n lines of a text, each with its end
abbrev pub front_lines : ℕ → List ℕ → List ℕ
front_lines zero text = []
front_lines (suc n) text = before_first is_feed text ++ 10 ∷ front_lines n (after_first is_feed text)

-- what stands behind them
abbrev pub behind_lines : ℕ → List ℕ → List ℕ
behind_lines zero text = text
behind_lines (suc n) text = behind_lines n (after_first is_feed text)

-- a text with the lines of a relative state behind its first six
unfoldable pub added : Rtn → List ℕ → List ℕ
added x text = front_lines 6 text ++ relative_text x ++ behind_lines 6 text

-- three values along axes that are read
pub record AreAxisValues (v : AxisValues) : Type 0 where
  pub of_r : is_axis_value v.r ≡ true
  pub of_t : is_axis_value v.t ≡ true
  pub of_n : is_axis_value v.n ≡ true

-- a relative state that is read
pub record IsRelative (x : Rtn) : Type 0 where
  pub placed : AreAxisValues x.place
  pub moved : AreAxisValues x.rate
