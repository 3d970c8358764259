-- What the value of a key says, by its kind; None is a key that isn't there.
use Rattle.std.specs.Prelude.{ℕ, Bool, false, cond, ◌==◌, ◌&&◌, ◌+◌, nat_le, min, max, List, [], ◌∷◌, length, Option, Some, None, option_map, Result, Ok, Err, codes}
use Rattle.std.specs.List.{list_all, after_last}
use Rattle.std.specs.Cmp.Lexicographic.{pointwise}
use Rattle.samza_model.specs.Names.{is_between}
use Rattle.samza_model.specs.declared.setups.OffsetDefault.{OffsetDefault}
use Rattle.samza_model.specs.declared.setups.OffsetDefault.TheVariants.{Oldest, Upcoming}
use Rattle.config_values.specs.declared.faults.What.{What}
use Rattle.config_values.specs.declared.faults.What.TheVariants.{Missing, OutOfRange, BadName, Unknown}
use Rattle.config_values.specs.declared.shipped.Shipped.{Shipped}
use Rattle.config_values.specs.declared.shipped.Shipped.TheVariants.{WordCount, Dedupe, SessionCount, TableJoin}
use Rattle.config_values.specs.Numbers.{number_of}

abbrev pub same : List ℕ → List ℕ → Bool
same t u = pointwise ◌==◌ t u

-- what a number, where it is one, is taken for
abbrev pub then_number : (Option ℕ → Result ℕ What) → Result (Option ℕ) What → Result ℕ What
then_number f (Ok n) = f n
then_number f (Err what) = Err what

-- a number from low to high
abbrev pub within : ℕ → ℕ → Option ℕ → Result ℕ What
within low high None = Err OutOfRange
within low high (Some n) = cond (is_between low high n) (Ok n) (Err OutOfRange)

unfoldable pub bounded : ℕ → ℕ → ℕ → Option (List ℕ) → Result ℕ What
bounded default low high None = Ok default
bounded default low high (Some t) = then_number (within low high) (number_of t)

-- a number that isn't below 0, where 0 counts as 1, and one above `most` as `most`
abbrev pub cut : ℕ → Option ℕ → Result ℕ What
cut most None = Err OutOfRange
cut most (Some n) = Ok (max 1 (min n most))

unfoldable pub size : ℕ → ℕ → Option (List ℕ) → Result ℕ What
size default most None = Ok default
size default most (Some t) = then_number (cut most) (number_of t)

-- a number of at most `most`, where one below 0 counts as 0
abbrev pub raised : ℕ → Option ℕ → Result ℕ What
raised most None = Ok 0
raised most (Some n) = cond (nat_le n most) (Ok n) (Err OutOfRange)

unfoldable pub priority : ℕ → Option (List ℕ) → Result ℕ What
priority most None = Ok 0
priority most (Some t) = then_number (raised most) (number_of t)

-- milliseconds, where 0 and a number below 0 are no interval
abbrev pub interval : Option ℕ → Option ℕ
interval None = None
interval (Some n) = cond (n == 0) None (Some n)

abbrev pub interval_of : Result (Option ℕ) What → Result (Option ℕ) What
interval_of (Ok n) = Ok (interval n)
interval_of (Err what) = Err what

unfoldable pub millis : Option ℕ → Option (List ℕ) → Result (Option ℕ) What
millis default None = Ok default
millis default (Some t) = interval_of (number_of t)

abbrev pub lower : ℕ → ℕ
lower c = cond (is_between 65 90 c) (c + 32) c

-- `true` in any letter case
abbrev pub is_true : List ℕ → Bool
is_true (t ∷ r ∷ u ∷ e ∷ []) = lower t == 116 && lower r == 114 && lower u == 117 && lower e == 101
is_true _ = false

abbrev pub flag : Option (List ℕ) → Result Bool What
flag None = Ok false
flag (Some t) = Ok (is_true t)

-- a flag, where a key that isn't there leaves it open
abbrev pub own_flag : Option (List ℕ) → Result (Option Bool) What
own_flag t = Ok (option_map is_true t)

abbrev pub default_spelled : List ℕ → Result (Option OffsetDefault) What
default_spelled t = cond (same t (codes "oldest")) (Ok (Some Oldest)) (cond (same t (codes "upcoming")) (Ok (Some Upcoming)) (Err Unknown))

-- where an input begins, where a key that isn't there leaves it open
unfoldable pub start : Option (List ℕ) → Result (Option OffsetDefault) What
start None = Ok None
start (Some t) = default_spelled t

abbrev pub class_of : List ℕ → Result Shipped What
class_of name =
    cond (same name (codes "WordCount")) (Ok WordCount)
    (cond (same name (codes "Dedupe")) (Ok Dedupe)
    (cond (same name (codes "SessionCount")) (Ok SessionCount)
    (cond (same name (codes "TableJoin")) (Ok TableJoin) (Err Unknown))))

-- the shipped job that is named behind the last dot
unfoldable pub class : Option (List ℕ) → Result Shipped What
class None = Err Missing
class (Some t) = class_of (after_last (λ c. c == 46) t)

-- from ! to ~
abbrev pub is_plain : ℕ → Bool
is_plain c = is_between 33 126 c

-- a job's name
abbrev pub is_job_name : List ℕ → Bool
is_job_name t = nat_le (length t) 255 && list_all is_plain t

unfoldable pub job_name : Option (List ℕ) → Result (List ℕ) What
job_name None = Ok (codes "job")
job_name (Some t) = cond (is_job_name t) (Ok t) (Err BadName)

-- what may not be left out
abbrev pub given : List ℕ → Result (Unit {0}) What
given [] = Err Missing
given (c ∷ cs) = Ok tt

-- any text, also none
abbrev pub any_text : Option (List ℕ) → Result (Unit {0}) What
any_text t = Ok tt

-- a text that is there and isn't empty
abbrev pub some_text : Option (List ℕ) → Result (Unit {0}) What
some_text None = Err Missing
some_text (Some t) = given t
