-- How systems, streams and stores are named.
use Rattle.std.specs.Prelude.{ℕ, List, ◌∷◌, [], ◌++◌, length, Bool, not, ◌&&◌, ◌||◌, ◌==◌, nat_le}
use Rattle.std.specs.List.{list_all, before_first, after_first}
use Rattle.std.specs.Cmp.Lexicographic.{pointwise}
use Rattle.samza_model.specs.declared.messages.Ssp.{Ssp}

abbrev pub is_between : ℕ → ℕ → ℕ → Bool
is_between low high c = nat_le low c && nat_le c high

-- A to Z, a to z, 0 to 9, `_` and `-`
abbrev pub is_name_byte : ℕ → Bool
is_name_byte c = is_between 65 90 c || is_between 97 122 c || is_between 48 57 c || c == 95 || c == 45

-- a system, or a store: 1 to 64 of these
abbrev pub is_system : List ℕ → Bool
is_system name = is_between 1 64 (length name) && list_all is_name_byte name

-- a stream: 1 to 180 of these or dots, and neither `.` nor `..`
abbrev pub is_stream : List ℕ → Bool
is_stream name = is_between 1 180 (length name) && list_all (λ c. is_name_byte c || c == 46) name
    && not (pointwise ◌==◌ name (46 ∷ [])) && not (pointwise ◌==◌ name (46 ∷ 46 ∷ []))

-- `system.stream`, cut at the first dot
abbrev pub is_topic : List ℕ → Bool
is_topic name = is_system (before_first (λ c. c == 46) name) && is_stream (after_first (λ c. c == 46) name)

-- a partition's stream, as `system.stream`
abbrev pub topic_of : Ssp → List ℕ
topic_of ssp = ssp.system ++ 46 ∷ ssp.stream
