-- Names of streams, and that they are in ASCII.
use Rattle.std.proofs.Common.{ℕ, ◌≡◌, suc, ◌+◌, ◌==◌, ◌&&◌, nat_le, List, [], ◌∷◌, length, take, drop, Bool, cond, not, ◌||◌, true, false, refl, sym, ◌∙◌, ap, arith, drop-drop}
use Rattle.std.specs.List.{list_all, position_or_len, before_first, after_first, prefix_len}
use Rattle.std.proofs.lemmas.Bool.Decides.{nat_tests}
use Rattle.samza_model.specs.Names.{is_between, is_name_byte, is_system, is_stream, is_topic}
use Rattle.config_values.specs.Spelling.{is_ascii}
use Rattle.config_values.specs.Values.{is_plain, is_job_name}

pub and_left : (a b : Bool) → (a && b) ≡ true → a ≡ true
and_left true b is = refl
and_left false b is = is

pub and_right : (a b : Bool) → (a && b) ≡ true → b ≡ true
and_right true b is = is
and_right false b is = absurd cc

and_both : (a b : Bool) → a ≡ true → b ≡ true → (a && b) ≡ true
and_both a b p q = cc

name_in_ascii : (c : ℕ) → is_name_byte c ≡ true → is_ascii c ≡ true
name_in_ascii c h = grind (arith, nat_tests)

name_or_dot_in_ascii : (c : ℕ) → (is_name_byte c || c == 46) ≡ true → is_ascii c ≡ true
name_or_dot_in_ascii c h = grind (arith, nat_tests)

all_then : (p q : ℕ → Bool) → ((c : ℕ) → p c ≡ true → q c ≡ true) → (t : List ℕ) → list_all p t ≡ true → list_all q t ≡ true
all_then p q then [] h = refl
all_then p q then (c ∷ cs) h = and_both (q c) (list_all q cs) (then c (and_left (p c) (list_all p cs) h)) (all_then p q then cs (and_right (p c) (list_all p cs) h))

one_and : (n : ℕ) → 1 + n ≡ suc n
one_and n = omega arith

one_and_one : (n : ℕ) → 1 + n + 1 ≡ suc (n + 1)
one_and_one n = omega arith

-- where what stands before and after the first dot is in ASCII, all is
around_dot : (t : List ℕ) → list_all is_ascii (before_first (λ c. c == 46) t) ≡ true → list_all is_ascii (after_first (λ c. c == 46) t) ≡ true → list_all is_ascii t ≡ true
around_dot [] before after = refl
around_dot (c ∷ cs) before after = elim (c == 46) as (λ b. (c == 46) ≡ b → list_all is_ascii (take (cond (not b) (1 + prefix_len (λ x. not (x == 46)) cs) 0) (c ∷ cs)) ≡ true
    → list_all is_ascii (drop (cond (not b) (1 + prefix_len (λ x. not (x == 46)) cs) 0 + 1) (c ∷ cs)) ≡ true → list_all is_ascii (c ∷ cs) ≡ true) [
      | true ↦ λ dot front back. and_both (is_ascii c) (list_all is_ascii cs) (grind (arith, nat_tests)) back
      | false ↦ λ dot front back.
          let n = prefix_len (λ (x : ℕ). not (x == 46)) cs in
          let f : (is_ascii c && list_all is_ascii (take n cs)) ≡ true = sym (ap (λ (k : ℕ). list_all is_ascii (take k (c ∷ cs))) (one_and n)) ∙ front in
          let b : list_all is_ascii (drop (n + 1) cs) ≡ true = sym (ap (λ (k : ℕ). list_all is_ascii (drop k (c ∷ cs))) (one_and_one n)) ∙ back in
          and_both (is_ascii c) (list_all is_ascii cs) (and_left (is_ascii c) (list_all is_ascii (take n cs)) f) (around_dot cs (and_right (is_ascii c) (list_all is_ascii (take n cs)) f) b)
    ] refl before after

pub units_in_ascii : (name : List ℕ) → list_all is_name_byte name ≡ true → list_all is_ascii name ≡ true
units_in_ascii name h = all_then is_name_byte is_ascii name_in_ascii name h

system_in_ascii : (name : List ℕ) → is_system name ≡ true → list_all is_ascii name ≡ true
system_in_ascii name h = units_in_ascii name (and_right (is_between 1 64 (length name)) (list_all is_name_byte name) h)

-- of a stream's name
abbrev dotted : List ℕ → Bool
dotted name = list_all (λ c. is_name_byte c || c == 46) name

pub stream_in_ascii : (name : List ℕ) → is_stream name ≡ true → list_all is_ascii name ≡ true
stream_in_ascii name h = all_then (λ c. is_name_byte c || c == 46) is_ascii name_or_dot_in_ascii name
    (and_right (is_between 1 180 (length name)) (dotted name) (and_left _ _ (and_left _ _ h)))

pub topic_in_ascii : (name : List ℕ) → is_topic name ≡ true → list_all is_ascii name ≡ true
topic_in_ascii name h = around_dot name
    (system_in_ascii (before_first (λ c. c == 46) name) (and_left (is_system (before_first (λ c. c == 46) name)) (is_stream (after_first (λ c. c == 46) name)) h))
    (stream_in_ascii (after_first (λ c. c == 46) name) (and_right (is_system (before_first (λ c. c == 46) name)) (is_stream (after_first (λ c. c == 46) name)) h))

plain_in_ascii : (c : ℕ) → is_plain c ≡ true → is_ascii c ≡ true
plain_in_ascii c h = grind (arith, nat_tests)

pub job_in_ascii : (name : List ℕ) → is_job_name name ≡ true → list_all is_ascii name ≡ true
job_in_ascii name h = all_then is_plain is_ascii plain_in_ascii name (and_right (nat_le (length name) 255) (list_all is_plain name) h)
