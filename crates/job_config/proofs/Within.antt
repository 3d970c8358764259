-- What the value of a key says is within the key's bounds.
use Rattle.std.proofs.Common.{◌≡◌, ◌<◌, ◌≤◌, ◌==◌, ◌^◌, ℕ, List, Bool, true, false, cond, nat_le, nat_lt, Option, Some, None, IfSome, Result, Ok, Err, codes, refl, subst, arith}
use Rattle.std.proofs.lemmas.Bool.Decides.{nat_tests}
use Rattle.samza_model.specs.Names.{is_between}
use Rattle.config_values.specs.declared.faults.What.{What}
use Rattle.config_values.specs.declared.faults.What.TheVariants.{OutOfRange, BadName, NotNumber}
use Rattle.config_values.specs.Numbers.{are_digits, decimal, has_minus, number_of, signed, trimmed, without_sign}
use Rattle.config_values.specs.Values.{bounded, then_number, within, priority, raised, interval, interval_of, is_job_name, job_name, millis}
use Rattle.job_config.specs.Bounds.{IsInterval, IsWithin}

within_is : (low high : ℕ) (n : Option ℕ) (x : ℕ) → within low high n ≡ Ok x → IsWithin low high x
within_is low high None x is = absurd cc
within_is low high (Some n) x is = by (is_between low high n) refl is
  where
    by : (b : Bool) → is_between low high n ≡ b → cond b (Ok n) (Err OutOfRange) ≡ Ok x → IsWithin low high x
    by true between is' = let same : n ≡ x = cc is' in subst (IsWithin low high) same (grind (arith, nat_tests, between), grind (arith, nat_tests, between))
    by false out is' = absurd cc

number_within : (low high : ℕ) (r : Result (Option ℕ) What) (x : ℕ) → then_number (within low high) r ≡ Ok x → IsWithin low high x
number_within low high (Ok n) x is = within_is low high n x is
number_within low high (Err what) x is = absurd cc

pub bounded_within : (default low high : ℕ) (t : Option (List ℕ)) (x : ℕ) → IsWithin low high default → bounded default low high t ≡ Ok x → IsWithin low high x
unfolding bounded
bounded_within default low high None x bounds is = let same : default ≡ x = cc is in subst (IsWithin low high) same bounds
bounded_within default low high (Some t) x bounds is = number_within low high (number_of t) x is

raised_most : (most : ℕ) (n : Option ℕ) (x : ℕ) → raised most n ≡ Ok x → x ≤ most
raised_most most None x is = let same : 0 ≡ x = cc is in omega (arith, same)
raised_most most (Some n) x is = by (nat_le n most) refl is
  where
    by : (b : Bool) → nat_le n most ≡ b → cond b (Ok n) (Err OutOfRange) ≡ Ok x → x ≤ most
    by true below is' = let same : n ≡ x = cc is' in subst (λ k. k ≤ most) same (grind (arith, nat_tests, below))
    by false over is' = absurd cc

number_most : (most : ℕ) (r : Result (Option ℕ) What) (x : ℕ) → then_number (raised most) r ≡ Ok x → x ≤ most
number_most most (Ok n) x is = raised_most most n x is
number_most most (Err what) x is = absurd cc

pub priority_most : (most : ℕ) (t : Option (List ℕ)) (x : ℕ) → priority most t ≡ Ok x → x ≤ most
unfolding priority
priority_most most None x is = let same : 0 ≡ x = cc is in omega (arith, same)
priority_most most (Some t) x is = number_most most (number_of t) x is

-- a number is one of 64 signed bits
signed_below : (minus : Bool) (n m : ℕ) → signed minus n ≡ Ok (Some m) → m < 2 ^ 63
signed_below false n m is = by (nat_lt n (2 ^ 63)) refl is
  where
    by : (b : Bool) → nat_lt n (2 ^ 63) ≡ b → cond b (Ok (Some n)) (Err OutOfRange) ≡ Ok (Some m) → m < 2 ^ 63
    by true below is' = let same : n ≡ m = cc is' in subst (λ k. k < 2 ^ 63) same (grind (arith, nat_tests, below))
    by false over is' = absurd cc
signed_below true n m is = by (n == 0) (nat_le n (2 ^ 63)) is
  where
    by : (b c : Bool) → cond b (Ok (Some 0)) (cond c (Ok None) (Err OutOfRange)) ≡ Ok (Some m) → m < 2 ^ 63
    by true c is' = let same : 0 ≡ m = cc is' in subst (λ k. k < 2 ^ 63) same (omega arith)
    by false true is' = absurd cc
    by false false is' = absurd cc

number_below : (t : List ℕ) (n : Option ℕ) → number_of t ≡ Ok n → IfSome n (λ k. k < 2 ^ 63)
unfolding number_of
number_below t None is = tt
number_below t (Some m) is = by (are_digits (without_sign (trimmed t))) is
  where
    by : (b : Bool) → cond b (signed (has_minus (trimmed t)) (decimal (without_sign (trimmed t)))) (Err NotNumber) ≡ Ok (Some m) → m < 2 ^ 63
    by true is' = signed_below (has_minus (trimmed t)) (decimal (without_sign (trimmed t))) m is'
    by false is' = absurd cc

interval_is : (n : Option ℕ) → IfSome n (λ k. k < 2 ^ 63) → IsInterval (interval n)
interval_is None below = tt
interval_is (Some n) below = by (n == 0) refl
  where
    by : (b : Bool) → (n == 0) ≡ b → IsInterval (cond b None (Some n))
    by true none = tt
    by false some = (grind (arith, nat_tests, some), below)

number_interval : (t : List ℕ) (r : Result (Option ℕ) What) (x : Option ℕ) → number_of t ≡ r → interval_of r ≡ Ok x → IsInterval x
number_interval t (Ok n) x read is = let same : interval n ≡ x = cc is in subst IsInterval same (interval_is n (number_below t n read))
number_interval t (Err what) x read is = absurd cc

pub millis_interval : (default : Option ℕ) (t : Option (List ℕ)) (x : Option ℕ) → IsInterval default → millis default t ≡ Ok x → IsInterval x
unfolding millis
millis_interval default None x interval is = let same : default ≡ x = cc is in subst IsInterval same interval
millis_interval default (Some t) x interval is = number_interval t (number_of t) x refl is

pub job_named : (t : Option (List ℕ)) (x : List ℕ) → job_name t ≡ Ok x → is_job_name x ≡ true
unfolding job_name
job_named None x is = let same : codes "job" ≡ x = cc is in subst (λ (n : List ℕ). is_job_name n ≡ true) same refl
job_named (Some t) x is = by (is_job_name t) refl is
  where
    by : (b : Bool) → is_job_name t ≡ b → cond b (Ok t) (Err BadName) ≡ Ok x → is_job_name x ≡ true
    by true plain is' = let same : t ≡ x = cc is' in subst (λ (n : List ℕ). is_job_name n ≡ true) same plain
    by false other is' = absurd cc
