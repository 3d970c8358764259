-- Clauses over results.
use Rattle.std.proofs.Common.{◌≡◌, ◌≢◌, arith, Result, Ok, Err, IfOk, IfErr}
use Rattle.container_texts.specs.declared.faults.RunFault.{RunFault}
use Rattle.container_texts.specs.declared.faults.Stopped.{Stopped}
use Rattle.container_texts.specs.Statuses.{status_of}
use Rattle.samza_container.specs.Stops.{answered, stops_with}

pub if_ok : {A E : Type 0} (r : Result A E) {P Q : A → Type 0} → ((x : A) → P x → Q x) → IfOk r P → IfOk r Q
if_ok (Ok x) go p = go x p
if_ok (Err e) go p = tt

pub if_err : {A E : Type 0} (r : Result A E) {P Q : E → Type 0} → ((e : E) → P e → Q e) → IfErr r P → IfErr r Q
if_err (Ok x) go p = tt
if_err (Err e) go p = go e p

-- what is answered of a task, where the command stops
pub if_stopped : {A : Type 0} (r : Result A Stopped) (P : Result A RunFault → Type 0) {Q R S : Stopped → Type 0} → ((s : Stopped) → P (Err s.fault) → Q s → R s → S s) → P (answered r) → IfErr r Q → IfErr r R → IfErr r S
if_stopped (Ok x) P go done q r' = tt
if_stopped (Err s) P go done q r' = go s done q r'

pub never_two : {A : Type 0} (r : Result A Stopped) → IfErr r (λ s. status_of s.fault ≢ 2) → stops_with r ≡ 2 → ⊥
never_two (Ok x) other two = omega (arith, two)
never_two (Err s) other two = other two
