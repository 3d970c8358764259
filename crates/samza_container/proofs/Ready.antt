-- A folder that isn't ready.
use Rattle.std.proofs.Common.{ℕ, zero, suc, ◌≡◌, ◌<◌, List, Vec, Global, Option, Some, None, MatchOption, option_map, Result, Ok, Err, IfOk, IfErr, codes, cond, sym, ap, ◌∙◌, refl, arith}
use Rattle.samza_model.specs.declared.setups.Setup.{Setup}
use Rattle.disk_model.specs.Folders.{Folder}
use Rattle.job_config.specs.declared.config.JobConfig.{JobConfig}
use Rattle.container_texts.specs.declared.faults.RunFault.{RunFault}
use Rattle.container_texts.specs.declared.faults.RunFault.TheVariants.{Words, NoText, TextLimit, BadEscape, BadKey, NotBuilt, NoPartition, Device, NotOpened, Failed, Limit, NoMemory}
use Rattle.samza_model.specs.declared.classes.Class.{Class}
use Rattle.samza_model.specs.declared.classes.Class.TheVariants.{WordCount, Dedupe, SessionCount, TableJoin}
use Rattle.shipped_jobs.specs.Classes.{meaning_of}
use Rattle.shipped_jobs.specs.WordCount.{word_count}
use Rattle.samza_container.specs.NotBuilt.{first_not_built, is_other_job}
use Rattle.samza_container.specs.Causes.{IsReady, WhyNotOne, WhyNotReady}
use Rattle.samza_container.specs.ConfigText.{IsAnswer, IsRefusal}
use Rattle.samza_container.specs.Configured.{configured, if_one, if_partitioned, input_disk, set_up_by}
use Rattle.samza_container.specs.SetUp.{setup_of}

-- a folder without a configuration sets nothing up
pub no_config : (f : Folder) (e : RunFault) → configured f.text ≡ Err e → set_up_by f ≡ Err e
unfolding set_up_by
no_config f e is = ap (if_partitioned f.files) is

refused : (f : Folder) (t : Option (List ℕ)) (e : RunFault) → f.text ≡ t → IsRefusal e (configured t) → WhyNotReady f e
refused f t (Words place) is why = no_config f (Words place) (ap configured is ∙ why)
refused f t NoText is why = no_config f NoText (ap configured is ∙ why)
refused f t TextLimit is why = no_config f TextLimit (ap configured is ∙ why)
refused f t (BadEscape line) is why = no_config f (BadEscape line) (ap configured is ∙ why)
refused f t (BadKey key what) is why = no_config f (BadKey key what) (ap configured is ∙ why)
refused f t (NotBuilt key) is why = no_config f (NotBuilt key) (ap configured is ∙ why)
refused f t NoPartition is why = no_config f NoPartition (ap configured is ∙ why)
refused f t Device is why = tt
refused f t (NotOpened o) is why = no_config f (NotOpened o) (ap configured is ∙ why)
refused f t (Failed f') is why = no_config f (Failed f') (ap configured is ∙ why)
refused f t Limit is why = no_config f Limit (ap configured is ∙ why)
refused f t NoMemory is why = tt

-- a text that a host gives, or none
pub text_is : (t : Option (Vec ℕ Global)) (held : Option (List ℕ)) → MatchOption t (held ≡ None) (λ v. held ≡ Some v.items) → held ≡ option_map (λ (v : Vec ℕ Global). v.items) t
text_is None held is = is
text_is (Some v) held is = is

-- what was answered of the folder's text is of the folder
pub text_refused : (tells : Type 0) (f : Folder) (t : Option (List ℕ)) (r : Result JobConfig RunFault) → (tells → f.text ≡ t) → IsAnswer r (configured t) → IfErr r (λ e. tells → WhyNotReady f e)
text_refused tells f t (Ok c) is says = tt
text_refused tells f t (Err e) is says = λ told. refused f t e (is told) says

pub text_said : (tells : Type 0) (held t : Option (List ℕ)) (r : Result JobConfig RunFault) → (tells → held ≡ t) → IsAnswer r (configured t) → IfOk r (λ c. tells → configured held ≡ Ok c)
text_said tells held t (Ok c) is says = λ told. ap configured (is told) ∙ says
text_said tells held t (Err e) is says = tt

-- a configuration of which all is built asks for the count of words
class_counts : (class : Class) (more : Option (List ℕ)) → cond (is_other_job class) (Some (codes "task.class")) more ≡ None → meaning_of class ≡ Some word_count
class_counts WordCount more built = refl
class_counts Dedupe more built = absurd (cc built)
class_counts SessionCount more built = absurd (cc built)
class_counts (TableJoin table) more built = absurd (cc built)

counts_words : (c : JobConfig) → first_not_built c ≡ None → meaning_of c.class ≡ Some word_count
unfolding first_not_built
counts_words c built = class_counts c.class _ built

-- a folder's configuration, and how many partitions its input has
module _ (f : Folder) (c : JobConfig) (s : Setup) (config : configured f.text ≡ Ok c) (is : s ≡ setup_of c) where
  partitioned : (n : ℕ) → f.files (input_disk s) ≡ n → set_up_by f ≡ if_one s n
  unfolding set_up_by
  partitioned n count =
      ap (if_partitioned f.files) config
      ∙ ap (λ (t : Setup). if_one t (f.files (input_disk t))) (sym is)
      ∙ ap (if_one s) count

  pub ready : first_not_built c ≡ None → f.files (input_disk s) ≡ 1 → IsReady f word_count s
  ready built one = record { set_up = partitioned 1 one; job_is = (c, config, counts_words c built) }

  many : (n : ℕ) → 1 < n → if_one s n ≡ Err (NotBuilt (codes "task.inputs"))
  many zero h = absurd (omega (arith, h))
  many (suc zero) h = absurd (omega (arith, h))
  many (suc (suc n)) h = refl

  pub not_one : (e : RunFault) → WhyNotOne (f.files (input_disk s)) e → WhyNotReady f e
  not_one (Words place) why = absurd why
  not_one NoText why = absurd why
  not_one TextLimit why = absurd why
  not_one (BadEscape line) why = absurd why
  not_one (BadKey key what) why = absurd why
  not_one (NotBuilt key) why = partitioned (f.files (input_disk s)) refl ∙ many (f.files (input_disk s)) why.1 ∙ ap (λ (k : List ℕ). Err (NotBuilt k)) (sym why.0)
  not_one NoPartition why = partitioned 0 why
  not_one Device why = tt
  not_one (NotOpened o) why = absurd why
  not_one (Failed f') why = absurd why
  not_one Limit why = absurd why
  not_one NoMemory why = tt
