use Rattle.std.proofs.Common.{◌∙◌, ℕ, suc, zero, ◌≡◌, ap, take, sym, arith, List, [], refl}
use Rattle.std.proofs.lemmas.List.{get_or_past}
use Rattle.disk_model.proofs.Replays.{bound_grown, kept_at, rooms_set, state_cut, unwritten_set}
use Rattle.disk_model.specs.FileStates.{with_cut}
use Rattle.disk_model.specs.HeldBytes.{HeldBytes, no_bytes}
use Rattle.disk_model.specs.Traces.{bytes_at, file_end, reach_of, file_state, used_by}
use Rattle.disk_model.specs.declared.traces.Entry.TheVariants.{Shortened}
use Rattle.disk_model.proofs.traces.Trace.cut.Goals as goal

nothing : (size : ℕ) → take {A = ℕ} size [] ≡ []
nothing zero = refl
nothing (suc n) = refl

gone : (size : ℕ) (xs ys : List ℕ) → xs ≡ [] → xs ≡ ys → xs ≡ take size ys
gone size xs ys none same =
    none ∙ sym (nothing size) ∙ ap (λ (l : List ℕ). take size l) (sym none ∙ same)

pub invariant_of-self-clause-kept : goal.invariant_of-self-clause-kept
invariant_of-self-clause-kept c =
    let t = c.args.self.now in
    let file = c.args.file in
    let states = file_state t.start.items t.noted.items t.written.items in
    let step = state_cut t.start.items t.noted.items c.add_entry.new.noted.items file c.args.size t.written.items c.add_entry.ensures.items in
    let same : take c.args.size (bytes_at t.files.items file) ≡ take c.args.size (states file).now = ap (λ (l : List ℕ). take c.args.size l) (t.kept file) in
    kept_at t.files.items c.cut_in.new.files.items file _ (with_cut c.args.size) states _ c.cut_in.ensures t.kept step
    (λ _. same)
    (λ past.
    let none : bytes_at t.files.items file ≡ [] = ap (λ (h : HeldBytes). h.bytes) (get_or_past t.files.items file no_bytes past) in
    gone c.args.size (bytes_at t.files.items file) (states file).now none (t.kept file))

pub invariant_of-self-clause-used : goal.invariant_of-self-clause-used
invariant_of-self-clause-used c =
    let t = c.args.self.now in
    bound_grown used_by t.noted.items c.add_entry.new.noted.items (Shortened c.args.file c.args.size) _ _ c.add_entry.ensures.items t.used (omega arith) (omega arith)

pub invariant_of-self-clause-reach : goal.invariant_of-self-clause-reach
invariant_of-self-clause-reach c =
    let t = c.args.self.now in
    bound_grown reach_of t.noted.items c.add_entry.new.noted.items (Shortened c.args.file c.args.size) _ _ c.add_entry.ensures.items t.reach (omega arith) (omega arith)

pub invariant_of-self-clause-file_rooms : goal.invariant_of-self-clause-file_rooms
invariant_of-self-clause-file_rooms c =
    let t = c.args.self.now in
    rooms_set t.files.items c.cut_in.new.files.items c.args.file t.room _ c.cut_in.ensures t.file_rooms refl

pub returns-clause-made : goal.returns-clause-made
returns-clause-made c =
    let t = c.args.self.now in
    λ _. state_cut t.start.items t.noted.items c.add_entry.new.noted.items c.args.file c.args.size t.written.items c.add_entry.ensures.items

pub invariant_of-self-clause-unwritten : goal.invariant_of-self-clause-unwritten
invariant_of-self-clause-unwritten c =
    let t = c.args.self.now in
    unwritten_set t.files.items c.cut_in.new.files.items c.args.file t.there t.there _ c.cut_in.ensures t.unwritten (omega arith)
    (λ low. ap (λ (l : List ℕ). take c.args.size l) (t.unwritten c.args.file low) ∙ nothing c.args.size)

pub invariant_of-self-clause-known : goal.invariant_of-self-clause-known
invariant_of-self-clause-known c =
    let t = c.args.self.now in
    bound_grown file_end t.noted.items c.add_entry.new.noted.items (Shortened c.args.file c.args.size) _ _ c.add_entry.ensures.items t.known (omega arith) (omega arith)
