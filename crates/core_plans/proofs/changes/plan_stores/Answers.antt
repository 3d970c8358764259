use Rattle.std.proofs.Common.{◌≡◌, ◌<◌, ◌++◌, ◌∷◌, [], List, length, get_or, ap, subst, sym, ◌∙◌, ◌+◌, arith}
use Rattle.std.proofs.lemmas.List.{get_or_read}
use Rattle.samza_model.specs.declared.setups.StoreSetup.{StoreSetup}
use Rattle.samza_model.specs.declared.checkpoints.StoreMark.{StoreMark}
use Rattle.samza_model.specs.Content.{nothing_stored}
use Rattle.kv_store.specs.Tracked.{Tracked, no_keys}
use Rattle.log_frame.specs.Frame.{FrameView}
use Rattle.core_steps.specs.Held.{tracked_at}
use Rattle.core_plans.specs.Plans.{PlansStore}
use Rattle.core_plans.proofs.SoFar.{StoresSoFar, store_more, no_store}
use Rattle.core_plans.proofs.changes.plan_stores.Goals as goal

pub loop-i-preserved : goal.loop-i-preserved
loop-i-preserved c =
    let setups = c.args.setup.now.stores in
    let i = c.loop-i.i in
    let inside : i < length c.args.stores.now = omega arith in
    let within : i < length setups = omega arith in
    let empty : Tracked = record { content = nothing_stored; dirty = no_keys } in
    let read : c.index-as_slice-i.result ≡ get_or setups i c.index-as_slice-i.result =
    subst (λ (l : List StoreSetup). c.index-as_slice-i.result ≡ get_or l i c.index-as_slice-i.result) c.as_slice.ensures c.index-as_slice-i.is in
    let setup : c.index-as_slice-i.result ≡ get_or setups i no_store = get_or_read setups i c.index-as_slice-i.result within read no_store in
    let store : c.index-stores-i.result ≡ tracked_at c.args.stores.now i = get_or_read c.args.stores.now i c.index-stores-i.result inside c.index-stores-i.is empty in
    let more = c.in_ok-more.more in
    let mark = c.in_ok-more.mark in
    let here : PlansStore (get_or setups i no_store).batch (tracked_at c.args.stores.now i) (get_or c.args.lens.now i 0) more mark.count =
    subst (λ (t : Tracked). PlansStore (get_or setups i no_store).batch t (get_or c.args.lens.now i 0) more mark.count) store
    (subst (λ (s : StoreSetup). PlansStore s.batch c.index-stores-i.result (get_or c.args.lens.now i 0) more mark.count) setup c.in_ok-more.ensures.plans) in
    let name : mark.name ≡ (get_or setups i no_store).name = c.in_ok-more.ensures.name ∙ ap (λ (t : StoreSetup). t.name) setup in
    subst (λ (ms : List StoreMark). StoresSoFar setups c.args.lens.now c.args.stores.now (i + 1) c.put.new.list.items ms) (sym c.in_ok-put-2.ensures)
    (subst (λ (fs : List (List FrameView)). StoresSoFar setups c.args.lens.now c.args.stores.now (i + 1) fs (c.loop-i.marks.items ++ mark ∷ [])) (sym c.in_ok-put.ensures)
    (store_more setups c.args.lens.now c.args.stores.now i c.loop-i.frames.items c.loop-i.marks.items more mark c.loop-i.invariant within name here))
