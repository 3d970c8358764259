use Rattle.std.proofs.Common.{◌≡◌, ◌++◌, ◌∷◌, [], List, ap, sym, subst, ◌∙◌, append_assoc}
use Rattle.std.proofs.lemmas.List.{map-append}
use Rattle.std.proofs.lemmas.List.Elements.{All-head, All-nil, All-push, All-same, All-tail}
use Rattle.std.specs.Vec.Iter.{into_iter_items}
use Rattle.samza_model.specs.Content.{Content}
use Rattle.kv_store.specs.Tracked.{Tracked, AreWithinLimits, no_keys}
use Rattle.core_steps.specs.Begun.{AreClean}
use Rattle.core_steps.specs.Held.{contents_of}
use Rattle.core_parts.proofs.beginning.track_all.Goals as goal

-- a store more
contents_more : (stores stores' : List Tracked) (store : Tracked) (table : Content) (rest rest' all : List Content) → stores' ≡ stores ++ store ∷ [] → store.content ≡ table → rest ≡ table ∷ rest'
    → contents_of stores ++ rest ≡ all → contents_of stores' ++ rest' ≡ all
contents_more stores stores' store table rest rest' all more content first so_far =
    let pushed : contents_of stores' ≡ contents_of stores ++ table ∷ [] =
    ap contents_of more ∙ map-append (λ (t : Tracked). t.content) stores (store ∷ []) ∙ ap (λ (c : Content). contents_of stores ++ c ∷ []) content in
    ap (λ (cs : List Content). cs ++ rest') pushed ∙ append_assoc (contents_of stores) (table ∷ []) rest' ∙ ap (λ (cs : List Content). contents_of stores ++ cs) (sym first) ∙ so_far

pub loop-table-init : goal.loop-table-init
loop-table-init c =
    let given = c.into_iter-table-iterator.ensures.into_iter_gives.0 ∙ c.into_vec-table-items.ensures in
    record {
      contents = ap (λ (ts : List Tracked). contents_of ts ++ into_iter_items c.into_iter-table-iterator.result) c.new-stores.ensures.items ∙ given;
      clean = subst (λ (ts : List Tracked). AreClean ts) (sym c.new-stores.ensures.items) (All-nil (λ (t : Tracked). t.dirty ≡ no_keys));
      within = All-same AreWithinLimits _ c.args.tables given c.requires;
    }

pub with-requires : goal.with-requires
with-requires c = All-head AreWithinLimits c.in-Some.table _ (All-same AreWithinLimits _ _ (sym c.in-Some.ensures.steps.0) c.loop-table.invariant.within)

pub loop-table-preserved : goal.loop-table-preserved
loop-table-preserved c =
    let first = c.in-Some.ensures.steps.0 in
    record {
      contents = contents_more c.loop-table.stores.items c.put.new.list.items c.with.result c.in-Some.table _ _ c.args.tables c.in_ok-put.ensures c.with.ensures.content first c.loop-table.invariant.contents;
      clean = subst (λ (ts : List Tracked). AreClean ts) (sym c.in_ok-put.ensures) (All-push (λ (t : Tracked). t.dirty ≡ no_keys) c.loop-table.stores.items c.with.result c.loop-table.invariant.clean c.with.ensures.dirty);
      within = All-tail AreWithinLimits c.in-Some.table _ (All-same AreWithinLimits _ _ (sym first) c.loop-table.invariant.within);
    }
