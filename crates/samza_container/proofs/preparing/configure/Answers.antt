use Rattle.std.proofs.Common.{ℕ, Vec, Global, option_map, sym, ◌∙◌}
use Rattle.disk_model.proofs.Laws.{same_at_trans}
use Rattle.samza_container.proofs.Ready.{text_is, text_refused, text_said}
use Rattle.samza_container.proofs.Told.{if_err}
use Rattle.samza_container.proofs.preparing.configure.Goals as goal

pub returns-in-Err-text-clause-disks : goal.returns-in-Err-text-clause-disks
returns-in-Err-text-clause-disks g c = λ told n.
    let h = g.H.Host in
    same_at_trans h.folder h.images h.images_since h.call_number c.args.host.now c.enter.new.self c.text.new.self n (c.in-Ok.ensures.disks told n) (c.text.ensures.disks told n)

pub returns-clause-disks : goal.returns-clause-disks
returns-clause-disks g c = λ told n.
    let h = g.H.Host in
    same_at_trans h.folder h.images h.images_since h.call_number c.args.host.now c.enter.new.self c.text.new.self n (c.in-Ok.ensures.disks told n) (c.text.ensures.disks told n)

pub returns-clause-why : goal.returns-clause-why
returns-clause-why g c =
    let h = g.H.Host in
    let host = c.args.host.now in
    let t = option_map (λ (v : Vec ℕ Global). v.items) c.in-Ok-text.text in
    text_refused h.tells (h.folder host) t c.folder_config.result
    (λ told. sym (c.in-Ok.ensures.text_stays told) ∙ text_is c.in-Ok-text.text ((h.folder c.enter.new.self).text) (c.in-Ok-text.ensures.text told))
    c.folder_config.ensures.says

pub returns-clause-configured : goal.returns-clause-configured
returns-clause-configured g c =
    let h = g.H.Host in
    let t = option_map (λ (v : Vec ℕ Global). v.items) c.in-Ok-text.text in
    text_said h.tells ((h.folder c.args.host.now).text) t c.folder_config.result
    (λ told. sym (c.in-Ok.ensures.text_stays told) ∙ text_is c.in-Ok-text.text ((h.folder c.enter.new.self).text) (c.in-Ok-text.ensures.text told))
    c.folder_config.ensures.says

pub returns-clause-device : goal.returns-clause-device
returns-clause-device g c = if_err c.folder_config.result (λ e kind is. absurd (kind.1 is)) c.folder_config.ensures.kind

pub returns-clause-of_folder : goal.returns-clause-of_folder
returns-clause-of_folder g c = if_err c.folder_config.result (λ e kind. kind.0) c.folder_config.ensures.kind
