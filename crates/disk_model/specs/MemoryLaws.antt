-- The laws of a disk in memory.
use Rattle.std.specs.Prelude.{ℕ, ◌≡◌, ◌≤◌, List, []}
use Rattle.std.proofs.Common.{arith, subst, sym}
use Rattle.samza_model.specs.Files.{Image}
use Rattle.disk_model.specs.FileStates.{FileState, IsFileImage}
use Rattle.disk_model.specs.Formed.{formed, now_is_image, then_now}
use Rattle.disk_model.specs.MemoryDisk.{mem_calls, mem_images, mem_file_count, mem_images_since, mem_reads}
use Rattle.disk_model.specs.TraceWords.{calls_noted, now_of}
use Rattle.disk_model.specs.declared.memory_disk.MemDisk.{MemDisk}

pub mem_none_above : (d : MemDisk) (f : ℕ) → Unit {0} → mem_file_count d ≤ f → mem_reads d f ≡ []
mem_none_above d f told le = d.trace.unwritten f le

pub mem_read_is_image : (d : MemDisk) → Unit {0} → mem_images d (mem_reads d)
mem_read_is_image d told f =
    subst (λ (b : List ℕ). IsFileImage (now_of d.trace f) b)
    (sym (d.trace.kept f))
    (now_is_image (now_of d.trace f) (formed d.trace.start.items d.trace.noted.items d.trace.written.items f))

pub mem_counts_now : (d : MemDisk) (k : ℕ) (c : Image) → Unit {0} → k ≤ mem_calls d → mem_images d c → mem_images_since d k c
mem_counts_now d k c told le now =
    let up : calls_noted d.trace ≤ mem_calls d = omega (arith, d.counted) in
    (mem_calls d, le, omega arith, λ f. subst (λ (s : FileState). IsFileImage s (c f)) (sym (then_now d.trace (mem_calls d) f up)) (now f))

pub mem_only_now : (d : MemDisk) (c : Image) → Unit {0} → mem_images_since d (mem_calls d) c → mem_images d c
mem_only_now d c told since =
    let low : mem_calls d ≤ since.0 = since.1 in
    let up : calls_noted d.trace ≤ since.0 = omega (arith, d.counted) in
    λ f. subst (λ (s : FileState). IsFileImage s (c f)) (then_now d.trace since.0 f up) (since.3 f)
