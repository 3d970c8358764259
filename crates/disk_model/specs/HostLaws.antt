-- The laws of a host in memory, from those of its disks.
use Rattle.std.specs.Prelude.{ℕ, ◌≡◌, ◌≤◌, [], Option, None, Some, refl}
use Rattle.std.proofs.Common.{arith}
use Rattle.samza_model.specs.Files.{Image}
use Rattle.disk_model.specs.MemoryDisk.{mem_calls, mem_file_count, mem_images, mem_images_since, mem_reads}
use Rattle.disk_model.specs.MemoryHost.{disk_of, host_calls, host_disks_out, host_folder, host_images, host_images_since}
use Rattle.disk_model.specs.MemoryLaws.{mem_counts_now, mem_none_above, mem_only_now, mem_read_is_image}
use Rattle.disk_model.specs.Slots.{images_in, number_in, reads_in, since_in}
use Rattle.disk_model.specs.declared.memory_disk.MemDisk.{MemDisk}
use Rattle.disk_model.specs.declared.memory_host.MemHost.{MemHost}
use Rattle.disk_model.specs.declared.names.DiskName.{DiskName}

none_above : (o : Option MemDisk) (f : ℕ) → number_in mem_file_count o ≤ f → reads_in mem_reads o f ≡ []
none_above None f le = refl
none_above (Some d) f le = mem_none_above d f tt le

read_is_image : (o : Option MemDisk) → images_in mem_images o (reads_in mem_reads o)
read_is_image None = λ f. refl
read_is_image (Some d) = mem_read_is_image d tt

counts_now : (o : Option MemDisk) (k : ℕ) (c : Image) → k ≤ number_in mem_calls o → images_in mem_images o c → since_in mem_images_since o k c
counts_now None k c le now = (omega arith, now)
counts_now (Some d) k c le now = mem_counts_now d k c tt le now

only_now : (o : Option MemDisk) (c : Image) → since_in mem_images_since o (number_in mem_calls o) c → images_in mem_images o c
only_now None c since = since.1
only_now (Some d) c since = mem_only_now d c tt since

pub host_none_above : (h : MemHost) (n : DiskName) (f : ℕ) → Unit {0} → (host_folder h).files n ≤ f → host_disks_out h n ≡ 0 → (host_folder h).disks n f ≡ []
host_none_above h n f told le back = none_above (disk_of h n) f le

pub host_read_is_image : (h : MemHost) (n : DiskName) → Unit {0} → host_disks_out h n ≡ 0 → host_images h n ((host_folder h).disks n)
host_read_is_image h n told back = read_is_image (disk_of h n)

pub host_counts_now : (h : MemHost) (n : DiskName) (k : ℕ) (c : Image) → Unit {0} → host_disks_out h n ≡ 0 → k ≤ host_calls h n → host_images h n c → host_images_since h n k c
host_counts_now h n k c told back le now = counts_now (disk_of h n) k c le now

pub host_only_now : (h : MemHost) (n : DiskName) (c : Image) → Unit {0} → host_disks_out h n ≡ 0 → host_images_since h n (host_calls h n) c → host_images h n c
host_only_now h n c told back since = only_now (disk_of h n) c since
