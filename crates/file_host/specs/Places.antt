-- Where a folder's files lie.
use Rattle.std.specs.Prelude.{ℕ, List, [], ◌∷◌, ◌++◌, Bool, Option, None, Some, length, slice_index, ◌==◌, ◌||◌, ◌-◌, if◌then◌else◌}
use Rattle.std.specs.Fmt.{decimal}
use Rattle.disk_model.specs.declared.names.DiskName.{DiskName}
use Rattle.disk_model.specs.declared.names.DiskName.TheVariants.{Stream, Task}

-- whether a word is a folder's path as it stands: it is empty, which is where the process runs, or ends in a slash
abbrev pub is_whole : List ℕ → Bool
is_whole word = length word == 0 || slice_index word (length word - 1) == 47

-- the path of the folder of a word: the word, and one slash behind it where it isn't whole
abbrev pub path_of_word : List ℕ → List ℕ
path_of_word word = (if is_whole word then word else word ++ 47 ∷ [])

-- the path of the folder that was entered, if one was; else that of where the process runs
abbrev pub path_of_entered : Option (List ℕ) → List ℕ
path_of_entered None = []
path_of_entered (Some word) = path_of_word word

-- `<number>.log`
abbrev pub file_name : ℕ → List ℕ
file_name n = decimal n ++ 46 ∷ 108 ∷ 111 ∷ 103 ∷ []

-- `tasks/` in a folder
abbrev pub tasks_folder : List ℕ → List ℕ
tasks_folder folder = folder ++ 116 ∷ 97 ∷ 115 ∷ 107 ∷ 115 ∷ 47 ∷ []

-- `tasks/<number>/` in a folder
abbrev pub task_folder : List ℕ → ℕ → List ℕ
task_folder folder n = tasks_folder folder ++ decimal n ++ 47 ∷ []

-- `streams/` in a folder
abbrev pub streams_folder : List ℕ → List ℕ
streams_folder folder = folder ++ 115 ∷ 116 ∷ 114 ∷ 101 ∷ 97 ∷ 109 ∷ 115 ∷ 47 ∷ []

-- `streams/<system>/` in a folder
abbrev pub system_folder : List ℕ → List ℕ → List ℕ
system_folder folder system = (streams_folder folder ++ system) ++ 47 ∷ []

-- `streams/<system>/<stream>/` in a folder
abbrev pub stream_folder : List ℕ → List ℕ → List ℕ → List ℕ
stream_folder folder system stream = (system_folder folder system ++ stream) ++ 47 ∷ []

-- the folder of a disk
abbrev pub disk_folder : List ℕ → DiskName → List ℕ
disk_folder folder (Task n) = task_folder folder n
disk_folder folder (Stream system stream) = stream_folder folder system stream

-- the entered folder by a path that can be opened: `./` where its path is empty
abbrev pub entered_folder : List ℕ → List ℕ
entered_folder folder = (if length folder == 0 then 46 ∷ 47 ∷ [] else folder)

-- the folders above a disk's, from the entered one on
abbrev pub folders_above : List ℕ → DiskName → List (List ℕ)
folders_above folder (Task n) = entered_folder folder ∷ tasks_folder folder ∷ []
folders_above folder (Stream system stream) = entered_folder folder ∷ streams_folder folder ∷ system_folder folder system ∷ []
