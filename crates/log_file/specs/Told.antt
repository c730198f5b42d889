-- What calls do to the bytes of a log, where the log tells them.
use Rattle.std.specs.Prelude.{◌≡◌, ◌⊎◌, ◌++◌, ℕ, List, take, Option, Some, None, option_map, ⊤}
use Rattle.stab_base.specs.Gain.{SomePrefix}
use Rattle.log_file.specs.Disk.{Disk, IsFront}

-- with these bytes behind
abbrev pub appended : List ℕ → Disk → Disk
appended bytes disk = record disk { seen = disk.seen ++ bytes }

-- with all synced
abbrev pub synced : Disk → Disk
synced disk = record { seen = disk.seen; firm = disk.seen }

-- the bytes up to a length
abbrev pub cut_to : ℕ → Disk → Disk
cut_to length disk = record { seen = take length disk.seen; firm = take length disk.firm }

-- told bytes grow by these, and bytes that weren't told stay so
abbrev pub Appends : Option Disk → Option Disk → List ℕ → Type 0
Appends old new bytes = new ≡ option_map (appended bytes) old

-- told bytes grow by a front of the piece
abbrev pub AppendsFront : Option Disk → Option Disk → List ℕ → Type 0
AppendsFront old new piece = SomePrefix (Appends old new) piece

-- all told bytes are synced
abbrev pub Syncs : Option Disk → Option Disk → Type 0
Syncs old new = new ≡ option_map synced old

-- the same bytes are seen, and no fewer are synced
pub record StaysFirm (old new : Disk) : Type 0 where
  pub seen : new.seen ≡ old.seen
  pub more : IsFront old.firm new.firm
  pub front : IsFront old.firm old.seen → IsFront new.firm new.seen

abbrev pub SyncsFront : Option Disk → Option Disk → Type 0
SyncsFront None None = ⊤
SyncsFront None (Some new) = ⊥
SyncsFront (Some old) None = ⊥
SyncsFront (Some old) (Some new) = StaysFirm old new

-- told bytes are those up to a length
abbrev pub Cuts : Option Disk → Option Disk → ℕ → Type 0
Cuts old new length = new ≡ option_map (cut_to length) old

abbrev pub MayCut : Option Disk → Option Disk → ℕ → Type 0
MayCut old new length = (new ≡ old) ⊎ Cuts old new length
