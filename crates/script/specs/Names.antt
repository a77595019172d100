-- The words that a line may begin with. Assumes nothing.
use Rattle.std.specs.Prelude.{ℕ, List, [], ◌∷◌, codes, Option}
use Rattle.script.specs.Choices.{by_table}
use Rattle.script.specs.declared.name.CallName.{CallName}
use Rattle.script.specs.declared.name.CallName.TheVariants.{Greet, Login, Cwd, Cdup, Dele, Rmd, Mkd, Noop, Quit, Rename, TransferType, Resume}
use Rattle.script.specs.declared.name.SettingName.{SettingName}
use Rattle.script.specs.declared.name.SettingName.TheVariants.{Mode, Nat, Peer, Callers, Limit, Encoding, Room, Ending, Fill}

-- The settings by their names.
abbrev pub setting_name_of : List ℕ → Option SettingName
setting_name_of w =
    by_table
    ((codes "mode", Mode)
    ∷ ((codes "nat", Nat)
    ∷ ((codes "peer", Peer)
    ∷ ((codes "callers", Callers)
    ∷ ((codes "limit", Limit)
    ∷ ((codes "encoding", Encoding) ∷ ((codes "room", Room) ∷ ((codes "ending", Ending) ∷ ((codes "fill", Fill) ∷ [])))))))))
    w

-- The calls by their names.
abbrev pub call_name_of : List ℕ → Option CallName
call_name_of w =
    by_table
    ((codes "greet", Greet)
    ∷ ((codes "login", Login)
    ∷ ((codes "cwd", Cwd)
    ∷ ((codes "cdup", Cdup)
    ∷ ((codes "dele", Dele)
    ∷ ((codes "rmd", Rmd)
    ∷ ((codes "mkd", Mkd)
    ∷ ((codes "noop", Noop)
    ∷ ((codes "quit", Quit)
    ∷ ((codes "rename", Rename) ∷ ((codes "type", TransferType) ∷ ((codes "resume", Resume) ∷ []))))))))))))
    w
