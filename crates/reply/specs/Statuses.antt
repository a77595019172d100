-- Reply codes that mean something (RFC 959, section 4.2). Assumes nothing.
use Rattle.std.specs.Prelude.{ℕ, Bool, ◌&&◌, List, ◌==◌, nat_le}
use Rattle.std.specs.List.{list_any}
use Rattle.reply.specs.declared.status.Status.{Status}
use Rattle.reply.specs.declared.status.Status.TheVariants.{CommandOk, Ready, Closing, LoggedIn, RequestedFileActionOk, PathCreated, NeedPassword, RequestFilePending}

-- the code of each status
abbrev pub status_code : Status → ℕ
status_code CommandOk = 200
status_code Ready = 220
status_code Closing = 221
status_code LoggedIn = 230
status_code RequestedFileActionOk = 250
status_code PathCreated = 257
status_code NeedPassword = 331
status_code RequestFilePending = 350

-- whether a code is one of those expected
abbrev pub expects : List Status → ℕ → Bool
expects expected c = list_any (λ s. status_code s == c) expected

-- a positive preliminary reply, 100 to 199: another reply is to follow
abbrev pub preliminary : ℕ → Bool
preliminary c = nat_le 100 c && nat_le c 199
