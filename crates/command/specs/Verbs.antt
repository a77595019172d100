-- The verbs as they stand in a line (RFC 959, section 4.1). Assumes nothing.
use Rattle.std.specs.Prelude.{ℕ, List, codes}
use Rattle.command.specs.declared.verb.Verb.{Verb}
use Rattle.command.specs.declared.verb.Verb.TheVariants.{User, Pass, Cwd, Cdup, Dele, Rmd, Mkd, Rnfr, Rnto, «Type» as SetType, Noop, Quit}

-- the word of a verb
abbrev pub word : Verb → List ℕ
word User = codes "USER"
word Pass = codes "PASS"
word Cwd = codes "CWD"
word Cdup = codes "CDUP"
word Dele = codes "DELE"
word Rmd = codes "RMD"
word Mkd = codes "MKD"
word Rnfr = codes "RNFR"
word Rnto = codes "RNTO"
word SetType = codes "TYPE"
word Noop = codes "NOOP"
word Quit = codes "QUIT"
