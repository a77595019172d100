-- Some replies and what is read of them. Assumes nothing.
use Rattle.std.specs.Prelude.{◌≡◌, ℕ, List, [], ◌∷◌, ◌++◌, Ok, codes, Result}
use Rattle.link.specs.declared.wire.Ending.TheVariants.{Closed}
use Rattle.reply.specs.declared.reply.Reply.{Reply}
use Rattle.reply.specs.declared.reply.Rule.TheVariants.{Usual}
use Rattle.reply.specs.Replies.{Unread, reply, refused}

-- a text with CR LF behind it, and then some bytes
abbrev pub ended : List ℕ → List ℕ → List ℕ
ended text more = text ++ 13 ∷ 10 ∷ more

-- what is read of some bytes before the link closes, with a limit of 512
abbrev pub got : List ℕ → Result Reply Unread
got bs = (reply Usual 512 Closed bs).got

-- `220 hi` is a reply; a first line without space or hyphen behind its digits, one of four bytes, and one with another byte
-- for a digit are ill begun; and a line without its end is not whole when the link closes
abbrev pub Samples : Type 0
Samples =
    (got (ended (codes "220 hi") []) ≡ Ok (record { code = 220; length = 8 }))
    × (refused (got (ended (codes "220") (ended (codes "220 a") []))) ≡ 16)
    × (refused (got (codes "220" ++ 10 ∷ [])) ≡ 16)
    × (refused (got (ended (codes "+12 x") [])) ≡ 16)
    × (refused (got (codes "200 y")) ≡ 13)
