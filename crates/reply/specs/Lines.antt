-- The lines of a reply (RFC 959, section 4.2; RFC 2389, section 3.2). Assumes nothing.
use Rattle.std.specs.Prelude.{ℕ, ◌+◌, ◌-◌, ◌*◌, Bool, false, cond, ◌&&◌, ◌||◌, List, [], ◌∷◌, Some, None, Option, ◌==◌, nat_eq, codes}
use Rattle.std.specs.List.{starts_with}
use Rattle.text.specs.Ascii.{digit}
use Rattle.reply.specs.declared.reply.Rule.{Rule}
use Rattle.reply.specs.declared.reply.Rule.TheVariants.{Usual, Feat}
use Rattle.reply.specs.declared.lines.Last.{Last}
use Rattle.reply.specs.declared.lines.Last.TheVariants.{Deciding, Features}

-- the number that three digits write
abbrev pub code_of : ℕ → ℕ → ℕ → ℕ
code_of a b c = (a - 48) * 100 + (b - 48) * 10 + (c - 48)

-- the code of a line that decides: its first four bytes are three digits and a space
abbrev pub deciding : List ℕ → Option ℕ
deciding [] = None
deciding (_ ∷ []) = None
deciding (_ ∷ _ ∷ []) = None
deciding (_ ∷ _ ∷ _ ∷ []) = None
deciding (a ∷ b ∷ c ∷ d ∷ _) = cond (digit a && (digit b && (digit c && d == 32))) (Some (code_of a b c)) None

-- whether a first line is well begun: it has five bytes and starts with three digits and a space or a hyphen
abbrev pub begun : List ℕ → Bool
begun [] = false
begun (_ ∷ []) = false
begun (_ ∷ _ ∷ []) = false
begun (_ ∷ _ ∷ _ ∷ []) = false
begun (_ ∷ _ ∷ _ ∷ _ ∷ []) = false
begun (a ∷ b ∷ c ∷ d ∷ _ ∷ _) = digit a && (digit b && (digit c && (d == 32 || d == 45)))

-- whether a first line opens a list of features
abbrev pub opens_features : List ℕ → Bool
opens_features l = starts_with nat_eq l (codes "211-")

-- the code of a line that closes a list of features
abbrev pub closing : List ℕ → Option ℕ
closing l = cond (starts_with nat_eq l (codes "211 ")) (Some 211) None

-- which line is the last: a reply to FEAT that begins `211-` ends with the first line that begins `211 `, any other reply
-- with the first line that decides
abbrev pub last_of : Rule → List ℕ → Last
last_of Usual first = Deciding
last_of Feat first = cond (opens_features first) Features Deciding

-- which line is the last, where the first line is well begun
abbrev pub settled : Rule → List ℕ → Option Last
settled rule first = cond (begun first) (Some (last_of rule first)) None

-- the code of a line that is the last
abbrev pub ender : Last → List ℕ → Option ℕ
ender Deciding l = deciding l
ender Features l = closing l

-- where a line stands: first, in a reply that ends by a rule; or later, where the first line has settled how it ends
pub data Place : Type 0 where
  at_first : Rule → Place
  at_later : Last → Place

-- what a whole line says of its reply: it is ill begun, it ends with a code, or it goes on
pub data Judged : Type 0 where
  ill_begins : Judged
  it_ends : ℕ → Judged
  it_goes_on : Last → Judged

-- what a line says by the code that it gives if it is the last
abbrev pub said : Last → Option ℕ → Judged
said last None = it_goes_on last
said last (Some code) = it_ends code

-- what a line says, where it is settled which one is the last
abbrev pub judge_by : Last → List ℕ → Judged
judge_by last l = said last (ender last l)

-- what a line says: a first line must be well begun, and settles which one is the last
abbrev pub judge : Place → List ℕ → Judged
judge (at_first rule) l = cond (begun l) (judge_by (last_of rule l) l) ill_begins
judge (at_later last) l = judge_by last l
